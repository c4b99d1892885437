-- The same laws, their arguments found from what they are about.
use Rattle.std.proofs.Common.{◌≡◌, ℕ, ◌+◌, Bool, true, ◌&&◌, [], ◌++◌, length}
use Rattle.vx_format.specs.Numbers.{Bytes}
use Rattle.vx_format.specs.Reading.{Reading, ◌>>=◌, give, here, check}
use Rattle.vx_format.proofs.Spelled.{IsSpelled, Any, after, given, retested}
use Rattle.vx_format.proofs.Parts.{checked, placed}

-- a part that is read, and what follows
pub part : {A C : Type 0} {place : ℕ} {spellA : A → Bytes} {fitsA : A → Bool} {readA : Reading A} (first : C → A) {spell : C → Bytes} {fits : C → Bool}
    {Meant : C → Type 0} {next : A → Reading C}
    → IsSpelled place spellA fitsA Any readA
    → ((a : A) → fitsA a ≡ true → IsSpelled (place + length (spellA a)) spell fits (λ c. (first c ≡ a) × Meant c) (next a))
    → IsSpelled place (λ c. spellA (first c) ++ spell c) (λ c. fitsA (first c) && fits c) Meant (readA >>= next)
part first law next = after _ _ _ _ _ first _ _ _ _ law (λ c m. tt) (λ a fit m. next a fit)

-- a list of so many, as was read before
pub counted : {A C : Type 0} {place : ℕ} {spellA : A → Bytes} {fitsA : A → Bool} {MeantA : A → Type 0} {readA : Reading A} (first : C → A) {spell : C → Bytes}
    {fits : C → Bool} {Meant : C → Type 0} {next : A → Reading C}
    → IsSpelled place spellA fitsA MeantA readA → ((c : C) → Meant c → MeantA (first c))
    → ((a : A) → fitsA a ≡ true → MeantA a → IsSpelled (place + length (spellA a)) spell fits (λ c. (first c ≡ a) × Meant c) (next a))
    → IsSpelled place (λ c. spellA (first c) ++ spell c) (λ c. fitsA (first c) && fits c) Meant (readA >>= next)
counted first law link next = after _ _ _ _ _ first _ _ _ _ law link next

pub made : {C : Type 0} {place : ℕ} (x : C) {Meant : C → Type 0} → Meant x → ((c : C) → Meant c → c ≡ x) → IsSpelled place (λ c. []) (λ c. true) Meant (give x)
made x here only = given _ x _ here only

-- a test of what was read, which some place has
pub tested : {C : Type 0} {place : ℕ} {spell : C → Bytes} (test : C → Bool) {fits : C → Bool} {Meant : C → Type 0} (b : Bool) (at : ℕ) (next : Unit {0}
    → Reading C)
    → ((c : C) → Meant c → test c ≡ b) → IsSpelled place spell fits Meant (next tt) → IsSpelled place spell (λ c. test c && fits c) Meant (check b at >>= next)
tested test b at next same law = checked _ _ test _ _ b at next same (λ ok. law)

pub from_here : {C : Type 0} {place : ℕ} {spell : C → Bytes} {fits : C → Bool} {Meant : C → Type 0} (next : ℕ → Reading C)
    → IsSpelled place spell fits Meant (next place) → IsSpelled place spell fits Meant (here >>= next)
from_here next law = placed _ _ _ _ next law

-- the tests in other words
pub worded : {C : Type 0} {place : ℕ} {spell : C → Bytes} (fits fine : C → Bool) {Meant : C → Type 0} {read : Reading C}
    → ((c : C) → Meant c → fine c ≡ fits c) → IsSpelled place spell fits Meant read → IsSpelled place spell fine Meant read
worded fits fine same law = retested _ _ fits fine _ _ law same
