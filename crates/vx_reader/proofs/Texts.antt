-- Strings, byte by byte.
use Rattle.std.proofs.Common.{◌≡◌, ℕ, suc, ◌+◌, ◌<◌, ◌≤◌, Bool, true, false, List, [], ◌∷◌, ◌++◌, length, drop, get_or, Option, Some, None, nat_le, refl, sym, ◌∙◌, ap, arith, append-nil, append_assoc, length-append, zero-add}
use Rattle.std.proofs.lemmas.Bool.{le-leb, lt-leb}
use Rattle.std.proofs.lemmas.List.{drop_more, drop_all}
use Rattle.std.specs.Option.{option_map}
use Rattle.vx_reader.specs.declared.token.Quoted.{Quoted}
use Rattle.vx_syntax.specs.declared.token.TheConstants.{TEXT_BYTES}
use Rattle.vx_reader.specs.declared.text.StringByte.{StringByte}
use Rattle.vx_reader.specs.declared.text.StringByte.TheVariants.{Closing, Backslash, Held, Wrong}
use Rattle.vx_reader.specs.Strings.{string_byte, behind_backslash, holding, quoted_behind, short, quoted}

-- a string, behind n bytes that give it these
abbrev pub behind : List ℕ → ℕ → Option Quoted → Option Quoted
behind value n string = option_map (λ q. record { value = value ++ q.value; len = n + q.len }) string

-- what is read of a string: the bytes before n give it these, and they are not too many
pub record Halfway (bytes value : List ℕ) (n : ℕ) (escaped : Bool) : Type 0 where
  pub same : short (behind value n (quoted_behind escaped (drop n bytes))) ≡ quoted bytes
  pub few : length value ≤ TEXT_BYTES

-- what a byte gives, by what it is
abbrev pub by_byte : StringByte → ℕ → List ℕ → Option Quoted
by_byte Closing b bs = Some (record { value = []; len = 1 })
by_byte Backslash b bs = behind_backslash (quoted_behind true bs)
by_byte Held b bs = holding b (quoted_behind false bs)
by_byte Wrong b bs = None

pub by_byte_is : (escaped : Bool) (b : ℕ) (bs : List ℕ) (is : StringByte) → string_byte escaped b ≡ is → quoted_behind escaped (b ∷ bs) ≡ by_byte is b bs
by_byte_is escaped b bs Closing e = rw (e, quoted_behind) refl
by_byte_is escaped b bs Backslash e = rw (e, quoted_behind) refl
by_byte_is escaped b bs Held e = rw (e, quoted_behind) refl
by_byte_is escaped b bs Wrong e = rw (e, quoted_behind) refl

at_byte : (bytes : List ℕ) (n b : ℕ) (escaped : Bool) (is : StringByte) → n < length bytes → b ≡ get_or bytes n b → string_byte escaped b ≡ is →
    quoted_behind escaped (drop n bytes) ≡ by_byte is b (drop (n + 1) bytes)
at_byte bytes n b escaped is within at e =
    let rest : drop n bytes ≡ b ∷ drop (n + 1) bytes = drop_more bytes n b within ∙ ap (λ x. x ∷ drop (n + 1) bytes) (sym at) in
    ap (quoted_behind escaped) rest ∙ by_byte_is escaped b (drop (n + 1) bytes) is e

behind_none : (string : Option Quoted) → behind [] 0 string ≡ string
behind_none None = refl
behind_none (Some q) = ap (λ n. Some (record { value = q.value; len = n })) (zero-add q.len)

behind_more : (value : List ℕ) (n : ℕ) (string : Option Quoted) → behind value n (behind_backslash string) ≡ behind value (n + 1) string
behind_more value n None = refl
behind_more value n (Some q) = let e : n + suc q.len ≡ n + 1 + q.len = omega arith in ap (λ len. Some (record { value = value ++ q.value; len = len })) e

behind_held : (value : List ℕ) (n b : ℕ) (string : Option Quoted) → behind value n (holding b string) ≡ behind (value ++ b ∷ []) (n + 1) string
behind_held value n b None = refl
behind_held value n b (Some q) =
    let e : n + suc q.len ≡ n + 1 + q.len = omega arith in
    rw (e, append_assoc value (b ∷ []) q.value) refl

pub begins : (bytes : List ℕ) → Halfway bytes [] 0 false
unfolding quoted
begins bytes = record { same = ap short (behind_none (quoted_behind false bytes)); few = omega arith }

pub backslash_read : (bytes value : List ℕ) (n b : ℕ) (escaped : Bool) → n < length bytes → b ≡ get_or bytes n b → string_byte escaped b ≡ Backslash →
    Halfway bytes value n escaped → Halfway bytes value (n + 1) true
backslash_read bytes value n b escaped within at is h = record {
  same = ap short (sym (behind_more value n (quoted_behind true (drop (n + 1) bytes))) ∙ ap (behind value n) (sym (at_byte bytes n b escaped Backslash within at is))) ∙ h.same;
  few = h.few;
}

pub held_read : (bytes value : List ℕ) (n b : ℕ) (escaped : Bool) → n < length bytes → b ≡ get_or bytes n b → string_byte escaped b ≡ Held → length value < TEXT_BYTES →
    Halfway bytes value n escaped → Halfway bytes (value ++ b ∷ []) (n + 1) false
held_read bytes value n b escaped within at is room h = record {
  same = ap short (sym (behind_held value n b (quoted_behind false (drop (n + 1) bytes))) ∙ ap (behind value n) (sym (at_byte bytes n b escaped Held within at is))) ∙ h.same;
  few = rw length-append (omega arith);
}

pub closed : (bytes value : List ℕ) (n b : ℕ) (escaped : Bool) → n < length bytes → b ≡ get_or bytes n b → string_byte escaped b ≡ Closing →
    Halfway bytes value n escaped → Some (record { value = value; len = n + 1 }) ≡ quoted bytes
closed bytes value n b escaped within at is h =
    let e : short (behind value n (Some (record { value = []; len = 1 }))) ≡ quoted bytes =
    ap (λ s. short (behind value n s)) (sym (at_byte bytes n b escaped Closing within at is)) ∙ h.same in
    let room : nat_le (length value) TEXT_BYTES ≡ true = le-leb (length value) TEXT_BYTES h.few in
    rw (append-nil, room) at e

too_long : (value : List ℕ) (n b : ℕ) (string : Option Quoted) → length value ≡ TEXT_BYTES → short (behind value n (holding b string)) ≡ None
too_long value n b None full = refl
too_long value n b (Some q) full =
    let long : nat_le (length (value ++ b ∷ q.value)) TEXT_BYTES ≡ false = lt-leb _ _ (rw length-append (omega arith)) in
    rw long refl

pub one_too_many : (bytes value : List ℕ) (n b : ℕ) (escaped : Bool) → n < length bytes → b ≡ get_or bytes n b → string_byte escaped b ≡ Held → (length value < TEXT_BYTES → ⊥) →
    Halfway bytes value n escaped → None ≡ quoted bytes
one_too_many bytes value n b escaped within at is full h =
    sym (ap (λ s. short (behind value n s)) (at_byte bytes n b escaped Held within at is) ∙ too_long value n b (quoted_behind false (drop (n + 1) bytes)) (omega (arith, h.few, full))) ∙ h.same

pub no_string : (bytes value : List ℕ) (n b : ℕ) (escaped : Bool) → n < length bytes → b ≡ get_or bytes n b → string_byte escaped b ≡ Wrong →
    Halfway bytes value n escaped → None ≡ quoted bytes
no_string bytes value n b escaped within at is h = ap (λ s. short (behind value n s)) (sym (at_byte bytes n b escaped Wrong within at is)) ∙ h.same

pub never_closed : (bytes value : List ℕ) (n : ℕ) (escaped : Bool) → length bytes ≤ n → Halfway bytes value n escaped → None ≡ quoted bytes
never_closed bytes value n escaped over h = ap (λ bs. short (behind value n (quoted_behind escaped bs))) (sym (drop_all n bytes over)) ∙ h.same
