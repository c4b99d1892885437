-- What a sink holds between two writes of one `write_all`.
use Rattle.std.proofs.Common.{◌≡◌, ℕ, ◌-◌, List, ◌++◌, length, take, drop, Option, None, Some, ap, ◌∙◌, append_assoc}
use Rattle.std.proofs.lemmas.List.{take-append-drop, take_rest}
use Rattle.std.specs.Io.KnownBytes.{Appends}

-- the sink grew by the bytes that are not in the rest
pub record HasSent (before after : Option (List ℕ)) (bytes rest : List ℕ) : Type 0 where
  pub sent : List ℕ
  pub parts : sent ++ rest ≡ bytes
  pub grown : Appends before after sent

-- what grows twice grows by both pieces
pub Appends-append : (a b c : Option (List ℕ)) (p q : List ℕ)
    → Appends a b p → Appends b c q → Appends a c (p ++ q)
Appends-append None b c p q first second = tt
Appends-append (Some xs) None c p q first second = absurd first
Appends-append (Some xs) (Some ys) None p q first second = absurd second
Appends-append (Some xs) (Some ys) (Some zs) p q first second =
    second ∙ (ap (λ ws. ws ++ q) first ∙ append_assoc xs p q)

-- a write that takes n bytes of the rest leaves the rest without them
pub sent_more : (before mid after : Option (List ℕ)) (bytes rest : List ℕ) (n : ℕ)
    → HasSent before mid bytes rest → Appends mid after (take n rest)
    → HasSent before after bytes (take (length rest - n) (drop n rest))
sent_more before mid after bytes rest n had taken = rw take_rest (record {
  sent = had.sent ++ take n rest;
  parts = rw (append_assoc, take-append-drop) had.parts;
  grown = Appends-append before mid after had.sent (take n rest) had.grown taken;
})
