-- What is captured, one local after the other.
use Rattle.std.proofs.Common.{◌≡◌, ℕ, ◌+◌, ◌<◌, List, [], ◌∷◌, ◌++◌, length, drop, get_or, Option, Some, None, true, false, refl, sym, ap, ◌∙◌, append_assoc}
use Rattle.std.specs.Prelude.{slice_get}
use Rattle.std.proofs.lemmas.List.{drop_more}
use Rattle.std.proofs.Math.Seq.{drop-append_seam}
use Rattle.vx_lists.proofs.Each.{all_at, all_pushed}
use Rattle.vx_machine.specs.declared.word.Local.{Local}
use Rattle.vx_machine.specs.declared.word.Local.TheVariants as h
use Rattle.vx_machine.specs.Meaning.{captured_one, captured_of, is_unset, prefixed}
use Rattle.vx_machine.specs.Sound.{IsLocalSound, AreLocalsSound}

-- So many of the locals are captured behind those of before, which are sound where these and the locals are.
pub record Captured (xs : List ℕ) (locals before : List Local) (i : ℕ) (now : List Local) : Type 0 where
  pub added : now ≡ before ++ drop (length before) now
  pub left : captured_of xs locals ≡ prefixed (drop (length before) now) (captured_of (drop i xs) locals)
  pub sound : (texts : ℕ) → AreLocalsSound texts locals → AreLocalsSound texts before → AreLocalsSound texts now

one_on : (before : List Local) (held : Local) (found : Option (List Local)) → is_unset held ≡ false
    → prefixed before (captured_one (Some held) found) ≡ prefixed (before ++ held ∷ []) found
one_on before h.Unset found is = absurd cc
one_on before (h.Plain word) None is = refl
one_on before (h.Plain word) (Some rest) is = ap (λ (xs : List Local). Some xs) (sym (append_assoc before (h.Plain word ∷ []) rest))
one_on before (h.Cell place) None is = refl
one_on before (h.Cell place) (Some rest) is = ap (λ (xs : List Local). Some xs) (sym (append_assoc before (h.Cell place ∷ []) rest))

none_on : (held : Local) (found : Option (List Local)) → is_unset held ≡ true → captured_one (Some held) found ≡ None
none_on h.Unset found is = refl
none_on (h.Plain word) found is = absurd cc
none_on (h.Cell place) found is = absurd cc

-- nothing is captured where a local is unset
pub captured_none : (xs : List ℕ) (locals before now : List Local) (i : ℕ) (held : Local) → Captured xs locals before i now → i < length xs
    → Some held ≡ slice_get locals (get_or xs i 0) → is_unset held ≡ true → captured_of xs locals ≡ None
captured_none xs locals before now i held was lt at is =
    was.left
    ∙ ap (λ (ys : List ℕ). prefixed (drop (length before) now) (captured_of ys locals)) (drop_more xs i 0 lt)
    ∙ ap (λ (found : Option Local). prefixed (drop (length before) now) (captured_one found (captured_of (drop (i + 1) xs) locals))) (sym at)
    ∙ ap (prefixed (drop (length before) now)) (none_on held (captured_of (drop (i + 1) xs) locals) is)

pub captured_on : (xs : List ℕ) (locals before old new : List Local) (i : ℕ) (held : Local) → Captured xs locals before i old → i < length xs
    → new ≡ old ++ held ∷ [] → Some held ≡ slice_get locals (get_or xs i 0) → is_unset held ≡ false → Captured xs locals before (i + 1) new
captured_on xs locals before old new i held was lt e at is =
    let more : List Local = drop (length before) old ++ held ∷ [] in
    let all : new ≡ before ++ more = e ∙ ap (λ (ys : List Local). ys ++ held ∷ []) was.added ∙ append_assoc before (drop (length before) old) (held ∷ []) in
    let behind : drop (length before) new ≡ more = ap (drop (length before)) all ∙ drop-append_seam before more in
    record {
      added = all ∙ ap (λ (ys : List Local). before ++ ys) (sym behind);
      left = was.left
          ∙ ap (λ (ys : List ℕ). prefixed (drop (length before) old) (captured_of ys locals)) (drop_more xs i 0 lt)
          ∙ ap (λ (found : Option Local). prefixed (drop (length before) old) (captured_one found (captured_of (drop (i + 1) xs) locals))) (sym at)
          ∙ one_on (drop (length before) old) held (captured_of (drop (i + 1) xs) locals) is
          ∙ ap (λ (ys : List Local). prefixed ys (captured_of (drop (i + 1) xs) locals)) (sym behind);
      sound = λ texts own first.
          rw e (all_pushed (IsLocalSound texts) old held (was.sound texts own first) (all_at (IsLocalSound texts) locals (get_or xs i 0) held (sym at) own));
    }
