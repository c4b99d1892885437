-- Reading pieces up to an end, as a loop does.
use Rattle.std.proofs.Common.{◌≡◌, ℕ, suc, ◌-◌, ◌+◌, ◌<◌, false, eqb, List, [], ◌∷◌, ◌++◌, Result, Ok, Err, refl, sym, ◌∙◌, arith}
use Rattle.std.proofs.lemmas.Bool.{ne_eqb}
use Rattle.vx_format.specs.declared.fault.FormatFault.{FormatFault}
use Rattle.vx_format.specs.Reading.{Cursor, Reading, until}
use Rattle.vx_image.specs.declared.fault.LoadFault.{LoadFault}
use Rattle.vx_image.specs.Gives.{Fails}
use Rattle.vx_image.proofs.Lists.{with_front, regroup, carried}

pub goes_on : {A : Type 0} (end : ℕ) (read : ℕ → Reading A) (grown : ℕ → A → ℕ) (front : List A) (count i depth : ℕ)
    (at after : Cursor) (x : A) (total : Result (List A × Cursor) FormatFault)
    → i < count → (at.place ≡ end → ⊥) → read depth at ≡ Ok (x, after)
    → with_front front (until (count - i) end read grown depth at) ≡ total
    → with_front (front ++ x ∷ []) (until (count - (i + 1)) end read grown (grown depth x) after) ≡ total
goes_on end read grown front count i depth at after x total lt ne h so_far =
    let k : count - i ≡ suc (count - (i + 1)) = omega arith in
    let more : eqb at.place end ≡ false = ne_eqb _ _ ne in
    let one : with_front front (until (count - i) end read grown depth at) ≡ with_front (front ++ x ∷ [])
    (until (count - (i + 1)) end read grown (grown depth x) after) =
    rw (k, more, h) (regroup front x (until (count - (i + 1)) end read grown (grown depth x) after)) in
    sym one ∙ so_far

pub ends : {A : Type 0} (error : LoadFault) (end : ℕ) (read : ℕ → Reading A) (grown : ℕ → A → ℕ) (front : List A) (count i depth : ℕ)
    (at : Cursor) (total : Result (List A × Cursor) FormatFault)
    → i < count → (at.place ≡ end → ⊥) → Fails error (read depth at)
    → with_front front (until (count - i) end read grown depth at) ≡ total → Fails error total
ends error end read grown front count i depth at total lt ne h so_far = carried error (read depth at) total stays h
  where
    stays : (fault : FormatFault) → read depth at ≡ Err fault → total ≡ Err fault
    stays fault e =
        let k : count - i ≡ suc (count - (i + 1)) = omega arith in
        let more : eqb at.place end ≡ false = ne_eqb _ _ ne in
        let one : with_front front (until (count - i) end read grown depth at) ≡ Err fault = rw (k, more, e) refl in
        sym so_far ∙ one
