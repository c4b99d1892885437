-- Reading parts one after another, as a loop does.
use Rattle.std.proofs.Common.{◌≡◌, ℕ, suc, ◌-◌, ◌+◌, ◌<◌, List, [], ◌∷◌, ◌++◌, Result, Ok, Err, refl, sym, ap, ◌∙◌, append_assoc, arith}
use Rattle.vx_format.specs.declared.fault.FormatFault.{FormatFault}
use Rattle.vx_format.specs.Reading.{Cursor, Reading, passed, give, listed}
use Rattle.vx_image.specs.declared.fault.LoadFault.{LoadFault}
use Rattle.vx_image.specs.declared.fault.LoadFault.TheVariants as load
use Rattle.vx_image.specs.Gives.{Fails}

-- what was read before, and what is still read
abbrev pub with_front : {A : Type 0} → List A → Result (List A × Cursor) FormatFault → Result (List A × Cursor) FormatFault
with_front front (Ok x) = Ok (front ++ x.0, x.1)
with_front front (Err fault) = Err fault

pub regroup : {A : Type 0} (front : List A) (x : A) (r : Result (List A × Cursor) FormatFault)
    → with_front front (passed r (λ rest. give (x ∷ rest))) ≡ with_front (front ++ x ∷ []) r
regroup front x (Ok v) = ap (λ (l : List _). Ok (l, v.1)) (simp append_assoc)
regroup front x (Err fault) = refl

pub goes_on : {A : Type 0} (read : ℕ → Reading A) (front : List A) (count i : ℕ) (at after : Cursor) (x : A)
    (total : Result (List A × Cursor) FormatFault) → i < count → read i at ≡ Ok (x, after)
    → with_front front (listed (count - i) i read at) ≡ total → with_front (front ++ x ∷ []) (listed (count - (i + 1)) (i + 1) read after) ≡ total
goes_on read front count i at after x total lt h so_far =
    let k : count - i ≡ suc (count - (i + 1)) = omega arith in
    let next : i + 1 ≡ suc i = omega arith in
    let one : with_front front (listed (count - i) i read at) ≡ with_front (front ++ x ∷ []) (listed (count - (i + 1)) (i + 1) read after) =
    rw (k, h, next) (regroup front x (listed (count - suc i) (suc i) read after)) in
    sym one ∙ so_far

-- a fault of one reading is that of another
pub carried : {X Y : Type 0} (error : LoadFault) (part : Result X FormatFault) (whole : Result Y FormatFault)
    → ((fault : FormatFault) → part ≡ Err fault → whole ≡ Err fault)
    → Fails error part → Fails error whole
carried load.OutOfMemory part whole on h = tt
carried (load.Short place) part whole on h = on _ h
carried load.BadMagic part whole on h = on _ h
carried (load.Version byte) part whole on h = on _ h
carried (load.BadIndex place) part whole on h = on _ h
carried (load.Trailing place) part whole on h = on _ h

pub ends : {A : Type 0} (error : LoadFault) (read : ℕ → Reading A) (front : List A) (count i : ℕ) (at : Cursor)
    (total : Result (List A × Cursor) FormatFault) → i < count → Fails error (read i at)
    → with_front front (listed (count - i) i read at) ≡ total → Fails error total
ends error read front count i at total lt h so_far = carried error (read i at) total stays h
  where
    stays : (fault : FormatFault) → read i at ≡ Err fault → total ≡ Err fault
    stays fault e =
        let k : count - i ≡ suc (count - (i + 1)) = omega arith in
        let one : with_front front (listed (count - i) i read at) ≡ Err fault = rw (k, e) refl in
        sym so_far ∙ one
