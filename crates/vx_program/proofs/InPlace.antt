-- What a change makes of the declarations, at the place of its key.
use Rattle.std.proofs.Common.{◌≡◌, ℕ, suc, ◌+◌, ◌-◌, List, ◌∷◌, ◌++◌, length, take, drop, set, remove, false, if◌then◌else◌, Option, Some, None, is_some, Ok, sym, ap, ◌∙◌, arith}
use Rattle.std.proofs.lemmas.List.{set_split, take_all, length-drop}
use Rattle.vx_lists.specs.Members.{IsIn}
use Rattle.vx_names.specs.declared.key.DeclKey.{DeclKey}
use Rattle.vx_syntax.specs.declared.decl.Decl.{Decl}
use Rattle.vx_syntax.specs.Keys.{key_of}
use Rattle.vx_program.specs.declared.edit.Change.TheVariants.{Add, Put, Drop}
use Rattle.vx_program.specs.declared.edit.EditFault.{EditFault}
use Rattle.vx_program.specs.declared.edit.EditFault.TheVariants.{Missing}
use Rattle.vx_program.specs.Program.{has_key, find}
use Rattle.vx_program.specs.Apply.{with_decl, replaced, or_else, reserved_fault, exists_fault, gained, missing_fault, in_use_fault, limit_fault, changed, IsFaultOf}
use Rattle.vx_program.specs.Lookups.{IsPlaceOf, IsFound, before_add, named_fault, before_put, before_drop}
use Rattle.vx_program.proofs.Sought.{inserted, replaced_found, find_none, without_found}
use Rattle.vx_program.proofs.Orders.{or_assoc, add_limited, add_made, put_limited, put_made, drop_made}

-- the rest of the declarations, as it is cut from them
pub cut_off : (program : List Decl) (new : Decl) (place from : ℕ) →
    limit_fault (take place program ++ new ∷ take (length program - from) (drop from program)) new
    ≡ limit_fault (take place program ++ new ∷ drop from program) new
cut_off program new place from =
    let rest : take (length program - from) (drop from program) ≡ drop from program =
    take_all (length program - from) (drop from program) (omega (arith, length-drop from program)) in
    ap (λ behind. limit_fault (take place program ++ new ∷ behind) new) rest

-- an addition without a fault but of limits, at the place of its key
pub record Adding (program : List Decl) (new : Decl) (place : ℕ) : Type 0 where
  pub at : IsPlaceOf program (key_of new) place
  pub clean : None ≡ before_add program new

module _ {program : List Decl} {new : Decl} {place : ℕ} (is : Adding program new place) where
  pub add_limited_there : (fault : EditFault) → Some fault ≡ limit_fault (take place program ++ new ∷ drop place program) new →
      IsFaultOf (changed program (Add new)) fault
  add_limited_there fault h = add_limited program new fault is.clean (h ∙ ap (λ z. limit_fault z new) (sym (inserted program new place is.at)))

  pub add_made_there : None ≡ limit_fault (take place program ++ new ∷ drop place program) new →
      changed program (Add new) ≡ Ok (take place program ++ new ∷ drop place program)
  add_made_there h =
      let same : with_decl program new ≡ take place program ++ new ∷ drop place program = inserted program new place is.at in
      add_made program new is.clean (h ∙ ap (λ z. limit_fault z new) (sym same)) ∙ ap Ok same

-- a put without a fault but of limits, and where the declaration of its key stands
pub record Putting (program : List Decl) (new : Decl) (place : ℕ) : Type 0 where
  pub found : IsFound program (key_of new) place
  pub clean : None ≡ before_put program new

module _ {program : List Decl} {new : Decl} {place : ℕ} (is : Putting program new place) where
  replaced_there : replaced program new ≡ take place program ++ new ∷ drop (place + 1) program
  replaced_there =
      let next : suc place ≡ place + 1 = omega arith in
      replaced_found program new place is.found ∙ ap (λ n. take place program ++ new ∷ drop n program) next

  pub put_limited_there : (fault : EditFault) → Some fault ≡ limit_fault (take place program ++ new ∷ drop (place + 1) program) new →
      IsFaultOf (changed program (Put new)) fault
  put_limited_there fault h = put_limited program new fault is.clean (h ∙ ap (λ z. limit_fault z new) (sym replaced_there))

  pub put_made_there : None ≡ limit_fault (take place program ++ new ∷ drop (place + 1) program) new → changed program (Put new) ≡ Ok (set program place new)
  put_made_there h =
      put_made program new is.clean (h ∙ ap (λ z. limit_fault z new) (sym replaced_there))
      ∙ ap Ok (replaced_found program new place is.found ∙ sym (set_split program place new is.found.inside))

-- what is missing has the fault of it
absent : (program : List Decl) (key : DeclKey) → ((decl : Decl) → IsIn decl program → has_key key decl ≡ false) → missing_fault program key ≡ Some (Missing key)
absent program key none = ap (λ o. if is_some o then None else Some (Missing key)) (find_none program key none)

not_absent : (a b : Option EditFault) (fault : EditFault) → None ≡ or_else a (or_else (Some fault) b) → ⊥
not_absent None b fault h = cc
not_absent (Some x) b fault h = cc

-- so where there is no fault, none is missing
pub put_found : (program : List Decl) (new : Decl) → None ≡ before_put program new → ((decl : Decl) → IsIn decl program → has_key (key_of new) decl ≡ false) → ⊥
put_found program new clean none =
    let keys = gained (find program (key_of new)) new in
    let front = or_else (reserved_fault (key_of new)) (exists_fault program keys) in
    not_absent front (named_fault program new) (Missing (key_of new))
    (clean ∙ sym (or_assoc (reserved_fault (key_of new)) (exists_fault program keys) _)
    ∙ ap (λ z. or_else front (or_else z (named_fault program new))) (absent program (key_of new) none))

pub drop_found : (program : List Decl) (key : DeclKey) → None ≡ before_drop program key → ((decl : Decl) → IsIn decl program → has_key key decl ≡ false) → ⊥
drop_found program key clean none =
    not_absent (reserved_fault key) (in_use_fault program key) (Missing key)
    (clean ∙ ap (λ z. or_else (reserved_fault key) (or_else z (in_use_fault program key))) (absent program key none))

-- a drop without a fault, where the declaration stands
pub drop_made_there : (program : List Decl) (key : DeclKey) (place : ℕ) → IsFound program key place → None ≡ before_drop program key →
    changed program (Drop key) ≡ Ok (remove program place)
drop_made_there program key place is clean = drop_made program key clean ∙ ap Ok (without_found program key place is)
