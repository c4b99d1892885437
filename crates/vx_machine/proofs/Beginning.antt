-- What the message that begins a run comes to.
use Rattle.std.proofs.Common.{◌≡◌, ◌∙◌, ℕ, zero, suc, ◌+◌, ◌<◌, Bool, true, false, eqb, if◌then◌else◌, List, [], ◌∷◌, ◌++◌, length, map, drop, get_or, codes}
use Rattle.std.proofs.Common.{Option, Some, None, Result, Ok, Err, IfOk, refl, sym, ap, subst, arith, append_assoc}
use Rattle.std.specs.List.{list_all}
use Rattle.std.specs.declared.alloc.AllocError.{AllocError}
use Rattle.std.specs.Prelude.{nat_lt, slice_get}
use Rattle.std.proofs.lemmas.Bool.{and_parts, eq-eqb, le-ltb, ne_eqb}
use Rattle.std.proofs.lemmas.List.{drop_more, map-append}
use Rattle.vx_model.specs.declared.value.Value.{Value}
use Rattle.vx_model.specs.declared.report.RunError.TheVariants as e
use Rattle.vx_model.specs.declared.primitives.Deed.{Deed}
use Rattle.vx_model.specs.Primitives.{counts, performed}
use Rattle.vx_tables.specs.declared.picked.Picked.{Picked}
use Rattle.vx_tables.specs.declared.picked.Picked.TheVariants as chosen
use Rattle.vx_format.specs.declared.image.Own.{Own}
use Rattle.vx_format.specs.declared.image.Slot.{Slot}
use Rattle.vx_format.specs.declared.image.Split.{Split}
use Rattle.vx_format.specs.declared.image.Row.{Row}
use Rattle.vx_format.specs.declared.image.Does.{Does}
use Rattle.vx_format.specs.declared.image.Does.TheVariants as deeds
use Rattle.vx_format.specs.declared.image.Block.{Block}
use Rattle.vx_format.specs.declared.image.Table.{Table}
use Rattle.vx_format.specs.declared.image.Image.{Image}
use Rattle.vx_compilation.specs.Activations.{Target, ToCode, ToError, ToNothing, ToPrimitive}
use Rattle.vx_compilation.specs.Machine.{Lacks, performs}
use Rattle.vx_places.specs.Dispatch.{Placed, clone_for, dispatched}
use Rattle.vx_places.specs.ImageMachine.{To, block_at, by_place, class_at, codes_of, dispatch, fresh, goes_to, main_found, opening}
use Rattle.vx_places.specs.ImageMachine.{placed, sent, target, truth, world}
use Rattle.vx_machine.specs.declared.opening.Begun.{Begun}
use Rattle.vx_machine.specs.declared.opening.Begun.TheVariants as begun
use Rattle.vx_machine.specs.declared.word.Object.{Object}
use Rattle.vx_machine.specs.Making.{slot_value}
use Rattle.vx_machine.specs.Meaning.{Texts, placed_of, things_of}
use Rattle.vx_machine.specs.Opening.{Begins, alone, reached_first}
use Rattle.vx_machine.proofs.Calling.{codes_missing, codes_there, opens}

-- ---- objects

-- an object more is the next one that is placed
pub places_one : (own : Own) (texts : Texts) (objects : List Object) (i : ℕ) (shapes : List (List Slot)) (object : Object) (d : List Slot) → i < length shapes
    → object.class ≡ i → map (slot_value texts) object.slots ≡ fresh own (get_or shapes i d)
    → things_of texts (objects ++ object ∷ []) ++ placed own (i + 1) (drop (i + 1) shapes) ≡ things_of texts objects ++ placed own i (drop i shapes)
places_one own texts objects i shapes object d lt class slots =
    let next : i + 1 ≡ suc i = omega arith in
    ap (λ (things : List Placed). things ++ placed own (i + 1) (drop (i + 1) shapes)) (map-append (placed_of texts) objects (object ∷ []))
    ∙ append_assoc (things_of texts objects) (placed_of texts object ∷ []) (placed own (i + 1) (drop (i + 1) shapes))
    ∙ ap (λ (n : ℕ). things_of texts objects ++ placed_of texts object ∷ placed own n (drop (i + 1) shapes)) next
    ∙ rw (class, slots) (ap (λ (rest : List (List Slot)). things_of texts objects ++ placed own i rest) (sym (drop_more shapes i d lt)))

-- ---- targets

-- what begins by the one target begins by another that is the same
begins_as : (image : Image) (one other : Target by_place) (begun : Begun) → other ≡ one → Begins image one begun → Begins image other begun
begins_as image one other begun same begins = subst (λ (t : Target by_place). Begins image t begun) (sym same) begins

-- what begins by a row begins by what leads to it
pub begins_at : (image : Image) (other : Target by_place) (deed : Does) (table : Table) (result : Result Begun AllocError)
    → other ≡ goes_to image (opening image).objects table [] deed
    → IfOk result (λ begun. (table : Table) → Begins image (goes_to image (opening image).objects table [] deed) begun)
    → IfOk result (λ begun. Begins image other begun)
begins_at image other deed table (Ok begun) same begins = begins_as image (goes_to image (opening image).objects table [] deed) other begun same (begins table)
begins_at image other deed table (Err error) same begins = begins

-- the objects as a run begins
abbrev at_first : Image → List Placed
at_first image = (opening image).objects

pub no_main : (image : Image) → image.main ≡ None → main_found image ≡ ToError (e.NotUnderstood (record { name = codes "main"; arity = 0 }))
no_main image none = ap (λ (main : Option ℕ). elim main as (λ m. Target by_place) [
  | Some t ↦ dispatch image (at_first image) (To t) []
  | None ↦ ToError (e.NotUnderstood (record { name = codes "main"; arity = 0 }))
]) none

main_is : (image : Image) (t : ℕ) → image.main ≡ Some t → main_found image ≡ sent image (at_first image) (slice_get image.tables t) [] None
main_is image t at = ap (λ (main : Option ℕ). elim main as (λ m. Target by_place) [
  | Some t' ↦ dispatch image (at_first image) (To t') []
  | None ↦ ToError (e.NotUnderstood (record { name = codes "main"; arity = 0 }))
]) at

pub main_missing : (image : Image) (t : ℕ) → image.main ≡ Some t → slice_get image.tables t ≡ None → main_found image ≡ ToNothing
main_missing image t at none = main_is image t at ∙ ap (λ (found : Option Table). sent image (at_first image) found [] None) none

-- what the table of the message makes of no arguments
pub main_picks : (image : Image) (t : ℕ) (table : Table) (picked : Picked) → image.main ≡ Some t → slice_get image.tables t ≡ Some table
    → picked ≡ dispatched image (at_first image) table [] None → main_found image ≡ target image (at_first image) table [] picked
main_picks image t table picked at there is =
    main_is image t at ∙ ap (λ (found : Option Table). sent image (at_first image) found [] None) there ∙
    ap (target image (at_first image) table []) (sym is)

pub row_there : (image : Image) (table : Table) (row : ℕ) (own : Row) → slice_get table.rows row ≡ Some own
    → target image (at_first image) table [] (chosen.Row row) ≡ goes_to image (at_first image) table [] own.does
row_there image table row own at = ap (λ (found : Option Row). elim found as (λ f. Target by_place) [
  | Some one ↦ goes_to image (at_first image) table [] one.does
  | None ↦ ToNothing
]) at

pub row_missing : (image : Image) (table : Table) (row : ℕ) → slice_get table.rows row ≡ None
    → target image (at_first image) table [] (chosen.Row row) ≡ ToNothing
row_missing image table row none = ap (λ (found : Option Row). elim found as (λ f. Target by_place) [
  | Some one ↦ goes_to image (at_first image) table [] one.does
  | None ↦ ToNothing
]) none

-- a row that splits wants an argument
pub no_split : (image : Image) (table : Table) (code : ℕ) (split : Split)
    → goes_to image (at_first image) table [] (deeds.Code code (Some split)) ≡ ToNothing
no_split image table code split =
    let none : nat_lt split.position 0 ≡ false = le-ltb split.position 0 (omega arith) in
    ap (λ (b : Bool). if b then ToCode (clone_for code (class_at image.own (at_first image) (slice_get [] split.position)) split.pairs) else ToNothing) none

-- each primitive wants an argument
no_count : (truths : Bool → Value) (number i : ℕ) (xs : List ℕ) → list_all (λ count. nat_lt 0 count) xs ≡ true
    → (elim (slice_get xs i) as (λ o. Option Deed) [ Some count ↦ if eqb count 0 then Some (performed truths number []) else None | None ↦ None ]) ≡ None
no_count truths number i [] all = refl
no_count truths number zero (zero ∷ xs) all = absurd cc
no_count truths number zero (suc count ∷ xs) all =
    ap (λ (b : Bool). if b then Some (performed truths number []) else None) (ne_eqb (suc count) 0 (λ same. let r : ⊥ = omega (arith, same) in r))
no_count truths number (suc i) (count ∷ xs) all =
    no_count truths number i xs (and_parts (nat_lt 0 count) (list_all (λ count. nat_lt 0 count) xs) all).1

pub no_primitive : (image : Image) (number : ℕ) → reached_first image (ToPrimitive number) ≡ Lacks
no_primitive image number =
    ap (λ (deed : Option Deed). performs (world image) (codes_of image) deed [] (opening image)) (no_count (truth image.own) number number counts refl)

-- ---- codes

pub no_code : (image : Image) (code : ℕ) → block_at image code 0 ≡ None → reached_first image (ToCode code) ≡ Lacks
no_code image code none = rw (codes_missing image code 0 none) refl

pub code_unfit : (image : Image) (code : ℕ) (block : Block) → block_at image code 0 ≡ Some block → (block.formals ≡ 0 → ⊥)
    → reached_first image (ToCode code) ≡ Lacks
code_unfit image code block at other =
    let unfit : eqb block.formals 0 ≡ false = ne_eqb _ _ other in
    rw (codes_there image code 0 block at, unfit) refl

pub code_begins : (image : Image) (code : ℕ) (block : Block) → block_at image code 0 ≡ Some block → block.formals ≡ 0
    → Begins image (ToCode code) (begun.Runs (alone code block))
code_begins image code block at none = λ all.
    let fits : eqb block.formals 0 ≡ true = eq-eqb _ _ none in
    rw (codes_there image code 0 block at, fits, opens all.texts block.locals [] []) refl
