-- What sends come to when their rows are found.
use Rattle.std.proofs.Common.{◌≡◌, ◌∙◌, ◌<◌, ◌≤◌, ap, arith, subst, sym, refl, ℕ, Bool, true, false, if◌then◌else◌, List, [], ◌∷◌, length, map, take}
use Rattle.std.proofs.Common.{reverse, Option, Some, None, Result, Ok, Err}
use Rattle.std.specs.Prelude.{IfOk, nat_lt, slice_get}
use Rattle.std.proofs.lemmas.Bool.{le-ltb, lt-ltb}
use Rattle.std.specs.declared.alloc.AllocError.{AllocError}
use Rattle.vx_syntax.specs.Expressions.{Bytes}
use Rattle.vx_model.specs.declared.value.Value.{Value}
use Rattle.vx_format.specs.declared.image.Does.{Does}
use Rattle.vx_format.specs.declared.image.Row.{Row}
use Rattle.vx_format.specs.declared.image.Table.{Table}
use Rattle.vx_format.specs.declared.image.Image.{Image}
use Rattle.vx_format.specs.declared.image.Instr.{Instr}
use Rattle.vx_format.specs.declared.image.Instr.TheVariants as n
use Rattle.vx_compilation.specs.Activations.{State, Target, ToNothing}
use Rattle.vx_compilation.specs.Machine.{Frame, Lacks, reaches, sets_of}
use Rattle.vx_places.specs.Dispatch.{Placed, clone_for, dispatched}
use Rattle.vx_places.specs.ImageMachine.{Onward, To, arity_of, by_place, codes_of, dispatch, goes_to, has_row, sent, world}
use Rattle.vx_tables.specs.declared.picked.Picked.{Picked}
use Rattle.vx_tables.specs.declared.picked.Picked.TheVariants as chosen
use Rattle.vx_machine.specs.declared.word.Led.{Led}
use Rattle.vx_machine.specs.declared.word.Led.TheVariants as led
use Rattle.vx_machine.specs.declared.word.Object.{Object}
use Rattle.vx_machine.specs.declared.word.Step.{Step}
use Rattle.vx_machine.specs.declared.word.Word.{Word}
use Rattle.vx_machine.specs.Meaning.{Kept, Texts, Whole, Reached, acted, arguments, machine_of, reached, state_of, things_of, value_of}
use Rattle.vx_machine.specs.Meaning as meaning
use Rattle.vx_machine.proofs.Calling.{takes, takes_lacks}
use Rattle.vx_machine.specs.Sending.{Acts, Goes, Leads, sent_of, target_of}

pub no_class : (code : ℕ) (pairs : List (ℕ × ℕ)) → clone_for code None pairs ≡ code
no_class code [] = refl
no_class code (pair ∷ pairs) = refl

-- a row does what it goes to does
pub goes_on : (image : Image) (table : Table) (deed : Does) (target : Target by_place) (count : ℕ) (result : Result Step AllocError) (old new : Kept)
    → ((all : Whole) → target_of image table deed all count old ≡ target)
    → Reached image target count result old new → Goes image table deed count result old new
goes_on image table deed target count (Ok step) old new same does = λ all covers. rw (same all) (does all covers)
goes_on image table deed target count (Err error) old new same does = does

-- a setter takes two arguments
pub not_two : (image : Image) (field : ℕ) (name : Bytes) (values : List Value) (frames : List (Frame by_place)) (state : State by_place)
    → (length values ≡ 2 → ⊥) → sets_of (world image) field name values frames state ≡ Lacks
not_two image field name [] frames state other = refl
not_two image field name (own ∷ []) frames state other = refl
not_two image field name (own ∷ value ∷ []) frames state other = absurd (other refl)
not_two image field name (own ∷ value ∷ more ∷ rest) frames state other = refl

-- ---- the search for a row

-- what a table makes of the topmost operands
pub picks : (image : Image) (table : Table) (below : Option ℕ) (count : ℕ) (words : List Word) (objects : List Object) (result : Result Picked AllocError)
    (old : Kept) → objects ≡ old.objects → words ≡ reverse (take count old.stacked.running.operands)
    → IfOk result (λ picked. (texts : Texts) → picked ≡ dispatched image (things_of texts objects) table (map (value_of texts) words) below)
    → IfOk result (λ picked. (all : Whole) → picked ≡ dispatched image (things_of all.texts old.objects) table (arguments all count old) below)
picks image table below count words objects (Ok picked) old o w is = λ all. rw (← o, ← w) (is all.texts)
picks image table below count words objects (Err error) old o w is = is

-- the row that is found tells what the message comes to
pub row_found : (image : Image) (table : Table) (below : Option ℕ) (old middle : Kept) (row : ℕ) (own : Row) (all : Whole) → middle ≡ old
    → chosen.Row row ≡ dispatched image (things_of all.texts old.objects) table (arguments all table.arity old) below → slice_get table.rows row ≡ Some own
    → sent_of image table below old all ≡ target_of image table own.does all table.arity middle
row_found image table below old middle row own all m is at =
    rw (m, ← is)
    (ap (λ (found : Option Row). elim found as (λ f. Target by_place) [
      | Some one ↦ goes_to image (things_of all.texts old.objects) table (arguments all table.arity old) one.does
      | None ↦ ToNothing
    ]) at)

-- what a row does, another does that is the same
pub led_as : (image : Image) (table : Table) (one other : Does) (count : ℕ) (step : Step) (old new : Kept) (all : Whole) → one ≡ other
    → meaning.Does step (reached image (target_of image table other all count old) all count old) (machine_of image all new)
    → meaning.Does step (reached image (target_of image table one all count old) all count old) (machine_of image all new)
led_as image table one other count step old new all is does = rw is does

-- what leads to the one leads to the other
pub leads_as : (image : Image) (one other : Whole → Target by_place) (count : ℕ) (result : Result Led AllocError) (old middle new : Kept) → middle ≡ old
    → ((all : Whole) → other all ≡ one all) → Leads image one count result middle new → Leads image other count result old new
leads_as image one other count (Ok (led.Done step)) old middle new m same does = λ all covers. rw (← m, same all) (does all covers)
leads_as image one other count (Ok (led.Perform number)) old middle new m same does = ((λ all. same all ∙ does.0 all), does.1 ∙ m)
leads_as image one other count (Err error) old middle new m same does = does

-- ---- messages

pub arity_there : (image : Image) (t : ℕ) (table : Table) → slice_get image.tables t ≡ Some table → arity_of image t ≡ table.arity
arity_there image t table at = ap (λ (found : Option Table). elim found as (λ f. ℕ) [ Some own ↦ own.arity | None ↦ 0 ]) at

no_arity : (image : Image) (t : ℕ) → slice_get image.tables t ≡ None → arity_of image t ≡ 0
no_arity image t at = ap (λ (found : Option Table). elim found as (λ f. ℕ) [ Some own ↦ own.arity | None ↦ 0 ]) at

-- a send finds what its table makes of the operands
pub send_is : (image : Image) (all : Whole) (t : ℕ) (table : Table) (old : Kept) → slice_get image.tables t ≡ Some table
    → table.arity ≤ length old.stacked.running.operands
    → acted image (n.Send t) (machine_of image all old) ≡ reached image (sent_of image table None old all) all table.arity old
send_is image all t table old at le =
    rw (arity_there image t table at)
    (takes image all table.arity old (λ values frames. reaches (world image) (codes_of image)
    (dispatch image (things_of all.texts old.objects) (To t) values) values frames (state_of all old)) le
    ∙ ap (λ (found : Option Table). reached image (sent image (things_of all.texts old.objects) found (arguments all table.arity old) None) all
    table.arity old) at)

pub send_lacks : (image : Image) (all : Whole) (t : ℕ) (table : Table) (old : Kept) → slice_get image.tables t ≡ Some table
    → length old.stacked.running.operands < table.arity → acted image (n.Send t) (machine_of image all old) ≡ Lacks
send_lacks image all t table old at lt =
    rw (arity_there image t table at)
    (takes_lacks image all table.arity old (λ values frames. reaches (world image) (codes_of image)
    (dispatch image (things_of all.texts old.objects) (To t) values) values frames (state_of all old)) lt)

pub send_missing : (image : Image) (all : Whole) (t : ℕ) (old : Kept) → slice_get image.tables t ≡ None
    → acted image (n.Send t) (machine_of image all old) ≡ Lacks
send_missing image all t old at =
    rw (no_arity image t at)
    (takes image all 0 old (λ values frames. reaches (world image) (codes_of image)
    (dispatch image (things_of all.texts old.objects) (To t) values) values frames (state_of all old)) (omega arith)
    ∙ ap (λ (found : Option Table). reached image (sent image (things_of all.texts old.objects) found (arguments all 0 old) None) all 0 old) at)

-- what a message leads to, its instruction does
acts_at : (image : Image) (instr : Instr) (target : Whole → Target by_place) (count : ℕ) (result : Result Led AllocError) (old new : Kept)
    → count ≤ length old.stacked.running.operands
    → ((all : Whole) → acted image instr (machine_of image all old) ≡ reached image (target all) all count old)
    → Leads image target count result old new → Acts image instr count result old new
acts_at image instr target count (Ok (led.Done step)) old new le same does = λ all covers. rw (same all) (does all covers)
acts_at image instr target count (Ok (led.Perform number)) old new le same does =
    ((λ all. same all ∙ ap (λ (found : Target by_place). reached image found all count old) (does.0 all)), le, does.1)
acts_at image instr target count (Err error) old new le same does = does

pub acts_as : (image : Image) (instr : Instr) (target : Whole → Target by_place) (count other : ℕ) (result : Result Led AllocError) (old new : Kept)
    → other ≡ count → count ≤ length old.stacked.running.operands
    → ((all : Whole) → acted image instr (machine_of image all old) ≡ reached image (target all) all count old)
    → Leads image target count result old new → Acts image instr other result old new
acts_as image instr target count other result old new o le same does =
    subst (λ (k : ℕ). Acts image instr k result old new) (sym o) (acts_at image instr target count result old new le same does)

-- ---- messages that go on

-- a message that goes on finds what its table makes of the operands from the row on, which is there
pub resend_is : (image : Image) (all : Whole) (t row : ℕ) (table : Table) (old : Kept) → slice_get image.tables t ≡ Some table
    → row < length table.rows → table.arity ≤ length old.stacked.running.operands
    → acted image (n.Resend t row) (machine_of image all old) ≡ reached image (sent_of image table (Some row) old all) all table.arity old
resend_is image all t row table old at there le =
    let things : List Placed = things_of all.texts old.objects in
    let values : List Value = arguments all table.arity old in
    let yes : nat_lt row (length table.rows) ≡ true = lt-ltb _ _ there in
    rw (arity_there image t table at)
    (takes image all table.arity old (λ values frames. reaches (world image) (codes_of image)
    (dispatch image (things_of all.texts old.objects) (Onward t row) values) values frames (state_of all old)) le
    ∙ ap (λ (found : Option Table). reached image (if has_row found row then sent image things found values (Some row) else ToNothing) all table.arity old) at
    ∙ ap (λ (is : Bool). reached image (if is then sent image things (Some table) values (Some row) else ToNothing) all table.arity old) yes)

pub resend_lacks : (image : Image) (all : Whole) (t row : ℕ) (table : Table) (old : Kept) → slice_get image.tables t ≡ Some table
    → length old.stacked.running.operands < table.arity → acted image (n.Resend t row) (machine_of image all old) ≡ Lacks
resend_lacks image all t row table old at lt =
    rw (arity_there image t table at)
    (takes_lacks image all table.arity old (λ values frames. reaches (world image) (codes_of image)
    (dispatch image (things_of all.texts old.objects) (Onward t row) values) values frames (state_of all old)) lt)

pub resend_beyond : (image : Image) (all : Whole) (t row : ℕ) (table : Table) (old : Kept) → slice_get image.tables t ≡ Some table
    → length table.rows ≤ row → table.arity ≤ length old.stacked.running.operands
    → acted image (n.Resend t row) (machine_of image all old) ≡ Lacks
resend_beyond image all t row table old at away le =
    let things : List Placed = things_of all.texts old.objects in
    let values : List Value = arguments all table.arity old in
    let no : nat_lt row (length table.rows) ≡ false = le-ltb _ _ away in
    rw (arity_there image t table at)
    (takes image all table.arity old (λ values frames. reaches (world image) (codes_of image)
    (dispatch image (things_of all.texts old.objects) (Onward t row) values) values frames (state_of all old)) le
    ∙ ap (λ (found : Option Table). reached image (if has_row found row then sent image things found values (Some row) else ToNothing) all table.arity old) at
    ∙ ap (λ (is : Bool). reached image (if is then sent image things (Some table) values (Some row) else ToNothing) all table.arity old) no)

pub resend_missing : (image : Image) (all : Whole) (t row : ℕ) (old : Kept) → slice_get image.tables t ≡ None
    → acted image (n.Resend t row) (machine_of image all old) ≡ Lacks
resend_missing image all t row old at =
    let things : List Placed = things_of all.texts old.objects in
    let values : List Value = arguments all 0 old in
    rw (no_arity image t at)
    (takes image all 0 old (λ values frames. reaches (world image) (codes_of image)
    (dispatch image (things_of all.texts old.objects) (Onward t row) values) values frames (state_of all old)) (omega arith)
    ∙ ap (λ (found : Option Table). reached image (if has_row found row then sent image things found values (Some row) else ToNothing) all 0 old) at)
