-- What returns make of the activations.
use Rattle.std.proofs.Common.{◌≡◌, ℕ, eqb, List, [], ◌∷◌, map, Option, Some, None, Result, Ok, Err, refl, ap, ◌∙◌, sym, inl, inr}
use Rattle.std.specs.Option.{option_map}
use Rattle.std.specs.Prelude.{IfOk, if◌then◌else◌}
use Rattle.std.specs.declared.alloc.AllocError.{AllocError}
use Rattle.std.proofs.lemmas.Bool.{cases_Bool}
use Rattle.vx_model.specs.declared.report.RunError.TheVariants as e
use Rattle.vx_format.specs.declared.image.Image.{Image}
use Rattle.vx_format.specs.declared.image.Block.{Block}
use Rattle.vx_format.specs.declared.image.Instr.{Instr}
use Rattle.vx_format.specs.declared.image.Instr.TheVariants as n
use Rattle.vx_compilation.specs.Machine.{Frame, Stepped, On, Over, Stops, Lacks, below, below_role, home_of, unwound, going, delivered, turns}
use Rattle.vx_places.specs.ImageMachine.{by_place, block_at, codes_of}
use Rattle.vx_machine.specs.declared.word.Word.{Word}
use Rattle.vx_machine.specs.declared.word.Local.{Local}
use Rattle.vx_machine.specs.declared.word.Held.{Held}
use Rattle.vx_machine.specs.declared.word.Role.{Role}
use Rattle.vx_machine.specs.declared.word.Role.TheVariants as roles
use Rattle.vx_machine.specs.declared.word.Step.{Step}
use Rattle.vx_machine.specs.Cuts.{Cut, Stacked, pushed, restarted, is_home, below_home}
use Rattle.vx_machine.specs.Meaning.{Kept, Whole, Covers, Does, Did, acted, closed_of, frame_of, machine_of, role_of, slot_of, state_of, value_of}
use Rattle.vx_machine.proofs.Calling.{codes_there, codes_missing, opens}

-- an instruction does what is done instead of it
pub follows : (image : Image) (instr : Instr) (result : Result Step AllocError) (old new : Kept) (instead : Whole → Stepped by_place)
    → ((all : Whole) → acted image instr (machine_of image all old) ≡ instead all)
    → IfOk result (λ step. (all : Whole) → Covers all new → Does step (instead all) (machine_of image all new)) → Did image instr result old new
follows image instr (Ok step) old new instead same does = λ all covers. rw (same all) (does all covers)
follows image instr (Err error) old new instead same does = does

-- what contracts see of a machine is what it keeps
pub seen : (image : Image) (instr : Instr) (all : Whole) (old now : Kept) (next : Stepped by_place) → old ≡ now
    → acted image instr (machine_of image all old) ≡ next → acted image instr (machine_of image all now) ≡ next
seen image instr all old now next is same = ap (λ (m : Kept). acted image instr (machine_of image all m)) (sym is) ∙ same

-- ---- homes

one : (image : Image) (all : Whole) (home : ℕ) (role : Role) (rest : List Cut)
    → below home (map (frame_of image all) rest) ≡ option_map (map (frame_of image all)) (below_home home rest)
    → below_role home (role_of all role) (map (frame_of image all) rest) (below home (map (frame_of image all) rest))
    ≡ option_map (map (frame_of image all)) (if is_home home role then Some rest else below_home home rest)
one image all home (roles.Method number) rest same = elim (cases_Bool (eqb home number)) [ inl is ↦ rw is refl | inr is ↦ rw is same ]
one image all home (roles.Evaluation own) rest same = same
one image all home (roles.Turn held) rest same = same

below_map : (image : Image) (all : Whole) (home : ℕ) (frames : List Cut)
    → below home (map (frame_of image all) frames) ≡ option_map (map (frame_of image all)) (below_home home frames)
below_map image all home [] = refl
below_map image all home (own ∷ rest) = one image all home own.role rest (below_map image all home rest)

-- what the home of the one that runs has below it
below_now : (image : Image) (all : Whole) (m : Kept) (s : Stacked) (word : Word) (home : ℕ) → home ≡ home_of (role_of all s.running.role)
    → below (home_of (role_of all s.running.role)) ((machine_of image all (record m { stacked = pushed word s })).now ∷ map (frame_of image all) s.waiting)
    ≡ option_map (map (frame_of image all)) (below_home home (s.running ∷ s.waiting))
below_now image all m s word home is =
    one image all (home_of (role_of all s.running.role)) s.running.role s.waiting (below_map image all (home_of (role_of all s.running.role)) s.waiting)
    ∙ ap (λ (h : ℕ). option_map (map (frame_of image all)) (below_home h (s.running ∷ s.waiting))) (sym is)

-- a machine with this on its stacks
with_top : (old : Kept) (s : Stacked) (word : Word) → old.stacked ≡ pushed word s → old ≡ record old { stacked = pushed word s }
with_top old s word e = ap (λ (stacked : Stacked). record old { stacked = stacked }) e

-- the home is left
unwinds : (image : Image) (all : Whole) (old : Kept) (s : Stacked) (word : Word) (home : ℕ) (found : Option (List Cut)) → old.stacked ≡ pushed word s
    → home ≡ home_of (role_of all s.running.role) → below_home home (s.running ∷ s.waiting) ≡ found
    → acted image n.Home (machine_of image all old) ≡ unwound (value_of all.texts word) (option_map (map (frame_of image all)) found) (state_of all old)
unwinds image all old s word home found e is at =
    ap (λ (m : Kept). acted image n.Home (machine_of image all m)) (with_top old s word e)
    ∙ ap (λ (frames : Option (List (Frame by_place))). unwound (value_of all.texts word) frames (state_of all old)) (below_now image all old s word home is)
    ∙ ap (λ (cuts : Option (List Cut)). unwound (value_of all.texts word) (option_map (map (frame_of image all)) cuts) (state_of all old)) at

pub home_dead : (image : Image) (all : Whole) (old : Kept) (s : Stacked) (word : Word) (home : ℕ) → old.stacked ≡ pushed word s
    → home ≡ home_of (role_of all s.running.role) → below_home home (s.running ∷ s.waiting) ≡ None
    → acted image n.Home (machine_of image all old) ≡ Stops e.DeadReturn (state_of all old)
home_dead image all old s word home e is dead = unwinds image all old s word home None e is dead

pub home_last : (image : Image) (all : Whole) (old : Kept) (s : Stacked) (word : Word) (home : ℕ) → old.stacked ≡ pushed word s
    → home ≡ home_of (role_of all s.running.role) → below_home home (s.running ∷ s.waiting) ≡ Some []
    → acted image n.Home (machine_of image all old) ≡ Over (state_of all old)
home_last image all old s word home e is last = unwinds image all old s word home (Some []) e is last

pub home_left : (image : Image) (all : Whole) (old : Kept) (s after : Stacked) (word : Word) (home : ℕ) → old.stacked ≡ pushed word s
    → home ≡ home_of (role_of all s.running.role) → below_home home (s.running ∷ s.waiting) ≡ Some (after.running ∷ after.waiting)
    → acted image n.Home (machine_of image all old) ≡ On (machine_of image all (record old { stacked = pushed word after }))
home_left image all old s after word home e is left = unwinds image all old s word home (Some (after.running ∷ after.waiting)) e is left

-- ---- returns

pub left_method : (image : Image) (all : Whole) (old : Kept) (s : Stacked) (word : Word) (number : ℕ) → old.stacked ≡ pushed word s →
    s.running.role ≡ roles.Method number
    → acted image n.Ret (machine_of image all old)
    ≡ going (delivered (value_of all.texts word) (machine_of image all (record old { stacked = s })).below) (state_of all (record old { stacked = s }))
left_method image all old s word number e role = rw (e, role) refl

pub left_evaluation : (image : Image) (all : Whole) (old : Kept) (s : Stacked) (word : Word) (home : ℕ) → old.stacked ≡ pushed word s →
    s.running.role ≡ roles.Evaluation home
    → acted image n.Ret (machine_of image all old)
    ≡ going (delivered (value_of all.texts word) (machine_of image all (record old { stacked = s })).below) (state_of all (record old { stacked = s }))
left_evaluation image all old s word home e role = rw (e, role) refl

pub left_turn : (image : Image) (all : Whole) (old : Kept) (s : Stacked) (word : Word) (held : Held) → old.stacked ≡ pushed word s →
    s.running.role ≡ roles.Turn held
    → acted image n.Ret (machine_of image all old)
    ≡ turns (closed_of all held) (codes_of image held.code held.block) (machine_of image all (record old { stacked = s })).below
    (state_of all (record old { stacked = s }))
left_turn image all old s word held e role = rw (e, role) refl

-- ---- turns of loops

pub turned : (image : Image) (all : Whole) (old : Kept) (held : Held) (block : Block) (captures : List Local) → block_at image held.code held.block ≡ Some block
    → (closed_of all held).captures ≡ map (slot_of all.texts) captures
    → turns (closed_of all held) (codes_of image held.code held.block) (machine_of image all old).below (state_of all old)
    ≡ On (machine_of image all (record old { stacked = restarted held.code block captures (roles.Turn held) old.stacked }))
turned image all old held block captures at is =
    rw (codes_there image held.code held.block block at, is, opens all.texts block.locals captures []) refl

pub no_turn : (image : Image) (all : Whole) (old : Kept) (held : Held) → block_at image held.code held.block ≡ None
    → turns (closed_of all held) (codes_of image held.code held.block) (machine_of image all old).below (state_of all old) ≡ Lacks
no_turn image all old held at = rw (codes_missing image held.code held.block at) refl
