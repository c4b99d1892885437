-- What closures capture, and what becomes of them.
use Rattle.std.proofs.Common.{◌≡◌, ℕ, ◌+◌, ◌≤◌, true, false, eqb, List, [], ◌∷◌, ◌++◌, length, map, take, drop, reverse, Option, Some, None, refl}
use Rattle.std.proofs.Common.{sym, ap, ◌∙◌, append_assoc}
use Rattle.std.specs.Option.{option_map}
use Rattle.std.specs.Prelude.{slice_get}
use Rattle.std.proofs.lemmas.List.{map-append, length-map}
use Rattle.std.proofs.Math.Seq.{drop-append_seam, take-append_seam}
use Rattle.std.proofs.lemmas.Option.{slice_get-map}
use Rattle.std.proofs.lemmas.Bool.{eq-eqb, ne_eqb}
use Rattle.vx_model.specs.declared.report.RunError.TheVariants as e
use Rattle.vx_format.specs.declared.image.Image.{Image}
use Rattle.vx_format.specs.declared.image.Block.{Block}
use Rattle.vx_format.specs.declared.image.Instr.TheVariants as n
use Rattle.vx_compilation.specs.Activations.{Slot}
use Rattle.vx_compilation.specs.Activations as A
use Rattle.vx_compilation.specs.Machine.{On, Stops, Lacks, home_of, evaluates, repeats}
use Rattle.vx_places.specs.ImageMachine.{block_at, codes_of}
use Rattle.vx_machine.specs.declared.word.Word.TheVariants as w
use Rattle.vx_machine.specs.declared.word.Local.{Local}
use Rattle.vx_machine.specs.declared.word.Local.TheVariants as h
use Rattle.vx_machine.specs.declared.word.Held.{Held}
use Rattle.vx_machine.specs.declared.word.Role.TheVariants as roles
use Rattle.vx_machine.specs.Cuts.{Extends, entered, pushed}
use Rattle.vx_machine.specs.Meaning.{Kept, Whole, acted, arguments, captured_one, captured_of, closed_of, frames, machine_of, role_of, slot_of, state_of}
use Rattle.vx_machine.proofs.Calling.{codes_there, arguments_length, opens}

pub extends_more : {A : Type 0} (old new all : List A) → Extends old new → Extends new all → Extends old all
extends_more old new all first second =
    (first.0 ++ second.0, second.1 ∙ ap (λ xs. xs ++ second.0) first.1 ∙ append_assoc old first.0 second.0)

-- ---- captures

one_same : (texts : List (List ℕ)) (local : Option Local) (rest : Option (List Local))
    → A.captured_one (option_map (slot_of texts) local) (option_map (map (slot_of texts)) rest) ≡ option_map (map (slot_of texts)) (captured_one local rest)
one_same texts None rest = refl
one_same texts (Some h.Unset) rest = refl
one_same texts (Some (h.Plain word)) None = refl
one_same texts (Some (h.Plain word)) (Some rest) = refl
one_same texts (Some (h.Cell c)) None = refl
one_same texts (Some (h.Cell c)) (Some rest) = refl

pub captured_same : (texts : List (List ℕ)) (xs : List ℕ) (locals : List Local)
    → A.captured xs (map (slot_of texts) locals) ≡ option_map (map (slot_of texts)) (captured_of xs locals)
captured_same texts [] locals = refl
captured_same texts (x ∷ xs) locals =
    ap (λ (o : Option Slot). A.captured_one o (A.captured xs (map (slot_of texts) locals))) (slice_get-map (slot_of texts) locals x)
    ∙ ap (A.captured_one (option_map (slot_of texts) (slice_get locals x))) (captured_same texts xs locals)
    ∙ one_same texts (slice_get locals x) (captured_of xs locals)

-- ---- closures are made

pub close_done : (image : Image) (all : Whole) (old : Kept) (block home : ℕ) (own : Block) (xs : List ℕ) (added : List Local)
    → block_at image old.stacked.running.code block ≡ Some own → captured_of xs old.stacked.running.locals ≡ Some added → own.captures ≡ length added
    → home ≡ home_of (role_of all old.stacked.running.role) → Extends (old.captured ++ added) all.captured
    → acted image (n.Closure block xs) (machine_of image all old)
    ≡ On (machine_of image all (record old {
      stacked = pushed (w.Closure (length old.closures)) old.stacked;
      closures =
          old.closures ++ record { code = old.stacked.running.code; block = block; home = home; first = length old.captured; count = own.captures } ∷ [];
      captured = old.captured ++ added;
    }))
close_done image all old block home own xs added at caught count is more =
    let fits : eqb own.captures (length (map (slot_of all.texts) added)) ≡ true = eq-eqb _ _ (count ∙ sym (length-map added (slot_of all.texts))) in
    let got : A.captured xs (map (slot_of all.texts) old.stacked.running.locals) ≡ Some (map (slot_of all.texts) added) =
    captured_same all.texts xs old.stacked.running.locals ∙ ap (option_map (map (slot_of all.texts))) caught in
    let part : take own.captures (drop (length old.captured) all.captured) ≡ added =
    ap (λ xs'. take own.captures (drop (length old.captured) xs')) (more.1 ∙ append_assoc old.captured added more.0)
    ∙ ap (take own.captures) (drop-append_seam old.captured (added ++ more.0)) ∙ ap (λ (k : ℕ). take k (added ++ more.0)) count ∙
    take-append_seam added more.0 in
    rw (
      codes_there image old.stacked.running.code block own at,
      got,
      fits,
      length-map old.closures (closed_of all),
      map-append (closed_of all) old.closures (record {
        code = old.stacked.running.code;
        block = block;
        home = home;
        first = length old.captured;
        count =
            own.captures;
      } ∷ []),
      part,
      is,
    ) refl

pub close_lacks : (image : Image) (all : Whole) (old : Kept) (block : ℕ) (own : Block) (xs : List ℕ) → block_at image old.stacked.running.code block ≡ Some own
    → captured_of xs old.stacked.running.locals ≡ None → acted image (n.Closure block xs) (machine_of image all old) ≡ Lacks
close_lacks image all old block own xs at none =
    let got : A.captured xs (map (slot_of all.texts) old.stacked.running.locals) ≡ None =
    captured_same all.texts xs old.stacked.running.locals ∙ ap (option_map (map (slot_of all.texts))) none in
    rw (codes_there image old.stacked.running.code block own at, got) refl

pub close_unfit : (image : Image) (all : Whole) (old : Kept) (block : ℕ) (own : Block) (xs : List ℕ) (added : List Local)
    → block_at image old.stacked.running.code block ≡ Some own → captured_of xs old.stacked.running.locals ≡ Some added → (own.captures ≡ length added → ⊥)
    → acted image (n.Closure block xs) (machine_of image all old) ≡ Lacks
close_unfit image all old block own xs added at caught differs =
    let unfit : eqb own.captures (length (map (slot_of all.texts) added)) ≡ false =
    ne_eqb _ _ (λ same. differs (same ∙ length-map added (slot_of all.texts))) in
    let got : A.captured xs (map (slot_of all.texts) old.stacked.running.locals) ≡ Some (map (slot_of all.texts) added) =
    captured_same all.texts xs old.stacked.running.locals ∙ ap (option_map (map (slot_of all.texts))) caught in
    rw (codes_there image old.stacked.running.code block own at, got, unfit) refl

-- ---- closures are evaluated and repeated

closure_there : (all : Whole) (closures : List Held) (closure : ℕ) (held : Held) → slice_get closures closure ≡ Some held
    → slice_get (map (closed_of all) closures) closure ≡ Some (closed_of all held)
closure_there all closures closure held at = slice_get-map (closed_of all) closures closure ∙ ap (option_map (closed_of all)) at

pub evaluate_done : (image : Image) (all : Whole) (old : Kept) (closure count : ℕ) (held : Held) (block : Block) (captures : List Local)
    → slice_get old.closures closure ≡ Some held → block_at image held.code held.block ≡ Some block → block.formals ≡ count
    → count ≤ length old.stacked.running.operands → (closed_of all held).captures ≡ map (slot_of all.texts) captures
    → evaluates (codes_of image) (slice_get (map (closed_of all) old.closures) closure) (arguments all count old) (frames image all (count + 1) old)
    (state_of all old)
    ≡ On (machine_of image all (record old { stacked = entered held.code block captures count 1 (roles.Evaluation held.home) old.stacked }))
evaluate_done image all old closure count held block captures at there is le caught =
    let fits : eqb block.formals (length (arguments all count old)) ≡ true = eq-eqb _ _ (is ∙ sym (arguments_length all count old le)) in
    rw (
      closure_there all old.closures closure held at,
      codes_there image held.code held.block block there,
      fits,
      caught,
      opens all.texts block.locals captures (reverse (take count old.stacked.running.operands)),
    ) refl

pub evaluate_unfit : (image : Image) (all : Whole) (old : Kept) (closure count : ℕ) (held : Held) (block : Block)
    → slice_get old.closures closure ≡ Some held → block_at image held.code held.block ≡ Some block → (block.formals ≡ count → ⊥)
    → count ≤ length old.stacked.running.operands
    → evaluates (codes_of image) (slice_get (map (closed_of all) old.closures) closure) (arguments all count old) (frames image all (count + 1) old)
    (state_of all old)
    ≡ Stops (e.ClosureArity count) (state_of all old)
evaluate_unfit image all old closure count held block at there differs le =
    let size = arguments_length all count old le in
    let unfit : eqb block.formals (length (arguments all count old)) ≡ false = ne_eqb _ _ (λ same. differs (same ∙ size)) in
    rw (closure_there all old.closures closure held at, codes_there image held.code held.block block there, unfit, size) refl

pub repeat_done : (image : Image) (all : Whole) (old : Kept) (closure : ℕ) (held : Held) (block : Block) (captures : List Local)
    → slice_get old.closures closure ≡ Some held → block_at image held.code held.block ≡ Some block → block.formals ≡ 0
    → (closed_of all held).captures ≡ map (slot_of all.texts) captures
    → repeats (codes_of image) (slice_get (map (closed_of all) old.closures) closure) (frames image all 1 old) (state_of all old)
    ≡ On (machine_of image all (record old { stacked = entered held.code block captures 0 1 (roles.Turn held) old.stacked }))
repeat_done image all old closure held block captures at there is caught =
    rw (
      closure_there all old.closures closure held at,
      codes_there image held.code held.block block there,
      is,
      caught,
      opens all.texts block.locals captures [],
    ) refl
