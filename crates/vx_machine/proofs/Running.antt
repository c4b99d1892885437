-- What steps, one after another, come to.
use Rattle.std.proofs.Common.{◌≡◌, ◌∙◌, ℕ, zero, suc, ◌+◌, ◌-◌, ◌<◌, ◌≤◌, List, [], ◌∷◌, length, map, take, Result, Ok, Err, refl, sym, ap, subst, arith}
use Rattle.std.proofs.Math.Seq.{take-append_seam}
use Rattle.vx_syntax.specs.Expressions.{Bytes}
use Rattle.vx_model.specs.declared.report.RunError.{RunError}
use Rattle.vx_model.specs.declared.report.Report.{Report}
use Rattle.vx_model.specs.declared.report.Report.TheVariants as r
use Rattle.vx_format.specs.declared.image.Image.{Image}
use Rattle.vx_format.specs.declared.image.Instr.{Instr}
use Rattle.std.specs.declared.alloc.AllocError.{AllocError}
use Rattle.vx_compilation.specs.Machine.{Stepped, On, Over, Stops, Finds, Lacks, comes}
use Rattle.vx_compilation.specs.Activations.{counted}
use Rattle.vx_places.specs.Dispatch.{Placed}
use Rattle.vx_places.specs.ImageMachine.{by_place, codes_of, main_found, opening, report_of, world}
use Rattle.vx_machine.specs.declared.opening.Begun.TheVariants as begun
use Rattle.vx_machine.specs.declared.word.Object.{Object}
use Rattle.vx_machine.specs.Opening.{Begins, reached_first}
use Rattle.vx_machine.specs.Cuts.{Extends, Stacked, with_left}
use Rattle.vx_machine.specs.Meaning.{Covers, Did, Does, IsLater, Kept, Texts, Whole, frame_of, machine_of, state_of, things_of, whole_of}
use Rattle.vx_machine.specs.declared.runs.Ending.{Ending}
use Rattle.vx_machine.specs.declared.word.Step.{Step}
use Rattle.vx_machine.specs.declared.word.Step.TheVariants as steps
use Rattle.vx_machine.specs.Running.{Ends, Steps, goes_on, looked, report_with, stepped}
use Rattle.vx_machine.proofs.Counting.{covers_own, next_is_near}
use Rattle.vx_machine.proofs.Fielding.{stacked_as}

-- So many of the allowed instructions were done from the beginning to now.
pub record Gone (image : Image) (n done : ℕ) (start now : Kept) : Type 0 where
  pub later : IsLater start now
  pub comes_to : (all : Whole) → Covers all now → goes_on image all n start ≡ goes_on image all (n - done) now
  pub counted_upto : now.next ≤ start.next + done

pub gone_none : (image : Image) (n : ℕ) (start : Kept) → Gone image n 0 start start
gone_none image n start =
    let whole : n ≡ n - 0 = omega arith in
    record { later = λ all covers. covers; comes_to = λ all covers. ap (λ (k : ℕ). goes_on image all k start) whole; counted_upto = omega arith }

-- a step is one of those that are left
one_left : (image : Image) (all : Whole) (n done : ℕ) (now : Kept) (next : Stepped by_place) → done < n → stepped image all now ≡ next
    → goes_on image all (n - done) now ≡ comes (world image) (codes_of image) (suc (n - (done + 1))) (state_of all now) next
one_left image all n done now next lt is =
    let more : n - done ≡ suc (n - (done + 1)) = omega arith in
    ap (λ (k : ℕ). goes_on image all k now) more ∙
    ap (comes (world image) (codes_of image) (suc (n - (done + 1))) (state_of all now)) is

pub gone_one : (image : Image) (n done : ℕ) (start now after : Kept) → Gone image n done start now → done < n → IsLater now after
    → ((all : Whole) → Covers all after → stepped image all now ≡ On (machine_of image all after)) → Gone image n (done + 1) start after
gone_one image n done start now after gone lt later does = record {
  later = λ all covers. gone.later all (later all covers);
  comes_to = λ all covers. gone.comes_to all (later all covers) ∙ one_left image all n done now (On (machine_of image all after)) lt (does all covers);
  counted_upto =
      let one : after.next ≤ suc now.next = next_is_near image now after (λ all covers. does all covers) in
      omega (arith, one, gone.counted_upto);
}

-- the lines of before are the first of those that are there afterwards
pub lines_before : (now after : Kept) → IsLater now after → take (length now.lines) after.lines ≡ now.lines
lines_before now after later =
    let more : Extends now.lines after.lines = (later (whole_of after) (covers_own after)).2 in
    ap (take (length now.lines)) more.1 ∙ take-append_seam now.lines more.0

-- what the run came to, where the step that was done last is known
abbrev pub EndsAs : Image → ℕ → Kept → Report → Type 0
EndsAs image n start report = (all : Whole) × Covers all start × (goes_on image all n start ≡ report)

-- the last step came to this
pub record Last (image : Image) (now after : Kept) (next : Whole → Stepped by_place) : Type 0 where
  pub later : IsLater now after
  pub does : (all : Whole) → Covers all after → stepped image all now ≡ next all

ends_with : (image : Image) (n done : ℕ) (start now after : Kept) (next : Whole → Stepped by_place) → Gone image n done start now → done < n
    → Last image now after next
    → EndsAs image n start (comes (world image) (codes_of image) (suc (n - (done + 1))) (state_of (whole_of after) now) (next (whole_of after)))
ends_with image n done start now after next gone lt last =
    let all : Whole = whole_of after in
    let covers : Covers all now = last.later all (covers_own after) in (
      all,
      gone.later all covers,
      gone.comes_to all covers ∙ one_left image all n done now (next all) lt (last.does all (covers_own after)),
    )

pub ends_over : (image : Image) (n done : ℕ) (start now after : Kept) → Gone image n done start now → done < n
    → Last image now after (λ all. Over (state_of all after)) → EndsAs image n start (r.End after.lines)
ends_over image n done start now after gone lt last = ends_with image n done start now after (λ all. Over (state_of all after)) gone lt last

pub ends_stopped : (image : Image) (n done : ℕ) (start now after : Kept) (error : RunError) → Gone image n done start now → done < n
    → Last image now after (λ all. Stops error (state_of all after)) → EndsAs image n start (r.Error after.lines error)
ends_stopped image n done start now after error gone lt last =
    ends_with image n done start now after (λ all. Stops error (state_of all after)) gone lt last

abbrev pub first_lines : Kept → Kept → List Bytes
first_lines now after = take (length now.lines) after.lines

pub ends_lacking : (image : Image) (n done : ℕ) (start now after : Kept) → Gone image n done start now → done < n
    → Last image now after (λ all. Lacks) → EndsAs image n start (r.Stuck (first_lines now after))
ends_lacking image n done start now after gone lt last =
    rw (lines_before now after last.later) (ends_with image n done start now after (λ all. Lacks) gone lt last)

pub ends_finding : (image : Image) (n done : ℕ) (start now after : Kept) → Gone image n done start now → done < n
    → Last image now after (λ all. Finds) → EndsAs image n start (r.Stuck (first_lines now after))
ends_finding image n done start now after gone lt last =
    rw (lines_before now after last.later) (ends_with image n done start now after (λ all. Finds) gone lt last)

-- what is looked at where no instruction is left
pub looks : (image : Image) (now after : Kept) (step : Step) → IsLater now after
    → ((all : Whole) → Covers all after → Does step (stepped image all now) (machine_of image all after))
    → EndsAs image 0 now (report_with (looked step) (first_lines now after))
looks image now after step later does = rw (lines_before now after later) (
  whole_of after,
  later (whole_of after) (covers_own after),
  comes_none step (stepped image (whole_of after) now) (does (whole_of after) (covers_own after)),
) where
  comes_none : (step : Step) (next : Stepped by_place) → Does step next (machine_of image (whole_of after) after)
      → comes (world image) (codes_of image) 0 (state_of (whole_of after) now) next ≡ report_with (looked step) now.lines
  comes_none steps.On next is = rw is refl
  comes_none steps.Over next is = rw is refl
  comes_none steps.Lacks next is = rw is refl
  comes_none steps.Finds next is = rw is refl
  comes_none (steps.Stops error) next is = rw is refl

-- how a run ends does not hang on how its lines are named
pub as_lines : (image : Image) (n : ℕ) (start : Kept) (ending : Ending) (lines same : List Bytes) → lines ≡ same
    → EndsAs image n start (report_with ending lines) → EndsAs image n start (report_with ending same)
as_lines image n start ending lines same is ends = subst (λ (l : List Bytes). EndsAs image n start (report_with ending l)) is ends

-- a run ends as what is left of it does
ends_then : (image : Image) (n : ℕ) (start now : Kept) (report : Report) → Gone image n n start now → EndsAs image 0 now report → EndsAs image n start report
ends_then image n start now report gone ends =
    let none : n - n ≡ 0 = omega arith in (
      ends.0,
      gone.later ends.0 ends.1,
      gone.comes_to ends.0 ends.1 ∙ ap (λ (k : ℕ). goes_on image ends.0 k now) none ∙ ends.2,
    )

-- so does one that is done in a call
pub ends_so : (image : Image) (n : ℕ) (start now after : Kept) (result : Result Ending AllocError) → Gone image n n start now
    → Ends image 0 result now after → Ends image n result start after
ends_so image n start now after (Ok ending) gone ends = ends_then image n start now (report_with ending after.lines) gone ends
ends_so image n start now after (Err error) gone ends = ends

-- the report that is made of an ending
pub ends_reported : (image : Image) (n : ℕ) (old new : Kept) (result : Result Ending AllocError) (ending : Ending) (report : Report) → result ≡ Ok ending
    → Ends image n result old new → report ≡ report_with ending new.lines → EndsAs image n old report
ends_reported image n old new (Ok own) ending report is ends same =
    let one : own ≡ ending = cc in
    subst (λ (r' : Report). EndsAs image n old r') (ap (λ (e : Ending). report_with e new.lines) one ∙ sym same) ends
ends_reported image n old new (Err error) ending report is ends same = absurd cc

-- ---- the next instruction

-- the next instruction is taken and done
pub fetches : (image : Image) (instr : Instr) (s : Stacked) (result : Result Step AllocError) (old new : Kept)
    → old.stacked ≡ with_left (instr ∷ s.running.left) s → Did image instr result (record old { stacked = s }) new → Steps image result old new
fetches image instr s (Ok step) old new is did = λ all covers.
    subst (λ (m : Kept). Does step (stepped image all m) (machine_of image all new)) (sym (stacked_as old (with_left (instr ∷ s.running.left) s) is))
    (did all covers)
fetches image instr s (Err error) old new is did = did

-- ---- the beginning

-- what an image comes to, by what its first instruction does
report_is : (image : Image) (n : ℕ) (next : Stepped by_place) → reached_first image (main_found image) ≡ next
    → report_of image n ≡ comes (world image) (codes_of image) n (opening image) next
unfolding report_of
report_is image n next is = ap (comes (world image) (codes_of image) n (opening image)) is

pub lacks_first : (image : Image) (n : ℕ) → reached_first image (main_found image) ≡ Lacks → r.Stuck [] ≡ report_of image n
lacks_first image zero is = sym (report_is image zero Lacks is)
lacks_first image (suc n) is = sym (report_is image (suc n) Lacks is)

pub stops_first : (image : Image) (n : ℕ) (error : RunError) (report : Report) → reached_first image (main_found image) ≡ Stops error (opening image)
    → (n ≡ 0 → report ≡ r.Unfinished []) → (0 < n → report ≡ r.Error [] error) → report ≡ report_of image n
stops_first image zero error report is none some = none refl ∙ sym (report_is image zero (Stops error (opening image)) is)
stops_first image (suc n) error report is none some = some (omega arith) ∙ sym (report_is image (suc n) (Stops error (opening image)) is)

-- the machine of which the first activation is all that there is
abbrev pub first_kept : Stacked → List Object → Kept
first_kept s objects = record {
  stacked = s;
  objects = objects;
  cells = [];
  closures = [];
  captured = [];
  texts = [];
  next = 1;
  lines = [];
}

runs_on : (image : Image) (s : Stacked) (objects : List Object) → Begins image (main_found image) (begun.Runs s)
    → ((texts : Texts) → things_of texts objects ≡ (opening image).objects) → (all : Whole)
    → reached_first image (main_found image) ≡ On (machine_of image all (first_kept s objects))
runs_on image s objects begins same all =
    begins all ∙ ap (λ (things : List Placed). On (record {
      now = frame_of image all s.running;
      below = map (frame_of image all) s.waiting;
      state = counted (record (opening image) { objects = things });
    })) (sym (same all.texts))

pub none_first : (image : Image) (n : ℕ) (s : Stacked) (objects : List Object) → Begins image (main_found image) (begun.Runs s)
    → ((texts : Texts) → things_of texts objects ≡ (opening image).objects) → n ≡ 0 → r.Unfinished [] ≡ report_of image n
none_first image n s objects begins same none =
    let all : Whole = whole_of (first_kept s objects) in
    sym (report_is image n (On (machine_of image all (first_kept s objects))) (runs_on image s objects begins same all)
    ∙ ap (λ (k : ℕ). comes (world image) (codes_of image) k (opening image) (On (machine_of image all (first_kept s objects)))) none)

pub runs_first : (image : Image) (n : ℕ) (s : Stacked) (objects : List Object) (report : Report) → Begins image (main_found image) (begun.Runs s)
    → ((texts : Texts) → things_of texts objects ≡ (opening image).objects) → 0 < n → EndsAs image (n - 1) (first_kept s objects) report
    → report ≡ report_of image n
runs_first image n s objects report begins same some ends =
    let all : Whole = ends.0 in
    let more : n ≡ suc (n - 1) = omega arith in
    sym (report_is image n (On (machine_of image all (first_kept s objects))) (runs_on image s objects begins same all)
    ∙ ap (λ (k : ℕ). comes (world image) (codes_of image) k (opening image) (On (machine_of image all (first_kept s objects)))) more ∙ ends.2)
