-- What primitives make of the operands.
use Rattle.std.proofs.Common.{◌≡◌, ◌<◌, ◌≤◌, ℕ, zero, suc, ◌+◌, List, [], ◌∷◌, ◌++◌, map, take, reverse, Some, None, Result, Ok, Err, refl, sym, ap}
use Rattle.std.proofs.Common.{◌∙◌, arith, append_assoc, length}
use Rattle.std.specs.Prelude.{get_or, slice_get}
use Rattle.std.specs.declared.alloc.AllocError.{AllocError}
use Rattle.std.proofs.lemmas.List.{reverse-append}
use Rattle.std.proofs.Math.Seq.{get_or-append_seam}
use Rattle.vx_syntax.specs.Expressions.{Bytes}
use Rattle.vx_model.specs.declared.value.Value.{Value}
use Rattle.vx_model.specs.declared.primitives.Deed.{Deed}
use Rattle.vx_model.specs.declared.primitives.Deed.TheVariants as deeds
use Rattle.vx_model.specs.Primitives.{evaluate, performed, repeat}
use Rattle.vx_format.specs.declared.image.Image.{Image}
use Rattle.vx_format.specs.declared.image.Instr.TheVariants as n
use Rattle.vx_compilation.specs.Activations.{ToPrimitive}
use Rattle.vx_compilation.specs.Machine.{Finds, Lacks, does, reaches}
use Rattle.vx_places.specs.ImageMachine.{codes_of, count_of, truth, world}
use Rattle.vx_machine.specs.declared.word.Word.{Word}
use Rattle.vx_machine.specs.declared.word.Word.TheVariants as w
use Rattle.vx_machine.specs.declared.word.Step.{Step}
use Rattle.vx_machine.specs.Cuts.{Extends, Stacked, pushed}
use Rattle.vx_machine.specs.Meaning.{Evaluates, Kept, Repeats, Whole, acted, arguments, frames, machine_of, reached, state_of, value_of}
use Rattle.vx_machine.proofs.Calling.{takes, takes_lacks}
use Rattle.vx_machine.specs.Deeds.{Performs, closure_of, two_of}

-- a deed of the two topmost operands
pub two_deed : (image : Image) (deed : List Value → Deed) (all : Whole) (old now : Kept) (s : Stacked) (a b : Word) (what : Deed) → old ≡ now
    → old.stacked ≡ pushed b (pushed a s) → what ≡ deed (two_of all.texts a b)
    → does (world image) (codes_of image) (deed (arguments all 2 now)) (frames image all 2 now) (state_of all now)
    ≡ does (world image) (codes_of image) what (frames image all 0 (record old { stacked = s })) (state_of all old)
two_deed image deed all old now s a b what seen is same =
    ap (λ (m : Kept). does (world image) (codes_of image) (deed (arguments all 2 m)) (frames image all 2 m) (state_of all m)) (sym seen)
    ∙ rw (is, same) refl

pub one_deed : (image : Image) (deed : List Value → Deed) (all : Whole) (old now : Kept) (s : Stacked) (a : Word) (what : Deed) → old ≡ now
    → old.stacked ≡ pushed a s → what ≡ deed (value_of all.texts a ∷ [])
    → does (world image) (codes_of image) (deed (arguments all 1 now)) (frames image all 1 now) (state_of all now)
    ≡ does (world image) (codes_of image) what (frames image all 0 (record old { stacked = s })) (state_of all old)
one_deed image deed all old now s a what seen is same =
    ap (λ (m : Kept). does (world image) (codes_of image) (deed (arguments all 1 m)) (frames image all 1 m) (state_of all m)) (sym seen)
    ∙ rw (is, same) refl

-- ---- closures

taken_more : (n : ℕ) (words : List Word) (word : Word) → slice_get words n ≡ Some word → reverse (take (suc n) words) ≡ word ∷ reverse (take n words)
taken_more n [] word e = absurd cc
taken_more zero (own ∷ words) word e = let same : own ≡ word = cc in rw same refl
taken_more (suc n) (own ∷ words) word e =
    reverse-append (own ∷ []) (take (suc n) words) ∙ ap (λ (t : List Word). t ++ own ∷ []) (taken_more n words word e)
    ∙ ap (λ (t : List Word). word ∷ t) (sym (reverse-append (own ∷ []) (take n words)))

arguments_more : (all : Whole) (n : ℕ) (m : Kept) (word : Word) → slice_get m.stacked.running.operands n ≡ Some word
    → arguments all (n + 1) m ≡ value_of all.texts word ∷ arguments all n m
arguments_more all n m word at =
    let more : n + 1 ≡ suc n = omega arith in
    ap (λ (k : ℕ). arguments all k m) more ∙ ap (map (value_of all.texts)) (taken_more n m.stacked.running.operands word at)

pub evaluates_top : (image : Image) (closure count : ℕ) (result : Result Step AllocError) (old new : Kept) (word : Word)
    → slice_get old.stacked.running.operands count ≡ Some word → closure_of word ≡ Some closure
    → Evaluates image closure count result old new → Performs image evaluate (count + 1) result old new
evaluates_top image closure count (Ok step) old new (w.Closure own) at is done = λ all covers.
    let same : own ≡ closure = cc in
    rw (arguments_more all count old (w.Closure own) at, same) (done all covers)
evaluates_top image closure count (Ok step) old new (w.Int z) at is done = absurd cc
evaluates_top image closure count (Ok step) old new (w.Constant bytes) at is done = absurd cc
evaluates_top image closure count (Ok step) old new (w.Text place) at is done = absurd cc
evaluates_top image closure count (Ok step) old new (w.Object o) at is done = absurd cc
evaluates_top image closure count (Err error) old new word at is done = done

pub repeats_top : (image : Image) (closure : ℕ) (result : Result Step AllocError) (old new : Kept) (word : Word)
    → slice_get old.stacked.running.operands 0 ≡ Some word → closure_of word ≡ Some closure
    → Repeats image closure result old new → Performs image repeat 1 result old new
repeats_top image closure (Ok step) old new (w.Closure own) at is done = λ all covers.
    let same : own ≡ closure = cc in
    rw (arguments_more all 0 old (w.Closure own) at, same) (done all covers)
repeats_top image closure (Ok step) old new (w.Int z) at is done = absurd cc
repeats_top image closure (Ok step) old new (w.Constant bytes) at is done = absurd cc
repeats_top image closure (Ok step) old new (w.Text place) at is done = absurd cc
repeats_top image closure (Ok step) old new (w.Object o) at is done = absurd cc
repeats_top image closure (Err error) old new word at is done = done

no_evaluation : (texts : List Bytes) (word : Word) (values : List Value) → closure_of word ≡ None → evaluate (value_of texts word ∷ values) ≡ deeds.Lacks
no_evaluation texts (w.Closure own) values is = absurd cc
no_evaluation texts (w.Int z) values is = refl
no_evaluation texts (w.Constant bytes) values is = refl
no_evaluation texts (w.Text place) values is = refl
no_evaluation texts (w.Object o) values is = refl

no_repetition : (texts : List Bytes) (word : Word) (values : List Value) → closure_of word ≡ None → repeat (value_of texts word ∷ values) ≡ deeds.Lacks
no_repetition texts (w.Closure own) values is = absurd cc
no_repetition texts (w.Int z) values is = refl
no_repetition texts (w.Constant bytes) values is = refl
no_repetition texts (w.Text place) values is = refl
no_repetition texts (w.Object o) values is = refl

pub evaluates_other : (image : Image) (all : Whole) (count : ℕ) (m : Kept) (word : Word) → slice_get m.stacked.running.operands count ≡ Some word
    → closure_of word ≡ None
    → does (world image) (codes_of image) (evaluate (arguments all (count + 1) m)) (frames image all (count + 1) m) (state_of all m) ≡ Finds
evaluates_other image all count m word at is =
    ap (λ (d : Deed). does (world image) (codes_of image) d (frames image all (count + 1) m) (state_of all m))
    (ap evaluate (arguments_more all count m word at) ∙ no_evaluation all.texts word (arguments all count m) is)

pub repeats_other : (image : Image) (all : Whole) (m : Kept) (word : Word) → slice_get m.stacked.running.operands 0 ≡ Some word → closure_of word ≡ None
    → does (world image) (codes_of image) (repeat (arguments all 1 m)) (frames image all 1 m) (state_of all m) ≡ Finds
repeats_other image all m word at is =
    ap (λ (d : Deed). does (world image) (codes_of image) d (frames image all 1 m) (state_of all m))
    (ap repeat (arguments_more all 0 m word at) ∙ no_repetition all.texts word [] is)

-- ---- strings that are made

pub text_added : (made all : List Bytes) (bytes : Bytes) → Extends (made ++ bytes ∷ []) all → get_or all (length made) [] ≡ bytes
text_added made all bytes more =
    ap (λ (texts : List Bytes). get_or texts (length made) []) (more.1 ∙ append_assoc made (bytes ∷ []) more.0)
    ∙ get_or-append_seam made bytes more.0 []

-- ---- primitives by their numbers

joins_as : (image : Image) (number count : ℕ) (result : Result Step AllocError) (old new : Kept) → number ≡ 8 → count ≡ 2
    → Performs image (performed (truth image.own) 8) 2 result old new → Performs image (performed (truth image.own) number) count result old new
joins_as image number count result old new is two done = rw (is, two) done

pub joins_done : (image : Image) (number : ℕ) (result : Result Step AllocError) (old new : Kept) → number ≡ 8
    → Performs image (performed (truth image.own) 8) 2 result old new → Performs image (performed (truth image.own) number) (count_of number) result old new
joins_done image number result old new is done = joins_as image number (count_of number) result old new is (rw is refl) done

-- ---- instructions that name a primitive

pub prim_is : (image : Image) (all : Whole) (number : ℕ) (old : Kept) → count_of number ≤ length old.stacked.running.operands
    → acted image (n.Prim number) (machine_of image all old) ≡ reached image (ToPrimitive number) all (count_of number) old
prim_is image all number old le =
    takes image all (count_of number) old
    (λ values frames. reaches (world image) (codes_of image) (ToPrimitive number) values frames (state_of all old)) le

pub prim_lacks : (image : Image) (all : Whole) (number : ℕ) (old : Kept) → length old.stacked.running.operands < count_of number
    → acted image (n.Prim number) (machine_of image all old) ≡ Lacks
prim_lacks image all number old lt =
    takes_lacks image all (count_of number) old
    (λ values frames. reaches (world image) (codes_of image) (ToPrimitive number) values frames (state_of all old)) lt
