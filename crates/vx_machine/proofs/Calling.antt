-- What calls make of the stacks.
use Rattle.std.proofs.Common.{◌≡◌, ℕ, zero, suc, ◌+◌, ◌-◌, ◌<◌, ◌≤◌, true, eqb, List, [], ◌∷◌, ◌++◌, length, map, take, drop, reverse, replicate}
use Rattle.std.proofs.Common.{Option, Some, None, Result, Ok, Err, refl, sym, ap, ◌∙◌, append_assoc, arith, length-take}
use Rattle.std.proofs.lemmas.List.{reverse-append, length-reverse, map-append, length-map, append-nil, take-map, drop-map}
use Rattle.std.proofs.lemmas.Bool.{eq-eqb}
use Rattle.vx_model.specs.declared.value.Value.{Value}
use Rattle.vx_format.specs.declared.image.Image.{Image}
use Rattle.vx_format.specs.declared.image.Block.{Block}
use Rattle.vx_format.specs.declared.image.Instr.TheVariants as n
use Rattle.vx_compilation.specs.Activations.{Slot, Unset, Plain, plain, unset, Target, ToCode}
use Rattle.vx_compilation.specs.Activations as A
use Rattle.vx_compilation.specs.Machine.{Stepped, Frame, On, Lacks, popped, taking, enters}
use Rattle.vx_compilation.specs.Machine as machine
use Rattle.vx_places.specs.ImageMachine.{by_place, block_at, block_of, codes_of, formals_of}
use Rattle.vx_machine.specs.declared.word.Word.{Word}
use Rattle.vx_machine.specs.declared.word.Local.{Local}
use Rattle.vx_machine.specs.declared.word.Local.TheVariants as h
use Rattle.vx_machine.specs.declared.word.Role.TheVariants as roles
use Rattle.vx_machine.specs.Cuts.{entered}
use Rattle.vx_machine.specs.Cuts as cuts
use Rattle.vx_machine.specs.Meaning.{Kept, Whole, Did, Reached, acted, arguments, frames, machine_of, reached, slot_of, value_of}
use Rattle.vx_machine.specs.declared.word.Step.{Step}
use Rattle.std.specs.declared.alloc.AllocError.{AllocError}
use Rattle.vx_format.specs.declared.image.Instr.{Instr}

-- ---- operands

popped_is : (n : ℕ) (before stack : List Value) → n ≤ length stack → popped n before stack ≡ Some (reverse (take n stack) ++ before, drop n stack)
popped_is zero before stack le = refl
popped_is (suc n) before [] le = absurd (omega arith)
popped_is (suc n) before (v ∷ stack) le =
    popped_is n (v ∷ before) stack (omega arith) ∙ ap (λ (vs : List Value). Some (vs, drop n stack))
    (sym (append_assoc (reverse (take n stack)) (v ∷ []) before) ∙ ap (λ (t : List Value). t ++ before) (sym (reverse-append (v ∷ []) (take n stack))))

popped_none : (n : ℕ) (before stack : List Value) → length stack < n → popped n before stack ≡ None
popped_none zero before stack lt = absurd (omega arith)
popped_none (suc n) before [] lt = refl
popped_none (suc n) before (v ∷ stack) lt = popped_none n (v ∷ before) stack (omega arith)

pub map_reverse : {A B : Type 0} (f : A → B) (xs : List A) → map f (reverse xs) ≡ reverse (map f xs)
map_reverse f [] = refl
map_reverse f (x ∷ xs) =
    ap (map f) (reverse-append (x ∷ []) xs) ∙ map-append f (reverse xs) (x ∷ []) ∙ ap (λ t. t ++ f x ∷ []) (map_reverse f xs)
    ∙ sym (reverse-append (f x ∷ []) (map f xs))

-- so many operands are taken where there are as many
pub takes : (image : Image) (all : Whole) (count : ℕ) (old : Kept) (go : List Value → List (Frame by_place) → Stepped by_place) →
    count ≤ length old.stacked.running.operands
    → taking count (machine_of image all old) go ≡ go (arguments all count old) (frames image all count old)
takes image all count old go le =
    let f : Word → Value = value_of all.texts in
    let ops : List Word = old.stacked.running.operands in
    let pop : popped count [] (map f ops) ≡ Some (arguments all count old, map f (drop count ops)) =
    popped_is count [] (map f ops) (omega (arith, length-map ops f))
    ∙ ap (λ (p : List Value × List Value). Some p) (rw (append-nil, take-map, drop-map, map_reverse f (take count ops)) refl) in
    rw pop refl

pub takes_lacks : (image : Image) (all : Whole) (count : ℕ) (old : Kept) (go : List Value → List (Frame by_place) → Stepped by_place) →
    length old.stacked.running.operands < count
    → taking count (machine_of image all old) go ≡ Lacks
takes_lacks image all count old go lt =
    let none : popped count [] (map (value_of all.texts) old.stacked.running.operands) ≡ None =
    popped_none count [] (map (value_of all.texts) old.stacked.running.operands)
    (omega (arith, length-map old.stacked.running.operands (value_of all.texts))) in
    rw none refl

pub arguments_length : (all : Whole) (count : ℕ) (old : Kept) → count ≤ length old.stacked.running.operands → length (arguments all count old) ≡ count
arguments_length all count old le =
    length-map (reverse (take count old.stacked.running.operands)) (value_of all.texts) ∙ length-reverse (take count old.stacked.running.operands)
    ∙ omega (arith, length-take count old.stacked.running.operands)

-- ---- locals

plains : (texts : List (List ℕ)) (words : List Word) → map (slot_of texts) (map (λ word. h.Plain word) words) ≡ plain (map (value_of texts) words)
plains texts [] = refl
plains texts (w ∷ words) = ap (λ (t : List Slot). Plain (value_of texts w) ∷ t) (plains texts words)

unsets : (texts : List (List ℕ)) (n : ℕ) → map (slot_of texts) (replicate n h.Unset) ≡ unset n
unsets texts zero = refl
unsets texts (suc n) = ap (λ (t : List Slot). Unset ∷ t) (unsets texts n)

pub opens : (texts : List (List ℕ)) (count : ℕ) (captures : List Local) (words : List Word)
    → map (slot_of texts) (cuts.opened count captures words) ≡ A.opened count (map (slot_of texts) captures) (map (value_of texts) words)
opens texts count captures words =
    let f : Local → Slot = slot_of texts in
    let rest : ℕ = count - length captures - length words in
    map-append f captures (map (λ word. h.Plain word) words ++ replicate rest h.Unset)
    ∙ ap (λ (t : List Slot). map f captures ++ t) (map-append f (map (λ word. h.Plain word) words) (replicate rest h.Unset)
    ∙ rw (plains texts words, unsets texts rest, length-map captures f, length-map words (value_of texts)) refl)

-- ---- blocks

pub codes_there : (image : Image) (code block : ℕ) (own : Block) → block_at image code block ≡ Some own → codes_of image code block ≡ Some (block_of image own)
codes_there image code block own at =
    ap (λ (o : Option Block). elim o as (λ o'. Option (machine.Block by_place)) [ Some own' ↦ Some (block_of image own') | None ↦ None ]) at

pub codes_missing : (image : Image) (code block : ℕ) → block_at image code block ≡ None → codes_of image code block ≡ None
codes_missing image code block at =
    ap (λ (o : Option Block). elim o as (λ o'. Option (machine.Block by_place)) [ Some own' ↦ Some (block_of image own') | None ↦ None ]) at

pub formals_there : (image : Image) (code : ℕ) (own : Block) → block_at image code 0 ≡ Some own → formals_of image code ≡ own.formals
formals_there image code own at = ap (λ (o : Option Block). elim o as (λ o'. ℕ) [ Some own' ↦ own'.formals | None ↦ 0 ]) at

-- ---- calls

pub code_entered : (image : Image) (all : Whole) (code count : ℕ) (block : Block) (old : Kept) → block_at image code 0 ≡ Some block → block.formals ≡ count
    → count ≤ length old.stacked.running.operands
    → reached image (ToCode code) all count old
    ≡ On (machine_of image all (record old { stacked = entered code block [] count 0 (roles.Method old.next) old.stacked; next = suc old.next }))
code_entered image all code count block old at is le =
    let none : count + 0 ≡ count = omega arith in
    let fits : eqb block.formals (length (arguments all count old)) ≡ true = eq-eqb _ _ (is ∙ sym (arguments_length all count old le)) in
    rw (codes_there image code 0 block at, fits, none, opens all.texts block.locals [] (reverse (take count old.stacked.running.operands))) refl

pub code_missing : (image : Image) (all : Whole) (code count : ℕ) (old : Kept) → block_at image code 0 ≡ None →
    reached image (ToCode code) all count old ≡ Lacks
code_missing image all code count old at = rw (codes_missing image code 0 at) refl

pub call_done : (image : Image) (all : Whole) (code : ℕ) (block : Block) (old : Kept) → block_at image code 0 ≡ Some block →
    block.formals ≤ length old.stacked.running.operands
    → acted image (n.Call code) (machine_of image all old) ≡ reached image (ToCode code) all block.formals old
call_done image all code block old at le =
    rw (formals_there image code block at) (takes image all block.formals old
    (λ values frames. enters code (codes_of image code 0) values frames (machine_of image all old).state) le)

pub call_lacks : (image : Image) (all : Whole) (code : ℕ) (block : Block) (old : Kept) → block_at image code 0 ≡ Some block →
    length old.stacked.running.operands < block.formals
    → acted image (n.Call code) (machine_of image all old) ≡ Lacks
call_lacks image all code block old at lt =
    rw (formals_there image code block at) (takes_lacks image all block.formals old
    (λ values frames. enters code (codes_of image code 0) values frames (machine_of image all old).state) lt)

-- an instruction does what its message does
pub passes : (image : Image) (instr : Instr) (target : Target by_place) (count : ℕ) (result : Result Step AllocError) (old new : Kept)
    → ((all : Whole) → acted image instr (machine_of image all old) ≡ reached image target all count old)
    → Reached image target count result old new → Did image instr result old new
passes image instr target count (Ok step) old new same does = λ all covers. rw (same all) (does all covers)
passes image instr target count (Err error) old new same does = does
