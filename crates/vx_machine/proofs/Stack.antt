-- What a change of a local makes of the parts of the stacks.
use Rattle.std.proofs.Common.{◌≡◌, ℕ, ◌+◌, ◌-◌, ◌≤◌, ◌<◌, List, [], ap, ◌∷◌, ◌++◌, length, drop, take, reverse, set, refl, arith, length-drop, sym}
use Rattle.std.proofs.Common.{◌∙◌, append_assoc, subst, Bool, true, false}
use Rattle.std.proofs.lemmas.List.{drop-set-add, take-set-le, drop-take, length-reverse, reverse-reverse, drop-drop, take-take, take_all}
use Rattle.std.proofs.lemmas.List.{drop-append-le, take-append-le, length-take-le}
use Rattle.std.proofs.Math.Seq.{drop-append_seam, take-append_seam}
use Rattle.std.proofs.Math.ListN.{drop_of_length-le}
use Rattle.vx_lists.proofs.Rests.{reverse_take}
use Rattle.vx_format.specs.declared.image.Block.{Block}
use Rattle.vx_machine.specs.declared.word.Word.{Word}
use Rattle.vx_machine.specs.declared.word.Local.{Local}
use Rattle.vx_machine.specs.declared.word.Kept.{Kept}
use Rattle.vx_machine.specs.Cuts.{Cut, Stacked, Extends, IsRest, Lie, stacked, forgotten, with_local, opened, entered}

pub local_there : (k : Kept) (below : List Kept) (locals : List Local) (operands : List Word) (x : ℕ) (held : Local) → x < length locals - k.base
    → (x < length (drop k.base locals)) × (stacked k below (set locals (k.base + x) held) operands ≡ with_local x held (stacked k below locals operands))
local_there k below locals operands x held lt =
    let above : k.base ≤ k.base + x = omega arith in
    (omega (arith, length-drop k.base locals), rw (drop-set-add k.base locals x held, take-set-le k.base locals (k.base + x) held above) refl)

-- behind what was there come the captures, and then more
pub extends_captures : {A : Type 0} (old captures more new : List A) → new ≡ (old ++ captures) ++ more → Extends old new
extends_captures old captures more new e = (captures ++ more, e ∙ append_assoc old captures more)

-- what is left when one more activation is left, if one waits
pub left_over : (all : List Cut) (s new : Stacked) (waits : Bool) → IsRest all (s.running ∷ s.waiting)
    → (waits ≡ true → s.waiting ≡ new.running ∷ new.waiting) → (waits ≡ false → (s.waiting ≡ []) × (new ≡ s)) → IsRest all (new.running ∷ new.waiting)
left_over all s new true rest on last =
    let more : List Cut = new.running ∷ new.waiting in
    (rest.0 ++ s.running ∷ [], rest.1 ∙ ap (λ (waiting : List Cut). rest.0 ++ s.running ∷ waiting) (on refl) ∙ sym (append_assoc rest.0 (s.running ∷ []) more))
left_over all s new false rest on last = subst (λ (own : Stacked). IsRest all (own.running ∷ own.waiting)) (sym (last refl).1) rest

-- ---- a block that is entered

-- the operands below those that an activation takes
left_waiting : (operands : List Word) (floor count under : ℕ) → floor ≤ length operands → count + under ≤ length operands - floor
    → reverse (drop floor (take (length operands - count - under) operands)) ≡ drop (count + under) (reverse (drop floor operands))
left_waiting operands floor count under low le =
    let rest : ℕ = length operands - count - under - floor in
    let upto : length operands - count - under ≡ floor + rest = omega arith in
    let all : length operands - floor - rest ≡ count + under = omega arith in
    ap (λ (n : ℕ). reverse (drop floor (take n operands))) upto ∙ ap reverse (drop-take floor rest operands) ∙ reverse_take rest (drop floor operands)
    ∙ ap (λ (n : ℕ). drop (n - rest) (reverse (drop floor operands))) (length-drop floor operands) ∙ ap (λ (n : ℕ). drop n (reverse (drop floor operands))) all

-- so many operands go from the top
pub forgets : (k : Kept) (below : List Kept) (locals : List Local) (operands : List Word) (count : ℕ) → k.floor ≤ length operands
    → count ≤ length operands - k.floor
    → stacked k below locals (take (length operands - count) operands) ≡ forgotten count (stacked k below locals operands)
forgets k below locals operands count low le =
    let none : count + 0 ≡ count = omega arith in
    let same : length operands - count ≡ length operands - count - 0 = omega arith in
    let left : reverse (drop k.floor (take (length operands - count) operands)) ≡ drop count (reverse (drop k.floor operands)) =
    ap (λ (n : ℕ). reverse (drop k.floor (take n operands))) same
    ∙ left_waiting operands k.floor count 0 low (omega arith) ∙ ap (λ (n : ℕ). drop n (reverse (drop k.floor operands))) none in
    rw (left, take-take k.floor (length operands - count) operands (omega arith)) refl

-- those that it takes
taken_first : (operands : List Word) (floor count : ℕ) → floor ≤ length operands → count ≤ length operands - floor
    → reverse (take count (reverse (drop floor operands))) ≡ drop (length operands - count) operands
taken_first operands floor count low le =
    let size : length (reverse (drop floor operands)) ≡ length operands - floor = length-reverse (drop floor operands) ∙ length-drop floor operands in
    let same : floor + (length operands - floor - count) ≡ length operands - count = omega arith in
    reverse_take count (reverse (drop floor operands)) ∙ ap (λ (n : ℕ). drop (n - count) (reverse (reverse (drop floor operands)))) size
    ∙ ap (drop (length operands - floor - count)) (reverse-reverse (drop floor operands)) ∙ drop-drop (length operands - floor - count) floor operands
    ∙ ap (λ (n : ℕ). drop n operands) same

pub enters : (k new : Kept) (below : List Kept) (locals : List Local) (operands : List Word) (block : Block) (captures : List Local) (count under : ℕ)
    → Lie (k ∷ below) locals operands → count + under ≤ length operands - k.floor
    → new ≡ record { instrs = new.instrs; next = 0; code = new.code; base = length locals; floor = length operands - count - under; role = new.role }
    → new.instrs.now ≡ block.code
    → stacked new (k ∷ below) (locals ++ opened block.locals captures (drop (length operands - count) operands))
    (take (length operands - count - under) operands)
    ≡ entered new.code block captures count under new.role (stacked k below locals operands)
enters k new below locals operands block captures count under lie le is code =
    let floor : k.floor ≤ length operands = lie.1 in
    let fit : count ≤ length operands - k.floor = omega arith in
    let all : length operands - count - under ≤ length operands - count - under = omega arith in
    let low : k.floor ≤ length operands - count - under = omega arith in
    let size : length (take (length operands - count - under) operands) ≡ length operands - count - under =
    length-take-le (length operands - count - under) operands (omega arith) in
    let none : drop (length operands - count - under) (take (length operands - count - under) operands) ≡ [] =
    drop_of_length-le (take (length operands - count - under) operands) (omega arith) in
    rw (
      is,
      code,
      none,
      drop-append_seam locals (opened block.locals captures (drop (length operands - count) operands)),
      take-append_seam locals (opened block.locals captures (drop (length operands - count) operands)),
      take-take (length operands - count - under) (length operands - count - under) operands all,
      take-take k.floor (length operands - count - under) operands low,
      left_waiting operands k.floor count under floor le,
      taken_first operands k.floor count floor fit,
    ) refl

pub extends_resized : {A : Type 0} (old captures more filled before new : List A) (n : ℕ) → before ≡ (old ++ captures) ++ more → length before ≤ n
    → new ≡ take n before ++ filled → Extends old new
extends_resized old captures more filled before new n was le is = (
  captures ++ (more ++ filled),
  is ∙ ap (λ xs. xs ++ filled) (take_all n before le ∙ was) ∙ append_assoc (old ++ captures) more filled ∙
      append_assoc old captures (more ++ filled),
)

-- what lies within a list lies as well within a longer one
pub part_stays : {A : Type 0} (captured all found : List A) (first count : ℕ) → Extends captured all → first + count ≤ length captured
    → found ≡ take count (drop first captured) → take count (drop first all) ≡ found
part_stays captured all found first count more le is =
    ap (λ xs. take count (drop first xs)) more.1 ∙ ap (take count) (drop-append-le first captured more.0 (omega arith))
    ∙ take-append-le count (drop first captured) more.0 (omega (arith, length-drop first captured)) ∙ sym is
