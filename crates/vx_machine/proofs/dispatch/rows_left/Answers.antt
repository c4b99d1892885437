use Rattle.std.proofs.Common.{◌≡◌, ◌∙◌, ◌∷◌, ◌+◌, ◌<◌, ◌≤◌, ℕ, Bool, suc, max, length, List, Option, ap, sym, drop, map, arith}
use Rattle.std.specs.Option.{option_copied}
use Rattle.std.specs.Prelude.{◌&&◌, slice_get}
use Rattle.std.specs.List.{list_all}
use Rattle.std.proofs.Math.Bool.{and-true}
use Rattle.std.proofs.Math.Numerals.{suc-eq-add-one}
use Rattle.vx_format.specs.declared.image.Position.{Position}
use Rattle.vx_tables.specs.Masks.{has}
use Rattle.vx_tables.proofs.Bits.{has_first}
use Rattle.vx_places.specs.Dispatch.{masks_of}
use Rattle.vx_machine.specs.declared.word.Word.{Word}
use Rattle.vx_machine.specs.Masks.{mask_one}
use Rattle.vx_machine.specs.Meaning.{things_of, value_of}
use Rattle.vx_machine.proofs.Testing.{masks_end, masks_next, rows_next}
use Rattle.vx_machine.proofs.dispatch.rows_left.Goals as goal

pub loop-i-init : goal.loop-i-init
loop-i-init c = λ texts row lt. ap (λ (b : Bool). b && list_all (λ mask. has mask row)
    (masks_of c.args.image.now (things_of texts c.args.objects.now) (map (value_of texts) c.args.words.now) c.args.positions.now)) (has_first 128 row lt)

pub loop-i-preserved : goal.loop-i-preserved
loop-i-preserved c = λ texts row few.
    let lt : c.loop-i.i < max (length c.args.words.now) (length c.args.positions.now) = omega (arith, c.max-count.ensures, c.loop-i-test.true) in
    let from : ℕ → List ℕ = λ i. masks_of c.args.image.now (things_of texts c.args.objects.now) (map (value_of texts) (drop i c.args.words.now))
    (drop i c.args.positions.now) in
    let mask : c.in_ok-left.field-0 ≡ mask_one c.args.image.now texts c.args.objects.now (slice_get c.args.words.now c.loop-i.i)
    (slice_get c.args.positions.now c.loop-i.i) =
    c.in_ok-left.ensures texts
    ∙ ap (λ (word : Option Word). mask_one c.args.image.now texts c.args.objects.now word (option_copied c.at.result)) c.taken-word.ensures
    ∙ ap (λ (position : Option Position). mask_one c.args.image.now texts c.args.objects.now (slice_get c.args.words.now c.loop-i.i) position) c.at.ensures in
    let next : from c.loop-i.i ≡ c.in_ok-left.field-0 ∷ from (c.loop-i.i + 1) =
    masks_next c.args.image.now texts c.args.objects.now c.args.words.now c.args.positions.now c.loop-i.i lt
    ∙ ap (λ (m : ℕ). m ∷ from (suc c.loop-i.i)) (sym mask)
    ∙ ap (λ (i : ℕ). c.in_ok-left.field-0 ∷ from i) (suc-eq-add-one c.loop-i.i) in
    rows_next (from c.loop-i.i) (from (c.loop-i.i + 1)) c.loop-i.left c.in_ok-left.field-0 row next ∙ c.loop-i.invariant texts row few

pub returns : goal.returns
returns c = λ texts row few.
    let le : max (length c.args.words.now) (length c.args.positions.now) ≤ c.loop-i.i = omega (arith, c.max-count.ensures, c.loop-i-test.false) in
    sym (and-true (has c.loop-i.left row))
    ∙ ap (λ (masks : List ℕ). has c.loop-i.left row && list_all (λ mask. has mask row) masks)
    (sym (masks_end c.args.image.now texts c.args.objects.now c.args.words.now c.args.positions.now c.loop-i.i le))
    ∙ c.loop-i.invariant texts row few
