use Rattle.std.proofs.Common.{◌≡◌, ℕ, ◌&&◌, false, sym, ap, ◌∙◌, List, Option}
use Rattle.std.specs.Prelude.{bit_and}
use Rattle.std.specs.List.{list_all}
use Rattle.vx_tables.specs.Masks.{has, is_below, is_left}
use Rattle.vx_tables.proofs.Bits.{has_and, nothing_left, something_left}
use Rattle.vx_tables.proofs.picking.pick_left.Goals as goal

-- what counts and is left
both_left : (beats masks : List ℕ) (below : Option ℕ) (all left i : ℕ) → has all i ≡ is_below beats below i
    → has left i ≡ list_all (λ mask. has mask i) masks → has (bit_and all left) i ≡ is_left beats masks below i
both_left beats masks below all left i one other = has_and all left i ∙ ap (λ b. b && has left i) one ∙ ap (λ b. is_below beats below i && b) other

-- no row past the end counts
none_past : (all left i : ℕ) → has all i ≡ false → has (bit_and all left) i ≡ false
none_past all left i none = has_and all left i ∙ ap (λ b. b && has left i) none

pub returns-then-left-eq0 : goal.returns-then-left-eq0
returns-then-left-eq0 c = λ masks same. nothing_left c.args.beats.now masks c.args.below (λ i lt.
    ap (λ (n : ℕ). has n i) (sym c.if-left-eq0.true)
    ∙ both_left c.args.beats.now masks c.args.below c.counted.result c.args.left i (c.counted.ensures.bits i lt) (same i lt))

pub returns : goal.returns
returns c = λ masks same. c.scan.ensures ∙ something_left c.args.beats.now masks c.args.below (bit_and c.counted.result c.args.left)
    (λ i lt. both_left c.args.beats.now masks c.args.below c.counted.result c.args.left i (c.counted.ensures.bits i lt) (same i lt))
    (λ i le. none_past c.counted.result c.args.left i (c.counted.ensures.above i le))
    c.if-left-eq0.false
