use Rattle.std.proofs.Common.{sym, ◌∙◌}
use Rattle.std.proofs.lemmas.List.{take_rest}
use Rattle.vx_blocks.proofs.Places.{next_line, search_goes_on, end_is_found, all_searched, no_end}
use Rattle.vx_blocks.proofs.lines.find_end_line.Goals as goal

pub returns-then-is_end_line : goal.returns-then-is_end_line
returns-then-is_end_line c =
    let at = next_line c.args.bytes.now c.loop-place.line c.loop-place.searched c.in-Some.place c.loop-place.invariant (rw take_rest at (sym c.first_break.ensures ∙ c.in-Some.is)) in
    end_is_found _ _ _ _ c.loop-place.invariant at (sym c.is_end_line.ensures ∙ c.if-is_end_line.true)

pub loop-place-preserved : goal.loop-place-preserved
loop-place-preserved c =
    let at = next_line c.args.bytes.now c.loop-place.line c.loop-place.searched c.in-Some.place c.loop-place.invariant (rw take_rest at (sym c.first_break.ensures ∙ c.in-Some.is)) in
    search_goes_on _ _ _ _ c.loop-place.invariant at (sym c.is_end_line.ensures ∙ c.if-is_end_line.false)

pub returns : goal.returns
returns c =
    let all = all_searched c.args.bytes.now c.loop-place.line c.loop-place.searched c.loop-place.invariant (rw take_rest at (sym c.first_break.ensures ∙ c.in_default.is)) in
    (no_end _ _ all, all)
