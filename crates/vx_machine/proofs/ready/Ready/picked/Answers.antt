use Rattle.std.proofs.Common.{◌≤◌, ap, ◌∙◌, ℕ, List, length, map, arith}
use Rattle.std.specs.List.{list_all}
use Rattle.std.proofs.lemmas.List.{length-map}
use Rattle.std.proofs.lemmas.Option.{get_or_from_slice_get}
use Rattle.vx_tables.specs.Masks.{has, picked}
use Rattle.vx_format.specs.declared.image.Position.{Position}
use Rattle.vx_places.specs.Dispatch.{masks_of}
use Rattle.vx_machine.specs.Meaning.{things_of, value_of}
use Rattle.vx_machine.proofs.Testing.{beats_kept}
use Rattle.vx_machine.proofs.ready.Ready.picked.Goals as goal

pub returns : goal.returns
returns c = λ texts.
    let own : List ℕ = map (λ row. row.beats) c.args.table.now.rows in
    let table = rw (← c.self.view_is) at c.requires.table in
    let there = beats_kept c.self.inside.image.now c.args.t c.args.table.now c.self.inside.beats c.self.invariant.beaten table in
    let beats = c.as_slice.ensures ∙ (rw c.as_slice-beats.ensures at c.index-beats-t.is)
    ∙ get_or_from_slice_get c.self.inside.beats c.args.t own c.index-beats-t.result there in
    let rows : length c.args.table.now.rows ≤ 128 = c.self.invariant.fine.rows c.args.t c.args.table.now table in
    let few : length c.as_slice.result.now ≤ 128 = rw (beats, length-map c.args.table.now.rows) rows in
    let masks : List Position → List ℕ = λ positions. masks_of c.self.inside.image.now (things_of texts c.args.objects.now)
    (map (value_of texts) c.args.words.now) positions in
    rw (← c.self.view_is) (c.pick_left.ensures (masks c.args.table.now.positions) (λ i lt. c.in_ok-left.ensures texts i (omega (arith, few, lt))
    ∙ ap (λ (positions : List Position). list_all (λ mask. has mask i) (masks positions)) c.as_slice-positions.ensures)
    ∙ ap (λ (rows : List ℕ). picked rows (masks c.args.table.now.positions) c.args.below) beats)
