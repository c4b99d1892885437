use Rattle.vx_compute.proofs.ToldPlain.{facts_told, rank_told, made_of, has_rank}
use Rattle.vx_compute.proofs.whole.compute_plain.Goals as goal

pub returns : goal.returns
returns g c =
    let is = c.declarations-decls.ensures.program in
    let program = c.args.program.now in
    made_of _ program is c.args.node.now c.compute-made.result _ _
    (c.plain_asker-asker.ensures _ (facts_told program) (rank_told program is 1) (rank_told program is 2) (rank_told program is 3))
    tt (has_rank c.args.node.now c.requires.found_out) c.compute-made.ensures.computes
