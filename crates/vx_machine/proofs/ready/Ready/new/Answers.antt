use Rattle.std.proofs.Common.{◌∙◌, sym}
use Rattle.vx_machine.proofs.Fine.{all_rise, fine}
use Rattle.vx_machine.proofs.ready.Ready.new.Goals as goal

pub invariant_of-result : goal.invariant_of-result
invariant_of-result c = record {
  fine = fine c.names_are_names.ensures c.requires.0 c.args.image.now c.requires.1;
  beaten = rw c.as_slice-tables.ensures at c.in_ok-beats.ensures;
  rising = λ yes. all_rise c.args.image.now (rw c.as_slice-tables.ensures at (sym c.all_rise-rise.ensures ∙ yes));
}
