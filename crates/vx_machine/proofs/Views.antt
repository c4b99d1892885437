-- What contracts see of a machine.
use Rattle.vx_machine.specs.declared.machine.Machine.TheInside.{Inside}
use Rattle.vx_machine.specs.Meaning.{Kept}

abbrev pub kept_of : Inside → Kept
kept_of m = record {
  stacked = m.activations;
  objects = m.objects.items;
  cells = m.cells.items;
  closures = m.closures.items;
  captured = m.captured.items;
  texts = m.texts;
  next = m.next;
  lines = m.lines.items;
}
