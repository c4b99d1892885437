use Rattle.std.proofs.Common.{◌<◌, length, sym, ap, ◌∙◌, arith}
use Rattle.std.proofs.lemmas.Option.{slice_get_within, get_or_from_slice_get}
use Rattle.vx_program.specs.Program.{is_named}
use Rattle.vx_program.proofs.Sought.{none_named}
use Rattle.vx_program.proofs.search.position_of_name.Goals as goal
use Rattle.vx_program.proofs.search.position_of_name.Goals.{else-place-decls-via-then-place-decls+else-is_named, else-place-decls-via-else-place-decls}

pub returns-else-place-decls-clause-none : goal.returns-else-place-decls-clause-none
returns-else-place-decls-clause-none c = λ none. none_named c.args.decls.now c.requires c.args.x.now c.place_of-place.result c.place_of-place.ensures (λ decl e. elim c.else-place-decls.branch [
  | else-place-decls-via-then-place-decls+else-is_named w ↦
      let same = get_or_from_slice_get c.args.decls.now c.place_of-place.result decl w.index-decls-place.result e in
      ap (is_named c.args.x.now) (sym (w.index-decls-place.is ∙ same)) ∙ sym w.is_named.ensures ∙ w.if-is_named.false
  | else-place-decls-via-else-place-decls w ↦
      let within : c.place_of-place.result < length c.args.decls.now = slice_get_within c.args.decls.now c.place_of-place.result decl e in
      absurd (omega arith)
])
