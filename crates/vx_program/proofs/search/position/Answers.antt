use Rattle.std.proofs.Common.{◌<◌, length, refl, sym, ap, ◌∙◌, arith}
use Rattle.std.proofs.lemmas.Option.{slice_get_read, slice_get_within, get_or_from_slice_get}
use Rattle.vx_program.specs.Program.{has_key}
use Rattle.vx_program.proofs.Sought.{none_has}
use Rattle.vx_program.proofs.search.position.Goals as goal
use Rattle.vx_program.proofs.search.position.Goals.{else-place-decls-via-then-place-decls+else-has_key, else-place-decls-via-else-place-decls}

pub returns-else-place-decls-clause-found : goal.returns-else-place-decls-clause-found
returns-else-place-decls-clause-found c = none_has c.args.decls.now c.requires c.args.key.now c.place_of-place.result c.place_of-place.ensures (λ decl e.
    elim c.else-place-decls.branch [
      | else-place-decls-via-then-place-decls+else-has_key w ↦
          let same = get_or_from_slice_get c.args.decls.now c.place_of-place.result decl w.index-decls-place.result e in
          ap (has_key c.args.key.now) (sym (w.index-decls-place.is ∙ same)) ∙ sym w.has_key.ensures ∙ w.if-has_key.false
      | else-place-decls-via-else-place-decls w ↦
          let within : c.place_of-place.result < length c.args.decls.now = slice_get_within c.args.decls.now c.place_of-place.result decl e in
          absurd (omega arith)
    ])

pub returns-then-has_key-clause-found : goal.returns-then-has_key-clause-found
returns-then-has_key-clause-found c =
    let decl = c.index-decls-place.result in
    let inside : c.place_of-place.result < length c.args.decls.now = omega arith in
    record {
      at = c.place_of-place.ensures;
      inside = inside;
      decl = decl;
      stands = slice_get_read c.args.decls.now (length c.args.decls.now) c.place_of-place.result decl refl inside c.index-decls-place.is;
      has = sym c.has_key.ensures ∙ c.if-has_key.true;
    }
