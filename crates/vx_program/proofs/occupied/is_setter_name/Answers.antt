use Rattle.std.proofs.Common.{◌≡◌, true, sym, ◌∙◌, take, codes, rules}
use Rattle.std.specs.Str.{bytes_eq}
use Rattle.vx_program.proofs.FieldKeys.{setter_name}
use Rattle.vx_program.proofs.occupied.is_setter_name.Goals.{then-name-own, else-name-own}
use Rattle.vx_program.proofs.occupied.is_setter_name.Goals as goal

pub returns-then-eq : goal.returns-then-eq
returns-then-eq c = elim c.if-name-own.branch [
  | then-name-own w ↦
      let prefix : bytes_eq (take 4 c.args.name.now) (codes "set_") ≡ true = search rules in
      setter_name c.args.own.now c.args.name.now c.eq-then-eq.result prefix c.eq-then-eq.ensures
  | else-name-own w ↦ let same = sym w.value-is ∙ c.if-eq.true in absurd (w.if-name-own.false (search rules))
]
