use Rattle.std.proofs.Common.{inl, inr}
use Rattle.vx_reader.proofs.laws.programs_are_read_back.Goals as goal

pub returns : goal.returns
returns c program decl is member outside = elim (is.written decl member) [
  | inl own ↦ absurd (outside own)
  | inr written ↦ c.canonical_additions_are_read.ensures decl written (is.depth decl member)
]
