use Rattle.std.proofs.Common.{◌≡◌, ◌↔◌, true, drop}
use Rattle.std.specs.List.{AllByRecursion}
use Rattle.vx_syntax.specs.Words.{is_printable}
use Rattle.vx_program.proofs.words.are_printable.Given as goal

abbrev pub invariant-loop-byte : goal.invariant-loop-byte
invariant-loop-byte l = AllByRecursion (λ b. is_printable b ≡ true) l.bytes ↔ AllByRecursion (λ b. is_printable b ≡ true) (drop l.byte-index l.bytes)
