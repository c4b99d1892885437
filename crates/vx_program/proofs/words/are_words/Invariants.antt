use Rattle.std.proofs.Common.{◌↔◌, drop}
use Rattle.std.specs.List.{AllByRecursion}
use Rattle.vx_syntax.specs.Words.{IsWord}
use Rattle.vx_program.proofs.words.are_words.Given as goal

abbrev pub invariant-loop-name : goal.invariant-loop-name
invariant-loop-name l = AllByRecursion IsWord l.names ↔ AllByRecursion IsWord (drop l.name-index l.names)
