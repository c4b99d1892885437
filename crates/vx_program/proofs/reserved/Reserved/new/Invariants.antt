use Rattle.std.proofs.Common.{◌≡◌, map, take}
use Rattle.vx_syntax.specs.Keys.{key_of}
use Rattle.vx_program.proofs.reserved.Reserved.new.Given as goal

abbrev pub invariant-loop-decl : goal.invariant-loop-decl
invariant-loop-decl l = l.keys ≡ map key_of (take l.decl-index l.decl-items)
