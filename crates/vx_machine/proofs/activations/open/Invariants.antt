use Rattle.std.proofs.Common.{◌≡◌, ◌++◌, map, take}
use Rattle.vx_machine.specs.declared.word.Local.TheVariants.{Plain}
use Rattle.vx_machine.proofs.activations.open.Given as goal

abbrev pub invariant-loop-local : goal.invariant-loop-local
invariant-loop-local l = l.locals.items ≡ l.initial.locals.items ++ take l.local-index l.captures

abbrev pub invariant-loop-word : goal.invariant-loop-word
invariant-loop-word l = l.locals.items ≡ (l.fn.locals.items ++ l.captures) ++ map (λ word. Plain word) (take l.word-index l.arguments)
