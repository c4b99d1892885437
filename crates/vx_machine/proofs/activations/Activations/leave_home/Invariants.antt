use Rattle.std.proofs.Common.{◌≡◌, ◌∷◌, length}
use Rattle.vx_machine.specs.Cuts.{IsRest, below_home}
use Rattle.vx_machine.proofs.activations.Activations.leave_home.Given as goal

abbrev pub invariant-loop-self : goal.invariant-loop-self
invariant-loop-self l = record {
  found : below_home l.home (l.self.running ∷ l.self.waiting) ≡ below_home l.home (l.fn.self.running ∷ l.fn.self.waiting);
  rest : IsRest (l.fn.self.running ∷ l.fn.self.waiting) (l.self.running ∷ l.self.waiting);
}

abbrev pub decreases-loop-self : goal.decreases-loop-self
decreases-loop-self l = length l.self.waiting
