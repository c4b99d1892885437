use Rattle.std.proofs.Common.{◌≡◌, ℕ, ◌+◌, ◌-◌, ◌^◌, min, sum_by, count_by, ap, ◌∙◌}
use Rattle.vx_syntax.specs.Counts.{capped}
use Rattle.vx_program.specs.Prelude.{primitive_keys}
use Rattle.vx_program.specs.Program.{is_method_of, methods_made}
use Rattle.vx_program.proofs.Lookups.{counted_on, methods_between}
use Rattle.vx_program.proofs.counts.methods_of.Goals as goal

pub returns : goal.returns
returns c =
    let selector = c.args.selector.now in
    let given : ℕ = count_by (is_method_of selector) primitive_keys in
    let in_front : ℕ = sum_by (methods_made selector) c.args.front.now + given in
    let shown : c.counted-in_front.result ≡ capped in_front = c.counted-in_front.ensures given c.methods_of.ensures in
    let with_it : c.saturating_add-with_it.result ≡ capped (in_front + methods_made selector c.args.decl.now) =
    c.saturating_add-with_it.ensures ∙ ap (λ m. min (c.counted-in_front.result + m) (2 ^ 64 - 1)) c.methods_made.ensures
    ∙ counted_on c.counted-in_front.result in_front (methods_made selector c.args.decl.now) shown in
    c.counted.ensures (in_front + methods_made selector c.args.decl.now) with_it
    ∙ ap capped (methods_between c.args.front.now c.args.behind.now c.args.decl.now selector given)
