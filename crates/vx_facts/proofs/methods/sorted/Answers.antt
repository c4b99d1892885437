use Rattle.std.proofs.Common.{◌≡◌, List, insert, sym, ap, subst, ◌∙◌}
use Rattle.vx_names.specs.declared.key.MethodKey.{MethodKey}
use Rattle.vx_compilation.specs.Compiled.{inserted}
use Rattle.vx_facts.proofs.Sorting.{all_inserted, last_inserted, all_sorted}
use Rattle.vx_facts.proofs.methods.sorted.Goals as goal

pub loop-key-init : goal.loop-key-init
loop-key-init c = ap (all_inserted c.args.keys) c.new-found.ensures.items ∙ all_sorted c.args.keys

pub loop-key-preserved : goal.loop-key-preserved
loop-key-preserved c =
    let place : inserted c.in-Some.key c.loop-key.found.items ≡ insert c.loop-key.found.items c.place_for-place.result c.in-Some.key =
    subst (λ (keys : List MethodKey). inserted c.in-Some.key keys ≡ insert keys c.place_for-place.result c.in-Some.key) c.as_slice.ensures.value
    c.place_for-place.ensures.place in
    ap (all_inserted c.pop.new.self) (c.in_ok-insert.ensures.items ∙ sym place)
    ∙ sym (last_inserted c.pop.new.self c.in-Some.key c.loop-key.found.items)
    ∙ ap (λ keys. all_inserted keys c.loop-key.found.items) (sym c.in-Some.ensures)
    ∙ c.loop-key.invariant
