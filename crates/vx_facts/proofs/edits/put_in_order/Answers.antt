use Rattle.std.proofs.Common.{sym, subst}
use Rattle.std.proofs.lemmas.List.Filters.{dedup_is}
use Rattle.std.proofs.lemmas.List.Kept.{IsStrictlySortedBy-dedup}
use Rattle.std.specs.List.Sorted.{IsStrictlySortedBy}
use Rattle.vx_node.specs.contracts.node.FactOrd.TheImpl.Laws.{matches_eq-law}
use Rattle.vx_node.specs.contracts.node.FactEq.TheImpl.Laws.{laws-law}
use Rattle.vx_node.specs.contracts.node.FactPartialEq.TheImpl.{eq-value}
use Rattle.vx_lists.specs.Members.{IsIn}
use Rattle.vx_facts.specs.Differences.{fact_cmp}
use Rattle.vx_facts.proofs.InOrder.{facts_total, in_order}
use Rattle.vx_facts.proofs.edits.put_in_order.Goals as goal

pub returns-clause-same : goal.returns-clause-same
returns-clause-same c one =
    let is = dedup_is eq-value.it c.sort_unstable.new.self.items c.dedup.new.self.items c.dedup.ensures.filtered in
    let same = in_order eq-value.it matches_eq-law laws-law c.args.facts.now.items c.sort_unstable.new.self.items c.sort_unstable.ensures.permutation one in
    (λ i. subst (IsIn one) (sym is) (same.0 i), λ i. same.1 (subst (IsIn one) is i))

pub returns-clause-order : goal.returns-clause-order
returns-clause-order c =
    subst (IsStrictlySortedBy fact_cmp) (sym (dedup_is eq-value.it c.sort_unstable.new.self.items c.dedup.new.self.items c.dedup.ensures.filtered))
    (IsStrictlySortedBy-dedup facts_total matches_eq-law c.sort_unstable.new.self.items c.sort_unstable.ensures.sorted)
