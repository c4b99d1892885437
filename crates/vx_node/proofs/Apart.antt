-- No two nodes are told to be the same by their order.
use Rattle.std.proofs.Common.{[], ap, refl, ◌≡◌, ◌∙◌, Option, Some, None}
use Rattle.std.specs.Ordering.{ordering_then, nat_cmp}
use Rattle.std.specs.declared.cmp.Ordering.{Ordering}
use Rattle.std.specs.declared.cmp.Ordering.TheVariants.{Less, Equal, Greater}
use Rattle.std.proofs.lemmas.Map.Lookups.{CmpEqualImpliesEq, exact_unsigned, exact_bytes}
use Rattle.vx_names.specs.declared.key.MethodKey.{MethodKey}
use Rattle.vx_names.specs.Key.{name_cmp, selector_cmp, method_key_cmp}
use Rattle.vx_names.specs.KeyLaws.{both_equal, selectors_apart, method_keys_apart}
use Rattle.vx_node.specs.declared.node.NodeId.TheVariants as n
use Rattle.vx_node.specs.declared.node.Fact.{Fact}
use Rattle.vx_node.specs.declared.node.Fact.TheVariants as fact
use Rattle.vx_node.specs.declared.node.Filter.{Filter}
use Rattle.vx_node.specs.declared.node.Filter.TheVariants as f
use Rattle.vx_node.specs.declared.node.Target.{Target}
use Rattle.vx_node.specs.declared.node.Target.TheVariants as target
use Rattle.vx_node.specs.declared.node.Variant.TheVariants as variant
use Rattle.vx_node.specs.Order.{infos_cmp, infos_apart}
use Rattle.vx_node.specs.Nodes.{node_cmp}

-- the messages below which a message is bound, compared within a node
abbrev below_cmp : Option MethodKey → Option MethodKey → Ordering
below_cmp x y = node_cmp (n.Filter (f.Bind (record { name = []; arity = 0 }) [] x)) (n.Filter (f.Bind (record { name = []; arity = 0 }) [] y))

belows : (x y : Option MethodKey) → below_cmp x y ≡ Equal → x ≡ y
belows None None e = refl
belows (Some x) (Some y) e = ap Some (method_keys_apart x y e)
belows x y e = absurd (cc)

facts : (x y : Fact) → node_cmp (n.Fact x) (n.Fact y) ≡ Equal → x ≡ y
facts (fact.Decl x) (fact.Decl y) e = ap fact.Decl (exact_bytes x y e)
facts (fact.Children x) (fact.Children y) e = ap fact.Children (exact_bytes x y e)
facts (fact.There x) (fact.There y) e = ap fact.There (exact_bytes x y e)
facts (fact.Heads x) (fact.Heads y) e = ap fact.Heads (selectors_apart x y e)
facts (fact.Body x) (fact.Body y) e = ap fact.Body (method_keys_apart x y e)
facts (fact.Fields x) (fact.Fields y) e = ap fact.Fields (exact_bytes x y e)
facts x y e = absurd (cc)

filters : (x y : Filter) → node_cmp (n.Filter x) (n.Filter y) ≡ Equal → x ≡ y
filters (f.Up x) (f.Up y) e = ap f.Up (exact_bytes x y e)
filters (f.Cone x) (f.Cone y) e = ap f.Cone (exact_bytes x y e)
filters (f.Base x) (f.Base y) e = ap f.Base (exact_bytes x y e)
filters (f.Slots x) (f.Slots y) e = ap f.Slots (exact_bytes x y e)
filters (f.Field x k) (f.Field y l) e =
    let p = both_equal (name_cmp x y) (name_cmp k l) e in
    ap (λ z. f.Field z k) (exact_bytes x y p.0) ∙ ap (λ z. f.Field y z) (exact_bytes k l p.1)
filters (f.Inline x) (f.Inline y) e = ap f.Inline (method_keys_apart x y e)
filters (f.Bind r is x) (f.Bind s js y) e =
    let p = both_equal (selector_cmp r s) (ordering_then (infos_cmp is js) (below_cmp x y)) e in
    let q = both_equal (infos_cmp is js) (below_cmp x y) p.1 in
    ap (λ z. f.Bind z is x) (selectors_apart r s p.0) ∙ ap (λ z. f.Bind s z x) (infos_apart is js q.0) ∙ ap (λ z. f.Bind s js z) (belows x y q.1)
filters (f.Clones x) (f.Clones y) e = ap f.Clones (method_keys_apart x y e)
filters x y e = absurd (cc)

targets : (x y : Target) → node_cmp (n.Target x) (n.Target y) ≡ Equal → x ≡ y
targets (target.Shape x) (target.Shape y) e = ap target.Shape (exact_bytes x y e)
targets (target.Test x) (target.Test y) e = ap target.Test (exact_bytes x y e)
targets (target.Table x) (target.Table y) e = ap target.Table (selectors_apart x y e)
targets (target.Code x variant.General) (target.Code y variant.General) e = ap (λ z. target.Code z variant.General) (method_keys_apart x y (both_equal (method_key_cmp x y) Equal e).0)
targets (target.Code x (variant.Clone p c)) (target.Code y (variant.Clone q d)) e =
    let r = both_equal (method_key_cmp x y) (ordering_then (nat_cmp p q) (name_cmp c d)) e in
    let s = both_equal (nat_cmp p q) (name_cmp c d) r.1 in
    ap (λ z. target.Code z (variant.Clone p c)) (method_keys_apart x y r.0) ∙ ap (λ z. target.Code y (variant.Clone z c)) (exact_unsigned p q s.0) ∙ ap (λ z. target.Code y (variant.Clone q z)) (exact_bytes c d s.1)
targets (target.Code x variant.General) (target.Code y (variant.Clone q d)) e = let r = both_equal (method_key_cmp x y) Less e in absurd (cc r.1)
targets (target.Code x (variant.Clone p c)) (target.Code y variant.General) e = let r = both_equal (method_key_cmp x y) Greater e in absurd (cc r.1)
targets x y e = absurd (cc)

pub nodes_apart : CmpEqualImpliesEq node_cmp
nodes_apart (n.Fact x) (n.Fact y) e = ap n.Fact (facts x y e)
nodes_apart (n.Filter x) (n.Filter y) e = ap n.Filter (filters x y e)
nodes_apart (n.Target x) (n.Target y) e = ap n.Target (targets x y e)
nodes_apart x y e = absurd (cc)
