-- The order of nodes: by number, and then by their parts.
use Rattle.std.proofs.Common.{ℕ, List, [], ap, refl}
use Rattle.std.specs.Hash as fed
use Rattle.std.proofs.lemmas.Map.Lookups.{CmpEqualImpliesEq, exact_bytes}
use Rattle.std.specs.declared.cmp.Ordering.{Ordering}
use Rattle.std.specs.Ordering.{nat_cmp, on, then_cmp}
use Rattle.std.specs.Cmp.{IsTotalOrder, then_total, on_total, nat_cmp_total}
use Rattle.std.specs.Cmp.Lexicographic.{slice_cmp, lists_total, nat_list_cmp_total}
use Rattle.vx_names.specs.Key.{name_cmp}
use Rattle.vx_names.specs.KeyLaws.{lists_apart}
use Rattle.vx_node.specs.contracts.node.InfoHash.TheImpl.{hash_input-value}
use Rattle.vx_node.specs.declared.node.Info.{Info}
use Rattle.vx_node.specs.declared.node.Info.TheVariants as i

-- any goes before a cone, and a cone before a class
abbrev pub info_rank : Info → ℕ
info_rank i.Any = 0
info_rank (i.Cone x) = 1
info_rank (i.Exact x) = 2

abbrev pub info_name : Info → List ℕ
info_name i.Any = []
info_name (i.Cone x) = x
info_name (i.Exact x) = x

abbrev pub info_cmp : Info → Info → Ordering
info_cmp = then_cmp (on info_rank nat_cmp) (on info_name name_cmp)

abbrev pub infos_cmp : List Info → List Info → Ordering
infos_cmp = slice_cmp info_cmp

pub info_total : IsTotalOrder info_cmp
info_total = then_total (on_total info_rank nat_cmp_total) (on_total info_name nat_list_cmp_total)

pub infos_total : IsTotalOrder infos_cmp
infos_total = lists_total info_total

info_apart : CmpEqualImpliesEq info_cmp
info_apart i.Any i.Any e = refl
info_apart (i.Cone x) (i.Cone y) e = ap i.Cone (exact_bytes x y e)
info_apart (i.Exact x) (i.Exact y) e = ap i.Exact (exact_bytes x y e)
info_apart x y e = absurd (cc)

pub infos_apart : CmpEqualImpliesEq infos_cmp
infos_apart = lists_apart info_apart

-- what they write to a hasher
abbrev pub infos_writes : List Info → fed.HashWrites
infos_writes = fed.slice hash_input-value.it
