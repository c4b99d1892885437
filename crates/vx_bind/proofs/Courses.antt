-- What is left of a binding's questioning, part by part.
use Rattle.std.proofs.Common.{◌≡◌, List, Option, sym, subst}
use Rattle.vx_names.specs.declared.key.Selector.{Selector}
use Rattle.vx_names.specs.declared.key.MethodKey.{MethodKey}
use Rattle.vx_syntax.specs.Expressions.{Bytes}
use Rattle.vx_node.specs.declared.node.NodeId.TheVariants as node
use Rattle.vx_node.specs.declared.node.Filter.{Filter}
use Rattle.vx_node.specs.declared.node.Filter.TheVariants as filters
use Rattle.vx_node.specs.declared.node.Info.{Info}
use Rattle.vx_node.specs.declared.kind.Kind.{Kind}
use Rattle.vx_node.specs.declared.answer.Bound.{Bound}
use Rattle.vx_node.specs.declared.trace.Step.{Step}
use Rattle.vx_node.specs.declared.asker.Halt.{Halt}
use Rattle.vx_node.specs.Asking.{Asking, gives, asks, each}
use Rattle.vx_node.specs.Askers.{Manner, Goes, Stops}
use Rattle.vx_node.proofs.Leaving.{goes_within, stops_within}
use Rattle.vx_compilation.specs.Readings.{ask_heads, ask_base}
use Rattle.vx_compilation.specs.Binding.{bind}
use Rattle.vx_answers.specs.SendRows.{About, about, beside, bind_among, bind_row, cones_asked, info_objects, names_in, order_of, specialisers_of}
use Rattle.vx_walks.proofs.Reading.{read_as}

-- ---- one name

-- what is left once the base was told
abbrev pub with_up : Bytes → Option Bytes → Asking About
with_up x base = asks (node.Filter (filters.Up x)) (λ up. gives (record { name = x; base = base; up = names_in up }))

pub base_told : {S : Type 0} {manner : Manner S} {old new : S} {before after : List Step} (x : Bytes) (base : Option Bytes) →
    Goes manner (ask_base x gives) (gives base) old before new after → Goes manner (about x) (with_up x base) old before new after
base_told x base goes = goes_within (with_up x) goes

pub base_untold : {S : Type 0} {manner : Manner S} {old new : S} {before after : List Step} {halt : Halt} (x : Bytes) →
    Stops manner (ask_base x gives) halt old before new after → Stops manner (about x) halt old before new after
base_untold x stopped = stops_within (with_up x) stopped

abbrev with_names : Bytes → Option Bytes → List Bytes → Asking About
with_names x base up = gives (record { name = x; base = base; up = up })

pub up_told : {S : Type 0} {manner : Manner S} {old new : S} {before after : List Step} (x own : Bytes) (base : Option Bytes) (up : List Bytes)
    (one : About) → own ≡ x → one ≡ record { name = own; base = base; up = up } →
    Goes manner (read_as (node.Filter (filters.Up x)) names_in) (gives up) old before new after → Goes manner (with_up x base) (gives one) old before new after
up_told {manner = manner} {old = old} {new = new} {before = before} {after = after} x own base up one same is goes =
    subst (λ a. Goes manner (with_up x base) (gives a) old before new after) (sym is)
    (subst (λ name. Goes manner (with_up x base) (with_names name base up) old before new after) (sym same) (goes_within (with_names x base) goes))

pub up_untold : {S : Type 0} {manner : Manner S} {old new : S} {before after : List Step} {halt : Halt} (x : Bytes) (base : Option Bytes) →
    Stops manner (read_as (node.Filter (filters.Up x)) names_in) halt old before new after → Stops manner (with_up x base) halt old before new after
up_untold x base stopped = stops_within (with_names x base) stopped

abbrev beside_it : Bytes → List Bytes → Asking (Bytes × List Bytes)
beside_it x names = gives (x, names)

pub beside_told : {S : Type 0} {manner : Manner S} {old new : S} {before after : List Step} (asked : Bytes → Filter) (x own : Bytes) (names : List Bytes) →
    own ≡ x → Goes manner (read_as (node.Filter (asked x)) names_in) (gives names) old before new after →
    Goes manner (beside asked x) (gives (own, names)) old before new after
beside_told {manner = manner} {old = old} {new = new} {before = before} {after = after} asked x own names same goes =
    subst (λ name. Goes manner (beside asked x) (beside_it name names) old before new after) (sym same) (goes_within (beside_it x) goes)

pub beside_untold : {S : Type 0} {manner : Manner S} {old new : S} {before after : List Step} {halt : Halt} (asked : Bytes → Filter) (x : Bytes) →
    Stops manner (read_as (node.Filter (asked x)) names_in) halt old before new after → Stops manner (beside asked x) halt old before new after
beside_untold asked x stopped = stops_within (beside_it x) stopped

-- ---- the whole

abbrev pub with_heads : List Info → Option MethodKey → List (MethodKey × Kind) → Asking Bound
with_heads infos below heads = bind_among heads infos below

pub heads_told : {S : Type 0} {manner : Manner S} {old new : S} {before after : List Step} (selector : Selector) (infos : List Info)
    (below : Option MethodKey) (heads : List (MethodKey × Kind)) → Goes manner (ask_heads selector gives) (gives heads) old before new after →
    Goes manner (bind_row selector infos below) (bind_among heads infos below) old before new after
heads_told selector infos below heads goes = goes_within (with_heads infos below) goes

pub heads_untold : {S : Type 0} {manner : Manner S} {old new : S} {before after : List Step} {halt : Halt} (selector : Selector) (infos : List Info)
    (below : Option MethodKey) → Stops manner (ask_heads selector gives) halt old before new after →
    Stops manner (bind_row selector infos below) halt old before new after
heads_untold selector infos below stopped = stops_within (with_heads infos below) stopped

-- what is left once all was told, and before the cones were, and before the names above the objects of infos were
abbrev pub with_cones : List (MethodKey × Kind) → List Info → Option MethodKey → List About → (ups cones : List (Bytes × List Bytes)) → Asking Bound
with_cones heads infos below abouts ups cones = gives (bind (order_of abouts ups cones) heads infos below)

abbrev pub with_ups : List (MethodKey × Kind) → List Info → Option MethodKey → List About → List (Bytes × List Bytes) → Asking Bound
with_ups heads infos below abouts ups =
    each (beside filters.Cone) (cones_asked abouts (specialisers_of heads below) 0 infos) (with_cones heads infos below abouts ups)

abbrev pub with_abouts : List (MethodKey × Kind) → List Info → Option MethodKey → List About → Asking Bound
with_abouts heads infos below abouts = each (beside filters.Up) (info_objects infos) (with_ups heads infos below abouts)
