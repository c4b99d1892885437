-- Which method a send finds, as far as it is known before the program runs (after class hierarchy analysis). It is over what is asked: the heads of the
-- selector, the bases of names, what is above them, and the plain objects below them.
use Rattle.std.specs.Prelude.{Bool, true, false, not, ◌&&◌, ◌||◌, List, [], ◌∷◌, filter, Option, Some, None, if◌then◌else◌}
use Rattle.std.specs.List.{find, list_all, list_any}
use Rattle.std.specs.Str.{bytes_eq}
use Rattle.vx_names.specs.declared.key.MethodKey.{MethodKey}
use Rattle.vx_syntax.specs.Expressions.{Bytes}
use Rattle.vx_syntax.specs.Declarations.{any}
use Rattle.vx_program.specs.Program.{is_name_of}
use Rattle.vx_node.specs.declared.node.Info.{Info}
use Rattle.vx_node.specs.declared.node.Info.TheVariants as i
use Rattle.vx_node.specs.declared.kind.Kind.{Kind}
use Rattle.vx_node.specs.declared.answer.Bound.{Bound}
use Rattle.vx_node.specs.declared.answer.Bound.TheVariants as b
use Rattle.vx_model.specs.Lookup.{differ, same_method}

pub record Order : Type 0 where
  pub base : Bytes → Option Bytes
  pub up : Bytes → List Bytes
  pub cone : Bytes → List Bytes

-- ---- specialisers

-- whether the second name is above the first; nothing is asked of `any`
abbrev pub is_over : Order → Bytes → Bytes → Bool
is_over order x y = if bytes_eq x any then bytes_eq y any else is_name_of (order.up x) y

abbrev pub are_over : Order → List Bytes → List Bytes → Bool
are_over order [] [] = true
are_over order [] (y ∷ ys) = false
are_over order (x ∷ xs) [] = false
are_over order (x ∷ xs) (y ∷ ys) = is_over order x y && are_over order xs ys

-- whether a method is more specific than another
abbrev pub goes_before : Order → MethodKey → MethodKey → Bool
goes_before order m k = are_over order m.specialisers k.specialisers && differ m.specialisers k.specialisers

-- whether a name has itself as its base, as plain objects have
abbrev pub is_plain : Order → Bytes → Bool
is_plain order x = elim (order.base x) [ Some y ↦ bytes_eq y x | None ↦ false ]

-- whether each value that fits the info counts as the specialiser
abbrev pub is_sure : Order → Info → Bytes → Bool
is_sure order i.Any x = bytes_eq x any
is_sure order (i.Cone c) x = bytes_eq x any || is_plain order x && is_name_of (order.up c) x
is_sure order (i.Exact c) x = bytes_eq x any || is_plain order x && is_name_of (order.up c) x

-- whether one could
abbrev pub is_possible : Order → Info → Bytes → Bool
is_possible order i.Any x = true
is_possible order (i.Cone c) x = bytes_eq x any || elim (order.base x) [ Some y ↦ list_any (is_name_of (order.cone y)) (order.cone c) | None ↦ false ]
is_possible order (i.Exact c) x = bytes_eq x any || elim (order.base x) [ Some y ↦ is_name_of (order.up c) y | None ↦ false ]

-- a property of each position
abbrev pub at_each : (Info → Bytes → Bool) → List Info → List Bytes → Bool
at_each test [] [] = true
at_each test [] (x ∷ xs) = false
at_each test (info ∷ infos) [] = false
at_each test (info ∷ infos) (x ∷ xs) = test info x && at_each test infos xs

-- ---- methods

-- whether a method counts below another, from which the send comes
abbrev pub is_candidate : Order → Option MethodKey → MethodKey × Kind → Bool
is_candidate order None head = true
is_candidate order (Some from) head = goes_before order from head.0

-- whether it is sure, and more specific than each other that is possible
abbrev pub is_bound_to : Order → List Info → List (MethodKey × Kind) → MethodKey × Kind → Bool
is_bound_to order infos heads head =
    at_each (is_sure order) infos head.0.specialisers && list_all (λ other.
    not (at_each (is_possible order) infos other.0.specialisers) || same_method head.0 other.0 || goes_before order head.0 other.0) heads

abbrev pub chosen : Option (MethodKey × Kind) → Bound
chosen (Some head) = b.One head.0 head.1
chosen None = b.Open

-- Nobody understands a selector without methods.
abbrev pub bind : Order → List (MethodKey × Kind) → List Info → Option MethodKey → Bound
bind order [] infos below = b.Nobody
bind order (head ∷ heads) infos below =
    chosen (find (is_bound_to order infos (filter (is_candidate order below) (head ∷ heads))) (filter (is_candidate order below) (head ∷ heads)))
