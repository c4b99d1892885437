-- What is asked for bindings, inlining and clones. What comes of it is told by the definitions by which programs are compiled.
use Rattle.std.specs.Prelude.{ℕ, suc, nat_le, Bool, true, false, not, ◌&&◌, List, [], ◌∷◌, ◌++◌, length, filter, Option, Some, None, slice_get, if◌then◌else◌}
use Rattle.std.specs.List.{list_any}
use Rattle.std.specs.Str.{bytes_eq}
use Rattle.vx_names.specs.declared.key.Selector.{Selector}
use Rattle.vx_names.specs.declared.key.MethodKey.{MethodKey}
use Rattle.vx_syntax.specs.Expressions.{Bytes}
use Rattle.vx_syntax.specs.Declarations.{any}
use Rattle.vx_node.specs.declared.node.NodeId.TheVariants as node
use Rattle.vx_node.specs.declared.node.Filter.{Filter}
use Rattle.vx_node.specs.declared.node.Filter.TheVariants as filters
use Rattle.vx_node.specs.declared.node.Info.{Info}
use Rattle.vx_node.specs.declared.node.Info.TheVariants as i
use Rattle.vx_node.specs.declared.answer.Answer.{Answer}
use Rattle.vx_node.specs.declared.answer.Answer.TheVariants as answers
use Rattle.vx_node.specs.declared.kind.Kind.{Kind}
use Rattle.vx_node.specs.declared.answer.Bound.{Bound}
use Rattle.vx_node.specs.Asking.{Asking, gives, asks, followed, each}
use Rattle.vx_model.specs.Kinds.{Source}
use Rattle.vx_compilation.specs.Readings.{ask_heads, ask_base, ask_source_of, ask_bind}
use Rattle.vx_compilation.specs.Binding.{Order, bind}
use Rattle.vx_compilation.specs.Inlining.{inline}
use Rattle.vx_compilation.specs.Cloning.{Sending, sends_of, infos_for, is_name, is_open, is_one}
use Rattle.vx_answers.specs.OrderRows.{fresh}

-- an answer as the names that it holds
abbrev pub names_in : Answer → List Bytes
names_in (answers.Up names) = names
names_in (answers.Cone names) = names
names_in answer = []

-- ---- bindings

-- what was asked of a name: its base and the names above it
pub record About : Type 0 where
  pub name : Bytes
  pub base : Option Bytes
  pub up : List Bytes

abbrev pub about : Bytes → Asking About
about x = ask_base x (λ base. asks (node.Filter (filters.Up x)) (λ up. gives (record { name = x; base = base; up = names_in up })))

-- a name with the names of one answer, and those that stand beside a name
abbrev pub beside : (Bytes → Filter) → Bytes → Asking (Bytes × List Bytes)
beside asked x = asks (node.Filter (asked x)) (λ answer. gives (x, names_in answer))

abbrev pub of_name : Bytes → List (Bytes × List Bytes) → List Bytes
of_name x [] = []
of_name x ((own, names) ∷ rest) = if bytes_eq own x then names else of_name x rest

abbrev pub base_of : Bytes → List About → Option Bytes
base_of x [] = None
base_of x (one ∷ rest) = if bytes_eq one.name x then one.base else base_of x rest

abbrev pub ups_of : List About → List (Bytes × List Bytes)
ups_of [] = []
ups_of (one ∷ rest) = (one.name, one.up) ∷ ups_of rest

-- the order of names, as far as it was asked for
abbrev pub order_of : List About → (ups cones : List (Bytes × List Bytes)) → Order
order_of abouts ups cones = record { base = λ x. base_of x abouts; up = λ x. of_name x (ups_of abouts ++ ups); cone = λ x. of_name x cones }

-- the specialisers of each head, and of the method below which a message is bound
abbrev pub specialisers_of : List (MethodKey × Kind) → Option MethodKey → List (List Bytes)
specialisers_of [] None = []
specialisers_of [] (Some below) = below.specialisers ∷ []
specialisers_of (head ∷ heads) below = head.0.specialisers ∷ specialisers_of heads below

abbrev pub all_of : List (List Bytes) → List Bytes
all_of [] = []
all_of (xs ∷ rest) = xs ++ all_of rest

-- those other than any, each once
abbrev pub specialisers_asked : List (List Bytes) → List Bytes
specialisers_asked rows = fresh [] (filter (λ x. not (bytes_eq x any)) (all_of rows))

-- the objects that infos name
abbrev pub info_objects : List Info → List Bytes
info_objects [] = []
info_objects (i.Any ∷ infos) = info_objects infos
info_objects (i.Cone x ∷ infos) = x ∷ info_objects infos
info_objects (i.Exact x ∷ infos) = x ∷ info_objects infos

-- the bases of the specialisers at a position, and at each position that has a cone, that cone and those of the bases
abbrev pub with_base : Option Bytes → List Bytes → List Bytes
with_base None rest = rest
with_base (Some y) rest = y ∷ rest

abbrev pub base_at : List About → Option Bytes → Option Bytes
base_at abouts None = None
base_at abouts (Some x) = base_of x abouts

abbrev pub bases_at : List About → ℕ → List (List Bytes) → List Bytes
bases_at abouts place [] = []
bases_at abouts place (row ∷ rest) = with_base (base_at abouts (slice_get row place)) (bases_at abouts place rest)

abbrev pub cones_asked : List About → List (List Bytes) → ℕ → List Info → List Bytes
cones_asked abouts rows place [] = []
cones_asked abouts rows place (i.Any ∷ infos) = cones_asked abouts rows (suc place) infos
cones_asked abouts rows place (i.Exact x ∷ infos) = cones_asked abouts rows (suc place) infos
cones_asked abouts rows place (i.Cone x ∷ infos) = x ∷ bases_at abouts place rows ++ cones_asked abouts rows (suc place) infos

-- The base of each specialiser other than any and the names above it; the names above the objects of infos; and at a position with a cone, that cone
-- and those of the specialisers' bases.
abbrev pub bind_among : List (MethodKey × Kind) → List Info → Option MethodKey → Asking Bound
bind_among heads infos below =
    each about (specialisers_asked (specialisers_of heads below)) (λ abouts.
    each (beside filters.Up) (info_objects infos) (λ ups.
    each (beside filters.Cone) (cones_asked abouts (specialisers_of heads below) 0 infos) (λ cones.
    gives (bind (order_of abouts ups cones) heads infos below))))

-- The heads, and what is asked of these.
abbrev pub bind_row : Selector → List Info → Option MethodKey → Asking Bound
bind_row selector infos below = ask_heads selector (λ heads. bind_among heads infos below)

-- ---- inlining

-- The body.
abbrev pub inline_row : MethodKey → Asking (Option Source)
inline_row key = ask_source_of key (λ own. gives (inline own))

-- ---- clones

-- each class in turn, until a binding is not One
abbrev pub all_one : Bytes → Sending → List Bytes → Asking Bool
all_one name sending [] = gives true
all_one name sending (class ∷ classes) =
    ask_bind sending.0 (infos_for name (i.Exact class) sending.1) None (λ bound. if is_one bound then all_one name sending classes else gives false)

-- the sends of which the formal's name is an argument in turn, until one is open for the cone and decided by each class
abbrev pub decided : Option Bytes → Bytes → List Bytes → List Sending → Asking Bool
decided None x classes sendings = gives false
decided (Some name) x classes [] = gives false
decided (Some name) x classes (sending ∷ sendings) =
    if list_any (is_name name) sending.1 then
    ask_bind sending.0 (infos_for name (i.Cone x) sending.1) None (λ bound.
    if is_open bound then followed (all_one name sending classes) (λ all. if all then gives true else decided (Some name) x classes sendings)
    else decided (Some name) x classes sendings)
    else decided (Some name) x classes sendings

abbrev pub is_base : Bytes → Option Bytes → Bool
is_base x None = false
is_base x (Some y) = bytes_eq y x

-- the positions in turn
abbrev pub positions : ℕ → List (Option Bytes) → List Bytes → List Sending → Asking (Option (ℕ × List Bytes))
positions place [] xs sendings = gives None
positions place (formal ∷ formals) [] sendings = gives None
positions place (formal ∷ formals) (x ∷ xs) sendings =
    if bytes_eq x any then positions (suc place) formals xs sendings
    else ask_base x (λ base.
    if is_base x base then
    asks (node.Filter (filters.Cone x)) (λ answer.
    if nat_le 2 (length (names_in answer)) && nat_le (length (names_in answer)) 4 then
    followed (decided formal x (names_in answer) sendings) (λ all.
    if all then gives (Some (place, names_in answer)) else positions (suc place) formals xs sendings)
    else positions (suc place) formals xs sendings)
    else positions (suc place) formals xs sendings)

abbrev pub clones_by : MethodKey → Option Source → Asking (Option (ℕ × List Bytes))
clones_by key None = gives None
clones_by key (Some own) = positions 0 own.formals key.specialisers (sends_of own.body.0)

-- The body; then position by position the base and the cone of the specialiser, and the bindings of the sends that name the formal.
abbrev pub clones_row : MethodKey → Asking (Option (ℕ × List Bytes))
clones_row key = ask_source_of key (clones_by key)
