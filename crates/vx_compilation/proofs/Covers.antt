-- What is known of values, and what is in scope, beside the locals of a block.
use Rattle.std.proofs.Common.{◌≡◌, inl, inr, ℕ, suc, ◌+◌, ◌<◌, ◌≤◌, Bool, true, false, if◌then◌else◌, List, [], ◌∷◌, ◌++◌, length, map, codes}
use Rattle.std.proofs.Common.{Option, Some, None, slice_get, refl, sym, ap, ◌∙◌, subst, arith}
use Rattle.std.specs.Option.{option_map}
use Rattle.std.specs.Str.{bytes_eq}
use Rattle.vx_lists.specs.Members.{IsIn}
use Rattle.vx_lists.proofs.Members.{in_front, in_behind, in_either}
use Rattle.vx_lists.proofs.Places.{mapped_at}
use Rattle.vx_syntax.specs.declared.decl.Decl.{Decl}
use Rattle.vx_syntax.specs.Expressions.{Bytes}
use Rattle.vx_model.specs.declared.value.Value.{Value}
use Rattle.vx_model.specs.declared.value.Value.TheVariants as v
use Rattle.vx_model.specs.declared.value.Local.{Local}
use Rattle.vx_model.specs.declared.value.Local.TheVariants as l
use Rattle.vx_model.specs.declared.value.Thing.{Thing}
use Rattle.vx_model.specs.declared.value.Heap.{Heap}
use Rattle.vx_node.specs.declared.node.Info.{Info}
use Rattle.vx_node.specs.declared.node.Info.TheVariants as i
use Rattle.vx_model.specs.Order.{cone}
use Rattle.vx_model.specs.Holds.{class_of}
use Rattle.vx_model.specs.Meaning as mean
use Rattle.vx_compilation.specs.Infos.{Fits, AllFit}
use Rattle.vx_compilation.specs.Activations.{Slot, Plain, Cell, captured}
use Rattle.vx_compilation.specs.Resolved.{Seat, Constant, Variable, Names, bound, local_of, Need, OfName, OfFormals, locals_for, all_locals_for}
use Rattle.vx_compilation.specs.Resolved.{captures, place_in, moved, moved_name, formal_names, formal_seats, seat_local, unknown}
use Rattle.vx_model.proofs.Sound.{IsLater, as_late, class, classes, IsSound}
use Rattle.vx_compilation.proofs.Slots.{Agree, IsSet, AreSet, Captures, captures_are, once_has, once_only, placed_at, placed_within}

-- ---- what is known of values

abbrev pub HasClass : Heap → Value → Bytes → Type 0
HasClass heap (v.Int n) c = codes "int" ≡ c
HasClass heap (v.Text bytes) c = codes "string" ≡ c
HasClass heap (v.Closure n) c = codes "closure" ≡ c
HasClass heap (v.Object n) c = slice_get (classes heap) n ≡ Some c

abbrev pub Suits : List Decl → Heap → Info → Value → Type 0
Suits program heap i.Any value = Unit {0}
Suits program heap (i.Cone x) value = (c : Bytes) × HasClass heap value c × IsIn c (cone program x)
Suits program heap (i.Exact x) value = HasClass heap value x

abbrev pub AllSuit : List Decl → Heap → List Info → List Value → Type 0
AllSuit program heap [] [] = Unit {0}
AllSuit program heap [] (value ∷ values) = ⊥
AllSuit program heap (info ∷ infos) [] = ⊥
AllSuit program heap (info ∷ infos) (value ∷ values) = Suits program heap info value × AllSuit program heap infos values

class_later : {old new : Heap} → IsLater old new → (value : Value) (c : Bytes) → HasClass old value c → HasClass new value c
class_later later (v.Int n) c h = h
class_later later (v.Text bytes) c h = h
class_later later (v.Closure n) c h = h
class_later later (v.Object n) c h = later.objects n c h

pub suits_later : (program : List Decl) {old new : Heap} → IsLater old new → (info : Info) (value : Value) → Suits program old info value →
    Suits program new info value
suits_later program later i.Any value h = h
suits_later program later (i.Cone x) value h = (h.0, class_later later value h.0 h.1, h.2)
suits_later program later (i.Exact x) value h = class_later later value x h

pub all_suit_later : (program : List Decl) {old new : Heap} → IsLater old new → (infos : List Info) (values : List Value) →
    AllSuit program old infos values → AllSuit program new infos values
all_suit_later program later [] [] h = tt
all_suit_later program later [] (value ∷ values) h = absurd h
all_suit_later program later (info ∷ infos) [] h = absurd h
all_suit_later program later (info ∷ infos) (value ∷ values) h = (suits_later program later info value h.0, all_suit_later program later infos values h.1)

pub suit_count : (program : List Decl) (heap : Heap) (infos : List Info) (values : List Value) → AllSuit program heap infos values →
    length infos ≡ length values
suit_count program heap [] [] h = refl
suit_count program heap [] (value ∷ values) h = absurd h
suit_count program heap (info ∷ infos) [] h = absurd h
suit_count program heap (info ∷ infos) (value ∷ values) h = ap suc (suit_count program heap infos values h.1)

-- the class that a value has is the one that a heap tells
pub class_is : (heap : Heap) (value : Value) (c : Bytes) → HasClass heap value c → class_of heap value ≡ c
class_is heap (v.Int n) c h = h
class_is heap (v.Text bytes) c h = h
class_is heap (v.Closure n) c h = h
class_is heap (v.Object n) c h =
    let one = mapped_at class heap.objects n c h in
    ap (λ (o : Option Thing). elim o [ Some thing ↦ thing.class | None ↦ [] ]) one.1 ∙ one.2

pub has_class : (heap : Heap) (value : Value) → IsSound heap value → HasClass heap value (class_of heap value)
has_class heap (v.Int n) s = refl
has_class heap (v.Text bytes) s = refl
has_class heap (v.Closure n) s = refl
has_class heap (v.Object n) s = s.1 ∙ ap Some (sym (class_is heap (v.Object n) s.0 s.1))

pub suits_fit : (program : List Decl) (heap : Heap) (info : Info) (value : Value) → Suits program heap info value → Fits program heap info value
suits_fit program heap i.Any value h = tt
suits_fit program heap (i.Cone x) value h = subst (λ c. IsIn c (cone program x)) (sym (class_is heap value h.0 h.1)) h.2
suits_fit program heap (i.Exact x) value h = class_is heap value x h

pub all_fit : (program : List Decl) (heap : Heap) (infos : List Info) (values : List Value) → AllSuit program heap infos values →
    AllFit program heap infos values
all_fit program heap [] [] h = tt
all_fit program heap [] (value ∷ values) h = h
all_fit program heap (info ∷ infos) [] h = h
all_fit program heap (info ∷ infos) (value ∷ values) h = (suits_fit program heap info value h.0, all_fit program heap infos values h.1)

-- ---- names in scope

-- the named arguments, the first in front
abbrev pub given_scope : List (Option Bytes) → List Value → List (Bytes × Local)
given_scope [] values = []
given_scope (formal ∷ formals) [] = []
given_scope (None ∷ formals) (value ∷ values) = given_scope formals values
given_scope (Some name ∷ formals) (value ∷ values) = (name, l.Plain value) ∷ given_scope formals values

module _ (program : List Decl) where
  -- a local below n holds what a name stands for
  abbrev pub Fit : Heap → ℕ → Seat → Local → List Slot → Type 0
  Fit heap n (Constant x info) (l.Plain value) ls = (x < n) × (slice_get ls x ≡ Some (Plain value)) × Suits program heap info value
  Fit heap n (Constant x info) (l.Cell c) ls = ⊥
  Fit heap n (Variable x) (l.Plain value) ls = ⊥
  Fit heap n (Variable x) (l.Cell c) ls = (x < n) × (slice_get ls x ≡ Some (Cell c))

  abbrev pub Found : Heap → ℕ → Option Seat → Option Local → List Slot → Type 0
  Found heap n (Some seat) (Some local) ls = Fit heap n seat local ls
  Found heap n (Some seat) None ls = ⊥
  Found heap n None (Some local) ls = ⊥
  Found heap n None None ls = Unit {0}

  -- the formals of the method have its arguments
  abbrev pub HasFormals : Heap → ℕ → List Seat → List Value → List Slot → Type 0
  HasFormals heap n [] [] ls = Unit {0}
  HasFormals heap n [] (value ∷ values) ls = ⊥
  HasFormals heap n (seat ∷ seats) [] ls = ⊥
  HasFormals heap n (seat ∷ seats) (value ∷ values) ls = Fit heap n seat (l.Plain value) ls × HasFormals heap n seats values ls

  abbrev pub Has : Heap → ℕ → Names → mean.Frame → List Slot → Need → Type 0
  Has heap n scope frame ls (OfName name) = Found heap n (bound name scope.names) (mean.bound name frame.scope) ls
  Has heap n scope frame ls OfFormals = HasFormals heap n scope.formals frame.arguments ls

  -- the locals of a block have all that a text needs
  pub record Covers (heap : Heap) (n : ℕ) (needs : List Need) (scope : Names) (frame : mean.Frame) (ls : List Slot) : Type 0 where
    pub has : (need : Need) → IsIn need needs → Has heap n scope frame ls need

  -- they still do where these locals are kept, and the heap is later
  fit_on : {old new : Heap} → IsLater old new → (n k : ℕ) → n ≤ k → (ls ls' : List Slot) → ((x : ℕ) → x < n → slice_get ls' x ≡ slice_get ls x) →
      (seat : Seat) (local : Local) → Fit old n seat local ls → Fit new k seat local ls'
  fit_on later n k le ls ls' same (Constant x info) (l.Plain value) h = (omega (arith, le, h.0), same x h.0 ∙ h.1, suits_later program later info value h.2)
  fit_on later n k le ls ls' same (Constant x info) (l.Cell c) h = h
  fit_on later n k le ls ls' same (Variable x) (l.Plain value) h = h
  fit_on later n k le ls ls' same (Variable x) (l.Cell c) h = (omega (arith, le, h.0), same x h.0 ∙ h.1)

  found_on : {old new : Heap} → IsLater old new → (n k : ℕ) → n ≤ k → (ls ls' : List Slot) → ((x : ℕ) → x < n → slice_get ls' x ≡ slice_get ls x) →
      (o : Option Seat) (o' : Option Local) → Found old n o o' ls → Found new k o o' ls'
  found_on later n k le ls ls' same (Some seat) (Some local) h = fit_on later n k le ls ls' same seat local h
  found_on later n k le ls ls' same (Some seat) None h = h
  found_on later n k le ls ls' same None (Some local) h = h
  found_on later n k le ls ls' same None None h = h

  formals_on : {old new : Heap} → IsLater old new → (n k : ℕ) → n ≤ k → (ls ls' : List Slot) → ((x : ℕ) → x < n → slice_get ls' x ≡ slice_get ls x) →
      (seats : List Seat) (values : List Value) → HasFormals old n seats values ls → HasFormals new k seats values ls'
  formals_on later n k le ls ls' same [] [] h = tt
  formals_on later n k le ls ls' same [] (value ∷ values) h = h
  formals_on later n k le ls ls' same (seat ∷ seats) [] h = h
  formals_on later n k le ls ls' same (seat ∷ seats) (value ∷ values) h =
      (fit_on later n k le ls ls' same seat (l.Plain value) h.0, formals_on later n k le ls ls' same seats values h.1)

  has_on : {old new : Heap} → IsLater old new → (n k : ℕ) → n ≤ k → (ls ls' : List Slot) → ((x : ℕ) → x < n → slice_get ls' x ≡ slice_get ls x) →
      (scope : Names) (frame : mean.Frame) (need : Need) → Has old n scope frame ls need → Has new k scope frame ls' need
  has_on later n k le ls ls' same scope frame (OfName name) h = found_on later n k le ls ls' same (bound name scope.names) (mean.bound name frame.scope) h
  has_on later n k le ls ls' same scope frame OfFormals h = formals_on later n k le ls ls' same scope.formals frame.arguments h

  pub covers_on : {old new : Heap} → IsLater old new → (n k : ℕ) → n ≤ k → (needs : List Need) (scope : Names) (frame : mean.Frame) (ls ls' : List Slot) →
      Agree n ls ls' → Covers old n needs scope frame ls → Covers new k needs scope frame ls'
  covers_on later n k le needs scope frame ls ls' same c = record { has = λ need i. has_on later n k le ls ls' same.same scope frame need (c.has need i) }

  pub covers_same : (heap : Heap) (n k : ℕ) → n ≤ k → (needs : List Need) (scope : Names) (frame : mean.Frame) (ls ls' : List Slot) →
      ((x : ℕ) → x < n → slice_get ls' x ≡ slice_get ls x) → Covers heap n needs scope frame ls → Covers heap k needs scope frame ls'
  covers_same heap n k le needs scope frame ls ls' same c = record { has = λ need i. has_on (as_late heap) n k le ls ls' same scope frame need (c.has need i) }

  -- fewer needs
  pub covers_front : (heap : Heap) (n : ℕ) (a b : List Need) (scope : Names) (frame : mean.Frame) (ls : List Slot) → Covers heap n (a ++ b) scope frame ls →
      Covers heap n a scope frame ls
  covers_front heap n a b scope frame ls c = record { has = λ need i. c.has need (in_front need a b i) }

  pub covers_behind : (heap : Heap) (n : ℕ) (a b : List Need) (scope : Names) (frame : mean.Frame) (ls : List Slot) →
      Covers heap n (a ++ b) scope frame ls → Covers heap n b scope frame ls
  covers_behind heap n a b scope frame ls c = record { has = λ need i. c.has need (in_behind need a b i) }

  -- one name more
  found_if : (heap : Heap) (n : ℕ) (same : Bool) (seat : Seat) (local : Local) (o : Option Seat) (o' : Option Local) (ls : List Slot) →
      Fit heap n seat local ls → Found heap n o o' ls → Found heap n (if same then Some seat else o) (if same then Some local else o') ls
  found_if heap n true seat local o o' ls f h = f
  found_if heap n false seat local o o' ls f h = h

  pub covers_name : (heap : Heap) (n : ℕ) (needs : List Need) (scope : Names) (frame : mean.Frame) (ls : List Slot) (name : Bytes) (seat : Seat)
      (local : Local) → Fit heap n seat local ls → Covers heap n needs scope frame ls
      → Covers heap n needs (record { names = (name, seat) ∷ scope.names; formals = scope.formals }) (mean.in_scope frame name local) ls
  covers_name heap n needs scope frame ls name seat local f c = record { has = has }
    where
      has : (need : Need) → IsIn need needs → Has heap n (record { names = (name, seat) ∷ scope.names; formals = scope.formals })
          (mean.in_scope frame name local) ls need
      has (OfName y) i = found_if heap n (bytes_eq name y) seat local (bound y scope.names) (mean.bound y frame.scope) ls f (c.has (OfName y) i)
      has OfFormals i = c.has OfFormals i

  -- ---- captures

  fit_set : (heap : Heap) (n : ℕ) (seat : Seat) (local : Local) (ls : List Slot) → Fit heap n seat local ls →
      (slot : Slot) × (slice_get ls (local_of seat) ≡ Some slot) × IsSet slot
  fit_set heap n (Constant x info) (l.Plain value) ls h = (Plain value, h.1, tt)
  fit_set heap n (Constant x info) (l.Cell c) ls h = absurd h
  fit_set heap n (Variable x) (l.Plain value) ls h = absurd h
  fit_set heap n (Variable x) (l.Cell c) ls h = (Cell c, h.1, tt)

  found_set : (heap : Heap) (n : ℕ) (o : Option Seat) (o' : Option Local) (ls : List Slot) → Found heap n o o' ls → (x : ℕ) → IsIn x (seat_local o) →
      (slot : Slot) × (slice_get ls x ≡ Some slot) × IsSet slot
  found_set heap n None o' ls h x i = absurd i
  found_set heap n (Some seat) None ls h x i = absurd h
  found_set heap n (Some seat) (Some local) ls h x (inl e) =
      let r = fit_set heap n seat local ls h in (r.0, sym (ap (slice_get ls) e) ∙ r.1, r.2)
  found_set heap n (Some seat) (Some local) ls h x (inr i) = absurd i

  formals_set : (heap : Heap) (n : ℕ) (seats : List Seat) (values : List Value) (ls : List Slot) → HasFormals heap n seats values ls → (x : ℕ) →
      IsIn x (map local_of seats) → (slot : Slot) × (slice_get ls x ≡ Some slot) × IsSet slot
  formals_set heap n [] values ls h x i = absurd i
  formals_set heap n (seat ∷ seats) [] ls h x i = absurd h
  formals_set heap n (seat ∷ seats) (value ∷ values) ls h x (inl e) =
      let r = fit_set heap n seat (l.Plain value) ls h.0 in (r.0, sym (ap (slice_get ls) e) ∙ r.1, r.2)
  formals_set heap n (seat ∷ seats) (value ∷ values) ls h x (inr i) = formals_set heap n seats values ls h.1 x i

  has_set : (heap : Heap) (n : ℕ) (scope : Names) (frame : mean.Frame) (ls : List Slot) (need : Need) → Has heap n scope frame ls need → (x : ℕ) →
      IsIn x (locals_for scope need) → (slot : Slot) × (slice_get ls x ≡ Some slot) × IsSet slot
  has_set heap n scope frame ls (OfName name) h x i = found_set heap n (bound name scope.names) (mean.bound name frame.scope) ls h x i
  has_set heap n scope frame ls OfFormals h x i = formals_set heap n scope.formals frame.arguments ls h x i

  -- a local that is captured is one for a need
  of_need : (scope : Names) (needs : List Need) (x : ℕ) → IsIn x (all_locals_for scope needs) → (need : Need) × IsIn need needs × IsIn x (locals_for scope need)
  of_need scope [] x i = absurd i
  of_need scope (need ∷ needs) x i =
      elim (in_either x (locals_for scope need) (all_locals_for scope needs) i) [
        | inl j ↦ (need, inl refl, j)
        | inr j ↦ let r = of_need scope needs x j in (r.0, inr r.1, r.2)
      ]

  needed : (scope : Names) (needs : List Need) (need : Need) → IsIn need needs → (x : ℕ) → IsIn x (locals_for scope need) → IsIn x (captures scope needs)
  needed scope needs need i x j = once_has (all_locals_for scope needs) x (all needs i)
    where
      all : (own : List Need) → IsIn need own → IsIn x (all_locals_for scope own)
      all [] k = absurd k
      all (one ∷ rest) (inl e) = in_front x (locals_for scope one) (all_locals_for scope rest) (subst (λ z. IsIn x (locals_for scope z)) (sym e) j)
      all (one ∷ rest) (inr k) = in_behind x (locals_for scope one) (all_locals_for scope rest) (all rest k)

  all_set : (ls : List Slot) (xs : List ℕ) → ((x : ℕ) → IsIn x xs → (slot : Slot) × (slice_get ls x ≡ Some slot) × IsSet slot) → AreSet xs ls
  all_set ls [] f = tt
  all_set ls (x ∷ xs) f = (f x (inl refl), all_set ls xs (λ y i. f y (inr i)))

  -- a captured seat
  fit_moved : (heap : Heap) (n : ℕ) (xs : List ℕ) (ls cs : List Slot) → Captures xs ls cs → (seat : Seat) (local : Local) → IsIn (local_of seat) xs →
      Fit heap n seat local ls → Fit heap (length xs) (moved xs seat) local cs
  fit_moved heap n xs ls cs k (Constant x info) (l.Plain value) i h = (placed_within xs x i, k.at (place_in xs x) x (placed_at xs x i) ∙ h.1, h.2)
  fit_moved heap n xs ls cs k (Constant x info) (l.Cell c) i h = h
  fit_moved heap n xs ls cs k (Variable x) (l.Plain value) i h = h
  fit_moved heap n xs ls cs k (Variable x) (l.Cell c) i h = (placed_within xs x i, k.at (place_in xs x) x (placed_at xs x i) ∙ h.1)

  bound_moved : (xs : List ℕ) (name : Bytes) (names : List (Bytes × Seat)) → bound name (map (moved_name xs) names) ≡ option_map (moved xs) (bound name names)
  bound_moved xs name [] = refl
  bound_moved xs name (own ∷ rest) = by (bytes_eq own.0 name) (bound_moved xs name rest)
    where
      by : (same : Bool) → bound name (map (moved_name xs) rest) ≡ option_map (moved xs) (bound name rest) →
          (if same then Some (moved xs own.1) else bound name (map (moved_name xs) rest)) ≡ option_map (moved xs)
          (if same then Some own.1 else bound name rest)
      by true e = refl
      by false e = e

  found_moved : (heap : Heap) (n : ℕ) (xs : List ℕ) (ls cs : List Slot) → Captures xs ls cs → (o : Option Seat) (o' : Option Local) →
      ((x : ℕ) → IsIn x (seat_local o) → IsIn x xs) → Found heap n o o' ls → Found heap (length xs) (option_map (moved xs) o) o' cs
  found_moved heap n xs ls cs k (Some seat) (Some local) f h = fit_moved heap n xs ls cs k seat local (f (local_of seat) (inl refl)) h
  found_moved heap n xs ls cs k (Some seat) None f h = h
  found_moved heap n xs ls cs k None (Some local) f h = h
  found_moved heap n xs ls cs k None None f h = h

  formals_moved : (heap : Heap) (n : ℕ) (xs : List ℕ) (ls cs : List Slot) → Captures xs ls cs → (seats : List Seat) (values : List Value) →
      ((x : ℕ) → IsIn x (map local_of seats) → IsIn x xs) → HasFormals heap n seats values ls → HasFormals heap (length xs) (map (moved xs) seats) values cs
  formals_moved heap n xs ls cs k [] [] f h = tt
  formals_moved heap n xs ls cs k [] (value ∷ values) f h = h
  formals_moved heap n xs ls cs k (seat ∷ seats) [] f h = h
  formals_moved heap n xs ls cs k (seat ∷ seats) (value ∷ values) f h = (
    fit_moved heap n xs ls cs k seat (l.Plain value) (f (local_of seat) (inl refl)) h.0,
    formals_moved heap n xs ls cs k seats values
        (λ x i. f x (inr i)) h.1,
  )

  -- the scope in which a closure stands, by what it captured
  abbrev pub taken : List ℕ → Names → Names
  taken xs scope = record { names = map (moved_name xs) scope.names; formals = map (moved xs) scope.formals }

  -- A closure captures all that its text needs.
  pub captured_covers : (heap : Heap) (n : ℕ) (needs : List Need) (scope : Names) (frame : mean.Frame) (ls : List Slot) → Covers heap n needs scope frame ls →
      (cs : List Slot) × (captured (captures scope needs) ls ≡ Some cs) × (length cs ≡ length (captures scope needs)) ×
      Covers heap (length (captures scope needs)) needs (taken (captures scope needs) scope) frame cs
  captured_covers heap n needs scope frame ls c = (own.0, own.1.is, own.1.long, record { has = has })
    where
      xs : List ℕ
      xs = captures scope needs

      own : (cs : List Slot) × Captures (captures scope needs) ls cs
      own = captures_are (captures scope needs) ls (all_set ls (captures scope needs) (λ x i.
          let r = of_need scope needs x (once_only (all_locals_for scope needs) x i) in
          has_set heap n scope frame ls r.0 (c.has r.0 r.1) x r.2))

      has : (need : Need) → IsIn need needs → Has heap (length (captures scope needs)) (taken (captures scope needs) scope) frame own.0 need
      has (OfName name) i =
          subst (λ o. Found heap (length (captures scope needs)) o (mean.bound name frame.scope) own.0)
          (sym (bound_moved (captures scope needs) name scope.names))
          (found_moved heap n (captures scope needs) ls own.0 own.1 (bound name scope.names) (mean.bound name frame.scope)
          (needed scope needs (OfName name) i) (c.has (OfName name) i))
      has OfFormals i = formals_moved heap n (captures scope needs) ls own.0 own.1 scope.formals frame.arguments (needed scope needs OfFormals i)
          (c.has OfFormals i)

  -- ---- formals

  -- locals from a number on have the arguments
  pub record HasArguments (n : ℕ) (values : List Value) (ls : List Slot) : Type 0 where
    pub at : (i : ℕ) (value : Value) → slice_get values i ≡ Some value → slice_get ls (n + i) ≡ Some (Plain value)

  arguments_rest : (n : ℕ) (value : Value) (values : List Value) (ls : List Slot) → HasArguments n (value ∷ values) ls → HasArguments (suc n) values ls
  arguments_rest n value values ls h = record { at = λ j u e. let z : suc n + j ≡ n + suc j = omega arith in ap (slice_get ls) z ∙ h.at (suc j) u e }

  arguments_first : (n : ℕ) (value : Value) (values : List Value) (ls : List Slot) → HasArguments n (value ∷ values) ls → slice_get ls n ≡ Some (Plain value)
  arguments_first n value values ls h = let z : n ≡ n + 0 = omega arith in ap (slice_get ls) z ∙ h.at 0 value refl

  -- what a name stands for, among the formals or behind them
  pub found_formals : (heap : Heap) (n k : ℕ) (formals : List (Option Bytes)) (infos : List Info) (values : List Value) (names : List (Bytes × Seat))
      (scope : List (Bytes × Local)) (ls : List Slot) (y : Bytes) → length formals ≡ length values → n + length values ≤ k →
      AllSuit program heap infos values → HasArguments n values ls → Found heap k (bound y names) (mean.bound y scope) ls →
      Found heap k (bound y (formal_names n formals infos ++ names)) (mean.bound y (given_scope formals values ++ scope)) ls
  found_formals heap n k [] infos [] names scope ls y len le all at h = h
  found_formals heap n k [] infos (value ∷ values) names scope ls y len le all at h = absurd (omega (arith, len))
  found_formals heap n k (formal ∷ formals) infos [] names scope ls y len le all at h = absurd (omega (arith, len))
  found_formals heap n k (formal ∷ formals) [] (value ∷ values) names scope ls y len le all at h = absurd all
  found_formals heap n k (None ∷ formals) (info ∷ infos) (value ∷ values) names scope ls y len le all at h =
      found_formals heap (suc n) k formals infos values names scope ls y (omega (arith, len)) (omega (arith, le)) all.1 (arguments_rest n value values ls at) h
  found_formals heap n k (Some name ∷ formals) (info ∷ infos) (value ∷ values) names scope ls y len le all at h =
      found_if heap k (bytes_eq name y) (Constant n info) (l.Plain value) (bound y (formal_names (suc n) formals infos ++ names))
      (mean.bound y (given_scope formals values ++ scope)) ls
      (omega (arith, le), arguments_first n value values ls at, all.0)
      (found_formals heap (suc n) k formals infos values names scope ls y (omega (arith, len)) (omega (arith, le)) all.1
      (arguments_rest n value values ls at) h)

  pub has_formals : (heap : Heap) (n k : ℕ) (infos : List Info) (values : List Value) (ls : List Slot) → n + length values ≤ k →
      AllSuit program heap infos values → HasArguments n values ls → HasFormals heap k (formal_seats n infos) values ls
  has_formals heap n k [] [] ls le all at = tt
  has_formals heap n k [] (value ∷ values) ls le all at = all
  has_formals heap n k (info ∷ infos) [] ls le all at = all
  has_formals heap n k (info ∷ infos) (value ∷ values) ls le all at = (
    (omega (arith, le), arguments_first n value values ls at, all.0),
    has_formals heap (suc n) k infos values ls (omega (arith, le)) all.1
        (arguments_rest n value values ls at),
  )

  -- nothing is known of a closure's arguments
  pub unknown_suit : {A : Type 0} (heap : Heap) (formals : List A) (values : List Value) → length formals ≡ length values →
      AllSuit program heap (unknown formals) values
  unknown_suit heap [] [] e = tt
  unknown_suit heap [] (value ∷ values) e = absurd (omega (arith, e))
  unknown_suit heap (formal ∷ formals) [] e = absurd (omega (arith, e))
  unknown_suit heap (formal ∷ formals) (value ∷ values) e = (tt, unknown_suit heap formals values (omega (arith, e)))

-- as many arguments as formals are in scope by their names
pub named_arguments : (formals : List (Option Bytes)) (values : List Value) → length formals ≡ length values →
    (go : List (Bytes × Local) → mean.Done) (otherwise : mean.Done) → mean.with_formals formals values go otherwise ≡ go (given_scope formals values)
named_arguments [] [] e go otherwise = refl
named_arguments [] (value ∷ values) e go otherwise = absurd (omega (arith, e))
named_arguments (formal ∷ formals) [] e go otherwise = absurd (omega (arith, e))
named_arguments (None ∷ formals) (value ∷ values) e go otherwise = named_arguments formals values (omega (arith, e)) go otherwise
named_arguments (Some name ∷ formals) (value ∷ values) e go otherwise =
    named_arguments formals values (omega (arith, e)) (λ scope. go ((name, l.Plain value) ∷ scope)) otherwise
