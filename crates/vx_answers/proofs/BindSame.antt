-- A binding is the same over orders that tell the same of all that was asked for it.
use Rattle.std.proofs.Common.{List, Bool, true, false, not, [], ap, refl, suc, zero, inl, inr, arith, map, filter, ◌∷◌, ◌≡◌, ◌∙◌, ◌+◌, ◌&&◌, ◌||◌}
use Rattle.std.proofs.Common.{Option, Some, None, ℕ}
use Rattle.std.specs.Prelude.{slice_get}
use Rattle.std.specs.List.{find, list_all, list_any}
use Rattle.std.specs.Str.{bytes_eq}
use Rattle.vx_lists.specs.Members.{IsIn}
use Rattle.vx_lists.proofs.Members.{in_front, in_behind}
use Rattle.vx_lists.proofs.Finding.{left_is, same_found}
use Rattle.vx_names.specs.declared.key.MethodKey.{MethodKey}
use Rattle.vx_syntax.specs.Expressions.{Bytes}
use Rattle.vx_syntax.specs.Declarations.{any}
use Rattle.vx_program.specs.Program.{is_name_of}
use Rattle.vx_node.specs.declared.node.Filter.TheVariants as filters
use Rattle.vx_node.specs.declared.node.Info.{Info}
use Rattle.vx_node.specs.declared.node.Info.TheVariants as i
use Rattle.vx_node.specs.declared.kind.Kind.{Kind}
use Rattle.vx_node.specs.Traces.{Answers}
use Rattle.vx_node.specs.Asking.{outcome, Gives}
use Rattle.vx_model.specs.Lookup.{differ, same_method}
use Rattle.vx_compilation.specs.Binding.{Order, goes_before, is_plain, is_sure, is_possible, at_each, is_candidate, is_bound_to, chosen, bind}
use Rattle.vx_answers.specs.SendRows.{About, about, beside, order_of, specialisers_of, specialisers_asked, info_objects, bases_at, cones_asked, bind_among}
use Rattle.vx_answers.proofs.EachLaw.{each_outcome}
use Rattle.vx_answers.proofs.BindIs.{order_told, about_by, pair, base_found, name_found, up_found, is_asked, in_heads, in_below, in_bases, AgreeOf}
use Rattle.vx_answers.proofs.BindIs.{AgreeAt, AgreeEach, each_sure, each_possible, over_each}

pub got_in : (xs : List Bytes) (place : ℕ) (x : Bytes) → slice_get xs place ≡ Some x → IsIn x xs
got_in [] place x e = absurd (cc)
got_in (y ∷ ys) zero x e = inl (cc)
got_in (y ∷ ys) (suc place) x e = inr (got_in ys place x e)

-- what stands first behind a place stands at it
first_at : (row : List Bytes) (place : ℕ) (x : Bytes) (xs : List Bytes) → ((j : ℕ) → slice_get row (j + place) ≡ slice_get (x ∷ xs) j) →
    slice_get row place ≡ Some x
first_at row place x xs at = ap (slice_get row) (let e : place ≡ 0 + place = omega arith in e) ∙ at 0

or_same : (p q r : Bool) → (p ≡ false → q ≡ r) → (p || q) ≡ (p || r)
or_same true q r same = refl
or_same false q r same = same refl

-- tests that agree on all of a list say the same of it, and leave the same
pub all_same : {X : Type 0} (p q : X → Bool) (xs : List X) → ((x : X) → IsIn x xs → p x ≡ q x) → list_all p xs ≡ list_all q xs
all_same p q [] same = refl
all_same p q (x ∷ xs) same =
    ap (λ t. t && list_all p xs) (same x (inl refl)) ∙ ap (λ t. q x && t) (all_same p q xs (λ y j. same y (inr j)))

pub left_same : {X : Type 0} (p q : X → Bool) (xs : List X) → ((x : X) → IsIn x xs → p x ≡ q x) → filter p xs ≡ filter q xs
left_same p q [] same = refl
left_same p q (x ∷ xs) same = rw (same x (inl refl), left_same p q xs (λ y j. same y (inr j))) refl

module _ (first second : Order) where
  abbrev SameBase : Bytes → Type 0
  SameBase x = bytes_eq x any ≡ false → first.base x ≡ second.base x

  plain_same : (x : Bytes) → first.base x ≡ second.base x → is_plain first x ≡ is_plain second x
  plain_same x same = ap (λ o. elim o [ Some y ↦ bytes_eq y x | None ↦ false ]) same

  sure_same : (c x : Bytes) → SameBase x → first.up c ≡ second.up c →
      (bytes_eq x any || is_plain first x && is_name_of (first.up c) x) ≡ (bytes_eq x any || is_plain second x && is_name_of (second.up c) x)
  sure_same c x base up =
      or_same (bytes_eq x any) (is_plain first x && is_name_of (first.up c) x) (is_plain second x && is_name_of (second.up c) x) (λ f.
      ap (λ t. t && is_name_of (first.up c) x) (plain_same x (base f)) ∙ ap (λ names. is_plain second x && is_name_of names x) up)

  at_exact : (c x : Bytes) → SameBase x → first.up c ≡ second.up c → AgreeAt first second (i.Exact c) x
  at_exact c x base up = record {
    sure = sure_same c x base up;
    possible =
        or_same (bytes_eq x any) (elim (first.base x) [ Some y ↦ is_name_of (first.up c) y | None ↦ false ])
        (elim (second.base x) [ Some y ↦ is_name_of (second.up c) y | None ↦ false ]) (λ f.
        ap (λ o. elim o [ Some y ↦ is_name_of (first.up c) y | None ↦ false ]) (base f)
        ∙ ap (λ names. elim (second.base x) [ Some y ↦ is_name_of names y | None ↦ false ]) up);
  }

  by_base : (c : Bytes) (o : Option Bytes) → first.cone c ≡ second.cone c → ((y : Bytes) → o ≡ Some y → first.cone y ≡ second.cone y) →
      ◌≡◌ {A = Bool} (elim o [ Some y ↦ list_any (is_name_of (first.cone y)) (first.cone c) | None ↦ false ])
      (elim o [ Some y ↦ list_any (is_name_of (second.cone y)) (second.cone c) | None ↦ false ])
  by_base c None own cones = refl
  by_base c (Some y) own cones =
      ap (λ names. list_any (is_name_of names) (first.cone c)) (cones y refl) ∙ ap (list_any (is_name_of (second.cone y))) own

  at_cone : (c x : Bytes) → SameBase x → first.up c ≡ second.up c → first.cone c ≡ second.cone c →
      ((y : Bytes) → first.base x ≡ Some y → first.cone y ≡ second.cone y) → AgreeAt first second (i.Cone c) x
  at_cone c x base up own cones = record {
    sure = sure_same c x base up;
    possible =
        or_same (bytes_eq x any) (elim (first.base x) [ Some y ↦ list_any (is_name_of (first.cone y)) (first.cone c) | None ↦ false ])
        (elim (second.base x) [ Some y ↦ list_any (is_name_of (second.cone y)) (second.cone c) | None ↦ false ]) (λ f.
        by_base c (first.base x) own cones
        ∙ ap (λ o. elim o [ Some y ↦ list_any (is_name_of (second.cone y)) (second.cone c) | None ↦ false ]) (base f));
  }

  -- ---- tests of methods

  before_same : (rows : List (List Bytes)) → AgreeOf first second rows → (m k : MethodKey) → IsIn m.specialisers rows →
      goes_before first m k ≡ goes_before second m k
  before_same rows agree m k j =
      ap (λ t. t && differ m.specialisers k.specialisers)
      (over_each first second m.specialisers k.specialisers (λ x l other. agree.up m.specialisers x j l other))

  candidate_same : (heads : List (MethodKey × Kind)) (below : Option MethodKey) → AgreeOf first second (specialisers_of heads below) →
      (head : MethodKey × Kind) → is_candidate first below head ≡ is_candidate second below head
  candidate_same heads None agree head = refl
  candidate_same heads (Some from) agree head = before_same (specialisers_of heads (Some from)) agree from head.0 (in_below heads from)

  -- all that a binding looks at is told the same
  pub record AgreeFor (heads : List (MethodKey × Kind)) (infos : List Info) (below : Option MethodKey) : Type 0 where
    pub of : AgreeOf first second (specialisers_of heads below)
    pub each : (head : MethodKey × Kind) → IsIn head heads → AgreeEach first second infos head.0.specialisers

  bound_same : (heads : List (MethodKey × Kind)) (infos : List Info) (below : Option MethodKey) → AgreeFor heads infos below →
      (among : List (MethodKey × Kind)) → ((head : MethodKey × Kind) → IsIn head among → IsIn head heads) → (head : MethodKey × Kind) → IsIn head among →
      is_bound_to first infos among head ≡ is_bound_to second infos among head
  bound_same heads infos below agree among within head j =
      ap (λ t. t && list_all (λ other. not (at_each (is_possible first) infos other.0.specialisers) || same_method head.0 other.0 ||
      goes_before first head.0 other.0) among)
      (each_sure first second infos head.0.specialisers (agree.each head (within head j)))
      ∙ ap (λ t. at_each (is_sure second) infos head.0.specialisers && t)
      (all_same (λ other. not (at_each (is_possible first) infos other.0.specialisers) || same_method head.0 other.0 || goes_before first head.0 other.0)
      (λ other. not (at_each (is_possible second) infos other.0.specialisers) || same_method head.0 other.0 || goes_before second head.0 other.0) among
      (λ other l.
      ap (λ t. not t || same_method head.0 other.0 || goes_before first head.0 other.0)
      (each_possible first second infos other.0.specialisers (agree.each other (within other l)))
      ∙ ap (λ t. not (at_each (is_possible second) infos other.0.specialisers) || same_method head.0 other.0 || t)
      (before_same (specialisers_of heads below) agree.of head.0 other.0 (in_heads heads below head (within head j)))))

  pub bind_same : (heads : List (MethodKey × Kind)) (infos : List Info) (below : Option MethodKey) → AgreeFor heads infos below →
      bind first heads infos below ≡ bind second heads infos below
  bind_same [] infos below agree = refl
  bind_same (head ∷ heads) infos below agree =
      let all : List (MethodKey × Kind) = head ∷ heads in
      ap (λ among. chosen (find (is_bound_to first infos among) among))
      (left_same (is_candidate first below) (is_candidate second below) all (λ own j. candidate_same all below agree.of own))
      ∙ ap chosen (same_found (is_bound_to first infos (filter (is_candidate second below) all))
      (is_bound_to second infos (filter (is_candidate second below) all))
      (filter (is_candidate second below) all)
      (bound_same all infos below agree (filter (is_candidate second below) all) (λ own j. (left_is (is_candidate second below) all own j).0)))

-- ---- what was asked for tells the same as all answers

module _ (second : Order) (abouts : List About) (ups cones : List (Bytes × List Bytes)) (rows : List (List Bytes)) where
  abbrev found : Order
  found = order_of abouts ups cones

  agree_each : AgreeOf found second rows → (row : List Bytes) → IsIn row rows → (place : ℕ) (infos : List Info) (xs : List Bytes) →
      ((j : ℕ) → slice_get row (j + place) ≡ slice_get xs j) → ((c : Bytes) → IsIn c (info_objects infos) → found.up c ≡ second.up c) →
      ((c : Bytes) → IsIn c (cones_asked abouts rows place infos) → found.cone c ≡ second.cone c) → AgreeEach found second infos xs
  agree_each agree row j place [] xs at up cone = tt
  agree_each agree row j place (own ∷ infos) [] at up cone = tt
  agree_each agree row j place (i.Any ∷ infos) (x ∷ xs) at up cone = (
    record { sure = refl; possible = refl },
    agree_each agree row j (suc place) infos xs (λ k. ap (slice_get row) (let e : k + suc place ≡ suc k + place = omega arith in e) ∙ at (suc k)) up cone,
  )
  agree_each agree row j place (i.Exact c ∷ infos) (x ∷ xs) at up cone = (
    at_exact found second c x (λ other. agree.base row x j (got_in row place x (first_at row place x xs at)) other) (up c (inl refl)),
    agree_each agree row j (suc place) infos xs (λ k. ap (slice_get row) (let e : k + suc place ≡ suc k + place = omega arith in e) ∙ at (suc k))
        (λ d l. up d (inr l)) cone,
  )
  agree_each agree row j place (i.Cone c ∷ infos) (x ∷ xs) at up cone = (
    at_cone found second c x (λ other. agree.base row x j (got_in row place x (first_at row place x xs at)) other) (up c (inl refl)) (cone c (inl refl))
        (λ y is. cone y (inr (in_front y (bases_at abouts place rows) (cones_asked abouts rows (suc place) infos)
        (in_bases abouts place rows row x y j (first_at row place x xs at) is)))),
    agree_each agree row j (suc place) infos xs (λ k. ap (slice_get row) (let e : k + suc place ≡ suc k + place = omega arith in e) ∙ at (suc k))
        (λ d l. up d (inr l)) (λ d l. cone d (inr (in_behind d (bases_at abouts place rows) (cones_asked abouts rows (suc place) infos) l))),
  )

-- What is asked among heads comes to the binding.
pub among_is : (answer : Answers) (heads : List (MethodKey × Kind)) (infos : List Info) (below : Option MethodKey) →
    outcome (bind_among heads infos below) answer ≡ Gives (bind (order_told answer) heads infos below)
among_is answer heads infos below =
    let told : Order = order_told answer in
    let rows : List (List Bytes) = specialisers_of heads below in
    let specialisers : List Bytes = specialisers_asked rows in
    let abouts : List About = map (about_by answer) specialisers in
    let ups : List (Bytes × List Bytes) = map (pair told.up) (info_objects infos) in
    let cones : List (Bytes × List Bytes) = map (pair told.cone) (cones_asked abouts rows 0 infos) in
    let agree : AgreeOf (order_of abouts ups cones) told rows = record {
      base = λ row x j l other. base_found answer specialisers x (is_asked rows row x j l other);
      up = λ row x j l other.
          up_found answer specialisers (info_objects infos) x (in_front x specialisers (info_objects infos) (is_asked rows row x j l other));
    } in
    each_outcome about answer (about_by answer) (λ x. refl) specialisers _
    ∙ each_outcome (beside filters.Up) answer (pair told.up) (λ x. refl) (info_objects infos) _
    ∙ each_outcome (beside filters.Cone) answer (pair told.cone) (λ x. refl) (cones_asked abouts rows 0 infos) _
    ∙ ap Gives (bind_same (order_of abouts ups cones) told heads infos below (record {
      of = agree;
      each = λ head j.
          agree_each told abouts ups cones rows agree head.0.specialisers (in_heads heads below head j) 0 infos head.0.specialisers
          (λ k. ap (slice_get head.0.specialisers) (let e : k + 0 ≡ k = omega arith in e))
          (λ c l. up_found answer specialisers (info_objects infos) c (in_behind c specialisers (info_objects infos) l))
          (λ c l. name_found told.cone (cones_asked abouts rows 0 infos) c l);
    }))
