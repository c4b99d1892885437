-- What is asked for a binding comes to the binding over the order that all answers tell.
use Rattle.std.proofs.Common.{List, false, not, [], ap, refl, sym, subst, inl, inr, map, filter, ◌∷◌, ◌++◌, ◌≡◌, ◌∙◌, ◌&&◌, Option, Some, None, ℕ}
use Rattle.std.specs.Prelude.{slice_get}
use Rattle.std.specs.Str.{bytes_eq}
use Rattle.std.proofs.lemmas.Bool.{cases_Bool, cond-true, cond-false, both_ways}
use Rattle.vx_lists.specs.Members.{IsIn}
use Rattle.vx_lists.proofs.Members.{in_front, in_behind}
use Rattle.vx_lists.proofs.Finding.{is_left}
use Rattle.vx_lists.proofs.Texts.{same_bytes, bytes_same}
use Rattle.vx_names.specs.declared.key.MethodKey.{MethodKey}
use Rattle.vx_syntax.specs.Expressions.{Bytes}
use Rattle.vx_syntax.specs.Declarations.{any}
use Rattle.vx_program.specs.Program.{is_name_of}
use Rattle.vx_node.specs.declared.node.NodeId.TheVariants as node
use Rattle.vx_node.specs.declared.node.Filter.TheVariants as filters
use Rattle.vx_node.specs.declared.node.Info.{Info}
use Rattle.vx_node.specs.declared.kind.Kind.{Kind}
use Rattle.vx_node.specs.Traces.{Answers}
use Rattle.vx_compilation.specs.Readings.{base_in}
use Rattle.vx_compilation.specs.Binding.{Order, is_over, are_over, is_sure, is_possible, at_each}
use Rattle.vx_answers.specs.SendRows.{names_in, About, of_name, base_of, ups_of, specialisers_of, all_of, specialisers_asked, with_base, base_at, bases_at}
use Rattle.vx_answers.proofs.Walked.{covers}

-- the order of names that answers tell
abbrev pub order_told : Answers → Order
order_told answer = record {
  base = λ x. base_in (answer (node.Filter (filters.Base x)));
  up = λ x. names_in (answer (node.Filter (filters.Up x)));
  cone = λ x. names_in (answer (node.Filter (filters.Cone x)));
}

abbrev pub about_by : Answers → Bytes → About
about_by answer x = record { name = x; base = (order_told answer).base x; up = (order_told answer).up x }

abbrev pub pair : (Bytes → List Bytes) → Bytes → Bytes × List Bytes
pair names x = (x, names x)

-- ---- what is found of names that were asked for

pub base_found : (answer : Answers) (xs : List Bytes) (x : Bytes) → IsIn x xs → base_of x (map (about_by answer) xs) ≡ (order_told answer).base x
base_found answer [] x i = absurd i
base_found answer (y ∷ ys) x i =
    elim (cases_Bool (bytes_eq y x)) [
      | inl t ↦
          cond-true (bytes_eq y x) ((order_told answer).base y) (base_of x (map (about_by answer) ys)) t ∙ ap (order_told answer).base (same_bytes y x t)
      | inr f ↦
          cond-false (bytes_eq y x) ((order_told answer).base y) (base_of x (map (about_by answer) ys)) f
          ∙ elim i [ inl e ↦ absurd (both_ways (bytes_eq y x) f (bytes_same y x e)) | inr j ↦ base_found answer ys x j ]
    ]

pub name_found : (names : Bytes → List Bytes) (xs : List Bytes) (x : Bytes) → IsIn x xs → of_name x (map (pair names) xs) ≡ names x
name_found names [] x i = absurd i
name_found names (y ∷ ys) x i =
    elim (cases_Bool (bytes_eq y x)) [
      | inl t ↦ cond-true (bytes_eq y x) (names y) (of_name x (map (pair names) ys)) t ∙ ap names (same_bytes y x t)
      | inr f ↦
          cond-false (bytes_eq y x) (names y) (of_name x (map (pair names) ys)) f
          ∙ elim i [ inl e ↦ absurd (both_ways (bytes_eq y x) f (bytes_same y x e)) | inr j ↦ name_found names ys x j ]
    ]

ups_are : (answer : Answers) (xs ys : List Bytes) →
    ups_of (map (about_by answer) xs) ++ map (pair (order_told answer).up) ys ≡ map (pair (order_told answer).up) (xs ++ ys)
ups_are answer [] ys = refl
ups_are answer (x ∷ xs) ys = ap (λ rest. (x, (order_told answer).up x) ∷ rest) (ups_are answer xs ys)

pub up_found : (answer : Answers) (xs ys : List Bytes) (x : Bytes) → IsIn x (xs ++ ys) →
    of_name x (ups_of (map (about_by answer) xs) ++ map (pair (order_told answer).up) ys) ≡ (order_told answer).up x
up_found answer xs ys x i = ap (of_name x) (ups_are answer xs ys) ∙ name_found (order_told answer).up (xs ++ ys) x i

-- ---- what is asked for

in_all : (rows : List (List Bytes)) (row : List Bytes) (x : Bytes) → IsIn row rows → IsIn x row → IsIn x (all_of rows)
in_all [] row x i j = absurd i
in_all (own ∷ rows) row x (inl e) j = in_front x own (all_of rows) (subst (IsIn x) (sym e) j)
in_all (own ∷ rows) row x (inr i) j = in_behind x own (all_of rows) (in_all rows row x i j)

pub is_asked : (rows : List (List Bytes)) (row : List Bytes) (x : Bytes) → IsIn row rows → IsIn x row → bytes_eq x any ≡ false →
    IsIn x (specialisers_asked rows)
is_asked rows row x i j other =
    covers [] (filter (λ y. not (bytes_eq y any)) (all_of rows)) x
    (is_left (λ y. not (bytes_eq y any)) (all_of rows) x (in_all rows row x i j) (ap not other))

pub in_heads : (heads : List (MethodKey × Kind)) (below : Option MethodKey) (head : MethodKey × Kind) → IsIn head heads →
    IsIn head.0.specialisers (specialisers_of heads below)
in_heads [] below head i = absurd i
in_heads (own ∷ heads) below head (inl e) = inl (ap (λ z. z.0.specialisers) e)
in_heads (own ∷ heads) below head (inr i) = inr (in_heads heads below head i)

pub in_below : (heads : List (MethodKey × Kind)) (from : MethodKey) → IsIn from.specialisers (specialisers_of heads (Some from))
in_below [] from = inl refl
in_below (head ∷ heads) from = inr (in_below heads from)

pub in_bases : (abouts : List About) (place : ℕ) (rows : List (List Bytes)) (row : List Bytes) (x y : Bytes) → IsIn row rows → slice_get row place ≡ Some x →
    base_of x abouts ≡ Some y → IsIn y (bases_at abouts place rows)
in_bases abouts place [] row x y i at is = absurd i
in_bases abouts place (own ∷ rows) row x y (inl e) at is =
    let found : base_at abouts (slice_get own place) ≡ Some y = ap (λ z. base_at abouts (slice_get z place)) e ∙ ap (base_at abouts) at ∙ is in
    subst (λ o. IsIn y (with_base o (bases_at abouts place rows))) (sym found) (inl refl)
in_bases abouts place (own ∷ rows) row x y (inr i) at is =
    behind (base_at abouts (slice_get own place)) (in_bases abouts place rows row x y i at is) where
      behind : (o : Option Bytes) → IsIn y (bases_at abouts place rows) → IsIn y (with_base o (bases_at abouts place rows))
      behind None j = j
      behind (Some z) j = inr j

-- ---- orders that agree

-- two orders tell the same of specialisers, and at a position
pub record AgreeOf (first second : Order) (rows : List (List Bytes)) : Type 0 where
  pub base : (row : List Bytes) (x : Bytes) → IsIn row rows → IsIn x row → bytes_eq x any ≡ false → first.base x ≡ second.base x
  pub up : (row : List Bytes) (x : Bytes) → IsIn row rows → IsIn x row → bytes_eq x any ≡ false → first.up x ≡ second.up x

pub record AgreeAt (first second : Order) (own : Info) (x : Bytes) : Type 0 where
  pub sure : is_sure first own x ≡ is_sure second own x
  pub possible : is_possible first own x ≡ is_possible second own x

abbrev pub AgreeEach : Order → Order → List Info → List Bytes → Type 0
AgreeEach first second [] xs = Unit {0}
AgreeEach first second (own ∷ infos) [] = Unit {0}
AgreeEach first second (own ∷ infos) (x ∷ xs) = AgreeAt first second own x × AgreeEach first second infos xs

pub each_sure : (first second : Order) (infos : List Info) (xs : List Bytes) → AgreeEach first second infos xs →
    at_each (is_sure first) infos xs ≡ at_each (is_sure second) infos xs
each_sure first second [] [] agree = refl
each_sure first second [] (x ∷ xs) agree = refl
each_sure first second (own ∷ infos) [] agree = refl
each_sure first second (own ∷ infos) (x ∷ xs) agree =
    ap (λ t. t && at_each (is_sure first) infos xs) agree.0.sure ∙ ap (λ t. is_sure second own x && t) (each_sure first second infos xs agree.1)

pub each_possible : (first second : Order) (infos : List Info) (xs : List Bytes) → AgreeEach first second infos xs →
    at_each (is_possible first) infos xs ≡ at_each (is_possible second) infos xs
each_possible first second [] [] agree = refl
each_possible first second [] (x ∷ xs) agree = refl
each_possible first second (own ∷ infos) [] agree = refl
each_possible first second (own ∷ infos) (x ∷ xs) agree =
    ap (λ t. t && at_each (is_possible first) infos xs) agree.0.possible
    ∙ ap (λ t. is_possible second own x && t) (each_possible first second infos xs agree.1)

over_same : (first second : Order) (x y : Bytes) → (bytes_eq x any ≡ false → first.up x ≡ second.up x) → is_over first x y ≡ is_over second x y
over_same first second x y same =
    elim (cases_Bool (bytes_eq x any)) [
      | inl t ↦
          cond-true (bytes_eq x any) (bytes_eq y any) (is_name_of (first.up x) y) t ∙
          sym (cond-true (bytes_eq x any) (bytes_eq y any) (is_name_of (second.up x) y) t)
      | inr f ↦
          cond-false (bytes_eq x any) (bytes_eq y any) (is_name_of (first.up x) y) f ∙ ap (λ names. is_name_of names y) (same f)
          ∙ sym (cond-false (bytes_eq x any) (bytes_eq y any) (is_name_of (second.up x) y) f)
    ]

pub over_each : (first second : Order) (xs ys : List Bytes) → ((x : Bytes) → IsIn x xs → bytes_eq x any ≡ false → first.up x ≡ second.up x) →
    are_over first xs ys ≡ are_over second xs ys
over_each first second [] [] same = refl
over_each first second [] (y ∷ ys) same = refl
over_each first second (x ∷ xs) [] same = refl
over_each first second (x ∷ xs) (y ∷ ys) same =
    ap (λ t. t && are_over first xs ys) (over_same first second x y (same x (inl refl)))
    ∙ ap (λ t. is_over second x y && t) (over_each first second xs ys (λ z i. same z (inr i)))
