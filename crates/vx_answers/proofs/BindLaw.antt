-- What is read for a binding.
use Rattle.std.proofs.Common.{List, Bool, true, false, not, [], ap, refl, sym, subst, suc, zero, inl, inr, arith, map, filter, append-nil, ◌∷◌, ◌++◌}
use Rattle.std.proofs.Common.{◌≡◌, ◌∙◌, ◌⊎◌, ◌+◌, Option, Some, None, ℕ}
use Rattle.std.specs.Prelude.{slice_get}
use Rattle.std.specs.Str.{bytes_eq}
use Rattle.std.proofs.lemmas.Bool.{cases_Bool, cond-true, cond-false, false≢true}
use Rattle.vx_lists.specs.Members.{IsIn}
use Rattle.vx_lists.proofs.Members.{in_front, in_behind, in_either}
use Rattle.vx_lists.proofs.Finding.{left_is}
use Rattle.vx_lists.proofs.Texts.{same_bytes}
use Rattle.vx_names.specs.declared.key.Selector.{Selector}
use Rattle.vx_names.specs.declared.key.MethodKey.{MethodKey}
use Rattle.vx_syntax.specs.declared.decl.Decl.{Decl}
use Rattle.vx_syntax.specs.Expressions.{Bytes}
use Rattle.vx_syntax.specs.Declarations.{any}
use Rattle.vx_program.specs.Program.{IsProgram}
use Rattle.vx_node.specs.declared.node.NodeId.{NodeId}
use Rattle.vx_node.specs.declared.node.NodeId.TheVariants as node
use Rattle.vx_node.specs.declared.node.Fact.TheVariants as fact
use Rattle.vx_node.specs.declared.node.Filter.TheVariants as filters
use Rattle.vx_node.specs.declared.node.Info.{Info}
use Rattle.vx_node.specs.declared.node.Info.TheVariants as i
use Rattle.vx_node.specs.Traces.{Answers}
use Rattle.vx_node.specs.Asking.{asked}
use Rattle.vx_model.specs.Order.{base}
use Rattle.vx_compilation.specs.Readings.{base_in}
use Rattle.vx_compilation.specs.Compiled.{heads}
use Rattle.vx_answers.specs.SendRows.{About, about, beside, base_of, specialisers_of, all_of, specialisers_asked, info_objects, with_base, base_at}
use Rattle.vx_answers.specs.SendRows.{bases_at, cones_asked, bind_among}
use Rattle.vx_answers.specs.BindReads.{IsBaseAt, IsReadFor}
use Rattle.vx_answers.specs.Answers.{ans, reads}
use Rattle.vx_answers.proofs.Walked.{fresh_in}
use Rattle.vx_answers.proofs.EachLaw.{each_asked, about_all, about_one, one_about}
use Rattle.vx_answers.proofs.BindIs.{order_told, about_by, pair, base_found, is_asked, in_bases}
use Rattle.vx_answers.proofs.BindSame.{got_in}
use Rattle.vx_answers.proofs.BaseLaw.{base_row_is}
use Rattle.vx_answers.proofs.Told.{bind_row_is, heads_told}

-- ---- which names were asked for

of_row : (rows : List (List Bytes)) (x : Bytes) → IsIn x (all_of rows) → (row : List Bytes) × IsIn row rows × IsIn x row
of_row [] x j = absurd j
of_row (own ∷ rows) x j =
    elim (in_either x own (all_of rows) j) [
      | inl k ↦ (own, inl refl, k)
      | inr k ↦ let r = of_row rows x k in (r.0, inr r.1, r.2)
    ]

other_than : (b : Bool) → not b ≡ true → b ≡ false
other_than true t = absurd (false≢true t)
other_than false t = refl

asked_is : (rows : List (List Bytes)) (x : Bytes) → IsIn x (specialisers_asked rows) →
    (row : List Bytes) × IsIn row rows × IsIn x row × (bytes_eq x any ≡ false)
asked_is rows x j =
    let own = left_is (λ y. not (bytes_eq y any)) (all_of rows) x (fresh_in [] (filter (λ y. not (bytes_eq y any)) (all_of rows)) x j) in
    let r = of_row rows x own.0 in
    (r.0, r.1, r.2, other_than (bytes_eq x any) own.1)

base_asked : (answer : Answers) (xs : List Bytes) (x y : Bytes) → base_of x (map (about_by answer) xs) ≡ Some y →
    IsIn x xs × ((order_told answer).base x ≡ Some y)
base_asked answer [] x y e = absurd (cc)
base_asked answer (z ∷ xs) x y e =
    elim (cases_Bool (bytes_eq z x)) [
      | inl t ↦ (
        inl (same_bytes z x t),
        ap (order_told answer).base (sym (same_bytes z x t)) ∙ sym (cond-true (bytes_eq z x) ((order_told answer).base z)
            (base_of x (map (about_by answer) xs)) t) ∙ e,
      )
      | inr f ↦
          let r = base_asked answer xs x y (sym (cond-false (bytes_eq z x) ((order_told answer).base z) (base_of x (map (about_by answer) xs)) f) ∙ e) in
          (inr r.0, r.1)
    ]

-- ---- cones

abbrev OfBase : List About → List (List Bytes) → ℕ → Bytes → Type 0
OfBase abouts rows place y = (row : List Bytes) × (x : Bytes) × IsIn row rows × (slice_get row place ≡ Some x) × (base_of x abouts ≡ Some y)

of_bases : (abouts : List About) (place : ℕ) (rows : List (List Bytes)) (y : Bytes) → IsIn y (bases_at abouts place rows) → OfBase abouts rows place y
of_bases abouts place [] y j = absurd j
of_bases abouts place (own ∷ rows) y j = by (slice_get own place) refl j (of_bases abouts place rows y) where
  by_one : (x : Bytes) (o : Option Bytes) → slice_get own place ≡ Some x → base_of x abouts ≡ o → IsIn y (with_base o (bases_at abouts place rows)) →
      (IsIn y (bases_at abouts place rows) → OfBase abouts rows place y) → OfBase abouts (own ∷ rows) place y
  by_one x None at is k rest = let r = rest k in (r.0, r.1, inr r.2, r.3, r.4)
  by_one x (Some z) at is (inl e) rest = (own, x, inl refl, at, is ∙ ap Some e)
  by_one x (Some z) at is (inr k) rest = let r = rest k in (r.0, r.1, inr r.2, r.3, r.4)

  by : (o : Option Bytes) → slice_get own place ≡ o → IsIn y (with_base (base_at abouts o) (bases_at abouts place rows)) →
      (IsIn y (bases_at abouts place rows) → OfBase abouts rows place y) → OfBase abouts (own ∷ rows) place y
  by None at k rest = let r = rest k in (r.0, r.1, inr r.2, r.3, r.4)
  by (Some x) at k rest = by_one x (base_of x abouts) at refl k rest

abbrev OfCone : List About → List (List Bytes) → ℕ → List Info → Bytes → Type 0
OfCone abouts rows place infos y =
    (position : ℕ) × (x : Bytes) × (slice_get infos position ≡ Some (i.Cone x)) × ((y ≡ x) ⊎ OfBase abouts rows (position + place) y)

one_on : (abouts : List About) (rows : List (List Bytes)) (place : ℕ) (own : Info) (infos : List Info) (y : Bytes) → OfCone abouts rows (suc place) infos y →
    OfCone abouts rows place (own ∷ infos) y
one_on abouts rows place own infos y r =
    let same : r.0 + suc place ≡ suc r.0 + place = omega arith in
    (suc r.0, r.1, r.2, elim r.3 [ inl e ↦ inl e | inr b ↦ inr (subst (λ n. OfBase abouts rows n y) same b) ])

of_cones : (abouts : List About) (rows : List (List Bytes)) (place : ℕ) (infos : List Info) (y : Bytes) → IsIn y (cones_asked abouts rows place infos) →
    OfCone abouts rows place infos y
of_cones abouts rows place [] y j = absurd j
of_cones abouts rows place (i.Any ∷ infos) y j = one_on abouts rows place i.Any infos y (of_cones abouts rows (suc place) infos y j)
of_cones abouts rows place (i.Exact x ∷ infos) y j = one_on abouts rows place (i.Exact x) infos y (of_cones abouts rows (suc place) infos y j)
of_cones abouts rows place (i.Cone x ∷ infos) y (inl e) = (0, x, refl, inl (sym e))
of_cones abouts rows place (i.Cone x ∷ infos) y (inr j) =
    elim (in_either y (bases_at abouts place rows) (cones_asked abouts rows (suc place) infos) j) [
      | inl k ↦ let zero_on : place ≡ 0 + place = omega arith in (
        0,
        x,
        refl,
        inr
            (subst (λ n. OfBase abouts rows n y) zero_on (of_bases abouts place rows y k)),
      )
      | inr k ↦ one_on abouts rows place (i.Cone x) infos y (of_cones abouts rows (suc place) infos y k)
    ]

in_cones : (abouts : List About) (rows : List (List Bytes)) (place : ℕ) (infos : List Info) (position : ℕ) (x y : Bytes) →
    slice_get infos position ≡ Some (i.Cone x) → (y ≡ x) ⊎ OfBase abouts rows (position + place) y → IsIn y (cones_asked abouts rows place infos)
in_cones abouts rows place [] position x y at which = absurd (cc)
in_cones abouts rows place (i.Any ∷ infos) zero x y at which = absurd (cc)
in_cones abouts rows place (i.Exact z ∷ infos) zero x y at which = absurd (cc)
in_cones abouts rows place (i.Cone z ∷ infos) zero x y at (inl e) = let same : z ≡ x = cc in inl (same ∙ sym e)
in_cones abouts rows place (i.Cone z ∷ infos) zero x y at (inr b) =
    let zero_on : 0 + place ≡ place = omega arith in
    let c = subst (λ n. OfBase abouts rows n y) zero_on b in
    inr (in_front y (bases_at abouts place rows) (cones_asked abouts rows (suc place) infos) (in_bases abouts place rows c.0 c.1 y c.2 c.3 c.4))
in_cones abouts rows place (i.Any ∷ infos) (suc position) x y at which =
    let same : suc position + place ≡ position + suc place = omega arith in
    in_cones abouts rows (suc place) infos position x y at (elim which [ inl e ↦ inl e | inr b ↦ inr (subst (λ n. OfBase abouts rows n y) same b) ])
in_cones abouts rows place (i.Exact z ∷ infos) (suc position) x y at which =
    let same : suc position + place ≡ position + suc place = omega arith in
    in_cones abouts rows (suc place) infos position x y at (elim which [ inl e ↦ inl e | inr b ↦ inr (subst (λ n. OfBase abouts rows n y) same b) ])
in_cones abouts rows place (i.Cone z ∷ infos) (suc position) x y at which =
    let same : suc position + place ≡ position + suc place = omega arith in
    inr (in_behind y (bases_at abouts place rows) (cones_asked abouts rows (suc place) infos)
    (in_cones abouts rows (suc place) infos position x y at (elim which [ inl e ↦ inl e | inr b ↦ inr (subst (λ n. OfBase abouts rows n y) same b) ])))

-- ---- over a program

abbrev of_specialiser : Bytes → List NodeId
of_specialiser x = node.Filter (filters.Base x) ∷ node.Filter (filters.Up x) ∷ []

abbrev of_object : Bytes → List NodeId
of_object x = node.Filter (filters.Up x) ∷ []

abbrev of_cone : Bytes → List NodeId
of_cone x = node.Filter (filters.Cone x) ∷ []

module _ (program : List Decl) (is : IsProgram program) (selector : Selector) (infos : List Info) (below : Option MethodKey) where
  abbrev rows : List (List Bytes)
  rows = specialisers_of (heads program selector) below

  abbrev abouts : List About
  abouts = map (about_by (ans program)) (specialisers_asked rows)

  abbrev cones : List Bytes
  cones = cones_asked abouts rows 0 infos

  abbrev behind : List NodeId
  behind = about_all of_object (info_objects infos) ++ (about_all of_cone cones ++ [])

  all_read : reads program (node.Filter (filters.Bind selector infos below))
      ≡ node.Fact (fact.Heads selector) ∷ (about_all of_specialiser (specialisers_asked rows) ++ behind)
  all_read =
      (bind_row_is program is selector infos below).read
      ∙ ap (λ own. node.Fact (fact.Heads selector) ∷ asked (bind_among own infos below) (ans program)) (heads_told program selector)
      ∙ ap (λ rest. node.Fact (fact.Heads selector) ∷ rest)
      (each_asked about (ans program) (about_by (ans program)) (λ x. refl) (specialisers_asked rows) _
      ∙ ap (λ rest. about_all of_specialiser (specialisers_asked rows) ++ rest)
      (each_asked (beside filters.Up) (ans program) (pair (order_told (ans program)).up) (λ x. refl) (info_objects infos) _
      ∙ ap (λ rest. about_all of_object (info_objects infos) ++ rest)
      (each_asked (beside filters.Cone) (ans program) (pair (order_told (ans program)).cone) (λ x. refl) cones _)))

  base_told : (x : Bytes) → (order_told (ans program)).base x ≡ base program x
  base_told x = ap base_in (base_row_is program is x).answer

  to_base : (place : ℕ) (y : Bytes) → OfBase abouts rows (place + 0) y → IsBaseAt program selector below place y
  to_base place y b =
      let same : place + 0 ≡ place = omega arith in
      let c = subst (λ n. OfBase abouts rows n y) same b in
      let own = base_asked (ans program) (specialisers_asked rows) c.1 y c.4 in
      let r = asked_is rows c.1 own.0 in
      (c.0, c.1, c.2, c.3, r.3, sym (base_told c.1) ∙ own.1)

  from_base : (place : ℕ) (y : Bytes) → IsBaseAt program selector below place y → OfBase abouts rows (place + 0) y
  from_base place y b =
      let same : place ≡ place + 0 = omega arith in
      subst (λ n. OfBase abouts rows n y) same (
        b.0,
        b.1,
        b.2,
        b.3,
        base_found (ans program) (specialisers_asked rows) b.1 (is_asked rows b.0 b.1 b.2 (got_in b.0 place b.1 b.3) b.4) ∙
            base_told b.1 ∙ b.5,
      )

  pub bind_is_read : (subject : NodeId) → IsIn subject (reads program (node.Filter (filters.Bind selector infos below))) →
      IsReadFor program selector infos below subject
  bind_is_read subject j = by (subst (IsIn subject) all_read j) where
    by : IsIn subject (node.Fact (fact.Heads selector) ∷ (about_all of_specialiser (specialisers_asked rows) ++ behind)) →
        IsReadFor program selector infos below subject
    by (inl e) = inl (sym e)
    by (inr k) =
        elim (in_either subject (about_all of_specialiser (specialisers_asked rows)) behind k) [
          | inl l ↦
              let r = about_one of_specialiser (specialisers_asked rows) subject l in
              inr (inl (
                r.0,
                asked_is rows r.0 r.1,
                elim r.2 [
                  | inl e ↦ inl (sym e)
                  | inr m ↦ elim m [ inl e ↦ inr (sym e) | inr none ↦ absurd none ]
                ],
              ))
          | inr l ↦
              elim (in_either subject (about_all of_object (info_objects infos)) (about_all of_cone cones ++ []) l) [
                | inl m ↦
                    let r = about_one of_object (info_objects infos) subject m in
                    inr (inr (inl (r.0, r.1, elim r.2 [ inl e ↦ sym e | inr none ↦ absurd none ])))
                | inr m ↦
                    let r = about_one of_cone cones subject (subst (IsIn subject) (append-nil (about_all of_cone cones)) m) in
                    let c = of_cones abouts rows 0 infos r.0 r.1 in
                    inr (inr (inr (
                      r.0,
                      (c.0, c.1, c.2, elim c.3 [ inl e ↦ inl e | inr b ↦ inr (to_base c.0 r.0 b) ]),
                      elim r.2 [ inl e ↦ sym e | inr none ↦ absurd none ],
                    )))
              ]
        ]

  pub bind_reads_each : (subject : NodeId) → IsReadFor program selector infos below subject →
      IsIn subject (reads program (node.Filter (filters.Bind selector infos below)))
  bind_reads_each subject which = subst (IsIn subject) (sym all_read) (by which) where
    by : IsReadFor program selector infos below subject →
        IsIn subject (node.Fact (fact.Heads selector) ∷ (about_all of_specialiser (specialisers_asked rows) ++ behind))
    by (inl e) = inl (sym e)
    by (inr (inl (x, r, e))) =
        inr (in_front subject (about_all of_specialiser (specialisers_asked rows)) behind
        (one_about of_specialiser (specialisers_asked rows) x subject (is_asked rows r.0 x r.1 r.2 r.3)
        (elim e [ inl s ↦ inl (sym s) | inr s ↦ inr (inl (sym s)) ])))
    by (inr (inr (inl (x, k, e)))) =
        inr (in_behind subject (about_all of_specialiser (specialisers_asked rows)) behind
        (in_front subject (about_all of_object (info_objects infos)) (about_all of_cone cones ++ [])
        (one_about of_object (info_objects infos) x subject k (inl (sym e)))))
    by (inr (inr (inr (y, c, e)))) =
        inr (in_behind subject (about_all of_specialiser (specialisers_asked rows)) behind
        (in_behind subject (about_all of_object (info_objects infos)) (about_all of_cone cones ++ [])
        (in_front subject (about_all of_cone cones) []
        (one_about of_cone cones y subject
        (in_cones abouts rows 0 infos c.0 c.1 y c.2 (elim c.3 [ inl s ↦ inl s | inr b ↦ inr (from_base c.0 y b) ])) (inl (sym e))))))
