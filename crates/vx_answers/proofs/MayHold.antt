-- What an object of a class may come to count as: what is above the class, and each predicate all of whose parents it may count as.
use Rattle.std.proofs.Common.{List, Bool, true, false, not, ap, refl, sym, subst, suc, zero, inl, inr, arith, ◌∷◌, ◌≡◌, ◌∙◌, ◌<◌, ◌&&◌, ◌||◌, Some, None, ℕ}
use Rattle.std.specs.List.{list_all}
use Rattle.std.proofs.lemmas.Bool.{cases_Bool, cond-true, cond-false, both_ways, false≢true, false_from_ne_true, and_parts}
use Rattle.vx_lists.specs.Members.{IsIn}
use Rattle.vx_lists.proofs.Members.{any_in, in_any, each, all_of}
use Rattle.vx_lists.proofs.Texts.{bytes_same}
use Rattle.vx_syntax.specs.declared.decl.Decl.{Decl}
use Rattle.vx_syntax.specs.declared.decl.Decl.TheVariants as d
use Rattle.vx_syntax.specs.declared.test.Test.{Test}
use Rattle.vx_syntax.specs.Expressions.{Bytes}
use Rattle.vx_program.specs.Program.{IsProgram, is_there, is_named, is_predicate, is_predicate_there, parents_of, leads, Leads, here, up as upward}
use Rattle.vx_model.specs.Order.{plain_names, up, IsBase, plain, first}
use Rattle.vx_model.specs.Fields.{may}
use Rattle.vx_model.proofs.Orders.{chains, on}
use Rattle.vx_model.proofs.Heights.{height, lower, one_named}
use Rattle.vx_model.proofs.Bases.{plain_in, in_plain, base_none, has_base}
use Rattle.vx_model.proofs.Cones.{is_up}
use Rattle.vx_model.proofs.Holding.{need_not}
use Rattle.vx_model.proofs.Predicates.{plain_there}
use Rattle.vx_answers.specs.MayBe.{MayBe}
use Rattle.vx_answers.proofs.BaseIs.{Link, link, gone, object, alone, further}
use Rattle.vx_answers.proofs.FieldIs.{began}

needed : (a b : Bool) → (not a || b) ≡ true → a ≡ true → b ≡ true
needed true b h t = h
needed false b h t = absurd (false≢true t)

-- what is plain is no predicate, and a predicate is one
plain_not : (program : List Decl) → IsProgram program → (x : Bytes) (parents : List Bytes) → IsIn (d.Object x parents) program →
    is_predicate_there program x ≡ false
plain_not program is x parents i =
    false_from_ne_true (is_predicate_there program x) (λ there.
    let r = in_any (λ decl. is_predicate decl && is_named x decl) program there in
    let both = and_parts (is_predicate r.0) (is_named x r.0) r.2 in
    let same : d.Object x parents ≡ r.0 = one_named program is x (d.Object x parents) r.0 i r.1 (bytes_same x x refl) both.1 in
    false≢true (ap is_predicate same ∙ both.0))

predicate_there : (program : List Decl) (x : Bytes) (parents : List Bytes) (test : Test) → IsIn (d.Predicate x parents test) program →
    is_predicate_there program x ≡ true
predicate_there program x parents test i =
    any_in (λ decl. is_predicate decl && is_named x decl) program (d.Predicate x parents test) i (bytes_same x x refl)

-- a base is a plain object to which a chain leads
base_leads : (program : List Decl) {x y : Bytes} → IsBase program x y → Leads program x y × IsIn y (plain_names program)
base_leads program (plain {x = x} parents i) = (here, in_plain program x parents i)
base_leads program (first {x = x} parent parents test i rest) =
    let r = base_leads program rest in
    (upward (d.Predicate x (parent ∷ parents) test) parent i (bytes_same x x refl) (inl refl) r.0, r.1)

module _ (program : List Decl) (is : IsProgram program) (class : Bytes) where
  abbrev covers : Bytes → Bytes → Bool
  covers x own = not (leads program x own) || leads program class own

  -- a plain object above what may be is above the class
  pub may_above : (x own : Bytes) → may program class x ≡ true → IsIn own (plain_names program) → Leads program x own → Leads program class own
  may_above x own h i chain =
      elim (cases_Bool (is_predicate_there program x)) [
        | inl t ↦
            let all : list_all (covers x) (plain_names program) ≡ true =
            sym (cond-true (is_predicate_there program x) (list_all (covers x) (plain_names program)) (leads program class x) t) ∙ h in
            chains.are program class own (needed (leads program x own) (leads program class own) (each (covers x) (plain_names program) all own i)
            (chains.finds program x own chain))
        | inr f ↦
            on program (chains.are program class x
            (sym (cond-false (is_predicate_there program x) (list_all (covers x) (plain_names program)) (leads program class x) f) ∙ h)) chain
      ]

  -- a predicate may be what each of its parents may be
  pub parents_may : (x : Bytes) (parents : List Bytes) (test : Test) → IsIn (d.Predicate x parents test) program →
      ((parent : Bytes) → IsIn parent parents → may program class parent ≡ true) → may program class x ≡ true
  parents_may x parents test i all =
      cond-true (is_predicate_there program x) (list_all (covers x) (plain_names program)) (leads program class x) (predicate_there program x parents test i)
      ∙ all_of (covers x) (plain_names program) (λ own j. need_not (leads program x own) (leads program class own) (λ l.
      chains.finds program class own (by (chains.are program x own l) j i)))
    where
      by : {x own : Bytes} → Leads program x own → IsIn own (plain_names program) → IsIn (d.Predicate x parents test) program → Leads program class own
      by (here {x = x}) j i =
          let r = plain_in program x j in
          absurd (both_ways (is_predicate_there program x) (plain_not program is x r.0 r.1) (predicate_there program x parents test i))
      by (upward {x = x} {y = own} decl parent k n p rest) j i =
          let same : decl ≡ d.Predicate x parents test = one_named program is x decl (d.Predicate x parents test) k i n (bytes_same x x refl) in
          may_above parent own (all parent (subst (λ z. IsIn parent (parents_of z)) same p)) j rest

  -- and what it may be, each of its parents may be
  pub may_parents : (x : Bytes) (parents : List Bytes) (test : Test) → IsIn (d.Predicate x parents test) program → may program class x ≡ true →
      (parent : Bytes) → IsIn parent parents → may program class parent ≡ true
  may_parents x parents test i h parent p =
      let own : Decl = d.Predicate x parents test in
      elim (cases_Bool (is_predicate_there program parent)) [
        | inl t ↦
            cond-true (is_predicate_there program parent) (list_all (covers parent) (plain_names program)) (leads program class parent) t
            ∙ all_of (covers parent) (plain_names program) (λ above j. need_not (leads program parent above) (leads program class above) (λ l.
            chains.finds program class above
            (may_above x above h j (upward own parent i (bytes_same x x refl) p (chains.are program parent above l)))))
        | inr f ↦
            let r = plain_there program parent (is.known own parent i p) f in
            cond-false (is_predicate_there program parent) (list_all (covers parent) (plain_names program)) (leads program class parent) f
            ∙ chains.finds program class parent
            (may_above x parent h (in_plain program parent r.0 r.1) (upward own parent i (bytes_same x x refl) p here))
      ]

  -- where there is something that an object of the class may be, the class is there
  pub may_there : (x : Bytes) → MayBe program class x → is_there program class ≡ true
  may_there x m =
      let r = has_base program is chains x m.0 in
      let b = base_leads program r.2 in
      let own = plain_in program r.0 b.1 in
      began program class r.0 (may_above x r.0 m.1 b.1 b.0) (any_in (is_named r.0) program (d.Object r.0 own.0) own.1 (bytes_same r.0 r.0 refl))

  module _ (In : Bytes → Type 0) (ups : (y : Bytes) → IsIn y (up program class) → In y)
      (closed : (x parent : Bytes) (parents : List Bytes) (test : Test) → IsIn (d.Predicate x (parent ∷ parents) test) program →
      ((own : Bytes) → IsIn own (parent ∷ parents) → In own) → In x) where
    by_link : (x : Bytes) → Link program x → MayBe program class x →
        ((own : Bytes) → height program own < height program x → MayBe program class own → In own) → In x
    by_link x (gone none) m rest = absurd (both_ways (is_there program x) none m.0)
    by_link x (object parents i) m rest =
        let f = plain_not program is x parents i in
        let l : leads program class x ≡ true =
        sym (cond-false (is_predicate_there program x) (list_all (covers x) (plain_names program)) (leads program class x) f) ∙ m.1 in
        ups x (is_up program chains class x (may_there x m) m.0 (chains.are program class x l))
    by_link x (alone test i) m rest =
        let r = has_base program is chains x m.0 in
        let wrong : None ≡ Some r.0 = sym (base_none program is chains x test i) ∙ r.1 in absurd (cc)
    by_link x (further parent parents test i) m rest =
        let own : Decl = d.Predicate x (parent ∷ parents) test in
        closed x parent parents test i (λ p j.
        rest p (lower program is chains own x p i (bytes_same x x refl) j) (is.known own p i j, may_parents x (parent ∷ parents) test i m.1 p j))

    down : (n : ℕ) (x : Bytes) → height program x < n → MayBe program class x → In x
    down zero x less m = absurd (omega (arith, less))
    down (suc n) x less m = by_link x (link program x) m (λ own lower. down n own (omega (arith, less, lower)))

    -- All that an object of the class may be is in what has the names above the class and each predicate whose parents it has.
    pub complete : (x : Bytes) → MayBe program class x → In x
    complete x m = down (suc (height program x)) x (omega arith) m
