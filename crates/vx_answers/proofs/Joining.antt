-- Which predicates join those that are met.
use Rattle.std.proofs.Common.{List, Bool, true, false, not, [], ap, refl, sym, subst, inl, inr, arith, length, append_assoc, append-nil, ◌∷◌, ◌++◌}
use Rattle.std.proofs.Common.{◌≡◌, ◌∙◌, ◌≤◌, ◌&&◌}
use Rattle.std.specs.Prelude.{nat_lt, if◌then◌else◌}
use Rattle.std.specs.List.{list_all}
use Rattle.std.proofs.lemmas.Bool.{cases_Bool, cond-true, cond-false, and_parts, and_from, both_ways, false≢true}
use Rattle.vx_lists.specs.Members.{IsIn}
use Rattle.vx_lists.proofs.Members.{any_in, in_front, in_behind, in_either, each, all_of}
use Rattle.vx_lists.proofs.Texts.{bytes_same}
use Rattle.std.specs.Str.{bytes_eq}
use Rattle.vx_syntax.specs.declared.decl.Decl.{Decl}
use Rattle.vx_syntax.specs.declared.decl.Decl.TheVariants as d
use Rattle.vx_syntax.specs.declared.test.Test.{Test}
use Rattle.vx_syntax.specs.Expressions.{Bytes}
use Rattle.vx_program.specs.Program.{IsProgram, is_named, is_name_of}
use Rattle.vx_node.specs.declared.node.NodeId.{NodeId}
use Rattle.vx_node.specs.declared.node.NodeId.TheVariants as node
use Rattle.vx_node.specs.declared.node.Fact.TheVariants as fact
use Rattle.vx_node.specs.declared.answer.Answer.{Answer}
use Rattle.vx_node.specs.declared.answer.Answer.TheVariants as answers
use Rattle.vx_node.specs.declared.answer.Stands.TheVariants as h
use Rattle.vx_node.specs.Traces.{Answers}
use Rattle.vx_node.specs.Asking.{Asking, mixes, outcome, asked}
use Rattle.vx_model.specs.Order.{object_names}
use Rattle.vx_model.proofs.Cones.{if_there}
use Rattle.vx_answers.specs.MayBe.{MayBe, IsPredicateOn}
use Rattle.vx_answers.specs.Facts.{children_of}
use Rattle.vx_answers.specs.OrderRows.{most_names}
use Rattle.vx_answers.specs.FieldRows.{predicate_ones, may_hold, joining}
use Rattle.vx_answers.proofs.Pigeons.{no_more}
use Rattle.vx_answers.proofs.Walked.{AreDistinct, met_is, not_met, one_more_distinct, not_more}
use Rattle.vx_answers.proofs.UpRow.{GivesDecls}
use Rattle.vx_answers.proofs.Few.{few_objects}
use Rattle.vx_answers.proofs.BaseIs.{decl_is}
use Rattle.vx_answers.proofs.EachLaw.{about_all}
use Rattle.vx_answers.proofs.MayHold.{parents_may}

-- the predicates among the children of a name have it among their parents, and the other way round
pub child_is : (decls : List Decl) (x y : Bytes) → IsIn y (predicate_ones (children_of decls x)) → IsPredicateOn decls x y
child_is [] x y i = absurd i
child_is (d.Predicate own parents test ∷ decls) x y i =
    elim (cases_Bool (is_name_of parents x)) [
      | inl t ↦
          elim (subst (λ cs. IsIn y (predicate_ones cs)) (cond-true (is_name_of parents x) ((own, h.Predicate) ∷ children_of decls x)
          (children_of decls x) t) i) [
            | inl e ↦ (parents, test, inl (ap (λ z. d.Predicate z parents test) e), met_is parents x t)
            | inr j ↦ let r = child_is decls x y j in (r.0, r.1, inr r.2, r.3)
          ]
      | inr f ↦
          let r = child_is decls x y
          (subst (λ cs. IsIn y (predicate_ones cs)) (cond-false (is_name_of parents x) ((own, h.Predicate) ∷ children_of decls x) (children_of decls x) f) i) in
          (r.0, r.1, inr r.2, r.3)
    ]
child_is (d.Object own parents ∷ decls) x y i =
    elim (cases_Bool (is_name_of parents x)) [
      | inl t ↦
          let r = child_is decls x y
          (subst (λ cs. IsIn y (predicate_ones cs)) (cond-true (is_name_of parents x) ((own, h.Plain) ∷ children_of decls x) (children_of decls x) t) i) in
          (r.0, r.1, inr r.2, r.3)
      | inr f ↦
          let r = child_is decls x y
          (subst (λ cs. IsIn y (predicate_ones cs)) (cond-false (is_name_of parents x) ((own, h.Plain) ∷ children_of decls x) (children_of decls x) f) i) in
          (r.0, r.1, inr r.2, r.3)
    ]
child_is (d.Field key start changeable ∷ decls) x y i = let r = child_is decls x y i in (r.0, r.1, inr r.2, r.3)
child_is (d.Method key formals body ∷ decls) x y i = let r = child_is decls x y i in (r.0, r.1, inr r.2, r.3)

pub is_child : (decls : List Decl) (x y : Bytes) (parents : List Bytes) (test : Test) → IsIn (d.Predicate y parents test) decls → IsIn x parents →
    IsIn y (predicate_ones (children_of decls x))
is_child [] x y parents test i j = absurd i
is_child (d.Predicate own others other ∷ decls) x y parents test (inl e) j =
    let same : others ≡ parents = cc in
    let name : own ≡ y = cc in
    let t : is_name_of others x ≡ true = any_in (λ name. bytes_eq name x) others x (subst (IsIn x) (sym same) j) (bytes_same x x refl) in
    subst (λ cs. IsIn y (predicate_ones cs)) (sym (cond-true (is_name_of others x) ((own, h.Predicate) ∷ children_of decls x) (children_of decls x) t))
    (inl name)
is_child (d.Predicate own others other ∷ decls) x y parents test (inr i) j =
    elim (cases_Bool (is_name_of others x)) [
      | inl t ↦
          subst (λ cs. IsIn y (predicate_ones cs)) (sym (cond-true (is_name_of others x) ((own, h.Predicate) ∷ children_of decls x) (children_of decls x) t))
          (inr (is_child decls x y parents test i j))
      | inr f ↦
          subst (λ cs. IsIn y (predicate_ones cs)) (sym (cond-false (is_name_of others x) ((own, h.Predicate) ∷ children_of decls x) (children_of decls x) f))
          (is_child decls x y parents test i j)
    ]
is_child (d.Object own others ∷ decls) x y parents test (inl e) j = absurd (cc)
is_child (d.Object own others ∷ decls) x y parents test (inr i) j =
    elim (cases_Bool (is_name_of others x)) [
      | inl t ↦
          subst (λ cs. IsIn y (predicate_ones cs)) (sym (cond-true (is_name_of others x) ((own, h.Plain) ∷ children_of decls x) (children_of decls x) t))
          (is_child decls x y parents test i j)
      | inr f ↦
          subst (λ cs. IsIn y (predicate_ones cs)) (sym (cond-false (is_name_of others x) ((own, h.Plain) ∷ children_of decls x) (children_of decls x) f))
          (is_child decls x y parents test i j)
    ]
is_child (d.Field key start changeable ∷ decls) x y parents test (inl e) j = absurd (cc)
is_child (d.Field key start changeable ∷ decls) x y parents test (inr i) j = is_child decls x y parents test i j
is_child (d.Method key formals body ∷ decls) x y parents test (inl e) j = absurd (cc)
is_child (d.Method key formals body ∷ decls) x y parents test (inr i) j = is_child decls x y parents test i j

-- the declaration of a name
abbrev pub decl_node : Bytes → List NodeId
decl_node x = node.Fact (fact.Decl x) ∷ []

not_true : (b : Bool) → not b ≡ true → b ≡ false
not_true true n = absurd (false≢true n)
not_true false n = refl

module _ (program : List Decl) (is : IsProgram program) (class : Bytes) (answer : Answers) (given : GivesDecls program answer) {A : Type 0}
    (go : List Bytes → List Bytes → Asking A) where
  -- What has joined: names that an object of the class may be, each predicate all of whose parents were met among them.
  pub record Joined (met left predicates : List Bytes) : Type 0 where
    pub new : List Bytes
    pub comes : outcome (joining met left predicates go) answer ≡ outcome (go (met ++ new) (left ++ new)) answer
    pub asks : asked (joining met left predicates go) answer ≡ about_all decl_node predicates ++ asked (go (met ++ new) (left ++ new)) answer
    pub distinct : AreDistinct (met ++ new)
    pub came : (y : Bytes) → IsIn y new → MayBe program class y
    pub covers : (y : Bytes) (parents : List Bytes) (test : Test) → IsIn y predicates → IsIn (d.Predicate y parents test) program →
        ((own : Bytes) → IsIn own parents → IsIn own met) → IsIn y (met ++ new)

  nobody : (met left : List Bytes) → AreDistinct met → Joined met left []
  nobody met left distinct = record {
    new = [];
    comes = ap (λ ms. outcome (go ms left) answer) (sym (append-nil met)) ∙ ap (λ ls. outcome (go (met ++ []) ls) answer) (sym (append-nil left));
    asks = ap (λ ms. asked (go ms left) answer) (sym (append-nil met)) ∙ ap (λ ls. asked (go (met ++ []) ls) answer) (sym (append-nil left));
    distinct = subst AreDistinct (sym (append-nil met)) distinct;
    came = λ y i. absurd i;
    covers = λ y parents test i k all. absurd i;
  }

  -- what is asked of one predicate
  abbrev next : (met left : List Bytes) → Bytes → List Bytes → Answer → Asking A
  next met left x xs own =
      if may_hold met own && not (is_name_of met x) then
      (if nat_lt most_names (length (met ++ x ∷ [])) then mixes (node.Fact (fact.Decl x)) else joining (met ++ x ∷ []) (left ++ x ∷ []) xs go)
      else joining met left xs go

  hold_is : (met : List Bytes) (x : Bytes) (parents : List Bytes) (test : Test) → IsIn (d.Predicate x parents test) program →
      may_hold met (answer (node.Fact (fact.Decl x))) ≡ list_all (is_name_of met) parents
  hold_is met x parents test i = ap (may_hold met) (given x ∙ ap answers.Decl (decl_is program is x (d.Predicate x parents test) i (bytes_same x x refl)))

  one_more : (met left : List Bytes) (x : Bytes) (xs : List Bytes) → next met left x xs (answer (node.Fact (fact.Decl x)))
      ≡ joining (met ++ x ∷ []) (left ++ x ∷ []) xs go → MayBe program class x → Joined (met ++ x ∷ []) (left ++ x ∷ []) xs → Joined met left (x ∷ xs)
  one_more met left x xs to m rest =
      let met_too : (met ++ x ∷ []) ++ rest.new ≡ met ++ x ∷ rest.new = append_assoc met (x ∷ []) rest.new in
      let left_too : (left ++ x ∷ []) ++ rest.new ≡ left ++ x ∷ rest.new = append_assoc left (x ∷ []) rest.new in
      record {
        new = x ∷ rest.new;
        comes =
            ap (λ q. outcome q answer) to ∙ rest.comes ∙ ap (λ ms. outcome (go ms ((left ++ x ∷ []) ++ rest.new)) answer) met_too
            ∙ ap (λ ls. outcome (go (met ++ x ∷ rest.new) ls) answer) left_too;
        asks =
            ap (λ q. node.Fact (fact.Decl x) ∷ asked q answer) to
            ∙ ap (λ nodes. node.Fact (fact.Decl x) ∷ nodes) (rest.asks
            ∙ ap (λ ms. about_all decl_node xs ++ asked (go ms ((left ++ x ∷ []) ++ rest.new)) answer) met_too
            ∙ ap (λ ls. about_all decl_node xs ++ asked (go (met ++ x ∷ rest.new) ls) answer) left_too);
        distinct = subst AreDistinct met_too rest.distinct;
        came = λ y i. elim i [ inl e ↦ subst (MayBe program class) e m | inr j ↦ rest.came y j ];
        covers = λ y parents test i k all.
            elim i [
              | inl e ↦ in_behind y met (x ∷ rest.new) (inl e)
              | inr j ↦ subst (IsIn y) met_too (rest.covers y parents test j k (λ own l. in_front own met (x ∷ []) (all own l)))
            ];
      }

  as_before : (met left : List Bytes) (x : Bytes) (xs : List Bytes) → next met left x xs (answer (node.Fact (fact.Decl x))) ≡ joining met left xs go →
      ((parents : List Bytes) (test : Test) → IsIn (d.Predicate x parents test) program → ((own : Bytes) → IsIn own parents → IsIn own met) → IsIn x met) →
      Joined met left xs → Joined met left (x ∷ xs)
  as_before met left x xs to known rest = record {
    new = rest.new;
    comes = ap (λ q. outcome q answer) to ∙ rest.comes;
    asks = ap (λ q. node.Fact (fact.Decl x) ∷ asked q answer) to ∙ ap (λ nodes. node.Fact (fact.Decl x) ∷ nodes) rest.asks;
    distinct = rest.distinct;
    came = rest.came;
    covers = λ y parents test i k all.
        elim i [
          | inl e ↦
              in_front y met rest.new (subst (λ z. IsIn z met) e (known parents test (subst (λ z. IsIn (d.Predicate z parents test) program) (sym e) k) all))
          | inr j ↦ rest.covers y parents test j k all
        ];
  }

  few : (met : List Bytes) → AreDistinct met → ((y : Bytes) → IsIn y met → MayBe program class y) → length met ≤ most_names
  few met distinct came =
      let fits : length met ≤ length (object_names program) = no_more met (object_names program) distinct (λ y i. if_there program y (came y i).0) in
      omega (arith, fits, few_objects program is)

  pub joined : (met left : List Bytes) → AreDistinct met → ((y : Bytes) → IsIn y met → MayBe program class y) → (predicates : List Bytes) →
      ((y : Bytes) → IsIn y predicates → (parents : List Bytes) × (test : Test) × IsIn (d.Predicate y parents test) program) → Joined met left predicates
  joined met left distinct came [] are = nobody met left distinct
  joined met left distinct came (x ∷ xs) are =
      let own = are x (inl refl) in
      let hold = hold_is met x own.0 own.1 own.2 in
      let test : Bool = may_hold met (answer (node.Fact (fact.Decl x))) && not (is_name_of met x) in
      let more : Asking A = if nat_lt most_names (length (met ++ x ∷ [])) then mixes (node.Fact (fact.Decl x)) else joining (met ++ x ∷ [])
      (left ++ x ∷ []) xs go in
      let less : Asking A = joining met left xs go in
      elim (cases_Bool test) [
        | inl t ↦
            let both = and_parts (may_hold met (answer (node.Fact (fact.Decl x)))) (not (is_name_of met x)) t in
            let parents : (p : Bytes) → IsIn p own.0 → IsIn p met = λ p j. met_is met p (each (is_name_of met) own.0 (sym hold ∙ both.0) p j) in
            let m : MayBe program class x = (
              any_in (is_named x) program (d.Predicate x own.0 own.1) own.2 (bytes_same x x refl),
              parents_may program is class x own.0 own.1 own.2 (λ p j. (came p (parents p j)).1),
            ) in
            let distinct' = one_more_distinct met x distinct (not_met met x (not_true (is_name_of met x) both.1)) in
            let came' : (y : Bytes) → IsIn y (met ++ x ∷ []) → MayBe program class y =
            λ y i. elim (in_either y met (x ∷ []) i) [
              | inl j ↦ came y j
              | inr j ↦ elim j [ inl e ↦ subst (MayBe program class) e m | inr none ↦ absurd none ]
            ] in
            one_more met left x xs
            (cond-true test more less t
            ∙ cond-false (nat_lt most_names (length (met ++ x ∷ []))) (mixes (node.Fact (fact.Decl x))) (joining (met ++ x ∷ []) (left ++ x ∷ []) xs go)
            (not_more (length (met ++ x ∷ [])) (few (met ++ x ∷ []) distinct' came')))
            m (joined (met ++ x ∷ []) (left ++ x ∷ []) distinct' came' xs (λ y i. are y (inr i)))
        | inr f ↦
            as_before met left x xs (cond-false test more less f)
            (λ parents other i all.
            elim (cases_Bool (is_name_of met x)) [
              | inl s ↦ met_is met x s
              | inr s ↦
                  let holds : may_hold met (answer (node.Fact (fact.Decl x))) ≡ true =
                  hold_is met x parents other i
                  ∙ all_of (is_name_of met) parents (λ p j. any_in (λ name. bytes_eq name p) met p (all p j) (bytes_same p p refl)) in
                  absurd (both_ways test f (and_from (may_hold met (answer (node.Fact (fact.Decl x)))) (not (is_name_of met x)) holds (ap not s)))
            ])
            (joined met left distinct came xs (λ y i. are y (inr i)))
      ]
