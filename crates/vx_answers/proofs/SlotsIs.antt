-- What is asked for the slots of a class comes to them.
use Rattle.std.proofs.Common.{List, [], ap, refl, sym, subst, suc, zero, inl, inr, arith, length, length-append, append_assoc, append-nil, ◌∷◌, ◌++◌}
use Rattle.std.proofs.Common.{◌≡◌, ◌∙◌, ◌⊎◌, ◌+◌, ◌≤◌, ℕ}
use Rattle.std.specs.Str.{bytes_eq}
use Rattle.std.proofs.lemmas.Bool.{cases_Bool, both_ways}
use Rattle.vx_lists.specs.Members.{IsIn}
use Rattle.vx_lists.proofs.Members.{any_in, in_front, in_behind, in_either}
use Rattle.vx_lists.proofs.Finding.{left_is, is_left}
use Rattle.vx_lists.proofs.Texts.{bytes_same}
use Rattle.vx_names.specs.declared.key.FieldKey.{FieldKey}
use Rattle.vx_syntax.specs.declared.decl.Decl.{Decl}
use Rattle.vx_syntax.specs.declared.decl.Decl.TheVariants as d
use Rattle.vx_syntax.specs.declared.test.Test.{Test}
use Rattle.vx_syntax.specs.Expressions.{Bytes}
use Rattle.vx_program.specs.Program.{IsProgram, is_name_of}
use Rattle.vx_node.specs.declared.node.NodeId.{NodeId}
use Rattle.vx_node.specs.declared.node.NodeId.TheVariants as node
use Rattle.vx_node.specs.declared.node.Fact.TheVariants as fact
use Rattle.vx_node.specs.declared.answer.Answer.TheVariants as answers
use Rattle.vx_node.specs.Traces.{Answers}
use Rattle.vx_node.specs.Asking.{Asking, gives, followed, outcome, asked, Gives}
use Rattle.vx_node.proofs.SameAnswers.{followed_outcome, followed_asked}
use Rattle.vx_model.specs.Order.{up, object_names}
use Rattle.vx_model.specs.Fields.{fields, slots, may}
use Rattle.vx_model.proofs.Orders.{chains}
use Rattle.vx_model.proofs.Cones.{up_is, if_there}
use Rattle.vx_model.proofs.Within.{above_may}
use Rattle.vx_answers.specs.MayBe.{MayBe, IsPredicateOn, IsAround}
use Rattle.vx_answers.specs.Facts.{children_of}
use Rattle.vx_answers.specs.OrderRows.{most_names, up_row}
use Rattle.vx_answers.specs.FieldRows.{Slot, in_key_order, predicates_in, joining, spread, slots_row}
use Rattle.vx_answers.proofs.Ascending.{ascending_apart}
use Rattle.vx_answers.proofs.Pigeons.{no_more}
use Rattle.vx_answers.proofs.Walked.{AreDistinct, met_is, done_or, not_done, shifted, longer}
use Rattle.vx_answers.proofs.UpRow.{GivesDecls}
use Rattle.vx_answers.proofs.Few.{few_objects}
use Rattle.vx_answers.proofs.UpIs.{up_value, up_reads, up_reads_all, up_ascending}
use Rattle.vx_answers.proofs.EachLaw.{about_all, about_one, one_about}
use Rattle.vx_answers.proofs.SlotsOrder.{KeysApart, in_sorted, sorted_in, are_sorted, filter_sorted, joined_apart, same_slots, fields_sorted}
use Rattle.vx_answers.proofs.FieldIs.{GivesFields, slots_at, on_it, it_on, at_apart, field_there}
use Rattle.vx_answers.proofs.MayHold.{complete}
use Rattle.vx_answers.proofs.Joining.{Joined, joined, decl_node, child_is, is_child}

-- these answers say which children names have as the program does
abbrev pub TellsChildren : List Decl → Answers → Type 0
TellsChildren program answer = (x : Bytes) → answer (node.Fact (fact.Children x)) ≡ answers.Children (children_of program x)

module _ (program : List Decl) (is : IsProgram program) (class : Bytes) (answer : Answers) (decls_given : GivesDecls program answer)
    (fields_given : GivesFields program answer) (children_given : TellsChildren program answer) where
  abbrev own_slots : Bytes → List Slot
  own_slots = slots_at program is answer decls_given fields_given

  abbrev predicates : Bytes → List Bytes
  predicates x = predicates_in (answer (node.Fact (fact.Children x)))

  -- a predicate is met once all its parents are
  abbrev Closed : List Bytes → List Bytes → Type 0
  Closed parents_in met =
      (x parent : Bytes) (parents : List Bytes) (test : Test) → IsIn (d.Predicate x (parent ∷ parents) test) program →
      ((own : Bytes) → IsIn own (parent ∷ parents) → IsIn own parents_in) → IsIn x met

  -- How far it has come: the names done, and those left behind them, all of them met once.
  pub record Midway (steps : ℕ) (done left : List Bytes) (found : List Slot) : Type 0 where
    pub distinct : AreDistinct (done ++ left)
    pub came : (x : Bytes) → IsIn x (done ++ left) → MayBe program class x
    pub ups : (x : Bytes) → IsIn x (up program class) → IsIn x (done ++ left)
    pub closed : Closed done (done ++ left)
    pub apart : KeysApart found
    pub found_is : (one : Slot) → IsIn one found → IsIn one (fields program) × IsIn one.0.specialiser done
    pub is_found : (one : Slot) → IsIn one (fields program) → IsIn one.0.specialiser done → IsIn one found
    pub room : steps + length done ≡ most_names

  -- Where it ends.
  pub record Spread (done : List Bytes) (q : Asking (List Slot)) : Type 0 where
    pub names : List Bytes
    pub found : List Slot
    pub comes : outcome q answer ≡ Gives found
    pub came : (x : Bytes) → IsIn x names → MayBe program class x
    pub ups : (x : Bytes) → IsIn x (up program class) → IsIn x names
    pub closed : Closed names names
    pub apart : KeysApart found
    pub found_is : (one : Slot) → IsIn one found → IsIn one (fields program) × IsIn one.0.specialiser names
    pub is_found : (one : Slot) → IsIn one (fields program) → IsIn one.0.specialiser names → IsIn one found
    pub asks_of : (subject : NodeId) → IsIn subject (asked q answer) → (x : Bytes) × MayBe program class x × IsAround program x subject
    pub asks_all : (x : Bytes) → IsIn x names → IsIn x done ⊎ ((subject : NodeId) → IsAround program x subject → IsIn subject (asked q answer))

  ends : (steps : ℕ) (done : List Bytes) (found : List Slot) → Midway steps done [] found → Spread done (gives found)
  ends steps done found mid = record {
    names = done;
    found = found;
    comes = refl;
    came = λ x i. mid.came x (in_front x done [] i);
    ups = λ x i. subst (IsIn x) (append-nil done) (mid.ups x i);
    closed = λ x parent parents test i all. subst (IsIn x) (append-nil done) (mid.closed x parent parents test i all);
    apart = mid.apart;
    found_is = mid.found_is;
    is_found = mid.is_found;
    asks_of = λ subject i. absurd i;
    asks_all = λ x i. inl i;
  }

  children_are : (x y : Bytes) → IsIn y (predicates x) → IsPredicateOn program x y
  children_are x y i = child_is program x y (subst (IsIn y) (ap predicates_in (children_given x)) i)

  are_children : (x y : Bytes) → IsPredicateOn program x y → IsIn y (predicates x)
  are_children x y r = subst (IsIn y) (sym (ap predicates_in (children_given x))) (is_child program x y r.0 r.1 r.2 r.3)

  -- where it goes on
  abbrev onward : ℕ → Bytes → List Slot → List Bytes → List Bytes → Asking (List Slot)
  onward steps x found met left = spread steps met left (own_slots x ++ found)

  abbrev Joins : ℕ → (done : List Bytes) → Bytes → (left : List Bytes) → List Slot → Type 0
  Joins steps done x left found = Joined program is class answer decls_given (onward steps x found) (done ++ x ∷ left) left (predicates x)

  joins : (steps : ℕ) (done : List Bytes) (x : Bytes) (left : List Bytes) (found : List Slot) → Midway (suc steps) done (x ∷ left) found →
      Joins steps done x left found
  joins steps done x left found mid =
      joined program is class answer decls_given (onward steps x found) (done ++ x ∷ left) left mid.distinct mid.came (predicates x)
      (λ y i. let r = children_are x y i in (r.0, r.1, r.2))

  all_met : (done : List Bytes) (x : Bytes) (left new : List Bytes) → (done ++ x ∷ []) ++ (left ++ new) ≡ (done ++ x ∷ left) ++ new
  all_met done x left new = sym (append_assoc (done ++ x ∷ []) left new) ∙ ap (λ names. names ++ new) (shifted done x left)

  -- one name is done
  passed : (steps : ℕ) (done : List Bytes) (x : Bytes) (left : List Bytes) (found : List Slot) → Midway (suc steps) done (x ∷ left) found →
      (j : Joins steps done x left found) → Midway steps (done ++ x ∷ []) (left ++ j.new) (own_slots x ++ found)
  passed steps done x left found mid j =
      let met : List Bytes = done ++ x ∷ left in
      let all = all_met done x left j.new in
      record {
        distinct = subst AreDistinct (sym all) j.distinct;
        came = λ y i. elim (in_either y met j.new (subst (IsIn y) all i)) [ inl k ↦ mid.came y k | inr k ↦ j.came y k ];
        ups = λ y i. subst (IsIn y) (sym all) (in_front y met j.new (mid.ups y i));
        closed = λ y parent parents test i within.
            subst (IsIn y) (sym all)
            (elim (cases_Bool (is_name_of (parent ∷ parents) x)) [
              | inl t ↦
                  j.covers y (parent ∷ parents) test (are_children x y (parent ∷ parents, test, i, met_is (parent ∷ parents) x t)) i (λ own k.
                  elim (done_or done x own (within own k)) [
                    | inl l ↦ in_front own done (x ∷ left) l
                    | inr e ↦ in_behind own done (x ∷ left) (inl e)
                  ])
              | inr f ↦
                  in_front y met j.new (mid.closed y parent parents test i (λ own k.
                  elim (done_or done x own (within own k)) [
                    | inl l ↦ l
                    | inr e ↦
                        absurd (both_ways (is_name_of (parent ∷ parents) x) f
                        (any_in (λ name. bytes_eq name x) (parent ∷ parents) own k (bytes_same own x (sym e))))
                  ]))
            ]);
        apart =
            joined_apart (own_slots x) found (at_apart program is answer decls_given fields_given x) mid.apart (λ one other i k same.
            let e : x ≡ other.0.specialiser =
            sym (on_it program is answer decls_given fields_given x one i).1 ∙ ap (λ (z : FieldKey). z.specialiser) same in
            not_done done x left mid.distinct (subst (λ z. IsIn z done) (sym e) (mid.found_is other k).1));
        found_is = λ one i.
            elim (in_either one (own_slots x) found i) [
              | inl k ↦
                  let r = on_it program is answer decls_given fields_given x one k in
                  (r.0, in_behind one.0.specialiser done (x ∷ []) (inl (sym r.1)))
              | inr k ↦ let r = mid.found_is one k in (r.0, in_front one.0.specialiser done (x ∷ []) r.1)
            ];
        is_found = λ one i k.
            elim (done_or done x one.0.specialiser k) [
              | inl l ↦ in_behind one (own_slots x) found (mid.is_found one i l)
              | inr e ↦
                  in_front one (own_slots x) found
                  (subst (λ z. IsIn one (own_slots z)) (sym e) (it_on program is answer decls_given fields_given one i))
            ];
        room = omega (arith, mid.room, longer done x);
      }

  -- and what it asked for that
  around : (steps : ℕ) (done : List Bytes) (x : Bytes) (left : List Bytes) (found : List Slot) → Midway (suc steps) done (x ∷ left) found →
      (j : Joins steps done x left found) →
      Spread (done ++ x ∷ []) (spread steps ((done ++ x ∷ []) ++ (left ++ j.new)) (left ++ j.new) (own_slots x ++ found)) →
      Spread done (spread (suc steps) (done ++ x ∷ left) (x ∷ left) found)
  around steps done x left found mid j end =
      let to : spread steps ((done ++ x ∷ []) ++ (left ++ j.new)) (left ++ j.new) (own_slots x ++ found)
      ≡ onward steps x found ((done ++ x ∷ left) ++ j.new) (left ++ j.new) =
      ap (λ met. spread steps met (left ++ j.new) (own_slots x ++ found)) (all_met done x left j.new) in
      let questions : asked (joining (done ++ x ∷ left) left (predicates x) (onward steps x found)) answer
      ≡ about_all decl_node (predicates x) ++ asked (spread steps ((done ++ x ∷ []) ++ (left ++ j.new)) (left ++ j.new) (own_slots x ++ found)) answer =
      j.asks ∙ ap (λ q. about_all decl_node (predicates x) ++ asked q answer) (sym to) in
      let own : MayBe program class x = mid.came x (in_behind x done (x ∷ left) (inl refl)) in
      record {
        names = end.names;
        found = end.found;
        comes = j.comes ∙ ap (λ q. outcome q answer) (sym to) ∙ end.comes;
        came = end.came;
        ups = end.ups;
        closed = end.closed;
        apart = end.apart;
        found_is = end.found_is;
        is_found = end.is_found;
        asks_of = λ subject i.
            elim i [
              | inl e ↦ (x, own, inl (sym e))
              | inr k ↦
                  elim k [
                    | inl e ↦ (x, own, inr (inl (sym e)))
                    | inr l ↦
                        elim (in_either subject (about_all decl_node (predicates x))
                        (asked (spread steps ((done ++ x ∷ []) ++ (left ++ j.new)) (left ++ j.new) (own_slots x ++ found)) answer)
                        (subst (IsIn subject) questions l)) [
                          | inl m ↦
                              let r = about_one decl_node (predicates x) subject m in
                              (x, own, inr (inr (r.0, children_are x r.0 r.1, elim r.2 [ inl e ↦ sym e | inr none ↦ absurd none ])))
                          | inr m ↦ end.asks_of subject m
                        ]
                  ]
            ];
        asks_all = λ y i.
            elim (end.asks_all y i) [
              | inl k ↦
                  elim (done_or done x y k) [
                    | inl l ↦ inl l
                    | inr e ↦
                        inr (λ subject a.
                        elim (subst (λ z. IsAround program z subject) (sym e) a) [
                          | inl s ↦ inl (sym s)
                          | inr b ↦
                              elim b [
                                | inl s ↦ inr (inl (sym s))
                                | inr c ↦
                                    inr (inr (subst (IsIn subject) (sym questions)
                                    (in_front subject (about_all decl_node (predicates x))
                                    (asked (spread steps ((done ++ x ∷ []) ++ (left ++ j.new)) (left ++ j.new) (own_slots x ++ found)) answer)
                                    (one_about decl_node (predicates x) c.0 subject (are_children x c.0 c.1) (inl (sym c.2))))))
                              ]
                        ])
                  ]
              | inr all ↦
                  inr (λ subject a. inr (inr (subst (IsIn subject) (sym questions)
                  (in_behind subject (about_all decl_node (predicates x))
                  (asked (spread steps ((done ++ x ∷ []) ++ (left ++ j.new)) (left ++ j.new) (own_slots x ++ found)) answer) (all subject a)))))
            ];
      }

  -- It ends with all that an object of the class may come to count as.
  spreads : (steps : ℕ) (done left : List Bytes) (found : List Slot) → Midway steps done left found → Spread done (spread steps (done ++ left) left found)
  spreads steps done [] found mid = ends steps done found mid
  spreads zero done (x ∷ left) found mid =
      let fits : length (done ++ x ∷ left) ≤ length (object_names program) =
      no_more (done ++ x ∷ left) (object_names program) mid.distinct (λ y i. if_there program y (mid.came y i).0) in
      absurd (omega (arith, mid.room, fits, few_objects program is, length-append done (x ∷ left)))
  spreads (suc steps) done (x ∷ left) found mid =
      let j = joins steps done x left found mid in
      around steps done x left found mid j
      (spreads steps (done ++ x ∷ []) (left ++ j.new) (own_slots x ++ found) (passed steps done x left found mid j))

  -- from the names above
  pub spread_ends : Spread [] (spread most_names (up program class) (up program class) [])
  spread_ends =
      spreads most_names [] (up program class) [] (record {
        distinct = ascending_apart (up program class) (up_ascending program is class);
        came = λ x i.
            let r = up_is program chains class x i in (r.1, above_may program chains class x (chains.finds program class x r.2));
        ups = λ x i. i;
        closed = λ x parent parents test i all. absurd (all parent (inl refl));
        apart = tt;
        found_is = λ one i. absurd i;
        is_found = λ one i k. k;
        room = omega arith;
      })

  all_may : (x : Bytes) → MayBe program class x → IsIn x spread_ends.names
  all_may x m = complete program is class (λ y. IsIn y spread_ends.names) spread_ends.ups spread_ends.closed x m

  slots_are : in_key_order spread_ends.found ≡ slots program class
  slots_are =
      same_slots (in_key_order spread_ends.found) (slots program class) (are_sorted spread_ends.found spread_ends.apart)
      (filter_sorted (λ field. may program class field.0.specialiser) (fields program) (fields_sorted program is.ordered))
      (λ one i.
      let r = spread_ends.found_is one (in_sorted spread_ends.found one i) in
      is_left (λ field. may program class field.0.specialiser) (fields program) one r.0 (spread_ends.came one.0.specialiser r.1).1)
      (λ one i.
      let r = left_is (λ field. may program class field.0.specialiser) (fields program) one i in
      sorted_in spread_ends.found one
      (spread_ends.is_found one r.0 (all_may one.0.specialiser (field_there program is one r.0, r.1))))

  abbrev behind_up : List Bytes → Asking (List Slot)
  behind_up names = followed (spread most_names names names []) (λ found. gives (in_key_order found))

  behind_value : outcome (behind_up (up program class)) answer ≡ Gives (slots program class)
  behind_value =
      followed_outcome (spread most_names (up program class) (up program class) []) (λ found. gives (in_key_order found)) answer spread_ends.found
      spread_ends.comes
      ∙ ap Gives slots_are

  pub slots_value : outcome (slots_row class) answer ≡ Gives (slots program class)
  slots_value = followed_outcome (up_row class) behind_up answer (up program class) (up_value program is answer decls_given class) ∙ behind_value

  slots_asked : asked (slots_row class) answer ≡ asked (up_row class) answer ++ asked (spread most_names (up program class) (up program class) []) answer
  slots_asked =
      followed_asked (up_row class) behind_up answer (up program class) (up_value program is answer decls_given class)
      ∙ ap (λ rest. asked (up_row class) answer ++ rest)
      (followed_asked (spread most_names (up program class) (up program class) []) (λ found. gives (in_key_order found)) answer spread_ends.found
      spread_ends.comes
      ∙ append-nil (asked (spread most_names (up program class) (up program class) []) answer))

  pub slots_reads : (subject : NodeId) → IsIn subject (asked (slots_row class) answer) →
      ((y : Bytes) × ((y ≡ class) ⊎ IsIn y (up program class)) × (subject ≡ node.Fact (fact.Decl y))) ⊎
      ((y : Bytes) × MayBe program class y × IsAround program y subject)
  slots_reads subject i =
      elim (in_either subject (asked (up_row class) answer) (asked (spread most_names (up program class) (up program class) []) answer)
      (subst (IsIn subject) slots_asked i)) [
        | inl j ↦ inl (up_reads program is answer decls_given class subject j)
        | inr j ↦ inr (spread_ends.asks_of subject j)
      ]

  pub slots_reads_decl : (y : Bytes) → (y ≡ class) ⊎ IsIn y (up program class) → IsIn (node.Fact (fact.Decl y)) (asked (slots_row class) answer)
  slots_reads_decl y which =
      subst (IsIn (node.Fact (fact.Decl y))) (sym slots_asked)
      (in_front (node.Fact (fact.Decl y)) (asked (up_row class) answer) (asked (spread most_names (up program class) (up program class) []) answer)
      (up_reads_all program is answer decls_given class y which))

  pub slots_reads_around : (y : Bytes) (subject : NodeId) → MayBe program class y → IsAround program y subject → IsIn subject (asked (slots_row class) answer)
  slots_reads_around y subject m a =
      subst (IsIn subject) (sym slots_asked)
      (in_behind subject (asked (up_row class) answer) (asked (spread most_names (up program class) (up program class) []) answer)
      (elim (spread_ends.asks_all y (all_may y m)) [ inl none ↦ absurd none | inr all ↦ all subject a ]))
