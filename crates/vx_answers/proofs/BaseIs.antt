-- What is asked for the base of a name comes to it.
use Rattle.std.proofs.Common.{List, true, false, [], ap, refl, sym, subst, suc, zero, inl, inr, arith, length, length-append, ◌∷◌, ◌++◌, ◌≡◌, ◌∙◌}
use Rattle.std.proofs.Common.{◌⊎◌, ◌+◌, ◌≤◌, Option, Some, None, ℕ}
use Rattle.std.specs.Prelude.{nat_lt, if◌then◌else◌}
use Rattle.std.proofs.lemmas.Bool.{cases_Bool, cond-true, cond-false, both_ways, false_from_ne_true, or_parts}
use Rattle.vx_lists.specs.Members.{IsIn}
use Rattle.vx_lists.proofs.Members.{any_in, in_any, in_either}
use Rattle.vx_lists.proofs.Texts.{same_bytes, bytes_same}
use Rattle.vx_syntax.specs.declared.decl.Decl.{Decl}
use Rattle.vx_syntax.specs.declared.decl.Decl.TheVariants as d
use Rattle.vx_syntax.specs.declared.test.Test.{Test}
use Rattle.vx_syntax.specs.Expressions.{Bytes}
use Rattle.vx_program.specs.Program.{IsProgram, is_named, is_there, is_name_of, Leads, here, up}
use Rattle.vx_node.specs.declared.node.NodeId.{NodeId}
use Rattle.vx_node.specs.declared.node.NodeId.TheVariants as node
use Rattle.vx_node.specs.declared.node.Fact.TheVariants as fact
use Rattle.vx_node.specs.declared.answer.Answer.{Answer}
use Rattle.vx_node.specs.declared.answer.Answer.TheVariants as answers
use Rattle.vx_node.specs.declared.answer.Known.TheVariants as known
use Rattle.vx_node.specs.Traces.{Answers}
use Rattle.vx_node.specs.Asking.{Asking, gives, mixes, asks, outcome, asked, Gives}
use Rattle.vx_model.specs.Order.{object_names, base, first_parents}
use Rattle.vx_model.proofs.Orders.{chains, one_on}
use Rattle.vx_model.proofs.Heights.{one_named}
use Rattle.vx_model.proofs.Bases.{first_of, begins_by, one_of, goes_first, base_plain, base_first, base_none, base_gone}
use Rattle.vx_model.proofs.Cones.{if_there}
use Rattle.vx_answers.specs.Facts.{known_as, decl_of}
use Rattle.vx_answers.specs.OrderRows.{most_names, chain, base_row, onward_in, Onward, nowhere, here as stays, first}
use Rattle.vx_answers.proofs.Most.{most_is, no_more_than_most}
use Rattle.vx_answers.proofs.Pigeons.{AreApart, no_more}
use Rattle.vx_answers.proofs.Walked.{met_is, not_met, one_more_distinct}
use Rattle.vx_answers.proofs.UpRow.{GivesDecls}
use Rattle.vx_answers.proofs.Few.{few_objects}

-- what a program says of a name that is not there, and of one that is
decl_gone : (decls : List Decl) (x : Bytes) → is_there decls x ≡ false → decl_of decls x ≡ known.Nothing
decl_gone [] x gone = refl
decl_gone (decl ∷ decls) x gone =
    let r = or_parts (is_named x decl) (is_there decls x) gone in
    cond-false (is_named x decl) (known_as decl) (decl_of decls x) r.0 ∙ decl_gone decls x r.1

pub decl_is : (program : List Decl) → IsProgram program → (x : Bytes) (decl : Decl) → IsIn decl program → is_named x decl ≡ true →
    decl_of program x ≡ known_as decl
decl_is program is x decl i n = by program (λ own j m. one_named program is x own decl j i m n) i where
  by : (decls : List Decl) → ((own : Decl) → IsIn own decls → is_named x own ≡ true → own ≡ decl) → IsIn decl decls → decl_of decls x ≡ known_as decl
  by [] only j = absurd j
  by (own ∷ decls) only j =
      elim (cases_Bool (is_named x own)) [
        | inl named ↦ cond-true (is_named x own) (known_as own) (decl_of decls x) named ∙ ap known_as (only own (inl refl) named)
        | inr other ↦
            cond-false (is_named x own) (known_as own) (decl_of decls x) other
            ∙ elim j [
              | inl e ↦ absurd (both_ways (is_named x own) other (subst (λ z. is_named x z ≡ true) (sym e) n))
              | inr k ↦ by decls (λ one l m. only one (inr l) m) k
            ]
      ]

-- how a chain of first parents stands at a name
pub data Link (program : List Decl) (x : Bytes) : Type 0 where
  gone : is_there program x ≡ false → Link program x
  object : (parents : List Bytes) → IsIn (d.Object x parents) program → Link program x
  alone : (test : Test) → IsIn (d.Predicate x [] test) program → Link program x
  further : (parent : Bytes) (parents : List Bytes) (test : Test) → IsIn (d.Predicate x (parent ∷ parents) test) program → Link program x

link_by : (program : List Decl) (x : Bytes) (decl : Decl) → IsIn decl program → is_named x decl ≡ true → Link program x
link_by program x (d.Object own parents) i n = object parents (subst (λ z. IsIn (d.Object z parents) program) (same_bytes own x n) i)
link_by program x (d.Predicate own [] test) i n = alone test (subst (λ z. IsIn (d.Predicate z [] test) program) (same_bytes own x n) i)
link_by program x (d.Predicate own (parent ∷ parents) test) i n =
    further parent parents test (subst (λ z. IsIn (d.Predicate z (parent ∷ parents) test) program) (same_bytes own x n) i)
link_by program x (d.Field key start changeable) i n = absurd (cc)
link_by program x (d.Method key formals body) i n = absurd (cc)

pub link : (program : List Decl) (x : Bytes) → Link program x
link program x =
    elim (cases_Bool (is_there program x)) [
      | inl t ↦ let r = in_any (is_named x) program t in link_by program x r.0 r.1 r.2
      | inr none ↦ gone none
    ]

-- Where a chain ends: it comes to the base, and asks for the declarations along the chain of first parents and no others.
pub record ChainEnded (program : List Decl) (answer : Answers) (x : Bytes) (q : Asking (Option Bytes)) : Type 0 where
  pub comes : outcome q answer ≡ Gives (base program x)
  pub asks_of : (subject : NodeId) → IsIn subject (asked q answer) → (y : Bytes) × Leads (first_parents program) x y × (subject ≡ node.Fact (fact.Decl y))
  pub asks_all : (y : Bytes) → Leads (first_parents program) x y → IsIn (node.Fact (fact.Decl y)) (asked q answer)

-- How far a chain has come: the names that are met, each once, from which chains lead on to where it stands.
pub record Along (program : List Decl) (steps : ℕ) (met : List Bytes) (x : Bytes) : Type 0 where
  pub apart : AreApart met
  pub leads : (y : Bytes) → IsIn y met → Leads program y x
  pub there : is_there program x ≡ true → (y : Bytes) → IsIn y met → is_there program y ≡ true
  pub few : length met ≤ most_names
  pub room : steps + length met ≡ suc most_names

-- a chain that ends at once
ends : (program : List Decl) (answer : Answers) (x : Bytes) (next : Answer → Asking (Option Bytes)) (value : Option Bytes) →
    next (answer (node.Fact (fact.Decl x))) ≡ gives value → value ≡ base program x → ((y : Bytes) → Leads (first_parents program) x y → x ≡ y) →
    ChainEnded program answer x (asks (node.Fact (fact.Decl x)) next)
ends program answer x next value to is only = record {
  comes = ap (λ q. outcome q answer) to ∙ ap Gives is;
  asks_of = λ subject i.
      elim i [
        | inl e ↦ (x, here, sym e)
        | inr j ↦ absurd (subst (λ q. IsIn subject (asked q answer)) to j)
      ];
  asks_all = λ y l. inl (ap (λ z. node.Fact (fact.Decl z)) (only y l));
}

-- and one that goes on
goes_on : (program : List Decl) (answer : Answers) (x parent : Bytes) (next : Answer → Asking (Option Bytes)) (to : Asking (Option Bytes)) →
    next (answer (node.Fact (fact.Decl x))) ≡ to → base program x ≡ base program parent →
    ((y : Bytes) → Leads (first_parents program) parent y → Leads (first_parents program) x y) ×
    ((y : Bytes) → Leads (first_parents program) x y → (x ≡ y) ⊎ Leads (first_parents program) parent y) → ChainEnded program answer parent to →
    ChainEnded program answer x (asks (node.Fact (fact.Decl x)) next)
goes_on program answer x parent next to is same both end = record {
  comes = ap (λ q. outcome q answer) is ∙ end.comes ∙ ap Gives (sym same);
  asks_of = λ subject i.
      elim i [
        | inl e ↦ (x, here, sym e)
        | inr j ↦ let r = end.asks_of subject (subst (λ q. IsIn subject (asked q answer)) is j) in (r.0, both.0 r.0 r.1, r.2)
      ];
  asks_all = λ y l.
      elim (both.1 y l) [
        | inl e ↦ inl (ap (λ z. node.Fact (fact.Decl z)) e)
        | inr m ↦ inr (subst (λ q. IsIn (node.Fact (fact.Decl y)) (asked q answer)) (sym is) (end.asks_all y m))
      ];
}

-- where a chain goes on
abbrev led : ℕ → (met : List Bytes) → Bytes → Onward → Asking (Option Bytes)
led steps met x onward =
    elim onward [
      | nowhere ↦ gives None
      | stays ↦ gives (Some x)
      | first parent ↦
          if is_name_of met parent then mixes (node.Fact (fact.Decl x))
          else if nat_lt most_names (length (met ++ parent ∷ [])) then mixes (node.Fact (fact.Decl x))
          else chain steps (met ++ parent ∷ []) parent
    ]

gone_only : (program : List Decl) (x y : Bytes) → is_there program x ≡ false → Leads (first_parents program) x y → x ≡ y
gone_only program x y none here = refl
gone_only program x y none (up decl parent i n p l) =
    let r = begins_by program x decl i n in absurd (both_ways (is_there program x) none (any_in (is_named x) program r.0 r.1 r.2))

last : {A : Type 0} (x : A) (xs : List A) (y : A) → IsIn y (xs ++ x ∷ []) → IsIn y xs ⊎ (x ≡ y)
last x xs y i = elim (in_either y xs (x ∷ []) i) [ inl j ↦ inl j | inr j ↦ elim j [ inl e ↦ inr e | inr none ↦ absurd none ] ]

-- one step to the first parent
stepped : (program : List Decl) → IsProgram program → (steps : ℕ) (met : List Bytes) (x parent : Bytes) (parents : List Bytes) (test : Test) →
    IsIn (d.Predicate x (parent ∷ parents) test) program → Along program (suc steps) met x →
    (is_name_of met parent ≡ false) × Along program steps (met ++ parent ∷ []) parent
stepped program is steps met x parent parents test i along =
    let own : Decl = d.Predicate x (parent ∷ parents) test in
    let named : is_named x own ≡ true = bytes_same x x refl in
    let new : is_name_of met parent ≡ false =
    false_from_ne_true (is_name_of met parent) (λ t. is.no_return own x parent i named (inl refl) (along.leads parent (met_is met parent t))) in
    let apart : AreApart (met ++ parent ∷ []) = one_more_distinct met parent along.apart (not_met met parent new) in
    let there : is_there program x ≡ true = any_in (is_named x) program own i named in
    let parent_there : is_there program parent ≡ true = is.known own parent i (inl refl) in
    let all : (y : Bytes) → IsIn y (met ++ parent ∷ []) → is_there program y ≡ true =
    λ y j. elim (last parent met y j) [ inl k ↦ along.there there y k | inr e ↦ subst (λ z. is_there program z ≡ true) e parent_there ] in
    let fits : length (met ++ parent ∷ []) ≤ length (object_names program) =
    no_more (met ++ parent ∷ []) (object_names program) apart (λ y j. if_there program y (all y j)) in (
      new,
      record {
        apart = apart;
        leads = λ y j.
            elim (last parent met y j) [
              | inl k ↦ one_on program y x own parent (along.leads y k) i named (inl refl)
              | inr e ↦ subst (λ z. Leads program z parent) e here
            ];
        there = λ t. all;
        few = omega (arith, fits, few_objects program is);
        room = omega (arith, along.room, length-append met (parent ∷ []));
      },
    )

-- A chain over the answers of a program comes to the base.
pub chained : (program : List Decl) → IsProgram program → (answer : Answers) → GivesDecls program answer → (steps : ℕ) (met : List Bytes) (x : Bytes) →
    Along program steps met x → ChainEnded program answer x (chain steps met x)
chained program is answer given zero met x along = absurd (omega (arith, along.few, along.room))
chained program is answer given (suc steps) met x along = by (link program x) (chained program is answer given steps) where
  next : Answer → Asking (Option Bytes)
  next own = led steps met x (onward_in own)

  at : (decl : Decl) → IsIn decl program → is_named x decl ≡ true → next (answer (node.Fact (fact.Decl x))) ≡ led steps met x
      (onward_in (answers.Decl (known_as decl)))
  at decl i n = ap next (given x ∙ ap answers.Decl (decl_is program is x decl i n))

  by : Link program x → ((met : List Bytes) (x : Bytes) → Along program steps met x → ChainEnded program answer x (chain steps met x)) →
      ChainEnded program answer x (asks (node.Fact (fact.Decl x)) (λ own. led steps met x (onward_in own)))
  by (gone none) rest =
      ends program answer x (λ own. led steps met x (onward_in own)) None
      (ap (λ own. led steps met x (onward_in own)) (given x ∙ ap answers.Decl (decl_gone program x none)))
      (sym (base_gone program chains x none)) (λ y l. gone_only program x y none l)
  by (object parents i) rest =
      ends program answer x (λ own. led steps met x (onward_in own)) (Some x) (at (d.Object x parents) i (bytes_same x x refl))
      (sym (base_plain program is chains x parents i)) (λ y l.
      elim (goes_first program is (d.Object x parents) i l (bytes_same x x refl)) [ inl e ↦ e | inr r ↦ absurd r.1 ])
  by (alone test i) rest =
      ends program answer x (λ own. led steps met x (onward_in own)) None (at (d.Predicate x [] test) i (bytes_same x x refl))
      (sym (base_none program is chains x test i)) (λ y l.
      elim (goes_first program is (d.Predicate x [] test) i l (bytes_same x x refl)) [ inl e ↦ e | inr r ↦ absurd r.1 ])
  by (further parent parents test i) rest =
      let own : Decl = d.Predicate x (parent ∷ parents) test in
      let step = stepped program is steps met x parent parents test i along in
      let to =
      at own i (bytes_same x x refl)
      ∙ cond-false (is_name_of met parent) (mixes (node.Fact (fact.Decl x)))
      (if nat_lt most_names (length (met ++ parent ∷ [])) then mixes (node.Fact (fact.Decl x)) else chain steps (met ++ parent ∷ []) parent) step.0
      ∙ cond-false (nat_lt most_names (length (met ++ parent ∷ []))) (mixes (node.Fact (fact.Decl x))) (chain steps (met ++ parent ∷ []) parent)
      (no_more_than_most (length (met ++ parent ∷ [])) (omega (arith, step.1.few, most_is))) in
      goes_on program answer x parent (λ own. led steps met x (onward_in own)) (chain steps (met ++ parent ∷ []) parent) to
      (base_first program is chains x parent parents test i) (
        λ y l. up (first_of own) parent (one_of program own i) (bytes_same x x refl) (inl refl) l,
        λ y l.
            elim (goes_first program is own i l (bytes_same x x refl)) [
              | inl e ↦ inl e
              | inr r ↦
                  elim r.1 [
                    | inl e ↦ inr (subst (λ p. Leads (first_parents program) p y) (sym e) r.2)
                    | inr none ↦ absurd none
                  ]
            ],
      )
      (rest (met ++ parent ∷ []) parent step.1)

-- From a name.
pub base_ends : (program : List Decl) → IsProgram program → (answer : Answers) → GivesDecls program answer → (x : Bytes) →
    ChainEnded program answer x (base_row x)
base_ends program is answer given x =
    chained program is answer given most_names (x ∷ []) x (record {
      apart = (λ i. i, tt);
      leads = λ y i. elim i [ inl e ↦ subst (λ z. Leads program z x) e here | inr none ↦ absurd none ];
      there = λ t y i. elim i [ inl e ↦ subst (λ z. is_there program z ≡ true) e t | inr none ↦ absurd none ];
      few = omega (arith, most_is);
      room = omega arith;
    })
