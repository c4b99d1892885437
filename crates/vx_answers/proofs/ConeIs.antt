-- What is asked for the objects below a name comes to those objects.
use Rattle.std.proofs.Common.{List, Bool, true, false, [], ap, refl, sym, subst, inl, inr, arith, length, ◌∷◌, ◌≡◌, ◌∙◌, ◌⊎◌, ◌||◌, ◌≤◌, Some}
use Rattle.std.specs.Str.{bytes_eq}
use Rattle.std.proofs.lemmas.Bool.{cases_Bool, cond-true, cond-false, false≢true, both_ways}
use Rattle.vx_lists.specs.Members.{IsIn}
use Rattle.vx_lists.proofs.Members.{any_in, in_any}
use Rattle.vx_lists.proofs.Finding.{left_is, is_left}
use Rattle.vx_lists.proofs.Texts.{bytes_same, same_bytes}
use Rattle.vx_syntax.specs.declared.decl.Decl.{Decl}
use Rattle.vx_syntax.specs.declared.decl.Decl.TheVariants as d
use Rattle.vx_syntax.specs.Expressions.{Bytes}
use Rattle.vx_program.specs.Program.{IsProgram, IsOrdered, is_named, is_predicate_there, is_name_of, parents_of, leads, Leads, here, up}
use Rattle.vx_program.specs.Prelude.{sealed}
use Rattle.vx_program.proofs.Chains.{leads_is, leads_finds}
use Rattle.vx_program.proofs.Members.{tail_ordered}
use Rattle.vx_node.specs.declared.node.NodeId.{NodeId}
use Rattle.vx_node.specs.declared.node.NodeId.TheVariants as node
use Rattle.vx_node.specs.declared.node.Fact.TheVariants as fact
use Rattle.vx_node.specs.declared.answer.Answer.TheVariants as answers
use Rattle.vx_node.specs.declared.answer.Stands.TheVariants as h
use Rattle.vx_node.specs.Traces.{Answers}
use Rattle.vx_node.specs.Asking.{gives as given, outcome, asked, Gives}
use Rattle.vx_model.specs.Order.{object_names, plain_names, cone}
use Rattle.vx_compilation.specs.Compiled.{stands, there}
use Rattle.vx_model.proofs.Bases.{plain_in, in_plain}
use Rattle.vx_model.proofs.Predicates.{plain_there}
use Rattle.vx_answers.specs.Facts.{children_of}
use Rattle.vx_answers.specs.OrderRows.{downward, cone_row, walk_from, is_plain, plain_ones}
use Rattle.vx_answers.proofs.Pigeons.{no_more}
use Rattle.vx_answers.proofs.Ascending.{AreAscending, filter_ascending, same_lists}
use Rattle.vx_answers.proofs.Walked as walking
use Rattle.vx_answers.proofs.Walked.{met_is, Comes, leads_to, IsThere, AreFew, Ended, walked_from}
use Rattle.vx_answers.proofs.Few.{few_objects}
use Rattle.vx_answers.proofs.UpIs.{OneEach, one_each, before_rest, fewer}

-- these answers say how names stand, and which children they have, as the program does
pub record GivesChildren (program : List Decl) (answer : Answers) : Type 0 where
  pub stands : (x : Bytes) → answer (node.Fact (fact.There x)) ≡ answers.There (there program x)
  pub children : (x : Bytes) → answer (node.Fact (fact.Children x)) ≡ answers.Children (children_of program x)

-- the name is that of a plain object
abbrev pub IsPlain : List Decl → Bytes → Type 0
IsPlain decls x = (parents : List Bytes) × IsIn (d.Object x parents) decls

-- the plain children of a name are the objects that have it among their parents
child_is : (decls : List Decl) (x y : Bytes) → IsIn y (plain_ones (children_of decls x)) →
    (parents : List Bytes) × IsIn (d.Object y parents) decls × IsIn x parents
child_is [] x y i = absurd i
child_is (d.Object own parents ∷ decls) x y i =
    elim (cases_Bool (is_name_of parents x)) [
      | inl t ↦
          elim (subst (λ cs. IsIn y (plain_ones cs)) (cond-true (is_name_of parents x) ((own, h.Plain) ∷ children_of decls x) (children_of decls x) t) i) [
            | inl e ↦ (
              parents,
              inl (ap (λ z. d.Object z parents) e),
              let r = in_any (λ p. bytes_eq p x) parents t in
                  subst (λ z. IsIn z parents) (same_bytes r.0 x r.2) r.1,
            )
            | inr j ↦ let r = child_is decls x y j in (r.0, inr r.1, r.2)
          ]
      | inr t ↦
          let r = child_is decls x y (subst (λ cs. IsIn y (plain_ones cs))
          (cond-false (is_name_of parents x) ((own, h.Plain) ∷ children_of decls x) (children_of decls x) t) i) in
          (r.0, inr r.1, r.2)
    ]
child_is (d.Predicate own parents test ∷ decls) x y i =
    elim (cases_Bool (is_name_of parents x)) [
      | inl t ↦
          let r = child_is decls x y (subst (λ cs. IsIn y (plain_ones cs))
          (cond-true (is_name_of parents x) ((own, h.Predicate) ∷ children_of decls x) (children_of decls x) t) i) in
          (r.0, inr r.1, r.2)
      | inr t ↦
          let r = child_is decls x y (subst (λ cs. IsIn y (plain_ones cs))
          (cond-false (is_name_of parents x) ((own, h.Predicate) ∷ children_of decls x) (children_of decls x) t) i) in
          (r.0, inr r.1, r.2)
    ]
child_is (d.Field key start changeable ∷ decls) x y i = let r = child_is decls x y i in (r.0, inr r.1, r.2)
child_is (d.Method key formals body ∷ decls) x y i = let r = child_is decls x y i in (r.0, inr r.1, r.2)

is_child : (decls : List Decl) (x y : Bytes) (parents : List Bytes) → IsIn (d.Object y parents) decls → IsIn x parents →
    IsIn y (plain_ones (children_of decls x))
is_child [] x y parents i p = absurd i
is_child (d.Object own ps ∷ decls) x y parents (inl e) p =
    let name : own ≡ y = cc in
    let same : ps ≡ parents = cc in
    let t : is_name_of ps x ≡ true = any_in (λ q. bytes_eq q x) ps x (subst (IsIn x) (sym same) p) (bytes_same x x refl) in
    subst (λ cs. IsIn y (plain_ones cs)) (sym (cond-true (is_name_of ps x) ((own, h.Plain) ∷ children_of decls x) (children_of decls x) t)) (inl name)
is_child (d.Object own ps ∷ decls) x y parents (inr i) p =
    elim (cases_Bool (is_name_of ps x)) [
      | inl t ↦
          subst (λ cs. IsIn y (plain_ones cs)) (sym (cond-true (is_name_of ps x) ((own, h.Plain) ∷ children_of decls x) (children_of decls x) t))
          (inr (is_child decls x y parents i p))
      | inr t ↦
          subst (λ cs. IsIn y (plain_ones cs)) (sym (cond-false (is_name_of ps x) ((own, h.Plain) ∷ children_of decls x) (children_of decls x) t))
          (is_child decls x y parents i p)
    ]
is_child (d.Predicate own ps test ∷ decls) x y parents (inl e) p = absurd (cc)
is_child (d.Predicate own ps test ∷ decls) x y parents (inr i) p =
    elim (cases_Bool (is_name_of ps x)) [
      | inl t ↦
          subst (λ cs. IsIn y (plain_ones cs)) (sym (cond-true (is_name_of ps x) ((own, h.Predicate) ∷ children_of decls x) (children_of decls x) t))
          (is_child decls x y parents i p)
      | inr t ↦
          subst (λ cs. IsIn y (plain_ones cs)) (sym (cond-false (is_name_of ps x) ((own, h.Predicate) ∷ children_of decls x) (children_of decls x) t))
          (is_child decls x y parents i p)
    ]
is_child (d.Field key start changeable ∷ decls) x y parents (inl e) p = absurd (cc)
is_child (d.Field key start changeable ∷ decls) x y parents (inr i) p = is_child decls x y parents i p
is_child (d.Method key formals body ∷ decls) x y parents (inl e) p = absurd (cc)
is_child (d.Method key formals body ∷ decls) x y parents (inr i) p = is_child decls x y parents i p

leads_as : (program : List Decl) (answer : Answers) → GivesChildren program answer → (x : Bytes) →
    leads_to downward answer x ≡ Some (plain_ones (children_of program x))
leads_as program answer gives x = ap downward.onward (gives.children x)

no_left : (p q : Bool) → (p || q) ≡ false → p ≡ false
no_left true q h = absurd (false≢true (sym h))
no_left false q h = refl

no_right : (p q : Bool) → (p || q) ≡ false → q ≡ false
no_right true q h = absurd (false≢true (sym h))
no_right false q h = h

-- a parent of a plain object is one
parent_plain : (program : List Decl) → IsProgram program → (x parent : Bytes) (parents : List Bytes) → IsIn (d.Object x parents) program →
    IsIn parent parents → IsPlain program parent
parent_plain program is x parent parents i p =
    plain_there program parent (is.known (d.Object x parents) parent i p)
    (no_left (is_predicate_there program parent) (is_name_of sealed parent) (is.allowed (d.Object x parents) parent i p))

one_object : (program : List Decl) → IsProgram program → (x : Bytes) (parents : List Bytes) (decl : Decl) → IsIn (d.Object x parents) program →
    IsIn decl program →
    is_named x decl ≡ true → decl ≡ d.Object x parents
one_object program is x parents decl i j named = one_each program is x decl (d.Object x parents) j i named (bytes_same x x refl)

-- a chain from a plain object leads to plain objects
leads_plain : (program : List Decl) → IsProgram program → (y x : Bytes) → IsPlain program y → Leads program y x → IsPlain program x
leads_plain program is y x plain here = plain
leads_plain program is y x plain (up decl parent i named p chain) =
    let same : decl ≡ d.Object y plain.0 = one_object program is y plain.0 decl plain.1 i named in
    let p' : IsIn parent plain.0 = subst (λ one. IsIn parent (parents_of one)) same p in
    leads_plain program is parent x (parent_plain program is y parent plain.0 plain.1 p') chain

-- a walk downwards goes by chains, and by all of them
comes_below : (program : List Decl) (answer : Answers) → GivesChildren program answer → (start y : Bytes) → Comes downward answer start y →
    Leads program y start
comes_below program answer gives start y walking.here = here
comes_below program answer gives start y (walking.on {x = x} xs came leads i) =
    let both : Some (plain_ones (children_of program x)) ≡ Some xs = sym (leads_as program answer gives x) ∙ leads in
    let same : plain_ones (children_of program x) ≡ xs = cc in
    let r = child_is program x y (subst (IsIn y) (sym same) i) in
    up (d.Object y r.0) x r.1 (bytes_same y y refl) r.2 (comes_below program answer gives start x came)

comes_plain : (program : List Decl) (answer : Answers) → GivesChildren program answer → (start y : Bytes) → IsPlain program start →
    Comes downward answer start y → IsPlain program y
comes_plain program answer gives start y plain walking.here = plain
comes_plain program answer gives start y plain (walking.on {x = x} xs came leads i) =
    let both : Some (plain_ones (children_of program x)) ≡ Some xs = sym (leads_as program answer gives x) ∙ leads in
    let same : plain_ones (children_of program x) ≡ xs = cc in
    let r = child_is program x y (subst (IsIn y) (sym same) i) in
    (r.0, r.1)

below_comes : (program : List Decl) → IsProgram program → (answer : Answers) → GivesChildren program answer → (start y : Bytes) → IsPlain program y →
    Leads program y start →
    Comes downward answer start y
below_comes program is answer gives start y plain here = walking.here
below_comes program is answer gives start y plain (up decl parent i named p chain) =
    let same : decl ≡ d.Object y plain.0 = one_object program is y plain.0 decl plain.1 i named in
    let p' : IsIn parent plain.0 = subst (λ one. IsIn parent (parents_of one)) same p in
    walking.on (plain_ones (children_of program parent))
    (below_comes program is answer gives start parent (parent_plain program is y parent plain.0 plain.1 p') chain)
    (leads_as program answer gives parent) (is_child program parent y plain.0 plain.1 p')

-- the names of plain objects
among_plain : (decls : List Decl) (x : Bytes) → IsPlain decls x → IsIn x (plain_names decls)
among_plain decls x plain = in_plain decls x plain.0 plain.1

-- plain objects are objects
among_objects : (decls : List Decl) (x : Bytes) → IsIn x (plain_names decls) → IsIn x (object_names decls)
among_objects [] x i = absurd i
among_objects (d.Object own ps ∷ decls) x (inl e) = inl e
among_objects (d.Object own ps ∷ decls) x (inr i) = inr (among_objects decls x i)
among_objects (d.Predicate own ps test ∷ decls) x i = inr (among_objects decls x i)
among_objects (d.Field key start changeable ∷ decls) x i = among_objects decls x i
among_objects (d.Method key formals body ∷ decls) x i = among_objects decls x i

plain_ascending : (decls : List Decl) → IsOrdered decls → OneEach decls → AreAscending (plain_names decls)
plain_ascending [] ordered one = tt
plain_ascending (d.Object x parents ∷ decls) ordered one = (
  λ y i. before_rest x (d.Object x parents) decls (bytes_same x x refl) ordered one y (among_objects decls y i),
  plain_ascending decls (tail_ordered (d.Object x parents) decls ordered) (fewer (d.Object x parents) decls one),
)
plain_ascending (d.Predicate x parents test ∷ decls) ordered one =
    plain_ascending decls (tail_ordered (d.Predicate x parents test) decls ordered) (fewer (d.Predicate x parents test) decls one)
plain_ascending (d.Field key start changeable ∷ decls) ordered one =
    plain_ascending decls (tail_ordered (d.Field key start changeable) decls ordered) (fewer (d.Field key start changeable) decls one)
plain_ascending (d.Method key formals body ∷ decls) ordered one =
    plain_ascending decls (tail_ordered (d.Method key formals body) decls ordered) (fewer (d.Method key formals body) decls one)

few_below : (program : List Decl) → IsProgram program → (answer : Answers) → GivesChildren program answer → (x : Bytes) → IsPlain program x →
    AreFew downward answer x
few_below program is answer gives x plain xs apart came =
    let fits : length xs ≤ length (object_names program) =
    no_more xs (object_names program) apart (λ y i. among_objects program y (among_plain program y (comes_plain program answer gives x y plain (came y i)))) in
    omega (arith, fits, few_objects program is)

-- how a name stands, and whether it is plain
plain_by : (p q : Bool) → is_plain (answers.There (stands p q)) ≡ p
plain_by true q = refl
plain_by false true = refl
plain_by false false = refl

stands_plain : (decls : List Decl) (x : Bytes) → is_plain (answers.There (there decls x)) ≡ true → IsPlain decls x
stands_plain decls x t =
    plain_in decls x (met_is (plain_names decls) x (sym (plain_by (is_name_of (plain_names decls) x) (is_predicate_there decls x)) ∙ t))

-- where an object stands under a name, that is how it stands
plain_stands : (decls : List Decl) (x : Bytes) (parents : List Bytes) → IsIn (d.Object x parents) decls → is_plain (answers.There (there decls x)) ≡ true
plain_stands decls x parents i =
    plain_by (is_name_of (plain_names decls) x) (is_predicate_there decls x)
    ∙ any_in (λ name. bytes_eq name x) (plain_names decls) x (among_plain decls x (parents, i)) (bytes_same x x refl)

-- The row of the objects below: its value is the definition.
pub cone_value : (program : List Decl) → IsProgram program → (answer : Answers) → GivesChildren program answer → (x : Bytes) →
    outcome (cone_row x) answer ≡ Gives (cone program x)
cone_value program is answer gives x =
    let same : is_plain (answer (node.Fact (fact.There x))) ≡ is_plain (answers.There (there program x)) = ap is_plain (gives.stands x) in
    let ordered : AreAscending (cone program x) = filter_ascending (λ y. leads program y x) (plain_names program)
    (plain_ascending program is.ordered (one_each program is)) in
    elim (cases_Bool (is_plain (answers.There (there program x)))) [
      | inl t ↦
          let plain = stands_plain program x t in
          let end = walked_from downward answer x (few_below program is answer gives x plain) in
          ap (λ q. outcome q answer) (cond-true (is_plain (answer (node.Fact (fact.There x)))) (walk_from downward x) (given []) (same ∙ t))
          ∙ end.comes ∙ ap Gives (same_lists end.names (cone program x) end.ascending ordered
          (λ y i.
          let r = end.names_are y i in
          is_left (λ z. leads program z x) (plain_names program) y (among_plain program y (comes_plain program answer gives x y plain r.0))
          (leads_finds program y x (comes_below program answer gives x y r.0)))
          (λ y i.
          let r = left_is (λ z. leads program z x) (plain_names program) y i in
          end.are_names y (below_comes program is answer gives x y (plain_in program y r.0) (leads_is program y x r.1))
          (plain_ones (children_of program y), leads_as program answer gives y)))
      | inr t ↦
          ap (λ q. outcome q answer) (cond-false (is_plain (answer (node.Fact (fact.There x)))) (walk_from downward x) (given []) (same ∙ t))
          ∙ ap Gives (same_lists [] (cone program x) tt ordered (λ y i. absurd i) (λ y i.
          let r = left_is (λ z. leads program z x) (plain_names program) y i in
          let plain = leads_plain program is y x (plain_in program y r.0) (leads_is program y x r.1) in
          absurd (both_ways (is_plain (answers.There (there program x))) t (plain_stands program x plain.0 plain.1))))
    ]

-- And its reads: how the name stands, and where it is plain, the children of each object below it.
pub cone_reads : (program : List Decl) → IsProgram program → (answer : Answers) → GivesChildren program answer → (x : Bytes) (subject : NodeId) →
    IsIn subject (asked (cone_row x) answer) → (subject ≡ node.Fact (fact.There x)) ⊎
    ((y : Bytes) × IsIn y (cone program x) × (subject ≡ node.Fact (fact.Children y)))
cone_reads program is answer gives x subject (inl e) = inl (sym e)
cone_reads program is answer gives x subject (inr i) =
    let same : is_plain (answer (node.Fact (fact.There x))) ≡ is_plain (answers.There (there program x)) = ap is_plain (gives.stands x) in
    elim (cases_Bool (is_plain (answers.There (there program x)))) [
      | inl t ↦
          let plain = stands_plain program x t in
          let end = walked_from downward answer x (few_below program is answer gives x plain) in
          let r = end.asks_of subject (subst (λ q. IsIn subject (asked q answer))
          (cond-true (is_plain (answer (node.Fact (fact.There x)))) (walk_from downward x) (given []) (same ∙ t)) i) in
          inr (
            r.0,
            is_left (λ z. leads program z x) (plain_names program) r.0 (among_plain program r.0 (comes_plain program answer gives x r.0 plain r.1))
                (leads_finds program r.0 x (comes_below program answer gives x r.0 r.1)),
            sym r.2,
          )
      | inr t ↦ absurd (subst (λ q. IsIn subject (asked q answer)) (cond-false (is_plain (answer (node.Fact (fact.There x)))) (walk_from downward x)
          (given []) (same ∙ t)) i)
    ]

pub cone_reads_all : (program : List Decl) → IsProgram program → (answer : Answers) → GivesChildren program answer → (x y : Bytes) → IsIn y (cone program x) →
    IsIn (node.Fact (fact.Children y)) (asked (cone_row x) answer)
cone_reads_all program is answer gives x y i =
    let same : is_plain (answer (node.Fact (fact.There x))) ≡ is_plain (answers.There (there program x)) = ap is_plain (gives.stands x) in
    let r = left_is (λ z. leads program z x) (plain_names program) y i in
    let chain : Leads program y x = leads_is program y x r.1 in
    let plain = leads_plain program is y x (plain_in program y r.0) chain in
    let t : is_plain (answers.There (there program x)) ≡ true = plain_stands program x plain.0 plain.1 in
    let end = walked_from downward answer x (few_below program is answer gives x plain) in
    inr (subst (λ q. IsIn (node.Fact (fact.Children y)) (asked q answer))
    (sym (cond-true (is_plain (answer (node.Fact (fact.There x)))) (walk_from downward x) (given []) (same ∙ t)))
    (elim (end.asks_all y (below_comes program is answer gives x y (plain_in program y r.0) chain)) [ inl none ↦ absurd none | inr j ↦ j ]))
