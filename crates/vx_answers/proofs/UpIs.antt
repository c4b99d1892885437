-- What is asked for the names above a name comes to those names.
use Rattle.std.proofs.Common.{List, true, [], ap, refl, sym, subst, inl, inr, ◌∷◌, ◌≡◌, ◌∙◌, ◌⊎◌, Ordering, Less, Equal, Greater, filter}
use Rattle.std.specs.Ordering.{is_lt, ordering_then}
use Rattle.std.proofs.lemmas.Bool.{cases_Bool, cond-true, cond-false, false≢true, both_ways}
use Rattle.std.proofs.lemmas.Map.Lookups.{exact_bytes}
use Rattle.vx_lists.specs.Members.{IsIn}
use Rattle.vx_lists.proofs.Texts.{bytes_same, same_bytes}
use Rattle.vx_names.specs.Key.{name_cmp}
use Rattle.vx_names.specs.declared.key.DeclKey.TheVariants as decl_keys
use Rattle.vx_syntax.specs.declared.decl.Decl.{Decl}
use Rattle.vx_syntax.specs.declared.decl.Decl.TheVariants as d
use Rattle.vx_syntax.specs.Expressions.{Bytes}
use Rattle.vx_program.specs.Program.{IsProgram, IsOrdered, is_named, is_there, is_before, leads}
use Rattle.vx_program.proofs.ByKey.{occupies_name}
use Rattle.vx_syntax.specs.Keys.{key_of}
use Rattle.vx_program.proofs.Members.{goes_first, tail_ordered, not_before_itself}
use Rattle.vx_node.specs.declared.node.NodeId.{NodeId}
use Rattle.vx_node.specs.declared.node.NodeId.TheVariants as node
use Rattle.vx_node.specs.declared.node.Fact.TheVariants as fact
use Rattle.vx_node.specs.Traces.{Answers}
use Rattle.vx_node.specs.Asking.{outcome, asked, Gives}
use Rattle.vx_model.specs.Order.{object_names, up}
use Rattle.vx_model.proofs.Orders.{chains}
use Rattle.vx_model.proofs.Cones.{up_is, is_up}
use Rattle.vx_answers.specs.OrderRows.{upward, up_row}
use Rattle.vx_answers.proofs.Ascending.{AreAscending, filter_ascending, same_lists}
use Rattle.vx_answers.proofs.Walked.{Comes, here}
use Rattle.vx_answers.proofs.UpRow.{GivesDecls, comes_there, comes_leads, leads_comes, there_is, is_there_then, comes_alone}
use Rattle.vx_answers.proofs.Few.{up_ends}

-- a name of an object is the name of a declaration, and the other way round
named_by : (decls : List Decl) (x : Bytes) → IsIn x (object_names decls) → (decl : Decl) × IsIn decl decls × (is_named x decl ≡ true)
named_by [] x i = absurd i
named_by (d.Object own parents ∷ decls) x (inl e) = (d.Object own parents, inl refl, bytes_same own x e)
named_by (d.Object own parents ∷ decls) x (inr i) = let r = named_by decls x i in (r.0, inr r.1, r.2)
named_by (d.Predicate own parents test ∷ decls) x (inl e) = (d.Predicate own parents test, inl refl, bytes_same own x e)
named_by (d.Predicate own parents test ∷ decls) x (inr i) = let r = named_by decls x i in (r.0, inr r.1, r.2)
named_by (d.Field key start changeable ∷ decls) x i = let r = named_by decls x i in (r.0, inr r.1, r.2)
named_by (d.Method key formals body ∷ decls) x i = let r = named_by decls x i in (r.0, inr r.1, r.2)

-- of two names in key order the first is less, or they are one
front : (o kind : Ordering) → is_lt (ordering_then (ordering_then (ordering_then o Equal) Equal) kind) ≡ true → (o ≡ Less) ⊎ (o ≡ Equal)
front Less kind h = inl refl
front Equal kind h = inr refl
front Greater kind h = absurd (false≢true h)

as_named : (x y u v : Bytes) → u ≡ x → v ≡ y → (name_cmp u v ≡ Less) ⊎ (name_cmp u v ≡ Equal) → (name_cmp x y ≡ Less) ⊎ (name_cmp x y ≡ Equal)
as_named x y u v e g r = subst (λ z. (name_cmp z y ≡ Less) ⊎ (name_cmp z y ≡ Equal)) e (subst (λ z. (name_cmp u z ≡ Less) ⊎ (name_cmp u z ≡ Equal)) g r)

in_order : (x y : Bytes) (a b : Decl) → is_named x a ≡ true → is_named y b ≡ true → is_before a b ≡ true → (name_cmp x y ≡ Less) ⊎ (name_cmp x y ≡ Equal)
in_order x y (d.Object u ps) (d.Object v qs) p q h = as_named x y u v (same_bytes u x p) (same_bytes v y q) (front (name_cmp u v) Equal h)
in_order x y (d.Object u ps) (d.Predicate v qs t) p q h = as_named x y u v (same_bytes u x p) (same_bytes v y q) (front (name_cmp u v) Less h)
in_order x y (d.Predicate u ps s) (d.Object v qs) p q h = as_named x y u v (same_bytes u x p) (same_bytes v y q) (front (name_cmp u v) Greater h)
in_order x y (d.Predicate u ps s) (d.Predicate v qs t) p q h = as_named x y u v (same_bytes u x p) (same_bytes v y q) (front (name_cmp u v) Equal h)
in_order x y (d.Field key start changeable) b p q h = absurd (false≢true p)
in_order x y (d.Method key formals body) b p q h = absurd (false≢true p)
in_order x y a (d.Field key start changeable) p q h = absurd (false≢true q)
in_order x y a (d.Method key formals body) p q h = absurd (false≢true q)

-- declarations of one name are one
abbrev pub OneEach : List Decl → Type 0
OneEach decls = (x : Bytes) (a b : Decl) → IsIn a decls → IsIn b decls → is_named x a ≡ true → is_named x b ≡ true → a ≡ b

pub before_rest : (x : Bytes) (decl : Decl) (decls : List Decl) → is_named x decl ≡ true → IsOrdered (decl ∷ decls) → OneEach (decl ∷ decls) → (y : Bytes) →
    IsIn y (object_names decls) → name_cmp x y ≡ Less
before_rest x decl decls named ordered one y i =
    let r = named_by decls y i in
    let before : is_before decl r.0 ≡ true = goes_first decl decls ordered r.0 r.1 in
    elim (in_order x y decl r.0 named r.2 before) [
      | inl less ↦ less
      | inr same ↦
          let e : decl ≡ r.0 = one y decl r.0 (inl refl) (inr r.1) (subst (λ z. is_named z decl ≡ true) (exact_bytes x y same) named) r.2 in
          absurd (both_ways (is_before decl decl) (not_before_itself (key_of decl)) (subst (λ z. is_before decl z ≡ true) (sym e) before))
    ]

pub fewer : (decl : Decl) (decls : List Decl) → OneEach (decl ∷ decls) → OneEach decls
fewer decl decls one x a b i j p q = one x a b (inr i) (inr j) p q

names_ascending : (decls : List Decl) → IsOrdered decls → OneEach decls → AreAscending (object_names decls)
names_ascending [] ordered one = tt
names_ascending (d.Object x parents ∷ decls) ordered one = (
  before_rest x (d.Object x parents) decls (bytes_same x x refl) ordered one,
  names_ascending decls (tail_ordered (d.Object x parents) decls ordered)
      (fewer (d.Object x parents) decls one),
)
names_ascending (d.Predicate x parents test ∷ decls) ordered one = (
  before_rest x (d.Predicate x parents test) decls (bytes_same x x refl) ordered one,
  names_ascending decls (tail_ordered (d.Predicate x parents test) decls ordered) (fewer (d.Predicate x parents test) decls one),
)
names_ascending (d.Field key start changeable ∷ decls) ordered one =
    names_ascending decls (tail_ordered (d.Field key start changeable) decls ordered) (fewer (d.Field key start changeable) decls one)
names_ascending (d.Method key formals body ∷ decls) ordered one =
    names_ascending decls (tail_ordered (d.Method key formals body) decls ordered) (fewer (d.Method key formals body) decls one)

pub one_each : (program : List Decl) → IsProgram program → OneEach program
one_each program is x a b i j p q = is.apart a b (decl_keys.Object x) i j (occupies_name x a p) (occupies_name x b q)

pub up_ascending : (program : List Decl) → IsProgram program → (x : Bytes) → AreAscending (up program x)
up_ascending program is x =
    elim (cases_Bool (is_there program x)) [
      | inl t ↦
          subst AreAscending (sym (cond-true (is_there program x) (filter (leads program x) (object_names program)) [] t))
          (filter_ascending (leads program x) (object_names program) (names_ascending program is.ordered (one_each program is)))
      | inr gone ↦ subst AreAscending (sym (cond-false (is_there program x) (filter (leads program x) (object_names program)) [] gone)) tt
    ]

-- where a walk comes to a name that is there, it began at one that is there
began_there : (program : List Decl) (answer : Answers) → GivesDecls program answer → (x y : Bytes) → Comes upward answer x y → is_there program y ≡ true →
    is_there program x ≡ true
began_there program answer gives x y came t =
    elim (cases_Bool (is_there program x)) [
      | inl there ↦ there
      | inr gone ↦ ap (is_there program) (comes_alone program answer gives x y gone came) ∙ t
    ]

-- The row of the names above: its value is the definition.
pub up_value : (program : List Decl) → IsProgram program → (answer : Answers) → GivesDecls program answer → (x : Bytes) →
    outcome (up_row x) answer ≡ Gives (up program x)
up_value program is answer gives x =
    let end = up_ends program is answer gives x in
    end.comes ∙ ap Gives (same_lists end.names (up program x) end.ascending (up_ascending program is x)
    (λ y i.
    let r = end.names_are y i in
    let t : is_there program y ≡ true = there_is program answer gives y r.1 in
    is_up program chains x y (began_there program answer gives x y r.0 t) t (comes_leads program answer gives x y r.0))
    (λ y i. let r = up_is program chains x y i in end.are_names y (leads_comes program is answer gives x y r.2) (is_there_then program answer gives y r.1)))

-- And its reads: the declaration of each name above, and of the name itself.
pub up_reads : (program : List Decl) → IsProgram program → (answer : Answers) → GivesDecls program answer → (x : Bytes) (subject : NodeId) →
    IsIn subject (asked (up_row x) answer) →
    (y : Bytes) × ((y ≡ x) ⊎ IsIn y (up program x)) × (subject ≡ node.Fact (fact.Decl y))
up_reads program is answer gives x subject i =
    let end = up_ends program is answer gives x in
    let r = end.asks_of subject i in (
      r.0,
      elim (cases_Bool (is_there program x)) [
        | inl t ↦ inr (is_up program chains x r.0 t (comes_there program is answer gives x r.0 t r.1) (comes_leads program answer gives x r.0 r.1))
        | inr gone ↦ inl (sym (comes_alone program answer gives x r.0 gone r.1))
      ],
      sym r.2,
    )

all_asked : (program : List Decl) → IsProgram program → (answer : Answers) → GivesDecls program answer → (x y : Bytes) → Comes upward answer x y →
    IsIn (node.Fact (fact.Decl y)) (asked (up_row x) answer)
all_asked program is answer gives x y came = elim ((up_ends program is answer gives x).asks_all y came) [ inl none ↦ absurd none | inr i ↦ i ]

pub up_reads_all : (program : List Decl) → IsProgram program → (answer : Answers) → GivesDecls program answer → (x y : Bytes) →
    (y ≡ x) ⊎ IsIn y (up program x) →
    IsIn (node.Fact (fact.Decl y)) (asked (up_row x) answer)
up_reads_all program is answer gives x y (inl e) = all_asked program is answer gives x y (subst (Comes upward answer x) (sym e) here)
up_reads_all program is answer gives x y (inr i) = all_asked program is answer gives x y
    (leads_comes program is answer gives x y (up_is program chains x y i).2)
