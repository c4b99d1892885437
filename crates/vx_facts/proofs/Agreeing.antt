-- Two programs answer a fact the same just where their declarations say the same of it, key by key.
use Rattle.std.proofs.Common.{◌≡◌, Bool, true, List, [], Option, Some, None, sym, ap, ◌∙◌, subst, inl, inr}
use Rattle.std.specs.Str.{bytes_eq}
use Rattle.vx_lists.specs.Members.{IsIn}
use Rattle.vx_lists.proofs.Texts.{same_bytes}
use Rattle.vx_names.specs.declared.key.MethodKey.{MethodKey}
use Rattle.vx_names.specs.declared.key.DeclKey.{DeclKey}
use Rattle.vx_names.specs.declared.key.DeclKey.TheVariants as k
use Rattle.vx_syntax.specs.declared.decl.Decl.{Decl}
use Rattle.vx_syntax.specs.declared.decl.Decl.TheVariants as d
use Rattle.vx_syntax.specs.declared.decl.Start.{Start}
use Rattle.vx_syntax.specs.Expressions.{Bytes}
use Rattle.vx_syntax.specs.Declarations.{field_key}
use Rattle.vx_syntax.specs.Keys.{key_of}
use Rattle.vx_program.specs.Program.{IsProgram, is_name_of, occupies, find}
use Rattle.vx_program.proofs.ByKey.{occupies_is}
use Rattle.vx_node.specs.declared.node.Fact.{Fact}
use Rattle.vx_node.specs.declared.node.Fact.TheVariants as fact
use Rattle.vx_node.specs.declared.answer.Answer.TheVariants as answers
use Rattle.vx_node.specs.declared.answer.Known.{Known}
use Rattle.vx_node.specs.declared.answer.Known.TheVariants as known
use Rattle.vx_node.specs.declared.answer.Stands.{Stands}
use Rattle.vx_node.specs.declared.answer.Stands.TheVariants as h
use Rattle.vx_model.specs.Kinds.{source}
use Rattle.vx_answers.specs.Facts.{decl_of, children_of, fields_of, text_of, fact_of}
use Rattle.vx_compilation.specs.Compiled.{there, heads}
use Rattle.vx_facts.proofs.Speaking.{said_by, all_said, same_said, alike_said}
use Rattle.vx_facts.proofs.Sayings.{said_if, first_or, Text, said_known, said_there, said_child, said_field, said_text, carried}
use Rattle.vx_facts.proofs.Sayings.{known_is, there_is, text_is, children_are, fields_are, one_known, one_there, one_text}
use Rattle.vx_facts.proofs.Sayings.{known_something, there_something, text_something}
use Rattle.vx_facts.proofs.HeadsSaid.{said_head, key_in, makes, same_heads, head_carried}

-- two declarations, each of which may be missing, say the same of a fact
abbrev pub Agree : Fact → Option Decl → Option Decl → Type 0
Agree (fact.Decl x) a b = said_by (said_known x) a ≡ said_by (said_known x) b
Agree (fact.Children x) a b = said_by (said_child x) a ≡ said_by (said_child x) b
Agree (fact.There x) a b = said_by (said_there x) a ≡ said_by (said_there x) b
Agree (fact.Heads selector) a b = said_by (said_head selector) a ≡ said_by (said_head selector) b
Agree (fact.Body key) a b = said_by (said_text key) a ≡ said_by (said_text key) b
Agree (fact.Fields x) a b = said_by (said_field x) a ≡ said_by (said_field x) b

pub agree_same : (one : Fact) (a b : Option Decl) → a ≡ b → Agree one a b
agree_same (fact.Decl x) a b e = ap (said_by (said_known x)) e
agree_same (fact.Children x) a b e = ap (said_by (said_child x)) e
agree_same (fact.There x) a b e = ap (said_by (said_there x)) e
agree_same (fact.Heads selector) a b e = ap (said_by (said_head selector)) e
agree_same (fact.Body key) a b e = ap (said_by (said_text key)) e
agree_same (fact.Fields x) a b e = ap (said_by (said_field x)) e

pub agree_back : (one : Fact) (a b : Option Decl) → Agree one a b → Agree one b a
agree_back (fact.Decl x) a b e = sym e
agree_back (fact.Children x) a b e = sym e
agree_back (fact.There x) a b e = sym e
agree_back (fact.Heads selector) a b e = sym e
agree_back (fact.Body key) a b e = sym e
agree_back (fact.Fields x) a b e = sym e

pub agree_on : (one : Fact) (a b c : Option Decl) → Agree one a b → Agree one b c → Agree one a c
agree_on (fact.Decl x) a b c e f = e ∙ f
agree_on (fact.Children x) a b c e f = e ∙ f
agree_on (fact.There x) a b c e f = e ∙ f
agree_on (fact.Heads selector) a b c e f = e ∙ f
agree_on (fact.Body key) a b c e f = e ∙ f
agree_on (fact.Fields x) a b c e f = e ∙ f

-- ---- what is said tells which declaration says it, or its key

abbrev pub known_decl : Bytes → Known → Decl
known_decl x known.Nothing = d.Object x []
known_decl x (known.Plain parents) = d.Object x parents
known_decl x (known.Predicate parents test) = d.Predicate x parents test

pub known_said : (x : Bytes) (decl : Decl) (s : Known) → said_known x decl ≡ Some s → decl ≡ known_decl x s
known_said x (d.Object own parents) s e =
    let so = said_if (bytes_eq own x) (known.Plain parents) s e in
    subst (λ z. d.Object own parents ≡ known_decl x z) so.1 (ap (λ y. d.Object y parents) (same_bytes own x so.0))
known_said x (d.Predicate own parents test) s e =
    let so = said_if (bytes_eq own x) (known.Predicate parents test) s e in
    subst (λ z. d.Predicate own parents test ≡ known_decl x z) so.1 (ap (λ y. d.Predicate y parents test) (same_bytes own x so.0))
known_said x (d.Field key start changeable) s e = absurd (cc)
known_said x (d.Method key formals body) s e = absurd (cc)

abbrev pub field_decl : Bytes → Bytes × Start × Bool → Decl
field_decl x field = d.Field (field_key field.0 x) field.1 field.2

pub field_said : (x : Bytes) (decl : Decl) (s : Bytes × Start × Bool) → said_field x decl ≡ Some s → decl ≡ field_decl x s
field_said x (d.Field key start changeable) s e =
    let so = said_if (bytes_eq key.specialiser x) (key.name, start, changeable) s e in
    subst (λ z. d.Field key start changeable ≡ field_decl x z) so.1
    (ap (λ y. d.Field (field_key key.name y) start changeable) (same_bytes key.specialiser x so.0))
field_said x (d.Object own parents) s e = absurd (cc)
field_said x (d.Predicate own parents test) s e = absurd (cc)
field_said x (d.Method key formals body) s e = absurd (cc)

-- a method occupies its own key alone
pub own_key : (own key : MethodKey) (formals : _) (body : _) → occupies (d.Method own formals body) (k.Method key) ≡ true → k.Method own ≡ k.Method key
own_key own key formals body t =
    elim (occupies_is (d.Method own formals body) (k.Method key) t) [
      | inl e ↦ e
      | inr i ↦ absurd i
    ]

abbrev pub text_decl : MethodKey → Option Text → Decl
text_decl key None = d.Object [] []
text_decl key (Some text) = d.Method key text.0 text.1

pub text_said : (key : MethodKey) (decl : Decl) (s : Option Text) → said_text key decl ≡ Some s → decl ≡ text_decl key s
text_said key (d.Method own formals body) s e =
    let so = said_if (occupies (d.Method own formals body) (k.Method key)) (Some (formals, body)) s e in
    let keys : k.Method own ≡ k.Method key = own_key own key formals body so.0 in
    let same : own ≡ key = cc in
    subst (λ z. d.Method own formals body ≡ text_decl key z) so.1 (ap (λ y. d.Method y formals body) same)
text_said key (d.Object own parents) s e = absurd (cc)
text_said key (d.Predicate own parents test) s e = absurd (cc)
text_said key (d.Field own start changeable) s e = absurd (cc)

abbrev there_key : Bytes → Stands → DeclKey
there_key x h.Nothing = k.Object x
there_key x h.Plain = k.Object x
there_key x h.Predicate = k.Predicate x

there_said : (x : Bytes) (decl : Decl) (s : Stands) → said_there x decl ≡ Some s → key_of decl ≡ there_key x s
there_said x (d.Object own parents) s e =
    let so = said_if (bytes_eq own x) h.Plain s e in subst (λ z. k.Object own ≡ there_key x z) so.1 (ap k.Object (same_bytes own x so.0))
there_said x (d.Predicate own parents test) s e =
    let so = said_if (bytes_eq own x) h.Predicate s e in subst (λ z. k.Predicate own ≡ there_key x z) so.1 (ap k.Predicate (same_bytes own x so.0))
there_said x (d.Field key start changeable) s e = absurd (cc)
there_said x (d.Method key formals body) s e = absurd (cc)

abbrev child_key : Bytes × Stands → DeclKey
child_key child = there_key child.0 child.1

child_said : (x : Bytes) (decl : Decl) (s : Bytes × Stands) → said_child x decl ≡ Some s → key_of decl ≡ child_key s
child_said x (d.Object own parents) s e = ap child_key (said_if (is_name_of parents x) (own, h.Plain) s e).1
child_said x (d.Predicate own parents test) s e = ap child_key (said_if (is_name_of parents x) (own, h.Predicate) s e).1
child_said x (d.Field key start changeable) s e = absurd (cc)
child_said x (d.Method key formals body) s e = absurd (cc)

-- ---- from what is said to the answers

pub same_answer : (one : Fact) (first second : List Decl) → IsProgram first → IsProgram second →
    ((key : DeclKey) → Agree one (find first key) (find second key)) → fact_of first one ≡ fact_of second one
same_answer (fact.Decl x) first second left right agree =
    ap answers.Decl (known_is x first ∙ ap (first_or known.Nothing) (same_said (said_known x) first second left.ordered right.ordered agree)
    ∙ sym (known_is x second))
same_answer (fact.Children x) first second left right agree =
    ap answers.Children (children_are x first ∙ same_said (said_child x) first second left.ordered right.ordered agree ∙ sym (children_are x second))
same_answer (fact.There x) first second left right agree =
    ap answers.There (there_is x first left ∙ ap (first_or h.Nothing) (same_said (said_there x) first second left.ordered right.ordered agree)
    ∙ sym (there_is x second right))
same_answer (fact.Heads selector) first second left right agree =
    ap answers.Heads (same_heads selector first second left right (same_said (said_head selector) first second left.ordered right.ordered agree))
same_answer (fact.Body key) first second left right agree =
    ap answers.Body (text_is key first left ∙ ap (first_or None) (same_said (said_text key) first second left.ordered right.ordered agree)
    ∙ sym (text_is key second right))
same_answer (fact.Fields x) first second left right agree =
    ap answers.Fields (fields_are x first ∙ same_said (said_field x) first second left.ordered right.ordered agree ∙ sym (fields_are x second))

-- ---- and back

module _ (first second : List Decl) (left : IsProgram first) (right : IsProgram second) where
  known_carried : (x : Bytes) → decl_of first x ≡ decl_of second x → (s : Known) → IsIn s (all_said (said_known x) first) →
      IsIn s (all_said (said_known x) second)
  known_carried x e s i =
      carried known.Nothing s (all_said (said_known x) first) (all_said (said_known x) second) (λ t j. one_known x first left s t i j) i
      (known_something x first s i) (sym (known_is x first) ∙ e ∙ known_is x second)

  there_carried : (x : Bytes) → there first x ≡ there second x → (s : Stands) → IsIn s (all_said (said_there x) first) →
      IsIn s (all_said (said_there x) second)
  there_carried x e s i =
      carried h.Nothing s (all_said (said_there x) first) (all_said (said_there x) second) (λ t j. one_there x first left s t i j) i
      (there_something x first s i) (sym (there_is x first left) ∙ e ∙ there_is x second right)

  text_carried : (key : MethodKey) → text_of (source first key) ≡ text_of (source second key) →
      (s : Option Text) → IsIn s (all_said (said_text key) first) → IsIn s (all_said (said_text key) second)
  text_carried key e s i =
      carried None s (all_said (said_text key) first) (all_said (said_text key) second) (λ t j. one_text key first left s t i j) i
      (text_something key first s i) (sym (text_is key first left) ∙ e ∙ text_is key second right)

pub same_sayings : (one : Fact) (first second : List Decl) → IsProgram first → IsProgram second → fact_of first one ≡ fact_of second one →
    (key : DeclKey) → Agree one (find first key) (find second key)
same_sayings (fact.Decl x) first second left right e =
    let same : decl_of first x ≡ decl_of second x = cc in
    alike_said (said_known x) (λ s. key_of (known_decl x s)) (λ decl s says. ap key_of (known_said x decl s says)) first second left.ordered right.ordered
    (known_carried first second left right x same) (known_carried second first right left x (sym same))
same_sayings (fact.Children x) first second left right e =
    let same : children_of first x ≡ children_of second x = cc in
    let all : all_said (said_child x) first ≡ all_said (said_child x) second = sym (children_are x first) ∙ same ∙ children_are x second in
    alike_said (said_child x) child_key (child_said x) first second left.ordered right.ordered
    (λ s i. subst (IsIn s) all i) (λ s i. subst (IsIn s) (sym all) i)
same_sayings (fact.There x) first second left right e =
    let same : there first x ≡ there second x = cc in
    alike_said (said_there x) (there_key x) (there_said x) first second left.ordered right.ordered
    (there_carried first second left right x same) (there_carried second first right left x (sym same))
same_sayings (fact.Heads selector) first second left right e =
    let same : heads first selector ≡ heads second selector = cc in
    alike_said (said_head selector) key_in (λ decl head says. (makes selector decl head says).has_key) first second left.ordered right.ordered
    (head_carried first second left right selector same) (head_carried second first right left selector (sym same))
same_sayings (fact.Body key) first second left right e =
    let same : text_of (source first key) ≡ text_of (source second key) = cc in
    alike_said (said_text key) (λ s. key_of (text_decl key s)) (λ decl s says. ap key_of (text_said key decl s says)) first second left.ordered right.ordered
    (text_carried first second left right key same) (text_carried second first right left key (sym same))
same_sayings (fact.Fields x) first second left right e =
    let same : fields_of first x ≡ fields_of second x = cc in
    let all : all_said (said_field x) first ≡ all_said (said_field x) second = sym (fields_are x first) ∙ same ∙ fields_are x second in
    alike_said (said_field x) (λ s. key_of (field_decl x s)) (λ decl s says. ap key_of (field_said x decl s says)) first second left.ordered right.ordered
    (λ s i. subst (IsIn s) all i) (λ s i. subst (IsIn s) (sym all) i)
