-- What is asked for the names above a name comes to those names, over any answers that give declarations as a program does.
use Rattle.std.proofs.Common.{List, Some, None, Bool, true, false, [], ap, refl, sym, subst, inl, inr, ◌∷◌, ◌≡◌, ◌∙◌, ◌⊎◌, ◌||◌}
use Rattle.std.proofs.lemmas.Bool.{cases_Bool, cond-true, cond-false, false≢true, both_ways}
use Rattle.vx_lists.specs.Members.{IsIn}
use Rattle.vx_lists.proofs.Members.{any_in}
use Rattle.vx_names.specs.declared.key.DeclKey.TheVariants as decl_keys
use Rattle.vx_syntax.specs.declared.decl.Decl.{Decl}
use Rattle.vx_syntax.specs.declared.decl.Decl.TheVariants as d
use Rattle.vx_syntax.specs.Expressions.{Bytes}
use Rattle.vx_program.specs.Program.{IsProgram, is_named, is_there, parents_of, mentioned, Leads, here, up}
use Rattle.vx_program.proofs.Chains.{leads_on}
use Rattle.vx_program.proofs.ByKey.{occupies_name}
use Rattle.vx_node.specs.declared.node.NodeId.TheVariants as node
use Rattle.vx_node.specs.declared.node.Fact.TheVariants as fact
use Rattle.vx_node.specs.declared.answer.Answer.TheVariants as answers
use Rattle.vx_node.specs.Traces.{Answers}
use Rattle.vx_answers.specs.Facts.{decl_of, known_as}
use Rattle.vx_answers.specs.OrderRows.{upward, parents_in}
use Rattle.vx_answers.proofs.Walked as walking
use Rattle.vx_answers.proofs.Walked.{Comes, leads_to, IsThere, AreDistinct, AreFew, Ended, walked_from}

-- these answers give declarations as the program does
abbrev pub GivesDecls : List Decl → Answers → Type 0
GivesDecls program answer = (x : Bytes) → answer (node.Fact (fact.Decl x)) ≡ answers.Decl (decl_of program x)

-- what a declaration that has a name says of its parents
own_parents : (x : Bytes) (decl : Decl) → is_named x decl ≡ true → parents_in (answers.Decl (known_as decl)) ≡ Some (parents_of decl)
own_parents x (d.Object own parents) named = refl
own_parents x (d.Predicate own parents test) named = refl
own_parents x (d.Field key start changeable) named = absurd (false≢true named)
own_parents x (d.Method key formals body) named = absurd (false≢true named)

both_false : (p q : Bool) → p ≡ false → q ≡ false → (p || q) ≡ false
both_false true q e h = absurd (cc)
both_false false q e h = h

-- Either nothing stands under a name, or a declaration does, and its parents are answered.
pub record Stands (decls : List Decl) (x : Bytes) : Type 0 where
  pub decl : Decl
  pub member : IsIn decl decls
  pub named : is_named x decl ≡ true
  pub parents : parents_in (answers.Decl (decl_of decls x)) ≡ Some (parents_of decl)

at_name : (decls : List Decl) (x : Bytes) → ((parents_in (answers.Decl (decl_of decls x)) ≡ None) × (is_there decls x ≡ false)) ⊎ Stands decls x
at_name [] x = inl (refl, refl)
at_name (decl ∷ decls) x =
    elim (cases_Bool (is_named x decl)) [
      | inl named ↦ inr (record {
        decl = decl;
        member = inl refl;
        named = named;
        parents = ap (λ k. parents_in (answers.Decl k)) (cond-true (is_named x decl) (known_as decl) (decl_of decls x) named) ∙ own_parents x decl named;
      })
      | inr other ↦
          let same : decl_of (decl ∷ decls) x ≡ decl_of decls x = cond-false (is_named x decl) (known_as decl) (decl_of decls x) other in
          elim (at_name decls x) [
            | inl none ↦ inl (ap (λ k. parents_in (answers.Decl k)) same ∙ none.0, both_false (is_named x decl) (is_there decls x) other none.1)
            | inr s ↦ inr (record { decl = s.decl; member = inr s.member; named = s.named; parents = ap (λ k. parents_in (answers.Decl k)) same ∙ s.parents })
          ]
    ]

-- what is answered leads to the parents
leads_as : (program : List Decl) (answer : Answers) → GivesDecls program answer → (x : Bytes) →
    leads_to upward answer x ≡ parents_in (answers.Decl (decl_of program x))
leads_as program answer gives x = ap parents_in (gives x)

-- a walk goes by chains
pub comes_leads : (program : List Decl) (answer : Answers) → GivesDecls program answer → (start x : Bytes) → Comes upward answer start x → Leads program start x
comes_leads program answer gives start x walking.here = here
comes_leads program answer gives start x (walking.on {x = y} xs came leads i) =
    elim (at_name program y) [
      | inl none ↦ let wrong : None ≡ Some xs = sym none.0 ∙ sym (leads_as program answer gives y) ∙ leads in absurd (cc)
      | inr s ↦
          let both : Some (parents_of s.decl) ≡ Some xs = sym s.parents ∙ sym (leads_as program answer gives y) ∙ leads in
          let same : parents_of s.decl ≡ xs = cc in
          leads_on (comes_leads program answer gives start y came) (up s.decl x s.member s.named (subst (IsIn x) (sym same) i) here)
    ]

-- and by all of them
leads_comes_from : (program : List Decl) → IsProgram program → (answer : Answers) → GivesDecls program answer → (start x y : Bytes) → Leads program x y →
    Comes upward answer start x → Comes upward answer start y
leads_comes_from program is answer gives start x y here came = came
leads_comes_from program is answer gives start x y (up decl parent i named p chain) came =
    elim (at_name program x) [
      | inl none ↦ absurd (both_ways (is_there program x) none.1 (any_in (is_named x) program decl i named))
      | inr s ↦
          let same : s.decl ≡ decl = is.apart s.decl decl (decl_keys.Object x) s.member i (occupies_name x s.decl s.named) (occupies_name x decl named) in
          leads_comes_from program is answer gives start parent y chain
          (walking.on (parents_of s.decl) came (leads_as program answer gives x ∙ s.parents) (subst (λ one. IsIn parent (parents_of one)) (sym same) p))
    ]

pub leads_comes : (program : List Decl) → IsProgram program → (answer : Answers) → GivesDecls program answer → (start x : Bytes) → Leads program start x →
    Comes upward answer start x
leads_comes program is answer gives start x chain = leads_comes_from program is answer gives start start x chain walking.here

-- a name is there where something stands under it
pub there_is : (program : List Decl) (answer : Answers) → GivesDecls program answer → (x : Bytes) → IsThere upward answer x → is_there program x ≡ true
there_is program answer gives x there =
    elim (at_name program x) [
      | inl none ↦ let wrong : None ≡ Some there.0 = sym none.0 ∙ sym (leads_as program answer gives x) ∙ there.1 in absurd (cc)
      | inr s ↦ any_in (is_named x) program s.decl s.member s.named
    ]

pub is_there_then : (program : List Decl) (answer : Answers) → GivesDecls program answer → (x : Bytes) → is_there program x ≡ true → IsThere upward answer x
is_there_then program answer gives x t =
    elim (at_name program x) [
      | inl none ↦ absurd (both_ways (is_there program x) none.1 t)
      | inr s ↦ (parents_of s.decl, leads_as program answer gives x ∙ s.parents)
    ]

-- parents are names that a declaration mentions
parents_mentioned : (decl : Decl) (x : Bytes) → IsIn x (parents_of decl) → IsIn x (mentioned decl)
parents_mentioned (d.Object own parents) x i = i
parents_mentioned (d.Predicate own parents test) x i = i
parents_mentioned (d.Field key start changeable) x i = absurd i
parents_mentioned (d.Method key formals body) x i = absurd i

-- all to which a walk comes from a name that is there is there
pub comes_there : (program : List Decl) → IsProgram program → (answer : Answers) → GivesDecls program answer → (start x : Bytes) →
    is_there program start ≡ true →
    Comes upward answer start x → is_there program x ≡ true
comes_there program is answer gives start x t walking.here = t
comes_there program is answer gives start x t (walking.on {x = y} xs came leads i) =
    elim (at_name program y) [
      | inl none ↦ let wrong : None ≡ Some xs = sym none.0 ∙ sym (leads_as program answer gives y) ∙ leads in absurd (cc)
      | inr s ↦
          let both : Some (parents_of s.decl) ≡ Some xs = sym s.parents ∙ sym (leads_as program answer gives y) ∙ leads in
          let same : parents_of s.decl ≡ xs = cc in
          is.known s.decl x s.member (parents_mentioned s.decl x (subst (IsIn x) (sym same) i))
    ]

-- and from one that is not there it comes to nothing else
pub comes_alone : (program : List Decl) (answer : Answers) → GivesDecls program answer → (start x : Bytes) → is_there program start ≡ false →
    Comes upward answer start x → start ≡ x
comes_alone program answer gives start x gone walking.here = refl
comes_alone program answer gives start x gone (walking.on {x = y} xs came leads i) =
    let same : start ≡ y = comes_alone program answer gives start y gone came in
    elim (at_name program y) [
      | inl none ↦ let wrong : None ≡ Some xs = sym none.0 ∙ sym (leads_as program answer gives y) ∙ leads in absurd (cc)
      | inr s ↦ absurd (both_ways (is_there program start) gone (ap (is_there program) same ∙ any_in (is_named y) program s.decl s.member s.named))
    ]
