-- What is found out of two programs, one changed key after another.
use Rattle.std.proofs.lemmas.List.{take_more}
use Rattle.std.proofs.Common.{◌≡◌, ◌∙◌, ◌⊎◌, ◌↔◌, refl, sym, ap, subst, inl, inr, ℕ, ◌<◌, ◌+◌, length, take, get_or}
use Rattle.std.proofs.Common.{Bool, true, false, if◌then◌else◌, List, [], ◌∷◌, ◌++◌, Option, Some, None, Result, Ok, Err}
use Rattle.std.specs.List.{list_all, list_any}
use Rattle.std.proofs.lemmas.Bool.{cases_Bool, false≢true}
use Rattle.vx_lists.specs.Members.{IsIn}
use Rattle.vx_lists.proofs.Members.{in_any, none_of, in_either, in_front, in_behind, each}
use Rattle.vx_names.specs.declared.key.DeclKey.{DeclKey}
use Rattle.vx_syntax.specs.declared.decl.Decl.{Decl}
use Rattle.vx_syntax.specs.declared.decl.Decl.TheVariants as d
use Rattle.vx_syntax.specs.Keys.{key_of}
use Rattle.vx_syntax.specs.Written.{IsDeclWritten}
use Rattle.vx_program.specs.declared.edit.Change.{Change}
use Rattle.vx_program.specs.declared.edit.Change.TheVariants as c
use Rattle.vx_program.specs.declared.edit.EditFault.{EditFault}
use Rattle.vx_program.specs.Prelude.{prelude, same_key}
use Rattle.vx_program.specs.Program.{IsProgram, has_key, find, is_before}
use Rattle.vx_program.specs.Apply.{with_decl, replaced, without, made, fault_of, apply}
use Rattle.vx_program.proofs.Members.{same_key_is, has_key_is, find_gives, with_here, with_behind, replaced_here, replaced_behind, without_here, without_behind}
use Rattle.vx_node.specs.declared.node.Fact.{Fact}
use Rattle.vx_answers.specs.Touched.{AreTouched}
use Rattle.vx_facts.specs.Differences.{changed_key, HaveOneKey, IsFieldWritten, ArePutBehind}
use Rattle.vx_facts.proofs.Speaking.{find_behind}
use Rattle.vx_facts.proofs.Agreeing.{Agree, agree_same, same_answer, same_sayings}
use Rattle.vx_facts.proofs.ToldAll.{both_told, told_apart, all_told}

-- ---- under keys that are not changed the same is found

behind_same : (a : Decl) (xs ys : List Decl) (key : DeclKey) → find xs key ≡ find ys key → find (a ∷ xs) key ≡ find (a ∷ ys) key
behind_same a xs ys key e = ap (λ o. if has_key key a then Some a else o) e

other_key : (a b : Decl) (key : DeclKey) → has_key (key_of b) a ≡ true → has_key key b ≡ false → has_key key a ≡ false
other_key a b key t f = subst (λ z. same_key z key ≡ false) (sym (has_key_is (key_of b) a t)) f

found_with : (ds : List Decl) (new : Decl) (key : DeclKey) → has_key key new ≡ false → find (with_decl ds new) key ≡ find ds key
found_with [] new key f = find_behind new [] key f
found_with (a ∷ ds) new key f =
    elim (cases_Bool (is_before a new)) [
      | inl t ↦ ap (λ l. find l key) (with_behind a new ds t) ∙ behind_same a (with_decl ds new) ds key (found_with ds new key f)
      | inr b ↦ ap (λ l. find l key) (with_here a new ds b) ∙ find_behind new (a ∷ ds) key f
    ]

found_replaced : (ds : List Decl) (new : Decl) (key : DeclKey) → has_key key new ≡ false → find (replaced ds new) key ≡ find ds key
found_replaced [] new key f = refl
found_replaced (a ∷ ds) new key f =
    elim (cases_Bool (has_key (key_of new) a)) [
      | inl t ↦
          ap (λ l. find l key) (replaced_here a new ds t) ∙ find_behind new ds key f ∙ sym (find_behind a ds key (other_key a new key t f))
      | inr b ↦ ap (λ l. find l key) (replaced_behind a new ds b) ∙ behind_same a (replaced ds new) ds key (found_replaced ds new key f)
    ]

found_without : (ds : List Decl) (gone key : DeclKey) → same_key gone key ≡ false → find (without ds gone) key ≡ find ds key
found_without [] gone key f = refl
found_without (a ∷ ds) gone key f =
    elim (cases_Bool (has_key gone a)) [
      | inl t ↦
          ap (λ l. find l key) (without_here a ds gone t)
          ∙ sym (find_behind a ds key (subst (λ z. same_key z key ≡ false) (sym (has_key_is gone a t)) f))
      | inr b ↦ ap (λ l. find l key) (without_behind a ds gone b) ∙ behind_same a (without ds gone) ds key (found_without ds gone key f)
    ]

found_made : (program : List Decl) (change : Change) (key : DeclKey) → same_key (changed_key change) key ≡ false →
    find (made program change) key ≡ find program key
found_made program (c.Add decl) key f = found_with program decl key f
found_made program (c.Put decl) key f = found_replaced program decl key f
found_made program (c.Drop gone) key f = found_without program gone key f

found_applied : (changes : List Change) (program next : List Decl) (key : DeclKey) → apply program changes ≡ Ok next →
    ((change : Change) → IsIn change changes → same_key (changed_key change) key ≡ false) → find program key ≡ find next key
found_applied [] program next key e none = let same : program ≡ next = cc in ap (λ l. find l key) same
found_applied (change ∷ changes) program next key e none =
    sym (found_made program change key (none change (inl refl)))
    ∙ found_applied changes (made program change) next key (by (fault_of program change) e) (λ other i. none other (inr i))
  where
    by : (fault : Option EditFault) →
        elim (elim fault as (λ _. Result (List Decl) EditFault) [ None ↦ Ok (made program change) | Some x ↦ Err x ]) as (λ _. Result (List Decl) EditFault)
        [ Ok n ↦ apply n changes | Err x ↦ Err x ] ≡ Ok next →
        apply (made program change) changes ≡ Ok next
    by None h = h
    by (Some x) h = absurd (cc)

-- ---- what is found under one key

pub one_key : (first second : List Decl) (key : DeclKey) → HaveOneKey (find first key) (find second key)
one_key first second key = by (find first key) (find second key) refl refl
  where
    by : (a b : Option Decl) → find first key ≡ a → find second key ≡ b → HaveOneKey a b
    by (Some a) (Some b) e f = has_key_is key a (find_gives first key a e).1 ∙ sym (has_key_is key b (find_gives second key b f).1)
    by (Some a) None e f = tt
    by None b e f = tt

abbrev is_no_field : Decl → Bool
is_no_field (d.Field key start changeable) = false
is_no_field decl = true

no_fields : list_all is_no_field prelude ≡ true
unfolding prelude
no_fields = refl

field_written : (decl : Decl) → IsIn decl prelude ⊎ IsDeclWritten decl → IsFieldWritten (Some decl)
field_written (d.Object x parents) from = tt
field_written (d.Predicate x parents test) from = tt
field_written (d.Method key formals body) from = tt
field_written (d.Field key start changeable) (inl i) = absurd (false≢true (each is_no_field prelude no_fields (d.Field key start changeable) i))
field_written (d.Field key start changeable) (inr is) = (is.0, is.1, is.2)

pub found_written : (program : List Decl) → IsProgram program → (key : DeclKey) → IsFieldWritten (find program key)
found_written program well key = by (find program key) refl
  where
    by : (o : Option Decl) → find program key ≡ o → IsFieldWritten o
    by None e = tt
    by (Some decl) e = field_written decl (well.written decl (find_gives program key decl e).0)

-- ---- changes one after another

-- Each of the facts is one on which the programs disagree under some key. Of each change behind us every fact is among them, or the programs agree
-- on it under the key of the change.
pub record Heard (before after : List Decl) (changes : List Change) (facts : List Fact) : Type 0 where
  pub apart : (one : Fact) → IsIn one facts → (key : DeclKey) × (Agree one (find before key) (find after key) → ⊥)
  pub all : (change : Change) → IsIn change changes → (one : Fact) →
      IsIn one facts ⊎ Agree one (find before (changed_key change)) (find after (changed_key change))

pub heard_none : (before after : List Decl) → Heard before after [] []
heard_none before after = record { apart = λ one i. absurd i; all = λ change i one. absurd i }

module _ (before after : List Decl) (changes : List Change) (change : Change) (facts : List Fact) (heard : Heard before after changes facts) where
  abbrev old : Option Decl
  old = find before (changed_key change)

  abbrev new : Option Decl
  new = find after (changed_key change)

  pub heard_more : (next : List Fact) → ((one : Fact) → IsIn one facts → IsIn one next) →
      ((one : Fact) → IsIn one next → IsIn one facts ⊎ (Agree one old new → ⊥)) → ((one : Fact) → IsIn one next ⊎ Agree one old new) →
      Heard before after (changes ++ change ∷ []) next
  heard_more next kept from told = record {
    apart = λ one i. elim (from one i) [ inl j ↦ heard.apart one j | inr apart ↦ (changed_key change, apart) ];
    all = λ other i one. elim (in_either other changes (change ∷ []) i) [
      | inl j ↦ elim (heard.all other j one) [ inl l ↦ inl (kept one l) | inr agree ↦ inr agree ]
      | inr j ↦ elim j [
        | inl e ↦ subst (λ z. IsIn one next ⊎ Agree one (find before (changed_key z)) (find after (changed_key z))) e (told one)
        | inr l ↦ absurd l
      ]
    ];
  }

  pub heard_one : (next : List Fact) → ArePutBehind old new facts next → Heard before after (changes ++ change ∷ []) next
  heard_one next (inl same) =
      subst (Heard before after (changes ++ change ∷ [])) (sym same.1)
      (heard_more facts (λ one i. i) (λ one i. inl i) (λ one. inr (agree_same one old new same.0)))
  heard_one next (inr behind) =
      subst (Heard before after (changes ++ change ∷ [])) (sym behind.1)
      (heard_more (facts ++ told) (λ one i. in_front one facts told i)
      (λ one i. elim (in_either one facts told i) [ inl j ↦ inl j | inr j ↦ inr (told_apart old new behind.0 one j) ])
      (λ one. elim (all_told old new (one_key before after (changed_key change)) one) [
        | inl j ↦ inl (in_behind one facts told j)
        | inr agree ↦ inr agree
      ]))
    where
      told : List Fact
      told = both_told old new

-- a loop over the changes of an edit
module _ (before after : List Decl) (changes : List Change) (i : ℕ) (change : Change) where
  pub heard_next : (facts next : List Fact) → i < length changes → change ≡ get_or changes i change → Heard before after (take i changes) facts →
      ArePutBehind (find before (changed_key change)) (find after (changed_key change)) facts next → Heard before after (take (i + 1) changes) next
  heard_next facts next within is heard behind =
      subst (λ z. Heard before after z next) (sym (take_more changes i change within ∙ ap (λ z. take i changes ++ z ∷ []) (sym is)))
      (heard_one before after (take i changes) change facts heard next behind)

-- the facts in another order are those that were touched, too
pub still_touched : (before after : List Decl) (facts other : List Fact) →
    ((one : Fact) → IsIn one facts ↔ IsIn one other) → AreTouched before after facts → AreTouched before after other
still_touched before after facts other same touched one = (
  (λ i. (touched one).0 ((same one).1 i)),
  λ differ. (same one).0 ((touched one).1 differ),
)

-- one of them, or all agree
one_or_all : (one : Fact) (facts : List Fact) (P : Change → Type 0) (changes : List Change) →
    ((change : Change) → IsIn change changes → IsIn one facts ⊎ P change) → IsIn one facts ⊎ ((change : Change) → IsIn change changes → P change)
one_or_all one facts P [] each = inr (λ change i. absurd i)
one_or_all one facts P (change ∷ changes) each =
    elim (each change (inl refl)) [
      | inl i ↦ inl i
      | inr here ↦
          elim (one_or_all one facts P changes (λ other i. each other (inr i))) [
            | inl i ↦ inl i
            | inr all ↦ inr (λ other i. elim i [ inl e ↦ subst P e here | inr j ↦ all other j ])
          ]
    ]

module _ (before after : List Decl) (left : IsProgram before) (right : IsProgram after) where
  -- the programs agree on it under the key of the change, or under each key
  abbrev AgreeFor : Fact → Change → Type 0
  AgreeFor one change = Agree one (find before (changed_key change)) (find after (changed_key change))

  agree_under : (changes : List Change) → apply before changes ≡ Ok after → (one : Fact) → ((change : Change) → IsIn change changes → AgreeFor one change) →
      (key : DeclKey) → Agree one (find before key) (find after key)
  agree_under changes applied one all key =
      elim (cases_Bool (list_any (λ change. same_key (changed_key change) key) changes)) [
        | inl t ↦
            let r = in_any (λ change. same_key (changed_key change) key) changes t in
            subst (λ z. Agree one (find before z) (find after z)) (same_key_is (changed_key r.0) key r.2) (all r.0 r.1)
        | inr f ↦
            agree_same one (find before key) (find after key)
            (found_applied changes before after key applied (none_of (λ change. same_key (changed_key change) key) changes f))
      ]

  -- where all changes of an edit were heard, the facts are those that it touches
  pub are_touched : (changes : List Change) (facts : List Fact) → apply before changes ≡ Ok after → Heard before after changes facts →
      AreTouched before after facts
  are_touched changes facts applied heard one = (
    (λ i e. let r = heard.apart one i in r.1 (same_sayings one before after left right e r.0)),
    λ differ. elim (one_or_all one facts (AgreeFor one) changes (λ change i. heard.all change i one)) [
      | inl i ↦ i
      | inr all ↦ absurd (differ (same_answer one before after left right (agree_under changes applied one all)))
    ],
  )
