-- What the declarations of programs say, key by key: where two programs say the same of each key, they say the same in all, and the other way round.
use Rattle.std.proofs.Common.{◌≡◌, true, false, List, [], ◌∷◌, Option, Some, None, refl, sym, ap, ◌∙◌, subst, inl, inr, Ordering, Less, Equal, Greater}
use Rattle.std.specs.Ordering.{is_lt, ordering_reverse}
use Rattle.std.proofs.lemmas.Bool.{cases_Bool, cond-true, cond-false, both_ways, false_from_ne_true}
use Rattle.vx_lists.specs.Members.{IsIn}
use Rattle.vx_names.specs.declared.key.DeclKey.{DeclKey}
use Rattle.vx_names.specs.Key.{decl_key_cmp}
use Rattle.vx_names.specs.KeyLaws.{decl_keys_total}
use Rattle.vx_names.proofs.Keys.{keys_apart}
use Rattle.vx_syntax.specs.declared.decl.Decl.{Decl}
use Rattle.vx_syntax.specs.Keys.{key_of}
use Rattle.vx_program.specs.Prelude.{same_key}
use Rattle.vx_program.specs.Program.{IsOrdered, has_key, find, is_before}
use Rattle.vx_program.proofs.Members.{has_key_is, has_its_key, tail_ordered, goes_first, not_before_itself, find_gives, same_member}
use Rattle.vx_program.proofs.Sought.{find_none}

-- what is said before the rest, if something is
abbrev pub with_said : {S : Type 0} → Option S → List S → List S
with_said None rest = rest
with_said (Some s) rest = s ∷ rest

-- ---- declarations by their keys

find_first : (a : Decl) (ds : List Decl) → find (a ∷ ds) (key_of a) ≡ Some a
find_first a ds = cond-true (has_key (key_of a) a) (Some a) (find ds (key_of a)) (has_its_key (key_of a) a refl)

pub find_behind : (a : Decl) (ds : List Decl) (key : DeclKey) → has_key key a ≡ false → find (a ∷ ds) key ≡ find ds key
find_behind a ds key f = cond-false (has_key key a) (Some a) (find ds key) f

-- what goes before all is none of them
before_all : (a : Decl) (ds : List Decl) → ((b : Decl) → IsIn b ds → is_before a b ≡ true) → find ds (key_of a) ≡ None
before_all a ds first =
    find_none ds (key_of a) (λ b i.
    false_from_ne_true (has_key (key_of a) b) (λ t.
    both_ways (is_before a b) (ap (λ z. is_lt (decl_key_cmp (key_of a) z)) (has_key_is (key_of a) b t) ∙ not_before_itself (key_of a)) (first b i)))

-- the key of the first is none of those behind it
gone : (a : Decl) (ds : List Decl) → IsOrdered (a ∷ ds) → (key : DeclKey) → has_key key a ≡ true → find ds key ≡ None
gone a ds ordered key t = subst (λ z. find ds z ≡ None) (has_key_is key a t) (before_all a ds (goes_first a ds ordered))

-- a member is what is found under its key
pub finds : (ds : List Decl) (one : Decl) (key : DeclKey) → IsOrdered ds → IsIn one ds → key_of one ≡ key → find ds key ≡ Some one
finds [] one key ordered i e = absurd i
finds (a ∷ ds) one key ordered i e =
    elim (cases_Bool (has_key key a)) [
      | inl t ↦
          cond-true (has_key key a) (Some a) (find ds key) t
          ∙ ap Some (same_member (a ∷ ds) ordered a one (inl refl) i (has_key_is key a t ∙ sym e))
      | inr f ↦
          find_behind a ds key f
          ∙ elim i [
            | inl same ↦ absurd (both_ways (has_key key a) f (has_its_key key a (ap key_of same ∙ e)))
            | inr j ↦ finds ds one key (tail_ordered a ds ordered) j e
          ]
    ]

-- what tells of each that it is the other is the same
both_are : {S : Type 0} (x y : Option S) → ((s : S) → x ≡ Some s → y ≡ Some s) → ((s : S) → y ≡ Some s → x ≡ Some s) → x ≡ y
both_are None None to from = refl
both_are None (Some s) to from = from s refl
both_are (Some s) y to from = sym (to s refl)

module _ {S : Type 0} (said : Decl → Option S) where
  abbrev pub said_by : Option Decl → Option S
  said_by None = None
  said_by (Some decl) = said decl

  abbrev pub all_said : List Decl → List S
  all_said [] = []
  all_said (decl ∷ decls) = with_said (said decl) (all_said decls)

  -- the same is said of each key
  abbrev pub AreAlike : List Decl → List Decl → Type 0
  AreAlike first second = (key : DeclKey) → said_by (find first key) ≡ said_by (find second key)

  -- ---- what is said is said by a declaration

  pub said_in : (decls : List Decl) (s : S) → IsIn s (all_said decls) → (decl : Decl) × IsIn decl decls × (said decl ≡ Some s)
  said_in [] s i = absurd i
  said_in (decl ∷ decls) s i = by (said decl) refl (said_in decls s) i
    where
      by : (o : Option S) → said decl ≡ o → (IsIn s (all_said decls) → (one : Decl) × IsIn one decls × (said one ≡ Some s)) →
          IsIn s (with_said o (all_said decls)) → (one : Decl) × IsIn one (decl ∷ decls) × (said one ≡ Some s)
      by None e more j = let r = more j in (r.0, inr r.1, r.2)
      by (Some t) e more (inl same) = (decl, inl refl, e ∙ ap Some same)
      by (Some t) e more (inr j) = let r = more j in (r.0, inr r.1, r.2)

  behind : (s : S) (o : Option S) (rest : List S) → IsIn s rest → IsIn s (with_said o rest)
  behind s None rest i = i
  behind s (Some t) rest i = inr i

  pub in_said : (decls : List Decl) (decl : Decl) (s : S) → IsIn decl decls → said decl ≡ Some s → IsIn s (all_said decls)
  in_said [] decl s i e = absurd i
  in_said (own ∷ decls) decl s (inl same) e = subst (λ o. IsIn s (with_said o (all_said decls))) (sym (ap said same ∙ e)) (inl refl)
  in_said (own ∷ decls) decl s (inr i) e = behind s (said own) (all_said decls) (in_said decls decl s i e)

  -- ---- key by key

  -- a first that says nothing makes no difference
  silent_first : (a : Decl) (ds : List Decl) → IsOrdered (a ∷ ds) → said a ≡ None → AreAlike (a ∷ ds) ds
  silent_first a ds ordered none key =
      elim (cases_Bool (has_key key a)) [
        | inl t ↦
            ap said_by (cond-true (has_key key a) (Some a) (find ds key) t) ∙ none ∙ sym (ap said_by (gone a ds ordered key t))
        | inr f ↦ ap said_by (find_behind a ds key f)
      ]

  -- where one says nothing, all of the other say nothing
  all_silent : (ds : List Decl) → IsOrdered ds → AreAlike [] ds → all_said ds ≡ []
  all_silent [] ordered alike = refl
  all_silent (b ∷ ds) ordered alike =
      let none : said b ≡ None = sym (alike (key_of b) ∙ ap said_by (find_first b ds)) in
      ap (λ o. with_said o (all_said ds)) none
      ∙ all_silent ds (tail_ordered b ds ordered) (λ key. alike key ∙ silent_first b ds ordered none key)

  -- a first that goes before all of the others says nothing
  alone_silent : (a : Decl) (first second : List Decl) → ((b : Decl) → IsIn b second → is_before a b ≡ true) → AreAlike (a ∷ first) second → said a ≡ None
  alone_silent a first second before alike = sym (ap said_by (find_first a first)) ∙ alike (key_of a) ∙ ap said_by (before_all a second before)

  module _ (a : Decl) (first : List Decl) (left : IsOrdered (a ∷ first)) where
    -- two firsts of one key
    behind_both : (b : Decl) (second : List Decl) → IsOrdered (b ∷ second) → key_of a ≡ key_of b →
        AreAlike (a ∷ first) (b ∷ second) → AreAlike first second
    behind_both b second right same alike key =
        elim (cases_Bool (has_key key a)) [
          | inl t ↦
              ap said_by (gone a first left key t) ∙ sym (ap said_by (gone b second right key (subst (λ z. same_key z key ≡ true) same t)))
          | inr f ↦
              sym (ap said_by (find_behind a first key f)) ∙ alike key
              ∙ ap said_by (find_behind b second key (subst (λ z. same_key z key ≡ false) same f))
        ]

    one_beside : ((rest : List Decl) → IsOrdered rest → AreAlike first rest → all_said first ≡ all_said rest) →
        (second : List Decl) → IsOrdered second → AreAlike (a ∷ first) second → all_said (a ∷ first) ≡ all_said second
    one_beside later [] right alike = all_silent (a ∷ first) left (λ key. sym (alike key))
    one_beside later (b ∷ second) right alike =
        by (decl_key_cmp (key_of a) (key_of b)) refl (one_beside later second (tail_ordered b second right))
      where
        by : (o : Ordering) → decl_key_cmp (key_of a) (key_of b) ≡ o → (AreAlike (a ∷ first) second → all_said (a ∷ first) ≡ all_said second) →
            all_said (a ∷ first) ≡ all_said (b ∷ second)
        by Less e next =
            let none : said a ≡ None = alone_silent a first (b ∷ second) (goes_first a (b ∷ second) (ap is_lt e, right)) alike in
            ap (λ o. with_said o (all_said first)) none ∙ later (b ∷ second) right (λ key. sym (silent_first a first left none key) ∙ alike key)
        by Equal e next =
            let same : key_of a ≡ key_of b = keys_apart (key_of a) (key_of b) e in
            let said_same : said a ≡ said b =
            sym (ap said_by (find_first a first)) ∙ alike (key_of a) ∙ ap (λ z. said_by (find (b ∷ second) z)) same ∙ ap said_by (find_first b second) in
            ap (λ o. with_said o (all_said first)) said_same
            ∙ ap (with_said (said b)) (later second (tail_ordered b second right) (behind_both b second right same alike))
        by Greater e next =
            let less : is_before b a ≡ true = ap is_lt (decl_keys_total.antisymm (key_of b) (key_of a) ∙ ap ordering_reverse e) in
            let none : said b ≡ None =
            alone_silent b second (a ∷ first) (goes_first b (a ∷ first) (less, left)) (λ key. sym (alike key)) in
            next (λ key. alike key ∙ silent_first b second right none key) ∙ sym (ap (λ o. with_said o (all_said second)) none)

  pub same_said : (first second : List Decl) → IsOrdered first → IsOrdered second → AreAlike first second → all_said first ≡ all_said second
  same_said [] second left right alike = sym (all_silent second right alike)
  same_said (a ∷ first) second left right alike =
      one_beside a first left (λ rest ordered both. same_said first rest (tail_ordered a first left) ordered both) second right alike

  -- ---- the other way round, where what is said has the key in it

  module _ (key_in : S → DeclKey) (has_key_in : (decl : Decl) (s : S) → said decl ≡ Some s → key_of decl ≡ key_in s) where
    said_there : (first second : List Decl) → IsOrdered second → ((s : S) → IsIn s (all_said first) → IsIn s (all_said second)) →
        (key : DeclKey) (s : S) → said_by (find first key) ≡ Some s → said_by (find second key) ≡ Some s
    said_there first second ordered to key s e = by (find first key) refl e
      where
        by : (o : Option Decl) → find first key ≡ o → said_by o ≡ Some s → said_by (find second key) ≡ Some s
        by None at says = absurd (cc)
        by (Some decl) at says =
            let r = find_gives first key decl at in
            let other = said_in second s (to s (in_said first decl s r.0 says)) in
            ap said_by (finds second other.0 key ordered other.1
            (has_key_in other.0 s other.2 ∙ sym (has_key_in decl s says) ∙ has_key_is key decl r.1)) ∙ other.2

    pub alike_said : (first second : List Decl) → IsOrdered first → IsOrdered second → ((s : S) → IsIn s (all_said first) → IsIn s (all_said second)) →
        ((s : S) → IsIn s (all_said second) → IsIn s (all_said first)) → AreAlike first second
    alike_said first second left right to from key =
        both_are (said_by (find first key)) (said_by (find second key)) (said_there first second right to key) (said_there second first left from key)
