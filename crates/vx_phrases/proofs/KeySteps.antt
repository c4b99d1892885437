-- The steps of the reader of keys are those of the grammar.
use Rattle.std.proofs.Common.{◌≡◌, ◌≤◌, ◌⊎◌, inl, inr, ℕ, Bool, true, false, List, [], ◌∷◌, length, Option, Some, None, refl, sym, subst, le-leb, leb-true, nat_le, is_none, if◌then◌else◌}
use Rattle.vx_names.specs.declared.key.DeclKey.{DeclKey}
use Rattle.vx_syntax.specs.declared.token.Token.{Token}
use Rattle.vx_syntax.specs.declared.token.Token.TheVariants as k
use Rattle.vx_syntax.specs.declared.token.Keyword.TheVariants as w
use Rattle.vx_syntax.specs.declared.token.Mark.TheVariants as mark
use Rattle.vx_syntax.specs.Expressions.{Bytes, max_field_bytes}
use Rattle.vx_phrases.specs.declared.key_state.KeyMessage.{KeyMessage}
use Rattle.vx_phrases.specs.declared.key_state.KeyState.{KeyState}
use Rattle.vx_phrases.specs.declared.key_state.KeyState.TheVariants as st
use Rattle.vx_phrases.specs.Laws.{Moves}
use Rattle.vx_phrases.specs.KeyMachine as m
use Rattle.vx_phrases.specs.KeyMachine.{key_begun, key_step, key_finished, with_last, with_next}
use Rattle.vx_phrases.specs.KeyRemains as r
use Rattle.vx_phrases.specs.KeyRemains.{KeyRemains}

by_name : (x : Bytes) (ts us : List Token) (v : DeclKey) → length x ≤ max_field_bytes → KeyRemains (st.FieldNamed x) ts us v → Moves KeyRemains (m.field_name x) ts us v
by_name x ts us v short h = subst (λ b. Moves KeyRemains (if b then Some (st.FieldNamed x) else None) ts us v) (sym (le-leb _ _ short)) h

pub complete : (s : KeyState) (t : Token) (ts us : List Token) (v : DeclKey) → KeyRemains s (t ∷ ts) us v →
    Moves KeyRemains (key_step s t) ts us v ⊎ ((us ≡ t ∷ ts) × (key_finished s ≡ Some v))
unfolding key_step key_finished
complete _ t ts us v (r.object h) = inl h
complete _ t ts us v (r.predicate h) = inl h
complete _ t ts us v (r.field h) = inl h
complete _ t ts us v (r.method h) = inl h
complete _ t ts us v r.wants_object = inl r.is_whole
complete _ t ts us v r.wants_predicate = inl r.is_whole
complete _ t ts us v (r.wants_field {x} short h) = inl (by_name x ts us v short h)
complete _ t ts us v (r.wants_open h) = inl h
complete _ t ts us v (r.wants_at h) = inl h
complete _ t ts us v (r.wants_holder h) = inl h
complete _ t ts us v r.wants_close = inl r.is_whole
complete _ t ts us v (r.wants_name h) = inl h
complete _ t ts us v (r.wants_operator h) = inl h
complete _ t ts us v (r.wants_specialisers h) = inl h
complete _ t ts us v (r.wants_two h) = inl h
complete _ t ts us v r.of_none = inl r.is_whole
complete _ t ts us v (r.of_some h) = inl h
complete _ t ts us v (r.wants_sign h) = inl h
complete _ t ts us v (r.wants_specialiser h) = inl h
complete _ t ts us v (r.last_specialiser is h) = inl (subst (λ o. Moves KeyRemains o ts us v) (sym is) h)
complete _ t ts us v (r.next_specialiser is h) = inl (subst (λ o. Moves KeyRemains (m.specialiser_next o) ts us v) (sym is) h)
complete _ t ts us v r.is_whole = inr (refl, refl)

of_name : (x : Bytes) (ts us : List Token) (v : DeclKey) (b : Bool) → nat_le (length x) max_field_bytes ≡ b →
    Moves KeyRemains (if b then Some (st.FieldNamed x) else None) ts us v → KeyRemains st.Field (k.Word x ∷ ts) us v
of_name x ts us v true short h = r.wants_field (leb-true _ _ short) h
of_name x ts us v false short h = absurd h

of_last : (message : KeyMessage) (x : Bytes) (ts us : List Token) (v : DeclKey) (next : Option KeyState) → with_last message x ≡ next →
    Moves KeyRemains next ts us v → KeyRemains (st.Specialised message x) (k.Mark mark.Close ∷ ts) us v
of_last message x ts us v (Some next) is h = r.last_specialiser is h
of_last message x ts us v None is h = absurd h

of_next : (message : KeyMessage) (x : Bytes) (ts us : List Token) (v : DeclKey) (next : Option KeyMessage) → with_next message x ≡ next →
    Moves KeyRemains (m.specialiser_next next) ts us v → KeyRemains (st.Specialised message x) (k.Mark mark.Comma ∷ ts) us v
of_next message x ts us v (Some next) is h = r.next_specialiser is h
of_next message x ts us v None is h = absurd h

pub sound : (s : KeyState) (t : Token) (ts us : List Token) (v : DeclKey) → Moves KeyRemains (key_step s t) ts us v → KeyRemains s (t ∷ ts) us v
unfolding key_step
sound st.Begun (k.Keyword w.Object) ts us v h = r.object h
sound st.Begun (k.Keyword w.Predicate) ts us v h = r.predicate h
sound st.Begun (k.Keyword w.Field) ts us v h = r.field h
sound st.Begun (k.Keyword w.Method) ts us v h = r.method h
sound st.Object (k.Word x) ts us _ r.is_whole = r.wants_object
sound st.Predicate (k.Word x) ts us _ r.is_whole = r.wants_predicate
sound st.Field (k.Word x) ts us v h = of_name x ts us v _ refl h
sound (st.FieldNamed x) (k.Mark mark.Open) ts us v h = r.wants_open h
sound (st.FieldOpen x) (k.Mark mark.At) ts us v h = r.wants_at h
sound (st.FieldAt x) (k.Word holder) ts us v h = r.wants_holder h
sound (st.FieldHolder key) (k.Mark mark.Close) ts us _ r.is_whole = r.wants_close
sound st.Method (k.Word x) ts us v h = r.wants_name h
sound st.Method (k.Operator op) ts us v h = r.wants_operator h
sound (st.MethodNamed x) (k.Mark mark.Open) ts us v h = r.wants_specialisers h
sound (st.MethodSign op) (k.Mark mark.Open) ts us v h = r.wants_two h
sound (st.MethodOpen x) (k.Mark mark.Close) ts us _ r.is_whole = r.of_none
sound (st.MethodOpen x) (k.Mark mark.At) ts us v h = r.of_some h
sound (st.Specialiser message) (k.Mark mark.At) ts us v h = r.wants_sign h
sound (st.At message) (k.Word x) ts us v h = r.wants_specialiser h
sound (st.Specialised message x) (k.Mark mark.Close) ts us v h = of_last message x ts us v _ refl h
sound (st.Specialised message x) (k.Mark mark.Comma) ts us v h = of_next message x ts us v _ refl h
sound _ _ ts us v h = absurd h

pub ends : (s : KeyState) (us : List Token) (v : DeclKey) → key_finished s ≡ Some v → KeyRemains s us us v
unfolding key_finished
ends (st.Whole key) us v is =
    let same : key ≡ v = cc in
    subst (λ y. KeyRemains (st.Whole key) us us y) same r.is_whole
ends _ us v is = absurd (cc)

pub at_end : (s : KeyState) (us : List Token) (v : DeclKey) → KeyRemains s [] us v → (us ≡ []) × (key_finished s ≡ Some v)
unfolding key_finished
at_end _ us v r.is_whole = (refl, refl)

pub takes_number : (s : KeyState) (i j : ℕ) → is_none (key_step s (k.Number i)) ≡ is_none (key_step s (k.Number j))
unfolding key_step
takes_number st.Begun i j = refl
takes_number st.Object i j = refl
takes_number st.Predicate i j = refl
takes_number st.Field i j = refl
takes_number (st.FieldNamed x) i j = refl
takes_number (st.FieldOpen x) i j = refl
takes_number (st.FieldAt x) i j = refl
takes_number (st.FieldHolder key) i j = refl
takes_number st.Method i j = refl
takes_number (st.MethodNamed x) i j = refl
takes_number (st.MethodSign op) i j = refl
takes_number (st.MethodOpen x) i j = refl
takes_number (st.Specialiser message) i j = refl
takes_number (st.At message) i j = refl
takes_number (st.Specialised message x) i j = refl
takes_number (st.Whole key) i j = refl

-- A whole key goes on with nothing.
pub over : (s : KeyState) (v : DeclKey) (t : Token) → key_finished s ≡ Some v → key_step s t ≡ None
unfolding key_step key_finished
over (st.Whole key) v t is = refl
over _ v t is = absurd (cc)
