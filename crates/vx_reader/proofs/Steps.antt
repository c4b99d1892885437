-- A step of the reader of commands follows the grammar.
use Rattle.std.proofs.Common.{◌≡◌, ℕ, ◌≤◌, Bool, true, false, if◌then◌else◌, ◌||◌, ◌⊎◌, inl, inr, List, [], ◌∷◌, ◌++◌, Option, Some, None, refl, sym, ap, subst, ◌∙◌}
use Rattle.std.proofs.lemmas.Bool.{leb-true, le-leb}
use Rattle.std.proofs.lemmas.Slice.Eq.{bytes_eq-Decides}
use Rattle.std.specs.Prelude.{nat_le}
use Rattle.std.specs.Str.{bytes_eq}
use Rattle.std.specs.List.{AllByRecursion}
use Rattle.vx_names.specs.declared.key.DeclKey.{DeclKey}
use Rattle.vx_syntax.specs.declared.token.Token.{Token}
use Rattle.vx_syntax.specs.declared.token.Token.TheVariants as k
use Rattle.vx_syntax.specs.declared.token.Keyword.TheVariants as w
use Rattle.vx_syntax.specs.declared.decl.Decl.{Decl}
use Rattle.vx_syntax.specs.Expressions.{Bytes, is_among}
use Rattle.vx_syntax.specs.Tests.{and_word, or_word}
use Rattle.vx_syntax.specs.Declarations as d
use Rattle.vx_syntax.specs.Declarations.{add_word, put_word, drop_word, IsDecl, IsKey}
use Rattle.vx_syntax.specs.Depth.{changing_words}
use Rattle.vx_program.specs.declared.edit.Change.{Change}
use Rattle.vx_program.specs.declared.edit.Change.TheVariants.{Drop}
use Rattle.vx_program.specs.Changes as h
use Rattle.vx_program.specs.Changes.{declared, IsDecls, IsKeys, IsChange, IsChanges}
use Rattle.vx_phrases.specs.Laws.{Moves}
use Rattle.vx_phrases.specs.declared.decl_state.DeclState.{DeclState}
use Rattle.vx_phrases.specs.declared.key_state.KeyState.{KeyState}
use Rattle.vx_phrases.specs.DeclMachine.{decl_begun, decl_begins, decl_step, decl_finished}
use Rattle.vx_phrases.specs.KeyMachine.{key_begun, key_step, key_finished}
use Rattle.vx_phrases.specs.DeclRemains.{DeclRemains}
use Rattle.vx_phrases.specs.KeyRemains.{KeyRemains}
use Rattle.vx_reader.specs.declared.command.TheConstants.{MOST_RUN, MOST_MEAN}
use Rattle.vx_reader.specs.declared.command.Command.{Command}
use Rattle.vx_reader.specs.declared.command.Command.TheVariants as c
use Rattle.vx_reader.specs.declared.state.State.{State}
use Rattle.vx_reader.specs.declared.state.State.TheVariants as st
use Rattle.vx_reader.specs.Commands as g
use Rattle.vx_reader.specs.Commands.{run_word, mean_word, image_word, why_word, list_word, journal_word, IsCommand}
use Rattle.vx_reader.specs.CommandMachine.{changing, asking, started, run_for, mean_for, opens, in_decl, in_key, after_decl, after_key, declaring, dropping, command_step, command_finished, with_decl, with_key}
use Rattle.vx_reader.specs.Phrases.{Laws}
use Rattle.vx_reader.specs.CommandRemains as r
use Rattle.vx_reader.specs.CommandRemains.{AfterChange, AfterDecl, AfterKey, CommandRemains, CommandMoves}

-- what holds of each of some words holds of a word among them
among_all : (ws : List Bytes) (P : Bytes → Type 0) → AllByRecursion P ws → (x : Bytes) → is_among ws x ≡ true → P x
among_all [] P h x e = absurd (cc e)
among_all (y ∷ ws) P h x e = pick (bytes_eq y x) refl (among_all ws P h.1 x) e
  where
    pick : (b : Bool) → bytes_eq y x ≡ b → (is_among ws x ≡ true → P x) → (b || is_among ws x) ≡ true → P x
    pick true is others e = subst P ((bytes_eq-Decides y x).0 is) h.0
    pick false is others e = others e

-- a word that begins a change joins no tests
no_join : (x : Bytes) → is_among changing_words x ≡ true → is_among (and_word ∷ or_word ∷ []) x ≡ false
no_join x e = among_all changing_words (λ y. is_among (and_word ∷ or_word ∷ []) y ≡ false) (refl, (refl, (refl, tt))) x e

-- a declaration is whole before a token that opens another or a change
begun_by : (t : Token) → opens t ≡ true → ((x : Bytes) × (t ≡ k.Word x) × (is_among changing_words x ≡ true)) ⊎ ((next : DeclState) × (decl_begins t ≡ Some next))
begun_by (k.Word x) e = inl (x, refl, e)
begun_by (k.Keyword w.Object) e = inr (_, refl)
begun_by (k.Keyword w.Predicate) e = inr (_, refl)
begun_by (k.Keyword w.Var) e = inr (_, refl)
begun_by (k.Keyword w.Field) e = inr (_, refl)
begun_by (k.Keyword w.Method) e = inr (_, refl)
begun_by _ e = absurd (cc e)

no_changes : {before after : List Change} {us : List Token} → IsChanges before [] us after → ⊥
no_changes (h.last_change one) = elim one [ ]
no_changes (h.next_change one more) = elim one [ ]

no_decls_here : {put : Bool} {before after : List Change} {us : List Token} → IsDecls put before [] us after → ⊥
no_decls_here (h.last_decl one) = elim one [ ]
no_decls_here (h.next_decl one more) = elim one [ ]

no_keys_here : {before after : List Change} {us : List Token} → IsKeys before [] us after → ⊥
no_keys_here (h.last_key one) = elim one [ ]
no_keys_here (h.next_key one more) = elim one [ ]

-- a change in front of what follows it
after_one : {before between : List Change} {ts us : List Token} {v : Command} → IsChange before ts us between → AfterChange between us v → AfterChange before ts v
after_one one r.over = r.change (h.last_change one)
after_one one (r.change more) = r.change (h.next_change one more)

module _ (laws : Laws) where
  of_decl : {ts us : List Token} {v : Decl} → IsDecl ts us v → DeclRemains decl_begun ts us v
  of_decl {ts} {us} {v} one = (laws.decl_from ts us v).1 one

  of_key : {ts us : List Token} {v : DeclKey} → IsKey ts us v → KeyRemains key_begun ts us v
  of_key {ts} {us} {v} one = (laws.key_from ts us v).1 one

  declaring_remains : {put : Bool} {before after : List Change} {ts us : List Token} {v : Command} → IsDecls put before ts us after → AfterChange after us v →
      CommandRemains (st.Declaring put before decl_begun) ts v
  declaring_remains (h.last_decl one) rest = r.in_decl (of_decl one) (r.no_decls rest)
  declaring_remains (h.next_decl one more) rest = r.in_decl (of_decl one) (r.decls more rest)

  dropping_remains : {before after : List Change} {ts us : List Token} {v : Command} → IsKeys before ts us after → AfterChange after us v →
      CommandRemains (st.Dropping before key_begun) ts v
  dropping_remains (h.last_key one) rest = r.in_key (of_key one) (r.no_keys rest)
  dropping_remains (h.next_key one more) rest = r.in_key (of_key one) (r.keys more rest)

  -- the word of a change in front
  record Opened (before : List Change) (t : Token) (ts : List Token) (v : Command) : Type 0 where
    word : Bytes
    is : t ≡ k.Word word
    among : is_among changing_words word ≡ true
    moves : CommandMoves (changing before word) ts v

  opened : {before between : List Change} {t : Token} {ts us : List Token} {v : Command} → IsChange before (t ∷ ts) us between → AfterChange between us v → Opened before t ts v
  opened (h.adds all) rest = record { word = add_word; is = refl; among = refl; moves = declaring_remains all rest }
  opened (h.puts all) rest = record { word = put_word; is = refl; among = refl; moves = declaring_remains all rest }
  opened (h.drops all) rest = record { word = drop_word; is = refl; among = refl; moves = dropping_remains all rest }

  change_opened : {before : List Change} {t : Token} {ts : List Token} {v : Command} → AfterChange before (t ∷ ts) v → Opened before t ts v
  change_opened (r.change (h.last_change one)) = opened one r.over
  change_opened (r.change (h.next_change one more)) = opened one (r.change more)

  decl_moves : (put : Bool) (before : List Change) (o : Option DeclState) (ts : List Token) (decl : Decl) {us : List Token} {v : Command} → Moves DeclRemains o ts us decl →
      AfterDecl put (before ++ declared put decl ∷ []) us v → CommandMoves (in_decl put before o) ts v
  decl_moves put before None ts decl moves rest = absurd moves
  decl_moves put before (Some s) ts decl moves rest = r.in_decl moves rest

  key_moves : (before : List Change) (o : Option KeyState) (ts : List Token) (key : DeclKey) {us : List Token} {v : Command} → Moves KeyRemains o ts us key →
      AfterKey (before ++ Drop key ∷ []) us v → CommandMoves (in_key before o) ts v
  key_moves before None ts key moves rest = absurd moves
  key_moves before (Some s) ts key moves rest = r.in_key moves rest

  -- the token with which a declaration begins
  record Declares (t : Token) : Type 0 where
    opens_it : opens t ≡ true
    steps : (put : Bool) (before : List Change) → after_decl put before t ≡ in_decl put before (decl_step decl_begun t)

  declares : {t : Token} {ts us : List Token} {v : Decl} → IsDecl (t ∷ ts) us v → Declares t
  declares (d.object x parents) = record { opens_it = refl; steps = λ put before. refl }
  declares (d.predicate x parents tested) = record { opens_it = refl; steps = λ put before. refl }
  declares (d.field x short holder value) = record { opens_it = refl; steps = λ put before. refl }
  declares (d.var_field x short holder value) = record { opens_it = refl; steps = λ put before. refl }
  declares (d.method_of_none x body) = record { opens_it = refl; steps = λ put before. refl }
  declares (d.method x formals body) = record { opens_it = refl; steps = λ put before. refl }
  declares (d.operator op formals body) = record { opens_it = refl; steps = λ put before. refl }

  record Keys (t : Token) : Type 0 where
    opens_it : opens t ≡ true
    steps : (before : List Change) → after_key before t ≡ in_key before (key_step key_begun t)

  names_key : {t : Token} {ts us : List Token} {v : DeclKey} → IsKey (t ∷ ts) us v → Keys t
  names_key (d.object_key x) = record { opens_it = refl; steps = λ before. refl }
  names_key (d.predicate_key x) = record { opens_it = refl; steps = λ before. refl }
  names_key (d.key_of_field x specialiser short) = record { opens_it = refl; steps = λ before. refl }
  names_key (d.key_of_none x) = record { opens_it = refl; steps = λ before. refl }
  names_key (d.key_of_method x more) = record { opens_it = refl; steps = λ before. refl }
  names_key (d.key_of_operator op more) = record { opens_it = refl; steps = λ before. refl }

  not_begun : (v : Decl) → decl_finished decl_begun ≡ Some v → ⊥
  unfolding decl_finished
  not_begun v e = cc e

  no_key_begun : (v : DeclKey) → key_finished key_begun ≡ Some v → ⊥
  unfolding key_finished
  no_key_begun v e = cc e

  -- a declaration behind another
  another : (put : Bool) (before : List Change) {t : Token} {ts us : List Token} {decl : Decl} {v : Command} → IsDecl (t ∷ ts) us decl →
      AfterDecl put (before ++ declared put decl ∷ []) us v → (opens t ≡ true) × CommandMoves (after_decl put before t) ts v
  another put before {t} {ts} {us} {decl} {v} one rest = (
    (declares one).opens_it,
    subst (λ o. CommandMoves o ts v) (sym ((declares one).steps put before)) (elim (laws.decl_complete decl_begun t ts us decl (of_decl one)) [
      | inl moves ↦ decl_moves put before (decl_step decl_begun t) ts decl moves rest
      | inr whole ↦ absurd (not_begun decl whole.1)
    ]),
  )

  another_key : (before : List Change) {t : Token} {ts us : List Token} {key : DeclKey} {v : Command} → IsKey (t ∷ ts) us key →
      AfterKey (before ++ Drop key ∷ []) us v → (opens t ≡ true) × CommandMoves (after_key before t) ts v
  another_key before {t} {ts} {us} {key} {v} one rest = (
    (names_key one).opens_it,
    subst (λ o. CommandMoves o ts v) (sym ((names_key one).steps before)) (elim (laws.key_complete key_begun t ts us key (of_key one)) [
      | inl moves ↦ key_moves before (key_step key_begun t) ts key moves rest
      | inr whole ↦ absurd (no_key_begun key whole.1)
    ]),
  )

  after_decl_moves : {put : Bool} {before : List Change} {t : Token} {ts : List Token} {v : Command} → AfterDecl put before (t ∷ ts) v →
      (opens t ≡ true) × CommandMoves (after_decl put before t) ts v
  after_decl_moves {put} {before} (r.decls (h.last_decl one) rest) = another put _ one (r.no_decls rest)
  after_decl_moves {put} {before} (r.decls (h.next_decl one more) rest) = another put _ one (r.decls more rest)
  after_decl_moves {put} {before} {t} {ts} {v} (r.no_decls rest) =
      let o = change_opened rest in
      subst (λ u. (opens u ≡ true) × CommandMoves (after_decl put before u) ts v) (sym o.is) (o.among, o.moves)

  after_key_moves : {before : List Change} {t : Token} {ts : List Token} {v : Command} → AfterKey before (t ∷ ts) v →
      (opens t ≡ true) × CommandMoves (after_key before t) ts v
  after_key_moves (r.keys (h.last_key one) rest) = another_key _ one (r.no_keys rest)
  after_key_moves (r.keys (h.next_key one more) rest) = another_key _ one (r.keys more rest)
  after_key_moves {before} {t} {ts} {v} (r.no_keys rest) =
      let o = change_opened rest in
      subst (λ u. (opens u ≡ true) × CommandMoves (after_key before u) ts v) (sym o.is) (o.among, o.moves)

  -- where a declaration is whole, a token that opens another is none of it
  apart : (s : DeclState) (decl : Decl) (t : Token) → opens t ≡ true → decl_finished s ≡ Some decl → decl_step s t ≡ None
  apart s decl t opening whole = elim (begun_by t opening) [
    | inl word ↦ subst (λ u. decl_step s u ≡ None) (sym word.1) (laws.decl_words s decl word.0 whole (no_join word.0 word.2))
    | inr next ↦ laws.decl_opens s decl t next.0 whole next.1
  ]

  -- a declaration goes on, or is whole before the token
  goes_on : (put : Bool) (before : List Change) (s : DeclState) (decl : Decl) (t : Token) (ts us : List Token) (v : Command) (opening : Bool) (whole : Option Decl) →
      opens t ≡ opening → decl_finished s ≡ whole → Moves DeclRemains (decl_step s t) ts us decl → AfterDecl put (before ++ declared put decl ∷ []) us v →
      CommandMoves (declaring opening put before s whole t) ts v
  goes_on put before s decl t ts us v true (Some other) opening whole moves rest =
      absurd (subst (λ o. Moves DeclRemains o ts us decl) (apart s other t opening whole) moves)
  goes_on put before s decl t ts us v true None opening whole moves rest = decl_moves put before (decl_step s t) ts decl moves rest
  goes_on put before s decl t ts us v false whole opening is moves rest = decl_moves put before (decl_step s t) ts decl moves rest

  key_goes_on : (before : List Change) (s : KeyState) (key : DeclKey) (t : Token) (ts us : List Token) (v : Command) (opening : Bool) (whole : Option DeclKey) →
      key_finished s ≡ whole → Moves KeyRemains (key_step s t) ts us key → AfterKey (before ++ Drop key ∷ []) us v →
      CommandMoves (dropping opening before s whole t) ts v
  key_goes_on before s key t ts us v true (Some other) whole moves rest =
      absurd (subst (λ o. Moves KeyRemains o ts us key) (laws.key_over s other t whole) moves)
  key_goes_on before s key t ts us v true None whole moves rest = key_moves before (key_step s t) ts key moves rest
  key_goes_on before s key t ts us v false whole is moves rest = key_moves before (key_step s t) ts key moves rest

  pub complete : (s : State) (t : Token) (ts : List Token) (v : Command) → CommandRemains s (t ∷ ts) v → CommandMoves (command_step s t) ts v
  unfolding command_step
  complete st.Start t ts v (r.wants_command (g.edit is)) =
      let o = change_opened (r.change is) in
      subst (λ u. CommandMoves (started u) ts v) (sym o.is) (subst (λ b. CommandMoves (if b then changing [] o.word else asking o.word) ts v) (sym o.among) o.moves)
  complete st.Start t ts v (r.wants_command (g.run n few)) = r.wants_run few
  complete st.Start t ts v (r.wants_command (g.mean n few)) = r.wants_mean few
  complete st.Start t ts v (r.wants_command g.image) = r.is_over
  complete st.Start t ts v (r.wants_command g.why) = r.is_over
  complete st.Start t ts v (r.wants_command g.list) = r.is_over
  complete st.Start t ts v (r.wants_command g.journal) = r.is_over
  complete st.Run t ts v (r.wants_run {n = n} few) =
      subst (λ b. CommandMoves (if b then Some (st.Over (c.Run n)) else None) [] (c.Run n)) (sym (le-leb n MOST_RUN few)) r.is_over
  complete st.Mean t ts v (r.wants_mean {n = n} few) =
      subst (λ b. CommandMoves (if b then Some (st.Over (c.Mean n)) else None) [] (c.Mean n)) (sym (le-leb n MOST_MEAN few)) r.is_over
  complete (st.Declaring put before s) t ts v (r.in_decl {us = us} {decl} remains rest) =
      elim (laws.decl_complete s t ts us decl remains) [
        | inl moves ↦ goes_on put before s decl t ts us v (opens t) (decl_finished s) refl refl moves rest
        | inr whole ↦
            let next = after_decl_moves (subst (λ l. AfterDecl put (before ++ declared put decl ∷ []) l v) whole.0 rest) in
            subst (λ o. CommandMoves (declaring (opens t) put before s o t) ts v) (sym whole.1)
            (subst (λ b. CommandMoves (declaring b put before s (Some decl) t) ts v) (sym next.0) next.1)
      ]
  complete (st.Dropping before s) t ts v (r.in_key {us = us} {key} remains rest) =
      elim (laws.key_complete s t ts us key remains) [
        | inl moves ↦ key_goes_on before s key t ts us v (opens t) (key_finished s) refl moves rest
        | inr whole ↦
            let next = after_key_moves (subst (λ l. AfterKey (before ++ Drop key ∷ []) l v) whole.0 rest) in
            subst (λ o. CommandMoves (dropping (opens t) before s o t) ts v) (sym whole.1)
            (subst (λ b. CommandMoves (dropping b before s (Some key) t) ts v) (sym next.0) next.1)
      ]
  complete (st.Over over) t ts v remains = elim remains [ ]

  -- all declarations that a state has begun to read
  record Declared (put : Bool) (before : List Change) (ts : List Token) (v : Command) : Type 0 where
    after : List Change
    us : List Token
    all : IsDecls put before ts us after
    rest : AfterChange after us v

  declared_all : (put : Bool) (before : List Change) (ts us : List Token) (decl : Decl) (v : Command) → IsDecl ts us decl →
      AfterDecl put (before ++ declared put decl ∷ []) us v → Declared put before ts v
  declared_all put before ts us decl v one (r.decls {after = after} {us = vs} more rest) = record { after = after; us = vs; all = h.next_decl one more; rest = rest }
  declared_all put before ts us decl v one (r.no_decls rest) = record { after = before ++ declared put decl ∷ []; us = us; all = h.last_decl one; rest = rest }

  record Dropped (before : List Change) (ts : List Token) (v : Command) : Type 0 where
    after : List Change
    us : List Token
    all : IsKeys before ts us after
    rest : AfterChange after us v

  dropped_all : (before : List Change) (ts us : List Token) (key : DeclKey) (v : Command) → IsKey ts us key → AfterKey (before ++ Drop key ∷ []) us v → Dropped before ts v
  dropped_all before ts us key v one (r.keys {after = after} {us = vs} more rest) = record { after = after; us = vs; all = h.next_key one more; rest = rest }
  dropped_all before ts us key v one (r.no_keys rest) = record { after = before ++ Drop key ∷ []; us = us; all = h.last_key one; rest = rest }

  declaring_all : (put : Bool) (before : List Change) (ts : List Token) (v : Command) → CommandRemains (st.Declaring put before decl_begun) ts v → Declared put before ts v
  declaring_all put before ts v (r.in_decl {us = us} {decl} remains rest) =
      declared_all put before ts us decl v ((laws.decl_from ts us decl).0 remains) rest

  dropping_all : (before : List Change) (ts : List Token) (v : Command) → CommandRemains (st.Dropping before key_begun) ts v → Dropped before ts v
  dropping_all before ts v (r.in_key {us = us} {key} remains rest) = dropped_all before ts us key v ((laws.key_from ts us key).0 remains) rest

  change_of : (before : List Change) (x : Bytes) (ts : List Token) (v : Command) → CommandMoves (changing before x) ts v → AfterChange before (k.Word x ∷ ts) v
  change_of before x ts v moves = first (bytes_eq x add_word) refl moves
    where
      third : (b : Bool) → bytes_eq x drop_word ≡ b → CommandMoves (if b then Some (st.Dropping before key_begun) else None) ts v → AfterChange before (k.Word x ∷ ts) v
      third true is moves =
          let all = dropping_all before ts v moves in
          subst (λ y. AfterChange before (k.Word y ∷ ts) v) (sym ((bytes_eq-Decides x drop_word).0 is)) (after_one (h.drops all.all) all.rest)
      third false is moves = absurd moves

      second : (b : Bool) → bytes_eq x put_word ≡ b → CommandMoves (if b then Some (st.Declaring true before decl_begun) else
          if bytes_eq x drop_word then Some (st.Dropping before key_begun) else None) ts v → AfterChange before (k.Word x ∷ ts) v
      second true is moves =
          let all = declaring_all true before ts v moves in
          subst (λ y. AfterChange before (k.Word y ∷ ts) v) (sym ((bytes_eq-Decides x put_word).0 is)) (after_one (h.puts all.all) all.rest)
      second false is moves = third (bytes_eq x drop_word) refl moves

      first : (b : Bool) → bytes_eq x add_word ≡ b → CommandMoves (if b then Some (st.Declaring false before decl_begun) else
          if bytes_eq x put_word then Some (st.Declaring true before decl_begun) else
          if bytes_eq x drop_word then Some (st.Dropping before key_begun) else None) ts v → AfterChange before (k.Word x ∷ ts) v
      first true is moves =
          let all = declaring_all false before ts v moves in
          subst (λ y. AfterChange before (k.Word y ∷ ts) v) (sym ((bytes_eq-Decides x add_word).0 is)) (after_one (h.adds all.all) all.rest)
      first false is moves = second (bytes_eq x put_word) refl moves

  edit_of : {t : Token} {ts : List Token} {v : Command} → AfterChange [] (t ∷ ts) v → IsCommand (t ∷ ts) v
  edit_of (r.change is) = g.edit is

  -- one word of a command, or another
  one_word : (x word : Bytes) (b : Bool) (s : State) (others : Option State) (ts : List Token) (v : Command) → bytes_eq x word ≡ b →
      (CommandRemains s ts v → IsCommand (k.Word word ∷ ts) v) → (CommandMoves others ts v → IsCommand (k.Word x ∷ ts) v) →
      CommandMoves (if b then Some s else others) ts v → IsCommand (k.Word x ∷ ts) v
  one_word x word true s others ts v is it other moves = subst (λ y. IsCommand (k.Word y ∷ ts) v) (sym ((bytes_eq-Decides x word).0 is)) (it moves)
  one_word x word false s others ts v is it other moves = other moves

  running : {ts : List Token} {v : Command} → CommandRemains st.Run ts v → IsCommand (k.Word run_word ∷ ts) v
  running (r.wants_run few) = g.run _ few

  meaning : {ts : List Token} {v : Command} → CommandRemains st.Mean ts v → IsCommand (k.Word mean_word ∷ ts) v
  meaning (r.wants_mean few) = g.mean _ few

  over_by : (word : Bytes) (u : Command) (ts : List Token) (v : Command) → IsCommand (k.Word word ∷ []) u → CommandRemains (st.Over u) ts v → IsCommand (k.Word word ∷ ts) v
  over_by word u ts v is r.is_over = is

  asked : (x : Bytes) (ts : List Token) (v : Command) → CommandMoves (asking x) ts v → IsCommand (k.Word x ∷ ts) v
  asked x ts v =
      one_word x run_word _ st.Run _ ts v refl running (
      one_word x mean_word _ st.Mean _ ts v refl meaning (
      one_word x image_word _ (st.Over c.Image) _ ts v refl (over_by image_word c.Image ts v g.image) (
      one_word x why_word _ (st.Over c.Why) _ ts v refl (over_by why_word c.Why ts v g.why) (
      one_word x list_word _ (st.Over c.List) _ ts v refl (over_by list_word c.List ts v g.list) (
      one_word x journal_word _ (st.Over c.Journal) _ ts v refl (over_by journal_word c.Journal ts v g.journal) (λ none. absurd none))))))

  started_of : (t : Token) (ts : List Token) (v : Command) → CommandMoves (started t) ts v → IsCommand (t ∷ ts) v
  started_of (k.Word x) ts v moves = pick (is_among changing_words x) moves
    where
      pick : (b : Bool) → CommandMoves (if b then changing [] x else asking x) ts v → IsCommand (k.Word x ∷ ts) v
      pick true moves = edit_of (change_of [] x ts v moves)
      pick false moves = asked x ts v moves
  started_of _ ts v moves = absurd moves

  ran : (n : ℕ) (ts : List Token) (v : Command) → n ≤ MOST_RUN → CommandRemains (st.Over (c.Run n)) ts v → CommandRemains st.Run (k.Number n ∷ ts) v
  ran n ts v few r.is_over = r.wants_run few

  meant : (n : ℕ) (ts : List Token) (v : Command) → n ≤ MOST_MEAN → CommandRemains (st.Over (c.Mean n)) ts v → CommandRemains st.Mean (k.Number n ∷ ts) v
  meant n ts v few r.is_over = r.wants_mean few

  run_of : (t : Token) (ts : List Token) (v : Command) → CommandMoves (run_for t) ts v → CommandRemains st.Run (t ∷ ts) v
  run_of (k.Number n) ts v moves = pick (nat_le n MOST_RUN) refl moves
    where
      pick : (b : Bool) → nat_le n MOST_RUN ≡ b → CommandMoves (if b then Some (st.Over (c.Run n)) else None) ts v → CommandRemains st.Run (k.Number n ∷ ts) v
      pick true is moves = ran n ts v (leb-true n MOST_RUN is) moves
      pick false is moves = absurd moves
  run_of _ ts v moves = absurd moves

  mean_of : (t : Token) (ts : List Token) (v : Command) → CommandMoves (mean_for t) ts v → CommandRemains st.Mean (t ∷ ts) v
  mean_of (k.Number n) ts v moves = pick (nat_le n MOST_MEAN) refl moves
    where
      pick : (b : Bool) → nat_le n MOST_MEAN ≡ b → CommandMoves (if b then Some (st.Over (c.Mean n)) else None) ts v → CommandRemains st.Mean (k.Number n ∷ ts) v
      pick true is moves = meant n ts v (leb-true n MOST_MEAN is) moves
      pick false is moves = absurd moves
  mean_of _ ts v moves = absurd moves

  -- what a step of a declaration's state leads to, for the state before it
  decl_before : (put : Bool) (before : List Change) (s : DeclState) (t : Token) (ts : List Token) (v : Command) (o : Option DeclState) → decl_step s t ≡ o →
      CommandMoves (in_decl put before o) ts v → CommandRemains (st.Declaring put before s) (t ∷ ts) v
  decl_before put before s t ts v None is moves = absurd moves
  decl_before put before s t ts v (Some next) is (r.in_decl {us = us} {decl} remains rest) =
      r.in_decl (laws.decl_sound s t ts us decl (subst (λ o. Moves DeclRemains o ts us decl) (sym is) remains)) rest

  key_before : (before : List Change) (s : KeyState) (t : Token) (ts : List Token) (v : Command) (o : Option KeyState) → key_step s t ≡ o →
      CommandMoves (in_key before o) ts v → CommandRemains (st.Dropping before s) (t ∷ ts) v
  key_before before s t ts v None is moves = absurd moves
  key_before before s t ts v (Some next) is (r.in_key {us = us} {key} remains rest) =
      r.in_key (laws.key_sound s t ts us key (subst (λ o. Moves KeyRemains o ts us key) (sym is) remains)) rest

  behind_decl : (put : Bool) (before : List Change) (t : Token) (ts : List Token) (v : Command) →
      CommandMoves (in_decl put before (decl_step decl_begun t)) ts v → AfterDecl put before (t ∷ ts) v
  behind_decl put before t ts v moves =
      let all = declaring_all put before (t ∷ ts) v (decl_before put before decl_begun t ts v (decl_step decl_begun t) refl moves) in r.decls all.all all.rest

  behind_key : (before : List Change) (t : Token) (ts : List Token) (v : Command) → CommandMoves (in_key before (key_step key_begun t)) ts v → AfterKey before (t ∷ ts) v
  behind_key before t ts v moves =
      let all = dropping_all before (t ∷ ts) v (key_before before key_begun t ts v (key_step key_begun t) refl moves) in r.keys all.all all.rest

  after_decl_of : (put : Bool) (before : List Change) (t : Token) (ts : List Token) (v : Command) → CommandMoves (after_decl put before t) ts v → AfterDecl put before (t ∷ ts) v
  after_decl_of put before (k.Word x) ts v moves = r.no_decls (change_of before x ts v moves)
  after_decl_of put before t ts v moves = behind_decl put before t ts v moves

  after_key_of : (before : List Change) (t : Token) (ts : List Token) (v : Command) → CommandMoves (after_key before t) ts v → AfterKey before (t ∷ ts) v
  after_key_of before (k.Word x) ts v moves = r.no_keys (change_of before x ts v moves)
  after_key_of before t ts v moves = behind_key before t ts v moves

  declaring_of : (put : Bool) (before : List Change) (s : DeclState) (t : Token) (ts : List Token) (v : Command) (opening : Bool) (whole : Option Decl) → decl_finished s ≡ whole →
      CommandMoves (declaring opening put before s whole t) ts v → CommandRemains (st.Declaring put before s) (t ∷ ts) v
  declaring_of put before s t ts v true (Some decl) is moves = r.in_decl (laws.decl_ends s (t ∷ ts) decl is) (after_decl_of put (before ++ declared put decl ∷ []) t ts v moves)
  declaring_of put before s t ts v true None is moves = decl_before put before s t ts v (decl_step s t) refl moves
  declaring_of put before s t ts v false whole is moves = decl_before put before s t ts v (decl_step s t) refl moves

  dropping_of : (before : List Change) (s : KeyState) (t : Token) (ts : List Token) (v : Command) (opening : Bool) (whole : Option DeclKey) → key_finished s ≡ whole →
      CommandMoves (dropping opening before s whole t) ts v → CommandRemains (st.Dropping before s) (t ∷ ts) v
  dropping_of before s t ts v true (Some key) is moves = r.in_key (laws.key_ends s (t ∷ ts) key is) (after_key_of (before ++ Drop key ∷ []) t ts v moves)
  dropping_of before s t ts v true None is moves = key_before before s t ts v (key_step s t) refl moves
  dropping_of before s t ts v false whole is moves = key_before before s t ts v (key_step s t) refl moves

  pub sound : (s : State) (t : Token) (ts : List Token) (v : Command) → CommandMoves (command_step s t) ts v → CommandRemains s (t ∷ ts) v
  unfolding command_step
  sound st.Start t ts v moves = r.wants_command (started_of t ts v moves)
  sound st.Run t ts v moves = run_of t ts v moves
  sound st.Mean t ts v moves = mean_of t ts v moves
  sound (st.Over over) t ts v moves = absurd moves
  sound (st.Declaring put before s) t ts v moves = declaring_of put before s t ts v (opens t) (decl_finished s) refl moves
  sound (st.Dropping before s) t ts v moves = dropping_of before s t ts v (opens t) (key_finished s) refl moves

  over_decl : (put : Bool) (before : List Change) (v : Command) → AfterDecl put before [] v → v ≡ c.Edit (record { changes = before })
  over_decl put before v (r.decls all rest) = absurd (no_decls_here all)
  over_decl put before v (r.no_decls r.over) = refl
  over_decl put before v (r.no_decls (r.change all)) = absurd (no_changes all)

  over_key : (before : List Change) (v : Command) → AfterKey before [] v → v ≡ c.Edit (record { changes = before })
  over_key before v (r.keys all rest) = absurd (no_keys_here all)
  over_key before v (r.no_keys r.over) = refl
  over_key before v (r.no_keys (r.change all)) = absurd (no_changes all)

  pub at_end : (s : State) (v : Command) → CommandRemains s [] v → command_finished s ≡ Some v
  unfolding command_finished
  at_end st.Start v (r.wants_command g.blank) = refl
  at_end st.Start v (r.wants_command (g.edit is)) = absurd (no_changes is)
  at_end st.Run v remains = elim remains [ ]
  at_end st.Mean v remains = elim remains [ ]
  at_end (st.Over over) v r.is_over = refl
  at_end (st.Declaring put before s) v (r.in_decl {us = us} {decl} remains rest) =
      let whole = laws.decl_at_end s us decl remains in
      ap (with_decl put before) whole.1 ∙ ap Some (sym (over_decl put (before ++ declared put decl ∷ []) v (subst (λ l. AfterDecl put (before ++ declared put decl ∷ []) l v) whole.0 rest)))
  at_end (st.Dropping before s) v (r.in_key {us = us} {key} remains rest) =
      let whole = laws.key_at_end s us key remains in
      ap (with_key before) whole.1 ∙ ap Some (sym (over_key (before ++ Drop key ∷ []) v (subst (λ l. AfterKey (before ++ Drop key ∷ []) l v) whole.0 rest)))

  whole_decl : (put : Bool) (before : List Change) (s : DeclState) (v : Command) (o : Option Decl) → decl_finished s ≡ o → with_decl put before o ≡ Some v →
      CommandRemains (st.Declaring put before s) [] v
  whole_decl put before s v None is e = absurd (cc e)
  whole_decl put before s v (Some decl) is e =
      let done : c.Edit (record { changes = before ++ declared put decl ∷ [] }) ≡ v = cc in
      subst (λ u. CommandRemains (st.Declaring put before s) [] u) done (r.in_decl (laws.decl_ends s [] decl is) (r.no_decls r.over))

  whole_key : (before : List Change) (s : KeyState) (v : Command) (o : Option DeclKey) → key_finished s ≡ o → with_key before o ≡ Some v →
      CommandRemains (st.Dropping before s) [] v
  whole_key before s v None is e = absurd (cc e)
  whole_key before s v (Some key) is e =
      let done : c.Edit (record { changes = before ++ Drop key ∷ [] }) ≡ v = cc in
      subst (λ u. CommandRemains (st.Dropping before s) [] u) done (r.in_key (laws.key_ends s [] key is) (r.no_keys r.over))

  pub whole : (s : State) (v : Command) → command_finished s ≡ Some v → CommandRemains s [] v
  unfolding command_finished
  whole st.Start v e = subst (λ u. CommandRemains st.Start [] u) (let f : c.Blank ≡ v = cc in f) (r.wants_command g.blank)
  whole st.Run v e = absurd (cc e)
  whole st.Mean v e = absurd (cc e)
  whole (st.Over over) v e = subst (λ u. CommandRemains (st.Over over) [] u) (let f : over ≡ v = cc in f) r.is_over
  whole (st.Declaring put before s) v e = whole_decl put before s v (decl_finished s) refl e
  whole (st.Dropping before s) v e = whole_key before s v (key_finished s) refl e
