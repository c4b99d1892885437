-- The answer to a block is how it is read, and it is read in no other way.
use Rattle.std.proofs.Common.{◌≡◌, ℕ, zero, suc, ◌+◌, ◌<◌, ◌≤◌, ◌^◌, Bool, true, false, if◌then◌else◌, inl, inr, List, [], ◌∷◌, ◌++◌, length, take, slice_get, Option, Some, None, Result, Ok, Err, refl, sym, ap, subst, ◌∙◌, arith, append_assoc, append-nil, length-append}
use Rattle.std.proofs.lemmas.Bool.{ltb-true, ltb-false}
use Rattle.std.specs.Prelude.{nat_lt}
use Rattle.vx_syntax.specs.declared.token.Token.{Token}
use Rattle.vx_syntax.specs.Depth.{max_depth, first_levels, counted, depth, levels_after, IsShallow}
use Rattle.vx_reader.specs.declared.token.Placed.{Placed}
use Rattle.vx_reader.specs.declared.command.Command.{Command}
use Rattle.vx_reader.specs.declared.command.ReadFault.{ReadFault}
use Rattle.vx_reader.specs.declared.command.ReadFault.TheVariants as f
use Rattle.vx_reader.specs.declared.state.State.{State}
use Rattle.vx_reader.specs.declared.state.State.TheVariants as st
use Rattle.vx_reader.specs.Tokens.{placed_tokens, tokens_after, at, front, without_places}
use Rattle.vx_reader.specs.Commands.{IsCommand, GoesOn}
use Rattle.vx_reader.specs.CommandMachine.{command_step, command_finished, run_from}
use Rattle.vx_reader.specs.Reads.{is_large_token, AreSmall, IsStuck, IsFine, IsAt, up_to, Means, AreRead, Reads, ended, reading, answer}
use Rattle.vx_reader.specs.Phrases.{Laws}
use Rattle.vx_reader.proofs.Steps.{at_end, whole}
use Rattle.vx_reader.proofs.Courses.{run_means, led, stuck, goes}
use Rattle.vx_reader.proofs.Options.{none_from}
use Rattle.vx_reader.proofs.OneToken.{syntax_read, deep_read, large_read, fine_read}

-- tokens one by one
levels_push : (levels : List ℕ) (ts : List Token) (t : Token) → levels_after levels (ts ++ t ∷ []) ≡ counted (levels_after levels ts) t
levels_push levels [] t = refl
levels_push levels (u ∷ ts) t = levels_push (counted levels u) ts t

shallow_push : (levels : List ℕ) (ts : List Token) (t : Token) → IsShallow levels ts → depth (counted (levels_after levels ts) t) ≤ max_depth → IsShallow levels (ts ++ t ∷ [])
shallow_push levels [] t h low = (low, tt)
shallow_push levels (u ∷ ts) t h low = (h.0, shallow_push (counted levels u) ts t h.1 low)

small_push : (ts : List Token) (t : Token) → AreSmall ts → is_large_token t ≡ false → AreSmall (ts ++ t ∷ [])
small_push [] t h is = (is, tt)
small_push (u ∷ ts) t h is = (h.0, small_push ts t h.1 is)

run_push : (ts : List Token) (t : Token) (s next : State) → run_from s ts ≡ Some next → run_from s (ts ++ t ∷ []) ≡ command_step next t
run_push [] t s next is = last (command_step s t) ∙ ap (λ u. command_step u t) (let f : s ≡ next = cc in f)
  where
    last : (o : Option State) → elim o [ None ↦ None | Some state ↦ run_from state [] ] ≡ o
    last None = refl
    last (Some state) = refl
run_push (u ∷ ts) t s next is =
    (elim (command_step s u) as (λ o. elim o [ None ↦ None | Some state ↦ run_from state ts ] ≡ Some next →
    elim o [ None ↦ None | Some state ↦ run_from state (ts ++ t ∷ []) ] ≡ command_step next t) [
      | None ↦ λ is. absurd (cc is)
      | Some state ↦ λ is. run_push ts t state next is
    ]) is

names_push : (done : List Placed) (p : Placed) → without_places (done ++ p ∷ []) ≡ without_places done ++ p.token ∷ []
names_push [] p = refl
names_push (x ∷ done) p = ap (λ l. x.token ∷ l) (names_push done p)

names_length : (done : List Placed) → length (without_places done) ≡ length done
names_length [] = refl
names_length (x ∷ done) = ap suc (names_length done)

take_names : (done rest : List Placed) → take (length done) (without_places (done ++ rest)) ≡ without_places done
take_names [] rest = refl
take_names (x ∷ done) rest = ap (λ l. x.token ∷ l) (take_names done rest)

take_one : (done rest : List Placed) (p : Placed) → take (suc (length done)) (without_places (done ++ p ∷ rest)) ≡ without_places done ++ p.token ∷ []
take_one [] rest p = refl
take_one (x ∷ done) rest p = ap (λ l. x.token ∷ l) (take_one done rest p)

take_next : (done rest : List Placed) (p : Placed) → take (length done + 1) (without_places (done ++ p ∷ rest)) ≡ without_places done ++ p.token ∷ []
take_next done rest p =
    let more : suc (length done) ≡ length done + 1 = omega arith in
    subst (λ n. take n (without_places (done ++ p ∷ rest)) ≡ without_places done ++ p.token ∷ []) more (take_one done rest p)

got : (done rest : List Placed) (p : Placed) → slice_get (done ++ p ∷ rest) (length done) ≡ Some p
got [] rest p = refl
got (x ∷ done) rest p = got done rest p

take_all : (ts : List Token) → take (length ts) ts ≡ ts
take_all [] = refl
take_all (t ∷ ts) = ap (λ l. t ∷ l) (take_all ts)

-- what the tokens that are read keep
pub record Halfway (done : List Placed) (s : State) : Type 0 where
  pub led_to : run_from st.Start (without_places done) ≡ Some s
  pub shallow : IsShallow first_levels (without_places done)
  pub small : AreSmall (without_places done)

pub tokens_few : (n passed : ℕ) (bytes : List ℕ) → length (tokens_after n passed bytes) ≤ length bytes
tokens_few n passed [] = omega arith
tokens_few n (suc passed) (b ∷ bs) = omega (arith, tokens_few (suc n) passed bs)
tokens_few n zero (b ∷ bs) =
    let front_of = front (b ∷ bs) in
    omega (arith, length-append (at n front_of.token) (tokens_after (suc n) front_of.more bs), one n front_of.token, tokens_few (suc n) front_of.more bs)
  where
    one : (n : ℕ) (o : Option Token) → length (at n o) ≤ 1
    one n None = omega arith
    one n (Some token) = omega arith

module _ (laws : Laws) where
  fine : (done rest : List Placed) (s : State) → Halfway done s → length (done ++ rest) < 2 ^ 64 → IsFine (without_places (done ++ rest)) (length done)
  fine done rest s h short = record {
    within = omega (arith, names_length (done ++ rest), length-append done rest);
    goes_on = subst GoesOn (sym (take_names done rest)) (goes laws (without_places done) s h.led_to (omega (arith, names_length done, length-append done rest, short)));
    shallow = subst (λ l. IsShallow first_levels l) (sym (take_names done rest)) h.shallow;
    small = subst AreSmall (sym (take_names done rest)) h.small;
  }

  abbrev at_token : (done rest : List Placed) (p : Placed) (s : State) → Halfway done s → length (done ++ p ∷ rest) < 2 ^ 64 → IsAt (done ++ p ∷ rest) p.place
  at_token done rest p s h short = record { count = length done; token = p.token; is = got done rest p; before = fine done (p ∷ rest) s h short }

  goes_next : (done rest : List Placed) (p : Placed) (s next : State) → Halfway done s → command_step s p.token ≡ Some next → length (done ++ p ∷ rest) < 2 ^ 64 →
      GoesOn (take (length done + 1) (without_places (done ++ p ∷ rest)))
  goes_next done rest p s next h is short =
      subst GoesOn (sym (take_next done rest p))
      (goes laws (without_places done ++ p.token ∷ []) next (run_push (without_places done) p.token st.Start s h.led_to ∙ is)
      (omega (arith, names_length done, length-append done (p ∷ rest), length-append (without_places done) (p.token ∷ []), short)))

  levels_at : (done rest : List Placed) (p : Placed) → levels_after first_levels (take (length done + 1) (without_places (done ++ p ∷ rest))) ≡ counted (levels_after first_levels (without_places done)) p.token
  levels_at done rest p = ap (levels_after first_levels) (take_next done rest p) ∙ levels_push first_levels (without_places done) p.token

  whole_means : (done : List Placed) (s : State) (v : Command) → Halfway done s → command_finished s ≡ Some v → Means (without_places done) v
  whole_means done s v h is = record {
    command = subst (λ l. IsCommand l v) (append-nil (without_places done)) (run_means laws (without_places done) [] s v h.led_to (whole laws s v is));
    shallow = h.shallow;
    small = h.small;
  }

  over_read : (len : ℕ) (done : List Placed) (s : State) (o : Option Command) → Halfway done s → command_finished s ≡ o → length done < 2 ^ 64 →
      AreRead done len (ended len o)
  over_read len done s (Some v) h is short = whole_means done s v h is
  over_read len done s None h is short = inr (
    record {
      before = subst (λ n. IsFine (without_places done) n) (sym (names_length done))
          (subst (λ l. IsFine (without_places l) (length done)) (append-nil done) (fine done [] s h (subst (λ l. length l < 2 ^ 64) (sym (append-nil done)) short)));
      none = λ v command.
          let found = led laws (without_places done) [] v (subst (λ l. IsCommand l v) (sym (append-nil (without_places done))) command) in
          let same : Some s ≡ Some found.0 = sym h.led_to ∙ found.1 in
          let it : found.0 ≡ s = cc in
          let bad : command_finished s ≡ Some v = subst (λ u. command_finished u ≡ Some v) it (at_end laws found.0 v found.2) in
          absurd (cc (is, bad));
    },
    refl,
  )

  pub read_from : (len : ℕ) (rest done : List Placed) (s : State) → Halfway done s → length (done ++ rest) < 2 ^ 64 →
      AreRead (done ++ rest) len (reading len s (levels_after first_levels (without_places done)) rest)
  read_from len [] done s h short =
      subst (λ l. AreRead l len (ended len (command_finished s))) (sym (append-nil done))
      (over_read len done s (command_finished s) h refl (subst (λ l. length l < 2 ^ 64) (append-nil done) short))
  read_from len (p ∷ rest) done s h short = stepped (command_step s p.token) refl (λ next. read_from len rest (done ++ p ∷ []) next)
    where
      levels : List ℕ
      levels = counted (levels_after first_levels (without_places done)) p.token

      further : State → Type 0
      further next = Halfway (done ++ p ∷ []) next → length ((done ++ p ∷ []) ++ rest) < 2 ^ 64 →
          AreRead ((done ++ p ∷ []) ++ rest) len (reading len next (levels_after first_levels (without_places (done ++ p ∷ []))) rest)

      sized : (next : State) → command_step s p.token ≡ Some next → depth levels ≤ max_depth → (b : Bool) → is_large_token p.token ≡ b → further next →
          AreRead (done ++ p ∷ rest) len (if b then Err (f.NumberTooLarge p.place) else reading len next levels rest)
      sized next is low true large more = record {
        at = at_token done rest p s h short;
        here = goes_next done rest p s next h is short;
        shallow = subst (λ l. depth l ≤ max_depth) (sym (levels_at done rest p)) low;
        large = large;
      }
      sized next is low false small more =
          subst (λ l. AreRead l len (reading len next levels rest)) (append_assoc done (p ∷ []) rest)
          (subst (λ l. AreRead ((done ++ p ∷ []) ++ rest) len (reading len next l rest))
          (ap (levels_after first_levels) (names_push done p) ∙ levels_push first_levels (without_places done) p.token)
          (more (record {
            led_to = ap (run_from st.Start) (names_push done p) ∙ run_push (without_places done) p.token st.Start s h.led_to ∙ is;
            shallow = subst (λ l. IsShallow first_levels l) (sym (names_push done p)) (shallow_push first_levels (without_places done) p.token h.shallow low);
            small = subst AreSmall (sym (names_push done p)) (small_push (without_places done) p.token h.small small);
          }) (subst (λ l. length l < 2 ^ 64) (sym (append_assoc done (p ∷ []) rest)) short)))

      deep : (next : State) → command_step s p.token ≡ Some next → (b : Bool) → nat_lt max_depth (depth levels) ≡ b → further next →
          AreRead (done ++ p ∷ rest) len (if b then Err (f.TooDeep p.place) else if is_large_token p.token then Err (f.NumberTooLarge p.place) else reading len next levels rest)
      deep next is true under more = record {
        at = at_token done rest p s h short;
        here = goes_next done rest p s next h is short;
        deep = subst (λ l. max_depth < depth l) (sym (levels_at done rest p)) (ltb-true max_depth (depth levels) under);
      }
      deep next is false under more = sized next is (ltb-false max_depth (depth levels) under) (is_large_token p.token) refl more

      stepped : (o : Option State) → command_step s p.token ≡ o → ((next : State) → further next) →
          AreRead (done ++ p ∷ rest) len (elim o [
            | None ↦ Err (f.Syntax p.place)
            | Some next ↦
                if nat_lt max_depth (depth levels) then Err (f.TooDeep p.place) else
                if is_large_token p.token then Err (f.NumberTooLarge p.place) else
                reading len next levels rest
          ])
      stepped None is more = inl (record {
        at = at_token done rest p s h short;
        here = subst IsStuck (sym (take_next done rest p)) (stuck laws (without_places done ++ p.token ∷ []) (run_push (without_places done) p.token st.Start s h.led_to ∙ is));
      })
      stepped (Some next) is more = deep next is (nat_lt max_depth (depth levels)) refl (more next)

  pub answered : (bytes : List ℕ) → length bytes < 2 ^ 64 → Reads bytes (answer bytes)
  unfolding answer placed_tokens
  answered bytes short =
      read_from (length bytes) (placed_tokens bytes) [] st.Start (record { led_to = refl; shallow = tt; small = tt }) (omega (arith, tokens_few 0 0 bytes, short))

  -- where nothing is wrong with the tokens in front, the reader comes to those behind them
  passes : (len : ℕ) (done rest : List Placed) (first s : State) (levels : List ℕ) → run_from first (without_places done) ≡ Some s → IsShallow levels (without_places done) →
      AreSmall (without_places done) → reading len first levels (done ++ rest) ≡ reading len s (levels_after levels (without_places done)) rest
  passes len [] rest first s levels is low small = ap (λ u. reading len u levels rest) (let f : first ≡ s = cc in f)
  passes len (p ∷ done) rest first s levels is low small =
      let first_step = stepped (command_step first p.token) refl is in
      fine_read len first levels p (done ++ rest) first_step.0 first_step.1 low.0 small.0
      ∙ passes len done rest first_step.0 s (counted levels p.token) first_step.2 low.1 small.1
    where
      stepped : (o : Option State) → command_step first p.token ≡ o → elim o [ None ↦ None | Some state ↦ run_from state (without_places done) ] ≡ Some s →
          (next : State) × (command_step first p.token ≡ Some next) × (run_from next (without_places done) ≡ Some s)
      stepped None step is = absurd (cc is)
      stepped (Some next) step is = (next, step, is)

  -- the tokens around a place
  record Around (placed : List Placed) (count : ℕ) (p : Placed) : Type 0 where
    done : List Placed
    rest : List Placed
    split : placed ≡ done ++ p ∷ rest
    before : length done ≡ count

  around : (placed : List Placed) (count : ℕ) (p : Placed) → slice_get placed count ≡ Some p → Around placed count p
  around [] count p is = absurd (cc is)
  around (x ∷ placed) zero p is = record { done = []; rest = placed; split = ap (λ y. y ∷ placed) (let f : x ≡ p = cc in f); before = refl }
  around (x ∷ placed) (suc count) p is =
      let a = around placed count p is in record { done = x ∷ a.done; rest = a.rest; split = ap (λ l. x ∷ l) a.split; before = ap suc a.before }

  -- how the reader comes to a place with nothing wrong before it
  record Come (len : ℕ) (placed : List Placed) (place : ℕ) (at : IsAt placed place) : Type 0 where
    done : List Placed
    rest : List Placed
    split : placed ≡ done ++ record { token = at.token; place = place } ∷ rest
    state : State
    halfway : Halfway done state
    upto : up_to placed place at ≡ without_places done ++ at.token ∷ []
    comes : reading len st.Start first_levels placed ≡
        reading len state (levels_after first_levels (without_places done)) (record { token = at.token; place = place } ∷ rest)

  come : (len : ℕ) (placed : List Placed) (place : ℕ) (at : IsAt placed place) → Come len placed place at
  come len placed place at =
      let p : Placed = record { token = at.token; place = place } in
      let a = around placed at.count p at.is in
      let front : take at.count (without_places placed) ≡ without_places a.done =
      subst (λ l. take at.count (without_places l) ≡ without_places a.done) (sym a.split)
      (subst (λ n. take n (without_places (a.done ++ p ∷ a.rest)) ≡ without_places a.done) a.before (take_names a.done (p ∷ a.rest))) in
      let on = subst GoesOn front at.before.goes_on in
      let found = led laws (without_places a.done) on.more on.command on.means in
      let half : Halfway a.done found.0 = record {
        led_to = found.1;
        shallow = subst (λ l. IsShallow first_levels l) front at.before.shallow;
        small = subst AreSmall front at.before.small;
      } in
      record {
        done = a.done;
        rest = a.rest;
        split = a.split;
        state = found.0;
        halfway = half;
        upto = subst (λ l. take (at.count + 1) (without_places l) ≡ without_places a.done ++ at.token ∷ []) (sym a.split)
            (subst (λ n. take (n + 1) (without_places (a.done ++ p ∷ a.rest)) ≡ without_places a.done ++ at.token ∷ []) a.before (take_next a.done a.rest p));
        comes = ap (reading len st.Start first_levels) a.split ∙ passes len a.done (p ∷ a.rest) st.Start found.0 first_levels half.led_to half.shallow half.small;
      }

  -- a step that some command goes on with
  next_of : (done : List Placed) (s : State) (token : Token) → Halfway done s → GoesOn (without_places done ++ token ∷ []) → (next : State) × (command_step s token ≡ Some next)
  next_of done s token h on =
      let found = led laws (without_places done ++ token ∷ []) on.more on.command on.means in
      (found.0, sym (run_push (without_places done) token st.Start s h.led_to) ∙ found.1)

  pub alike : (placed : List Placed) (len : ℕ) (a : Result Command ReadFault) → length placed < 2 ^ 64 → AreRead placed len a → reading len st.Start first_levels placed ≡ a
  alike placed len (Ok v) short h =
      let found = led laws (without_places placed) [] v (subst (λ l. IsCommand l v) (sym (append-nil (without_places placed))) h.command) in
      ap (reading len st.Start first_levels) (sym (append-nil placed)) ∙ passes len placed [] st.Start found.0 first_levels found.1 h.shallow h.small
      ∙ ap (ended len) (at_end laws found.0 v found.2)
  alike placed len (Err (f.Syntax place)) short (inl h) =
      let c = come len placed place h.at in
      c.comes ∙ syntax_read len c.state (levels_after first_levels (without_places c.done)) (record { token = h.at.token; place = place }) c.rest
      (none_from (command_step c.state h.at.token) (λ next is.
      let on = goes_next c.done c.rest (record { token = h.at.token; place = place }) c.state next c.halfway is (subst (λ l. length l < 2 ^ 64) c.split short) in
      let upto = subst GoesOn (take_next c.done c.rest (record { token = h.at.token; place = place }) ∙ sym c.upto) on in
      h.here upto.more upto.command upto.means))
  alike placed len (Err (f.Syntax place)) short (inr h) =
      let on = subst GoesOn (take_all (without_places placed)) h.0.before.goes_on in
      let found = led laws (without_places placed) on.more on.command on.means in
      let half : Halfway placed found.0 = record {
        led_to = found.1;
        shallow = subst (λ l. IsShallow first_levels l) (take_all (without_places placed)) h.0.before.shallow;
        small = subst AreSmall (take_all (without_places placed)) h.0.before.small;
      } in
      ap (reading len st.Start first_levels) (sym (append-nil placed)) ∙ passes len placed [] st.Start found.0 first_levels half.led_to half.shallow half.small
      ∙ wanting found.0 half (command_finished found.0) refl
    where
      wanting : (s : State) → Halfway placed s → (o : Option Command) → command_finished s ≡ o → ended len o ≡ Err (f.Syntax place)
      wanting s half (Some v) is = absurd (h.0.none v (whole_means placed s v half is).command)
      wanting s half None is = ap (λ n. Err (f.Syntax n)) (sym h.1)
  alike placed len (Err (f.TooDeep place)) short h =
      let c = come len placed place h.at in
      let p : Placed = record { token = h.at.token; place = place } in
      let next = next_of c.done c.state h.at.token c.halfway (subst GoesOn c.upto h.here) in
      c.comes ∙ deep_read len c.state (levels_after first_levels (without_places c.done)) p c.rest next.0 next.1
      (subst (λ l. max_depth < depth l) (ap (levels_after first_levels) c.upto ∙ levels_push first_levels (without_places c.done) p.token) h.deep)
  alike placed len (Err (f.NumberTooLarge place)) short h =
      let c = come len placed place h.at in
      let p : Placed = record { token = h.at.token; place = place } in
      let next = next_of c.done c.state h.at.token c.halfway (subst GoesOn c.upto h.here) in
      c.comes ∙ large_read len c.state (levels_after first_levels (without_places c.done)) p c.rest next.0 next.1
      (subst (λ l. depth l ≤ max_depth) (ap (levels_after first_levels) c.upto ∙ levels_push first_levels (without_places c.done) p.token) h.shallow) h.large
  alike placed len (Err f.OutOfMemory) short h = absurd h

  pub one_reading_of : (bytes : List ℕ) (a b : Result Command ReadFault) → length bytes < 2 ^ 64 → Reads bytes a → Reads bytes b → a ≡ b
  unfolding placed_tokens
  one_reading_of bytes a b short p q =
      let few : length (placed_tokens bytes) < 2 ^ 64 = omega (arith, tokens_few 0 0 bytes, short) in
      sym (alike (placed_tokens bytes) (length bytes) a few p) ∙ alike (placed_tokens bytes) (length bytes) b few q
