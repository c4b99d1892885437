-- Each step of a seat keeps the rule of the turn.
use Rattle.std.proofs.Common.{◌≡◌, ◌≢◌, ◌⊎◌, ◌==◌, ◌^◌, ◌%◌, ℕ, zero, suc, ◌+◌, ◌<◌, ◌≤◌, true, false, true≢false, List, [], ◌∷◌}
use Rattle.std.proofs.Common.{◌++◌, length, set, Option, Some, None, refl, sym, ap, ◌∙◌, subst, inl, inr, ⊎_elim, arith}
use Rattle.std.proofs.Common.{append-nil, length-append}
use Rattle.std.specs.Prelude.{slice_index}
use mathlib.Core.Option.{some, some-ne-none, some-injective}
use mathlib.Core.Option as maybe
use mathlib.Core.List.{IsPrefix}
use mathlib.Core.Logic.{dite}
use native.Mathlib.Decide.{ℕ_discrete}
use prog.Atomic.{either}
use lib.ListN.{get_elem?}
use Rattle.atomic_table.specs.Table.{State, Act, keeps, takes, gives, Allows, Splits, Joins, opening, Seen, Final, carried_after, Valid, stepped}
use Rattle.atomic_table.proofs.Lists.{at_set, at_snoc, set_here, set_else, at_longer, exchanged}
use Rattle.vx_turn.specs.declared.view.View.{View}
use Rattle.vx_turn.specs.Turning.{items_of, fresh_view, after_split, split_off, after_join, spent_view, IsLive, AllBack, HasClosed}
use Rattle.vx_turn.specs.Turning.{SeatFits, FirstSeatFits, SlotFits, RuleHolds, AtStep, TakeTells, MarkTells, LoadTells, FreeTells}
use Rattle.vx_turn.proofs.Lists.{prefix_self, prefix_trans, items_more, items_mine, items_other}

off : {A : Type 0} → false ≡ true → A
off e = absurd (true≢false (sym e))

module _ {I : Type 0} where
  -- where a list of views has something, it is long enough
  here_there : (views : List (View I)) (id : ℕ) (v : View I) → get_elem? views id ≡ some v → id < length views
  here_there [] id v e = absurd (some-ne-none v (sym e))
  here_there (x ∷ xs) zero v e = omega arith
  here_there (x ∷ xs) (suc id) v e = let h = here_there xs id v e in omega arith

  -- what a view keeps when its seat takes a step
  pub record Alike (v w : View I) : Type 0 where
    pub number : v.number ≡ w.number
    pub last_number : v.last_number ≡ w.last_number
    pub joined : v.joined ≡ w.joined

  same : (v : View I) → Alike v v
  same v = record { number = refl; last_number = refl; joined = refl }

  -- a live view of the table after a step, and the view that it was before
  was : (views : List (View I)) (id : ℕ) (v w : View I) → IsLive views id v → Alike v w → (j : ℕ) (u : View I) → IsLive (set views id w) j u
      → (o : View I) × IsLive views j o × Alike o u
  was views id v w live alike j u at = ⊎_elim
      (λ (e : (j ≡ id) × (w ≡ u)). (v, subst (λ (k : ℕ). IsLive views k v) (sym e.0) live, subst (λ (z : View I). Alike v z) e.1 alike))
      (λ (e : (j ≢ id) × (get_elem? views j ≡ some u)). (u, (e.1, at.1), same u))
      (at_set views id j w u at.0)

module _ {T I : Type 0} (stands : T → List I → Type 0) (seat : I → ℕ) where
  abbrev Rule : State (Option T) (View I) → Type 0
  Rule = RuleHolds stands seat

  abbrev Held : ℕ → List (View I) → Type 0
  Held owner views = owner ≢ 0 → (id : ℕ) × (v : View I) × IsLive views id v × (v.holds ≡ true)

  -- whoever holds the turn is still there after a view changes that holds it as before
  held_set : (owner : ℕ) (views : List (View I)) (id : ℕ) (v w : View I) → IsLive views id v → w.spent ≡ false → v.holds ≡ w.holds
      → Held owner views → Held owner (set views id w)
  held_set owner views id v w live unspent holds held some_owner =
      let h = held some_owner in
      dite (ℕ_discrete h.0 id)
      (λ e. let is : v ≡ h.1 = some-injective v h.1 (sym live.0 ∙ subst (λ (k : ℕ). get_elem? views k ≡ some h.1) e h.2.0) in
      (id, w, (set_here views id w (here_there views id v live.0), unspent), sym holds ∙ (ap (λ (z : View I). z.holds) is ∙ h.3)))
      (λ n. (h.0, h.1, (set_else views id h.0 w n ∙ h.2.0, h.2.1), h.3))

  -- one seat steps from v to w: the list grows by items of its own, or not at all
  moved : (s : State (Option T) (View I)) (k : Rule s) (id : ℕ) (v w : View I) → IsLive s.views id v → Alike v w
      → (owner : ℕ) (items : List I) → ((n : ℕ) → n ≢ v.number → items_of seat n items ≡ items_of seat n k.items) → IsPrefix k.items items
      → SeatFits stands seat owner items w
      → ((j : ℕ) (u : View I) → j ≢ id → IsLive s.views j u → u.holds ≡ true → (owner ≡ suc u.number) × (u.seen ≡ items))
      → (words : List ℕ) → words ≡ owner ∷ length items ∷ [] → (homes : List (maybe.Option (Option T))) → SlotFits stands seat owner items homes
      → Held owner (set s.views id w) → Rule (record { words = words; homes = homes; views = set s.views id w })
  moved s k id v w live alike owner items others longer mine quiet words words_are homes home held =
      let vs : List (View I) = s.views in
      let old = was vs id v w live alike in record {
        items = items;
        owner = owner;
        words = words_are;
        home = home;
        held = held;
        seats = λ j u at. ⊎_elim
            (λ (e : (j ≡ id) × (w ≡ u)). subst (SeatFits stands seat owner items) e.1 mine)
            (λ (e : (j ≢ id) × (get_elem? vs j ≡ some u)).
            let f = k.seats j u (e.1, at.1) in
            let apart : u.number ≢ v.number = λ n. e.0 (k.apart j id u v (e.1, at.1) live n) in
            record {
              sees = prefix_trans u.seen k.items items f.sees longer;
              own = others u.number apart ∙ f.own;
              holder = quiet j u e.0 (e.1, at.1);
              small = f.small;
            })
            (at_set vs id j w u at.0);
        apart = λ i j a b la lb e. let x = old i a la in let y = old j b lb in k.apart i j x.0 y.0 x.1 y.1 (x.2.number ∙ (e ∙ sym y.2.number));
        first = λ j z lz is_first.
            let x = old j z lz in let o = x.0 in
            let g = k.first j o x.1 (x.2.number ∙ is_first) in
            record {
              last = λ i a la. let y = old i a la in let le = g.last i y.0 y.1 in let e = y.2.number in let e' = x.2.last_number in omega arith;
              ahead = λ n far. let mine_in = g.last id v live in let e' = x.2.last_number in others n (λ m. absurd (omega arith))
                  ∙ g.ahead n (omega arith);
              back = λ i n own at. let b = g.back i n own (subst (λ js. get_elem? js i ≡ some (n, own)) (sym x.2.joined) at) in (
                others n (λ m. b.2 id v live (sym m)) ∙ b.0,
                (let le = b.1 in let e' = x.2.last_number in omega arith),
                λ i' a la m. let y = old i' a la in b.2 i' y.0 y.1 (y.2.number ∙ m),
              );
            };
      }

  -- while one seat holds the turn, no other does
  quiet_while : (s : State (Option T) (View I)) (k : Rule s) (id : ℕ) (v : View I) → IsLive s.views id v → v.holds ≡ true
      → {A : Type 0} (j : ℕ) (u : View I) → j ≢ id → IsLive s.views j u → u.holds ≡ true → A
  quiet_while s k id v live holds j u n at h =
      let a = ((k.seats id v live).holder holds).0 in
      let b = ((k.seats j u at).holder h).0 in
      let e : u.number ≡ v.number = omega arith in absurd (n (k.apart j id u v at live e))

  -- while the owner word is 0, no seat holds the turn
  quiet_free : (s : State (Option T) (View I)) (k : Rule s) → k.owner ≡ 0 → {A : Type 0} (j : ℕ) (u : View I) → IsLive s.views j u
      → u.holds ≡ true → A
  quiet_free s k free j u at h = let a = ((k.seats j u at).holder h).0 in absurd (omega arith)

  -- the two words, read and written
  word0 : (words : List ℕ) (a b : ℕ) → words ≡ a ∷ b ∷ [] → slice_index words 0 ≡ a
  word0 words a b e = ap (λ w. slice_index w 0) e

  word1 : (words : List ℕ) (a b : ℕ) → words ≡ a ∷ b ∷ [] → slice_index words 1 ≡ b
  word1 words a b e = ap (λ w. slice_index w 1) e

  set0 : (words : List ℕ) (a b n : ℕ) → words ≡ a ∷ b ∷ [] → set words 0 n ≡ n ∷ b ∷ []
  set0 words a b n e = ap (λ w. set w 0 n) e

  set1 : (words : List ℕ) (a b n : ℕ) → words ≡ a ∷ b ∷ [] → set words 1 n ≡ a ∷ n ∷ []
  set1 words a b n e = ap (λ w. set w 1 n) e

  -- the compare and exchange of the owner word
  pub takes_turn : (slots id : ℕ) (v : View I) (c : List (ℕ × Option T)) (n : ℕ) → v.spent ≡ false → v.holds ≡ false → n ≡ suc v.number
      → Allows Rule slots id (v, c) 0 (λ m. either (m == 0) n m) (TakeTells stands seat (v, c))
  takes_turn slots id v c n unspent free n_is s k deep at small =
      let m : ℕ = slice_index s.words 0 in
      let m_is : m ≡ k.owner = word0 s.words k.owner (length k.items) k.words in
      let f = k.seats id v (at, unspent) in
      exchanged m 0 n (λ (m' : ℕ). (w : View I) × (a : Act (Option T)) × Valid s.homes c a × Rule (stepped s 0 m' id c w a)
      × TakeTells stands seat (v, c) m (w, carried_after c a))
      (λ hit.
      let e : k.owner ≡ 0 = sym m_is ∙ hit in
      let h = k.home in
      let got = h.2 e in
      let x : T = got.0 in
      let w : View I = record v { holds = true; seen = k.items } in (
        w,
        takes 0 (Some x),
        ap (λ hs. get_elem? hs 0) h.1 ∙ ap some got.1,
        moved s k id v w (at, unspent) (record { number = refl; last_number = refl; joined = refl }) n k.items (λ i other. refl)
            (prefix_self k.items)
            (record { sees = prefix_self k.items; own = f.own; holder = λ _. (n_is, refl); small = f.small })
            (λ j u other live holds. quiet_free s k e j u live holds)
            (set s.words 0 n) (set0 s.words k.owner (length k.items) n k.words) (set s.homes 0 maybe.none)
            (maybe.none, ap (λ hs. set hs 0 maybe.none) h.1, λ z. absurd (omega arith))
            (λ some_owner. (id, w, (set_here s.views id w (here_there s.views id v at), unspent), refl)),
        ((λ _. (x, k.items, f.sees, f.own, got.2, refl)), (λ missed. absurd (missed hit))),
      ))
      (λ missed.
      let ne : k.owner ≢ 0 = λ z. missed (m_is ∙ z) in
      let h = k.held ne in
      let g = k.seats h.0 h.1 h.2 in
      let is : k.owner ≡ suc h.1.number = (g.holder h.3).0 in
      let w : View I = record v { failed_exchanges = suc v.failed_exchanges; holder_found = h.1.number } in (
        w,
        keeps,
        tt,
        moved s k id v w (at, unspent) (record { number = refl; last_number = refl; joined = refl }) k.owner k.items (λ i other. refl)
            (prefix_self k.items)
            (record { sees = f.sees; own = f.own; holder = f.holder; small = f.small })
            (λ j u other live holds. (k.seats j u live).holder holds)
            (set s.words 0 m) (set0 s.words k.owner (length k.items) m k.words ∙ ap (λ o. o ∷ length k.items ∷ []) m_is) s.homes k.home
            (held_set k.owner s.views id v w (at, unspent) unspent refl k.held),
        ((λ hit. absurd (missed hit)), (λ _. (h.1.number, m_is ∙ is, g.small, refl))),
      ))

  -- the swap that frees the owner word
  pub frees_turn : (slots id : ℕ) (v : View I) (x : T) → v.spent ≡ false → v.holds ≡ true → stands x v.seen
      → Allows Rule slots id (v, (0, Some x) ∷ []) 0 (λ _. 0) (FreeTells (v, (0, Some x) ∷ []))
  frees_turn slots id v x unspent holds fits s k deep at small =
      let f = k.seats id v (at, unspent) in
      let all = (f.holder holds).1 in
      let h = k.home in
      let w : View I = record v { holds = false } in (
        w,
        gives,
        tt,
        moved s k id v w (at, unspent) (record { number = refl; last_number = refl; joined = refl }) 0 k.items (λ i other. refl)
            (prefix_self k.items)
            (record { sees = f.sees; own = f.own; holder = λ z. off z; small = f.small })
            (λ j u other live held. quiet_while s k id v (at, unspent) holds j u other live held)
            (set s.words 0 0) (set0 s.words k.owner (length k.items) 0 k.words) (set s.homes 0 (some (Some x)))
            (some (Some x), ap (λ hs. set hs 0 (some (Some x))) h.1, λ _. (x, refl, subst (stands x) all fits))
            (λ some_owner. absurd (some_owner refl)),
        refl,
      )

  -- the count of a marked give
  pub marks_turn : (slots id : ℕ) (v : View I) (x : T) (item : I) → v.spent ≡ false → v.holds ≡ true → seat item ≡ v.number
      → stands x (v.seen ++ item ∷ []) → length v.seen < 18446744073709551615
      → Allows Rule slots id (v, (0, Some x) ∷ []) 1 (λ m. (m + 1) % 2 ^ 64) (MarkTells stands seat (v, (0, Some x) ∷ []))
  marks_turn slots id v x item unspent holds mine fits room s k deep at small =
      let f = k.seats id v (at, unspent) in
      let held = f.holder holds in
      let m : ℕ = slice_index s.words 1 in
      let m_is : m ≡ length k.items = word1 s.words k.owner (length k.items) k.words in
      let items : List I = v.seen ++ item ∷ [] in
      let items_are : items ≡ k.items ++ item ∷ [] = ap (λ l. l ++ item ∷ []) held.1 in
      let next : (m + 1) % 2 ^ 64 ≡ length items = let e = ap length held.1 in let l = length-append v.seen (item ∷ []) in omega arith in
      let h = k.home in
      let w : View I = record v { seen = items; own = v.own ++ item ∷ [] } in (
        w,
        keeps,
        tt,
        moved s k id v w (at, unspent) (record { number = refl; last_number = refl; joined = refl }) k.owner items
            (λ n other. ap (items_of seat n) items_are
            ∙ (items_more seat n k.items (item ∷ []) ∙
            (ap (λ l. items_of seat n k.items ++ l) (items_other seat n item (λ e. other (sym e ∙ mine)))
            ∙ append-nil (items_of seat n k.items))))
            (item ∷ [], sym items_are)
            (record {
              sees = prefix_self items;
              own = ap (items_of seat v.number) items_are
                  ∙ (items_more seat v.number k.items (item ∷ [])
                  ∙ (ap (λ l. l ++ items_of seat v.number (item ∷ [])) f.own ∙ ap (λ l. v.own ++ l) (items_mine seat v.number item mine)));
              holder = λ _. (held.0, refl);
              small = f.small;
            })
            (λ j u other live holds'. quiet_while s k id v (at, unspent) holds j u other live holds')
            (set s.words 1 ((m + 1) % 2 ^ 64)) (set1 s.words k.owner (length k.items) ((m + 1) % 2 ^ 64) k.words
            ∙ ap (λ n. k.owner ∷ n ∷ []) next) s.homes
            (h.0, h.1, λ free. absurd (omega arith))
            (held_set k.owner s.views id v w (at, unspent) unspent refl k.held),
        (x, item, refl, mine, fits, refl),
      )

  -- the load of the count
  pub looks_turn : (slots id : ℕ) (v : View I) (c : List (ℕ × Option T)) → v.spent ≡ false
      → Allows Rule slots id (v, c) 1 (λ m. m) (LoadTells stands seat (v, c))
  looks_turn slots id v c unspent s k deep at small =
      let f = k.seats id v (at, unspent) in
      let m : ℕ = slice_index s.words 1 in
      let m_is : m ≡ length k.items = word1 s.words k.owner (length k.items) k.words in
      let w : View I = record v { seen = k.items } in (
        w,
        keeps,
        tt,
        moved s k id v w (at, unspent) (record { number = refl; last_number = refl; joined = refl }) k.owner k.items (λ i other. refl)
            (prefix_self k.items)
            (record { sees = prefix_self k.items; own = f.own; holder = λ h. ((f.holder h).0, refl); small = f.small })
            (λ j u other live holds. (k.seats j u live).holder holds)
            (set s.words 1 m) (set1 s.words k.owner (length k.items) m k.words ∙ ap (λ n. k.owner ∷ n ∷ []) m_is) s.homes k.home
            (held_set k.owner s.views id v w (at, unspent) unspent refl k.held),
        (k.items, m_is, f.sees, f.own, (λ h. sym (f.holder h).1), refl),
      )

  -- a new turn
  pub opens_turn : (x : T) → stands x [] → Rule (opening (0 ∷ 0 ∷ []) (Some x ∷ []) (fresh_view 0 []))
  opens_turn x fits = record {
    items = [];
    owner = 0;
    words = refl;
    home = (some (Some x), refl, λ _. (x, refl, fits));
    held = λ some_owner. absurd (some_owner refl);
    seats = λ id v live. subst (SeatFits stands seat 0 []) (only id v live).1
        (record { sees = ([], refl); own = refl; holder = λ h. off h; small = omega arith });
    apart = λ i j v w a b e. (only i v a).0 ∙ sym (only j w b).0;
    first = λ id v live e. subst (FirstSeatFits stands seat [] (fresh_view 0 [] ∷ [])) (only id v live).1 (record {
      last = λ i w at. let o = ap (λ (z : View I). z.number) (only i w at).1 in omega arith;
      ahead = λ n far. refl;
      back = λ k n own at. absurd (some-ne-none (n, own) (sym at));
    });
  }
    where
      only : (id : ℕ) (v : View I) → IsLive (fresh_view 0 [] ∷ []) id v → (id ≡ 0) × (fresh_view 0 [] ≡ v)
      only zero v live = (refl, some-injective (fresh_view 0 []) v live.0)
      only (suc id) v live = absurd (some-ne-none v (sym live.0))

  -- an element of a list with one more is that one, or was there
  at_end : {A : Type 0} (l : List A) (a b : A) (j : ℕ) → get_elem? (l ++ a ∷ []) j ≡ some b → (get_elem? l j ≡ some b) ⊎ ((j ≡ length l) × (a ≡ b))
  at_end [] a b zero e = inr (refl, some-injective a b e)
  at_end [] a b (suc j) e = absurd (some-ne-none b (sym e))
  at_end (x ∷ xs) a b zero e = inl e
  at_end (x ∷ xs) a b (suc j) e = ⊎_elim (λ l. inl l) (λ (r : (j ≡ length xs) × (a ≡ b)). inr (ap suc r.0, r.1)) (at_end xs a b j e)

  -- a live view where one view was changed at rest, and the view that it was before
  old_of : (owner : ℕ) (items : List I) (views : List (View I)) (id : ℕ) (v w : View I) → IsLive views id v → v.number ≡ w.number
      → (SeatFits stands seat owner items v → SeatFits stands seat owner items w)
      → (j : ℕ) (u : View I) → IsLive (set views id w) j u → (o : View I) × IsLive views j o × (o.number ≡ u.number)
      × (SeatFits stands seat owner items o → SeatFits stands seat owner items u)
  old_of owner items views id v w live number fits j u at = ⊎_elim
      (λ (e : (j ≡ id) × (w ≡ u)). (
        v,
        subst (λ (k : ℕ). IsLive views k v) (sym e.0) live,
        number ∙ ap (λ (z : View I). z.number) e.1,
        λ f. subst (SeatFits stands seat owner items) e.1 (fits f),
      ))
      (λ (e : (j ≢ id) × (get_elem? views j ≡ some u)). (u, (e.1, at.1), refl, λ f. f))
      (at_set views id j w u at.0)

  -- a new seat is split off seat 0
  pub splits_turn : (id : ℕ) (v : View I) → v.spent ≡ false → v.number ≡ 0 → v.last_number < 4294967295
      → Splits Rule id v (after_split v) (split_off v)
  splits_turn id v unspent is_first room s k at =
      let live : IsLive s.views id v = (at, unspent) in
      let f = k.seats id v live in
      let g = k.first id v live is_first in
      let vs : List (View I) = set s.views id (after_split v) in
      let new : View I = split_off v in
      let old = old_of k.owner k.items s.views id v (after_split v) live refl
      (λ f. record { sees = f.sees; own = f.own; holder = f.holder; small = f.small }) in
      let part : (j : ℕ) (u : View I) → IsLive (vs ++ new ∷ []) j u → IsLive vs j u ⊎ ((j ≡ length vs) × (new ≡ u)) =
      λ j u a. ⊎_elim (λ l. inl (l, a.1)) (λ r. inr r) (at_end vs new u j a.0) in
      let below : (j : ℕ) (u : View I) → IsLive vs j u → u.number ≤ v.last_number = λ j u a. let o = old j u a in
      subst (λ (n : ℕ). n ≤ v.last_number) o.2 (g.last j o.0 o.1) in
      record {
        items = k.items;
        owner = k.owner;
        words = k.words;
        home = k.home;
        held = λ some_owner. let h = held_set k.owner s.views id v (after_split v) live unspent refl k.held some_owner in
            (h.0, h.1, (at_longer vs (new ∷ []) h.0 h.1 h.2.0, h.2.1), h.3);
        seats = λ j u a. ⊎_elim
            (λ l. let o = old j u l in o.3 (k.seats j o.0 o.1))
            (λ (r : (j ≡ length vs) × (new ≡ u)). subst (SeatFits stands seat k.owner k.items) r.1
            (record { sees = f.sees; own = g.ahead (suc v.last_number) (omega arith); holder = λ h. off h; small = omega arith }))
            (part j u a);
        apart = λ i j a b la lb e. ⊎_elim
            (λ (x : IsLive vs i a). ⊎_elim
            (λ (y : IsLive vs j b). let o = old i a x in let p = old j b y in k.apart i j o.0 p.0 o.1 p.1 (o.2 ∙ (e ∙ sym p.2)))
            (λ (y : (j ≡ length vs) × (new ≡ b)). let le = below i a x in let n = ap (λ (z : View I). z.number) y.1 in absurd (omega arith))
            (part j b lb))
            (λ (x : (i ≡ length vs) × (new ≡ a)). ⊎_elim
            (λ (y : IsLive vs j b). let le = below j b y in let n = ap (λ (z : View I). z.number) x.1 in absurd (omega arith))
            (λ (y : (j ≡ length vs) × (new ≡ b)). x.0 ∙ sym y.0)
            (part j b lb))
            (part i a la);
        first = λ j z lz zero_z. ⊎_elim
            (λ (x : IsLive vs j z).
            let o = old j z x in
            let same_place : j ≡ id = k.apart j id o.0 v o.1 live (o.2 ∙ (zero_z ∙ sym is_first)) in
            let is : after_split v ≡ z = some-injective (after_split v) z
            (sym (set_here s.views id (after_split v) (here_there s.views id v at))
            ∙ subst (λ (i : ℕ). get_elem? vs i ≡ some z) same_place x.0) in
            subst (FirstSeatFits stands seat k.items (vs ++ new ∷ [])) is (record {
              last = λ i a la. ⊎_elim (λ (y : IsLive vs i a). let le = below i a y in omega arith)
                  (λ (y : (i ≡ length vs) × (new ≡ a)). let n = ap (λ (z : View I). z.number) y.1 in omega arith) (part i a la);
              ahead = λ n far. g.ahead n (omega arith);
              back = λ i n own e. let b = g.back i n own e in (
                b.0,
                (let le = b.1 in omega arith),
                λ i' a la m. ⊎_elim
                    (λ (y : IsLive vs i' a). let p = old i' a y in b.2 i' p.0 p.1 (p.2 ∙ m))
                    (λ (y : (i' ≡ length vs) × (new ≡ a)). let le = b.1 in let n = ap (λ (z : View I). z.number) y.1 in absurd (omega arith))
                    (part i' a la),
              );
            }))
            (λ (x : (j ≡ length vs) × (new ≡ z)). let n = ap (λ (z : View I). z.number) x.1 in absurd (omega arith))
            (part j z lz);
      }

  -- a seat that does not hold the turn is joined into seat 0
  pub joins_turn : (id : ℕ) (v : View I) (other : ℕ) (w : View I) → v.spent ≡ false → v.number ≡ 0 → w.spent ≡ false → w.holds ≡ false
      → Joins Rule id v other w (after_join v w) spent_view
  joins_turn id v other w unspent is_first unspent_w free s k at apart_seats at_w =
      let live : IsLive s.views id v = (at, unspent) in
      let g = k.first id v live is_first in
      let both : View I = after_join v w in
      let vs : List (View I) = set s.views id both in
      let live_w : IsLive s.views other w = (sym (set_else s.views id other both apart_seats) ∙ at_w, unspent_w) in
      let old = old_of k.owner k.items s.views id v both live refl
      (λ f. record { sees = f.sees; own = f.own; holder = f.holder; small = f.small }) in
      let part : (j : ℕ) (u : View I) → IsLive (set vs other spent_view) j u → (j ≢ other) × IsLive vs j u =
      λ j u a. ⊎_elim (λ (e : (j ≡ other) × (spent_view ≡ u)). absurd (true≢false (ap (λ (z : View I). z.spent) e.1 ∙ a.1)))
      (λ (e : (j ≢ other) × (get_elem? vs j ≡ some u)). (e.0, (e.1, a.1))) (at_set vs other j spent_view u a.0) in
      record {
        items = k.items;
        owner = k.owner;
        words = k.words;
        home = k.home;
        held = λ some_owner. let h = held_set k.owner s.views id v both live unspent refl k.held some_owner in
            let away : h.0 ≢ other = λ e. let is : h.1 ≡ w = some-injective h.1 w
            (sym h.2.0 ∙ subst (λ (i : ℕ). get_elem? vs i ≡ some w) (sym e) at_w) in
            off (sym free ∙ (ap (λ (z : View I). z.holds) (sym is) ∙ h.3)) in
            (h.0, h.1, (set_else vs other h.0 spent_view away ∙ h.2.0, h.2.1), h.3);
        seats = λ j u a. let o = old j u (part j u a).1 in o.3 (k.seats j o.0 o.1);
        apart = λ i j a b la lb e. let o = old i a (part i a la).1 in let p = old j b (part j b lb).1 in
            k.apart i j o.0 p.0 o.1 p.1 (o.2 ∙ (e ∙ sym p.2));
        first = λ j z lz zero_z.
            let x = (part j z lz).1 in
            let o = old j z x in
            let same_place : j ≡ id = k.apart j id o.0 v o.1 live (o.2 ∙ (zero_z ∙ sym is_first)) in
            let is : both ≡ z = some-injective both z
            (sym (set_here s.views id both (here_there s.views id v at))
            ∙ subst (λ (i : ℕ). get_elem? vs i ≡ some z) same_place x.0) in
            subst (FirstSeatFits stands seat k.items (set vs other spent_view)) is (record {
              last = λ i a la. let p = old i a (part i a la).1 in subst (λ (n : ℕ). n ≤ v.last_number) p.2 (g.last i p.0 p.1);
              ahead = λ n far. g.ahead n far;
              back = λ i n own e. ⊎_elim
                  (λ (y : get_elem? v.joined i ≡ some (n, own)). let b = g.back i n own y in
                  (b.0, b.1, λ i' a la m. let p = old i' a (part i' a la).1 in b.2 i' p.0 p.1 (p.2 ∙ m)))
                  (λ (y : (w.number, w.own) ≡ (n, own)).
                  let fw = k.seats other w live_w in
                  subst (λ (z : ℕ × List I). (items_of seat z.0 k.items ≡ z.1) × (z.0 ≤ v.last_number)
                  × ((i' : ℕ) (a : View I) → IsLive (set vs other spent_view) i' a → a.number ≢ z.0)) y (
                    fw.own,
                    g.last other w live_w,
                    λ i' a la m. let q = part i' a la in let p = old i' a q.1 in
                        q.0 (k.apart i' other p.0 w p.1 live_w (p.2 ∙ m)),
                  ))
                  (at_snoc v.joined (w.number, w.own) (n, own) i e);
            });
      }

  -- a turn that is closed with seat 0, into which every number was joined
  pub closes_turn : (id : ℕ) (v : View I) (words : List ℕ) (xs : List (Option T)) → v.spent ≡ false → v.number ≡ 0 → v.holds ≡ false → AllBack v
      → Final (Seen Rule id v) words xs
      → (x : T) × (get_elem? xs 0 ≡ some (Some x)) × HasClosed stands seat x v
  closes_turn id v words xs unspent is_first free back fin =
      let s : State (Option T) (View I) = fin.0 in
      let k : Rule s = fin.1.0 in
      let live : IsLive s.views id v = (fin.1.1, unspent) in
      let f = k.seats id v live in
      let g = k.first id v live is_first in
      let nobody_has : k.owner ≡ 0 = dite (ℕ_discrete k.owner 0) (λ e. e) (λ ne.
      let h = k.held ne in
      let le = g.last h.0 h.1 h.2 in
      dite (ℕ_discrete h.1.number 0)
      (λ z. let same_place : h.0 ≡ id = k.apart h.0 id h.1 v h.2 live (z ∙ sym is_first) in
      let is : h.1 ≡ v = some-injective h.1 v (sym h.2.0 ∙ subst (λ (i : ℕ). get_elem? s.views i ≡ some v) (sym same_place) live.0) in
      off (sym free ∙ (ap (λ (z : View I). z.holds) (sym is) ∙ h.3)))
      (λ nz. let b = back h.1.number (omega arith) le in absurd ((g.back b.0 h.1.number b.1 b.2).2 h.0 h.1 h.2 refl))) in
      let home = k.home in
      let got = home.2 nobody_has in (
        got.0,
        fin.4 0 (Some got.0) (ap (λ hs. get_elem? hs 0) home.1 ∙ ap some got.1),
        (k.items, f.sees, got.2, subst (λ (n : ℕ). items_of seat n k.items ≡ v.own) is_first f.own, (λ i n own e. (g.back i n own e).0), g.ahead),
      )

  -- a seat that holds the slot with a value which stands for the whole list
  abbrev pub Ready : AtStep stands seat → T → Type 0
  Ready m x = (m.1 ≡ (0, Some x) ∷ []) × (m.0.spent ≡ false) × (m.0.holds ≡ true) × stands x m.0.seen

  -- the addition to the count, by a seat of which it is known what it carries
  pub marks_as : (slots id : ℕ) (m : AtStep stands seat) (x : T) (item : I) → m.1 ≡ (0, Some x) ∷ [] → m.0.spent ≡ false
      → m.0.holds ≡ true → seat item ≡ m.0.number → stands x (m.0.seen ++ item ∷ []) → length m.0.seen < 18446744073709551615
      → Allows Rule slots id m 1 (λ n. (n + 1) % 2 ^ 64) (MarkTells stands seat m)
  marks_as slots id m x item out unspent holds mine fits room =
      subst (λ (c : List (ℕ × Option T)). Allows Rule slots id (m.0, c) 1 (λ n. (n + 1) % 2 ^ 64) (MarkTells stands seat (m.0, c)))
      (sym out) (marks_turn slots id m.0 x item unspent holds mine fits room)

  -- the value in the slot that was taken last
  first_value : List (ℕ × Option T) → Option T
  first_value [] = None
  first_value (x ∷ xs) = x.1

  -- after the addition the seat may free the owner word
  pub ready_marked : (m : AtStep stands seat) (x : T) (n : ℕ) (w : AtStep stands seat) → m.1 ≡ (0, Some x) ∷ [] → m.0.spent ≡ false
      → m.0.holds ≡ true → MarkTells stands seat m n w → Ready w x
  unfolding first_value
  ready_marked m x n w out unspent holds told =
      let same_slot : Some told.0 ≡ Some x = ap first_value (sym told.2 ∙ out) in
      let is : told.0 ≡ x = cc (same_slot) in
      let e = told.5 in (
        ap (λ z. z.1) e ∙ out,
        ap (λ z. z.0.spent) e ∙ unspent,
        ap (λ z. z.0.holds) e ∙ holds,
        subst (λ (z : AtStep stands seat). stands x z.0.seen) (sym e) (subst (λ (y : T). stands y (m.0.seen ++ told.1 ∷ [])) is told.4),
      )

  -- the swap, by a seat that may free the owner word
  pub frees_as : (slots id : ℕ) (m : AtStep stands seat) (x : T) → Ready m x → Allows Rule slots id m 0 (λ _. 0) (FreeTells m)
  frees_as slots id m x ready =
      subst (λ (c : List (ℕ × Option T)). Allows Rule slots id (m.0, c) 0 (λ _. 0) (FreeTells (m.0, c))) (sym ready.0)
      (frees_turn slots id m.0 x ready.1 ready.2 ready.3)
