-- Masks pick what lookup finds.
use Rattle.std.proofs.Common.{◌≡◌, ◌==◌, inl, ℕ, suc, ◌+◌, ◌&&◌, ◌||◌, Bool, true, false, cond, List, [], ◌∷◌, length, map, Option, Some, None}
use Rattle.std.proofs.Common.{slice_get, refl, sym, ap, ◌∙◌, subst, arith}
use Rattle.std.specs.Prelude.{filter}
use Rattle.std.specs.List.{find, list_all}
use Rattle.vx_lists.specs.Members.{IsIn}
use Rattle.vx_lists.proofs.Finding as find
use Rattle.vx_names.specs.declared.key.Selector.{Selector}
use Rattle.vx_names.specs.declared.key.MethodKey.{MethodKey}
use Rattle.vx_syntax.specs.declared.decl.Decl.{Decl}
use Rattle.vx_program.specs.Program.{IsProgram}
use Rattle.vx_program.specs.Methods.{methods}
use Rattle.vx_model.specs.declared.value.Value.{Value}
use Rattle.vx_model.specs.declared.value.Thing.{Thing}
use Rattle.vx_model.specs.declared.look.Look.{Look}
use Rattle.vx_model.specs.declared.look.Look.TheVariants as look
use Rattle.vx_tables.specs.declared.picked.Picked.TheVariants as chosen
use Rattle.vx_syntax.specs.Expressions.{Bytes}
use Rattle.std.proofs.lemmas.Nat.Bits.{bit_at-zero}
use Rattle.vx_model.specs.Holds.{holds}
use Rattle.vx_format.specs.declared.image.Position.{Position}
use Rattle.vx_format.specs.declared.image.Row.{Row}
use Rattle.vx_format.specs.declared.image.Table.{Table}
use Rattle.vx_format.specs.declared.image.Image.{Image}
use Rattle.vx_model.specs.Lookup as lookups
use Rattle.vx_model.specs.Lookup.{are_held, is_best, applicable, lookup, IsBest}
use Rattle.vx_compilation.specs.Compiled.{things}
use Rattle.vx_tables.specs.Masks as masks
use Rattle.vx_tables.specs.Masks.{has, beaten, is_left, rows_from, covers, picked}
use Rattle.vx_places.specs.Dispatch.{Placed, masks_of, dispatched}
use Rattle.vx_places.specs.Linked.{Places, ThingsAlike}
use Rattle.vx_places.specs.Tables.{AreHeldAt, look_of, beats, TableIs}
use Rattle.vx_model.proofs.Orders.{Chains}
use Rattle.vx_model.proofs.Choices.{one_is, is_one, none_is, is_none, many_is, is_many}

-- rows beside the keys at their places
abbrev Beside : List MethodKey → List ℕ → List MethodKey → Type 0
Beside all [] [] = Unit {0}
Beside all [] (k ∷ ks) = ⊥
Beside all (r ∷ rs) [] = ⊥
Beside all (r ∷ rs) (k ∷ ks) = (slice_get all r ≡ Some k) × Beside all rs ks

beside_cons : (all : List MethodKey) (rs : List ℕ) (ks : List MethodKey) (r : ℕ) (k : MethodKey) (a b : Bool) → a ≡ b → slice_get all r ≡ Some k →
    Beside all rs ks → Beside all (cond a (r ∷ rs) rs) (cond b (k ∷ ks) ks)
beside_cons all rs ks r k true b e at rest = rw (← e) (at, rest)
beside_cons all rs ks r k false b e at rest = rw (← e) rest

filtered : (all : List MethodKey) (left : ℕ → Bool) (counts : MethodKey → Bool) → ((i : ℕ) (k : MethodKey) → slice_get all i ≡ Some k → left i ≡ counts k)
    → (rest : List MethodKey) (first : ℕ) → ((j : ℕ) → slice_get all (first + j) ≡ slice_get rest j) →
    Beside all (filter left (rows_from first (length rest))) (filter counts rest)
filtered all left counts same [] first at = tt
filtered all left counts same (k ∷ rest) first at =
    let here : slice_get all first ≡ Some k = ap (slice_get all) (omega arith) ∙ at 0 in
    beside_cons all _ _ first k (left first) (counts k) (same first k here) here
    (filtered all left counts same rest (suc first) (λ j. ap (slice_get all) (omega arith) ∙ at (suc j)))

all_alike : (all : List MethodKey) (f : ℕ → Bool) (g : MethodKey → Bool) → ((i : ℕ) (k : MethodKey) → slice_get all i ≡ Some k → f i ≡ g k) →
    (rs : List ℕ) (ks : List MethodKey) → Beside all rs ks → list_all f rs ≡ list_all g ks
all_alike all f g same [] [] beside = refl
all_alike all f g same [] (k ∷ ks) beside = absurd beside
all_alike all f g same (r ∷ rs) [] beside = absurd beside
all_alike all f g same (r ∷ rs) (k ∷ ks) beside = rw (same r k beside.0, all_alike all f g same rs ks beside.1) refl

found : (all : List MethodKey) (f : ℕ → Bool) (g : MethodKey → Bool) → ((i : ℕ) (k : MethodKey) → slice_get all i ≡ Some k → f i ≡ g k) →
    (rs : List ℕ) (ks : List MethodKey) → Beside all rs ks
    → look_of all (elim (find f rs) [ Some row ↦ chosen.Row row | None ↦ chosen.Many ]) ≡ elim (find g ks) [ Some k ↦ look.One k | None ↦ look.Many ]
found all f g same [] [] beside = refl
found all f g same [] (k ∷ ks) beside = absurd beside
found all f g same (r ∷ rs) [] beside = absurd beside
found all f g same (r ∷ rs) (k ∷ ks) beside = step (found all f g same rs ks beside.1) (f r) (g k) (same r k beside.0)
  where
    step : look_of all (elim (find f rs) [ Some row ↦ chosen.Row row | None ↦ chosen.Many ]) ≡ elim (find g ks) [ Some k ↦ look.One k | None ↦ look.Many ]
        → (a b : Bool) → a ≡ b → look_of all (elim (cond a (Some r) (find f rs)) [ Some row ↦ chosen.Row row | None ↦ chosen.Many ]) ≡ elim
        (cond b (Some k) (find g ks)) [ Some k ↦ look.One k | None ↦ look.Many ]
    step later true b e = rw (← e) (ap (λ (o : Option MethodKey). elim o [ Some key ↦ look.One key | None ↦ look.Many ]) beside.0)
    step later false b e = rw (← e) later

-- no row is in the mask 0
none_has : (i : ℕ) → has 0 i ≡ false
none_has i = ap (λ bit. bit == 1) (bit_at-zero i)

module _ (program : List Decl) where
  masks_held : (r : Places) (image : Image) (i : ℕ) (objects : List Thing) (objects' : List Placed) → ThingsAlike r objects objects' →
      (positions : List Position) (xs : List Bytes) → AreHeldAt r program image i positions xs → (values : List Value) →
      list_all (λ mask. has mask i) (masks_of image objects' values positions) ≡ are_held program (things objects) values xs
  masks_held r image i objects objects' h [] [] k [] = refl
  masks_held r image i objects objects' h [] [] k (value ∷ values) = ap (λ so. so && list_all (λ mask. has mask i) (masks_of image objects' values []))
      (none_has i)
  masks_held r image i objects objects' h [] (x ∷ xs) k values = absurd k
  masks_held r image i objects objects' h (position ∷ positions) [] k values = absurd k
  masks_held r image i objects objects' h (position ∷ positions) (x ∷ xs) k [] =
      ap (λ so. so && list_all (λ mask. has mask i) (masks_of image objects' [] positions)) (none_has i)
  masks_held r image i objects objects' h (position ∷ positions) (x ∷ xs) k (value ∷ values) =
      ap (λ so. so && list_all (λ mask. has mask i) (masks_of image objects' values positions)) (k.0 objects objects' value h)
      ∙ ap (λ so. holds program (things objects) value x && so) (masks_held r image i objects objects' h positions xs k.1 values)

  chosen_same : (all : List MethodKey) (beats : List ℕ) → ((i j : ℕ) (k l : MethodKey) → slice_get all i ≡ Some k → slice_get all j ≡ Some l →
      has (beaten beats i) j ≡ (lookups.same_method k l || lookups.is_more_specific program k l))
      → (rs : List ℕ) (ks : List MethodKey) → Beside all rs ks → look_of all (masks.choice beats rs) ≡ lookups.choice program ks
  chosen_same all beats same [] [] beside = refl
  chosen_same all beats same [] (k ∷ ks) beside = absurd beside
  chosen_same all beats same (r ∷ rs) [] beside = absurd beside
  chosen_same all beats same (r ∷ rs) (k ∷ ks) beside =
      found all (covers beats (r ∷ rs)) (is_best program (k ∷ ks)) (λ i k' at. all_alike all (has (beaten beats i))
      (λ other. lookups.same_method k' other || lookups.is_more_specific program k' other) (λ j l at2. same i j k' l at at2) (r ∷ rs) (k ∷ ks) beside)
      (r ∷ rs) (k ∷ ks) beside

  -- The choice among methods doesn't depend on their order.
  best_on : (xs ys : List MethodKey) (m : MethodKey) → ((k : MethodKey) → IsIn k xs → IsIn k ys) → ((k : MethodKey) → IsIn k ys → IsIn k xs) →
      IsBest program xs m → IsBest program ys m
  best_on xs ys m to from best = (to m best.0, λ k i. best.1 k (from k i))

  no_members : (ys : List MethodKey) → ((k : MethodKey) → IsIn k ys → ⊥) → ys ≡ []
  no_members [] none = refl
  no_members (y ∷ ys) none = absurd (none y (inl refl))

  choice_same : IsProgram program → Chains → (xs ys : List MethodKey) → ((k : MethodKey) → IsIn k xs → IsIn k ys) →
      ((k : MethodKey) → IsIn k ys → IsIn k xs) → lookups.choice program xs ≡ lookups.choice program ys
  choice_same well chains xs ys to from = by (lookups.choice program xs) refl
    where
      by : (o : Look) → lookups.choice program xs ≡ o → o ≡ lookups.choice program ys
      by (look.One m) e = sym (is_one program well chains ys m (best_on xs ys m to from (one_is program xs m e)))
      by look.None e = let empty = none_is program xs e in sym (is_none program ys (no_members ys (λ k i. subst (IsIn k) empty (from k i))))
      by look.Many e =
          let many = many_is program well chains xs e in
          sym (is_many program ys many.0.0 (to many.0.0 many.0.1) (λ m best. many.1 m (best_on ys xs m from to best)))

  filter_on : (test : MethodKey → Bool) (xs ys : List MethodKey) → ((k : MethodKey) → IsIn k xs → IsIn k ys) → (k : MethodKey) → IsIn k (filter test xs) →
      IsIn k (filter test ys)
  filter_on test xs ys to k i = let r = find.left_is test xs k i in find.is_left test ys k (to k r.0) r.1

  module _ (well : IsProgram program) (chains : Chains) (r : Places) (image : Image) (selector : Selector) (keys : List MethodKey) (table : Table)
      (is : TableIs r program image selector keys table) where
    -- a row from which a message goes on, and its method
    abbrev pub Below : Option ℕ → Option MethodKey → Type 0
    Below None None = Unit {0}
    Below None (Some from) = ⊥
    Below (Some row) None = ⊥
    Below (Some row) (Some from) = slice_get keys row ≡ Some from

    below_same : (row : Option ℕ) (from : Option MethodKey) → Below row from → (i : ℕ) (k : MethodKey) → slice_get keys i ≡ Some k →
        masks.is_below (beats table) row i ≡ lookups.is_below program from k
    below_same None None h i k at = refl
    below_same None (Some from) h i k at = absurd h
    below_same (Some row) None h i k at = absurd h
    below_same (Some row) (Some from) h i k at = is.below row i from k h at

    -- What a table picks is what lookup finds.
    pub table_finds : (objects : List Thing) (objects' : List Placed) (values : List Value) (row : Option ℕ) (from : Option MethodKey) →
        ThingsAlike r objects objects' → Below row from →
        look_of keys (dispatched image objects' table values row) ≡ lookup program (things objects) selector values from
    table_finds objects objects' values row from alike h =
        let test : MethodKey → Bool = λ m. lookups.is_below program from m && are_held program (things objects) values m.specialisers in
        let left : ℕ → Bool = is_left (beats table) (masks_of image objects' values table.positions) row in
        let same : (i : ℕ) (k : MethodKey) → slice_get keys i ≡ Some k → left i ≡ test k =
        λ i k at. ap (λ so. so && list_all (λ mask. has mask i) (masks_of image objects' values table.positions)) (below_same row from h i k at)
        ∙ ap (λ so. lookups.is_below program from k && so) (masks_held r image i objects objects' alike table.positions k.specialisers
        (is.held i k at) values) in
        chosen_same keys (beats table) is.covers _ _ (subst (λ (n : ℕ). Beside keys (filter left (rows_from 0 n)) (filter test keys))
        (sym (length_beats table.rows ∙ is.count)) (filtered keys left test same keys 0 (λ j. ap (slice_get keys) (omega arith))))
        ∙ choice_same well chains (filter test keys) (filter test (methods program selector)) (filter_on test keys (methods program selector) is.has_only)
        (filter_on test (methods program selector) keys is.has_all)
      where
        length_beats : (rows : List Row) → length (map (λ row. row.beats) rows) ≡ length rows
        length_beats [] = refl
        length_beats (row ∷ rows) = ap suc (length_beats rows)
