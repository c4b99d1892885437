-- The image of a program means the program.
use Rattle.std.proofs.Common.{◌≡◌, ℕ, zero, suc, ◌==◌, ◌&&◌, Bool, true, false, if◌then◌else◌, List, [], ◌∷◌, ◌++◌, length, Option, Some, None}
use Rattle.std.proofs.Common.{is_some, slice_get, refl, ap, ◌∙◌, subst}
use Rattle.std.specs.Prelude.{slice_set}
use Rattle.vx_names.specs.declared.key.FieldKey.{FieldKey}
use Rattle.vx_syntax.specs.declared.decl.Decl.{Decl}
use Rattle.vx_syntax.specs.Expressions.{Bytes}
use Rattle.vx_program.specs.Program.{IsProgram}
use Rattle.vx_model.specs.declared.value.Value.{Value}
use Rattle.vx_model.specs.declared.value.Value.TheVariants as v
use Rattle.vx_model.specs.declared.value.Thing.{Thing}
use Rattle.vx_format.specs.declared.image.Slot.{Slot}
use Rattle.vx_format.specs.declared.image.Image.{Image}
use Rattle.vx_model.specs.Holds.{same_field, slot, slot_of}
use Rattle.vx_model.specs.Values.{truth, fresh_slots}
use Rattle.vx_model.specs.Meaning as mean
use Rattle.vx_model.specs.Meaning.{meaning}
use Rattle.vx_model.specs.Primitives.{deed_at}
use Rattle.vx_compilation.specs.Agrees.{Means}
use Rattle.vx_compilation.specs.Code as code
use Rattle.vx_compilation.specs.Compiled as compiled
use Rattle.vx_compilation.specs.Compiled.{blocks, begun, things}
use Rattle.vx_compilation.specs.Activations.{Makes, NoSlot, NoClass}
use Rattle.vx_compilation.specs.Alike as alike
use Rattle.vx_compilation.specs.Alike.{FieldsAlike, MakingAlike, PutAlike, Alike}
use Rattle.vx_places.specs.Dispatch as placed
use Rattle.vx_places.specs.Dispatch.{Placed, slot_at}
use Rattle.vx_places.specs.ImageMachine as place
use Rattle.vx_places.specs.ImageMachine.{by_place, report_of}
use Rattle.vx_places.specs.Linked.{Places, At, SlotsAlike, ThingAlike, ThingsAlike, matching, ShapeAlike, Linked}
use Rattle.vx_compilation.proofs.Images.{means_same, reports_same}
use Rattle.vx_compilation.proofs.Whole.{compiled_code_means}
use Rattle.vx_compilation.specs.Compiled.{code_report}

module _ (r : Places) (program : List Decl) (image : Image) (link : Linked r program image) where
  -- ---- slots

  slot_same : (a : FieldKey) (b : ℕ) → At r.fields a b → (xs : List (FieldKey × Value)) (ys : List (ℕ × Value)) → SlotsAlike r xs ys → slot a xs ≡ slot_at b ys
  slot_same a b at [] [] h = refl
  slot_same a b at [] (y ∷ ys) h = absurd h
  slot_same a b at (x ∷ xs) [] h = absurd h
  slot_same a b at (x ∷ xs) (y ∷ ys) h =
      ap (λ so. if so then Some x.1 else slot a xs) (link.apart x.0 a y.0 b h.0 at)
      ∙ ap (λ (value : Value). if y.0 == b then Some value else slot a xs) h.1
      ∙ ap (λ o. if y.0 == b then Some y.1 else o) (slot_same a b at xs ys h.2)

  put_if : (so : Bool) (x : FieldKey × Value) (y : ℕ × Value) (value : Value) (xs xs' : List (FieldKey × Value)) (ys ys' : List (ℕ × Value)) →
      At r.fields x.0 y.0 → x.1 ≡ y.1 → SlotsAlike r xs ys → SlotsAlike r xs' ys' →
      SlotsAlike r (if so then (x.0, value) ∷ xs else x ∷ xs') (if so then (y.0, value) ∷ ys else y ∷ ys')
  put_if true x y value xs xs' ys ys' at e h h' = (at, refl, h)
  put_if false x y value xs xs' ys ys' at e h h' = (at, e, h')

  put_slots : (a : FieldKey) (b : ℕ) → At r.fields a b → (value : Value) (xs : List (FieldKey × Value)) (ys : List (ℕ × Value)) → SlotsAlike r xs ys →
      SlotsAlike r (mean.put_slot a value xs) (place.put_slot b value ys)
  put_slots a b at value [] [] h = tt
  put_slots a b at value [] (y ∷ ys) h = absurd h
  put_slots a b at value (x ∷ xs) [] h = absurd h
  put_slots a b at value (x ∷ xs) (y ∷ ys) h =
      subst (λ so. SlotsAlike r (mean.put_slot a value (x ∷ xs)) (if so then (y.0, value) ∷ ys else y ∷ place.put_slot b value ys))
      (link.apart x.0 a y.0 b h.0 at)
      (put_if (same_field x.0 a) x y value xs (mean.put_slot a value xs) ys (place.put_slot b value ys) h.0 h.1 h.2 (put_slots a b at value xs ys h.2))

  filled_slots : (as' : List FieldKey) (bs : List ℕ) → FieldsAlike (matching r) as' bs →
      (values : List Value) (xs : List (FieldKey × Value)) (ys : List (ℕ × Value)) → SlotsAlike r xs ys →
      SlotsAlike r (mean.filled as' values xs) (place.filled bs values ys)
  filled_slots [] [] k values xs ys h = h
  filled_slots [] (b ∷ bs) k values xs ys h = absurd k
  filled_slots (a ∷ as') [] k values xs ys h = absurd k
  filled_slots (a ∷ as') (b ∷ bs) k [] xs ys h = h
  filled_slots (a ∷ as') (b ∷ bs) k (value ∷ values) xs ys h = filled_slots as' bs k.1 values _ _ (put_slots a b k.0 value xs ys h)

  have_same : (as' : List FieldKey) (bs : List ℕ) → FieldsAlike (matching r) as' bs → (xs : List (FieldKey × Value)) (ys : List (ℕ × Value)) →
      SlotsAlike r xs ys → compiled.have_slots as' xs ≡ place.have_slots bs ys
  have_same [] [] k xs ys h = refl
  have_same [] (b ∷ bs) k xs ys h = absurd k
  have_same (a ∷ as') [] k xs ys h = absurd k
  have_same (a ∷ as') (b ∷ bs) k xs ys h = ap (λ o. is_some o && compiled.have_slots as' xs) (slot_same a b k.0 xs ys h) ∙
      ap (λ so. is_some (slot_at b ys) && so) (have_same as' bs k.1 xs ys h)

  -- ---- objects

  abbrev ThingAt : Option Thing → Option Placed → Type 0
  ThingAt None None = Unit {0}
  ThingAt None (Some b) = ⊥
  ThingAt (Some a) None = ⊥
  ThingAt (Some a) (Some b) = ThingAlike r a b

  thing_at : (xs : List Thing) (ys : List Placed) (i : ℕ) → ThingsAlike r xs ys → ThingAt (slice_get xs i) (slice_get ys i)
  thing_at [] [] i h = tt
  thing_at [] (y ∷ ys) i h = absurd h
  thing_at (x ∷ xs) [] i h = absurd h
  thing_at (x ∷ xs) (y ∷ ys) zero h = h.0
  thing_at (x ∷ xs) (y ∷ ys) (suc i) h = thing_at xs ys i h.1

  things_set : (xs : List Thing) (ys : List Placed) (i : ℕ) (a : Thing) (b : Placed) → ThingAlike r a b → ThingsAlike r xs ys →
      ThingsAlike r (slice_set xs i a) (slice_set ys i b)
  things_set [] [] i a b k h = tt
  things_set [] (y ∷ ys) i a b k h = absurd h
  things_set (x ∷ xs) [] i a b k h = absurd h
  things_set (x ∷ xs) (y ∷ ys) zero a b k h = (k, h.1)
  things_set (x ∷ xs) (y ∷ ys) (suc i) a b k h = (h.0, things_set xs ys i a b k h.1)

  things_push : (xs : List Thing) (ys : List Placed) (a : Thing) (b : Placed) → ThingAlike r a b → ThingsAlike r xs ys →
      ThingsAlike r (xs ++ a ∷ []) (ys ++ b ∷ [])
  things_push [] [] a b k h = (k, tt)
  things_push [] (y ∷ ys) a b k h = absurd h
  things_push (x ∷ xs) [] a b k h = absurd h
  things_push (x ∷ xs) (y ∷ ys) a b k h = (h.0, things_push xs ys a b k h.1)

  things_length : (xs : List Thing) (ys : List Placed) → ThingsAlike r xs ys → length xs ≡ length ys
  things_length [] [] h = refl
  things_length [] (y ∷ ys) h = absurd h
  things_length (x ∷ xs) [] h = absurd h
  things_length (x ∷ xs) (y ∷ ys) h = ap suc (things_length xs ys h.1)

  got_same : (a : FieldKey) (b : ℕ) → At r.fields a b → (value : Value) (xs : List Thing) (ys : List Placed) → ThingsAlike r xs ys →
      slot_of (things xs) value a ≡ placed.slot_of ys value b
  got_same a b at (v.Int n) xs ys h = refl
  got_same a b at (v.Text bytes) xs ys h = refl
  got_same a b at (v.Closure i) xs ys h = refl
  got_same a b at (v.Object i) xs ys h = by (slice_get xs i) (slice_get ys i) (thing_at xs ys i h)
    where
      by : (o : Option Thing) (o' : Option Placed) → ThingAt o o' → ◌≡◌ {A = Option Value} (elim o [ Some thing ↦ slot a thing.slots | None ↦ None ])
          (elim o' [ Some own ↦ slot_at b own.slots | None ↦ None ])
      by None None k = refl
      by None (Some y) k = absurd k
      by (Some x) None k = absurd k
      by (Some x) (Some y) k = slot_same a b at x.slots y.slots k.slots

  changed_alike : (a : FieldKey) (b : ℕ) → At r.fields a b → (own value : Value) (xs : List Thing) (ys : List Placed) → ThingsAlike r xs ys →
      PutAlike (matching r) (mean.changed a own value xs) (place.changed b own value ys)
  changed_alike a b at (v.Int n) value xs ys h = tt
  changed_alike a b at (v.Text bytes) value xs ys h = tt
  changed_alike a b at (v.Closure i) value xs ys h = tt
  changed_alike a b at (v.Object i) value xs ys h = by (slice_get xs i) (slice_get ys i) (thing_at xs ys i h)
    where
      by : (o : Option Thing) (o' : Option Placed) → ThingAt o o' → PutAlike (matching r)
          (elim o [ Some thing ↦ Some (slice_set xs i (record thing { slots = mean.put_slot a value thing.slots })) | None ↦ None ])
          (elim o' [ Some own ↦ Some (slice_set ys i (record own { slots = place.put_slot b value own.slots })) | None ↦ None ])
      by None None k = tt
      by None (Some y) k = absurd k
      by (Some x) None k = absurd k
      by (Some x) (Some y) k = things_set xs ys i _ _ (record { class = k.class; slots = put_slots a b at value x.slots y.slots k.slots }) h

  put_alike : (a : FieldKey) (b : ℕ) → At r.fields a b → (own value : Value) (xs : List Thing) (ys : List Placed) → ThingsAlike r xs ys →
      PutAlike (matching r) (compiled.put a own value xs) (place.put b own value ys)
  put_alike a b at own value xs ys h =
      subst (λ (o : Option Value). PutAlike (matching r) (compiled.put a own value xs) (elim o [ Some old ↦ place.changed b own value ys | None ↦ None ]))
      (got_same a b at own xs ys h) (by (slot_of (things xs) own a))
    where
      by : (o : Option Value) → PutAlike (matching r) (elim o [ Some old ↦ mean.changed a own value xs | None ↦ None ])
          (elim o [ Some old ↦ place.changed b own value ys | None ↦ None ])
      by None = tt
      by (Some old) = changed_alike a b at own value xs ys h

  made_with : (a : Bytes) (b : ℕ) → At r.objects a b → (as' : List FieldKey) (bs : List ℕ) → FieldsAlike (matching r) as' bs →
      (values : List Value) (xs : List Thing) (ys : List Placed) → ThingsAlike r xs ys → (slots : List (ℕ × Value)) →
      SlotsAlike r (fresh_slots program a) slots →
      MakingAlike (matching r) (compiled.made program a as' values xs) (place.made_of b bs values ys slots)
  made_with a b at as' bs k values xs ys h slots hs =
      subst (λ so. MakingAlike (matching r) (compiled.made program a as' values xs)
      (if so then Makes (v.Object (length ys)) (ys ++ record { class = b; slots = place.filled bs values slots } ∷ []) else NoSlot))
      (have_same as' bs k (fresh_slots program a) slots hs)
      (subst (λ n. MakingAlike (matching r) (compiled.made program a as' values xs)
      (if compiled.have_slots as' (fresh_slots program a) then Makes (v.Object n)
      (ys ++ record { class = b; slots = place.filled bs values slots } ∷ []) else NoSlot)) (things_length xs ys h)
      (by (compiled.have_slots as' (fresh_slots program a))))
    where
      by : (so : Bool) → MakingAlike (matching r) (if so then Makes (v.Object (length xs))
          (xs ++ record { class = a; slots = mean.filled as' values (fresh_slots program a) } ∷ []) else NoSlot)
          (if so then Makes (v.Object (length xs)) (ys ++ record { class = b; slots = place.filled bs values slots } ∷ []) else NoSlot)
      by true = alike.makes (things_push xs ys _ _ (record { class = at; slots = filled_slots as' bs k values (fresh_slots program a) slots hs }) h)
      by false = alike.no_slot

  made_alike : (a : Bytes) (b : ℕ) → At r.objects a b → (as' : List FieldKey) (bs : List ℕ) → FieldsAlike (matching r) as' bs →
      (values : List Value) (xs : List Thing) (ys : List Placed) → ThingsAlike r xs ys →
      MakingAlike (matching r) (compiled.made program a as' values xs) (place.made image b bs values ys)
  made_alike a b at as' bs k values xs ys h = by (slice_get image.shapes b) (link.shapes a b at)
    where
      by : (o : Option (List Slot)) → ShapeAlike r image.own (fresh_slots program a) o →
          MakingAlike (matching r) (compiled.made program a as' values xs)
          (elim o [ Some shape ↦ place.made_of b bs values ys (place.fresh image.own shape) | None ↦ NoClass ])
      by None hs = absurd hs
      by (Some shape) hs = made_with a b at as' bs k values xs ys h (place.fresh image.own shape) hs

  truth_same : (b : Bool) → truth program b ≡ place.truth image.own b
  truth_same true = link.true_
  truth_same false = link.false_

  linked_alike : Alike (matching r) (compiled.world program) (place.world image) (code.codes_of (blocks program)) (place.codes_of image)
  linked_alike = record {
    blocks = λ a b number at. link.blocks_are a b number at;
    nil = link.nil;
    named = link.named;
    deed = λ number values. ap (λ (truths : Bool → Value). deed_at truths number values) (λ j. λ b. truth_same b j);
    dispatch = λ objects objects' a b values h at. link.tables objects objects' a b values h at;
    made = λ a b as' bs values objects objects' at k h. made_alike a b at as' bs k values objects objects' h;
    got = λ a b value objects objects' at h. got_same a b at value objects objects' h;
    put = λ a b own value objects objects' at h. put_alike a b at own value objects objects' h;
  }

  -- The image of a program reports as the program's code by names does, as soon as its parts correspond,
  pub linked_reports : IsProgram program → (n : ℕ) → code_report program n ≡ report_of image n
  unfolding report_of
  linked_reports well =
      reports_same program well by_place (matching r) (place.world image) (place.codes_of image) linked_alike (place.opening image) (place.main_found image)
      (record { objects = link.opening; cells = refl; closures = tt; next = refl; lines = refl }) link.main

  -- and so means the program.
  pub linked_means : IsProgram program → Means (report_of image) (meaning program)
  linked_means well = means_same (code_report program) (report_of image) (meaning program) (linked_reports well) (compiled_code_means program well)
