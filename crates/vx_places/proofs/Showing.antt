-- The image of a program means the program.
use Rattle.std.proofs.Common.{◌≡◌, inl, inr, ℕ, zero, suc, ◌+◌, ◌<◌, ◌&&◌, nat_lt, true, if◌then◌else◌, List, [], ◌∷◌, length, map, codes, Option}
use Rattle.std.proofs.Common.{Some, None, slice_get, refl, sym, ap, ◌∙◌, subst, arith}
use Rattle.std.specs.Prelude.{filter}
use Rattle.std.specs.List.{find}
use Rattle.std.proofs.lemmas.Bool.{and_parts, lt-ltb}
use Rattle.vx_lists.specs.Members.{IsIn}
use Rattle.vx_lists.proofs.Finding.{found_is, left_is}
use Rattle.vx_names.specs.declared.key.Selector.{Selector}
use Rattle.vx_names.specs.declared.key.MethodKey.{MethodKey}
use Rattle.vx_syntax.specs.declared.decl.Decl.{Decl}
use Rattle.vx_syntax.specs.Expressions.{Bytes}
use Rattle.vx_program.specs.Program.{IsProgram}
use Rattle.vx_program.specs.Methods.{methods}
use Rattle.vx_model.specs.declared.value.Value.{Value}
use Rattle.vx_model.specs.declared.value.Value.TheVariants as v
use Rattle.vx_model.specs.declared.value.Thing.{Thing}
use Rattle.vx_model.specs.declared.look.Look.TheVariants as look
use Rattle.vx_model.specs.declared.report.RunError.TheVariants as e
use Rattle.vx_node.specs.declared.kind.Kind.{Kind}
use Rattle.vx_tables.specs.declared.picked.Picked.{Picked}
use Rattle.vx_tables.specs.declared.picked.Picked.TheVariants as chosen
use Rattle.vx_format.specs.declared.image.Does.{Does}
use Rattle.vx_format.specs.declared.image.Row.{Row}
use Rattle.vx_format.specs.declared.image.Table.{Table}
use Rattle.vx_format.specs.declared.image.Image.{Image}
use Rattle.vx_model.specs.Holds.{class_of}
use Rattle.vx_model.specs.Lookup.{are_held, lookup, IsBest}
use Rattle.vx_model.specs.Lookup as lookups
use Rattle.vx_model.specs.Meaning.{meaning, main_message}
use Rattle.vx_compilation.specs.TreeMeaning.{Sent}
use Rattle.vx_compilation.specs.Activations.{ToCode, ToGetter, ToSetter, ToError, ToNothing}
use Rattle.vx_compilation.specs.Agrees.{Means}
use Rattle.vx_compilation.specs.Compiled as compiled
use Rattle.vx_model.specs.Kinds.{kind}
use Rattle.vx_compilation.specs.Compiled.{asked, begun, things, variant_by, variant_at, variant_of, main_sent}
use Rattle.vx_compilation.specs.Alike as alike
use Rattle.vx_compilation.specs.Alike.{TargetAlike}
use Rattle.vx_tables.specs.Masks as masks
use Rattle.vx_tables.specs.Masks.{rows_from, picked}
use Rattle.vx_places.specs.Dispatch as placed
use Rattle.vx_places.specs.Dispatch.{Placed, clone_for, dispatched}
use Rattle.vx_places.specs.ImageMachine as place
use Rattle.vx_places.specs.ImageMachine.{Told, To, Onward, by_place, report_of}
use Rattle.vx_places.specs.Linked.{Places, ThingsAlike, MessageAlike, sends, resends, matching, Linked}
use Rattle.vx_places.specs.Tables as tables
use Rattle.vx_places.specs.Tables.{look_of, key_at, beats, ClassAt, RowAlike, TableIs}
use Rattle.vx_places.specs.Emitted.{Numbers}
use Rattle.vx_places.specs.ImageOf.{TableAt, MainAt, ImageOf, ImagesMeanThePrograms, ImagesReportAsCode}
use Rattle.vx_compilation.proofs.Asked.{chains}
use Rattle.vx_model.proofs.Choices.{one_is}
use Rattle.vx_model.proofs.NeverStuck.{held_count}
use Rattle.vx_places.proofs.Emitting.{emitted_blocks}
use Rattle.vx_places.proofs.Picking.{Below, table_finds}
use Rattle.vx_places.proofs.Linking.{linked_means, linked_reports}

-- ---- places in range

there_at : {X : Type 0} (xs : List X) (i : ℕ) → i < length xs → (x : X) × (slice_get xs i ≡ Some x)
there_at [] i h = absurd (omega (arith, h))
there_at (x ∷ xs) zero h = (x, refl)
there_at (x ∷ xs) (suc i) h = there_at xs i (omega (arith, h))

at_within : {X : Type 0} (xs : List X) (i : ℕ) (x : X) → slice_get xs i ≡ Some x → i < length xs
at_within [] i x h = absurd (let no : ⊥ = cc in no)
at_within (y ∷ xs) zero x h = omega arith
at_within (y ∷ xs) (suc i) x h = let l = at_within xs i x h in omega (arith, l)

from_within : (first count row : ℕ) → IsIn row (rows_from first count) → row < first + count
from_within first zero row h = absurd h
from_within first (suc count) row (inl same) = omega (arith, same)
from_within first (suc count) row (inr h) = let l = from_within (suc first) count row h in omega (arith, l)

picked_within : (beats masks_ : List ℕ) (below : Option ℕ) (row : ℕ) → picked beats masks_ below ≡ chosen.Row row → row < length beats
picked_within beats masks_ below row h = let l = from_within 0 (length beats) row
    (left_is (masks.is_left beats masks_ below) (rows_from 0 (length beats)) row (by (masks.rows_left beats masks_ below) h)).0 in omega (arith, l)
  where
    by : (rows : List ℕ) → masks.choice beats rows ≡ chosen.Row row → IsIn row rows
    by [] h = absurd (let no : ⊥ = cc in no)
    by (one ∷ rows) h = so (find (masks.covers beats (one ∷ rows)) (one ∷ rows)) refl h
      where
        so : (o : Option ℕ) → find (masks.covers beats (one ∷ rows)) (one ∷ rows) ≡ o → elim o [ Some best ↦ chosen.Row best | None ↦ chosen.Many ]
            ≡ chosen.Row row →
            IsIn row (one ∷ rows)
        so (Some best) f h = let same : best ≡ row = cc in subst (λ z. IsIn z (one ∷ rows)) same
            (found_is (masks.covers beats (one ∷ rows)) (one ∷ rows) best f).0
        so None f h = absurd (let no : ⊥ = cc in no)

within : (a b : ℕ) → a < b → nat_lt a b ≡ true
within a b h = lt-ltb a b h

module _ (r : Places) (g : Numbers) (program : List Decl) (well : IsProgram program) (image : Image) (own : ImageOf r g program image) where
  -- ---- classes

  class_alike : (objects : List Thing) (objects' : List Placed) → ThingsAlike r objects objects' → (value : Value) →
      ClassAt r (class_of (things objects) value) (placed.class_of image.own objects' value)
  class_alike objects objects' h (v.Int n) = own.int
  class_alike objects objects' h (v.Text bytes) = own.string
  class_alike objects objects' h (v.Closure i) = own.closure
  class_alike objects objects' h (v.Object i) = by objects objects' i h
    where
      by : (xs : List Thing) (ys : List Placed) (i : ℕ) → ThingsAlike r xs ys →
          ClassAt r (elim (slice_get xs i) [ Some thing ↦ thing.class | None ↦ [] ]) (elim (slice_get ys i) [ Some thing ↦ Some thing.class | None ↦ None ])
      by [] [] i h = refl
      by [] (y ∷ ys) i h = absurd h
      by (x ∷ xs) [] i h = absurd h
      by (x ∷ xs) (y ∷ ys) zero h = h.0.class
      by (x ∷ xs) (y ∷ ys) (suc i) h = by xs ys i h.1

  -- ---- what a row leads to

  row_target : (table : Table) (key : MethodKey) (objects : List Thing) (objects' : List Placed) (values : List Value) → ThingsAlike r objects objects' →
      length values ≡ length key.specialisers → (kd : Kind) (o : Option (ℕ × List Bytes)) (does : Does) → (asked program).clones key ≡ o →
      RowAlike r table key kd o does
      → TargetAlike (matching r) (compiled.target_by program objects key values kd) (place.goes_to image objects' table values does)
  row_target table key objects objects' values h count kd o does same (tables.source {b = b} at) =
      subst (λ z. TargetAlike (matching r) (ToCode (record { method = key; variant = variant_by objects values z })) (ToCode b)) (sym same) (alike.code at)
  row_target table key objects objects' values h count kd o does same (tables.split {b = b} {classes = classes} {own = split} less ats) =
      let one = there_at values split.position (subst (λ n. split.position < n) (sym count) less) in
      subst (λ z. TargetAlike (matching r) (ToCode (record { method = key; variant = variant_by objects values z }))
      (place.goes_to image objects' table values does)) (sym same)
      (subst (λ so. TargetAlike (matching r)
      (ToCode (record { method = key; variant = variant_at objects classes split.position (slice_get values split.position) }))
      (if so then ToCode (clone_for b (place.class_at image.own objects' (slice_get values split.position)) split.pairs) else ToNothing))
      (sym (within split.position (length values) (at_within values split.position one.0 one.1)))
      (subst (λ (z : Option Value). TargetAlike (matching r) (ToCode (record { method = key; variant = variant_at objects classes split.position z }))
      (ToCode (clone_for b (place.class_at image.own objects' z) split.pairs))) (sym one.1)
      (alike.code (ats (class_of (things objects) one.0) (placed.class_of image.own objects' one.0) (class_alike objects objects' h one.0)))))
  row_target table key objects objects' values h count kd o does same tables.primitive = alike.primitive
  row_target table key objects objects' values h count kd o does same (tables.getter {f = f} at name) =
      subst (λ z. TargetAlike (matching r) (compiled.target_by program objects key values kd) (ToGetter f z)) (sym name) (alike.getter at)
  row_target table key objects objects' values h count kd o does same (tables.setter {f = f} at name) =
      subst (λ z. TargetAlike (matching r) (compiled.target_by program objects key values kd) (ToSetter f z)) (sym name) (alike.setter at)

  -- ---- what a table makes of arguments

  found_count : (objects : List Thing) (selector : Selector) (values : List Value) (from : Option MethodKey) (key : MethodKey) →
      lookup program (things objects) selector values from ≡ look.One key → length values ≡ length key.specialisers
  found_count objects selector values from key e =
      let best = one_is program _ key e in
      let left = left_is (λ m. lookups.is_below program from m && are_held program (things objects) values m.specialisers)
      (methods program selector) key best.0 in
      held_count program (things objects) values key.specialisers (and_parts (lookups.is_below program from key) _ left.1).1

  table_target : (selector : Selector) (table : Table) → (is : TableIs r program image selector (r.methods selector) table) →
      (objects : List Thing) (objects' : List Placed) (values : List Value) (row : Option ℕ) (from : Option MethodKey) → ThingsAlike r objects objects' →
      Below program well chains r image selector (r.methods selector) table is row from →
      TargetAlike (matching r) (compiled.target program objects selector values (lookup program (things objects) selector values from))
      (place.target image objects' table values (dispatched image objects' table values row))
  table_target selector table is objects objects' values row from h below = by (dispatched image objects' table values row) refl
    where
      finds : look_of (r.methods selector) (dispatched image objects' table values row) ≡ lookup program (things objects) selector values from
      finds = table_finds program well chains r image selector (r.methods selector) table is objects objects' values row from h below

      found_row : (o : Option MethodKey) (o' : Option Row) (i : ℕ) → slice_get (r.methods selector) i ≡ o → slice_get table.rows i ≡ o' →
          i < length table.rows → elim o [ Some key ↦ look.One key | None ↦ look.Many ] ≡ lookup program (things objects) selector values from →
          TargetAlike (matching r) (compiled.target program objects selector values (elim o [ Some key ↦ look.One key | None ↦ look.Many ]))
          (elim o' [ Some own ↦ place.goes_to image objects' table values own.does | None ↦ ToNothing ])
      found_row None o' i e e' less f = let one = there_at (r.methods selector) i (subst (λ n. i < n) is.count less) in
          absurd (let s : None ≡ Some one.0 = sym e ∙ one.1 in let no : ⊥ = cc in no)
      found_row (Some key) None i e e' less f = let one = there_at table.rows i less in
          absurd (let s : None ≡ Some one.0 = sym e' ∙ one.1 in let no : ⊥ = cc in no)
      found_row (Some key) (Some one) i e e' less f =
          row_target table key objects objects' values h (found_count objects selector values from key (sym f)) (kind program key)
          ((asked program).clones key) one.does refl (is.rows i key one e e')

      length_beats : (rows : List Row) → length (map (λ row. row.beats) rows) ≡ length rows
      length_beats [] = refl
      length_beats (row ∷ rows) = ap suc (length_beats rows)

      so : (pk : Picked) → dispatched image objects' table values row ≡ pk →
          look_of (r.methods selector) pk ≡ lookup program (things objects) selector values from →
          TargetAlike (matching r) (compiled.target program objects selector values (look_of (r.methods selector) pk))
          (place.target image objects' table values pk)
      so (chosen.Row i) e f =
          let less = picked_within (beats table) (placed.masks_of image objects' values table.positions) row i e in
          found_row (slice_get (r.methods selector) i) (slice_get table.rows i) i refl refl (subst (λ n. i < n) (length_beats table.rows) less) f
      so chosen.None same f = subst (λ z. TargetAlike (matching r) (ToError (e.NotUnderstood selector)) (ToError (e.NotUnderstood z))) (sym is.told) alike.error
      so chosen.Many same f = subst (λ z. TargetAlike (matching r) (ToError (e.Ambiguous selector)) (ToError (e.Ambiguous z))) (sym is.told) alike.error

      by : (pk : Picked) → dispatched image objects' table values row ≡ pk →
          TargetAlike (matching r) (compiled.target program objects selector values (lookup program (things objects) selector values from))
          (place.target image objects' table values pk)
      by pk e =
          let f = ap (look_of (r.methods selector)) (sym e) ∙ finds in
          subst (λ z. TargetAlike (matching r) (compiled.target program objects selector values z) (place.target image objects' table values pk)) f (so pk e f)

  sent_alike : (selector : Selector) (o : Option Table) → TableAt r g program image selector o →
      (objects : List Thing) (objects' : List Placed) (values : List Value) → ThingsAlike r objects objects' →
      TargetAlike (matching r) (compiled.target program objects selector values (lookup program (things objects) selector values None))
      (place.sent image objects' o values None)
  sent_alike selector None is objects objects' values h = absurd is
  sent_alike selector (Some table) is objects objects' values h = table_target selector table is objects objects' values None None h tt

  onward_alike : (method : MethodKey) (row : ℕ) → slice_get (r.methods method.selector) row ≡ Some method → (o : Option Table) →
      TableAt r g program image method.selector o → (objects : List Thing) (objects' : List Placed) (values : List Value) → ThingsAlike r objects objects' →
      TargetAlike (matching r) (compiled.target program objects method.selector values (lookup program (things objects) method.selector values (Some method)))
      (if place.has_row o row then place.sent image objects' o values (Some row) else ToNothing)
  onward_alike method row at None is objects objects' values h = absurd is
  onward_alike method row at (Some table) is objects objects' values h =
      subst (λ b. TargetAlike (matching r) (compiled.target program objects method.selector values
      (lookup program (things objects) method.selector values (Some method)))
      (if b then place.sent image objects' (Some table) values (Some row) else ToNothing))
      (sym (within row (length table.rows) (subst (λ n. row < n) (sym is.count) (at_within (r.methods method.selector) row method at))))
      (table_target method.selector table is objects objects' values (Some row) (Some method) h at)

  tables_alike : (objects : List Thing) (objects' : List Placed) (a : Sent) (b : Told) (values : List Value) → ThingsAlike r objects objects' →
      MessageAlike r a b → TargetAlike (matching r) (compiled.dispatch program objects a values) (place.dispatch image objects' b values)
  tables_alike objects objects' a b values h (sends {selector = selector} {t = t} at) =
      sent_alike selector (slice_get image.tables t) (own.tables selector t at) objects objects' values h
  tables_alike objects objects' a b values h (resends {method = method} {t = t} {row = row} at here) =
      onward_alike method row here (slice_get image.tables t) (own.tables method.selector t at) objects objects' values h

  main_alike : (o : Option ℕ) → MainAt r g program image o →
      TargetAlike (matching r) (compiled.dispatch program (begun program).objects main_sent [])
      (elim o [
        | Some t ↦ place.dispatch image (place.opening image).objects (To t) []
        | None ↦ ToError
            (e.NotUnderstood (record { name = codes "main"; arity = 0 }))
      ])
  main_alike (Some t) at = tables_alike (begun program).objects (place.opening image).objects main_sent (To t) [] own.opening (sends at)
  main_alike None none =
      subst (λ keys. TargetAlike (matching r) (compiled.target program (begun program).objects main_message.selector []
      (lookups.choice program (filter (λ m. lookups.is_below program None m &&
      are_held program (things (begun program).objects) [] m.specialisers) keys)))
      (ToError (e.NotUnderstood (record { name = codes "main"; arity = 0 })))) (sym none) alike.error

  image_linked : Linked r program image
  image_linked = record {
    apart = λ a a' b b' at at'. own.apart a a' b b' at at';
    named = λ a b at. own.named a b at;
    nil = own.named (codes "nil") image.own.nil own.nil;
    true_ = own.named (codes "true") image.own.true_ own.true_;
    false_ = own.named (codes "false") image.own.false_ own.false_;
    opening = own.opening;
    shapes = λ a b at. own.shapes a b at;
    blocks_are = λ a b number at. emitted_blocks r g image program own.emitted a b number at;
    tables = tables_alike;
    main = main_alike image.main own.main;
  }

  -- The image of a program means the program.
  pub image_of_means : Means (report_of image) (meaning program)
  image_of_means = linked_means r program image image_linked well

pub images_mean : ImagesMeanThePrograms
images_mean r g program image well own = image_of_means r g program well image own

pub images_report : ImagesReportAsCode
images_report r g program image well own n = sym (linked_reports r program image (image_linked r g program well image own) well n)
