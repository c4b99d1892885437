-- The image of a small program: that `ImageOf` asks for nothing that can't be.
use Rattle.std.proofs.Common.{◌≡◌, ℕ, zero, suc, ◌+◌, ◌==◌, ◌&&◌, ◌||◌, not, true, false, List, [], ◌∷◌, map, codes, Some, None, slice_get, refl, subst, arith}
use Rattle.std.specs.List.{position_or_len}
use Rattle.std.specs.Str.{bytes_eq}
use Rattle.std.specs.Prelude.{pos}
use Rattle.vx_names.specs.declared.key.Selector.{Selector}
use Rattle.vx_names.specs.declared.key.MethodKey.{MethodKey}
use Rattle.vx_syntax.specs.Expressions.{Bytes}
use Rattle.vx_program.specs.Prelude.{primitives}
use Rattle.vx_model.specs.declared.value.Value.TheVariants as v
use Rattle.vx_node.specs.declared.node.Variant.TheVariants as variant
use Rattle.vx_format.specs.declared.image.Row.{Row}
use Rattle.vx_format.specs.declared.image.Does.TheVariants as deed
use Rattle.vx_format.specs.declared.image.Instr.TheVariants as instr
use Rattle.vx_format.specs.declared.image.Image.{Image}
use Rattle.vx_model.specs.declared.report.Report.TheVariants as r
use Rattle.vx_model.specs.Order.{plain_names}
use Rattle.vx_model.specs.Values.{object, fresh_slots}
use Rattle.vx_model.specs.Lookup.{is_more_specific, same_method}
use Rattle.vx_compilation.specs.TreeMeaning.{CodeKey}
use Rattle.vx_model.specs.Kinds.{kind}
use Rattle.vx_compilation.specs.Compiled.{asked, blocks}
use Rattle.vx_compilation.specs.Code.{codes_of}
use Rattle.vx_tables.specs.Masks.{has, beaten}
use Rattle.vx_places.specs.ImageMachine.{report_of, block_at}
use Rattle.vx_places.specs.Linked.{Places, At, ThingAlike, ShapeAlike}
use Rattle.vx_places.specs.Emitted.{Numbers, IsBlock}
use Rattle.vx_places.specs.Tables as tables
use Rattle.vx_places.specs.Tables.{AreHeldAt, TableIs, RowAlike, beats}
use Rattle.vx_places.specs.ImageOf.{TableAt, ImageOf}
use Rattle.vx_compilation.proofs.TreeRows.{sum, main_key, line}

abbrev names : List Bytes
names = plain_names sum

abbrev at_name : Bytes → ℕ
at_name x = position_or_len (λ y. bytes_eq y x) names

abbrev main_code : CodeKey
main_code = record { method = main_key; variant = variant.General }

abbrev places : Places
places = record { objects = names; fields = []; selectors = main_key.selector ∷ []; codes = main_code ∷ []; methods = λ selector. main_key ∷ [] }

abbrev numbers : Numbers
numbers = record { object = at_name; field = λ field. 0; selector = λ selector. 0; code = λ code. 0 }

-- main/0 alone: 1 + 2 is a primitive, and so is its printing
abbrev image : Image
image = record {
  fields = 0;
  own = record {
    closure = at_name (codes "closure");
    false_ = at_name (codes "false");
    int = at_name (codes "int");
    nil = at_name (codes "nil");
    string =
        at_name (codes "string");
    true_ = at_name (codes "true");
  };
  main = Some 0;
  shapes = map (λ x. []) names;
  tests = [];
  tables = record { name = codes "main"; arity = 0; rows = record { does = deed.Code 0 None; beats = 1 } ∷ []; positions = [] } ∷ [];
  codes = (record {
    locals = 0;
    captures = 0;
    formals = 0;
    code = instr.Int (pos 1) ∷ instr.Int (pos 2) ∷ instr.Prim 0 ∷ instr.Prim 10 ∷ instr.Ret ∷ [];
  } ∷ []) ∷ [];
}

image_runs : report_of image 6 ≡ r.End (line 3 ∷ [])
unfolding report_of
image_runs = refl

-- what holds of each thing at its place
abbrev pub AllFrom : (Bytes → ℕ → Type 0) → List Bytes → ℕ → Type 0
AllFrom P [] first = Unit {0}
AllFrom P (x ∷ xs) first = P x first × AllFrom P xs (suc first)

at_each : (P : Bytes → ℕ → Type 0) (xs : List Bytes) (first : ℕ) → AllFrom P xs first → (a : Bytes) (b : ℕ) → slice_get xs b ≡ Some a → P a (first + b)
at_each P [] first all a b e = absurd (let no : ⊥ = cc in no)
at_each P (x ∷ xs) first all a zero e = let same : x ≡ a = cc in subst (λ y. P y (first + 0)) same
    (subst (P x) (let e : first ≡ first + 0 = omega arith in e) all.0)
at_each P (x ∷ xs) first all a (suc b) e = subst (P a) (let e : suc first + b ≡ first + suc b = omega arith in e) (at_each P xs (suc first) all.1 a b e)

pub each_place : (P : Bytes → ℕ → Type 0) (xs : List Bytes) → AllFrom P xs 0 → (a : Bytes) (b : ℕ) → slice_get xs b ≡ Some a → P a b
each_place P xs all a b e = subst (P a) (let same : 0 + b ≡ b = omega arith in same) (at_each P xs 0 all a b e)

alone : (row : ℕ) (key : MethodKey) → slice_get (main_key ∷ []) row ≡ Some key → (row ≡ 0) × (main_key ≡ key)
alone zero key e = (refl, cc)
alone (suc row) key e = absurd (let no : ⊥ = cc in no)

held : (i : ℕ) (key : MethodKey) → slice_get (main_key ∷ []) i ≡ Some key → AreHeldAt places sum image i [] key.specialisers
held i key at = subst (λ z. AreHeldAt places sum image i [] z.specialisers) (alone i key at).1 tt

main_table : TableIs places sum image main_key.selector (main_key ∷ [])
    (record { name = codes "main"; arity = 0; rows = record { does = deed.Code 0 None; beats = 1 } ∷ []; positions = [] })
unfolding primitives asked
main_table = record {
  told = refl;
  count = refl;
  has_all = λ key i. i;
  has_only = λ key i. i;
  covers = covers;
  below = below;
  held = held;
  rows = rows;
}
  where
    covers : (i j : ℕ) (k l : MethodKey) → slice_get (main_key ∷ []) i ≡ Some k → slice_get (main_key ∷ []) j ≡ Some l →
        has (beaten (1 ∷ []) i) j ≡ (same_method k l || is_more_specific sum k l)
    covers zero zero k l e f = subst (λ z. true ≡ (same_method z l || is_more_specific sum z l)) (alone 0 k e).1
        (subst (λ z. true ≡ (same_method main_key z || is_more_specific sum main_key z)) (alone 0 l f).1 refl)
    covers (suc i) j k l e f = absurd (let no : ⊥ = cc in no)
    covers zero (suc j) k l e f = absurd (let no : ⊥ = cc in no)

    below : (i j : ℕ) (k l : MethodKey) → slice_get (main_key ∷ []) i ≡ Some k → slice_get (main_key ∷ []) j ≡ Some l →
        (has (beaten (1 ∷ []) i) j && not (j == i)) ≡ is_more_specific sum k l
    below zero zero k l e f = subst (λ z. false ≡ is_more_specific sum z l) (alone 0 k e).1
        (subst (λ z. false ≡ is_more_specific sum main_key z) (alone 0 l f).1 refl)
    below (suc i) j k l e f = absurd (let no : ⊥ = cc in no)
    below zero (suc j) k l e f = absurd (let no : ⊥ = cc in no)

    rows : (i : ℕ) (key : MethodKey) (row : Row) → slice_get (main_key ∷ []) i ≡ Some key →
        slice_get (record { does = deed.Code 0 None; beats = 1 } ∷ []) i ≡ Some row →
        RowAlike places (record { name = codes "main"; arity = 0; rows = record { does = deed.Code 0 None; beats = 1 } ∷ []; positions = [] }) key
        (kind sum key) ((asked sum).clones key) row.does
    rows zero key row e f =
        let same : record { does = deed.Code 0 None; beats = 1 } ≡ row = cc in
        subst (λ (z : Row). RowAlike places (record {
          name = codes "main";
          arity = 0;
          rows = record { does = deed.Code 0 None; beats = 1 } ∷ [];
          positions =
              [];
        }) key (kind sum key) ((asked sum).clones key) z.does) same
        (subst (λ z. RowAlike places (record { name = codes "main"; arity = 0; rows = record { does = deed.Code 0 None; beats = 1 } ∷ []; positions = [] }) z
        (kind sum z) ((asked sum).clones z) (deed.Code 0 None)) (alone 0 key e).1 (tables.source refl))
    rows (suc i) key row e f = absurd (let no : ⊥ = cc in no)

thing : {x : Bytes} {b : ℕ} → At names x b → ThingAlike places (record { class = x; slots = [] }) (record { class = b; slots = [] })
thing at = record { class = at; slots = tt }

emitted : (a : CodeKey) (b number : ℕ) → At (main_code ∷ []) a b → IsBlock places numbers image (codes_of (blocks sum) a number) (block_at image b number)
unfolding primitives asked
emitted a zero number e = let same : main_code ≡ a = cc in subst (λ z. IsBlock places numbers image (codes_of (blocks sum) z number)
    (block_at image 0 number)) same (by number)
  where
    by : (number : ℕ) → IsBlock places numbers image (codes_of (blocks sum) main_code number) (block_at image 0 number)
    by zero = ((tt, (tt, (refl, (refl, (tt, tt))))), refl)
    by (suc number) = tt
emitted a (suc b) number e = absurd (let no : ⊥ = cc in no)

tables_are : (selector : Selector) (t : ℕ) → At (main_key.selector ∷ []) selector t → TableAt places numbers sum image selector (slice_get image.tables t)
tables_are selector zero e = let same : main_key.selector ≡ selector = cc in
    subst (λ z. TableAt places numbers sum image z (slice_get image.tables 0)) same main_table
tables_are selector (suc t) e = absurd (let no : ⊥ = cc in no)

sum_image : ImageOf places numbers sum image
sum_image = record {
  apart = λ a a' b b' at at'. absurd (let no : ⊥ = cc in no);
  named = λ a b at. each_place (λ x i. object sum x ≡ v.Object i) names (refl, (refl, (refl, (refl, (refl, (refl, (refl, (refl, tt)))))))) a b at;
  nil = refl;
  true_ = refl;
  false_ = refl;
  int = refl;
  string = refl;
  closure = refl;
  opening = (thing refl, (thing refl, (thing refl, (thing refl, (thing refl, (thing refl, (thing refl, (thing refl, tt))))))));
  shapes = λ a b at. each_place (λ x i. ShapeAlike places image.own (fresh_slots sum x) (slice_get image.shapes i)) names
      (tt, (tt, (tt, (tt, (tt, (tt, (tt, (tt, tt)))))))) a b at;
  emitted = emitted;
  tables = tables_are;
  main = refl;
}
