-- A table with a position: that `TableIs` asks for nothing that can't be.
use Rattle.std.proofs.Common.{◌≡◌, ℕ, zero, suc, ◌==◌, ◌&&◌, ◌||◌, not, true, false, List, [], ◌∷◌, ◌++◌, map, codes, Some, None, slice_get, refl, subst}
use Rattle.std.specs.List.{position_or_len}
use Rattle.std.specs.Str.{bytes_eq}
use Rattle.vx_names.specs.declared.key.MethodKey.{MethodKey}
use Rattle.vx_syntax.specs.declared.expr.Stmt.TheVariants as t
use Rattle.vx_syntax.specs.declared.decl.Decl.{Decl}
use Rattle.vx_syntax.specs.Expressions.{Bytes}
use Rattle.vx_program.specs.Prelude.{primitives, prelude_objects}
use Rattle.vx_model.specs.declared.value.Value.TheVariants as v
use Rattle.vx_model.specs.declared.value.Thing.{Thing}
use Rattle.vx_node.specs.declared.node.Variant.TheVariants as variant
use Rattle.vx_format.specs.declared.image.Position.{Position}
use Rattle.vx_format.specs.declared.image.Row.{Row}
use Rattle.vx_format.specs.declared.image.Table.{Table}
use Rattle.vx_format.specs.declared.image.Does.TheVariants as deed
use Rattle.vx_format.specs.declared.image.Image.{Image}
use Rattle.vx_model.specs.Order.{plain_names}
use Rattle.vx_model.specs.Holds.{holds}
use Rattle.vx_model.specs.Lookup.{is_more_specific, same_method}
use Rattle.vx_compilation.specs.TreeMeaning.{CodeKey}
use Rattle.vx_model.specs.Kinds.{kind}
use Rattle.vx_compilation.specs.Compiled.{asked, things}
use Rattle.vx_tables.specs.Masks.{has, beaten}
use Rattle.vx_places.specs.Dispatch.{Placed, mask_of, class_mask}
use Rattle.vx_places.specs.Linked.{Places, ThingsAlike}
use Rattle.vx_places.specs.Tables as tables
use Rattle.vx_places.specs.Tables.{TableIs, HeldAt, AreHeldAt, RowAlike}
use Rattle.vx_compilation.proofs.TreeRows.{method, name}
use Rattle.vx_places.proofs.SumImage.{each_place}

-- method f(x@int) { x }
abbrev program : List Decl
program = prelude_objects ++ method (codes "f") (codes "x" ∷ []) (codes "int" ∷ []) (t.Do (name (codes "x")) ∷ []) ∷ []

abbrev f_key : MethodKey
f_key = record { selector = record { name = codes "f"; arity = 1 }; specialisers = codes "int" ∷ [] }

abbrev f_code : CodeKey
f_code = record { method = f_key; variant = variant.General }

abbrev names : List Bytes
names = plain_names program

abbrev at_name : Bytes → ℕ
at_name x = position_or_len (λ y. bytes_eq y x) names

abbrev places : Places
places = record { objects = names; fields = []; selectors = f_key.selector ∷ []; codes = f_code ∷ []; methods = λ selector. f_key ∷ [] }

-- integers alone have the row
abbrev numbers_only : Position
numbers_only = record { default = 0; classes = record { symbol = at_name (codes "int"); mask = 1 } ∷ []; tests = [] }

abbrev row : Row
row = record { does = deed.Code 0 None; beats = 1 }

abbrev table : Table
table = record { name = codes "f"; arity = 1; rows = row ∷ []; positions = numbers_only ∷ [] }

abbrev image : Image
image = record {
  fields = 0;
  own = record {
    closure = at_name (codes "closure");
    false_ = at_name (codes "false");
    int = at_name (codes "int");
    nil = at_name (codes "nil");
    string =
        at_name (codes "string");
    true_ = at_name (codes "true");
  };
  main = None;
  shapes = map (λ x. []) names;
  tests = [];
  tables = table ∷ [];
  codes = [];
}

alone : (i : ℕ) (key : MethodKey) → slice_get (f_key ∷ []) i ≡ Some key → f_key ≡ key
alone zero key e = cc
alone (suc i) key e = absurd (let no : ⊥ = cc in no)

-- an object of each class
class_held : (a : Bytes) (b : ℕ) → slice_get names b ≡ Some a → has (class_mask 0 b numbers_only.classes) 0 ≡ holds program
    (things (record { class = a; slots = [] } ∷ [])) (v.Object 0) (codes "int")
class_held = each_place (λ a b. has (class_mask 0 b numbers_only.classes) 0 ≡ holds program (things (record { class = a; slots = [] } ∷ [])) (v.Object 0)
    (codes "int")) names
    (refl, (refl, (refl, (refl, (refl, (refl, (refl, (refl, tt))))))))

object_held : (objects : List Thing) (objects' : List Placed) (i : ℕ) → ThingsAlike places objects objects' →
    has (mask_of image objects' (v.Object i) numbers_only) 0 ≡ holds program (things objects) (v.Object i) (codes "int")
object_held [] [] i h = refl
object_held [] (y ∷ ys) i h = absurd h
object_held (x ∷ xs) [] i h = absurd h
object_held (x ∷ xs) (y ∷ ys) zero h = class_held x.class y.class h.0.class
object_held (x ∷ xs) (y ∷ ys) (suc i) h = object_held xs ys i h.1

number_held : HeldAt places program image 0 numbers_only (codes "int")
number_held objects objects' (v.Int n) h = refl
number_held objects objects' (v.Text bytes) h = refl
number_held objects objects' (v.Closure i) h = refl
number_held objects objects' (v.Object i) h = object_held objects objects' i h

f_table : TableIs places program image f_key.selector (f_key ∷ []) table
unfolding primitives asked
f_table = record {
  told = refl;
  count = refl;
  has_all = λ key i. i;
  has_only = λ key i. i;
  covers = covers;
  below = below;
  held = held;
  rows = rows;
}
  where
    covers : (i j : ℕ) (k l : MethodKey) → slice_get (f_key ∷ []) i ≡ Some k → slice_get (f_key ∷ []) j ≡ Some l →
        has (beaten (1 ∷ []) i) j ≡ (same_method k l || is_more_specific program k l)
    covers zero zero k l e f = subst (λ z. true ≡ (same_method z l || is_more_specific program z l)) (alone 0 k e)
        (subst (λ z. true ≡ (same_method f_key z || is_more_specific program f_key z)) (alone 0 l f) refl)
    covers (suc i) j k l e f = absurd (let no : ⊥ = cc in no)
    covers zero (suc j) k l e f = absurd (let no : ⊥ = cc in no)

    below : (i j : ℕ) (k l : MethodKey) → slice_get (f_key ∷ []) i ≡ Some k → slice_get (f_key ∷ []) j ≡ Some l →
        (has (beaten (1 ∷ []) i) j && not (j == i)) ≡ is_more_specific program k l
    below zero zero k l e f = subst (λ z. false ≡ is_more_specific program z l) (alone 0 k e)
        (subst (λ z. false ≡ is_more_specific program f_key z) (alone 0 l f) refl)
    below (suc i) j k l e f = absurd (let no : ⊥ = cc in no)
    below zero (suc j) k l e f = absurd (let no : ⊥ = cc in no)

    held : (i : ℕ) (k : MethodKey) → slice_get (f_key ∷ []) i ≡ Some k → AreHeldAt places program image i (numbers_only ∷ []) k.specialisers
    held zero k e = subst (λ z. AreHeldAt places program image 0 (numbers_only ∷ []) z.specialisers) (alone 0 k e) (number_held, tt)
    held (suc i) k e = absurd (let no : ⊥ = cc in no)

    rows : (i : ℕ) (key : MethodKey) (one : Row) → slice_get (f_key ∷ []) i ≡ Some key → slice_get (row ∷ []) i ≡ Some one →
        RowAlike places table key (kind program key) ((asked program).clones key) one.does
    rows zero key one e f =
        let same : row ≡ one = cc in
        subst (λ (z : Row). RowAlike places table key (kind program key) ((asked program).clones key) z.does) same
        (subst (λ z. RowAlike places table z (kind program z) ((asked program).clones z) (deed.Code 0 None)) (alone 0 key e) (tables.source refl))
    rows (suc i) key one e f = absurd (let no : ⊥ = cc in no)
