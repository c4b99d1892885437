-- Units of a few things, written out.
use Rattle.std.specs.Prelude.{◌≡◌, ℕ, zero, suc, pos, neg_ℤ, [], ◌∷◌, ◌++◌, codes, Some, None, if◌then◌else◌}
use Rattle.std.specs.Str.{bytes_eq}
use Rattle.vx_format.specs.Numbers.{Bytes}
use Rattle.vx_names.specs.declared.key.Selector.{Selector}
use Rattle.vx_names.specs.declared.key.FieldKey.{FieldKey}
use Rattle.vx_names.specs.declared.key.MethodKey.{MethodKey}
use Rattle.vx_syntax.specs.declared.decl.Start.TheVariants as s
use Rattle.vx_syntax.specs.declared.test.Test.TheVariants as q
use Rattle.vx_syntax.specs.declared.test.Compare.TheVariants.{AtLeast, Less}
use Rattle.vx_syntax.specs.Declarations.{any}
use Rattle.vx_node.specs.declared.node.Variant.TheVariants as c
use Rattle.vx_node.specs.declared.kind.Kind.TheVariants as kinds
use Rattle.vx_node.specs.declared.node.Info.TheVariants as i
use Rattle.vx_node.specs.declared.unit.Piece.{Piece}
use Rattle.vx_node.specs.declared.unit.Piece.TheVariants as pieces
use Rattle.vx_node.specs.declared.unit.Symbol.TheVariants as symbols
use Rattle.vx_model.specs.declared.report.RunError.TheVariants as e
use Rattle.vx_compilation.specs.declared.tree.Tree.{Tree}
use Rattle.vx_compilation.specs.declared.tree.Part.TheVariants as p
use Rattle.vx_compilation.specs.declared.tree.Act.TheVariants as a
use Rattle.vx_compilation.specs.Binding.{Order}
use Rattle.vx_units.specs.ShapeUnit.{shape_unit}
use Rattle.vx_units.specs.CodeUnit.{code_unit}
use Rattle.vx_units.specs.TestUnit.{all_tested, test_unit}
use Rattle.vx_units.specs.TableUnit.{Split, table_unit}

abbrev zeros : ℕ → Bytes
zeros zero = []
zeros (suc n) = 0 ∷ zeros n

abbrev balance : FieldKey
balance = record { name = codes "balance"; specialiser = codes "account" }

abbrev owner : FieldKey
owner = record { name = codes "owner"; specialiser = codes "account" }

abbrev field : FieldKey → Piece
field key = pieces.Symbol (symbols.Field key)

abbrev object : Bytes → Piece
object x = pieces.Symbol (symbols.Object x)

-- ---- a table of three rows: a method of account that is cloned, a primitive on any, and a getter of the predicate rich

abbrev report : Bytes → MethodKey
report x = record { selector = record { name = codes "report"; arity = 1 }; specialisers = x ∷ [] }

abbrev order : Order
order = record {
  base = λ x. if bytes_eq x (codes "rich") then Some (codes "account") else Some x;
  up = λ x.
      if bytes_eq x (codes "rich") then codes "account" ∷ any ∷ codes "rich" ∷ [] else if bytes_eq x any then any ∷ [] else x ∷ any ∷ [];
  cone = λ x. if bytes_eq x (codes "account") then codes "account" ∷ codes "savings" ∷ [] else x ∷ [];
}

abbrev clones : MethodKey → Split
clones key = Some (0, codes "account" ∷ codes "savings" ∷ [])

abbrev code : MethodKey → Piece
code key = pieces.Symbol (symbols.Code key c.General)

abbrev clone : Bytes → Piece
clone x = pieces.Symbol (symbols.Code (report (codes "account")) (c.Clone 0 x))

-- ---- a code of two blocks

abbrev plus : Selector
plus = record { name = codes "+"; arity = 2 }

abbrev body : Tree
body = record {
  blocks =
      record {
        locals = 3;
        captures = 0;
        formals = i.Cone (codes "account") ∷ i.Any ∷ [];
        acts =
            a.Let 2 (p.Closure 1 (1 ∷ [])) ∷ a.Do (p.Get balance (p.Local 0 ∷ [])) ∷
            a.Back (p.Inlined (p.Local 2 ∷ []) (2 ∷ []) (a.Do (p.Fail (e.NoField (codes "x")) []) ∷ [])) ∷ [];
      } ∷
      record {
        locals = 1;
        captures = 1;
        formals = [];
        acts = a.Back (p.Send plus (p.Local 0 ∷ p.Int (neg_ℤ (pos 1)) ∷ [])) ∷ [];
      } ∷ [];
}

-- What the units of an object, a test, a table and a code are.
pub record UnitsAreSpelled : Type 0 where
  pub shape : shape_unit ((balance, s.Int (pos 258)) ∷ (owner, s.Text (codes "me")) ∷ []) ≡
      pieces.Bytes (0 ∷ 0 ∷ 0 ∷ 2 ∷ []) ∷ field balance ∷ pieces.Bytes (3 ∷ zeros 14 ++ (1 ∷ 2 ∷ [])) ∷ field owner ∷
      pieces.Bytes (4 ∷ 0 ∷ 0 ∷ 0 ∷ 2 ∷ codes "me") ∷ []
  pub no_slots : shape_unit [] ≡ pieces.Bytes (0 ∷ 0 ∷ 0 ∷ 0 ∷ []) ∷ []
  pub test : test_unit ((codes "account", Some balance ∷ None ∷ []) ∷ []) (codes "balance" ∷ codes "debt" ∷ [])
      (q.Not (q.Compare (codes "debt") AtLeast (pos 7)) ∷ q.Compare (codes "balance") Less (pos 1) ∷ []) ≡
      pieces.Bytes (0 ∷ 0 ∷ 0 ∷ 1 ∷ 0 ∷ 0 ∷ 0 ∷ 2 ∷ []) ∷ object (codes "account") ∷ field balance ∷
      pieces.Bytes (255 ∷ 255 ∷ 255 ∷ 255 ∷ 0 ∷ 0 ∷ 0 ∷ 46 ∷ 0 ∷ 3 ∷ 0 ∷ 0 ∷ 0 ∷ 1 ∷ zeros 15 ++ (7 ∷ 3 ∷ 0 ∷ 0 ∷ zeros 4 ++ (zeros 15 ++ (1 ∷ 1 ∷ [])))) ∷ []
  -- the names that tests ask about, in byte order, each once
  pub names : all_tested (q.Or (q.Compare (codes "owner") Less (pos 1)) (q.Not (q.Compare (codes "balance") AtLeast (pos 1))) ∷
      q.And (q.Compare (codes "debt") AtLeast (pos 7)) (q.Compare (codes "balance") Less (pos 1)) ∷ []) []
      ≡ codes "balance" ∷ codes "debt" ∷ codes "owner" ∷ []
  pub table : table_unit (record { name = codes "report"; arity = 1 }) order clones
      ((report (codes "account"), kinds.Source) ∷ (report any, kinds.Prim 9) ∷ (report (codes "rich"), kinds.Get balance) ∷ []) ≡
      pieces.Bytes (6 ∷ codes "report" ++ (1 ∷ 3 ∷ 0 ∷ [])) ∷ code (report (codes "account")) ∷ pieces.Bytes (0 ∷ 2 ∷ []) ∷
      object (codes "account") ∷ clone (codes "account") ∷ object (codes "savings") ∷ clone (codes "savings") ∷
      pieces.Bytes (zeros 15 ++ (3 ∷ 1 ∷ 9 ∷ zeros 15 ++ (2 ∷ 2 ∷ []))) ∷ field balance ∷
      pieces.Bytes (zeros 15 ++ (7 ∷ zeros 15 ++ (2 ∷ 0 ∷ 0 ∷ 0 ∷ 2 ∷ []))) ∷ object (codes "account") ∷
      pieces.Bytes (zeros 15 ++ (3 ∷ [])) ∷ object (codes "savings") ∷ pieces.Bytes (zeros 15 ++ (3 ∷ 0 ∷ 0 ∷ 0 ∷ 1 ∷ [])) ∷
      pieces.Symbol (symbols.Test (codes "rich")) ∷ pieces.Bytes (zeros 15 ++ (4 ∷ [])) ∷ []
  pub no_methods : table_unit plus order clones [] ≡ []
  pub code : code_unit body ≡
      pieces.Bytes (0 ∷ 0 ∷ 0 ∷ 2 ∷ 0 ∷ 0 ∷ 0 ∷ 3 ∷ 0 ∷ 0 ∷ 0 ∷ 0 ∷ 2 ∷ 0 ∷ 0 ∷ 0 ∷ 46 ∷ 9 ∷ 0 ∷ 0 ∷ 0 ∷ 1 ∷ 0 ∷ 0 ∷ 0 ∷ 1 ∷ 0 ∷ 0 ∷ 0 ∷ 1 ∷
      5 ∷ 0 ∷ 0 ∷ 0 ∷ 2 ∷ 4 ∷ 0 ∷ 0 ∷ 0 ∷ 0 ∷ 14 ∷ []) ∷ field balance ∷
      pieces.Bytes (17 ∷ 4 ∷ 0 ∷ 0 ∷ 0 ∷ 2 ∷ 20 ∷ 5 ∷ 0 ∷ 0 ∷ 0 ∷ 2 ∷ 21 ∷ 0 ∷ 1 ∷ 120 ∷ 0 ∷ 18 ∷ 0 ∷ 0 ∷ 0 ∷ 1 ∷ 0 ∷ 0 ∷ 0 ∷ 1 ∷ 0 ∷
      0 ∷ 0 ∷ 0 ∷ 28 ∷ 4 ∷ 0 ∷ 0 ∷ 0 ∷ 0 ∷ 1 ∷ 255 ∷ 255 ∷ 255 ∷ 255 ∷ 255 ∷ 255 ∷ 255 ∷ 255 ∷ 255 ∷ 255 ∷ 255 ∷ 255 ∷ 255 ∷ 255 ∷ 255 ∷
      255 ∷ 10 ∷ []) ∷ pieces.Symbol (symbols.Table plus) ∷ pieces.Bytes (19 ∷ []) ∷ []
  pub no_code : code_unit (record { blocks = [] }) ≡ []
