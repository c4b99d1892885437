-- How what nodes are answered with is written.
use Rattle.std.specs.Prelude.{ℕ, if◌then◌else◌, List, [], ◌∷◌, ◌++◌, Bool, false, map, codes, Option, Some, None}
use Rattle.std.specs.Fmt.{decimal}
use Rattle.hex.specs.Hex.{encode_lower}
use Rattle.vx_names.specs.declared.key.FieldKey.{FieldKey}
use Rattle.vx_names.specs.declared.key.MethodKey.{MethodKey}
use Rattle.vx_syntax.specs.declared.decl.Decl.TheVariants as d
use Rattle.vx_syntax.specs.declared.decl.Start.{Start}
use Rattle.vx_syntax.specs.declared.expr.Body.{Body}
use Rattle.vx_syntax.specs.Expressions.{Bytes}
use Rattle.vx_syntax.specs.Print.{selector_text, field_key_text, body_text, decl_text, joined}
use Rattle.vx_node.specs.declared.kind.Kind.{Kind}
use Rattle.vx_node.specs.declared.kind.Kind.TheVariants as kinds
use Rattle.vx_node.specs.declared.unit.Piece.{Piece}
use Rattle.vx_node.specs.declared.unit.Piece.TheVariants as pieces
use Rattle.vx_node.specs.declared.unit.Symbol.{Symbol}
use Rattle.vx_node.specs.declared.unit.Symbol.TheVariants as symbols
use Rattle.vx_node.specs.declared.answer.Stands.{Stands}
use Rattle.vx_node.specs.declared.answer.Stands.TheVariants as h
use Rattle.vx_node.specs.declared.answer.Bound.{Bound}
use Rattle.vx_node.specs.declared.answer.Bound.TheVariants as b
use Rattle.vx_node.specs.declared.answer.Answer.{Answer}
use Rattle.vx_node.specs.declared.answer.Answer.TheVariants as answers
use Rattle.vx_node.specs.declared.answer.Known.{Known}
use Rattle.vx_node.specs.declared.answer.Known.TheVariants as known
use Rattle.vx_explain.specs.NodeTexts.{method_text, variant_text}

-- the texts with the separator between them, `none` where there are none
abbrev pub or_none : Bytes → List Bytes → Bytes
or_none separator [] = codes "none"
or_none separator (text ∷ texts) = joined [] separator (text ∷ texts)

abbrev pub kind_text : Kind → Bytes
kind_text kinds.Source = codes "source"
kind_text (kinds.Prim number) = codes "primitive " ++ decimal number
kind_text (kinds.Get key) = codes "get " ++ field_key_text key
kind_text (kinds.Set key) = codes "set " ++ field_key_text key

-- a method and what it is made by
abbrev pub head_text : MethodKey × Kind → Bytes
head_text (key, kind) = method_text key ++ codes " " ++ kind_text kind

abbrev pub bound_text : Bound → Bytes
bound_text (b.One key kind) = codes "one " ++ head_text (key, kind)
bound_text b.Open = codes "open"
bound_text b.Nobody = codes "nobody"

abbrev pub stands_text : Stands → Bytes
stands_text h.Nothing = codes "none"
stands_text h.Plain = codes "plain"
stands_text h.Predicate = codes "predicate"

-- `a plain`
abbrev pub child_text : Bytes × Stands → Bytes
child_text (x, stands) = x ++ codes " " ++ stands_text stands

-- what is declared under a name, and the parents
abbrev pub known_text : Known → Bytes
known_text known.Nothing = codes "none"
known_text (known.Plain parents) = codes "plain " ++ or_none (codes ", ") parents
known_text (known.Predicate parents test) = codes "predicate " ++ or_none (codes ", ") parents

-- a formal without a name takes any value
abbrev pub formal_text : Option Bytes → Bytes
formal_text None = codes "@any"
formal_text (Some x) = x

-- the body behind the formals
abbrev pub text_text : Option (List (Option Bytes) × Body) → Bytes
text_text None = codes "none"
text_text (Some (formals, body)) = codes "(" ++ joined [] (codes ", ") (map formal_text formals) ++ codes ") " ++ body_text body

abbrev pub slot_text : FieldKey × Start → Bytes
slot_text (key, start) = decl_text (d.Field key start false)

abbrev pub field_or_none : Option FieldKey → Bytes
field_or_none None = codes "none"
field_or_none (Some key) = field_key_text key

abbrev pub name_or_none : Option Bytes → Bytes
name_or_none None = codes "none"
name_or_none (Some x) = x

-- the position, and the classes
abbrev pub clones_text : Option (ℕ × List Bytes) → Bytes
clones_text None = codes "none"
clones_text (Some (place, classes)) = decimal place ++ codes " of " ++ joined [] (codes ", ") classes

abbrev pub symbol_text : Symbol → Bytes
symbol_text (symbols.Field key) = field_key_text key
symbol_text (symbols.Object x) = codes "object " ++ x
symbol_text (symbols.Test x) = codes "test " ++ x
symbol_text (symbols.Table selector) = codes "table " ++ selector_text selector
symbol_text (symbols.Code key variant) = codes "code " ++ method_text key ++ variant_text variant

-- bytes in hexadecimal, names in brackets
abbrev pub piece_text : Piece → Bytes
piece_text (pieces.Bytes bytes) = encode_lower bytes
piece_text (pieces.Symbol symbol) = codes "[" ++ symbol_text symbol ++ codes "]"

abbrev pub unit_text : List Piece → Bytes
unit_text [] = codes "empty"
unit_text (piece ∷ rest) = joined [] (codes " ") (map piece_text (piece ∷ rest))

-- the name of a field, behind `var` where it can be changed
abbrev pub declared_text : Bytes × Start × Bool → Bytes
declared_text (name, start, changeable) = (if changeable then codes "var " else []) ++ name

abbrev pub answer_text : Answer → Bytes
answer_text (answers.Decl known) = known_text known
answer_text (answers.Children children) = or_none (codes ", ") (map child_text children)
answer_text (answers.There stands) = stands_text stands
answer_text (answers.Heads heads) = or_none (codes ", ") (map head_text heads)
answer_text (answers.Body own) = text_text own
answer_text (answers.Fields fields) = or_none (codes ", ") (map declared_text fields)
answer_text (answers.Up names) = or_none (codes ", ") names
answer_text (answers.Cone names) = or_none (codes ", ") names
answer_text (answers.Base name) = name_or_none name
answer_text (answers.Slots slots) = or_none (codes ", ") (map slot_text slots)
answer_text (answers.Field key) = field_or_none key
answer_text (answers.Inline own) = text_text own
answer_text (answers.Bind bound) = bound_text bound
answer_text (answers.Clones clones) = clones_text clones
answer_text (answers.Unit unit) = unit_text unit
