-- How nodes are written, as a reader of what was remade meets them.
use Rattle.std.specs.Prelude.{List, [], ◌∷◌, ◌++◌, map, codes, Option, Some, None}
use Rattle.std.specs.Fmt.{decimal}
use Rattle.vx_names.specs.declared.key.DeclKey.TheVariants as key
use Rattle.vx_names.specs.declared.key.MethodKey.{MethodKey}
use Rattle.vx_syntax.specs.Expressions.{Bytes}
use Rattle.vx_syntax.specs.Print.{key_text, selector_text, joined, listed}
use Rattle.vx_node.specs.declared.node.NodeId.{NodeId}
use Rattle.vx_node.specs.declared.node.NodeId.TheVariants as node
use Rattle.vx_node.specs.declared.node.Fact.{Fact}
use Rattle.vx_node.specs.declared.node.Fact.TheVariants as fact
use Rattle.vx_node.specs.declared.node.Filter.{Filter}
use Rattle.vx_node.specs.declared.node.Filter.TheVariants as filter
use Rattle.vx_node.specs.declared.node.Target.{Target}
use Rattle.vx_node.specs.declared.node.Target.TheVariants as target
use Rattle.vx_node.specs.declared.node.Info.{Info}
use Rattle.vx_node.specs.declared.node.Info.TheVariants as i
use Rattle.vx_node.specs.declared.node.Variant.{Variant}
use Rattle.vx_node.specs.declared.node.Variant.TheVariants as c

-- `*` for any value, `<a` for what is below a, `=a` for a alone
abbrev pub info_text : Info → Bytes
info_text i.Any = codes "*"
info_text (i.Cone x) = codes "<" ++ x
info_text (i.Exact x) = codes "=" ++ x

-- `m(@a,@b)`
abbrev pub method_text : MethodKey → Bytes
method_text own = key_text (key.Method own)

-- ` below m(@a)`
abbrev pub below_text : Option MethodKey → Bytes
below_text None = []
below_text (Some own) = codes " below " ++ method_text own

-- nothing behind the code for all values, `#0=a` behind that for one class of the argument at a place
abbrev pub variant_text : Variant → Bytes
variant_text c.General = []
variant_text (c.Clone position class) = codes "#" ++ decimal position ++ codes "=" ++ class

abbrev pub fact_text : Fact → Bytes
fact_text (fact.Decl x) = codes "decl " ++ x
fact_text (fact.Children x) = codes "children " ++ x
fact_text (fact.There x) = codes "there " ++ x
fact_text (fact.Heads selector) = codes "heads " ++ selector_text selector
fact_text (fact.Body own) = codes "body " ++ method_text own
fact_text (fact.Fields x) = codes "fields " ++ x

abbrev pub filter_text : Filter → Bytes
filter_text (filter.Up x) = codes "up " ++ x
filter_text (filter.Cone x) = codes "cone " ++ x
filter_text (filter.Base x) = codes "base " ++ x
filter_text (filter.Slots x) = codes "slots " ++ x
filter_text (filter.Field class name) = codes "field " ++ class ++ codes "." ++ name
filter_text (filter.Inline own) = codes "inline " ++ method_text own
filter_text (filter.Bind selector infos below) =
    codes "bind " ++ selector_text selector ++ codes "(" ++ joined [] (codes ",") (map info_text infos) ++ codes ")" ++ below_text below
filter_text (filter.Clones own) = codes "clones " ++ method_text own

abbrev pub target_text : Target → Bytes
target_text (target.Shape x) = codes "shape " ++ x
target_text (target.Test x) = codes "test " ++ x
target_text (target.Table selector) = codes "table " ++ selector_text selector
target_text (target.Code own variant) = codes "code " ++ method_text own ++ variant_text variant

abbrev pub node_text : NodeId → Bytes
node_text (node.Fact own) = fact_text own
node_text (node.Filter own) = filter_text own
node_text (node.Target own) = target_text own

-- the nodes with commas between them, `none` where there are none
abbrev pub nodes_text : List NodeId → Bytes
nodes_text [] = codes "none"
nodes_text (one ∷ rest) = listed (map node_text (one ∷ rest))
