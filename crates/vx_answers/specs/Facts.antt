-- What a program says by itself of each fact. How things stand, which methods there are and what they are made of is told by the definitions by which
-- programs are compiled.
use Rattle.std.specs.Prelude.{Bool, List, [], ◌∷◌, Option, Some, None, if◌then◌else◌}
use Rattle.std.specs.Str.{bytes_eq}
use Rattle.vx_syntax.specs.declared.decl.Decl.{Decl}
use Rattle.vx_syntax.specs.declared.decl.Decl.TheVariants as d
use Rattle.vx_syntax.specs.declared.decl.Start.{Start}
use Rattle.vx_syntax.specs.declared.expr.Body.{Body}
use Rattle.vx_syntax.specs.Expressions.{Bytes}
use Rattle.vx_program.specs.Program.{is_name_of, is_named}
use Rattle.vx_node.specs.declared.node.Fact.{Fact}
use Rattle.vx_node.specs.declared.node.Fact.TheVariants as fact
use Rattle.vx_node.specs.declared.answer.Answer.{Answer}
use Rattle.vx_node.specs.declared.answer.Answer.TheVariants as answers
use Rattle.vx_node.specs.declared.answer.Known.{Known}
use Rattle.vx_node.specs.declared.answer.Known.TheVariants as known
use Rattle.vx_node.specs.declared.answer.Stands.{Stands}
use Rattle.vx_node.specs.declared.answer.Stands.TheVariants as h
use Rattle.vx_model.specs.Kinds.{Source, source}
use Rattle.vx_compilation.specs.Compiled.{there, heads}

-- what a declaration says of the name that it declares
abbrev pub known_as : Decl → Known
known_as (d.Object x parents) = known.Plain parents
known_as (d.Predicate x parents test) = known.Predicate parents test
known_as (d.Field key start changeable) = known.Nothing
known_as (d.Method key formals body) = known.Nothing

-- what is declared under a name
abbrev pub decl_of : List Decl → Bytes → Known
decl_of [] x = known.Nothing
decl_of (decl ∷ decls) x = if is_named x decl then known_as decl else decl_of decls x

-- the objects and predicates that have the name among their parents, in byte order
abbrev pub children_of : List Decl → Bytes → List (Bytes × Stands)
children_of [] x = []
children_of (d.Object own parents ∷ decls) x = if is_name_of parents x then (own, h.Plain) ∷ children_of decls x else children_of decls x
children_of (d.Predicate own parents test ∷ decls) x = if is_name_of parents x then (own, h.Predicate) ∷ children_of decls x else children_of decls x
children_of (d.Field key start changeable ∷ decls) x = children_of decls x
children_of (d.Method key formals body ∷ decls) x = children_of decls x

-- the fields that are specialised on the name
abbrev pub fields_of : List Decl → Bytes → List (Bytes × Start × Bool)
fields_of [] x = []
fields_of (d.Field key start changeable ∷ decls) x =
    if bytes_eq key.specialiser x then (key.name, start, changeable) ∷ fields_of decls x else fields_of decls x
fields_of (d.Object own parents ∷ decls) x = fields_of decls x
fields_of (d.Predicate own parents test ∷ decls) x = fields_of decls x
fields_of (d.Method key formals body ∷ decls) x = fields_of decls x

-- the formals and the body of a method, as an answer holds them
abbrev pub text_of : Option Source → Option (List (Option Bytes) × Body)
text_of None = None
text_of (Some own) = Some (own.formals, own.body)

-- What a program says by itself.
abbrev pub fact_of : List Decl → Fact → Answer
fact_of program (fact.Decl x) = answers.Decl (decl_of program x)
fact_of program (fact.Children x) = answers.Children (children_of program x)
fact_of program (fact.There x) = answers.There (there program x)
fact_of program (fact.Heads selector) = answers.Heads (heads program selector)
fact_of program (fact.Body key) = answers.Body (text_of (source program key))
fact_of program (fact.Fields x) = answers.Fields (fields_of program x)
