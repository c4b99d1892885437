-- No command goes on with a bad token.
use Rattle.std.proofs.Common.{◌≡◌, List, [], ◌∷◌, None, refl, ap}
use Rattle.vx_syntax.specs.declared.token.Token.TheVariants as k
use Rattle.vx_syntax.specs.declared.expr.Expr.{Expr}
use Rattle.vx_bodies.specs.declared.state.Bracket.{Bracket}
use Rattle.vx_bodies.specs.declared.state.Bracket.TheVariants.{Paren, Arguments, Fields}
use Rattle.vx_bodies.specs.declared.state.Kind.{Kind}
use Rattle.vx_bodies.specs.declared.state.Block.{Block}
use Rattle.vx_bodies.specs.declared.state.Pending.{Pending}
use Rattle.vx_bodies.specs.declared.state.Within.{Within}
use Rattle.vx_bodies.specs.declared.state.Part.{Part}
use Rattle.vx_bodies.specs.declared.state.Part.TheVariants as pt
use Rattle.vx_bodies.specs.declared.state.State as body
use Rattle.vx_bodies.specs.declared.state.State.TheVariants as b
use Rattle.vx_bodies.specs.declared.state.Next.TheVariants.{Stuck}
use Rattle.vx_bodies.specs.Machine.{stated, ended, after_operand, operand, signed, called, first_argument, ampersand, first_formal, next_formal, formed, formals, object, isa, parent, first_field, next_field, field_name, resend, resend_open, resend_dots, inside, statement, named, after_let, after_var, bound, closing, step}
use Rattle.vx_phrases.specs.declared.test_state.TestState.{TestState}
use Rattle.vx_phrases.specs.declared.test_state.TestState.TheVariants as t
use Rattle.vx_phrases.specs.declared.decl_state.NamesState.{NamesState}
use Rattle.vx_phrases.specs.declared.decl_state.NamesState.TheVariants as n
use Rattle.vx_phrases.specs.declared.decl_state.FieldState.{FieldState}
use Rattle.vx_phrases.specs.declared.decl_state.FieldState.TheVariants as f
use Rattle.vx_phrases.specs.declared.decl_state.MethodState.{MethodState}
use Rattle.vx_phrases.specs.declared.decl_state.MethodState.TheVariants as m
use Rattle.vx_phrases.specs.declared.decl_state.DeclState.{DeclState}
use Rattle.vx_phrases.specs.declared.decl_state.DeclState.TheVariants as d
use Rattle.vx_phrases.specs.declared.key_state.KeyState.{KeyState}
use Rattle.vx_phrases.specs.declared.key_state.KeyState.TheVariants as y
use Rattle.vx_phrases.specs.TestMachine.{test_step}
use Rattle.vx_phrases.specs.DeclMachine.{names, in_parents, in_test, in_body, field, method, decl_step}
use Rattle.vx_phrases.specs.KeyMachine.{key_step}
use Rattle.vx_reader.specs.declared.state.State.{State}
use Rattle.vx_reader.specs.declared.state.State.TheVariants as st
use Rattle.vx_reader.specs.CommandMachine.{in_decl, in_key, command_step}

no_end : (bs : List Bracket) (kind : Kind) (block : Block) (v : Expr) → ended bs kind block v k.Bad ≡ Stuck
unfolding ended stated
no_end [] kind block v = refl
no_end (Paren p ∷ bs) kind block v = refl
no_end (Arguments p x given ∷ bs) kind block v = refl
no_end (Fields p x given f ∷ bs) kind block v = refl

no_operator : (p : Pending) (a : Expr) (w : Within) → after_operand p a w k.Bad ≡ Stuck
unfolding after_operand
no_operator p a w = no_end w.brackets w.kind w.block _

no_part : (part : Part) (p : Pending) (w : Within) → inside part p w k.Bad ≡ Stuck
unfolding inside signed called first_argument operand ampersand first_formal next_formal formed formals object isa parent first_field next_field field_name resend resend_open resend_dots
no_part pt.Signed p w = refl
no_part (pt.Called x) p w = no_operator p _ w
no_part (pt.FirstArgument x) p w = refl
no_part pt.Ampersand p w = refl
no_part pt.FirstFormal p w = refl
no_part (pt.Formal given) p w = refl
no_part (pt.Formed given x) p w = refl
no_part (pt.Formals given) p w = refl
no_part pt.Object p w = refl
no_part pt.Isa p w = refl
no_part (pt.Parent x) p w = no_operator p _ w
no_part (pt.FirstField x) p w = refl
no_part (pt.Field x given) p w = refl
no_part (pt.FieldName x given f) p w = refl
no_part pt.Resend p w = refl
no_part pt.ResendOpen p w = refl
no_part pt.ResendDots p w = refl

no_body : (s : body.State) → step s k.Bad ≡ Stuck
unfolding step operand statement named called after_let after_var bound closing
no_body (b.Operand p w) = refl
no_body (b.Inside part p w) = no_part part p w
no_body (b.Operated p a w) = no_operator p a w
no_body (b.Statement block) = refl
no_body (b.Named block x) = no_operator _ _ _
no_body (b.Let block) = refl
no_body (b.LetVar block) = refl
no_body (b.Bound block var x) = refl
no_body (b.Closing block) = refl

no_test : (s : TestState) → test_step s k.Bad ≡ None
unfolding test_step
no_test (t.Operand p brackets) = refl
no_test (t.Field p brackets x) = refl
no_test (t.Compared p brackets x how) = refl
no_test (t.Signed p brackets x how) = refl
no_test (t.Joined before brackets a) = refl

no_names : (s : NamesState) → names s k.Bad ≡ None
no_names (n.Wanted given) = refl
no_names (n.Given given) = refl

no_field : (changeable : _) (s : FieldState) → field changeable s k.Bad ≡ None
no_field changeable f.Begun = refl
no_field changeable (f.Named x) = refl
no_field changeable (f.Open x) = refl
no_field changeable (f.Formal x) = refl
no_field changeable (f.At x) = refl
no_field changeable (f.Holder key) = refl
no_field changeable (f.Held key) = refl
no_field changeable (f.Becomes key) = refl
no_field changeable (f.Signed key) = refl

no_method : (s : MethodState) → method s k.Bad ≡ None
no_method m.Begun = refl
no_method (m.Named x) = refl
no_method (m.Sign op) = refl
no_method (m.Open x) = refl
no_method (m.Formal message) = refl
no_method (m.FormalNamed message x) = refl
no_method (m.At message x) = refl
no_method (m.Specialised message x specialiser) = refl
no_method (m.Formed head) = refl

no_decl : (s : DeclState) → decl_step s k.Bad ≡ None
unfolding decl_step
no_decl d.Begun = refl
no_decl d.Object = refl
no_decl (d.ObjectNamed x) = refl
no_decl (d.Parents x s) = ap (in_parents x) (no_names s)
no_decl d.Predicate = refl
no_decl (d.PredicateNamed x) = refl
no_decl (d.PredicateParents x (n.Wanted given)) = refl
no_decl (d.PredicateParents x (n.Given given)) = refl
no_decl (d.PredicateTest x parents s) = ap (in_test x parents) (no_test s)
no_decl d.Var = refl
no_decl (d.Field changeable s) = no_field changeable s
no_decl (d.Method s) = no_method s
no_decl (d.Body head s) = ap (in_body head) (no_body s)
no_decl (d.Whole decl) = refl

no_key : (s : KeyState) → key_step s k.Bad ≡ None
unfolding key_step
no_key y.Begun = refl
no_key y.Object = refl
no_key y.Predicate = refl
no_key y.Field = refl
no_key (y.FieldNamed x) = refl
no_key (y.FieldOpen x) = refl
no_key (y.FieldAt x) = refl
no_key (y.FieldHolder key) = refl
no_key y.Method = refl
no_key (y.MethodNamed x) = refl
no_key (y.MethodSign op) = refl
no_key (y.MethodOpen x) = refl
no_key (y.Specialiser message) = refl
no_key (y.At message) = refl
no_key (y.Specialised message x) = refl
no_key (y.Whole key) = refl

pub no_command : (s : State) → command_step s k.Bad ≡ None
unfolding command_step
no_command st.Start = refl
no_command st.Run = refl
no_command st.Mean = refl
no_command (st.Over over) = refl
no_command (st.Declaring put before s) = ap (in_decl put before) (no_decl s)
no_command (st.Dropping before s) = ap (in_key before) (no_key s)
