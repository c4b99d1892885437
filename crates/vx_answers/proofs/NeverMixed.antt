-- Over the answers of a program each row comes to the program's answer.
use Rattle.std.proofs.Common.{List, Bool, true, false, [], ap, refl, sym, map, ◌≡◌, ◌∙◌}
use Rattle.std.specs.Prelude.{if◌then◌else◌, None}
use Rattle.vx_names.specs.declared.key.Selector.{Selector}
use Rattle.vx_names.specs.declared.key.MethodKey.{MethodKey}
use Rattle.vx_syntax.specs.declared.decl.Decl.{Decl}
use Rattle.vx_syntax.specs.Expressions.{Bytes}
use Rattle.vx_program.specs.Program.{IsProgram}
use Rattle.vx_node.specs.declared.node.NodeId.{NodeId}
use Rattle.vx_node.specs.declared.node.NodeId.TheVariants as node
use Rattle.vx_node.specs.declared.node.Filter.{Filter}
use Rattle.vx_node.specs.declared.node.Filter.TheVariants as filters
use Rattle.vx_node.specs.declared.node.Target.{Target}
use Rattle.vx_node.specs.declared.node.Target.TheVariants as targets
use Rattle.vx_node.specs.declared.answer.Answer.{Answer}
use Rattle.vx_node.specs.declared.answer.Answer.TheVariants as answers
use Rattle.vx_node.specs.declared.kind.Kind.{Kind}
use Rattle.vx_node.specs.Traces.{Answers}
use Rattle.vx_node.specs.Asking.{Asking, gives, mixes, asks, each, outcome, Gives}
use Rattle.vx_compilation.specs.Readings.{told}
use Rattle.vx_answers.specs.SendRows.{About, is_base, names_in, specialisers_of, specialisers_asked}
use Rattle.vx_answers.specs.UnitRows.{with_cone, source_heads, with_clones, table_by, table_among, table_row, code_row}
use Rattle.vx_answers.specs.TestRows.{test_row}
use Rattle.vx_answers.specs.Answers.{row, ans, IsBuilt}
use Rattle.vx_units.specs.TableUnit.{Split}
use Rattle.vx_answers.proofs.TestsNever.{NeverMixes, test_never}
use Rattle.vx_answers.proofs.RowLaw.{RowIs, row_is}
use Rattle.vx_answers.proofs.EachLaw.{each_outcome}
use Rattle.vx_answers.proofs.UpLaw.{up_outcome, up_answer}
use Rattle.vx_answers.proofs.ConeLaw.{cone_outcome, cone_answer}
use Rattle.vx_answers.proofs.BaseLaw.{base_row_is}
use Rattle.vx_answers.proofs.BindIs.{order_told, about_by}
use Rattle.vx_answers.proofs.CodeLaw.{codes_are_asked}
use Rattle.vx_answers.proofs.Told.{field_row_is, inline_row_is, bind_row_is, clones_row_is}
use Rattle.vx_answers.proofs.SlotsLaw.{slots_row_is, shape_row_is}

module _ (answer : Answers) where
  abbrev WithCone : Type 0
  WithCone = About × List Bytes

  -- what comes where the base is the name itself, and else
  abbrev cone_if : Bool → Bytes → WithCone
  cone_if b x = (about_by answer x, (if b then (order_told answer).cone x else []))

  either : (b : Bool) (x : Bytes) →
      outcome {A = WithCone} (if b then asks (node.Filter (filters.Cone x)) (λ own. gives (about_by answer x, names_in own)) else gives
      (about_by answer x, [])) answer
      ≡ Gives (cone_if b x)
  either true x = refl
  either false x = refl

  -- what comes of a specialiser of a table
  abbrev of_specialiser : Bytes → WithCone
  of_specialiser x = cone_if (is_base x ((order_told answer).base x)) x

  with_cone_comes : (x : Bytes) → outcome (with_cone x) answer ≡ Gives (of_specialiser x)
  with_cone_comes x = either (is_base x ((order_told answer).base x)) x

  -- what is asked for a table comes to the unit of all that was asked
  abbrev pub specialisers_told : List (MethodKey × Kind) → List WithCone
  specialisers_told heads = map of_specialiser (specialisers_asked (specialisers_of heads None))

  -- the clones of each source method
  abbrev pub clones_told : List (MethodKey × Kind) → List (MethodKey × Split)
  clones_told heads = map (λ key. (key, (told answer).clones key)) (source_heads heads)

  pub table_comes : (selector : Selector) (heads : List (MethodKey × Kind)) → outcome (table_among selector heads) answer ≡ Gives (table_by selector heads
      (specialisers_told heads) (clones_told heads))
  table_comes selector heads =
      each_outcome with_cone answer of_specialiser with_cone_comes (specialisers_asked (specialisers_of heads None))
      (λ own. each with_clones (source_heads heads) (λ clones. gives (table_by selector heads own clones)))
      ∙ each_outcome with_clones answer (λ key. (key, (told answer).clones key)) (λ key. refl) (source_heads heads)
      (λ clones. gives (table_by selector heads (specialisers_told heads) clones))

-- a questioning that does not give up comes to a value
valued : {A : Type 0} (q : Asking A) (answer : Answers) → NeverMixes q → (value : A) × (outcome q answer ≡ Gives value)
valued (gives value) answer never = (value, refl)
valued (mixes at) answer never = absurd never
valued (asks at next) answer never = valued (next (answer at)) answer (never (answer at))

-- a row that comes to a value comes to the answer
comes : {A : Type 0} (program : List Decl) (subject : NodeId) (wrap : A → Answer) (q : Asking A) (value : A) → RowIs program subject wrap q value →
    outcome (row subject) (ans program) ≡ Gives (ans program subject)
comes program subject wrap q value is = is.never_mixed ∙ ap Gives (sym is.answer)

filter_comes : (program : List Decl) → IsProgram program → (filter : Filter) →
    outcome (row (node.Filter filter)) (ans program) ≡ Gives (ans program (node.Filter filter))
filter_comes program is (filters.Up x) = up_outcome program is x ∙ ap Gives (sym (up_answer program is x))
filter_comes program is (filters.Cone x) = cone_outcome program is x ∙ ap Gives (sym (cone_answer program is x))
filter_comes program is (filters.Base x) = comes program _ _ _ _ (base_row_is program is x)
filter_comes program is (filters.Slots x) = comes program _ _ _ _ (slots_row_is program is x)
filter_comes program is (filters.Field class name) = comes program _ _ _ _ (field_row_is program is class name)
filter_comes program is (filters.Inline key) = comes program _ _ _ _ (inline_row_is program key)
filter_comes program is (filters.Bind selector infos below) = comes program _ _ _ _ (bind_row_is program is selector infos below)
filter_comes program is (filters.Clones key) = comes program _ _ _ _ (clones_row_is program is key)

target_comes : (program : List Decl) → IsProgram program → (target : Target) →
    outcome (row (node.Target target)) (ans program) ≡ Gives (ans program (node.Target target))
target_comes program is (targets.Shape x) = comes program _ _ _ _ (shape_row_is program is x)
target_comes program is (targets.Test x) =
    let own = valued (test_row x) (ans program) (test_never x) in
    comes program (node.Target (targets.Test x)) answers.Unit (test_row x) own.0
    (row_is program (node.Target (targets.Test x)) tt answers.Unit (test_row x) own.0 refl own.1)
target_comes program is (targets.Table selector) =
    comes program _ _ _ _
    (row_is program (node.Target (targets.Table selector)) tt answers.Unit (table_row selector) _ refl
    (table_comes (ans program) selector ((told (ans program)).heads selector)))
target_comes program is (targets.Code key variant) =
    comes program _ _ _ _
    (row_is program (node.Target (targets.Code key variant)) tt answers.Unit (code_row key variant) _ refl (codes_are_asked.gives (ans program) key variant))

pub never_mixed : (program : List Decl) → IsProgram program → (subject : NodeId) → IsBuilt subject →
    outcome (row subject) (ans program) ≡ Gives (ans program subject)
never_mixed program is (node.Fact fact) built = absurd built
never_mixed program is (node.Filter filter) built = filter_comes program is filter
never_mixed program is (node.Target target) built = target_comes program is target
