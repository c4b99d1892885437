-- What is left of the questioning once the body was told.
use Rattle.std.proofs.Common.{◌≡◌, ◌∙◌, List, Option, ap, subst, sym}
use Rattle.vx_names.specs.declared.key.MethodKey.{MethodKey}
use Rattle.vx_syntax.specs.Expressions.{Bytes}
use Rattle.vx_syntax.specs.declared.expr.Body.{Body}
use Rattle.vx_node.specs.declared.node.NodeId.TheVariants as node
use Rattle.vx_node.specs.declared.node.Fact.TheVariants as fact
use Rattle.vx_node.specs.declared.answer.Answer.{Answer}
use Rattle.vx_node.specs.declared.trace.Step.{Step}
use Rattle.vx_node.specs.declared.asker.Halt.{Halt}
use Rattle.vx_node.specs.Asking.{Asking, gives, ask, followed}
use Rattle.vx_node.specs.Askers.{Manner, Goes, Stops}
use Rattle.vx_node.proofs.Leaving.{goes_within, stops_within}
use Rattle.vx_compilation.specs.Readings.{source_in}
use Rattle.vx_compilation.specs.Inlining.{inline}
use Rattle.vx_answers.specs.Facts.{text_of}
use Rattle.vx_answers.specs.SendRows.{inline_row}

abbrev pub inlined : Answer → Asking (Option (List (Option Bytes) × Body))
inlined answer = gives (text_of (inline (source_in answer)))

pub asked_for : {S : Type 0} {manner : Manner S} {old new : S} {before after : List Step} (key : MethodKey) (value own : Answer)
    (text : Option (List (Option Bytes) × Body)) → Goes manner (ask (node.Fact (fact.Body key))) (gives value) old before new after → own ≡ value →
    text ≡ text_of (inline (source_in own)) → Goes manner (followed (inline_row key) (λ source. gives (text_of source))) (gives text) old before new after
asked_for {manner = manner} {old = old} {new = new} {before = before} {after = after} key value own text goes same is =
    subst (λ q. Goes manner (followed (inline_row key) (λ source. gives (text_of source))) q old before new after)
    (ap inlined (sym same) ∙ ap gives (sym is)) (goes_within inlined goes)

pub not_asked_for : {S : Type 0} {manner : Manner S} {old new : S} {before after : List Step} {halt : Halt} (key : MethodKey) →
    Stops manner (ask (node.Fact (fact.Body key))) halt old before new after →
    Stops manner (followed (inline_row key) (λ source. gives (text_of source))) halt old before new after
not_asked_for key stopped = stops_within inlined stopped
