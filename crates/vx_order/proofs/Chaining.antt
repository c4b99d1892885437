-- One step of a chain of first parents.
use Rattle.std.proofs.Common.{inl, inr, List, Option, Some, None, true, false, [], ap, arith, sym, subst, suc, zero, length, length-append, ◌∷◌, ◌++◌}
use Rattle.std.proofs.Common.{◌≡◌, ◌∙◌, ◌+◌, ◌-◌, ◌≤◌, ◌<◌, ℕ}
use Rattle.std.specs.Prelude.{nat_lt, if◌then◌else◌}
use Rattle.std.proofs.lemmas.Bool.{cond-true, cond-false, cases_Bool}
use Rattle.vx_syntax.specs.Expressions.{Bytes}
use Rattle.vx_program.specs.Program.{is_name_of}
use Rattle.vx_node.specs.declared.node.NodeId.{NodeId}
use Rattle.vx_node.specs.declared.node.NodeId.TheVariants as n
use Rattle.vx_node.specs.declared.node.Fact.TheVariants as f
use Rattle.vx_node.specs.declared.answer.Answer.{Answer}
use Rattle.vx_node.specs.declared.trace.Step.{Step}
use Rattle.vx_node.specs.declared.asker.Halt.{Halt}
use Rattle.vx_node.specs.declared.asker.Halt.TheVariants as h
use Rattle.vx_node.specs.Asking.{Asking, gives, mixes, ask}
use Rattle.vx_node.specs.Askers.{Manner, Goes, Stops}
use Rattle.vx_node.proofs.Leaving.{idle, goes_within, stops_within, gives_up}
use Rattle.vx_answers.specs.declared.limits.TheConstants.{MOST_NAMES}
use Rattle.vx_answers.specs.OrderRows.{Onward, nowhere, here, first, onward_in, chain, base_row, most_names}
use Rattle.vx_answers.proofs.Most.{most_is, more_than_most, no_more_than_most}

-- where a chain goes on
abbrev pub goes_to : ℕ → List Bytes → Bytes → Onward → Asking (Option Bytes)
goes_to steps met x onward =
    elim onward [
      | nowhere ↦ gives None
      | here ↦ gives (Some x)
      | first parent ↦
          if is_name_of met parent then mixes (n.Fact (f.Decl x))
          else if nat_lt most_names (length (met ++ parent ∷ [])) then mixes (n.Fact (f.Decl x))
          else chain steps (met ++ parent ∷ []) parent
    ]

abbrev on_answer : ℕ → List Bytes → Bytes → Answer → Asking (Option Bytes)
on_answer steps met x answer = goes_to steps met x (onward_in answer)

pub chain_stops : {S : Type 0} {manner : Manner S} {old new : S} {before after : List Step}
    {halt : Halt} (steps : ℕ) (met : List Bytes) (x : Bytes) → Stops manner (ask (n.Fact (f.Decl x))) halt old before new after →
    Stops manner (chain (suc steps) met x) halt old before new after
chain_stops steps met x stopped = stops_within (on_answer steps met x) stopped

-- by what the answer leads on to
pub chain_goes : {S : Type 0} {manner : Manner S} {old new : S} {before after : List Step}
    (steps : ℕ) (met : List Bytes) (x : Bytes) (value own : Answer) (onward : Onward) (to : Asking (Option Bytes)) →
    Goes manner (ask (n.Fact (f.Decl x))) (gives value) old before new after → own ≡ value → onward ≡ onward_in own → goes_to steps met x onward ≡ to →
    Goes manner (chain (suc steps) met x) to old before new after
chain_goes {manner = manner} {old = old} {new = new} {before = before} {after = after} steps met x value own onward to goes same is e =
    subst (λ q. Goes manner (chain (suc steps) met x) q old before new after)
    (ap (λ v. goes_to steps met x (onward_in v)) (sym same) ∙ ap (goes_to steps met x) (sym is) ∙ e) (goes_within (on_answer steps met x) goes)

pub to_parent : (steps : ℕ) (met : List Bytes) (x parent : Bytes) (now : List Bytes) → is_name_of met parent ≡ false → length met < MOST_NAMES →
    now ≡ met ++ parent ∷ [] →
    goes_to steps met x (first parent) ≡ chain steps now parent
to_parent steps met x parent now new few grown =
    let size : length (met ++ parent ∷ []) ≤ MOST_NAMES = omega (arith, few, length-append met (parent ∷ [])) in
    cond-false (is_name_of met parent) (mixes (n.Fact (f.Decl x)))
    (if nat_lt most_names (length (met ++ parent ∷ [])) then mixes (n.Fact (f.Decl x)) else chain steps (met ++ parent ∷ []) parent) new
    ∙ cond-false (nat_lt most_names (length (met ++ parent ∷ []))) (mixes (n.Fact (f.Decl x))) (chain steps (met ++ parent ∷ []) parent)
    (no_more_than_most (length (met ++ parent ∷ [])) size)
    ∙ ap (λ ms. chain steps ms parent) (sym grown)

pub to_met : (steps : ℕ) (met : List Bytes) (x parent : Bytes) → is_name_of met parent ≡ true →
    goes_to steps met x (first parent) ≡ mixes (n.Fact (f.Decl x))
to_met steps met x parent known =
    cond-true (is_name_of met parent) (mixes (n.Fact (f.Decl x)))
    (if nat_lt most_names (length (met ++ parent ∷ [])) then mixes (n.Fact (f.Decl x)) else chain steps (met ++ parent ∷ []) parent) known

pub to_many : (steps : ℕ) (met : List Bytes) (x parent : Bytes) → MOST_NAMES ≤ length met → goes_to steps met x (first parent) ≡ mixes (n.Fact (f.Decl x))
to_many steps met x parent many =
    let more : MOST_NAMES < length (met ++ parent ∷ []) = omega (arith, many, length-append met (parent ∷ [])) in
    elim (cases_Bool (is_name_of met parent)) [
      | inl known ↦ to_met steps met x parent known
      | inr new ↦
          cond-false (is_name_of met parent) (mixes (n.Fact (f.Decl x)))
          (if nat_lt most_names (length (met ++ parent ∷ [])) then mixes (n.Fact (f.Decl x)) else chain steps (met ++ parent ∷ []) parent) new
          ∙ cond-true (nat_lt most_names (length (met ++ parent ∷ []))) (mixes (n.Fact (f.Decl x))) (chain steps (met ++ parent ∷ []) parent)
          (more_than_most (length (met ++ parent ∷ [])) more)
    ]

-- a chain that gives up, at a node that the code names
pub chain_mixed : {S : Type 0} {manner : Manner S} {old new : S} {before after : List Step}
    (steps : ℕ) (met : List Bytes) (x : Bytes) (value own : Answer) (onward : Onward) (parent : Bytes) (node : NodeId) →
    Goes manner (ask (n.Fact (f.Decl x))) (gives value) old before new after → own ≡ value → onward ≡ onward_in own → onward ≡ first parent →
    goes_to steps met x (first parent) ≡ mixes (n.Fact (f.Decl x)) → node ≡ n.Fact (f.Decl x) →
    Stops manner (chain (suc steps) met x) (h.Mixed node) old before new after
chain_mixed {manner = manner} {old = old} {new = new} {before = before} {after = after}
    steps met x value own onward parent node goes same is to_first e named =
    subst (λ one. Stops manner (chain (suc steps) met x) (h.Mixed one) old before new after) (sym named)
    (gives_up (chain_goes steps met x value own onward (mixes (n.Fact (f.Decl x))) goes same is (ap (goes_to steps met x) to_first ∙ e)))

-- where a chain begins
pub chain_begins : {S : Type 0} (manner : Manner S) (state : S) (trace : List Step) (x current : Bytes) (met : List Bytes) →
    met ≡ x ∷ [] → current ≡ x → Goes manner (base_row x) (chain (most_names - 0) met current) state trace state trace
chain_begins manner state trace x current met one same =
    let is : base_row x ≡ chain (most_names - 0) met current =
    ap (λ k. chain k (x ∷ []) x) (let e : most_names ≡ most_names - 0 = omega arith in e)
    ∙ ap (λ ms. chain (most_names - 0) ms x) (sym one) ∙ ap (chain (most_names - 0) met) (sym same) in
    subst (λ q. Goes manner (base_row x) q state trace state trace) is (idle manner state trace (base_row x))

-- one step fewer is left
pub step_fewer : (k : ℕ) → k < MOST_NAMES → most_names - k ≡ suc (most_names - (k + 1))
step_fewer k within = omega (arith, within, most_is)

-- and where none is left it gives up
pub chain_ends : {S : Type 0} {manner : Manner S} {old new : S} {before after : List Step}
    (x current : Bytes) (k : ℕ) (met : List Bytes) (node : NodeId) → MOST_NAMES ≤ k → node ≡ n.Fact (f.Decl current) →
    Goes manner (base_row x) (chain (most_names - k) met current) old before new after →
    Stops manner (base_row x) (h.Mixed node) old before new after
chain_ends {manner = manner} {old = old} {new = new} {before = before} {after = after} x current k met node past named goes =
    let none : most_names - k ≡ zero = omega (arith, past, most_is) in
    let end : Goes manner (base_row x) (mixes (n.Fact (f.Decl current))) old before new after =
    subst (λ j. Goes manner (base_row x) (chain j met current) old before new after) none goes in
    subst (λ one. Stops manner (base_row x) (h.Mixed one) old before new after) (sym named) (gives_up end)
