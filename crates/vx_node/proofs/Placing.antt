-- Where steps stand.
use Rattle.std.proofs.Common.{List, [], ap, arith, false, true, refl, sym, subst, suc, zero, inl, inr, length, insert, Some, slice_get, ◌∷◌, ◌≡◌, ◌∙◌, ◌⊎◌, ◌+◌, ◌<◌, ◌≤◌, ℕ}
use Rattle.std.specs.declared.cmp.Ordering.TheVariants.{Less, Equal, Greater}
use Rattle.std.specs.Ordering.{ordering_reverse, is_lt}
use Rattle.std.specs.declared.cmp.Ordering.{Ordering}
use Rattle.std.proofs.lemmas.Bool.{false≢true}
use Rattle.std.proofs.lemmas.Option.{same_Some}
use Rattle.vx_lists.specs.Members.{IsIn}
use Rattle.vx_lists.proofs.Places.{in_at}
use Rattle.vx_node.specs.declared.node.NodeId.{NodeId}
use Rattle.vx_node.specs.declared.trace.Step.{Step}
use Rattle.vx_node.specs.contracts.node.NodeIdOrd.TheImpl.Laws.{total-law}
use Rattle.vx_node.specs.Nodes.{node_cmp}
use Rattle.vx_node.specs.Traces.{IsTrace}
use Rattle.vx_node.specs.Places.{GoesFirst, BelongsAt}
use Rattle.vx_node.proofs.Apart.{nodes_apart}

pub same_nodes : (a b : NodeId) → node_cmp a b ≡ Equal → a ≡ b
same_nodes = nodes_apart

-- a step that is put where it belongs keeps the order
first : (step : Step) (steps : List Step) → GoesFirst step.node steps → IsTrace steps → IsTrace (step ∷ steps)
first step [] goes trace = tt
first step (one ∷ steps) goes trace = (goes, trace)

behind : (one : Step) (place : ℕ) (steps : List Step) (step : Step) → node_cmp one.node step.node ≡ Less → IsTrace (one ∷ steps) → IsTrace (insert steps place step) →
    BelongsAt step.node place steps → IsTrace (one ∷ insert steps place step)
behind one zero [] step less trace more belongs = (less, more)
behind one zero (two ∷ steps) step less trace more belongs = (less, more)
behind one (suc place) [] step less trace more belongs = absurd belongs
behind one (suc place) (two ∷ steps) step less trace more belongs = (trace.0, more)

pub rest : (one : Step) (steps : List Step) → IsTrace (one ∷ steps) → IsTrace steps
rest one [] trace = tt
rest one (two ∷ steps) trace = trace.1

pub placed : (place : ℕ) (steps : List Step) (step : Step) → BelongsAt step.node place steps → IsTrace steps → IsTrace (insert steps place step)
placed zero [] step belongs trace = tt
placed zero (one ∷ steps) step belongs trace = first step (one ∷ steps) belongs trace
placed (suc place) [] step belongs trace = absurd belongs
placed (suc place) (one ∷ steps) step belongs trace =
    behind one place steps step belongs.0 trace (placed place steps step belongs.1 (rest one steps trace)) belongs.1

-- what is there once a step was put there
pub in_placed : (place : ℕ) (steps : List Step) (step own : Step) → IsIn own (insert steps place step) → (own ≡ step) ⊎ IsIn own steps
in_placed zero [] step own (inl e) = inl (sym e)
in_placed zero [] step own (inr i) = absurd i
in_placed zero (one ∷ steps) step own (inl e) = inl (sym e)
in_placed zero (one ∷ steps) step own (inr i) = inr i
in_placed (suc place) [] step own (inl e) = inl (sym e)
in_placed (suc place) [] step own (inr i) = absurd i
in_placed (suc place) (one ∷ steps) step own (inl e) = inr (inl e)
in_placed (suc place) (one ∷ steps) step own (inr i) = elim (in_placed place steps step own i) [ inl e ↦ inl e | inr j ↦ inr (inr j) ]

pub placed_in : (place : ℕ) (steps : List Step) (step : Step) → IsIn step (insert steps place step)
placed_in zero [] step = inl refl
placed_in zero (one ∷ steps) step = inl refl
placed_in (suc place) [] step = inl refl
placed_in (suc place) (one ∷ steps) step = inr (placed_in place steps step)

pub still_in : (place : ℕ) (steps : List Step) (step own : Step) → IsIn own steps → IsIn own (insert steps place step)
still_in zero [] step own i = absurd i
still_in zero (one ∷ steps) step own i = inr i
still_in (suc place) [] step own i = absurd i
still_in (suc place) (one ∷ steps) step own (inl e) = inl e
still_in (suc place) (one ∷ steps) step own (inr i) = inr (still_in place steps step own i)

-- the order looked at from the other side
pub less_from_greater : (a b : NodeId) → node_cmp a b ≡ Greater → node_cmp b a ≡ Less
less_from_greater a b e = total-law.antisymm b a ∙ ap ordering_reverse e

-- the first node of a trace goes before all others
pub before_all : (step : Step) (steps : List Step) → IsTrace (step ∷ steps) → (other : Step) → IsIn other steps → node_cmp step.node other.node ≡ Less
before_all step [] trace other i = absurd i
before_all step (one ∷ steps) trace other (inl e) = subst (λ s. node_cmp step.node s.node ≡ Less) e trace.0
before_all step (one ∷ steps) trace other (inr i) = total-law.trans step.node one.node other.node trace.0 (before_all one steps trace.1 other i)

-- each step goes before those behind it
earlier : (steps : List Step) → IsTrace steps → (i j : ℕ) (one other : Step) → i < j → slice_get steps i ≡ Some one → slice_get steps j ≡ Some other →
    node_cmp one.node other.node ≡ Less
earlier [] trace i j one other less at there = absurd (cc)
earlier (step ∷ steps) trace i zero one other less at there = absurd (omega (arith, less))
earlier (step ∷ steps) trace zero (suc j) one other less at there =
    subst (λ s. node_cmp s.node other.node ≡ Less) (same_Some step one at) (before_all step steps trace other (in_at steps j other there))
earlier (step ∷ steps) trace (suc i) (suc j) one other less at there = earlier steps (rest step steps trace) i j one other (omega (arith, less)) at there

either : (i j : ℕ) → i ≤ j → (i ≡ j) ⊎ (i < j)
either zero zero within = inl refl
either zero (suc j) within = inr (omega arith)
either (suc i) zero within = absurd (omega (arith, within))
either (suc i) (suc j) within = elim (either i j (omega (arith, within))) [ inl same ↦ inl (ap suc same) | inr less ↦ inr (omega (arith, less)) ]

-- where one goes before a node, so do all before it,
pub all_before : (steps : List Step) → IsTrace steps → (node : NodeId) (middle : ℕ) (own : Step) → slice_get steps middle ≡ Some own → node_cmp own.node node ≡ Less →
    (at : ℕ) (step : Step) → at < middle + 1 → slice_get steps at ≡ Some step → node_cmp step.node node ≡ Less
all_before steps trace node middle own there less at step within is =
    elim (either at middle (omega (arith, within))) [
      | inl same ↦ subst (λ s. node_cmp s.node node ≡ Less) (same_Some own step (sym there ∙ ap (slice_get steps) (sym same) ∙ is)) less
      | inr before ↦ total-law.trans step.node own.node node (earlier steps trace at middle step own before is there) less
    ]

not_less : (o : Ordering) → (o ≡ Less → ⊥) → is_lt o ≡ false
not_less Less never = absurd (never refl)
not_less Equal never = refl
not_less Greater never = refl

-- and where one does not, none does behind it.
pub none_behind : (steps : List Step) → IsTrace steps → (node : NodeId) (middle : ℕ) (own : Step) → slice_get steps middle ≡ Some own → is_lt (node_cmp own.node node) ≡ false →
    (at : ℕ) (step : Step) → middle ≤ at → slice_get steps at ≡ Some step → is_lt (node_cmp step.node node) ≡ false
none_behind steps trace node middle own there none at step within is =
    elim (either middle at within) [
      | inl same ↦ subst (λ s. is_lt (node_cmp s.node node) ≡ false) (same_Some own step (sym there ∙ ap (slice_get steps) same ∙ is)) none
      | inr behind ↦ not_less (node_cmp step.node node) (λ less.
          false≢true (sym none ∙ ap is_lt (total-law.trans own.node step.node node (earlier steps trace middle at own step behind there is) less)))
    ]

-- a node belongs where it goes before no step that is before, and before the first of the others
pub belongs : (node : NodeId) (place : ℕ) (steps : List Step) → place ≤ length steps →
    ((at : ℕ) (step : Step) → at < place → slice_get steps at ≡ Some step → node_cmp step.node node ≡ Less) →
    ((step : Step) → slice_get steps place ≡ Some step → node_cmp node step.node ≡ Less) → BelongsAt node place steps
belongs node zero [] within front next = tt
belongs node zero (step ∷ steps) within front next = next step refl
belongs node (suc place) [] within front next = absurd (omega (arith, within))
belongs node (suc place) (step ∷ steps) within front next =
    (front 0 step (omega arith) refl, belongs node place steps (omega (arith, within)) (λ at own l e. front (suc at) own (omega (arith, l)) e) next)

-- what goes neither before a node nor is that goes behind it
pub goes_behind : (step : Step) (node : NodeId) → is_lt (node_cmp step.node node) ≡ false → (step.node ≡ node → ⊥) → node_cmp node step.node ≡ Less
goes_behind step node none apart = by (node_cmp step.node node) refl none
  where
    by : (o : Ordering) → node_cmp step.node node ≡ o → is_lt o ≡ false → node_cmp node step.node ≡ Less
    by Less e n = absurd (false≢true (sym n))
    by Equal e n = absurd (apart (nodes_apart step.node node e))
    by Greater e n = less_from_greater step.node node e

pub lt_less : (step : Step) (node : NodeId) → is_lt (node_cmp step.node node) ≡ true → node_cmp step.node node ≡ Less
lt_less step node h = by (node_cmp step.node node) h
  where
    by : (o : Ordering) → is_lt o ≡ true → o ≡ Less
    by Less e = refl
    by Equal e = absurd (false≢true e)
    by Greater e = absurd (false≢true e)

-- an order that is its own reverse ties
ties : (o : Ordering) → o ≡ ordering_reverse o → o ≡ Equal
ties Less e = absurd (cc)
ties Equal e = refl
ties Greater e = absurd (cc)

pub tied : (node : NodeId) → node_cmp node node ≡ Equal
tied node = ties (node_cmp node node) (total-law.antisymm node node)

-- two nodes that are told apart are not one
told : (a b : NodeId) → a ≡ b → node_cmp a b ≡ Equal
told a b same = ap (λ z. node_cmp a z) (sym same) ∙ tied a

pub less_apart : (a b : NodeId) → node_cmp a b ≡ Less → a ≡ b → ⊥
less_apart a b less same = let e : Less ≡ Equal = sym less ∙ told a b same in cc

pub greater_apart : (a b : NodeId) → node_cmp a b ≡ Greater → a ≡ b → ⊥
greater_apart a b greater same = let e : Greater ≡ Equal = sym greater ∙ told a b same in cc
