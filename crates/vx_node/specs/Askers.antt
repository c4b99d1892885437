-- What whoever answers must keep to, and what a computation that asks leaves behind.
use Rattle.std.specs.Prelude.{◌≡◌, ◌≤◌, ◌<◌, ◌⊎◌, ◌^◌, ◌-◌, ℕ, List, Option, Some, Result, Ok, Err, slice_get}
use Rattle.vx_lists.specs.Members.{IsIn}
use Rattle.vx_node.specs.declared.node.NodeId.{NodeId}
use Rattle.vx_node.specs.declared.trace.Step.{Step}
use Rattle.vx_node.specs.declared.asker.Asked.{Asked}
use Rattle.vx_node.specs.declared.asker.Asked.TheVariants as asks
use Rattle.vx_node.specs.declared.asker.Halt.{Halt}
use Rattle.vx_node.specs.declared.asker.Halt.TheVariants as halts
use Rattle.vx_node.specs.Traces.{Answers, Agrees}
use Rattle.vx_node.specs.Asking.{Asking, gives, mixes, ask, Reaches}

-- the count rose, or stands at the greatest number of a `u64`
abbrev pub HasRisen : ℕ → ℕ → Type 0
HasRisen old new = (old < new) ⊎ (new ≡ 2 ^ 64 - 1)

-- What an asker is like to whoever asks it.
pub record Manner (S : Type 0) : Type 1 where
  -- it has these answers: those of its program, and of any that differs in nothing that it can be asked
  pub about : S → Answers → Type 0
  -- it still tells them
  pub still : S → Type 0
  -- how often it has answered that a node is unclean, up to the greatest number of a `u64`, and the last such node
  pub unclean : S → ℕ
  pub last : S → Option NodeId
  -- what one ask may do to it
  pub goes : S → S → Type 0

-- An asker has the answers of a program, and may still tell them: then all that it has said is among them, and all that it will say while it tells them.
abbrev pub Tells : {S : Type 0} → Manner S → S → Answers → Type 0
Tells manner state answer = manner.about state answer × manner.still state

-- any number of asks, each of which may do this
pub data Through {S : Type 0} (goes : S → S → Type 0) : S → S → Type 0 where
  rests : (s : S) → Through goes s s
  moves : (s t u : S) → Through goes s t → goes t u → Through goes s u

-- What stays as an asker is asked: the answers that it has, and that it tells them no longer once it does not; how often it said that a node is
-- unclean never falls; and it has come here by asks.
pub record Stays {S : Type 0} (manner : Manner S) (old new : S) : Type 0 where
  pub before : (answer : Answers) → manner.about new answer → manner.about old answer
  pub behind : (answer : Answers) → manner.about old answer → manner.about new answer
  pub once : manner.still new → manner.still old
  pub counted : manner.unclean old ≤ manner.unclean new
  pub through : Through manner.goes old new

-- That it answered unclean is counted and kept, and no program is told any longer.
pub record IsUnclean {S : Type 0} (manner : Manner S) (node : NodeId) (old new : S) : Type 0 where
  pub rose : HasRisen (manner.unclean old) (manner.unclean new)
  pub at : manner.last new ≡ Some node
  pub untold : (answer : Answers) → Tells manner new answer → ⊥

-- One answer: where the asker still tells a program, it is the program's.
abbrev pub Answered : {S : Type 0} → Manner S → NodeId → Asked → S → S → Type 0
Answered manner node (asks.Known value) old new =
    Stays manner old new × ((answer : Answers) → Tells manner new answer → answer node ≡ value)
Answered manner node (asks.Unclean at) old new = Stays manner old new × IsUnclean manner at old new
Answered manner node asks.OutOfMemory old new = Stays manner old new

-- The steps stay, and where a program is still told, those that came are its answers too.
pub record Adds {S : Type 0} (manner : Manner S) (old : S) (before : List Step) (new : S) (after : List Step) : Type 0 where
  pub stays : Stays manner old new
  pub kept : (step : Step) → IsIn step before → IsIn step after
  pub agrees : (answer : Answers) → Tells manner new answer → Agrees answer before → Agrees answer after

-- A part of a computation that went on: the questioning has come to what is left.
pub record Goes {S A : Type 0} (manner : Manner S) (whole left : Asking A) (old : S) (before : List Step) (new : S) (after : List Step) : Type 0 where
  pub adds : Adds manner old before new after
  pub reaches : Reaches before after whole left

-- A part that stopped. It found the answers to be of no one program only where the questioning does; and that a node is unclean the asker said in this part.
pub record Stops {S A : Type 0} (manner : Manner S) (whole : Asking A) (halt : Halt)
    (old : S) (before : List Step) (new : S) (after : List Step) : Type 0 where
  pub adds : Adds manner old before new after
  pub mixed : (node : NodeId) → halt ≡ halts.Mixed node → Reaches before after whole (mixes node)
  pub at_unclean : (node : NodeId) → halt ≡ halts.Unclean node → IsUnclean manner node old new

-- A part of a computation, whose value decides what is left.
abbrev pub Leaves : {S V A : Type 0} → Manner S → Asking A → (V → Asking A) → Result V Halt →
    S → List Step → S → List Step → Type 0
Leaves manner whole left (Ok value) old before new after = Goes manner whole (left value) old before new after
Leaves manner whole left (Err halt) old before new after = Stops manner whole halt old before new after

-- A computation follows a questioning: its value is the questioning's.
abbrev pub Follows : {S A : Type 0} → Manner S → Asking A → Result A Halt →
    S → List Step → S → List Step → Type 0
Follows manner whole result old before new after = Leaves manner whole gives result old before new after

-- Learning a node's answer: its step stands at the place that is answered.
abbrev pub Learns : {S : Type 0} → Manner S → NodeId → Result ℕ Halt →
    S → List Step → S → List Step → Type 0
Learns manner node (Ok place) old before new after =
    (step : Step) × (slice_get after place ≡ Some step) × Goes manner (ask node) (gives step.value) old before new after
Learns manner node (Err halt) old before new after = Stops manner (ask node) halt old before new after
