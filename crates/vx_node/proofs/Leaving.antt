-- Parts of computations put together.
use Rattle.std.proofs.Common.{List, Result, Ok, Err, arith, sym, subst, inl, inr, ◌≡◌}
use Rattle.vx_node.specs.declared.node.NodeId.{NodeId}
use Rattle.vx_node.specs.declared.trace.Step.{Step}
use Rattle.vx_node.specs.declared.asker.Halt.{Halt}
use Rattle.vx_node.specs.declared.asker.Halt.TheVariants as halts
use Rattle.vx_node.specs.Traces.{Answers}
use Rattle.vx_node.specs.Asking.{Asking, gives, mixes, followed, Reaches}
use Rattle.std.specs.Prelude.{IsErrAnd}
use Rattle.vx_node.specs.Askers.{Manner, Through, rests, moves, Tells, Stays, IsUnclean, Adds, Goes, Stops, Leaves}
use Rattle.vx_node.proofs.Reached.{starts, later, within, within_mixed}

-- some asks after others, and those of an asker over another one
pub goes_through : {S : Type 0} (goes : S → S → Type 0) (s t u : S) → Through goes s t → Through goes t u → Through goes s u
goes_through goes s _ _ before (rests t) = before
goes_through goes s _ _ before (moves t u w middle last) = moves s u w (goes_through goes s t u before middle) last

pub once_through : {S : Type 0} (goes : S → S → Type 0) (s t : S) → goes s t → Through goes s t
once_through goes s t once = moves s s t (rests s) once

pub through_inner : {S O : Type 0} (goes : S → S → Type 0) (inner : O → S) (a b : O) → Through (λ x y. Through goes (inner x) (inner y)) a b → Through goes (inner a) (inner b)
through_inner goes inner _ _ (rests a) = rests (inner a)
through_inner goes inner _ _ (moves a b c before last) = goes_through goes (inner a) (inner b) (inner c) (through_inner goes inner a b before) last

pub stays_on : {S : Type 0} {manner : Manner S} {old now new : S} → Stays manner old now →
    Stays manner now new → Stays manner old new
stays_on {manner = manner} {old = old} {now = now} {new = new} first second = record {
  before = λ answer a. first.before answer (second.before answer a);
  behind = λ answer a. second.behind answer (first.behind answer a);
  once = λ s. first.once (second.once s);
  counted = omega (arith, first.counted, second.counted);
  through = goes_through manner.goes old now new first.through second.through;
}

pub as_it_is : {S : Type 0} (manner : Manner S) (state : S) → Stays manner state state
as_it_is manner state = record { before = λ answer a. a; behind = λ answer a. a; once = λ s. s; counted = omega arith; through = rests state }

-- what is told was told before
pub told_before : {S : Type 0} {manner : Manner S} {old new : S} → Stays manner old new →
    (answer : Answers) → Tells manner new answer → Tells manner old answer
told_before stays answer told = (stays.before answer told.0, stays.once told.1)

pub added : {S : Type 0} {manner : Manner S} {old now new : S} {before middle after : List Step} →
    Adds manner old before now middle → Adds manner now middle new after → Adds manner old before new after
added first second = record {
  stays = stays_on first.stays second.stays;
  kept = λ step i. second.kept step (first.kept step i);
  agrees = λ answer told agrees. second.agrees answer told (first.agrees answer (told_before second.stays answer told) agrees);
}

-- what was unclean in the second part was so in the whole
pub unclean_since : {S : Type 0} {manner : Manner S} {old now new : S} {at : NodeId} →
    Stays manner old now → IsUnclean manner at now new → IsUnclean manner at old new
unclean_since {manner = manner} {old = old} {now = now} {new = new} first second = record {
  rose = elim second.rose [ inl less ↦ inl (omega (arith, first.counted, less)) | inr greatest ↦ inr greatest ];
  at = second.at;
  untold = second.untold;
}

-- one part after another
pub goes_on : {S A : Type 0} {manner : Manner S} {old now new : S} {before middle after : List Step} {whole part left : Asking A} →
    Goes manner whole part old before now middle → Goes manner part left now middle new after → Goes manner whole left old before new after
goes_on first second = record { adds = added first.adds second.adds; reaches = later first.reaches second.reaches }

-- a part that stops stops the whole
pub stops : {S A : Type 0} {manner : Manner S} {old now new : S} {before middle after : List Step}
    {whole part : Asking A} {halt : Halt} → Goes manner whole part old before now middle → Stops manner part halt now middle new after →
    Stops manner whole halt old before new after
stops first second = record {
  adds = added first.adds second.adds;
  mixed = λ node e. later first.reaches (second.mixed node e);
  at_unclean = λ node e. unclean_since first.adds.stays (second.at_unclean node e);
}

-- a questioning within another
pub goes_within : {S A B : Type 0} {manner : Manner S} {old new : S} {before after : List Step} {q : Asking A} {value : A}
    (go : A → Asking B) → Goes manner q (gives value) old before new after → Goes manner (followed q go) (go value) old before new after
goes_within go goes = record { adds = goes.adds; reaches = within go goes.reaches }

pub stops_within : {S A B : Type 0} {manner : Manner S} {old new : S} {before after : List Step}
    {q : Asking A} {halt : Halt} (go : A → Asking B) → Stops manner q halt old before new after →
    Stops manner (followed q go) halt old before new after
stops_within go stopped = record { adds = stopped.adds; mixed = λ node e. within_mixed go (stopped.mixed node e); at_unclean = stopped.at_unclean }

-- a computation that wants memory, or gives up at a node at which the questioning does
pub wants_memory : {S A : Type 0} {manner : Manner S} {old new : S} {before after : List Step}
    {whole : Asking A} → Adds manner old before new after → Stops manner whole halts.OutOfMemory old before new after
wants_memory adds = record { adds = adds; mixed = λ node e. absurd (cc); at_unclean = λ node e. absurd (cc) }

pub gives_up : {S A : Type 0} {manner : Manner S} {old new : S} {before after : List Step}
    {whole : Asking A} {at : NodeId} → Goes manner whole (mixes at) old before new after → Stops manner whole (halts.Mixed at) old before new after
gives_up {before = before} {after = after} {whole = whole} {at = at} goes = record {
  adds = goes.adds;
  mixed = λ node e. let same : at ≡ node = cc in subst (λ n. Reaches before after whole (mixes n)) same goes.reaches;
  at_unclean = λ node e. absurd (cc);
}

-- what a use of the tracer that asks nothing leaves
pub idle : {S A : Type 0} (manner : Manner S) (state : S) (steps : List Step) (whole : Asking A) →
    Goes manner whole whole state steps state steps
idle manner state steps whole = record {
  adds = record {
    stays = as_it_is manner state;
    kept = λ step i. i;
    agrees = λ answer t agrees. agrees;
  };
  reaches = starts steps whole;
}

-- a computation that wants memory before it has asked
pub no_memory : {S A : Type 0} {manner : Manner S} {state : S} {steps : List Step} {whole : Asking A} → Stops manner whole halts.OutOfMemory state steps state steps
no_memory {manner = manner} {state = state} {steps = steps} = wants_memory (record { stays = as_it_is manner state; kept = λ step i. i; agrees = λ answer t agrees. agrees })

-- the asker said that a node is unclean
pub said_unclean : {S A : Type 0} {manner : Manner S} {old new : S} (steps : List Step)
    {whole : Asking A} {at : NodeId} → Stays manner old new → IsUnclean manner at old new →
    Stops manner whole (halts.Unclean at) old steps new steps
said_unclean {manner = manner} {old = old} {new = new} steps {at = at} stays is = record {
  adds = record { stays = stays; kept = λ step i. i; agrees = λ answer t agrees. agrees };
  mixed = λ node e. absurd (cc);
  at_unclean = λ node e. let same : at ≡ node = cc in subst (λ n. IsUnclean manner n old new) same is;
}

-- the asker wanted memory
pub said_nothing : {S A : Type 0} {manner : Manner S} {old new : S} (steps : List Step)
    {whole : Asking A} → Stays manner old new → Stops manner whole halts.OutOfMemory old steps new steps
said_nothing steps stays = wants_memory (record { stays = stays; kept = λ step i. i; agrees = λ answer t agrees. agrees })

-- what a part that stopped leaves, where its halt was handed on
pub handed_on : {S V A : Type 0} (manner : Manner S) (whole : Asking A) (left : V → Asking A)
    (result : Result V Halt) (halt : Halt) (old : S) (before : List Step) (new : S) (after : List Step) → IsErrAnd result (λ own. own ≡ halt) →
    Stops manner whole halt old before new after → Leaves manner whole left result old before new after
handed_on manner whole left (Ok value) halt old before new after is stopped = absurd is
handed_on manner whole left (Err own) halt old before new after is stopped =
    subst (λ one. Stops manner whole one old before new after) (sym is) stopped
