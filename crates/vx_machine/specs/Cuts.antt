-- Activations that share a stack of operands and one of locals.
use Rattle.std.specs.Prelude.{◌≡◌, ℕ, ◌+◌, ◌-◌, ◌≤◌, List, [], ◌∷◌, ◌++◌, length, take, drop, reverse, replicate, map, slice_get, slice_set, Option}
use Rattle.std.specs.Prelude.{Some, None, Bool, false, ◌==◌, if◌then◌else◌}
use Rattle.vx_format.specs.declared.image.Instr.{Instr}
use Rattle.vx_format.specs.declared.image.Instr.TheVariants as n
use Rattle.vx_format.specs.declared.image.Block.{Block}
use Rattle.vx_names.specs.Name.{IsName}
use Rattle.vx_machine.specs.declared.word.Word.{Word}
use Rattle.vx_machine.specs.declared.word.Local.{Local}
use Rattle.vx_machine.specs.declared.word.Local.TheVariants.{Unset, Plain}
use Rattle.vx_machine.specs.declared.word.Role.{Role}
use Rattle.vx_machine.specs.declared.word.Role.TheVariants as roles
use Rattle.vx_machine.specs.declared.word.Kept.{Kept}

-- an activation with its parts of the stacks: the instructions left, the operands with the top first, the locals
pub record Cut : Type 0 where
  pub code : ℕ
  pub left : List Instr
  pub operands : List Word
  pub locals : List Local
  pub role : Role

-- the one that runs, and those that wait for it, the innermost first
pub record Stacked : Type 0 where
  pub running : Cut
  pub waiting : List Cut

abbrev pub cut : Kept → List Local → List Word → Cut
cut kept locals operands = record {
  code = kept.code;
  left = drop kept.next kept.instrs.now;
  operands = reverse (drop kept.floor operands);
  locals = drop kept.base locals;
  role = kept.role;
}

abbrev pub cuts : List Kept → List Local → List Word → List Cut
cuts [] locals operands = []
cuts (kept ∷ rest) locals operands = cut kept locals operands ∷ cuts rest (take kept.base locals) (take kept.floor operands)

abbrev pub stacked : Kept → List Kept → List Local → List Word → Stacked
stacked kept below locals operands =
    record { running = cut kept locals operands; waiting = cuts below (take kept.base locals) (take kept.floor operands) }

-- what an instruction fails with has a name that is one
abbrev pub IsNamed : Instr → Type 0
IsNamed (n.Fail kind name arity) = IsName name
IsNamed instr = Unit {0}

abbrev pub AreNamed : List Instr → Type 0
AreNamed instrs = (i : ℕ) (instr : Instr) → slice_get instrs i ≡ Some instr → IsNamed instr

-- each lies on the one below it
abbrev pub Lie : List Kept → List Local → List Word → Type 0
Lie [] locals operands = Unit {0}
Lie (kept ∷ rest) locals operands =
    (kept.base ≤ length locals) × (kept.floor ≤ length operands) × AreNamed kept.instrs.now × Lie rest (take kept.base locals) (take kept.floor operands)

abbrev pub pushed : Word → Stacked → Stacked
pushed word s = record s { running = record s.running { operands = word ∷ s.running.operands } }

-- so many operands go from the top
abbrev pub forgotten : ℕ → Stacked → Stacked
forgotten count s = record s { running = record s.running { operands = drop count s.running.operands } }

abbrev pub with_local : ℕ → Local → Stacked → Stacked
with_local x held s = record s { running = record s.running { locals = slice_set s.running.locals x held } }

abbrev pub with_left : List Instr → Stacked → Stacked
with_left instrs s = record s { running = record s.running { left = instrs } }

-- the locals of a block that is entered: what was captured, the arguments, the rest
abbrev pub opened : ℕ → List Local → List Word → List Local
opened count captures arguments =
    captures ++ (map (λ word. Plain word) arguments ++ replicate (count - length captures - length arguments) Unset)

-- more stands behind
abbrev pub Extends : {A : Type 0} → List A → List A → Type 0
Extends {A} old new = (more : List A) × (new ≡ old ++ more)

-- a block's activation, whose arguments are so many of the topmost operands, with so many below them that go, too
abbrev pub entered : ℕ → Block → List Local → ℕ → ℕ → Role → Stacked → Stacked
entered code block captures count under role s = record {
  running = record {
    code = code;
    left = block.code;
    operands = [];
    locals = opened block.locals captures (reverse (take count s.running.operands));
    role = role;
  };
  waiting = record s.running { operands = drop (count + under) s.running.operands } ∷ s.waiting;
}

-- a block's activation in the place of the one that runs
abbrev pub restarted : ℕ → Block → List Local → Role → Stacked → Stacked
restarted code block captures role s = record {
  running = record { code = code; left = block.code; operands = []; locals = opened block.locals captures []; role = role };
  waiting = s.waiting;
}

-- the activation that runs, without operands and locals
abbrev pub emptied : Stacked → Stacked
emptied s = record s { running = record s.running { operands = []; locals = [] } }

-- those are the last of all
abbrev pub IsRest : List Cut → List Cut → Type 0
IsRest all rest = (front : List Cut) × (all ≡ front ++ rest)

abbrev pub is_home : ℕ → Role → Bool
is_home home (roles.Method number) = home == number
is_home home role = false

-- the activations below the home, if it has not ended
abbrev pub below_home : ℕ → List Cut → Option (List Cut)
below_home home [] = None
below_home home (own ∷ rest) = if is_home home own.role then Some rest else below_home home rest
