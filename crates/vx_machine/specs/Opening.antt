-- How a run begins.
use Rattle.std.specs.Prelude.{◌≡◌, ℕ, ◌+◌, nat_le, ◌&&◌, Bool, true, List, [], ◌∷◌, map}
use Rattle.vx_format.specs.declared.image.Block.{Block}
use Rattle.vx_format.specs.declared.image.ClassMask.{ClassMask}
use Rattle.vx_format.specs.declared.image.Image.{Image}
use Rattle.vx_compilation.specs.Activations.{Target, counted}
use Rattle.vx_compilation.specs.Machine.{Stepped, On, Stops, Lacks, reaches}
use Rattle.vx_places.specs.ImageMachine.{by_place, codes_of, opening, world}
use Rattle.vx_machine.specs.declared.opening.Begun.{Begun}
use Rattle.vx_machine.specs.declared.opening.Begun.TheVariants as begun
use Rattle.vx_machine.specs.declared.word.Role.TheVariants as roles
use Rattle.vx_machine.specs.Cuts.{Stacked, opened}
use Rattle.vx_machine.specs.Meaning.{Whole, frame_of}
use Rattle.vx_machine.specs.Sound.{IsStackSound}

-- the one activation of a method without arguments, which is the first
abbrev pub alone : ℕ → Block → Stacked
alone code block = record {
  running = record { code = code; left = block.code; operands = []; locals = opened block.locals [] []; role = roles.Method 0 };
  waiting = [];
}

-- what a message without arguments comes to as a run begins
abbrev pub reached_first : Image → Target by_place → Stepped by_place
reached_first image target = reaches (world image) (codes_of image) target [] [] (opening image)

-- what is said to have begun is what comes of the target
abbrev pub Begins : Image → Target by_place → Begun → Type 0
Begins image target (begun.Runs s) = (all : Whole) → reached_first image target
    ≡ On (record { now = frame_of image all s.running; below = map (frame_of image all) s.waiting; state = counted (opening image) })
Begins image target begun.Lacks = reached_first image target ≡ Lacks
Begins image target (begun.Stops error) = reached_first image target ≡ Stops error (opening image)

-- the first activation names nothing that would have to be there
abbrev pub IsBegunSound : Begun → Type 0
IsBegunSound (begun.Runs s) = (texts captured : ℕ) → IsStackSound texts captured s
IsBegunSound begun.Lacks = Unit {0}
IsBegunSound (begun.Stops error) = Unit {0}

-- each class is at least so great and greater than the one before it
abbrev pub rising : ℕ → List ClassMask → Bool
rising least [] = true
rising least (entry ∷ rest) = nat_le least entry.symbol && rising (entry.symbol + 1) rest
