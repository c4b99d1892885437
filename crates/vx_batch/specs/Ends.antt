-- How a run of the program ends.
use Rattle.std.specs.Prelude.{◌≡◌, ℕ, ◌-◌, ◌<◌, ◌≤◌, Bool, false, List, [], ◌++◌, length, codes, Option, Some, None, true, IfSome}
use Rattle.std.specs.List.{concat}
use Rattle.std.specs.Io.KnownBytes.{Consumes}
use Rattle.vx_program.specs.declared.edit.Edit.{Edit}
use Rattle.vx_blocks.specs.Blocks.{blocks, has_end_line}
use Rattle.vx_batch.specs.declared.pieces.TheConstants.{INPUT_BYTES, PIECE_BYTES}
use Rattle.vx_batch.specs.declared.pieces.End.{End}
use Rattle.vx_batch.specs.declared.pieces.End.TheVariants.{Answered, ReadFailed, TooLong, Stopped}
use Rattle.vx_batch.specs.declared.script.Stop.TheVariants.{WriteFailed, OutOfMemory}
use Rattle.vx_io.specs.Faults.{HasRisen}
use Rattle.vx_batch.specs.Script.{AreReplies}
use Rattle.vx_batch.specs.Text.{line}

-- the line that tells how to start the program
abbrev pub usage_line : List ℕ
usage_line = line (codes "usage: vortex_batch")

-- The sink has, after what it had, the replies to all blocks of the input.
pub record HasReplies (input before : List ℕ) (now : Option (List ℕ)) : Type 0 where
  pub texts : List (List ℕ)
  pub last : List Edit
  pub replies : AreReplies [] (blocks input) texts last
  pub has : now ≡ Some (before ++ concat texts)

-- The sink has, after what it had, a front of the replies: whole ones, and then a front of the next. The rest is wanting.
pub record HasFront (input before : List ℕ) (now : Option (List ℕ)) (wanting : List ℕ) : Type 0 where
  pub texts : List (List ℕ)
  pub last : List Edit
  pub replies : AreReplies [] (blocks input) texts last
  pub front : List ℕ
  pub parts : front ++ wanting ≡ concat texts
  pub has : now ≡ Some (before ++ front)

-- These are the blocks that are whole in the bytes: they are cut off first, whatever follows, and no end line stands in the rest.
pub record AreWhole (bytes : List ℕ) (whole : List (List ℕ)) : Type 0 where
  pub rest : List ℕ
  pub cut : (more : List ℕ) → blocks (bytes ++ more) ≡ whole ++ blocks (rest ++ more)
  pub ends : has_end_line rest ≡ false

-- The sink has, after what it had, the replies to the blocks that are whole in the bytes.
pub record HasWholeReplies (bytes before : List ℕ) (now : Option (List ℕ)) : Type 0 where
  pub whole : List (List ℕ)
  pub are_whole : AreWhole bytes whole
  pub texts : List (List ℕ)
  pub last : List Edit
  pub replies : AreReplies [] whole texts last
  pub has : now ≡ Some (before ++ concat texts)

-- The source gave some of its bytes, and the sink has the replies to their whole blocks.
pub record HasAnsweredTaken (all : List ℕ) (left : Option (List ℕ)) (before : List ℕ) (now : Option (List ℕ)) : Type 0 where
  pub taken : List ℕ
  pub gave : Consumes (Some all) left taken
  pub replies : HasWholeReplies taken before now

-- The source gave the bytes that were fed and a last piece, with which they are too many; the sink has the replies to the whole blocks of those that were fed.
pub record HasAnsweredFed (all : List ℕ) (left : Option (List ℕ)) (before : List ℕ) (now : Option (List ℕ)) : Type 0 where
  pub fed : List ℕ
  pub piece : List ℕ
  pub gave : Consumes (Some all) left (fed ++ piece)
  pub within : length fed ≤ INPUT_BYTES
  pub small : length piece ≤ PIECE_BYTES
  pub past : INPUT_BYTES < length (fed ++ piece)
  pub replies : HasWholeReplies fed before now

-- how many bytes a source has given that told all these before, and tells what is left now
abbrev pub given : List ℕ → Option (List ℕ) → ℕ
given all None = 0
given all (Some rest) = length all - length rest

-- What an end of reading and answering says: of the source what it told before and tells now, whether its last read answered that it ended, and its counts of faults; of the sink what it had and has, and its counts.
abbrev pub HasEnded : End → Option (List ℕ) → Option (List ℕ) → Bool → ℕ → ℕ → Option (List ℕ) → Option (List ℕ) → ℕ → ℕ → Type 0
HasEnded Answered left left_now ended faults faults_now sink sink_now sink_faults sink_faults_now =
    (ended ≡ true) × IfSome left (λ all. (given all left_now ≤ INPUT_BYTES) × (left_now ≡ Some []) × IfSome sink (λ before. HasReplies all before sink_now))
HasEnded ReadFailed left left_now ended faults faults_now sink sink_now sink_faults sink_faults_now =
    (ended ≡ false) × HasRisen faults faults_now × IfSome left (λ all. (given all left_now ≤ INPUT_BYTES) × IfSome sink (λ before. HasAnsweredTaken all left_now before sink_now))
HasEnded TooLong left left_now ended faults faults_now sink sink_now sink_faults sink_faults_now =
    (ended ≡ false) × IfSome left (λ all. (INPUT_BYTES < given all left_now) × IfSome sink (λ before. HasAnsweredFed all left_now before sink_now))
HasEnded (Stopped WriteFailed) left left_now ended faults faults_now sink sink_now sink_faults sink_faults_now =
    HasRisen sink_faults sink_faults_now × IfSome left (λ all. (given all left_now ≤ INPUT_BYTES) × IfSome sink (λ before. (wanting : List ℕ) × (0 < length wanting) × HasFront all before sink_now wanting))
HasEnded (Stopped OutOfMemory) left left_now ended faults faults_now sink sink_now sink_faults sink_faults_now =
    IfSome left (λ all. (given all left_now ≤ INPUT_BYTES) × IfSome sink (λ before. (wanting : List ℕ) × HasFront all before sink_now wanting))
