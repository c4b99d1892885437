-- Blocks answered one after the other, as the program keeps its state: the program and a count in place of the accepted edits, and the bytes that are no whole block.
use Rattle.std.specs.Prelude.{◌≡◌, ℕ, ◌+◌, List, ◌∷◌, ◌++◌, length, Option, Result, Ok, Err, is_ok, if◌then◌else◌, IfSome}
use Rattle.std.specs.List.{concat}
use Rattle.std.specs.Io.KnownBytes.{Appends}
use Rattle.vx_syntax.specs.declared.decl.Decl.{Decl}
use Rattle.vx_program.specs.declared.edit.Edit.{Edit}
use Rattle.vx_program.specs.declared.edit.EditFault.{EditFault}
use Rattle.vx_program.specs.declared.edit.EditFault.TheVariants as f
use Rattle.vx_program.specs.Apply.{apply}
use Rattle.vx_reader.specs.declared.command.Command.{Command}
use Rattle.vx_reader.specs.declared.command.Command.TheVariants as c
use Rattle.vx_reader.specs.declared.command.ReadFault.{ReadFault}
use Rattle.vx_reader.specs.Reads.{Reads}
use Rattle.vx_blocks.specs.Blocks.{blocks}
use Rattle.vx_io.specs.Sink.{AppendsPart}
use Rattle.vx_batch.specs.Script.{after, edited, reply, edit_reply, Answers, AreReplies}

-- the count when an edit was answered
abbrev pub counted : List Decl → ℕ → Edit → ℕ
counted program count edit = if is_ok (apply program edit.changes) then count + 1 else count

-- the same when a block was answered that is read so
abbrev pub program_after : List Decl → Result Command ReadFault → List Decl
program_after program (Ok (c.Edit edit)) = edited program edit
program_after program answer = program

abbrev pub count_after : List Decl → ℕ → Result Command ReadFault → ℕ
count_after program count (Ok (c.Edit edit)) = counted program count edit
count_after program count answer = count

-- an edit is answered with this text
pub record IsEdited (program next : List Decl) (count next_count : ℕ) (edit : Edit) (text : List ℕ) : Type 0 where
  pub replied : text ≡ edit_reply count (apply program edit.changes)
  pub kept : next ≡ edited program edit
  pub counts : next_count ≡ counted program count edit

-- a block that is not too long is answered with this text
pub record IsAnswered (program next : List Decl) (count next_count : ℕ) (block text : List ℕ) : Type 0 where
  pub answer : Result Command ReadFault
  pub reads : Reads block answer
  pub replied : text ≡ reply program count answer
  pub kept : next ≡ program_after program answer
  pub counts : next_count ≡ count_after program count answer

-- the text of a fault, which isn't want of memory
abbrev pub IsRefusal : EditFault → List ℕ → Type 0
IsRefusal f.OutOfMemory text = ⊥
IsRefusal fault text = text ≡ edit_reply 0 (Err fault)

-- the program and the count are those of the accepted edits
pub record IsAfter (program : List Decl) (count : ℕ) (edits : List Edit) : Type 0 where
  pub program_is : program ≡ after edits
  pub count_is : count ≡ length edits

-- From the edits on, the blocks that are gone from the old bytes were answered, and the sink took their replies; then the last edits were accepted.
pub record HasReplied (edits last : List Edit) (old new : List ℕ) (sink_old sink_new : Option (List ℕ)) : Type 0 where
  pub done : List (List ℕ)
  pub texts : List (List ℕ)
  pub replies : AreReplies edits done texts last
  pub cut : (more : List ℕ) → blocks (old ++ more) ≡ done ++ blocks (new ++ more)
  pub sent : Appends sink_old sink_new (concat texts)

-- The same up to a block whose reply the sink took in part.
pub record HasCut (edits : List Edit) (old : List ℕ) (sink_old sink_new : Option (List ℕ)) : Type 0 where
  pub done : List (List ℕ)
  pub texts : List (List ℕ)
  pub last : List Edit
  pub replies : AreReplies edits done texts last
  pub block : List ℕ
  pub text : List ℕ
  pub next : List Edit
  pub answers : Answers last block text next
  pub rest : List ℕ
  pub cut : (more : List ℕ) → blocks (old ++ more) ≡ done ++ block ∷ blocks (rest ++ more)
  pub sent : IfSome sink_old (λ before. AppendsPart (before ++ concat texts) sink_new text)

-- The bytes are the last block, or none: it was answered, and the sink took the reply.
pub record HasFinished (edits : List Edit) (bytes : List ℕ) (sink_old sink_new : Option (List ℕ)) : Type 0 where
  pub texts : List (List ℕ)
  pub last : List Edit
  pub replies : AreReplies edits (blocks bytes) texts last
  pub sent : Appends sink_old sink_new (concat texts)

-- The sink took the reply to the last block in part.
pub record HasFinishedInPart (edits : List Edit) (bytes : List ℕ) (sink_old sink_new : Option (List ℕ)) : Type 0 where
  pub texts : List (List ℕ)
  pub last : List Edit
  pub replies : AreReplies edits (blocks bytes) texts last
  pub sent : IfSome sink_old (λ before. AppendsPart before sink_new (concat texts))

-- One block was answered, and the sink took the reply.
pub record HasAnsweredBlock (edits : List Edit) (program : List Decl) (count : ℕ) (block : List ℕ) (sink_old sink_new : Option (List ℕ)) : Type 0 where
  pub text : List ℕ
  pub next : List Edit
  pub answers : Answers edits block text next
  pub state : IsAfter program count next
  pub sent : Appends sink_old sink_new text

-- One block was answered, and the sink took the reply in part.
pub record HasCutBlock (edits : List Edit) (block : List ℕ) (sink_old sink_new : Option (List ℕ)) : Type 0 where
  pub text : List ℕ
  pub next : List Edit
  pub answers : Answers edits block text next
  pub sent : IfSome sink_old (λ before. AppendsPart before sink_new text)
