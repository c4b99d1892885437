-- The replies to a script: one text for each of its blocks, from the edits accepted so far.
use Rattle.std.specs.Prelude.{◌≡◌, ℕ, ◌+◌, ◌<◌, ◌≤◌, List, [], ◌∷◌, ◌++◌, length, Result, Ok, Err, is_ok, if◌then◌else◌}
use Rattle.std.specs.Result.{result_unwrap_or}
use Rattle.vx_syntax.specs.declared.decl.Decl.{Decl}
use Rattle.vx_syntax.specs.Print.{key_text}
use Rattle.vx_program.specs.declared.edit.Edit.{Edit}
use Rattle.vx_program.specs.declared.edit.EditFault.{EditFault}
use Rattle.vx_program.specs.declared.edit.EditFault.TheVariants as f
use Rattle.vx_program.specs.Prelude.{prelude}
use Rattle.vx_program.specs.Apply.{apply}
use Rattle.vx_reader.specs.declared.command.Command.{Command}
use Rattle.vx_reader.specs.declared.command.Command.TheVariants as c
use Rattle.vx_reader.specs.declared.command.ReadFault.{ReadFault}
use Rattle.vx_reader.specs.declared.command.ReadFault.TheVariants as r
use Rattle.vx_reader.specs.Reads.{Reads}
use Rattle.vx_batch.specs.Image.{image_of}
use Rattle.vx_batch.specs.Text.{accepted_text, reserved_text, exists_text, missing_text, unknown_text, wrong_kind_text, cycle_text, in_use_text, limit_text, syntax_text, too_deep_text, number_too_large_text, not_yet_built_text, image_text, too_long_text}
use Rattle.vx_batch.specs.Listing.{list_text}
use Rattle.vx_batch.specs.Reports.{mean_text}
use Rattle.vx_blocks.specs.declared.block.TheConstants.{BLOCK_BYTES}

-- the program after an edit; one that is refused changes nothing
abbrev pub edited : List Decl → Edit → List Decl
edited program edit = result_unwrap_or (apply program edit.changes) program

-- the program after these edits, one after the other
abbrev pub after_from : List Decl → List Edit → List Decl
after_from program [] = program
after_from program (edit ∷ edits) = after_from (edited program edit) edits

-- the program after these edits of the prelude
abbrev pub after : List Edit → List Decl
after edits = after_from prelude edits

-- the reply to an edit, after so many accepted ones
abbrev pub edit_reply : ℕ → Result (List Decl) EditFault → List ℕ
edit_reply count (Ok program) = accepted_text (count + 1)
edit_reply count (Err (f.Reserved key)) = reserved_text (key_text key)
edit_reply count (Err (f.Exists key)) = exists_text (key_text key)
edit_reply count (Err (f.Missing key)) = missing_text (key_text key)
edit_reply count (Err (f.Unknown name)) = unknown_text name
edit_reply count (Err (f.WrongKind name)) = wrong_kind_text name
edit_reply count (Err (f.Cycle name)) = cycle_text name
edit_reply count (Err (f.InUse name by)) = in_use_text name (key_text by)
edit_reply count (Err (f.Limit which number)) = limit_text which number
edit_reply count (Err f.OutOfMemory) = []

-- The reply to a block that is read so, where the program stands after so many accepted edits. Applying never runs out of memory, and no block is read as want of memory.
abbrev pub reply : List Decl → ℕ → Result Command ReadFault → List ℕ
reply program count (Ok c.Blank) = []
reply program count (Ok c.Image) = image_text count (image_of program)
reply program count (Ok c.List) = list_text program
reply program count (Ok (c.Run n)) = not_yet_built_text
reply program count (Ok (c.Mean calls)) = mean_text program calls
reply program count (Ok c.Why) = not_yet_built_text
reply program count (Ok c.Journal) = not_yet_built_text
reply program count (Ok (c.Edit edit)) = edit_reply count (apply program edit.changes)
reply program count (Err (r.Syntax place)) = syntax_text place
reply program count (Err (r.TooDeep place)) = too_deep_text place
reply program count (Err (r.NumberTooLarge place)) = number_too_large_text place
reply program count (Err r.OutOfMemory) = []

-- the accepted edits when a block that is read so was answered
abbrev pub accepted_with : List Edit → Result Command ReadFault → List Edit
accepted_with edits (Ok (c.Edit edit)) = if is_ok (apply (after edits) edit.changes) then edits ++ edit ∷ [] else edits
accepted_with edits answer = edits

-- After these accepted edits a block is answered with the text, and then those edits are accepted.
pub data Answers : List Edit → List ℕ → List ℕ → List Edit → Type 0 where
  -- a block that is too long is not read
  too_long : {edits : List Edit} {block : List ℕ} → BLOCK_BYTES < length block → Answers edits block (too_long_text (length block)) edits
  read : {edits : List Edit} {block : List ℕ} (answer : Result Command ReadFault) → length block ≤ BLOCK_BYTES → Reads block answer →
      Answers edits block (reply (after edits) (length edits) answer) (accepted_with edits answer)

-- The blocks are answered in order with these texts, from the edits accepted before to those accepted then.
abbrev pub AreReplies : List Edit → List (List ℕ) → List (List ℕ) → List Edit → Type 0
AreReplies edits [] texts last = (texts ≡ []) × (last ≡ edits)
AreReplies edits (block ∷ blocks) texts last =
    (text : List ℕ) × (next : List Edit) × Answers edits block text next × ((rest : List (List ℕ)) × (texts ≡ text ∷ rest) × AreReplies next blocks rest last)

-- An edit that is refused, in the program after the edits accepted so far, changes nothing: the reply to its block names the fault, and the replies
-- to all other blocks are those of the script without it.
abbrev pub RefusedEditsChangeNothing : Type 0
RefusedEditsChangeNothing =
    (edits mid last : List Edit) (earlier later front texts : List (List ℕ)) (block : List ℕ) (edit : Edit) (fault : EditFault) →
    AreReplies edits earlier front mid → length block ≤ BLOCK_BYTES → Reads block (Ok (c.Edit edit)) → apply (after mid) edit.changes ≡ Err fault →
    AreReplies edits (earlier ++ block ∷ later) texts last →
    (rest : List (List ℕ)) × (texts ≡ front ++ edit_reply (length mid) (Err fault) ∷ rest) × AreReplies edits (earlier ++ later) (front ++ rest) last
