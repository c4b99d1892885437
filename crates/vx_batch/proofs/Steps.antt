-- The accepted edits, as the program keeps them: the program that they make, and how many they are.
use Rattle.std.proofs.Common.{◌≡◌, ℕ, ◌+◌, ◌≤◌, ◌<◌, List, [], ◌∷◌, ◌++◌, length, Result, Ok, Err, refl, sym, ap, ◌∙◌}
use Rattle.std.specs.Result.{is_ok, result_unwrap_or}
use Rattle.std.specs.Bool.{if◌then◌else◌}
use Rattle.std.proofs.lemmas.List.{length_push}
use Rattle.vx_syntax.specs.declared.decl.Decl.{Decl}
use Rattle.vx_program.specs.declared.edit.Edit.{Edit}
use Rattle.vx_program.specs.declared.edit.EditFault.{EditFault}
use Rattle.vx_program.specs.Prelude.{prelude}
use Rattle.vx_program.specs.Apply.{apply}
use Rattle.vx_reader.specs.declared.command.Command.{Command}
use Rattle.vx_reader.specs.declared.command.Command.TheVariants as c
use Rattle.vx_reader.specs.declared.command.ReadFault.{ReadFault}
use Rattle.vx_blocks.specs.declared.block.TheConstants.{BLOCK_BYTES}
use Rattle.vx_batch.specs.Script.{edited, after_from, after, accepted_with, reply, Answers, read, too_long}
use Rattle.vx_batch.specs.Text.{too_long_text}
use Rattle.vx_batch.specs.Steps.{program_after, count_after, IsAnswered, IsAfter}

after_push : (program : List Decl) (edits : List Edit) (edit : Edit) → after_from program (edits ++ edit ∷ []) ≡ edited (after_from program edits) edit
after_push program [] edit = refl
after_push program (e ∷ edits) edit = after_push (edited program e) edits edit

after_edit : (edits : List Edit) (edit : Edit) (answer : Result (List Decl) EditFault) → apply (after edits) edit.changes ≡ answer → after (if is_ok answer then edits ++ edit ∷ [] else edits) ≡ result_unwrap_or answer (after edits)
after_edit edits edit (Ok next) e = after_push prelude edits edit ∙ ap (λ a. result_unwrap_or a (after edits)) e
after_edit edits edit (Err fault) e = refl

-- the program is that of the edits accepted so far
after_answer : (edits : List Edit) (answer : Result Command ReadFault) → after (accepted_with edits answer) ≡ program_after (after edits) answer
after_answer edits (Ok c.Blank) = refl
after_answer edits (Ok c.Image) = refl
after_answer edits (Ok c.List) = refl
after_answer edits (Ok (c.Run n)) = refl
after_answer edits (Ok (c.Mean n)) = refl
after_answer edits (Ok c.Why) = refl
after_answer edits (Ok c.Journal) = refl
after_answer edits (Ok (c.Edit edit)) = after_edit edits edit (apply (after edits) edit.changes) refl
after_answer edits (Err fault) = refl

count_edit : (edits : List Edit) (edit : Edit) (answer : Result (List Decl) EditFault) → length (if is_ok answer then edits ++ edit ∷ [] else edits) ≡ (if is_ok answer then length edits + 1 else length edits)
count_edit edits edit (Ok next) = length_push edits edit
count_edit edits edit (Err fault) = refl

count_answer : (edits : List Edit) (answer : Result Command ReadFault) → length (accepted_with edits answer) ≡ count_after (after edits) (length edits) answer
count_answer edits (Ok c.Blank) = refl
count_answer edits (Ok c.Image) = refl
count_answer edits (Ok c.List) = refl
count_answer edits (Ok (c.Run n)) = refl
count_answer edits (Ok (c.Mean n)) = refl
count_answer edits (Ok c.Why) = refl
count_answer edits (Ok c.Journal) = refl
count_answer edits (Ok (c.Edit edit)) = count_edit edits edit (apply (after edits) edit.changes)
count_answer edits (Err fault) = refl

-- a block that is read is answered after the accepted edits
pub answers_read : (program next : List Decl) (count next_count : ℕ) (block text : List ℕ) (edits : List Edit) → IsAnswered program next count next_count block text → length block ≤ BLOCK_BYTES → IsAfter program count edits → (then' : List Edit) × Answers edits block text then' × IsAfter next next_count then'
answers_read program next count next_count block text edits answered short is =
    let said : text ≡ reply (after edits) (length edits) answered.answer =
    answered.replied ∙ (ap (λ p. reply p count answered.answer) is.program_is ∙ ap (λ k. reply (after edits) k answered.answer) is.count_is) in
    let here : Answers edits block (reply (after edits) (length edits) answered.answer) (accepted_with edits answered.answer) = read answered.answer short answered.reads in (
      accepted_with edits answered.answer,
      rw said here,
      record {
        program_is = answered.kept ∙ (ap (λ p. program_after p answered.answer) is.program_is ∙ sym (after_answer edits answered.answer));
        count_is = answered.counts ∙ (ap (λ p. count_after p count answered.answer) is.program_is ∙ (ap (λ k. count_after (after edits) k answered.answer) is.count_is ∙ sym (count_answer edits answered.answer)));
      },
    )

-- a block is answered, be it too long or read
pub answers_too_long : (program : List Decl) (count len : ℕ) (text : List ℕ) (edits : List Edit) (bytes : List ℕ) → text ≡ too_long_text len → (len ≡ length bytes) × (BLOCK_BYTES < length bytes) → IsAfter program count edits → (next : List Edit) × Answers edits bytes text next × IsAfter program count next
answers_too_long program count len text edits bytes said is after_it =
    (edits, rw (said, is.0) (too_long is.1), after_it)
