-- Code with places is alike the code by names.
use Rattle.std.proofs.Common.{◌≡◌, ℕ, List, [], ◌∷◌, length, map, Option, Some, None, refl, subst}
use Rattle.vx_names.specs.declared.key.FieldKey.{FieldKey}
use Rattle.vx_syntax.specs.declared.decl.Decl.{Decl}
use Rattle.vx_model.specs.declared.report.RunError.{RunError}
use Rattle.vx_model.specs.declared.report.RunError.TheVariants as e
use Rattle.vx_format.specs.declared.image.Block.{Block}
use Rattle.vx_format.specs.declared.image.Image.{Image}
use Rattle.vx_compilation.specs.TreeMeaning.{by_name, CodeKey, Sends, Resends}
use Rattle.vx_compilation.specs.Machine.{Instruction, PushInt, PushText, PushObject, Load, Store, NewCell, GetCell, SetCell, Close, Send, Enter}
use Rattle.vx_compilation.specs.Machine.{Perform, Get, Set, Make, Pop, Leave, LeaveHome, Mark, Fail}
use Rattle.vx_compilation.specs.Machine as machine
use Rattle.vx_compilation.specs.Code.{codes_of}
use Rattle.vx_compilation.specs.Compiled.{blocks}
use Rattle.vx_compilation.specs.Alike as alike
use Rattle.vx_compilation.specs.Alike.{FieldsAlike, InstructionAlike, CodeAlike, BlockAlike, BlocksAlike}
use Rattle.vx_places.specs.ImageMachine as place
use Rattle.vx_places.specs.ImageMachine.{by_place, To, Onward, instruction, block_of, block_at}
use Rattle.vx_places.specs.Linked.{Places, At, sends, resends, matching}
use Rattle.vx_places.specs.Emitted.{Numbers, failing, emitted, FieldsThere, IsFailing, IsEmitted, AreEmitted, IsBlock, CodesAreEmitted}

module _ (r : Places) (g : Numbers) (image : Image) where
  fields_alike : (fields : List FieldKey) → FieldsThere r g image fields → FieldsAlike (matching r) fields (map g.field fields)
  fields_alike [] h = tt
  fields_alike (field ∷ fields) h = (h.0, fields_alike fields h.1)

  -- the count is the same
  send_alike : (selector : _) (t one other : ℕ) → At r.selectors selector t → one ≡ other →
      InstructionAlike (matching r) (Send (Sends selector) other) (Send (To t) one)
  send_alike selector t one other at e = subst (λ count. InstructionAlike (matching r) (Send (Sends selector) count) (Send (To t) one)) e
      (alike.send (sends at))

  fail_alike : (error : RunError) → IsFailing r g image error → InstructionAlike (matching r) (Fail error) (instruction image (failing error))
  fail_alike (e.NoField name) h = alike.fail
  fail_alike (e.UnknownObject name) h = alike.fail
  fail_alike (e.NotUnderstood selector) h = alike.fail
  fail_alike (e.Ambiguous selector) h = absurd h
  fail_alike e.Overflow h = absurd h
  fail_alike e.DivideByZero h = absurd h
  fail_alike e.DeadReturn h = absurd h
  fail_alike (e.ClosureArity count) h = absurd h
  fail_alike e.StringLimit h = absurd h

  emitted_alike : (i : Instruction by_name) → IsEmitted r g image i → InstructionAlike (matching r) i (instruction image (emitted g i))
  emitted_alike (PushInt z) h = alike.push_int
  emitted_alike (PushText bytes) h = alike.push_text
  emitted_alike (PushObject object) h = alike.push_object h
  emitted_alike (Load x) h = alike.load
  emitted_alike (Store x) h = alike.store
  emitted_alike (NewCell x) h = alike.new_cell
  emitted_alike (GetCell x) h = alike.get_cell
  emitted_alike (SetCell x) h = alike.set_cell
  emitted_alike (Close block xs) h = alike.close
  emitted_alike (Send (Sends selector) count) h = send_alike selector (g.selector selector) (place.arity_of image (g.selector selector)) count h.0 h.1
  emitted_alike (Send (Resends method (Some row)) count) h =
      let t = g.selector method.selector in
      subst (λ count. InstructionAlike (matching r) (Send (Resends method (Some row)) count) (Send (Onward t row) (place.arity_of image t))) h.1
      (alike.send (resends h.0 h.2))
  emitted_alike (Send (Resends method None) count) h = absurd h
  emitted_alike (Enter code count) h = subst (λ count. InstructionAlike (matching r) (Enter code count)
      (Enter (g.code code) (place.formals_of image (g.code code)))) h.1 (alike.enter h.0)
  emitted_alike (Perform number count) h = subst (λ count. InstructionAlike (matching r) (Perform number count)
      (Perform number (place.count_of number))) h alike.perform
  emitted_alike (Get field count) h = subst (λ count. InstructionAlike (matching r) (Get field count) (Get (g.field field) 1)) h.1 (alike.get h.0)
  emitted_alike (Set field count) h = subst (λ count. InstructionAlike (matching r) (Set field count) (Set (g.field field) 2)) h.1 (alike.set h.0)
  emitted_alike (Make object fields count) h =
      subst (λ count. InstructionAlike (matching r) (Make object fields count)
      (Make (g.object object) (map g.field fields) (length (map g.field fields)))) h.2 (alike.make h.0 (fields_alike fields h.1))
  emitted_alike Pop h = alike.pop
  emitted_alike Leave h = alike.leave
  emitted_alike LeaveHome h = alike.leave_home
  emitted_alike Mark h = alike.mark
  emitted_alike (Fail error) h = fail_alike error h

  code_alike : (code : List (Instruction by_name)) → AreEmitted r g image code → CodeAlike (matching r) code (map (instruction image) (map (emitted g) code))
  code_alike [] h = tt
  code_alike (own ∷ code) h = (emitted_alike own h.0, code_alike code h.1)

  block_alike : (a : Option (machine.Block by_name)) (b : Option Block) → IsBlock r g image a b →
      BlocksAlike (matching r) a (elim b [ Some own ↦ Some (block_of image own) | None ↦ None ])
  block_alike None None h = tt
  block_alike None (Some b) h = absurd h
  block_alike (Some a) None h = absurd h
  block_alike (Some a) (Some b) h =
      subst (λ own. BlockAlike (matching r) a (block_of image own)) h.1
      (record { locals = refl; captures = refl; formals = refl; code = code_alike a.code h.0 })

  -- what `Linked` asks of codes
  pub emitted_blocks : (program : List Decl) → CodesAreEmitted r g image program → (a : CodeKey) (b number : ℕ) → At r.codes a b →
      BlocksAlike (matching r) (codes_of (blocks program) a number) (place.codes_of image b number)
  emitted_blocks program are a b number at = block_alike (codes_of (blocks program) a number) (block_at image b number) (are a b number at)
