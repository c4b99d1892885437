-- Code behind code.
use Rattle.std.proofs.Common.{◌≡◌, ◌∙◌, ℕ, ◌==◌, Bool, true, false, Option, Some, None, inl, inr, List, Result, Ok, Err, ◌++◌, ◌∷◌, [], refl, ap, sym, subst}
use Rattle.std.proofs.Common.{append_assoc, length, map, take, get_or, drop, ◌<◌, ◌≤◌, ◌+◌, ◌-◌, arith}
use Rattle.vx_lists.proofs.Rests.{left_at}
use Rattle.std.proofs.lemmas.List.{take_more, length-drop}
use Rattle.std.proofs.lemmas.Bool.Decides.{eqb_tells}
use Rattle.std.specs.Prelude.{OnOk}
use Rattle.vx_names.specs.declared.key.FieldKey.{FieldKey}
use Rattle.vx_syntax.specs.Expressions.{Bytes}
use Rattle.vx_compilation.specs.declared.tree.Act.{Act}
use Rattle.vx_compilation.specs.declared.tree.Part.{Part}
use Rattle.vx_compilation.specs.declared.tree.TreeBlock.{TreeBlock}
use Rattle.vx_compilation.specs.declared.tree.Part.TheVariants as p
use Rattle.vx_compilation.specs.TreeMeaning.{by_name, Stays}
use Rattle.vx_compilation.specs.Machine.{Instruction, Store, Make, Mark, Leave}
use Rattle.vx_compilation.specs.Code.{Code, Instructions, part_code, statement_code, statements_code, calling, stores_code}
use Rattle.vx_units.specs.Signs.{Signs, size}
use Rattle.vx_units.specs.CodeUnit.{code_signs, instruction_signs, count, small, block_signs}
use Rattle.vx_codegen.specs.Emitted.{Emits, Comes, Turns, is_over, mode, block_of, parts_code, fields_code, keys}
use Rattle.vx_codegen.proofs.Views.{new_view, inlined_view}

-- one instruction
pub one : (old new : Signs) (own : Instruction by_name) → new ≡ old ++ instruction_signs own → Emits old new (λ following. own ∷ following)
one old new own is following =
    ap (λ signs. signs ++ code_signs following) is ∙ append_assoc old (instruction_signs own) (code_signs following)

-- code of the same instructions
pub alike : (old new : Signs) (code other : Code) → ((following : Instructions) → other following ≡ code following) → Emits old new code → Emits old new other
alike old new code other same emits following = emits following ∙ ap (λ all. old ++ code_signs all) (sym (same following))

-- code, and an instruction behind it
pub behind : (old middle new : Signs) (code : Code) (own : Instruction by_name) → Emits old middle code → new ≡ middle ++ instruction_signs own →
    Emits old new (λ following. code (own ∷ following))
behind old middle new code own emits is following = one middle new own is following ∙ emits (own ∷ following)

-- operands, and an instruction that takes them
pub called : (old middle new : Signs) (parts : List Part) (make : ℕ → Instruction by_name) → Emits old middle (parts_code parts) →
    new ≡ middle ++ instruction_signs (make (length (map part_code parts))) → Emits old new (calling (map part_code parts) make)
called old middle new parts make emits is following = one middle new (make (length (map part_code parts))) is following ∙ emits
    (make (length (map part_code parts)) ∷ following)

-- the last local is stored first
pub stored_last : (xs : List ℕ) (x : ℕ) (following : Instructions) → stores_code (xs ++ x ∷ []) following ≡ Store x ∷ stores_code xs following
stored_last [] x following = refl
stored_last (y ∷ xs) x following = stored_last xs x (Store y ∷ following)

-- what holds where a call succeeds gives what follows from it there
pub on_ok : {T E : Type 0} {P Q : Type 0} (result : Result T E) → (P → Q) → OnOk result P → OnOk result Q
on_ok (Ok value) gives own = gives own
on_ok (Err error) gives own = own

-- a part whose operands are there, and the instruction that takes them
pub takes : (old middle new : Signs) (part : Part) (parts slice : List Part) (make : ℕ → Instruction by_name) →
    ((following : Instructions) → part_code part following ≡ calling (map part_code parts) make following) → slice ≡ parts →
    Emits old middle (parts_code slice) → new ≡ middle ++ instruction_signs (make (length (map part_code parts))) → Emits old new (part_code part)
takes old middle new part parts slice make view same emits is =
    alike old new (calling (map part_code parts)
    make) (part_code part) view (called old middle new parts make (subst (λ ps. Emits old middle (parts_code ps)) same emits) is)

-- a store taken from those that are left
pub stored : (xs : List ℕ) (left : ℕ) (old now new : Signs) → 0 < left → left ≤ length xs →
    ((following : Instructions) → now ++ code_signs (stores_code (take left xs) following) ≡ old ++ code_signs (stores_code xs following)) →
    new ≡ now ++ instruction_signs (Store (get_or xs (left - 1) 0)) →
    (following : Instructions) → new ++ code_signs (stores_code (take (left - 1) xs) following) ≡ old ++ code_signs (stores_code xs following)
stored xs left old now new some within so_far is following =
    let back : left - 1 + 1 ≡ left = omega arith in
    let before : left - 1 < length xs = omega arith in
    let x : ℕ = get_or xs (left - 1) 0 in
    one now new (Store x) is (stores_code (take (left - 1) xs) following)
    ∙ ap (λ all. now ++ code_signs all)
    (sym (stored_last (take (left - 1) xs) x following)
    ∙ ap (λ ys. stores_code ys following) (sym (take_more xs (left - 1) 0 before) ∙ ap (λ n. take n xs) back))
    ∙ so_far following

-- ---- statements

over_at : (rest : List Act) (place count : ℕ) → length rest ≡ count - place → place ≤ count → (place == count) ≡ is_over rest
over_at [] place count left within = elim (eqb_tells place count) [ inl p ↦ p.0 | inr p ↦ absurd (p.1 (omega arith)) ]
over_at (act ∷ rest) place count left within =
    elim (eqb_tells place count) [ inl p ↦ let same = p.1 in absurd (omega arith) | inr p ↦ p.0 ]

last_is : (acts : List Act) (place : ℕ) → place < length acts → (place + 1 == length acts) ≡ is_over (drop (place + 1) acts)
last_is acts place within = over_at (drop (place + 1) acts) (place + 1) (length acts) (length-drop (place + 1) acts) (omega arith)

-- what was emitted for the statements before a place
abbrev pub Done : Signs → Signs → Bool → List Act → ℕ → Type 0
Done old now is_closure acts place =
    (following : Instructions) → now ++ code_signs (statements_code (mode is_closure) (map statement_code (drop place acts)) following)
    ≡ old ++ code_signs (statements_code (mode is_closure) (map statement_code acts) following)

-- a statement with those behind it
pub record Act_at (acts : List Act) (place : ℕ) (act : Act) (is_last : Bool) : Type 0 where
  pub within : place < length acts
  pub is : act ≡ get_or acts place act
  pub last : is_last ≡ (place + 1 == length acts)

left_acts : (acts : List Act) (place : ℕ) (act : Act) (is_last : Bool) → Act_at acts place act is_last → drop place acts ≡ act ∷ drop (place + 1) acts
left_acts acts place act is_last a = left_at acts place act a.within a.is

-- it is over with a statement
pub act_ends : (acts : List Act) (place : ℕ) (act : Act) (is_last is_closure left : Bool) (over : Option Bool) (old now new : Signs) →
    Act_at acts place act is_last → over ≡ Some left → ((rest : List Act) → is_last ≡ is_over rest → Turns now new over is_closure act rest) →
    Done old now is_closure acts place → Comes old new left is_closure acts
act_ends acts place act is_last is_closure left over old now new a is turns so_far following =
    subst (λ o. Turns now new o is_closure act (drop (place + 1) acts)) is (turns (drop (place + 1) acts) (a.last ∙ last_is acts place a.within)) following
    ∙ ap (λ own. now ++ code_signs (statements_code (mode is_closure) (map statement_code own) following)) (sym (left_acts acts place act is_last a))
    ∙ so_far following

-- or those behind it follow
pub act_goes : (acts : List Act) (place : ℕ) (act : Act) (is_last is_closure : Bool) (over : Option Bool) (old now new : Signs) →
    Act_at acts place act is_last → over ≡ None → ((rest : List Act) → is_last ≡ is_over rest → Turns now new over is_closure act rest) →
    Done old now is_closure acts place → Done old new is_closure acts (place + 1)
act_goes acts place act is_last is_closure over old now new a is turns so_far following =
    subst (λ o. Turns now new o is_closure act (drop (place + 1) acts)) is (turns (drop (place + 1) acts) (a.last ∙ last_is acts place a.within)) following
    ∙ ap (λ own. now ++ code_signs (statements_code (mode is_closure) (map statement_code own) following)) (sym (left_acts acts place act is_last a))
    ∙ so_far following

-- ---- whole parts

pub makes : (old middle new : Signs) (part : Part) (class : Bytes) (fields slice again : List (FieldKey × Part)) → part ≡ p.New class fields →
    slice ≡ fields → again ≡ fields → Emits old middle (fields_code slice) →
    new ≡ middle ++ instruction_signs (Make class (keys again) 0) → Emits old new (part_code part)
makes old middle new part class fields slice again view same other emits is following =
    one middle new (Make class (keys again) (length (map (λ field. part_code field.1) fields))) is following
    ∙ ap (λ own. middle ++ code_signs (Make class (keys own) (length (map (λ field. part_code field.1) fields)) ∷ following)) other
    ∙ subst (λ own. Emits old middle (fields_code own)) same emits
    (Make class (keys fields) (length (map (λ field. part_code field.1) fields)) ∷ following)
    ∙ ap (λ all. old ++ code_signs all) (sym (ap (λ own. part_code own following) view ∙ new_view class fields following))

pub inlines : (u0 u1 u2 u3 u4 : Signs) (part : Part) (parts : List Part) (xs : List ℕ) (acts : List Act) → part ≡ p.Inlined parts xs acts →
    Emits u0 u1 (parts_code parts) → u2 ≡ u1 ++ instruction_signs Mark → Emits u2 u3 (stores_code xs) →
    ((following : Instructions) → u4 ++ code_signs following ≡ u3 ++ code_signs (statements_code Stays (map statement_code acts) following)) →
    Emits u0 u4 (part_code part)
inlines u0 u1 u2 u3 u4 part parts xs acts view operands mark stores body following =
    let last : Instructions = statements_code Stays (map statement_code acts) following in
    body following ∙ stores last ∙ one u1 u2 Mark mark (stores_code xs last) ∙ operands (Mark ∷ stores_code xs last)
    ∙ ap (λ all. u0 ++ code_signs all) (sym (ap (λ own. part_code own following) view ∙ inlined_view parts xs acts following))

-- ---- blocks

-- the head of a block, and its code behind it
block_spelled : (old code locals captures formals : Signs) →
    (((old ++ locals) ++ captures) ++ formals) ++ code ≡ old ++ (locals ++ (captures ++ (formals ++ code)))
block_spelled old code locals captures formals =
    append_assoc ((old ++ locals) ++ captures) formals code ∙ append_assoc (old ++ locals) captures (formals ++ code)
    ∙ append_assoc old locals (captures ++ (formals ++ code))

pub block_emitted : (old : Signs) (is_closure : Bool) (block : TreeBlock) (code : Signs) →
    code ≡ code_signs (statements_code (mode is_closure) (map statement_code block.acts) (Leave ∷ [])) →
    ((((old ++ count block.locals) ++ count block.captures) ++ small (length block.formals)) ++ count (size code)) ++ code
    ≡ old ++ block_signs (block_of is_closure block)
block_emitted old true block code is =
    append_assoc (((old ++ count block.locals) ++ count block.captures) ++ small (length block.formals)) (count (size code)) code
    ∙ block_spelled old (count (size code) ++ code) (count block.locals) (count block.captures) (small (length block.formals))
    ∙ ap (λ own. old ++ (count block.locals ++ (count block.captures ++ (small (length block.formals) ++ (count (size own) ++ own))))) is
block_emitted old false block code is =
    append_assoc (((old ++ count block.locals) ++ count block.captures) ++ small (length block.formals)) (count (size code)) code
    ∙ block_spelled old (count (size code) ++ code) (count block.locals) (count block.captures) (small (length block.formals))
    ∙ ap (λ own. old ++ (count block.locals ++ (count block.captures ++ (small (length block.formals) ++ (count (size own) ++ own))))) is
