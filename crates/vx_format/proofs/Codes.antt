-- Codes are read as they are spelled.
use Rattle.std.proofs.Common.{◌≡◌, ℕ, suc, ◌+◌, true, ◌&&◌, List, [], ◌∷◌, length, refl, ap}
use Rattle.std.specs.Prelude.{nat_le}
use Rattle.vx_format.specs.declared.image.Instr.{Instr}
use Rattle.vx_format.specs.Numbers.{is_number, each, every, follow}
use Rattle.vx_format.specs.Reading.{◌>>=◌, give, listed, until}
use Rattle.vx_format.specs.declared.image.Roster.{Roster}
use Rattle.vx_format.specs.Layout.{instr, is_instr, block, is_block, may_capture, code, is_code}
use Rattle.vx_format.specs.Format.{an_instruction, no_depth, a_block, a_code}
use Rattle.vx_format.proofs.Spelled.{IsSpelled, Any, recast}
use Rattle.vx_format.proofs.Parts.{valid_is, number_is, count_is}
use Rattle.vx_format.proofs.Readings.{until_is}
use Rattle.vx_format.proofs.Steps.{part, counted, made, from_here, worded}
use Rattle.vx_format.proofs.Instructions.{instruction_is, instr_some}

follow_every : (r : Roster) (depth i : ℕ) (xs : List Instr) → follow (λ d. is_instr r) no_depth depth xs ≡ every (λ i. is_instr r) i xs
follow_every r depth i [] = refl
follow_every r depth i (x ∷ xs) = ap (λ b. is_instr r x && b) (follow_every r 0 (suc i) xs)

pub block_is : (r : Roster) (place i : ℕ) → IsSpelled place block (is_block r i) Any (a_block r i)
unfolding a_block
block_is r place i =
    part (λ b. b.locals) (number_is place 4) (λ locals fit.
    part (λ b. b.captures) (valid_is _ 4 (may_capture i)) (λ captures fit2.
    worded (λ b. (is_number 1 b.formals && nat_le (captures + b.formals) locals) &&
    (is_number 4 (length (each instr b.code)) && (follow (λ d. is_instr r) no_depth 0 b.code && true)))
    (λ b. (is_number 1 b.formals && nat_le (b.captures + b.formals) b.locals) &&
    (is_number 4 (length (each instr b.code)) && (every (λ i. is_instr r) 0 b.code && true)))
    (λ b m. rw (m.0, m.1.0, follow_every r 0 0 b.code) refl) (
    part (λ b. b.formals) (valid_is _ 1 (λ n. nat_le (captures + n) locals)) (λ formals fit3.
    part (λ b. length (each instr b.code)) (number_is _ 4) (λ count fit4.
    from_here (λ begin. until count (begin + count) (an_instruction r (begin + count)) no_depth 0 >>= λ code.
    give (record { locals = locals; captures = captures; formals = formals; code = code }))
    (counted (λ b. b.code) (until_is instr (λ d. is_instr r) no_depth _ count 0 _ (λ p d before. instruction_is r _ d p before) instr_some) (λ c m. m.0)
    (λ code fit5 len.
    made (record { locals = locals; captures = captures; formals = formals; code = code }) (refl, (len, (refl, (refl, (refl, tt))))) (λ c m.
    rw (← m.0, ← m.1.1.0, ← m.1.1.1.0, ← m.1.1.1.1.0) refl))))))))

pub code_is : (r : Roster) (place : ℕ) → IsSpelled place code (is_code r) Any (a_code r)
unfolding a_code
code_is r place =
    counted length (valid_is place 4 (λ n. nat_le 1 n)) (λ c m. tt) (λ count fit any.
    recast _ (each block) (each block) (every (is_block r) 0) (every (is_block r) 0) (λ xs. length xs ≡ count) (λ xs. (length xs ≡ count) × Unit {0})
    (listed count 0 (a_block r))
    (count_is block (is_block r) (a_block r) (λ p i. block_is r p i) _ count 0) (λ xs m f. ((m, tt), f, refl)) (λ xs m f. (m.0, f, refl)))
