-- Instructions are read as they are spelled.
use Rattle.std.proofs.Common.{◌≡◌, ℕ, ◌+◌, ◌*◌, ◌<◌, Bool, true, leb, eqb, ◌&&◌, ◌||◌, List, [], ◌∷◌, ◌++◌, length, refl, sym, ap, ◌∙◌, append_assoc}
use Rattle.std.proofs.Common.{arith, length-append}
use Rattle.std.specs.Prelude.{ℤ, nat_lt, drop, ◌==◌}
use Rattle.std.specs.Int.{w128, cast_unsigned}
use Rattle.std.proofs.lemmas.Bool.{eqb-true, eqb-false, eq-eqb, le-leb, leb-true}
use Rattle.vx_format.specs.declared.image.Instr.{Instr}
use Rattle.vx_format.specs.declared.image.Instr.TheVariants as instrs
use Rattle.vx_format.specs.Numbers.{Bytes, number, is_number, integer, is_integer, each, every}
use Rattle.vx_format.specs.Reading.{Reading, ◌>>=◌, give, wrong, check, bytes, a_number, below, listed}
use Rattle.vx_format.specs.declared.image.Roster.{Roster}
use Rattle.vx_format.specs.Layout.{symbol, is_symbol, is_name, is_prim, op, operands, instr, is_instr, block}
use Rattle.vx_format.specs.Format.{a_symbol, an_integer, room, present, fixed, a_text, a_closure, a_resend, a_new, a_failure, instructions, an_instruction}
use Rattle.vx_format.proofs.Spelled.{IsSpelled, Any, recast, both_true, and_true}
use Rattle.vx_format.proofs.Numbers.{length_number}
use Rattle.vx_format.proofs.Parts.{below_is, number_is, bytes_are, count_is, text_end}
use Rattle.vx_format.proofs.Readings.{integer_is, ahead}
use Rattle.vx_format.proofs.Tags.{AreTagged, tagged_are, leaf, branch, fixed_is}
use Rattle.vx_format.proofs.Steps.{part, counted, made, tested, worded}

-- whether an instruction fits, and ends within the end
abbrev ends_within : Roster → ℕ → ℕ → Instr → Bool
ends_within r p end c = is_instr r c && leb (p + (1 + length (operands c))) end

abbrev Has : ℕ → Instr → Type 0
Has t c = (op c ≡ t) × Unit {0}

-- ---- one operand

-- an instruction with a number of four bytes
five : (r : Roster) (p end q t : ℕ) (fine : ℕ → Bool) (read : Reading ℕ) (make : ℕ → Instr) → IsSpelled q (number 4) fine Any read
    → ((b : ℕ) → (op (make b) ≡ t) × (operands (make b) ≡ number 4 b) × (is_instr r (make b) ≡ fine b)) → ((c : Instr) → op c ≡ t → (b : ℕ) × (c ≡ make b))
    → IsSpelled q operands (ends_within r p end) (Has t) (fixed end p 5 (read >>= λ b. give (make b)))
five r p end q t fine read make law same only =
    fixed_is q p end 5 op operands (is_instr r) t (read >>= λ b. give (make b)) (branch q op operands (is_instr r) t (number 4) fine read make law same only)
    (λ c m f. let o = only c m in ap (λ x. length (operands x) + 1) o.1 ∙ ap (λ (s : Bytes). length s + 1) (same o.0).1 ∙ omega (arith, length_number 4 o.0))

-- an instruction without operands
bare : (r : Roster) (p end q t : ℕ) (x : Instr) → p < end → op x ≡ t → operands x ≡ [] → is_instr r x ≡ true → ((c : Instr) → op c ≡ t → c ≡ x)
    → IsSpelled q operands (ends_within r p end) (Has t) (give x)
bare r p end q t x before is empty fit only =
    leaf q op operands (ends_within r p end) t x is empty (and_true _ _ fit (le-leb _ _ (let none = ap length empty in omega arith))) only

op_some : (c : Instr) → 0 < op c
op_some (instrs.Int z) = omega arith
op_some (instrs.Text s) = omega arith
op_some (instrs.Object x) = omega arith
op_some (instrs.Load x) = omega arith
op_some (instrs.Store x) = omega arith
op_some (instrs.Cell x) = omega arith
op_some (instrs.CellGet x) = omega arith
op_some (instrs.CellSet x) = omega arith
op_some (instrs.Closure b xs) = omega arith
op_some (instrs.Send x) = omega arith
op_some (instrs.Call x) = omega arith
op_some (instrs.Resend x y) = omega arith
op_some (instrs.Prim x) = omega arith
op_some (instrs.Get x) = omega arith
op_some (instrs.Set x) = omega arith
op_some (instrs.New x xs) = omega arith
op_some instrs.Pop = omega arith
op_some instrs.Ret = omega arith
op_some instrs.Home = omega arith
op_some instrs.Mark = omega arith
op_some (instrs.Fail k s a) = omega arith

none_has_zero : (r : Roster) (p end q : ℕ) → IsSpelled q operands (ends_within r p end) (Has 0) (wrong p)
none_has_zero r p end q = record {
  takes = λ left are x after e. absurd cc;
  again = λ x rest meant fit. absurd (none x meant.0);
  ends = λ x front back meant fit e some. absurd (none x meant.0);
}
  where
    none : (x : Instr) → op x ≡ 0 → ⊥
    none x e = let some = op_some x in omega arith

only_Object : (c : Instr) → op c ≡ 3 → (b : ℕ) × (c ≡ instrs.Object b)
only_Object (instrs.Object b) e = (b, refl)
only_Object c e = absurd (eqb-false (op c) 3 refl e)

only_Load : (c : Instr) → op c ≡ 4 → (b : ℕ) × (c ≡ instrs.Load b)
only_Load (instrs.Load b) e = (b, refl)
only_Load c e = absurd (eqb-false (op c) 4 refl e)

only_Store : (c : Instr) → op c ≡ 5 → (b : ℕ) × (c ≡ instrs.Store b)
only_Store (instrs.Store b) e = (b, refl)
only_Store c e = absurd (eqb-false (op c) 5 refl e)

only_Cell : (c : Instr) → op c ≡ 6 → (b : ℕ) × (c ≡ instrs.Cell b)
only_Cell (instrs.Cell b) e = (b, refl)
only_Cell c e = absurd (eqb-false (op c) 6 refl e)

only_CellGet : (c : Instr) → op c ≡ 7 → (b : ℕ) × (c ≡ instrs.CellGet b)
only_CellGet (instrs.CellGet b) e = (b, refl)
only_CellGet c e = absurd (eqb-false (op c) 7 refl e)

only_CellSet : (c : Instr) → op c ≡ 8 → (b : ℕ) × (c ≡ instrs.CellSet b)
only_CellSet (instrs.CellSet b) e = (b, refl)
only_CellSet c e = absurd (eqb-false (op c) 8 refl e)

only_Send : (c : Instr) → op c ≡ 10 → (b : ℕ) × (c ≡ instrs.Send b)
only_Send (instrs.Send b) e = (b, refl)
only_Send c e = absurd (eqb-false (op c) 10 refl e)

only_Call : (c : Instr) → op c ≡ 11 → (b : ℕ) × (c ≡ instrs.Call b)
only_Call (instrs.Call b) e = (b, refl)
only_Call c e = absurd (eqb-false (op c) 11 refl e)

only_Get : (c : Instr) → op c ≡ 14 → (b : ℕ) × (c ≡ instrs.Get b)
only_Get (instrs.Get b) e = (b, refl)
only_Get c e = absurd (eqb-false (op c) 14 refl e)

only_Set : (c : Instr) → op c ≡ 15 → (b : ℕ) × (c ≡ instrs.Set b)
only_Set (instrs.Set b) e = (b, refl)
only_Set c e = absurd (eqb-false (op c) 15 refl e)

only_Prim : (c : Instr) → op c ≡ 13 → (b : ℕ) × (c ≡ instrs.Prim b)
only_Prim (instrs.Prim b) e = (b, refl)
only_Prim c e = absurd (eqb-false (op c) 13 refl e)

only_Int : (c : Instr) → op c ≡ 1 → (z : ℤ) × (c ≡ instrs.Int z)
only_Int (instrs.Int z) e = (z, refl)
only_Int c e = absurd (eqb-false (op c) 1 refl e)

only_Pop : (c : Instr) → op c ≡ 17 → c ≡ instrs.Pop
only_Pop instrs.Pop e = refl
only_Pop c e = absurd (eqb-false (op c) 17 refl e)

only_Ret : (c : Instr) → op c ≡ 18 → c ≡ instrs.Ret
only_Ret instrs.Ret e = refl
only_Ret c e = absurd (eqb-false (op c) 18 refl e)

only_Home : (c : Instr) → op c ≡ 19 → c ≡ instrs.Home
only_Home instrs.Home e = refl
only_Home c e = absurd (eqb-false (op c) 19 refl e)

only_Mark : (c : Instr) → op c ≡ 20 → c ≡ instrs.Mark
only_Mark instrs.Mark e = refl
only_Mark c e = absurd (eqb-false (op c) 20 refl e)

-- ---- more operands

first_of : Instr → ℕ
first_of (instrs.Closure block xs) = block
first_of (instrs.Resend table row) = table
first_of (instrs.New object fields) = object
first_of (instrs.Fail kind name arity) = kind
first_of c = 0

last_of : Instr → ℕ
last_of (instrs.Resend table row) = row
last_of (instrs.Fail kind name arity) = arity
last_of c = 0

numbers_of : Instr → List ℕ
numbers_of (instrs.Closure block xs) = xs
numbers_of (instrs.New object fields) = fields
numbers_of c = []

bytes_of : Instr → Bytes
bytes_of (instrs.Text bytes) = bytes
bytes_of (instrs.Fail kind name arity) = name
bytes_of c = []

only_Text : (c : Instr) → op c ≡ 2 → c ≡ instrs.Text (bytes_of c)
unfolding bytes_of
only_Text (instrs.Text bytes) e = refl
only_Text c e = absurd (eqb-false (op c) 2 refl e)

only_Closure : (c : Instr) → op c ≡ 9 → c ≡ instrs.Closure (first_of c) (numbers_of c)
unfolding first_of numbers_of
only_Closure (instrs.Closure block xs) e = refl
only_Closure c e = absurd (eqb-false (op c) 9 refl e)

only_Resend : (c : Instr) → op c ≡ 12 → c ≡ instrs.Resend (first_of c) (last_of c)
unfolding first_of last_of
only_Resend (instrs.Resend table row) e = refl
only_Resend c e = absurd (eqb-false (op c) 12 refl e)

only_New : (c : Instr) → op c ≡ 16 → c ≡ instrs.New (first_of c) (numbers_of c)
unfolding first_of numbers_of
only_New (instrs.New object fields) e = refl
only_New c e = absurd (eqb-false (op c) 16 refl e)

only_Fail : (c : Instr) → op c ≡ 21 → c ≡ instrs.Fail (first_of c) (bytes_of c) (last_of c)
unfolding first_of last_of bytes_of
only_Fail (instrs.Fail kind name arity) e = refl
only_Fail c e = absurd (eqb-false (op c) 21 refl e)

length_numbers : (xs : List ℕ) → length (each (number 4) xs) ≡ 4 * length xs
length_numbers [] = refl
length_numbers (x ∷ xs) = omega (arith, length_number 4 x, length-append (number 4 x) (each (number 4) xs), length_numbers xs)

-- bytes as many as was said
so_many : (q count : ℕ) → IsSpelled q (λ s. s) (λ s. true) (λ s. length s ≡ count) (bytes count)
so_many q count = recast q (λ s. s) (λ s. s) (λ s. eqb (length s) count) (λ s. true) Any (λ s. length s ≡ count) (bytes count) (bytes_are q count) (λ s m f.
    (eqb-true _ _ f, refl, refl)) (λ s m f. (tt, eq-eqb _ _ m, refl))

-- texts

text_parts : (r : Roster) (p end : ℕ) (c : Instr) → op c ≡ 2 → (operands c ≡ number 4 (length (bytes_of c)) ++ (bytes_of c ++ []))
    × (is_instr r c ≡ is_number 4 (length (bytes_of c))) × (length (operands c) ≡ 4 + length (bytes_of c))
unfolding bytes_of
text_parts r p end (instrs.Text bytes) e = (
  ap (λ (s : Bytes). number 4 (length bytes) ++ s) (sym (text_end bytes)),
  refl,
  omega (arith, length_number 4 (length bytes), length-append (number 4 (length bytes)) bytes),
)
text_parts r p end c e = absurd (eqb-false (op c) 2 refl e)

text_is : (r : Roster) (p end q : ℕ) → IsSpelled q operands (ends_within r p end) (Has 2) (a_text end p)
unfolding bytes_of
text_is r p end q =
    recast q (λ c. number 4 (length (bytes_of c)) ++ (bytes_of c ++ [])) operands
    (λ c. leb (p + 5) end && (is_number 4 (length (bytes_of c)) && (leb (p + (5 + length (bytes_of c))) end && (true && true)))) (ends_within r p end)
    (Has 2) (Has 2) (a_text end p)
    (tested (λ c. leb (p + 5) end) (leb (p + 5) end) p (λ ok. a_number 4 >>= λ count. room end p (5 + count) >>= λ whole. bytes count >>= λ text.
    give (instrs.Text text)) (λ c m. refl)
    (part (λ c. length (bytes_of c)) (number_is q 4) (λ count fit.
    tested (λ c. leb (p + (5 + length (bytes_of c))) end) (leb (p + (5 + count)) end) p (λ whole. bytes count >>= λ text. give (instrs.Text text)) (λ c m.
    ap (λ k. leb (p + (5 + k)) end) m.0)
    (counted bytes_of (so_many _ count) (λ c m. m.0) (λ text fit2 len.
    made (instrs.Text text) (refl, (len, (refl, tt))) (λ c m. only_Text c m.1.1.0 ∙ ap instrs.Text m.0))))))
    (λ c m f. let w = text_parts r p end c m.0 in
    let a = both_true (leb (p + 5) end) _ f in let b = both_true (is_number 4 (length (bytes_of c))) _ a.1 in let d =
    both_true (leb (p + (5 + length (bytes_of c))) end) _ b.1 in
    (m, and_true _ _ (w.1 ∙ b.0) (le-leb _ _ (let le = leb-true _ _ d.0 in let len = w.2 in omega arith)), w.0))
    (λ c m f. let w = text_parts r p end c m.0 in
    let a = both_true (is_instr r c) _ f in let le = leb-true _ _ a.1 in let len = w.2 in
    (m, and_true _ _ (le-leb _ _ (omega arith)) (and_true _ _ (sym w.1 ∙ a.0) (and_true _ _ (le-leb _ _ (omega arith)) refl)), w.0))

-- closures

closure_parts : (r : Roster) (c : Instr) → op c ≡ 9
    → (operands c ≡ number 4 (first_of c) ++ (number 4 (length (numbers_of c)) ++ (each (number 4) (numbers_of c) ++ [])))
    × (is_instr r c ≡ (is_number 4 (first_of c) && ((is_number 4 (length (numbers_of c)) && every (λ i. is_number 4) 0 (numbers_of c)) && true)))
    × (length (operands c) ≡ 8 + 4 * length (numbers_of c))
unfolding first_of numbers_of
closure_parts r (instrs.Closure block xs) e = (
  ap (λ (s : Bytes). number 4 block ++ s) (append_assoc (number 4 (length xs)) (each (number 4) xs) []),
  refl,
  omega (
    arith,
    length_number 4 block,
    length_number 4 (length xs),
    length_numbers xs,
    length-append (number 4 block) ((number 4 (length xs) ++ each (number 4) xs) ++ []),
    length-append (number 4 (length xs) ++ each (number 4) xs) [],
    length-append (number 4 (length xs)) (each (number 4) xs),
  ),
)
closure_parts r c e = absurd (eqb-false (op c) 9 refl e)

closure_is : (r : Roster) (p end q : ℕ) → IsSpelled q operands (ends_within r p end) (Has 9) (a_closure end p)
unfolding first_of numbers_of
closure_is r p end q =
    recast q (λ c. number 4 (first_of c) ++ (number 4 (length (numbers_of c)) ++ (each (number 4) (numbers_of c) ++ []))) operands
    (λ c. leb (p + 9) end && (is_number 4 (first_of c) &&
    (is_number 4 (length (numbers_of c)) && (leb (p + (9 + 4 * length (numbers_of c))) end && (every (λ i. is_number 4) 0 (numbers_of c) && true)))))
    (ends_within r p end) (Has 9) (Has 9) (a_closure end p)
    (tested (λ c. leb (p + 9) end) (leb (p + 9) end) p (λ ok. a_number 4 >>= λ block. a_number 4 >>= λ count. room end p (9 + 4 * count) >>= λ whole.
    listed count 0 (λ i. a_number 4) >>= λ xs. give (instrs.Closure block xs)) (λ c m. refl)
    (part first_of (number_is q 4) (λ block fit.
    part (λ c. length (numbers_of c)) (number_is _ 4) (λ count fit2.
    tested (λ c. leb (p + (9 + 4 * length (numbers_of c))) end) (leb (p + (9 + 4 * count)) end) p (λ whole. listed count 0 (λ i. a_number 4) >>= λ xs.
    give (instrs.Closure block xs)) (λ c m. ap (λ k. leb (p + (9 + 4 * k)) end) m.0)
    (counted numbers_of (count_is (number 4) (λ i. is_number 4) (λ i. a_number 4) (λ p i. number_is p 4) _ count 0) (λ c m. m.0) (λ xs fit3 len.
    made (instrs.Closure block xs) (refl, (len, (refl, (refl, tt)))) (λ c m. only_Closure c m.1.1.1.0 ∙ rw (m.0, m.1.1.0) refl)))))))
    (λ c m f. let w = closure_parts r c m.0 in
    let a = both_true (leb (p + 9) end) _ f in let b = both_true (is_number 4 (first_of c)) _ a.1 in let d =
    both_true (is_number 4 (length (numbers_of c))) _ b.1 in let g = both_true (leb (p + (9 + 4 * length (numbers_of c))) end) _ d.1 in let h =
    both_true (every (λ i. is_number 4) 0 (numbers_of c)) _ g.1 in (
      m,
      and_true _ _ (w.1 ∙ and_true _ _ b.0 (and_true _ _ (and_true _ _ d.0 h.0) refl))
          (le-leb _ _ (let le = leb-true _ _ g.0 in let len = w.2 in omega arith)),
      w.0,
    ))
    (λ c m f. let w = closure_parts r c m.0 in
    let a = both_true (is_instr r c) _ f in let le = leb-true _ _ a.1 in let len = w.2 in
    let b = both_true (is_number 4 (first_of c)) _ (sym w.1 ∙ a.0) in let d =
    both_true (is_number 4 (length (numbers_of c)) && every (λ i. is_number 4) 0 (numbers_of c)) _ b.1 in let g =
    both_true (is_number 4 (length (numbers_of c))) _ d.0 in (
      m,
      and_true _ _ (le-leb _ _ (omega arith)) (and_true _ _ b.0 (and_true _ _ g.0 (and_true _ _ (le-leb _ _ (omega arith)) (and_true _ _ g.1 refl)))),
      w.0,
    ))

-- resends

resend_parts : (r : Roster) (c : Instr) → op c ≡ 12 → (operands c ≡ symbol (first_of c) ++ (number 1 (last_of c) ++ []))
    × (is_instr r c ≡ (is_symbol r.tables (first_of c) && (is_number 1 (last_of c) && true))) × (length (operands c) + 1 ≡ 6)
unfolding first_of last_of
resend_parts r (instrs.Resend table row) e = (
  refl,
  refl,
  omega (
    arith,
    length_number 4 table,
    length_number 1 row,
    length-append (number 4 table) (number 1 row ++ []),
    length-append (number 1 row) [],
  ),
)
resend_parts r c e = absurd (eqb-false (op c) 12 refl e)

resend_is : (r : Roster) (p end q : ℕ) → IsSpelled q operands (ends_within r p end) (Has 12) (fixed end p 6 (a_resend r))
unfolding first_of last_of
resend_is r p end q = fixed_is q p end 6 op operands (is_instr r) 12 (a_resend r)
    (recast q (λ c. symbol (first_of c) ++ (number 1 (last_of c) ++ [])) operands (λ c. is_symbol r.tables (first_of c) && (is_number 1 (last_of c) && true))
    (is_instr r) (Has 12) (Has 12) (a_resend r)
    (part first_of (below_is q 4 r.tables) (λ table fit.
    part last_of (number_is _ 1) (λ row fit2.
    made (instrs.Resend table row) (refl, (refl, (refl, tt))) (λ c m. only_Resend c m.1.1.0 ∙ rw (m.0, m.1.0) refl))))
    (λ c m f. let w = resend_parts r c m.0 in (m, w.1 ∙ f, w.0)) (λ c m f. let w = resend_parts r c m.0 in (m, sym w.1 ∙ f, w.0)))
    (λ c m f. (resend_parts r c m).2)

-- constructors

new_parts : (r : Roster) (c : Instr) → op c ≡ 16
    → (operands c ≡ number 4 (first_of c) ++ (number 4 (length (numbers_of c)) ++ (each symbol (numbers_of c) ++ [])))
    × (is_instr r c ≡ ((is_number 4 (first_of c) && nat_lt (first_of c) r.objects) &&
    ((is_number 4 (length (numbers_of c)) && every (λ i. is_symbol r.fields) 0 (numbers_of c)) && true)))
    × (length (operands c) ≡ 8 + 4 * length (numbers_of c))
unfolding first_of numbers_of
new_parts r (instrs.New object xs) e = (
  ap (λ (s : Bytes). number 4 object ++ s) (append_assoc (number 4 (length xs)) (each symbol xs) []),
  refl,
  omega (
    arith,
    length_number 4 object,
    length_number 4 (length xs),
    length_numbers xs,
    length-append (number 4 object) ((number 4 (length xs) ++ each symbol xs) ++ []),
    length-append (number 4 (length xs) ++ each symbol xs) [],
    length-append (number 4 (length xs)) (each symbol xs),
  ),
)
new_parts r c e = absurd (eqb-false (op c) 16 refl e)

new_is : (r : Roster) (p end q : ℕ) → IsSpelled q operands (ends_within r p end) (Has 16) (a_new r end p)
unfolding first_of numbers_of
new_is r p end q =
    recast q (λ c. number 4 (first_of c) ++ (number 4 (length (numbers_of c)) ++ (each symbol (numbers_of c) ++ []))) operands
    (λ c. leb (p + 9) end && (is_number 4 (first_of c) &&
    (is_number 4 (length (numbers_of c)) && (leb (p + (9 + 4 * length (numbers_of c))) end &&
    (nat_lt (first_of c) r.objects && (every (λ i. is_symbol r.fields) 0 (numbers_of c) && true)))))) (ends_within r p end) (Has 16) (Has 16)
    (a_new r end p)
    (tested (λ c. leb (p + 9) end) (leb (p + 9) end) p (λ ok. a_number 4 >>= λ object. a_number 4 >>= λ count. room end p (9 + 4 * count) >>= λ whole.
    present (4 * count) >>= λ there. check (nat_lt object r.objects) (p + 1) >>= λ plain. listed count 0 (λ i. a_symbol r.fields) >>= λ fields.
    give (instrs.New object fields)) (λ c m. refl)
    (part first_of (number_is q 4) (λ object fit.
    part (λ c. length (numbers_of c)) (number_is _ 4) (λ count fit2.
    tested (λ c. leb (p + (9 + 4 * length (numbers_of c))) end) (leb (p + (9 + 4 * count)) end) p (λ whole. present (4 * count) >>= λ there.
    check (nat_lt object r.objects) (p + 1) >>= λ plain. listed count 0 (λ i. a_symbol r.fields) >>= λ fields. give (instrs.New object fields)) (λ c m.
    ap (λ k. leb (p + (9 + 4 * k)) end) m.0)
    (ahead _ _ _ _ (4 * count) (λ there. check (nat_lt object r.objects) (p + 1) >>= λ plain. listed count 0 (λ i. a_symbol r.fields) >>= λ fields.
    give (instrs.New object fields))
    (tested (λ c. nat_lt (first_of c) r.objects) (nat_lt object r.objects) (p + 1) (λ plain. listed count 0 (λ i. a_symbol r.fields) >>= λ fields.
    give (instrs.New object fields)) (λ c m. ap (λ k. nat_lt k r.objects) m.1.0)
    (counted numbers_of (count_is symbol (λ i. is_symbol r.fields) (λ i. a_symbol r.fields) (λ p i. below_is p 4 r.fields) _ count 0) (λ c m. m.0)
    (λ fields fit3 len.
    made (instrs.New object fields) (refl, (len, (refl, (refl, tt)))) (λ c m. only_New c m.1.1.1.0 ∙ rw (m.0, m.1.1.0) refl))))
    (λ c m f. let same = m.0 in omega (arith, length_numbers (numbers_of c), length-append (each symbol (numbers_of c)) [])))))))
    (λ c m f. let w = new_parts r c m.0 in
    let a = both_true (leb (p + 9) end) _ f in let b = both_true (is_number 4 (first_of c)) _ a.1 in let d =
    both_true (is_number 4 (length (numbers_of c))) _ b.1 in let g = both_true (leb (p + (9 + 4 * length (numbers_of c))) end) _ d.1 in let j =
    both_true (nat_lt (first_of c) r.objects) _ g.1 in let h = both_true (every (λ i. is_symbol r.fields) 0 (numbers_of c)) _ j.1 in (
      m,
      and_true _ _ (w.1 ∙ and_true _ _ (and_true _ _ b.0 j.0) (and_true _ _ (and_true _ _ d.0 h.0) refl))
          (le-leb _ _ (let le = leb-true _ _ g.0 in let len = w.2 in omega arith)),
      w.0,
    ))
    (λ c m f. let w = new_parts r c m.0 in
    let a = both_true (is_instr r c) _ f in let le = leb-true _ _ a.1 in let len = w.2 in
    let b = both_true (is_number 4 (first_of c) && nat_lt (first_of c) r.objects) _ (sym w.1 ∙ a.0) in let k =
    both_true (is_number 4 (first_of c)) (nat_lt (first_of c) r.objects) b.0 in let d =
    both_true (is_number 4 (length (numbers_of c)) && every (λ i. is_symbol r.fields) 0 (numbers_of c)) _ b.1 in let g =
    both_true (is_number 4 (length (numbers_of c))) _ d.0 in (
      m,
      and_true _ _ (le-leb _ _ (omega arith))
          (and_true _ _ k.0 (and_true _ _ g.0 (and_true _ _ (le-leb _ _ (omega arith)) (and_true _ _ k.1 (and_true _ _ g.1 refl))))),
      w.0,
    ))

-- failures

fail_parts : (r : Roster) (c : Instr) → op c ≡ 21
    → (operands c ≡ number 1 (first_of c) ++ (number 1 (length (bytes_of c)) ++ (bytes_of c ++ (number 1 (last_of c) ++ []))))
    × (is_instr r c ≡ ((is_number 1 (first_of c) && nat_lt (first_of c) 3) &&
    ((is_number 1 (length (bytes_of c)) && is_name (bytes_of c)) && (is_number 1 (last_of c) && (((first_of c == 2) || (last_of c == 0)) && true)))))
    × (length (operands c) ≡ 3 + length (bytes_of c))
unfolding first_of bytes_of last_of
fail_parts r (instrs.Fail kind name arity) e = (
  ap (λ (s : Bytes). number 1 kind ++ s) (append_assoc (number 1 (length name)) name (number 1 arity ++ [])),
  refl,
  omega (
    arith,
    length_number 1 kind,
    length_number 1 (length name),
    length_number 1 arity,
    length-append (number 1 kind) ((number 1 (length name) ++ name) ++ (number 1 arity ++ [])),
    length-append (number 1 (length name) ++ name) (number 1 arity ++ []),
    length-append (number 1 (length name)) name,
    length-append (number 1 arity) [],
  ),
)
fail_parts r c e = absurd (eqb-false (op c) 21 refl e)

fail_is : (r : Roster) (p end q : ℕ) → IsSpelled q operands (ends_within r p end) (Has 21) (a_failure end p)
unfolding first_of bytes_of last_of
fail_is r p end q =
    recast q (λ c. number 1 (first_of c) ++ (number 1 (length (bytes_of c)) ++ (bytes_of c ++ (number 1 (last_of c) ++ [])))) operands
    (λ c. leb (p + 3) end && (is_number 1 (first_of c) &&
    (is_number 1 (length (bytes_of c)) && (leb (p + (4 + length (bytes_of c))) end &&
    (nat_lt (first_of c) 3 && (true && (is_name (bytes_of c) && (is_number 1 (last_of c) && (((first_of c == 2) || (last_of c == 0)) && true)))))))))
    (ends_within r p end) (Has 21) (Has 21) (a_failure end p)
    (tested (λ c. leb (p + 3) end) (leb (p + 3) end) p (λ ok. a_number 1 >>= λ kind. a_number 1 >>= λ count. room end p (4 + count) >>= λ whole.
    present (count + 1) >>= λ there. check (nat_lt kind 3) (p + 1) >>= λ known. bytes count >>= λ name. check (is_name name) (p + 2) >>= λ good.
    a_number 1 >>= λ arity. check ((kind == 2) || (arity == 0)) (p + 3 + count) >>= λ none. give (instrs.Fail kind name arity)) (λ c m. refl)
    (part first_of (number_is q 1) (λ kind fit.
    part (λ c. length (bytes_of c)) (number_is _ 1) (λ count fit2.
    tested (λ c. leb (p + (4 + length (bytes_of c))) end) (leb (p + (4 + count)) end) p (λ whole. present (count + 1) >>= λ there.
    check (nat_lt kind 3) (p + 1) >>= λ known. bytes count >>= λ name. check (is_name name) (p + 2) >>= λ good. a_number 1 >>= λ arity.
    check ((kind == 2) || (arity == 0)) (p + 3 + count) >>= λ none. give (instrs.Fail kind name arity)) (λ c m. ap (λ k. leb (p + (4 + k)) end) m.0)
    (ahead _ _ _ _ (count + 1) (λ there. check (nat_lt kind 3) (p + 1) >>= λ known. bytes count >>= λ name. check (is_name name) (p + 2) >>= λ good.
    a_number 1 >>= λ arity. check ((kind == 2) || (arity == 0)) (p + 3 + count) >>= λ none. give (instrs.Fail kind name arity))
    (tested (λ c. nat_lt (first_of c) 3) (nat_lt kind 3) (p + 1) (λ known. bytes count >>= λ name. check (is_name name) (p + 2) >>= λ good.
    a_number 1 >>= λ arity. check ((kind == 2) || (arity == 0)) (p + 3 + count) >>= λ none. give (instrs.Fail kind name arity)) (λ c m.
    ap (λ k. nat_lt k 3) m.1.0)
    (counted bytes_of (so_many _ count) (λ c m. m.0) (λ name fit3 len.
    tested (λ c. is_name (bytes_of c)) (is_name name) (p + 2) (λ good. a_number 1 >>= λ arity.
    check ((kind == 2) || (arity == 0)) (p + 3 + count) >>= λ none. give (instrs.Fail kind name arity)) (λ c m. ap is_name m.0)
    (part last_of (number_is _ 1) (λ arity fit4.
    tested (λ c. (first_of c == 2) || (last_of c == 0)) ((kind == 2) || (arity == 0)) (p + 3 + count) (λ none. give (instrs.Fail kind name arity)) (λ c m.
    rw (m.0, m.1.1.1.0) refl)
    (made (instrs.Fail kind name arity) (refl, (refl, (len, (refl, (refl, tt))))) (λ c m. only_Fail c m.1.1.1.1.0 ∙ rw (m.0, m.1.0, m.1.1.1.0) refl)))))))
    (λ c m f. let same = m.0 in omega (
      arith,
      length_number 1 (last_of c),
      length-append (bytes_of c) (number 1 (last_of c) ++ []),
      length-append (number 1 (last_of c)) [],
    )))))))
    (λ c m f. let w = fail_parts r c m.0 in
    let a = both_true (leb (p + 3) end) _ f in let b = both_true (is_number 1 (first_of c)) _ a.1 in let d =
    both_true (is_number 1 (length (bytes_of c))) _ b.1 in let g = both_true (leb (p + (4 + length (bytes_of c))) end) _ d.1 in let j =
    both_true (nat_lt (first_of c) 3) _ g.1 in let h = both_true (is_name (bytes_of c)) _ j.1 in (
      m,
      and_true _ _ (w.1 ∙ and_true _ _ (and_true _ _ b.0 j.0) (and_true _ _ (and_true _ _ d.0 h.0) h.1))
          (le-leb _ _ (let le = leb-true _ _ g.0 in let len = w.2 in omega arith)),
      w.0,
    ))
    (λ c m f. let w = fail_parts r c m.0 in
    let a = both_true (is_instr r c) _ f in let le = leb-true _ _ a.1 in let len = w.2 in
    let b = both_true (is_number 1 (first_of c) && nat_lt (first_of c) 3) _ (sym w.1 ∙ a.0) in let k =
    both_true (is_number 1 (first_of c)) (nat_lt (first_of c) 3) b.0 in let d =
    both_true (is_number 1 (length (bytes_of c)) && is_name (bytes_of c)) _ b.1 in let g = both_true (is_number 1 (length (bytes_of c))) _ d.0 in (
      m,
      and_true _ _ (le-leb _ _ (omega arith))
          (and_true _ _ k.0 (and_true _ _ g.0 (and_true _ _ (le-leb _ _ (omega arith)) (and_true _ _ k.1 (and_true _ _ g.1 d.1))))),
      w.0,
    ))

-- ---- instructions

most : (c : Instr) → (op c < 22) × (op c < 256)
most (instrs.Int z) = (omega arith, omega arith)
most (instrs.Text s) = (omega arith, omega arith)
most (instrs.Object x) = (omega arith, omega arith)
most (instrs.Load x) = (omega arith, omega arith)
most (instrs.Store x) = (omega arith, omega arith)
most (instrs.Cell x) = (omega arith, omega arith)
most (instrs.CellGet x) = (omega arith, omega arith)
most (instrs.CellSet x) = (omega arith, omega arith)
most (instrs.Closure b xs) = (omega arith, omega arith)
most (instrs.Send x) = (omega arith, omega arith)
most (instrs.Call x) = (omega arith, omega arith)
most (instrs.Resend x y) = (omega arith, omega arith)
most (instrs.Prim x) = (omega arith, omega arith)
most (instrs.Get x) = (omega arith, omega arith)
most (instrs.Set x) = (omega arith, omega arith)
most (instrs.New x xs) = (omega arith, omega arith)
most instrs.Pop = (omega arith, omega arith)
most instrs.Ret = (omega arith, omega arith)
most instrs.Home = (omega arith, omega arith)
most instrs.Mark = (omega arith, omega arith)
most (instrs.Fail k s a) = (omega arith, omega arith)

-- the operations from 16 on
last_are : (r : Roster) (end p : ℕ) → p < end → (q : ℕ) → AreTagged q op operands (ends_within r p end) 16 (drop 16 (instructions r end p))
last_are r end p before q = (
  new_is r p end q,
  (
    bare r p end q 17 instrs.Pop before refl refl refl only_Pop,
    (
      bare r p end q 18 instrs.Ret before refl refl refl only_Ret,
      (
        bare r p end q 19 instrs.Home before refl refl refl only_Home,
        (
          bare r p end q 20 instrs.Mark before refl refl refl only_Mark,
          (fail_is r p end q, tt),
        ),
      ),
    ),
  ),
)

prim_is : (r : Roster) (end p : ℕ) → p < end → (q : ℕ) → IsSpelled q operands (ends_within r p end) (λ c. (op c ≡ 13) × Unit {0})
    (fixed end p 2 (below 1 18 >>= λ n. give (instrs.Prim n)))
prim_is r end p before q =
    fixed_is q p end 2 op operands (is_instr r) 13 _
    (branch q op operands (is_instr r) 13 (number 1) is_prim (below 1 18) instrs.Prim (below_is q 1 18) (λ b. (refl, refl, refl)) only_Prim)
    (λ c m f. let o = only_Prim c m in ap (λ x. length (operands x) + 1) o.1 ∙ omega (arith, length_number 1 o.0))

-- those from 9 on
later_are : (r : Roster) (end p : ℕ) → p < end → (q : ℕ) → AreTagged q op operands (ends_within r p end) 9 (drop 9 (instructions r end p))
later_are r end p before q = (
  closure_is r p end q,
  (
    five r p end q 10 (is_symbol r.tables) (a_symbol r.tables) instrs.Send (below_is q 4 r.tables) (λ b. (refl, refl, refl)) only_Send,
    (
      five r p end q 11 (is_symbol r.codes) (a_symbol r.codes) instrs.Call (below_is q 4 r.codes) (λ b. (refl, refl, refl)) only_Call,
      (
        resend_is r p end q,
        (
          prim_is r end p before q,
          (
            five r p end q 14 (is_symbol r.fields) (a_symbol r.fields) instrs.Get (below_is q 4 r.fields) (λ b. (refl, refl, refl)) only_Get,
            (
              five r p end q 15 (is_symbol r.fields) (a_symbol r.fields) instrs.Set (below_is q 4 r.fields) (λ b. (refl, refl, refl)) only_Set,
              last_are r end p before q,
            ),
          ),
        ),
      ),
    ),
  ),
)

int_is : (r : Roster) (end p : ℕ) → p < end → (q : ℕ) → IsSpelled q operands (ends_within r p end) (λ c. (op c ≡ 1) × Unit {0})
    (fixed end p 17 (an_integer >>= λ z. give (instrs.Int z)))
int_is r end p before q =
    fixed_is q p end 17 op operands (is_instr r) 1 _
    (branch q op operands (is_instr r) 1 integer is_integer an_integer instrs.Int (integer_is q) (λ z. (refl, refl, refl)) only_Int)
    (λ c m f. let o = only_Int c m in ap (λ x. length (operands x) + 1) o.1 ∙ omega (arith, length_number 16 (cast_unsigned w128 o.0)))

instructions_are : (r : Roster) (end p : ℕ) → p < end → (q : ℕ) → AreTagged q op operands (ends_within r p end) 0 (instructions r end p)
instructions_are r end p before q = (
  none_has_zero r p end q,
  (
    int_is r end p before q,
    (
      text_is r p end q,
      (
        five r p end q 3 (is_symbol r.objects) (a_symbol r.objects) instrs.Object (below_is q 4 r.objects) (λ b. (refl, refl, refl)) only_Object,
        (
          five r p end q 4 (is_number 4) (a_number 4) instrs.Load (number_is q 4) (λ b. (refl, refl, refl)) only_Load,
          (
            five r p end q 5 (is_number 4) (a_number 4) instrs.Store (number_is q 4) (λ b. (refl, refl, refl)) only_Store,
            (
              five r p end q 6 (is_number 4) (a_number 4) instrs.Cell (number_is q 4) (λ b. (refl, refl, refl)) only_Cell,
              (
                five r p end q 7 (is_number 4) (a_number 4) instrs.CellGet (number_is q 4) (λ b. (refl, refl, refl)) only_CellGet,
                (
                  five r p end q 8 (is_number 4) (a_number 4) instrs.CellSet (number_is q 4) (λ b. (refl, refl, refl)) only_CellSet,
                  later_are r end p before q,
                ),
              ),
            ),
          ),
        ),
      ),
    ),
  ),
)

pub instruction_is : (r : Roster) (end depth p : ℕ) → p < end
    → IsSpelled p instr (λ x. is_instr r x && leb (p + length (instr x)) end) Any (an_instruction r end depth)
unfolding an_instruction
instruction_is r end depth p before =
    worded (ends_within r p end) (λ x. is_instr r x && leb (p + length (instr x)) end)
    (λ c m. let len : length (instr c) ≡ 1 + length (operands c) = omega (arith, length-append (number 1 (op c)) (operands c), length_number 1 (op c)) in
    ap (λ n. is_instr r c && leb (p + n) end) len)
    (tagged_are p op operands (ends_within r p end) (instructions r end) (instructions_are r end p before) most)

pub instr_some : (x : Instr) → 0 < length (instr x)
instr_some x = omega (arith, length-append (number 1 (op x)) (operands x), length_number 1 (op x))
