-- Answering what a source gives, piece by piece.
use Rattle.std.proofs.Common.{◌≡◌, ℕ, ◌^◌, ◌+◌, ◌<◌, ◌≤◌, Bool, false, List, [], ◌++◌, length, Option, Some, None, refl, sym, ap, ◌∙◌, subst, append_assoc, length-append, arith, true, inl, inr}
use Rattle.std.specs.Option.{IfSome}
use Rattle.std.specs.List.{concat}
use Rattle.std.specs.Io.KnownBytes.{Consumes, IsAtEnd}
use Rattle.std.proofs.lemmas.List.{append-nil}
use Rattle.vx_syntax.specs.declared.decl.Decl.{Decl}
use Rattle.vx_program.specs.declared.edit.Edit.{Edit}
use Rattle.vx_program.specs.Prelude.{prelude}
use Rattle.vx_reader.specs.Reads.{Reads, answer}
use Rattle.vx_blocks.specs.Blocks.{has_end_line}
use Rattle.vx_batch.specs.declared.pieces.TheConstants.{INPUT_BYTES, PIECE_BYTES}
use Rattle.vx_batch.specs.Ends.{given, HasEnded, HasAnsweredTaken, HasAnsweredFed, HasReplies, HasFront, HasWholeReplies}
use Rattle.vx_batch.specs.declared.pieces.End.TheVariants.{Stopped}
use Rattle.vx_batch.specs.declared.script.Stop.{Stop}
use Rattle.vx_batch.specs.declared.script.Stop.TheVariants.{WriteFailed, OutOfMemory}
use Rattle.vx_io.specs.Faults.{HasRisen}
use Rattle.vx_batch.specs.Steps.{IsAfter, HasReplied, HasCut, HasFinished, HasFinishedInPart}
use Rattle.vx_batch.proofs.Replies.{replied_none, replied_then, cut_then, has_some, front_replied, front_cut, replies_finished, front_finished}

-- The bytes fed were consumed, the blocks that are whole in them were answered, and the rest of them is pending.
pub record Halfway (first now : Option (List ℕ)) (taken : ℕ) (program : List Decl) (count : ℕ) (pending : List ℕ) (sink_first sink_now : Option (List ℕ)) : Type 0 where
  pub fed : List ℕ
  pub consumed : Consumes first now fed
  pub taken_is : taken ≡ length fed
  pub within : taken ≤ INPUT_BYTES
  pub last : List Edit
  pub state : IsAfter program count last
  pub replied : HasReplied [] last fed pending sink_first sink_now
  pub none_left : has_end_line pending ≡ false
  pub few : count + length pending ≤ taken

consumed_none : (a : Option (List ℕ)) → Consumes a a []
consumed_none None = tt
consumed_none (Some all) = refl

consumed_more : (a b c : Option (List ℕ)) (xs ys : List ℕ) → Consumes a b xs → Consumes b c ys → Consumes a c (xs ++ ys)
consumed_more None b c xs ys h k = tt
consumed_more (Some all) None c xs ys h k = absurd h
consumed_more (Some all) (Some rest) None xs ys h k = absurd k
consumed_more (Some all) (Some rest) (Some left) xs ys h k = h ∙ (ap (λ r. xs ++ r) k ∙ sym (append_assoc xs ys left))

pub start : (a s : Option (List ℕ)) → Halfway a a 0 prelude 0 [] s s
start a s = record {
  fed = [];
  consumed = consumed_none a;
  taken_is = refl;
  within = omega arith;
  last = [];
  state = record { program_is = refl; count_is = refl };
  replied = replied_none [] [] s;
  none_left = refl;
  few = omega arith;
}

-- another piece was fed, and the blocks that became whole were answered
pub step : (first now later : Option (List ℕ)) (taken : ℕ) (program next_program : List Decl) (count next_count : ℕ) (pending piece rest : List ℕ) (s0 s1 s2 : Option (List ℕ)) (last : List Edit) → (h : Halfway first now taken program count pending s0 s1) → Consumes now later piece → taken + length piece ≤ INPUT_BYTES → IsAfter next_program next_count last → HasReplied h.last last (pending ++ piece) rest s1 s2 → has_end_line rest ≡ false → next_count + length rest ≤ count + length (pending ++ piece) → Halfway first later (taken + length piece) next_program next_count rest s0 s2
step first now later taken program next_program count next_count pending piece rest s0 s1 s2 last h gave fits state replied none few = record {
  fed = h.fed ++ piece;
  consumed = consumed_more first now later h.fed piece h.consumed gave;
  taken_is = ap (λ n. n + length piece) h.taken_is ∙ sym (length-append h.fed piece);
  within = fits;
  last = last;
  state = state;
  replied = replied_then [] h.last last h.fed pending piece rest s0 s1 s2 h.replied replied;
  none_left = none;
  few = let f = h.few in omega (arith, length-append pending piece);
}

-- what is left of bytes that are told
left_of : (all : List ℕ) (now : Option (List ℕ)) (fed : List ℕ) → Consumes (Some all) now fed → (left : List ℕ) × (all ≡ fed ++ left)
left_of all None fed h = absurd h
left_of all (Some left) fed h = (left, h)

whole_replies : (last : List Edit) (fed pending before : List ℕ) (now : Option (List ℕ)) → HasReplied [] last fed pending (Some before) now → has_end_line pending ≡ false → HasWholeReplies fed before now
whole_replies last fed pending before now h none = record {
  whole = h.done;
  are_whole = record { rest = pending; cut = h.cut; ends = none };
  texts = h.texts;
  last = last;
  replies = h.replies;
  has = has_some before now (concat h.texts) h.sent;
}

given_of : (all : List ℕ) (now : Option (List ℕ)) (fed : List ℕ) → Consumes (Some all) now fed → given all now ≡ length fed
given_of all None fed h = absurd h
given_of all (Some left) fed h =
    let e : length all ≡ length fed + length left = ap length h ∙ length-append fed left in
    omega arith

-- the bytes given are those fed, which are not too many
given_within : (all : List ℕ) (now : Option (List ℕ)) (fed : List ℕ) (taken : ℕ) → Consumes (Some all) now fed → taken ≡ length fed → taken ≤ INPUT_BYTES → given all now ≤ INPUT_BYTES
given_within all now fed taken h is within = let g = given_of all now fed h in omega arith

too_long_sink : (all : List ℕ) (later : Option (List ℕ)) (last : List Edit) (fed pending piece : List ℕ) (s0 s1 : Option (List ℕ)) → Consumes (Some all) later (fed ++ piece) → length fed ≤ INPUT_BYTES → length piece ≤ PIECE_BYTES → INPUT_BYTES < length (fed ++ piece) → HasReplied [] last fed pending s0 s1 → has_end_line pending ≡ false → IfSome s0 (λ before. HasAnsweredFed all later before s1)
too_long_sink all later last fed pending piece None s1 gave within small past replied none = tt
too_long_sink all later last fed pending piece (Some before) s1 gave within small past replied none = record {
  fed = fed;
  piece = piece;
  gave = gave;
  within = within;
  small = small;
  past = past;
  replies = whole_replies last fed pending before s1 replied none;
}

module _ (total : (bytes : List ℕ) → length bytes < 2 ^ 64 → Reads bytes (answer bytes)) where
  front_sink : (all : List ℕ) (last : List Edit) (bytes rest more : List ℕ) (s0 s1 : Option (List ℕ)) → HasReplied [] last bytes rest s0 s1 → all ≡ bytes ++ more → IfSome s0 (λ before. (wanting : List ℕ) × HasFront all before s1 wanting)
  front_sink all last bytes rest more None s1 h same = tt
  front_sink all last bytes rest more (Some before) s1 h same = front_replied total last bytes rest more all before s1 h same

  cut_sink : (all bytes more : List ℕ) (s0 s1 : Option (List ℕ)) → HasCut [] bytes s0 s1 → all ≡ bytes ++ more → IfSome s0 (λ before. (wanting : List ℕ) × (0 < length wanting) × HasFront all before s1 wanting)
  cut_sink all bytes more None s1 h same = tt
  cut_sink all bytes more (Some before) s1 h same = front_cut total bytes more all before s1 h same

pub read_failed : (first now : Option (List ℕ)) (taken : ℕ) (program : List Decl) (count : ℕ) (pending : List ℕ) (s0 s1 : Option (List ℕ)) → Halfway first now taken program count pending s0 s1 → IfSome first (λ all. (given all now ≤ INPUT_BYTES) × IfSome s0 (λ before. HasAnsweredTaken all now before s1))
read_failed None now taken program count pending s0 s1 h = tt
read_failed (Some all) now taken program count pending None s1 h = (given_within all now h.fed taken h.consumed h.taken_is h.within, tt)
read_failed (Some all) now taken program count pending (Some before) s1 h = (
  given_within all now h.fed taken h.consumed h.taken_is h.within,
  record {
    taken = h.fed;
    gave = h.consumed;
    replies = whole_replies h.last h.fed pending before s1 h.replied h.none_left;
  },
)

pub too_long : (first now later : Option (List ℕ)) (taken : ℕ) (program : List Decl) (count : ℕ) (pending piece : List ℕ) (s0 s1 : Option (List ℕ)) → Halfway first now taken program count pending s0 s1 → Consumes now later piece → length piece ≤ PIECE_BYTES → INPUT_BYTES < taken + length piece → IfSome first (λ all. (INPUT_BYTES < given all later) × IfSome s0 (λ before. HasAnsweredFed all later before s1))
too_long None now later taken program count pending piece s0 s1 h gave small past = tt
too_long (Some all) now later taken program count pending piece s0 s1 h gave small past =
    let more : Consumes (Some all) later (h.fed ++ piece) = consumed_more (Some all) now later h.fed piece h.consumed gave in
    let g = given_of all later (h.fed ++ piece) more in
    let t = h.taken_is in
    let w = h.within in
    let far : INPUT_BYTES < length (h.fed ++ piece) = omega (arith, length-append h.fed piece) in
    (omega arith, too_long_sink all later h.last h.fed pending piece s0 s1 more (omega arith) small far h.replied h.none_left)

pub all_answered : (first now : Option (List ℕ)) (taken : ℕ) (program : List Decl) (count : ℕ) (pending : List ℕ) (s0 s1 s2 : Option (List ℕ)) → (h : Halfway first now taken program count pending s0 s1) → IsAtEnd now → HasFinished h.last pending s1 s2 → IfSome first (λ all. (given all now ≤ INPUT_BYTES) × (now ≡ Some []) × IfSome s0 (λ before. HasReplies all before s2))
all_answered None now taken program count pending s0 s1 s2 h end finished = tt
all_answered (Some all) None taken program count pending s0 s1 s2 h end finished = absurd h.consumed
all_answered (Some all) (Some left) taken program count pending None s1 s2 h end finished = (given_within all (Some left) h.fed taken h.consumed h.taken_is h.within, ap Some end, tt)
all_answered (Some all) (Some left) taken program count pending (Some before) s1 s2 h end finished =
    let same : all ≡ h.fed = h.consumed ∙ (ap (λ z. h.fed ++ z) end ∙ append-nil h.fed) in
    (given_within all (Some left) h.fed taken h.consumed h.taken_is h.within, ap Some end, subst (λ input. HasReplies input before s2) (sym same) (replies_finished h.last h.fed pending before s1 s2 h.replied finished))

pub cut_rest : (first now : Option (List ℕ)) (taken : ℕ) (program : List Decl) (count : ℕ) (pending : List ℕ) (s0 s1 s2 : Option (List ℕ)) → (h : Halfway first now taken program count pending s0 s1) → IsAtEnd now → HasFinishedInPart h.last pending s1 s2 → IfSome first (λ all. (given all now ≤ INPUT_BYTES) × IfSome s0 (λ before. (wanting : List ℕ) × (0 < length wanting) × HasFront all before s2 wanting))
cut_rest None now taken program count pending s0 s1 s2 h end cut = tt
cut_rest (Some all) None taken program count pending s0 s1 s2 h end cut = absurd h.consumed
cut_rest (Some all) (Some left) taken program count pending None s1 s2 h end cut = (given_within all (Some left) h.fed taken h.consumed h.taken_is h.within, tt)
cut_rest (Some all) (Some left) taken program count pending (Some before) s1 s2 h end cut =
    let same : all ≡ h.fed = h.consumed ∙ (ap (λ z. h.fed ++ z) end ∙ append-nil h.fed) in
    (given_within all (Some left) h.fed taken h.consumed h.taken_is h.within, subst (λ input. (wanting : List ℕ) × (0 < length wanting) × HasFront input before s2 wanting) (sym same) (front_finished h.last h.fed pending before s1 s2 h.replied cut))

module _ (total : (bytes : List ℕ) → length bytes < 2 ^ 64 → Reads bytes (answer bytes)) where
  -- memory ran out before anything was read
  pub nothing_read : (first s0 : Option (List ℕ)) → IfSome first (λ all. (given all first ≤ INPUT_BYTES) × IfSome s0 (λ before. (wanting : List ℕ) × HasFront all before s0 wanting))
  nothing_read None s0 = tt
  nothing_read (Some all) None = (omega arith, tt)
  nothing_read (Some all) (Some before) = (omega arith, front_replied total [] [] [] all all before (Some before) (replied_none [] [] (Some before)) refl)

  -- it ran out with the replies to what was fed before
  pub none_more : (first now later : Option (List ℕ)) (taken : ℕ) (program : List Decl) (count : ℕ) (pending piece : List ℕ) (s0 s1 : Option (List ℕ)) → (h : Halfway first now taken program count pending s0 s1) → Consumes now later piece → taken + length piece ≤ INPUT_BYTES → IfSome first (λ all. (given all later ≤ INPUT_BYTES) × IfSome s0 (λ before. (wanting : List ℕ) × HasFront all before s1 wanting))
  none_more None now later taken program count pending piece s0 s1 h gave fits = tt
  none_more (Some all) now later taken program count pending piece s0 s1 h gave fits =
      let more : Consumes (Some all) later (h.fed ++ piece) = consumed_more (Some all) now later h.fed piece h.consumed gave in
      let g = given_of all later (h.fed ++ piece) more in
      let t = h.taken_is in
      let left = left_of all now h.fed h.consumed in
      (omega (arith, length-append h.fed piece), front_sink total all h.last h.fed pending left.0 s0 s1 h.replied left.1)

  -- it ran out in the middle of a piece
  pub some_more : (first now later : Option (List ℕ)) (taken : ℕ) (program : List Decl) (count : ℕ) (pending piece rest : List ℕ) (s0 s1 s2 : Option (List ℕ)) (last : List Edit) → (h : Halfway first now taken program count pending s0 s1) → Consumes now later piece → taken + length piece ≤ INPUT_BYTES → HasReplied h.last last (pending ++ piece) rest s1 s2 → IfSome first (λ all. (given all later ≤ INPUT_BYTES) × IfSome s0 (λ before. (wanting : List ℕ) × HasFront all before s2 wanting))
  some_more None now later taken program count pending piece rest s0 s1 s2 last h gave fits replied = tt
  some_more (Some all) now later taken program count pending piece rest s0 s1 s2 last h gave fits replied =
      let more : Consumes (Some all) later (h.fed ++ piece) = consumed_more (Some all) now later h.fed piece h.consumed gave in
      let g = given_of all later (h.fed ++ piece) more in
      let t = h.taken_is in
      let left = left_of all later (h.fed ++ piece) more in
      (omega (arith, length-append h.fed piece), front_sink total all last (h.fed ++ piece) rest left.0 s0 s2 (replied_then [] h.last last h.fed pending piece rest s0 s1 s2 h.replied replied) left.1)

  -- a write failed in the middle of a piece
  pub cut_piece : (first now later : Option (List ℕ)) (taken : ℕ) (program : List Decl) (count : ℕ) (pending piece : List ℕ) (s0 s1 s2 : Option (List ℕ)) → (h : Halfway first now taken program count pending s0 s1) → Consumes now later piece → taken + length piece ≤ INPUT_BYTES → HasCut h.last (pending ++ piece) s1 s2 → IfSome first (λ all. (given all later ≤ INPUT_BYTES) × IfSome s0 (λ before. (wanting : List ℕ) × (0 < length wanting) × HasFront all before s2 wanting))
  cut_piece None now later taken program count pending piece s0 s1 s2 h gave fits cut = tt
  cut_piece (Some all) now later taken program count pending piece s0 s1 s2 h gave fits cut =
      let more : Consumes (Some all) later (h.fed ++ piece) = consumed_more (Some all) now later h.fed piece h.consumed gave in
      let g = given_of all later (h.fed ++ piece) more in
      let t = h.taken_is in
      let left = left_of all later (h.fed ++ piece) more in
      (omega (arith, length-append h.fed piece), cut_sink total all (h.fed ++ piece) left.0 s0 s2 (cut_then [] h.last h.fed pending piece s0 s1 s2 h.replied cut) left.1)

  -- it ran out before the rest of the input was answered
  pub none_of_rest : (first now : Option (List ℕ)) (taken : ℕ) (program : List Decl) (count : ℕ) (pending : List ℕ) (s0 s1 : Option (List ℕ)) → (h : Halfway first now taken program count pending s0 s1) → IfSome first (λ all. (given all now ≤ INPUT_BYTES) × IfSome s0 (λ before. (wanting : List ℕ) × HasFront all before s1 wanting))
  none_of_rest None now taken program count pending s0 s1 h = tt
  none_of_rest (Some all) now taken program count pending s0 s1 h =
      let left = left_of all now h.fed h.consumed in
      (given_within all now h.fed taken h.consumed h.taken_is h.within, front_sink total all h.last h.fed pending left.0 s0 s1 h.replied left.1)

pub not_true : (b : Bool) → (b ≡ true → ⊥) → b ≡ false
not_true true h = absurd (h refl)
not_true false h = refl

pub risen_from : (old middle new : ℕ) → old ≤ middle → HasRisen middle new → HasRisen old new
risen_from old middle new h risen = elim risen [ inl more ↦ inl (omega arith) | inr most ↦ inr most ]

-- an early end, by its cause
pub stopped : (stop : Stop) (left left_now : Option (List ℕ)) (ended : Bool) (faults faults_now : ℕ) (sink sink_now : Option (List ℕ)) (sink_faults sink_faults_now : ℕ) → (stop ≡ WriteFailed → HasRisen sink_faults sink_faults_now × IfSome left (λ all. (given all left_now ≤ INPUT_BYTES) × IfSome sink (λ before. (wanting : List ℕ) × (0 < length wanting) × HasFront all before sink_now wanting))) → (stop ≡ OutOfMemory → IfSome left (λ all. (given all left_now ≤ INPUT_BYTES) × IfSome sink (λ before. (wanting : List ℕ) × HasFront all before sink_now wanting))) → HasEnded (Stopped stop) left left_now ended faults faults_now sink sink_now sink_faults sink_faults_now
stopped WriteFailed left left_now ended faults faults_now sink sink_now sink_faults sink_faults_now cut memory = cut refl
stopped OutOfMemory left left_now ended faults faults_now sink sink_now sink_faults sink_faults_now cut memory = memory refl
