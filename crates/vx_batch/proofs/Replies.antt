-- Replies to blocks, joined: to some and then to more, whole or in part.
use Rattle.std.proofs.Common.{◌≡◌, ℕ, ◌^◌, ◌<◌, ◌≤◌, List, [], ◌∷◌, ◌++◌, length, Option, Some, None, Result, Ok, Err, refl, sym, ap, ◌∙◌, subst, append_assoc, length-append, arith, inl, inr}
use Rattle.std.specs.Option.{IfSome}
use Rattle.std.specs.List.{concat}
use Rattle.std.specs.Io.KnownBytes.{Appends}
use Rattle.std.proofs.lemmas.List.{append-nil, append_cancel_left}
use Rattle.std.proofs.lemmas.Bool.{cases_lt}
use Rattle.vx_syntax.specs.declared.decl.Decl.{Decl}
use Rattle.vx_program.specs.declared.edit.Edit.{Edit}
use Rattle.std.specs.Result.{is_ok}
use Rattle.std.specs.Bool.{if◌then◌else◌}
use Rattle.vx_reader.specs.declared.command.Command.{Command}
use Rattle.vx_reader.specs.declared.command.Command.TheVariants as c
use Rattle.vx_reader.specs.declared.command.ReadFault.{ReadFault}
use Rattle.vx_reader.specs.Reads.{Reads, answer}
use Rattle.vx_blocks.specs.Blocks.{blocks}
use Rattle.vx_io.specs.Sink.{AppendsPart}
use Rattle.vx_blocks.specs.declared.block.TheConstants.{BLOCK_BYTES}
use Rattle.vx_batch.specs.Text.{too_long_text}
use Rattle.vx_batch.specs.Script.{after, accepted_with, edit_reply, reply, Answers, too_long, read, AreReplies, RefusedEditsChangeNothing}
use Rattle.vx_batch.specs.Ends.{HasReplies, HasFront, given}
use Rattle.vx_batch.specs.declared.pieces.TheConstants.{INPUT_BYTES}
use Rattle.vx_batch.specs.Steps.{HasReplied, HasCut, HasFinished, HasFinishedInPart, HasAnsweredBlock, HasCutBlock}

-- the replies to some blocks, and then to more
pub replies_then : (edits middle last : List Edit) (bs cs ts us : List (List ℕ)) → AreReplies edits bs ts middle → AreReplies middle cs us last → AreReplies edits (bs ++ cs) (ts ++ us) last
replies_then edits middle last [] cs ts us (none, same) h = rw (none, ← same) h
replies_then edits middle last (b ∷ bs) cs ts us (text, next, answers, (rest, is, more)) h =
    (text, next, answers, (rest ++ us, ap (λ z. z ++ us) is, replies_then next middle last bs cs rest us more h))

pub reply_one : (edits next : List Edit) (block text : List ℕ) → Answers edits block text next → AreReplies edits (block ∷ []) (text ∷ []) next
reply_one edits next block text answers = (text, next, answers, ([], refl, (refl, refl)))

pub appends_none : (a : Option (List ℕ)) → Appends a a []
appends_none None = tt
appends_none (Some xs) = sym (append-nil xs)

pub appends_more : (a b c : Option (List ℕ)) (xs ys : List ℕ) → Appends a b xs → Appends b c ys → Appends a c (xs ++ ys)
appends_more None b c xs ys h k = tt
appends_more (Some before) None c xs ys h k = absurd h
appends_more (Some before) (Some now) None xs ys h k = absurd k
appends_more (Some before) (Some now) (Some later) xs ys h k = k ∙ (ap (λ z. z ++ ys) h ∙ append_assoc before xs ys)

concat-append : (xs ys : List (List ℕ)) → concat (xs ++ ys) ≡ concat xs ++ concat ys
concat-append [] ys = refl
concat-append (x ∷ xs) ys = ap (λ z. x ++ z) (concat-append xs ys) ∙ sym (append_assoc x (concat xs) (concat ys))

-- nothing is answered yet
pub replied_none : (edits : List Edit) (bytes : List ℕ) (a : Option (List ℕ)) → HasReplied edits edits bytes bytes a a
replied_none edits bytes a = record {
  done = [];
  texts = [];
  replies = (refl, refl);
  cut = λ more. refl;
  sent = appends_none a;
}

-- one more block
pub replied_more : (edits middle : List Edit) (program : List Decl) (count : ℕ) (old now block rest : List ℕ) (a b c : Option (List ℕ)) → HasReplied edits middle old now a b → ((more : List ℕ) → blocks (now ++ more) ≡ block ∷ blocks (rest ++ more)) → (h : HasAnsweredBlock middle program count block b c) → HasReplied edits h.next old rest a c
replied_more edits middle program count old now block rest a b c replied cut h = record {
  done = replied.done ++ block ∷ [];
  texts = replied.texts ++ h.text ∷ [];
  replies = replies_then edits middle h.next replied.done (block ∷ []) replied.texts (h.text ∷ []) replied.replies (reply_one middle h.next block h.text h.answers);
  cut = λ more. replied.cut more ∙ (ap (λ z. replied.done ++ z) (cut more) ∙ sym (append_assoc replied.done (block ∷ []) (blocks (rest ++ more))));
  sent =
      let joined : concat (replied.texts ++ h.text ∷ []) ≡ concat replied.texts ++ h.text = concat-append replied.texts (h.text ∷ []) ∙ ap (λ z. concat replied.texts ++ z) (append-nil h.text) in
      rw joined (appends_more a b c (concat replied.texts) h.text replied.sent h.sent);
}

after_some : (a b c : Option (List ℕ)) (xs text : List ℕ) → Appends a b xs → IfSome b (λ before. AppendsPart before c text) → IfSome a (λ before. AppendsPart (before ++ xs) c text)
after_some None b c xs text h k = tt
after_some (Some before) None c xs text h k = absurd h
after_some (Some before) (Some now) c xs text h k = subst (λ z. AppendsPart z c text) h k

-- one more block, whose reply was cut
pub cut_more : (edits middle : List Edit) (old now block rest : List ℕ) (a b c : Option (List ℕ)) → HasReplied edits middle old now a b → ((more : List ℕ) → blocks (now ++ more) ≡ block ∷ blocks (rest ++ more)) → HasCutBlock middle block b c → HasCut edits old a c
cut_more edits middle old now block rest a b c replied cut h = record {
  done = replied.done;
  texts = replied.texts;
  last = middle;
  replies = replied.replies;
  block = block;
  text = h.text;
  next = h.next;
  answers = h.answers;
  rest = rest;
  cut = λ more. replied.cut more ∙ ap (λ z. replied.done ++ z) (cut more);
  sent = after_some a b c (concat replied.texts) h.text replied.sent h.sent;
}

pub finished_none : (edits : List Edit) (bytes : List ℕ) (a : Option (List ℕ)) → bytes ≡ [] → HasFinished edits bytes a a
finished_none edits bytes a e = record {
  texts = [];
  last = edits;
  replies = rw e (refl, refl);
  sent = appends_none a;
}

pub finished_one : (edits : List Edit) (program : List Decl) (count : ℕ) (bytes block : List ℕ) (a b : Option (List ℕ)) → HasAnsweredBlock edits program count block a b → blocks bytes ≡ block ∷ [] → HasFinished edits bytes a b
finished_one edits program count bytes block a b h e = record {
  texts = h.text ∷ [];
  last = h.next;
  replies = rw e (reply_one edits h.next block h.text h.answers);
  sent = rw append-nil h.sent;
}

pub finished_part : (edits : List Edit) (bytes block : List ℕ) (a b : Option (List ℕ)) → HasCutBlock edits block a b → blocks bytes ≡ block ∷ [] → HasFinishedInPart edits bytes a b
finished_part edits bytes block a b h e = record {
  texts = h.text ∷ [];
  last = h.next;
  replies = rw e (reply_one edits h.next block h.text h.answers);
  sent = rw append-nil h.sent;
}

cut_before : (old now piece : List ℕ) (done : List (List ℕ)) → ((more : List ℕ) → blocks (old ++ more) ≡ done ++ blocks (now ++ more)) → (more : List ℕ) → blocks ((old ++ piece) ++ more) ≡ done ++ blocks ((now ++ piece) ++ more)
cut_before old now piece done cut more = rw (append_assoc old piece more, append_assoc now piece more) (cut (piece ++ more))

cut_through : (old now piece rest : List ℕ) (done more_done : List (List ℕ)) → ((more : List ℕ) → blocks (old ++ more) ≡ done ++ blocks (now ++ more)) → ((more : List ℕ) → blocks ((now ++ piece) ++ more) ≡ more_done ++ blocks (rest ++ more)) → (more : List ℕ) → blocks ((old ++ piece) ++ more) ≡ (done ++ more_done) ++ blocks (rest ++ more)
cut_through old now piece rest done more_done cut then' more =
    cut_before old now piece done cut more ∙ (ap (λ z. done ++ z) (then' more) ∙ sym (append_assoc done more_done (blocks (rest ++ more))))

after_part : (a b c : Option (List ℕ)) (xs ys text : List ℕ) → Appends a b xs → IfSome b (λ before. AppendsPart (before ++ ys) c text) → IfSome a (λ before. AppendsPart (before ++ (xs ++ ys)) c text)
after_part None b c xs ys text h k = tt
after_part (Some before) None c xs ys text h k = absurd h
after_part (Some before) (Some now) c xs ys text h k = subst (λ z. AppendsPart z c text) (ap (λ z. z ++ ys) h ∙ append_assoc before xs ys) k

-- what came before, and then more bytes that were answered
pub replied_then : (edits middle last : List Edit) (old now piece rest : List ℕ) (a b c : Option (List ℕ)) → HasReplied edits middle old now a b → HasReplied middle last (now ++ piece) rest b c → HasReplied edits last (old ++ piece) rest a c
replied_then edits middle last old now piece rest a b c h k = record {
  done = h.done ++ k.done;
  texts = h.texts ++ k.texts;
  replies = replies_then edits middle last h.done k.done h.texts k.texts h.replies k.replies;
  cut = λ more. cut_through old now piece rest h.done k.done h.cut k.cut more;
  sent = rw (concat-append h.texts k.texts) (appends_more a b c (concat h.texts) (concat k.texts) h.sent k.sent);
}

pub cut_then : (edits middle : List Edit) (old now piece : List ℕ) (a b c : Option (List ℕ)) → HasReplied edits middle old now a b → HasCut middle (now ++ piece) b c → HasCut edits (old ++ piece) a c
cut_then edits middle old now piece a b c h k = record {
  done = h.done ++ k.done;
  texts = h.texts ++ k.texts;
  last = k.last;
  replies = replies_then edits middle k.last h.done k.done h.texts k.texts h.replies k.replies;
  block = k.block;
  text = k.text;
  next = k.next;
  answers = k.answers;
  rest = k.rest;
  cut = λ more. cut_before old now piece h.done h.cut more ∙ (ap (λ z. h.done ++ z) (k.cut more) ∙ sym (append_assoc h.done k.done (k.block ∷ blocks (k.rest ++ more))));
  sent = rw (concat-append h.texts k.texts) (after_part a b c (concat h.texts) (concat k.texts) k.text h.sent k.sent);
}

pub has_some : (before : List ℕ) (now : Option (List ℕ)) (xs : List ℕ) → Appends (Some before) now xs → now ≡ Some (before ++ xs)
has_some before None xs h = absurd h
has_some before (Some now) xs h = ap Some h

-- (a ++ b) ++ (c ++ d), with the middle together
regroup : (a b c d : List ℕ) → (a ++ b) ++ (c ++ d) ≡ a ++ ((b ++ c) ++ d)
regroup a b c d = simp append_assoc

-- with the replies to the rest of all bytes they are the replies to all
replies_all : (edits middle last : List Edit) (bytes rest more all : List ℕ) (done ts us : List (List ℕ)) → AreReplies edits done ts middle → AreReplies middle (blocks (rest ++ more)) us last → blocks (bytes ++ more) ≡ done ++ blocks (rest ++ more) → all ≡ bytes ++ more → AreReplies edits (blocks all) (ts ++ us) last
replies_all edits middle last bytes rest more all done ts us h k cut same =
    rw (same, cut) (replies_then edits middle last done (blocks (rest ++ more)) ts us h k)

module _ (total : (bytes : List ℕ) → length bytes < 2 ^ 64 → Reads bytes (answer bytes)) where
  answered_somehow : (edits : List Edit) (block : List ℕ) → (text : List ℕ) × ((next : List Edit) × Answers edits block text next)
  answered_somehow edits block =
      elim (cases_lt BLOCK_BYTES (length block)) [
        | inl long ↦ (too_long_text (length block), (edits, too_long long))
        | inr short ↦ (reply (after edits) (length edits) (answer block), (accepted_with edits (answer block), read (answer block) short (total block (omega (arith, short)))))
      ]

  -- any blocks have replies
  pub answerable : (edits : List Edit) (bs : List (List ℕ)) → (texts : List (List ℕ)) × ((last : List Edit) × AreReplies edits bs texts last)
  answerable edits [] = ([], (edits, (refl, refl)))
  answerable edits (b ∷ bs) =
      let a = answered_somehow edits b in
      let more = answerable a.1.0 bs in
      (a.0 ∷ more.0, (more.1.0, (a.0, a.1.0, a.1.1, (more.0, refl, more.1.1))))

  pub front_replied : (last : List Edit) (bytes rest more all before : List ℕ) (now : Option (List ℕ)) → HasReplied [] last bytes rest (Some before) now → all ≡ bytes ++ more → (wanting : List ℕ) × HasFront all before now wanting
  front_replied last bytes rest more all before now h same =
      let t = answerable last (blocks (rest ++ more)) in (
        concat t.0,
        record {
          texts = h.texts ++ t.0;
          last = t.1.0;
          replies = replies_all [] last t.1.0 bytes rest more all h.done h.texts t.0 h.replies t.1.1 (h.cut more) same;
          front = concat h.texts;
          parts = sym (concat-append h.texts t.0);
          has = has_some before now (concat h.texts) h.sent;
        },
      )

  pub front_cut : (bytes more all before : List ℕ) (now : Option (List ℕ)) → HasCut [] bytes (Some before) now → all ≡ bytes ++ more → (wanting : List ℕ) × (0 < length wanting) × HasFront all before now wanting
  front_cut bytes more all before now h same =
      let t = answerable h.next (blocks (h.rest ++ more)) in
      let left = h.sent.some_left in
      let some : 0 < length (h.sent.rest ++ concat t.0) = omega (arith, length-append h.sent.rest (concat t.0)) in (
        h.sent.rest ++ concat t.0,
        some,
        record {
          texts = h.texts ++ h.text ∷ t.0;
          last = t.1.0;
          replies = rw (same, h.cut more) (replies_then [] h.last t.1.0 h.done (h.block ∷ blocks (h.rest ++ more)) h.texts (h.text ∷ t.0) h.replies (h.text, h.next, h.answers, (t.0, refl, t.1.1)));
          front = concat h.texts ++ h.sent.part;
          parts = regroup (concat h.texts) h.sent.part h.sent.rest (concat t.0) ∙ (ap (λ z. concat h.texts ++ (z ++ concat t.0)) h.sent.parts ∙ sym (concat-append h.texts (h.text ∷ t.0)));
          has = h.sent.grown ∙ ap Some (append_assoc before (concat h.texts) h.sent.part);
        },
      )

-- the rest of the bytes was answered too
pub replies_finished : (last : List Edit) (bytes rest before : List ℕ) (now end : Option (List ℕ)) → HasReplied [] last bytes rest (Some before) now → HasFinished last rest now end → HasReplies bytes before end
replies_finished last bytes rest before now end h k = record {
  texts = h.texts ++ k.texts;
  last = k.last;
  replies = replies_all [] last k.last bytes rest [] bytes h.done h.texts k.texts h.replies (rw append-nil k.replies) (h.cut []) (sym (append-nil bytes));
  has = has_some before end (concat (h.texts ++ k.texts)) (rw (concat-append h.texts k.texts) (appends_more (Some before) now end (concat h.texts) (concat k.texts) h.sent k.sent));
}

part_after : (before : List ℕ) (now end : Option (List ℕ)) (xs text : List ℕ) → Appends (Some before) now xs → IfSome now (λ b. AppendsPart b end text) → AppendsPart (before ++ xs) end text
part_after before None end xs text h k = absurd h
part_after before (Some now) end xs text h k = subst (λ z. AppendsPart z end text) h k

-- the reply to the rest was cut
pub front_finished : (last : List Edit) (bytes rest before : List ℕ) (now end : Option (List ℕ)) → HasReplied [] last bytes rest (Some before) now → HasFinishedInPart last rest now end → (wanting : List ℕ) × (0 < length wanting) × HasFront bytes before end wanting
front_finished last bytes rest before now end h k =
    let p = part_after before now end (concat h.texts) (concat k.texts) h.sent k.sent in (
      p.rest,
      p.some_left,
      record {
        texts = h.texts ++ k.texts;
        last = k.last;
        replies = replies_all [] last k.last bytes rest [] bytes h.done h.texts k.texts h.replies (rw append-nil k.replies) (h.cut []) (sym (append-nil bytes));
        front = concat h.texts ++ p.part;
        parts = append_assoc (concat h.texts) p.part p.rest ∙ (ap (λ z. concat h.texts ++ z) p.parts ∙ sym (concat-append h.texts k.texts));
        has = p.grown ∙ ap Some (append_assoc before (concat h.texts) p.part);
      },
    )

module _ (one : (bytes : List ℕ) (a b : Result Command ReadFault) → length bytes < 2 ^ 64 → Reads bytes a → Reads bytes b → a ≡ b) where
  same_answer : (edits next next' : List Edit) (block text text' : List ℕ) → Answers edits block text next → Answers edits block text' next' → (text ≡ text') × (next ≡ next')
  same_answer edits next next' block text text' (too_long long) (too_long long') = (refl, refl)
  same_answer edits next next' block text text' (too_long long) (read a short reads) = absurd (omega arith)
  same_answer edits next next' block text text' (read a short reads) (too_long long) = absurd (omega arith)
  same_answer edits next next' block text text' (read a short reads) (read b short' reads') =
      let same : a ≡ b = one block a b (omega (arith, short)) reads reads' in
      (ap (reply (after edits) (length edits)) same, ap (accepted_with edits) same)

  -- two lists of replies to the same blocks are one
  pub one_script : (edits last last' : List Edit) (bs xs ys : List (List ℕ)) → AreReplies edits bs xs last → AreReplies edits bs ys last' → xs ≡ ys
  one_script edits last last' [] xs ys (none, e) (none', e') = none ∙ sym none'
  one_script edits last last' (b ∷ bs) xs ys (text, next, answers, (rest, is, more)) (text', next', answers', (rest', is', more')) =
      let same = same_answer edits next next' b text text' answers answers' in
      let tails : rest ≡ rest' = one_script next last last' bs rest rest' more (subst (λ n. AreReplies n bs rest' last') (sym same.1) more') in
      is ∙ (ap (λ t. t ∷ rest) same.0 ∙ (ap (λ r. text' ∷ r) tails ∙ sym is'))

  -- the replies to more blocks are those to the first of them, and then the others
  replies_split : (edits mid last : List Edit) (earlier later front texts : List (List ℕ)) → AreReplies edits earlier front mid →
      AreReplies edits (earlier ++ later) texts last → (rest : List (List ℕ)) × (texts ≡ front ++ rest) × AreReplies mid later rest last
  replies_split edits mid last [] later front texts (none, same) h = (texts, sym (ap (λ z. z ++ texts) none), subst (λ e. AreReplies e later texts last) (sym same) h)
  replies_split edits mid last (b ∷ bs) later front texts (text, next, answers, (rest, is, more)) (text', next', answers', (rest', is', more')) =
      let same = same_answer edits next next' b text text' answers answers' in
      let tail = replies_split next mid last bs later rest rest' more (subst (λ n. AreReplies n (bs ++ later) rest' last) (sym same.1) more') in
      (tail.0, is' ∙ (ap (λ t. t ∷ rest') (sym same.0) ∙ (ap (λ r. text ∷ r) tail.1 ∙ ap (λ z. z ++ tail.0) (sym is))), tail.2)

  pub refused_changes_nothing : RefusedEditsChangeNothing
  refused_changes_nothing edits mid last earlier later front texts block edit fault before short reads refused whole =
      let split = replies_split edits mid last earlier (block ∷ later) front texts before whole in
      let (text, next, answers, (rest, is, more)) = split.2 in
      let same = same_answer mid next (accepted_with mid (Ok (c.Edit edit))) block text (reply (after mid) (length mid) (Ok (c.Edit edit))) answers
      (read (Ok (c.Edit edit)) short reads) in
      let said : text ≡ edit_reply (length mid) (Err fault) = same.0 ∙ ap (edit_reply (length mid)) refused in
      let kept : next ≡ mid = same.1 ∙ ap (λ r. if is_ok r then mid ++ edit ∷ [] else mid) refused in (
        rest,
        split.1 ∙ ap (λ z. front ++ z) (is ∙ ap (λ t. t ∷ rest) said),
        replies_then edits mid last earlier later front rest before (subst (λ e. AreReplies e later rest last) kept more),
      )

  -- the replies can't be whole where some are wanting
  pub wanting_none : (input before wanting : List ℕ) (now : Option (List ℕ)) → HasReplies input before now → HasFront input before now wanting → 0 < length wanting → ⊥
  wanting_none input before wanting now whole front some =
      let same : whole.texts ≡ front.texts = one_script [] whole.last front.last (blocks input) whole.texts front.texts whole.replies front.replies in
      let has : Some (before ++ concat whole.texts) ≡ Some (before ++ front.front) = sym whole.has ∙ front.has in
      let bytes : before ++ concat whole.texts ≡ before ++ front.front = cc in
      let cut' : concat whole.texts ≡ front.front = append_cancel_left before (concat whole.texts) front.front bytes in
      let longer : front.front ++ wanting ≡ front.front = front.parts ∙ (ap concat (sym same) ∙ cut') in
      omega (arith, length-append front.front wanting, ap length longer)

  -- a sink that lacks some replies to what the source told hasn't all
  pub never_whole : (left left_now first now : Option (List ℕ)) (X : Type 0) → IfSome left (λ all. (given all left_now ≤ INPUT_BYTES) × IfSome first (λ before. (wanting : List ℕ) × (0 < length wanting) × HasFront all before now wanting)) → IfSome left (λ input. IfSome first (λ before. HasReplies input before now → X))
  never_whole None left_now first now X h = tt
  never_whole (Some all) left_now None now X h = tt
  never_whole (Some all) left_now (Some before) now X h = λ replies. absurd (wanting_none all before h.1.0 now replies h.1.2 h.1.1)
