-- What a walk comes to where all answers are given.
use Rattle.std.proofs.Common.{List, Option, Some, None, true, false, [], ap, arith, refl, sym, subst, suc, zero, length, inl, inr, length-append}
use Rattle.std.proofs.Common.{append_assoc, append-nil, ◌∷◌, ◌++◌, ◌≡◌, ◌∙◌, ◌+◌, ◌≤◌, ◌⊎◌, ℕ, nat_lt}
use Rattle.std.specs.Str.{bytes_eq}
use Rattle.std.proofs.lemmas.Bool.{cases_Bool, cond-true, cond-false, both_ways}
use Rattle.vx_lists.specs.Members.{IsIn}
use Rattle.vx_lists.proofs.Members.{in_front, in_behind, in_either, in_any, any_in}
use Rattle.vx_lists.proofs.Texts.{same_bytes, bytes_same}
use Rattle.vx_syntax.specs.Expressions.{Bytes}
use Rattle.vx_program.specs.Program.{is_name_of}
use Rattle.vx_node.specs.declared.node.NodeId.{NodeId}
use Rattle.vx_node.specs.declared.answer.Answer.{Answer}
use Rattle.vx_node.specs.Traces.{Answers}
use Rattle.vx_node.specs.Asking.{Asking, gives, mixes, asks, outcome, asked, Gives}
use Rattle.vx_answers.specs.OrderRows.{Way, walk, walk_from, fresh, with_name, most_names}
use Rattle.vx_answers.proofs.Below.{led_on}
use Rattle.vx_answers.proofs.Members.{in_with, with_in}
use Rattle.vx_answers.proofs.Ascending.{AreAscending, with_ascending}
use Rattle.vx_answers.proofs.Pigeons.{AreApart}
use Rattle.vx_answers.proofs.Most.{most_is, no_more_than_most}

-- no name twice
abbrev pub AreDistinct : List Bytes → Type 0
AreDistinct xs = AreApart xs

-- where the answers lead from a name
abbrev pub leads_to : Way → Answers → Bytes → Option (List Bytes)
leads_to way answer x = way.onward (answer (way.node x))

-- the names to which a walk comes
pub data Comes (way : Way) (answer : Answers) (start : Bytes) : Bytes → Type 0 where
  here : Comes way answer start start
  on : {x y : Bytes} (xs : List Bytes) → Comes way answer start x → leads_to way answer x ≡ Some xs → IsIn y xs → Comes way answer start y

-- the name is there
abbrev pub IsThere : Way → Answers → Bytes → Type 0
IsThere way answer x = (xs : List Bytes) × (leads_to way answer x ≡ Some xs)

-- One more distinct name.
pub one_more_distinct : (xs : List Bytes) (x : Bytes) → AreDistinct xs → (IsIn x xs → ⊥) → AreDistinct (xs ++ x ∷ [])
one_more_distinct [] x distinct new = (λ i. i, tt)
one_more_distinct (y ∷ xs) x distinct new = (
  λ i. elim (in_either y xs (x ∷ []) i) [
    | inl j ↦ distinct.0 j
    | inr j ↦ elim j [ inl e ↦ new (inl (sym e)) | inr none ↦ none ]
  ],
  one_more_distinct xs x distinct.1 (λ i. new (inr i)),
)

pub met_is : (met : List Bytes) (x : Bytes) → is_name_of met x ≡ true → IsIn x met
met_is met x h = let r = in_any (λ name. bytes_eq name x) met h in subst (λ y. IsIn y met) (same_bytes r.0 x r.2) r.1

pub not_met : (met : List Bytes) (x : Bytes) → is_name_of met x ≡ false → IsIn x met → ⊥
not_met met x h i = both_ways (is_name_of met x) h (any_in (λ name. bytes_eq name x) met x i (bytes_same x x refl))

-- What is fresh: the names are among those given, all given are met then, and no name is met twice.
pub fresh_in : (met xs : List Bytes) (y : Bytes) → IsIn y (fresh met xs) → IsIn y xs
fresh_in met [] y i = i
fresh_in met (x ∷ xs) y i =
    elim (cases_Bool (is_name_of met x)) [
      | inl known ↦ inr (fresh_in met xs y (subst (IsIn y) (cond-true (is_name_of met x) (fresh met xs) (x ∷ fresh (met ++ x ∷ []) xs) known) i))
      | inr new ↦
          elim (subst (IsIn y) (cond-false (is_name_of met x) (fresh met xs) (x ∷ fresh (met ++ x ∷ []) xs) new) i) [
            | inl e ↦ inl e
            | inr j ↦ inr (fresh_in (met ++ x ∷ []) xs y j)
          ]
    ]

more : (met : List Bytes) (x : Bytes) (rest : List Bytes) → (met ++ x ∷ []) ++ rest ≡ met ++ x ∷ rest
more met x rest = append_assoc met (x ∷ []) rest

pub covers : (met xs : List Bytes) (y : Bytes) → IsIn y xs → IsIn y (met ++ fresh met xs)
covers met [] y i = absurd i
covers met (x ∷ xs) y i =
    elim (cases_Bool (is_name_of met x)) [
      | inl known ↦
          subst (λ ns. IsIn y (met ++ ns)) (sym (cond-true (is_name_of met x) (fresh met xs) (x ∷ fresh (met ++ x ∷ []) xs) known))
          (elim i [ inl e ↦ in_front y met (fresh met xs) (subst (λ z. IsIn z met) e (met_is met x known)) | inr j ↦ covers met xs y j ])
      | inr new ↦
          subst (λ ns. IsIn y (met ++ ns)) (sym (cond-false (is_name_of met x) (fresh met xs) (x ∷ fresh (met ++ x ∷ []) xs) new))
          (subst (IsIn y) (more met x (fresh (met ++ x ∷ []) xs))
          (elim i [
            | inl e ↦ in_front y (met ++ x ∷ []) (fresh (met ++ x ∷ []) xs) (in_behind y met (x ∷ []) (inl e))
            | inr j ↦ covers (met ++ x ∷ []) xs y j
          ]))
    ]

pub still_distinct : (met xs : List Bytes) → AreDistinct met → AreDistinct (met ++ fresh met xs)
still_distinct met [] distinct = subst AreDistinct (sym (append-nil met)) distinct
still_distinct met (x ∷ xs) distinct =
    elim (cases_Bool (is_name_of met x)) [
      | inl known ↦
          subst (λ ns. AreDistinct (met ++ ns)) (sym (cond-true (is_name_of met x) (fresh met xs) (x ∷ fresh (met ++ x ∷ []) xs) known))
          (still_distinct met xs distinct)
      | inr new ↦
          subst (λ ns. AreDistinct (met ++ ns)) (sym (cond-false (is_name_of met x) (fresh met xs) (x ∷ fresh (met ++ x ∷ []) xs) new))
          (subst AreDistinct (more met x (fresh (met ++ x ∷ []) xs))
          (still_distinct (met ++ x ∷ []) xs (one_more_distinct met x distinct (not_met met x new))))
    ]

-- How far a walk has come: the names done, and those left behind them, all of them met once.
pub record Halfway (way : Way) (answer : Answers) (start : Bytes) (steps : ℕ) (done left found : List Bytes) : Type 0 where
  pub distinct : AreDistinct (done ++ left)
  pub came : (x : Bytes) → IsIn x (done ++ left) → Comes way answer start x
  pub begun : IsIn start (done ++ left)
  pub closed : (x y : Bytes) (xs : List Bytes) → IsIn x done → leads_to way answer x ≡ Some xs → IsIn y xs → IsIn y (done ++ left)
  pub found_is : (x : Bytes) → IsIn x found → IsIn x done × IsThere way answer x
  pub is_found : (x : Bytes) → IsIn x done → IsThere way answer x → IsIn x found
  pub ascending : AreAscending found
  pub room : steps + length done ≡ most_names

-- Where it ends: its value has the names to which it comes and that are there, and it asks of those to which it comes and of no others.
pub record Ended (way : Way) (answer : Answers) (start : Bytes) (done : List Bytes) (q : Asking (List Bytes)) : Type 0 where
  pub names : List Bytes
  pub comes : outcome q answer ≡ Gives names
  pub ascending : AreAscending names
  pub names_are : (x : Bytes) → IsIn x names → Comes way answer start x × IsThere way answer x
  pub are_names : (x : Bytes) → Comes way answer start x → IsThere way answer x → IsIn x names
  pub asks_of : (node : NodeId) → IsIn node (asked q answer) → (x : Bytes) × Comes way answer start x × (way.node x ≡ node)
  pub asks_all : (x : Bytes) → Comes way answer start x → IsIn x done ⊎ IsIn (way.node x) (asked q answer)

-- not more names than a program has are ever distinct among those to which the walk comes
abbrev pub AreFew : Way → Answers → Bytes → Type 0
AreFew way answer start = (xs : List Bytes) → AreDistinct xs → ((x : Bytes) → IsIn x xs → Comes way answer start x) → length xs ≤ most_names

-- all to which it comes is done where nothing is left
all_done : (way : Way) (answer : Answers) (start : Bytes) (steps : ℕ) (done found : List Bytes) → Halfway way answer start steps done [] found →
    (x : Bytes) → Comes way answer start x → IsIn x done
all_done way answer start steps done found half x here = subst (IsIn start) (append-nil done) half.begun
all_done way answer start steps done found half z (on {x = y} xs came leads i) =
    subst (IsIn z) (append-nil done) (half.closed y z xs (all_done way answer start steps done found half y came) leads i)

-- nothing is left
ends : (way : Way) (answer : Answers) (start : Bytes) (steps : ℕ) (done found : List Bytes) → Halfway way answer start steps done [] found →
    Ended way answer start done (gives found)
ends way answer start steps done found half = record {
  names = found;
  comes = refl;
  ascending = half.ascending;
  names_are = λ x i. let r = half.found_is x i in (half.came x (in_front x done [] r.0), r.1);
  are_names = λ x came there. half.is_found x (all_done way answer start steps done found half x came) there;
  asks_of = λ node i. absurd i;
  asks_all = λ x came. inl (all_done way answer start steps done found half x came);
}

-- the first of those left is done
pub shifted : (done : List Bytes) (x : Bytes) (left : List Bytes) → (done ++ x ∷ []) ++ left ≡ done ++ x ∷ left
shifted done x left = append_assoc done (x ∷ []) left

pub longer : (done : List Bytes) (x : Bytes) → length (done ++ x ∷ []) ≡ suc (length done)
longer done x = length-append done (x ∷ []) ∙ (let e : length done + 1 ≡ suc (length done) = omega arith in e)

-- what was done, or is the name done now
pub done_or : (done : List Bytes) (x y : Bytes) → IsIn y (done ++ x ∷ []) → IsIn y done ⊎ (x ≡ y)
done_or done x y i = elim (in_either y done (x ∷ []) i) [ inl j ↦ inl j | inr j ↦ elim j [ inl e ↦ inr e | inr none ↦ absurd none ] ]

-- the first of those left is not done
pub not_done : (done : List Bytes) (x : Bytes) (left : List Bytes) → AreDistinct (done ++ x ∷ left) → IsIn x done → ⊥
not_done [] x left distinct i = i
not_done (y ∷ done) x left distinct (inl e) = distinct.0 (in_behind y done (x ∷ left) (inl (sym e)))
not_done (y ∷ done) x left distinct (inr i) = not_done done x left distinct.1 i

-- a step to nothing
past_nothing : (way : Way) (answer : Answers) (start : Bytes) (steps : ℕ) (done : List Bytes) (x : Bytes) (left found : List Bytes) →
    Halfway way answer start (suc steps) done (x ∷ left) found → leads_to way answer x ≡ None → Halfway way answer start steps (done ++ x ∷ []) left found
past_nothing way answer start steps done x left found half none = record {
  distinct = subst AreDistinct (sym (shifted done x left)) half.distinct;
  came = λ y i. half.came y (subst (IsIn y) (shifted done x left) i);
  begun = subst (IsIn start) (sym (shifted done x left)) half.begun;
  closed = λ y z xs i leads j.
      elim (done_or done x y i) [
        | inl k ↦ subst (IsIn z) (sym (shifted done x left)) (half.closed y z xs k leads j)
        | inr e ↦ let wrong : None ≡ Some xs = sym none ∙ ap (leads_to way answer) e ∙ leads in absurd (cc)
      ];
  found_is = λ y i. let r = half.found_is y i in (in_front y done (x ∷ []) r.0, r.1);
  is_found = λ y i there.
      elim (done_or done x y i) [
        | inl k ↦ half.is_found y k there
        | inr e ↦ let wrong : None ≡ Some there.0 = sym none ∙ ap (leads_to way answer) e ∙ there.1 in absurd (cc)
      ];
  ascending = half.ascending;
  room = omega (arith, half.room, longer done x);
}

-- a step to names
past_names : (way : Way) (answer : Answers) (start : Bytes) (steps : ℕ) (done : List Bytes) (x : Bytes) (left found xs : List Bytes) →
    Halfway way answer start (suc steps) done (x ∷ left) found → leads_to way answer x ≡ Some xs →
    Halfway way answer start steps (done ++ x ∷ []) (left ++ fresh (done ++ x ∷ left) xs) (with_name x found)
past_names way answer start steps done x left found xs half some =
    let met : List Bytes = done ++ x ∷ left in
    let new : List Bytes = fresh met xs in
    let all : (done ++ x ∷ []) ++ (left ++ new) ≡ met ++ new =
    sym (append_assoc (done ++ x ∷ []) left new) ∙ ap (λ ns. ns ++ new) (shifted done x left) in
    let own : IsIn x met = in_behind x done (x ∷ left) (inl refl) in
    record {
      distinct = subst AreDistinct (sym all) (still_distinct met xs half.distinct);
      came = λ y i.
          elim (in_either y met new (subst (IsIn y) all i)) [
            | inl j ↦ half.came y j
            | inr j ↦ on xs (half.came x own) some (fresh_in met xs y j)
          ];
      begun = subst (IsIn start) (sym all) (in_front start met new half.begun);
      closed = λ y z zs i leads j.
          subst (IsIn z) (sym all)
          (elim (done_or done x y i) [
            | inl k ↦ in_front z met new (half.closed y z zs k leads j)
            | inr e ↦
                let same : Some xs ≡ Some zs = sym some ∙ ap (leads_to way answer) e ∙ leads in
                let one : xs ≡ zs = cc in
                covers met xs z (subst (IsIn z) (sym one) j)
          ]);
      found_is = λ y i.
          elim (in_with x found y i) [
            | inl e ↦ (in_behind y done (x ∷ []) (inl e), (xs, ap (leads_to way answer) (sym e) ∙ some))
            | inr j ↦ let r = half.found_is y j in (in_front y done (x ∷ []) r.0, r.1)
          ];
      is_found = λ y i there.
          with_in x found y (elim (done_or done x y i) [ inl k ↦ inr (half.is_found y k there) | inr e ↦ inl e ]);
      ascending = with_ascending x found half.ascending (λ i. not_done done x left half.distinct (half.found_is x i).0);
      room = omega (arith, half.room, longer done x);
    }

-- what a step asks besides, and what is done before it
one_asked : (way : Way) (answer : Answers) (start : Bytes) (done : List Bytes) (x : Bytes) (next : Answer → Asking (List Bytes)) (to : Asking (List Bytes)) →
    Comes way answer start x → next (answer (way.node x)) ≡ to → Ended way answer start (done ++ x ∷ []) to →
    Ended way answer start done (asks (way.node x) next)
one_asked way answer start done x next to came is end = record {
  names = end.names;
  comes = ap (λ q. outcome q answer) is ∙ end.comes;
  ascending = end.ascending;
  names_are = end.names_are;
  are_names = end.are_names;
  asks_of = λ node i.
      elim i [
        | inl e ↦ (x, came, e)
        | inr j ↦ end.asks_of node (subst (λ q. IsIn node (asked q answer)) is j)
      ];
  asks_all = λ y comes.
      elim (end.asks_all y comes) [
        | inl i ↦ elim (done_or done x y i) [ inl k ↦ inl k | inr e ↦ inr (inl (ap way.node e)) ]
        | inr i ↦ inr (inr (subst (λ q. IsIn (way.node y) (asked q answer)) (sym is) i))
      ];
}

pub not_more : (n : ℕ) → n ≤ most_names → nat_lt most_names n ≡ false
not_more n few = no_more_than_most n (omega (arith, few, most_is))

led : (way : Way) (answer : Answers) (start : Bytes) → AreFew way answer start → (steps : ℕ) (done : List Bytes) (x : Bytes) (left found : List Bytes) →
    Halfway way answer start (suc steps) done (x ∷ left) found → (onward : Option (List Bytes)) → leads_to way answer x ≡ onward →
    ((done left found : List Bytes) → Halfway way answer start steps done left found → Ended way answer start done (walk way steps (done ++ left) left found)) →
    Ended way answer start done (walk way (suc steps) (done ++ x ∷ left) (x ∷ left) found)
led way answer start few steps done x left found half None is rest =
    let next : Answer → Asking (List Bytes) = λ own. led_on way steps (done ++ x ∷ left) x left found (way.onward own) in
    let to : next (answer (way.node x)) ≡ walk way steps ((done ++ x ∷ []) ++ left) left found =
    ap (led_on way steps (done ++ x ∷ left) x left found) is ∙ ap (λ met. walk way steps met left found) (sym (shifted done x left)) in
    one_asked way answer start done x next (walk way steps ((done ++ x ∷ []) ++ left) left found) (half.came x (in_behind x done (x ∷ left) (inl refl))) to
    (rest (done ++ x ∷ []) left found (past_nothing way answer start steps done x left found half is))
led way answer start few steps done x left found half (Some xs) is rest =
    let met : List Bytes = done ++ x ∷ left in
    let new : List Bytes = fresh met xs in
    let half' = past_names way answer start steps done x left found xs half is in
    let all : (done ++ x ∷ []) ++ (left ++ new) ≡ met ++ new =
    sym (append_assoc (done ++ x ∷ []) left new) ∙ ap (λ ns. ns ++ new) (shifted done x left) in
    let size : length (met ++ new) ≤ most_names = subst (λ ns. length ns ≤ most_names) all
    (few ((done ++ x ∷ []) ++ (left ++ new)) half'.distinct half'.came) in
    let next : Answer → Asking (List Bytes) = λ own. led_on way steps met x left found (way.onward own) in
    let to : next (answer (way.node x)) ≡ walk way steps ((done ++ x ∷ []) ++ (left ++ new)) (left ++ new) (with_name x found) =
    ap (led_on way steps met x left found) is
    ∙ cond-false (nat_lt most_names (length (met ++ new))) (mixes (way.node x)) (walk way steps (met ++ new) (left ++ new) (with_name x found))
    (not_more (length (met ++ new)) size)
    ∙ ap (λ ms. walk way steps ms (left ++ new) (with_name x found)) (sym all) in
    one_asked way answer start done x next (walk way steps ((done ++ x ∷ []) ++ (left ++ new)) (left ++ new) (with_name x found))
    (half.came x (in_behind x done (x ∷ left) (inl refl))) to (rest (done ++ x ∷ []) (left ++ new) (with_name x found) half')

-- A walk over given answers comes to the names to which it can come, and asks of them and of no others.
pub walked : (way : Way) (answer : Answers) (start : Bytes) → AreFew way answer start → (steps : ℕ) (done left found : List Bytes) →
    Halfway way answer start steps done left found → Ended way answer start done (walk way steps (done ++ left) left found)
walked way answer start few steps done [] found half = ends way answer start steps done found half
walked way answer start few zero done (x ∷ left) found half =
    let most : length (done ++ x ∷ left) ≤ most_names = few (done ++ x ∷ left) half.distinct half.came in
    absurd (omega (arith, half.room, most, length-append done (x ∷ left)))
walked way answer start few (suc steps) done (x ∷ left) found half =
    led way answer start few steps done x left found half (leads_to way answer x) refl (walked way answer start few steps)

pub walked_from : (way : Way) (answer : Answers) (start : Bytes) → AreFew way answer start → Ended way answer start [] (walk_from way start)
walked_from way answer start few =
    walked way answer start few most_names [] (start ∷ []) [] (record {
      distinct = (λ i. i, tt);
      came = λ x i. elim i [ inl e ↦ subst (Comes way answer start) e here | inr none ↦ absurd none ];
      begun = inl refl;
      closed = λ x y xs i leads j. absurd i;
      found_is = λ x i. absurd i;
      is_found = λ x i there. absurd i;
      ascending = tt;
      room = omega arith;
    })
