-- What is asked for clones comes to the clones over what all answers tell.
use Rattle.std.proofs.Common.{List, Bool, true, false, not, [], ap, refl, suc, length, ◌∷◌, ◌≡◌, ◌∙◌, ◌&&◌, ◌||◌, Option, Some, None, ℕ}
use Rattle.std.specs.Prelude.{nat_le, if◌then◌else◌}
use Rattle.std.specs.List.{list_all, list_any}
use Rattle.std.specs.Str.{bytes_eq}
use Rattle.vx_names.specs.declared.key.Selector.{Selector}
use Rattle.vx_names.specs.declared.key.MethodKey.{MethodKey}
use Rattle.vx_syntax.specs.Expressions.{Bytes}
use Rattle.vx_syntax.specs.Declarations.{any}
use Rattle.vx_node.specs.declared.node.Info.{Info}
use Rattle.vx_node.specs.declared.node.Info.TheVariants as i
use Rattle.vx_node.specs.declared.answer.Bound.{Bound}
use Rattle.vx_node.specs.Traces.{Answers}
use Rattle.vx_node.specs.Asking.{Asking, gives, followed, outcome, Gives}
use Rattle.vx_node.proofs.SameAnswers.{followed_outcome}
use Rattle.vx_model.specs.Kinds.{Source}
use Rattle.vx_compilation.specs.Readings.{told}
use Rattle.vx_compilation.specs.Binding.{Order}
use Rattle.vx_compilation.specs.Cloning.{Sending, sends_of, is_name, is_open, is_one, infos_for, is_split, splits, first_split, clones}
use Rattle.vx_answers.specs.SendRows.{all_one, decided, is_base, positions, clones_by, clones_row}
use Rattle.vx_answers.proofs.BindIs.{order_told}

module _ (answer : Answers) where
  abbrev order : Order
  order = order_told answer

  abbrev bind : Selector → List Info → Option MethodKey → Bound
  bind = (told answer).bind

  -- ---- choices, each of which comes to a value

  if_and : (b v : Bool) (q : Asking Bool) → outcome q answer ≡ Gives v → outcome (if b then q else gives false) answer ≡ Gives (b && v)
  if_and true v q comes = comes
  if_and false v q comes = refl

  if_found : (b found other : Bool) (q rest : Asking Bool) → outcome q answer ≡ Gives (found || other) → outcome rest answer ≡ Gives other →
      outcome (if b then q else rest) answer ≡ Gives (b && found || other)
  if_found true found other q rest comes goes = comes
  if_found false found other q rest comes goes = goes

  true_or : (b other : Bool) (rest : Asking Bool) → outcome rest answer ≡ Gives other → outcome (if b then gives true else rest) answer ≡ Gives (b || other)
  true_or true other rest goes = refl
  true_or false other rest goes = goes

  abbrev Split : Type 0
  Split = Option (ℕ × List Bytes)

  if_not : (b found : Bool) (value other : Split) (q rest : Asking Split) → outcome q answer ≡ Gives (if found then value else other) →
      outcome rest answer ≡ Gives other → outcome (if b then rest else q) answer ≡ Gives (if not b && found then value else other)
  if_not true found value other q rest comes goes = goes
  if_not false found value other q rest comes goes = comes

  if_so : (b found : Bool) (value other : Split) (q rest : Asking Split) → outcome q answer ≡ Gives (if found then value else other) →
      outcome rest answer ≡ Gives other → outcome (if b then q else rest) answer ≡ Gives (if b && found then value else other)
  if_so true found value other q rest comes goes = comes
  if_so false found value other q rest comes goes = goes

  if_both : (b c found : Bool) (value other : Split) (q rest : Asking Split) → outcome q answer ≡ Gives (if found then value else other) →
      outcome rest answer ≡ Gives other → outcome (if b && c then q else rest) answer ≡ Gives (if b && c && found then value else other)
  if_both true c found value other q rest comes goes = if_so c found value other q rest comes goes
  if_both false c found value other q rest comes goes = goes

  either : (found : Bool) (value other : Split) (rest : Asking Split) → outcome rest answer ≡ Gives other →
      outcome (if found then gives value else rest) answer ≡ Gives (if found then value else other)
  either true value other rest goes = refl
  either false value other rest goes = goes

  both_and : (b c d : Bool) → (b && (c && d)) ≡ (b && c && d)
  both_and true c d = refl
  both_and false c d = refl

  arranged : (b c d e found : Bool) → (b && (c && (d && e && found))) ≡ (b && c && d && e && found)
  arranged false c d e found = refl
  arranged true false d e found = refl
  arranged true true false e found = refl
  arranged true true true e found = refl

  -- ---- sends

  all_is : (name : Bytes) (sending : Sending) (classes : List Bytes) →
      outcome (all_one name sending classes) answer ≡ Gives (list_all (λ class. is_one
      (bind sending.0 (infos_for name (i.Exact class) sending.1) None)) classes)
  all_is name sending [] = refl
  all_is name sending (class ∷ classes) =
      if_and (is_one (bind sending.0 (infos_for name (i.Exact class) sending.1) None))
      (list_all (λ class. is_one (bind sending.0 (infos_for name (i.Exact class) sending.1) None)) classes) (all_one name sending classes)
      (all_is name sending classes)

  decided_is : (name x : Bytes) (classes : List Bytes) (sendings : List Sending) →
      outcome (decided (Some name) x classes sendings) answer ≡ Gives (list_any (is_split order bind name x classes) sendings)
  decided_is name x classes [] = refl
  decided_is name x classes (sending ∷ sendings) =
      let all : Bool = list_all (λ class. is_one (bind sending.0 (infos_for name (i.Exact class) sending.1) None)) classes in
      let other : Bool = list_any (is_split order bind name x classes) sendings in
      let rest : Asking Bool = decided (Some name) x classes sendings in
      let goes : outcome rest answer ≡ Gives other = decided_is name x classes sendings in
      if_found (list_any (is_name name) sending.1) (is_open (bind sending.0 (infos_for name (i.Cone x) sending.1) None) && all) other _ rest
      (if_found (is_open (bind sending.0 (infos_for name (i.Cone x) sending.1) None)) all other
      (followed (all_one name sending classes) (λ yes. if yes then gives true else rest)) rest
      (followed_outcome (all_one name sending classes) (λ yes. if yes then gives true else rest) answer all (all_is name sending classes)
      ∙ true_or all other rest goes)
      goes)
      goes
      ∙ ap (λ t. Gives (t || other)) (both_and (list_any (is_name name) sending.1) (is_open (bind sending.0 (infos_for name (i.Cone x) sending.1) None)) all)

  -- ---- positions

  abbrev among : Option Bytes → Bytes → List Bytes → List Sending → Bool
  among None x classes sendings = false
  among (Some name) x classes sendings = list_any (is_split order bind name x classes) sendings

  among_is : (formal : Option Bytes) (x : Bytes) (classes : List Bytes) (sendings : List Sending) →
      outcome (decided formal x classes sendings) answer ≡ Gives (among formal x classes sendings)
  among_is None x classes sendings = refl
  among_is (Some name) x classes sendings = decided_is name x classes sendings

  plain_is : (x : Bytes) (o : Option Bytes) → is_base x o ≡ elim o [ Some y ↦ bytes_eq y x | None ↦ false ]
  plain_is x None = refl
  plain_is x (Some y) = refl

  never : (b c d e : Bool) → (b && c && d && e && false) ≡ false
  never false c d e = refl
  never true false d e = refl
  never true true false e = refl
  never true true true false = refl
  never true true true true = refl

  splits_are : (formal : Option Bytes) (x : Bytes) (sendings : List Sending) →
      (not (bytes_eq x any) && is_base x (order.base x) && nat_le 2 (length (order.cone x)) && nat_le (length (order.cone x)) 4 &&
      among formal x (order.cone x) sendings) ≡ splits order bind formal x sendings
  splits_are None x sendings =
      never (not (bytes_eq x any)) (is_base x (order.base x)) (nat_le 2 (length (order.cone x))) (nat_le (length (order.cone x)) 4)
  splits_are (Some name) x sendings =
      ap (λ t. not (bytes_eq x any) && t && nat_le 2 (length (order.cone x)) && nat_le (length (order.cone x)) 4 &&
      list_any (is_split order bind name x (order.cone x)) sendings) (plain_is x (order.base x))

  positions_are : (place : ℕ) (formals : List (Option Bytes)) (xs : List Bytes) (sendings : List Sending) →
      outcome (positions place formals xs sendings) answer ≡ Gives (first_split order bind place formals xs sendings)
  positions_are place [] xs sendings = refl
  positions_are place (formal ∷ formals) [] sendings = refl
  positions_are place (formal ∷ formals) (x ∷ xs) sendings =
      let rest : Asking Split = positions (suc place) formals xs sendings in
      let value : Split = Some (place, order.cone x) in
      let other : Split = first_split order bind (suc place) formals xs sendings in
      let goes : outcome rest answer ≡ Gives other = positions_are (suc place) formals xs sendings in
      let found : Bool = among formal x (order.cone x) sendings in
      let few : Bool = nat_le 2 (length (order.cone x)) && nat_le (length (order.cone x)) 4 && found in
      if_not (bytes_eq x any) (is_base x (order.base x) && few) value other _ rest
      (if_so (is_base x (order.base x)) few value other _ rest
      (if_both (nat_le 2 (length (order.cone x))) (nat_le (length (order.cone x)) 4) found value other
      (followed (decided formal x (order.cone x) sendings) (λ yes. if yes then gives value else rest)) rest
      (followed_outcome (decided formal x (order.cone x) sendings) (λ yes. if yes then gives value else rest) answer found
      (among_is formal x (order.cone x) sendings)
      ∙ either found value other rest goes)
      goes)
      goes)
      goes
      ∙ ap (λ t. Gives (if t then value else other))
      (arranged (not (bytes_eq x any)) (is_base x (order.base x)) (nat_le 2 (length (order.cone x))) (nat_le (length (order.cone x)) 4) found
      ∙ splits_are formal x sendings)

  by_source : (key : MethodKey) (o : Option Source) → outcome (clones_by key o) answer ≡ Gives (clones order bind key o)
  by_source key None = refl
  by_source key (Some own) = positions_are 0 own.formals key.specialisers (sends_of own.body.0)

  pub clones_are : (key : MethodKey) → outcome (clones_row key) answer ≡ Gives (clones order bind key ((told answer).body key))
  clones_are key = by_source key ((told answer).body key)
