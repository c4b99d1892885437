-- What is asked for the field of a name comes to it.
use Rattle.std.proofs.Common.{List, Bool, true, [], ap, refl, sym, subst, inl, inr, map, filter, append-nil, ◌∷◌, ◌++◌, ◌≡◌, ◌∙◌, ◌⊎◌, Some}
use Rattle.std.specs.Prelude.{if◌then◌else◌}
use Rattle.std.specs.List.{find, list_all}
use Rattle.std.specs.Str.{bytes_eq}
use Rattle.std.specs.Cmp.Derive.{one_truth}
use Rattle.std.proofs.lemmas.Bool.{cases_Bool, cond-true, cond-false}
use Rattle.vx_lists.specs.Members.{IsIn}
use Rattle.vx_lists.proofs.Members.{any_in, in_front, in_behind, in_either}
use Rattle.vx_lists.proofs.Finding.{left_is, is_left}
use Rattle.vx_lists.proofs.Texts.{same_bytes, bytes_same}
use Rattle.vx_names.specs.declared.key.FieldKey.{FieldKey}
use Rattle.vx_syntax.specs.declared.decl.Decl.{Decl}
use Rattle.vx_syntax.specs.declared.decl.Decl.TheVariants as d
use Rattle.vx_syntax.specs.Declarations.{field_key}
use Rattle.vx_syntax.specs.Expressions.{Bytes}
use Rattle.vx_program.specs.Program.{IsProgram, is_there, is_named, is_name_of, leads, Leads, here, up as upward}
use Rattle.vx_node.specs.declared.node.NodeId.{NodeId}
use Rattle.vx_node.specs.declared.node.NodeId.TheVariants as node
use Rattle.vx_node.specs.declared.node.Fact.TheVariants as fact
use Rattle.vx_node.specs.declared.answer.Answer.TheVariants as answers
use Rattle.vx_node.specs.Traces.{Answers}
use Rattle.vx_node.specs.Asking.{Asking, gives, asks, followed, outcome, asked, each, Gives}
use Rattle.vx_node.proofs.SameAnswers.{followed_outcome, followed_asked}
use Rattle.vx_model.specs.Order.{up}
use Rattle.vx_model.specs.Fields.{fields, fields_above, keys_named, keys_above, is_lowest, field_at}
use Rattle.vx_model.proofs.Orders.{chains, on}
use Rattle.vx_model.proofs.Cones.{up_is, is_up}
use Rattle.vx_model.proofs.Within.{key_of_field}
use Rattle.vx_answers.specs.Facts.{fields_of}
use Rattle.vx_answers.specs.OrderRows.{up_row}
use Rattle.vx_answers.specs.FieldRows.{Slot, slots_on, slots_in, joined, in_key_order, fields_row, field_row, lowest}
use Rattle.vx_answers.proofs.Ascending.{ascending_apart}
use Rattle.vx_answers.proofs.Pigeons.{AreApart}
use Rattle.vx_answers.proofs.Walked.{met_is}
use Rattle.vx_answers.proofs.UpRow.{GivesDecls}
use Rattle.vx_answers.proofs.UpIs.{up_value, up_reads, up_reads_all, up_ascending}
use Rattle.vx_answers.proofs.EachLaw.{each_outcome, each_asked, about_all, about_one, one_about}
use Rattle.vx_answers.proofs.SlotsOrder.{KeysApart, in_sorted, sorted_in, are_sorted, sorted_apart, filter_sorted, joined_apart, same_slots}
use Rattle.vx_answers.proofs.SlotsOrder.{fields_sorted, field_decl}
use Rattle.vx_answers.proofs.BindSame.{all_same}

-- these answers say which fields names have as the program does
abbrev pub GivesFields : List Decl → Answers → Type 0
GivesFields program answer = (x : Bytes) → answer (node.Fact (fact.Fields x)) ≡ answers.Fields (fields_of program x)

-- whether a slot is that of a field on the name
abbrev pub is_on : Bytes → Slot → Bool
is_on x slot = bytes_eq slot.0.specialiser x

-- the slots that the fields on a name make
own_slots : (decls : List Decl) (x : Bytes) → slots_on x (fields_of decls x) ≡ filter (is_on x) (fields decls)
own_slots [] x = refl
own_slots (d.Object own parents ∷ decls) x = own_slots decls x
own_slots (d.Predicate own parents test ∷ decls) x = own_slots decls x
own_slots (d.Field key start changeable ∷ decls) x =
    elim (cases_Bool (bytes_eq key.specialiser x)) [
      | inl t ↦
          ap (slots_on x) (cond-true (bytes_eq key.specialiser x) ((key.name, start, changeable) ∷ fields_of decls x) (fields_of decls x) t)
          ∙ ap {B = List Slot} (λ z. (field_key key.name z, start) ∷ slots_on x (fields_of decls x)) (sym (same_bytes key.specialiser x t))
          ∙ ap {B = List Slot} (λ rest. (key, start) ∷ rest) (own_slots decls x)
          ∙ sym (cond-true (bytes_eq key.specialiser x) ((key, start) ∷ filter (is_on x) (fields decls)) (filter (is_on x) (fields decls)) t)
      | inr f ↦
          ap (slots_on x) (cond-false (bytes_eq key.specialiser x) ((key.name, start, changeable) ∷ fields_of decls x) (fields_of decls x) f)
          ∙ own_slots decls x
          ∙ sym (cond-false (bytes_eq key.specialiser x) ((key, start) ∷ filter (is_on x) (fields decls)) (filter (is_on x) (fields decls)) f)
    ]
own_slots (d.Method key formals body ∷ decls) x = own_slots decls x

-- what is answered of the fields on a name
pub slots_given : (program : List Decl) (answer : Answers) → GivesFields program answer → (x : Bytes) →
    slots_in x (answer (node.Fact (fact.Fields x))) ≡ filter (is_on x) (fields program)
slots_given program answer given x = ap (slots_in x) (given x) ∙ own_slots program x

-- ---- lists of slots, one for each name

pub joined_in : (slots : Bytes → List Slot) (names : List Bytes) (one : Slot) → IsIn one (joined (map slots names)) →
    (x : Bytes) × IsIn x names × IsIn one (slots x)
joined_in slots [] one i = absurd i
joined_in slots (x ∷ names) one i =
    elim (in_either one (slots x) (joined (map slots names)) i) [
      | inl j ↦ (x, inl refl, j)
      | inr j ↦ let r = joined_in slots names one j in (r.0, inr r.1, r.2)
    ]

pub in_joined : (slots : Bytes → List Slot) (names : List Bytes) (x : Bytes) (one : Slot) → IsIn x names → IsIn one (slots x) →
    IsIn one (joined (map slots names))
in_joined slots [] x one i j = absurd i
in_joined slots (y ∷ names) x one (inl e) j = in_front one (slots y) (joined (map slots names)) (subst (λ z. IsIn one (slots z)) (sym e) j)
in_joined slots (y ∷ names) x one (inr i) j = in_behind one (slots y) (joined (map slots names)) (in_joined slots names x one i j)

pub joined_keys : (slots : Bytes → List Slot) (names : List Bytes) → AreApart names → ((x : Bytes) → KeysApart (slots x)) →
    ((x : Bytes) (one : Slot) → IsIn one (slots x) → one.0.specialiser ≡ x) → KeysApart (joined (map slots names))
joined_keys slots [] apart keys own = tt
joined_keys slots (x ∷ names) apart keys own =
    joined_apart (slots x) (joined (map slots names)) (keys x) (joined_keys slots names apart.1 keys own) (λ one other i j same.
    let r = joined_in slots names other j in
    let e : x ≡ r.0 = sym (own x one i) ∙ ap (λ (z : FieldKey). z.specialiser) same ∙ own r.0 other r.2 in
    apart.0 (subst (λ z. IsIn z names) (sym e) r.1))

-- ---- the fields above a class

-- what a chain leads from is there, where it leads to what is there
pub began : (program : List Decl) (x y : Bytes) → Leads program x y → is_there program y ≡ true → is_there program x ≡ true
began program x y here t = t
began program x y (upward decl parent i n p l) t = any_in (is_named x) program decl i n

pub field_there : (program : List Decl) → IsProgram program → (one : Slot) → IsIn one (fields program) → is_there program one.0.specialiser ≡ true
field_there program is one i =
    let r = field_decl program one i in is.known (d.Field one.0 one.1 r.0) one.0.specialiser r.1 (inl refl)

module _ (program : List Decl) (is : IsProgram program) (answer : Answers) (decls_given : GivesDecls program answer) (given : GivesFields program answer) where
  abbrev pub slots_at : Bytes → List Slot
  slots_at x = slots_in x (answer (node.Fact (fact.Fields x)))

  abbrev fields_question : Bytes → Asking (List Slot)
  fields_question y = asks (node.Fact (fact.Fields y)) (λ own. gives (slots_in y own))

  pub on_it : (x : Bytes) (one : Slot) → IsIn one (slots_at x) → IsIn one (fields program) × (one.0.specialiser ≡ x)
  on_it x one i =
      let r = left_is (is_on x) (fields program) one (subst (IsIn one) (slots_given program answer given x) i) in
      (r.0, same_bytes one.0.specialiser x r.1)

  pub it_on : (one : Slot) → IsIn one (fields program) → IsIn one (slots_at one.0.specialiser)
  it_on one i =
      subst (IsIn one) (sym (slots_given program answer given one.0.specialiser))
      (is_left (is_on one.0.specialiser) (fields program) one i (bytes_same one.0.specialiser one.0.specialiser refl))

  pub at_apart : (x : Bytes) → KeysApart (slots_at x)
  at_apart x =
      subst KeysApart (sym (slots_given program answer given x))
      (sorted_apart (filter (is_on x) (fields program)) (filter_sorted (is_on x) (fields program) (fields_sorted program is.ordered)))

  above_are : (x : Bytes) → in_key_order (joined (map slots_at (up program x))) ≡ fields_above program x program
  above_are x =
      same_slots (in_key_order (joined (map slots_at (up program x)))) (fields_above program x program)
      (are_sorted (joined (map slots_at (up program x))) (joined_keys slots_at (up program x)
      (ascending_apart (up program x) (up_ascending program is x)) at_apart
      (λ y one i. (on_it y one i).1)))
      (filter_sorted (λ field. leads program x field.0.specialiser) (fields program) (fields_sorted program is.ordered))
      (λ one i.
      let r = joined_in slots_at (up program x) one (in_sorted (joined (map slots_at (up program x))) one i) in
      let own = on_it r.0 one r.2 in
      let above = up_is program chains x r.0 r.1 in
      is_left (λ field. leads program x field.0.specialiser) (fields program) one own.0
      (chains.finds program x one.0.specialiser (subst (Leads program x) (sym own.1) above.2)))
      (λ one i.
      let r = left_is (λ field. leads program x field.0.specialiser) (fields program) one i in
      let chain = chains.are program x one.0.specialiser r.1 in
      let there = field_there program is one r.0 in
      sorted_in (joined (map slots_at (up program x))) one (in_joined slots_at (up program x) one.0.specialiser one
      (is_up program chains x one.0.specialiser (began program x one.0.specialiser chain there) there chain) (it_on one r.0)))

  fields_value : (x : Bytes) → outcome (fields_row x) answer ≡ Gives (fields_above program x program)
  fields_value x =
      followed_outcome (up_row x) (λ names. each fields_question names (λ slots. gives (in_key_order (joined slots)))) answer (up program x)
      (up_value program is answer decls_given x)
      ∙ each_outcome fields_question answer slots_at (λ y. refl) (up program x) (λ slots. gives (in_key_order (joined slots)))
      ∙ ap Gives (above_are x)

  fields_asked : (x : Bytes) → asked (fields_row x) answer ≡ asked (up_row x) answer ++ (about_all (λ y. node.Fact (fact.Fields y) ∷ []) (up program x) ++ [])
  fields_asked x =
      followed_asked (up_row x) (λ names. each fields_question names (λ slots. gives (in_key_order (joined slots)))) answer (up program x)
      (up_value program is answer decls_given x)
      ∙ ap (λ rest. asked (up_row x) answer ++ rest)
      (each_asked fields_question answer slots_at (λ y. refl) (up program x) (λ slots. gives (in_key_order (joined slots))))

  -- ---- the lowest of them

  named_above : (x y : Bytes) → is_there program x ≡ true → is_there program y ≡ true → is_name_of (up program x) y ≡ leads program x y
  named_above x y t there =
      one_truth (is_name_of (up program x) y) (leads program x y)
      (λ h. chains.finds program x y (up_is program chains x y (met_is (up program x) y h)).2)
      (λ l. any_in (λ name. bytes_eq name y) (up program x) y (is_up program chains x y t there (chains.are program x y l)) (bytes_same y y refl))

  abbrev AllThere : List FieldKey → Type 0
  AllThere keys = (key : FieldKey) → IsIn key keys → is_there program key.specialiser ≡ true

  abbrev with_up : FieldKey → FieldKey × List Bytes
  with_up key = (key, up program key.specialiser)

  lowest_is : (keys : List FieldKey) → AllThere keys → (own : List FieldKey) → AllThere own →
      lowest keys (map with_up own) ≡ find (is_lowest program keys) own
  lowest_is keys there [] own = refl
  lowest_is keys there (key ∷ rest) own =
      let same : list_all (λ other. is_name_of (up program key.specialiser) other.specialiser) keys ≡ is_lowest program keys key =
      all_same (λ other. is_name_of (up program key.specialiser) other.specialiser) (λ other. leads program key.specialiser other.specialiser) keys
      (λ other i. named_above key.specialiser other.specialiser (own key (inl refl)) (there other i)) in
      ap (λ t. if t then Some key else lowest keys (map with_up rest)) same
      ∙ ap (λ o. if is_lowest program keys key then Some key else o) (lowest_is keys there rest (λ other i. own other (inr i)))

  abbrev keys_at : Bytes → Bytes → List FieldKey
  keys_at class name = keys_above program class name program

  key_above : (class name : Bytes) (key : FieldKey) → IsIn key (keys_at class name) →
      (is_there program key.specialiser ≡ true) × Leads program class key.specialiser
  key_above class name key i =
      let r = key_of_field name (fields_above program class program) key i in
      let s = left_is (λ field. leads program class field.0.specialiser) (fields program) r.0 r.1 in (
        subst (λ (z : FieldKey). is_there program z.specialiser ≡ true) r.2 (field_there program is r.0 s.0),
        subst (λ (z : FieldKey). Leads program class z.specialiser) r.2 (chains.are program class r.0.0.specialiser s.1),
      )

  abbrev up_question : FieldKey → Asking (FieldKey × List Bytes)
  up_question key = followed (up_row key.specialiser) (λ above. gives (key, above))

  up_comes : (key : FieldKey) → outcome (up_question key) answer ≡ Gives (with_up key)
  up_comes key =
      followed_outcome (up_row key.specialiser) (λ above. gives (key, above)) answer (up program key.specialiser)
      (up_value program is answer decls_given key.specialiser)

  pub field_value : (class name : Bytes) → outcome (field_row class name) answer ≡ Gives (field_at program class name)
  field_value class name =
      let there : AllThere (keys_at class name) = λ key i. (key_above class name key i).0 in
      followed_outcome (fields_row class)
      (λ slots. each up_question (keys_named name slots) (λ ups. gives (lowest (keys_named name slots) ups))) answer (fields_above program class program)
      (fields_value class)
      ∙ each_outcome up_question answer with_up up_comes (keys_at class name) (λ ups. gives (lowest (keys_at class name) ups))
      ∙ ap Gives (lowest_is (keys_at class name) there (keys_at class name) there)

  field_asked : (class name : Bytes) → asked (field_row class name) answer
      ≡ asked (fields_row class) answer ++ (about_all (λ key. asked (up_question key) answer) (keys_at class name) ++ [])
  field_asked class name =
      followed_asked (fields_row class)
      (λ slots. each up_question (keys_named name slots) (λ ups. gives (lowest (keys_named name slots) ups))) answer (fields_above program class program)
      (fields_value class)
      ∙ ap (λ rest. asked (fields_row class) answer ++ rest)
      (each_asked up_question answer with_up up_comes (keys_at class name) (λ ups. gives (lowest (keys_at class name) ups)))

  up_asked : (key : FieldKey) → asked (up_question key) answer ≡ asked (up_row key.specialiser) answer
  up_asked key =
      followed_asked (up_row key.specialiser) (λ above. gives (key, above)) answer (up program key.specialiser)
      (up_value program is answer decls_given key.specialiser)
      ∙ append-nil (asked (up_row key.specialiser) answer)

  -- the declaration of the name or of one above it, or the fields of one above it
  abbrev pub IsOfAbove : Bytes → NodeId → Type 0
  IsOfAbove x subject =
      ((y : Bytes) × ((y ≡ x) ⊎ IsIn y (up program x)) × (subject ≡ node.Fact (fact.Decl y))) ⊎
      ((y : Bytes) × IsIn y (up program x) × (subject ≡ node.Fact (fact.Fields y)))

  from_up : (class x : Bytes) (subject : NodeId) → is_there program class ≡ true → is_there program x ≡ true → Leads program class x →
      IsIn subject (asked (up_row x) answer) → IsOfAbove class subject
  from_up class x subject t there chain i =
      let r = up_reads program is answer decls_given x subject i in
      inl (
        r.0,
        inr (elim r.1 [
          | inl e ↦ subst (λ z. IsIn z (up program class)) (sym e) (is_up program chains class x t there chain)
          | inr j ↦
              let above = up_is program chains x r.0 j in
              is_up program chains class r.0 t above.1 (on program chain above.2)
        ]),
        r.2,
      )

  pub field_reads : (class name : Bytes) (subject : NodeId) → IsIn subject (asked (field_row class name) answer) → IsOfAbove class subject
  field_reads class name subject i =
      elim (in_either subject (asked (fields_row class) answer) (about_all (λ key. asked (up_question key) answer) (keys_at class name) ++ [])
      (subst (IsIn subject) (field_asked class name) i)) [
        | inl j ↦
            elim (in_either subject (asked (up_row class) answer) (about_all (λ y. node.Fact (fact.Fields y) ∷ []) (up program class) ++ [])
            (subst (IsIn subject) (fields_asked class) j)) [
              | inl k ↦ inl (up_reads program is answer decls_given class subject k)
              | inr k ↦
                  let r = about_one (λ y. node.Fact (fact.Fields y) ∷ []) (up program class) subject
                  (subst (IsIn subject) (append-nil (about_all (λ y. node.Fact (fact.Fields y) ∷ []) (up program class))) k) in
                  inr (r.0, r.1, elim r.2 [ inl e ↦ sym e | inr none ↦ absurd none ])
            ]
        | inr j ↦
            let r = about_one (λ key. asked (up_question key) answer) (keys_at class name) subject
            (subst (IsIn subject) (append-nil (about_all (λ key. asked (up_question key) answer) (keys_at class name))) j) in
            let above = key_above class name r.0 r.1 in
            from_up class r.0.specialiser subject (began program class r.0.specialiser above.1 above.0) above.0 above.1
            (subst (IsIn subject) (up_asked r.0) r.2)
      ]

  pub field_reads_decl : (class name y : Bytes) → (y ≡ class) ⊎ IsIn y (up program class) → IsIn (node.Fact (fact.Decl y)) (asked (field_row class name) answer)
  field_reads_decl class name y which =
      subst (IsIn (node.Fact (fact.Decl y))) (sym (field_asked class name))
      (in_front (node.Fact (fact.Decl y)) (asked (fields_row class) answer) (about_all (λ key. asked (up_question key) answer) (keys_at class name) ++ [])
      (subst (IsIn (node.Fact (fact.Decl y))) (sym (fields_asked class))
      (in_front (node.Fact (fact.Decl y)) (asked (up_row class) answer) (about_all (λ z. node.Fact (fact.Fields z) ∷ []) (up program class) ++ [])
      (up_reads_all program is answer decls_given class y which))))

  pub field_reads_fields : (class name y : Bytes) → IsIn y (up program class) → IsIn (node.Fact (fact.Fields y)) (asked (field_row class name) answer)
  field_reads_fields class name y i =
      subst (IsIn (node.Fact (fact.Fields y))) (sym (field_asked class name))
      (in_front (node.Fact (fact.Fields y)) (asked (fields_row class) answer) (about_all (λ key. asked (up_question key) answer) (keys_at class name) ++ [])
      (subst (IsIn (node.Fact (fact.Fields y))) (sym (fields_asked class))
      (in_behind (node.Fact (fact.Fields y)) (asked (up_row class) answer) (about_all (λ z. node.Fact (fact.Fields z) ∷ []) (up program class) ++ [])
      (in_front (node.Fact (fact.Fields y)) (about_all (λ z. node.Fact (fact.Fields z) ∷ []) (up program class)) []
      (one_about (λ z. node.Fact (fact.Fields z) ∷ []) (up program class) y (node.Fact (fact.Fields y)) i (inl refl))))))
