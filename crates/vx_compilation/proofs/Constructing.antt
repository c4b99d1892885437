-- Names, constructors, resends and closures mean the same in a tree as in the text.
use Rattle.std.proofs.Common.{◌≡◌, ◌⊎◌, inl, inr, ℕ, zero, suc, ◌+◌, ◌<◌, ◌≤◌, ◌==◌, ◌&&◌, not, Bool, true, false, if◌then◌else◌, List, [], ◌∷◌}
use Rattle.std.proofs.Common.{◌++◌, length, map, codes, Option, Some, None, is_some, slice_get, refl, sym, ap, ◌∙◌, subst, arith}
use Rattle.std.proofs.lemmas.Bool.{and_parts, and_from}
use Rattle.std.proofs.lemmas.Bool.Decides.{nat_tests}
use Rattle.vx_lists.specs.Members.{IsIn}
use Rattle.vx_lists.proofs.Places.{mapped_behind}
use Rattle.vx_names.specs.declared.key.MethodKey.{MethodKey}
use Rattle.vx_names.specs.declared.key.FieldKey.{FieldKey}
use Rattle.vx_syntax.specs.declared.decl.Decl.{Decl}
use Rattle.vx_syntax.specs.declared.expr.Expr as x
use Rattle.vx_syntax.specs.declared.expr.Stmt as t
use Rattle.vx_syntax.specs.Expressions.{Bytes}
use Rattle.vx_program.specs.Prelude.{sealed}
use Rattle.vx_program.specs.Program.{IsProgram, is_name_of, is_predicate_there}
use Rattle.vx_model.specs.declared.value.Value.{Value}
use Rattle.vx_model.specs.declared.value.Value.TheVariants as v
use Rattle.vx_model.specs.declared.value.Local.{Local}
use Rattle.vx_model.specs.declared.value.Local.TheVariants as l
use Rattle.vx_model.specs.declared.value.Thing.{Thing}
use Rattle.vx_model.specs.declared.value.Held.{Held}
use Rattle.vx_model.specs.declared.value.Heap.{Heap}
use Rattle.vx_model.specs.declared.report.RunError.{RunError}
use Rattle.vx_model.specs.declared.report.RunError.TheVariants as e
use Rattle.vx_node.specs.declared.node.Info.TheVariants as i
use Rattle.vx_compilation.specs.declared.tree.TreeBlock.{TreeBlock}
use Rattle.vx_compilation.specs.declared.tree.Part as p
use Rattle.vx_model.specs.Order.{plain_names}
use Rattle.vx_model.specs.Values.{object, is_meant, is_made, fresh_slots, unnamed}
use Rattle.vx_model.specs.Meaning as mean
use Rattle.vx_model.specs.Meaning.{Stop, Back, Fails, Out, Stuck}
use Rattle.vx_model.specs.Fields.{field_at}
use Rattle.vx_model.specs.Holds.{slot}
use Rattle.vx_model.proofs.Things.{meant_has_slot}
use Rattle.vx_compilation.specs.Activations.{Makes, NoSlot, Slot, captured, with_closure}
use Rattle.vx_compilation.specs.TreeMeaning as trees
use Rattle.vx_compilation.specs.TreeMeaning.{CodeKey, Ended, Done, Goes, Stops, Mode, Stays, Leaves, mode_of, Place, Message, Sent, Sends, Resends}
use Rattle.vx_compilation.specs.Resolved as resolved
use Rattle.vx_compilation.specs.Resolved.{Seat, Constant, Variable, Names, bound, local_of, info_of, seat_part, Resolved, Parts, Fields, Statements}
use Rattle.vx_compilation.specs.Resolved.{Inlined, Inner, nothing, inner_at, expression, parts, fields, statement, body, statements, closed_scope}
use Rattle.vx_compilation.specs.Resolved.{unknown, needs, needs_of_parts, needs_of_fields, needs_of_body, needs_of_statement, needs_of, captures}
use Rattle.vx_compilation.specs.Resolved.{fault, first_missing, field_key, is_plain, acts_row, shape_of, seats_row, seat_parts, bound_as, sent}
use Rattle.vx_compilation.specs.Resolved.{called, over, resent, OfName, OfFormals, argument_infos, variant_for, exactly, primitive_info}
use Rattle.vx_compilation.specs.Compiled as compiled
use Rattle.vx_compilation.specs.Compiled.{have_slots, asked, blocks, world, selector_of, below_of, things}
use Rattle.vx_model.proofs.Sound.{class, IsHeap, later_held, later_thing}
use Rattle.vx_compilation.proofs.Slots.{agree_self}
use Rattle.vx_compilation.proofs.Covers.{AllSuit, Covers, Found, HasFormals, covers_on, captured_covers, taken}
use Rattle.vx_compilation.proofs.Relations.{NotIn, homes_push, AllPlain, Placed, inside, closure_block, HeldRel, held_length, held_push, all_later}
use Rattle.vx_compilation.proofs.Relations.{beside, Rel, rel_heap, ExprRel, gives, halts, free}
use Rattle.vx_compilation.proofs.Sending.{Facts, IsFault, name_in, place}

module _ (program : List Decl) (well : IsProgram program) (facts : Facts program) where
  -- ---- names

  pub plain_stands : (plain predicate : Bool) → resolved.is_plain (compiled.stands plain predicate) ≡ plain
  plain_stands true predicate = refl
  plain_stands false true = refl
  plain_stands false false = refl

  pub plain_there : (name : Bytes) → resolved.is_plain ((asked program).there name) ≡ is_name_of (plain_names program) name
  unfolding asked
  plain_there name = plain_stands (is_name_of (plain_names program) name) (is_predicate_there program name)

  pub content_rel : (av : List ℕ) (floor n : ℕ) (ls : List Slot) (o : Option Value) (st : mean.State) (hs : List trees.Closure) → Rel program av floor st hs →
      ExprRel program av floor n i.Any ls (mean.given o st) (trees.content_of o ls (beside st hs))
  content_rel av floor n ls None st hs h = free
  content_rel av floor n ls (Some value) st hs h = gives ls hs (agree_self n ls) tt h

  pub object_rel : (av : List ℕ) (floor n next : ℕ) (ls : List Slot) (name : Bytes) (so : Bool) → is_meant program name ≡ so →
      (code : CodeKey) (ph : ℕ) (lv' : trees.Levels) (st : mean.State) (hs : List trees.Closure) → IsHeap program st.heap → Rel program av floor st hs →
      ExprRel program av floor n (if so then resolved.leaf (p.Object name) (exactly name) next else resolved.failing (e.UnknownObject name) next).info ls
      (if so then mean.Gives (object program name) st else mean.Stops (Fails (e.UnknownObject name)) st)
      (trees.part (world program) (blocks program) (if so then resolved.leaf (p.Object name) (exactly name) next else resolved.failing
      (e.UnknownObject name) next).part ((place program well facts) code ph) lv' ls (beside st hs))
  object_rel av floor n next ls name true e code ph lv' st hs is h = gives ls hs (agree_self n ls) (facts.object_class st.heap name is e) h
  object_rel av floor n next ls name false e code ph lv' st hs is h = halts hs tt h

  pub named_rel : (av : List ℕ) (floor n next : ℕ) (ls : List Slot) (name : Bytes) (o : Option Seat) (o' : Option Local) (code : CodeKey) (ph : ℕ)
      (lv' : trees.Levels) (st : mean.State) (hs : List trees.Closure) → IsHeap program st.heap → Rel program av floor st hs →
      Found program st.heap n o o' ls →
      ExprRel program av floor n (resolved.named (asked program) name o next).info ls (mean.named program name o' st)
      (trees.part (world program) (blocks program) (resolved.named (asked program) name o next).part ((place program well facts) code ph) lv' ls (beside st hs))
  named_rel av floor n next ls name (Some (Constant x info)) (Some (l.Plain value)) code ph lv' st hs is h f =
      subst (λ o. ExprRel program av floor n info ls (mean.Gives value st) (trees.local_of o ls (beside st hs))) (sym f.1) (gives ls hs (agree_self n ls) f.2 h)
  named_rel av floor n next ls name (Some (Constant x info)) (Some (l.Cell c)) code ph lv' st hs is h f = absurd f
  named_rel av floor n next ls name (Some (Variable x)) (Some (l.Plain value)) code ph lv' st hs is h f = absurd f
  named_rel av floor n next ls name (Some (Variable x)) (Some (l.Cell c)) code ph lv' st hs is h f =
      subst (λ o. ExprRel program av floor n i.Any ls (mean.given (slice_get st.heap.cells c) st) (trees.cell_of o ls (beside st hs))) (sym f.1)
      (content_rel av floor n ls (slice_get st.heap.cells c) st hs h)
  named_rel av floor n next ls name (Some seat) None code ph lv' st hs is h f = absurd f
  named_rel av floor n next ls name None (Some local) code ph lv' st hs is h f = absurd f
  named_rel av floor n next ls name None None code ph lv' st hs is h f =
      subst (λ so. ExprRel program av floor n (if so && not (is_name_of unnamed name) then resolved.leaf (p.Object name)
      (exactly name) next else resolved.failing (e.UnknownObject name) next).info ls (mean.named program name None st)
      (trees.part (world program) (blocks program) (if so && not (is_name_of unnamed name) then resolved.leaf (p.Object name)
      (exactly name) next else resolved.failing (e.UnknownObject name) next).part ((place program well facts) code ph) lv' ls (beside st hs)))
      (sym (plain_there name))
      (object_rel av floor n next ls name (is_meant program name) refl code ph lv' st hs is h)

  -- ---- what a resend passes on

  pub seats_rel : (heap : Heap) (n : ℕ) (seats : List Seat) (values : List Value) (ls : List Slot) → HasFormals program heap n seats values ls →
      (code : CodeKey) (ph : ℕ) (lv' : trees.Levels) (st : trees.State) (go' : List Value → List Slot → trees.State → Done) →
      trees.all (trees.parts (world program) (blocks program) (seats_row seats)) ((place program well facts) code ph) lv' ls st go' ≡ go' values ls st
  seats_rel heap n [] [] ls h code ph lv' st go' = refl
  seats_rel heap n [] (value ∷ values) ls h code ph lv' st go' = absurd h
  seats_rel heap n (seat ∷ seats) [] ls h code ph lv' st go' = absurd h
  seats_rel heap n (Constant x info ∷ seats) (value ∷ values) ls h code ph lv' st go' =
      ap (λ o. trees.after (trees.local_of o ls st) (λ value ls' st'. trees.all (trees.parts (world program) (blocks program) (seats_row seats))
      ((place program well facts) code ph) lv' ls' st' (λ values. go' (value ∷ values)))) h.0.1
      ∙ seats_rel heap n seats values ls h.1 code ph lv' st (λ values. go' (value ∷ values))
  seats_rel heap n (Variable x ∷ seats) (value ∷ values) ls h code ph lv' st go' = absurd h.0

  pub seats_suit : (heap : Heap) (n : ℕ) (seats : List Seat) (values : List Value) (ls : List Slot) → HasFormals program heap n seats values ls →
      AllSuit program heap (map info_of seats) values
  seats_suit heap n [] [] ls h = tt
  seats_suit heap n [] (value ∷ values) ls h = h
  seats_suit heap n (seat ∷ seats) [] ls h = h
  seats_suit heap n (Constant x info ∷ seats) (value ∷ values) ls h = (h.0.2, seats_suit heap n seats values ls h.1)
  seats_suit heap n (Variable x ∷ seats) (value ∷ values) ls h = absurd h.0

  -- ---- constructors

  pub missing_cases : (class : Bytes) (names : List Bytes) (go : List FieldKey → mean.Done) (st : mean.State) →
      ((first_missing (asked program) class names ≡ None) × (mean.keys_of program class names go st ≡ go (map (field_key (asked program) class) names)))
      ⊎ ((error : RunError) × IsFault error × (first_missing (asked program) class names ≡ Some error) ×
      (mean.keys_of program class names go st ≡ mean.Stops (Fails error) st))
  unfolding asked
  missing_cases class [] go st = inl (refl, refl)
  missing_cases class (name ∷ names) go st = by (field_at program class name) (λ key. missing_cases class names (λ keys. go (key ∷ keys)) st)
    where
      by : (o : Option FieldKey) →
          ((key : FieldKey) → ((first_missing (asked program) class names ≡ None) ×
          (mean.keys_of program class names (λ keys. go (key ∷ keys)) st ≡ go (key ∷ map (field_key (asked program) class) names)))
          ⊎ ((error : RunError) × IsFault error × (first_missing (asked program) class names ≡ Some error) ×
          (mean.keys_of program class names (λ keys. go (key ∷ keys)) st ≡ mean.Stops (Fails error) st))) →
          ((elim o [ Some key ↦ first_missing (asked program) class names | None ↦ Some (e.NoField name) ] ≡ None)
          × (elim o [ Some key ↦ mean.keys_of program class names (λ keys. go (key ∷ keys)) st | None ↦ mean.Stops (Fails (e.NoField name)) st ] ≡ go
          (elim o [ Some key ↦ key | None ↦ record { name = name; specialiser = class } ] ∷ map (field_key (asked program) class) names)))
          ⊎ ((error : RunError) × IsFault error × (elim o [ Some key ↦ first_missing (asked program) class names | None ↦ Some (e.NoField name) ] ≡ Some error)
          × (elim o [ Some key ↦ mean.keys_of program class names (λ keys. go (key ∷ keys)) st | None ↦ mean.Stops (Fails (e.NoField name)) st ] ≡
          mean.Stops (Fails error) st))
      by (Some key) more = more key
      by None more = inr (e.NoField name, tt, refl, refl)

  pub fault_cases : (class : Bytes) (names : List Bytes) (go : List FieldKey → mean.Done) (st : mean.State) →
      ((fault (asked program) class names ≡ None) × (mean.constructing program class names go st ≡ go (map (field_key (asked program) class) names)) ×
      (is_made program class ≡ true))
      ⊎ ((error : RunError) × IsFault error × (fault (asked program) class names ≡ Some error) ×
      (mean.constructing program class names go st ≡ mean.Stops (Fails error) st))
  fault_cases class names go st =
      subst (λ so. ((if so && not (is_name_of sealed class) then first_missing (asked program) class names else Some (e.UnknownObject class)) ≡ None) ×
      (mean.constructing program class names go st ≡ go (map (field_key (asked program) class) names)) × (is_made program class ≡ true)
      ⊎ ((error : RunError) × IsFault error ×
      ((if so && not (is_name_of sealed class) then first_missing (asked program) class names else Some (e.UnknownObject class)) ≡ Some error) ×
      (mean.constructing program class names go st ≡ mean.Stops (Fails error) st))) (sym (plain_there class))
      (by (is_made program class) (missing_cases class names go st))
    where
      by : (so : Bool) → ((first_missing (asked program) class names ≡ None) ×
          (mean.keys_of program class names go st ≡ go (map (field_key (asked program) class) names)))
          ⊎ ((error : RunError) × IsFault error × (first_missing (asked program) class names ≡ Some error) ×
          (mean.keys_of program class names go st ≡ mean.Stops (Fails error) st)) →
          (((if so then first_missing (asked program) class names else Some (e.UnknownObject class)) ≡ None) ×
          ((if so then mean.keys_of program class names go st else mean.Stops (Fails (e.UnknownObject class)) st) ≡ go
          (map (field_key (asked program) class) names)) × (so ≡ true))
          ⊎ ((error : RunError) × IsFault error × ((if so then first_missing (asked program) class names else Some (e.UnknownObject class)) ≡ Some error) ×
          ((if so then mean.keys_of program class names go st else mean.Stops (Fails (e.UnknownObject class)) st) ≡ mean.Stops (Fails error) st))
      by true (inl f) = inl (f.0, f.1, refl)
      by true (inr f) = inr f
      by false f = inr (e.UnknownObject class, tt, refl, refl)

  -- where all fields are found, the objects of the class have their slots
  pub found_slots : (class : Bytes) (names : List Bytes) → first_missing (asked program) class names ≡ None →
      have_slots (map (field_key (asked program) class) names) (fresh_slots program class) ≡ true
  unfolding asked
  found_slots class [] none = refl
  found_slots class (name ∷ names) none = by (field_at program class name) refl (λ more. found_slots class names more) none
    where
      by : (o : Option FieldKey) → field_at program class name ≡ o → (first_missing (asked program) class names ≡ None →
          have_slots (map (field_key (asked program) class) names) (fresh_slots program class) ≡ true) →
          ◌≡◌ {A = Option RunError} (elim o [ Some key ↦ first_missing (asked program) class names | None ↦ Some (e.NoField name) ]) None →
          (is_some (slot (elim o [ Some key ↦ key | None ↦ record { name = name; specialiser = class } ]) (fresh_slots program class)) &&
          have_slots (map (field_key (asked program) class) names) (fresh_slots program class)) ≡ true
      by (Some key) same others more = and_from _ _ (meant_has_slot program class name key same) (others more)
      by None same others more = absurd (let no : ⊥ = cc in no)

  pub made_slots : (class : Bytes) (names : List Bytes) → fault (asked program) class names ≡ None →
      have_slots (map (field_key (asked program) class) names) (fresh_slots program class) ≡ true
  made_slots class names none = by (is_plain ((asked program).there class) && not (is_name_of sealed class)) none
    where
      by : (so : Bool) → (if so then first_missing (asked program) class names else Some (e.UnknownObject class)) ≡ None →
          have_slots (map (field_key (asked program) class) names) (fresh_slots program class) ≡ true
      by true more = found_slots class names more
      by false more = absurd (let no : ⊥ = cc in no)

  -- an object that is made
  pub plain_push : (heap : Heap) (thing : Thing) → IsIn thing.class (plain_names program) → AllPlain program heap →
      AllPlain program (record heap { objects = heap.objects ++ thing ∷ [] })
  plain_push heap thing i h = record { at = λ j c e. pushed heap.objects h.at j c e }
    where
      pushed : (objects : List Thing) → ((j : ℕ) (c : Bytes) → slice_get (map class objects) j ≡ Some c → IsIn c (plain_names program)) →
          (j : ℕ) (c : Bytes) → slice_get (map class (objects ++ thing ∷ [])) j ≡ Some c → IsIn c (plain_names program)
      pushed [] f zero c e = let same : thing.class ≡ c = cc in subst (λ z. IsIn z (plain_names program)) same i
      pushed [] f (suc j) c e = absurd (let no : ⊥ = cc in no)
      pushed (own ∷ objects) f zero c e = f zero c e
      pushed (own ∷ objects) f (suc j) c e = pushed objects (λ k d e. f (suc k) d e) j c e

  pub made_rel : (av : List ℕ) (floor n : ℕ) (ls : List Slot) (name : Bytes) (keys : List FieldKey) (values : List Value) (st : mean.State)
      (hs : List trees.Closure) → is_made program name ≡ true → have_slots keys (fresh_slots program name) ≡ true → Rel program av floor st hs →
      ExprRel program av floor n (exactly name) ls (mean.made program name keys values st)
      (trees.made_of ((world program).made name keys values st.heap.objects) ls (beside st hs))
  made_rel av floor n ls name keys values st hs so has h =
      subst (λ b. ExprRel program av floor n (exactly name) ls (text (b && length keys == length values))
      (trees.made_of (if b then Makes (v.Object (length st.heap.objects)) (st.heap.objects ++ thing ∷ []) else NoSlot) ls (beside st hs))) (sym has)
      (by (length keys == length values))
    where
      in_plain_names : (x : Bytes) → is_name_of (plain_names program) x ≡ true → IsIn x (plain_names program)
      in_plain_names x e = name_in (plain_names program) x e

      thing : Thing
      thing = record { class = name; slots = mean.filled keys values (fresh_slots program name) }

      text : Bool → mean.Done
      text b = if b then mean.Gives (v.Object (length st.heap.objects)) (mean.with_object st thing) else mean.Stops Stuck st

      by : (b : Bool) → ExprRel program av floor n (exactly name) ls (text b)
          (trees.made_of (Makes (v.Object (length st.heap.objects)) (st.heap.objects ++ thing ∷ [])) ls (beside st hs))
      by true = gives ls hs (agree_self n ls) (mapped_behind class st.heap.objects thing)
          (rel_heap program av floor st hs (record st.heap { objects = st.heap.objects ++ thing ∷ [] }) st.lines (later_thing st.heap thing) refl
          (plain_push st.heap thing (in_plain_names name (and_parts (is_name_of (plain_names program) name) _ so).0) h.plain) h)
      by false = free

  -- ---- rows as lists

  pub body_row : (method : MethodKey) (inner : Inner) {k : _} (row : x.Row_of-Stmt k) (scope : Names) (block n : ℕ) →
      body (asked program) method inner scope block n row ≡ statements (asked program) method inner scope block n (mean.statements_of row)
  body_row method inner x.end_of-Stmt scope block n = refl
  body_row method inner (x.more_of-Stmt own rest) scope block n =
      let first = statement (asked program) method inner scope block n own in
      ap (resolved.more_statements first) (body_row method inner rest first.scope (block + length first.blocks) first.next)

  pub needs_row : {k : _} (row : x.Row_of-Stmt k) → needs_of_body (asked program) row ≡ needs_of (asked program) (mean.statements_of row)
  needs_row x.end_of-Stmt = refl
  needs_row (x.more_of-Stmt own rest) = ap (λ z. needs_of_statement (asked program) own ++ z) (needs_row rest)

  -- ---- closures

  pub same_length : (a b : ℕ) → a ≡ b → (a == b) ≡ true
  same_length a b e = grind (arith, nat_tests)

  pub leaves_after : (b : ℕ) → 1 ≤ b → mode_of b ≡ Leaves
  leaves_after zero h = absurd (omega (arith, h))
  leaves_after (suc b) h = refl

  -- a closure stands for one where the block of its text is in its (place program well facts)
  pub closing_rel : (av : List ℕ) (floor n : ℕ) (formals : List Bytes) (source : List t.Stmt) (scope : Names) (frame : mean.Frame) (code : CodeKey) (b ph : ℕ)
      (ls : List Slot) (st : mean.State) (hs : List trees.Closure) → Rel program av floor st hs →
      Covers program st.heap n (needs_of (asked program) source) scope frame ls → 1 ≤ b →
      frame.home ≡ ph → NotIn frame.home av → frame.home < floor → frame.method ≡ code.method →
      blocks program code b ≡ Some (closure_block program (captures scope (needs_of (asked program) source)) formals
      (inside program code.method (captures scope (needs_of (asked program) source)) scope b formals source)) →
      Placed program code (suc b) (inside program code.method (captures scope (needs_of (asked program) source)) scope b formals source).blocks →
      ExprRel program av floor n (exactly (codes "closure")) ls (mean.closed frame formals source st)
      (trees.closure (blocks program) b (captures scope (needs_of (asked program) source)) ((place program well facts) code ph) [] ls (beside st hs))
  closing_rel av floor n formals source scope frame code b ph ls st hs h cover one same out lt method here nested =
      subst (λ o. ExprRel program av floor n (exactly (codes "closure")) ls (mean.closed frame formals source st)
      (trees.closed o b ((place program well facts) code ph) (captured xs ls) ls (beside st hs))) (sym here)
      (subst (λ o. ExprRel program av floor n (exactly (codes "closure")) ls (mean.closed frame formals source st)
      (trees.closed (Some own_block) b ((place program well facts) code ph) o ls (beside st hs))) (sym k.1)
      (subst (λ so. ExprRel program av floor n (exactly (codes "closure")) ls (mean.closed frame formals source st)
      (trees.if_so so Stuck (beside st hs) (λ state'. Goes (v.Closure (length state'.closures)) ls
      (with_closure state' (record { code = code; block = b; captures = k.0; home = ph }))))) (sym (same_length (length xs) (length k.0) (sym k.2)))
      (subst (λ home. ExprRel program av floor n (exactly (codes "closure")) ls (mean.closed frame formals source st)
      (Goes (v.Closure (length hs)) ls (with_closure (beside st hs) (record { code = code; block = b; captures = k.0; home = home })))) same
      (subst (λ j. ExprRel program av floor n (exactly (codes "closure")) ls (mean.closed frame formals source st)
      (Goes (v.Closure j) ls (with_closure (beside st hs) old))) (sym (held_length program st.heap st.heap.closures hs h.all))
      (gives ls (hs ++ old ∷ []) (agree_self n ls) refl rel2)))))
    where
      xs : List ℕ
      xs = captures scope (needs_of (asked program) source)

      k : (cs : List Slot) × (captured (captures scope (needs_of (asked program) source)) ls ≡ Some cs) ×
          (length cs ≡ length (captures scope (needs_of (asked program) source))) ×
          Covers program st.heap (length (captures scope (needs_of (asked program) source))) (needs_of (asked program) source)
          (taken program (captures scope (needs_of (asked program) source)) scope) frame cs
      k = captured_covers program st.heap n (needs_of (asked program) source) scope frame ls cover

      own_block : TreeBlock
      own_block = closure_block program (captures scope (needs_of (asked program) source)) formals
          (inside program code.method (captures scope (needs_of (asked program) source)) scope b formals source)

      new : Held
      new = record {
        method = frame.method;
        arguments = frame.arguments;
        formals = formals;
        body = record { 0 = source };
        home = frame.home;
        scope =
            frame.scope;
      }

      old : trees.Closure
      old = record { code = code; block = b; captures = k.0; home = frame.home }

      heap2 : Heap
      heap2 = record st.heap { closures = st.heap.closures ++ new ∷ [] }

      held : HeldRel program heap2 new old
      held = record {
        outer = scope;
        xs = captures scope (needs_of (asked program) source);
        mode = leaves_after b one;
        block = here;
        nested = nested;
        long = k.2;
        covers = covers_on program (later_held st.heap new) (length (captures scope (needs_of (asked program) source)))
            (length (captures scope (needs_of (asked program) source))) (omega arith) (needs_of (asked program) source)
            (taken program (captures scope (needs_of (asked program) source)) scope) frame k.0 k.0
            (agree_self (length (captures scope (needs_of (asked program) source))) k.0) k.3;
        home = refl;
        method = method;
      }

      rel2 : Rel program av floor (record st { heap = heap2 }) (hs ++ old ∷ [])
      rel2 = record {
        all = held_push program heap2 st.heap.closures hs new old (all_later program (later_held st.heap new) st.heap.closures hs h.all) held;
        homes = homes_push st.heap.closures new st.next av h.homes (omega (arith, lt, h.from)) out;
        low = h.low;
        from = h.from;
        plain = record { at = h.plain.at };
      }

  pub failing_rel : (error : RunError) (av : List ℕ) (floor n next : ℕ) (ls : List Slot) (code : CodeKey) (ph : ℕ) (lv' : trees.Levels) (st : mean.State)
      (hs : List trees.Closure) → Rel program av floor st hs → IsFault error →
      ExprRel program av floor n i.Any ls (mean.Stops (Fails error) st)
      (trees.part (world program) (blocks program) (resolved.failing error next).part ((place program well facts) code ph) lv' ls (beside st hs))
  failing_rel (e.NotUnderstood selector) av floor n next ls code ph lv' st hs h fault = absurd fault
  failing_rel (e.Ambiguous selector) av floor n next ls code ph lv' st hs h fault = halts hs tt h
  failing_rel e.Overflow av floor n next ls code ph lv' st hs h fault = halts hs tt h
  failing_rel e.DivideByZero av floor n next ls code ph lv' st hs h fault = halts hs tt h
  failing_rel e.DeadReturn av floor n next ls code ph lv' st hs h fault = halts hs tt h
  failing_rel (e.NoField name) av floor n next ls code ph lv' st hs h fault = halts hs tt h
  failing_rel (e.UnknownObject name) av floor n next ls code ph lv' st hs h fault = halts hs tt h
  failing_rel (e.ClosureArity count) av floor n next ls code ph lv' st hs h fault = halts hs tt h
  failing_rel e.StringLimit av floor n next ls code ph lv' st hs h fault = halts hs tt h
