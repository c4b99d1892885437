-- The tree of an expression means the expression, where what is inlined in it is right.
use Rattle.std.proofs.Common.{◌≡◌, ◌⊎◌, inl, inr, ℕ, suc, ◌+◌, ◌<◌, ◌≤◌, ◌&&◌, Bool, true, false, if◌then◌else◌, List, [], ◌∷◌, ◌++◌, length, map}
use Rattle.std.proofs.Common.{codes, Option, Some, None, slice_get, refl, sym, ap, ◌∙◌, subst, arith}
use Rattle.std.proofs.lemmas.Bool.{and_parts, false≢true}
use Rattle.std.specs.Prelude.{slice_set}
use Rattle.std.proofs.lemmas.List.{length_push}
use Rattle.vx_names.specs.declared.key.MethodKey.{MethodKey}
use Rattle.vx_names.specs.declared.key.FieldKey.{FieldKey}
use Rattle.vx_syntax.specs.declared.decl.Decl.{Decl}
use Rattle.vx_syntax.specs.declared.expr.Expr as x
use Rattle.vx_syntax.specs.declared.expr.Stmt as t
use Rattle.vx_syntax.specs.Expressions.{Bytes, Scope}
use Rattle.vx_syntax.specs.Written.{IsWritten, AreWritten, AreFieldsWritten, AreStated}
use Rattle.vx_program.specs.Program.{IsProgram}
use Rattle.vx_model.specs.declared.value.Value.{Value}
use Rattle.vx_model.specs.declared.value.Local.{Local}
use Rattle.vx_model.specs.declared.value.Local.TheVariants as l
use Rattle.vx_model.specs.declared.value.Heap.{Heap}
use Rattle.vx_model.specs.declared.report.RunError.{RunError}
use Rattle.vx_model.specs.declared.report.RunError.TheVariants as e
use Rattle.vx_node.specs.declared.node.Info.{Info}
use Rattle.vx_compilation.specs.declared.tree.TreeBlock.{TreeBlock}
use Rattle.vx_compilation.specs.declared.tree.Part as p
use Rattle.vx_model.specs.Values.{nil}
use Rattle.vx_model.specs.Meaning as mean
use Rattle.vx_model.specs.Meaning.{Stop, Back, Fails, Out, Stuck}
use Rattle.vx_compilation.specs.Activations.{Slot, Plain, Cell}
use Rattle.vx_compilation.specs.TreeMeaning as trees
use Rattle.vx_compilation.specs.TreeMeaning.{CodeKey, Ended, Done, Goes, Stops, Mode, Stays, Leaves, mode_of, Place, Message, Sent, Sends, Resends}
use Rattle.vx_compilation.specs.Inlining.{is_flat, are_flat, are_fields_flat, is_flat_body}
use Rattle.vx_compilation.specs.Resolved as resolved
use Rattle.vx_compilation.specs.Resolved.{Seat, Constant, Variable, Names, bound, local_of, info_of, seat_part, Resolved, Parts, Fields, Statements}
use Rattle.vx_compilation.specs.Resolved.{Inlined, Inner, nothing, inner_at, expression, parts, fields, statement, body, statements, closed_scope}
use Rattle.vx_compilation.specs.Resolved.{unknown, needs, needs_of_parts, needs_of_fields, needs_of_body, needs_of_statement, needs_of, captures}
use Rattle.vx_compilation.specs.Resolved.{fault, first_missing, field_key, is_plain, acts_row, shape_of, seats_row, seat_parts, bound_as, sent}
use Rattle.vx_compilation.specs.Resolved.{called, over, resent, OfName, OfFormals, argument_infos, variant_for, exactly, primitive_info}
use Rattle.vx_compilation.specs.Compiled.{asked, blocks, world}
use Rattle.vx_model.proofs.Sound.{as_late, later_on, class, IsHeap, still_sound, later_value, later_value_at, heap_with_value, heap_with_value_at}
use Rattle.vx_model.proofs.Bodies.{AreFine, IsFrame, still_frame, let_frame, var_frame, expression_fine}
use Rattle.vx_compilation.proofs.Slots.{agree_self, agree_on, agree_store, stores}
use Rattle.vx_compilation.proofs.Covers.{Suits, suits_later, Covers, Found, covers_on, covers_front, covers_behind, covers_name}
use Rattle.vx_compilation.proofs.Relations.{NotIn, Placed, placed_front, placed_behind, closure_block, beside, Rel, rel_heap, ExprRel, gives, halts}
use Rattle.vx_compilation.proofs.Relations.{free, BodyRel, b_gives, b_halts, b_stays, b_free, LevelsRel, expr_shift, body_shift, then_rel, then_body}
use Rattle.vx_compilation.proofs.Sending.{Facts, bound_rel, place, InnerOk, nothing_ok, blocks_of_bound, next_of_bound, AfterParts, AfterFields}
use Rattle.vx_compilation.proofs.Constructing.{named_rel, seats_rel, seats_suit, fault_cases, made_slots, made_rel, body_row, needs_row, closing_rel}
use Rattle.vx_compilation.proofs.Constructing.{failing_rel}

module _ (program : List Decl) (well : IsProgram program) (facts : Facts program) where
  -- ---- texts, where what is inlined in them is right

  module _ (method : MethodKey) (inner : Inner) (ok : (InnerOk program well facts) inner) where
    -- an activation of the method's own, in which closures may be made and formals passed on; or else the text has none of these
    pub record Own (code : CodeKey) (frame : mean.Frame) (ph : ℕ) (av : List ℕ) (floor b : ℕ) : Type 0 where
      pub home : frame.home ≡ ph
      pub out : NotIn frame.home av
      pub low : frame.home < floor
      pub same : frame.method ≡ method
      pub code_same : code.method ≡ method
      pub is_top : inner ≡ inner_at (asked program) 2
      pub one : 1 ≤ b

    abbrev pub Stands : CodeKey → ℕ → List TreeBlock → mean.Frame → ℕ → List ℕ → ℕ → Bool → Type 0
    Stands code b own frame ph av floor flat = (Own code frame ph av floor b × Placed program code b own) ⊎ (flat ≡ true)

    stands_first : (code : CodeKey) (b : ℕ) (xs ys : List TreeBlock) (frame : mean.Frame) (ph : ℕ) (av : List ℕ) (floor : ℕ) (fa fb : Bool) →
        Stands code b (xs ++ ys) frame ph av floor (fa && fb) → Stands code b xs frame ph av floor fa
    stands_first code b xs ys frame ph av floor fa fb (inl o) = inl (o.0, placed_front program code b xs ys o.1)
    stands_first code b xs ys frame ph av floor fa fb (inr e) = inr (and_parts fa fb e).0

    stands_rest : (code : CodeKey) (b : ℕ) (xs ys : List TreeBlock) (frame : mean.Frame) (ph : ℕ) (av : List ℕ) (floor : ℕ) (fa fb : Bool) →
        Stands code b (xs ++ ys) frame ph av floor (fa && fb) → Stands code (b + length xs) ys frame ph av floor fb
    stands_rest code b xs ys frame ph av floor fa fb (inl o) =
        inl (
          record {
            home = o.0.home;
            out = o.0.out;
            low = o.0.low;
            same = o.0.same;
            code_same = o.0.code_same;
            is_top = o.0.is_top;
            one =
                omega (arith, o.0.one);
          },
          placed_behind program code b (b + length xs) xs ys refl o.1,
        )
    stands_rest code b xs ys frame ph av floor fa fb (inr e) = inr (and_parts fa fb e).1

    mutual
      next_grows : (own : x.Expr) (scope : Names) (b n : ℕ) → n ≤ (expression (asked program) method inner scope b n own).next
      next_grows (x.Int k) scope b n = omega arith
      next_grows (x.Text k) scope b n = omega arith
      next_grows (x.Name name) scope b n = named_grows (bound name scope.names)
        where
          named_if : (so : Bool) → n ≤ (if so then resolved.leaf (p.Object name) (exactly name) n else resolved.failing (e.UnknownObject name) n).next
          named_if true = omega arith
          named_if false = omega arith

          named_grows : (o : Option Seat) → n ≤ (resolved.named (asked program) name o n).next
          named_grows None = named_if _
          named_grows (Some seat) = omega arith
      next_grows (x.Send' selector shape row) scope b n =
          let all = parts (asked program) method inner scope b n row in
          omega (
            arith,
            parts_grow row scope b n,
            (next_of_bound program well facts) (asked program) inner ok selector (p.Send' selector shape all.row) shape all
                ((asked program).bind selector all.infos None),
          )
      next_grows (x.Closure' formals shape row) scope b n = omega arith
      next_grows (x.New' class shape row) scope b n = made_grows (fault (asked program) class (mean.field_names row)) (fields_grow row scope class b n)
        where
          made_grows : (o : Option RunError) → n ≤ (fields (asked program) method inner scope class b n row).next →
              n ≤ (resolved.made o class n shape (fields (asked program) method inner scope class b n row)).next
          made_grows None h = h
          made_grows (Some error) h = omega arith
      next_grows x.Resend scope b n =
          (next_of_bound program well facts) (asked program) nothing (nothing_ok program well facts) method.selector
          (p.Resend' method (resolved.row_of (asked program) method) (shape_of scope.formals) (seats_row scope.formals)) (shape_of scope.formals)
          (seat_parts scope.formals n)
          ((asked program).bind method.selector (map info_of scope.formals) (Some method))

      parts_grow : {k : _} (row : x.Row_of-Expr k) (scope : Names) (b n : ℕ) → n ≤ (parts (asked program) method inner scope b n row).next
      parts_grow x.end_of-Expr scope b n = omega arith
      parts_grow (x.more_of-Expr own rest) scope b n =
          let first = expression (asked program) method inner scope b n own in
          omega (arith, next_grows own scope b n, parts_grow rest scope (b + length first.blocks) first.next)

      fields_grow : {k : _} (row : x.Row_of-Expr-New-1-2 k) (scope : Names) (class : Bytes) (b n : ℕ) →
          n ≤ (fields (asked program) method inner scope class b n row).next
      fields_grow x.end_of-Expr-New-1-2 scope class b n = omega arith
      fields_grow (x.more_of-Expr-New-1-2 name own rest) scope class b n =
          let first = expression (asked program) method inner scope b n own in
          omega (arith, next_grows own scope b n, fields_grow rest scope class (b + length first.blocks) first.next)

    keys_are : {k : _} (row : x.Row_of-Expr-New-1-2 k) (scope : Names) (class : Bytes) (b n : ℕ) →
        trees.field_keys (fields (asked program) method inner scope class b n row).row ≡ map (field_key (asked program) class) (mean.field_names row)
    keys_are x.end_of-Expr-New-1-2 scope class b n = refl
    keys_are (x.more_of-Expr-New-1-2 name own rest) scope class b n =
        let first = expression (asked program) method inner scope b n own in
        ap (λ z. field_key (asked program) class name ∷ z) (keys_are rest scope class (b + length first.blocks) first.next)

    mutual
      pub expr_rel : (own : x.Expr) (scope : Names) (static : Scope) (frame : mean.Frame) (code : CodeKey) (b n ph : ℕ) (av : List ℕ) (floor : ℕ) →
          IsWritten own static → Stands code b (expression (asked program) method inner scope b n own).blocks frame ph av floor (is_flat own) →
          (lv : mean.Allowance) (lv' : trees.Levels) → AreFine program lv → LevelsRel program lv lv' →
          (ls : List Slot) (st : mean.State) (hs : List trees.Closure) → IsHeap program st.heap → IsFrame st.heap static frame →
          Covers program st.heap n (needs (asked program) own) scope frame ls →
          (expression (asked program) method inner scope b n own).next ≤ length ls → Rel program av floor st hs →
          ExprRel program av floor n (expression (asked program) method inner scope b n own).info ls (mean.expression program own lv frame st)
          (trees.part (world program) (blocks program) (expression (asked program) method inner scope b n own).part ((place program well facts) code ph) lv' ls
          (beside st hs))
      expr_rel (x.Int k) scope static frame code b n ph av floor wr stands lv lv' fine r ls st hs is f cover long h = gives ls hs (agree_self n ls) refl h
      expr_rel (x.Text bytes) scope static frame code b n ph av floor wr stands lv lv' fine r ls st hs is f cover long h = gives ls hs (agree_self n ls) refl h
      expr_rel (x.Name name) scope static frame code b n ph av floor wr stands lv lv' fine r ls st hs is f cover long h =
          (named_rel program well facts) av floor n n ls name (bound name scope.names) (mean.bound name frame.scope) code ph lv' st hs is h
          (cover.has (OfName name) (inl refl))
      expr_rel (x.Send' selector shape row) scope static frame code b n ph av floor wr stands lv lv' fine r ls st hs is f cover long h =
          let all = parts (asked program) method inner scope b n row in
          let own = (asked program).bind selector all.infos None in
          let sending = p.Send' selector shape all.row in
          let same_blocks = (blocks_of_bound program well facts) (asked program) inner selector sending shape all own in
          let grown = (next_of_bound program well facts) (asked program) inner ok selector sending shape all own in
          (bound_rel program well facts) av floor n ls code ph lv lv' fine r (Sends selector) shape all (λ go. mean.parts program row lv frame st go)
          (beside st hs) st.heap
          (λ info go go' next. parts_rel row scope static frame code b n ph av floor wr.2
          (subst (λ z. Stands code b z frame ph av floor (are_flat row)) same_blocks stands) lv lv' fine r ls st hs is f cover
          (omega (arith, long, grown)) h info go go' next)
          inner ok sending refl own refl long
      expr_rel (x.Closure' formals shape row) scope static frame code b n ph av floor wr (inl o) lv lv' fine r ls st hs is f cover long h =
          let own = o.0 in
          let xs = captures scope (needs_of_body (asked program) row) in
          let all = body (asked program) method inner (closed_scope xs formals scope) (suc b) (length xs + length formals) row in
          let P : List ℕ → List resolved.Need → MethodKey → Inner → Type 0 =
          λ ys us key inn. Placed program code b (closure_block program ys formals
          (statements (asked program) key inn (closed_scope ys formals scope) (suc b) (length ys + length formals) (mean.statements_of row)) ∷
          (statements (asked program) key inn (closed_scope ys formals scope) (suc b) (length ys + length formals) (mean.statements_of row)).blocks) in
          let placed1 : P xs (needs_of_body (asked program) row) method inner =
          subst (λ z. Placed program code b (closure_block program xs formals z ∷ z.blocks))
          ((body_row program well facts) method inner row (closed_scope xs formals scope) (suc b) (length xs + length formals)) o.1 in
          let placed2 = subst (λ inn. P xs (needs_of_body (asked program) row) method inn) own.is_top placed1 in
          let placed3 = subst (λ key. P xs (needs_of_body (asked program) row) key (inner_at (asked program) 2)) (sym own.code_same) placed2 in
          let placed4 = subst (λ us. P (captures scope us) us code.method (inner_at (asked program) 2)) ((needs_row program well facts) row) placed3 in
          subst (λ us. ExprRel program av floor n (exactly (codes "closure")) ls (mean.closed frame formals (mean.statements_of row) st)
          (trees.closure (blocks program) b (captures scope us) ((place program well facts) code ph) [] ls (beside st hs)))
          (sym ((needs_row program well facts) row))
          ((closing_rel program well facts) av floor n formals (mean.statements_of row) scope frame code b ph ls st hs h
          (subst (λ us. Covers program st.heap n us scope frame ls) ((needs_row program well facts) row) cover) own.one own.home own.out own.low
          (own.same ∙ sym own.code_same) placed4.0 placed4.1)
      expr_rel (x.Closure' formals shape row) scope static frame code b n ph av floor wr (inr e) lv lv' fine r ls st hs is f cover long h =
          absurd (false≢true e)
      expr_rel (x.New' class shape row) scope static frame code b n ph av floor wr stands lv lv' fine r ls st hs is f cover long h =
          let all = fields (asked program) method inner scope class b n row in
          let go : List FieldKey → mean.Done = λ keys. mean.fields program row lv frame st (mean.made program class keys) in
          elim ((fault_cases program well facts) class (mean.field_names row) go st) [
            | inl e ↦
                let cover' = subst (λ o. Covers program st.heap n (resolved.unless o (needs_of_fields (asked program) row)) scope frame ls) e.0 cover in
                let stands' = subst (λ o. Stands code b (resolved.made o class n shape all).blocks frame ph av floor (are_fields_flat row)) e.0 stands in
                let long' = subst (λ o. (resolved.made o class n shape all).next ≤ length ls) e.0 long in
                subst (λ z. ExprRel program av floor n (resolved.made (fault (asked program) class (mean.field_names row)) class n shape all).info ls z
                (trees.part (world program) (blocks program) (resolved.made (fault (asked program) class (mean.field_names row)) class n shape all).part
                ((place program well facts) code ph) lv' ls (beside st hs))) (sym e.1)
                (subst (λ o. ExprRel program av floor n (resolved.made o class n shape all).info ls
                (go (map (field_key (asked program) class) (mean.field_names row)))
                (trees.part (world program) (blocks program) (resolved.made o class n shape all).part ((place program well facts) code ph) lv' ls
                (beside st hs))) (sym e.0)
                (fields_rel row [] scope static class frame code b n ph av floor wr.1 stands' lv lv' fine r ls st hs is f cover' long' h (exactly class)
                (mean.made program class (map (field_key (asked program) class) (mean.field_names row)))
                (λ values ls' st'. trees.made_of ((world program).made class (trees.field_keys all.row) values st'.objects) ls' st')
                (λ values st2 hs2 ls2 heap later sound same h2.
                subst (λ keys. ExprRel program av floor all.next (exactly class) ls2
                (mean.made program class (map (field_key (asked program) class) (mean.field_names row)) values st2)
                (trees.made_of ((world program).made class keys values st2.heap.objects) ls2 (beside st2 hs2))) (sym (keys_are row scope class b n))
                ((made_rel program well facts) av floor all.next ls2 class (map (field_key (asked program) class) (mean.field_names row)) values st2 hs2 e.2
                ((made_slots program well facts) class (mean.field_names row) e.0) h2))))
            | inr e ↦
                subst (λ z. ExprRel program av floor n (resolved.made (fault (asked program) class (mean.field_names row)) class n shape all).info ls z
                (trees.part (world program) (blocks program) (resolved.made (fault (asked program) class (mean.field_names row)) class n shape all).part
                ((place program well facts) code ph) lv' ls (beside st hs))) (sym e.3)
                (subst (λ o. ExprRel program av floor n (resolved.made o class n shape all).info ls (mean.Stops (Fails e.0) st)
                (trees.part (world program) (blocks program) (resolved.made o class n shape all).part ((place program well facts) code ph) lv' ls
                (beside st hs))) (sym e.2)
                ((failing_rel program well facts) e.0 av floor n n ls code ph lv' st hs h e.1))
          ]
      expr_rel x.Resend scope static frame code b n ph av floor wr (inl o) lv lv' fine r ls st hs is f cover long h =
          let seats = scope.formals in
          let all = seat_parts seats n in
          let formals = cover.has OfFormals (inl refl) in
          let own = (asked program).bind method.selector (map info_of seats) (Some method) in
          let place_of = resolved.row_of (asked program) method in
          subst (λ key. ExprRel program av floor n (resent (asked program) method seats n).info ls
          (mean.call lv (record { selector = key.selector; arguments = frame.arguments; below = Some key }) st)
          (trees.part (world program) (blocks program) (resent (asked program) method seats n).part ((place program well facts) code ph) lv' ls (beside st hs)))
          (sym o.0.same)
          ((bound_rel program well facts) av floor n ls code ph lv lv' fine r (Resends method place_of) (shape_of seats) all (λ go. go frame.arguments st)
          (beside st hs) st.heap
          (λ info go go' next.
          subst (λ z. ExprRel program av floor n info ls (go frame.arguments st) z)
          (sym ((seats_rel program well facts) st.heap n seats frame.arguments ls formals code ph lv' (beside st hs) go'))
          (next frame.arguments st hs ls is (as_late st.heap) f.given_values ((seats_suit program well facts) st.heap n seats frame.arguments ls formals)
          (agree_self n ls) h))
          nothing (nothing_ok program well facts) (p.Resend' method place_of (shape_of seats) (seats_row seats)) refl own refl long)
      expr_rel x.Resend scope static frame code b n ph av floor wr (inr e) lv lv' fine r ls st hs is f cover long h = absurd (false≢true e)

      parts_rel : {k : _} (row : x.Row_of-Expr k) (scope : Names) (static : Scope) (frame : mean.Frame) (code : CodeKey) (b n ph : ℕ) (av : List ℕ)
          (floor : ℕ) → AreWritten row static → Stands code b (parts (asked program) method inner scope b n row).blocks frame ph av floor (are_flat row) →
          (lv : mean.Allowance) (lv' : trees.Levels) → AreFine program lv → LevelsRel program lv lv' →
          (ls : List Slot) (st : mean.State) (hs : List trees.Closure) → IsHeap program st.heap → IsFrame st.heap static frame →
          Covers program st.heap n (needs_of_parts (asked program) row) scope frame ls →
          (parts (asked program) method inner scope b n row).next ≤ length ls → Rel program av floor st hs →
          (info : Info) (go : List Value → mean.State → mean.Done) (go' : List Value → List Slot → trees.State → Done) →
          (AfterParts program well facts) av floor n (parts (asked program) method inner scope b n row).next
          (parts (asked program) method inner scope b n row).infos ls st.heap info go go' →
          ExprRel program av floor n info ls (mean.parts program row lv frame st go)
          (trees.all (trees.parts (world program) (blocks program) (parts (asked program) method inner scope b n row).row)
          ((place program well facts) code ph) lv' ls
          (beside st hs) go')
      parts_rel x.end_of-Expr scope static frame code b n ph av floor wr stands lv lv' fine r ls st hs is f cover long h info go go' next =
          next [] st hs ls is (as_late st.heap) tt tt (agree_self n ls) h
      parts_rel (x.more_of-Expr own rest) scope static frame code b n ph av floor wr stands lv lv' fine r ls st hs is f cover long h info go go' next =
          let first = expression (asked program) method inner scope b n own in
          let others = parts (asked program) method inner scope (b + length first.blocks) first.next rest in
          let grown = next_grows own scope b n in
          let grown2 = parts_grow rest scope (b + length first.blocks) first.next in
          then_rel program av floor n first.next first.info info ls st.heap (mean.expression program own lv frame st) _ _ _ grown
          (expression_fine program well lv fine own static wr.0 frame st is f)
          (expr_rel own scope static frame code b n ph av floor wr.0 (stands_first code b first.blocks others.blocks frame ph av floor (is_flat own)
          (are_flat rest) stands) lv lv' fine r ls st hs is f
          (covers_front program st.heap n (needs (asked program) own) (needs_of_parts (asked program) rest) scope frame ls cover)
          (omega (arith, long, grown2)) h)
          (λ value st2 is2 later sound hs2 ls1 same u h2.
          parts_rel rest scope static frame code (b + length first.blocks) first.next ph av floor wr.1
          (stands_rest code b first.blocks others.blocks frame ph av floor (is_flat own) (are_flat rest) stands) lv lv' fine r ls1 st2 hs2 is2
          (still_frame later f)
          (covers_on program later n first.next grown (needs_of_parts (asked program) rest) scope frame ls ls1 same
          (covers_behind program st.heap n (needs (asked program) own) (needs_of_parts (asked program) rest) scope frame ls cover))
          (omega (arith, long, same.long)) h2 info (λ values. go (value ∷ values)) (λ values. go' (value ∷ values))
          (λ values st3 hs3 ls3 is3 later3 all suit same3 h3.
          next (value ∷ values) st3 hs3 ls3 is3 (later_on later later3) (still_sound later3 value sound, all)
          (suits_later program later3 first.info value u, suit) (agree_on n first.next ls ls1 ls3 grown same same3) h3))

      fields_rel : {k : _} (row : x.Row_of-Expr-New-1-2 k) (names : List Bytes) (scope : Names) (static : Scope) (class : Bytes) (frame : mean.Frame)
          (code : CodeKey) (b n ph : ℕ) (av : List ℕ) (floor : ℕ) → AreFieldsWritten row names static →
          Stands code b (fields (asked program) method inner scope class b n row).blocks frame ph av floor (are_fields_flat row) →
          (lv : mean.Allowance) (lv' : trees.Levels) → AreFine program lv → LevelsRel program lv lv' →
          (ls : List Slot) (st : mean.State) (hs : List trees.Closure) → IsHeap program st.heap → IsFrame st.heap static frame →
          Covers program st.heap n (needs_of_fields (asked program) row) scope frame ls →
          (fields (asked program) method inner scope class b n row).next ≤ length ls → Rel program av floor st hs →
          (info : Info) (go : List Value → mean.State → mean.Done) (go' : List Value → List Slot → trees.State → Done) →
          (AfterFields program well facts) av floor n (fields (asked program) method inner scope class b n row).next ls st.heap info go go' →
          ExprRel program av floor n info ls (mean.fields program row lv frame st go)
          (trees.all (trees.new_parts (world program) (blocks program) (fields (asked program) method inner scope class b n row).row)
          ((place program well facts) code ph) lv' ls (beside st hs) go')
      fields_rel x.end_of-Expr-New-1-2 names scope static class frame code b n ph av floor wr stands lv lv' fine r ls st hs is f cover long
          h info go go' next = next [] st hs ls is (as_late st.heap) tt (agree_self n ls) h
      fields_rel (x.more_of-Expr-New-1-2 name own rest) names scope static class frame code b n ph av floor wr stands lv lv' fine r ls st
          hs is f cover long h info go go' next =
          let first = expression (asked program) method inner scope b n own in
          let others = fields (asked program) method inner scope class (b + length first.blocks) first.next rest in
          let grown = next_grows own scope b n in
          let grown2 = fields_grow rest scope class (b + length first.blocks) first.next in
          then_rel program av floor n first.next first.info info ls st.heap (mean.expression program own lv frame st) _ _ _ grown
          (expression_fine program well lv fine own static wr.3 frame st is f)
          (expr_rel own scope static frame code b n ph av floor wr.3 (stands_first code b first.blocks others.blocks frame ph av floor (is_flat own)
          (are_fields_flat rest) stands) lv lv' fine r ls st hs is f
          (covers_front program st.heap n (needs (asked program) own) (needs_of_fields (asked program) rest) scope frame ls cover)
          (omega (arith, long, grown2)) h)
          (λ value st2 is2 later sound hs2 ls1 same u h2.
          fields_rel rest (names ++ name ∷ []) scope static class frame code (b + length first.blocks) first.next ph av floor wr.4
          (stands_rest code b first.blocks others.blocks frame ph av floor (is_flat own) (are_fields_flat rest) stands) lv lv' fine r ls1 st2 hs2 is2
          (still_frame later f)
          (covers_on program later n first.next grown (needs_of_fields (asked program) rest) scope frame ls ls1 same
          (covers_behind program st.heap n (needs (asked program) own) (needs_of_fields (asked program) rest) scope frame ls cover))
          (omega (arith, long, same.long)) h2 info (λ values. go (value ∷ values)) (λ values. go' (value ∷ values))
          (λ values st3 hs3 ls3 is3 later3 all same3 h3.
          next (value ∷ values) st3 hs3 ls3 is3 (later_on later later3) (still_sound later3 value sound, all)
          (agree_on n first.next ls ls1 ls3 grown same same3) h3))

    -- ---- statements

    stated_grows : (own : t.Stmt) (scope : Names) (b n : ℕ) → n ≤ (statement (asked program) method inner scope b n own).next
    stated_grows (t.Let name part) scope b n = omega (arith, next_grows part scope b (suc n))
    stated_grows (t.LetVar name part) scope b n = omega (arith, next_grows part scope b (suc n))
    stated_grows (t.Set name part) scope b n = next_grows part scope b n
    stated_grows (t.Do part) scope b n = next_grows part scope b n
    stated_grows (t.Back part) scope b n = next_grows part scope b n

    pub statements_grow : (own : List t.Stmt) (scope : Names) (b n : ℕ) → n ≤ (statements (asked program) method inner scope b n own).next
    statements_grow [] scope b n = omega arith
    statements_grow (own ∷ rest) scope b n =
        let first = statement (asked program) method inner scope b n own in
        omega (arith, stated_grows own scope b n, statements_grow rest first.scope (b + length first.blocks) first.next)

    -- what is known of the last value
    rest_info : (rest : List t.Stmt) (scope : Names) (b n : ℕ) → resolved.last_info (exactly (codes "nil"))
        (statements (asked program) method inner scope b n rest).acts (statements (asked program) method inner scope b n rest).info ≡
        (statements (asked program) method inner scope b n rest).info
    rest_info [] scope b n = refl
    rest_info (own ∷ rest) scope b n = refl

    abbrev pub LeavesOk : Mode → mean.Frame → ℕ → List ℕ → Type 0
    LeavesOk Stays frame ph av = Unit {0}
    LeavesOk Leaves frame ph av = (frame.home ≡ ph) × NotIn frame.home av

    abbrev LastOk : List t.Stmt → Value → Type 0
    LastOk [] last = last ≡ nil program
    LastOk (own ∷ rest) last = Unit {0}

    pub last_nil : (source : List t.Stmt) → LastOk source (nil program)
    last_nil [] = refl
    last_nil (own ∷ rest) = tt

    stands_var : (code : CodeKey) (b : ℕ) (xs : List TreeBlock) (frame : mean.Frame) (ph : ℕ) (av : List ℕ) (floor : ℕ) (flat : Bool) →
        Stands code b xs frame ph av floor false → Stands code b xs frame ph av floor flat
    stands_var code b xs frame ph av floor flat (inl o) = inl o
    stands_var code b xs frame ph av floor flat (inr e) = absurd (false≢true e)

    stands_more : (code : CodeKey) (b : ℕ) (xs ys : List TreeBlock) (frame : mean.Frame) (ph : ℕ) (av : List ℕ) (floor : ℕ) (fa fb : Bool) →
        Stands code b (xs ++ ys) frame ph av floor false → Stands code b (xs ++ ys) frame ph av floor (fa && fb)
    stands_more code b xs ys frame ph av floor fa fb (inl o) = inl o
    stands_more code b xs ys frame ph av floor fa fb (inr e) = absurd (false≢true e)

    stands_scope : (code : CodeKey) (b : ℕ) (xs : List TreeBlock) (frame : mean.Frame) (name : Bytes) (local : Local) (ph : ℕ) (av : List ℕ) (floor : ℕ)
        (flat : Bool) → Stands code b xs frame ph av floor flat → Stands code b xs (mean.in_scope frame name local) ph av floor flat
    stands_scope code b xs frame name local ph av floor flat (inl o) = inl
        (record { home = o.0.home; out = o.0.out; low = o.0.low; same = o.0.same; code_same = o.0.code_same; is_top = o.0.is_top; one = o.0.one }, o.1)
    stands_scope code b xs frame name local ph av floor flat (inr e) = inr e

    leaves_scope : (mode : Mode) (frame : mean.Frame) (name : Bytes) (local : Local) (ph : ℕ) (av : List ℕ) → LeavesOk mode frame ph av →
        LeavesOk mode (mean.in_scope frame name local) ph av
    leaves_scope Stays frame name local ph av lo = lo
    leaves_scope Leaves frame name local ph av lo = lo

    covers_rest : (heap : Heap) (n : ℕ) (need : resolved.Need) (needs : List resolved.Need) (scope : Names) (frame : mean.Frame) (ls : List Slot) →
        Covers program heap n (need ∷ needs) scope frame ls → Covers program heap n needs scope frame ls
    covers_rest heap n need needs scope frame ls c = record { has = λ one i. c.has one (inr i) }

    last_rel : (av : List ℕ) (floor n : ℕ) (info : Info) (ls : List Slot) (mode : Mode) (home : ℕ) (d : mean.Done) (d' : Done) →
        ExprRel program av floor n info ls d d' → BodyRel program av floor n info ls mode home (mean.after d (λ value st. mean.Gives value st)) d'
    last_rel av floor n info ls mode home d d' (gives ls' hs same u h) = b_gives ls' hs same u h
    last_rel av floor n info ls mode home d d' (halts hs o h) = b_halts hs o h
    last_rel av floor n info ls mode home d d' free = b_free

    returning_rel : (mode : Mode) (av : List ℕ) (floor n : ℕ) (info : Info) (code : CodeKey) (frame : mean.Frame) (ph : ℕ) (value : Value) (ls : List Slot)
        (st : mean.State) (hs : List trees.Closure) → LeavesOk mode frame ph av → Suits program st.heap info value → Rel program av floor st hs →
        BodyRel program av floor n info ls mode frame.home (mean.Stops (Back frame.home value) st)
        (trees.returning mode ((place program well facts) code ph) value ls (beside st hs))
    returning_rel Stays av floor n info code frame ph value ls st hs lo u h = b_stays ls hs tt (agree_self n ls) u h
    returning_rel Leaves av floor n info code frame ph value ls st hs lo u h =
        subst (λ z. BodyRel program av floor n info ls Leaves frame.home (mean.Stops (Back frame.home value) st) (Stops (Back z value) (beside st hs))) lo.0
        (b_halts hs lo.1 h)

    -- an assignment to a variable
    set_rel : (av : List ℕ) (floor n : ℕ) (info : Info) (mode : Mode) (home : ℕ) (o : Option Seat) (o' : Option Local) (value : Value) (ls : List Slot)
        (st : mean.State) (hs : List trees.Closure) → Found program st.heap n o o' ls → (go : mean.State → mean.Done) (go' : List Slot → trees.State → Done)
        → ((i : ℕ) → BodyRel program av floor n info ls mode home (go (record st { heap = record st.heap { cells = slice_set st.heap.cells i value } }))
        (go' ls (beside (record st { heap = record st.heap { cells = slice_set st.heap.cells i value } }) hs)))
        → BodyRel program av floor n info ls mode home (mean.assigned o' value st go)
        (trees.set_in (slice_get ls (resolved.seat_number o)) value ls (beside st hs) go')
    set_rel av floor n info mode home (Some (Variable x)) (Some (l.Cell c)) value ls st hs f go go' next =
        subst (λ z. BodyRel program av floor n info ls mode home (mean.assigned (Some (l.Cell c)) value st go) (trees.set_in z value ls (beside st hs) go'))
        (sym f.1) (by (slice_get st.heap.cells c))
      where
        changed : mean.State
        changed = record st { heap = record st.heap { cells = slice_set st.heap.cells c value } }

        by : (old : Option Value) → BodyRel program av floor n info ls mode home (elim old [ Some own ↦ go changed | None ↦ mean.Stops Stuck st ])
            (go' ls (beside changed hs))
        by (Some old) = next c
        by None = b_free
    set_rel av floor n info mode home (Some (Variable x)) (Some (l.Plain old)) value ls st hs f go go' next = b_free
    set_rel av floor n info mode home (Some (Constant x known)) (Some (l.Plain old)) value ls st hs f go go' next = b_free
    set_rel av floor n info mode home (Some (Constant x known)) (Some (l.Cell c)) value ls st hs f go go' next = absurd f
    set_rel av floor n info mode home (Some seat) None value ls st hs f go go' next = b_free
    set_rel av floor n info mode home None (Some local) value ls st hs f go go' next = absurd f
    set_rel av floor n info mode home None None value ls st hs f go go' next = b_free

    pub body_rel : (mode : Mode) (source : List t.Stmt) (scope : Names) (static : Scope) (frame : mean.Frame) (code : CodeKey) (b n ph : ℕ) (av : List ℕ)
        (floor : ℕ) → AreStated source static → Stands code b (statements (asked program) method inner scope b n source).blocks frame ph av floor
        (is_flat_body source) → LeavesOk mode frame ph av →
        (lv : mean.Allowance) (lv' : trees.Levels) → AreFine program lv → LevelsRel program lv lv' →
        (ls : List Slot) (st : mean.State) (hs : List trees.Closure) → IsHeap program st.heap → IsFrame st.heap static frame →
        Covers program st.heap n (needs_of (asked program) source) scope frame ls →
        (statements (asked program) method inner scope b n source).next ≤ length ls → (last : Value) → LastOk source last → Rel program av floor st hs →
        BodyRel program av floor n (statements (asked program) method inner scope b n source).info ls mode frame.home
        (mean.statements program source lv frame last st)
        (trees.statements (world program) mode (map (trees.statement (world program) (blocks program))
        (statements (asked program) method inner scope b n source).acts) ((place program well facts) code ph) lv' ls (beside st hs))
    body_rel mode [] scope static frame code b n ph av floor wr stands lo lv lv' fine r ls st hs is f cover long last lok h =
        subst (λ z. BodyRel program av floor n (exactly (codes "nil")) ls mode frame.home (mean.Gives z st) (Goes (nil program) ls (beside st hs)))
        (sym lok) (b_gives ls hs (agree_self n ls) (facts.object_class st.heap (codes "nil") is facts.nil_meant) h)
    body_rel mode (t.Let name part ∷ rest) scope static frame code b n ph av floor wr stands lo lv lv' fine r ls st hs is f cover long last lok h =
        let first = expression (asked program) method inner scope b (suc n) part in
        let scope2 = resolved.in_scope name (Constant n first.info) scope in
        let others = statements (asked program) method inner scope2 (b + length first.blocks) first.next rest in
        let grown = next_grows part scope b (suc n) in
        let grown2 = statements_grow rest scope2 (b + length first.blocks) first.next in
        subst (λ info. BodyRel program av floor n info ls mode frame.home (mean.statements program (t.Let name part ∷ rest) lv frame last st)
        (trees.statements (world program) mode (map (trees.statement (world program) (blocks program))
        (statements (asked program) method inner scope b n (t.Let name part ∷ rest)).acts) ((place program well facts) code ph) lv' ls (beside st hs)))
        (sym (rest_info rest scope2 (b + length first.blocks) first.next))
        (then_body program av floor n n first.info others.info ls mode frame.home st.heap (mean.expression program part lv frame st) _ _ _ (omega arith)
        (expression_fine program well lv fine part static wr.0.2 frame st is f)
        (expr_shift program av floor n (suc n) first.info ls ls _ _ (omega arith) (agree_self n ls)
        (expr_rel part scope static frame code b (suc n) ph av floor wr.0.2
        (stands_first code b first.blocks others.blocks frame ph av floor (is_flat part) (is_flat_body rest) stands) lv lv' fine r ls st hs is f
        (covers_on program (as_late st.heap) n (suc n) (omega arith) (needs (asked program) part) scope frame ls ls (agree_self n ls)
        (covers_front program st.heap n (needs (asked program) part) (needs_of (asked program) rest) scope frame ls cover))
        (omega (arith, long, grown2)) h))
        (λ value st2 is2 later sound hs2 ls1 same u h2.
        let k = stores n (Plain value) ls1 (omega (arith, long, grown, grown2, same.long)) in
        let go' : List Slot → trees.State → Done = trees.statements (world program) mode
        (map (trees.statement (world program) (blocks program)) others.acts) ((place program well facts) code ph) lv' in
        let go = mean.statements program rest lv (mean.in_scope frame name (l.Plain value)) (nil program) st2 in
        subst (λ o. BodyRel program av floor n others.info ls1 mode frame.home go (trees.if_stored o (beside st2 hs2) go')) (sym k.1.is)
        (body_shift program av floor n first.next others.info ls1 k.0 mode frame.home _ _ (omega (arith, grown))
        (agree_store n n (Plain value) ls1 ls1 k.0 (omega arith) (agree_self n ls1) k.1)
        (body_rel mode rest scope2 ((name, false) ∷ static) (mean.in_scope frame name (l.Plain value)) code
        (b + length first.blocks) first.next ph av floor wr.2
        (stands_scope code (b + length first.blocks) others.blocks frame name (l.Plain value) ph av floor (is_flat_body rest)
        (stands_rest code b first.blocks others.blocks frame ph av floor (is_flat part) (is_flat_body rest) stands))
        (leaves_scope mode frame name (l.Plain value) ph av lo) lv lv' fine r k.0 st2 hs2 is2 (let_frame (still_frame later f) name value wr.0.1 sound)
        (covers_name program st2.heap first.next (needs_of (asked program) rest) scope frame k.0 name (Constant n first.info) (l.Plain value)
        (omega (arith, grown), k.1.here, u)
        (covers_on program later n first.next (omega (arith, grown)) (needs_of (asked program) rest) scope frame ls k.0
        (agree_store n n (Plain value) ls ls1 k.0 (omega arith) same k.1)
        (covers_behind program st.heap n (needs (asked program) part) (needs_of (asked program) rest) scope frame ls cover)))
        (omega (arith, long, same.long, k.1.long)) (nil program) (last_nil rest) h2))))
    body_rel mode (t.LetVar name part ∷ rest) scope static frame code b n ph av floor wr stands lo lv lv' fine r ls st hs is f cover long last lok h =
        let first = expression (asked program) method inner scope b (suc n) part in
        let scope2 = resolved.in_scope name (Variable n) scope in
        let others = statements (asked program) method inner scope2 (b + length first.blocks) first.next rest in
        let grown = next_grows part scope b (suc n) in
        let grown2 = statements_grow rest scope2 (b + length first.blocks) first.next in
        subst (λ info. BodyRel program av floor n info ls mode frame.home (mean.statements program (t.LetVar name part ∷ rest) lv frame last st)
        (trees.statements (world program) mode (map (trees.statement (world program) (blocks program))
        (statements (asked program) method inner scope b n (t.LetVar name part ∷ rest)).acts) ((place program well facts) code ph) lv' ls (beside st hs)))
        (sym (rest_info rest scope2 (b + length first.blocks) first.next))
        (then_body program av floor n n first.info others.info ls mode frame.home st.heap (mean.expression program part lv frame st) _ _ _ (omega arith)
        (expression_fine program well lv fine part static wr.0.2 frame st is f)
        (expr_shift program av floor n (suc n) first.info ls ls _ _ (omega arith) (agree_self n ls)
        (expr_rel part scope static frame code b (suc n) ph av floor wr.0.2
        (stands_first code b first.blocks others.blocks frame ph av floor (is_flat part) (is_flat_body rest)
        (stands_more code b first.blocks others.blocks frame ph av floor (is_flat part) (is_flat_body rest) stands)) lv lv' fine r ls st hs is f
        (covers_on program (as_late st.heap) n (suc n) (omega arith) (needs (asked program) part) scope frame ls ls (agree_self n ls)
        (covers_front program st.heap n (needs (asked program) part) (needs_of (asked program) rest) scope frame ls cover))
        (omega (arith, long, grown2)) h))
        (λ value st2 is2 later sound hs2 ls1 same u h2.
        let cell = length st2.heap.cells in
        let k = stores n (Cell cell) ls1 (omega (arith, long, grown, grown2, same.long)) in
        let more = later_value st2.heap value in
        let later2 = later_on later more in
        let st3 : mean.State = mean.with_cell st2 value in
        let go' : List Slot → trees.State → Done = trees.statements (world program) mode
        (map (trees.statement (world program) (blocks program)) others.acts) ((place program well facts) code ph) lv' in
        let go = mean.statements program rest lv (mean.in_scope frame name (l.Cell cell)) (nil program) st3 in
        let h3 = rel_heap program av floor st2 hs2 st3.heap st2.lines more refl (record { at = h2.plain.at }) h2 in
        subst (λ o. BodyRel program av floor n others.info ls1 mode frame.home go (trees.if_stored o (beside st3 hs2) go')) (sym k.1.is)
        (body_shift program av floor n first.next others.info ls1 k.0 mode frame.home _ _ (omega (arith, grown))
        (agree_store n n (Cell cell) ls1 ls1 k.0 (omega arith) (agree_self n ls1) k.1)
        (body_rel mode rest scope2 ((name, true) ∷ static) (mean.in_scope frame name (l.Cell cell)) code (b + length first.blocks) first.next ph av floor wr.2
        (stands_scope code (b + length first.blocks) others.blocks frame name (l.Cell cell) ph av floor (is_flat_body rest)
        (stands_rest code b first.blocks others.blocks frame ph av floor (is_flat part) (is_flat_body rest)
        (stands_more code b first.blocks others.blocks frame ph av floor (is_flat part) (is_flat_body rest) stands)))
        (leaves_scope mode frame name (l.Cell cell) ph av lo) lv lv' fine r k.0 st3 hs2
        (heap_with_value program st2.heap value is2 sound) (var_frame (still_frame more (still_frame later f)) name cell
        (omega (arith, length_push st2.heap.cells value)))
        (covers_name program st3.heap first.next (needs_of (asked program) rest) scope frame k.0 name (Variable n) (l.Cell cell)
        (omega (arith, grown), k.1.here)
        (covers_on program later2 n first.next (omega (arith, grown)) (needs_of (asked program) rest) scope frame ls k.0
        (agree_store n n (Cell cell) ls ls1 k.0 (omega arith) same k.1)
        (covers_behind program st.heap n (needs (asked program) part) (needs_of (asked program) rest) scope frame ls cover)))
        (omega (arith, long, same.long, k.1.long)) (nil program) (last_nil rest) h3))))
    body_rel mode (t.Set name part ∷ rest) scope static frame code b n ph av floor wr stands lo lv lv' fine r ls st hs is f cover long last lok h =
        let first = expression (asked program) method inner scope b n part in
        let others = statements (asked program) method inner scope (b + length first.blocks) first.next rest in
        let grown = next_grows part scope b n in
        let grown2 = statements_grow rest scope (b + length first.blocks) first.next in
        let cover2 = covers_rest st.heap n (OfName name) (needs (asked program) part ++ needs_of (asked program) rest) scope frame ls cover in
        subst (λ info. BodyRel program av floor n info ls mode frame.home (mean.statements program (t.Set name part ∷ rest) lv frame last st)
        (trees.statements (world program) mode (map (trees.statement (world program) (blocks program))
        (statements (asked program) method inner scope b n (t.Set name part ∷ rest)).acts) ((place program well facts) code ph) lv' ls (beside st hs)))
        (sym (rest_info rest scope (b + length first.blocks) first.next))
        (then_body program av floor n first.next first.info others.info ls mode frame.home st.heap (mean.expression program part lv frame st) _ _ _ grown
        (expression_fine program well lv fine part static wr.0.2 frame st is f)
        (expr_rel part scope static frame code b n ph av floor wr.0.2 (stands_first code b first.blocks others.blocks frame ph av floor (is_flat part)
        (is_flat_body rest) stands) lv lv' fine r ls st hs is f
        (covers_front program st.heap n (needs (asked program) part) (needs_of (asked program) rest) scope frame ls cover2) (omega (arith, long, grown2)) h)
        (λ value st2 is2 later sound hs2 ls1 same u h2.
        let cover3 = covers_on program later n first.next grown (OfName name ∷
        (needs (asked program) part ++ needs_of (asked program) rest)) scope frame ls ls1 same cover in
        set_rel av floor first.next others.info mode frame.home (bound name scope.names) (mean.bound name frame.scope) value ls1 st2 hs2
        (cover3.has (OfName name) (inl refl))
        (mean.statements program rest lv frame (nil program)) (trees.statements (world program) mode
        (map (trees.statement (world program) (blocks program)) others.acts) ((place program well facts) code ph) lv')
        (λ j.
        let more = later_value_at st2.heap j value in
        let heap3 : Heap = record st2.heap { cells = slice_set st2.heap.cells j value } in
        let h3 = rel_heap program av floor st2 hs2 heap3 st2.lines more refl (record { at = h2.plain.at }) h2 in
        body_rel mode rest scope static frame code (b + length first.blocks) first.next ph av floor wr.2
        (stands_rest code b first.blocks others.blocks frame ph av floor (is_flat part) (is_flat_body rest) stands) lo lv lv' fine r ls1
        (record st2 { heap = heap3 }) hs2
        (heap_with_value_at program st2.heap j value is2 sound) (still_frame more (still_frame later f))
        (covers_on program (later_on later more) n first.next grown (needs_of (asked program) rest) scope frame ls ls1 same
        (covers_behind program st.heap n (needs (asked program) part) (needs_of (asked program) rest) scope frame ls cover2))
        (omega (arith, long, same.long)) (nil program) (last_nil rest) h3)))
    body_rel mode (t.Do part ∷ []) scope static frame code b n ph av floor wr stands lo lv lv' fine r ls st hs is f cover long last lok h =
        let first = expression (asked program) method inner scope b n part in
        last_rel av floor n first.info ls mode frame.home _ _
        (expr_rel part scope static frame code b n ph av floor wr.0 (stands_first code b first.blocks [] frame ph av floor
        (is_flat part) true stands) lv lv' fine r ls st hs is f
        (covers_front program st.heap n (needs (asked program) part) [] scope frame ls cover) long h)
    body_rel mode (t.Do part ∷ next ∷ rest) scope static frame code b n ph av floor wr stands lo lv lv' fine r ls st hs is f cover long last lok h =
        let first = expression (asked program) method inner scope b n part in
        let others = statements (asked program) method inner scope (b + length first.blocks) first.next (next ∷ rest) in
        let grown = next_grows part scope b n in
        let grown2 = statements_grow (next ∷ rest) scope (b + length first.blocks) first.next in
        then_body program av floor n first.next first.info others.info ls mode frame.home st.heap (mean.expression program part lv frame st) _ _ _ grown
        (expression_fine program well lv fine part static wr.0 frame st is f)
        (expr_rel part scope static frame code b n ph av floor wr.0 (stands_first code b first.blocks others.blocks frame ph av floor (is_flat part)
        (is_flat_body (next ∷ rest)) stands) lv lv' fine r ls st hs is f
        (covers_front program st.heap n (needs (asked program) part) (needs_of (asked program) (next ∷ rest)) scope frame ls cover)
        (omega (arith, long, grown2)) h)
        (λ value st2 is2 later sound hs2 ls1 same u h2.
        body_rel mode (next ∷ rest) scope static frame code (b + length first.blocks) first.next ph av floor wr.2
        (stands_rest code b first.blocks others.blocks frame ph av floor (is_flat part)
        (is_flat_body (next ∷ rest)) stands) lo lv lv' fine r ls1 st2 hs2 is2 (still_frame later f)
        (covers_on program later n first.next grown (needs_of (asked program) (next ∷ rest)) scope frame ls ls1 same
        (covers_behind program st.heap n (needs (asked program) part) (needs_of (asked program) (next ∷ rest)) scope frame ls cover))
        (omega (arith, long, same.long)) value tt h2)
    body_rel mode (t.Back part ∷ []) scope static frame code b n ph av floor wr stands lo lv lv' fine r ls st hs is f cover long last lok h =
        let first = expression (asked program) method inner scope b n part in
        then_body program av floor n first.next first.info first.info ls mode frame.home st.heap (mean.expression program part lv frame st) _ _ _
        (next_grows part scope b n)
        (expression_fine program well lv fine part static wr.0 frame st is f)
        (expr_rel part scope static frame code b n ph av floor wr.0 (stands_first code b first.blocks [] frame ph av floor
        (is_flat part) true stands) lv lv' fine r ls st hs is f
        (covers_front program st.heap n (needs (asked program) part) [] scope frame ls cover) long h)
        (λ value st2 is2 later sound hs2 ls1 same u h2. returning_rel mode av floor first.next first.info code frame ph value ls1 st2 hs2 lo u h2)
    body_rel mode (t.Back part ∷ next ∷ rest) scope static frame code b n ph av floor wr stands lo lv lv' fine r ls st hs is f cover long last lok h =
        absurd (false≢true (wr.1 refl))
