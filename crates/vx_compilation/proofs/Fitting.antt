-- Inlined calls in the trees of a program have as many formals as arguments.
use Rattle.std.proofs.Common.{◌==◌, ◌≡◌, ℕ, zero, suc, ◌+◌, ◌&&◌, Bool, true, false, if◌then◌else◌, List, [], ◌∷◌, ◌++◌, length, map, filter, Option}
use Rattle.std.proofs.Common.{Some, None, slice_get, refl, sym, ap, ◌∙◌, subst, arith}
use Rattle.std.specs.Prelude.{nat_le, ℤ, pos, int_div, int_rem, ◌+ℤ◌, ◌-ℤ◌, ◌*ℤ◌}
use Rattle.std.specs.Ordering.{int_eq}
use Rattle.std.specs.List.{find}
use Rattle.std.proofs.lemmas.Bool.{and_parts, false≢true}
use Rattle.vx_lists.proofs.Finding.{found_is}
use Rattle.vx_names.specs.declared.key.Selector.{Selector}
use Rattle.vx_names.specs.declared.key.MethodKey.{MethodKey}
use Rattle.vx_syntax.specs.declared.decl.Decl.{Decl}
use Rattle.vx_syntax.specs.declared.decl.Decl.TheVariants as d
use Rattle.vx_syntax.specs.declared.expr.Body.{Body}
use Rattle.vx_syntax.specs.declared.expr.Expr as x
use Rattle.vx_syntax.specs.declared.expr.Stmt as t
use Rattle.vx_syntax.specs.Counts.{size}
use Rattle.vx_syntax.specs.Expressions.{Bytes}
use Rattle.vx_program.specs.Program.{IsProgram}
use Rattle.vx_model.specs.declared.value.Value.{Value}
use Rattle.vx_model.specs.declared.value.Value.TheVariants as v
use Rattle.vx_model.specs.declared.report.RunError.{RunError}
use Rattle.vx_model.specs.declared.report.RunError.TheVariants as e
use Rattle.vx_model.specs.declared.primitives.Deed.{Deed}
use Rattle.vx_model.specs.declared.primitives.Deed.TheVariants.{Answers, Breaks, Lacks}
use Rattle.vx_node.specs.declared.node.Info.{Info}
use Rattle.vx_node.specs.declared.kind.Kind.{Kind}
use Rattle.vx_node.specs.declared.kind.Kind.TheVariants as kinds
use Rattle.vx_node.specs.declared.answer.Bound.{Bound}
use Rattle.vx_node.specs.declared.answer.Bound.TheVariants as b
use Rattle.vx_compilation.specs.declared.tree.TreeBlock.{TreeBlock}
use Rattle.vx_compilation.specs.declared.tree.Part as p
use Rattle.vx_compilation.specs.declared.tree.Act as a
use Rattle.vx_model.specs.Primitives.{Operation, Add, Subtract, Multiply, Divide, Remainder, Less, SameNumber, SameString, Join, Same, PrintNumber}
use Rattle.vx_model.specs.Primitives.{PrintString, Evaluate, Repeat, operations, deed, of_numbers, of_strings, two_numbers, two_strings}
use Rattle.vx_model.specs.Primitives as pr
use Rattle.vx_model.specs.Values.{truth}
use Rattle.vx_model.specs.Meaning as mean
use Rattle.vx_compilation.specs.Fits.{Fits, FitAll, FitNew, FitBody, FitAct, FitActs, FitBlock, AllFit, IsGiven, IsGivenBy, AllGiven, count}
use Rattle.vx_compilation.specs.Binding.{Order, at_each, is_sure, is_candidate, is_bound_to, chosen, bind}
use Rattle.vx_compilation.specs.Inlining.{inline, inlined_size, is_flat_body}
use Rattle.vx_compilation.specs.Resolved as resolved
use Rattle.vx_compilation.specs.Resolved.{Seat, Names, bound, Resolved, Parts, Fields, Statements, Inlined, Inner, nothing, inner_at, inlined}
use Rattle.vx_compilation.specs.Resolved.{numbers, expression, parts, fields, statement, body, statements, called, bound_as, over, acts_row}
use Rattle.vx_compilation.specs.Resolved.{shape_of, seats_row, seat_parts, info_of, fault, closed_scope, captures, needs_of_body, argument_infos}
use Rattle.vx_model.specs.Kinds.{maker, source_by}
use Rattle.vx_compilation.specs.Compiled.{asked, blocks, world, order, heads}
use mathlib.Core.Former.{this, list_count}
use Rattle.vx_compilation.proofs.Sending.{Facts}
use Rattle.vx_compilation.proofs.Entering.{source_is, asked_inline}
use Rattle.vx_compilation.proofs.Asked.{asked_bind}

-- ---- binding gives methods of as many arguments

each_count : (ord : Order) (infos : List Info) (xs : List Bytes) → at_each (is_sure ord) infos xs ≡ true → length infos ≡ length xs
each_count ord [] [] h = refl
each_count ord [] (x ∷ xs) h = absurd (false≢true h)
each_count ord (info ∷ infos) [] h = absurd (false≢true h)
each_count ord (info ∷ infos) (x ∷ xs) h = ap suc (each_count ord infos xs (and_parts (is_sure ord info x) (at_each (is_sure ord) infos xs) h).1)

bind_count : (ord : Order) (hs : List (MethodKey × Kind)) (infos : List Info) (below : Option MethodKey) (key : MethodKey) (own : Kind) →
    bind ord hs infos below ≡ b.One key own → length infos ≡ length key.specialisers
bind_count ord [] infos below key own e = absurd (cc)
bind_count ord (head ∷ hs) infos below key own e = by (find test cands) refl e
  where
    cands : List (MethodKey × Kind)
    cands = filter (is_candidate ord below) (head ∷ hs)

    test : MethodKey × Kind → Bool
    test = is_bound_to ord infos (filter (is_candidate ord below) (head ∷ hs))

    by : (o : Option (MethodKey × Kind)) → find (is_bound_to ord infos (filter (is_candidate ord below) (head ∷ hs)))
        (filter (is_candidate ord below) (head ∷ hs)) ≡ o → chosen o ≡ b.One key own → length infos ≡ length key.specialisers
    by None f e = absurd (cc)
    by (Some one) f e =
        let same : one.0 ≡ key = cc in
        let is = found_is (is_bound_to ord infos (filter (is_candidate ord below) (head ∷ hs))) (filter (is_candidate ord below) (head ∷ hs)) one f in
        each_count ord infos one.0.specialisers (and_parts (at_each (is_sure ord) infos one.0.specialisers) _ is.1).0 ∙
        ap (λ (z : MethodKey). length z.specialisers) same

abbrev AllActs : List TreeBlock → Type 0
AllActs [] = Unit {0}
AllActs (own ∷ rest) = FitActs own.acts × AllActs rest

all_join : (xs ys : List TreeBlock) → AllActs xs → AllActs ys → AllActs (xs ++ ys)
all_join [] ys g h = h
all_join (own ∷ xs) ys g h = (g.0, all_join xs ys g.1 h)

all_block : (xs : List TreeBlock) (j : ℕ) → AllActs xs → FitBlock (slice_get xs j)
all_block [] j h = tt
all_block (own ∷ xs) zero h = h.0
all_block (own ∷ xs) (suc j) h = all_block xs j h.1

row_fits : (acts : List a.Act) → FitActs acts → FitBody (acts_row acts)
row_fits [] h = tt
row_fits (act ∷ rest) h = (h.0, row_fits rest h.1)

seats_fit : (seats : List Seat) → FitAll (seats_row seats)
seats_fit [] = tt
seats_fit (resolved.Constant local info ∷ seats) = (tt, seats_fit seats)
seats_fit (resolved.Variable local ∷ seats) = (tt, seats_fit seats)

seats_count : (seats : List Seat) → length (count (seats_row seats)) ≡ length (map info_of seats)
seats_count [] = refl
seats_count (seat ∷ seats) = ap suc (seats_count seats)

length_numbers : (n j : ℕ) → length (numbers n j) ≡ j
length_numbers n zero = refl
length_numbers n (suc j) = ap suc (length_numbers (suc n) j)

module _ (program : List Decl) (well : IsProgram program) (facts : Facts program) where
  asked_count : (selector : Selector) (infos : List Info) (below : Option MethodKey) (key : MethodKey) (own : Kind) →
      (asked program).bind selector infos below ≡ b.One key own → length infos ≡ length key.specialisers
  asked_count selector infos below key own e = bind_count (order program) (heads program selector) infos below key own
      (sym (asked_bind program selector infos below) ∙ e)

  -- what is inlined fits
  abbrev InnerFits : Inner → Type 0
  InnerFits inner = (key : MethodKey) (infos : List Info) (n : ℕ) (own : Inlined) → inner key infos n ≡ Some own →
      (length own.xs ≡ length key.specialisers) × FitActs own.acts

  called_fits : (inner : Inner) → InnerFits inner → (key : MethodKey) (shape : List (Unit {0})) (all : Parts (list_count (this {0}) shape 0)) →
      FitAll all.row → length (count all.row) ≡ length all.infos → length all.infos ≡ length key.specialisers → (o : Option Inlined) →
      inner key all.infos all.next ≡ o →
      Fits (called (asked program) key shape all o).part
  called_fits inner ok key shape all h n same None e = h
  called_fits inner ok key shape all h n same (Some own) e = let r = ok key all.infos all.next own e in (h, r.0 ∙ sym same ∙ sym n, row_fits own.acts r.1)

  bound_fits : (inner : Inner) → InnerFits inner → (selector : Selector) (sending : p.Part) → Fits sending →
      (shape : List (Unit {0})) (all : Parts (list_count (this {0}) shape 0)) → FitAll all.row → length (count all.row) ≡ length all.infos →
      (below : Option MethodKey) (own : Bound) → (asked program).bind selector all.infos below ≡ own →
      Fits (bound_as (asked program) inner selector sending shape all own).part
  bound_fits inner ok selector sending hs shape all h n below b.Nobody e = h
  bound_fits inner ok selector sending hs shape all h n below b.Open e = hs
  bound_fits inner ok selector sending hs shape all h n below (b.One key (kinds.Prim number)) e = h
  bound_fits inner ok selector sending hs shape all h n below (b.One key (kinds.Get field)) e = h
  bound_fits inner ok selector sending hs shape all h n below (b.One key (kinds.Set field)) e = h
  bound_fits inner ok selector sending hs shape all h n below (b.One key kinds.Source) e =
      called_fits inner ok key shape all h n (asked_count selector all.infos below key kinds.Source e) (inner key all.infos all.next) refl

  called_blocks : (key : MethodKey) (shape : List (Unit {0})) (all : Parts (list_count (this {0}) shape 0)) → AllActs all.blocks → (o : Option Inlined) →
      AllActs (called (asked program) key shape all o).blocks
  called_blocks key shape all h None = h
  called_blocks key shape all h (Some own) = h

  bound_blocks : (inner : Inner) (selector : Selector) (sending : p.Part) (shape : List (Unit {0})) (all : Parts (list_count (this {0}) shape 0)) →
      AllActs all.blocks → (own : Bound) → AllActs (bound_as (asked program) inner selector sending shape all own).blocks
  bound_blocks inner selector sending shape all h b.Nobody = h
  bound_blocks inner selector sending shape all h b.Open = h
  bound_blocks inner selector sending shape all h (b.One key (kinds.Prim number)) = h
  bound_blocks inner selector sending shape all h (b.One key (kinds.Get field)) = h
  bound_blocks inner selector sending shape all h (b.One key (kinds.Set field)) = h
  bound_blocks inner selector sending shape all h (b.One key kinds.Source) = called_blocks key shape all h (inner key all.infos all.next)

  nothing_fits : InnerFits nothing
  nothing_fits key infos n own e = absurd (let no : ⊥ = cc in no)

  named_fits : (name : Bytes) (n : ℕ) (o : Option Seat) → Fits (resolved.named (asked program) name o n).part ×
      AllActs (resolved.named (asked program) name o n).blocks
  named_fits name n (Some (resolved.Constant local info)) = (tt, tt)
  named_fits name n (Some (resolved.Variable local)) = (tt, tt)
  named_fits name n None = by _
    where
      by : (so : Bool) → Fits (if so then resolved.leaf (p.Object name) (resolved.exactly name) n else resolved.failing (e.UnknownObject name) n).part ×
          AllActs (if so then resolved.leaf (p.Object name) (resolved.exactly name) n else resolved.failing (e.UnknownObject name) n).blocks
      by true = (tt, tt)
      by false = (tt, tt)

  made_fits : (o : Option RunError) (class : Bytes) (n : ℕ) (shape : List (Unit {0})) (all : Fields (list_count (this {0}) shape 0)) → FitNew all.row →
      AllActs all.blocks → Fits (resolved.made o class n shape all).part × AllActs (resolved.made o class n shape all).blocks
  made_fits None class n shape all h g = (h, g)
  made_fits (Some error) class n shape all h g = (tt, tt)

  module _ (method : MethodKey) (inner : Inner) (ok : InnerFits inner) where
    count_parts : {j : _} (row : x.Row_of-Expr j) (scope : Names) (block n : ℕ) →
        length (count (parts (asked program) method inner scope block n row).row) ≡ length (parts (asked program) method inner scope block n row).infos
    count_parts x.end_of-Expr scope block n = refl
    count_parts (x.more_of-Expr own rest) scope block n = let first = expression (asked program) method inner scope block n own in
        ap suc (count_parts rest scope (block + length first.blocks) first.next)

    mutual
      expression_fits : (own : x.Expr) (scope : Names) (block n : ℕ) → Fits (expression (asked program) method inner scope block n own).part ×
          AllActs (expression (asked program) method inner scope block n own).blocks
      expression_fits (x.Int j) scope block n = (tt, tt)
      expression_fits (x.Text bytes) scope block n = (tt, tt)
      expression_fits (x.Name name) scope block n = named_fits name n (bound name scope.names)
      expression_fits (x.Send' selector shape row) scope block n =
          let all = parts (asked program) method inner scope block n row in
          let h = parts_fit row scope block n in
          let own = (asked program).bind selector all.infos None in (
            bound_fits inner ok selector (p.Send' selector shape all.row) h.0 shape all h.0
                (count_parts row scope block n) None own refl,
            bound_blocks inner selector (p.Send' selector shape all.row) shape all h.1 own,
          )
      expression_fits (x.Closure' formals shape row) scope block n =
          let xs = captures scope (needs_of_body (asked program) row) in
          (tt, body_fits row (closed_scope xs formals scope) (suc block) (length xs + length formals))
      expression_fits (x.New' class shape row) scope block n =
          let h = fields_fit row scope class block n in
          made_fits (fault (asked program) class (mean.field_names row)) class n shape (fields (asked program) method inner scope class block n row) h.0 h.1
      expression_fits x.Resend scope block n =
          let seats = scope.formals in
          let all = seat_parts seats n in
          let own = (asked program).bind method.selector (map info_of seats) (Some method) in
          let sending = p.Resend' method (resolved.row_of (asked program) method) (shape_of seats) (seats_row seats) in (
            bound_fits nothing nothing_fits method.selector sending (seats_fit seats) (shape_of seats) all (seats_fit seats) (seats_count seats)
                (Some method) own refl,
            bound_blocks nothing method.selector sending (shape_of seats) all tt own,
          )

      parts_fit : {j : _} (row : x.Row_of-Expr j) (scope : Names) (block n : ℕ) →
          FitAll (parts (asked program) method inner scope block n row).row × AllActs (parts (asked program) method inner scope block n row).blocks
      parts_fit x.end_of-Expr scope block n = (tt, tt)
      parts_fit (x.more_of-Expr own rest) scope block n =
          let first = expression (asked program) method inner scope block n own in
          let g = expression_fits own scope block n in
          let h = parts_fit rest scope (block + length first.blocks) first.next in
          ((g.0, h.0), all_join first.blocks (parts (asked program) method inner scope (block + length first.blocks) first.next rest).blocks g.1 h.1)

      fields_fit : {j : _} (row : x.Row_of-Expr-New-1-2 j) (scope : Names) (class : Bytes) (block n : ℕ) →
          FitNew (fields (asked program) method inner scope class block n row).row ×
          AllActs (fields (asked program) method inner scope class block n row).blocks
      fields_fit x.end_of-Expr-New-1-2 scope class block n = (tt, tt)
      fields_fit (x.more_of-Expr-New-1-2 name own rest) scope class block n =
          let first = expression (asked program) method inner scope block n own in
          let g = expression_fits own scope block n in
          let h = fields_fit rest scope class (block + length first.blocks) first.next in
          ((g.0, h.0), all_join first.blocks (fields (asked program) method inner scope class (block + length first.blocks) first.next rest).blocks g.1 h.1)

      body_fits : {j : _} (row : x.Row_of-Stmt j) (scope : Names) (block n : ℕ) →
          FitActs (body (asked program) method inner scope block n row).acts × AllActs (body (asked program) method inner scope block n row).blocks
      body_fits x.end_of-Stmt scope block n = (tt, tt)
      body_fits (x.more_of-Stmt own rest) scope block n =
          let first = statement (asked program) method inner scope block n own in
          let g = statement_fits own scope block n in
          let h = body_fits rest first.scope (block + length first.blocks) first.next in
          ((g.0, h.0), all_join first.blocks (body (asked program) method inner first.scope (block + length first.blocks) first.next rest).blocks g.1 h.1)

      statement_fits : (own : t.Stmt) (scope : Names) (block n : ℕ) → FitAct (statement (asked program) method inner scope block n own).act ×
          AllActs (statement (asked program) method inner scope block n own).blocks
      statement_fits (t.Let name part) scope block n = expression_fits part scope block (suc n)
      statement_fits (t.LetVar name part) scope block n = expression_fits part scope block (suc n)
      statement_fits (t.Set name part) scope block n = expression_fits part scope block n
      statement_fits (t.Do part) scope block n = expression_fits part scope block n
      statement_fits (t.Back part) scope block n = expression_fits part scope block n

    statements_fit : (own : List t.Stmt) (scope : Names) (block n : ℕ) →
        FitActs (statements (asked program) method inner scope block n own).acts ×
        AllActs (statements (asked program) method inner scope block n own).blocks
    statements_fit [] scope block n = (tt, tt)
    statements_fit (own ∷ rest) scope block n =
        let first = statement (asked program) method inner scope block n own in
        let g = statement_fits own scope block n in
        let h = statements_fit rest first.scope (block + length first.blocks) first.next in
        ((g.0, h.0), all_join first.blocks (statements (asked program) method inner first.scope (block + length first.blocks) first.next rest).blocks g.1 h.1)

  -- ---- at each depth

  some_in : (i j : Inlined) → Some i ≡ Some j → i ≡ j
  some_in i j e = ap (λ (o : Option Inlined). elim o [ Some z ↦ z | None ↦ i ]) e

  inline_if : (inner : Inner) → InnerFits inner → (key own : MethodKey) (infos : List Info) (n : ℕ) (formals : List (Option Bytes)) (source : Body) →
      maker program key ≡ Some (d.Method own formals source) → (so : Bool) (i : Inlined) →
      inlined (asked program) inner key (if so then Some (record { formals = formals; body = source }) else None) infos n ≡ Some i →
      (length i.xs ≡ length key.specialisers) × FitActs i.acts
  inline_if inner ok key own infos n formals source is false i e = absurd (let no : ⊥ = cc in no)
  inline_if inner ok key own infos n formals source is true i e =
      subst (λ (z : Inlined). (length z.xs ≡ length key.specialisers) × FitActs z.acts) (some_in _ i e) (
        length_numbers n (length formals) ∙ (source_is program well facts key own formals source is).0,
        (statements_fit key inner ok source.0 (resolved.formal_scope n formals infos) 1 (n + length formals)).0,
      )

  inline_by : (inner : Inner) → InnerFits inner → (key : MethodKey) (infos : List Info) (n : ℕ) (o : Option Decl) → maker program key ≡ o → (i : Inlined) →
      inlined (asked program) inner key (inline (source_by o)) infos n ≡ Some i → (length i.xs ≡ length key.specialisers) × FitActs i.acts
  inline_by inner ok key infos n None is i e = absurd (let no : ⊥ = cc in no)
  inline_by inner ok key infos n (Some (d.Object x parents)) is i e = absurd (let no : ⊥ = cc in no)
  inline_by inner ok key infos n (Some (d.Predicate x parents test)) is i e = absurd (let no : ⊥ = cc in no)
  inline_by inner ok key infos n (Some (d.Field field start changeable)) is i e = absurd (let no : ⊥ = cc in no)
  inline_by inner ok key infos n (Some (d.Method own formals source)) is i e =
      inline_if inner ok key own infos n formals source is (nat_le (size source) inlined_size && is_flat_body source.0) i e

  inner_fits : (depth : ℕ) → InnerFits (inner_at (asked program) depth)
  inner_fits zero = nothing_fits
  inner_fits (suc depth) = λ key infos n i e. inline_by (inner_at (asked program) depth) (inner_fits depth) key infos n (maker program key) refl i
      (ap (λ z. inlined (asked program) (inner_at (asked program) depth) key z infos n) (sym (asked_inline program well facts key)) ∙ e)

  source_fits : (key : MethodKey) (infos : List Info) (o : Option _) (j : ℕ) → FitBlock (slice_get (resolved.source_blocks (asked program) key infos o) j)
  source_fits key infos None j = tt
  source_fits key infos (Some own) j =
      let h = statements_fit key (inner_at (asked program) 2) (inner_fits 2) own.body.0 (resolved.formal_scope 0 own.formals infos) 1 (length own.formals) in
      all_block (resolved.source_blocks (asked program) key infos (Some own)) j (h.0, h.1)

  pub all_fit : AllFit (blocks program)
  all_fit code j = source_fits code.method (argument_infos (asked program) code.method code.variant) ((asked program).body code.method) j

-- ---- primitives have what they evaluate among their arguments

module _ (program : List Decl) (values : List Value) where
  abbrev Given : Deed → Type 0
  Given what = IsGiven what values

  number_given : (n : ℤ) → Given (pr.number n)
  number_given n = by (pr.fits n)
    where
      by : (so : Bool) → Given (if so then Answers (v.Int n) else Breaks e.Overflow)
      by true = tt
      by false = tt

  or_zero : (what : Deed) → Given what → (so : Bool) → Given (if so then Breaks e.DivideByZero else what)
  or_zero what h true = tt
  or_zero what h false = h

  numbers_given : (does : ℤ → ℤ → Deed) → ((a b : ℤ) → Given (does a b)) → (o : Option (ℤ × ℤ)) → Given (of_numbers does o)
  numbers_given does h None = tt
  numbers_given does h (Some two) = h two.0 two.1

  strings_given : (does : Bytes → Bytes → Deed) → ((a b : Bytes) → Given (does a b)) → (o : Option (Bytes × Bytes)) → Given (of_strings does o)
  strings_given does h None = tt
  strings_given does h (Some two) = h two.0 two.1

  joined_given : (a b : Bytes) → Given (pr.joined a b)
  joined_given a b = by (nat_le (length a + length b) 65536)
    where
      by : (so : Bool) → Given (if so then Answers (v.Text (a ++ b)) else Breaks e.StringLimit)
      by true = tt
      by false = tt

same_given : (program : List Decl) (values : List Value) → IsGiven (pr.same (truth program) values) values
same_given program [] = tt
same_given program (a ∷ []) = tt
same_given program (a ∷ b ∷ []) = tt
same_given program (a ∷ b ∷ other ∷ more) = tt

print_number_given : (values : List Value) → IsGiven (pr.print_number values) values
print_number_given [] = tt
print_number_given (v.Int n ∷ []) = tt
print_number_given (v.Int n ∷ other ∷ more) = tt
print_number_given (v.Text bytes ∷ more) = tt
print_number_given (v.Closure n ∷ more) = tt
print_number_given (v.Object n ∷ more) = tt

print_string_given : (values : List Value) → IsGiven (pr.print_string values) values
print_string_given [] = tt
print_string_given (v.Text bytes ∷ []) = tt
print_string_given (v.Text bytes ∷ other ∷ more) = tt
print_string_given (v.Int n ∷ more) = tt
print_string_given (v.Closure n ∷ more) = tt
print_string_given (v.Object n ∷ more) = tt

evaluate_given : (values : List Value) → IsGiven (pr.evaluate values) values
evaluate_given [] = tt
evaluate_given (v.Closure n ∷ more) = omega arith
evaluate_given (v.Int n ∷ more) = tt
evaluate_given (v.Text bytes ∷ more) = tt
evaluate_given (v.Object n ∷ more) = tt

repeat_given : (values : List Value) → IsGiven (pr.repeat values) values
repeat_given [] = tt
repeat_given (v.Closure n ∷ []) = omega arith
repeat_given (v.Closure n ∷ other ∷ more) = tt
repeat_given (v.Int n ∷ more) = tt
repeat_given (v.Text bytes ∷ more) = tt
repeat_given (v.Object n ∷ more) = tt

deed_given : (program : List Decl) (operation : Operation) (values : List Value) → IsGiven (deed program operation values) values
deed_given program Add values = numbers_given program values (λ a b. pr.number (a +ℤ b)) (λ a b. number_given program values (a +ℤ b)) (two_numbers values)
deed_given program Subtract values = numbers_given program values (λ a b. pr.number (a -ℤ b)) (λ a b. number_given program values (a -ℤ b)) (two_numbers values)
deed_given program Multiply values = numbers_given program values (λ a b. pr.number (a *ℤ b)) (λ a b. number_given program values (a *ℤ b)) (two_numbers values)
deed_given program Divide values = numbers_given program values pr.divided
    (λ a b. or_zero program values (pr.number (int_div a b)) (number_given program values (int_div a b)) (int_eq b (pos 0))) (two_numbers values)
deed_given program Remainder values = numbers_given program values pr.remainder
    (λ a b. or_zero program values (pr.number (int_rem a b)) (number_given program values (int_rem a b)) (int_eq b (pos 0))) (two_numbers values)
deed_given program Less values = numbers_given program values _ (λ a b. tt) (two_numbers values)
deed_given program SameNumber values = numbers_given program values _ (λ a b. tt) (two_numbers values)
deed_given program SameString values = strings_given program values _ (λ a b. tt) (two_strings values)
deed_given program Join values = strings_given program values pr.joined (joined_given program values) (two_strings values)
deed_given program Same values = same_given program values
deed_given program PrintNumber values = print_number_given values
deed_given program PrintString values = print_string_given values
deed_given program Evaluate values = evaluate_given values
deed_given program Repeat values = repeat_given values

pub all_given : (program : List Decl) → AllGiven (world program)
all_given program number values = at (slice_get pr.counts number)
  where
    by : (o : Option Operation) → IsGiven (elim o [ Some operation ↦ deed program operation values | None ↦ Lacks ]) values
    by None = tt
    by (Some operation) = deed_given program operation values

    so : (b : Bool) → IsGivenBy (if b then Some (pr.performed (truth program) number values) else None) values
    so true = by (slice_get operations number)
    so false = tt

    at : (o : Option ℕ) →
        IsGivenBy (elim o [ Some count ↦ if count == length values then Some (pr.performed (truth program) number values) else None | None ↦ None ]) values
    at None = tt
    at (Some count) = so (count == length values)
