-- What is known of values is true: of arguments, of named objects, and of what primitives give.
use Rattle.std.proofs.Common.{◌≡◌, inl, ℕ, zero, suc, ◌+◌, ◌<◌, Bool, true, false, if◌then◌else◌, List, [], ◌∷◌, ◌++◌, length, map, codes, Option}
use Rattle.std.proofs.Common.{Some, None, slice_get, refl, sym, ap, ◌∙◌, subst, arith}
use Rattle.std.specs.Prelude.{ℤ, pos, int_lt, int_div, int_rem, nat_le, ◌+ℤ◌, ◌-ℤ◌, ◌*ℤ◌}
use Rattle.std.specs.List.{position_or_len}
use Rattle.std.specs.Ordering.{int_eq}
use Rattle.std.specs.Str.{bytes_eq}
use Rattle.std.proofs.lemmas.Bool.{and_parts}
use Rattle.vx_lists.specs.Members.{IsIn}
use Rattle.vx_lists.proofs.Texts.{bytes_same}
use Rattle.vx_names.specs.declared.key.MethodKey.{MethodKey}
use Rattle.vx_syntax.specs.declared.decl.Decl.{Decl}
use Rattle.vx_syntax.specs.declared.decl.Decl.TheVariants as d
use Rattle.vx_syntax.specs.Expressions.{Bytes}
use Rattle.vx_syntax.specs.Declarations.{any}
use Rattle.vx_program.specs.Prelude.{prelude}
use Rattle.vx_program.specs.Program.{IsProgram, here, up, is_name_of}
use Rattle.vx_model.specs.declared.value.Value.{Value}
use Rattle.vx_model.specs.declared.value.Value.TheVariants as v
use Rattle.vx_model.specs.declared.value.Thing.{Thing}
use Rattle.vx_model.specs.declared.value.Heap.{Heap}
use Rattle.vx_model.specs.declared.report.RunError.TheVariants as e
use Rattle.vx_model.specs.declared.primitives.Deed.{Deed}
use Rattle.vx_model.specs.declared.primitives.Deed.TheVariants.{Answers, Breaks}
use Rattle.vx_node.specs.declared.node.Info.{Info}
use Rattle.vx_node.specs.declared.node.Info.TheVariants as i
use Rattle.vx_node.specs.declared.node.Variant.TheVariants as c
use Rattle.vx_model.specs.Order.{plain_names, base, cone}
use Rattle.vx_model.specs.Holds.{class_of, holds}
use Rattle.vx_model.specs.Lookup.{are_held}
use Rattle.vx_model.specs.Values.{object, nil, truth, is_meant}
use Rattle.vx_model.specs.Primitives.{Operation, Evaluate, operations, deed, fits, number, divided, remainder, joined, same, same_value, two_numbers}
use Rattle.vx_model.specs.Primitives.{two_strings, of_numbers, of_strings, print_number, print_string, evaluate, repeat}
use Rattle.vx_compilation.specs.Infos.{formal_info, cone_of}
use Rattle.vx_compilation.specs.Resolved.{argument_infos, exactly, primitive_infos}
use Rattle.vx_compilation.specs.Compiled.{asked}
use Rattle.vx_model.proofs.Sound.{class, IsSound, AreSound, IsHeap}
use Rattle.vx_model.proofs.Things.{placed, named_classes, meant, nil_there, true_there, false_there}
use Rattle.vx_model.proofs.Bases.{base_is, in_plain}
use Rattle.vx_model.proofs.Cones.{is_cone}
use Rattle.vx_compilation.proofs.Covers.{HasClass, has_class, Suits, AllSuit, all_fit}
use Rattle.vx_compilation.proofs.Relations.{AllPlain}
use Rattle.vx_compilation.proofs.Asked.{chains, bound_nobody, found_held, lookup_same}
use Rattle.vx_compilation.proofs.BindingSound.{class_plain, base_below, bound_one}
use Rattle.vx_compilation.specs.BindingIsSound.{ThingsArePlain, IsThere, AreThere}
use Rattle.vx_compilation.proofs.Sending.{DeedSuits, Facts}

module _ (program : List Decl) (well : IsProgram program) where
  -- ---- named objects

  object_class : (heap : Heap) (name : Bytes) → IsHeap program heap → is_meant program name ≡ true → HasClass heap (object program name) name
  object_class heap name is h =
      let both = and_parts (is_name_of (plain_names program) name) _ h in
      is.begun.objects (position_or_len (λ y. bytes_eq y name) (plain_names program)) name
      (ap (λ (ys : List Bytes). slice_get ys (position_or_len (λ y. bytes_eq y name) (plain_names program))) (named_classes program (plain_names program)) ∙
      placed (plain_names program) name both.0)

  nil_meant : is_meant program (codes "nil") ≡ true
  nil_meant = meant program well (codes "nil") (any ∷ []) nil_there refl

  truth_class : (heap : Heap) → IsHeap program heap → (b : Bool) → Suits program heap (i.Cone (codes "bool")) (truth program b)
  truth_class heap is true = (
    codes "true",
    object_class heap (codes "true") is
        (meant program well (codes "true") (codes "bool" ∷ []) true_there refl),
    below (codes "true") true_there,
  )
    where
      below : (x : Bytes) → IsIn (d.Object x (codes "bool" ∷ [])) prelude → IsIn x (cone program (codes "bool"))
      below x j =
          let own = well.has_prelude (d.Object x (codes "bool" ∷ [])) j in
          is_cone program chains x (codes "bool") (in_plain program x (codes "bool" ∷ []) own)
          (up (d.Object x (codes "bool" ∷ [])) (codes "bool") own (bytes_same x x refl) (inl refl) here)
  truth_class heap is false = (
    codes "false",
    object_class heap (codes "false") is
        (meant program well (codes "false") (codes "bool" ∷ []) false_there refl),
    below (codes "false") false_there,
  )
    where
      below : (x : Bytes) → IsIn (d.Object x (codes "bool" ∷ [])) prelude → IsIn x (cone program (codes "bool"))
      below x j =
          let own = well.has_prelude (d.Object x (codes "bool" ∷ [])) j in
          is_cone program chains x (codes "bool") (in_plain program x (codes "bool" ∷ []) own)
          (up (d.Object x (codes "bool" ∷ [])) (codes "bool") own (bytes_same x x refl) (inl refl) here)

  -- ---- arguments

  there_of : (heap : Heap) (value : Value) → IsSound heap value → IsThere heap value
  there_of heap (v.Int n) s = tt
  there_of heap (v.Text bytes) s = tt
  there_of heap (v.Closure n) s = tt
  there_of heap (v.Object n) s = within heap.objects n s.0 s.1
    where
      within : (objects : List Thing) (j : ℕ) (x : Bytes) → slice_get (map class objects) j ≡ Some x → j < length objects
      within [] j x e = absurd (let no : ⊥ = cc in no)
      within (own ∷ objects) zero x e = omega arith
      within (own ∷ objects) (suc j) x e = omega (arith, within objects j x e)

  all_there : (heap : Heap) (values : List Value) → AreSound heap values → AreThere heap values
  all_there heap [] s = tt
  all_there heap (value ∷ values) s = (there_of heap value s.0, all_there heap values s.1)

  things_plain : (heap : Heap) → AllPlain program heap → ThingsArePlain program heap
  things_plain heap all j thing e = all.at j thing.class (at heap.objects j thing e)
    where
      at : (objects : List Thing) (k : ℕ) (one : Thing) → slice_get objects k ≡ Some one → slice_get (map class objects) k ≡ Some one.class
      at [] k one f = absurd (let no : ⊥ = cc in no)
      at (own ∷ objects) zero one f = let same : own ≡ one = cc in ap (λ (z : Thing). Some z.class) same
      at (own ∷ objects) (suc k) one f = at objects k one f

  cone_suits : (heap : Heap) → AllPlain program heap → (value : Value) (x z : Bytes) → IsSound heap value → holds program heap value x ≡ true →
      base program x ≡ Some z → (so : Bool) → Suits program heap (if so then i.Any else i.Cone z) value
  cone_suits heap all value x z s h e true = tt
  cone_suits heap all value x z s h e false =
      let plain = things_plain heap all in (
        class_of heap value,
        has_class heap value s,
        is_cone program chains (class_of heap value) z
            (class_plain program well heap plain value (there_of heap value s))
            (base_below program well heap plain value (base_is program well chains x z e) h),
      )

  base_suits : (heap : Heap) → AllPlain program heap → (value : Value) (x : Bytes) → IsSound heap value → holds program heap value x ≡ true →
      (o : Option Bytes) → base program x ≡ o → Suits program heap (elim o [ Some z ↦ cone_of z | None ↦ i.Any ]) value
  base_suits heap all value x s h None e = tt
  base_suits heap all value x s h (Some z) e = cone_suits heap all value x z s h e (bytes_eq z any)

  formal_suits : (heap : Heap) → AllPlain program heap → (value : Value) (x : Bytes) → IsSound heap value → holds program heap value x ≡ true →
      (so : Bool) → Suits program heap (if so then i.Any else elim (base program x) [ Some z ↦ cone_of z | None ↦ i.Any ]) value
  formal_suits heap all value x s h true = tt
  formal_suits heap all value x s h false = base_suits heap all value x s h (base program x) refl

  all_formals_suit : (heap : Heap) → AllPlain program heap → (values : List Value) (xs : List Bytes) → AreSound heap values →
      are_held program heap values xs ≡ true → AllSuit program heap (map (formal_info (base program)) xs) values
  all_formals_suit heap all [] [] s h = tt
  all_formals_suit heap all [] (x ∷ xs) s h = let no : ⊥ = cc in absurd no
  all_formals_suit heap all (value ∷ values) [] s h = let no : ⊥ = cc in absurd no
  all_formals_suit heap all (value ∷ values) (x ∷ xs) s h =
      let two = and_parts (holds program heap value x) (are_held program heap values xs) h in
      (formal_suits heap all value x s.0 two.0 (bytes_eq x any), all_formals_suit heap all values xs s.1 two.1)

  asked_infos : (key : MethodKey) → argument_infos (asked program) key c.General ≡ map (formal_info (base program)) key.specialisers
  unfolding asked
  asked_infos key = refl

  -- ---- primitives

  module _ (heap : Heap) (is : IsHeap program heap) where
    abbrev OpSuits : Operation → Info → Type 0
    OpSuits operation info = (values : List Value) → AreSound heap values → DeedSuits program heap info (deed program operation values)

    number_if : (n : ℤ) (so : Bool) → DeedSuits program heap (exactly (codes "int")) (if so then Answers (v.Int n) else Breaks e.Overflow)
    number_if n true = refl
    number_if n false = tt

    number_suits : (n : ℤ) → DeedSuits program heap (exactly (codes "int")) (number n)
    number_suits n = number_if n (fits n)

    or_zero : (what : Deed) → DeedSuits program heap (exactly (codes "int")) what → (so : Bool) →
        DeedSuits program heap (exactly (codes "int")) (if so then Breaks e.DivideByZero else what)
    or_zero what h true = tt
    or_zero what h false = h

    numbers_suit : (info : Info) (does : ℤ → ℤ → Deed) → ((a b : ℤ) → DeedSuits program heap info (does a b)) → (o : Option (ℤ × ℤ)) →
        DeedSuits program heap info (of_numbers does o)
    numbers_suit info does h None = tt
    numbers_suit info does h (Some two) = h two.0 two.1

    strings_suit : (info : Info) (does : Bytes → Bytes → Deed) → ((a b : Bytes) → DeedSuits program heap info (does a b)) → (o : Option (Bytes × Bytes)) →
        DeedSuits program heap info (of_strings does o)
    strings_suit info does h None = tt
    strings_suit info does h (Some two) = h two.0 two.1

    joined_if : (bytes : Bytes) (so : Bool) → DeedSuits program heap (exactly (codes "string")) (if so then Answers (v.Text bytes) else Breaks e.StringLimit)
    joined_if bytes true = refl
    joined_if bytes false = tt

    same_suits : (values : List Value) → DeedSuits program heap (i.Cone (codes "bool")) (same (truth program) values)
    same_suits [] = tt
    same_suits (a ∷ []) = tt
    same_suits (a ∷ b ∷ []) = truth_class heap is (same_value a b)
    same_suits (a ∷ b ∷ other ∷ more) = tt

    nil_suits : Suits program heap (exactly (codes "nil")) (nil program)
    nil_suits = object_class heap (codes "nil") is nil_meant

    print_number_suits : (values : List Value) → DeedSuits program heap (exactly (codes "nil")) (print_number values)
    print_number_suits [] = tt
    print_number_suits (v.Int n ∷ []) = nil_suits
    print_number_suits (v.Int n ∷ other ∷ more) = tt
    print_number_suits (v.Text bytes ∷ more) = tt
    print_number_suits (v.Closure n ∷ more) = tt
    print_number_suits (v.Object n ∷ more) = tt

    print_string_suits : (values : List Value) → DeedSuits program heap (exactly (codes "nil")) (print_string values)
    print_string_suits [] = tt
    print_string_suits (v.Text bytes ∷ []) = nil_suits
    print_string_suits (v.Text bytes ∷ other ∷ more) = tt
    print_string_suits (v.Int n ∷ more) = tt
    print_string_suits (v.Closure n ∷ more) = tt
    print_string_suits (v.Object n ∷ more) = tt

    evaluate_suits : (values : List Value) → AreSound heap values → DeedSuits program heap i.Any (evaluate values)
    evaluate_suits [] s = tt
    evaluate_suits (v.Closure n ∷ more) s = (refl, s.1)
    evaluate_suits (v.Int n ∷ more) s = tt
    evaluate_suits (v.Text bytes ∷ more) s = tt
    evaluate_suits (v.Object n ∷ more) s = tt

    repeat_suits : (values : List Value) → DeedSuits program heap i.Any (repeat values)
    repeat_suits [] = tt
    repeat_suits (v.Closure n ∷ []) = refl
    repeat_suits (v.Closure n ∷ other ∷ more) = tt
    repeat_suits (v.Int n ∷ more) = tt
    repeat_suits (v.Text bytes ∷ more) = tt
    repeat_suits (v.Object n ∷ more) = tt

    abbrev Match : List Operation → List Info → Type 0
    Match [] infos = Unit {0}
    Match (operation ∷ rest) [] = OpSuits operation i.Any × Match rest []
    Match (operation ∷ rest) (info ∷ infos) = OpSuits operation info × Match rest infos

    match_at : (rest : List Operation) (infos : List Info) → Match rest infos → (j : ℕ) (operation : Operation) → slice_get rest j ≡ Some operation →
        OpSuits operation (elim (slice_get infos j) [ Some info ↦ info | None ↦ i.Any ])
    match_at [] infos h j operation e = absurd (let no : ⊥ = cc in no)
    match_at (own ∷ rest) [] h zero operation e = let same : own ≡ operation = cc in subst (λ z. OpSuits z i.Any) same h.0
    match_at (own ∷ rest) [] h (suc j) operation e = match_at rest [] h.1 j operation e
    match_at (own ∷ rest) (info ∷ infos) h zero operation e = let same : own ≡ operation = cc in subst (λ z. OpSuits z info) same h.0
    match_at (own ∷ rest) (info ∷ infos) h (suc j) operation e = match_at rest infos h.1 j operation e

    evaluates : OpSuits Evaluate i.Any
    evaluates values s = evaluate_suits values s

    all_match : Match operations primitive_infos
    all_match = (
      (λ values s. numbers_suit (exactly (codes "int")) (λ a b. number (a +ℤ b)) (λ a b. number_suits (a +ℤ b)) (two_numbers values)),
      (
        (λ values s. numbers_suit (exactly (codes "int")) (λ a b. number (a -ℤ b)) (λ a b. number_suits (a -ℤ b)) (two_numbers values)),
        (
          (λ values s. numbers_suit (exactly (codes "int")) (λ a b. number (a *ℤ b)) (λ a b. number_suits (a *ℤ b)) (two_numbers values)),
          (
            (λ values s. numbers_suit (exactly (codes "int")) divided (λ a b. or_zero (number (int_div a b)) (number_suits (int_div a b))
                (int_eq b (pos 0))) (two_numbers values)),
            (
              (λ values s. numbers_suit (exactly (codes "int")) remainder
                  (λ a b. or_zero (number (int_rem a b)) (number_suits (int_rem a b)) (int_eq b (pos 0))) (two_numbers values)),
              (
                (λ values s. numbers_suit (i.Cone (codes "bool")) (λ a b. Answers (truth program (int_lt a b))) (λ a b. truth_class heap is (int_lt a b))
                    (two_numbers values)),
                (
                  (λ values s. numbers_suit (i.Cone (codes "bool")) (λ a b. Answers (truth program (int_eq a b))) (λ a b. truth_class heap is (int_eq a b))
                      (two_numbers values)),
                  (
                    (λ values s. strings_suit (i.Cone (codes "bool")) (λ a b. Answers (truth program (bytes_eq a b)))
                        (λ a b. truth_class heap is (bytes_eq a b)) (two_strings values)),
                    (
                      (λ values s. strings_suit (exactly (codes "string")) joined (λ a b. joined_if (a ++ b) (nat_le (length a + length b) 65536))
                          (two_strings values)),
                      (
                        (λ values s. same_suits values),
                        (
                          (λ values s. print_number_suits values),
                          (
                            (λ values s. print_string_suits values),
                            (
                              evaluates,
                              (
                                evaluates,
                                (
                                  evaluates,
                                  (
                                    evaluates,
                                    (
                                      evaluates,
                                      ((λ values s. repeat_suits values), tt),
                                    ),
                                  ),
                                ),
                              ),
                            ),
                          ),
                        ),
                      ),
                    ),
                  ),
                ),
              ),
            ),
          ),
        ),
      ),
    )

  -- what binding, lookup and infos promise
  pub facts : Facts program
  facts = record {
    bound_one = λ heap selector values infos below key own is plain sound suit e. bound_one program well heap
        (things_plain heap plain) selector values infos below key own (all_there heap values sound) (all_fit program heap infos values suit) e;
    bound_nobody = bound_nobody program;
    found_held = found_held program;
    same_lookup = lookup_same program;
    held_suit = λ heap values key is plain sound held. subst (λ infos. AllSuit program heap infos values) (sym (asked_infos key))
        (all_formals_suit heap plain values key.specialisers sound held);
    deed_suits = λ heap values number operation is sound e. match_at heap is operations primitive_infos (all_match heap is) number operation e values sound;
    object_class = object_class;
    nil_meant = nil_meant;
  }
