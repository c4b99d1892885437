-- The fields that the names of a constructor mean, sought from the left.
use Rattle.std.proofs.Common.{if◌then◌else◌, ◌≡◌, ◌∙◌, ℕ, ◌+◌, ◌<◌, ◌≤◌, true, List, [], ◌∷◌, ◌++◌, Option, Some, None}
use Rattle.std.proofs.Common.{append_assoc, ap, drop, get_or, length, map, sym}
use Rattle.std.proofs.lemmas.List.{drop_more}
use Rattle.std.proofs.Math.ListN.{drop_of_length-le}
use Rattle.vx_names.specs.declared.key.FieldKey.{FieldKey}
use Rattle.vx_syntax.specs.declared.decl.Decl.{Decl}
use Rattle.vx_syntax.specs.declared.expr.Expr.{Expr}
use Rattle.vx_syntax.specs.Expressions.{Bytes}
use Rattle.vx_model.specs.declared.report.RunError.TheVariants as e
use Rattle.vx_model.specs.Fields.{field_at}
use Rattle.vx_model.specs.Values.{is_made}
use Rattle.vx_model.specs.Meaning.{State, Done, Stops, Fails, constructing, keys_of}
use Rattle.vx_meaning.specs.States.{with_keys}
use Rattle.vx_meaning.specs.declared.memory.Keys.{Keys}
use Rattle.vx_meaning.specs.declared.memory.Keys.TheVariants as y
use Rattle.vx_meaning.proofs.Rows.{keys_same}

-- the names of what is given
abbrev pub names : List (Bytes × Expr) → List Bytes
names given = map (λ field. field.0) given

-- what the name that is next means goes in front of the rest
module _ (program : List Decl) (class : Bytes) (given : List (Bytes × Expr)) (i : ℕ) (field : Bytes × Expr) (state : State) where
  -- by what the name means
  abbrev meant : (List FieldKey → Done) → Option FieldKey → Done
  meant go found = elim found as (λ o. Done) [
    | Some key ↦ keys_of program class (names (drop (i + 1) given)) (λ keys. go (key ∷ keys)) state
    | None ↦ Stops (Fails (e.NoField field.0)) state
  ]

  next : i < length given → field ≡ get_or given i field → (go : List FieldKey → Done) →
      keys_of program class (names (drop i given)) go state ≡ meant go (field_at program class field.0)
  next within is go =
      ap (λ l. keys_of program class (names l) go state) (drop_more given i field within)
      ∙ ap (λ (one : Bytes × Expr). keys_of program class (one.0 ∷ names (drop (i + 1) given)) go state) (sym is)

  -- it means no field
  pub keys_none : i < length given → field ≡ get_or given i field → field_at program class field.0 ≡ None → (go : List FieldKey → Done) →
      keys_of program class (names (drop i given)) go state ≡ Stops (Fails (e.NoField field.0)) state
  keys_none within is found go = next within is go ∙ ap (meant go) found

  -- it means a field, whose key goes behind those that there are
  pub keys_step : i < length given → field ≡ get_or given i field → (key : FieldKey) → field_at program class field.0 ≡ Some key →
      (keys : List FieldKey) (go : List FieldKey → Done) →
      keys_of program class (names (drop i given)) (λ rest. go (keys ++ rest)) state
      ≡ keys_of program class (names (drop (i + 1) given)) (λ rest. go ((keys ++ key ∷ []) ++ rest)) state
  keys_step within is key found keys go =
      next within is (λ rest. go (keys ++ rest))
      ∙ ap (meant (λ rest. go (keys ++ rest))) found
      ∙ keys_same program class state (names (drop (i + 1) given)) (λ rest. go (keys ++ key ∷ rest)) (λ rest. go ((keys ++ key ∷ []) ++ rest))
      (λ rest. ap go (sym (append_assoc keys (key ∷ []) rest)))

-- past the last name
module _ (program : List Decl) (class : Bytes) (given : List (Bytes × Expr)) (i : ℕ) (go : List FieldKey → Done) (state : State) where
  pub keys_end : length given ≤ i → keys_of program class (names (drop i given)) go state ≡ go []
  keys_end over = ap (λ l. keys_of program class (names l) go state) (drop_of_length-le given over)

-- a constructor whose class has objects, and whose names mean fields, goes on to the parts
module _ (program : List Decl) (class : Bytes) (given : List (Bytes × Expr)) (state : State) where
  pub constructing_made : is_made program class ≡ true → (found : Keys) →
      ((go : List FieldKey → Done) (state : State) → keys_of program class (names given) go state ≡ with_keys found go state) →
      (keys : List FieldKey) → found ≡ y.All keys → (go : List FieldKey → Done) → constructing program class (names given) go state ≡ go keys
  constructing_made made found means keys all go =
      ap (λ b. if b then keys_of program class (names given) go state else Stops (Fails (e.UnknownObject class)) state) made
      ∙ means go state
      ∙ ap (λ own. with_keys own go state) all
