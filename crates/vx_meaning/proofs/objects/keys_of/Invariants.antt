use Rattle.std.proofs.Common.{drop, ◌++◌, ◌≡◌, List}
use Rattle.vx_names.specs.declared.key.FieldKey.{FieldKey}
use Rattle.vx_model.specs.Meaning.{State, Done, keys_of}
use Rattle.vx_meaning.proofs.Keys.{names}
use Rattle.vx_meaning.proofs.objects.keys_of.Given as goal

abbrev pub invariant-loop-field : goal.invariant-loop-field
invariant-loop-field l =
    (go : List FieldKey → Done) (state : State) → keys_of l.program l.class (names l.fields) go state
    ≡ keys_of l.program l.class (names (drop l.field-index l.fields)) (λ rest. go (l.keys ++ rest)) state
