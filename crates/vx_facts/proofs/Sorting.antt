-- Keys put in their places one by one, from the last on.
use Rattle.std.proofs.Common.{◌≡◌, List, [], ◌∷◌, ◌++◌, refl, ap}
use Rattle.vx_names.specs.declared.key.MethodKey.{MethodKey}
use Rattle.vx_compilation.specs.Compiled.{inserted, sorted}

-- these put into their places among those that are sorted already
abbrev pub all_inserted : List MethodKey → List MethodKey → List MethodKey
all_inserted [] found = found
all_inserted (key ∷ keys) found = inserted key (all_inserted keys found)

pub last_inserted : (keys : List MethodKey) (key : MethodKey) (found : List MethodKey) →
    all_inserted (keys ++ key ∷ []) found ≡ all_inserted keys (inserted key found)
last_inserted [] key found = refl
last_inserted (own ∷ keys) key found = ap (inserted own) (last_inserted keys key found)

pub all_sorted : (keys : List MethodKey) → all_inserted keys [] ≡ sorted keys
all_sorted [] = refl
all_sorted (key ∷ keys) = ap (inserted key) (all_sorted keys)
