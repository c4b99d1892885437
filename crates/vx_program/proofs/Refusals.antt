-- An edit is refused for a fault of its own: want of memory is none.
use Rattle.std.proofs.Common.{◌≡◌, ℕ, List, [], ◌∷◌, Bool, true, false, if◌then◌else◌, Option, Some, None, option_map, Result, Ok, Err, nat_lt, is_some, subst}
use Rattle.vx_names.specs.declared.key.DeclKey.{DeclKey}
use Rattle.vx_names.specs.declared.key.DeclKey.TheVariants as k
use Rattle.vx_names.specs.Key.{key_name}
use Rattle.vx_syntax.specs.declared.decl.Decl.{Decl}
use Rattle.vx_syntax.specs.Expressions.{Bytes}
use Rattle.vx_syntax.specs.Keys.{key_of}
use Rattle.vx_syntax.specs.Counts.{capped, locals, height}
use Rattle.vx_program.specs.declared.edit.Change.{Change}
use Rattle.vx_program.specs.declared.edit.Change.TheVariants.{Add, Put, Drop}
use Rattle.vx_program.specs.declared.edit.Counted.{Counted}
use Rattle.vx_program.specs.declared.edit.Counted.TheVariants.{Declarations, Locals, Depth}
use Rattle.vx_program.specs.declared.edit.EditFault.{EditFault}
use Rattle.vx_program.specs.declared.edit.EditFault.TheVariants as f
use Rattle.vx_program.specs.declared.limits.TheConstants.{MAX_DECLARATIONS, MAX_METHODS, MAX_LOCALS, MAX_DEPTH}
use Rattle.vx_program.specs.Prelude.{is_reserved}
use Rattle.vx_program.specs.Program.{parents_of, mentioned, find, is_there, is_name_of, is_wrong, shared, occupied, methods_of, declared}
use Rattle.vx_program.specs.Apply.{with_decl, replaced, made, or_else, reserved_fault, holder, exists_fault, gained, missing_fault, unknown_fault, wrong_kind_fault, leads_back, cycle_fault, in_use_from, in_use_fault, over, methods_fault, limit_fault, fault_of, changed, apply}

-- no fault, or one that the edit has
abbrev IsOwn : Option EditFault → Type 0
IsOwn (Some f.OutOfMemory) = ⊥
IsOwn fault = Unit {0}

first_own : (a b : Option EditFault) → IsOwn a → IsOwn b → IsOwn (or_else a b)
first_own None b h g = g
first_own (Some x) b h g = h

either_own : (b : Bool) (x y : Option EditFault) → IsOwn x → IsOwn y → IsOwn (if b then x else y)
either_own true x y h g = h
either_own false x y h g = g

taken_own : (key : Option DeclKey) → IsOwn (option_map f.Exists key)
taken_own None = tt
taken_own (Some key) = tt

reserved_own : (key : DeclKey) → IsOwn (reserved_fault key)
reserved_own key = either_own (is_reserved (shared key)) (Some (f.Reserved (shared key))) None tt tt

exists_own : (program : List Decl) (keys : List DeclKey) → IsOwn (exists_fault program keys)
exists_own program [] = tt
exists_own program (key ∷ keys) =
    first_own (option_map f.Exists (holder program key)) (exists_fault program keys) (taken_own (holder program key)) (exists_own program keys)

missing_own : (program : List Decl) (key : DeclKey) → IsOwn (missing_fault program key)
missing_own program key = either_own (is_some (find program key)) None (Some (f.Missing key)) tt tt

unknown_own : (program : List Decl) (xs : List Bytes) → IsOwn (unknown_fault program xs)
unknown_own program [] = tt
unknown_own program (x ∷ xs) = either_own (is_there program x) (unknown_fault program xs) (Some (f.Unknown x)) (unknown_own program xs) tt

wrong_kind_own : (program : List Decl) (decl : Decl) (xs : List Bytes) → IsOwn (wrong_kind_fault program decl xs)
wrong_kind_own program decl [] = tt
wrong_kind_own program decl (x ∷ xs) =
    either_own (is_wrong program decl x) (Some (f.WrongKind x)) (wrong_kind_fault program decl xs) tt (wrong_kind_own program decl xs)

cycle_own : (program : List Decl) (decl : Decl) → IsOwn (cycle_fault program decl)
cycle_own program decl =
    let x : Bytes = key_name (key_of decl) in either_own (leads_back program (parents_of decl) x) (Some (f.Cycle x)) None tt tt

used_own : (decls : List Decl) (x : Bytes) → IsOwn (in_use_from decls x)
used_own [] x = tt
used_own (decl ∷ decls) x =
    either_own (is_name_of (mentioned decl) x) (Some (f.InUse x (key_of decl))) (in_use_from decls x) tt (used_own decls x)

in_use_own : (program : List Decl) (key : DeclKey) → IsOwn (in_use_fault program key)
in_use_own program (k.Object x) = used_own program x
in_use_own program (k.Predicate x) = used_own program x
in_use_own program (k.Field key) = tt
in_use_own program (k.Method key) = tt

over_own : (which : Counted) (most count : ℕ) → IsOwn (over which most count)
over_own which most count = either_own (nat_lt most count) (Some (f.Limit which (capped count))) None tt tt

methods_own : (program : List Decl) (keys : List DeclKey) → IsOwn (methods_fault program keys)
methods_own program [] = tt
methods_own program (k.Method key ∷ keys) =
    first_own _ (methods_fault program keys) (over_own _ MAX_METHODS (methods_of program key.selector)) (methods_own program keys)
methods_own program (k.Object x ∷ keys) = methods_own program keys
methods_own program (k.Predicate x ∷ keys) = methods_own program keys
methods_own program (k.Field key ∷ keys) = methods_own program keys

limit_own : (next : List Decl) (decl : Decl) → IsOwn (limit_fault next decl)
limit_own next decl =
    let deep = over Depth MAX_DEPTH (height decl) in
    let many = over Locals MAX_LOCALS (locals decl) in
    let methods = methods_fault next (occupied decl) in
    first_own _ (or_else methods (or_else many deep)) (over_own Declarations MAX_DECLARATIONS (declared next))
    (first_own methods (or_else many deep) (methods_own next (occupied decl))
    (first_own many deep (over_own Locals MAX_LOCALS (locals decl)) (over_own Depth MAX_DEPTH (height decl))))

fault_own : (program : List Decl) (change : Change) → IsOwn (fault_of program change)
fault_own program (Add decl) =
    first_own (reserved_fault (key_of decl)) _ (reserved_own (key_of decl))
    (first_own (exists_fault program (occupied decl)) _ (exists_own program (occupied decl))
    (first_own (unknown_fault program (mentioned decl)) _ (unknown_own program (mentioned decl))
    (first_own (wrong_kind_fault program decl (mentioned decl)) _ (wrong_kind_own program decl (mentioned decl)) (limit_own (with_decl program decl) decl))))
fault_own program (Put decl) =
    let keys = gained (find program (key_of decl)) decl in
    first_own (reserved_fault (key_of decl)) _ (reserved_own (key_of decl))
    (first_own (exists_fault program keys) _ (exists_own program keys)
    (first_own (missing_fault program (key_of decl)) _ (missing_own program (key_of decl))
    (first_own (unknown_fault program (mentioned decl)) _ (unknown_own program (mentioned decl))
    (first_own (wrong_kind_fault program decl (mentioned decl)) _ (wrong_kind_own program decl (mentioned decl))
    (first_own (cycle_fault program decl) _ (cycle_own program decl) (limit_own (replaced program decl) decl))))))
fault_own program (Drop key) =
    first_own (reserved_fault key) _ (reserved_own key) (first_own (missing_fault program key) _ (missing_own program key) (in_use_own program key))

not_memory : (fault : Option EditFault) (next : List Decl) → IsOwn fault →
    elim fault as (λ _. Result (List Decl) EditFault) [ None ↦ Ok next | Some x ↦ Err x ] ≡ Err f.OutOfMemory → ⊥
not_memory None next own h = absurd (cc)
not_memory (Some x) next own h = let same : x ≡ f.OutOfMemory = cc in subst (λ z. IsOwn (Some z)) same own

-- where the first change is not refused for want of memory, and what it makes is not, all are not
goes_on : (first : Result (List Decl) EditFault) (changes : List Change) → (first ≡ Err f.OutOfMemory → ⊥) →
    ((next : List Decl) → apply next changes ≡ Err f.OutOfMemory → ⊥) →
    elim first as (λ _. Result (List Decl) EditFault) [ Ok next ↦ apply next changes | Err x ↦ Err x ] ≡ Err f.OutOfMemory → ⊥
goes_on (Ok next) changes none rest h = rest next h
goes_on (Err x) changes none rest h = none h

pub never_memory : (program : List Decl) (changes : List Change) → apply program changes ≡ Err f.OutOfMemory → ⊥
never_memory program [] h = absurd (cc)
never_memory program (change ∷ changes) h =
    let first : changed program change ≡ Err f.OutOfMemory → ⊥ = not_memory (fault_of program change) (made program change) (fault_own program change) in
    goes_on (changed program change) changes first (λ next. never_memory next changes) h
