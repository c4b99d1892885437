-- When a value counts as an object, at once and parent by parent.
use Rattle.std.proofs.Common.{◌≡◌, ℕ, zero, suc, ◌<◌, Bool, true, false, not, ◌||◌, List, [], ◌∷◌, refl, sym, ap, ◌∙◌, subst, inl, inr, arith}
use Rattle.std.specs.List.{list_all}
use Rattle.std.proofs.lemmas.Bool.{false≢true, and_parts, and_from, or_parts}
use Rattle.std.specs.Cmp.Derive.{one_truth}
use Rattle.vx_lists.specs.Members.{IsIn}
use Rattle.vx_lists.proofs.Members.{any_in, in_any, none_of, each, all_of}
use Rattle.vx_lists.proofs.Texts.{same_bytes, bytes_same}
use Rattle.vx_syntax.specs.declared.decl.Decl.{Decl}
use Rattle.vx_syntax.specs.declared.decl.Decl.TheVariants as d
use Rattle.vx_syntax.specs.declared.test.Test.{Test}
use Rattle.vx_syntax.specs.Expressions.{Bytes}
use Rattle.vx_program.specs.Prelude.{sealed}
use Rattle.vx_program.specs.Program.{IsProgram, Leads, here, up, leads, is_named, is_there, is_predicate_there, is_name_of, parents_of}
use Rattle.vx_model.specs.declared.value.Value.{Value}
use Rattle.vx_model.specs.declared.value.Heap.{Heap}
use Rattle.vx_model.specs.Order.{is_above}
use Rattle.vx_model.specs.Holds.{Holds, plain, predicate, AllHold, none, more, holds, lets_hold, is_true, class_of}
use Rattle.vx_model.proofs.Orders.{Chains, on}
use Rattle.vx_model.proofs.Heights.{height, lower, one_named, above_named, above_is, above_on}

-- all that is above a name stands in no way
abbrev Lets : List Decl → Heap → Value → Bytes → Type 0
Lets program heap value x = (decl : Decl) → IsIn decl program → is_above program x decl ≡ true → lets_hold program heap value decl ≡ true

-- a test that passes, or need not
pub need_not : (a b : Bool) → (a ≡ true → b ≡ true) → (not a || b) ≡ true
need_not true b f = f refl
need_not false b f = refl

needs : (a b : Bool) → (not a || b) ≡ true → a ≡ true → b ≡ true
needs true b h t = h
needs false b h t = absurd (false≢true t)

pub holds_is : (program : List Decl) (heap : Heap) (value : Value) (x : Bytes) → holds program heap value x ≡ true → (is_there program x ≡ true) × Lets program heap value x
holds_is program heap value x h =
    let both = and_parts (is_there program x) (list_all (λ decl. not (is_above program x decl) || lets_hold program heap value decl) program) h in (
      both.0,
      λ decl i a. needs (is_above program x decl) (lets_hold program heap value decl)
          (each (λ decl. not (is_above program x decl) || lets_hold program heap value decl) program both.1 decl i) a,
    )

pub is_holds : (program : List Decl) (heap : Heap) (value : Value) (x : Bytes) → is_there program x ≡ true → Lets program heap value x → holds program heap value x ≡ true
is_holds program heap value x t lets =
    and_from (is_there program x) (list_all (λ decl. not (is_above program x decl) || lets_hold program heap value decl) program) t
    (all_of (λ decl. not (is_above program x decl) || lets_hold program heap value decl) program
    (λ decl i. need_not (is_above program x decl) (lets_hold program heap value decl) (lets decl i)))

there : (program : List Decl) (x : Bytes) (decl : Decl) → IsIn decl program → is_named x decl ≡ true → is_there program x ≡ true
there program x decl i n = any_in (is_named x) program decl i n

-- what is a parent of a plain object is one
pub parent_plain : (program : List Decl) → IsProgram program → (x parent : Bytes) (parents : List Bytes) → IsIn (d.Object x parents) program →
    IsIn parent parents → (others : List Bytes) × IsIn (d.Object parent others) program
parent_plain program is x parent parents i p =
    let r = in_any (is_named parent) program (is.known (d.Object x parents) parent i p) in
    of r.0 r.1 r.2
  where
    no_predicate : is_predicate_there program parent ≡ false
    no_predicate = (or_parts (is_predicate_there program parent) (is_name_of sealed parent) (is.allowed (d.Object x parents) parent i p)).0

    of : (decl : Decl) → IsIn decl program → is_named parent decl ≡ true → (others : List Bytes) × IsIn (d.Object parent others) program
    of (d.Object own others) j n = (others, subst (λ z. IsIn (d.Object z others) program) (same_bytes own parent n) j)
    of (d.Predicate own others test) j n =
        absurd (false≢true (sym (none_of _ program no_predicate (d.Predicate own others test) j) ∙ n))
    of (d.Field key start changeable) j n = absurd (false≢true n)
    of (d.Method key formals body) j n = absurd (false≢true n)

-- what is above a plain object is one
above_plain : (program : List Decl) → IsProgram program → {x y : Bytes} → Leads program x y → (parents : List Bytes) → IsIn (d.Object x parents) program →
    (others : List Bytes) × IsIn (d.Object y others) program
above_plain program is here parents i = (parents, i)
above_plain program is (up {x = x} decl parent j n p chain) parents i =
    let same : decl ≡ d.Object x parents = one_named program is x decl (d.Object x parents) j i n (bytes_same x x refl) in
    let r = parent_plain program is x parent parents i (subst (λ o. IsIn parent (parents_of o)) same p) in
    above_plain program is chain r.0 r.1

-- A value counts as a plain object where that is above its class.
pub holds_plain : (program : List Decl) → IsProgram program → Chains → (heap : Heap) (value : Value) (x : Bytes) (parents : List Bytes) →
    IsIn (d.Object x parents) program → holds program heap value x ≡ leads program (class_of heap value) x
holds_plain program is chains heap value x parents i =
    one_truth (holds program heap value x) (leads program (class_of heap value) x)
    (λ h. (holds_is program heap value x h).1 (d.Object x parents) i (chains.finds program x x here))
    (λ l. is_holds program heap value x (there program x (d.Object x parents) i (bytes_same x x refl)) (λ decl j a. lets l decl j a))
  where
    lets : leads program (class_of heap value) x ≡ true → Lets program heap value x
    lets l (d.Object own others) j a =
        chains.finds program (class_of heap value) own (on program (chains.are program (class_of heap value) x l) (chains.are program x own a))
    lets l (d.Predicate own others test) j a =
        let r = above_plain program is (chains.are program x own a) parents i in
        let same : d.Predicate own others test ≡ d.Object own r.0 =
        one_named program is own (d.Predicate own others test) (d.Object own r.0) j r.1 (bytes_same own own refl) (bytes_same own own refl) in
        absurd (cc)
    lets l (d.Field key start changeable) j a = refl
    lets l (d.Method key formals body) j a = refl

-- what is above a predicate stands in no way where it is the predicate itself, or above one of its parents
lets_by : (program : List Decl) → IsProgram program → Chains → (heap : Heap) (value : Value) {x y : Bytes} → Leads program x y →
    (parents : List Bytes) (test : Test) → IsIn (d.Predicate x parents test) program →
    ((parent : Bytes) → IsIn parent parents → holds program heap value parent ≡ true) → is_true program heap value test ≡ true →
    (decl : Decl) → IsIn decl program → is_named y decl ≡ true → lets_hold program heap value decl ≡ true
lets_by program is chains heap value (here {x = x}) parents test i all t decl j n =
    let same : decl ≡ d.Predicate x parents test = one_named program is x decl (d.Predicate x parents test) j i n (bytes_same x x refl) in
    ap (lets_hold program heap value) same ∙ t
lets_by program is chains heap value (up {x = x} {y = y} other parent k m p chain) parents test i all t decl j n =
    let same : other ≡ d.Predicate x parents test = one_named program is x other (d.Predicate x parents test) k i m (bytes_same x x refl) in
    let counts = all parent (subst (λ o. IsIn parent (parents_of o)) same p) in
    (holds_is program heap value parent counts).1 decl j (above_is program parent y decl n ∙ chains.finds program parent y chain)

-- so a value counts as a predicate where it counts as all its parents and the test is true
pub holds_predicate : (program : List Decl) → IsProgram program → Chains → (heap : Heap) (value : Value) (x : Bytes) (parents : List Bytes) (test : Test) →
    IsIn (d.Predicate x parents test) program → ((parent : Bytes) → IsIn parent parents → holds program heap value parent ≡ true) →
    is_true program heap value test ≡ true → holds program heap value x ≡ true
holds_predicate program is chains heap value x parents test i all t =
    is_holds program heap value x (there program x (d.Predicate x parents test) i (bytes_same x x refl)) (λ decl j a.
    let own = above_named program x decl a in
    lets_by program is chains heap value (chains.are program x own.0 own.2) parents test i all t decl j own.1)

-- What a value counts as parent by parent, it counts as at once,
mutual
  pub at_once : (program : List Decl) → IsProgram program → Chains → (heap : Heap) (value : Value) {x : Bytes} → Holds program heap value x → holds program heap value x ≡ true
  at_once program is chains heap value (plain {x = x} parents i chain) =
      holds_plain program is chains heap value x parents i ∙ chains.finds program (class_of heap value) x chain
  at_once program is chains heap value (predicate {x = x} parents test i all t) =
      holds_predicate program is chains heap value x parents test i (all_at_once program is chains heap value all) t

  all_at_once : (program : List Decl) → IsProgram program → Chains → (heap : Heap) (value : Value) {xs : List Bytes} → AllHold program heap value xs →
      (x : Bytes) → IsIn x xs → holds program heap value x ≡ true
  all_at_once program is chains heap value none x i = absurd i
  all_at_once program is chains heap value (more h rest) x (inl e) = subst (λ z. holds program heap value z ≡ true) e (at_once program is chains heap value h)
  all_at_once program is chains heap value (more h rest) x (inr i) = all_at_once program is chains heap value rest x i

each_holds : (program : List Decl) (heap : Heap) (value : Value) (xs : List Bytes) → ((x : Bytes) → IsIn x xs → Holds program heap value x) → AllHold program heap value xs
each_holds program heap value [] h = none
each_holds program heap value (x ∷ xs) h = more (h x (inl refl)) (each_holds program heap value xs (λ y i. h y (inr i)))

-- a value that counts as something counts as its parents
pub holds_parent : (program : List Decl) → IsProgram program → Chains → (heap : Heap) (value : Value) (x parent : Bytes) (decl : Decl) → IsIn decl program →
    is_named x decl ≡ true → IsIn parent (parents_of decl) → is_there program parent ≡ true → holds program heap value x ≡ true → holds program heap value parent ≡ true
holds_parent program is chains heap value x parent decl i n p t h =
    is_holds program heap value parent t (λ other j a.
    (holds_is program heap value x h).1 other j (above_on program chains x parent other (up decl parent i n p here) a))

-- one step down from what it counts as at once
step_down : (program : List Decl) → IsProgram program → Chains → (heap : Heap) (value : Value) (x : Bytes) (decl : Decl) → IsIn decl program → is_named x decl ≡ true →
    ((parent : Bytes) → height program parent < height program x → holds program heap value parent ≡ true → Holds program heap value parent) →
    holds program heap value x ≡ true → Holds program heap value x
step_down program is chains heap value x (d.Object own parents) i n below h =
    let j : IsIn (d.Object x parents) program = subst (λ z. IsIn (d.Object z parents) program) (same_bytes own x n) i in
    plain parents j (chains.are program (class_of heap value) x (sym (holds_plain program is chains heap value x parents j) ∙ h))
step_down program is chains heap value x (d.Predicate own parents test) i n below h =
    let j : IsIn (d.Predicate x parents test) program = subst (λ z. IsIn (d.Predicate z parents test) program) (same_bytes own x n) i in
    predicate parents test j
    (each_holds program heap value parents (λ parent p.
    below parent (lower program is chains (d.Predicate own parents test) x parent i n p)
    (holds_parent program is chains heap value x parent (d.Predicate own parents test) i n p (is.known (d.Predicate own parents test) parent i p) h)))
    ((holds_is program heap value x h).1 (d.Predicate x parents test) j (chains.finds program x x here))
step_down program is chains heap value x (d.Field key start changeable) i n below h = absurd (false≢true n)
step_down program is chains heap value x (d.Method key formals body) i n below h = absurd (false≢true n)

down : (program : List Decl) → IsProgram program → Chains → (heap : Heap) (value : Value) (n : ℕ) (x : Bytes) → height program x < n →
    holds program heap value x ≡ true → Holds program heap value x
down program is chains heap value zero x l h = absurd (omega arith)
down program is chains heap value (suc n) x l h =
    let r = in_any (is_named x) program (holds_is program heap value x h).0 in
    step_down program is chains heap value x r.0 r.1 r.2 (λ parent less. down program is chains heap value n parent (omega arith)) h

-- and the other way round.
pub by_parents : (program : List Decl) → IsProgram program → Chains → (heap : Heap) (value : Value) (x : Bytes) →
    holds program heap value x ≡ true → Holds program heap value x
by_parents program is chains heap value x h = down program is chains heap value (suc (height program x)) x (omega arith) h
