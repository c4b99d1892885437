-- What a declaration of a name says of whether a value counts as it.
use Rattle.std.proofs.Common.{◌≡◌, ◌||◌, not, Bool, true, false, List, refl, sym, ap, ◌∙◌, subst}
use Rattle.vx_lists.specs.Members.{IsIn}
use Rattle.vx_lists.proofs.Members.{any_in}
use Rattle.vx_lists.proofs.Texts.{same_bytes}
use Rattle.vx_syntax.specs.declared.decl.Decl.{Decl}
use Rattle.vx_syntax.specs.declared.decl.Decl.TheVariants as d
use Rattle.vx_syntax.specs.Expressions.{Bytes}
use Rattle.vx_program.specs.Program.{IsProgram, is_named, is_there, leads}
use Rattle.vx_model.specs.declared.value.Value.{Value}
use Rattle.vx_model.specs.declared.value.Heap.{Heap}
use Rattle.vx_model.specs.Holds.{class_of, holds}
use Rattle.vx_model.proofs.Orders.{Chains}
use Rattle.vx_model.proofs.Holding.{holds_plain}
use Rattle.vx_model.proofs.Places.{Found}

-- where what has the name is a plain object, the class leads to it
pub at_plain : (program : List Decl) → IsProgram program → Chains → (heap : Heap) (value : Value) (x name : Bytes) (parents : List Bytes) (own : Decl) →
    Found program x own → own ≡ d.Object name parents → holds program heap value x ≡ leads program (class_of heap value) x
at_plain program is chains heap value x name parents own found e =
    let same : name ≡ x = same_bytes name x (ap (is_named x) (sym e) ∙ found.named) in
    holds_plain program is chains heap value x parents (subst (λ z. IsIn (d.Object z parents) program) same (subst (λ z. IsIn z program) e found.within))

-- and what was found is there
pub there : (program : List Decl) (x : Bytes) (own : Decl) → Found program x own → is_there program x ≡ true
there program x own found = any_in (is_named x) program own found.within found.named

pub in_the_way : (above lets : Bool) → above ≡ true → lets ≡ false → (not above || lets) ≡ false
in_the_way above lets a l = ap (λ b. not b || lets) a ∙ l

pub not_above : (above lets : Bool) → above ≡ false → (not above || lets) ≡ true
not_above above lets a = ap (λ b. not b || lets) a

pub lets_it : (above lets : Bool) → lets ≡ true → (not above || lets) ≡ true
lets_it true lets l = l
lets_it false lets l = refl
