-- How long an image has become, unit by unit.
use Rattle.std.proofs.Common.{◌≡◌, ◌∙◌, ◌∷◌, ◌++◌, ◌+◌, ◌<◌, ◌≤◌, ℕ, List, [], Option, Some, None, ap, refl, sym, length, drop, arith, length-append}
use Rattle.std.specs.Prelude.{nat_lt}
use Rattle.std.proofs.lemmas.Bool.{cond-true, cond-false, lt-ltb, le-ltb}
use Rattle.vx_format.specs.Numbers.{Bytes, each, number}
use Rattle.vx_format.specs.Layout.{optional}
use Rattle.vx_format.proofs.Numbers.{length_number}
use Rattle.vx_lists.proofs.Places.{left_at}
use Rattle.vx_node.specs.declared.node.NodeId.{NodeId}
use Rattle.vx_node.specs.declared.unit.Piece.{Piece}
use Rattle.vx_node.specs.declared.unit.Piece.TheVariants as pieces
use Rattle.vx_node.specs.declared.unit.Symbol.TheVariants as symbols
use Rattle.vx_link.specs.declared.roster.Roster.{Roster}
use Rattle.vx_link.specs.Roster.{place}
use Rattle.vx_link.specs.Link.{UnitOf, targets, piece_bytes, unit_bytes, linked, limit, reaches, first_too_long}
use Rattle.vx_link.specs.Link.{head, beginning, counts, six, main_selector}
use Rattle.vx_link.specs.Walks.{piece_size, unit_size, IsUnitAt}

-- ---- how long the parts are

four : (o : Option ℕ) → length (optional o) ≡ 4
four None = length_number 4 4294967295
four (Some n) = length_number 4 n

piece_sized : (r : Roster) (piece : Piece) → length (piece_bytes r piece) ≡ piece_size piece
piece_sized r (pieces.Bytes bytes) = refl
piece_sized r (pieces.Symbol symbol) = four (place r symbol)

pub unit_sized : (r : Roster) (unit : List Piece) → length (each (piece_bytes r) unit) ≡ unit_size unit
unit_sized r [] = refl
unit_sized r (piece ∷ rest) =
    let one = piece_sized r piece in
    let more = unit_sized r rest in
    let parts = length-append (piece_bytes r piece) (each (piece_bytes r) rest) in
    omega arith

six_sized : (objects : List (List ℕ)) → length (six objects) ≡ 24
six_sized objects = simp (length-append {A = ℕ}, four) refl

counts_sized : (r : Roster) → length (counts r) ≡ 20
unfolding number
counts_sized r = refl

beginning_sized : length beginning ≡ 5
unfolding number
beginning_sized = refl

head_sized : (r : Roster) → length (head r) ≡ 53
head_sized r =
    let main : Bytes = optional (place r (symbols.Table main_selector)) in
    let last = four (place r (symbols.Table main_selector)) in
    let a = length-append main [] in
    let b = length-append (six r.objects) (main ++ []) in
    let c = length-append (counts r) (six r.objects ++ (main ++ [])) in
    let d = length-append beginning (counts r ++ (six r.objects ++ (main ++ []))) in
    let e = six_sized r.objects in
    let f = counts_sized r in
    let g = beginning_sized in
    omega arith

-- ---- parts behind one another

module _ {A : Type 0} (size : A → ℕ) where
  within : (place before : ℕ) (x : A) (rest : List A) → before + size x < limit →
      reaches size place before (x ∷ rest) ≡ reaches size (place + 1) (before + size x) rest
  within place before x rest less =
      cond-true (nat_lt (before + size x) limit) (reaches size (place + 1) (before + size x) rest) (Some place) (lt-ltb (before + size x) limit less)

  beyond : (place before : ℕ) (x : A) (rest : List A) → limit ≤ before + size x → reaches size place before (x ∷ rest) ≡ Some place
  beyond place before x rest much =
      cond-false (nat_lt (before + size x) limit) (reaches size (place + 1) (before + size x) rest) (Some place) (le-ltb (before + size x) limit much)

-- ---- what the loop over the units keeps

abbrev size_of : Roster → UnitOf → NodeId → ℕ
size_of r unit_of target = length (unit_bytes r unit_of target)

pub record Measured (r : Roster) (unit_of : UnitOf) (size place : ℕ) : Type 0 where
  pub short : size < limit
  pub rest : reaches (size_of r unit_of) place size (drop place (targets r)) ≡ first_too_long r unit_of
  pub whole : size + length (each (unit_bytes r unit_of) (drop place (targets r))) ≡ length (linked r unit_of)

pub starts : (r : Roster) (unit_of : UnitOf) → Measured r unit_of 53 0
starts r unit_of =
    let size = head_sized r in
    let parts = length-append (head r) (each (unit_bytes r unit_of) (targets r)) in
    record {
      short = omega arith;
      rest = ap (λ n. reaches (size_of r unit_of) 0 n (targets r)) (sym size);
      whole = omega arith;
    }

module _ {r : Roster} {unit_of : UnitOf} {size place : ℕ} {unit : List Piece} (one : IsUnitAt r unit_of place unit)
    (so_far : Measured r unit_of size place) where
  abbrev later : List NodeId
  later = drop (place + 1) (targets r)

  split : drop place (targets r) ≡ one.node ∷ later
  split = left_at (targets r) place one.node one.at

  sized : size_of r unit_of one.node ≡ unit_size unit
  sized = ap (λ u. length (each (piece_bytes r) u)) (sym one.is) ∙ unit_sized r unit

  whole : size + unit_size unit + length (each (unit_bytes r unit_of) later) ≡ length (linked r unit_of)
  whole =
      let parts = length-append (unit_bytes r unit_of one.node) (each (unit_bytes r unit_of) later) in
      let all : size + length (each (unit_bytes r unit_of) (one.node ∷ later)) ≡ length (linked r unit_of) =
      ap (λ nodes. size + length (each (unit_bytes r unit_of) nodes)) (sym split) ∙ so_far.whole in
      let own = sized in
      omega arith

  pub goes_on : (after : ℕ) → after ≡ size + unit_size unit → after < limit → Measured r unit_of after (place + 1)
  goes_on after is less =
      let own = sized in
      let all = whole in
      let fits : size + size_of r unit_of one.node < limit = omega arith in
      let same : after ≡ size + size_of r unit_of one.node = omega arith in
      record {
        short = less;
        rest = ap (λ n. reaches (size_of r unit_of) (place + 1) n later) same ∙ sym (within (size_of r unit_of) place size one.node later fits)
            ∙ ap (reaches (size_of r unit_of) place size) (sym split) ∙ so_far.rest;
        whole = omega arith;
      }

  pub stops : limit ≤ size + unit_size unit → (limit ≤ length (linked r unit_of)) × (first_too_long r unit_of ≡ Some place)
  stops much =
      let own = sized in
      let all = whole in
      let reached : limit ≤ size + size_of r unit_of one.node = omega arith in (
        omega arith,
        sym so_far.rest ∙ ap (reaches (size_of r unit_of) place size) split ∙ beyond (size_of r unit_of) place size one.node later reached,
      )
