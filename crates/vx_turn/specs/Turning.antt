-- What contracts see of a turn and of its seats, the rule that the table of a turn keeps between any two atomic steps, and
-- what each step and each call tells.
use Rattle.std.specs.Prelude.{◌≡◌, ◌≢◌, ◌==◌, ℕ, suc, ◌<◌, ◌≤◌, Bool, true, false, List, [], ◌∷◌, ◌++◌, length, if◌then◌else◌, Option, Some, None}
use mathlib.Core.Option.{some}
use mathlib.Core.Option as maybe
use mathlib.Core.List.{IsPrefix}
use lib.ListN.{get_elem?}
use Rattle.atomic_table.specs.Table.{State, Me}
use Rattle.atomic_table.specs.Seated.{TableId}
use Rattle.vx_turn.specs.declared.view.View.{View}
use Rattle.vx_turn.specs.declared.took.Took.{Took}
use Rattle.vx_turn.specs.declared.took.Took.TheVariants.{Held, Busy}

-- the items that the seat of this number added, in order
abbrev pub items_of : {I : Type 0} → (I → ℕ) → ℕ → List I → List I
items_of seat number [] = []
items_of seat number (item ∷ items) = if seat item == number then item ∷ items_of seat number items else items_of seat number items

module _ {I : Type 0} where
  -- a seat of this number that has seen these items, has added none and does not hold the turn
  abbrev pub fresh_view : ℕ → List I → View I
  fresh_view number seen = record {
    number = number;
    spent = false;
    holds = false;
    seen = seen;
    own = [];
    failed_exchanges = 0;
    holder_found = 0;
    last_number = 0;
    joined = [];
  }

  -- what is left of a seat that was joined into another. The rule says nothing of it
  abbrev pub spent_view : View I
  spent_view = record (fresh_view 0 []) { spent = true }

  -- seat 0 after a split: it has given out one number more
  abbrev pub after_split : View I → View I
  after_split view = record view { last_number = suc view.last_number }

  -- the new seat of a split: it has the next number, and has seen what seat 0 has seen
  abbrev pub split_off : View I → View I
  split_off view = fresh_view (suc view.last_number) view.seen

  -- seat 0 after a join: it keeps the other's number, and the items that the other added
  abbrev pub after_join : View I → View I → View I
  after_join view other = record view { joined = view.joined ++ (other.number, other.own) ∷ [] }

  -- the seat of this number was joined into this one
  abbrev pub IsBack : View I → ℕ → Type 0
  IsBack view number = (place : ℕ) × (own : List I) × (get_elem? view.joined place ≡ some (number, own))

  -- each number that this seat gave out was joined into it
  abbrev pub AllBack : View I → Type 0
  AllBack view = (number : ℕ) → 0 < number → number ≤ view.last_number → IsBack view number

  -- the table has this view at this place, and its seat was not joined
  abbrev pub IsLive : List (View I) → ℕ → View I → Type 0
  IsLive views id view = (get_elem? views id ≡ some view) × (view.spent ≡ false)

-- a seat, as contracts see it: the table of its turn, and what it knows
pub record SeatState (I : Type 0) : Type 0 where
  pub turn : TableId
  pub knows : View I

-- The rule. `stands` says for which lists of items a value stands, `seat` which seat added an item.
module _ {T I : Type 0} (stands : T → List I → Type 0) (seat : I → ℕ) where
  -- Of each seat, where the owner word is `owner` and the items added so far are `items`: it has seen a beginning of them,
  -- its own are exactly those of its number, and if it holds the turn, then the word names it and it has seen them all.
  pub record SeatFits (owner : ℕ) (items : List I) (view : View I) : Type 0 where
    pub sees : IsPrefix view.seen items
    pub own : items_of seat view.number items ≡ view.own
    pub holder : view.holds ≡ true → (owner ≡ suc view.number) × (view.seen ≡ items)
    pub small : view.number < 4294967296

  -- Of seat 0, besides: no seat has a number above the last that it gave out, nor has an item such a number; and of each
  -- seat that was joined the items stay as they were, and no other seat has its number.
  pub record FirstSeatFits (items : List I) (views : List (View I)) (view : View I) : Type 0 where
    pub last : (id : ℕ) (other : View I) → IsLive views id other → other.number ≤ view.last_number
    pub ahead : (number : ℕ) → view.last_number < number → items_of seat number items ≡ []
    pub back : (place number : ℕ) (own : List I) → get_elem? view.joined place ≡ some (number, own)
        → (items_of seat number items ≡ own) × (number ≤ view.last_number)
        × ((id : ℕ) (other : View I) → IsLive views id other → other.number ≢ number)

  -- There is one slot, and while the owner word is 0 it is at home, with a value that stands for the items.
  abbrev pub SlotFits : ℕ → List I → List (maybe.Option (Option T)) → Type 0
  SlotFits owner items homes = (home : maybe.Option (Option T)) × (homes ≡ home ∷ [])
      × (owner ≡ 0 → (value : T) × (home ≡ some (Some value)) × stands value items)

  -- The whole rule. The first word is the owner: 0, or one more than the number of the one seat that holds the turn. The
  -- second counts the items that marked gives added. No two seats have one number.
  pub record RuleHolds (state : State (Option T) (View I)) : Type 0 where
    pub items : List I
    pub owner : ℕ
    pub words : state.words ≡ owner ∷ length items ∷ []
    pub home : SlotFits owner items state.homes
    pub held : owner ≢ 0 → (id : ℕ) × (view : View I) × IsLive state.views id view × (view.holds ≡ true)
    pub seats : (id : ℕ) (view : View I) → IsLive state.views id view → SeatFits owner items view
    pub apart : (i j : ℕ) (v w : View I) → IsLive state.views i v → IsLive state.views j w → v.number ≡ w.number → i ≡ j
    pub first : (id : ℕ) (view : View I) → IsLive state.views id view → view.number ≡ 0 → FirstSeatFits items state.views view

  -- a seat at a step: its view, and the slots that it carries with what lies in them
  abbrev pub AtStep : Type 0
  AtStep = Me (Option T) (View I)

  -- The compare and exchange found the turn free: the seat holds it, and has in its slot the value, which stands for all
  -- items. They begin with what the seat had seen, and those of its number are its own.
  abbrev pub FoundFree : AtStep → AtStep → Type 0
  FoundFree before after = (value : T) × (items : List I) × IsPrefix before.0.seen items
      × (items_of seat before.0.number items ≡ before.0.own) × stands value items
      × (after ≡ (record before.0 { holds = true; seen = items }, (0, Some value) ∷ before.1))

  -- It found that another seat holds the turn: the seat has one more failed exchange, and keeps who that was.
  abbrev pub FoundHolder : AtStep → ℕ → AtStep → Type 0
  FoundHolder before found after = (holder : ℕ) × (found ≡ suc holder) × (holder < 4294967296)
      × (after ≡ (record before.0 { failed_exchanges = suc before.0.failed_exchanges; holder_found = holder }, before.1))

  -- what the compare and exchange of the owner word tells
  abbrev pub TakeTells : AtStep → ℕ → AtStep → Type 0
  TakeTells before found after = (found ≡ 0 → FoundFree before after) × (found ≢ 0 → FoundHolder before found after)

  -- What the addition to the count tells: there is one more item, of this seat, and the value that lies in the slot stands
  -- for all of them.
  abbrev pub MarkTells : AtStep → ℕ → AtStep → Type 0
  MarkTells before found after = (value : T) × (item : I) × (before.1 ≡ (0, Some value) ∷ [])
      × (seat item ≡ before.0.number) × stands value (before.0.seen ++ item ∷ [])
      × (after ≡ (record before.0 { seen = before.0.seen ++ item ∷ []; own = before.0.own ++ item ∷ [] }, before.1))

  -- what a load of the count tells: it is the number of items, and the seat has seen them all
  abbrev pub LoadTells : AtStep → ℕ → AtStep → Type 0
  LoadTells before found after = (items : List I) × (found ≡ length items) × IsPrefix before.0.seen items
      × (items_of seat before.0.number items ≡ before.0.own) × (before.0.holds ≡ true → items ≡ before.0.seen)
      × (after ≡ (record before.0 { seen = items }, before.1))

-- what the swap of the owner word tells: the seat no longer holds the turn, and carries no slot
abbrev pub FreeTells : {T I : Type 0} → Me (Option T) (View I) → ℕ → Me (Option T) (View I) → Type 0
FreeTells before found after = after ≡ (record before.0 { holds = false }, [])

-- the slots that a seat carries between calls: the holder has the one slot, with no value in it
abbrev pub carried : {T : Type 0} → Bool → List (ℕ × Option T)
carried true = (0, None) ∷ []
carried false = []

-- The calls. `before` and `after` are what the seat knows before and after the call.
module _ {T I : Type 0} (stands : T → List I → Type 0) (seat : I → ℕ) where
  -- The seat got a value that stands for all items so far. They begin with what the seat had seen, and among them its own
  -- are exactly those that it added.
  abbrev pub HasTaken : T → View I → View I → Type 0
  HasTaken value before after = (items : List I) × IsPrefix before.seen items × (items_of seat before.number items ≡ before.own)
      × stands value items × (after ≡ record before { holds = true; seen = items })

  -- the same, after any number of exchanges that failed
  abbrev pub HasTakenLate : T → View I → View I → Type 0
  HasTakenLate value before after = (failed : ℕ) × (holder : ℕ) × (before.failed_exchanges ≤ failed)
      × HasTaken value (record before { failed_exchanges = failed; holder_found = holder }) after

  -- The seat got the value; or exactly one exchange failed, and the answer is the holder that it found.
  abbrev pub HasTried : Took T → View I → View I → Type 0
  HasTried (Held value) before after = HasTaken value before after
  HasTried (Busy holder) before after = after ≡ record before { failed_exchanges = suc before.failed_exchanges; holder_found = holder }

  -- What a holder may give: a value that stands for all items, with one more of its own where the give is marked. The count
  -- of a marked give has to fit a word.
  abbrev pub MayGive : Bool → T → View I → Type 0
  MayGive true value before = ((item : I) × (seat item ≡ before.number) × stands value (before.seen ++ item ∷ []))
      × (length before.seen < 18446744073709551615)
  MayGive false value before = stands value before.seen

  -- The seat no longer holds the turn. A marked give added one item of its own, with which the value stands.
  abbrev pub HasGiven : Bool → T → View I → View I → Type 0
  HasGiven true value before after = (item : I) × (seat item ≡ before.number) × stands value (before.seen ++ item ∷ [])
      × (after ≡ record before { holds = false; seen = before.seen ++ item ∷ []; own = before.own ++ item ∷ [] })
  HasGiven false value before after = after ≡ record before { holds = false }

  -- The seat has seen all items so far, and this is how many there are; while it holds the turn they are those that it had
  -- seen.
  abbrev pub HasSeen : ℕ → View I → View I → Type 0
  HasSeen count before after = (items : List I) × (count ≡ length items) × IsPrefix before.seen items
      × (items_of seat before.number items ≡ before.own) × (before.holds ≡ true → items ≡ before.seen)
      × (after ≡ record before { seen = items })

  -- The value of a turn that was closed with this seat 0 stands for all items. Those of each number are those that the seat
  -- of this number added, and no item has a number that was not given out.
  abbrev pub HasClosed : T → View I → Type 0
  HasClosed value before = (items : List I) × IsPrefix before.seen items × stands value items
      × (items_of seat 0 items ≡ before.own)
      × ((place number : ℕ) (own : List I) → get_elem? before.joined place ≡ some (number, own) → items_of seat number items ≡ own)
      × ((number : ℕ) → before.last_number < number → items_of seat number items ≡ [])
