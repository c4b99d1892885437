-- Instructions that change a list through what its words mean.
use Rattle.std.proofs.Common.{◌≡◌, ℕ, zero, suc, ◌<◌, ◌≤◌, List, [], ◌∷◌, ◌++◌, length, map, set, Some, None, refl, ap, ◌∙◌, arith}
use Rattle.std.specs.Prelude.{slice_get}
use Rattle.std.proofs.lemmas.List.{map-set, map-append, length-map}
use Rattle.std.proofs.lemmas.Option.{slice_get-map}
use Rattle.vx_format.specs.declared.image.Image.{Image}
use Rattle.vx_format.specs.declared.image.Instr.TheVariants as n
use Rattle.vx_compilation.specs.Activations.{Slot, stored, kept}
use Rattle.vx_compilation.specs.Machine.{On, Lacks}
use Rattle.vx_machine.specs.declared.word.Word.{Word}
use Rattle.vx_machine.specs.declared.word.Local.TheVariants as h
use Rattle.vx_machine.specs.Cuts.{Stacked, pushed, with_local}
use Rattle.vx_machine.specs.Meaning.{Kept, Whole, acted, machine_of, slot_of, value_of}

-- a local that is there is set, and no other
stored_there : {A : Type 0} (f : A → Slot) (x : ℕ) (locals : List A) (new : A) → x < length locals →
    stored x (f new) (map f locals) ≡ Some (map f (set locals x new))
stored_there f x [] new lt = absurd (omega arith)
stored_there f zero (own ∷ locals) new lt = refl
stored_there f (suc x) (own ∷ locals) new lt = ap (kept (f own)) (stored_there f x locals new (omega arith))

stored_missing : {A : Type 0} (f : A → Slot) (x : ℕ) (locals : List A) (new : Slot) → length locals ≤ x → stored x new (map f locals) ≡ None
stored_missing f x [] new le = refl
stored_missing f zero (own ∷ locals) new le = absurd (omega arith)
stored_missing f (suc x) (own ∷ locals) new le = ap (kept (f own)) (stored_missing f x locals new (omega arith))

pub store_done : (image : Image) (all : Whole) (old : Kept) (s : Stacked) (word : Word) (x : ℕ) → old.stacked ≡ pushed word s → x < length s.running.locals
    → acted image (n.Store x) (machine_of image all old) ≡ On (machine_of image all (record old { stacked = with_local x (h.Plain word) s }))
store_done image all old s word x e lt = rw (e, stored_there (slot_of all.texts) x s.running.locals (h.Plain word) lt) refl

pub store_lacks : (image : Image) (all : Whole) (old : Kept) (s : Stacked) (word : Word) (x : ℕ) → old.stacked ≡ pushed word s → length s.running.locals ≤ x
    → acted image (n.Store x) (machine_of image all old) ≡ Lacks
store_lacks image all old s word x e le = rw (e, stored_missing (slot_of all.texts) x s.running.locals (slot_of all.texts (h.Plain word)) le) refl

pub cell_made : (image : Image) (all : Whole) (old : Kept) (s : Stacked) (word : Word) (x : ℕ) → old.stacked ≡ pushed word s → x < length s.running.locals
    → acted image (n.Cell x) (machine_of image all old)
    ≡ On (machine_of image all (record old { stacked = with_local x (h.Cell (length old.cells)) s; cells = old.cells ++ word ∷ [] }))
cell_made image all old s word x e lt =
    rw (
      e,
      length-map old.cells (value_of all.texts),
      stored_there (slot_of all.texts) x s.running.locals (h.Cell (length old.cells)) lt,
      map-append (value_of all.texts) old.cells (word ∷ []),
    ) refl

pub cell_lacks : (image : Image) (all : Whole) (old : Kept) (s : Stacked) (word : Word) (x : ℕ) → old.stacked ≡ pushed word s → length s.running.locals ≤ x
    → acted image (n.Cell x) (machine_of image all old) ≡ Lacks
cell_lacks image all old s word x e le =
    rw (
      e,
      length-map old.cells (value_of all.texts),
      stored_missing (slot_of all.texts) x s.running.locals
          (slot_of all.texts (h.Cell (length old.cells))) le,
    ) refl

pub cell_changed : (image : Image) (all : Whole) (old : Kept) (s : Stacked) (word : Word) (x c : ℕ) → old.stacked ≡ pushed word s
    → slice_get s.running.locals x ≡ Some (h.Cell c)
    → acted image (n.CellSet x) (machine_of image all old) ≡ On (machine_of image all (record old { stacked = s; cells = set old.cells c word }))
cell_changed image all old s word x c e at =
    rw (e, slice_get-map (slot_of all.texts) s.running.locals x, at, map-set (value_of all.texts) old.cells c word) refl

pub cell_away : (image : Image) (all : Whole) (old : Kept) (s : Stacked) (word : Word) (x c : ℕ) → old.stacked ≡ pushed word s
    → slice_get s.running.locals x ≡ Some (h.Cell c) → length old.cells ≤ c
    → acted image (n.CellSet x) (machine_of image all old) ≡ On (machine_of image all (record old { stacked = s }))
cell_away image all old s word x c e at away =
    cell_changed image all old s word x c e at ∙ ap (λ (cells : List Word). On (machine_of image all (record old { stacked = s; cells = cells })))
    (beyond old.cells c word away) where
      beyond : (cells : List Word) (c : ℕ) (word : Word) → length cells ≤ c → set cells c word ≡ cells
      beyond [] c word le = refl
      beyond (own ∷ cells) zero word le = absurd (omega arith)
      beyond (own ∷ cells) (suc c) word le = ap (λ (t : List Word). own ∷ t) (beyond cells c word (omega arith))
