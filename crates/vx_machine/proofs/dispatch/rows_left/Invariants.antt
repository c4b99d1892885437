use Rattle.std.proofs.Common.{◌≡◌, ◌<◌, ℕ, drop, map}
use Rattle.std.specs.Prelude.{◌&&◌}
use Rattle.std.specs.List.{list_all}
use Rattle.vx_tables.specs.Masks.{has}
use Rattle.vx_places.specs.Dispatch.{masks_of}
use Rattle.vx_machine.specs.Meaning.{Texts, things_of, value_of}
use Rattle.vx_machine.proofs.dispatch.rows_left.Given as goal

abbrev pub invariant-loop-i : goal.invariant-loop-i
invariant-loop-i l = (texts : Texts) → (row : ℕ) → row < 128
    → (has l.left row && list_all (λ mask. has mask row)
    (masks_of l.image (things_of texts l.objects) (map (value_of texts) (drop l.i l.words)) (drop l.i l.positions)))
    ≡ list_all (λ mask. has mask row) (masks_of l.image (things_of texts l.objects) (map (value_of texts) l.words) l.positions)
