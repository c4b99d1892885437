-- A run cuts all that was fed.
use Rattle.std.proofs.Common.{◌≡◌, ℕ, List, [], ◌∷◌, ◌++◌, ap, ◌∙◌, append_assoc, append-nil}
use Rattle.vx_blocks.specs.Blocks.{blocks}
use Rattle.vx_blocks.specs.Runs.{Event, Fed, Taken, fed, taken, IsRun}

blocks-run : (events : List Event) (bytes left : List ℕ) → IsRun bytes events left → (more : List ℕ) → blocks (bytes ++ (fed events ++ more)) ≡ taken events ++ blocks (left ++ more)
blocks-run [] bytes left run more = ap (λ b. blocks (b ++ more)) run
blocks-run (Fed piece ∷ events) bytes left run more =
    rw (append_assoc piece (fed events) more, ← append_assoc bytes piece (fed events ++ more)) (blocks-run events (bytes ++ piece) left run more)
blocks-run (Taken block ∷ events) bytes left run more =
    run.1 (fed events ++ more) ∙ ap (λ found. block ∷ found) (blocks-run events run.0 left run.2 more)

pub blocks-fed : (events : List Event) (left : List ℕ) → IsRun [] events left → blocks (fed events) ≡ taken events ++ blocks left
blocks-fed events left run = rw (append-nil (fed events), append-nil left) at (blocks-run events [] left run [])
