use Rattle.vx_tables.proofs.Masks.{masks_pick}
use Rattle.vx_tables.proofs.laws.masks_pick_what_lookup_finds.Goals as goal

pub returns : goal.returns
returns c = masks_pick
