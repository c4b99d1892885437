use Rattle.std.proofs.Common.{◌-◌, length}
use Rattle.vx_blocks.specs.Search.{IsSearched}
use Rattle.vx_blocks.proofs.lines.find_end_line.Given as goal

abbrev pub invariant-loop-place : goal.invariant-loop-place
invariant-loop-place l = IsSearched l.bytes l.line l.searched

abbrev pub decreases-loop-place : goal.decreases-loop-place
decreases-loop-place l = length l.bytes - l.searched
