use Rattle.std.proofs.Common.{◌≡◌, ◌+◌, ◌≤◌, arith}
use Rattle.vx_link.specs.Link.{limit}
use Rattle.vx_link.specs.Walks.{unit_size}
use Rattle.vx_link.proofs.Measured.{starts, goes_on, stops}
use Rattle.vx_link.proofs.measure.measure.Goals as goal

pub loop-place-init : goal.loop-place-init
loop-place-init g c = starts c.args.roster.now (g.U.Units.unit_of c.args.units.now)

pub returns-then-size-ge-LIMIT : goal.returns-then-size-ge-LIMIT
returns-then-size-ge-LIMIT g c =
    let much : limit ≤ c.loop-place.size + unit_size c.in_ok-unit.unit.now = omega (arith, c.with_unit-size.ensures, c.if-size-ge-LIMIT.true) in
    stops c.in_ok-unit.ensures c.loop-place.invariant much

pub loop-place-preserved : goal.loop-place-preserved
loop-place-preserved g c =
    let same : c.with_unit-size.result ≡ c.loop-place.size + unit_size c.in_ok-unit.unit.now =
    omega (arith, c.with_unit-size.ensures, c.if-size-ge-LIMIT.false) in
    goes_on c.in_ok-unit.ensures c.loop-place.invariant c.with_unit-size.result same c.if-size-ge-LIMIT.false
