use Rattle.std.proofs.Common.{[], ◌∷◌, ◌++◌, sym, subst}
use Rattle.vx_lists.proofs.Places.{stands}
use Rattle.vx_model.specs.Walks.{Walked, HasRoom}
use Rattle.vx_model.proofs.Walking.{begins, starts, last_within, goes_up}
use Rattle.vx_model.proofs.above.marked.Goals as goal

-- src/above.rt:91:5
pub come-requires : goal.come-requires
come-requires c =
    subst (HasRoom c.args.program.now c.none-marks.result) (sym c.new-left.ensures)
    (starts c.args.program.now c.none-marks.result c.declarations-decls.ensures.program c.none-marks.ensures.places)

-- src/above.rt:92:5
pub loop-place-init : goal.loop-place-init
loop-place-init c = record {
  walked = c.come.ensures.walked c.args.x.now [] (subst (λ left. Walked c.args.program.now c.args.x.now c.none-marks.result left (c.args.x.now ∷ []))
      (sym c.new-left.ensures) (begins c.args.program.now c.args.x.now c.none-marks.result c.none-marks.ensures.none));
  room = c.come.ensures.room;
}

-- src/above.rt:93:9
pub go_up-requires-clause-within : goal.go_up-requires-clause-within
go_up-requires-clause-within c =
    last_within c.args.program.now c.args.x.now c.loop-place.marks c.pop.new.self.items c.in-Some.place
    (subst (λ left. Walked c.args.program.now c.args.x.now c.loop-place.marks left []) c.in-Some.ensures.items c.loop-place.invariant.walked)

-- src/above.rt:92:5
pub loop-place-preserved : goal.loop-place-preserved
loop-place-preserved c =
    let walked : Walked c.args.program.now c.args.x.now c.loop-place.marks (c.pop.new.self.items ++ c.in-Some.place ∷ []) [] =
    subst (λ left. Walked c.args.program.now c.args.x.now c.loop-place.marks left []) c.in-Some.ensures.items c.loop-place.invariant.walked in
    let own = stands c.args.program.now c.in-Some.place (last_within c.args.program.now c.args.x.now c.loop-place.marks c.pop.new.self.items c.in-Some.place walked) in
    record {
      walked = c.go_up.ensures.walked c.args.x.now own.0 own.1
          (goes_up c.args.program.now c.args.x.now c.loop-place.marks c.pop.new.self.items c.in-Some.place own.0 c.declarations-decls.ensures.program walked own.1);
      room = c.go_up.ensures.room;
    }
