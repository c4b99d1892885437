use Rattle.std.proofs.Common.{rules, ◌≡◌, ◌+◌, ◌++◌, ◌∙◌, drop, get_or, subst}
use Rattle.vx_node.specs.Askers.{Stops, Goes}
use Rattle.vx_node.proofs.Leaving.{goes_on, stops, goes_within, stops_within, wants_memory, handed_on}
use Rattle.vx_node.specs.declared.asker.Halt.TheVariants as halts
use Rattle.vx_answers.specs.FieldRows.{joining, spread}
use Rattle.vx_fields.specs.Questions.{gathered}
use Rattle.vx_fields.proofs.Onward.{of_fields, step_stops, step_goes, step_ends}
use Rattle.vx_fields.proofs.spreading.step.Goals as goal

pub returns-in-Err-clause-leaves : goal.returns-in-Err-clause-leaves
returns-in-Err-clause-leaves g c steps =
    let copied : c.in_ok-x.x ≡ c.index-as_slice-place.result = c.in_ok-x.ensures in
    let now : c.as_slice.result.now ≡ c.args.met.now = c.as_slice.ensures in
    let at : c.index-as_slice-place.result ≡ get_or c.as_slice.result.now c.args.place c.index-as_slice-place.result = c.index-as_slice-place.is in
    let is : c.in_ok-x.x ≡ get_or c.args.met.now c.args.place c.in_ok-x.x = cc in
    step_stops steps c.args.met.now c.args.place c.in_ok-x.x (gathered c.args.lists.now) c.requires.within is c.in-Err.ensures.follows

pub returns-in-Err-fields_of-clause-leaves : goal.returns-in-Err-fields_of-clause-leaves
returns-in-Err-fields_of-clause-leaves g c steps =
    let copied : c.in_ok-x.x ≡ c.index-as_slice-place.result = c.in_ok-x.ensures in
    let now : c.as_slice.result.now ≡ c.args.met.now = c.as_slice.ensures in
    let at : c.index-as_slice-place.result ≡ get_or c.as_slice.result.now c.args.place c.index-as_slice-place.result = c.index-as_slice-place.is in
    let is : c.in_ok-x.x ≡ get_or c.args.met.now c.args.place c.in_ok-x.x = cc in
    stops (step_goes steps c.args.met.now c.args.place c.in_ok-x.x (gathered c.args.lists.now) c.in-Ok.predicates c.requires.within is
    c.in-Ok.ensures.follows)
    (stops_within (of_fields steps c.args.met.now (drop (c.args.place + 1) c.args.met.now) (gathered c.args.lists.now) c.in-Ok.predicates)
    c.in-Err-fields_of.ensures.follows)

pub returns-in-Err-join-clause-leaves : goal.returns-in-Err-join-clause-leaves
returns-in-Err-join-clause-leaves g c steps =
    let copied : c.in_ok-x.x ≡ c.index-as_slice-place.result = c.in_ok-x.ensures in
    let now : c.as_slice.result.now ≡ c.args.met.now = c.as_slice.ensures in
    let at : c.index-as_slice-place.result ≡ get_or c.as_slice.result.now c.args.place c.index-as_slice-place.result = c.index-as_slice-place.is in
    let is : c.in_ok-x.x ≡ get_or c.args.met.now c.args.place c.in_ok-x.x = cc in
    stops (goes_on (step_goes steps c.args.met.now c.args.place c.in_ok-x.x (gathered c.args.lists.now) c.in-Ok.predicates c.requires.within is
    c.in-Ok.ensures.follows)
    (goes_within (of_fields steps c.args.met.now (drop (c.args.place + 1) c.args.met.now) (gathered c.args.lists.now) c.in-Ok.predicates)
    c.in-Ok-fields_of.ensures.follows))
    (subst (λ ps. Stops g.A.Asker.manner (joining c.args.met.now (drop (c.args.place + 1) c.args.met.now) ps
    (λ met left. spread steps met left (c.in-Ok-fields_of.slots ++ gathered c.args.lists.now))) c.in-Err-join.halt
    c.fields_of.new.t.asker.now c.fields_of.new.t.trace c.join.new.t.asker.now c.join.new.t.trace) c.as_slice-2.ensures
    (c.in-Err-join.ensures.leaves (λ met left. spread steps met left (c.in-Ok-fields_of.slots ++ gathered c.args.lists.now))))

pub returns-in_err-push-clause-leaves : goal.returns-in_err-push-clause-leaves
returns-in_err-push-clause-leaves g c steps =
    let copied : c.in_ok-x.x ≡ c.index-as_slice-place.result = c.in_ok-x.ensures in
    let now : c.as_slice.result.now ≡ c.args.met.now = c.as_slice.ensures in
    let at : c.index-as_slice-place.result ≡ get_or c.as_slice.result.now c.args.place c.index-as_slice-place.result = c.index-as_slice-place.is in
    let is : c.in_ok-x.x ≡ get_or c.args.met.now c.args.place c.in_ok-x.x = cc in
    let told = goes_on (step_goes steps c.args.met.now c.args.place c.in_ok-x.x (gathered c.args.lists.now) c.in-Ok.predicates c.requires.within is
    c.in-Ok.ensures.follows)
    (goes_within (of_fields steps c.args.met.now (drop (c.args.place + 1) c.args.met.now) (gathered c.args.lists.now) c.in-Ok.predicates)
    c.in-Ok-fields_of.ensures.follows) in
    let joined : Goes g.A.Asker.manner (joining c.args.met.now (drop (c.args.place + 1) c.args.met.now) c.in-Ok.predicates
    (λ met left. spread steps met left (c.in-Ok-fields_of.slots ++ gathered c.args.lists.now)))
    (spread steps c.join.new.met (drop (c.args.place + 1) c.join.new.met) (c.in-Ok-fields_of.slots ++ gathered c.args.lists.now))
    c.fields_of.new.t.asker.now c.fields_of.new.t.trace c.join.new.t.asker.now c.join.new.t.trace =
    subst (λ ps. Goes g.A.Asker.manner (joining c.args.met.now (drop (c.args.place + 1) c.args.met.now) ps
    (λ met left. spread steps met left (c.in-Ok-fields_of.slots ++ gathered c.args.lists.now)))
    (spread steps c.join.new.met (drop (c.args.place + 1) c.join.new.met) (c.in-Ok-fields_of.slots ++ gathered c.args.lists.now))
    c.fields_of.new.t.asker.now c.fields_of.new.t.trace c.join.new.t.asker.now c.join.new.t.trace) c.as_slice-2.ensures
    (c.in-Ok-join.ensures.leaves (λ met left. spread steps met left (c.in-Ok-fields_of.slots ++ gathered c.args.lists.now))) in
    handed_on _ _ _ c.from_residual-in_err-push.result halts.OutOfMemory _ _ _ _ (search rules) (wants_memory (goes_on told joined).adds)

pub returns-clause-leaves : goal.returns-clause-leaves
returns-clause-leaves g c steps =
    let copied : c.in_ok-x.x ≡ c.index-as_slice-place.result = c.in_ok-x.ensures in
    let now : c.as_slice.result.now ≡ c.args.met.now = c.as_slice.ensures in
    let at : c.index-as_slice-place.result ≡ get_or c.as_slice.result.now c.args.place c.index-as_slice-place.result = c.index-as_slice-place.is in
    let is : c.in_ok-x.x ≡ get_or c.args.met.now c.args.place c.in_ok-x.x = cc in
    let told = goes_on (step_goes steps c.args.met.now c.args.place c.in_ok-x.x (gathered c.args.lists.now) c.in-Ok.predicates c.requires.within is
    c.in-Ok.ensures.follows)
    (goes_within (of_fields steps c.args.met.now (drop (c.args.place + 1) c.args.met.now) (gathered c.args.lists.now) c.in-Ok.predicates)
    c.in-Ok-fields_of.ensures.follows) in
    let joined : Goes g.A.Asker.manner (joining c.args.met.now (drop (c.args.place + 1) c.args.met.now) c.in-Ok.predicates
    (λ met left. spread steps met left (c.in-Ok-fields_of.slots ++ gathered c.args.lists.now)))
    (spread steps c.join.new.met (drop (c.args.place + 1) c.join.new.met) (c.in-Ok-fields_of.slots ++ gathered c.args.lists.now))
    c.fields_of.new.t.asker.now c.fields_of.new.t.trace c.join.new.t.asker.now c.join.new.t.trace =
    subst (λ ps. Goes g.A.Asker.manner (joining c.args.met.now (drop (c.args.place + 1) c.args.met.now) ps
    (λ met left. spread steps met left (c.in-Ok-fields_of.slots ++ gathered c.args.lists.now)))
    (spread steps c.join.new.met (drop (c.args.place + 1) c.join.new.met) (c.in-Ok-fields_of.slots ++ gathered c.args.lists.now))
    c.fields_of.new.t.asker.now c.fields_of.new.t.trace c.join.new.t.asker.now c.join.new.t.trace) c.as_slice-2.ensures
    (c.in-Ok-join.ensures.leaves (λ met left. spread steps met left (c.in-Ok-fields_of.slots ++ gathered c.args.lists.now))) in
    step_ends steps c.join.new.met _ c.in-Ok-fields_of.slots c.args.lists.now c.push.new.self c.in_ok-push.ensures.ok (goes_on told joined)
