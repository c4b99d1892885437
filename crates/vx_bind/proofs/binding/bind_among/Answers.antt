use Rattle.std.proofs.Common.{◌∙◌, rules, ap, subst, sym}
use Rattle.std.specs.Option.{option_copied}
use Rattle.vx_node.specs.declared.node.Filter.TheVariants as filters
use Rattle.vx_node.specs.declared.asker.Halt.TheVariants as h
use Rattle.vx_node.specs.Asking.{gives}
use Rattle.vx_node.specs.Askers.{Goes}
use Rattle.vx_node.proofs.Leaving.{idle, wants_memory, handed_on}
use Rattle.vx_answers.specs.SendRows.{about, beside, bind_among, cones_asked, info_objects, specialisers_asked, specialisers_of}
use Rattle.vx_walks.proofs.Looping.{goes_as, stops_as}
use Rattle.vx_bind.proofs.Courses.{with_abouts, with_ups, with_cones}
use Rattle.vx_bind.proofs.binding.bind_among.Goals as goal

pub returns-in-Err-clause-follows : goal.returns-in-Err-clause-follows
returns-in-Err-clause-follows g c =
    stops_as about (with_abouts c.args.heads.now c.args.infos.now (option_copied c.args.below)) c.as_slice.result.now
    (specialisers_asked (specialisers_of c.args.heads.now (option_copied c.args.below)))
    (c.as_slice.ensures ∙ c.in_ok-specialisers.ensures) (idle _ _ _ (bind_among c.args.heads.now c.args.infos.now (option_copied c.args.below)))
    (c.in-Err.ensures.leaves (with_abouts c.args.heads.now c.args.infos.now (option_copied c.args.below)))

pub returns-in-Err-besides-clause-follows : goal.returns-in-Err-besides-clause-follows
returns-in-Err-besides-clause-follows g c =
    let first = goes_as about (with_abouts c.args.heads.now c.args.infos.now (option_copied c.args.below)) c.as_slice.result.now
    (specialisers_asked (specialisers_of c.args.heads.now (option_copied c.args.below))) c.in-Ok.abouts
    (c.as_slice.ensures ∙ c.in_ok-specialisers.ensures) (idle _ _ _ (bind_among c.args.heads.now c.args.infos.now (option_copied c.args.below)))
    (c.in-Ok.ensures.leaves (with_abouts c.args.heads.now c.args.infos.now (option_copied c.args.below))) in
    stops_as (beside filters.Up) (with_ups c.args.heads.now c.args.infos.now (option_copied c.args.below) c.in-Ok.abouts) c.as_slice-2.result.now
    (info_objects c.args.infos.now)
    (c.as_slice-2.ensures ∙ c.in_ok-objects.ensures) first
    (c.in-Err-besides.ensures.leaves (with_ups c.args.heads.now c.args.infos.now (option_copied c.args.below) c.in-Ok.abouts))

pub returns-in_err-classes-clause-follows : goal.returns-in_err-classes-clause-follows
returns-in_err-classes-clause-follows g c =
    let first = goes_as about (with_abouts c.args.heads.now c.args.infos.now (option_copied c.args.below)) c.as_slice.result.now
    (specialisers_asked (specialisers_of c.args.heads.now (option_copied c.args.below))) c.in-Ok.abouts
    (c.as_slice.ensures ∙ c.in_ok-specialisers.ensures) (idle _ _ _ (bind_among c.args.heads.now c.args.infos.now (option_copied c.args.below)))
    (c.in-Ok.ensures.leaves (with_abouts c.args.heads.now c.args.infos.now (option_copied c.args.below))) in
    let second = goes_as (beside filters.Up) (with_ups c.args.heads.now c.args.infos.now (option_copied c.args.below) c.in-Ok.abouts) c.as_slice-2.result.now
    (info_objects c.args.infos.now) c.in-Ok-besides.ups
    (c.as_slice-2.ensures ∙ c.in_ok-objects.ensures) first
    (c.in-Ok-besides.ensures.leaves (with_ups c.args.heads.now c.args.infos.now (option_copied c.args.below) c.in-Ok.abouts)) in
    handed_on _ _ gives c.from_residual-in_err-classes.result h.OutOfMemory _ _ _ _ (search rules) (wants_memory second.adds)

pub returns-in-Err-besides-2-clause-follows : goal.returns-in-Err-besides-2-clause-follows
returns-in-Err-besides-2-clause-follows g c =
    let first = goes_as about (with_abouts c.args.heads.now c.args.infos.now (option_copied c.args.below)) c.as_slice.result.now
    (specialisers_asked (specialisers_of c.args.heads.now (option_copied c.args.below))) c.in-Ok.abouts
    (c.as_slice.ensures ∙ c.in_ok-specialisers.ensures) (idle _ _ _ (bind_among c.args.heads.now c.args.infos.now (option_copied c.args.below)))
    (c.in-Ok.ensures.leaves (with_abouts c.args.heads.now c.args.infos.now (option_copied c.args.below))) in
    let second = goes_as (beside filters.Up) (with_ups c.args.heads.now c.args.infos.now (option_copied c.args.below) c.in-Ok.abouts) c.as_slice-2.result.now
    (info_objects c.args.infos.now) c.in-Ok-besides.ups
    (c.as_slice-2.ensures ∙ c.in_ok-objects.ensures) first
    (c.in-Ok-besides.ensures.leaves (with_ups c.args.heads.now c.args.infos.now (option_copied c.args.below) c.in-Ok.abouts)) in
    stops_as (beside filters.Cone) (with_cones c.args.heads.now c.args.infos.now (option_copied c.args.below) c.in-Ok.abouts c.in-Ok-besides.ups)
    c.as_slice-4.result.now
    (cones_asked c.in-Ok.abouts (specialisers_of c.args.heads.now (option_copied c.args.below)) 0 c.args.infos.now)
    (c.as_slice-4.ensures ∙ c.in_ok-classes.ensures ∙ ap
    (λ abouts. cones_asked abouts (specialisers_of c.args.heads.now (option_copied c.args.below)) 0 c.args.infos.now) c.as_slice-3.ensures)
    second (c.in-Err-besides-2.ensures.leaves (with_cones c.args.heads.now c.args.infos.now (option_copied c.args.below) c.in-Ok.abouts c.in-Ok-besides.ups))

pub returns-in_err-bound-clause-follows : goal.returns-in_err-bound-clause-follows
returns-in_err-bound-clause-follows g c =
    let first = goes_as about (with_abouts c.args.heads.now c.args.infos.now (option_copied c.args.below)) c.as_slice.result.now
    (specialisers_asked (specialisers_of c.args.heads.now (option_copied c.args.below))) c.in-Ok.abouts
    (c.as_slice.ensures ∙ c.in_ok-specialisers.ensures) (idle _ _ _ (bind_among c.args.heads.now c.args.infos.now (option_copied c.args.below)))
    (c.in-Ok.ensures.leaves (with_abouts c.args.heads.now c.args.infos.now (option_copied c.args.below))) in
    let second = goes_as (beside filters.Up) (with_ups c.args.heads.now c.args.infos.now (option_copied c.args.below) c.in-Ok.abouts) c.as_slice-2.result.now
    (info_objects c.args.infos.now) c.in-Ok-besides.ups
    (c.as_slice-2.ensures ∙ c.in_ok-objects.ensures) first
    (c.in-Ok-besides.ensures.leaves (with_ups c.args.heads.now c.args.infos.now (option_copied c.args.below) c.in-Ok.abouts)) in
    let third = goes_as (beside filters.Cone) (with_cones c.args.heads.now c.args.infos.now (option_copied c.args.below) c.in-Ok.abouts c.in-Ok-besides.ups)
    c.as_slice-4.result.now
    (cones_asked c.in-Ok.abouts (specialisers_of c.args.heads.now (option_copied c.args.below)) 0 c.args.infos.now) c.in-Ok-besides-2.cones
    (c.as_slice-4.ensures ∙ c.in_ok-classes.ensures ∙ ap
    (λ abouts. cones_asked abouts (specialisers_of c.args.heads.now (option_copied c.args.below)) 0 c.args.infos.now) c.as_slice-3.ensures)
    second (c.in-Ok-besides-2.ensures.leaves (with_cones c.args.heads.now c.args.infos.now (option_copied c.args.below) c.in-Ok.abouts c.in-Ok-besides.ups)) in
    handed_on _ _ gives c.from_residual-in_err-bound.result h.OutOfMemory _ _ _ _ (search rules) (wants_memory third.adds)

pub returns-clause-follows : goal.returns-clause-follows
returns-clause-follows g c =
    let first = goes_as about (with_abouts c.args.heads.now c.args.infos.now (option_copied c.args.below)) c.as_slice.result.now
    (specialisers_asked (specialisers_of c.args.heads.now (option_copied c.args.below))) c.in-Ok.abouts
    (c.as_slice.ensures ∙ c.in_ok-specialisers.ensures) (idle _ _ _ (bind_among c.args.heads.now c.args.infos.now (option_copied c.args.below)))
    (c.in-Ok.ensures.leaves (with_abouts c.args.heads.now c.args.infos.now (option_copied c.args.below))) in
    let second = goes_as (beside filters.Up) (with_ups c.args.heads.now c.args.infos.now (option_copied c.args.below) c.in-Ok.abouts) c.as_slice-2.result.now
    (info_objects c.args.infos.now) c.in-Ok-besides.ups
    (c.as_slice-2.ensures ∙ c.in_ok-objects.ensures) first
    (c.in-Ok-besides.ensures.leaves (with_ups c.args.heads.now c.args.infos.now (option_copied c.args.below) c.in-Ok.abouts)) in
    let third = goes_as (beside filters.Cone) (with_cones c.args.heads.now c.args.infos.now (option_copied c.args.below) c.in-Ok.abouts c.in-Ok-besides.ups)
    c.as_slice-4.result.now
    (cones_asked c.in-Ok.abouts (specialisers_of c.args.heads.now (option_copied c.args.below)) 0 c.args.infos.now) c.in-Ok-besides-2.cones
    (c.as_slice-4.ensures ∙ c.in_ok-classes.ensures ∙ ap
    (λ abouts. cones_asked abouts (specialisers_of c.args.heads.now (option_copied c.args.below)) 0 c.args.infos.now) c.as_slice-3.ensures)
    second (c.in-Ok-besides-2.ensures.leaves (with_cones c.args.heads.now c.args.infos.now (option_copied c.args.below) c.in-Ok.abouts c.in-Ok-besides.ups)) in
    subst (λ bound. Goes g.A.Asker.manner (bind_among c.args.heads.now c.args.infos.now (option_copied c.args.below)) (gives bound)
    c.args.t.now.asker.now c.args.t.now.trace c.besides-2.new.t.asker.now c.besides-2.new.t.trace) (sym c.in_ok-bound.ensures) third
