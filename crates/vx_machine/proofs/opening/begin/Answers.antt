use Rattle.std.proofs.Common.{◌≡◌, ◌∙◌, List, [], Some, None, ap, sym}
use Rattle.std.specs.Prelude.{slice_get}
use Rattle.vx_names.specs.declared.key.Selector.{Selector}
use Rattle.vx_model.specs.declared.report.RunError.TheVariants as e
use Rattle.vx_tables.specs.declared.picked.Picked.TheVariants as chosen
use Rattle.vx_compilation.specs.Machine.{Stops}
use Rattle.vx_places.specs.Dispatch.{Placed, dispatched}
use Rattle.vx_places.specs.ImageMachine.{main_found, opening}
use Rattle.vx_machine.specs.Opening.{reached_first}
use Rattle.vx_machine.proofs.Beginning.{begins_at, main_picks, row_missing, row_there}
use Rattle.vx_machine.proofs.opening.begin.Goals as goal

pub returns-in_ok-selector-in-None-clause-means : goal.returns-in_ok-selector-in-None-clause-means
returns-in_ok-selector-in-None-clause-means c =
    let main : c.args.ready.now.main ≡ Some c.in-Some.t = rw c.image.ensures.image at c.in-Some.is in
    let there : slice_get c.args.ready.now.tables c.in-Some.t ≡ Some c.in-Some-table.table.now = sym c.in-Some-table.ensures.table in
    let picked : c.in_ok-picked.field-0 ≡ dispatched c.args.ready.now (opening c.args.ready.now).objects c.in-Some-table.table.now [] None =
    c.in_ok-picked.ensures [] ∙ ap (λ (things : List Placed). dispatched c.args.ready.now things c.in-Some-table.table.now [] None) (c.requires []) in
    ap (reached_first c.args.ready.now) (main_picks c.args.ready.now c.in-Some.t c.in-Some-table.table.now chosen.None main there (sym c.in-None.is ∙ picked))
    ∙ ap (λ (s : Selector). Stops (e.NotUnderstood s) (opening c.args.ready.now)) (sym c.in_ok-selector-in-None.ensures)

pub returns-in_ok-selector-in-Many-clause-means : goal.returns-in_ok-selector-in-Many-clause-means
returns-in_ok-selector-in-Many-clause-means c =
    let main : c.args.ready.now.main ≡ Some c.in-Some.t = rw c.image.ensures.image at c.in-Some.is in
    let there : slice_get c.args.ready.now.tables c.in-Some.t ≡ Some c.in-Some-table.table.now = sym c.in-Some-table.ensures.table in
    let picked : c.in_ok-picked.field-0 ≡ dispatched c.args.ready.now (opening c.args.ready.now).objects c.in-Some-table.table.now [] None =
    c.in_ok-picked.ensures [] ∙ ap (λ (things : List Placed). dispatched c.args.ready.now things c.in-Some-table.table.now [] None) (c.requires []) in
    ap (reached_first c.args.ready.now) (main_picks c.args.ready.now c.in-Some.t c.in-Some-table.table.now chosen.Many main there (sym c.in-Many.is ∙ picked))
    ∙ ap (λ (s : Selector). Stops (e.Ambiguous s) (opening c.args.ready.now)) (sym c.in_ok-selector-in-Many.ensures)

pub returns-in-None-at-clause-means : goal.returns-in-None-at-clause-means
returns-in-None-at-clause-means c =
    let main : c.args.ready.now.main ≡ Some c.in-Some.t = rw c.image.ensures.image at c.in-Some.is in
    let there : slice_get c.args.ready.now.tables c.in-Some.t ≡ Some c.in-Some-table.table.now = sym c.in-Some-table.ensures.table in
    let picked : c.in_ok-picked.field-0 ≡ dispatched c.args.ready.now (opening c.args.ready.now).objects c.in-Some-table.table.now [] None =
    c.in_ok-picked.ensures [] ∙ ap (λ (things : List Placed). dispatched c.args.ready.now things c.in-Some-table.table.now [] None) (c.requires []) in
    let none : slice_get c.in-Some-table.table.now.rows c.in-Row.row ≡ None = rw c.as_slice.ensures at (sym c.in-None-at.ensures) in
    ap (reached_first c.args.ready.now)
    (main_picks c.args.ready.now c.in-Some.t c.in-Some-table.table.now (chosen.Row c.in-Row.row) main there (sym c.in-Row.is ∙ picked)
    ∙ row_missing c.args.ready.now c.in-Some-table.table.now c.in-Row.row none)

pub returns-in-Some-at-clause-means : goal.returns-in-Some-at-clause-means
returns-in-Some-at-clause-means c =
    let main : c.args.ready.now.main ≡ Some c.in-Some.t = rw c.image.ensures.image at c.in-Some.is in
    let there : slice_get c.args.ready.now.tables c.in-Some.t ≡ Some c.in-Some-table.table.now = sym c.in-Some-table.ensures.table in
    let picked : c.in_ok-picked.field-0 ≡ dispatched c.args.ready.now (opening c.args.ready.now).objects c.in-Some-table.table.now [] None =
    c.in_ok-picked.ensures [] ∙ ap (λ (things : List Placed). dispatched c.args.ready.now things c.in-Some-table.table.now [] None) (c.requires []) in
    let at : slice_get c.in-Some-table.table.now.rows c.in-Row.row ≡ Some c.in-Some-at.row.now = rw c.as_slice.ensures at (sym c.in-Some-at.ensures) in
    begins_at c.args.ready.now (main_found c.args.ready.now) c.in-Some-at.row.now.does c.in-Some-table.table.now c.begin_row.result
    (main_picks c.args.ready.now c.in-Some.t c.in-Some-table.table.now (chosen.Row c.in-Row.row) main there (sym c.in-Row.is ∙ picked)
    ∙ row_there c.args.ready.now c.in-Some-table.table.now c.in-Row.row c.in-Some-at.row.now at) c.begin_row.ensures.means
