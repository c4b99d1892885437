use Rattle.vx_places.proofs.Showing.{images_report}
use Rattle.vx_places.proofs.laws.images_report_as_code.Goals as goal

pub returns : goal.returns
returns c = images_report
