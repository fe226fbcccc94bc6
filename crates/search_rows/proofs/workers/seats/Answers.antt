use Rattle.search_rows.proofs.Seated.{none-missed}
use Rattle.search_rows.proofs.workers.seats.Goals as goal

pub returns : goal.returns
returns c = none-missed c.make.result c.args.n c.make.ensures.new
