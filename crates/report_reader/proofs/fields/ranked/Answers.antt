use Rattle.report_reader.specs.Fields.{words}
use Rattle.report_reader.proofs.Ranked.{placed_strata}
use Rattle.report_reader.proofs.fields.ranked.Goals as goal

pub returns-then-rank : goal.returns-then-rank
returns-then-rank c =
    placed_strata c.args.levels.now c.rank.new.levels (words c.args.field.now) c.of.result (rw c.if-rank.true at c.rank.ensures.fits) (c.rank.ensures.placed c.if-rank.true)
    (rw c.rank.ensures.length c.requires) c.of.ensures.some c.of.ensures.none
