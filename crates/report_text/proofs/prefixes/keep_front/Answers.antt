use Rattle.report_text.proofs.Kept.{written-left, written-short}
use Rattle.report_text.proofs.prefixes.keep_front.Goals as goal

pub drop_numbers-requires : goal.drop_numbers-requires
drop_numbers-requires c = written-short c.args.front c.args.before.now c.args.kept.now c.requires.kept

pub returns : goal.returns
returns c = written-left c.args.front c.args.before.now c.args.kept.now c.drop_numbers.new.kept c.requires.kept c.drop_numbers.ensures
