use Rattle.std.proofs.Common.{sym}
use Rattle.otsoft_run.proofs.Verdicts.{made_accepted, reads_file}
use Rattle.otsoft_run.proofs.posing.pose.Goals as goal

pub returns-in-Some-clause-accepted : goal.returns-in-Some-clause-accepted
returns-in-Some-clause-accepted g c =
    made_accepted c.args.settings.now (g.F.Files.told c.args.files.now) c.in-Some.number c.pose_made.result (sym c.in-Some.ensures) c.pose_made.ensures.accepted c.pose_made.ensures.alone

pub returns-in-None-clause-untouched : goal.returns-in-None-clause-untouched
returns-in-None-clause-untouched g c = reads_file c.args.settings.now (g.F.Files.told c.args.files.now) (g.F.Files.told c.pose_read.new.files) (sym c.in-None.ensures)
