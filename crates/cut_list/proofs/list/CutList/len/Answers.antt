use Rattle.std.proofs.Common.{arith}
use Rattle.cut_list.proofs.Steps.{seen-long}
use Rattle.cut_list.proofs.list.CutList.len.Goals as goal

pub returns : goal.returns
returns c = omega (arith, c.len.ensures, c.self.inside.steps.ok.0, seen-long c.self.inside.classes.items c.self.inside.steps.items c.args.self.now c.self.view_is)
