use Rattle.std.proofs.Common.{◌<◌, ◌/◌, length}
use Rattle.std.proofs.lemmas.Result.{on_ok_weaker}
use Rattle.refutation.specs.Asked.{Begins}
use Rattle.search_deeds.proofs.Admitting.{others-at, own-at}
use Rattle.search_deeds.proofs.blocks.Blocks.add.Goals as goal

pub returns-clause-own : goal.returns-clause-own
returns-clause-own c =
    let long : c.args.count / 64 < length c.self.inside.blocks.items = rw c.self.view_is c.in_ok-make.ensures.long in
    on_ok_weaker c.add.result (λ own prefix made. own-at c.self.inside.blocks.items prefix c.args.count c.add.new.self long (own prefix made)) c.add.ensures.own

pub returns-clause-others : goal.returns-clause-others
returns-clause-others c =
    let long : c.args.count / 64 < length c.self.inside.blocks.items = rw c.self.view_is c.in_ok-make.ensures.long in
    let kept : Begins c.args.self.now c.self.inside.blocks.items = rw c.self.view_is c.in_ok-make.ensures.kept in
    on_ok_weaker c.add.result (λ more k below prefix h.
    others-at c.args.self.now c.self.inside.blocks.items prefix c.args.count k c.index_mut.result.now c.add.new.self c.requires below kept long c.index_mut.ensures.value (more prefix) h) c.add.ensures.others
