use Rattle.std.proofs.Common.{get_or, refl}
use Rattle.ot_base.specs.declared.tableau.ClassId.{ClassId}
use Rattle.typology_workers.specs.Paths.{prefix_of}
use Rattle.typology_workers.proofs.Going.{next_class, there_more}
use Rattle.typology_workers.proofs.path.Path.go_to.Goals as goal

pub go_on-requires-clause-class : goal.go_on-requires-clause-class
go_on-requires-clause-class c =
    let none : ClassId = record { 0 = 0 } in
    next_class c.args.p.now c.loop-k.self c.args.prefix.now c.loop-k.k none (get_or c.args.prefix.now c.loop-k.k none) c.requires.prefix c.loop-k.invariant.there c.loop-k-test.true refl

pub loop-k-preserved : goal.loop-k-preserved
loop-k-preserved c =
    let none : ClassId = record { 0 = 0 } in
    record {
      path = c.in_ok-go_on.ensures.path;
      there = there_more c.args.prefix.now c.loop-k.k none (prefix_of c.loop-k.self) (prefix_of c.go_on.new.self) (get_or c.args.prefix.now c.loop-k.k none) c.loop-k-test.true refl c.loop-k.invariant.there c.in_ok-go_on.ensures.there;
    }
