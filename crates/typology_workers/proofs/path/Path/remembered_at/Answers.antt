use Rattle.std.proofs.Common.{◌<◌, arith, length}
use Rattle.std.proofs.lemmas.List.{length-map}
use Rattle.ot_base.specs.declared.tableau.ClassId.{ClassId}
use Rattle.refutation.specs.Prefixes.{class_numbers}
use Rattle.typology_workers.proofs.Remembering.{before-last}
use Rattle.typology_workers.proofs.path.Path.remembered_at.Goals as goal

pub returns-then-is_some-clause-behind : goal.returns-then-is_some-clause-behind
returns-then-is_some-clause-behind c problem front h shorter =
    let prefix = class_numbers c.args.prefix.now in
    let fewer : front < length prefix = omega (arith, shorter, length-map c.args.prefix.now (λ (class : ClassId). class.0)) in
    let behind = before-last problem c.args.self.now prefix front c.in_ok-before.field-0.now h c.requires.there fewer (rw c.deref.ensures.value at c.in_ok-before.ensures.item.1) in
    omega (arith, behind, c.loop-k.invariant)
