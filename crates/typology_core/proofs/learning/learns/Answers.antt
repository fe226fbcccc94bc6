use Rattle.std.proofs.Common.{◌∙◌, ap}
use Rattle.typology_core.specs.Judged.{named_of}
use Rattle.typology_core.proofs.Holding.{learns-all}
use Rattle.typology_core.proofs.learning.learns.Goals as goal

pub returns : goal.returns
returns c =
    learns-all c.args.p.now c.args.places c.inputs-longest.result c.args.certificates c.held-held.result c.judged.result c.as_slice-3.result.now c.args.cuts.now (ap named_of c.as_slice-3.ensures.value ∙ c.in_ok-named.ensures) c.requires.cuts
    c.requires.certificates c.inputs-longest.ensures.value c.held-held.ensures c.judged.ensures
