use Rattle.std.proofs.Common.{subst, sym}
use Rattle.search_deeds.specs.Deeds.{IsTrueOf}
use Rattle.search_deeds.specs.Gathered.{fate_of}
use Rattle.search_deeds.specs.declared.deed.Fate.{Fate}
use Rattle.typology_workers.proofs.Gathers.{true-for}
use Rattle.typology_workers.proofs.gatherer.judged_fate.Goals as goal

pub returns-clause-fate : goal.returns-clause-fate
returns-clause-fate c =
    subst (λ (fate : Fate). IsTrueOf c.args.p.now c.args.prefix.now (fate_of fate)) (sym c.fate_for.ensures)
    (true-for c.args.p.now c.args.prefix.now c.in_ok-finding.finding c.requires.prefix (rw c.as_slice.ensures at c.in_ok-finding.ensures.judged))
