-- The machine is one of this problem.
use Rattle.std.proofs.Common.{subst}
use Rattle.ot_theory.specs.Problems.{Problem}
use Rattle.search_deeds.specs.Deeds.{AreHonest}
use Rattle.search_deeds.specs.Gathered.{deeds_of}
use Rattle.typology_core.proofs.schedule.run_schedule.Goals as goal

pub gather-requires-clause-honest : goal.gather-requires-clause-honest
gather-requires-clause-honest c = subst (λ (problem : Problem). AreHonest problem (deeds_of c.deeds.result.now)) c.in_ok-machine.ensures.problem c.deeds.ensures.honest
