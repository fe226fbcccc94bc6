use Rattle.std.proofs.Common.{◌≡◌, ◌∙◌, ap, subst}
use Rattle.ot_theory.specs.Problems.{Problem}
use Rattle.search_deeds.specs.Deeds.{AreHonest}
use Rattle.search_deeds.specs.Gathered.{deeds_of}
use Rattle.search_machine.specs.Seen.{Progress}
use Rattle.search_rows.proofs.machines.finds.Goals as goal

pub gather-requires-clause-honest : goal.gather-requires-clause-honest
gather-requires-clause-honest g c =
    let same : c.take_turns.new.machine.problem ≡ c.args.problem.now = c.take_turns.ensures ∙ ap (λ (machine : Progress). machine.problem) c.in_ok-machine.ensures in
    subst (λ (problem : Problem). AreHonest problem (deeds_of c.deeds.result.now)) same c.deeds.ensures.honest
