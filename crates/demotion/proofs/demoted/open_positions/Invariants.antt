-- the open conditions so far are listed
use Rattle.std.proofs.Common.{◌≡◌, [], get_or}
use Rattle.std.specs.Prelude.{filter}
use Rattle.ot_theory.specs.Rankings.{numbers_below}
use Rattle.ot_theory.specs.Demotion.{is_open}
use Rattle.demotion.proofs.demoted.open_positions.Given as goal

abbrev pub invariant-loop-k : goal.invariant-loop-k
invariant-loop-k l = l.positions ≡ filter (λ j. is_open l.levels (get_or l.set j [])) (numbers_below l.k)
