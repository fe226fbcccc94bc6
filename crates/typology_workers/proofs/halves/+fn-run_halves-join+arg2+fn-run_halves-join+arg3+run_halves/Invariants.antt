-- Each half has fewer packets.
use Rattle.std.proofs.Common.{◌+◌, ◌*◌, vec_len}
use Rattle.typology_workers.proofs.halves.+fn-run_halves-join+arg2+fn-run_halves-join+arg3+run_halves.Given as goal

abbrev pub decreases-join+arg2 : goal.decreases-join+arg2
decreases-join+arg2 g l = 2 * vec_len l.front + 1

abbrev pub decreases-join+arg3 : goal.decreases-join+arg3
decreases-join+arg3 g l = 2 * vec_len l.back + 1

abbrev pub decreases-run_halves : goal.decreases-run_halves
decreases-run_halves g l = 2 * vec_len l.packets
