use denote.Param.Send.{IsSync, part_keyless}
use Rattle.ghost_trace.specs.contracts.Trace.{the_row}
use Rattle.ghost_trace.proofs.Trace.TheSendSync.Send.{send}

pub sync : IsSync the_row
sync = record { shared = λ d b o κ q. part_keyless the_row send q d b o }
