use denote.Param.Send.{IsSend, owning_send, sendable}
use Rattle.ghost_trace.specs.contracts.Trace.{the_row, the_type}

pub send : IsSend the_row
send = owning_send the_type tt (λ d. tt) (λ k x w. tt)
