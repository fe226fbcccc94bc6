use denote.RattleType.{RattleType}
use denote.Param.Send.{IsSend, IsSync, sendable}
use denote.Struct.Owning
use denote.Struct.Struct
use Rattle.note_sign.specs.contracts.Sign as Sign
use Rattle.note_sign.proofs.Sign.TheSendSync.Send.{noted_keyless}

pub sync : (T : RattleType) → IsSync (Sign.the_row T)
sync T = let fields : IsSync (denote.Struct.Struct.Struct (denote.Struct.Owning.shape (Sign.the_type T))) = search sendable depth 20 in
    record { shared = λ d b o κ. (fields.shared (tt, tt) b o κ, noted_keyless T d.cell d.known) }
