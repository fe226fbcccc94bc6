-- Answers of a reading.
use Rattle.std.specs.Prelude.{Result, Ok, Err, ⊤}
use Rattle.otsoft_run.specs.declared.judging.Posed.{Posed}
use Rattle.otsoft_run.specs.declared.sources.PoseError.{PoseError}
use Rattle.otsoft_run.specs.declared.sources.PoseError.TheVariants as pose
use Rattle.otsoft_run.specs.declared.sources.SourceError.{SourceError}
use Rattle.otsoft_run.specs.declared.sources.SourceError.TheVariants as source

-- the answers that come only after all was read
abbrev pub IsReadThrough : Result Posed PoseError → Type 0
IsReadThrough (Ok posed) = ⊤
IsReadThrough (Err (pose.Fault at)) = ⊥
IsReadThrough (Err (pose.Refused refusal)) = ⊤
IsReadThrough (Err pose.NoMemory) = ⊥

-- those of one file
abbrev pub IsSourceRead : {R : Type 0} → Result Posed (SourceError R) → Type 0
IsSourceRead (Ok posed) = ⊤
IsSourceRead (Err source.Fault) = ⊥
IsSourceRead (Err (source.Refused refusal)) = ⊤
IsSourceRead (Err source.NoMemory) = ⊥

-- A file could not be opened or read.
abbrev pub HasFault : Result Posed PoseError → Type 0
HasFault (Ok posed) = ⊥
HasFault (Err (pose.Fault at)) = ⊤
HasFault (Err (pose.Refused refusal)) = ⊥
HasFault (Err pose.NoMemory) = ⊥
