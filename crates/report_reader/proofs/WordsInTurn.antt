-- Reading the words of a field one after the other, as a loop does.
use Rattle.std.proofs.Common.{◌≡◌, List, [], ◌∷◌, ◌++◌, refl, ap, append_assoc}
use Rattle.std.specs.Prelude.{Option, Some, None}
use Rattle.report_reader.specs.Fields.{◌>>=◌}

-- what was read before, and what is still read
abbrev pub with_before : {A : Type 0} → List A → Option (List A) → Option (List A)
with_before front read = read >>= λ rest. Some (front ++ rest)
