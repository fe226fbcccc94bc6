-- the abbreviations of the first constraints of the stratum are written
use Rattle.std.proofs.Common.{◌≡◌, [], ◌++◌}
use Rattle.std.specs.Prelude.{slice_index_or}
use Rattle.report_text.proofs.Grown.{fields}
use Rattle.report_text.proofs.Spaced.{stratum_below}
use Rattle.report_text.proofs.hierarchy.put_abbreviations.Given as goal

abbrev pub invariant-loop-c : goal.invariant-loop-c
invariant-loop-c l = l.text ≡ l.initial.text ++ fields (λ c. slice_index_or l.abbreviations c []) (stratum_below l.strata l.level l.c)
