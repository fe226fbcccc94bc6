-- the lines of the first implications are written
use Rattle.std.proofs.Common.{◌≡◌, ◌++◌, take, flat_map}
use Rattle.report_text.specs.Listings.{implication_line}
use Rattle.report_text.proofs.torder.put_implications.Given as goal

abbrev pub invariant-loop-implication : goal.invariant-loop-implication
invariant-loop-implication l = l.text ≡ l.initial.text ++ flat_map implication_line (take l.implication-index l.implications)
