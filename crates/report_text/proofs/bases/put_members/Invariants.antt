-- the lines of the first k members are written
use Rattle.std.proofs.Common.{◌≡◌, ℕ, List, ◌++◌, take, flat_map}
use Rattle.std.specs.List.{enumerate_from, zip}
use Rattle.ot_theory.specs.declared.Mark.{Mark}
use Rattle.report_text.specs.Listings as listings
use Rattle.report_text.proofs.bases.put_members.Given as goal

abbrev pub member_line : ℕ × (List Mark × List Mark) → List ℕ
member_line (k, member) = listings.member_line k member

abbrev pub invariant-loop-k : goal.invariant-loop-k
invariant-loop-k l = l.text ≡ l.initial.text ++ flat_map member_line (enumerate_from 1 (take l.k (zip l.informative l.skeletal)))
