-- the lines of the first covers are written
use Rattle.std.proofs.Common.{◌≡◌, ◌++◌, take, flat_map}
use Rattle.report_text.specs.Listings.{cover_line}
use Rattle.report_text.proofs.hasse.put_covers.Given as goal

abbrev pub invariant-loop-cover : goal.invariant-loop-cover
invariant-loop-cover l = l.text ≡ l.initial.text ++ flat_map (cover_line l.abbreviations) (take l.cover-index l.covers)
