use Rattle.std.proofs.Common.{◌≡◌, ◌+◌, ◌-◌, ℕ, flat_map, length}
use Rattle.typology_core.specs.Below.{cuts_below, languages_below}
use Rattle.search_deeds.specs.Made.{AreMade}
use Rattle.typology_core.specs.Walked.{AreMore, IsFoundOf, IsSamePath, prefix_of}
use Rattle.search_deeds.proofs.Children.{children_below}
use Rattle.typology_core.proofs.walk.+visit.Given as goal

abbrev pub decreases-visit : goal.decreases-visit
decreases-visit l = length l.p.now.inputs - length l.path.now.classes.items

-- what extends the prefix by the classes so far
abbrev pub invariant-loop-a : goal.invariant-loop-a
invariant-loop-a l = record {
  made : AreMade l.p l.ready;
  sound : IsFoundOf l.p l.found;
  path : IsSamePath l.fn.path l.path;
  grown : (n : ℕ) → length l.fn.path.classes.items + (n + 1) ≡ length l.p.inputs
      → AreMore (flat_map (cuts_below l.p n) (children_below (prefix_of l.fn.path) l.a)) (flat_map (languages_below l.p n) (children_below (prefix_of l.fn.path) l.a)) l.initial.found l.found;
}
