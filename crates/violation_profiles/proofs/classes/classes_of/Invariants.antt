use Rattle.std.proofs.Common.{◌≡◌, map, take}
use Rattle.std.specs.Prelude.{All}
use Rattle.violation_profiles.specs.Classes.{AreClassesOf, keys_of}
use Rattle.violation_profiles.specs.Planes.{HasPlanes}
use Rattle.violation_profiles.proofs.classes.classes_of.Given as goal

abbrev pub invariant-loop-k : goal.invariant-loop-k
invariant-loop-k l = record {
  classes : AreClassesOf (map (λ row. row.violations) (take l.k l.candidates)) l.classes.items;
  keys : l.keys ≡ keys_of l.classes.items;
  planes : All HasPlanes l.classes.items;
}
