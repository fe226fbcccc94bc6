use Rattle.std.proofs.Common.{◌≡◌, false, take}
use Rattle.std.specs.List.{list_any}
use Rattle.ot_theory.specs.Problems.{same_profile}
use Rattle.violation_profiles.proofs.classes.class_with_key.Given as goal

abbrev pub invariant-loop-a : goal.invariant-loop-a
invariant-loop-a l = list_any (λ class. same_profile l.profile class.profile) (take l.a l.classes) ≡ false
