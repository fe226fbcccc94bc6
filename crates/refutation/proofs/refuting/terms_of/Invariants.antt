use Rattle.std.proofs.Common.{◌≡◌, take}
use Rattle.ot_theory.specs.Languages.{terms_of}
use Rattle.refutation.specs.Prefixes.{class_numbers}
use Rattle.refutation.specs.Terms.{terms_in}
use Rattle.refutation.proofs.refuting.terms_of.Given as goal

-- the terms of the classes so far
abbrev pub invariant-loop-i : goal.invariant-loop-i
invariant-loop-i l = terms_in l.terms ≡ terms_of l.p (class_numbers (take l.i l.prefix))
