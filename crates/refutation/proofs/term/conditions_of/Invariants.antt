use Rattle.std.proofs.Common.{◌≡◌, All, length, map, take}
use Rattle.ot_theory.specs.Languages.{condition_of}
use Rattle.refutation.specs.Terms.{terms_in}
use Rattle.refutation.proofs.term.conditions_of.Given as goal

-- the conditions of the terms so far
abbrev pub invariant-loop-term : goal.invariant-loop-term
invariant-loop-term l = record {
  so_far : l.conditions.items ≡ map (condition_of l.p) (terms_in (take l.term-index l.terms));
  widths : All (λ marks. length marks ≡ l.p.constraints) l.conditions.items;
}
