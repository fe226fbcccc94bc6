use Rattle.std.proofs.Common.{◌≡◌, ◌∷◌, length, map, take}
use Rattle.ot_theory.specs.Conditions.{fusion}
use Rattle.ot_theory.specs.Languages.{condition_of}
use Rattle.refutation.specs.Terms.{term_of, terms_in}
use Rattle.refutation.proofs.contradiction.fusion_of.Given as goal

-- the fusion of the first condition and of those of the rest so far
abbrev pub invariant-loop-term : goal.invariant-loop-term
invariant-loop-term l = record {
  width : length l.fused ≡ l.p.constraints;
  so_far : l.fused ≡ fusion l.p.constraints (map (condition_of l.p) (term_of l.first ∷ terms_in (take l.term-index l.rest)));
}
