-- The terms of the program as those of the theory.
use Rattle.std.specs.Prelude.{Bool, List, map}
use Rattle.std.specs.List.{list_all}
use Rattle.refutation.specs.declared.term.Term.{Term}
use Rattle.refutation.specs.declared.term.Term.TheVariants.{Loser, Given}
use Rattle.ot_theory.specs.Problems.{Problem}
use Rattle.ot_theory.specs.Languages as theory
use Rattle.ot_theory.specs.Refutations.{is_term}

abbrev pub term_of : Term → theory.Term
term_of (Loser input winner loser) = theory.Loser input.0 winner.0 loser.0
term_of (Given k) = theory.Given k

abbrev pub terms_in : List Term → List theory.Term
terms_in terms = map term_of terms

-- each is a term of the problem: in range and with a loser other than the winner, or a given pair
abbrev pub are_terms : Problem → List Term → Bool
are_terms problem terms = list_all (λ term. is_term problem (term_of term)) terms
