-- The certificates that a worker remembers.
use Rattle.std.specs.Prelude.{◌≡◌, true, All, IfSome, List, [], ◌∷◌, ◌++◌, map}
use Rattle.ot_theory.specs.Problems.{Problem}
use Rattle.ot_theory.specs.Languages.{Term, condition_of, terms_of}
use Rattle.ot_theory.specs.Refutations.{certificate_of, is_contradiction, no_ranking_keeps}
use Rattle.refutation.specs.Terms.{term_of, terms_in}
use Rattle.typology_workers.specs.declared.memo.Entry.{Entry}
use Rattle.typology_workers.specs.declared.memo.Memo.{Memo}

-- the terms of the front, and the last one
abbrev pub terms_needed : Problem → Entry → List Term
terms_needed problem entry = terms_of problem entry.front ++ term_of entry.last ∷ []

-- No ranking keeps the terms of the front and the last one, and the certificate is theirs, which is a contradiction.
pub record IsRemembered (problem : Problem) (entry : Entry) : Type 0 where
  pub hopeless : no_ranking_keeps problem.constraints (map (condition_of problem) (terms_needed problem entry)) ≡ true
  pub certificate : terms_in entry.certificate.terms ≡ certificate_of problem (terms_needed problem entry)
  pub contradiction : is_contradiction problem (terms_in entry.certificate.terms) ≡ true

abbrev pub AreRemembered : Problem → Memo → Type 0
AreRemembered problem memo = All (λ place. IfSome place (IsRemembered problem)) memo.entries.items
