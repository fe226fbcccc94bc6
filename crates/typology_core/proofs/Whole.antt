-- A walk from the empty prefix finds the typology of a problem.
use Rattle.std.proofs.Common.{◌≡◌, ℕ, ◌+◌, List, [], arith, sym, ◌∙◌, length}
use Rattle.ot_theory.specs.Problems.{Problem}
use Rattle.ot_theory.specs.Languages.{IsTypology}
use Rattle.ot_theory.specs.Refutations.{cuts}
use Rattle.ot_base.specs.declared.tableau.ClassId.{ClassId}
use Rattle.refutation.specs.Prefixes.{class_numbers}
use Rattle.refutation.specs.Typologies.{certificates_of, cuts_of, found_of}
use Rattle.search_deeds.specs.Gathered.{AreNamed}
use Rattle.typology_core.specs.Walked.{AreAllBelow, IsFoundOf, cut_prefixes}
use Rattle.typology_core.specs.declared.walk.Found.{Found}
use Rattle.typology_core.proofs.Below.{cuts-below, languages-below}
use Rattle.search_deeds.proofs.FromDeeds.{AreCertified, certified}
use Rattle.search_deeds.proofs.Named.{cuts-named}

pub record IsWhole (problem : Problem) (found : Found) : Type 0 where
  pub typology : IsTypology problem (found_of found.languages)
  pub certified : AreCertified problem (cuts_of found.cuts) (certificates_of found.certificates)
  pub named : AreNamed (length found.certificates) found.cuts

pub walk-whole : (problem : Problem) (classes : List ClassId) (start found : Found) → classes ≡ [] → start.cuts ≡ [] → start.languages ≡ [] → IsFoundOf problem found
    → ((n : ℕ) → length classes + n ≡ length problem.inputs → AreAllBelow problem n (class_numbers classes) start found) → IsWhole problem found
walk-whole problem classes start found e c l h more =
    let all : AreAllBelow problem (length problem.inputs) [] start found = rw e at (more (length problem.inputs) (rw e (omega arith))) in
    let prefixes : cut_prefixes found.cuts ≡ cuts problem = all.cuts ∙ rw c (sym (cuts-below problem)) in
    record {
      typology = record { all = all.languages ∙ rw l (sym (languages-below problem)); least = h.least };
      certified = certified problem (cut_prefixes found.cuts) (cuts_of found.cuts) (certificates_of found.certificates) prefixes h.certified;
      named = cuts-named problem (cut_prefixes found.cuts) found.cuts found.certificates h.certified;
    }
