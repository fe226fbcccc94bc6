-- The cuts of a problem are refuted prefixes of it, and what is gathered from honest and balanced deeds is its typology.
use Rattle.std.proofs.Common.{◌≡◌, ℕ, zero, suc, ◌<◌, List, [], ◌∷◌, Bool, true, false, not, ◌&&◌, arith, refl, ◌∙◌, ap, cond, length, map, take, get_or, slice_index}
use Rattle.std.specs.Prelude.{All, IsPermutation, IsSorted, fold}
use Rattle.std.proofs.lemmas.Bool.{and_parts, ltb-true}
use Rattle.std.proofs.lemmas.List.Elements.{All-weaker}
use Rattle.ot_theory.specs.Problems.{Input, Problem}
use Rattle.ot_theory.specs.Languages.{Term, refuted, IsTypology}
use Rattle.ot_theory.specs.Refutations.{prefixes, cuts, with_certificate, certificates, certificate_named}
use Rattle.search_deeds.proofs.Fitting.{IsSound}
use Rattle.ot_theory.proofs.Hopeless.{not_any}
use Rattle.ot_theory.proofs.Optimal.{AreClasses, classes_in}
use Rattle.violation_profiles.specs.WellFormed.{IsPrefix, IsWellFormed, IsWellFormedInput}
use Rattle.search_deeds.specs.Deeds.{Deed, AreHonest, AreBalanced, times, cuts_in, languages_in}
use Rattle.search_deeds.specs.Gathered.{IsCertified, first_refuting}
use Rattle.search_deeds.proofs.Counts.{times-cons, times-filter}
use Rattle.search_deeds.proofs.Fitting.{fits, fits-short, times-prefixes}
use Rattle.search_deeds.proofs.Reached.{is_behind_cut}
use Rattle.search_deeds.proofs.Ascending.{order, times-first}
use Rattle.search_deeds.proofs.Collected.{cuts-sorted, typology-collected}

pub IsSound-well_formed : (problem : Problem) → IsWellFormed problem → IsSound problem
IsSound-well_formed problem w = record { classes = All-weaker (IsWellFormedInput problem.constraints) (λ (i : Input). AreClasses problem.constraints i.classes) (λ i h. h.classes) problem.inputs w.each; pairs = w.pairs }

fits-within : (inputs : List Input) (prefix : List ℕ) (i : ℕ) → fits inputs prefix ≡ true → i < length prefix → slice_index prefix i < length (classes_in inputs i)
fits-within inputs [] i h below = absurd (omega arith)
fits-within [] (a ∷ prefix) i h below = absurd (cc)
fits-within (input ∷ inputs) (a ∷ prefix) zero h below = ltb-true _ _ (and_parts _ _ h).0
fits-within (input ∷ inputs) (a ∷ prefix) (suc i) h below = fits-within inputs prefix i (and_parts _ _ h).1 (omega arith)

pub IsPrefix-fits : (problem : Problem) (prefix : List ℕ) → fits problem.inputs prefix ≡ true → IsPrefix problem prefix
IsPrefix-fits problem prefix h = record { short = fits-short problem.inputs prefix h; within = λ i below. fits-within problem.inputs prefix i h below }

times-member : (xs : List (List ℕ)) (k : ℕ) (d : List ℕ) → k < length xs → 0 < times (get_or xs k d) xs
times-member [] k d h = absurd (omega arith)
times-member (x ∷ xs) zero d h = omega (arith, times-first x xs)
times-member (x ∷ xs) (suc k) d h = omega (arith, times-cons (get_or xs k d) x xs, times-member xs k d (omega arith))

-- a prefix of the problem that is refuted, and no shorter front of which is
pub record IsRefutedPrefix (problem : Problem) (classes : List ℕ) : Type 0 where
  pub prefix : IsPrefix problem classes
  pub hopeless : refuted problem classes ≡ true
  pub shortest : (k : ℕ) → k < length classes → refuted problem (take k classes) ≡ false

cuts-refuted : (problem : Problem) → All (IsRefutedPrefix problem) (cuts problem)
unfolding cuts
cuts-refuted problem k d below =
    let p : List ℕ = get_or (cuts problem) k d in
    by p (fits problem.inputs p) (refuted problem p) (is_behind_cut problem p) refl refl refl
    (omega (
      arith,
      times-member (cuts problem) k d below,
      times-filter p (λ prefix. refuted problem prefix && not (is_behind_cut problem prefix)) (prefixes problem.inputs)
          ∙ ap (λ n. cond (refuted problem p && not (is_behind_cut problem p)) n 0) (times-prefixes problem.inputs p),
    ))
  where
    by : (p : List ℕ) (fit ref behind : Bool) → fits problem.inputs p ≡ fit → refuted problem p ≡ ref → is_behind_cut problem p ≡ behind → 0 < cond (ref && not behind) (cond fit 1 0) 0 → IsRefutedPrefix problem p
    by p true true true f r b some = absurd (omega arith)
    by p true true false f r b some = record {
      prefix = IsPrefix-fits problem p f;
      hopeless = r;
      shortest = λ i below. not_any (λ j. refuted problem (take j p)) 0 (length p) b i (omega arith) (omega arith);
    }
    by p false true true f r b some = absurd (omega arith)
    by p false true false f r b some = absurd (omega arith)
    by p fit false behind f r b some = absurd (omega arith)

-- the sorted prefixes that are cut off are refuted prefixes of the problem
pub gathered-refuted : (problem : Problem) (deeds : List Deed) (prefixes : List (List ℕ)) → IsWellFormed problem → AreHonest problem deeds → AreBalanced problem deeds → IsPermutation (cuts_in deeds) prefixes → IsSorted order prefixes
    → All (IsRefutedPrefix problem) prefixes
gathered-refuted problem deeds prefixes w honest balanced members sorted =
    rw (cuts-sorted problem deeds (IsSound-well_formed problem w) honest balanced prefixes members sorted) (cuts-refuted problem)

pub gathered-languages : (problem : Problem) (deeds : List Deed) (found : List (List ℕ × List ℕ)) → IsWellFormed problem → AreHonest problem deeds → AreBalanced problem deeds
    → IsPermutation (languages_in deeds) found → IsSorted order (map (λ language. language.0) found) → IsTypology problem found
gathered-languages problem deeds found w honest balanced members sorted = typology-collected problem deeds (IsSound-well_formed problem w) honest balanced found members sorted

pub record AreCertified (problem : Problem) (named : List (List ℕ × ℕ)) (listed : List (List Term)) : Type 0 where
  pub cuts : named ≡ map (λ cut. (cut, certificate_named problem cut)) (cuts problem)
  pub certificates : listed ≡ certificates problem

pub certified : (problem : Problem) (prefixes : List (List ℕ)) (named : List (List ℕ × ℕ)) (listed : List (List Term)) → prefixes ≡ cuts problem → IsCertified problem prefixes named listed → AreCertified problem named listed
unfolding certificates
certified problem prefixes named listed e h =
    let all : listed ≡ certificates problem = h.listed ∙ ap (fold (with_certificate problem) []) e in
    record {
      cuts = h.named ∙ ap (λ (l : List (List Term)). map (λ prefix. (prefix, first_refuting l prefix)) prefixes) all ∙ ap (map (λ cut. (cut, certificate_named problem cut))) e;
      certificates = all;
    }

pub gathered-certified : (problem : Problem) (deeds : List Deed) (prefixes : List (List ℕ)) (named : List (List ℕ × ℕ)) (listed : List (List Term)) → IsWellFormed problem → AreHonest problem deeds → AreBalanced problem deeds
    → IsPermutation (cuts_in deeds) prefixes → IsSorted order prefixes → IsCertified problem prefixes named listed → AreCertified problem named listed
gathered-certified problem deeds prefixes named listed w honest balanced members sorted h =
    certified problem prefixes named listed (cuts-sorted problem deeds (IsSound-well_formed problem w) honest balanced prefixes members sorted) h
