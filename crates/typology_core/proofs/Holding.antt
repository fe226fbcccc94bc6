-- How many prefixes hold, a length after another.
use Rattle.std.proofs.Common.{◌≡◌, ℕ, suc, ◌+◌, ◌-◌, ◌*◌, ◌^◌, ◌<◌, ◌≤◌, List, [], ◌∷◌, ◌++◌, Bool, true, false, not, arith, refl, sym, ◌∙◌, ap, subst, cond, drop, get_or, length, length-append, map, flat_map, min}
use Rattle.std.specs.Prelude.{All}
use Rattle.std.specs.List.{filter, range_with_len}
use Rattle.std.proofs.lemmas.List.Elements.{All-cons, All-head, All-nil, All-tail}
use Rattle.std.proofs.lemmas.List.{append-nil, length-map, map-id}
use Rattle.std.proofs.lemmas.List.Concat.{flat_map-append}
use Rattle.std.proofs.lemmas.List.FromFn.{map-range_with_len_more}
use Rattle.ot_theory.specs.Rankings.{numbers_below}
use Rattle.ot_theory.specs.Problems.{Problem}
use Rattle.ot_theory.specs.Languages.{IsTypology, Term, classes_at, conditions_of, languages, refuted}
use Rattle.ot_theory.specs.Hierarchies.{IsLeastHierarchy}
use Rattle.refutation.specs.Terms.{terms_in}
use Rattle.refutation.specs.Typologies.{certificates_of, cuts_of, found_of}
use Rattle.refutation.specs.declared.contradiction.Contradiction.{Contradiction}
use Rattle.refutation.specs.declared.typology.Language.{Language}
use Rattle.search_deeds.specs.Gathered.{AreNamed}
use Rattle.refutation.specs.declared.typology.Cut.{Cut}
use Rattle.ot_theory.specs.Refutations.{certificate_named, certificates, cuts}
use Rattle.violation_profiles.specs.WellFormed.{IsWellFormed}
use Rattle.typology_core.specs.Judged.{named_of}
use Rattle.typology_core.specs.Learned.{all_named, cuts_judged, held_at, held_count, level, named_in, of_length, refuted_at, total_of}
use Rattle.typology_core.specs.declared.learning.Named.{Named}
use Rattle.typology_core.specs.Rounds.{CountsLoneLearns}
use Rattle.typology_core.proofs.Levels.{languages-at}
use Rattle.typology_core.proofs.LoneCount.{learnt-counted}
use Rattle.typology_core.proofs.LoneSearch.{HasLeastOf, HaveLeast, lone-counts}
use Rattle.typology_core.proofs.LoneHeld.{cuts-told, level-split, level-within, next-count}

-- so many prefixes shorter than n hold, and so many have length n
pub record IsHeldBelow (problem : Problem) (n count next : ℕ) : Type 0 where
  pub held : count ≡ length (flat_map (held_at problem) (numbers_below n))
  pub reached : next ≡ length (level problem n)
  pub few : count ≤ 18483637561856970719232 * n

pub held-none : (problem : Problem) → IsHeldBelow problem 0 0 1
unfolding level
held-none problem = record { held = refl; reached = refl; few = omega arith }

-- what is known of a length
pub record IsLength (problem : Problem) (n reached count : ℕ) : Type 0 where
  pub counted : count ≡ length (refuted_at problem n)
  pub most : count ≤ reached
  pub holds : reached - count ≡ length (held_at problem n)
  pub few : reached ≤ 18483637561856970719232

pub length-counted : (problem : Problem) (n held reached count : ℕ) → IsWellFormed problem → n ≤ length problem.inputs → length (cuts problem) < 18446744073709551616 → length (languages problem) < 18446744073709551616
    → count ≡ total_of (of_length n (named_in problem)) → IsHeldBelow problem n held reached → IsLength problem n reached count
length-counted problem n held reached count well within few choices e h =
    let told : count ≡ length (refuted_at problem n) = e ∙ cuts-told problem n well within in
    let split = level-split problem n in
    let most = level-within problem n well within few choices in
    by _ _ _ told split h.reached most refl refl
  where
    by : (r k l : ℕ) → count ≡ r → r + k ≡ l → reached ≡ l → l ≤ 18446744073709551616 * 1002 → r ≡ length (refuted_at problem n) → k ≡ length (held_at problem n) → IsLength problem n reached count
    by r k l a b c d e f = record { counted = a ∙ e; most = omega (arith, a, b, c); holds = (let m : reached - count ≡ k = omega (arith, a, b, c) in m) ∙ f; few = omega (arith, c, d) }

held-push : (problem : Problem) (n : ℕ) → length (flat_map (held_at problem) (numbers_below (n + 1))) ≡ length (flat_map (held_at problem) (numbers_below n)) + length (held_at problem n)
held-push problem n =
    ap (λ (l : List (List ℕ)). length l)
    (ap (flat_map (held_at problem)) (sym (map-id (range_with_len 0 (n + 1))) ∙ map-range_with_len_more (λ j. j) 0 n n (omega arith) ∙ ap (λ (l : List ℕ). l ++ n ∷ []) (map-id (range_with_len 0 n)))
    ∙ flat_map-append (held_at problem) (range_with_len 0 n) (n ∷ [])
    ∙ ap (λ (l : List (List ℕ)). flat_map (held_at problem) (range_with_len 0 n) ++ l) (append-nil (held_at problem n)))
    ∙ length-append (flat_map (held_at problem) (range_with_len 0 n)) (held_at problem n)

pub held-more : (problem : Problem) (n held reached count classes : ℕ) → n < length problem.inputs → classes ≡ length (classes_at problem n) → IsHeldBelow problem n held reached → IsLength problem n reached count
    → IsHeldBelow problem (n + 1) (held + (reached - count)) ((reached - count) * classes)
held-more problem n held reached count classes short e h here =
    let next = next-count problem n short in
    let pushed = held-push problem n in
    record {
      held = by _ _ _ h.held here.holds pushed;
      reached = ap (λ (k : ℕ). k * classes) here.holds ∙ ap (λ (k : ℕ). length (held_at problem n) * k) e ∙ sym next;
      few = (let a = h.few in let b = here.few in omega (arith, a, b));
    }
  where
    by : (a b c : ℕ) → held ≡ a → reached - count ≡ b → c ≡ a + b → held + (reached - count) ≡ c
    by a b c f g i = omega (arith, f, g, i)

pub held-all : (problem : Problem) (n held reached count : ℕ) → n ≡ length problem.inputs → IsHeldBelow problem n held reached → IsLength problem n reached count → held + (reached - count) ≡ held_count problem
held-all problem n held reached count e h here = by _ _ _ h.held here.holds (held-push problem n) ∙ ap (λ (k : ℕ). length (flat_map (held_at problem) (numbers_below (k + 1)))) e
  where
    by : (a b c : ℕ) → held ≡ a → reached - count ≡ b → c ≡ a + b → held + (reached - count) ≡ c
    by a b c f g i = omega (arith, f, g, i)

-- all together
pub learns-all : (problem : Problem) (places inputs certs held learns : ℕ) (named : List Named) (listed : List Cut) → named_of named ≡ all_named (cuts_of listed) certs → cuts_of listed ≡ map (λ cut. (cut, certificate_named problem cut)) (cuts problem)
    → certs ≡ length (certificates problem) → inputs ≡ length problem.inputs → held ≡ min (held_count problem) (2 ^ 64 - 1) → learns ≡ min (held + cuts_judged places inputs (named_of named)) (2 ^ 64 - 1)
    → learns ≡ min (held_count problem + cuts_judged places (length problem.inputs) (named_in problem)) (2 ^ 64 - 1)
learns-all problem places inputs certs held learns named listed a b c d e f =
    let all : named_of named ≡ named_in problem = a ∙ ap (λ (l : List (List ℕ × ℕ)). all_named l certs) b ∙ ap (all_named (map (λ cut. (cut, certificate_named problem cut)) (cuts problem))) c in
    let same : cuts_judged places inputs (named_of named) ≡ cuts_judged places (length problem.inputs) (named_in problem) = ap (cuts_judged places inputs) all ∙ ap (λ (n : ℕ). cuts_judged places n (named_in problem)) d in
    by _ _ _ _ _ same e f
  where
    by : (h a b m n : ℕ) → a ≡ b → m ≡ min h (2 ^ 64 - 1) → n ≡ min (m + a) (2 ^ 64 - 1) → n ≡ min (h + b) (2 ^ 64 - 1)
    by h a b m n e f g = omega (arith, e, f, g)

-- ---- each language has its least hierarchy
least-of : (problem : Problem) (xs : List (List ℕ)) (found : List (List ℕ × List ℕ)) → map (λ language. language.0) found ≡ filter (λ prefix. not (refuted problem prefix)) xs
    → All (λ language. IsLeastHierarchy problem.constraints (conditions_of problem language.0) language.1) found → HaveLeast problem xs
least-of problem [] found e least = All-nil (λ (x : List ℕ). refuted problem x ≡ false → HasLeastOf problem x)
least-of problem (x ∷ xs) found e least = by found e least (λ f g l. least-of problem xs f g l) (refuted problem x) refl e
  where
    by : (found : List (List ℕ × List ℕ)) → map (λ language. language.0) found ≡ filter (λ prefix. not (refuted problem prefix)) (x ∷ xs) → All (λ language. IsLeastHierarchy problem.constraints (conditions_of problem language.0) language.1) found
        → ((f : List (List ℕ × List ℕ)) → map (λ language. language.0) f ≡ filter (λ prefix. not (refuted problem prefix)) xs → All (λ language. IsLeastHierarchy problem.constraints (conditions_of problem language.0) language.1) f → HaveLeast problem xs)
        → (b : Bool) → refuted problem x ≡ b → map (λ language. language.0) found ≡ cond (not b) (x ∷ filter (λ prefix. not (refuted problem prefix)) xs) (filter (λ prefix. not (refuted problem prefix)) xs) → HaveLeast problem (x ∷ xs)
    by found e least rest true gone f =
        All-cons (λ (p : List ℕ). refuted problem p ≡ false → HasLeastOf problem p) x xs (λ held. absurd (let no : true ≡ false = sym gone ∙ held in cc)) (rest found f least)
    by [] e least rest false held f = absurd (let no : 0 ≡ suc (length (filter (λ prefix. not (refuted problem prefix)) xs)) = ap (λ (l : List (List ℕ)). length l) f in omega (arith, no))
    by (language ∷ found) e least rest false held f =
        let first : language.0 ≡ x = ap (λ (l : List (List ℕ)). get_or l 0 x) f in
        let later : map (λ language. language.0) found ≡ filter (λ prefix. not (refuted problem prefix)) xs = ap (λ (l : List (List ℕ)). drop 1 l) f in
        let here = All-head (λ (l : List ℕ × List ℕ). IsLeastHierarchy problem.constraints (conditions_of problem l.0) l.1) language found least in
        All-cons (λ (p : List ℕ). refuted problem p ≡ false → HasLeastOf problem p) x xs (λ h. (language.1, subst (λ (p : List ℕ). IsLeastHierarchy problem.constraints (conditions_of problem p) language.1) first here))
        (rest found later (All-tail (λ (l : List ℕ × List ℕ). IsLeastHierarchy problem.constraints (conditions_of problem l.0) l.1) language found least))

pub learns-told : (problem : Problem) (places learns : ℕ) (found : List (List ℕ × List ℕ)) → IsWellFormed problem → IsTypology problem found
    → learns ≡ min (held_count problem + cuts_judged places (length problem.inputs) (named_in problem)) (2 ^ 64 - 1) → CountsLoneLearns problem places learns
learns-told problem places learns found well typology e =
    let least = least-of problem (level problem (length problem.inputs)) found (typology.all ∙ languages-at problem) typology.least in
    subst (CountsLoneLearns problem places) (ap (λ (n : ℕ). min n (2 ^ 64 - 1)) (learnt-counted problem places well) ∙ sym e) (lone-counts problem places well least)

-- ---- the lists of the program
pub certificates-long : (problem : Problem) (listed : List Contradiction) → certificates_of listed ≡ certificates problem → length listed ≡ length (certificates problem)
certificates-long problem listed e = sym (length-map listed (λ (certificate : Contradiction). terms_in certificate.terms)) ∙ ap (λ (l : List (List Term)). length l) e

pub languages-long : (problem : Problem) (listed : List Language) → IsTypology problem (found_of listed) → length listed ≡ length (languages problem)
languages-long problem listed typology =
    let pair : Language → List ℕ × List ℕ = λ language. (language.choice, language.strata) in
    sym (length-map listed pair) ∙ sym (length-map (found_of listed) (λ (language : List ℕ × List ℕ). language.0)) ∙ ap (λ (l : List (List ℕ)). length l) typology.all

pub named-listed : (cuts listed : List Cut) (count certificates : ℕ) → cuts ≡ listed → count ≡ certificates → AreNamed certificates listed → AreNamed count cuts
named-listed cuts listed count certificates e f h = rw (e, f) h
