-- The certificate of terms that no ranking keeps, found one term after another from the last to the first.
use Rattle.std.proofs.Common.{◌≡◌, ℕ, ◌+◌, ◌<◌, ◌≤◌, List, [], ◌∷◌, ◌++◌, true, false, arith, sym, ◌∙◌, ap, append_assoc, length, get_or, map, take, take_all, take-take, drop}
use Rattle.std.proofs.lemmas.List.{append-nil, map-append, take-append-drop, take_more}
use Rattle.ot_theory.specs.Languages.{Term, condition_of}
use Rattle.ot_theory.specs.Problems.{Problem}
use Rattle.ot_theory.specs.Refutations.{no_ranking_keeps, kept_of, certificate_of}
use Rattle.ot_theory.proofs.Deletion.{kept_of-halved, kept_of-none, kept_of-same, IsMonotone-beside}
use Rattle.ot_theory.proofs.Sets.{is_hopeless, IsMonotone-hopeless, no_ranking_keeps-exchanged}

-- The terms kept so far, and the front of the terms in which the others stand: the certificate is what is kept of the
-- front beside them, and they.
pub record IsHalved (problem : Problem) (terms kept : List Term) (front : ℕ) : Type 0 where
  pub short : front ≤ length terms
  pub others : certificate_of problem terms ≡ kept_of (λ rest. is_hopeless problem (rest ++ kept)) [] (take front terms) ++ kept
  pub hopeless : is_hopeless problem (take front terms ++ kept) ≡ true

pub IsHalved-start : (problem : Problem) (terms : List Term) → is_hopeless problem terms ≡ true → IsHalved problem terms [] (length terms)
unfolding certificate_of
IsHalved-start problem terms h = let all = take_all (length terms) terms (omega arith) in record {
  short = omega arith;
  others = rw all (sym (append-nil _ ∙ kept_of-same (λ rest. is_hopeless problem (rest ++ [])) (is_hopeless problem) (λ rest. ap (is_hopeless problem) (append-nil rest)) [] terms));
  hopeless = rw (all, append-nil) h;
}

-- A front with one term more, at which it comes to be kept by no ranking: that term is kept.
pub IsHalved-more : (problem : Problem) (terms kept : List Term) (front k : ℕ) (d : Term) → IsHalved problem terms kept front → k < front
    → is_hopeless problem (take k terms ++ kept) ≡ false → is_hopeless problem (take (k + 1) terms ++ kept) ≡ true → IsHalved problem terms (get_or terms k d ∷ kept) k
IsHalved-more problem terms kept front k d h below some none =
    let term = get_or terms k d in
    let within : k < length terms = omega (arith, h.short) in
    let next : take (k + 1) terms ≡ take k terms ++ term ∷ [] = take_more terms k d within in
    let parts : take front terms ≡ take k terms ++ term ∷ drop (k + 1) (take front terms) =
    sym (take-append-drop (k + 1) (take front terms)) ∙ ap (λ (l : List Term). l ++ drop (k + 1) (take front terms)) (take-take (k + 1) front terms (omega arith) ∙ next) ∙ append_assoc (take k terms) (term ∷ []) (drop (k + 1) (take front terms)) in
    let whole : is_hopeless problem ((take k terms ++ term ∷ []) ++ kept) ≡ true = rw next at none in
    record {
      short = omega (arith, h.short);
      others = h.others ∙ rw parts (kept_of-halved (is_hopeless problem) (IsMonotone-hopeless problem) (take k terms) term (drop (k + 1) (take front terms)) kept some whole);
      hopeless = rw append_assoc at whole;
    }

-- Where no ranking keeps those kept so far, they are the certificate.
pub IsHalved-end : (problem : Problem) (terms kept : List Term) (front : ℕ) → IsHalved problem terms kept front → is_hopeless problem kept ≡ true → kept ≡ certificate_of problem terms
IsHalved-end problem terms kept front h none =
    sym (h.others ∙ ap (λ (l : List Term). l ++ kept) (kept_of-none (λ rest. is_hopeless problem (rest ++ kept)) (IsMonotone-beside (is_hopeless problem) kept (IsMonotone-hopeless problem)) [] (take front terms) none))

-- the terms kept may stand before the others
pub hopeless-exchanged : (problem : Problem) (front kept : List Term) → no_ranking_keeps problem.constraints (map (condition_of problem) (kept ++ front)) ≡ is_hopeless problem (front ++ kept)
hopeless-exchanged problem front kept =
    rw (map-append (condition_of problem) kept front, map-append (condition_of problem) front kept) (no_ranking_keeps-exchanged problem.constraints (map (condition_of problem) kept) (map (condition_of problem) front))
