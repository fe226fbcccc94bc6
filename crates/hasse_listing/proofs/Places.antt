-- A ranking that keeps a set as a hierarchy with one constraint in each stratum.
use Rattle.std.proofs.Common.{◌≡◌, ℕ, zero, suc, ◌<◌, ◌≤◌, List, [], ◌∷◌, true, false, arith, refl, sym, ◌∙◌, ap, inl, inr, length, get_or, slice_index, map, cond}
use Rattle.std.specs.Prelude.{All, ◌==◌}
use Rattle.std.specs.List.{list_all, list_any}
use Rattle.std.proofs.lemmas.Bool.{eq-eqb, not-false}
use Rattle.std.proofs.lemmas.Bool.Decides.{eqb_tells}
use Rattle.std.proofs.lemmas.List.FromFn.{length-map-range_with_len, get_or-map-range_with_len}
use Rattle.std.proofs.lemmas.List.Sums.{AllPass-from_list_all}
use Rattle.ot_theory.specs.declared.Mark.{Mark}
use Rattle.ot_theory.specs.declared.Mark.TheVariants.{W, L, E}
use Rattle.ot_theory.specs.Rankings.{count_of, IsRanking, rankings, numbers_below}
use Rattle.ot_theory.specs.Conditions.{keeps, mark_at}
use Rattle.ot_theory.specs.Hierarchies.{Satisfies}
use Rattle.ot_theory.specs.Refutations.{no_ranking_keeps}
use Rattle.ot_theory.proofs.Enumeration.{count_past, FoundRanking, ranking-found}
use Rattle.ot_theory.proofs.Strata.{WinAbove, mark_at-within, satisfied-WinAbove}
use Rattle.ot_theory.proofs.Hopeless.{guarded-keeps}

-- the first place of a list at which a constraint stands
abbrev pub place : ℕ → List ℕ → ℕ
place c [] = 0
place c (x ∷ order) = cond (x == c) 0 (suc (place c order))

pub record StandsAt (c : ℕ) (order : List ℕ) : Type 0 where
  pub within : place c order < length order
  pub here : get_or order (place c order) 0 ≡ c

pub place-here : (c : ℕ) (order : List ℕ) → 0 < count_of c order → StandsAt c order
place-here c [] h = absurd (omega arith)
place-here c (x ∷ order) h = elim (eqb_tells x c) [
  | inl same ↦ record { within = rw same.0 (omega arith); here = rw same.0 same.1 }
  | inr other ↦
      let r = place-here c order (omega (arith, h, count_past c x order other.1)) in
      record { within = rw other.0 (omega (arith, r.within)); here = rw other.0 r.here }
]

-- no place at which a constraint stands is before its first one
pub place-first : (order : List ℕ) (j : ℕ) → j < length order → place (get_or order j 0) order ≤ j
place-first [] j h = absurd (omega arith)
place-first (x ∷ order) zero h = rw (eq-eqb x x refl) (omega arith)
place-first (x ∷ order) (suc j) h = elim (eqb_tells x (get_or order j 0)) [
  | inl same ↦ rw same.0 (omega arith)
  | inr other ↦ rw other.0 (omega (arith, place-first order j (omega arith)))
]

-- the stratum of each constraint is its place, counted from 1
abbrev pub levels_along : ℕ → List ℕ → List ℕ
levels_along n order = map (λ x. suc (place x order)) (numbers_below n)

pub level-along : (n : ℕ) (order : List ℕ) (x : ℕ) → x < n → slice_index (levels_along n order) x ≡ suc (place x order)
level-along n order x below = get_or-map-range_with_len (λ (y : ℕ). suc (place y order)) 0 n x x 0 below (omega arith)

pub Satisfies-along : (n : ℕ) (set : List (List Mark)) (order : List ℕ) → All (λ marks. length marks ≡ n) set → IsRanking n order → list_all (keeps order) set ≡ true → Satisfies n set (levels_along n order)
Satisfies-along n set order widths ranking kept = record {
  width = long;
  from_one = λ k d b. omega (arith, get_or-map-range_with_len (λ (y : ℕ). suc (place y order)) 0 n k k d (omega (arith, b, long)) (omega arith));
  each = λ k d b. satisfied-WinAbove (levels_along n order) (get_or set k d) (λ x loss. above (get_or set k d) x (widths k d b) (AllPass-from_list_all (keeps order) set kept k d b) loss);
}
  where
    long : length (levels_along n order) ≡ n
    long = length-map-range_with_len (λ (y : ℕ). suc (place y order)) 0 n

    above : (marks : List Mark) (x : ℕ) → length marks ≡ n → keeps order marks ≡ true → mark_at marks x ≡ L → WinAbove (levels_along n order) marks x
    above marks x width h loss =
        let below : x < n = omega (arith, mark_at-within marks x (λ even. let no : L ≡ E = sym loss ∙ even in cc), width) in
        let p = place-here x order (omega (arith, ranking.each x below)) in
        let w = guarded-keeps order marks h (place x order) p.within (ap (mark_at marks) p.here ∙ loss) in
        let it : ℕ = get_or order w.at 0 in
        let within : it < length marks = mark_at-within marks it (λ even. let no : W ≡ E = sym w.win ∙ even in cc) in
        record {
          it = it;
          within = within;
          win = w.win;
          above = omega (arith, level-along n order it (omega (arith, within, width)), level-along n order x below, place-first order w.at (omega (arith, w.before, p.within)), w.before);
        }

-- Where it is not so that no ranking keeps a set, some ranking does.
pub kept-ranking : (n : ℕ) (set : List (List Mark)) → no_ranking_keeps n set ≡ false → FoundRanking n (λ order. list_all (keeps order) set)
unfolding no_ranking_keeps
kept-ranking n set h = ranking-found n (λ order. list_all (keeps order) set) (not-false (list_any (λ order. list_all (keeps order) set) (rankings n)) h)
