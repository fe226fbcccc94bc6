-- The fusion of conditions, one more at a time.
use Rattle.std.proofs.Common.{◌≡◌, ℕ, zero, suc, ◌+◌, ◌<◌, ◌≤◌, List, [], ◌∷◌, ◌++◌, Bool, true, false, ◌||◌, arith, refl, ap, cond, length, map}
use Rattle.std.specs.List.{list_any, range_with_len}
use Rattle.std.proofs.lemmas.List.{map-append}
use Rattle.std.proofs.lemmas.List.Folds.{list_any-append}
use Rattle.std.proofs.lemmas.List.FromFn.{get_or-map-range_with_len}
use Rattle.ot_theory.specs.declared.Mark.{Mark}
use Rattle.ot_theory.specs.declared.Mark.TheVariants.{W, L, E}
use Rattle.ot_theory.specs.Conditions.{mark_at, is_win, is_loss, fused, fusion}
use Rattle.ot_theory.proofs.Hopeless.{fused_at}

map-same : {X : Type 0} (f g : ℕ → X) (a n : ℕ) → ((c : ℕ) → a ≤ c → c < a + n → f c ≡ g c) → map f (range_with_len a n) ≡ map g (range_with_len a n)
map-same f g a zero h = refl
map-same f g a (suc n) h = rw (h a (omega arith) (omega arith), map-same f g (a + 1) n (λ c l u. h c (omega arith) (omega arith))) refl

-- fused marks beside one more
fused-push : (marks : List Mark) (m : Mark) → fused (fused marks ∷ m ∷ []) ≡ fused (marks ++ m ∷ [])
fused-push marks m = rw (list_any-append is_loss marks (m ∷ []), list_any-append is_win marks (m ∷ [])) (by (list_any is_loss marks) (list_any is_win marks) m)
  where
    by : (a b : Bool) (m : Mark) → fused (cond a L (cond b W E) ∷ m ∷ []) ≡ cond (a || list_any is_loss (m ∷ [])) L (cond (b || list_any is_win (m ∷ [])) W E)
    by true b W = refl
    by true b L = refl
    by true b E = refl
    by false true W = refl
    by false true L = refl
    by false true E = refl
    by false false W = refl
    by false false L = refl
    by false false E = refl

-- The fusion of some conditions, fused with one more, is the fusion of them all.
pub fusion-push : (n : ℕ) (set : List (List Mark)) (marks : List Mark) → fusion n (fusion n set ∷ marks ∷ []) ≡ fusion n (set ++ marks ∷ [])
fusion-push n set marks =
    map-same (fused_at (fusion n set ∷ marks ∷ [])) (fused_at (set ++ marks ∷ [])) 0 n (λ c l u. at c u)
  where
    at : (c : ℕ) → c < 0 + n → fused_at (fusion n set ∷ marks ∷ []) c ≡ fused_at (set ++ marks ∷ []) c
    at c u =
        let here : mark_at (fusion n set) c ≡ fused_at set c = get_or-map-range_with_len (fused_at set) 0 n c c E (omega arith) (omega arith) in
        rw (here, map-append (λ m. mark_at m c) set (marks ∷ [])) (fused-push (map (λ m. mark_at m c) set) (mark_at marks c))

-- One condition is its own fusion.
pub fusion-one : (n : ℕ) (marks : List Mark) → length marks ≡ n → fusion n (marks ∷ []) ≡ marks
fusion-one n marks e = rw (← e) (marks_from 0 marks marks (λ c b. let start : 0 + c ≡ c = omega arith in rw start refl))
  where
    one : (m : Mark) → fused (m ∷ []) ≡ m
    one W = refl
    one L = refl
    one E = refl

    marks_from : (a : ℕ) (rest all : List Mark) → ((c : ℕ) → c < length rest → mark_at all (a + c) ≡ mark_at rest c) → map (fused_at (all ∷ [])) (range_with_len a (length rest)) ≡ rest
    marks_from a [] all h = refl
    marks_from a (m ∷ rest) all h =
        let start : a + 0 ≡ a = omega arith in
        let here : mark_at all a ≡ m = rw start at (h 0 (omega arith)) in
        rw (here, one m) (ap (λ (l : List Mark). m ∷ l) (marks_from (a + 1) rest all (λ c b. let e : a + 1 + c ≡ a + suc c = omega arith in rw e (h (suc c) (omega arith)))))
