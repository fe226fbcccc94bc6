-- Where demotion ends before all constraints are placed, the open conditions are the greatest part that stays open.
use Rattle.std.proofs.Common.{◌≡◌, ℕ, zero, suc, ◌+◌, ◌<◌, ◌≤◌, List, [], ◌∷◌, Bool, true, false, not, arith, refl, sym, ◌∙◌, ap, cond, inl, inr, length, get_or, map}
use Rattle.std.specs.Prelude.{Contains, filter}
use Rattle.std.specs.List.{list_any, range_with_len}
use Rattle.std.proofs.lemmas.Bool.{and_parts, and_from, not-true, cases_Bool}
use Rattle.std.proofs.lemmas.Bool.Decides.{eqb_tells}
use Rattle.std.proofs.lemmas.List.Folds.{list_any_at}
use Rattle.ot_theory.specs.declared.Mark.{Mark}
use Rattle.ot_theory.specs.declared.Mark.TheVariants.{W, L, E}
use Rattle.ot_theory.specs.Rankings.{numbers_below}
use Rattle.ot_theory.specs.Conditions.{mark_at, is_win, is_loss, fusion}
use Rattle.ot_theory.specs.Demotion.{is_closed, is_blocked, is_open, open_positions, at_positions, AreLeftOpen}
use Rattle.ot_theory.proofs.Enumeration.{any-map}
use Rattle.ot_theory.proofs.Hopeless.{fused_at}
use Rattle.ot_theory.proofs.Strata.{any-range, range-any, is_win-true, mark_at-within}
use Rattle.ot_theory.proofs.Parts.{found, any-at_positions}
use Rattle.ot_theory.proofs.Demotion.{KeepsOpen, IsStuck, blocked-open, open-unplaced}

-- what a filter leaves of a range
pub record OfRange (p : ℕ → Bool) (a n x : ℕ) : Type 0 where
  pub from : a ≤ x
  pub below : x < a + n
  pub passes : p x ≡ true

wider : (p : ℕ → Bool) (a n x : ℕ) → OfRange p (a + 1) n x → OfRange p a (suc n) x
wider p a n x h = record { from = omega (arith, h.from); below = omega (arith, h.below); passes = h.passes }

pub of_range : (p : ℕ → Bool) (a n : ℕ) → (k d : ℕ) → k < length (filter p (range_with_len a n)) → OfRange p a n (get_or (filter p (range_with_len a n)) k d)
of_range p a zero k d b = absurd (omega arith)
of_range p a (suc n) k d b = by (filter p (range_with_len (a + 1) n)) (λ j c. of_range p (a + 1) n j d c) (p a) refl k b
  where
    by : (rest : List ℕ) → ((j : ℕ) → j < length rest → OfRange p (a + 1) n (get_or rest j d)) → (t : Bool) → p a ≡ t → (j : ℕ) → j < length (cond t (a ∷ rest) rest) → OfRange p a (suc n) (get_or (cond t (a ∷ rest) rest) j d)
    by rest later true e zero c = record { from = omega arith; below = omega arith; passes = e }
    by rest later true e (suc j) c = wider p a n (get_or rest j d) (later j (omega arith))
    by rest later false e j c = wider p a n (get_or rest j d) (later j c)

rising : (p : ℕ → Bool) (a n : ℕ) → (i j : ℕ) → i < j → j < length (filter p (range_with_len a n)) → get_or (filter p (range_with_len a n)) i 0 < get_or (filter p (range_with_len a n)) j 0
rising p a zero i j h b = absurd (omega arith)
rising p a (suc n) i j h b = by (filter p (range_with_len (a + 1) n)) (λ k c. (of_range p (a + 1) n k 0 c).from) (λ x y g c. rising p (a + 1) n x y g c) (p a) i j h b
  where
    by : (rest : List ℕ) → ((k : ℕ) → k < length rest → a + 1 ≤ get_or rest k 0) → ((x y : ℕ) → x < y → y < length rest → get_or rest x 0 < get_or rest y 0) → (t : Bool) → (x y : ℕ) → x < y → y < length (cond t (a ∷ rest) rest) → get_or (cond t (a ∷ rest) rest) x 0 < get_or (cond t (a ∷ rest) rest) y 0
    by rest above later true x zero g c = absurd (omega arith)
    by rest above later true zero (suc y) g c = omega (arith, above y (omega arith))
    by rest above later true (suc x) (suc y) g c = later x y (omega arith) (omega arith)
    by rest above later false x y g c = later x y g c

pub in_range : (p : ℕ → Bool) (a n x : ℕ) → OfRange p a n x → Contains (filter p (range_with_len a n)) x
in_range p a zero x h = absurd (omega (arith, h.from, h.below))
in_range p a (suc n) x h = elim (eqb_tells a x) [
  | inl same ↦ rw (ap p same.1 ∙ h.passes) (0, omega arith, same.1)
  | inr other ↦ by (filter p (range_with_len (a + 1) n)) (p a) (in_range p (a + 1) n x (record { from = omega (arith, h.from, other.1); below = omega (arith, h.below); passes = h.passes }))
]
  where
    by : (rest : List ℕ) (t : Bool) → Contains rest x → Contains (cond t (a ∷ rest) rest) x
    by rest true r = (suc r.0, omega (arith, r.1), r.2)
    by rest false r = r

open_at : (levels : List ℕ) (set : List (List Mark)) (k d : ℕ) → k < length (open_positions levels set) → OfRange (λ j. is_open levels (get_or set j [])) 0 (length set) (get_or (open_positions levels set) k d)
open_at levels set k d b = of_range (λ j. is_open levels (get_or set j [])) 0 (length set) k d b

-- what passes at an open condition is met at the positions of the open ones
any-open : (levels : List ℕ) (set : List (List Mark)) (q : ℕ → Bool) (k : ℕ) → k < length set → is_open levels (get_or set k []) ≡ true → q k ≡ true → list_any q (open_positions levels set) ≡ true
any-open levels set q k b o e =
    let c = in_range (λ j. is_open levels (get_or set j [])) 0 (length set) k (record { from = omega arith; below = omega arith; passes = o }) in
    list_any_at q (open_positions levels set) c.0 k c.1 (ap q c.2 ∙ e)

-- a condition that is not closed and has L at a constraint is open
open-loss : (levels : List ℕ) (marks : List Mark) (c : ℕ) → is_closed levels marks ≡ false → mark_at marks c ≡ L → is_open levels marks ≡ true
open-loss levels marks c opened loss =
    let within = mark_at-within marks c (λ even. let no : L ≡ E = sym loss ∙ even in cc) in
    let has : list_any is_loss marks ≡ true = list_any_at is_loss marks c E within (ap is_loss loss) in
    and_from _ _ has (ap not opened)

-- At a constraint that is blocked some open condition has L; so the fused mark is L.
blocked-loss : (levels : List ℕ) (set : List (List Mark)) (c : ℕ) → is_blocked levels set c ≡ true → fused_at (at_positions set (open_positions levels set)) c ≡ L
blocked-loss levels set c blocked =
    let o = blocked-open levels set c blocked in
    let some : list_any is_loss (map (λ marks. mark_at marks c) (at_positions set (open_positions levels set))) ≡ true =
    any-at_positions is_loss set (open_positions levels set) c
    ∙ any-open levels set (λ k. is_loss (mark_at (get_or set k []) c)) o.at o.within (open-loss levels (get_or set o.at []) c o.opened o.loss) (ap is_loss o.loss) in
    rw some refl

fused-some_win : (a b : Bool) → is_win (cond a L (cond b W E)) ≡ true → b ≡ true
fused-some_win true b h = absurd (cc)
fused-some_win false true h = refl
fused-some_win false false h = absurd (cc)

pub AreLeftOpen-stuck : (n : ℕ) (set : List (List Mark)) (levels : List ℕ) → KeepsOpen n set levels → IsStuck n set levels → AreLeftOpen n set (open_positions levels set)
AreLeftOpen-stuck n set levels h stuck = record {
  ascending = λ i j early b. rising (λ k. is_open levels (get_or set k [])) 0 (length set) i j early b;
  stays = record {
    within = λ k d b. omega (arith, (open_at levels set k d b).below);
    losses = λ k d b. (and_parts _ _ (open_at levels set k d b).passes).0;
    no_win = no_win;
  };
  greatest = λ part s k d b.
      let opened : is_closed levels (get_or set (get_or part k d) []) ≡ false = h part s k d b in
      in_range (λ j. is_open levels (get_or set j [])) 0 (length set) (get_or part k d) (record { from = omega arith; below = omega (arith, s.within k d b); passes = and_from _ _ (s.losses k d b) (ap not opened) });
  contradiction = and_from _ _
      (any-map is_loss (fused_at part_open) (numbers_below n) ∙ range-any (λ c. is_loss (fused_at part_open c)) 0 n stuck.left (omega arith) (omega (arith, stuck.below)) (ap is_loss (blocked-loss levels set stuck.left (stuck.blocked stuck.left stuck.below stuck.unplaced))))
      (ap not no_win);
}
  where
    part_open : List (List Mark)
    part_open = at_positions set (open_positions levels set)

    -- where an open condition has W the constraint is not placed; so it is blocked
    win_loses : (c : ℕ) → c < n → is_win (fused_at part_open c) ≡ true → ⊥
    win_loses c below win =
        let marks : List Mark = map (λ m. mark_at m c) part_open in
        let wins : list_any is_win marks ≡ true = fused-some_win (list_any is_loss marks) (list_any is_win marks) win in
        let f = found (λ k. is_win (mark_at (get_or set k []) c)) (open_positions levels set) 0 (sym (any-at_positions is_win set (open_positions levels set) c) ∙ wins) in
        let it : List Mark = get_or set (get_or (open_positions levels set) f.at 0) [] in
        let opened = not-true (is_closed levels it) (and_parts (list_any is_loss it) (not (is_closed levels it)) (open_at levels set f.at 0 f.within).passes).1 in
        let none = open-unplaced levels it c opened (is_win-true (mark_at it c) f.passes) in
        let loss = blocked-loss levels set c (stuck.blocked c below none) in
        let no : is_win L ≡ true = sym (ap is_win loss) ∙ win in
        cc

    no_win : list_any is_win (fusion n part_open) ≡ false
    no_win = elim (cases_Bool (list_any is_win (fusion n part_open))) [
      | inl some ↦
          let r = any-range (λ c. is_win (fused_at part_open c)) 0 n (sym (any-map is_win (fused_at part_open) (numbers_below n)) ∙ some) in
          absurd (win_loses r.it (omega (arith, r.below)) r.passes)
      | inr none ↦ none
    ]
