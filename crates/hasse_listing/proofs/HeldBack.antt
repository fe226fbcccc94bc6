-- What demotion never places as long as it holds a constraint back stands necessarily below this constraint.
use Rattle.std.proofs.Common.{◌≡◌, ◌≢◌, ℕ, zero, suc, ◌+◌, ◌-◌, ◌*◌, ◌%◌, ◌^◌, ◌<◌, ◌≤◌, max, List, [], ◌∷◌, Bool, true, false, arith, refl, sym, ◌∙◌, ap, inl, inr, length, get_or, slice_index, map, cond}
use Rattle.std.specs.Prelude.{All, IsTrue, bit_or, nat_lt, ◌==◌}
use Rattle.std.specs.Int.{bit_at, bit_not, w64}
use Rattle.std.specs.List.{list_all}
use Rattle.std.proofs.lemmas.Bool.{eq-eqb, ne_eqb, cases_lt, cases_eq}
use Rattle.std.proofs.lemmas.Bool.Decides.{eqb_tells}
use Rattle.std.proofs.lemmas.List.{length-map}
use Rattle.std.proofs.lemmas.List.Elements.{All-cons, All-head, All-tail}
use Rattle.std.proofs.lemmas.List.FromFn.{length-map-range_with_len, get_or-map-range_with_len}
use Rattle.std.proofs.lemmas.List.Sums.{AllPass-from_list_all}
use Rattle.std.proofs.lemmas.Nat.Bits.{bit_at-lt, bit_at_or, bit_at_not, bit_at_set_same, bit_at_set_other}
use Rattle.ot_theory.specs.declared.Mark.{Mark}
use Rattle.ot_theory.specs.declared.Mark.TheVariants.{W, L, E}
use Rattle.ot_theory.specs.Rankings.{IsRanking, numbers_below}
use Rattle.ot_theory.specs.Conditions.{keeps, mark_at, exchanged}
use Rattle.ot_theory.specs.Hierarchies.{satisfies, Satisfies}
use Rattle.ot_theory.specs.Demotion.{is_blocked, IsGuarded}
use Rattle.ot_theory.specs.Entailment.{entails}
use Rattle.ot_theory.specs.Refutations.{no_ranking_keeps}
use Rattle.ot_theory.proofs.Demotion.{blocked-open, open-unplaced}
use Rattle.ot_theory.proofs.Enumeration.{ranking-within}
use Rattle.ot_theory.proofs.Entailing.{entails-from, entails-by_negation, mark_at-exchanged}
use Rattle.ot_theory.proofs.Hopeless.{guarded-keeps}
use Rattle.ot_theory.proofs.Orders.{kept-satisfied}
use Rattle.ot_theory.proofs.Strata.{WinAbove, WinBefore, mark_at-within, keeps-guarded, satisfied-WinAbove, WinAbove-satisfied}
use Rattle.demotion.specs.Placed.{levels_of}
use Rattle.demotion.proofs.Masked.{level-bit}
use Rattle.demotion.proofs.Stuck.{IsPlaced, IsPlaced-more}
use Rattle.hasse_listing.specs.Covers.{over}
use Rattle.hasse_listing.specs.Masks.{AreBelow}
use Rattle.hasse_listing.proofs.Places.{place, place-here, place-first, levels_along, Satisfies-along, kept-ranking}
use Rattle.hasse_listing.proofs.Pairs.{alone, length-alone, alone-loss, alone-no_win, blocked-alone, length-over, over-above, over-below, over-loss, over-win, over-marked}

-- ---- In a ranking that keeps the set, the constraints before c are placed without c.
-- each constraint but c that is not placed is blocked
abbrev pub IsIdle : List (List Mark) → ℕ → ℕ → Type 0
IsIdle set c placed = (x : ℕ) → x < 64 → x ≢ c → bit_at placed x ≡ 0 → is_blocked (levels_of placed) set x ≡ true

before-placed : (n : ℕ) (set : List (List Mark)) (c placed : ℕ) (order : List ℕ) → n ≤ 64 → c < n → IsIdle set c placed → IsRanking n order → list_all (keeps order) set ≡ true
    → (m k : ℕ) → k < m → k < place c order → 0 < slice_index (levels_of placed) (get_or order k 0)
before-placed n set c placed order few below idle ranking kept zero k early h = absurd (omega arith)
before-placed n set c placed order few below idle ranking kept (suc m) k early h = elim (cases_lt 0 (slice_index (levels_of placed) (get_or order k 0))) [
  | inl some ↦ some
  | inr unplaced ↦
      let x : ℕ = get_or order k 0 in
      let p = place-here c order (omega (arith, ranking.each c below)) in
      let here : k < length order = omega (arith, p.within, h) in
      let small : x < n = ranking-within n order k 0 ranking here in
      let apart : x ≢ c = λ same. absurd (omega (arith, place-first order k here, ap (λ (y : ℕ). place y order) same, h)) in
      let o = blocked-open (levels_of placed) set x (idle x (omega arith) apart (omega (arith, level-bit placed x (omega arith), unplaced))) in
      let w = guarded-keeps order (get_or set o.at []) (AllPass-from_list_all (keeps order) set kept o.at [] o.within) k here o.loss in
      absurd (omega (arith, open-unplaced (levels_of placed) (get_or set o.at []) (get_or order w.at 0) o.opened w.win, before-placed n set c placed order few below idle ranking kept m w.at (omega (arith, w.before)) (omega (arith, w.before))))
]

-- So one that is not placed stands behind c.
pub entailed-unplaced : (n : ℕ) (set : List (List Mark)) (c d placed : ℕ) → n ≤ 64 → c < n → d < n → d ≢ c → IsIdle set c placed → bit_at placed d ≡ 0 → entails n set (over n c d) ≡ true
entailed-unplaced n set c d placed few below within other idle none =
    entails-from n set (over n c d) (λ order ranking kept. keeps-guarded order (over n c d) (λ k early loss. win order ranking kept k (over-loss n c d (get_or order k 0) loss)))
  where
    win : (order : List ℕ) → IsRanking n order → list_all (keeps order) set ≡ true → (k : ℕ) → get_or order k 0 ≡ d → WinBefore order (over n c d) k
    win order ranking kept k here =
        let p = place-here c order (omega (arith, ranking.each c below)) in
        let first : place c order < k = elim (cases_lt (place c order) k) [
          | inl first ↦ first
          | inr late ↦ elim (cases_eq k (place c order)) [
            | inl same ↦ absurd (other (sym here ∙ ap (λ (j : ℕ). get_or order j 0) same ∙ p.here))
            | inr apart ↦
                let some = before-placed n set c placed order few below idle ranking kept (suc k) k (omega arith) (omega (arith, late, apart)) in
                absurd (omega (arith, some, ap (slice_index (levels_of placed)) here, level-bit placed d (omega arith), none))
          ]
        ] in
        record { at = place c order; before = first; win = ap (mark_at (over n c d)) p.here ∙ over-above n c d below }

-- ---- One that is placed without c stands above it in a hierarchy that satisfies the set: what is placed comes first, and then the
-- strata of any other hierarchy that satisfies it.
abbrev joined_level : ℕ → List ℕ → List ℕ → ℕ → ℕ
joined_level r placed others x = cond (slice_index placed x == 0) (r + slice_index others x) (slice_index placed x)

abbrev joined : ℕ → ℕ → List ℕ → List ℕ → List ℕ
joined n r placed others = map (joined_level r placed others) (numbers_below n)

level-joined : (n r : ℕ) (placed others : List ℕ) (x : ℕ) → x < n → slice_index (joined n r placed others) x ≡ joined_level r placed others x
level-joined n r placed others x below = get_or-map-range_with_len (joined_level r placed others) 0 n x x 0 below (omega arith)

joined-placed : (n r : ℕ) (placed others : List ℕ) (x : ℕ) → x < n → 0 < slice_index placed x → slice_index (joined n r placed others) x ≡ slice_index placed x
joined-placed n r placed others x below some = level-joined n r placed others x below ∙ rw (ne_eqb (slice_index placed x) 0 (λ e. omega arith)) refl

joined-left : (n r : ℕ) (placed others : List ℕ) (x : ℕ) → x < n → slice_index placed x ≡ 0 → slice_index (joined n r placed others) x ≡ r + slice_index others x
joined-left n r placed others x below none = level-joined n r placed others x below ∙ rw (eq-eqb (slice_index placed x) 0 none) refl

exchanged-loss : (m : Mark) → exchanged m ≡ L → m ≡ W
exchanged-loss W e = refl
exchanged-loss L e = absurd (cc)
exchanged-loss E e = absurd (cc)

Satisfies-joined : (n : ℕ) (set : List (List Mark)) (c d r : ℕ) (placed others : List ℕ) → All (λ marks. length marks ≡ n) set → c < n → d < n → d ≢ c → ((x : ℕ) → slice_index placed x ≤ r) → All (IsGuarded placed) (alone n c ∷ set) → Satisfies n set others → 0 < slice_index placed d
    → Satisfies n (map exchanged (over n c d) ∷ set) (joined n r placed others)
Satisfies-joined n set c d r placed others widths below within other low all_guarded s some = record {
  width = length-map-range_with_len (joined_level r placed others) 0 n;
  from_one = from_one;
  each = All-cons (λ marks. IsTrue (satisfies (joined n r placed others) marks)) (map exchanged (over n c d)) set
      (satisfied-WinAbove (joined n r placed others) (map exchanged (over n c d)) first)
      (λ k e b. satisfied-WinAbove (joined n r placed others) (get_or set k e) (above (get_or set k e) (widths k e b) (All-tail (IsGuarded placed) (alone n c) set all_guarded k e b) (s.each k e b)));
}
  where
    new : List ℕ
    new = joined n r placed others

    positive : (x : ℕ) → x < n → 0 < slice_index others x
    positive x small = omega (arith, s.from_one x 0 (omega (arith, s.width, small)))

    -- c is held back
    held : slice_index placed c ≡ 0
    held = elim (cases_lt 0 (slice_index placed c)) [
      | inl high ↦ let g = All-head (IsGuarded placed) (alone n c) set all_guarded c (alone-loss n c below) high in absurd (alone-no_win n c g.0.it below g.0.win)
      | inr none ↦ omega (arith, none)
    ]

    one : (x : ℕ) → x < n → 1 ≤ slice_index new x
    one x small = elim (cases_lt 0 (slice_index placed x)) [
      | inl high ↦ omega (arith, high, joined-placed n r placed others x small high)
      | inr none ↦ omega (arith, joined-left n r placed others x small (omega (arith, none)), positive x small)
    ]

    from_one : All (λ level. 1 ≤ level) new
    from_one k e b =
        let small : k < n = omega (arith, b, length-map-range_with_len (joined_level r placed others) 0 n) in
        omega (arith, one k small, level-joined n r placed others k small, get_or-map-range_with_len (joined_level r placed others) 0 n k k e small (omega arith))

    first : (x : ℕ) → mark_at (map exchanged (over n c d)) x ≡ L → WinAbove new (map exchanged (over n c d)) x
    first x loss =
        let here : x ≡ c = over-win n c d x (exchanged-loss (mark_at (over n c d) x) (sym (mark_at-exchanged (over n c d) x) ∙ loss)) in
        record {
          it = d;
          within = omega (arith, within, length-map (over n c d) exchanged, length-over n c d);
          win = mark_at-exchanged (over n c d) d ∙ ap exchanged (over-below n c d within other);
          above = omega (arith, joined-placed n r placed others d within some, joined-left n r placed others c below held, low d, positive c below, ap (slice_index new) here);
        }

    higher : (x y : ℕ) → x < n → y < n → slice_index placed x ≡ 0 → slice_index others y < slice_index others x → slice_index new y < slice_index new x
    higher x y small small' none less = elim (cases_lt 0 (slice_index placed y)) [
      | inl high ↦ omega (arith, joined-placed n r placed others y small' high, joined-left n r placed others x small none, low y, positive x small)
      | inr left ↦ omega (arith, joined-left n r placed others y small' (omega (arith, left)), joined-left n r placed others x small none, less)
    ]

    above : (marks : List Mark) → length marks ≡ n → IsGuarded placed marks → satisfies others marks ≡ true → (x : ℕ) → mark_at marks x ≡ L → WinAbove new marks x
    above marks width guarded h x loss =
        let small : x < n = omega (arith, mark_at-within marks x (λ even. let no : L ≡ E = sym loss ∙ even in cc), width) in
        elim (cases_lt 0 (slice_index placed x)) [
          | inl high ↦
              let g = guarded x loss high in
              record { it = g.0.it; within = g.0.within; win = g.0.win; above = omega (arith, g.1, joined-placed n r placed others x small high, joined-placed n r placed others g.0.it (omega (arith, g.0.within, width)) g.0.placed) }
          | inr none ↦
              let w = WinAbove-satisfied others marks h x loss in
              record { it = w.it; within = w.within; win = w.win; above = higher x w.it small (omega (arith, w.within, width)) (omega (arith, none)) w.above }
        ]

pub not_entailed-placed : (n : ℕ) (set : List (List Mark)) (c d placed : ℕ) → All (λ marks. length marks ≡ n) set → no_ranking_keeps n set ≡ false → c < n → d < n → d ≢ c → IsPlaced n (alone n c ∷ set) placed → bit_at placed d ≡ 1 → entails n set (over n c d) ≡ false
not_entailed-placed n set c d placed widths kept below within other h bit =
    let f = kept-ranking n set kept in
    let high : List ℕ = levels_along n f.order in
    let s : Satisfies n set high = Satisfies-along n set f.order widths f.ranking f.passes in
    let new = Satisfies-joined n set c d h.count h.levels high widths below within other h.within h.guarded s (positive (slice_index h.levels d) (sym bit ∙ h.mask d within)) in
    let wide = All-cons (λ marks. length marks ≡ n) (map exchanged (over n c d)) set (length-map (over n c d) exchanged ∙ length-over n c d) widths in
    entails-by_negation n set (over n c d) (length-over n c d)
    ∙ rw (over-marked n c d below, kept-satisfied n (map exchanged (over n c d) ∷ set) (joined n h.count h.levels high) wide new) refl
  where
    positive : (x : ℕ) → ◌≡◌ {A = ℕ} 1 (cond (nat_lt 0 x) 1 0) → 0 < x
    positive zero e = absurd (omega arith)
    positive (suc x) e = omega arith

-- ---- the same by masks
pub IsHeldBack-more : (n : ℕ) (set : List (List Mark)) (c placed blocked : ℕ) → n ≤ 64 → c < n → placed < 2 ^ 64 → bit_or blocked (1 * 2 ^ c % 2 ^ 64) < 2 ^ 64 → All (λ marks. length marks ≡ n) set
    → ((x : ℕ) → bit_at blocked x ≡ cond (is_blocked (levels_of placed) set x) 1 0) → IsPlaced n (alone n c ∷ set) placed → IsPlaced n (alone n c ∷ set) (bit_or placed (bit_not w64 (bit_or blocked (1 * 2 ^ c % 2 ^ 64))))
IsHeldBack-more n set c placed blocked few below small low widths b h =
    IsPlaced-more n (alone n c ∷ set) placed (bit_or blocked (1 * 2 ^ c % 2 ^ 64)) few small low (All-cons (λ marks. length marks ≡ n) (alone n c) set (length-alone n c) widths) bits h
  where
    bits : (x : ℕ) → bit_at (bit_or blocked (1 * 2 ^ c % 2 ^ 64)) x ≡ cond (is_blocked (levels_of placed) (alone n c ∷ set) x) 1 0
    bits x = rw (blocked-alone (levels_of placed) n c set x below) (elim (eqb_tells x c) [
      | inl same ↦ rw same.0 (rw same.1 (bit_at_set_same w64 blocked c (omega arith)))
      | inr other ↦ rw other.0 (bit_at_set_other w64 blocked c (omega arith) x other.1 ∙ b x)
    ])

-- a round that places none, though c is held back
pub IsIdle-same : (set : List (List Mark)) (c placed blocked : ℕ) → c < 64 → bit_or blocked (1 * 2 ^ c % 2 ^ 64) < 2 ^ 64 → ((x : ℕ) → bit_at blocked x ≡ cond (is_blocked (levels_of placed) set x) 1 0)
    → bit_or placed (bit_not w64 (bit_or blocked (1 * 2 ^ c % 2 ^ 64))) ≡ placed → IsIdle set c placed
IsIdle-same set c placed blocked within low b idle x small other none =
    let stays : ℕ = bit_or blocked (1 * 2 ^ c % 2 ^ 64) in
    let both : bit_at placed x ≡ max (bit_at placed x) (bit_at (bit_not w64 stays) x) = ap (λ (y : ℕ). bit_at y x) (sym idle) ∙ bit_at_or placed (bit_not w64 stays) x in
    let one : bit_at stays x ≡ 1 = omega (arith, both, none, bit_at_not w64 stays x low small, bit_at-lt stays x) in
    by (is_blocked (levels_of placed) set x) (sym one ∙ bit_at_set_other w64 blocked c within x other ∙ b x)
  where
    by : (t : Bool) → ◌≡◌ {A = ℕ} 1 (cond t 1 0) → t ≡ true
    by true e = refl
    by false e = absurd (omega arith)

-- What is not placed in the end, but c, stands necessarily below c, and nothing else does.
pub AreBelow-idle : (n : ℕ) (set : List (List Mark)) (c placed : ℕ) → n ≤ 64 → c < n → bit_or placed (1 * 2 ^ c % 2 ^ 64) < 2 ^ 64 → All (λ marks. length marks ≡ n) set → no_ranking_keeps n set ≡ false
    → IsIdle set c placed → IsPlaced n (alone n c ∷ set) placed → AreBelow n set c (bit_not w64 (bit_or placed (1 * 2 ^ c % 2 ^ 64)))
AreBelow-idle n set c placed few below low widths kept idle h d within =
    let left : bit_at (bit_not w64 (bit_or placed (1 * 2 ^ c % 2 ^ 64))) d ≡ 1 - bit_at (bit_or placed (1 * 2 ^ c % 2 ^ 64)) d = bit_at_not w64 (bit_or placed (1 * 2 ^ c % 2 ^ 64)) d low (omega arith) in
    elim (cases_eq d c) [
      | inl same ↦
          let set_bit : bit_at (bit_or placed (1 * 2 ^ c % 2 ^ 64)) d ≡ 1 = ap (bit_at (bit_or placed (1 * 2 ^ c % 2 ^ 64))) same ∙ bit_at_set_same w64 placed c (omega arith) in
          rw (left, set_bit, eq-eqb c d (sym same)) refl
      | inr other ↦
          let kept_bit : bit_at (bit_or placed (1 * 2 ^ c % 2 ^ 64)) d ≡ bit_at placed d = bit_at_set_other w64 placed c (omega arith) d other in
          rw (left, kept_bit, ne_eqb c d (λ e. other (sym e))) (elim (cases_eq (bit_at placed d) 0) [
            | inl none ↦ rw (none, entailed-unplaced n set c d placed few below within other idle none) refl
            | inr some ↦
                let one : bit_at placed d ≡ 1 = omega (arith, some, bit_at-lt placed d) in
                rw (one, not_entailed-placed n set c d placed widths kept below within other h one) refl
          ])
    ]
