-- The next stratum, by masks as by the numbers.
use Rattle.std.proofs.Common.{◌≡◌, ◌≢◌, ℕ, zero, suc, ◌+◌, ◌^◌, ◌<◌, ◌≤◌, List, [], ◌∷◌, Bool, true, false, not, ◌&&◌, ◌==◌, cond, length, get_or, slice_index, arith, refl, sym, ap, ◌∙◌, inl, inr}
use Rattle.std.specs.Prelude.{bit_and, bit_or, nat_lt, All, filter}
use Rattle.std.specs.List.{range_with_len}
use Rattle.std.specs.Int.{bit_at, bit_not, w64}
use Rattle.std.proofs.lemmas.Bool.{cases_lt, cases_Bool, and_parts, ne_eqb}
use Rattle.std.proofs.lemmas.Bool.Decides.{eqb_tells}
use Rattle.std.proofs.lemmas.List.{get_or_past, get_or_default}
use Rattle.std.proofs.lemmas.Nat.{pow_pos}
use Rattle.std.proofs.lemmas.Nat.Bits.{bit_at_and, bit_at-pow_same, bit_at-pow_other}
use Rattle.ot_theory.specs.declared.Mark.{Mark}
use Rattle.ot_theory.specs.Rankings.{numbers_below}
use Rattle.ot_theory.specs.Demotion.{is_blocked}
use Rattle.ot_theory.proofs.LeftOpen.{of_range, in_range}
use Rattle.ot_theory.proofs.Members.{filter_below}
use Rattle.demotion.specs.Placed.{levels_of, has_bit}
use Rattle.demotion.proofs.Masked.{blocked-same, placed-same, flagged}
use Rattle.biased_demotion.specs.Biased.{is_faithfulness, is_markedness, is_free, has_open_win, is_active, freed, IsNext}
use Rattle.biased_demotion.specs.Biased.IsNext.{FreeMarkedness, OneFaithfulness, ActiveFaithfulness, AllFree}
use Rattle.biased_demotion.specs.Shown.{Shows, freed_in, IsFirstGreatest}
use Rattle.biased_demotion.proofs.Shown.{filter_none, min_bits, Shows-has_bit, Shows-and, Shows-none, Shows-some, none_left, some_left, listed}
use Rattle.biased_demotion.proofs.Opened.{PlacesSame, open_win-same}
use Rattle.biased_demotion.proofs.Freed.{free-mask, freed-masks}

-- what the next stratum is chosen from
pub record AreMasksOf (faith : List Bool) (levels : List ℕ) (set : List (List Mark)) (faithfulness markedness placed losses wins : ℕ) : Type 0 where
  pub few : length faith ≤ 64
  pub long : length levels ≡ length faith
  pub widths : All (λ marks. length marks ≡ length faith) set
  pub of_faithfulness : Shows faithfulness (is_faithfulness faith)
  pub of_markedness : Shows markedness (is_markedness faith)
  pub of_placed : Shows placed (λ c. nat_lt 0 (slice_index levels c))
  pub of_losses : Shows losses (is_blocked (levels_of placed) set)
  pub of_wins : Shows wins (has_open_win (levels_of placed) set)
  pub small_placed : placed < 2 ^ 64
  pub small_losses : losses < 2 ^ 64

pub AreMasksOf-given : (faith : List Bool) (levels : List ℕ) (set : List (List Mark)) (faithfulness markedness placed losses wins : ℕ) → length faith ≤ 64 → length levels ≡ length faith → All (λ marks. length marks ≡ length faith) set
    → Shows faithfulness (is_faithfulness faith) → Shows markedness (is_markedness faith) → Shows placed (λ c. nat_lt 0 (slice_index levels c)) → Shows losses (is_blocked (levels_of placed) set) → Shows wins (has_open_win (levels_of placed) set)
    → placed < 2 ^ 64 → losses < 2 ^ 64 → AreMasksOf faith levels set faithfulness markedness placed losses wins
AreMasksOf-given faith levels set faithfulness markedness placed losses wins few long widths of_faithfulness of_markedness of_placed of_losses of_wins small_placed small_losses = record {
  few = few;
  long = long;
  widths = widths;
  of_faithfulness = of_faithfulness;
  of_markedness = of_markedness;
  of_placed = of_placed;
  of_losses = of_losses;
  of_wins = of_wins;
  small_placed = small_placed;
  small_losses = small_losses;
}

-- what a stratum says: it is the next one, its constraints are free, and it has none only where none is free
pub record IsStratum (faith : List Bool) (levels : List ℕ) (set : List (List Mark)) (stratum : ℕ) : Type 0 where
  pub next : 0 < stratum → IsNext faith levels set (filter (has_bit stratum) (numbers_below (length faith)))
  pub free : (c : ℕ) → has_bit stratum c ≡ true → (c < length faith) × (is_free levels set c ≡ true)
  pub none : stratum ≡ 0 → (c : ℕ) → c < length faith → is_free levels set c ≡ false

pub faithfulness_within : (faith : List Bool) (c : ℕ) → is_faithfulness faith c ≡ true → c < length faith
faithfulness_within faith c h = elim (cases_lt c (length faith)) [
  | inl below ↦ below
  | inr past ↦ let no : true ≡ false = sym h ∙ get_or_past faith c false past in absurd (cc)
]

pub markedness_within : (faith : List Bool) (c : ℕ) → is_markedness faith c ≡ true → c < length faith
markedness_within faith c h = elim (cases_lt c (length faith)) [
  | inl below ↦ below
  | inr past ↦ let no : true ≡ false = sym h ∙ ap not (get_or_past faith c true past) in absurd (cc)
]

-- a constraint is of one of the two kinds
other_kind : (faith : List Bool) (c : ℕ) → c < length faith → is_markedness faith c ≡ not (is_faithfulness faith c)
other_kind faith c below = ap not (get_or_default faith c true false below)

of_both : (a f : Bool) → (not a && f) ≡ false → (a && f) ≡ f
of_both true f h = refl
of_both false f h = sym h

-- ---- the mask of one constraint
power_bit : (c d : ℕ) → bit_at (2 ^ c) d ≡ cond (d == c) 1 0
power_bit c d = elim (eqb_tells d c) [
  | inl same ↦ rw (same.0, same.1) (bit_at-pow_same c)
  | inr other ↦ rw other.0 (bit_at-pow_other c d other.1)
]

bit_of_one : (c d : ℕ) → has_bit (2 ^ c) d ≡ (d == c)
bit_of_one c d = flagged (2 ^ c) d (d == c) (power_bit c d)

one_alone : (c d : ℕ) → has_bit (2 ^ c) d ≡ true → d ≡ c
one_alone c d bit = elim (eqb_tells d c) [
  | inl same ↦ same.1
  | inr other ↦ let no : true ≡ false = sym bit ∙ bit_of_one c d ∙ other.0 in absurd (cc)
]

-- the numbers from a on of which c is one
one_of_range : (c a n : ℕ) → a ≤ c → c < a + n → filter (λ d. d == c) (range_with_len a n) ≡ c ∷ []
one_of_range c a zero l u = absurd (omega arith)
one_of_range c a (suc n) l u = elim (eqb_tells a c) [
  | inl same ↦ rw same.0 (ap (λ (x : ℕ). x ∷ filter (λ d. d == c) (range_with_len (a + 1) n)) same.1 ∙ ap (λ (rest : List ℕ). c ∷ rest) (filter_none (λ d. d == c) (a + 1) n (λ d low high. ne_eqb d c (omega (arith, same.1)))))
  | inr other ↦ rw other.0 (one_of_range c (a + 1) n (omega (arith, other.1)) (omega arith))
]

only_one : (c n : ℕ) → c < n → filter (λ d. d == c) (numbers_below n) ≡ c ∷ []
only_one c n below = one_of_range c 0 n (omega arith) (omega arith)

module _ (faith : List Bool) (levels : List ℕ) (set : List (List Mark)) (faithfulness markedness placed losses wins : ℕ) (h : AreMasksOf faith levels set faithfulness markedness placed losses wins) where
  -- the constraints that are free, as the code has them
  abbrev free_in : ℕ
  free_in = bit_not w64 (bit_or placed losses)

  places_same : PlacesSame (length faith) (levels_of placed) levels
  places_same c below = sym (placed-same (length faith) placed levels h.few (λ d b. h.of_placed d) c below)

  of_kind : (kind : ℕ) (test : ℕ → Bool) → ((c : ℕ) → test c ≡ true → c < length faith) → Shows kind test → Shows (bit_and kind free_in) (λ c. test c && is_free levels set c)
  of_kind kind test within k c = elim (cases_Bool (test c)) [
    | inl passes ↦
        let blocked : is_blocked (levels_of placed) set c ≡ is_blocked levels set c = blocked-same (levels_of placed) levels (length faith) set c h.widths places_same in
        bit_at_and kind free_in c ∙ rw (k c, free-mask levels set placed losses c h.small_placed h.small_losses (omega (arith, within c passes, h.few)) (h.of_placed c) (h.of_losses c ∙ ap (λ (t : Bool). cond t 1 0) blocked)) (min_bits (test c) (is_free levels set c))
    | inr fails ↦
        let none : bit_at kind c ≡ 0 = k c ∙ ap (λ (t : Bool). cond t 1 0) fails in
        let off : bit_at (bit_and kind free_in) c ≡ 0 = omega (arith, bit_at_and kind free_in c, none) in
        off ∙ ap (λ (t : Bool). cond (t && is_free levels set c) 1 0) (sym fails)
  ]

  pub shows_free_markedness : Shows (bit_and markedness free_in) (λ c. is_markedness faith c && is_free levels set c)
  shows_free_markedness = of_kind markedness (is_markedness faith) (markedness_within faith) h.of_markedness

  pub shows_free_faithfulness : Shows (bit_and faithfulness free_in) (λ c. is_faithfulness faith c && is_free levels set c)
  shows_free_faithfulness = of_kind faithfulness (is_faithfulness faith) (faithfulness_within faith) h.of_faithfulness

  pub shows_active : Shows (bit_and (bit_and faithfulness free_in) wins) (is_active faith levels set)
  shows_active = Shows-and (bit_and faithfulness free_in) wins (λ c. is_faithfulness faith c && is_free levels set c) (has_open_win levels set) shows_free_faithfulness
      (λ c. h.of_wins c ∙ ap (λ (t : Bool). cond t 1 0) (open_win-same (levels_of placed) levels (length faith) set c h.widths places_same))

  active_within : (c : ℕ) → is_active faith levels set c ≡ true → (c < length faith) × (is_free levels set c ≡ true)
  active_within c a =
      let parts = and_parts (is_faithfulness faith c) (is_free levels set c) (and_parts (is_faithfulness faith c && is_free levels set c) (has_open_win levels set c) a).0 in
      (faithfulness_within faith c parts.0, parts.1)

  -- ---- rule 1
  pub IsStratum-markedness : (m : ℕ) → m ≡ bit_and markedness free_in → m < 2 ^ 64 → m ≢ 0 → IsStratum faith levels set m
  IsStratum-markedness m is small some =
      let test : ℕ → Bool = λ c. is_markedness faith c && is_free levels set c in
      let shows : Shows m test = rw is shows_free_markedness in
      let it = Shows-some m test small shows some in
      record {
        next = λ positive. FreeMarkedness
            (some_left test (length faith) it.it (markedness_within faith it.it (and_parts (is_markedness faith it.it) (is_free levels set it.it) it.passes).0) it.passes)
            (listed m (length faith) test shows);
        free = λ c bit.
            let parts = and_parts (is_markedness faith c) (is_free levels set c) (sym (Shows-has_bit m test shows c) ∙ bit) in
            (markedness_within faith c parts.0, parts.1);
        none = λ z. absurd (some z);
      }

  no_markedness : (m : ℕ) → m ≡ bit_and markedness free_in → m ≡ 0 → (c : ℕ) → (is_markedness faith c && is_free levels set c) ≡ false
  no_markedness m is none = Shows-none m (λ c. is_markedness faith c && is_free levels set c) (rw is shows_free_markedness) none

  -- where no markedness constraint is free, the free constraints are the free faithfulness constraints
  only_faithfulness : (m : ℕ) → m ≡ bit_and markedness free_in → m ≡ 0 → (c : ℕ) → c < length faith → (is_faithfulness faith c && is_free levels set c) ≡ is_free levels set c
  only_faithfulness m is none c below =
      of_both (is_faithfulness faith c) (is_free levels set c) (sym (ap (λ (t : Bool). t && is_free levels set c) (other_kind faith c below)) ∙ no_markedness m is none c)

  -- ---- rule 4
  pub IsStratum-all : (m f a : ℕ) → m ≡ bit_and markedness free_in → m ≡ 0 → f ≡ bit_and faithfulness free_in → a ≡ bit_and f wins → a ≡ 0 → f < 2 ^ 64 → IsStratum faith levels set f
  IsStratum-all m f a is_m none_m is_f is_a none_a small =
      let test : ℕ → Bool = λ c. is_faithfulness faith c && is_free levels set c in
      let shows : Shows f test = rw is_f shows_free_faithfulness in
      let active : Shows a (is_active faith levels set) = rw (is_a, is_f) shows_active in
      let no_active = Shows-none a (is_active faith levels set) active none_a in
      record {
        next = λ positive.
            let it = Shows-some f test small shows (omega (arith, positive)) in
            let parts = and_parts (is_faithfulness faith it.it) (is_free levels set it.it) it.passes in
            AllFree
            (none_left (λ c. is_markedness faith c && is_free levels set c) (length faith) (λ c below. no_markedness m is_m none_m c))
            (none_left (is_active faith levels set) (length faith) (λ c below. no_active c))
            (some_left (is_free levels set) (length faith) it.it (faithfulness_within faith it.it parts.0) parts.1)
            (filter_below (has_bit f) (is_free levels set) 0 (length faith) (λ c below. Shows-has_bit f test shows c ∙ only_faithfulness m is_m none_m c (omega arith)));
        free = λ c bit.
            let parts = and_parts (is_faithfulness faith c) (is_free levels set c) (sym (Shows-has_bit f test shows c) ∙ bit) in
            (faithfulness_within faith c parts.0, parts.1);
        none = λ z c below. sym (only_faithfulness m is_m none_m c below) ∙ Shows-none f test shows z c;
      }

  freed_same : (c : ℕ) → c < length faith → freed_in markedness placed set c ≡ freed faith levels set c
  freed_same c within = freed-masks faith levels set markedness placed c h.few h.long h.widths within h.of_markedness h.of_placed

  -- ---- rule 2
  one_stratum : (m f a c : ℕ) → m ≡ bit_and markedness free_in → m ≡ 0 → f ≡ bit_and faithfulness free_in → a ≡ bit_and f wins → IsFirstGreatest 64 (has_bit a) (freed_in markedness placed set) c → IsStratum faith levels set (2 ^ c)
  one_stratum m f a c is_m none_m is_f is_a r =
      let test : ℕ → Bool = is_active faith levels set in
      let shows : Shows a test = rw (is_a, is_f) shows_active in
      let here : test c ≡ true = sym (Shows-has_bit a test shows c) ∙ r.passes in
      let within = active_within c here in
      record {
        next = λ positive. OneFaithfulness
            (none_left (λ d. is_markedness faith d && is_free levels set d) (length faith) (λ d below. no_markedness m is_m none_m d))
            c
            (record {
              active = in_range test 0 (length faith) c (record { from = omega arith; below = omega (arith, within.0); passes = here });
              some = omega (arith, r.some, freed_same c within.0);
              greatest = λ k d b.
                  let o = of_range test 0 (length faith) k d b in
                  let x : ℕ = get_or (filter test (numbers_below (length faith))) k d in
                  omega (arith, r.greatest x (omega (arith, o.below, h.few)) (Shows-has_bit a test shows x ∙ o.passes), freed_same c within.0, freed_same x (omega (arith, o.below)));
              first = λ k d b early.
                  let o = of_range test 0 (length faith) k d b in
                  let x : ℕ = get_or (filter test (numbers_below (length faith))) k d in
                  omega (arith, r.first x early (Shows-has_bit a test shows x ∙ o.passes), freed_same c within.0, freed_same x (omega (arith, o.below)));
            })
            (filter_below (has_bit (2 ^ c)) (λ d. d == c) 0 (length faith) (λ d below. bit_of_one c d) ∙ only_one c (length faith) within.0);
        free = λ d bit.
            let same : d ≡ c = one_alone c d bit in
            (omega (arith, same, within.0), ap (is_free levels set) same ∙ within.1);
        none = λ z. absurd (omega (arith, z, pow_pos c));
      }

  pub IsStratum-one : (m f a c one : ℕ) → one ≡ 2 ^ c → m ≡ bit_and markedness free_in → m ≡ 0 → f ≡ bit_and faithfulness free_in → a ≡ bit_and f wins → IsFirstGreatest 64 (has_bit a) (freed_in markedness placed set) c → IsStratum faith levels set one
  IsStratum-one m f a c one alone is_m none_m is_f is_a r = rw alone (one_stratum m f a c is_m none_m is_f is_a r)

  -- ---- rule 3
  pub IsStratum-active : (m f a : ℕ) → m ≡ bit_and markedness free_in → m ≡ 0 → f ≡ bit_and faithfulness free_in → a ≡ bit_and f wins → a < 2 ^ 64 → a ≢ 0
      → ((c : ℕ) → c < 64 → has_bit a c ≡ true → freed_in markedness placed set c ≡ 0) → IsStratum faith levels set a
  IsStratum-active m f a is_m none_m is_f is_a small some idle =
      let test : ℕ → Bool = is_active faith levels set in
      let shows : Shows a test = rw (is_a, is_f) shows_active in
      let it = Shows-some a test small shows some in
      record {
        next = λ positive. ActiveFaithfulness
            (none_left (λ d. is_markedness faith d && is_free levels set d) (length faith) (λ d below. no_markedness m is_m none_m d))
            (λ k d b.
            let o = of_range test 0 (length faith) k d b in
            let x : ℕ = get_or (filter test (numbers_below (length faith))) k d in
            omega (arith, idle x (omega (arith, o.below, h.few)) (Shows-has_bit a test shows x ∙ o.passes), freed_same x (omega (arith, o.below))))
            (some_left test (length faith) it.it (active_within it.it it.passes).0 it.passes)
            (listed a (length faith) test shows);
        free = λ c bit. active_within c (sym (Shows-has_bit a test shows c) ∙ bit);
        none = λ z. absurd (some z);
      }
