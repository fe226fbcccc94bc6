-- How many steps of a worker are enabled, and what stands at a place among its steps.
use Rattle.std.proofs.Common.{◌≡◌, ℕ, zero, suc, ◌+◌, ◌<◌, ◌≤◌, List, [], ◌∷◌, ◌++◌, Bool, true, false, not, ◌&&◌, ◌==◌, arith, refl, sym, ◌∙◌, ap, inl, inr, length, length-append, map, take, subst, Option, Some, None}
use Rattle.std.specs.Prelude.{slice_get, count_by, is_none, nat_lt}
use Rattle.std.specs.Option.{option_map_or}
use Rattle.std.proofs.lemmas.Bool.Decides.{eqb_tells}
use Rattle.std.proofs.Math.Seq.{take-append_seam}
use Rattle.std.proofs.lemmas.List.{take_all}
use Rattle.std.proofs.lemmas.List.Sums.{count_by-le-length, length-filter, sum_by-append, sum_by-cons, sum_by_push}
use Rattle.std.proofs.lemmas.List.FromFn.{length-range_with_len, get_or-map-range_with_len, length-map-range_with_len}
use Rattle.std.proofs.lemmas.Option.{slice_get-get_or}
use Rattle.ot_theory.specs.Rankings.{numbers_below}
use Rattle.ot_theory.proofs.Terms.{numbers_below-more}
use Rattle.search_machine.specs.Machine.{Hand, Mark, State, is_enabled, is_filled, is_holding, is_idle, is_unknown}
use Rattle.search_machine.specs.declared.step.Step.{Step}
use Rattle.search_machine.specs.declared.step.Step.TheVariants.{Take, Steal, Consult, Learn, Settle, Put}
use Rattle.search_machine.proofs.Slots.{idle-here}
use Rattle.search_schedule.specs.Schedules.{enabled_of, steps_of}
use Rattle.search_schedule.proofs.Places.{bit, count-more, get-left, get-right, hit, none-past}

-- What stands at each place among the steps of a worker.

abbrev steals : ℕ → ℕ → List Step
steals workers w = map (λ v. Steal w v) (numbers_below workers)

abbrev others : ℕ → List Step
others w = Consult w ∷ Learn w ∷ Settle w ∷ Put w ∷ []

pub at-steal : (workers w v i : ℕ) → i ≡ v + 1 → v < workers → slice_get (steps_of workers w) i ≡ Some (Steal w v)
at-steal workers w v i e h =
    let long = length-map-range_with_len (λ v. Steal w v) 0 workers in
    get-right (Take w ∷ []) (steals workers w ++ others w) i v (omega arith)
    ∙ get-left (steals workers w) (others w) v (omega (arith, long))
    ∙ slice_get-get_or (steals workers w) v (Take w) (omega (arith, long))
    ∙ ap Some (get_or-map-range_with_len (λ v. Steal w v) 0 workers v v (Take w) h (omega arith))

pub at-other : (workers w k i : ℕ) → i ≡ workers + 1 + k → slice_get (steps_of workers w) i ≡ slice_get (others w) k
at-other workers w k i e = get-right (Take w ∷ steals workers w) (others w) i k (omega (arith, length-map-range_with_len (λ v. Steal w v) 0 workers))

-- How many of some things pass a test.

count-map : {X Y : Type 0} (test : Y → Bool) (f : X → Y) (xs : List X) → count_by test (map f xs) ≡ count_by (λ x. test (f x)) xs
count-map test f [] = refl
count-map test f (x ∷ xs) = omega (arith, sum_by-cons (λ y. bit (test y)) (f x) (map f xs), sum_by-cons (λ y. bit (test (f y))) x xs, count-map test f xs)

count-same : {X : Type 0} (test other : X → Bool) (xs : List X) → ((x : X) → test x ≡ other x) → count_by test xs ≡ count_by other xs
count-same test other [] same = refl
count-same test other (x ∷ xs) same = omega (arith, sum_by-cons (λ y. bit (test y)) x xs, sum_by-cons (λ y. bit (other y)) x xs, ap bit (same x), count-same test other xs same)

count-none : {X : Type 0} (test : X → Bool) (xs : List X) → ((x : X) → test x ≡ false) → count_by test xs ≡ 0
count-none test [] none = refl
count-none test (x ∷ xs) none = omega (arith, sum_by-cons (λ y. bit (test y)) x xs, ap bit (none x), count-none test xs none)

pub count-next : (test : ℕ → Bool) (n m : ℕ) → m ≡ n + 1 → count_by test (numbers_below m) ≡ count_by test (numbers_below n) + bit (test n)
count-next test n m e =
    ap (λ k. count_by test (numbers_below k)) e ∙ ap (count_by test) (numbers_below-more n) ∙ sum_by_push (λ x. bit (test x)) (numbers_below n) n

-- with every number but one
abbrev other_than : ℕ → (ℕ → Bool) → ℕ → Bool
other_than w test v = not (v == w) && test v

unlike : (test : ℕ → Bool) (w v : ℕ) → (v ≡ w → ⊥) → other_than w test v ≡ test v
unlike test w v h = elim (eqb_tells v w) [ inl same ↦ absurd (h same.1) | inr other ↦ ap (λ b. not b && test v) other.0 ]

alike : (test : ℕ → Bool) (w v : ℕ) → v ≡ w → other_than w test v ≡ false
alike test w v e = elim (eqb_tells v w) [ inl same ↦ ap (λ b. not b && test v) same.0 | inr other ↦ absurd (other.1 e) ]

all-before : (test : ℕ → Bool) (w n : ℕ) → n ≤ w → count_by (other_than w test) (numbers_below n) ≡ count_by test (numbers_below n)
all-before test w zero h = refl
all-before test w (suc n) h =
    omega (
      arith,
      count-next test n (suc n) (omega arith),
      count-next (other_than w test) n (suc n) (omega arith),
      all-before test w n (omega arith),
      ap bit (unlike test w n (λ e. omega (arith, e, h))),
    )

all-but-one : (test : ℕ → Bool) (w n : ℕ) → w < n → count_by (other_than w test) (numbers_below n) + bit (test w) ≡ count_by test (numbers_below n)
all-but-one test w zero h = absurd (omega arith)
all-but-one test w (suc n) h = elim (eqb_tells n w) [
  | inl same ↦ omega (arith, count-next test n (suc n) (omega arith), count-next (other_than w test) n (suc n) (omega arith), all-before test w n (omega (arith, same.1)), ap bit (alike test w n same.1), ap (λ v. bit (test v)) same.1)
  | inr other ↦ omega (arith, count-next test n (suc n) (omega arith), count-next (other_than w test) n (suc n) (omega arith), all-but-one test w n (omega (arith, other.1)), ap bit (unlike test w n other.1))
]

abbrev pub one_where : State → Step → ℕ
one_where state step = bit (is_enabled state step)

pub parts : (state : State) (w : ℕ) → length (enabled_of state w) ≡ one_where state (Take w) + (count_by (λ v. is_enabled state (Steal w v)) (numbers_below (length state.hands)) + (one_where state (Consult w) + (one_where state (Learn w) + (one_where state (Settle w) + one_where state (Put w)))))
parts state w =
    let n = length state.hands in
    let f : Step → ℕ = one_where state in
    omega (
      arith,
      length-filter (is_enabled state) (steps_of n w),
      sum_by-cons f (Take w) (steals n w ++ others w),
      sum_by-append f (steals n w) (others w),
      count-map (is_enabled state) (λ v. Steal w v) (numbers_below n),
      sum_by-cons f (Consult w) (Learn w ∷ Settle w ∷ Put w ∷ []),
      sum_by-cons f (Learn w) (Settle w ∷ Put w ∷ []),
      sum_by-cons f (Settle w) (Put w ∷ []),
      sum_by-cons f (Put w) [],
    )

held-none : (test : Hand → Bool) (hands : List (Option Hand)) (w : ℕ) → is_idle hands w ≡ true → is_holding test hands w ≡ false
held-none test hands w h = ap (λ (slot : Option (Option Hand)). option_map_or (λ hand. option_map_or test hand false) slot false) (idle-here hands w h)

-- An idle worker may take or steal from each queue that is filled.
pub count-idle : (state : State) (w : ℕ) → w < length state.hands → is_idle state.hands w ≡ true → length (enabled_of state w) ≡ count_by (is_filled state.queues) (numbers_below (length state.hands)) + one_where state (Put w)
count-idle state w h idle =
    let filled : ℕ → Bool = is_filled state.queues in
    let n = length state.hands in
    let took = ap (λ b. bit (b && filled w)) idle in
    let stole = count-same (λ v. is_enabled state (Steal w v)) (other_than w filled) (numbers_below n) (λ v. ap (λ b. not (v == w) && (b && filled v)) idle) in
    let consult : one_where state (Consult w) ≡ 0 = ap bit (held-none (λ hand. is_unknown hand.mark && nat_lt hand.cursor (length state.store)) state.hands w idle) in
    let learn : one_where state (Learn w) ≡ 0 = ap bit (held-none (λ hand. is_unknown hand.mark) state.hands w idle) in
    let settle : one_where state (Settle w) ≡ 0 = ap bit (held-none (λ hand. not (is_unknown hand.mark)) state.hands w idle) in
    omega (arith, parts state w, took, stole, all-but-one filled w n h, consult, learn, settle)

and-false : (a : Bool) → (a && false) ≡ false
and-false true = refl
and-false false = refl

took-none : (state : State) (w : ℕ) → is_idle state.hands w ≡ false → one_where state (Take w) ≡ 0
took-none state w busy = ap (λ b. bit (b && is_filled state.queues w)) busy

stole-none : (state : State) (w : ℕ) → is_idle state.hands w ≡ false → count_by (λ v. is_enabled state (Steal w v)) (numbers_below (length state.hands)) ≡ 0
stole-none state w busy = count-none (λ v. is_enabled state (Steal w v)) (numbers_below (length state.hands)) (λ v. ap (λ b. not (v == w) && (b && is_filled state.queues v)) busy ∙ and-false (not (v == w)))

-- A prefix in a hand is judged or settled.
one-held : (mark : Mark) → bit (is_unknown mark) + bit (not (is_unknown mark)) ≡ 1
one-held mark = by (is_unknown mark)
  where
    by : (b : Bool) → bit b + bit (not b) ≡ 1
    by true = refl
    by false = refl

one-of-two : (slot : Option (Option Hand)) (hand : Option Hand) → slot ≡ Some hand → option_map_or (λ (x : Option Hand). is_none x) slot false ≡ false
    → bit (option_map_or (λ (x : Option Hand). option_map_or (λ (y : Hand). is_unknown y.mark) x false) slot false) + bit (option_map_or (λ (x : Option Hand). option_map_or (λ (y : Hand). not (is_unknown y.mark)) x false) slot false) ≡ 1
one-of-two None hand e busy = absurd (cc)
one-of-two (Some None) hand e busy = absurd (let d : true ≡ false = busy in cc)
one-of-two (Some (Some held)) hand e busy = one-held held.mark

-- One whose hand is not empty may not.
pub count-busy : (state : State) (w : ℕ) → w < length state.hands → is_idle state.hands w ≡ false → length (enabled_of state w) ≡ one_where state (Consult w) + 1 + one_where state (Put w)
count-busy state w h busy =
    let two : one_where state (Learn w) + one_where state (Settle w) ≡ 1 = one-of-two (slice_get state.hands w) _ (slice_get-get_or state.hands w None h) busy in
    omega (arith, parts state w, took-none state w busy, stole-none state w busy, two)

-- So none of its first steps is enabled.
abbrev firsts : ℕ → ℕ → List Step
firsts workers w = Take w ∷ steals workers w

pub busy-first : (state : State) (w : ℕ) → is_idle state.hands w ≡ false → count_by (is_enabled state) (take (length state.hands + 1) (steps_of (length state.hands) w)) ≡ 0
busy-first state w busy =
    let n = length state.hands in
    let long : n + 1 ≡ length (firsts n w) = omega (arith, length-map-range_with_len (λ v. Steal w v) 0 n) in
    let none : count_by (is_enabled state) (firsts n w) ≡ 0 = omega (arith, sum_by-cons (one_where state) (Take w) (steals n w), count-map (is_enabled state) (λ v. Steal w v) (numbers_below n), took-none state w busy, stole-none state w busy) in
    ap (λ k. count_by (is_enabled state) (take k (steps_of n w))) long ∙ ap (count_by (is_enabled state)) (take-append_seam (firsts n w) (others w)) ∙ none

pub count-few : (test : ℕ → Bool) (n : ℕ) → count_by test (numbers_below n) ≤ n
count-few test n = omega (arith, count_by-le-length test (numbers_below n), length-range_with_len 0 n)

-- The steps of a worker are passed one after another, until the one at a place among those that are enabled.

length-steps : (workers w : ℕ) → length (steps_of workers w) ≡ workers + 5
length-steps workers w = omega (arith, length-append (Take w ∷ steals workers w) (others w), length-map-range_with_len (λ v. Steal w v) 0 workers)

pub step-found : (state : State) (workers w k place left : ℕ) (step : Step) → workers ≡ length state.hands → slice_get (steps_of workers w) k ≡ Some step → is_enabled state step ≡ true
    → place ≡ count_by (is_enabled state) (take k (steps_of (length state.hands) w)) + left → left ≡ 0 → Some step ≡ slice_get (enabled_of state w) place
step-found state workers w k place left step many at on e none =
    let here : slice_get (steps_of (length state.hands) w) k ≡ Some step = subst (λ (n : ℕ). slice_get (steps_of n w) k ≡ Some step) many at in
    sym (hit (is_enabled state) (steps_of (length state.hands) w) k place step here on (omega (arith, e, none)))

pub step-passed : (state : State) (workers w k place left after : ℕ) (step : Step) → workers ≡ length state.hands → slice_get (steps_of workers w) k ≡ Some step
    → place ≡ count_by (is_enabled state) (take k (steps_of (length state.hands) w)) + left → left ≡ after + bit (is_enabled state step)
    → place ≡ count_by (is_enabled state) (take (k + 1) (steps_of (length state.hands) w)) + after
step-passed state workers w k place left after step many at e f =
    let here : slice_get (steps_of (length state.hands) w) k ≡ Some step = subst (λ (n : ℕ). slice_get (steps_of n w) k ≡ Some step) many at in
    omega (arith, e, f, count-more (is_enabled state) (steps_of (length state.hands) w) k step here)

pub steps-passed : (state : State) (w k place left : ℕ) → length state.hands + 5 ≤ k → place ≡ count_by (is_enabled state) (take k (steps_of (length state.hands) w)) + left → None ≡ slice_get (enabled_of state w) place
steps-passed state w k place left all e =
    let steps : List Step = steps_of (length state.hands) w in
    sym (none-past (is_enabled state) steps place (omega (arith, e, ap (count_by (is_enabled state)) (take_all k steps (omega (arith, all, length-steps (length state.hands) w))))))
