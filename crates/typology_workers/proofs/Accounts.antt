-- What seats got and what is left, together, is what they put: each prefix as often.
use Rattle.std.proofs.Common.{◌≡◌, ℕ, zero, suc, ◌+◌, ◌<◌, ◌≤◌, List, [], ◌∷◌, ◌++◌, Bool, true, false, arith, eq-eqb, refl, sym, ◌∙◌, ap, inl, inr, cond, map, flat_map, length, take, drop, get_or}
use Rattle.std.specs.Prelude.{All, Some, eqb, nat_lt, slice_get, if◌then◌else◌}
use Rattle.std.specs.List.{range_with_len}
use Rattle.std.proofs.lemmas.Bool.{cases_lt, le-ltb, lt-ltb}
use Rattle.std.proofs.lemmas.Bool.Decides.{eqb_tells}
use Rattle.std.proofs.lemmas.List.{map-append, take-append-drop, take_more}
use Rattle.std.proofs.lemmas.List.Elements.{All-head, All-tail}
use Rattle.std.proofs.lemmas.List.FromFn.{fill_by_all}
use Rattle.std.proofs.lemmas.Option.{get_or_from_slice_get, slice_get_within}
use Rattle.prefix_deques.specs.Books as books
use Rattle.prefix_deques.specs.Books.{Agree, AreRight, Each, Entry, once_below}
use Rattle.prefix_deques.specs.Booked.{DequeAgrees, all_later, gets_from, later}
use Rattle.prefix_deques.specs.Lanes.{SeatView, gets_of}
use Rattle.search_deeds.specs.Deeds.{times}
use Rattle.search_deeds.proofs.Counts.{same, times-append, times-cons}
use Rattle.typology_workers.specs.Packets.{puts_of}
use Rattle.typology_workers.specs.Settled.{got}

abbrev pub prefixes_in : List Entry → List (List ℕ)
prefixes_in gets = map (λ (e : Entry). e.1) gets

abbrev one_if : Bool → ℕ
one_if b = cond b 1 0

-- How many entries are at the first n places, of those places that pass a test.
spread : (ℕ → Bool) → List Entry → ℕ → ℕ
spread test gets zero = 0
spread test gets (suc n) = spread test gets n + cond (test n) (books.times n gets) 0

-- How many of the first n places pass it.
counted : (ℕ → Bool) → ℕ → ℕ
counted test zero = 0
counted test (suc n) = counted test n + one_if (test n)

spread-none : (test : ℕ → Bool) (n : ℕ) → spread test [] n ≡ 0
unfolding spread
spread-none test zero = refl
spread-none test (suc n) = omega (arith, spread-none test n, none (test n))
  where
    none : (b : Bool) → ◌≡◌ {A = ℕ} (cond b 0 0) 0
    none true = refl
    none false = refl

lt-other : (a n : ℕ) → (n ≡ a → ⊥) → nat_lt a (suc n) ≡ nat_lt a n
lt-other a n other = elim (cases_lt a n) [
  | inl less ↦ lt-ltb a (suc n) (omega arith) ∙ sym (lt-ltb a n less)
  | inr most ↦ le-ltb a (suc n) (omega (arith, most, other)) ∙ sym (le-ltb a n most)
]

spread-cons : (test : ℕ → Bool) (e : Entry) (es : List Entry) (n : ℕ) → spread test (e ∷ es) n ≡ spread test es n + cond (nat_lt e.0 n) (one_if (test e.0)) 0
unfolding spread
spread-cons test e es zero = let never : nat_lt e.0 0 ≡ false = le-ltb e.0 0 (omega arith) in omega (arith, ap (λ b. cond b (one_if (test e.0)) 0) never)
spread-cons test e es (suc n) = elim (eqb_tells n e.0) [
  | inl here ↦
      let past : nat_lt e.0 n ≡ false = le-ltb e.0 n (omega (arith, here.1)) in
      let within : nat_lt e.0 (suc n) ≡ true = lt-ltb e.0 (suc n) (omega (arith, here.1)) in
      omega (
        arith,
        spread-cons test e es n,
        ap (λ b. cond b (one_if (test e.0)) 0) past,
        ap (λ b. cond b (one_if (test e.0)) 0) within,
        ap (λ b. cond (test n) ((if b then 1 else 0) + books.times n es) 0) here.0,
        more (test n) (books.times n es),
        ap (λ k. one_if (test k)) here.1,
      )
  | inr other ↦
      let like : nat_lt e.0 (suc n) ≡ nat_lt e.0 n = lt-other e.0 n other.1 in
      omega (
        arith,
        spread-cons test e es n,
        ap (λ b. cond b (one_if (test e.0)) 0) like,
        ap (λ b. cond (test n) ((if b then 1 else 0) + books.times n es) 0) other.0,
        ap (λ k. cond (test n) k 0) (zero-before (books.times n es)),
      )
]
  where
    more : (b : Bool) (k : ℕ) → cond b (1 + k) 0 ≡ cond b k 0 + one_if b
    more true k = omega arith
    more false k = refl

    zero-before : (k : ℕ) → 0 + k ≡ k
    zero-before k = omega arith

-- Where each entry is at one of the first n places, it is among them.
spread-all : (puts : List (List ℕ)) (x : List ℕ) (gets : List Entry) (n : ℕ) → AreRight puts gets → Each (λ e. e.0 < n) gets → times x (prefixes_in gets) ≡ spread (λ place. same x (get_or puts place [])) gets n
spread-all puts x [] n right below = sym (spread-none (λ place. same x (get_or puts place [])) n)
spread-all puts x (e ∷ es) n right below =
    let test : ℕ → Bool = λ place. same x (get_or puts place []) in
    let here : get_or puts e.0 [] ≡ e.1 = get_or_from_slice_get puts e.0 e.1 [] right.0 in
    let within : nat_lt e.0 n ≡ true = lt-ltb e.0 n below.0 in
    omega (
      arith,
      times-cons x e.1 (prefixes_in es),
      spread-all puts x es n right.1 below.1,
      spread-cons test e es n,
      ap (λ b. cond b (one_if (test e.0)) 0) within,
      ap (λ (l : List ℕ). one_if (same x l)) here,
    )

spread-once : (test : ℕ → Bool) (gets : List Entry) (k n : ℕ) → ((place : ℕ) → books.times place gets ≡ once_below place k) → n ≤ k → spread test gets n ≡ counted test n
unfolding spread counted
spread-once test gets k zero once le = refl
spread-once test gets k (suc n) once le =
    let below : nat_lt n k ≡ true = lt-ltb n k (omega (arith, le)) in
    let one : books.times n gets ≡ 1 = once n ∙ ap (λ b. if b then 1 else 0) below in
    omega (arith, spread-once test gets k n once (omega arith), ap (λ m. cond (test n) m 0) one)

counted-take : (puts : List (List ℕ)) (x : List ℕ) (n : ℕ) → n ≤ length puts → counted (λ place. same x (get_or puts place [])) n ≡ times x (take n puts)
unfolding counted
counted-take puts x zero le = refl
counted-take puts x (suc n) le =
    let here : List ℕ = get_or puts n [] in
    let more : take (suc n) puts ≡ take n puts ++ here ∷ [] = ap (λ k. take k puts) (let e : suc n ≡ n + 1 = omega arith in e) ∙ take_more puts n [] (omega arith) in
    omega (arith, counted-take puts x n (omega arith), ap (times x) more, times-append x (take n puts) (here ∷ []), times-cons x here [])

-- A place that stands in right entries is within the puts.
place-within : (puts : List (List ℕ)) (gets : List Entry) (place : ℕ) → AreRight puts gets → 1 ≤ books.times place gets → place < length puts
place-within puts [] place right some = absurd (omega arith)
place-within puts (e ∷ es) place right some = elim (eqb_tells place e.0) [
  | inl here ↦ let lt = slice_get_within puts e.0 e.1 right.0 in omega (arith, here.1)
  | inr other ↦ place-within puts es place right.1 (omega (arith, ap (λ b. (if b then 1 else 0) + books.times place es) other.0))
]

-- The places of entries are those that stand in them.
each-below : (gets : List Entry) (n : ℕ) → ((place : ℕ) → 1 ≤ books.times place gets → place < n) → Each (λ e. e.0 < n) gets
each-below [] n h = tt
each-below (e ∷ es) n h =
    (h e.0 (let yes' : eqb e.0 e.0 ≡ true = eq-eqb e.0 e.0 refl in omega (arith, ap (λ b. (if b then 1 else 0) + books.times e.0 es) yes')), each-below es n (λ place some. h place (later' place some)))
  where
    later' : (place : ℕ) → 1 ≤ books.times place es → 1 ≤ books.times place (e ∷ es)
    later' place some = omega arith

-- What was got from a deque whose books agree are the first of its puts.
agree-got : (puts : List (List ℕ)) (gets : List Entry) (x : List ℕ) → Agree puts gets → times x (prefixes_in gets) ≡ times x (take (length gets) puts)
agree-got puts gets x agree =
    let k = length gets in
    let below : Each (λ e. e.0 < k) gets = each-below gets k (λ place some. within place (omega (arith, some, agree.once place))) in
    let test : ℕ → Bool = λ place. same x (get_or puts place []) in
    spread-all puts x gets k agree.right below ∙ spread-once test gets k k agree.once (omega arith) ∙ counted-take puts x k (long k refl)
  where
    within : (place : ℕ) → 1 ≤ once_below place (length gets) → place < length gets
    within place some = elim (cases_lt place (length gets)) [
      | inl less ↦ less
      | inr most ↦ let none : once_below place (length gets) ≡ 0 = ap (λ b. if b then 1 else 0) (le-ltb place (length gets) most) in absurd (omega (arith, some, none))
    ]

    long : (k : ℕ) → k ≡ length gets → k ≤ length puts
    long zero e = omega arith
    long (suc k) e =
        let below : nat_lt k (length gets) ≡ true = lt-ltb k (length gets) (omega (arith, e)) in
        let one : once_below k (length gets) ≡ 1 = ap (λ b. if b then 1 else 0) below in
        let lt = place-within puts gets k agree.right (omega (arith, agree.once k, one)) in omega arith

agree-left : (puts : List (List ℕ)) (gets : List Entry) (x : List ℕ) → Agree puts gets → times x (prefixes_in gets) + times x (drop (length gets) puts) ≡ times x puts
agree-left puts gets x agree =
    omega (arith, agree-got puts gets x agree, times-append x (take (length gets) puts) (drop (length gets) puts), ap (times x) (take-append-drop (length gets) puts))

-- the same of all seats
abbrev got_from : List SeatView → ℕ → List (List ℕ)
got_from all v = prefixes_in (gets_from v all)

pub all-left : (all seats : List SeatView) (x : List ℕ) → All (DequeAgrees all) seats → times x (flat_map (λ (s : SeatView). got_from all s.number) seats) + times x (all_later all seats) ≡ times x (puts_of seats)
all-left all [] x agree = refl
all-left all (s ∷ seats) x agree =
    let here = All-head (DequeAgrees all) s seats agree in
    omega (
      arith,
      times-append x (got_from all s.number) (flat_map (λ (t : SeatView). got_from all t.number) seats),
      times-append x (all_later all seats) (later all s),
      times-append x s.puts (puts_of seats),
      agree-left s.puts (gets_from s.number all) x here.books,
      all-left all seats x (All-tail (DequeAgrees all) s seats agree),
    )

-- By deque or by seat, the gets are the same.

pub flat_map-map : {X Y Z : Type 0} (f : X → Y) (g : Y → List Z) (xs : List X) → flat_map g (map f xs) ≡ flat_map (λ x. g (f x)) xs
flat_map-map f g [] = refl
flat_map-map f g (x ∷ xs) = ap (λ l. g (f x) ++ l) (flat_map-map f g xs)

times-both : (x : List ℕ) (f g : ℕ → List (List ℕ)) (vs : List ℕ) → times x (flat_map (λ v. f v ++ g v) vs) ≡ times x (flat_map f vs) + times x (flat_map g vs)
times-both x f g [] = refl
times-both x f g (v ∷ vs) =
    omega (
      arith,
      times-append x (f v ++ g v) (flat_map (λ u. f u ++ g u) vs),
      times-append x (f v) (g v),
      times-append x (f v) (flat_map f vs),
      times-append x (g v) (flat_map g vs),
      times-both x f g vs,
    )

times-nothing : (x : List ℕ) (vs : List ℕ) → times x (flat_map (λ v. []) vs) ≡ 0
times-nothing x [] = refl
times-nothing x (v ∷ vs) = times-nothing x vs

got-by-deque : (s : SeatView) (n : ℕ) → length s.gets ≡ n → flat_map (λ v. prefixes_in (gets_of s v)) (range_with_len 0 n) ≡ got s
got-by-deque s n long =
    sym (flat_map-map (λ v. gets_of s v) prefixes_in (range_with_len 0 n)) ∙ ap (flat_map prefixes_in) (sym (fill_by_all (λ v. gets_of s v) s.gets n [] long (λ k lt. refl)))

pub times-got : (x : List ℕ) (n : ℕ) (all : List SeatView) → All (λ (s : SeatView). length s.gets ≡ n) all → times x (flat_map (got_from all) (range_with_len 0 n)) ≡ times x (flat_map got all)
times-got x n [] long = times-nothing x (range_with_len 0 n)
times-got x n (s ∷ all) long =
    let split : flat_map (got_from (s ∷ all)) (range_with_len 0 n) ≡ flat_map (λ v. prefixes_in (gets_of s v) ++ got_from all v) (range_with_len 0 n) =
    each (range_with_len 0 n) in
    omega (
      arith,
      ap (times x) split,
      times-both x (λ v. prefixes_in (gets_of s v)) (got_from all) (range_with_len 0 n),
      ap (times x) (got-by-deque s n (All-head (λ (t : SeatView). length t.gets ≡ n) s all long)),
      times-got x n all (All-tail (λ (t : SeatView). length t.gets ≡ n) s all long),
      times-append x (got s) (flat_map got all),
    )
  where
    each : (vs : List ℕ) → flat_map (got_from (s ∷ all)) vs ≡ flat_map (λ v. prefixes_in (gets_of s v) ++ got_from all v) vs
    each [] = refl
    each (v ∷ vs) = rw (map-append (λ (e : Entry). e.1) (gets_of s v) (gets_from v all)) (ap (λ l. (prefixes_in (gets_of s v) ++ got_from all v) ++ l) (each vs))

numbers : (a : ℕ) (seats : List SeatView) → ((k : ℕ) (s : SeatView) → slice_get seats k ≡ Some s → s.number ≡ a + k) → map (λ (s : SeatView). s.number) seats ≡ range_with_len a (length seats)
numbers a [] order = refl
numbers a (s ∷ seats) order =
    let first : s.number ≡ a = omega (arith, order 0 s refl) in
    ap (λ k. k ∷ map (λ (t : SeatView). t.number) seats) first ∙ ap (λ l. a ∷ l) (numbers (a + 1) seats (λ k t at. let e = order (suc k) t at in omega arith))

-- All seats together: what they got and what is left is what they put.
pub books-together : (seats : List SeatView) (x : List ℕ) → ((k : ℕ) (s : SeatView) → slice_get seats k ≡ Some s → s.number ≡ k) → All (λ (s : SeatView). length s.gets ≡ length seats) seats → All (DequeAgrees seats) seats
    → times x (flat_map got seats) + times x (all_later seats seats) ≡ times x (puts_of seats)
books-together seats x order long agree =
    let n = length seats in
    omega (
      arith,
      all-left seats seats x agree,
      times-got x n seats long,
      ap (times x) (sym (flat_map-map (λ (s : SeatView). s.number) (got_from seats) seats) ∙ ap (flat_map (got_from seats)) (numbers 0 seats (λ k s at. omega (arith, order k s at)))),
    )
