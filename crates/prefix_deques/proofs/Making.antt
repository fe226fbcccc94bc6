-- The seats of a make, one after another.
use Rattle.std.proofs.Common.{◌≡◌, ◌≢◌, ℕ, zero, suc, ◌+◌, ◌-◌, ◌<◌, ◌≤◌, List, [], ◌∷◌, ◌++◌, length, map, drop, take, set, get_or, replicate, sym, refl, ap, ◌∙◌, subst, inl, inr, arith, Some, slice_get}
use Rattle.std.specs.Prelude.{eqb}
use Rattle.std.proofs.lemmas.Bool.Decides.{nat_tests}
use Rattle.std.proofs.lemmas.Option.{slice_get-get_or}
use Rattle.prefix_deques.specs.Lanes.{LaneView, SeatView, DequeId}
use Rattle.prefix_deques.specs.Dealing.{OwnerView, part_of, gone, after_rows, AreFresh, AreRows, lane_to, lanes_from}
use Rattle.prefix_deques.specs.Made.{IsRow, IsNew, AreNew}
use Rattle.prefix_deques.specs.Booked.{IsMake, seats_at}
use Rattle.std.proofs.Math.Nat.{eq-or-lt_of_le}
use Rattle.prefix_deques.proofs.Seated.{deque_of, got_of}
use Rattle.prefix_deques.proofs.Dealt.{split_at}

pub fresh_snoc : (os : List OwnerView) (o : OwnerView) → AreFresh os → (o.parts ≡ 128) × (o.puts ≡ []) × (o.gets ≡ []) → AreFresh (os ++ o ∷ [])
fresh_snoc [] o f h = (h.0, h.1, h.2, tt)
fresh_snoc (x ∷ xs) o f h = (f.0, f.1, f.2, fresh_snoc xs o f.3 h)

fresh_at : (os : List OwnerView) (s : ℕ) (d : OwnerView) → AreFresh os → s < length os → ((get_or os s d).parts ≡ 128) × ((get_or os s d).puts ≡ []) × ((get_or os s d).gets ≡ [])
fresh_at [] s d f lt = absurd (omega arith)
fresh_at (x ∷ xs) zero d f lt = (f.0, f.1, f.2)
fresh_at (x ∷ xs) (suc s) d f lt = fresh_at xs s d f.3 (omega arith)

abbrev pub owner_deque : OwnerView → DequeId
owner_deque o = o.deque

pub deques_from : (n k : ℕ) (os : List OwnerView) → map deque_of (lanes_from n k os) ≡ map owner_deque os
deques_from n k [] = refl
deques_from n k (o ∷ os) = ap (λ l. o.deque ∷ l) (deques_from n (k + 1) os)

deque_at : (os : List OwnerView) (s : ℕ) (d : OwnerView) → s < length os → slice_get (map owner_deque os) s ≡ Some (get_or os s d).deque
deque_at [] s d lt = absurd (omega arith)
deque_at (x ∷ xs) zero d lt = refl
deque_at (x ∷ xs) (suc s) d lt = deque_at xs s d (omega arith)

pub length-lanes : (n k : ℕ) (os : List OwnerView) → length (lanes_from n k os) ≡ length os
length-lanes n k [] = refl
length-lanes n k (o ∷ os) = ap suc (length-lanes n (k + 1) os)

pub length-deques : (os : List OwnerView) → length (map owner_deque os) ≡ length os
length-deques [] = refl
length-deques (o ∷ os) = ap suc (length-deques os)

nothing_got : (n k : ℕ) (os : List OwnerView) → map got_of (lanes_from n k os) ≡ replicate (length (lanes_from n k os)) []
nothing_got n k [] = refl
nothing_got n k (o ∷ os) = ap (λ l. [] ∷ l) (nothing_got n (k + 1) os)

parts_from : (n k : ℕ) (os : List OwnerView) (v : ℕ) (l : LaneView) → slice_get (lanes_from n k os) v ≡ Some l → l.parts ≡ part_of (eqb (k + v) n)
parts_from n k [] v l e = cc
parts_from n k (o ∷ os) zero l e = let z : lane_to (eqb k n) o ≡ l = cc in let p : k ≡ k + 0 = omega arith in ap (λ (x : LaneView). x.parts) (sym z) ∙ ap (λ j. part_of (eqb j n)) p
parts_from n k (o ∷ os) (suc v) l e = let p : (k + 1) + v ≡ k + suc v = omega arith in parts_from n (k + 1) os v l e ∙ ap (λ j. part_of (eqb j n)) p

other_part : (v s : ℕ) → v ≢ s → part_of (eqb (0 + v) s) ≡ 1
other_part v s n = grind (arith, nat_tests)

own_part : (s : ℕ) → part_of (eqb (0 + s) s) ≡ 0
own_part s = grind (arith, nat_tests)

parts_kept : (p n s : ℕ) → p ≡ 128 → s < n → n ≤ 64 → (p - gone n s) + n ≡ 129
parts_kept p n s e lt few = grind (arith, nat_tests)

-- an owner and a row belong together
pub row_fits : (n s : ℕ) (os rest : List OwnerView) (o : OwnerView) (lanes : List LaneView) → AreFresh os → length os ≡ n → n ≤ 64 → s < n → o ∷ rest ≡ after_rows n s (drop s os) → lanes ≡ lanes_from s 0 os
    → IsRow o s lanes × (rest ≡ after_rows n (s + 1) (drop (s + 1) os))
row_fits n s os rest o lanes f len few lt e is =
    let lt' : s < length os = omega arith in
    let r = split_at os s o lt' in
    let first : OwnerView = get_or os s o in
    let whole : o ∷ rest ≡ after_rows n s (first ∷ drop (s + 1) os) = e ∙ ap (after_rows n s) r.1 in
    let mine : o ≡ record first { parts = first.parts - gone n s } = ap (λ l. get_or l 0 o) whole in
    let fresh = fresh_at os s o f lt' in
    let many : length lanes ≡ n = ap length is ∙ (length-lanes s 0 os ∙ len) in (
      record {
        in_range = omega arith;
        few = omega arith;
        parts = ap (λ (x : OwnerView). x.parts + length lanes) mine ∙ (ap (λ j. (first.parts - gone n s) + j) many ∙ parts_kept first.parts n s fresh.0 lt few);
        puts = ap (λ (x : OwnerView). x.puts) mine ∙ fresh.1;
        gets = ap (λ (x : OwnerView). x.gets) mine ∙ fresh.2;
        tied = ap (λ l. slice_get (map deque_of l) s) is ∙ (ap (λ l. slice_get l s) (deques_from s 0 os) ∙ (deque_at os s o lt' ∙ ap (λ (x : OwnerView). Some x.deque) (sym mine)));
        others = λ v l at n. parts_from s 0 os v l (ap (λ y. slice_get y v) (sym is) ∙ at) ∙ other_part v s n;
        mine = λ l at. parts_from s 0 os s l (ap (λ y. slice_get y s) (sym is) ∙ at) ∙ own_part s;
        none = ap (map got_of) is ∙ (nothing_got s 0 os ∙ ap (λ l. replicate (length l) []) (sym is));
      },
      ap (drop 1) whole,
    )

pub set-replicate : {A : Type 0} (n k : ℕ) (a : A) → set (replicate n a) k a ≡ replicate n a
set-replicate zero k a = refl
set-replicate (suc n) zero a = refl
set-replicate (suc n) (suc k) a = ap (λ l. a ∷ l) (set-replicate n k a)

abbrev pub NewFrom : List DequeId → ℕ → List SeatView → Type 0
NewFrom make k [] = Unit {0}
NewFrom make k (s ∷ ss) = IsNew make k s × NewFrom make (k + 1) ss

pub new_snoc : (make : List DequeId) (k : ℕ) (ss : List SeatView) (s : SeatView) → NewFrom make k ss → IsNew make (k + length ss) s → NewFrom make k (ss ++ s ∷ [])
new_snoc make k [] s h new = let e : k + 0 ≡ k = omega arith in (subst (λ j. IsNew make j s) e new, tt)
new_snoc make k (x ∷ xs) s h new = let e : k + suc (length xs) ≡ (k + 1) + length xs = omega arith in (h.0, new_snoc make (k + 1) xs s h.1 (subst (λ j. IsNew make j s) e new))

new_each : (make : List DequeId) (k : ℕ) (ss : List SeatView) → NewFrom make k ss → (i : ℕ) (s : SeatView) → slice_get ss i ≡ Some s → IsNew make (k + i) s
new_each make k [] h i s e = cc
new_each make k (x ∷ xs) h zero s e = let z : x ≡ s = cc in let p : k ≡ k + 0 = omega arith in subst (λ j. IsNew make j s) p (subst (λ y. IsNew make k y) z h.0)
new_each make k (x ∷ xs) h (suc i) s e = let p : (k + 1) + i ≡ k + suc i = omega arith in subst (λ j. IsNew make j s) p (new_each make (k + 1) xs h.1 i s e)

pub are_new : (n : ℕ) (make : List DequeId) (ss : List SeatView) → NewFrom make 0 ss → length make ≡ n → length ss ≡ n → AreNew n ss
are_new n make ss h deques many = record { make = make; deques = deques; many = many; each = λ k s e. subst (λ j. IsNew make j s) (omega arith) (new_each make 0 ss h k s e) }

-- the seats from the number k on have no seat with an earlier number, and one with each of theirs
none_before : (make : List DequeId) (k v : ℕ) (ss : List SeatView) → NewFrom make k ss → v < k → seats_at v ss ≡ 0
none_before make k v [] h lt = refl
none_before make k v (s ∷ ss) h lt =
    let r = none_before make (k + 1) v ss h.1 (omega arith) in
    let e = h.0.number in grind (arith, nat_tests)

one_within : (make : List DequeId) (k v : ℕ) (ss : List SeatView) → NewFrom make k ss → k ≤ v → v < k + length ss → seats_at v ss ≡ 1
one_within make k v [] h le lt = absurd (omega arith)
one_within make k v (s ∷ ss) h le lt =
    let e = h.0.number in
    elim (eq-or-lt_of_le {n = k} {m = v} le) [
      | inl i ↦ (let r = none_before make (k + 1) v ss h.1 (omega arith) in grind (arith, nat_tests))
      | inr i ↦ (let r = one_within make (k + 1) v ss h.1 (omega arith) (omega arith) in grind (arith, nat_tests))
    ]

pub is_make : (n : ℕ) (make : List DequeId) (ss : List SeatView) → NewFrom make 0 ss → length make ≡ n → length ss ≡ n → IsMake ss
is_make n make ss h deques many = record {
  make = make;
  same = λ k d lt. (new_each make 0 ss h k (get_or ss k d) (slice_get-get_or ss k d lt)).make;
  many = deques ∙ sym many;
  once = λ k lt. one_within make 0 k ss h (omega arith) (omega arith);
}

pub none_got : (lanes : List LaneView) → map got_of lanes ≡ replicate (length lanes) [] → (v : ℕ) (l : LaneView) → slice_get lanes v ≡ Some l → l.gets ≡ []
none_got [] h v l e = cc
none_got (x ∷ xs) h zero l e = let z : x ≡ l = cc in ap (λ (y : LaneView). y.gets) (sym z) ∙ ap (λ y. get_or y 0 []) h
none_got (x ∷ xs) h (suc v) l e = none_got xs (ap (drop 1) h) v l e

pub head_out : {A : Type 0} (xs ys : List A) (y : A) → 0 < length xs → y ≡ get_or xs 0 y → ys ≡ take 0 xs ++ drop (0 + 1) xs → xs ≡ y ∷ ys
head_out [] ys y lt e f = absurd (omega arith)
head_out (x ∷ xs) ys y lt e f = λ i. sym e i ∷ sym f i

pub length-after : (s k : ℕ) (xs : List OwnerView) → length (after_rows s k xs) ≡ length xs
length-after s k [] = refl
length-after s k (x ∷ xs) = ap suc (length-after s (k + 1) xs)

-- the rows after the first
pub rows_rest : (s : ℕ) (os : List OwnerView) (all rest : List (List LaneView)) (r : List LaneView) → all ≡ r ∷ rest → AreRows s os all → (r ≡ lanes_from s 0 os) × AreRows (s + 1) os rest × (length all ≡ length rest + 1)
rows_rest s os all rest r e h =
    let g : AreRows s os (r ∷ rest) = subst (AreRows s os) e h in
    let n : length all ≡ length rest + 1 = ap length e ∙ omega arith in (g.0, g.1, n)

no_owner : OwnerView
no_owner = record { deque = (0, 0); parts = 0; puts = []; gets = [] }

pub some_left : (n s : ℕ) (os owners : List OwnerView) → owners ≡ after_rows n s (drop s os) → s < length os → 0 < length owners
some_left n s os owners e lt =
    let r = split_at os s no_owner lt in
    let many : length owners ≡ suc (length (drop (s + 1) os)) = ap length e ∙ (length-after n s (drop s os) ∙ ap length r.1) in
    omega arith
