-- Seats whose number and make stayed the same are still all seats of one make.
use Rattle.std.proofs.Common.{◌≡◌, ℕ, zero, suc, ◌+◌, ◌<◌, List, [], ◌∷◌, ◌++◌, length, map, take, drop, get_or, sym, refl, ap, ◌∙◌, append_assoc, subst, arith, length-append}
use Rattle.std.proofs.lemmas.List.{append-nil, drop_all, take_all}
use Rattle.std.specs.Prelude.{eqb, if◌then◌else◌}
use Rattle.std.proofs.lemmas.Bool.Decides.{nat_tests}
use Rattle.prefix_deques.specs.Lanes.{DequeId, SeatView}
use Rattle.prefix_deques.specs.Made.{AreNew}
use Rattle.prefix_deques.specs.Booked.{IsMake, seats_at}
use Rattle.search_rows.specs.Stays.{IsSame, ArePair}

abbrev Alike : List SeatView → List SeatView → Type 0
Alike [] [] = Unit {0}
Alike [] (t ∷ ts) = ⊥
Alike (s ∷ ss) [] = ⊥
Alike (s ∷ ss) (t ∷ ts) = IsSame s t × Alike ss ts

same_count : (k : ℕ) (ss ts : List SeatView) → Alike ss ts → (seats_at k ts ≡ seats_at k ss) × (length ts ≡ length ss)
same_count k [] [] h = (refl, refl)
same_count k [] (t ∷ ts) h = absurd h
same_count k (s ∷ ss) [] h = absurd h
same_count k (s ∷ ss) (t ∷ ts) h =
    let e = h.0.0 in
    let r = same_count k ss ts h.1 in ((λ i. (if eqb k (e i) then 1 else 0) + r.0 i), ap suc r.1)

same_make : (k : ℕ) (d : SeatView) (ss ts : List SeatView) → Alike ss ts → k < length ts → (get_or ts k d).make ≡ (get_or ss k d).make
same_make k d [] [] h lt = refl
same_make k d [] (t ∷ ts) h lt = absurd h
same_make k d (s ∷ ss) [] h lt = absurd h
same_make zero d (s ∷ ss) (t ∷ ts) h lt = h.0.1
same_make (suc k) d (s ∷ ss) (t ∷ ts) h lt = same_make k d ss ts h.1 (omega arith)

alike : {X : Type 0} (f : X → SeatView) (xs ys : List X) → length ys ≡ length xs → ((k : ℕ) (d : X) → k < length xs → IsSame (f (get_or xs k d)) (f (get_or ys k d))) → Alike (map f xs) (map f ys)
alike f [] [] e h = tt
alike f [] (y ∷ ys) e h = absurd (omega arith)
alike f (x ∷ xs) [] e h = absurd (omega arith)
alike f (x ∷ xs) (y ∷ ys) e h = (h 0 x (omega arith), alike f xs ys (omega arith) (λ k d lt. h (suc k) d (omega arith)))

pub still_make : {X : Type 0} (f : X → SeatView) (xs ys : List X) → IsMake (map f xs) → length ys ≡ length xs → ((k : ℕ) (d : X) → k < length xs → IsSame (f (get_or xs k d)) (f (get_or ys k d))) → IsMake (map f ys)
still_make f xs ys m e h =
    let a = alike f xs ys e h in
    let many = (same_count 0 (map f xs) (map f ys) a).1 in record {
      make = m.make;
      same = λ k d lt. same_make k d (map f xs) (map f ys) a lt ∙ m.same k d (omega arith);
      many = m.many ∙ sym many;
      once = λ k lt. (same_count k (map f xs) (map f ys) a).0 ∙ m.once k (omega arith);
    }

once_of_two : (s t : SeatView) → s.number ≡ 0 → t.number ≡ 1 → (k : ℕ) → k < 2 → seats_at k (t ∷ s ∷ []) ≡ 1
once_of_two s t p q zero lt = grind (arith, nat_tests)
once_of_two s t p q (suc zero) lt = grind (arith, nat_tests)
once_of_two s t p q (suc (suc k)) lt = absurd (omega arith)

make_of_two : (s t : SeatView) (make : List DequeId) → s.make ≡ make → t.make ≡ make → (k : ℕ) (d : SeatView) → k < 2 → (get_or (t ∷ s ∷ []) k d).make ≡ make
make_of_two s t make p q zero d lt = q
make_of_two s t make p q (suc zero) d lt = p
make_of_two s t make p q (suc (suc k)) d lt = absurd (omega arith)

pub pair_make : (s t : SeatView) (seats : List SeatView) → ArePair s t → seats ≡ t ∷ s ∷ [] → IsMake seats
pair_make s t seats p e = subst (λ (l : List SeatView). IsMake l) (sym e) (record { make = t.make; same = make_of_two s t t.make p.one_make refl; many = p.deques; once = once_of_two s t p.first p.second })

new_pair : (s t : SeatView) → AreNew 2 (s ∷ t ∷ []) → ArePair s t
new_pair s t a =
    let x = a.each 0 s refl in
    let y = a.each 1 t refl in record { first = x.number; second = y.number; one_make = x.make ∙ sym y.make; deques = ap length y.make ∙ a.deques }

-- the two seats that are taken out of a new make
pub pair_out : (all xs ys : List SeatView) (s t : SeatView) → AreNew 2 all → all ≡ xs ++ t ∷ [] → xs ≡ ys ++ s ∷ [] → ArePair s t
pair_out all xs [] s t a e f = new_pair s t (subst (λ (l : List SeatView). AreNew 2 l) (e ∙ ap (λ l. l ++ t ∷ []) f) a)
pair_out all xs (y ∷ ys) s t a e f =
    let k = a.many in
    let i : length all ≡ length xs + 1 = ap length e ∙ length-append xs (t ∷ []) in
    let j : length xs ≡ suc (length ys) + 1 = ap length f ∙ length-append (y ∷ ys) (s ∷ []) in absurd (omega arith)

-- items' seats are moved into a list, one after another
pub moved_one : {X : Type 0} (f : X → SeatView) (seats longer : List SeatView) (xs rest all : List X) (x : X) → longer ≡ seats ++ f x ∷ [] → xs ≡ x ∷ rest → seats ++ map f xs ≡ map f all → longer ++ map f rest ≡ map f all
moved_one f seats longer xs rest all x e r h = ap (λ l. l ++ map f rest) e ∙ (append_assoc seats (f x ∷ []) (map f rest) ∙ (ap (λ l. seats ++ map f l) (sym r) ∙ h))

pub moved_all : {X : Type 0} (f : X → SeatView) (seats : List SeatView) (xs all : List X) → seats ++ map f xs ≡ map f all → length xs ≡ 0 → IsMake (map f all) → IsMake seats
moved_all f seats [] all e z m = subst (λ (l : List SeatView). IsMake l) (sym e ∙ append-nil seats) m
moved_all f seats (x ∷ xs) all e z m = absurd (omega arith)

-- the seats of a list are taken out, the last first
pub out_one : {X : Type 0} (f : X → SeatView) (all seats rest : List SeatView) (xs longer : List X) (x : X) → all ≡ seats ++ map f xs → seats ≡ rest ++ f x ∷ [] → longer ≡ x ∷ xs → all ≡ rest ++ map f longer
out_one f all seats rest xs longer x h e l = h ∙ (ap (λ y. y ++ map f xs) e ∙ (append_assoc rest (f x ∷ []) (map f xs) ∙ ap (λ y. rest ++ map f y) (sym l)))

pub out_all : {X : Type 0} (f : X → SeatView) (all seats : List SeatView) (xs : List X) → all ≡ seats ++ map f xs → seats ≡ [] → IsMake all → IsMake (map f xs)
out_all f all seats xs h e m = subst (λ (l : List SeatView). IsMake l) (h ∙ ap (λ y. y ++ map f xs) e) m

-- what was written to a whole vector through a slice
pub written : {X : Type 0} (n : ℕ) (ys xs : List X) → length ys ≡ length xs → n ≡ length xs → take n (ys ++ drop (length ys) xs) ≡ ys
written n ys xs e m =
    let none : drop (length ys) xs ≡ [] = drop_all (length ys) xs (omega arith) in
    ap (λ l. take n (ys ++ l)) none ∙ (ap (take n) (append-nil ys) ∙ take_all n ys (omega arith))
