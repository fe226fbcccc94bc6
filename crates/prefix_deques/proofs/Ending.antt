-- The lists behind the end of all deques of one make.
use Rattle.std.proofs.Common.{◌≡◌, ◌≢◌, ℕ, zero, suc, ◌+◌, ◌<◌, List, [], ◌∷◌, ◌++◌, length, map, drop, take, set, get_or, sym, refl, ap, ◌∙◌, subst, arith, append_assoc, length-append, Some, slice_get}
use Rattle.std.specs.List.{All}
use Rattle.std.specs.Prelude.{eqb, ◌-◌, ◌≤◌}
use Rattle.std.proofs.lemmas.Bool.Decides.{nat_tests}
use Rattle.std.proofs.lemmas.List.{map-append, append-nil, length-map, get_or-set_same, get_or-set_other, get_or-map}
use Rattle.std.proofs.lemmas.Option.{slice_get-get_or, slice_get_within}
use Rattle.prefix_deques.specs.Books.{Entry, Classes, Agree, AreRight, Rise, times, once_below, whole}
use Rattle.prefix_deques.specs.Lanes.{LaneView, SeatView, DequeId, gets_of}
use Rattle.prefix_deques.specs.Dealing.{OwnerView}
use Rattle.prefix_deques.specs.Closed.{all_gets, all_parts, AreLanesOf}
use Rattle.prefix_deques.specs.Made.{IsParted, Desk, AreDesks, Cut, uncut, IsColumn, AreLong, HaveLanes, no_lane, column_of, columns_from}
use Rattle.prefix_deques.specs.Booked.{IsMake, DequeAgrees, gets_from, all_later, seats_at}
use Rattle.prefix_deques.proofs.Rules.{times-append}
use Rattle.prefix_deques.proofs.Seated.{deque_of, got_of}

abbrev pub seat_of : Desk → SeatView
seat_of d = d.seat

-- the owner, with the number of the seat
abbrev pub owner_of : Desk → ℕ × OwnerView
owner_of d = (d.seat.number, d.owner)

abbrev pub lanes_of : Desk → List LaneView
lanes_of d = d.lanes

abbrev pub before_of : Cut → List LaneView
before_of c = c.0

abbrev pub last_of : Cut → LaneView
last_of c = c.1

abbrev pub lane_at : ℕ → Desk → LaneView
lane_at v d = get_or d.lanes v no_lane

-- the same entries in another order
pub record Same (xs ys : List Entry) : Type 0 where
  pub times : (p : ℕ) → times p xs ≡ times p ys
  pub count : length xs ≡ length ys
  pub right : (puts : List Classes) → AreRight puts xs → AreRight puts ys

right_split : (puts : List Classes) (xs ys : List Entry) → AreRight puts (xs ++ ys) → AreRight puts xs × AreRight puts ys
right_split puts [] ys h = (tt, h)
right_split puts (x ∷ xs) ys h = let r = right_split puts xs ys h.1 in ((h.0, r.0), r.1)

right_join : (puts : List Classes) (xs ys : List Entry) → AreRight puts xs → AreRight puts ys → AreRight puts (xs ++ ys)
right_join puts [] ys a b = b
right_join puts (x ∷ xs) ys a b = (a.0, right_join puts xs ys a.1 b)

pub same_refl : (xs : List Entry) → Same xs xs
same_refl xs = record { times = λ p. refl; count = refl; right = λ puts h. h }

same_trans : (xs ys zs : List Entry) → Same xs ys → Same ys zs → Same xs zs
same_trans xs ys zs a b = record { times = λ p. a.times p ∙ b.times p; count = a.count ∙ b.count; right = λ puts h. b.right puts (a.right puts h) }

same_swap : (xs ys : List Entry) → Same (xs ++ ys) (ys ++ xs)
same_swap xs ys = record {
  times = λ p. omega (arith, times-append p xs ys, times-append p ys xs);
  count = omega (arith, length-append xs ys, length-append ys xs);
  right = λ puts h. let r = right_split puts xs ys h in right_join puts ys xs r.1 r.0;
}

same_join : (xs xs' ys ys' : List Entry) → Same xs xs' → Same ys ys' → Same (xs ++ ys) (xs' ++ ys')
same_join xs xs' ys ys' a b = record {
  times = λ p. let c = a.times p in let d = b.times p in omega (arith, times-append p xs ys, times-append p xs' ys');
  count = (let c = a.count in let d = b.count in omega (arith, length-append xs ys, length-append xs' ys'));
  right = λ puts h. let r = right_split puts xs ys h in right_join puts xs' ys' (a.right puts r.0) (b.right puts r.1);
}

pub agree_same : (puts : List Classes) (xs ys : List Entry) → Same xs ys → Agree puts xs → Agree puts ys
agree_same puts xs ys s a = record { once = λ p. sym (s.times p) ∙ (a.once p ∙ ap (once_below p) s.count); right = s.right puts a.right }

-- what the desk got from the deque v
got_other : (d : Desk) (v : ℕ) → IsParted d.seat d.owner d.lanes → v < length d.lanes → d.seat.number ≢ v → gets_of d.seat v ≡ (lane_at v d).gets
got_other d v p lt ne = ap (λ l. get_or l v []) p.gets ∙ (get_or-set_other (map got_of d.lanes) d.seat.number v d.owner.gets [] (λ e. ne (sym e)) ∙ get_or-map got_of d.lanes v no_lane [] lt)

got_own : (d : Desk) → IsParted d.seat d.owner d.lanes → gets_of d.seat d.seat.number ≡ d.owner.gets
got_own d p = ap (λ l. get_or l d.seat.number []) p.gets ∙ get_or-set_same (map got_of d.lanes) d.seat.number d.owner.gets [] (let e = length-map d.lanes got_of in let q = p.in_range in omega arith)

abbrev pub Long : ℕ → List Desk → Type 0
Long n [] = Unit {0}
Long n (d ∷ ds) = (length d.lanes ≡ n) × Long n ds

-- none of the seats has the number v
abbrev pub Others : ℕ → List Desk → Type 0
Others v [] = Unit {0}
Others v (d ∷ ds) = (d.seat.number ≢ v) × Others v ds

none_at : (v : ℕ) (ds : List Desk) → seats_at v (map seat_of ds) ≡ 0 → Others v ds
none_at v [] e = tt
none_at v (d ∷ ds) e = ((λ p. absurd (grind (arith, nat_tests))), none_at v ds (grind (arith, nat_tests)))

some_at : (v : ℕ) (todo done : List Desk) (d : Desk) → d.seat.number ≡ v → 1 ≤ seats_at v (map seat_of (todo ++ d ∷ done))
some_at v [] done d e = grind (arith, nat_tests)
some_at v (x ∷ xs) done d e = let r = some_at v xs done d e in omega arith

-- where exactly one seat has the number, no other one does
pub no_other : (v : ℕ) (todo done : List Desk) (d : Desk) → d.seat.number ≡ v → seats_at v (map seat_of (todo ++ d ∷ done)) ≡ 1 → Others v todo × Others v done
no_other v [] done d e h = (tt, none_at v done (grind (arith, nat_tests)))
no_other v (x ∷ xs) done d e h =
    let some = some_at v xs done d e in
    let r = no_other v xs done d e (grind (arith, nat_tests)) in
    (((λ p. absurd (grind (arith, nat_tests))), r.0), r.1)

-- among desks of other seats
others_got : (n v : ℕ) (ds : List Desk) → AreDesks ds → Long n ds → Others v ds → v < n → Same (all_gets (map (lane_at v) ds)) (gets_from v (map seat_of ds))
others_got n v [] a l o lt = same_refl []
others_got n v (d ∷ ds) a l o lt =
    let e : gets_of d.seat v ≡ (lane_at v d).gets = got_other d v a.0 (let z = l.0 in omega arith) o.0 in
    let r = others_got n v ds a.1 l.1 o.1 lt in
    same_trans _ _ _ (same_swap (all_gets (map (lane_at v) ds)) (lane_at v d).gets)
    (same_join _ _ _ _ (subst (λ y. Same (lane_at v d).gets y) (sym e) (same_refl (lane_at v d).gets)) r)

others_parts : (n v : ℕ) (ds : List Desk) → AreDesks ds → Long n ds → Others v ds → v < n → all_parts (map (lane_at v) ds) ≡ length ds
others_parts n v [] a l o lt = refl
others_parts n v (d ∷ ds) a l o lt =
    let at = slice_get-get_or d.lanes v no_lane (let z = l.0 in omega arith) in
    let e = a.0.others v (lane_at v d) at (λ z. o.0 (sym z)) in
    let r = others_parts n v ds a.1 l.1 o.1 lt in omega arith

own_first : (d : Desk) (A B : List Entry) (l : LaneView) (g : List Entry) → Same A B → l.gets ≡ [] → g ≡ d.owner.gets → Same (d.owner.gets ++ (A ++ l.gets)) (g ++ B)
own_first d A B l g s e f =
    subst (λ y. Same (d.owner.gets ++ (A ++ y)) (g ++ B)) (sym e) (subst (λ y. Same (d.owner.gets ++ y) (g ++ B)) (sym (append-nil A))
    (same_join _ _ _ _ (subst (λ y. Same d.owner.gets y) (sym f) (same_refl d.owner.gets)) s))

own_later : (own A B : List Entry) (l g : List Entry) → Same (own ++ A) B → g ≡ l → Same (own ++ (A ++ l)) (g ++ B)
own_later own A B l g s e =
    subst (λ y. Same y (g ++ B)) (append_assoc own A l) (same_trans _ _ _ (same_swap (own ++ A) l)
    (same_join _ _ _ _ (subst (λ y. Same l y) (sym e) (same_refl l)) s))

-- what all seats got from the deque of the desk d
pub all_got : (n v : ℕ) (todo done : List Desk) (d : Desk) → AreDesks (todo ++ d ∷ done) → Long n (todo ++ d ∷ done) → Others v todo → Others v done → d.seat.number ≡ v → v < n
    → Same (d.owner.gets ++ all_gets (map (lane_at v) (todo ++ d ∷ done))) (gets_from v (map seat_of (todo ++ d ∷ done)))
all_got n v [] done d a l o p w lt =
    let at = slice_get-get_or d.lanes v no_lane (let y = l.0 in omega arith) in
    let m = a.0.mine (lane_at v d) (ap (slice_get d.lanes) w ∙ at) in
    own_first d _ _ (lane_at v d) (gets_of d.seat v) (others_got n v done a.1 l.1 p lt) m.1 (ap (gets_of d.seat) (sym w) ∙ got_own d a.0)
all_got n v (x ∷ xs) done d a l o p w lt =
    own_later d.owner.gets _ _ (lane_at v x).gets (gets_of x.seat v) (all_got n v xs done d a.1 l.1 o.1 p w lt) (got_other x v a.0 (let y = l.0 in omega arith) o.0)

pub all_count : (n v : ℕ) (todo done : List Desk) (d : Desk) → AreDesks (todo ++ d ∷ done) → Long n (todo ++ d ∷ done) → Others v todo → Others v done → d.seat.number ≡ v → v < n
    → all_parts (map (lane_at v) (todo ++ d ∷ done)) + 1 ≡ length (todo ++ d ∷ done)
all_count n v [] done d a l o p w lt =
    let at = slice_get-get_or d.lanes v no_lane (let y = l.0 in omega arith) in
    let m = a.0.mine (lane_at v d) (ap (slice_get d.lanes) w ∙ at) in
    let q = m.0 in
    let r = others_parts n v done a.1 l.1 p lt in omega arith
all_count n v (x ∷ xs) done d a l o p w lt =
    let at = slice_get-get_or x.lanes v no_lane (let y = l.0 in omega arith) in
    let e = a.0.others v (lane_at v x) at (λ z. o.0 (sym z)) in
    let r = all_count n v xs done d a.1 l.1 o.1 p w lt in omega arith

abbrev pub SameMake : List DequeId → List Desk → Type 0
SameMake make [] = Unit {0}
SameMake make (d ∷ ds) = (d.seat.make ≡ make) × SameMake make ds

abbrev pub Agreed : List SeatView → List Desk → Type 0
Agreed seats [] = Unit {0}
Agreed seats (d ∷ ds) = DequeAgrees seats d.seat × Agreed seats ds

-- seats of one make, and the desks that they were taken apart to
pub record Facts (ss : List SeatView) (ds : List Desk) : Type 0 where
  pub make : List DequeId
  pub seats : ss ≡ map seat_of ds
  pub each : AreDesks ds
  pub long : Long (length ds) ds
  pub once : (k : ℕ) → k < length ds → seats_at k (map seat_of ds) ≡ 1
  pub same : SameMake make ds

at_place : (ss : List SeatView) (k : ℕ) (s : SeatView) → slice_get ss k ≡ Some s → get_or ss k s ≡ s
at_place ss k s e = let a = slice_get-get_or ss k s (slice_get_within ss k s e) in let z : Some (get_or ss k s) ≡ Some s = sym a ∙ e in cc

same_from : (make : List DequeId) (ds : List Desk) → ((k : ℕ) (s : SeatView) → slice_get (map seat_of ds) k ≡ Some s → s.make ≡ make) → SameMake make ds
same_from make [] h = tt
same_from make (d ∷ ds) h = (h 0 d.seat refl, same_from make ds (λ k s e. h (suc k) s e))

long_from : (make : List DequeId) (n : ℕ) (ds : List Desk) → AreDesks ds → SameMake make ds → length make ≡ n → Long n ds
long_from make n [] a m e = tt
long_from make n (d ∷ ds) a m e = (sym (length-map d.lanes deque_of) ∙ (ap length (sym a.0.make ∙ m.0) ∙ e), long_from make n ds a.1 m.1 e)

pub facts : (ss : List SeatView) (ds : List Desk) → ss ≡ map seat_of ds → AreDesks ds → IsMake ss → Facts ss ds
facts ss ds e a m =
    let same : SameMake m.make ds = same_from m.make ds (λ k s at. let at' : slice_get ss k ≡ Some s = ap (λ l. slice_get l k) e ∙ at in ap (λ (x : SeatView). x.make) (sym (at_place ss k s at')) ∙ m.same k s (slice_get_within ss k s at')) in
    let many : length ss ≡ length ds = ap length e ∙ length-map ds seat_of in
    let n : length m.make ≡ length ds = m.many ∙ many in record {
      make = m.make;
      seats = e;
      each = a;
      long = long_from m.make (length ds) ds a same n;
      once = λ k lt. ap (seats_at k) (sym e) ∙ m.once k (let z = many in omega arith);
      same = same;
    }

deque_in : (ls : List LaneView) (v : ℕ) (l : LaneView) → slice_get ls v ≡ Some l → slice_get (map deque_of ls) v ≡ Some l.deque
deque_in [] v l e = cc
deque_in (x ∷ xs) zero l e = let z : x ≡ l = cc in ap (λ (y : LaneView). Some y.deque) z
deque_in (x ∷ xs) (suc v) l e = deque_in xs v l e

unsome : (a b : DequeId) → Some a ≡ Some b → a ≡ b
unsome a b e = cc

lanes_to : (make : List DequeId) (n v : ℕ) (id : DequeId) (ds : List Desk) → slice_get make v ≡ Some id → AreDesks ds → SameMake make ds → Long n ds → v < n → AreLanesOf id (map (lane_at v) ds)
lanes_to make n v id [] e a m l lt = tt
lanes_to make n v id (d ∷ ds) e a m l lt =
    let at = slice_get-get_or d.lanes v no_lane (let z = l.0 in omega arith) in
    (unsome _ _ (sym (deque_in d.lanes v (lane_at v d) at) ∙ (ap (λ y. slice_get y v) (sym a.0.make ∙ m.0) ∙ e)), lanes_to make n v id ds e a.1 m.1 l.1 lt)

the_desk : (todo done : List Desk) (d : Desk) → AreDesks (todo ++ d ∷ done) → IsParted d.seat d.owner d.lanes
the_desk [] done d a = a.0
the_desk (x ∷ xs) done d a = the_desk xs done d a.1

the_make : (make : List DequeId) (todo done : List Desk) (d : Desk) → SameMake make (todo ++ d ∷ done) → d.seat.make ≡ make
the_make make [] done d a = a.0
the_make make (x ∷ xs) done d a = the_make make xs done d a.1

the_length : (n : ℕ) (todo done : List Desk) (d : Desk) → Long n (todo ++ d ∷ done) → length d.lanes ≡ n
the_length n [] done d a = a.0
the_length n (x ∷ xs) done d a = the_length n xs done d a.1

rise_at : (gs : List (List Entry)) (i v : ℕ) (own : List Entry) → Rise own → ((j : ℕ) → Rise (get_or gs j [])) → Rise (get_or (set gs i own) v [])
rise_at [] i v own r h = tt
rise_at (g ∷ gs) zero zero own r h = r
rise_at (g ∷ gs) zero (suc v) own r h = h (suc v)
rise_at (g ∷ gs) (suc i) zero own r h = h 0
rise_at (g ∷ gs) (suc i) (suc v) own r h = rise_at gs i v own r (λ j. h (suc j))

rises_map : (ls : List LaneView) → ((v : ℕ) (l : LaneView) → slice_get ls v ≡ Some l → Rise l.gets) → (j : ℕ) → Rise (get_or (map got_of ls) j [])
rises_map [] h j = tt
rises_map (l ∷ ls) h zero = h 0 l refl
rises_map (l ∷ ls) h (suc j) = rises_map ls (λ v y e. h (suc v) y e) j

rise_all : (v : ℕ) (ds : List Desk) → AreDesks ds → (k : ℕ) (x : SeatView) → k < length (map seat_of ds) → Rise (gets_of (get_or (map seat_of ds) k x) v)
rise_all v [] a k x lt = absurd (omega arith)
rise_all v (d ∷ ds) a zero x lt = subst (λ (l : List (List Entry)). Rise (get_or l v [])) (sym a.0.gets) (rise_at (map got_of d.lanes) d.seat.number v d.owner.gets a.0.rise (rises_map d.lanes a.0.rises))
rise_all v (d ∷ ds) a (suc k) x lt = rise_all v ds a.1 k x (omega arith)

last_cut : (r : List LaneView) (v : ℕ) (q : List LaneView) (l : LaneView) → take (suc v) r ≡ q ++ l ∷ [] → v < length r → (q ≡ take v r) × (l ≡ get_or r v no_lane)
last_cut [] v q l e lt = absurd (omega arith)
last_cut (x ∷ xs) zero [] l e lt = (refl, ap (λ y. get_or y 0 no_lane) (sym e))
last_cut (x ∷ xs) zero (y ∷ q) l e lt = let z : 0 ≡ length (q ++ l ∷ []) = ap (λ r. length (drop 1 r)) e in absurd (let w = length-append q (l ∷ []) in omega arith)
last_cut (x ∷ []) (suc v) q l e lt = absurd (omega arith)
last_cut (x ∷ y ∷ xs) (suc v) [] l e lt = cc
last_cut (x ∷ y ∷ xs) (suc v) (z ∷ q) l e lt =
    let r = last_cut (y ∷ xs) v q l (ap (drop 1) e) (omega arith) in
    let f : z ≡ x = ap (λ r. get_or r 0 x) (sym e) in (λ i. f i ∷ r.0 i, r.1)

cut_step : (n v : ℕ) (cuts : List Cut) (rs : List (List LaneView)) → AreLong n rs → v < n → map uncut cuts ≡ map (take (suc v)) rs → (map before_of cuts ≡ map (take v) rs) × (map last_of cuts ≡ column_of v rs)
cut_step n v [] [] l lt e = (refl, refl)
cut_step n v [] (r ∷ rs) l lt e = cc
cut_step n v (c ∷ cs) [] l lt e = cc
cut_step n v (c ∷ cs) (r ∷ rs) l lt e =
    let s = cut_step n v cs rs l.1 lt (ap (drop 1) e) in
    let h = last_cut r v c.0 c.1 (sym (ap (λ y. get_or y 0 []) e)) (let z = l.0 in omega arith) in ((λ i. h.0 i ∷ s.0 i), (λ i. h.1 i ∷ s.1 i))

take_all : (xs : List LaneView) → take (length xs) xs ≡ xs
take_all [] = refl
take_all (x ∷ xs) = ap (λ l. x ∷ l) (take_all xs)

pub uncut_all : (n : ℕ) (rs : List (List LaneView)) → AreLong n rs → rs ≡ map (take n) rs
uncut_all n [] l = refl
uncut_all n (r ∷ rs) l = let e : r ≡ take n r = sym (ap (λ j. take j r) (sym l.0) ∙ take_all r) in λ i. e i ∷ uncut_all n rs l.1 i

take_one : (r : List LaneView) (v : ℕ) → v < length r → 0 < length (take (suc v) r)
take_one [] v lt = absurd (omega arith)
take_one (x ∷ xs) v lt = omega arith

have_lanes : (n v : ℕ) (rs : List (List LaneView)) → AreLong n rs → v < n → HaveLanes (map (take (suc v)) rs)
have_lanes n v [] l lt = tt
have_lanes n v (r ∷ rs) l lt = (take_one r v (let z = l.0 in omega arith), have_lanes n v rs l.1 lt)

-- the rows still to be cut have a lane
pub rows_left : (n i : ℕ) (all rows : List (List LaneView)) → AreLong n all → rows ≡ map (take (n - i)) all → i < n → HaveLanes rows
rows_left n i all rows l e lt =
    let z : suc (n - suc i) ≡ n - i = omega arith in
    subst HaveLanes (sym (e ∙ ap (λ j. map (take j) all) (sym z))) (have_lanes n (n - suc i) all l (omega arith))

-- one more column is cut off
pub column_cut : (n i : ℕ) (all rows rest : List (List LaneView)) (col : List LaneView) (cols cols' : List (List LaneView)) → AreLong n all → rows ≡ map (take (n - i)) all → i < n → IsColumn rows rest col
    → cols ≡ columns_from (n - i) i all → cols' ≡ col ∷ cols → (rest ≡ map (take (n - (i + 1))) all) × (cols' ≡ columns_from (n - (i + 1)) (i + 1) all)
column_cut n i all rows rest col cols cols' l e lt c f g =
    let v : ℕ = n - suc i in
    let z : n - i ≡ suc v = omega arith in
    let j : suc i ≡ i + 1 = omega arith in
    let k = cut_step n v c.cuts all l (omega arith) (sym c.before ∙ (e ∙ ap (λ y. map (take y) all) z)) in
    let more : cols' ≡ columns_from v (suc i) all = g ∙ (λ t. (c.lanes ∙ k.1) t ∷ (f ∙ ap (λ y. columns_from y i all) z) t) in
    (c.after ∙ (k.0 ∙ ap (λ y. map (take (n - y)) all) j), more ∙ ap (λ y. columns_from (n - y) y all) j)

columns_at : (k m v : ℕ) (rows : List (List LaneView)) → v < m → get_or (columns_from k m rows) v [] ≡ column_of (k + v) rows
columns_at k zero v rows lt = absurd (omega arith)
columns_at k (suc m) zero rows lt = let z : k ≡ k + 0 = omega arith in ap (λ j. column_of j rows) z
columns_at k (suc m) (suc v) rows lt = let z : suc k + v ≡ k + suc v = omega arith in columns_at (suc k) m v rows (omega arith) ∙ ap (λ j. column_of j rows) z

length-columns : (k m : ℕ) (rows : List (List LaneView)) → length (columns_from k m rows) ≡ m
length-columns k zero rows = refl
length-columns k (suc m) rows = ap suc (length-columns (suc k) m rows)

column_desks : (v : ℕ) (ds : List Desk) → column_of v (map lanes_of ds) ≡ map (lane_at v) ds
column_desks v [] = refl
column_desks v (d ∷ ds) = ap (λ l. lane_at v d ∷ l) (column_desks v ds)

pub long_rows : (n : ℕ) (ds : List Desk) → Long n ds → AreLong n (map lanes_of ds)
long_rows n [] l = tt
long_rows n (d ∷ ds) l = (l.0, long_rows n ds l.1)

-- the columns of these desks' deques are whole
abbrev pub HaveColumns : List Desk → List (List LaneView) → List Desk → Type 0
HaveColumns ds cols [] = Unit {0}
HaveColumns ds cols (d ∷ todo) = (get_or cols d.seat.number [] ≡ map (lane_at d.seat.number) ds) × HaveColumns ds cols todo

have_some : (n : ℕ) (ds todo : List Desk) → AreDesks todo → Long n todo → HaveColumns ds (columns_from 0 n (map lanes_of ds)) todo
have_some n ds [] a l = tt
have_some n ds (d ∷ todo) a l =
    let z : 0 + d.seat.number ≡ d.seat.number = omega arith in
    (columns_at 0 n d.seat.number (map lanes_of ds) (let y = l.0 in let r = a.0.in_range in omega arith) ∙ (ap (λ j. column_of j (map lanes_of ds)) z ∙ column_desks d.seat.number ds), have_some n ds todo a.1 l.1)

pub have_all : (ss : List SeatView) (ds : List Desk) (cols : List (List LaneView)) (rows : List (List LaneView)) (n : ℕ) → Facts ss ds → rows ≡ map lanes_of ds → n ≡ length ds → cols ≡ columns_from 0 n rows → HaveColumns ds cols ds × (length cols ≡ length ds)
have_all ss ds cols rows n f e m c =
    let is : cols ≡ columns_from 0 (length ds) (map lanes_of ds) = c ∙ (λ i. columns_from 0 (m i) (e i)) in
    (subst (λ (y : List (List LaneView)). HaveColumns ds y ds) (sym is) (have_some (length ds) ds ds f.each f.long), ap length is ∙ length-columns 0 (length ds) (map lanes_of ds))

have_split : (ds front : List Desk) (d : Desk) (cols : List (List LaneView)) → HaveColumns ds cols (front ++ d ∷ []) → HaveColumns ds cols front × (get_or cols d.seat.number [] ≡ map (lane_at d.seat.number) ds)
have_split ds [] d cols h = (tt, h.0)
have_split ds (x ∷ xs) d cols h = let r = have_split ds xs d cols h.1 in ((h.0, r.0), r.1)

-- the column v is taken out
have_others : (ds front : List Desk) (v : ℕ) (cols : List (List LaneView)) → HaveColumns ds cols front → Others v front → HaveColumns ds (set cols v []) front
have_others ds [] v cols h o = tt
have_others ds (x ∷ xs) v cols h o = (get_or-set_other cols v x.seat.number [] [] o.0 ∙ h.0, have_others ds xs v cols h.1 o.1)

-- the last desk
pub record LastDesk (todo : List Desk) (os : List (ℕ × OwnerView)) (o : ℕ × OwnerView) : Type 0 where
  pub front : List Desk
  pub desk : Desk
  pub is : todo ≡ front ++ desk ∷ []
  pub owner : owner_of desk ≡ o
  pub owners : os ≡ map owner_of front

pub last_desk : (todo : List Desk) (os : List (ℕ × OwnerView)) (o : ℕ × OwnerView) → map owner_of todo ≡ os ++ o ∷ [] → LastDesk todo os o
last_desk [] [] o e = cc
last_desk [] (x ∷ xs) o e = cc
last_desk (d ∷ []) [] o e = record { front = []; desk = d; is = refl; owner = ap (λ l. get_or l 0 o) e; owners = refl }
last_desk (d ∷ y ∷ ds) [] o e = cc
last_desk (d ∷ ds) (x ∷ xs) o e =
    let r = last_desk ds xs o (ap (drop 1) e) in
    let f : x ≡ owner_of d = ap (λ l. get_or l 0 x) (sym e) in record { front = d ∷ r.front; desk = r.desk; is = ap (λ l. d ∷ l) r.is; owner = r.owner; owners = λ i. f i ∷ r.owners i }

-- what is known of the deque of the desk d and of its column
pub record Turn (ss : List SeatView) (d : Desk) (col : List LaneView) : Type 0 where
  pub lanes : AreLanesOf d.owner.deque col
  pub parts : d.owner.parts + all_parts col ≡ whole
  pub puts : d.seat.puts ≡ d.owner.puts
  pub same : Same (d.owner.gets ++ all_gets col) (gets_from d.seat.number ss)
  pub rise : All (λ (t : SeatView). Rise (gets_of t d.seat.number)) ss

turn : (ss : List SeatView) (todo done : List Desk) (d : Desk) (col : List LaneView) → Facts ss (todo ++ d ∷ done) → Others d.seat.number todo × Others d.seat.number done → d.seat.number < length (todo ++ d ∷ done)
    → col ≡ map (lane_at d.seat.number) (todo ++ d ∷ done) → Turn ss d col
turn ss todo done d col f o lt is =
    let ds : List Desk = todo ++ d ∷ done in
    let v : ℕ = d.seat.number in
    let n : ℕ = length ds in
    let p = the_desk todo done d f.each in
    let id : slice_get f.make v ≡ Some d.owner.deque = ap (λ m. slice_get m v) (sym (the_make f.make todo done d f.same) ∙ p.make) ∙ p.tied in
    let got = all_got n v todo done d f.each f.long o.0 o.1 refl lt in
    let count = all_count n v todo done d f.each f.long o.0 o.1 refl lt in record {
      lanes = subst (λ (y : List LaneView). AreLanesOf d.owner.deque y) (sym is) (lanes_to f.make n v d.owner.deque ds id f.each f.same f.long lt);
      parts = ap (λ (y : List LaneView). d.owner.parts + all_parts y) is ∙ (let a = p.parts in let b = the_length n todo done d f.long in omega arith);
      puts = p.puts;
      same = subst (λ (y : List LaneView). Same (d.owner.gets ++ all_gets y) (gets_from v ss)) (sym is)
          (subst (λ y. Same (d.owner.gets ++ all_gets (map (lane_at v) ds)) (gets_from v y)) (sym f.seats) got);
      rise = subst (λ (y : List SeatView). All (λ (t : SeatView). Rise (gets_of t v)) y) (sym f.seats) (rise_all v ds f.each);
    }

pub agrees : (ss : List SeatView) (d : Desk) (col : List LaneView) → Turn ss d col → Agree d.owner.puts (d.owner.gets ++ all_gets col) → DequeAgrees ss d.seat
agrees ss d col t a = record { books = subst (λ (y : List Classes). Agree y (gets_from d.seat.number ss)) (sym t.puts) (agree_same d.owner.puts _ _ t.same a); rise = t.rise }

pub left_more : (ss : List SeatView) (done : List Desk) (d : Desk) (col : List LaneView) (left left' : List Classes) → Turn ss d col
    → left ≡ all_later ss (map seat_of done) → left' ≡ left ++ drop (length (d.owner.gets ++ all_gets col)) d.owner.puts → left' ≡ all_later ss (map seat_of (d ∷ done))
left_more ss done d col left left' t e f =
    f ∙ (ap (λ y. y ++ drop (length (d.owner.gets ++ all_gets col)) d.owner.puts) e
    ∙ (ap (λ j. all_later ss (map seat_of done) ++ drop j d.owner.puts) t.same.count ∙ ap (λ y. all_later ss (map seat_of done) ++ drop (length (gets_from d.seat.number ss)) y) (sym t.puts)))

pub all_agree : (ss : List SeatView) (ds : List Desk) → Agreed ss ds → (k : ℕ) (x : SeatView) → k < length (map seat_of ds) → DequeAgrees ss (get_or (map seat_of ds) k x)
all_agree ss [] a k x lt = absurd (omega arith)
all_agree ss (d ∷ ds) a zero x lt = a.0
all_agree ss (d ∷ ds) a (suc k) x lt = all_agree ss ds a.1 k x (omega arith)

-- the next deque to settle, that of the last owner
pub record Next (ss : List SeatView) (ds done : List Desk) (os : List (ℕ × OwnerView)) (o : ℕ × OwnerView) (cols : List (List LaneView)) : Type 0 where
  pub front : List Desk
  pub desk : Desk
  pub at : ds ≡ front ++ desk ∷ done
  pub owner : owner_of desk ≡ o
  pub owners : os ≡ map owner_of front
  pub within : o.0 < length cols
  pub turn : Turn ss desk (get_or cols o.0 [])
  pub rest : HaveColumns ds (set cols o.0 []) front

pub next_turn : (ss : List SeatView) (ds todo done : List Desk) (all os : List (ℕ × OwnerView)) (o : ℕ × OwnerView) (cols : List (List LaneView)) → Facts ss ds → ds ≡ todo ++ done → all ≡ map owner_of todo → all ≡ os ++ o ∷ []
    → HaveColumns ds cols todo → length cols ≡ length ds → Next ss ds done os o cols
next_turn ss ds todo done all os o cols f e g h have many =
    let l = last_desk todo os o (sym g ∙ h) in
    let d : Desk = l.desk in
    let v : ℕ = d.seat.number in
    let is : v ≡ o.0 = ap (λ (y : ℕ × OwnerView). y.0) l.owner in
    let at : ds ≡ l.front ++ d ∷ done = e ∙ (ap (λ y. y ++ done) l.is ∙ append_assoc l.front (d ∷ []) done) in
    let f' : Facts ss (l.front ++ d ∷ done) = subst (λ (y : List Desk). Facts ss y) at f in
    let p = the_desk l.front done d f'.each in
    let w : v < length (l.front ++ d ∷ done) = (let a = p.in_range in let b = the_length (length (l.front ++ d ∷ done)) l.front done d f'.long in omega arith) in
    let o' = no_other v l.front done d refl (f'.once v w) in
    let k = have_split ds l.front d cols (subst (λ (y : List Desk). HaveColumns ds cols y) l.is have) in
    let col : get_or cols o.0 [] ≡ map (lane_at v) (l.front ++ d ∷ done) = ap (λ j. get_or cols j []) (sym is) ∙ (k.1 ∙ ap (map (lane_at v)) at) in record {
      front = l.front;
      desk = d;
      at = at;
      owner = l.owner;
      owners = l.owners;
      within = (let b = ap length at in let z = w in omega arith);
      turn = turn ss l.front done d (get_or cols o.0 []) f' o' w col;
      rest = subst (λ j. HaveColumns ds (set cols j []) l.front) is (have_others ds l.front v cols k.0 o'.0);
    }

pub column_more : (all : List (List LaneView)) (cuts : List Cut) (rows rows' : List (List LaneView)) (r q : List LaneView) (l : LaneView) → all ≡ map uncut cuts ++ rows → rows ≡ r ∷ rows' → r ≡ q ++ l ∷ [] → all ≡ map uncut (cuts ++ (q, l) ∷ []) ++ rows'
column_more all cuts rows rows' r q l e f g =
    e ∙ (ap (λ y. map uncut cuts ++ y) (f ∙ ap (λ y. y ∷ rows') g)
    ∙ (sym (append_assoc (map uncut cuts) ((q ++ l ∷ []) ∷ []) rows') ∙ ap (λ y. y ++ rows') (sym (map-append uncut cuts ((q, l) ∷ [])))))

pub all_done : (ss : List SeatView) (ds todo done : List Desk) (os : List (ℕ × OwnerView)) → Facts ss ds → ds ≡ todo ++ done → os ≡ map owner_of todo → length os ≡ 0 → Agreed ss done → All (DequeAgrees ss) ss
all_done ss ds [] done os f e g z a = subst (λ (y : List SeatView). All (DequeAgrees ss) y) (sym (f.seats ∙ ap (map seat_of) e)) (all_agree ss done a)
all_done ss ds (x ∷ xs) done os f e g z a = let w : length os ≡ suc (length (map owner_of xs)) = ap length g in absurd (omega arith)
