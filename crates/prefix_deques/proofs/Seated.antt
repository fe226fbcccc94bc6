-- What a take and a steal do to what contracts see of a seat.
use Rattle.std.proofs.Common.{◌≡◌, ◌≢◌, ℕ, zero, suc, true, ◌+◌, ◌<◌, List, [], ◌∷◌, ◌++◌, length, map, set, get_or, sym, refl, ap, ◌∙◌, subst, ⊎_elim, inl, inr, arith, Some, slice_get}
use Rattle.std.specs.Prelude.{◌⊎◌}
use Rattle.std.proofs.Math.Seq.{set-set}
use Rattle.std.proofs.lemmas.List.{length-map, map-set, get_or-set_same, get_or-set_other, get_or-map}
use Rattle.std.proofs.Math.Seq.{map-set_same}
use Rattle.std.proofs.lemmas.Option.{slice_get-get_or, slice_get_within}
use Rattle.prefix_deques.specs.declared.rule.Account.{Account}
use Rattle.prefix_deques.specs.Books.{Classes, Entry, Each, Rise, Gets, whole}
use Rattle.prefix_deques.specs.Lanes.{DequeId, LaneView, SeatView, GetsFrom, none_idle}

abbrev pub deque_of : LaneView → DequeId
deque_of l = l.deque

abbrev pub got_of : LaneView → List Entry
got_of l = l.gets

-- one entry more
pub record Grows (old : List Entry) (x : Classes) (new : List Entry) : Type 0 where
  pub place : ℕ
  pub rises : Each (λ e. e.0 < place) old
  pub after : new ≡ old ++ (place, x) ∷ []

pub gets_grow : (v w : Account) (x : Classes) → Gets v (x ∷ []) w → Grows v.gets x w.gets × (w.puts ≡ v.puts)
gets_grow v w x g =
    let e : x ≡ g.prefix = cc in (
      record { place = g.place; rises = g.rises; after = ap (λ (u : Account). u.gets) g.after ∙ ap (λ y. v.gets ++ (g.place, y) ∷ []) (sym e) },
      ap (λ (u : Account). u.puts) g.after,
    )

abbrev pub view_at : ℕ → List DequeId → ℕ → List Classes → List (List Entry) → List Classes → List ℕ → List ℕ → SeatView
view_at number make room puts gets back misses idle = record { number = number; make = make; room = room; puts = puts; gets = gets; back = back; misses = misses; idle = idle }

pub took : (number room : ℕ) (make : List DequeId) (puts puts' back : List Classes) (gs : List (List Entry)) (mine mine' : List Entry) (misses idle idle' : List ℕ) (x : Classes)
    → number < length gs → Grows mine x mine' → puts' ≡ puts → idle' ≡ none_idle idle
    → GetsFrom number (view_at number make room puts (set gs number mine) back misses idle) x (view_at number make room puts' (set gs number mine') back misses idle')
took number room make puts puts' back gs mine mine' misses idle idle' x lt g ps is =
    let here : get_or (set gs number mine) number [] ≡ mine = get_or-set_same gs number mine [] lt in
    let now : set gs number mine' ≡ set (set gs number mine) number (get_or (set gs number mine) number [] ++ (g.place, x) ∷ []) =
    ap (set gs number) (g.after ∙ ap (λ l. l ++ (g.place, x) ∷ []) (sym here)) ∙ sym (set-set gs number mine (get_or (set gs number mine) number [] ++ (g.place, x) ∷ [])) in record {
      place = g.place;
      rises = subst (λ (l : List Entry). Each (λ e. e.0 < g.place) l) (sym here) g.rises;
      after = λ i. view_at number make room (ps i) (now i) back misses (is i);
    }

-- the only seat gets a prefix only where one is left
pub some_left : (lanes : List LaneView) (number : ℕ) (v w : Account) (x : Classes) → v.owns ≡ true → v.parts + length lanes ≡ 129 → number < length (map got_of lanes) → Gets v (x ∷ []) w
    → length (map deque_of lanes) ≡ 1 → length (get_or (set (map got_of lanes) number v.gets) number []) < length v.puts
some_left lanes number v w x owns parts lt g one =
    let full : v.parts ≡ whole = (let m = length-map lanes deque_of in omega arith) in
    let within = slice_get_within v.puts g.place g.prefix (g.owner owns) in
    let here : length (get_or (set (map got_of lanes) number v.gets) number []) ≡ length v.gets = ap length (get_or-set_same (map got_of lanes) number v.gets [] lt) in
    let place = g.alone full in omega arith

set-comm : {A : Type 0} (l : List A) (i j : ℕ) (a b : A) → i ≢ j → set (set l i a) j b ≡ set (set l j b) i a
set-comm [] i j a b n = refl
set-comm (x ∷ xs) zero zero a b n = absurd (n refl)
set-comm (x ∷ xs) zero (suc j) a b n = refl
set-comm (x ∷ xs) (suc i) zero a b n = refl
set-comm (x ∷ xs) (suc i) (suc j) a b n = ap (λ l. x ∷ l) (set-comm xs i j a b (λ e. n (ap suc e)))

pub stole : (number room victim : ℕ) (lanes : List LaneView) (l l' : LaneView) (puts back : List Classes) (mine : List Entry) (misses idle idle' : List ℕ) (x : Classes)
    → victim < length lanes → victim ≢ number → l ≡ get_or lanes victim l → Grows l.gets x l'.gets → l'.deque ≡ l.deque → idle' ≡ none_idle idle
    → GetsFrom victim (view_at number (map deque_of lanes) room puts (set (map got_of lanes) number mine) back misses idle) x
    (view_at number (map deque_of (set lanes victim l')) room puts (set (map got_of (set lanes victim l')) number mine) back misses idle')
stole number room victim lanes l l' puts back mine misses idle idle' x lt other at g same is =
    let gs : List (List Entry) = map got_of lanes in
    let here : get_or (set gs number mine) victim [] ≡ l.gets =
    get_or-set_other gs number victim mine [] other ∙ (get_or-map got_of lanes victim l [] lt ∙ ap got_of (sym at)) in
    let make : map deque_of (set lanes victim l') ≡ map deque_of lanes = map-set_same deque_of lanes victim l' l (same ∙ ap deque_of at) in
    let now : set (map got_of (set lanes victim l')) number mine ≡ set (set gs number mine) victim (get_or (set gs number mine) victim [] ++ (g.place, x) ∷ []) =
    ap (λ y. set y number mine) (map-set got_of lanes victim l') ∙ (set-comm gs victim number l'.gets mine other ∙ ap (set (set gs number mine) victim) (g.after ∙ ap (λ y. y ++ (g.place, x) ∷ []) (sym here))) in record {
      place = g.place;
      rises = subst (λ (y : List Entry). Each (λ e. e.0 < g.place) y) (sym here) g.rises;
      after = λ i. view_at number (make i) room puts (now i) back misses (is i);
    }

-- a lane that was written
pub lane_set : (lanes : List LaneView) (i : ℕ) (y : LaneView) (v : ℕ) (l : LaneView) → slice_get (set lanes i y) v ≡ Some l → ((v ≡ i) × (y ≡ l) × (i < length lanes)) ⊎ ((v ≢ i) × (slice_get lanes v ≡ Some l))
lane_set [] i y v l e = cc
lane_set (x ∷ xs) zero y zero l e = inl (refl, (cc), omega arith)
lane_set (x ∷ xs) zero y (suc v) l e = inr ((λ p. (omega arith)), e)
lane_set (x ∷ xs) (suc i) y zero l e = inr ((λ p. (omega arith)), e)
lane_set (x ∷ xs) (suc i) y (suc v) l e = ⊎_elim (λ (r : (v ≡ i) × (y ≡ l) × (i < length xs)). inl (ap suc r.0, r.1, omega arith))
    (λ (r : (v ≢ i) × (slice_get xs v ≡ Some l)). inr ((λ p. r.0 (omega arith)), r.1)) (lane_set xs i y v l e)

-- a lane's part and deque stay in a steal
pub record Stays (old new : LaneView) : Type 0 where
  pub deque : new.deque ≡ old.deque
  pub parts : new.parts ≡ old.parts

pub others_stay : (lanes : List LaneView) (number victim : ℕ) (l l' : LaneView) → Stays l l' → slice_get lanes victim ≡ Some l → victim ≢ number
    → ((v : ℕ) (y : LaneView) → slice_get lanes v ≡ Some y → v ≢ number → y.parts ≡ 1)
    → (v : ℕ) (y : LaneView) → slice_get (set lanes victim l') v ≡ Some y → v ≢ number → y.parts ≡ 1
others_stay lanes number victim l l' same at other h v y e n =
    ⊎_elim (λ (r : (v ≡ victim) × (l' ≡ y) × (victim < length lanes)). sym (ap (λ (z : LaneView). z.parts) r.1) ∙ (same.parts ∙ h victim l at other))
    (λ (r : (v ≢ victim) × (slice_get lanes v ≡ Some y)). h v y r.1 n) (lane_set lanes victim l' v y e)

pub mine_stays : (lanes : List LaneView) (number victim : ℕ) (l' : LaneView) → victim ≢ number
    → ((y : LaneView) → slice_get lanes number ≡ Some y → (y.parts ≡ 0) × (y.gets ≡ []))
    → (y : LaneView) → slice_get (set lanes victim l') number ≡ Some y → (y.parts ≡ 0) × (y.gets ≡ [])
mine_stays lanes number victim l' other h y e =
    ⊎_elim (λ (r : (number ≡ victim) × (l' ≡ y) × (victim < length lanes)). absurd (other (sym r.0)))
    (λ (r : (number ≢ victim) × (slice_get lanes number ≡ Some y)). h y r.1) (lane_set lanes victim l' number y e)

pub at_index : (lanes : List LaneView) (i : ℕ) (l : LaneView) → i < length lanes → l ≡ get_or lanes i l → slice_get lanes i ≡ Some l
at_index lanes i l lt e = slice_get-get_or lanes i l lt ∙ ap Some (sym e)

pub tied_stays : (lanes : List LaneView) (i : ℕ) (l l' : LaneView) → l ≡ get_or lanes i l → l'.deque ≡ l.deque → map deque_of (set lanes i l') ≡ map deque_of lanes
tied_stays lanes i l l' at same = map-set_same deque_of lanes i l' l (same ∙ ap deque_of at)

all_before : (es : List Entry) (place : ℕ) (x : Classes) (e : Entry) → Each (λ f. e.0 < f.0) es → e.0 < place → Each (λ f. e.0 < f.0) (es ++ (place, x) ∷ [])
all_before [] place x e h lt = (lt, tt)
all_before (f ∷ fs) place x e h lt = (h.0, all_before fs place x e h.1 lt)

rise_more : (es : List Entry) (place : ℕ) (x : Classes) → Rise es → Each (λ e. e.0 < place) es → Rise (es ++ (place, x) ∷ [])
rise_more [] place x r h = (tt, tt)
rise_more (e ∷ es) place x r h = (all_before es place x e r.0 h.0, rise_more es place x r.1 h.1)

-- the places still rise after one entry more
pub rise_grows : (old new : List Entry) (x : Classes) → Grows old x new → Rise old → Rise new
rise_grows old new x g r = subst Rise (sym g.after) (rise_more old g.place x r g.rises)

pub rises_stay : (lanes : List LaneView) (victim : ℕ) (l' : LaneView) → Rise l'.gets
    → ((v : ℕ) (y : LaneView) → slice_get lanes v ≡ Some y → Rise y.gets)
    → (v : ℕ) (y : LaneView) → slice_get (set lanes victim l') v ≡ Some y → Rise y.gets
rises_stay lanes victim l' here h v y e =
    ⊎_elim (λ (r : (v ≡ victim) × (l' ≡ y) × (victim < length lanes)). subst (λ (z : LaneView). Rise z.gets) r.1 here)
    (λ (r : (v ≢ victim) × (slice_get lanes v ≡ Some y)). h v y r.1) (lane_set lanes victim l' v y e)
