-- What a seat has after it got a prefix, and after deques that gave nothing.
use Rattle.std.proofs.Common.{◌≡◌, ℕ, ◌+◌, ◌^◌, ◌<◌, ◌≤◌, List, [], ◌∷◌, ◌++◌, length, map, flat_map, refl, sym, ◌∙◌, ap, subst, inl, inr, cond, arith, set, get_or, length-append, length-set, sum}
use Rattle.std.specs.Prelude.{sum_by, nat_eq, Option, Some, None, IfSome, IfNone, MatchOption, slice_index, slice_set, ◌⊎◌}
use Rattle.std.specs.Cmp.Lexicographic.{pointwise}
use Rattle.std.proofs.lemmas.Bool.Decides.{eqb_tells}
use Rattle.std.proofs.lemmas.List.{map-append, get_or-set_same, get_or-set_other, length-replicate}
use Rattle.std.proofs.lemmas.List.Concat.{length-flat_map, flat_map-cons}
use Rattle.std.proofs.lemmas.List.Sums.{sum_by-set, sum_by-append, sum_by-cons, get_or-le-sum_by}
use Rattle.search_deeds.specs.Deeds.{times}
use Rattle.prefix_deques.specs.Stolen.{MatchStolen}
use Rattle.prefix_deques.specs.declared.lane.Stolen.{Stolen}
use Rattle.prefix_deques.specs.declared.lane.Stolen.TheVariants.{Got, Empty, Missed}
use Rattle.prefix_deques.specs.Books.{Entry}
use Rattle.prefix_deques.specs.Lanes.{SeatView, HasPlaces, GetsFrom, Misses, gets_of, none_idle, one_more}
use Rattle.typology_workers.specs.Settled.{got}
use Rattle.typology_workers.specs.Stays.{KeepsSeat}
use Rattle.refutation.specs.Asked.{Begins}
use Rattle.typology_workers.specs.Turns.{HasGot, HasMissed}
use Rattle.typology_workers.proofs.Staying.{begins-same, side}

abbrev prefixes : List Entry → List (List ℕ)
prefixes = map (λ get. get.1)

abbrev test : List ℕ → List ℕ → ℕ
test p y = cond (pointwise nat_eq p y) 1 0

pub times-append : (p : List ℕ) (xs ys : List (List ℕ)) → times p (xs ++ ys) ≡ times p xs + times p ys
times-append p xs ys = sum_by-append (test p) xs ys

times-flat : (p : List ℕ) (gs : List (List Entry)) → times p (flat_map prefixes gs) ≡ sum_by (λ g. times p (prefixes g)) gs
times-flat p [] = refl
times-flat p (g ∷ gs) = ap (times p) (flat_map-cons prefixes g gs) ∙ (times-append p (prefixes g) (flat_map prefixes gs) ∙ (ap (λ (n : ℕ). times p (prefixes g) + n) (times-flat p gs) ∙ sym (sum_by-cons (λ (h : List Entry). times p (prefixes h)) g gs)))

counted : (p : List ℕ) (gs : List (List Entry)) (v place : ℕ) (x : List ℕ) → v < length gs
    → times p (flat_map prefixes (set gs v (get_or gs v [] ++ (place, x) ∷ []))) ≡ times p (flat_map prefixes gs) + times p (x ∷ [])
counted p gs v place x lt =
    let old = get_or gs v [] in
    let a = times-flat p gs in
    let b = times-flat p (set gs v (old ++ (place, x) ∷ [])) in
    let c = sum_by-set (λ (g : List Entry). times p (prefixes g)) gs v (old ++ (place, x) ∷ []) [] lt in
    let d = ap (times p) (map-append (λ (get : Entry). get.1) old ((place, x) ∷ [])) ∙ times-append p (prefixes old) (x ∷ []) in
    omega arith

long : (gs : List (List Entry)) (v place : ℕ) (x : List ℕ) → v < length gs
    → length (flat_map prefixes (set gs v (get_or gs v [] ++ (place, x) ∷ []))) ≡ length (flat_map prefixes gs) + 1
long gs v place x lt =
    let old = get_or gs v [] in
    let a = length-flat_map prefixes gs in
    let b = length-flat_map prefixes (set gs v (old ++ (place, x) ∷ [])) in
    let c = sum_by-set (λ (g : List Entry). length (prefixes g)) gs v (old ++ (place, x) ∷ []) [] lt in
    let d = ap length (map-append (λ (get : Entry). get.1) old ((place, x) ∷ [])) ∙ length-append (prefixes old) (x ∷ []) in
    omega arith

longer : (gs : List (List Entry)) (v u : ℕ) (e : Entry) → v < length gs → Begins (get_or gs u []) (get_or (set gs v (get_or gs v [] ++ e ∷ [])) u [])
longer gs v u e lt = elim (eqb_tells u v) [
  | inl h ↦ subst (λ (w : ℕ). Begins (get_or gs w []) (get_or (set gs v (get_or gs v [] ++ e ∷ [])) w [])) (sym h.1) (record { rest = e ∷ []; whole = get_or-set_same gs v (get_or gs v [] ++ e ∷ []) [] lt })
  | inr h ↦ subst (λ (l : List Entry). Begins (get_or gs u []) l) (sym (get_or-set_other gs v u (get_or gs v [] ++ e ∷ []) [] h.1)) (begins-same (get_or gs u []))
]

abbrev after_get : ℕ → ℕ → List ℕ → SeatView → SeatView
after_get v place x old = record old { gets = slice_set old.gets v (gets_of old v ++ (place, x) ∷ []); idle = none_idle old.idle }

pub got-one : (v : ℕ) (old new : SeatView) (x : List ℕ) → HasPlaces old → v < length old.make → GetsFrom v old x new → HasGot old new x
got-one v old new x h lt g =
    let within : v < length old.gets = (let a = h.gets in omega arith) in
    let places : HasPlaces (after_get v g.place x old) = record { own = h.own; gets = length-set old.gets v (gets_of old v ++ (g.place, x) ∷ []) ∙ h.gets; misses = h.misses; idle = length-replicate (length old.idle) 0 ∙ h.idle; few = h.few } in
    subst (λ (s : SeatView). HasGot old s x) (sym g.after) (record {
      places = places;
      room = refl;
      puts = refl;
      back = refl;
      each = λ p. counted p old.gets v g.place x within;
      count = long old.gets v g.place x within;
      misses = λ n small most. most;
    })

abbrev raised : List ℕ → ℕ → List ℕ
raised xs v = slice_set xs v (one_more (slice_index xs v))

keeps-sum : (xs : List ℕ) (v n : ℕ) → v < length xs → n < 2 ^ 63 → n ≤ sum xs → n ≤ sum (raised xs v)
keeps-sum xs v n lt small most =
    let e = sum_by-set (λ (x : ℕ). x) xs v (one_more (slice_index xs v)) 0 lt in
    let m = get_or-le-sum_by (λ (x : ℕ). x) xs v 0 lt in
    omega arith

raises-sum : (xs : List ℕ) (v n : ℕ) → v < length xs → n < 2 ^ 62 → n ≤ sum xs → n + 1 ≤ sum (raised xs v)
raises-sum xs v n lt small most =
    let e = sum_by-set (λ (x : ℕ). x) xs v (one_more (slice_index xs v)) 0 lt in
    let m = get_or-le-sum_by (λ (x : ℕ). x) xs v 0 lt in
    omega arith

keeps-at : (xs : List ℕ) (v u n : ℕ) → v < length xs → n < 2 ^ 63 → n ≤ slice_index xs u → n ≤ slice_index (raised xs v) u
keeps-at xs v u n lt small most = elim (eqb_tells u v) [
  | inl h ↦ subst (λ (w : ℕ). n ≤ slice_index (raised xs v) w) (sym h.1) (let same = get_or-set_same xs v (one_more (slice_index xs v)) 0 lt in let m : n ≤ slice_index xs v = subst (λ (w : ℕ). n ≤ slice_index xs w) h.1 most in omega arith)
  | inr h ↦ let same = get_or-set_other xs v u (one_more (slice_index xs v)) 0 h.1 in omega arith
]

raises-at : (xs : List ℕ) (v n : ℕ) → v < length xs → n < 2 ^ 62 → n ≤ slice_index xs v → n + 1 ≤ slice_index (raised xs v) v
raises-at xs v n lt small most = let same = get_or-set_same xs v (one_more (slice_index xs v)) 0 lt in omega arith

pub missed-one : (v : ℕ) (old new : SeatView) → HasPlaces old → v < length old.make → Misses v old new → HasMissed v (v + 1) old new
missed-one v old new h lt e =
    let a : v < length old.misses = (let x = h.misses in omega arith) in
    let b : v < length old.idle = (let x = h.idle in omega arith) in
    subst (λ (s : SeatView). HasMissed v (v + 1) old s) (sym e) (record {
      places = record { own = h.own; gets = h.gets; misses = length-set old.misses v (one_more (slice_index old.misses v)) ∙ h.misses; idle = length-set old.idle v (one_more (slice_index old.idle v)) ∙ h.idle; few = h.few };
      number = refl;
      make = refl;
      room = refl;
      puts = refl;
      back = refl;
      gets = refl;
      misses = λ n. keeps-sum old.misses v n a;
      missed = λ _ n. raises-sum old.misses v n a;
      idle = λ u n. keeps-at old.idle v u n b;
      each = λ u n from to small most. subst (λ (w : ℕ). n + 1 ≤ slice_index (raised old.idle v) w) (let same : v ≡ u = omega arith in same) (raises-at old.idle v n b small (subst (λ (w : ℕ). n ≤ slice_index old.idle w) (let same : u ≡ v = omega arith in same) most));
    })

pub missed-stays : (from to : ℕ) (old new : SeatView) → HasMissed from to old new → KeepsSeat old new
missed-stays from to old new h = record {
  number = h.number;
  make = h.make;
  room = h.room;
  puts = rw h.puts (begins-same old.puts);
  gets = λ v. subst (λ (l : List (List Entry)). Begins (gets_of old v) (get_or l v [])) (sym h.gets) (begins-same (gets_of old v));
  back = rw h.back (begins-same old.back);
}

pub missed-then : (a b c : ℕ) (old mid new : SeatView) → HasMissed a b old mid → HasMissed b c mid new → HasMissed a c old new
missed-then a b c old mid new f g = record {
  places = g.places;
  number = g.number ∙ f.number;
  make = g.make ∙ f.make;
  room = g.room ∙ f.room;
  puts = g.puts ∙ f.puts;
  back = g.back ∙ f.back;
  gets = g.gets ∙ f.gets;
  misses = λ n small most. g.misses n small (f.misses n small most);
  missed = λ lt n small most. rises n small most lt;
  idle = λ v n small most. g.idle v n small (f.idle v n small most);
  each = λ v n from to small most. at v n from to small most;
}
  where
    rises : (n : ℕ) → n < 2 ^ 62 → n ≤ sum old.misses → a < c → n + 1 ≤ sum new.misses
    rises n small most lt = elim (side a b) [
      | inl h ↦ g.misses (n + 1) (omega arith) (f.missed h n small most)
      | inr h ↦ g.missed (omega arith) n small (f.misses n (omega arith) most)
    ]

    at : (v n : ℕ) → a ≤ v → v < c → n < 2 ^ 62 → n ≤ slice_index old.idle v → n + 1 ≤ slice_index new.idle v
    at v n from to small most = elim (side v b) [
      | inl h ↦ g.idle v (n + 1) (omega arith) (f.each v n from h small most)
      | inr h ↦ g.each v n h to small (f.idle v n (omega arith) most)
    ]

-- the first of two stretches that meet at the end of the second
pub missed-round : (a n : ℕ) (old mid new : SeatView) → HasMissed a n old mid → HasMissed 0 a mid new → a < n → HasMissed 0 n old new
missed-round a n old mid new f g lt = record {
  places = g.places;
  number = g.number ∙ f.number;
  make = g.make ∙ f.make;
  room = g.room ∙ f.room;
  puts = g.puts ∙ f.puts;
  back = g.back ∙ f.back;
  gets = g.gets ∙ f.gets;
  misses = λ m small most. g.misses m small (f.misses m small most);
  missed = λ _ m small most. g.misses (m + 1) (omega arith) (f.missed lt m small most);
  idle = λ v m small most. g.idle v m small (f.idle v m small most);
  each = λ v m from to small most. at v m to small most;
}
  where
    at : (v m : ℕ) → v < n → m < 2 ^ 62 → m ≤ slice_index old.idle v → m + 1 ≤ slice_index new.idle v
    at v m to small most = elim (side v a) [
      | inl h ↦ g.each v m (omega arith) h small (f.idle v m (omega arith) most)
      | inr h ↦ g.idle v (m + 1) (omega arith) (f.each v m h to small most)
    ]

-- fewer deques
pub missed-fewer : (a b c : ℕ) (old new : SeatView) → c ≤ b → HasMissed a b old new → HasMissed a c old new
missed-fewer a b c old new most f = record {
  places = f.places;
  number = f.number;
  make = f.make;
  room = f.room;
  puts = f.puts;
  back = f.back;
  gets = f.gets;
  misses = f.misses;
  missed = λ lt. f.missed (omega arith);
  idle = f.idle;
  each = λ v n from to. f.each v n from (omega arith);
}

pub missed-got : (a b : ℕ) (old mid new : SeatView) (x : List ℕ) → HasMissed a b old mid → HasGot mid new x → HasGot old new x
missed-got a b old mid new x f g =
    let same : got mid ≡ got old = ap (flat_map prefixes) f.gets in record {
      places = g.places;
      room = g.room ∙ f.room;
      puts = g.puts ∙ f.puts;
      back = g.back ∙ f.back;
      each = λ p. g.each p ∙ ap (λ (l : List (List ℕ)). times p l + times p (x ∷ [])) same;
      count = g.count ∙ ap (λ (l : List (List ℕ)). length l + 1) same;
      misses = λ n small most. g.misses n small (f.misses n small most);
    }

pub took-or-missed : (o : Option (List ℕ)) (old new : SeatView) → HasPlaces old → IfSome o (λ x. GetsFrom old.number old x new) → IfNone o (Misses old.number old new)
    → MatchOption o (HasMissed old.number (old.number + 1) old new) (HasGot old new)
took-or-missed (Some x) old new h g m = got-one old.number old new x h h.own g
took-or-missed None old new h g m = missed-one old.number old new h h.own m

pub missed-round-or-got : (o : Option (List ℕ)) (a n : ℕ) (old mid new : SeatView) → HasMissed a n old mid → a < n → MatchOption o (HasMissed 0 a mid new) (HasGot mid new) → MatchOption o (HasMissed 0 n old new) (HasGot old new)
missed-round-or-got (Some x) a n old mid new f lt g = missed-got a n old mid new x f g
missed-round-or-got None a n old mid new f lt g = missed-round a n old mid new f g lt

pub nothing-stolen : (r : Stolen) (P : List ℕ → Type 0) (N : Type 0) → (r ≡ Empty) ⊎ (r ≡ Missed) → MatchStolen r P N → N
nothing-stolen (Got x) P N e h = elim e [ inl i ↦ absurd (cc) | inr i ↦ absurd (cc) ]
nothing-stolen Empty P N e h = h
nothing-stolen Missed P N e h = h

-- the own deque, then those behind it, then those before it
pub taken-round : (o : Option (List ℕ)) (v n : ℕ) (a b c d : SeatView) (number deques : ℕ) → v < n → number ≡ v → deques ≡ n → HasMissed v (v + 1) a b → HasMissed (number + 1) deques b c → MatchOption o (HasMissed 0 number c d) (HasGot c d)
    → MatchOption o (HasMissed 0 n a d) (HasGot a d)
taken-round o v n a b c d number deques lt e f first second third =
    let two : HasMissed v n a c = missed-then v (v + 1) n a b c first (subst (λ (m : ℕ). HasMissed (v + 1) m b c) f (subst (λ (m : ℕ). HasMissed (m + 1) deques b c) e second)) in
    missed-round-or-got o v n a c d two lt (subst (λ (m : ℕ). MatchOption o (HasMissed 0 m c d) (HasGot c d)) e third)
