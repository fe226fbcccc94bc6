-- Lists of what is known.
use Rattle.std.proofs.Common.{inl, inr, append_assoc, ◌≡◌, ℕ, zero, suc, ◌+◌, ◌-◌, ◌<◌, ◌≤◌, List, [], ◌∷◌, ◌++◌, length, map, set, take, get_or, replicate, sym, refl, ap, ◌∙◌, subst, arith, length-append, length-set, Option, Some, None, slice_get}
use Rattle.std.proofs.lemmas.List.{map-set, map-append, length-map, take_more, take_all}
use Rattle.std.proofs.lemmas.List.{get_or-map as get_or-map'}
use Rattle.std.specs.declared.alloc.Global.{Global}
use Rattle.once_cell.specs.Once.{cell_name, Agrees}
use Rattle.std.proofs.Math.Seq.{map-set_same}
use Rattle.std.proofs.Math.ListN.{get_or-map}
use Rattle.std.proofs.lemmas.Option.{slice_get-get_or, slice_get_within}
use Rattle.note_sign.specs.declared.Sign.{Sign}
use Rattle.refutation.specs.declared.contradiction.Contradiction.{Contradiction}
use Rattle.refutation_store.specs.Fronts.{FrontView, known_of, all_known, knowns, cells_of, IsFront}
use Rattle.std.specs.Prelude.{IfSome, ◌⊎◌, min}
use Rattle.std.proofs.lemmas.List.{append-nil}
use Rattle.std.proofs.Math.Nat.{eq-or-lt_of_le, le-min}
use Rattle.refutation_store.specs.Fronts.{Begins, Learns, Grows, NotMet, IsKept, AgreeOn}
use Rattle.refutation_store.specs.declared.store.Kept.TheVariants.{At}

abbrev C : Type 0
C = Contradiction

known_of_all : (xs : List C) (k : ℕ) → known_of (all_known xs k) ≡ xs
known_of_all [] zero = refl
known_of_all [] (suc k) = refl
known_of_all (x ∷ xs) k = ap (λ l. x ∷ l) (known_of_all xs k)

set_next : (xs : List C) (k : ℕ) (y : C) → set (all_known xs (suc k)) (length xs) (Some y) ≡ all_known (xs ++ y ∷ []) k
set_next [] k y = refl
set_next (x ∷ xs) k y = ap (λ l. Some x ∷ l) (set_next xs k y)

get_known : (xs : List C) (k i : ℕ) → i < length xs → slice_get (all_known xs k) i ≡ Some (slice_get xs i)
get_known [] k i lt = absurd (omega arith)
get_known (x ∷ xs) k zero lt = refl
get_known (x ∷ xs) k (suc i) lt = get_known xs k i (omega arith)

-- the sign of the next place is written
pub learns_knowns : (signs : List (Sign C)) (len : ℕ) (s : Sign C) (y : C) → IsFront signs len → len < length signs → s.known ≡ Some y
    → knowns (set signs len s) ≡ all_known (known_of (knowns signs) ++ y ∷ []) (length signs - (len + 1))
learns_knowns signs len s y h lt is =
    let xs : List C = known_of (knowns signs) in
    let k : ℕ = length signs - (len + 1) in
    let one : length signs - len ≡ suc k = omega arith in
    map-set (λ (t : Sign C). t.known) signs len s
    ∙ (ap (λ o. set (knowns signs) len o) is
    ∙ (ap (λ l. set l len (Some y)) (h.knows ∙ ap (all_known xs) one)
    ∙ (ap (λ n. set (all_known xs (suc k)) n (Some y)) (sym h.count) ∙ set_next xs k y)))

pub learns_values : (signs : List (Sign C)) (len : ℕ) (s : Sign C) (y : C) → IsFront signs len → len < length signs → s.known ≡ Some y
    → known_of (knowns (set signs len s)) ≡ known_of (knowns signs) ++ y ∷ []
learns_values signs len s y h lt is =
    ap known_of (learns_knowns signs len s y h lt is) ∙ known_of_all (known_of (knowns signs) ++ y ∷ []) (length signs - (len + 1))

pub learns : (signs : List (Sign C)) (len : ℕ) (s : Sign C) (y : C) → IsFront signs len → len < length signs → s.known ≡ Some y → IsFront (set signs len s) (len + 1)
learns signs len s y h lt is =
    let v = learns_values signs len s y h lt is in record {
      knows = learns_knowns signs len s y h lt is ∙ (ap (λ l. all_known l (length signs - (len + 1))) (sym v) ∙ ap (λ n. all_known (known_of (knowns (set signs len s))) (n - (len + 1))) (sym (length-set signs len s)));
      count = (let a = ap length v in let b = h.count in omega (arith, length-append (known_of (knowns signs)) (y ∷ [])));
      fits = rw length-set (omega arith);
    }

pub same_cells : (signs : List (Sign C)) (i : ℕ) (s d : Sign C) → s.cell ≡ (get_or signs i d).cell → cells_of (set signs i s) ≡ cells_of signs
same_cells signs i s d e = map-set_same (λ (t : Sign C). t.cell) signs i s d e

-- what a place that was learnt shows
pub known_at : (signs : List (Sign C)) (len i : ℕ) (d : Sign C) → IsFront signs len → i < length (known_of (knowns signs)) → slice_get (known_of (knowns signs)) i ≡ (get_or signs i d).known
known_at signs len i d h lt =
    let xs : List C = known_of (knowns signs) in
    let within : i < length (knowns signs) = (let a = length-map signs (λ (t : Sign C). t.known) in let b = h.count in let c = h.fits in omega arith) in
    let one : slice_get (knowns signs) i ≡ Some (slice_get xs i) = ap (λ l. slice_get l i) h.knows ∙ get_known xs (length signs - len) i lt in
    let two : slice_get (knowns signs) i ≡ Some ((get_or signs i d).known) = slice_get-get_or (knowns signs) i d.known within ∙ ap Some (get_or-map (λ (t : Sign C). t.known) signs i d) in
    let same : Some (slice_get xs i) ≡ Some ((get_or signs i d).known) = sym one ∙ two in cc

-- the cell of a place is the one that the front knows it by
pub cell_same : (signs : List (Sign C)) (cells : List (Global × ℕ)) (i : ℕ) (d : Sign C) (b : Global × ℕ) → cells_of signs ≡ map cell_name cells → i < length cells → b ≡ get_or cells i b → cell_name b ≡ (get_or signs i d).cell
cell_same signs cells i d b e lt at = ap cell_name at ∙ (sym (get_or-map' cell_name cells i b d.cell lt) ∙ (ap (λ l. get_or l i d.cell) (sym e) ∙ get_or-map (λ (t : Sign C). t.cell) signs i d))

pub signs_within : (signs : List (Sign C)) (len : ℕ) (cells : List ℕ) → IsFront signs len → cells_of signs ≡ cells → (length (known_of (knowns signs)) ≤ length cells) × (length signs ≡ length cells)
signs_within signs len cells h e = let a = length-map signs (λ (t : Sign C). t.cell) in let b = ap length e in let c = h.count in let f = h.fits in (omega arith, omega arith)

present : (xs : List C) (i : ℕ) → i < length xs → slice_get xs i ≡ None → ⊥
present [] i lt e = omega arith
present (x ∷ xs) zero lt e = cc
present (x ∷ xs) (suc i) lt e = present xs i (omega arith) e

pub seen_value : (signs : List (Sign C)) (len i : ℕ) (d : Sign C) (k : Option C) → IsFront signs len → i < length (known_of (knowns signs)) → d ≡ get_or signs i d → k ≡ d.known → slice_get (known_of (knowns signs)) i ≡ k
seen_value signs len i d k h lt at is = known_at signs len i d h lt ∙ (ap (λ (t : Sign C). t.known) (sym at) ∙ sym is)

pub is_there : (signs : List (Sign C)) (len i : ℕ) (d : Sign C) (k : Option C) → IsFront signs len → i < length (known_of (knowns signs)) → d ≡ get_or signs i d → k ≡ d.known → k ≡ None → ⊥
is_there signs len i d k h lt at is none = present (known_of (knowns signs)) i lt (seen_value signs len i d k h lt at is ∙ none)

pub agreed : (o k : Option C) (v : C) → o ≡ k → (k ≡ None → ⊥) → Agrees k v → o ≡ Some v
agreed o None v e n a = absurd (n refl)
agreed o (Some y) v e n a = e ∙ ap Some a

pub both_known : (o p k j : Option C) → o ≡ k → p ≡ j → (k ≡ None → ⊥) → (j ≡ None → ⊥) → IfSome j (Agrees k) → o ≡ p
both_known o p None j e f n m a = absurd (n refl)
both_known o p (Some x) None e f n m a = absurd (m refl)
both_known o p (Some x) (Some y) e f n m a = e ∙ (ap Some a ∙ sym f)

-- the place of a front within the cells
pub within_cells : (f g : FrontView) (signs : List (Sign C)) (len i : ℕ) (cells : List (Global × ℕ)) → f ≡ g → f.store ≡ cells_of signs → f.values ≡ known_of (knowns signs) → IsFront signs len → g.store ≡ map cell_name cells → i < length g.values
    → (i < length (known_of (knowns signs))) × (i < length cells) × (cells_of signs ≡ map cell_name cells)
within_cells f g signs len i cells e st vs h s lt =
    let a = ap (λ (x : FrontView). length x.values) e in
    let v = ap length vs in
    let store : cells_of signs ≡ map cell_name cells = sym st ∙ (ap (λ (x : FrontView). x.store) e ∙ s) in
    let w = signs_within signs len (map cell_name cells) h store in
    let n = length-map cells cell_name in (omega arith, omega (arith, w.0), store)

-- a value of a longer list
pub pushed : (xs : List C) (x y : C) (k : ℕ) → slice_get (xs ++ x ∷ []) k ≡ Some y → (slice_get xs k ≡ Some y) ⊎ ((k ≡ length xs) × (x ≡ y))
pushed [] x y zero e = inr (refl, (cc))
pushed [] x y (suc k) e = absurd (cc)
pushed (z ∷ xs) x y zero e = inl e
pushed (z ∷ xs) x y (suc k) e = elim (pushed xs x y k e) [ inl h ↦ inl h | inr h ↦ inr (omega (arith, h.0), h.1) ]

pub at_end : (xs : List C) (x : C) → slice_get (xs ++ x ∷ []) (length xs) ≡ Some x
at_end [] x = refl
at_end (z ∷ xs) x = at_end xs x

pub never_past : (xs : List C) (k : ℕ) (x : C) → length xs ≤ k → slice_get xs k ≡ Some x → ⊥
never_past xs k x past e = let w = slice_get_within xs k x e in omega arith

pub learns_more : (f g h : FrontView) (x : C) → Learns f g → Grows g x h → Learns f h
learns_more f g h x l e = record {
  more = l.more ++ x ∷ [];
  after = λ i. record {
    store = (ap (λ (v : FrontView). v.store) e ∙ ap (λ (v : FrontView). v.store) l.after) i;
    values = (ap (λ (v : FrontView). v.values) e ∙ (ap (λ (v : FrontView). v.values ++ x ∷ []) l.after ∙ append_assoc f.values l.more (x ∷ []))) i;
    misses = (ap (λ (v : FrontView). v.misses) e ∙ ap (λ (v : FrontView). v.misses) l.after) i;
  };
}

pub learns_none : (f : FrontView) → Learns f f
learns_none f = record {
  more = [];
  after = λ i. record { store = f.store; values = sym (append-nil f.values) i; misses = f.misses };
}

pub not_met : (start : ℕ) (g h : FrontView) (x c : C) → NotMet c start g.values → (x ≡ c → ⊥) → Grows g x h → NotMet c start h.values
not_met start g h x c none other e k from is =
    elim (pushed g.values x c k (subst (λ (v : FrontView). slice_get v.values k ≡ Some c) e is)) [ inl i ↦ none k from i | inr i ↦ other i.1 ]

-- what the front held stands below what it holds now
pub no_shorter : (f g : FrontView) → Learns f g → length f.values ≤ length g.values
no_shorter f g l = let long = ap (λ (v : FrontView). length v.values) l.after in omega (arith, length-append f.values l.more)

-- the last place shows the value that was met, and no other one that was met does
pub shows_last : (places : ℕ) (f g h : FrontView) (x c : C) (n : ℕ) → Learns f g → NotMet c (length f.values) g.values → Grows g x h → x ≡ c → n ≡ length h.values
    → IsKept places c f.values h.values (At (n - 1))
shows_last places f g h x c n l none e same at =
    let long = ap (λ (v : FrontView). length v.values) e in
    let more = length-append g.values (x ∷ []) in
    let old = no_shorter f g l in
    let i : n - 1 ≡ length g.values = omega arith in
    let only : (k : ℕ) → length f.values ≤ k → slice_get h.values k ≡ Some c → k ≡ n - 1 =
    λ k from is. elim (pushed g.values x c k (subst (λ (v : FrontView). slice_get v.values k ≡ Some c) e is)) [ inl m ↦ absurd (none k from m) | inr m ↦ m.0 ∙ sym i ] in
    (omega arith, omega arith, ap (λ (v : FrontView). slice_get v.values (n - 1)) e ∙ (ap (slice_get (g.values ++ x ∷ [])) i ∙ (at_end g.values x ∙ ap Some same)), only)

-- signs of these cells that know nothing
pub record AreBlank (names : List ℕ) (signs : List (Sign C)) : Type 0 where
  pub cells : cells_of signs ≡ names
  pub blank : knowns signs ≡ replicate (length signs) None

knows_none : (k : ℕ) → known_of (replicate k None) ≡ []
knows_none zero = refl
knows_none (suc k) = refl

pub blank_values : (names : List ℕ) (signs : List (Sign C)) → AreBlank names signs → known_of (knowns signs) ≡ []
blank_values names signs b = ap known_of b.blank ∙ knows_none (length signs)

pub blank_front : (names : List ℕ) (signs : List (Sign C)) → AreBlank names signs → IsFront signs 0
blank_front names signs b =
    let v = blank_values names signs b in
    let all : length signs ≡ length signs - 0 = omega arith in record {
      knows = b.blank ∙ (ap (λ k. all_known [] k) all ∙ ap (λ xs. all_known xs (length signs - 0)) (sym v));
      count = ap length v;
      fits = omega arith;
    }

none_more : (k : ℕ) (o : Option C) → replicate k o ++ o ∷ [] ≡ replicate (suc k) o
none_more zero o = refl
none_more (suc k) o = ap (λ l. o ∷ l) (none_more k o)

-- a sign of the next cell
pub blank_more : (cells : List (Global × ℕ)) (k : ℕ) (signs longer : List (Sign C)) (s : Sign C) (b : Global × ℕ) → k < length cells → b ≡ get_or cells k b → s.cell ≡ cell_name b → s.known ≡ None
    → AreBlank (map cell_name (take k cells)) signs → longer ≡ signs ++ s ∷ [] → AreBlank (map cell_name (take (k + 1) cells)) longer
blank_more cells k signs longer s b lt at cell none h is =
    let long : length longer ≡ suc (length signs) = ap length is ∙ (let z = length-append signs (s ∷ []) in omega arith) in
    let name : s.cell ≡ cell_name (get_or cells k b) = cell ∙ ap cell_name at in record {
      cells = ap cells_of is ∙ (map-append (λ (t : Sign C). t.cell) signs (s ∷ []) ∙ ((λ i. h.cells i ++ name i ∷ [])
          ∙ (sym (map-append cell_name (take k cells) (get_or cells k b ∷ [])) ∙ ap (map cell_name) (sym (take_more cells k b lt)))));
      blank = ap knowns is ∙ (map-append (λ (t : Sign C). t.known) signs (s ∷ []) ∙ ((λ i. h.blank i ++ none i ∷ []) ∙ (none_more (length signs) None ∙ ap (λ n. replicate n None) (sym long))));
    }

-- a front whose signs know nothing yet
pub begins : (cells items : List (Global × ℕ)) (k : ℕ) (store : List ℕ) (signs : List (Sign C)) → AreBlank (map cell_name (take k items)) signs → length items ≤ k → items ≡ cells → map cell_name cells ≡ store
    → Begins store (record { store = cells_of signs; values = known_of (knowns signs); misses = 0 })
begins cells items k store signs b all same is =
    let names : cells_of signs ≡ store = b.cells ∙ (ap (map cell_name) (take_all k items all ∙ same) ∙ is) in
    let none = blank_values _ signs b in λ i. record { store = names i; values = none i; misses = 0 }

-- both agree at the places below n
abbrev pub AgreeBelow : ℕ → List C → List C → Type 0
AgreeBelow n xs ys = (k : ℕ) (x y : C) → k < n → slice_get xs k ≡ Some x → slice_get ys k ≡ Some y → x ≡ y

unsome : (x y : C) → Some x ≡ Some y → x ≡ y
unsome x y e = cc

pub agree_more : (xs ys : List C) (n : ℕ) → AgreeBelow n xs ys → slice_get xs n ≡ slice_get ys n → AgreeBelow (n + 1) xs ys
agree_more xs ys n below at k x y lt e f =
    elim (eq-or-lt_of_le {n = k} {m = n} (omega arith)) [ inr l ↦ below k x y l e f | inl s ↦ unsome x y (sym e ∙ (ap (slice_get xs) s ∙ (at ∙ (ap (slice_get ys) (sym s) ∙ f)))) ]

pub agree_all : (xs ys : List C) (n m : ℕ) → AgreeBelow n xs ys → m ≡ min (length xs) (length ys) → m ≤ n → AgreeOn xs ys
agree_all xs ys n m below e le k x y f g =
    let a = slice_get_within xs k x f in
    let b = slice_get_within ys k y g in
    let c : k + 1 ≤ min (length xs) (length ys) = le-min (omega arith) (omega arith) in
    below k x y (let d : k + 1 ≤ m = subst (λ j. k + 1 ≤ j) (sym e) c in omega arith) f g
