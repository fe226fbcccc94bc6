-- The index of a front holds the place of each value, and what refutes a prefix stands in the slot of one of its classes.
use Rattle.std.proofs.Common.{◌≡◌, ℕ, zero, suc, ◌+◌, ◌-◌, ◌*◌, ◌%◌, ◌<◌, ◌≤◌, List, [], ◌∷◌, ◌++◌, Bool, true, false, length, set, get_or, refl, sym, ◌∙◌, ap, subst, arith, inl, inr, Option, Some, None, slice_get, length-append, length-set}
use Rattle.std.specs.Prelude.{◌==◌, ◌⊎◌, slice_index, slice_index_or}
use Rattle.std.specs.Option.{option_map_or}
use Rattle.std.proofs.lemmas.Bool.{and_parts, and_from, eqb-true}
use Rattle.std.proofs.lemmas.Bool.Decides.{eqb_tells}
use Rattle.std.proofs.lemmas.List.{get_or-set_same, get_or-set_other, get_or_append_left}
use Rattle.std.proofs.Math.Seq.{get_or-append_seam}
use Rattle.std.proofs.lemmas.Option.{slice_get_within}
use Rattle.ot_theory.specs.Problems.{Problem}
use Rattle.ot_theory.specs.Refutations.{is_contradiction, is_made, refutes}
use Rattle.ot_base.specs.declared.tableau.ClassId.{ClassId}
use Rattle.ot_base.specs.declared.tableau.InId.{InId}
use Rattle.refutation.specs.Prefixes.{class_numbers}
use Rattle.refutation.specs.Terms.{term_of, terms_in}
use Rattle.refutation.specs.declared.contradiction.Contradiction.{Contradiction}
use Rattle.refutation.specs.declared.term.Term.{Term}
use Rattle.refutation.specs.declared.term.Term.TheVariants.{Loser, Given}
use Rattle.refutation.specs.Asked.{Begins}
use Rattle.typology_workers.specs.Found.{cuts_off, value_for}
use Rattle.typology_workers.specs.Indexed.{CutsOffAt, Has, IsGenuineAt, IsIndex, RefutesAt, last_of, slot_for, slot_of, slots_with}
use Rattle.typology_workers.specs.declared.index.TheConstants.{STRIDE}
use Rattle.std.proofs.Math.Nat.{mod-lt}
use Rattle.typology_workers.proofs.Staying.{side}
use Rattle.typology_workers.proofs.Fates.{before, no-shorter, still}
use Rattle.typology_workers.proofs.Finds.{first-found, none-found}

abbrev C : Type 0
C = Contradiction

pub index-none : (problem : Problem) (slots : List (List ℕ)) (indexed : ℕ) (values : List C) → 1 < length slots → ((s : ℕ) → slice_index_or slots s [] ≡ []) → indexed ≡ 0 → IsIndex problem slots indexed values
index-none problem slots indexed values some empty z = record {
  some = some;
  within = omega arith;
  genuine = λ s k h. let n = ap length (empty s) in let l = h.1 in absurd (omega arith);
  each = λ k value term lt. absurd (omega arith);
}

has-longer : (xs : List ℕ) (k m : ℕ) → Has xs k → Has (xs ++ m ∷ []) k
has-longer xs k m h = (h.0, (let a = h.1 in omega (arith, length-append xs (m ∷ []))), get_or_append_left xs (m ∷ []) 0 h.0 h.1 ∙ h.2)

has-last : (xs : List ℕ) (k : ℕ) → Has (xs ++ k ∷ []) k
has-last xs k = (length xs, omega (arith, length-append xs (k ∷ [])), get_or-append_seam xs k [] 0)

-- what stands in a longer list stood in it before, or is the last
has-either : (xs : List ℕ) (k m : ℕ) → Has (xs ++ m ∷ []) k → Has xs k ⊎ (m ≡ k)
has-either xs k m h = elim (side h.0 (length xs)) [
  | inl l ↦ inl (h.0, l, sym (get_or_append_left xs (m ∷ []) 0 h.0 l) ∙ h.2)
  | inr l ↦
      let n = h.1 in
      let e : h.0 ≡ length xs = omega (arith, length-append xs (m ∷ [])) in
      inr (sym (get_or-append_seam xs m [] 0) ∙ (ap (slice_index (xs ++ m ∷ [])) (sym e) ∙ h.2))
]

pub slot-small : (n i a : ℕ) → 1 < n → slot_of n i a < n
slot-small n i a some =
    let others : 0 < n - 1 = omega arith in
    let below : (i * STRIDE + a) % (n - 1) < n - 1 = mod-lt (i * STRIDE + a) others in
    omega arith

pub slot_for-small : (n : ℕ) (term : Term) → 1 < n → slot_for n term < n
slot_for-small n (Loser input winner loser) some = slot-small n input.0 winner.0 some
slot_for-small n (Given k) some = omega arith

-- a value that is no contradiction has its place in no slot
pub index-skips : (problem : Problem) (slots : List (List ℕ)) (k : ℕ) (values : List C) (value : C) → IsIndex problem slots k values → slice_get values k ≡ Some value → is_contradiction problem (terms_in value.terms) ≡ false → IsIndex problem slots (k + 1) values
index-skips problem slots k values value h at wrong = record {
  some = h.some;
  within = (let w = slice_get_within values k value at in omega arith);
  genuine = h.genuine;
  each = λ m v t lt here good last. elim (side m k) [
    | inl l ↦ h.each m v t l here good last
    | inr l ↦
        let same : m ≡ k = omega arith in
        let u : v ≡ value = (let f = ap (slice_get values) same in cc) in
        absurd (let f = ap (λ (x : C). is_contradiction problem (terms_in x.terms)) u in cc)
  ];
}

pub index-more : (problem : Problem) (slots : List (List ℕ)) (k : ℕ) (values : List C) (value : C) → IsIndex problem slots k values → slice_get values k ≡ Some value → is_contradiction problem (terms_in value.terms) ≡ true → IsIndex problem (slots_with (last_of value.terms) k slots) (k + 1) values
index-more problem slots k values value h at genuine = by (last_of value.terms) refl
  where
    by : (o : Option Term) → last_of value.terms ≡ o → IsIndex problem (slots_with o k slots) (k + 1) values
    by None e = record {
      some = h.some;
      within = (let w = slice_get_within values k value at in omega arith);
      genuine = h.genuine;
      each = λ m v t lt here good last. elim (side m k) [
        | inl l ↦ h.each m v t l here good last
        | inr l ↦ let same : m ≡ k = omega arith in let u : v ≡ value = (let f = ap (slice_get values) same in cc) in absurd (let f = ap (λ (x : C). last_of x.terms) u in cc)
      ];
    }
    by (Some term) e =
        let n = length slots in
        let s = slot_for n term in
        let old = slice_index_or slots s [] in
        let lt : s < n = slot_for-small n term h.some in
        let long = length-set slots s (old ++ k ∷ []) in record {
          some = (let b = h.some in omega arith);
          within = (let w = slice_get_within values k value at in omega arith);
          genuine = λ u m r. those s lt u m r;
          each = λ m v t less here good last. subst (λ (c : ℕ). Has (slice_index_or (set slots s (old ++ k ∷ [])) (slot_for c t) []) m) (sym long) (elim (side m k) [
            | inl l ↦ kept s (slot_for n t) lt m (h.each m v t l here good last)
            | inr l ↦
                let same : m ≡ k = omega arith in
                let u : v ≡ value = (let f = ap (slice_get values) same in cc) in
                let w : t ≡ term = (let f = ap (λ (x : C). last_of x.terms) u in cc) in
                subst (λ (d : ℕ). Has (slice_index_or (set slots s (old ++ k ∷ [])) (slot_for n t) []) d) (sym same)
                (subst (λ (x : Term). Has (slice_index_or (set slots s (old ++ k ∷ [])) (slot_for n x) []) k) (sym w) (subst (λ (l : List ℕ). Has l k) (sym (get_or-set_same slots s (old ++ k ∷ []) [] lt)) (has-last old k)))
          ]);
        }
      where
        kept : (s u : ℕ) → s < length slots → (m : ℕ) → Has (slice_index_or slots u []) m → Has (slice_index_or (set slots s (slice_index_or slots s [] ++ k ∷ [])) u []) m
        kept s u lt m r = elim (eqb_tells u s) [
          | inl e ↦ subst (λ (w : ℕ). Has (slice_index_or (set slots s (slice_index_or slots s [] ++ k ∷ [])) w []) m) (sym e.1)
              (subst (λ (l : List ℕ). Has l m) (sym (get_or-set_same slots s (slice_index_or slots s [] ++ k ∷ []) [] lt)) (has-longer (slice_index_or slots s []) m k (subst (λ (w : ℕ). Has (slice_index_or slots w []) m) e.1 r)))
          | inr e ↦ subst (λ (l : List ℕ). Has l m) (sym (get_or-set_other slots s u (slice_index_or slots s [] ++ k ∷ []) [] e.1)) r
        ]

        those : (s : ℕ) → s < length slots → (u m : ℕ) → Has (slice_index_or (set slots s (slice_index_or slots s [] ++ k ∷ [])) u []) m → IsGenuineAt problem values m
        those s lt u m r = elim (eqb_tells u s) [
          | inl e ↦
              let new : Has (slice_index_or (set slots s (slice_index_or slots s [] ++ k ∷ [])) s []) m = subst (λ (w : ℕ). Has (slice_index_or (set slots s (slice_index_or slots s [] ++ k ∷ [])) w []) m) e.1 r in
              elim (has-either (slice_index_or slots s []) m k (subst (λ (l : List ℕ). Has l m) (get_or-set_same slots s (slice_index_or slots s [] ++ k ∷ []) [] lt) new)) [
                | inl old ↦ h.genuine s m old
                | inr same ↦ subst (λ (d : ℕ). IsGenuineAt problem values d) same (value, at, genuine)
              ]
          | inr e ↦ h.genuine u m (subst (λ (l : List ℕ). Has l m) (get_or-set_other slots s u (slice_index_or slots s [] ++ k ∷ []) [] e.1) r)
        ]

pub index-grows : (problem : Problem) (slots : List (List ℕ)) (n : ℕ) (old new : List C) → IsIndex problem slots n old → Begins old new → IsIndex problem slots n new
index-grows problem slots n old new h b = record {
  some = h.some;
  within = (let a = h.within in let c = no-shorter old new b in omega arith);
  genuine = λ s k r. let g = h.genuine s k r in (g.0, still old new b k g.0 g.1, g.2);
  each = λ k value term lt at. h.each k value term lt (before old new b k value (let a = h.within in omega arith) at);
}

-- what refutes a prefix has its winners in it
made : (o : Option ℕ) (w : ℕ) → option_map_or (λ a. a == w) o false ≡ true → o ≡ Some w
made None w h = absurd (cc)
made (Some a) w h = ap Some (eqb-true a w h)

pub made-at : (q : List ℕ) (terms : List Term) (j : ℕ) (input : InId) (winner loser : ClassId) → refutes (terms_in terms) q ≡ true → slice_get terms j ≡ Some (Loser input winner loser) → slice_get q input.0 ≡ Some winner.0
made-at q [] j input winner loser h at = absurd (cc)
made-at q (x ∷ xs) zero input winner loser h at =
    let same : x ≡ Loser input winner loser = cc in
    let p = and_parts (is_made q (term_of x)) (refutes (terms_in xs) q) h in
    made (slice_get q input.0) winner.0 (subst (λ (y : Term). is_made q (term_of y) ≡ true) same p.0)
made-at q (x ∷ xs) (suc j) input winner loser h at = made-at q xs j input winner loser (and_parts (is_made q (term_of x)) (refutes (terms_in xs) q) h).1 at

none-genuine : (problem : Problem) → is_contradiction problem [] ≡ true → ⊥
unfolding is_contradiction
none-genuine problem h = cc

-- the last term of a value that cuts a prefix off
pub record HasLast (value : C) : Type 0 where
  pub term : Term
  pub last : last_of value.terms ≡ Some term

within-some : (xs : List Term) (j : ℕ) → j < length xs → (t : Term) × (slice_get xs j ≡ Some t)
within-some [] j lt = absurd (omega arith)
within-some (x ∷ xs) zero lt = (x, refl)
within-some (x ∷ xs) (suc j) lt = within-some xs j (omega arith)

hit-last : (problem : Problem) (q : List ℕ) (value : C) → cuts_off problem q value ≡ true → HasLast value
hit-last problem q value h =
    let p = and_parts (is_contradiction problem (terms_in value.terms)) (refutes (terms_in value.terms) q) h in
    let some : 0 < length value.terms = long value.terms p.0 in
    let t = within-some value.terms (length value.terms - 1) (omega arith) in
    record { term = t.0; last = t.1 }
  where
    long : (terms : List Term) → is_contradiction problem (terms_in terms) ≡ true → 0 < length terms
    long [] g = absurd (none-genuine problem g)
    long (x ∷ xs) g = omega arith

-- so far: `best` is the first place of a value that cuts the prefix off by a class from the i-th on
pub record IsEarliestTo (problem : Problem) (values : List C) (q : List ℕ) (i best : ℕ) : Type 0 where
  pub low : best ≤ length values
  pub hit : best < length values → CutsOffAt problem values q best
  pub first : (k : ℕ) (value : C) (input : InId) (winner loser : ClassId) → slice_get values k ≡ Some value → cuts_off problem q value ≡ true → last_of value.terms ≡ Some (Loser input winner loser) → i ≤ input.0 → best ≤ k

pub best-start : (problem : Problem) (values : List C) (q : List ℕ) (i n : ℕ) → length q ≤ i → n ≡ length values → IsEarliestTo problem values q i n
best-start problem values q i n past e = record {
  low = omega arith;
  hit = λ lt. absurd (omega arith);
  first = λ k value input winner loser at pass last lt.
      let p = and_parts (is_contradiction problem (terms_in value.terms)) (refutes (terms_in value.terms) q) pass in
      let w = slice_get_within q input.0 winner.0 (made-at q value.terms (length value.terms - 1) input winner loser p.1 last) in
      absurd (omega arith);
}

-- the first of `best` and of those in a slot that refute the prefix
pub record IsNearest (values : List C) (q : List ℕ) (slots : List (List ℕ)) (s best next : ℕ) : Type 0 where
  pub low : next ≤ best
  pub hit : next < best → Has (slice_index_or slots s []) next × RefutesAt values q next
  pub all : (k : ℕ) → Has (slice_index_or slots s []) k → RefutesAt values q k → next ≤ k

-- by the places as by their numbers
pub each-nearest : (values : List C) (q places : List ℕ) (next : ℕ) → ((j : ℕ) → j < length places → RefutesAt values q (slice_index places j) → next ≤ slice_index places j) → (k : ℕ) → Has places k → RefutesAt values q k → next ≤ k
each-nearest values q places next each k h r =
    let stands : slice_get values (slice_index places h.0) ≡ Some r.0 = subst (λ (d : ℕ). slice_get values d ≡ Some r.0) (sym h.2) r.1 in
    subst (λ (d : ℕ). next ≤ d) h.2 (each h.0 h.1 (r.0, stands, r.2))

pub nearest-cuts : (problem : Problem) (values : List C) (q : List ℕ) (slots : List (List ℕ)) (s best next : ℕ) → IsIndex problem slots (length values) values → (best < length values → CutsOffAt problem values q best)
    → IsNearest values q slots s best next → next < length values → CutsOffAt problem values q next
nearest-cuts problem values q slots s best next x before n lt = elim (side next best) [
  | inl l ↦
      let r = n.hit l in
      let g = x.genuine s next r.0 in
      let same : g.0 ≡ r.1.0 = (let e = g.1 in let f = r.1.1 in cc) in
      (r.1.0, r.1.1, and_from _ _ (subst (λ (v : C). is_contradiction problem (terms_in v.terms) ≡ true) same g.2) r.1.2)
  | inr l ↦ let low = n.low in let same : best ≡ next = omega arith in subst (CutsOffAt problem values q) same (before (omega arith))
]

-- what cuts the prefix off is not before the nearest of its slot
nearest-first : (problem : Problem) (values : List C) (q : List ℕ) (slots : List (List ℕ)) (best next k : ℕ) (value : C) (term : Term) → IsIndex problem slots (length values) values
    → slice_get values k ≡ Some value → cuts_off problem q value ≡ true → last_of value.terms ≡ Some term → IsNearest values q slots (slot_for (length slots) term) best next → next ≤ k
nearest-first problem values q slots best next k value term x stands pass last n =
    let p = and_parts (is_contradiction problem (terms_in value.terms)) (refutes (terms_in value.terms) q) pass in
    n.all k (x.each k value term (slice_get_within values k value stands) stands p.0 last) (value, stands, p.1)

pub best-more : (problem : Problem) (values : List C) (q : List ℕ) (slots : List (List ℕ)) (i a s best next : ℕ) → IsEarliestTo problem values q (i + 1) best → IsIndex problem slots (length values) values → slice_get q i ≡ Some a
    → s ≡ slot_of (length slots) i a → IsNearest values q slots s best next → IsEarliestTo problem values q i next
best-more problem values q slots i a s best next b x at here n = record {
  low = (let m = b.low in let l = n.low in omega arith);
  hit = nearest-cuts problem values q slots s best next x b.hit n;
  first = λ k value input winner loser stands pass last lt. elim (side i input.0) [
    | inl l ↦ let m = b.first k value input winner loser stands pass last (omega arith) in let low = n.low in omega arith
    | inr l ↦
        let e : input.0 ≡ i = omega arith in
        let p = and_parts (is_contradiction problem (terms_in value.terms)) (refutes (terms_in value.terms) q) pass in
        let m = made-at q value.terms (length value.terms - 1) input winner loser p.1 last in
        let w : winner.0 ≡ a = (let f = ap (slice_get q) e in cc) in
        let same : s ≡ slot_for (length slots) (Loser input winner loser) = here ∙ sym (ap (λ (d : ℕ). slot_of (length slots) d winner.0) e ∙ ap (λ (d : ℕ). slot_of (length slots) i d) w) in
        nearest-first problem values q slots best next k value (Loser input winner loser) x stands pass last (subst (λ (d : ℕ). IsNearest values q slots d best next) same n)
  ];
}

-- at last those of given pairs
pub best-all : (problem : Problem) (values : List C) (q : List ℕ) (slots : List (List ℕ)) (i s best next : ℕ) → IsEarliestTo problem values q i best → i ≡ 0 → IsIndex problem slots (length values) values → s ≡ length slots - 1
    → IsNearest values q slots s best next → (k : ℕ) → CutsOffAt problem values q k → next ≤ k
best-all problem values q slots i s best next b none x here n k h = by (hit-last problem q h.0 h.2).term (hit-last problem q h.0 h.2).last
  where
    by : (term : Term) → last_of h.0.terms ≡ Some term → next ≤ k
    by (Loser input winner loser) last = let m = b.first k h.0 input winner loser h.1 h.2 last (omega arith) in let low = n.low in omega arith
    by (Given j) last = nearest-first problem values q slots best next k h.0 (Given j) x h.1 h.2 last (subst (λ (d : ℕ). IsNearest values q slots d best next) here n)

-- the first place that is found is that of the first value that cuts the prefix off
pub first-is : (problem : Problem) (values : List C) (q : List ℕ) (first : ℕ) (value : C) → CutsOffAt problem values q first → slice_get values first ≡ Some value → ((k : ℕ) → CutsOffAt problem values q k → first ≤ k) → Some value ≡ value_for problem values q
first-is problem values q first value h at least =
    let same : h.0 ≡ value = (let e = h.1 in cc) in
    first-found (cuts_off problem q) values first value at (subst (λ (x : C). cuts_off problem q x ≡ true) same h.2) (λ j y lt here. never j y lt here (cuts_off problem q y) refl)
  where
    never : (j : ℕ) (y : C) → j < first → slice_get values j ≡ Some y → (b : Bool) → cuts_off problem q y ≡ b → cuts_off problem q y ≡ false
    never j y lt here false e = e
    never j y lt here true e = let m = least j (y, here, e) in absurd (omega arith)

pub none-is : (problem : Problem) (values : List C) (q : List ℕ) (first : ℕ) → length values ≤ first → ((k : ℕ) → CutsOffAt problem values q k → first ≤ k) → None ≡ value_for problem values q
none-is problem values q first past least = none-found (cuts_off problem q) values (λ j y here. never j y here (cuts_off problem q y) refl)
  where
    never : (j : ℕ) (y : C) → slice_get values j ≡ Some y → (b : Bool) → cuts_off problem q y ≡ b → cuts_off problem q y ≡ false
    never j y here false e = e
    never j y here true e = let m = least j (y, here, e) in let w = slice_get_within values j y here in absurd (omega arith)

pub class-at : (classes : List ClassId) (i : ℕ) (d : ClassId) → i < length classes → slice_get (class_numbers classes) i ≡ Some (get_or classes i d).0
class-at [] i d lt = absurd (omega arith)
class-at (x ∷ xs) zero d lt = refl
class-at (x ∷ xs) (suc i) d lt = class-at xs i d (omega arith)

pub any-default : (slots : List (List ℕ)) (k : ℕ) (d e : List ℕ) → k < length slots → get_or slots k d ≡ get_or slots k e
any-default [] k d e lt = absurd (omega arith)
any-default (x ∷ xs) zero d e lt = refl
any-default (x ∷ xs) (suc k) d e lt = any-default xs k d e (omega arith)
