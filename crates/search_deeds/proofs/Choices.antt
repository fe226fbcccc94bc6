-- The last choice that the terms of a contradiction ask for; and that the index holds the places of all that refute a prefix.
use Rattle.std.proofs.Common.{◌≡◌, ◌≢◌, ◌⊎◌, ℕ, zero, suc, ◌+◌, ◌*◌, ◌<◌, ◌≤◌, List, [], ◌∷◌, ◌++◌, Bool, true, false, not, ◌||◌, ◌==◌, arith, refl, sym, ◌∙◌, ap, inl, inr, length, take, set, get_or, slice_index, Option, Some, None}
use Rattle.std.specs.Prelude.{All, Contains, nat_lt, slice_get, slice_index_or}
use Rattle.std.specs.List.{list_all, list_any}
use Rattle.std.specs.Option.{option_map_or}
use Rattle.std.proofs.lemmas.Bool.{and_parts, and_from, cases_Bool, cases_lt, cases_eq, eq-eqb, le-leb, leb-true, eqb-true, or_cases, or_left, or_right, ltb-true}
use Rattle.std.proofs.lemmas.List.{length-map, get_or-take, get_or-set_same, get_or-set_other, get_or_append_left, get_or_at, length-take-le, length_push, length-set, get_or_default, get_or-map}
use Rattle.std.proofs.lemmas.List.Elements.{All-nil, All-weaker, All-push, Contains-push, Contains-append_left}
use Rattle.std.proofs.lemmas.List.Sums.{position_or_len_is}
use Rattle.std.proofs.lemmas.List.Folds.{list_all-append, list_any-append}
use Rattle.std.proofs.lemmas.Nat.{mul-add-lt}
use Rattle.ot_theory.specs.Problems.{Problem}
use Rattle.ot_theory.specs.Languages.{Term, Loser, Given, classes_at, refuted}
use Rattle.ot_theory.specs.Refutations.{agree, is_contradiction, is_term, one_winner_each, refutes}
pub use Rattle.ot_theory.specs.Refutations.{is_made}
use Rattle.ot_theory.proofs.WinnerTerms.{agree-tells}
use Rattle.ot_theory.proofs.Certificates.{all-weaker, contradiction-refutes}
use Rattle.violation_profiles.specs.WellFormed.{IsPrefix, IsWellFormed}
use Rattle.violation_profiles.proofs.Inputs.{AllFit-prefix}
use Rattle.refutation.specs.declared.term.Term as rust
use Rattle.refutation.specs.declared.term.Term.TheVariants as rust_terms
use Rattle.refutation.specs.declared.contradiction.Contradiction.{Contradiction}
use Rattle.ot_base.specs.declared.tableau.ClassId.{ClassId}
use Rattle.refutation.specs.Prefixes.{class_numbers}
use Rattle.refutation.specs.Terms.{term_of, terms_in}
use Rattle.refutation.specs.Typologies.{certificates_of}
use Rattle.search_deeds.specs.Gathered.{first_refuting}
use Rattle.search_deeds.specs.Indexed.{are_given, is_given, is_last, is_up_to, IsAscending, HoldsRefuting, IsBucket, IsLaidOut, IsIndex, IsLastOf}
pub use Rattle.search_deeds.specs.Indexed.{gives}

-- ---- what a prefix makes
pub made_at : (prefix : List ℕ) (i w : ℕ) → option_map_or (λ a. a == w) (slice_get prefix i) false ≡ true → (i < length prefix) × (slice_index prefix i ≡ w)
made_at [] i w h = absurd (cc)
made_at (x ∷ prefix) zero w h = (omega arith, eqb-true x w h)
made_at (x ∷ prefix) (suc i) w h = let r = made_at prefix i w h in (omega (arith, r.0), r.1)

made_front : (prefix : List ℕ) (i w k : ℕ) → i < k → option_map_or (λ a. a == w) (slice_get prefix i) false ≡ true → option_map_or (λ a. a == w) (slice_get (take k prefix) i) false ≡ true
made_front [] i w k b h = absurd (cc)
made_front (x ∷ prefix) i w zero b h = absurd (omega arith)
made_front (x ∷ prefix) zero w (suc k) b h = h
made_front (x ∷ prefix) (suc i) w (suc k) b h = made_front prefix i w k (omega arith) h

-- no term gives the last input its last class: so a shorter front makes them all
earlier : (prefix : List ℕ) (k : ℕ) (terms : List Term) → length prefix ≡ suc k → refutes terms prefix ≡ true → list_any (gives k (slice_index prefix k)) terms ≡ false → refutes terms (take k prefix) ≡ true
earlier prefix k [] long h none = refl
earlier prefix k (t ∷ terms) long h none =
    let parts = and_parts (is_made prefix t) (refutes terms prefix) h in
    let no = both_false (gives k (slice_index prefix k) t) (list_any (gives k (slice_index prefix k)) terms) none in
    and_from _ _ (still t parts.0 no.0) (earlier prefix k terms long parts.1 no.1)
  where
    both_false : (a b : Bool) → (a || b) ≡ false → (a ≡ false) × (b ≡ false)
    both_false true b h = absurd (cc)
    both_false false b h = (refl, h)

    still : (t : Term) → is_made prefix t ≡ true → gives k (slice_index prefix k) t ≡ false → is_made (take k prefix) t ≡ true
    still (Given j) made other = refl
    still (Loser i a b) made other =
        let at = made_at prefix i a made in
        let before : i < k = elim (cases_eq i k) [
          | inl same ↦ absurd (let yes : gives k (slice_index prefix k) (Loser i a b) ≡ true = and_from _ _ (eq-eqb i k same) (eq-eqb a (slice_index prefix k) (sym at.1 ∙ ap (slice_index prefix) same)) in
              let bad : true ≡ false = sym yes ∙ other in cc)
          | inr apart ↦ omega (arith, apart, at.0)
        ] in
        made_front prefix i a k before made

no_later : (prefix : List ℕ) (k : ℕ) (terms : List Term) → length prefix ≡ suc k → refutes terms prefix ≡ true → list_all (is_up_to k) terms ≡ true
no_later prefix k terms long h = all-weaker (is_made prefix) (is_up_to k) terms within h
  where
    within : (t : Term) → is_made prefix t ≡ true → is_up_to k t ≡ true
    within (Loser i a b) made = le-leb i k (omega (arith, (made_at prefix i a made).0))
    within (Given j) made = refl

IsPrefix-take : (problem : Problem) (prefix : List ℕ) (k : ℕ) → k ≤ length prefix → IsPrefix problem prefix → IsPrefix problem (take k prefix)
IsPrefix-take problem prefix k short h = record {
  short = omega (arith, length-take-le k prefix short, h.short);
  within = λ i b. let below : i < k = omega (arith, length-take-le k prefix short) in rw (get_or-take k prefix i 0 below) (h.within i (omega arith));
}

-- What refutes a prefix, but no shorter front, gives its last input its last class as the winner, and no later input any.
pub last-refuting : (problem : Problem) (prefix : List ℕ) (k : ℕ) (terms : List Term) → IsWellFormed problem → IsPrefix problem prefix → length prefix ≡ suc k → refuted problem (take k prefix) ≡ false
    → is_contradiction problem terms ≡ true → refutes terms prefix ≡ true → is_last terms k (slice_index prefix k) ≡ true
last-refuting problem prefix k terms well p long holds genuine h = elim (cases_Bool (list_any (gives k (slice_index prefix k)) terms)) [
  | inl some ↦ and_from _ _ some (no_later prefix k terms long h)
  | inr none ↦
      let front = IsPrefix-take problem prefix k (omega arith) p in
      let gone = contradiction-refutes problem terms (take k prefix) (AllFit-prefix problem (take k prefix) well front) genuine (earlier prefix k terms long h none) in
      let bad : true ≡ false = sym gone ∙ holds in absurd (cc)
]

-- ---- what refutes the empty prefix has given pairs alone
made-none : (t : Term) → is_made [] t ≡ true → is_given t ≡ true
made-none (Loser i a b) h = let no : false ≡ true = h in absurd (cc)
made-none (Given k) h = refl

pub HoldsRefuting-none : (problem : Problem) (certificates : List (List Term)) (widest : ℕ) (places : List (List ℕ)) → IsIndex problem certificates widest places → HoldsRefuting certificates [] (slice_index_or places (length problem.inputs * widest) [])
HoldsRefuting-none problem certificates widest places index = record {
  ascending = index.ascending (length problem.inputs * widest);
  within = index.within (length problem.inputs * widest);
  complete = λ m b h. index.alone m b (all-weaker (is_made []) is_given (get_or certificates m []) made-none h);
}

pub HoldsRefuting-index : (problem : Problem) (certificates : List (List Term)) (widest : ℕ) (places : List (List ℕ)) (prefix : List ℕ) (k : ℕ) → IsWellFormed problem → IsPrefix problem prefix → length prefix ≡ suc k
    → refuted problem (take k prefix) ≡ false → IsIndex problem certificates widest places → All (λ terms. is_contradiction problem terms ≡ true) certificates
    → HoldsRefuting certificates prefix (slice_index_or places (k * widest + slice_index prefix k) [])
HoldsRefuting-index problem certificates widest places prefix k well p long holds index genuine = record {
  ascending = index.ascending (k * widest + slice_index prefix k);
  within = index.within (k * widest + slice_index prefix k);
  complete = λ m b h. index.complete m k (slice_index prefix k) b (last-refuting problem prefix k (get_or certificates m []) well p long holds (genuine m [] b) h)
      (omega (arith, p.within k (omega arith), index.laid_out.wide k (omega (arith, p.short))));
}

-- ---- the place of a class of an input
pub place-within : (inputs widest k a : ℕ) → k < inputs → a < widest → k * widest + a < inputs * widest
place-within inputs widest k a b c = omega (arith, mul-add-lt k widest a inputs b c)

-- ---- one certificate more
abbrev pub nothing : Term
nothing = Loser 0 0 0

-- a term that gives an input a winner
pub record Giving (terms : List Term) (i a : ℕ) : Type 0 where
  pub loser : ℕ
  pub stands : (q : Term → Bool) → list_all q terms ≡ true → q (Loser i a loser) ≡ true

pub giving : (terms : List Term) (i a : ℕ) → list_any (gives i a) terms ≡ true → Giving terms i a
giving [] i a h = absurd (cc)
giving (Loser j c b ∷ terms) i a h = elim (or_cases (gives i a (Loser j c b)) (list_any (gives i a) terms) h) [
  | inl here ↦
      let parts = and_parts (j == i) (c == a) here in
      let input : j ≡ i = eqb-true j i parts.0 in
      let winner : c ≡ a = eqb-true c a parts.1 in
      record { loser = b; stands = λ q all. rw (input, winner) at (and_parts (q (Loser j c b)) (list_all q terms) all).0 }
  | inr later ↦ let g = giving terms i a later in record { loser = g.loser; stands = λ q all. g.stands q (and_parts _ _ all).1 }
]
giving (Given k ∷ terms) i a h = let g = giving terms i a h in record { loser = g.loser; stands = λ q all. g.stands q (and_parts _ _ all).1 }

-- what is given alone has no last choice
given-alone : (terms : List Term) (i a : ℕ) → are_given terms ≡ true → is_last terms i a ≡ true → ⊥
given-alone terms i a alone last =
    let g = giving terms i a (and_parts (list_any (gives i a) terms) (list_all (is_up_to i) terms) last).0 in
    let no : false ≡ true = g.stands is_given alone in
    cc

pub is_last-once : (terms : List Term) (i a j b : ℕ) → is_last terms i a ≡ true → is_last terms j b ≡ true → one_winner_each terms ≡ true → (i ≡ j) × (a ≡ b)
is_last-once terms i a j b p q one =
    let pa = and_parts (list_any (gives i a) terms) (list_all (is_up_to i) terms) p in
    let pb = and_parts (list_any (gives j b) terms) (list_all (is_up_to j) terms) q in
    let f = giving terms i a pa.0 in
    let g = giving terms j b pb.0 in
    let low : i ≤ j = leb-true i j (f.stands (is_up_to j) pb.1) in
    let high : j ≤ i = leb-true j i (g.stands (is_up_to i) pa.1) in
    let agreed : agree (Loser i a f.loser) (Loser j b g.loser) ≡ true = g.stands (agree (Loser i a f.loser)) (f.stands (λ s. list_all (agree s) terms) one) in
    let same : i ≡ j = omega arith in
    (same, agree-tells i a f.loser j b g.loser agreed same)

one_each : (problem : Problem) (terms : List Term) → is_contradiction problem terms ≡ true → one_winner_each terms ≡ true
unfolding is_contradiction
one_each problem terms h = (and_parts _ _ (and_parts _ _ h).0).1

-- what is pushed onto one list of places
record IsPushed (old new : List (List ℕ)) (at n : ℕ) : Type 0 where
  here : slice_index_or new at [] ≡ slice_index_or old at [] ++ n ∷ []
  others : (b : ℕ) → b ≢ at → slice_index_or new b [] ≡ slice_index_or old b []

ascending-push : (bucket : List ℕ) (n : ℕ) → IsAscending bucket → All (λ place. place < n) bucket → IsAscending (bucket ++ n ∷ [])
ascending-push bucket n up below j k early within =
    let long = length_push bucket n in
    elim (cases_lt k (length bucket)) [
      | inl less ↦ rw (get_or_append_left bucket (n ∷ []) 0 j (omega arith), get_or_append_left bucket (n ∷ []) 0 k less) (up j k early less)
      | inr most ↦
          let e : k ≡ length bucket = omega arith in
          rw (get_or_append_left bucket (n ∷ []) 0 j (omega arith), e, get_or_at bucket n [] 0 (length bucket) refl) (below j 0 (omega arith))
    ]

pushed : (problem : Problem) (certificates : List (List Term)) (widest : ℕ) (old new : List (List ℕ)) (terms : List Term) (at : ℕ) → IsIndex problem certificates widest old → IsLaidOut problem widest new
    → IsBucket problem widest terms at → IsPushed old new at (length certificates) → IsIndex problem (certificates ++ terms ∷ []) widest new
pushed problem certificates widest old new terms at h laid bucket p = record {
  laid_out = laid;
  ascending = λ b. elim (cases_eq b at) [
    | inl same ↦ rw (same, p.here) (ascending-push (slice_index_or old at []) (length certificates) (h.ascending at) (h.within at))
    | inr other ↦ rw (p.others b other) (h.ascending b)
  ];
  within = λ b. elim (cases_eq b at) [
    | inl same ↦ rw (same, p.here) (All-push (λ place. place < length (certificates ++ terms ∷ [])) (slice_index_or old at []) (length certificates) (wider at) (omega (arith, longer)))
    | inr other ↦ rw (p.others b other) (wider b)
  ];
  complete = λ m j b below is small. elim (cases_lt m (length certificates)) [
    | inl before ↦ kept m (j * widest + b) (h.complete m j b before (rw (get_or_append_left certificates (terms ∷ []) [] m before) at is) small)
    | inr behind ↦
        let e : m ≡ length certificates = omega (arith, longer) in
        let same : j * widest + b ≡ at = bucket.choice j b (rw (its m e) at is) in
        rw (same, p.here, e) (Contains-push (slice_index_or old at []) (length certificates))
  ];
  alone = λ m below is. elim (cases_lt m (length certificates)) [
    | inl before ↦ kept m (length problem.inputs * widest) (h.alone m before (rw (get_or_append_left certificates (terms ∷ []) [] m before) at is))
    | inr behind ↦
        let e : m ≡ length certificates = omega (arith, longer) in
        let same : length problem.inputs * widest ≡ at = bucket.alone (rw (its m e) at is) in
        rw (same, p.here, e) (Contains-push (slice_index_or old at []) (length certificates))
  ];
}
  where
    longer : length (certificates ++ terms ∷ []) ≡ length certificates + 1
    longer = length_push certificates terms

    its : (m : ℕ) → m ≡ length certificates → get_or (certificates ++ terms ∷ []) m [] ≡ terms
    its m e = rw e (get_or_at certificates terms [] [] (length certificates) refl)

    wider : (b : ℕ) → All (λ place. place < length (certificates ++ terms ∷ [])) (slice_index_or old b [])
    wider b = All-weaker (λ place. place < length certificates) (λ place. place < length (certificates ++ terms ∷ [])) (λ place l. omega (arith, longer)) (slice_index_or old b []) (h.within b)

    kept : (m b : ℕ) → Contains (slice_index_or old b []) m → Contains (slice_index_or new b []) m
    kept m b c = elim (cases_eq b at) [
      | inl same ↦ rw (same, p.here) (rw same at (Contains-append_left (slice_index_or old b []) (length certificates ∷ []) m c))
      | inr other ↦ rw (p.others b other) c
    ]

pub IsIndex-push : (problem : Problem) (certificates : List (List Term)) (widest : ℕ) (old new : List (List ℕ)) (terms : List Term) (at : ℕ) → IsIndex problem certificates widest old
    → IsBucket problem widest terms at → at < length old
    → new ≡ set old at (slice_index_or old at [] ++ length certificates ∷ []) → IsIndex problem (certificates ++ terms ∷ []) widest new
IsIndex-push problem certificates widest old new terms at h its within e =
    let bucket : List ℕ = slice_index_or old at [] ++ length certificates ∷ [] in
    let laid : IsLaidOut problem widest new = record { wide = h.laid_out.wide; long = rw (e, length-set old at bucket) h.laid_out.long } in
    pushed problem certificates widest old new terms at h laid its (record {
      here = rw e (get_or-set_same old at bucket [] within);
      others = λ b other. rw e (get_or-set_other old at b bucket [] other);
    })

-- the bucket of the last choice of a contradiction, and that of given pairs alone
pub IsBucket-choice : (problem : Problem) (widest : ℕ) (terms : List Term) (i a : ℕ) → is_contradiction problem terms ≡ true → is_last terms i a ≡ true → IsBucket problem widest terms (i * widest + a)
IsBucket-choice problem widest terms i a genuine last = record {
  choice = λ j b other. let same = is_last-once terms j b i a other last (one_each problem terms genuine) in rw (same.0, same.1) refl;
  alone = λ given. absurd (given-alone terms i a given last);
}

pub IsBucket-alone : (problem : Problem) (widest : ℕ) (terms : List Term) → are_given terms ≡ true → IsBucket problem widest terms (length problem.inputs * widest)
IsBucket-alone problem widest terms given = record { choice = λ i a last. absurd (given-alone terms i a given last); alone = λ h. refl }

pub IsIndex-none : (problem : Problem) (widest : ℕ) (places : List (List ℕ)) → IsLaidOut problem widest places → ((b : ℕ) → slice_index_or places b [] ≡ []) → IsIndex problem [] widest places
IsIndex-none problem widest places laid none = record {
  laid_out = laid;
  ascending = λ b j k l u. absurd (omega (arith, ap (λ (bucket : List ℕ). length bucket) (none b)));
  within = λ b. rw (none b) (All-nil (λ place. place < 0));
  complete = λ m i a b h c. absurd (omega arith);
  alone = λ m b h. absurd (omega arith);
}

-- ---- the first of the places whose certificate refutes the prefix is the first of all
pub first-found : (certificates : List (List Term)) (prefix places : List ℕ) (k : ℕ) → HoldsRefuting certificates prefix places → k < length places
    → ((j : ℕ) → j < k → refutes (get_or certificates (slice_index places j) []) prefix ≡ false) → refutes (get_or certificates (slice_index places k) []) prefix ≡ true
    → first_refuting certificates prefix ≡ slice_index places k
first-found certificates prefix places k h within none some =
    position_or_len_is (λ terms. refutes terms prefix) certificates (slice_index places k) [] (omega (arith, h.within k 0 within)) (λ m below. before m below (cases_Bool (refutes (get_or certificates m []) prefix))) (λ l. some)
  where
    before : (m : ℕ) → m < slice_index places k → (refutes (get_or certificates m []) prefix ≡ true) ⊎ (refutes (get_or certificates m []) prefix ≡ false) → refutes (get_or certificates m []) prefix ≡ false
    before m below (inr fails) = fails
    before m below (inl passes) =
        let c = h.complete m (omega (arith, h.within k 0 within)) passes in
        let at : slice_index places c.0 ≡ m = get_or_default places c.0 0 m c.1 ∙ c.2 in
        let early : c.0 < k = elim (cases_lt c.0 k) [
          | inl less ↦ less
          | inr more ↦ elim (cases_eq c.0 k) [
            | inl same ↦ absurd (omega (arith, at, ap (slice_index places) same))
            | inr other ↦ absurd (omega (arith, at, h.ascending k c.0 (omega arith) c.1))
          ]
        ] in
        absurd (let no : true ≡ false = sym passes ∙ sym (ap (λ (x : ℕ). refutes (get_or certificates x []) prefix) at) ∙ none c.0 early in cc)

pub first-none : (certificates : List (List Term)) (prefix places : List ℕ) → HoldsRefuting certificates prefix places → ((j : ℕ) → j < length places → refutes (get_or certificates (slice_index places j) []) prefix ≡ false)
    → first_refuting certificates prefix ≡ length certificates
first-none certificates prefix places h none =
    position_or_len_is (λ terms. refutes terms prefix) certificates (length certificates) [] (omega arith) (λ m below. before m below (cases_Bool (refutes (get_or certificates m []) prefix))) (λ l. absurd (omega arith))
  where
    before : (m : ℕ) → m < length certificates → (refutes (get_or certificates m []) prefix ≡ true) ⊎ (refutes (get_or certificates m []) prefix ≡ false) → refutes (get_or certificates m []) prefix ≡ false
    before m below (inr fails) = fails
    before m below (inl passes) =
        let c = h.complete m below passes in
        let at : slice_index places c.0 ≡ m = get_or_default places c.0 0 m c.1 ∙ c.2 in
        absurd (let no : true ≡ false = sym passes ∙ sym (ap (λ (x : ℕ). refutes (get_or certificates x []) prefix) at) ∙ none c.0 c.1 in cc)

-- ---- walking the terms for the last choice
both-all : (q : Term → Bool) (terms : List Term) (t : Term) → list_all q terms ≡ true → q t ≡ true → list_all q (terms ++ t ∷ []) ≡ true
both-all q terms t h here = list_all-append q terms (t ∷ []) ∙ and_from _ _ h (and_from _ _ here refl)

-- a term with a winner of an input that is not earlier
pub last-taken : (terms : List Term) (i a b : ℕ) → list_all (is_up_to i) terms ≡ true → is_last (terms ++ Loser i a b ∷ []) i a ≡ true
last-taken terms i a b up =
    and_from _ _
    (list_any-append (gives i a) terms (Loser i a b ∷ []) ∙ or_right (list_any (gives i a) terms) _ (or_left (gives i a (Loser i a b)) false (and_from _ _ (eq-eqb i i refl) (eq-eqb a a refl))))
    (both-all (is_up_to i) terms (Loser i a b) up (le-leb i i (omega arith)))

-- a term with a winner of no later input
pub last-kept : (terms : List Term) (t : Term) (i a : ℕ) → is_last terms i a ≡ true → is_up_to i t ≡ true → is_last (terms ++ t ∷ []) i a ≡ true
last-kept terms t i a h up =
    let parts = and_parts (list_any (gives i a) terms) (list_all (is_up_to i) terms) h in
    and_from _ _ (list_any-append (gives i a) terms (t ∷ []) ∙ or_left (list_any (gives i a) terms) _ parts.0) (both-all (is_up_to i) terms t parts.1 up)

pub up-given : (terms : List Term) (i : ℕ) → are_given terms ≡ true → list_all (is_up_to i) terms ≡ true
up-given terms i h = all-weaker is_given (is_up_to i) terms within h
  where
    within : (t : Term) → is_given t ≡ true → is_up_to i t ≡ true
    within (Loser j c b) h = let no : false ≡ true = h in absurd (cc)
    within (Given k) h = refl

pub up-later : (terms : List Term) (i j : ℕ) → i ≤ j → list_all (is_up_to i) terms ≡ true → list_all (is_up_to j) terms ≡ true
up-later terms i j more h = all-weaker (is_up_to i) (is_up_to j) terms within h
  where
    within : (t : Term) → is_up_to i t ≡ true → is_up_to j t ≡ true
    within (Loser k c b) h = le-leb k j (omega (arith, more, leb-true k i h))
    within (Given k) h = refl

pub last-given : (terms : List Term) (k : ℕ) (last : Option (ℕ × ℕ)) → IsLastOf terms last → IsLastOf (terms ++ Given k ∷ []) last
last-given terms k None h = both-all is_given terms (Given k) h refl
last-given terms k (Some (i, a)) h = last-kept terms (Given k) i a h refl

each_term : (problem : Problem) (terms : List Term) → is_contradiction problem terms ≡ true → list_all (is_term problem) terms ≡ true
unfolding is_contradiction
each_term problem terms h = (and_parts _ _ (and_parts _ _ (and_parts _ _ h).0).0).1

-- ---- the last choice is one of the problem
pub last-within : (problem : Problem) (terms : List Term) (i a : ℕ) → is_contradiction problem terms ≡ true → is_last terms i a ≡ true → (i < length problem.inputs) × (a < length (classes_at problem i))
last-within problem terms i a genuine last =
    let f = giving terms i a (and_parts (list_any (gives i a) terms) (list_all (is_up_to i) terms) last).0 in
    let is : is_term problem (Loser i a f.loser) ≡ true = f.stands (is_term problem) (each_term problem terms genuine) in
    let three = and_parts _ (not (f.loser == a)) is in
    let two = and_parts _ (nat_lt f.loser (length (classes_at problem i))) three.0 in
    let one = and_parts (nat_lt i (length problem.inputs)) (nat_lt a (length (classes_at problem i))) two.0 in
    (ltb-true i (length problem.inputs) one.0, ltb-true a (length (classes_at problem i)) one.1)

-- ---- the terms of the program
abbrev pub no_term : rust.Term
no_term = rust_terms.Loser (record { 0 = 0 }) (record { 0 = 0 }) (record { 0 = 0 })

pub term-at : (terms : List rust.Term) (k : ℕ) → k < length terms → get_or (terms_in terms) k nothing ≡ term_of (get_or terms k no_term)
term-at terms k within = get_or-map term_of terms k no_term nothing within

-- the terms of a certificate at a place
pub certificate-at : (certificates : List Contradiction) (k : ℕ) (d : Contradiction) → k < length certificates → get_or (certificates_of certificates) k [] ≡ terms_in (get_or certificates k d).terms
certificate-at certificates k d within = get_or-map (λ (c : Contradiction). terms_in c.terms) certificates k d [] within

pub class-at : (classes : List ClassId) (k : ℕ) → k < length classes → slice_index (class_numbers classes) k ≡ (get_or classes k (record { 0 = 0 })).0
class-at classes k within = get_or-map (λ (class : ClassId). class.0) classes k (record { 0 = 0 }) 0 within

-- the place of the last class of a prefix
pub last_place-within : (problem : Problem) (classes : List ClassId) (widest k : ℕ) (places : List (List ℕ)) → k + 1 ≡ length classes → IsPrefix problem (class_numbers classes) → IsLaidOut problem widest places
    → k * widest + (get_or classes k (record { 0 = 0 })).0 < length places
last_place-within problem classes widest k places last prefix laid_out =
    let within : k < length classes = omega arith in
    let long : length (class_numbers classes) ≡ length classes = length-map classes (λ (class : ClassId). class.0) in
    let input : k < length problem.inputs = omega (arith, long, prefix.short) in
    let class : slice_index (class_numbers classes) k < widest = omega (arith, long, prefix.within k (omega (arith, long)), laid_out.wide k input) in
    omega (arith, class-at classes k within, place-within (length problem.inputs) widest k (slice_index (class_numbers classes) k) input class, laid_out.long)
