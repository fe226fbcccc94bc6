-- What the loops count: the cuts that name each certificate, and how often they are judged.
use Rattle.std.proofs.Common.{◌≡◌, ◌≢◌, ℕ, zero, suc, ◌+◌, ◌-◌, ◌*◌, ◌^◌, ◌<◌, ◌≤◌, ◌⊎◌, List, [], ◌∷◌, ◌++◌, Bool, ◌==◌, arith, refl, sym, ◌∙◌, ap, subst, cond, inl, inr, length, length-append, append_assoc, map, flat_map, get_or, min, set, take, replicate}
use Rattle.std.specs.List.{filter, range_with_len}
use Rattle.std.proofs.lemmas.Bool.{cases_Bool, cases_eq, eq-eqb, ne_eqb}
use Rattle.std.proofs.lemmas.List.{append-nil, ext_get_or, get_or-map, get_or-replicate, get_or-set_other, get_or-set_same, length-map, length-replicate, length-set, length-take-le, map-append, map-id, map-set, take_more}
use Rattle.std.proofs.lemmas.List.Concat.{flat_map-append}
use Rattle.std.proofs.lemmas.List.Elements.{filter-append}
use Rattle.std.proofs.lemmas.List.FromFn.{get_or-map-range_with_len, length-map-range_with_len, map-range_with_len_more}
use Rattle.std.proofs.lemmas.List.Sums.{sum_by-append, sum_by-cons}
use Rattle.ot_theory.specs.Rankings.{numbers_below}
use Rattle.refutation.specs.Typologies.{cuts_of}
use Rattle.refutation.specs.declared.typology.Cut.{Cut}
use Rattle.typology_core.specs.Judged.{AreTallies, IsCount, IsTally, learns_of, named_of}
use Rattle.typology_core.specs.Learned.{all_named, named_by, naming, of_length, times_judged, total_of, with_one}
use Rattle.typology_core.specs.declared.learning.Count.{Count}
use Rattle.typology_core.specs.declared.learning.Named.{Named}
use Rattle.typology_core.specs.declared.learning.Tally.{Tally}

-- ---- the cuts that name each certificate
same-all : (s n : ℕ) → replicate n (let none : ℕ × ℕ = (0, 0) in none) ≡ map (λ j. named_by (naming [] j)) (range_with_len s n)
same-all s zero = refl
same-all s (suc n) = ap (λ (l : List (ℕ × ℕ)). (0, 0) ∷ l) (same-all (s + 1) n)

none-of : (n : ℕ) → named_of (replicate n (record { length = 0; cuts = 0 })) ≡ replicate n (0, 0)
none-of zero = refl
none-of (suc n) = ap (λ (l : List (ℕ × ℕ)). (0, 0) ∷ l) (none-of n)

pub named-none : (n : ℕ) → named_of (replicate n (record { length = 0; cuts = 0 })) ≡ all_named [] n
named-none n = none-of n ∙ same-all 0 n

named-push : (xs : List (List ℕ × ℕ)) (c : List ℕ × ℕ) → named_by (xs ++ c ∷ []) ≡ with_one (named_by xs) (length c.0)
named-push [] c = refl
named-push (x ∷ xs) c =
    let e : length (xs ++ c ∷ []) ≡ length xs + 1 = length-append xs (c ∷ []) in
    let f : suc (length (xs ++ c ∷ [])) ≡ suc (length xs) + 1 = omega (arith, e) in
    rw (ne_eqb (suc (length xs)) 0 (λ z. omega (arith, z))) (ap (λ (n : ℕ). (length x.0, n)) f)

naming-push : (xs : List (List ℕ × ℕ)) (c : List ℕ × ℕ) (j : ℕ) → naming (xs ++ c ∷ []) j ≡ naming xs j ++ cond (c.1 == j) (c ∷ []) []
naming-push xs c j = filter-append (λ (cut : List ℕ × ℕ). cut.1 == j) xs (c ∷ [])

named-here : (xs : List (List ℕ × ℕ)) (c : List ℕ × ℕ) (j : ℕ) → c.1 ≡ j → named_by (naming (xs ++ c ∷ []) j) ≡ with_one (named_by (naming xs j)) (length c.0)
named-here xs c j e =
    ap named_by (naming-push xs c j) ∙ ap (λ (b : Bool). named_by (naming xs j ++ cond b (c ∷ []) [])) (eq-eqb c.1 j e) ∙ named-push (naming xs j) c

named-other : (xs : List (List ℕ × ℕ)) (c : List ℕ × ℕ) (j : ℕ) → c.1 ≢ j → named_by (naming (xs ++ c ∷ []) j) ≡ named_by (naming xs j)
named-other xs c j e =
    ap named_by (naming-push xs c j) ∙ ap (λ (b : Bool). named_by (naming xs j ++ cond b (c ∷ []) [])) (ne_eqb c.1 j e) ∙ ap named_by (append-nil (naming xs j))

named-at : (xs : List (List ℕ × ℕ)) (n j : ℕ) → j < n → get_or (all_named xs n) j (0, 0) ≡ named_by (naming xs j)
named-at xs n j below = get_or-map-range_with_len (λ j. named_by (naming xs j)) 0 n j j (0, 0) below (omega arith)

all_named-long : (xs : List (List ℕ × ℕ)) (n : ℕ) → length (all_named xs n) ≡ n
all_named-long xs n = length-map-range_with_len (λ j. named_by (naming xs j)) 0 n

all_named-push : (xs : List (List ℕ × ℕ)) (c : List ℕ × ℕ) (n : ℕ) → c.1 < n → all_named (xs ++ c ∷ []) n ≡ set (all_named xs n) c.1 (with_one (get_or (all_named xs n) c.1 (0, 0)) (length c.0))
all_named-push xs c n within =
    let one = with_one (get_or (all_named xs n) c.1 (0, 0)) (length c.0) in
    ext_get_or (0, 0) (all_named (xs ++ c ∷ []) n) (set (all_named xs n) c.1 one) (all_named-long (xs ++ c ∷ []) n ∙ sym (length-set (all_named xs n) c.1 one ∙ all_named-long xs n))
    (λ i below. at i (omega (arith, below, all_named-long (xs ++ c ∷ []) n)))
  where
    at : (i : ℕ) → i < n → get_or (all_named (xs ++ c ∷ []) n) i (0, 0) ≡ get_or (set (all_named xs n) c.1 (with_one (get_or (all_named xs n) c.1 (0, 0)) (length c.0))) i (0, 0)
    at i below = elim (cases_eq c.1 i) [
      | inl same ↦
          named-at (xs ++ c ∷ []) n i below ∙ named-here xs c i same
          ∙ ap (λ (e : ℕ × ℕ). with_one e (length c.0)) (sym (named-at xs n i below) ∙ ap (λ (j : ℕ). get_or (all_named xs n) j (0, 0)) (sym same))
          ∙ sym (get_or-set_same (all_named xs n) c.1 (with_one (get_or (all_named xs n) c.1 (0, 0)) (length c.0)) (0, 0) (omega (arith, within, all_named-long xs n)))
          ∙ ap (λ (j : ℕ). get_or (set (all_named xs n) c.1 (with_one (get_or (all_named xs n) c.1 (0, 0)) (length c.0))) j (0, 0)) same
      | inr other ↦
          named-at (xs ++ c ∷ []) n i below ∙ named-other xs c i other ∙ sym (named-at xs n i below)
          ∙ sym (get_or-set_other (all_named xs n) c.1 i (with_one (get_or (all_named xs n) c.1 (0, 0)) (length c.0)) (0, 0) (λ e. other (sym e)))
    ]

-- ---- certificates of a length
told-more : (n : ℕ) (xs : List Named) (x : Named) → of_length n (named_of (xs ++ x ∷ [])) ≡ of_length n (named_of xs) ++ cond (x.length == n) ((x.length, x.cuts) ∷ []) []
told-more n xs x = ap (of_length n) (map-append (λ (c : Named). (c.length, c.cuts)) xs (x ∷ [])) ∙ filter-append (λ (c : ℕ × ℕ). c.0 == n) (named_of xs) ((x.length, x.cuts) ∷ [])

other-length : (n : ℕ) (xs : List Named) (k : ℕ) (d : Named) → k < length xs → (get_or xs k d).length ≢ n → of_length n (named_of (take (k + 1) xs)) ≡ of_length n (named_of (take k xs))
other-length n xs k d below e =
    let x : Named = get_or xs k d in
    ap (λ (l : List Named). of_length n (named_of l)) (take_more xs k d below) ∙ told-more n (take k xs) x
    ∙ ap (λ (b : Bool). of_length n (named_of (take k xs)) ++ cond b ((x.length, x.cuts) ∷ []) []) (ne_eqb x.length n e) ∙ append-nil (of_length n (named_of (take k xs)))

here-length : (n : ℕ) (xs : List Named) (k : ℕ) (d : Named) → k < length xs → (get_or xs k d).length ≡ n → of_length n (named_of (take (k + 1) xs)) ≡ of_length n (named_of (take k xs)) ++ ((get_or xs k d).length, (get_or xs k d).cuts) ∷ []
here-length n xs k d below e =
    let x : Named = get_or xs k d in
    ap (λ (l : List Named). of_length n (named_of l)) (take_more xs k d below) ∙ told-more n (take k xs) x
    ∙ ap (λ (b : Bool). of_length n (named_of (take k xs)) ++ cond b ((x.length, x.cuts) ∷ []) []) (eq-eqb x.length n e)

pub learns-here : (n : ℕ) (xs : List Named) (k : ℕ) (d : Named) → k < length xs → (get_or xs k d).length ≡ n → learns_of n (take (k + 1) xs) ≡ learns_of n (take k xs) ++ (get_or xs k d).cuts ∷ []
learns-here n xs k d below e =
    let x : Named = get_or xs k d in
    ap (map (λ (c : ℕ × ℕ). c.1)) (here-length n xs k d below e)
    ∙ map-append (λ (c : ℕ × ℕ). c.1) (of_length n (named_of (take k xs))) ((x.length, x.cuts) ∷ [])

pub learns-other : (n : ℕ) (xs : List Named) (k : ℕ) (d : Named) → k < length xs → (get_or xs k d).length ≢ n → learns_of n (take (k + 1) xs) ≡ learns_of n (take k xs)
learns-other n xs k d below e = ap (map (λ (c : ℕ × ℕ). c.1)) (other-length n xs k d below e)

-- ---- the tally of each length
tally-here : (n : ℕ) (xs : List Named) (k : ℕ) (d : Named) (tally next : Tally) → k < length xs → (get_or xs k d).length ≡ n → next.certificates ≡ tally.certificates + 1 → next.cuts ≡ tally.cuts + (get_or xs k d).cuts
    → IsTally n (named_of (take k xs)) tally → IsTally n (named_of (take (k + 1) xs)) next
tally-here n xs k d tally next below e certificates cuts h =
    let before = of_length n (named_of (take k xs)) in
    let here : ℕ × ℕ = ((get_or xs k d).length, (get_or xs k d).cuts) in
    let more = here-length n xs k d below e in
    let long = length-append before (here ∷ []) in
    let total = sum_by-append (λ (c : ℕ × ℕ). c.1) before (here ∷ []) in
    record {
      certificates = omega (arith, certificates, h.certificates, long, ap (λ (l : List (ℕ × ℕ)). length l) more);
      cuts = omega (arith, cuts, h.cuts, total, ap total_of more);
    }

tally-other : (n : ℕ) (xs : List Named) (k : ℕ) (d : Named) (tally : Tally) → k < length xs → (get_or xs k d).length ≢ n → IsTally n (named_of (take k xs)) tally → IsTally n (named_of (take (k + 1) xs)) tally
tally-other n xs k d tally below e h =
    let same = other-length n xs k d below e in
    record { certificates = h.certificates ∙ ap (λ (l : List (ℕ × ℕ)). length l) (sym same); cuts = h.cuts ∙ ap total_of (sym same) }

-- as many as were seen are in no tally more
pub record AreFew (longest seen : ℕ) (tallies : List Tally) : Type 0 where
  pub certificates : (n : ℕ) (d : Tally) → n ≤ longest → (get_or tallies n d).certificates ≤ seen
  pub cuts : (n : ℕ) (d : Tally) → n ≤ longest → (get_or tallies n d).cuts ≤ 18446744073709551615 * seen

abbrev pub empty : Tally
empty = record { certificates = 0; cuts = 0 }

pub tallies_none : (longest : ℕ) → AreTallies longest [] (replicate (longest + 1) empty) × AreFew longest 0 (replicate (longest + 1) empty)
tallies_none longest = (
  record { width = length-replicate (longest + 1) empty; each = λ n d within. subst (IsTally n []) (sym (at n d within)) (record { certificates = refl; cuts = refl }) },
  record { certificates = λ n d within. omega (arith, ap (λ (t : Tally). t.certificates) (at n d within)); cuts = λ n d within. omega (arith, ap (λ (t : Tally). t.cuts) (at n d within)) },
)
  where
    at : (n : ℕ) (d : Tally) → n ≤ longest → get_or (replicate (longest + 1) empty) n d ≡ empty
    at n d within = get_or-replicate (longest + 1) n empty d (omega (arith, within))

pub tallies-here : (longest k : ℕ) (xs : List Named) (d : Named) (e next : Tally) (tallies : List Tally) → k < length xs → (get_or xs k d).length ≤ longest
    → next.certificates ≡ (get_or tallies (get_or xs k d).length e).certificates + 1 → next.cuts ≡ (get_or tallies (get_or xs k d).length e).cuts + (get_or xs k d).cuts → next.cuts ≤ (get_or tallies (get_or xs k d).length e).cuts + 18446744073709551615
    → AreTallies longest (named_of (take k xs)) tallies × AreFew longest k tallies
    → AreTallies longest (named_of (take (k + 1) xs)) (set tallies (get_or xs k d).length next) × AreFew longest (k + 1) (set tallies (get_or xs k d).length next)
tallies-here longest k xs d e next tallies below within certificates cuts small (are, few) = (
  record { width = length-set tallies j next ∙ are.width; each = λ n f low. each n f low (cases_eq j n) },
  record { certificates = λ n f low. few-certificates n f low (cases_eq j n); cuts = λ n f low. few-cuts n f low (cases_eq j n) },
)
  where
    j : ℕ
    j = (get_or xs k d).length

    same : (n : ℕ) (f : Tally) → n ≤ longest → j ≡ n → get_or (set tallies j next) n f ≡ next
    same n f low eq = ap (λ (i : ℕ). get_or (set tallies j next) i f) (sym eq) ∙ get_or-set_same tallies j next f (omega (arith, within, are.width))

    other : (n : ℕ) (f : Tally) → j ≢ n → get_or (set tallies j next) n f ≡ get_or tallies n f
    other n f ne = get_or-set_other tallies j n next f (λ eq. ne (sym eq))

    each : (n : ℕ) (f : Tally) → n ≤ longest → (j ≡ n) ⊎ (j ≢ n) → IsTally n (named_of (take (k + 1) xs)) (get_or (set tallies j next) n f)
    each n f low (inl eq) =
        subst (IsTally n (named_of (take (k + 1) xs))) (sym (same n f low eq))
        (tally-here n xs k d (get_or tallies n e) next below eq (certificates ∙ ap (λ (i : ℕ). (get_or tallies i e).certificates + 1) eq) (cuts ∙ ap (λ (i : ℕ). (get_or tallies i e).cuts + (get_or xs k d).cuts) eq) (are.each n e low))
    each n f low (inr ne) = subst (IsTally n (named_of (take (k + 1) xs))) (sym (other n f ne)) (tally-other n xs k d (get_or tallies n f) below ne (are.each n f low))

    few-certificates : (n : ℕ) (f : Tally) → n ≤ longest → (j ≡ n) ⊎ (j ≢ n) → (get_or (set tallies j next) n f).certificates ≤ k + 1
    few-certificates n f low (inl eq) = omega (arith, ap (λ (t : Tally). t.certificates) (same n f low eq), certificates, few.certificates j e within)
    few-certificates n f low (inr ne) = omega (arith, ap (λ (t : Tally). t.certificates) (other n f ne), few.certificates n f low)

    few-cuts : (n : ℕ) (f : Tally) → n ≤ longest → (j ≡ n) ⊎ (j ≢ n) → (get_or (set tallies j next) n f).cuts ≤ 18446744073709551615 * (k + 1)
    few-cuts n f low (inl eq) = omega (arith, ap (λ (t : Tally). t.cuts) (same n f low eq), few.cuts j e within, small)
    few-cuts n f low (inr ne) = omega (arith, ap (λ (t : Tally). t.cuts) (other n f ne), few.cuts n f low)

-- a certificate of cuts longer than those tallied
pub tallies-past : (longest k : ℕ) (xs : List Named) (d : Named) (tallies : List Tally) → k < length xs → longest < (get_or xs k d).length
    → AreTallies longest (named_of (take k xs)) tallies × AreFew longest k tallies → AreTallies longest (named_of (take (k + 1) xs)) tallies × AreFew longest (k + 1) tallies
tallies-past longest k xs d tallies below past (are, few) = (
  record { width = are.width; each = λ n f low. tally-other n xs k d (get_or tallies n f) below (λ eq. omega (arith, past, low, eq)) (are.each n f low) },
  record { certificates = λ n f low. omega (arith, few.certificates n f low); cuts = λ n f low. omega (arith, few.cuts n f low) },
)

-- ---- how often they are judged
judged-free : (places : ℕ) (times : List ℕ) (t : ℕ) → length times < places → times_judged places (times ++ t ∷ []) ≡ times_judged places times + 1
judged-free zero times t free = absurd (omega (arith, free))
judged-free (suc places) [] t free = refl
judged-free (suc places) (x ∷ times) t free = let rest = judged-free places times t (omega (arith, free)) in omega (arith, rest)

judged-full : (places : ℕ) (times : List ℕ) (t : ℕ) → places ≤ length times → times_judged places (times ++ t ∷ []) ≡ times_judged places times + t
judged-full zero [] t full = omega arith
judged-full zero (x ∷ times) t full = let rest = judged-full zero times t (omega arith) in omega (arith, rest)
judged-full (suc places) [] t full = absurd (omega (arith, full))
judged-full (suc places) (x ∷ times) t full = let rest = judged-full places times t (omega (arith, full)) in omega (arith, rest)

pub count-full : (held places : ℕ) (before : List ℕ) (t : ℕ) (count next : Count) → count.left ≡ 0 → next.left ≡ 0 → next.learns ≡ min (count.learns + t) (2 ^ 64 - 1) → IsCount held places before count → IsCount held places (before ++ t ∷ []) next
count-full held places before t count next none left learns h =
    let full = judged-full places before t (omega (arith, none, h.left)) in
    let long = length-append before (t ∷ []) in
    record { learns = omega (arith, full, learns, h.learns); left = omega (arith, left, none, h.left, long) }

pub count-free : (held places : ℕ) (before : List ℕ) (t : ℕ) (count next : Count) → count.left ≢ 0 → next.left ≡ count.left - 1 → next.learns ≡ min (count.learns + 1) (2 ^ 64 - 1) → IsCount held places before count → IsCount held places (before ++ t ∷ []) next
count-free held places before t count next some left learns h =
    let positive : 0 < count.left = some-left count.left some in
    let free = judged-free places before t (omega (arith, positive, h.left)) in
    let long = length-append before (t ∷ []) in
    record { learns = omega (arith, free, learns, h.learns); left = omega (arith, left, positive, h.left, long) }
  where
    some-left : (n : ℕ) → n ≢ 0 → 0 < n
    some-left zero h = absurd (h refl)
    some-left (suc n) h = omega arith

-- no place is left for these
judged-spent : (places : ℕ) (before : List ℕ) (named : List (ℕ × ℕ)) → places ≤ length before → times_judged places (before ++ map (λ certificate. certificate.1) named) ≡ times_judged places before + total_of named
judged-spent zero [] [] spent = refl
judged-spent zero [] (certificate ∷ named) spent = let rest = judged-spent zero [] named spent in omega (arith, rest, sum_by-cons (λ (c : ℕ × ℕ). c.1) certificate named)
judged-spent zero (x ∷ before) named spent = let rest = judged-spent zero before named (omega arith) in omega (arith, rest)
judged-spent (suc places) [] named spent = absurd (omega (arith, spent))
judged-spent (suc places) (x ∷ before) named spent = let rest = judged-spent places before named (omega (arith, spent)) in omega (arith, rest)

-- a place is left for each of these
judged-placed : (places : ℕ) (before times : List ℕ) → length before + length times ≤ places → times_judged places (before ++ times) ≡ times_judged places before + length times
judged-placed places [] [] room = refl
judged-placed zero [] (t ∷ times) room = absurd (omega (arith, room))
judged-placed (suc places) [] (t ∷ times) room = let rest = judged-placed places [] times (omega (arith, room)) in omega (arith, rest)
judged-placed zero (x ∷ before) times room = absurd (omega (arith, room))
judged-placed (suc places) (x ∷ before) times room = let rest = judged-placed places before times (omega (arith, room)) in omega (arith, rest)

pub count-spent : (held places : ℕ) (before : List ℕ) (n : ℕ) (named : List Named) (tally : Tally) (count next : Count) → count.left ≡ 0 → next.left ≡ 0 → next.learns ≡ min (count.learns + min tally.cuts (2 ^ 64 - 1)) (2 ^ 64 - 1)
    → IsTally n (named_of named) tally → IsCount held places before count → IsCount held places (before ++ learns_of n named) next
count-spent held places before n named tally count next none left learns told h =
    let spent = judged-spent places before (of_length n (named_of named)) (omega (arith, none, h.left)) in
    let long = length-append before (learns_of n named) in
    record { learns = omega (arith, spent, learns, h.learns, told.cuts); left = omega (arith, left, none, h.left, long) }

pub count-placed : (held places : ℕ) (before : List ℕ) (n : ℕ) (named : List Named) (tally : Tally) (count next : Count) → count.left ≢ 0 → tally.certificates ≤ count.left → next.left ≡ count.left - tally.certificates
    → next.learns ≡ min (count.learns + tally.certificates) (2 ^ 64 - 1) → IsTally n (named_of named) tally → IsCount held places before count → IsCount held places (before ++ learns_of n named) next
count-placed held places before n named tally count next some room left learns told h =
    let positive : 0 < count.left = some-left count.left some in
    let many : length (learns_of n named) ≡ tally.certificates = length-map (of_length n (named_of named)) (λ (c : ℕ × ℕ). c.1) ∙ sym told.certificates in
    let placed = judged-placed places before (learns_of n named) (omega (arith, many, room, positive, h.left)) in
    let long = length-append before (learns_of n named) in
    record { learns = omega (arith, placed, learns, h.learns, many); left = omega (arith, left, positive, h.left, long, many) }
  where
    some-left : (m : ℕ) → m ≢ 0 → 0 < m
    some-left zero e = absurd (e refl)
    some-left (suc m) e = omega arith

-- ---- of a length
pub count-none : (held places n : ℕ) (before : List ℕ) (count : Count) → IsCount held places before count → IsCount held places (before ++ learns_of n []) count
count-none held places n before count h = rw (append-nil before) h

pub count-here : (held places n : ℕ) (before : List ℕ) (xs : List Named) (k : ℕ) (d : Named) (next : Count) → k < length xs → (get_or xs k d).length ≡ n
    → IsCount held places ((before ++ learns_of n (take k xs)) ++ (get_or xs k d).cuts ∷ []) next → IsCount held places (before ++ learns_of n (take (k + 1) xs)) next
count-here held places n before xs k d next below e h =
    subst (λ (l : List ℕ). IsCount held places l next) (append_assoc before (learns_of n (take k xs)) ((get_or xs k d).cuts ∷ []) ∙ ap (λ (l : List ℕ). before ++ l) (sym (learns-here n xs k d below e))) h

pub count-other : (held places n : ℕ) (before : List ℕ) (xs : List Named) (k : ℕ) (d : Named) (count : Count) → k < length xs → (get_or xs k d).length ≢ n
    → IsCount held places (before ++ learns_of n (take k xs)) count → IsCount held places (before ++ learns_of n (take (k + 1) xs)) count
count-other held places n before xs k d count below e h =
    subst (λ (l : List ℕ). IsCount held places l count) (ap (λ (l : List ℕ). before ++ l) (sym (learns-other n xs k d below e))) h

-- ---- of all lengths
abbrev pub learns_below : ℕ → List Named → List ℕ
learns_below n named = map (λ (c : ℕ × ℕ). c.1) (flat_map (λ j. of_length j (named_of named)) (numbers_below n))

pub below-more : (n : ℕ) (named : List Named) → learns_below (n + 1) named ≡ learns_below n named ++ learns_of n named
below-more n named =
    ap (map (λ (c : ℕ × ℕ). c.1))
    (ap (flat_map (λ j. of_length j (named_of named))) (sym (map-id (range_with_len 0 (n + 1))) ∙ map-range_with_len_more (λ j. j) 0 n n (omega arith) ∙ ap (λ (l : List ℕ). l ++ n ∷ []) (map-id (range_with_len 0 n)))
    ∙ flat_map-append (λ j. of_length j (named_of named)) (range_with_len 0 n) (n ∷ [])
    ∙ ap (λ (l : List (ℕ × ℕ)). flat_map (λ j. of_length j (named_of named)) (range_with_len 0 n) ++ l) (append-nil (of_length n (named_of named))))
    ∙ map-append (λ (c : ℕ × ℕ). c.1) (flat_map (λ j. of_length j (named_of named)) (range_with_len 0 n)) (of_length n (named_of named))

pub count-length : (held places n : ℕ) (named : List Named) (count next : Count) → ((held places : ℕ) (before : List ℕ) → IsCount held places before count → IsCount held places (before ++ learns_of n named) next)
    → IsCount held places (learns_below n named) count → IsCount held places (learns_below (n + 1) named) next
count-length held places n named count next more h = subst (λ (l : List ℕ). IsCount held places l next) (sym (below-more n named)) (more held places (learns_below n named) h)

-- ---- cut after cut
filter-few : {X : Type 0} (p : X → Bool) (xs : List X) → length (filter p xs) ≤ length xs
filter-few p [] = omega arith
filter-few p (x ∷ xs) = elim (cases_Bool (p x)) [
  | inl e ↦ let rest = filter-few p xs in rw e (omega (arith, rest))
  | inr e ↦ let rest = filter-few p xs in rw e (omega (arith, rest))
]

abbrev view_of : Named → ℕ × ℕ
view_of c = (c.length, c.cuts)

abbrev pair_of : Cut → List ℕ × ℕ
pair_of c = (c.prefix, c.certificate)

pub named-few : (cuts : List Cut) (named : List Named) (n k j : ℕ) (d : Named) → j < n → k < length cuts → length cuts < 2 ^ 64 → named_of named ≡ all_named (cuts_of (take k cuts)) n → (get_or named j d).cuts < 2 ^ 64 - 1
named-few cuts named n k j d within below small e =
    let long : length named ≡ n = sym (length-map named view_of) ∙ ap (λ (l : List (ℕ × ℕ)). length l) e ∙ all_named-long (cuts_of (take k cuts)) n in
    let at : ((get_or named j d).length, (get_or named j d).cuts) ≡ named_by (naming (cuts_of (take k cuts)) j) =
    sym (get_or-map view_of named j d (0, 0) (omega (arith, within, long))) ∙ ap (λ (l : List (ℕ × ℕ)). get_or l j (0, 0)) e ∙ named-at (cuts_of (take k cuts)) n j within in
    let count : (get_or named j d).cuts ≡ length (naming (cuts_of (take k cuts)) j) = ap (λ (p : ℕ × ℕ). p.1) at in
    let few = filter-few (λ (cut : List ℕ × ℕ). cut.1 == j) (cuts_of (take k cuts)) in
    let same : length (cuts_of (take k cuts)) ≡ length (take k cuts) = length-map (take k cuts) pair_of in
    let front = length-take-le k cuts (omega (arith, below)) in
    omega (arith, count, few, same, front, below, small)

pub named-more : (cuts : List Cut) (named : List Named) (n k : ℕ) (cut d : Cut) (x e : Named) → k < length cuts → cut ≡ get_or cuts k d → cut.certificate < n → (x.length, x.cuts) ≡ with_one ((get_or named cut.certificate e).length, (get_or named cut.certificate e).cuts) (length cut.prefix)
    → named_of named ≡ all_named (cuts_of (take k cuts)) n → named_of (set named cut.certificate x) ≡ all_named (cuts_of (take (k + 1) cuts)) n
named-more cuts named n k cut d x e below is within one same =
    let j : ℕ = cut.certificate in
    let long : length named ≡ n = sym (length-map named view_of) ∙ ap (λ (l : List (ℕ × ℕ)). length l) same ∙ all_named-long (cuts_of (take k cuts)) n in
    let before : ((get_or named j e).length, (get_or named j e).cuts) ≡ get_or (all_named (cuts_of (take k cuts)) n) j (0, 0) =
    sym (get_or-map view_of named j e (0, 0) (omega (arith, within, long))) ∙ ap (λ (l : List (ℕ × ℕ)). get_or l j (0, 0)) same in
    let more : cuts_of (take (k + 1) cuts) ≡ cuts_of (take k cuts) ++ (cut.prefix, cut.certificate) ∷ [] =
    ap cuts_of (take_more cuts k d below) ∙ map-append pair_of (take k cuts) (get_or cuts k d ∷ []) ∙ ap (λ (c : Cut). cuts_of (take k cuts) ++ pair_of c ∷ []) (sym is) in
    map-set view_of named j x
    ∙ ap (λ (l : List (ℕ × ℕ)). set l j (x.length, x.cuts)) same
    ∙ ap (set (all_named (cuts_of (take k cuts)) n) j) (one ∙ ap (λ (p : ℕ × ℕ). with_one p (length cut.prefix)) before)
    ∙ sym (all_named-push (cuts_of (take k cuts)) (cut.prefix, cut.certificate) n within)
    ∙ ap (λ (l : List (List ℕ × ℕ)). all_named l n) (sym more)
