-- Class numbers, marks and terms are read from what they are spelled as.
use Rattle.std.proofs.Common.{◌≡◌, ℕ, suc, ◌+◌, ◌^◌, ◌<◌, ◌≤◌, true, false, ◌==◌, List, [], ◌∷◌, ◌++◌, Some, All, length, map, decimal, get_or, bytes_eq, codes, arith, refl, ap, ◌∙◌, inl, inr}
use Rattle.std.specs.List.{list_all}
use Rattle.std.proofs.lemmas.Bool.{and_parts, eq-eqb}
use Rattle.std.proofs.lemmas.Bool.Decides.{eqb_tells}
use Rattle.std.proofs.lemmas.Fmt.{decimal_nonempty}
use Rattle.std.proofs.lemmas.List.{append_assoc, length-map}
use Rattle.std.proofs.lemmas.List.Elements.{All-head, All-tail, All-cons}
use Rattle.ot_theory.specs.declared.Mark.{Mark}
use Rattle.ot_theory.specs.declared.Mark.TheVariants.{W, L, E}
use Rattle.ot_theory.specs.Languages.{Term, Loser, Given}
use Rattle.report_reader.specs.Fields.{words, pieces, classes, prefix_of, choice_of, is_letter, are_marks, is_digit, loser_of, term_of, terms_of}
use Rattle.report_text.specs.Spelling.{spaced, prefix, letter, marks, term, terms}
use Rattle.report_text.proofs.Numerals.{NUMBER_LIMIT, digits-decimal, place-decimal}
use Rattle.report_text.proofs.Parted.{lacks, lacks-append, lacks-joined, pieces-alone, pieces-first, pieces-joined}
use Rattle.report_text.proofs.Lines.{lacks-other, lacks-decimal, decimal-differs}
use Rattle.report_text.proofs.Spaced.{join-cons}

-- a number that can be read
abbrev pub IsSmall : ℕ → Type 0
IsSmall n = n ≤ NUMBER_LIMIT

-- ---- numbers with spaces between them
pub decimals-lack : (c : ℕ) → is_digit c ≡ false → (numbers : List ℕ) → All IsSmall numbers → list_all (lacks c) (map decimal numbers) ≡ true
decimals-lack c other [] small = refl
decimals-lack c other (n ∷ numbers) small =
    rw (lacks-decimal c n other (All-head IsSmall n numbers small), decimals-lack c other numbers (All-tail IsSmall n numbers small)) refl

pub spaced-lacks : (c : ℕ) → is_digit c ≡ false → (32 == c) ≡ false → (numbers : List ℕ) → All IsSmall numbers → lacks c (spaced numbers) ≡ true
spaced-lacks c digit space numbers small = lacks-joined c 32 (map decimal numbers) space (decimals-lack c digit numbers small)

pub words-spaced : (numbers : List ℕ) → 0 < length numbers → All IsSmall numbers → words (spaced numbers) ≡ map decimal numbers
words-spaced [] some small = absurd (omega (arith, some))
words-spaced (n ∷ numbers) some small = pieces-joined 32 (decimal n) (map decimal numbers) (decimals-lack 32 refl (n ∷ numbers) small)

-- ---- prefixes
-- numbers of classes that can be read
pub record AreCounts (counts : List ℕ) : Type 0 where
  pub few : length counts ≤ NUMBER_LIMIT
  pub small : (i : ℕ) → get_or counts i 0 ≤ NUMBER_LIMIT

-- class numbers of the first inputs
pub record AreClassNumbers (counts numbers : List ℕ) : Type 0 where
  pub short : length numbers ≤ length counts
  pub within : (i : ℕ) → i < length numbers → get_or numbers i 0 < get_or counts i 0

classes-spelled : (counts numbers : List ℕ) → ((i : ℕ) → get_or counts i 0 ≤ NUMBER_LIMIT) → length numbers ≤ length counts → ((i : ℕ) → i < length numbers → get_or numbers i 0 < get_or counts i 0)
    → classes counts (map decimal (map (λ b. b + 1) numbers)) ≡ Some numbers
classes-spelled counts [] small short within = refl
classes-spelled [] (a ∷ numbers) small short within = absurd (omega (arith, short))
classes-spelled (count ∷ counts) (a ∷ numbers) small short within =
    let below : a < count = within 0 (omega arith) in
    let few : count ≤ NUMBER_LIMIT = small 0 in
    let others = classes-spelled counts numbers (λ i. small (suc i)) (omega (arith, short)) (λ i lt. within (suc i) (omega (arith, lt))) in
    rw (place-decimal count a below few, others) refl

small-numbers : (counts numbers : List ℕ) → ((i : ℕ) → get_or counts i 0 ≤ NUMBER_LIMIT) → ((i : ℕ) → i < length numbers → get_or numbers i 0 < get_or counts i 0)
    → All IsSmall (map (λ b. b + 1) numbers)
small-numbers counts [] small within = λ k d below. absurd (omega arith)
small-numbers [] (a ∷ numbers) small within = absurd (let below : a < 0 = within 0 (omega arith) in omega (arith, below))
small-numbers (count ∷ counts) (a ∷ numbers) small within =
    let below : a < count = within 0 (omega arith) in
    let few : count ≤ NUMBER_LIMIT = small 0 in
    All-cons IsSmall (a + 1) (map (λ b. b + 1) numbers) (omega (arith, below, few)) (small-numbers counts numbers (λ i. small (suc i)) (λ i lt. within (suc i) (omega (arith, lt))))

no_dash : (a : ℕ) (numbers : List ℕ) → a + 1 ≤ NUMBER_LIMIT → bytes_eq (spaced (map (λ b. b + 1) (a ∷ numbers))) (codes "-") ≡ false
no_dash a numbers small = rw (join-cons 32 (decimal (a + 1)) (map decimal (map (λ b. b + 1) numbers))) (decimal-differs 45 [] (a + 1) _ refl small)

pub prefix_of-prefix : (counts numbers : List ℕ) → AreCounts counts → AreClassNumbers counts numbers → prefix_of counts (prefix numbers) ≡ Some numbers
prefix_of-prefix counts [] c h = refl
prefix_of-prefix counts (a ∷ numbers) c h =
    let above : ℕ → ℕ = λ b. b + 1 in
    let small = small-numbers counts (a ∷ numbers) c.small h.within in
    let split = words-spaced (map above (a ∷ numbers)) (omega arith) small in
    rw (no_dash a numbers (All-head IsSmall (a + 1) (map above numbers) small), split) (classes-spelled counts (a ∷ numbers) c.small h.short h.within)

pub choice_of-prefix : (counts numbers : List ℕ) → AreCounts counts → AreClassNumbers counts numbers → length numbers ≡ length counts → choice_of counts (prefix numbers) ≡ Some numbers
choice_of-prefix counts numbers c h full = rw (prefix_of-prefix counts numbers c h, eq-eqb (length numbers) (length counts) full) refl

pub prefix-lacks : (c : ℕ) → is_digit c ≡ false → (32 == c) ≡ false → (45 == c) ≡ false → (counts numbers : List ℕ) → AreCounts counts → AreClassNumbers counts numbers → lacks c (prefix numbers) ≡ true
prefix-lacks c digit space dash counts [] bounds h = rw dash refl
prefix-lacks c digit space dash counts (a ∷ numbers) bounds h = spaced-lacks c digit space (map (λ b. b + 1) (a ∷ numbers)) (small-numbers counts (a ∷ numbers) bounds.small h.within)

-- ---- marks
letter-is : (m : Mark) → is_letter (letter m) ≡ true
letter-is W = refl
letter-is L = refl
letter-is E = refl

letters-are : (list : List Mark) → list_all is_letter (marks list) ≡ true
letters-are [] = refl
letters-are (m ∷ list) = rw (letter-is m, letters-are list) refl

pub are_marks-marks : (n : ℕ) (list : List Mark) → length list ≡ n → are_marks n (marks list) ≡ true
are_marks-marks n list wide = rw (length-map list letter, eq-eqb (length list) n wide, letters-are list) refl

pub marks-lack : (c : ℕ) → is_letter c ≡ false → (list : List Mark) → lacks c (marks list) ≡ true
marks-lack c other list = lacks-other is_letter c other (marks list) (letters-are list)

-- ---- terms
-- a class of an input against another one
pub record IsLoserOf (counts : List ℕ) (i a b : ℕ) : Type 0 where
  pub input : i < length counts
  pub winner : a < get_or counts i 0
  pub loser : b < get_or counts i 0
  pub differ : (a == b) ≡ false

-- the same, or one of so many given pairs
abbrev pub IsTermOf : List ℕ → ℕ → Term → Type 0
IsTermOf counts pairs (Loser i a b) = IsLoserOf counts i a b
IsTermOf counts pairs (Given k) = k < pairs

loser-parts : (i a b : ℕ) → term (Loser i a b) ≡ decimal (i + 1) ++ 58 ∷ (decimal (a + 1) ++ 62 ∷ decimal (b + 1))
loser-parts i a b = simp append_assoc

loser-lacks : (c : ℕ) → is_digit c ≡ false → (58 == c) ≡ false → (62 == c) ≡ false → (counts : List ℕ) (i a b : ℕ) → AreCounts counts → IsLoserOf counts i a b → lacks c (term (Loser i a b)) ≡ true
loser-lacks c digit colon sign counts i a b bounds h =
    let input = lacks-decimal c (i + 1) digit (omega (arith, h.input, bounds.few)) in
    let winner = lacks-decimal c (a + 1) digit (omega (arith, h.winner, bounds.small i)) in
    let loser = lacks-decimal c (b + 1) digit (omega (arith, h.loser, bounds.small i)) in
    let right = lacks-append c (decimal (a + 1)) (62 ∷ decimal (b + 1)) winner (rw (sign, loser) refl) in
    rw (loser-parts i a b) (lacks-append c (decimal (i + 1)) (58 ∷ (decimal (a + 1) ++ 62 ∷ decimal (b + 1))) input (rw colon right))

loser-read : (counts : List ℕ) (i a b : ℕ) → AreCounts counts → IsLoserOf counts i a b → loser_of counts (term (Loser i a b)) ≡ Some (Loser i a b)
loser-read counts i a b bounds h =
    let few = bounds.small i in
    let small_input : i + 1 ≤ NUMBER_LIMIT = omega (arith, h.input, bounds.few) in
    let small_winner : a + 1 ≤ NUMBER_LIMIT = omega (arith, h.winner, few) in
    let small_loser : b + 1 ≤ NUMBER_LIMIT = omega (arith, h.loser, few) in
    let right = decimal (a + 1) ++ 62 ∷ decimal (b + 1) in
    let plain : lacks 58 right ≡ true = lacks-append 58 (decimal (a + 1)) (62 ∷ decimal (b + 1)) (lacks-decimal 58 (a + 1) refl small_winner) (lacks-decimal 58 (b + 1) refl small_loser) in
    let sides : pieces 58 (decimal (i + 1) ++ 58 ∷ right) ≡ decimal (i + 1) ∷ right ∷ [] =
    pieces-first 58 (decimal (i + 1)) right (lacks-decimal 58 (i + 1) refl small_input) ∙ ap (λ (others : List (List ℕ)). decimal (i + 1) ∷ others) (pieces-alone 58 right plain)
    in
    let both : pieces 62 right ≡ decimal (a + 1) ∷ decimal (b + 1) ∷ [] =
    pieces-first 62 (decimal (a + 1)) (decimal (b + 1)) (lacks-decimal 62 (a + 1) refl small_winner)
    ∙ ap (λ (others : List (List ℕ)). decimal (a + 1) ∷ others) (pieces-alone 62 (decimal (b + 1)) (lacks-decimal 62 (b + 1) refl small_loser))
    in
    rw (
      loser-parts i a b,
      sides,
      both,
      place-decimal (length counts) i h.input bounds.few,
      place-decimal (get_or counts i 0) a h.winner few,
      place-decimal (get_or counts i 0) b h.loser few,
      h.differ,
    ) refl

-- what begins with a digit is no given pair
digit-first : (counts : List ℕ) (pairs : ℕ) (ds rest : List ℕ) → list_all is_digit ds ≡ true → 0 < length ds → term_of counts pairs (ds ++ rest) ≡ loser_of counts (ds ++ rest)
digit-first counts pairs [] rest each some = absurd (omega (arith, some))
digit-first counts pairs (d ∷ ds) rest each some =
    let passes = (and_parts (is_digit d) (list_all is_digit ds) each).0 in
    elim (eqb_tells d 103) [ inl same ↦ absurd (let both : is_digit d ≡ false = rw same.1 refl in cc) | inr differ ↦ rw differ.0 refl ]

loser-first : (counts : List ℕ) (pairs i a b : ℕ) → i + 1 ≤ NUMBER_LIMIT → term_of counts pairs (term (Loser i a b)) ≡ loser_of counts (term (Loser i a b))
loser-first counts pairs i a b small =
    let fits : i + 1 < 2 ^ 64 = omega arith in
    rw (loser-parts i a b) (digit-first counts pairs (decimal (i + 1)) (58 ∷ (decimal (a + 1) ++ 62 ∷ decimal (b + 1))) (digits-decimal (i + 1) fits).digits (decimal_nonempty (i + 1) fits))

pub term-lacks : (c : ℕ) → is_digit c ≡ false → (58 == c) ≡ false → (62 == c) ≡ false → (103 == c) ≡ false → (counts : List ℕ) (pairs : ℕ) (t : Term) → AreCounts counts → pairs ≤ NUMBER_LIMIT → IsTermOf counts pairs t → lacks c (term t) ≡ true
term-lacks c digit colon sign letter counts pairs (Loser i a b) bounds few h = loser-lacks c digit colon sign counts i a b bounds h
term-lacks c digit colon sign letter counts pairs (Given k) bounds few h = rw (letter, lacks-decimal c (k + 1) digit (omega (arith, h, few))) refl

pub term_of-term : (counts : List ℕ) (pairs : ℕ) (t : Term) → AreCounts counts → pairs ≤ NUMBER_LIMIT → IsTermOf counts pairs t → term_of counts pairs (term t) ≡ Some t
term_of-term counts pairs (Loser i a b) bounds few h = loser-first counts pairs i a b (omega (arith, h.input, bounds.few)) ∙ loser-read counts i a b bounds h
term_of-term counts pairs (Given k) bounds few h = rw (place-decimal pairs k h few) refl

terms-spelled : (counts : List ℕ) (pairs : ℕ) (list : List Term) → AreCounts counts → pairs ≤ NUMBER_LIMIT → All (IsTermOf counts pairs) list → terms_of counts pairs (map term list) ≡ Some list
terms-spelled counts pairs [] bounds few each = refl
terms-spelled counts pairs (t ∷ list) bounds few each =
    rw (term_of-term counts pairs t bounds few (All-head (IsTermOf counts pairs) t list each), terms-spelled counts pairs list bounds few (All-tail (IsTermOf counts pairs) t list each)) refl

each-lacks : (c : ℕ) → is_digit c ≡ false → (58 == c) ≡ false → (62 == c) ≡ false → (103 == c) ≡ false → (counts : List ℕ) (pairs : ℕ) (list : List Term) → AreCounts counts → pairs ≤ NUMBER_LIMIT → All (IsTermOf counts pairs) list → list_all (lacks c) (map term list) ≡ true
each-lacks c digit colon sign letter counts pairs [] bounds few each = refl
each-lacks c digit colon sign letter counts pairs (t ∷ list) bounds few each =
    rw (
      term-lacks c digit colon sign letter counts pairs t bounds few (All-head (IsTermOf counts pairs) t list each),
      each-lacks c digit colon sign letter counts pairs list bounds few (All-tail (IsTermOf counts pairs) t list each),
    ) refl

pub terms-lack : (c : ℕ) → is_digit c ≡ false → (58 == c) ≡ false → (62 == c) ≡ false → (103 == c) ≡ false → (32 == c) ≡ false → (counts : List ℕ) (pairs : ℕ) (list : List Term) → AreCounts counts → pairs ≤ NUMBER_LIMIT → All (IsTermOf counts pairs) list → lacks c (terms list) ≡ true
terms-lack c digit colon sign letter space counts pairs list bounds few each = lacks-joined c 32 (map term list) space (each-lacks c digit colon sign letter counts pairs list bounds few each)

pub terms_of-terms : (counts : List ℕ) (pairs : ℕ) (list : List Term) → 1 ≤ length list → AreCounts counts → pairs ≤ NUMBER_LIMIT → All (IsTermOf counts pairs) list → terms_of counts pairs (words (terms list)) ≡ Some list
terms_of-terms counts pairs [] some bounds few each = absurd (omega (arith, some))
terms_of-terms counts pairs (t ∷ list) some bounds few each =
    let split = pieces-joined 32 (term t) (map term list) (each-lacks 32 refl refl refl refl counts pairs (t ∷ list) bounds few each) in
    rw split (terms-spelled counts pairs (t ∷ list) bounds few each)
