-- The head of a report is read: the number of constraints, the numbers of classes by input, and the number of given pairs.
use Rattle.std.proofs.Common.{◌≡◌, ℕ, ◌+◌, ◌<◌, ◌≤◌, Bool, true, false, not, ◌&&◌, ◌==◌, List, [], ◌∷◌, ◌++◌, Option, Some, None, Ok, All, length, map, filter, flat_map, zip, decimal, get_or, codes, arith, refl, ap, ◌∙◌}
use Rattle.std.specs.List.{list_all, join_with_byte, enumerate_from}
use Rattle.std.specs.Option.{option_map_or}
use Rattle.std.specs.Prelude.{IfSome}
use Rattle.std.proofs.lemmas.Bool.{and_parts, le-leb, eq-eqb, ne_eqb}
use Rattle.std.proofs.lemmas.List.{append_assoc, length-map}
use Rattle.std.proofs.lemmas.List.Elements.{All-nil, All-cons, All-head, All-tail, All-map, All-filter, All-weaker}
use Rattle.std.proofs.lemmas.Slice.Zip.{length-zip}
use Rattle.erc_vectors.specs.declared.condition.TheConstants.{LIMIT}
use Rattle.ot_base.specs.Acceptable.{IsAcceptable, AreRows}
use Rattle.ot_base.specs.Tableaus.{input_of_rows}
use Rattle.ot_base.specs.declared.limits.TheConstants.{INPUT_LIMIT, CANDIDATE_LIMIT, GIVEN_LIMIT, VIOLATION_LIMIT}
use Rattle.ot_base.specs.declared.tableau.CandidateRow.{CandidateRow}
use Rattle.ot_base.specs.declared.tableau.InputRows.{InputRows}
use Rattle.ot_base.specs.declared.tableau.Tableau.{Tableau}
use Rattle.ot_theory.specs.Problems.{Input, IsPair, Pair, same_profile, classes_of, givens}
use Rattle.ot_theory.proofs.Certificates.{all-weaker}
use Rattle.ot_theory.proofs.Candidates.{length-classes_of, some-classes_of, same-refl}
use Rattle.report_reader.specs.Fields.{pieces, is_text, is_digit, is_number}
use Rattle.report_reader.specs.Grammar.{first_line, valued, line_at, test_at, tests_at, each_at, input_at, givens_at, head_at}
use Rattle.report_text.specs.Printable.{is_plain, IsPlain, IsPlainInput}
use Rattle.report_text.specs.Posed.{ArePairs, posed}
use Rattle.report_text.specs.Reports.{head, title, members, class_line, input_lines, given_line, given_lines, pair_lines}
use Rattle.report_reader.specs.Shapes.{is_title, some_line, few_line, is_constraint, is_given, input_line, is_class, is_class_name, is_profile}
use Rattle.report_text.specs.Spelling.{line, spaced}
use Rattle.report_text.proofs.Numerals.{NUMBER_LIMIT, is_number-decimal, number-decimal, place-decimal, spells-decimal}
use Rattle.report_text.proofs.Parted.{lacks, lacks-append, pieces-alone, pieces-first, pieces-joined}
use Rattle.report_text.proofs.Lines.{lacks-decimal, line_at-value, valued-line, test_at-passes, count_line-joined, numbered-joined}
use Rattle.report_text.proofs.NumberedLines.{IsEachRead, each_at-all, IsEachPassed, tests_at-all}
use Rattle.report_text.proofs.Spelled.{IsSmall, spaced-lacks, words-spaced}
use Rattle.report_text.proofs.Strata.{filter-some}

-- ---- texts of the tableau
plain-tabs : (text : List ℕ) → is_plain text ≡ true → lacks 9 text ≡ true
plain-tabs text plain = all-weaker (λ b. not (b == 9) && not (b == 10) && not (b == 13)) (λ b. not (b == 9)) text
    (λ b h. (and_parts (not (b == 9)) (not (b == 10)) (and_parts (not (b == 9) && not (b == 10)) (not (b == 13)) h).0).0) plain

plain-ends : (text : List ℕ) → is_plain text ≡ true → lacks 10 text ≡ true
plain-ends text plain = all-weaker (λ b. not (b == 9) && not (b == 10) && not (b == 13)) (λ b. not (b == 10)) text
    (λ b h. (and_parts (not (b == 9)) (not (b == 10)) (and_parts (not (b == 9) && not (b == 10)) (not (b == 13)) h).0).1) plain

plain-text : (text : List ℕ) → is_plain text ≡ true → is_text text ≡ true
plain-text text plain = all-weaker (λ b. not (b == 9) && not (b == 10) && not (b == 13)) (λ b. not (b == 13)) text
    (λ b h. (and_parts (not (b == 9) && not (b == 10)) (not (b == 13)) h).1) plain

-- each passes a test that follows from P
all-pass : {X : Type 0} (P : X → Type 0) (test : X → Bool) → ((x : X) → P x → test x ≡ true) → (xs : List X) → All P xs → list_all test xs ≡ true
all-pass P test passes [] each = refl
all-pass P test passes (x ∷ xs) each = rw (passes x (All-head P x xs each), all-pass P test passes xs (All-tail P x xs each)) refl

-- ---- lines of constraints
abbrev ArePlain : List ℕ × List ℕ → Type 0
ArePlain texts = (is_plain texts.0 ≡ true) × (is_plain texts.1 ≡ true)

constraint_passed : IsEachPassed is_constraint (λ p. line (codes "constraint" ∷ decimal p.0 ∷ p.1.0 ∷ p.1.1 ∷ [])) ArePlain NUMBER_LIMIT
constraint_passed j texts rest small plain =
    let value = numbered-joined (codes "constraint") j texts.0 texts.1 refl (plain-tabs texts.0 plain.0) (plain-tabs texts.1 plain.1) small in
    test_at-passes (is_constraint j) (codes "constraint" ∷ decimal j ∷ texts.0 ∷ texts.1 ∷ []) rest
    (rw (lacks-decimal 10 j refl small, plain-ends texts.0 plain.0, plain-ends texts.1 plain.1) refl)
    (rw (value, plain-text texts.0 plain.0, plain-text texts.1 plain.1) refl)

all-zip : {X Y : Type 0} (P : X → Type 0) (Q : Y → Type 0) (xs : List X) (ys : List Y) → All P xs → All Q ys → All (λ (p : X × Y). P p.0 × Q p.1) (zip xs ys)
all-zip {X} {Y} P Q [] ys each others = All-nil (λ (p : X × Y). P p.0 × Q p.1)
all-zip {X} {Y} P Q (x ∷ xs) [] each others = All-nil (λ (p : X × Y). P p.0 × Q p.1)
all-zip {X} {Y} P Q (x ∷ xs) (y ∷ ys) each others =
    All-cons (λ (p : X × Y). P p.0 × Q p.1) (x, y) (zip xs ys) (All-head P x xs each, All-head Q y ys others) (all-zip P Q xs ys (All-tail P x xs each) (All-tail Q y ys others))

-- ---- lines of classes
-- the number of an input and that of a class of it
abbrev class_name : ℕ → ℕ → List ℕ
class_name i a = decimal i ++ codes "." ++ decimal a

name-lacks : (c i a : ℕ) → is_digit c ≡ false → (46 == c) ≡ false → i ≤ NUMBER_LIMIT → a ≤ NUMBER_LIMIT → lacks c (class_name i a) ≡ true
name-lacks c i a digit dot small few =
    lacks-append c (decimal i ++ 46 ∷ []) (decimal a) (lacks-append c (decimal i) (46 ∷ []) (lacks-decimal c i digit small) (rw dot refl)) (lacks-decimal c a digit few)

name-read : (i a : ℕ) → i ≤ NUMBER_LIMIT → a ≤ NUMBER_LIMIT → is_class_name i a (class_name i a) ≡ true
name-read i a small few =
    let parts : pieces 46 (decimal i ++ 46 ∷ decimal a) ≡ decimal i ∷ decimal a ∷ [] =
    pieces-first 46 (decimal i) (decimal a) (lacks-decimal 46 i refl small) ∙ ap (λ (others : List (List ℕ)). decimal i ∷ others) (pieces-alone 46 (decimal a) (lacks-decimal 46 a refl few))
    in
    rw (append_assoc (decimal i) (46 ∷ []) (decimal a), parts, spells-decimal i small, spells-decimal a few) refl

-- a profile of n violations that can be read, which candidates have
record IsReadClass (n : ℕ) (rows : InputRows) (profile : List ℕ) : Type 0 where
  wide : length profile ≡ n
  small : All IsSmall profile
  some : 1 ≤ length (members rows profile)

numbers-read : (numbers : List ℕ) → All IsSmall numbers → list_all is_number (map decimal numbers) ≡ true
numbers-read [] small = refl
numbers-read (n ∷ numbers) small = rw (is_number-decimal n (All-head IsSmall n numbers small), numbers-read numbers (All-tail IsSmall n numbers small)) refl

profile-read : (n : ℕ) (profile : List ℕ) → 1 ≤ n → length profile ≡ n → All IsSmall profile → is_profile n (spaced profile) ≡ true
profile-read n profile some wide small =
    rw (words-spaced profile (omega (arith, wide, some)) small, length-map profile decimal, eq-eqb (length profile) n wide, numbers-read profile small) refl

abbrev IsPlainText : List ℕ → Type 0
IsPlainText text = is_plain text ≡ true

plain-members : (rows : InputRows) (profile : List ℕ) → IsPlainInput rows → All IsPlainText (members rows profile)
plain-members rows profile plain =
    All-map IsPlainText (λ (row : CandidateRow). row.text) (filter (λ row. same_profile profile row.violations) rows.candidates)
    (All-filter (λ (row : CandidateRow). same_profile profile row.violations) (λ row. is_plain row.text ≡ true) rows.candidates plain.candidates)

class_passed : (n i : ℕ) (rows : InputRows) → 1 ≤ n → i ≤ NUMBER_LIMIT → IsPlainInput rows
    → IsEachPassed (is_class n i) (λ p. class_line i rows p.0 p.1) (IsReadClass n rows) NUMBER_LIMIT
class_passed n i rows some small plain a profile rest few class =
    let texts = members rows profile in
    let each = plain-members rows profile plain in
    let name = class_name i a in
    let tabs = all-pass IsPlainText (lacks 9) plain-tabs texts each in
    let ends = all-pass IsPlainText (lacks 10) plain-ends texts each in
    let parts = pieces-joined 9 (codes "class") (name ∷ spaced profile ∷ texts) (rw (name-lacks 9 i a refl refl small few, spaced-lacks 9 refl refl profile class.small, tabs) refl) in
    test_at-passes (is_class n i a) (codes "class" ∷ name ∷ spaced profile ∷ texts) rest
    (rw (name-lacks 10 i a refl refl small few, spaced-lacks 10 refl refl profile class.small, ends) refl)
    (rw (parts, name-read i a small few, profile-read n profile some class.wide class.small, le-leb 1 (length texts) class.some, all-pass IsPlainText is_text plain-text texts each) refl)

-- ---- lines of inputs
-- an input whose lines can be read
record IsReadInput (n : ℕ) (input : InputRows × Input) : Type 0 where
  plain : IsPlainInput input.0
  some : 1 ≤ length input.1.classes
  few : length input.1.classes ≤ CANDIDATE_LIMIT
  classes : All (IsReadClass n input.0) input.1.classes

input-chain : (n i count : ℕ) (b0 b1 b2 : List ℕ) → line_at (input_line i) b0 ≡ Ok (count, b1) → tests_at (is_class n i) 1 count b1 ≡ Ok (tt, b2) → input_at n i b0 ≡ Ok (count, b2)
unfolding input_at
input-chain n i count b0 b1 b2 first classes = rw (first, classes) refl

input_read : (n : ℕ) → 1 ≤ n → IsEachRead (input_at n) (λ p. input_lines p.0 p.1.0 p.1.1) (λ input. length input.1.classes) (IsReadInput n) NUMBER_LIMIT
input_read n some j input rest small h =
    let rows = input.0 in
    let profiles = input.1.classes in
    let count = length profiles in
    let few : count ≤ NUMBER_LIMIT = omega (arith, h.few) in
    let texts = codes "input" ∷ decimal j ∷ rows.text ∷ decimal count ∷ [] in
    let behind = flat_map (λ p. class_line j rows p.0 p.1) (enumerate_from 1 profiles) in
    let value = numbered-joined (codes "input") j rows.text (decimal count) refl (plain-tabs rows.text h.plain.text) (lacks-decimal 9 count refl few) small in
    let first : line_at (input_line j) (line texts ++ (behind ++ rest)) ≡ Ok (count, behind ++ rest) =
    line_at-value (input_line j) texts (behind ++ rest) count
    (rw (lacks-decimal 10 j refl small, plain-ends rows.text h.plain.text, lacks-decimal 10 count refl few) refl)
    (rw (value, number-decimal count few, plain-text rows.text h.plain.text, le-leb 1 count h.some, le-leb count CANDIDATE_LIMIT h.few) refl)
    in
    let classes = tests_at-all (is_class n j) (λ p. class_line j rows p.0 p.1) (IsReadClass n rows) NUMBER_LIMIT (class_passed n j rows some small h.plain) profiles 1 rest h.classes (omega (arith, few)) in
    ap (input_at n j) (append_assoc (line texts) behind rest) ∙ input-chain n j count (line texts ++ (behind ++ rest)) (behind ++ rest) rest first classes

-- ---- the inputs of an acceptable tableau
all-classes : (P : List ℕ → Type 0) (profiles : List (List ℕ)) → All P profiles → All P (classes_of profiles)
all-classes P [] each = each
all-classes P (profile ∷ profiles) each =
    All-cons P profile (filter (λ other. not (same_profile profile other)) (classes_of profiles)) (All-head P profile profiles each)
    (All-filter (λ other. not (same_profile profile other)) P (classes_of profiles) (all-classes P profiles (All-tail P profile profiles each)))

row-read : (n : ℕ) (rows : InputRows) (k : ℕ) (d : CandidateRow) → k < length rows.candidates → AreRows n rows → IsReadClass n rows (get_or rows.candidates k d).violations
row-read n rows k d below h =
    let row = get_or rows.candidates k d in
    let test : CandidateRow → Bool = λ other. same_profile row.violations other.violations in
    let fits = h.widths k d below in
    record {
      wide = fits.width;
      small = All-weaker (λ violation. violation ≤ VIOLATION_LIMIT) IsSmall (λ violation bounded. omega (arith, bounded)) row.violations fits.bounded;
      some = omega (arith, length-map (filter test rows.candidates) (λ (other : CandidateRow). other.text), filter-some test rows.candidates k d below (same-refl row.violations));
    }

rows-read : (n : ℕ) (rows : InputRows) → AreRows n rows → IsPlainInput rows → IsReadInput n (rows, input_of_rows rows)
rows-read n rows h plain =
    let profiles = map (λ row. row.violations) rows.candidates in
    let each = length-map rows.candidates (λ row. row.violations) in
    record {
      plain = plain;
      some = some-classes_of profiles (omega (arith, each, h.some_candidate));
      few = omega (arith, each, length-classes_of profiles, h.few_candidates);
      classes = all-classes (IsReadClass n rows) profiles (All-map (IsReadClass n rows) (λ row. row.violations) rows.candidates (λ k d below. row-read n rows k d below h));
    }

all-beside : {X Y : Type 0} (P : X × Y → Type 0) (f : X → Y) (xs : List X) → All (λ x. P (x, f x)) xs → All P (zip xs (map f xs))
all-beside P f [] each = All-nil P
all-beside P f (x ∷ xs) each = All-cons P (x, f x) (zip xs (map f xs)) (All-head (λ y. P (y, f y)) x xs each) (all-beside P f xs (All-tail (λ y. P (y, f y)) x xs each))

map-beside : {X Y Z : Type 0} (g : Y → Z) (f : X → Y) (xs : List X) → map (λ (p : X × Y). g p.1) (zip xs (map f xs)) ≡ map g (map f xs)
map-beside g f [] = refl
map-beside g f (x ∷ xs) = ap (λ (others : List _). g (f x) ∷ others) (map-beside g f xs)

-- ---- the head
some_line-joined : (word : List ℕ) (limit n : ℕ) → lacks 9 word ≡ true → 1 ≤ n → n ≤ limit → limit ≤ NUMBER_LIMIT → some_line word limit (join_with_byte 9 (word ∷ decimal n ∷ [])) ≡ Some n
some_line-joined word limit n plain some few small =
    rw (count_line-joined word n plain (omega (arith, few, small)), le-leb 1 n some, le-leb n limit few) refl

-- ---- the given pairs
few_line-joined : (word : List ℕ) (limit n : ℕ) → lacks 9 word ≡ true → n ≤ limit → limit ≤ NUMBER_LIMIT → few_line word limit (join_with_byte 9 (word ∷ decimal n ∷ [])) ≡ Some n
few_line-joined word limit n plain few small = rw (count_line-joined word n plain (omega (arith, few, small)), le-leb n limit few) refl

pair_passed : (n : ℕ) → n ≤ NUMBER_LIMIT → IsEachPassed (is_given n) (λ p. given_line p.0 p.1) (IsPair n) NUMBER_LIMIT
pair_passed n small j pair rest few h =
    let above : List ℕ = decimal (pair.above + 1) in
    let below : List ℕ = decimal (pair.below + 1) in
    let small_above : pair.above + 1 ≤ NUMBER_LIMIT = omega (arith, h.above, small) in
    let small_below : pair.below + 1 ≤ NUMBER_LIMIT = omega (arith, h.below, small) in
    let value = numbered-joined (codes "given") j above below refl (lacks-decimal 9 (pair.above + 1) refl small_above) (lacks-decimal 9 (pair.below + 1) refl small_below) few in
    test_at-passes (is_given n j) (codes "given" ∷ decimal j ∷ above ∷ below ∷ []) rest
    (rw (lacks-decimal 10 j refl few, lacks-decimal 10 (pair.above + 1) refl small_above, lacks-decimal 10 (pair.below + 1) refl small_below) refl)
    (rw (value, place-decimal n pair.above h.above small, place-decimal n pair.below h.below small, ne_eqb pair.above pair.below h.differ) refl)

-- no line of their number
abbrev pub SkipsGivens : List ℕ → Type 0
SkipsGivens bytes = valued (few_line (codes "givens") GIVEN_LIMIT) (first_line bytes) ≡ None

pub skips-languages : (count : ℕ) (behind rest : List ℕ) → count ≤ NUMBER_LIMIT → SkipsGivens ((line (codes "languages" ∷ decimal count ∷ []) ++ behind) ++ rest)
skips-languages count behind rest few =
    let texts = codes "languages" ∷ decimal count ∷ [] in
    let parts = pieces-joined 9 (codes "languages") (decimal count ∷ []) (rw (lacks-decimal 9 count refl few) refl) in
    let other : few_line (codes "givens") GIVEN_LIMIT (join_with_byte 9 texts) ≡ None = rw parts refl in
    ap (λ (bytes : List ℕ). valued (few_line (codes "givens") GIVEN_LIMIT) (first_line bytes)) (append_assoc (line texts) behind rest)
    ∙ valued-line (few_line (codes "givens") GIVEN_LIMIT) texts (behind ++ rest) None (rw (lacks-decimal 10 count refl few) refl) other

givens-chain : (n count : ℕ) (b0 b1 b2 : List ℕ) → valued (few_line (codes "givens") GIVEN_LIMIT) (first_line b0) ≡ Some (count, b1) → tests_at (is_given n) 1 count b1 ≡ Ok (tt, b2) → givens_at n b0 ≡ Ok (count, b2)
unfolding givens_at
givens-chain n count b0 b1 b2 first lines = rw (first, lines) refl

givens-read : (n : ℕ) (given : Option (List Pair)) (rest : List ℕ) → n ≤ NUMBER_LIMIT → IfSome given (λ pairs. (length pairs ≤ GIVEN_LIMIT) × All (IsPair n) pairs) → SkipsGivens rest
    → givens_at n (option_map_or pair_lines given [] ++ rest) ≡ Ok (length (option_map_or (λ pairs. pairs) given []), rest)
unfolding givens_at
givens-read n None rest small h skips = rw skips refl
givens-read n (Some pairs) rest small h skips =
    let count = length pairs in
    let few : count ≤ NUMBER_LIMIT = omega (arith, h.0) in
    let texts = codes "givens" ∷ decimal count ∷ [] in
    let behind = flat_map (λ p. given_line p.0 p.1) (enumerate_from 1 pairs) in
    let first = valued-line (few_line (codes "givens") GIVEN_LIMIT) texts (behind ++ rest) (Some count) (rw (lacks-decimal 10 count refl few) refl) (few_line-joined (codes "givens") GIVEN_LIMIT count refl h.0 (omega arith)) in
    let lines = tests_at-all (is_given n) (λ p. given_line p.0 p.1) (IsPair n) NUMBER_LIMIT (pair_passed n small) pairs 1 rest h.1 (omega (arith, few)) in
    ap (givens_at n) (append_assoc (line texts) behind rest) ∙ givens-chain n count (line texts ++ (behind ++ rest)) (behind ++ rest) rest first lines

-- ---- the whole head
head-chain : (n m : ℕ) (counts : List ℕ) (pairs : ℕ) (b0 b1 b2 b3 b4 b5 b6 : List ℕ) → test_at is_title b0 ≡ Ok (tt, b1) → line_at (some_line (codes "constraints") LIMIT) b1 ≡ Ok (n, b2)
    → tests_at is_constraint 1 n b2 ≡ Ok (tt, b3) → line_at (some_line (codes "inputs") INPUT_LIMIT) b3 ≡ Ok (m, b4) → each_at (input_at n) 1 m b4 ≡ Ok (counts, b5) → givens_at n b5 ≡ Ok (pairs, b6)
    → head_at b0 ≡ Ok (((n, counts), pairs), b6)
unfolding head_at
head-chain n m counts pairs b0 b1 b2 b3 b4 b5 b6 h1 h2 h3 h4 h5 h6 = rw (h1, h2, h3, h4, h5, h6) refl

regrouped : (t c1 c2 i f g rest : List ℕ) → ((((t ++ (c1 ++ c2)) ++ i) ++ f) ++ g) ++ rest ≡ t ++ (c1 ++ (c2 ++ (i ++ (f ++ (g ++ rest)))))
regrouped t c1 c2 i f g rest = simp append_assoc

-- the numbers of classes by input
abbrev pub counts_of : List Input → List ℕ
counts_of inputs = map (λ input. length input.classes) inputs

pub head-read : (tableau : Tableau) (given : Option (List Pair)) (rest : List ℕ) → IsAcceptable tableau → IsPlain tableau → ArePairs tableau given → SkipsGivens rest
    → head_at (head (codes "typology") tableau (posed tableau given) ++ rest) ≡ Ok (((length tableau.names, counts_of (map input_of_rows tableau.inputs)), length (givens (posed tableau given))), rest)
unfolding head
head-read tableau given rest h plain pairs skips =
    let n = length tableau.names in
    let m = length tableau.inputs in
    let names = zip tableau.abbrevs tableau.names in
    let inputs = zip tableau.inputs (map input_of_rows tableau.inputs) in
    let t = title (codes "typology") in
    let c1 = line (codes "constraints" ∷ decimal n ∷ []) in
    let c2 = flat_map (λ p. line (codes "constraint" ∷ decimal p.0 ∷ p.1.0 ∷ p.1.1 ∷ [])) (enumerate_from 1 names) in
    let i = line (codes "inputs" ∷ decimal m ∷ []) in
    let f = flat_map (λ p. input_lines p.0 p.1.0 p.1.1) (enumerate_from 1 inputs) in
    let small_n : n ≤ NUMBER_LIMIT = omega (arith, h.few_names) in
    let small_m : m ≤ NUMBER_LIMIT = omega (arith, h.few_inputs) in
    let g = given_lines (posed tableau given) in
    let b5 = g ++ rest in
    let b4 = f ++ b5 in
    let b3 = i ++ b4 in
    let b2 = c2 ++ b3 in
    let b1 = c1 ++ b2 in
    let name_count : length names ≡ n = omega (arith, length-zip tableau.abbrevs tableau.names, h.abbreviated) in
    let input_count : length inputs ≡ m = omega (arith, length-zip tableau.inputs (map input_of_rows tableau.inputs), length-map tableau.inputs input_of_rows) in
    let each_name = all-zip IsPlainText IsPlainText tableau.abbrevs tableau.names plain.abbreviations plain.names in
    let each_input = all-beside (IsReadInput n) input_of_rows tableau.inputs (λ k d below. rows-read n (get_or tableau.inputs k d) (h.rows k d below) (plain.inputs k d below)) in
    let s1 = test_at-passes is_title (codes "otsoft report 1" ∷ codes "typology" ∷ []) b1 refl refl in
    let s2 = line_at-value (some_line (codes "constraints") LIMIT) (codes "constraints" ∷ decimal n ∷ []) b2 n (rw (lacks-decimal 10 n refl small_n) refl)
    (some_line-joined (codes "constraints") LIMIT n refl h.some_name h.few_names (omega arith))
    in
    let s3 : tests_at is_constraint 1 n b2 ≡ Ok (tt, b3) =
    rw name_count at (tests_at-all is_constraint (λ p. line (codes "constraint" ∷ decimal p.0 ∷ p.1.0 ∷ p.1.1 ∷ [])) ArePlain NUMBER_LIMIT constraint_passed names 1 b3 each_name (omega (arith, name_count, small_n)))
    in
    let s4 = line_at-value (some_line (codes "inputs") INPUT_LIMIT) (codes "inputs" ∷ decimal m ∷ []) b4 m (rw (lacks-decimal 10 m refl small_m) refl)
    (some_line-joined (codes "inputs") INPUT_LIMIT m refl h.some_input h.few_inputs (omega arith))
    in
    let s5 : each_at (input_at n) 1 m b4 ≡ Ok (counts_of (map input_of_rows tableau.inputs), b5) =
    rw (input_count, map-beside (λ (input : Input). length input.classes) input_of_rows tableau.inputs) at
    (each_at-all (input_at n) (λ p. input_lines p.0 p.1.0 p.1.1) (λ input. length input.1.classes) (IsReadInput n) NUMBER_LIMIT (input_read n h.some_name) inputs 1 b5 each_input (omega (arith, input_count, small_m)))
    in
    let s6 = givens-read n given rest small_n pairs skips in
    ap head_at (regrouped t c1 c2 i f g rest) ∙ head-chain n m (counts_of (map input_of_rows tableau.inputs)) (length (givens (posed tableau given))) (t ++ b1) b1 b2 b3 b4 b5 rest s1 s2 s3 s4 s5 s6
