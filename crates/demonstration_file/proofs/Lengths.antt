-- The file has as many bytes for every number, since each violation is one digit.
use Rattle.std.proofs.Common.{◌≡◌, ℕ, ◌+◌, ◌-◌, ◌*◌, ◌%◌, ◌<◌, ◌==◌, List, [], ◌∷◌, ◌++◌, length, flat_map, decimal, codes, length-append, arith, inl, inr, refl, ap, ◌∙◌}
use Rattle.std.specs.Fmt.{digits}
use Rattle.std.specs.List.{sum_by, range_with_len}
use Rattle.std.proofs.lemmas.Bool.{cases_Bool}
use Rattle.std.proofs.lemmas.Fmt.{decimal_digit}
use Rattle.std.proofs.lemmas.List.Concat.{flat_map-append}
use Rattle.std.proofs.lemmas.List.Folds.{flat_map-map}
use Rattle.std.proofs.lemmas.List.Sums.{sum_by-cons}
use Rattle.demonstration_file.specs.Demonstration.{state_after, drawn_after, candidate_name, input_name, on_first, group_of_input, group_of_constraint, violation, candidate_row, input_rows, all_rows, header, line, demonstration_file}
use Rattle.demonstration_file.proofs.Growing.{line-cells}

drawn-low : (state n : ℕ) → drawn_after state n < 3
unfolding drawn_after
drawn-low state n = omega arith

pub violation-low : (state k c : ℕ) → violation state k c < 3
violation-low state k c = elim (cases_Bool (group_of_constraint c == group_of_input k)) [
  | inl owned ↦ rw owned (drawn-low state ((c - 1) % 3))
  | inr other ↦ rw other (omega arith)
]

length-pieces : (f : ℕ → List ℕ) (g : ℕ → ℕ) (numbers : List ℕ) → ((n : ℕ) → length (f n) ≡ g n) → length (flat_map f numbers) ≡ sum_by g numbers
length-pieces f g [] same = refl
length-pieces f g (n ∷ numbers) same = omega (arith, length-append (f n) (flat_map f numbers), same n, length-pieces f g numbers same, sum_by-cons g n numbers)

-- the lines of pieces are the pieces of lines
lines-of-pieces : (f : ℕ → List (List (List ℕ))) (numbers : List ℕ) → flat_map line (flat_map f numbers) ≡ flat_map (λ n. flat_map line (f n)) numbers
lines-of-pieces f [] = refl
lines-of-pieces f (n ∷ numbers) = flat_map-append line (f n) (flat_map f numbers) ∙ ap (λ rest. flat_map line (f n) ++ rest) (lines-of-pieces f numbers)

-- the bytes of a row
abbrev row_length : ℕ → ℕ → ℕ
row_length k j = length (on_first j (input_name k) ++ 9 ∷ candidate_name k j ++ 9 ∷ on_first j (codes "1")) + 25

length-parts : (texts numbers all : List ℕ) → all ≡ (texts ++ numbers) ++ 10 ∷ [] → length numbers ≡ 24 → length all ≡ length texts + 25
length-parts texts numbers all parted each = ap length parted ∙ omega (arith, length-append (texts ++ numbers) (10 ∷ []), length-append texts numbers, each)

length-row : (state k j : ℕ) → length (line (candidate_row state k j)) ≡ row_length k j
unfolding candidate_row
length-row state k j =
    let cell : ℕ → List ℕ = λ c. decimal (violation state k c) in
    let texts = on_first j (input_name k) ++ 9 ∷ candidate_name k j ++ 9 ∷ on_first j (codes "1") in
    let numbers = flat_map (λ c. 9 ∷ cell c) (range_with_len 1 12) in
    let each : length numbers ≡ 24 = length-pieces (λ c. 9 ∷ cell c) (λ c. 2) (range_with_len 1 12) (λ c. ap (λ text. length (9 ∷ text)) (decimal_digit (violation state k c) (omega (arith, violation-low state k c)))) in
    length-parts texts numbers _ (line-cells (on_first j (input_name k)) (candidate_name k j) (on_first j (codes "1")) cell (range_with_len 1 12)) each

-- the bytes of the rows of an input
abbrev input_length : ℕ → ℕ
input_length k = sum_by (row_length k) (range_with_len 1 5)

length-input : (state k : ℕ) → length (flat_map line (input_rows state k)) ≡ input_length k
unfolding input_rows
length-input state k =
    let row : ℕ → List (List ℕ) = λ j. candidate_row (state_after state (3 * (j - 1))) k j in
    ap length (flat_map-map line row (range_with_len 1 5))
    ∙ length-pieces (λ j. line (row j)) (row_length k) (range_with_len 1 5) (λ j. length-row (state_after state (3 * (j - 1))) k j)

length-inputs : (number : ℕ) → length (flat_map line (all_rows number)) ≡ sum_by input_length (range_with_len 1 20)
unfolding all_rows
length-inputs number =
    let rows : ℕ → List (List (List ℕ)) = λ k. input_rows (state_after number (15 * (k - 1))) k in
    ap length (lines-of-pieces rows (range_with_len 1 20))
    ∙ length-pieces (λ k. flat_map line (rows k)) input_length (range_with_len 1 20) (λ k. length-input (state_after number (15 * (k - 1))) k)

counted : sum_by input_length (range_with_len 1 20) ≡ 3226
unfolding digits
counted = refl

length-header : length (line header) ≡ 42
unfolding digits
length-header = refl

three-parts : (front rows : List ℕ) → length front ≡ 42 → length rows ≡ 3226 → length (front ++ (front ++ rows)) ≡ 3310
three-parts front rows one all = omega (arith, length-append front (front ++ rows), length-append front rows, one, all)

pub length-file : (number : ℕ) → length (demonstration_file number) ≡ 3310
unfolding demonstration_file
length-file number =
    let rows = flat_map line (all_rows number) in
    three-parts (line header) rows length-header (length-inputs number ∙ counted)
