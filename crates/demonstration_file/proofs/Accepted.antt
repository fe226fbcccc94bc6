-- The file of every number is read as its table.
use Rattle.std.proofs.Common.{◌≡◌, ℕ, zero, suc, ◌+◌, ◌-◌, ◌*◌, ◌^◌, ◌<◌, ◌≤◌, ◌==◌, nat_lt, Bool, true, false, List, [], ◌∷◌, ◌++◌, length, map, flat_map, decimal, codes, Ok, arith, inl, inr, refl}
use Rattle.std.specs.Fmt.{digits}
use Rattle.std.specs.List.{All, list_all, range_with_len}
use Rattle.std.specs.Str.Parse.{AllDigits}
use Rattle.std.proofs.lemmas.Bool.{cases_Bool}
use Rattle.std.proofs.lemmas.Bool.Decides.{nat_tests}
use Rattle.std.proofs.lemmas.Fmt.{decimal_is_IsNumeral}
use Rattle.std.proofs.Common.{length-append}
use Rattle.std.proofs.lemmas.List.Elements.{All-append, All-cons, All-nil, All-weaker}
use Rattle.std.proofs.lemmas.List.Folds.{list_all-append}
use Rattle.tableau_file.specs.Numbers.{is_count, is_violation}
use Rattle.tableau_file.specs.Rows.{cell, is_empty, rows_from, tableau_of}
use Rattle.tableau_file.specs.Faults.{columns_used, name_faults, rows_refusals, refusals}
use Rattle.tableau_file.specs.declared.limits.TheConstants.{FILE_LIMIT}
use Rattle.tableau_file.specs.Reading.{is_utf16, constraint_count, table_of, table_reading, reading}
use Rattle.demonstration_file.specs.Demonstration.{state_after, candidate_name, input_name, on_first, violation, candidate_row, input_rows, all_rows, header, table, demonstration_file}
use Rattle.demonstration_file.proofs.FewRows.{IsSoundRow, few-sound}
use Rattle.demonstration_file.proofs.Lengths.{violation-low, length-file}
use Rattle.demonstration_file.proofs.Plain.{is_plain, are_plain, is_plain_row, rows-read}

-- ---- texts
plain-digits : (text : List ℕ) → AllDigits 10 text → are_plain text ≡ true
plain-digits [] all = refl
plain-digits (c ∷ text) all =
    let above : is_plain c ≡ true = grind (arith, nat_tests, all.0) in
    rw (above, plain-digits text all.1) refl

plain-decimal : (n : ℕ) → n < 2 ^ 64 → are_plain (decimal n) ≡ true
plain-decimal n fits = plain-digits (decimal n) (decimal_is_IsNumeral n fits).0.1

plain-candidate : (k j : ℕ) → k < 2 ^ 64 → j < 2 ^ 64 → are_plain (candidate_name k j) ≡ true
plain-candidate k j input candidate = rw (list_all-append is_plain (decimal k ++ 99 ∷ []) (decimal j), list_all-append is_plain (decimal k) (99 ∷ []), plain-decimal k input, plain-decimal j candidate) refl

plain-first : (j : ℕ) (text : List ℕ) → are_plain text ≡ true → are_plain (on_first j text) ≡ true
plain-first j text plain = elim (cases_Bool (j == 1)) [ inl first ↦ rw first plain | inr other ↦ rw other refl ]

count-first : (j : ℕ) → is_count (on_first j (codes "1")) ≡ true
count-first j = elim (cases_Bool (j == 1)) [ inl first ↦ rw first refl | inr other ↦ rw other refl ]

drawn-violation : (n : ℕ) → n < 3 → is_violation (decimal n) ≡ true
unfolding digits
drawn-violation zero low = refl
drawn-violation (suc zero) low = refl
drawn-violation (suc (suc zero)) low = refl
drawn-violation (suc (suc (suc n))) low = absurd (omega (arith, low))

all_pass : (p : List ℕ → Bool) (f : ℕ → List ℕ) (numbers : List ℕ) → ((n : ℕ) → p (f n) ≡ true) → list_all p (map f numbers) ≡ true
all_pass p f [] each = refl
all_pass p f (n ∷ numbers) each = rw (each n, all_pass p f numbers each) refl

-- ---- a row
-- What is needed of each row.
record IsGood (row : List (List ℕ)) : Type 0 where
  plain : is_plain_row row ≡ true
  sound : IsSoundRow 12 row

abbrev cells_of_row : ℕ → ℕ → (ℕ → List ℕ) → List (List ℕ)
cells_of_row k j cell = on_first j (input_name k) ∷ candidate_name k j ∷ on_first j (codes "1") ∷ map cell (range_with_len 1 12)

good-cells : (k j : ℕ) (cell : ℕ → List ℕ) → k < 2 ^ 64 → j < 2 ^ 64 → ((c : ℕ) → are_plain (cell c) ≡ true) → ((c : ℕ) → is_violation (cell c) ≡ true) → IsGood (cells_of_row k j cell)
good-cells k j cell input candidate plain violations = record {
  plain = rw (plain-first j (input_name k) (plain-decimal k input), plain-candidate k j input candidate, plain-first j (codes "1") refl, all_pass are_plain cell (range_with_len 1 12) plain) refl;
  sound = record {
    candidate = grind (arith, nat_tests);
    count = count-first j;
    violations = all_pass is_violation cell (range_with_len 1 12) violations;
    extra = refl;
  };
}

good-row : (state k j : ℕ) → k < 2 ^ 64 → j < 2 ^ 64 → IsGood (candidate_row state k j)
unfolding candidate_row
good-row state k j input candidate =
    good-cells k j (λ c. decimal (violation state k c)) input candidate (λ c. plain-decimal (violation state k c) (omega (arith, violation-low state k c))) (λ c. drawn-violation (violation state k c) (violation-low state k c))

-- ---- all rows
each-in-range : {X : Type 0} (P : X → Type 0) (f : ℕ → X) (a n : ℕ) → ((k : ℕ) → k < a + n → P (f k)) → All P (map f (range_with_len a n))
each-in-range P f a zero each = All-nil P
each-in-range P f a (suc n) each = All-cons P (f a) (map f (range_with_len (a + 1) n)) (each a (omega arith)) (each-in-range P f (a + 1) n (λ k low. each k (omega (arith, low))))

each-piece : {X : Type 0} (P : X → Type 0) (f : ℕ → List X) (a n : ℕ) → ((k : ℕ) → k < a + n → All P (f k)) → All P (flat_map f (range_with_len a n))
each-piece P f a zero each = All-nil P
each-piece P f a (suc n) each = All-append P (f a) (flat_map f (range_with_len (a + 1) n)) (each a (omega arith)) (each-piece P f (a + 1) n (λ k low. each k (omega (arith, low))))

good-input : (state k : ℕ) → k < 2 ^ 64 → All IsGood (input_rows state k)
unfolding input_rows
good-input state k input = each-in-range IsGood (λ j. candidate_row (state_after state (3 * (j - 1))) k j) 1 5 (λ j low. good-row (state_after state (3 * (j - 1))) k j input (omega (arith, low)))

good-rows : (number : ℕ) → All IsGood (all_rows number)
unfolding all_rows
good-rows number = each-piece IsGood (λ k. input_rows (state_after number (15 * (k - 1))) k) 1 20 (λ k low. good-input (state_after number (15 * (k - 1))) k (omega (arith, low)))

-- ---- how many
length-rows : (state k : ℕ) → length (input_rows state k) ≡ 5
unfolding input_rows
length-rows state k = refl

length-pieces : {X : Type 0} (f : ℕ → List X) (each : ℕ) (numbers : List ℕ) → ((n : ℕ) → length (f n) ≡ each) → length (flat_map f numbers) ≡ each * length numbers
length-pieces f each [] same = omega arith
length-pieces f each (n ∷ numbers) same =
    let more : each * length (n ∷ numbers) ≡ each + each * length numbers = grind arith in
    omega (arith, length-append (f n) (flat_map f numbers), same n, length-pieces f each numbers same, more)

length-all : (number : ℕ) → length (all_rows number) ≡ 100
unfolding all_rows
length-all number = length-pieces (λ k. input_rows (state_after number (15 * (k - 1))) k) 5 (range_with_len 1 20) (λ k. length-rows (state_after number (15 * (k - 1))) k)

-- ---- the first row
-- rows of which the first begins an input
record Begins (rows : List (List (List ℕ))) : Type 0 where
  first : List (List ℕ)
  others : List (List (List ℕ))
  rows_are : rows ≡ first ∷ others
  begins : is_empty (cell first 0) ≡ false

first_row : (state : ℕ) → is_empty (cell (candidate_row state 1 1) 0) ≡ false
unfolding candidate_row digits
first_row state = refl

begins-input : (state : ℕ) (more : List (List (List ℕ))) → Begins (input_rows state 1 ++ more)
unfolding input_rows
begins-input state more = record { first = candidate_row state 1 1; others = _; rows_are = refl; begins = first_row state }

begins-all : (number : ℕ) → Begins (all_rows number)
unfolding all_rows
begins-all number = begins-input number _

-- ---- the whole file
no_row_refusals : (rows : List (List (List ℕ))) → All IsGood rows → Begins rows → length rows ≤ 200 → rows_refusals 12 (rows_from 3 rows) ≡ []
no_row_refusals rows good begun few =
    let sound = All-weaker IsGood (IsSoundRow 12) (λ row is. is.sound) rows good in
    rw begun.rows_are (few-sound 12 begun.first begun.others (rw begun.rows_are at sound) begun.begins (rw begun.rows_are at few))

header-names : name_faults 12 header ≡ []
unfolding digits
header-names = refl

header-columns : columns_used header ≡ 15
unfolding digits
header-columns = refl

header-plain : is_plain_row header ≡ true
unfolding digits
header-plain = refl

no_refusals : (number : ℕ) → refusals 12 (table number) ≡ []
unfolding refusals
no_refusals number = rw (header-names, no_row_refusals (all_rows number) (good-rows number) (begins-all number) (omega (arith, length-all number))) refl

read-table : (number : ℕ) → table_reading (table number) ≡ Ok (tableau_of 12 (table number))
unfolding table_reading
read-table number =
    let count : constraint_count (table number) ≡ 12 = omega (arith, header-columns) in
    rw (count, no_refusals number) refl

plain-table : (number : ℕ) → All (λ row. is_plain_row row ≡ true) (table number)
plain-table number =
    let rows = All-weaker IsGood (λ row. is_plain_row row ≡ true) (λ row is. is.plain) (all_rows number) (good-rows number) in
    All-cons (λ row. is_plain_row row ≡ true) header (header ∷ all_rows number) header-plain (All-cons (λ row. is_plain_row row ≡ true) header (all_rows number) header-plain rows)

table-spelled : (number : ℕ) → table_of (demonstration_file number) ≡ table number
unfolding table_of demonstration_file
table-spelled number = rows-read (table number) (plain-table number)

no_mark : (number : ℕ) → is_utf16 (demonstration_file number) ≡ false
unfolding demonstration_file
no_mark number = refl

pub accepted : (number : ℕ) → reading (demonstration_file number) ≡ Ok (tableau_of 12 (table number))
unfolding reading
accepted number =
    let short : nat_lt FILE_LIMIT (length (demonstration_file number)) ≡ false = grind (arith, nat_tests, length-file number) in
    rw (short, no_mark number, table-spelled number) (read-table number)
