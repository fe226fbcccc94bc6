-- A number in decimal is read as the number.
use Rattle.std.proofs.Common.{◌≡◌, ℕ, zero, suc, ◌+◌, ◌-◌, ◌*◌, ◌/◌, ◌%◌, ◌^◌, ◌<◌, ◌≤◌, true, false, List, [], ◌∷◌, ◌++◌, Some, length, get_or, decimal, arith, refl, ◌∙◌}
use Rattle.std.specs.List.{list_all}
use Rattle.std.proofs.lemmas.Bool.{le-leb, eq-eqb, ne_eqb, and_right}
use Rattle.std.proofs.lemmas.Fmt.{decimal_by_steps, decimal_digit, decimal_nonempty, length-decimal-le, first_decimal}
use Rattle.std.proofs.lemmas.List.Folds.{list_all-append}
use Rattle.std.proofs.lemmas.List.Sums.{fold-append}
use Rattle.report_reader.specs.Fields.{is_digit, has_leading_zero, are_digits, value_of, number, is_number, spells, place}

-- the greatest number that is read
abbrev pub NUMBER_LIMIT : ℕ
NUMBER_LIMIT = 268435456

-- digits with this value
pub record AreDigitsOf (n : ℕ) (ds : List ℕ) : Type 0 where
  pub digits : list_all is_digit ds ≡ true
  pub value : value_of ds ≡ n

digit : (n : ℕ) → n < 10 → is_digit (48 + n) ≡ true
digit n small = rw (le-leb 48 (48 + n) (omega arith), le-leb (48 + n) 57 (omega arith)) refl

one_digit : (n : ℕ) → n < 10 → AreDigitsOf n ((48 + n) ∷ [])
one_digit n small = record { digits = rw (digit n small) refl; value = omega arith }

one_digit_more : (n : ℕ) (ds : List ℕ) → 10 ≤ n → AreDigitsOf (n / 10) ds → AreDigitsOf n (ds ++ (48 + n % 10) ∷ [])
one_digit_more n ds big front =
    let step : ℕ → ℕ → ℕ = λ m b. 10 * m + (b - 48) in
    record {
      digits = rw (list_all-append is_digit ds ((48 + n % 10) ∷ []), front.digits, digit (n % 10) (omega arith)) refl;
      value = fold-append step 0 ds ((48 + n % 10) ∷ []) ∙ rw front.value (omega arith);
    }

pub digits-decimal : (n : ℕ) → n < 2 ^ 64 → AreDigitsOf n (decimal n)
digits-decimal n fits = decimal_by_steps AreDigitsOf one_digit one_digit_more n fits

no_leading_zero : (n : ℕ) → n < 2 ^ 64 → has_leading_zero (decimal n) ≡ false
no_leading_zero zero fits = rw (decimal_digit 0 (omega arith)) refl
no_leading_zero (suc n) fits = and_right _ _ (ne_eqb (get_or (decimal (suc n)) 0 0) 48 (λ e. omega (arith, e, first_decimal (suc n) (omega arith) fits)))

pub are_digits-decimal : (n : ℕ) → n ≤ NUMBER_LIMIT → are_digits (decimal n) ≡ true
are_digits-decimal n small =
    let fits : n < 2 ^ 64 = omega arith in
    let some = decimal_nonempty n fits in
    let short = length-decimal-le 9 n (omega arith) (omega arith) fits in
    rw (le-leb 1 (length (decimal n)) some, le-leb (length (decimal n)) 9 short, (digits-decimal n fits).digits, no_leading_zero n fits) refl

pub is_number-decimal : (n : ℕ) → n ≤ NUMBER_LIMIT → is_number (decimal n) ≡ true
is_number-decimal n small = rw (are_digits-decimal n small, (digits-decimal n (omega arith)).value, le-leb n NUMBER_LIMIT small) refl

pub number-decimal : (n : ℕ) → n ≤ NUMBER_LIMIT → number (decimal n) ≡ Some n
number-decimal n small = rw (are_digits-decimal n small, (digits-decimal n (omega arith)).value, le-leb n NUMBER_LIMIT small) refl

pub spells-decimal : (n : ℕ) → n ≤ NUMBER_LIMIT → spells (decimal n) n ≡ true
spells-decimal n small = rw (is_number-decimal n small, (digits-decimal n (omega arith)).value, eq-eqb n n refl) refl

pub place-decimal : (count k : ℕ) → k < count → count ≤ NUMBER_LIMIT → place count (decimal (k + 1)) ≡ Some k
place-decimal count k below small =
    let back : k + 1 - 1 ≡ k = omega arith in
    rw (number-decimal (k + 1) (omega arith), le-leb 1 (k + 1) (omega arith), le-leb (k + 1) count (omega arith), back) refl
