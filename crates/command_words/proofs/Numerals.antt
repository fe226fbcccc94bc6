-- Numbers in words.
use Rattle.std.proofs.Common.{◌≡◌, ◌<◌, ◌≤◌, ℕ, ◌^◌, true, ◌&&◌, nat_le, List, [], ◌∷◌, length, Result, Ok, Err, Some, None, inl, inr, refl, sym, ◌∙◌, arith}
use Rattle.std.specs.Result.{result_ok}
use Rattle.std.specs.List.{list_all}
use Rattle.std.specs.Char.{is_ascii_digit, digit_value}
use Rattle.std.specs.Str.Parse.{AllDigits, ParsesUnsigned, digits_value}
use Rattle.std.proofs.lemmas.Bool.{and_parts, and_right, cases_Bool}
use Rattle.std.proofs.lemmas.Bool.Decides.{nat_tests}
use Rattle.std.proofs.lemmas.Str.Parse.{IsNumeralModel, parse_digits}
use Rattle.command_words.specs.Words.{number}

abbrev pub AreDigits : List ℕ → Type 0
AreDigits text = list_all is_ascii_digit text ≡ true

digit_low : (c : ℕ) → is_ascii_digit c ≡ true → digit_value c < 10
digit_low c h = grind (arith, nat_tests)

low_digit : (c : ℕ) → digit_value c < 10 → is_ascii_digit c ≡ true
low_digit c h = grind (arith, nat_tests)

digits_from : (text : List ℕ) → AreDigits text → AllDigits 10 text
digits_from [] h = tt
digits_from (c ∷ text) h =
    let parts = and_parts (is_ascii_digit c) (list_all is_ascii_digit text) h in
    (digit_low c parts.0, digits_from text parts.1)

from_digits : (text : List ℕ) → AllDigits 10 text → AreDigits text
from_digits [] h = refl
from_digits (c ∷ text) h = rw (low_digit c h.0) (from_digits text h.1)

own : IsNumeralModel AreDigits (digits_value 10)
own = record { to = digits_from; from = from_digits; same = λ text h. refl }

-- what parses is the number, where it is within the bounds
pub number-read : {E : Type 0} (digits least most n : ℕ) (text : List ℕ) (r : Result ℕ E) → ParsesUnsigned 64 10 text r → AreDigits text → length text ≤ digits → result_ok r ≡ Some n → least ≤ n → n ≤ most
    → number digits least most text ≡ Some n
number-read {E = E} digits least most n text (Ok m) h spelled short is low high =
    let read = parse_digits own {E = E} 64 text (Ok m) h spelled in
    let same : m ≡ n = cc in
    let value : digits_value 10 text ≡ n = sym read.1 ∙ same in
    let some : nat_le 1 (length text) ≡ true = grind (arith, nat_tests, read.0.0) in
    let few : nat_le (length text) digits ≡ true = grind (arith, nat_tests) in
    let above : nat_le least n ≡ true = grind (arith, nat_tests) in
    let below : nat_le n most ≡ true = grind (arith, nat_tests) in
    rw (value, some, few, spelled, above, below) refl
number-read digits least most n text (Err e) h spelled short is low high = absurd (none_some is)
  where
    none_some : None ≡ Some n → ⊥
    none_some e = cc

-- what does not parse is no number within bounds of 64 bits
pub number-unread : {E : Type 0} (digits least most : ℕ) (text : List ℕ) (r : Result ℕ E) → ParsesUnsigned 64 10 text r → AreDigits text → most < 2 ^ 64 → result_ok r ≡ None → number digits least most text ≡ None
number-unread digits least most text (Ok n) h spelled small is = absurd (some_none is)
  where
    some_none : Some n ≡ None → ⊥
    some_none e = cc
number-unread digits least most text (Err e) h spelled small is =
    let unread = parse_digits own 64 text (Err e) h spelled in
    elim (cases_Bool (nat_le 1 (length text))) [
      | inr empty ↦ rw empty refl
      | inl some ↦ elim (cases_Bool (nat_le (digits_value 10 text) most)) [
        | inl low ↦ absurd (unread (grind (arith, nat_tests), grind (arith, nat_tests)))
        | inr high ↦ rw (and_right (nat_le 1 (length text) && nat_le (length text) digits && list_all is_ascii_digit text && nat_le least (digits_value 10 text)) (nat_le (digits_value 10 text) most) high) refl
      ]
    ]
