-- A line of fields is read as its fields.
use Rattle.std.proofs.Common.{◌≡◌, ℕ, ◌<◌, ◌≤◌, ◌^◌, Bool, true, false, not, ◌==◌, List, [], ◌∷◌, ◌++◌, Option, Some, None, Ok, length, decimal, if◌then◌else◌, bytes_eq, arith, refl, inl, inr}
use Rattle.std.specs.List.{list_all, join_with_byte}
use Rattle.std.specs.Option.{option_map}
use Rattle.std.proofs.lemmas.Bool.{and_parts}
use Rattle.std.proofs.lemmas.Bool.Decides.{eqb_tells}
use Rattle.std.proofs.lemmas.Fmt.{decimal_nonempty}
use Rattle.std.proofs.lemmas.List.{append_assoc}
use Rattle.std.proofs.lemmas.Slice.Eq.{bytes_eq-Decides}
use Rattle.ot_theory.proofs.Certificates.{all-weaker}
use Rattle.report_reader.specs.Fields.{is_digit}
use Rattle.report_reader.specs.Grammar.{first_line, line_at, test_at, valued}
use Rattle.report_reader.specs.Shapes.{count_line, numbered}
use Rattle.report_text.specs.Spelling.{line}
use Rattle.report_text.proofs.Numerals.{NUMBER_LIMIT, digits-decimal, number-decimal, spells-decimal}
use Rattle.report_text.proofs.Parted.{lacks, lacks-joined, pieces-joined, first_line-text}

-- a text whose bytes pass a test lacks a byte that does not
pub lacks-other : (p : ℕ → Bool) (c : ℕ) → p c ≡ false → (text : List ℕ) → list_all p text ≡ true → lacks c text ≡ true
lacks-other p c fails text each = all-weaker p (λ b. not (b == c)) text
    (λ b passes. elim (eqb_tells b c) [ inl same ↦ absurd (let both : p b ≡ false = rw same.1 fails in cc) | inr other ↦ rw other.0 refl ]) each

pub lacks-decimal : (c n : ℕ) → is_digit c ≡ false → n ≤ NUMBER_LIMIT → lacks c (decimal n) ≡ true
lacks-decimal c n other small = lacks-other is_digit c other (decimal n) (digits-decimal n (omega arith)).digits

starts_otherwise : (c : ℕ) (more ds rest : List ℕ) → is_digit c ≡ false → list_all is_digit ds ≡ true → 0 < length ds → bytes_eq (ds ++ rest) (c ∷ more) ≡ false
starts_otherwise c more [] rest other each some = absurd (omega (arith, some))
starts_otherwise c more (d ∷ ds) rest other each some =
    let passes = (and_parts (is_digit d) (list_all is_digit ds) each).0 in
    elim (eqb_tells d c) [ inl same ↦ absurd (let both : is_digit d ≡ false = rw same.1 other in cc) | inr differ ↦ rw differ.0 refl ]

-- what begins with a number is no text that begins otherwise
pub decimal-differs : (c : ℕ) (more : List ℕ) (n : ℕ) (rest : List ℕ) → is_digit c ≡ false → n ≤ NUMBER_LIMIT → bytes_eq (decimal n ++ rest) (c ∷ more) ≡ false
decimal-differs c more n rest other small =
    let fits : n < 2 ^ 64 = omega arith in
    starts_otherwise c more (decimal n) rest other (digits-decimal n fits).digits (decimal_nonempty n fits)

pub bytes_eq-same : (text : List ℕ) → bytes_eq text text ≡ true
bytes_eq-same text = (bytes_eq-Decides text text).1 refl

-- ---- the first line, where it has a value or passes
pub line_at-value : {A : Type 0} (value : List ℕ → Option A) (texts : List (List ℕ)) (rest : List ℕ) (a : A) → list_all (lacks 10) texts ≡ true
    → value (join_with_byte 9 texts) ≡ Some a → line_at value (line texts ++ rest) ≡ Ok (a, rest)
line_at-value value texts rest a each has =
    let text = join_with_byte 9 texts in
    let first = first_line-text text rest (lacks-joined 10 9 texts refl each) in
    rw (append_assoc text (10 ∷ []) rest, first, has) refl

-- the first line, where it has a value and where it has none
pub valued-line : {A : Type 0} (value : List ℕ → Option A) (texts : List (List ℕ)) (rest : List ℕ) (a : Option A) → list_all (lacks 10) texts ≡ true
    → value (join_with_byte 9 texts) ≡ a → valued value (first_line (line texts ++ rest)) ≡ option_map (λ x. (x, rest)) a
valued-line value texts rest a each has =
    let text = join_with_byte 9 texts in
    let first = first_line-text text rest (lacks-joined 10 9 texts refl each) in
    rw (append_assoc text (10 ∷ []) rest, first, has) refl

pub test_at-passes : (test : List ℕ → Bool) (texts : List (List ℕ)) (rest : List ℕ) → list_all (lacks 10) texts ≡ true
    → test (join_with_byte 9 texts) ≡ true → test_at test (line texts ++ rest) ≡ Ok (tt, rest)
test_at-passes test texts rest each passes = line_at-value (λ line. if test line then Some tt else None) texts rest tt each (rw passes refl)

-- ---- lines of two fields and of four
pub count_line-joined : (word : List ℕ) (n : ℕ) → lacks 9 word ≡ true → n ≤ NUMBER_LIMIT → count_line word (join_with_byte 9 (word ∷ decimal n ∷ [])) ≡ Some n
count_line-joined word n plain small =
    let parts = pieces-joined 9 word (decimal n ∷ []) (rw (plain, lacks-decimal 9 n refl small) refl) in
    rw (parts, bytes_eq-same word, number-decimal n small) refl

pub numbered-joined : (word : List ℕ) (k : ℕ) (a b : List ℕ) → lacks 9 word ≡ true → lacks 9 a ≡ true → lacks 9 b ≡ true → k ≤ NUMBER_LIMIT
    → numbered word k (join_with_byte 9 (word ∷ decimal k ∷ a ∷ b ∷ [])) ≡ Some (a, b)
numbered-joined word k a b plain first second small =
    let parts = pieces-joined 9 word (decimal k ∷ a ∷ b ∷ []) (rw (plain, lacks-decimal 9 k refl small, first, second) refl) in
    rw (parts, bytes_eq-same word, spells-decimal k small) refl
