-- The grammar of a typology's report, whose lines are judged from the first one on.
use Rattle.std.specs.Prelude.{◌≡◌, ℕ, zero, suc, ◌+◌, ◌-◌, Bool, List, [], ◌∷◌, length, nat_lt, ◌==◌, codes, Option, Some, None, Result, Ok, Err, ⊤, if◌then◌else◌}
use Rattle.std.specs.List.{position_or_len, before_first, after_first}
use Rattle.std.specs.Option.{option_map, ok_or}
use Rattle.erc_vectors.specs.declared.condition.TheConstants.{LIMIT}
use Rattle.ot_base.specs.declared.limits.TheConstants.{INPUT_LIMIT, GIVEN_LIMIT}
use Rattle.ot_theory.specs.Languages.{Term}
use Rattle.refutation.specs.Typologies.{found_of, cuts_of, certificates_of}
use Rattle.refutation.specs.declared.typology.Typology.{Typology}
use Rattle.report_reader.specs.Fields.{pieces}
use Rattle.report_reader.specs.Shapes.{is_title, count_line, some_line, is_constraint, few_line, is_given, input_line, is_class, language_line, certificate_line, cut_line, is_end}
use Rattle.report_reader.specs.declared.misread.Misread.{Misread}
use Rattle.report_reader.specs.declared.misread.Misread.TheVariants as misreads
use Rattle.report_reader.specs.declared.reading.TextError.{TextError}
use Rattle.report_reader.specs.declared.reading.TextError.TheVariants as errors

infixl 10 ◌>>=◌
abbrev pub ◌>>=◌ : {A B : Type 0} → Result A ℕ → (A → Result B ℕ) → Result B ℕ
(Ok x) >>= f = f x
(Err left) >>= f = Err left

-- A value and the bytes of the lines after it; or how many lines are left, from the first one that does not fit.
abbrev pub Reading : Type 0 → Type 0
Reading A = Result (A × List ℕ) ℕ

-- how many lines there are, with that of the bytes behind the last LF, of which there may be none
abbrev pub line_count : List ℕ → ℕ
line_count bytes = length (pieces 10 bytes)

-- the first line, and the bytes behind the LF that ends it
abbrev pub first_line : List ℕ → Option (List ℕ × List ℕ)
first_line bytes =
    if nat_lt (position_or_len (λ b. b == 10) bytes) (length bytes)
    then Some (before_first (λ b. b == 10) bytes, after_first (λ b. b == 10) bytes)
    else None

-- the value of a line that is there, and the bytes after it
abbrev pub valued : {A : Type 0} → (List ℕ → Option A) → Option (List ℕ × List ℕ) → Option (A × List ℕ)
valued value None = None
valued value (Some (line, rest)) = option_map (λ a. (a, rest)) (value line)

-- the value of the first line, which fits where an LF ends it and it has a value
abbrev pub line_at : {A : Type 0} → (List ℕ → Option A) → List ℕ → Reading A
line_at value bytes = ok_or (valued value (first_line bytes)) (line_count bytes)

-- a line that passes
abbrev pub test_at : (List ℕ → Bool) → List ℕ → Reading ⊤
test_at test bytes = line_at (λ line. if test line then Some tt else None) bytes

-- so many lines, each of which passes with its number, from k on
abbrev pub tests_at : (ℕ → List ℕ → Bool) → ℕ → ℕ → List ℕ → Reading ⊤
tests_at test k zero bytes = Ok (tt, bytes)
tests_at test k (suc n) bytes = do
  line ← test_at (test k) bytes
  tests_at test (k + 1) n line.1

-- so many values, each with its number, from k on
abbrev pub each_at : {A : Type 0} → (ℕ → List ℕ → Reading A) → ℕ → ℕ → List ℕ → Reading (List A)
each_at item k zero bytes = Ok ([], bytes)
each_at item k (suc n) bytes = do
  first ← item k bytes
  others ← each_at item (k + 1) n first.1
  Ok (first.0 ∷ others.0, others.1)

-- the line of an input, and those of its classes; the value is their number
unfoldable pub input_at : ℕ → ℕ → List ℕ → Reading ℕ
input_at n i bytes = do
  count ← line_at (input_line i) bytes
  lines ← tests_at (is_class n i) 1 count.0 count.1
  Ok (count.0, lines.1)

-- the lines of the given pairs behind that of their number, which is the value; none are there without that line
abbrev pub pairs_behind : ℕ → List ℕ → Option (ℕ × List ℕ) → Reading ℕ
pairs_behind n bytes None = Ok (0, bytes)
pairs_behind n bytes (Some (count, rest)) = do
  lines ← tests_at (is_given n) 1 count rest
  Ok (count, lines.1)

-- the block of given pairs, which may be absent
unfoldable pub givens_at : ℕ → List ℕ → Reading ℕ
givens_at n bytes = pairs_behind n bytes (valued (few_line (codes "givens") GIVEN_LIMIT) (first_line bytes))

-- the constraints, then the inputs, and then the given pairs: the number of constraints, the numbers of classes by input, and the
-- number of given pairs
unfoldable pub head_at : List ℕ → Reading ((ℕ × List ℕ) × ℕ)
head_at bytes = do
  title ← test_at is_title bytes
  n ← line_at (some_line (codes "constraints") LIMIT) title.1
  constraints ← tests_at is_constraint 1 n.0 n.1
  m ← line_at (some_line (codes "inputs") INPUT_LIMIT) constraints.1
  counts ← each_at (input_at n.0) 1 m.0 m.1
  pairs ← givens_at n.0 counts.1
  Ok (((n.0, counts.0), pairs.0), pairs.1)

unfoldable pub languages_at : ℕ → List ℕ → List ℕ → Reading (List (List ℕ × List ℕ))
languages_at n counts bytes = do
  number ← line_at (count_line (codes "languages")) bytes
  each_at (λ k. line_at (language_line n counts k)) 1 number.0 number.1

unfoldable pub certificates_at : ℕ → List ℕ → ℕ → List ℕ → Reading (List (List Term))
certificates_at n counts pairs bytes = do
  number ← line_at (count_line (codes "certificates")) bytes
  each_at (λ k. line_at (certificate_line n counts pairs k)) 1 number.0 number.1

unfoldable pub cuts_at : List ℕ → ℕ → List ℕ → Reading (List (List ℕ × ℕ))
cuts_at counts certificates bytes = do
  number ← line_at (count_line (codes "cuts")) bytes
  each_at (λ k. line_at (cut_line counts certificates k)) 1 number.0 number.1

-- what is found in a report: each language beside its hierarchy, the terms of each certificate, and each cut beside the
-- place of its certificate
pub record Found : Type 0 where
  pub languages : List (List ℕ × List ℕ)
  pub certificates : List (List Term)
  pub cuts : List (List ℕ × ℕ)

-- the whole report, behind whose last line nothing stands
unfoldable pub report_at : List ℕ → Result Found ℕ
report_at bytes = do
  head ← head_at bytes
  languages ← languages_at head.0.0.0 head.0.0.1 head.1
  certificates ← certificates_at head.0.0.0 head.0.0.1 head.0.1 languages.1
  cuts ← cuts_at head.0.0.1 (length certificates.0) certificates.1
  last ← test_at is_end cuts.1
  if length last.1 == 0 then Ok (record { languages = languages.0; certificates = certificates.0; cuts = cuts.0 }) else Err (line_count last.1)

-- What a function returned, seen by view, is what reading gives, unless memory ran out.
abbrev pub Fails : {Y : Type 0} → Misread → Result Y ℕ → Type 0
Fails misreads.NoMemory read = ⊤
Fails (misreads.Left left) read = read ≡ Err left

abbrev pub Gives : {X Y : Type 0} → (X → Y) → Result X Misread → Result Y ℕ → Type 0
Gives view (Ok x) read = read ≡ Ok (view x)
Gives view (Err e) read = Fails e read

abbrev pub found : Typology → Found
found typology = record { languages = found_of typology.languages; certificates = certificates_of typology.certificates; cuts = cuts_of typology.cuts }

-- the number of the first line that does not fit, from 1 on
abbrev pub line_number : List ℕ → ℕ → ℕ
line_number bytes left = line_count bytes - left + 1

-- A report gives its typology, and other bytes the number of the first line that does not fit, unless memory ran out.
abbrev pub IsRead : List ℕ → Result Typology TextError → Type 0
IsRead bytes (Ok typology) = report_at bytes ≡ Ok (found typology)
IsRead bytes (Err errors.NoMemory) = ⊤
IsRead bytes (Err (errors.BadLine line)) = (left : ℕ) × (report_at bytes ≡ Err left) × (line ≡ line_number bytes left)
