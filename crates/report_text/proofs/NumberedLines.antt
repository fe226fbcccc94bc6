-- Numbered lines are read back one after the other.
use Rattle.std.proofs.Common.{◌≡◌, ℕ, ◌+◌, ◌≤◌, Bool, List, [], ◌∷◌, ◌++◌, Ok, All, length, map, flat_map, length-append, arith, refl}
use Rattle.std.specs.List.{enumerate_from, join_with_byte}
use Rattle.std.proofs.lemmas.List.{append_assoc}
use Rattle.std.proofs.lemmas.List.Elements.{All-head, All-tail}
use Rattle.report_reader.specs.Grammar.{Reading, test_at, tests_at, each_at}
use Rattle.report_text.specs.Spelling.{line}

-- Each item that has P is read at its number, which is at most the greatest.
abbrev pub IsEachRead : {X A : Type 0} → (ℕ → List ℕ → Reading A) → (ℕ × X → List ℕ) → (X → A) → (X → Type 0) → ℕ → Type 0
IsEachRead {X} item write view P greatest = (j : ℕ) (x : X) (rest : List ℕ) → j ≤ greatest → P x → item j (write (j, x) ++ rest) ≡ Ok (view x, rest)

pub each_at-all : {X A : Type 0} (item : ℕ → List ℕ → Reading A) (write : ℕ × X → List ℕ) (view : X → A) (P : X → Type 0) (greatest : ℕ)
    → IsEachRead item write view P greatest → (xs : List X) (k : ℕ) (rest : List ℕ) → All P xs → k + length xs ≤ greatest + 1
    → each_at item k (length xs) (flat_map write (enumerate_from k xs) ++ rest) ≡ Ok (map view xs, rest)
each_at-all item write view P greatest read [] k rest each within = refl
each_at-all item write view P greatest read (x ∷ xs) k rest each within =
    let behind = flat_map write (enumerate_from (k + 1) xs) in
    let here = read k x (behind ++ rest) (omega (arith, within)) (All-head P x xs each) in
    let others = each_at-all item write view P greatest read xs (k + 1) rest (All-tail P x xs each) (omega (arith, within)) in
    rw (append_assoc (write (k, x)) behind rest, here, others) refl

-- the same of lines without a value
abbrev pub IsEachPassed : {X : Type 0} → (ℕ → List ℕ → Bool) → (ℕ × X → List ℕ) → (X → Type 0) → ℕ → Type 0
IsEachPassed {X} test write P greatest = (j : ℕ) (x : X) (rest : List ℕ) → j ≤ greatest → P x → test_at (test j) (write (j, x) ++ rest) ≡ Ok (tt, rest)

pub tests_at-all : {X : Type 0} (test : ℕ → List ℕ → Bool) (write : ℕ × X → List ℕ) (P : X → Type 0) (greatest : ℕ)
    → IsEachPassed test write P greatest → (xs : List X) (k : ℕ) (rest : List ℕ) → All P xs → k + length xs ≤ greatest + 1
    → tests_at test k (length xs) (flat_map write (enumerate_from k xs) ++ rest) ≡ Ok (tt, rest)
tests_at-all test write P greatest read [] k rest each within = refl
tests_at-all test write P greatest read (x ∷ xs) k rest each within =
    let behind = flat_map write (enumerate_from (k + 1) xs) in
    let here = read k x (behind ++ rest) (omega (arith, within)) (All-head P x xs each) in
    let others = tests_at-all test write P greatest read xs (k + 1) rest (All-tail P x xs each) (omega (arith, within)) in
    rw (append_assoc (write (k, x)) behind rest, here, others) refl

-- ---- there are no more lines than bytes
pub line-some : (texts : List (List ℕ)) → 1 ≤ length (line texts)
line-some texts = omega (arith, length-append (join_with_byte 9 texts) (10 ∷ []))

pub lines-within : {X : Type 0} (write : ℕ × X → List ℕ) → ((p : ℕ × X) → 1 ≤ length (write p)) → (xs : List X) (k : ℕ) → length xs ≤ length (flat_map write (enumerate_from k xs))
lines-within write some [] k = omega arith
lines-within write some (x ∷ xs) k =
    let behind = flat_map write (enumerate_from (k + 1) xs) in
    omega (arith, length-append (write (k, x)) behind, some (k, x), lines-within write some xs (k + 1))
