-- The text of a prefix, which begins with the text of a front of it.
use Rattle.std.proofs.Common.{◌≡◌, ℕ, suc, ◌+◌, ◌-◌, ◌/◌, ◌%◌, ◌^◌, ◌<◌, ◌≤◌, List, [], ◌∷◌, ◌++◌, length, length-append, get_or, take, drop, map, decimal, arith, refl, sym, ap, take_all, ◌∙◌}
use Rattle.std.proofs.lemmas.Fmt.{decimal_step}
use Rattle.std.proofs.lemmas.List.{append-nil, length-drop, map-append, take-append-drop, take_at, take_more}
use Rattle.ot_base.specs.declared.tableau.ClassId.{ClassId}
use Rattle.refutation.specs.Prefixes.{class_numbers}
use Rattle.report_text.specs.Spelling.{each_behind_space, prefix}
use Rattle.report_text.proofs.Led.{behind-append}
use Rattle.report_text.proofs.Spaced.{spaced-behind}

abbrev pub written : List ClassId → List ℕ
written classes = each_behind_space (class_numbers classes)

written-append : (xs ys : List ClassId) → written (xs ++ ys) ≡ written xs ++ written ys
written-append xs ys =
    let number : ClassId → ℕ = λ class. class.0 in
    let above : ℕ → ℕ = λ a. a + 1 in
    rw (map-append number xs ys, map-append above (map number xs) (map number ys)) (behind-append 32 (map above (map number xs)) (map above (map number ys)))

-- a front, and the classes behind it
written-front : (front : ℕ) (classes : List ClassId) → written classes ≡ written (take front classes) ++ written (drop front classes)
written-front front classes = ap written (sym (take-append-drop front classes)) ∙ written-append (take front classes) (drop front classes)

-- the classes behind a front, as a range
abbrev rest : ℕ → List ClassId → List ClassId
rest front classes = take (length classes - front) (drop front classes)

rest-all : (front : ℕ) (classes : List ClassId) → rest front classes ≡ drop front classes
rest-all front classes = take_all (length classes - front) (drop front classes) (omega (arith, length-drop front classes))

-- their text is no longer than the whole
pub written-short : (front : ℕ) (classes : List ClassId) (kept : List ℕ) → kept ≡ written classes → length (written (rest front classes)) ≤ length kept
written-short front classes kept e =
    omega (arith, ap (λ (l : List ℕ). length l) (e ∙ written-front front classes), length-append (written (take front classes)) (written (drop front classes)), ap (λ (l : List ClassId). length (written l)) (rest-all front classes))

-- what is left of the text without them
pub written-left : (front : ℕ) (before : List ClassId) (kept new : List ℕ) → kept ≡ written before → new ≡ take (length kept - length (written (rest front before))) kept → new ≡ written (take front before)
written-left front before kept new e left =
    let whole : kept ≡ written (take front before) ++ written (drop front before) = e ∙ written-front front before in
    let long = length-append (written (take front before)) (written (drop front before)) in
    let behind = ap (λ (l : List ClassId). length (written l)) (rest-all front before) in
    left
    ∙ ap (λ (l : List ℕ). take (length kept - length (written (rest front before))) l) whole
    ∙ take_at (written (take front before)) (written (drop front before)) (length kept - length (written (rest front before))) (omega (arith, long, behind, ap (λ (l : List ℕ). length l) whole))

-- once the classes behind the front are written too, all are
pub written-all : (front k : ℕ) (classes : List ClassId) (kept : List ℕ) → length (rest front classes) ≤ k → kept ≡ written (take front classes) ++ written (take k (drop front classes)) → kept ≡ written classes
written-all front k classes kept most e =
    let all : take k (drop front classes) ≡ drop front classes = take_all k (drop front classes) (omega (arith, most, ap (λ (l : List ClassId). length l) (rest-all front classes))) in
    e ∙ ap (λ (l : List ClassId). written (take front classes) ++ written l) all ∙ sym (written-front front classes)

-- one class more
written-more : (classes : List ClassId) (k : ℕ) (d : ClassId) → k < length classes → written (take (k + 1) classes) ≡ written (take k classes) ++ 32 ∷ decimal ((get_or classes k d).0 + 1)
written-more classes k d below =
    ap written (take_more classes k d below)
    ∙ written-append (take k classes) (get_or classes k d ∷ [])
    ∙ ap (λ (l : List ℕ). written (take k classes) ++ 32 ∷ l) (append-nil (decimal ((get_or classes k d).0 + 1)))

longer : (classes : List ClassId) (k : ℕ) (d : ClassId) → k < length classes → length (written (take (k + 1) classes)) ≡ length (written (take k classes)) + (1 + length (decimal ((get_or classes k d).0 + 1)))
longer classes k d below =
    ap (λ (l : List ℕ). length l) (written-more classes k d below) ∙ length-append (written (take k classes)) (32 ∷ decimal ((get_or classes k d).0 + 1))
    ∙ (let next : length (written (take k classes)) + suc (length (decimal ((get_or classes k d).0 + 1))) ≡ length (written (take k classes)) + (1 + length (decimal ((get_or classes k d).0 + 1))) = omega arith in next)

-- the number of a class is not longer than what is left of the text
pub number-fits : (classes : List ClassId) (k : ℕ) (d : ClassId) (end digits : ℕ) (kept : List ℕ) → k < length classes → digits ≡ length (decimal ((get_or classes k d).0 + 1))
    → length (written classes) ≤ length kept → end + length (written (take k classes)) ≡ length kept → 1 + digits ≤ end
number-fits classes k d end digits kept below here room so_far =
    let whole = ap (λ (l : List ℕ). length l) (written-front (k + 1) classes) in
    omega (arith, longer classes k d below, here, room, so_far, whole, length-append (written (take (k + 1) classes)) (written (drop (k + 1) classes)))

-- and what is left without it
pub number-dropped : (classes : List ClassId) (k : ℕ) (d : ClassId) (end digits : ℕ) (kept : List ℕ) → k < length classes → digits ≡ length (decimal ((get_or classes k d).0 + 1))
    → length (written classes) ≤ length kept → end + length (written (take k classes)) ≡ length kept → end - (1 + digits) + length (written (take (k + 1) classes)) ≡ length kept
number-dropped classes k d end digits kept below here room so_far =
    omega (arith, longer classes k d below, here, so_far, number-fits classes k d end digits kept below here room so_far)

-- the text of some classes, without the first space
pub written-prefix : (classes : List ClassId) (bytes : List ℕ) → (length classes ≡ 0 → ⊥) → bytes ≡ written classes → take (length bytes - 1) (drop 1 bytes) ≡ prefix (class_numbers classes)
written-prefix [] bytes some e = absurd (some refl)
written-prefix (class ∷ classes) bytes some e =
    take_all (length bytes - 1) (drop 1 bytes) (omega (arith, length-drop 1 bytes)) ∙ ap (λ (l : List ℕ). drop 1 l) e ∙ spaced-behind (map (λ a. a + 1) (class_numbers (class ∷ classes)))

-- the last digit, and those before it
pub digits-step : (n : ℕ) → 10 ≤ n → n < 2 ^ 64 → length (decimal n) ≡ length (decimal (n / 10)) + 1
digits-step n most fits = ap (λ (l : List ℕ). length l) (decimal_step n most fits) ∙ length-append (decimal (n / 10)) ((48 + n % 10) ∷ [])
