-- The file as it grows: one violation, one row and one input more at a time.
use Rattle.std.proofs.Common.{◌≡◌, ℕ, zero, suc, ◌+◌, ◌-◌, ◌*◌, ◌/◌, ◌%◌, ◌<◌, false, eq-eqb, ◌==◌, if◌then◌else◌, List, [], ◌∷◌, ◌++◌, map, flat_map, decimal, codes, slice_index, append_assoc, append-nil, arith, refl, sym, ap, ◌∙◌}
use Rattle.std.specs.List.{join_with_byte, range_with_len}
use Rattle.std.proofs.lemmas.Bool.Decides.{nat_tests}
use Rattle.std.proofs.lemmas.List.{map-id}
use Rattle.std.proofs.lemmas.List.Concat.{flat_map-append}
use Rattle.std.proofs.lemmas.List.Folds.{flat_map-map}
use Rattle.std.proofs.lemmas.List.FromFn.{map-range_with_len_more}
use Rattle.number_draws.specs.Draws.{next_state, drawn_below}
use Rattle.demonstration_file.specs.Demonstration.{state_after, drawn_after, constraint_name, candidate_name, input_name, on_first, group_of_input, group_of_constraint, violation, candidate_row, input_rows, all_rows, header, line, demonstration_file}

-- ---- numbers from 1 on
range-push : (n : ℕ) → range_with_len 1 (n + 1) ≡ range_with_len 1 n ++ (1 + n) ∷ []
range-push n = simp map-id at (map-range_with_len_more (λ (x : ℕ). x) 1 n (1 + n) refl)

pub pieces-more : {X : Type 0} (f : ℕ → List X) (n : ℕ) → flat_map f (range_with_len 1 (n + 1)) ≡ flat_map f (range_with_len 1 n) ++ f (n + 1)
pieces-more f n =
    let next : 1 + n ≡ n + 1 = omega arith in
    rw (range-push n, flat_map-append f (range_with_len 1 n) ((1 + n) ∷ []), append-nil (f (1 + n)), next) refl

-- ---- lines
join-cons : (c : ℕ) (x : List ℕ) (xs : List (List ℕ)) → join_with_byte c (x ∷ xs) ≡ x ++ flat_map (λ y. c ∷ y) xs
join-cons c x [] = sym (append-nil x)
join-cons c x (y ∷ xs) = ap (λ (rest : List ℕ). x ++ (c ∷ rest)) (join-cons c y xs)

-- a line of three cells and of those that a rule gives for some numbers
pub line-cells : (a b d : List ℕ) (cell : ℕ → List ℕ) (numbers : List ℕ)
    → line (a ∷ b ∷ d ∷ map cell numbers) ≡ (a ++ 9 ∷ b ++ 9 ∷ d) ++ flat_map (λ c. 9 ∷ cell c) numbers ++ 10 ∷ []
line-cells a b d cell numbers =
    let last : join_with_byte 9 (d ∷ map cell numbers) ≡ d ++ flat_map (λ c. 9 ∷ cell c) numbers =
    join-cons 9 d (map cell numbers) ∙ ap (λ (rest : List ℕ). d ++ rest) (flat_map-map (λ (y : List ℕ). 9 ∷ y) cell numbers)
    in
    rw last (simp append_assoc)

-- ---- the header
pub header-written : (old first text next : List ℕ) (n : ℕ) → n ≡ 12 → first ≡ old ++ 9 ∷ 9 ∷ [] → text ≡ first ++ flat_map (λ c. 9 ∷ constraint_name c) (range_with_len 1 n)
    → next ≡ text ++ 10 ∷ [] → next ≡ old ++ line header
header-written old first text next n all begun named ended =
    rw (line-cells [] [] [] constraint_name (range_with_len 1 12), ended, named, begun, all) (simp append_assoc)

pub names-more : (n : ℕ) (old text mid next : List ℕ) → text ≡ old ++ flat_map (λ c. 9 ∷ constraint_name c) (range_with_len 1 n)
    → mid ≡ text ++ 9 ∷ 67 ∷ [] → next ≡ mid ++ decimal (n + 1) → next ≡ old ++ flat_map (λ c. 9 ∷ constraint_name c) (range_with_len 1 (n + 1))
names-more n old text mid next before tabbed numbered =
    rw (pieces-more (λ c. 9 ∷ constraint_name c) n, numbered, tabbed, before) (simp append_assoc)

-- ---- violations
-- the violation of a constraint, where three were drawn for those of a group
abbrev pub violation_of : ℕ → List ℕ → ℕ → ℕ
violation_of group drawn c = if group_of_constraint c == group then slice_index drawn ((c - 1) % 3) else 0

-- the first n violations, each behind a tab
abbrev pub violations : ℕ → List ℕ → ℕ → List ℕ
violations group drawn n = flat_map (λ c. 9 ∷ decimal (violation_of group drawn c)) (range_with_len 1 n)

pub violations-more : (group : ℕ) (drawn : List ℕ) (n v : ℕ) (old text next : List ℕ) → violation_of group drawn (n + 1) ≡ v → text ≡ old ++ violations group drawn n
    → next ≡ (text ++ 9 ∷ []) ++ decimal v → next ≡ old ++ violations group drawn (n + 1)
violations-more group drawn n v old text next same before grown =
    rw (pieces-more (λ c. 9 ∷ decimal (violation_of group drawn c)) n, same, grown, before) (simp append_assoc)

pub violation-owned : (group c v : ℕ) (drawn : List ℕ) → c / 3 ≡ group → v ≡ slice_index drawn (c % 3) → violation_of group drawn (c + 1) ≡ v
violation-owned group c v drawn owned is =
    let back : c + 1 - 1 ≡ c = omega arith in
    rw (back, eq-eqb (c / 3) group owned) (sym is)

pub violation-other : (group c v : ℕ) (drawn : List ℕ) → (c / 3 ≡ group → ⊥) → v ≡ 0 → violation_of group drawn (c + 1) ≡ v
violation-other group c v drawn other is =
    let back : c + 1 - 1 ≡ c = omega arith in
    let fails : (c / 3 == group) ≡ false = grind (arith, nat_tests) in
    rw (back, fails) (sym is)

-- ---- draws
pub state_after-more : (state a b : ℕ) → state_after (state_after state a) b ≡ state_after state (a + b)
state_after-more state a zero = let same : a ≡ a + 0 = omega arith in ap (state_after state) same
state_after-more state a (suc b) =
    let next : suc (a + b) ≡ a + suc b = omega arith in
    ap next_state (state_after-more state a b) ∙ ap (state_after state) next

-- what three draws give is what is drawn after so many others
pub three-draws : (state : ℕ) (c : ℕ) (a b d : ℕ) → a ≡ drawn_below 3 state → b ≡ drawn_below 3 (next_state state) → d ≡ drawn_below 3 (next_state (next_state state)) → c < 3
    → slice_index (a ∷ b ∷ d ∷ []) c ≡ drawn_after state c
unfolding drawn_after
three-draws state zero a b d first second third few = first
three-draws state (suc zero) a b d first second third few = second
three-draws state (suc (suc zero)) a b d first second third few = third
three-draws state (suc (suc (suc c))) a b d first second third few = absurd (omega (arith, few))

same_pieces : (f g : ℕ → List ℕ) (numbers : List ℕ) → ((n : ℕ) → f n ≡ g n) → flat_map f numbers ≡ flat_map g numbers
same_pieces f g [] same = refl
same_pieces f g (n ∷ numbers) same = rw (same n, same_pieces f g numbers same) refl

-- ---- rows
pub violations-drawn : (state k : ℕ) (drawn : List ℕ) → ((c : ℕ) → c < 3 → slice_index drawn c ≡ drawn_after state c)
    → violations (group_of_input k) drawn 12 ≡ flat_map (λ c. 9 ∷ decimal (violation state k c)) (range_with_len 1 12)
violations-drawn state k drawn are =
    same_pieces (λ c. 9 ∷ decimal (violation_of (group_of_input k) drawn c)) (λ c. 9 ∷ decimal (violation state k c)) (range_with_len 1 12)
    (λ c. let low : (c - 1) % 3 < 3 = omega arith in rw (are ((c - 1) % 3) low) refl)

pub row-written : (state k j : ℕ) (drawn old texts text next : List ℕ) → ((c : ℕ) → c < 3 → slice_index drawn c ≡ drawn_after state c)
    → texts ≡ old ++ on_first j (input_name k) ++ 9 ∷ candidate_name k j ++ 9 ∷ on_first j (codes "1") → text ≡ texts ++ violations (group_of_input k) drawn 12
    → next ≡ text ++ 10 ∷ [] → next ≡ old ++ line (candidate_row state k j)
unfolding candidate_row
row-written state k j drawn old texts text next are begun drawn_out ended =
    let cells = line-cells (on_first j (input_name k)) (candidate_name k j) (on_first j (codes "1")) (λ c. decimal (violation state k c)) (range_with_len 1 12) in
    rw (cells, ended, drawn_out, violations-drawn state k drawn are, begun) (simp append_assoc)

-- the rows of the first n candidates of an input
abbrev pub rows_below : ℕ → ℕ → ℕ → List (List (List ℕ))
rows_below state k n = map (λ j. candidate_row (state_after state (3 * (j - 1))) k j) (range_with_len 1 n)

pub rows-more : (state k n generator : ℕ) (old text next : List ℕ) → generator ≡ state_after state (3 * n) → text ≡ old ++ flat_map line (rows_below state k n)
    → next ≡ text ++ line (candidate_row generator k (n + 1)) → next ≡ old ++ flat_map line (rows_below state k (n + 1))
rows-more state k n generator old text next drawn before grown =
    let row : ℕ → List (List ℕ) = λ j. candidate_row (state_after state (3 * (j - 1))) k j in
    let more : rows_below state k (n + 1) ≡ rows_below state k n ++ row (n + 1) ∷ [] = map-range_with_len_more row 1 n (n + 1) (omega arith) in
    let back : n + 1 - 1 ≡ n = omega arith in
    rw (more, flat_map-append line (rows_below state k n) (row (n + 1) ∷ []), append-nil (line (row (n + 1))), back, grown, before, drawn) (append_assoc old _ _)

pub rows-written : (state k n : ℕ) (old text : List ℕ) → n ≡ 5 → text ≡ old ++ flat_map line (rows_below state k n) → text ≡ old ++ flat_map line (input_rows state k)
unfolding input_rows
rows-written state k n old text all before = before ∙ ap (λ m. old ++ flat_map line (rows_below state k m)) all

-- ---- inputs
-- the rows of the first n inputs
abbrev pub inputs_below : ℕ → ℕ → List (List (List ℕ))
inputs_below number n = flat_map (λ k. input_rows (state_after number (15 * (k - 1))) k) (range_with_len 1 n)

pub inputs-more : (number n generator : ℕ) (old text next : List ℕ) → generator ≡ state_after number (15 * n) → text ≡ old ++ flat_map line (inputs_below number n)
    → next ≡ text ++ flat_map line (input_rows generator (n + 1)) → next ≡ old ++ flat_map line (inputs_below number (n + 1))
inputs-more number n generator old text next drawn before grown =
    let rows : ℕ → List (List (List ℕ)) = λ k. input_rows (state_after number (15 * (k - 1))) k in
    let back : n + 1 - 1 ≡ n = omega arith in
    rw (pieces-more rows n, flat_map-append line (inputs_below number n) (rows (n + 1)), back, grown, before, drawn) (append_assoc old _ _)

pub states-more : (state n each generator next : ℕ) → generator ≡ state_after state (each * n) → next ≡ state_after generator each → next ≡ state_after state (each * (n + 1))
states-more state n each generator next before drawn =
    let more : each * n + each ≡ each * (n + 1) = grind arith in
    drawn ∙ rw before (state_after-more state (each * n) each) ∙ ap (state_after state) more

-- the header twice, and the rows of all inputs
pub file-written : (number n : ℕ) (empty named headed text : List ℕ) → empty ≡ [] → named ≡ empty ++ line header → headed ≡ named ++ line header → n ≡ 20
    → text ≡ headed ++ flat_map line (inputs_below number n) → text ≡ demonstration_file number
unfolding all_rows demonstration_file
file-written number n empty named headed text none first second all before =
    let front : headed ≡ line header ++ line header = rw (second, first, none) refl in
    before
    ∙ ap (λ front. front ++ flat_map line (inputs_below number n)) front
    ∙ append_assoc (line header) (line header) (flat_map line (inputs_below number n))
    ∙ ap (λ m. line header ++ (line header ++ flat_map line (inputs_below number m))) all
