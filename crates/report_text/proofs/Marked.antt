-- The fatal violation of a class, by the constraints of a ranking and by the places in it.
use Rattle.std.proofs.Common.{subst, ◌≡◌, ◌≢◌, ℕ, zero, suc, ◌+◌, ◌<◌, ◌≤◌, List, [], ◌∷◌, ◌++◌, length, get_or, take, drop, map, Bool, false, eqb, ◌==◌, codes, decimal, slice_index, arith, refl, sym, ap, append_assoc, ◌∙◌, inl, inr}
use Rattle.std.specs.Prelude.{Option, Some, if◌then◌else◌}
use Rattle.std.specs.Option.{option_map_or}
use Rattle.std.proofs.lemmas.List.{append-nil, drop_all}
use Rattle.std.proofs.lemmas.Bool.{cases_eq, cases_lt, eq-eqb, ne_eqb}
use Rattle.ot_theory.specs.Rankings.{IsRanking, count_of}
use Rattle.ot_theory.proofs.Enumeration.{count_here, count_past}
use Rattle.report_text.specs.Spelling.{behind, led, marked}
use Rattle.report_text.specs.Reports.{violation, fatal}
use Rattle.report_text.proofs.Grown.{fields}
use Rattle.report_text.proofs.Led.{led_same}

-- none stands in the list twice
abbrev IsOnce : List ℕ → Type 0
IsOnce list = (c : ℕ) → count_of c list ≤ 1

pub once : (n : ℕ) (order : List ℕ) → IsRanking n order → IsOnce order
once n order ranking c = elim (cases_lt c n) [
  | inl below ↦ omega (arith, ranking.each c below)
  | inr past ↦ omega (arith, ranking.none_else c past)
]

-- it does not stand in the list
abbrev IsAbsent : ℕ → List ℕ → Type 0
IsAbsent c list = count_of c list ≡ 0

absent-tail : (c d : ℕ) (list : List ℕ) → IsAbsent c (d ∷ list) → IsAbsent c list
absent-tail c d list absent = elim (cases_eq d c) [
  | inl same ↦ absurd (omega (arith, absent, count_here c d list same))
  | inr other ↦ omega (arith, absent, count_past c d list other)
]

absent-head : (c d : ℕ) (list : List ℕ) → IsAbsent c (d ∷ list) → d ≢ c
absent-head c d list absent same = omega (arith, absent, count_here c d list same)

once-tail : (c : ℕ) (list : List ℕ) → IsOnce (c ∷ list) → IsOnce list
once-tail c list all d = elim (cases_eq c d) [
  | inl same ↦ omega (arith, all d, count_here d c list same)
  | inr other ↦ omega (arith, all d, count_past d c list other)
]

once-head : (c : ℕ) (list : List ℕ) → IsOnce (c ∷ list) → IsAbsent c list
once-head c list all = omega (arith, all c, count_here c c list refl)

-- a violation with no mark
unmarked : (profile : List ℕ) (fatal : Option ℕ) (c : ℕ) → option_map_or (λ d. d == c) fatal false ≡ false → violation profile fatal c ≡ decimal (slice_index profile c)
unmarked profile fatal c none = rw none (append-nil (decimal (slice_index profile c)))

-- with no mark on any of them
plain : (profile : List ℕ) (c : ℕ) (list : List ℕ) → IsAbsent c list → fields (violation profile (Some c)) list ≡ behind 9 (map (slice_index profile) list)
plain profile c [] absent = refl
plain profile c (d ∷ list) absent =
    let other : eqb c d ≡ false = ne_eqb c d (λ e. absent-head c d list absent (sym e)) in
    ap (λ (l : List ℕ). (9 ∷ l) ++ fields (violation profile (Some c)) list) (unmarked profile (Some c) d other)
    ∙ ap (λ (l : List ℕ). (9 ∷ decimal (slice_index profile d)) ++ l) (plain profile c list (absent-tail c d list absent))

-- the fatal constraint is none that does not stand in the list
no_mark : (order winning profile : List ℕ) (c : ℕ) → IsAbsent c order → option_map_or (λ d. d == c) (fatal order winning profile) false ≡ false
no_mark [] winning profile c absent = refl
no_mark (d ∷ order) winning profile c absent = elim (cases_eq (slice_index profile d) (slice_index winning d)) [
  | inl same ↦ rw (eq-eqb _ _ same) (no_mark order winning profile c (absent-tail c d order absent))
  | inr differs ↦ rw (ne_eqb _ _ differs) (ne_eqb d c (absent-head c d order absent))
]

-- a constraint on which they do not differ is not fatal
fatal-past : (c : ℕ) (order winning profile : List ℕ) → slice_index profile c ≡ slice_index winning c → fatal (c ∷ order) winning profile ≡ fatal order winning profile
fatal-past c order winning profile same = rw (eq-eqb _ _ same) refl

-- one on which they differ is, and its violation has the mark
fatal-here : (c : ℕ) (order winning profile : List ℕ) → slice_index profile c ≢ slice_index winning c → fatal (c ∷ order) winning profile ≡ Some c
fatal-here c order winning profile differs = rw (ne_eqb _ _ differs) refl

violation-here : (profile : List ℕ) (c : ℕ) → violation profile (Some c) c ≡ decimal (slice_index profile c) ++ codes "!"
violation-here profile c = ap (λ (b : Bool). decimal (slice_index profile c) ++ (if b then codes "!" else [])) (eq-eqb c c refl)

marked-once : (order winning profile : List ℕ) → IsOnce order
    → fields (violation profile (fatal order winning profile)) order ≡ marked (map (slice_index profile) order) (map (slice_index winning) order)
marked-once [] winning profile all = refl
marked-once (c ∷ order) winning profile all =
    let absent = once-head c order all in
    let n = slice_index profile c in
    elim (cases_eq n (slice_index winning c)) [
      | inl same ↦
          let later : List ℕ = marked (map (slice_index profile) order) (map (slice_index winning) order) in
          let front : fields (violation profile (fatal (c ∷ order) winning profile)) (c ∷ order) ≡ fields (violation profile (fatal order winning profile)) (c ∷ order) =
          ap (λ (f : Option ℕ). fields (violation profile f) (c ∷ order)) (fatal-past c order winning profile same)
          in
          let shown : fields (violation profile (fatal order winning profile)) (c ∷ order) ≡ 9 ∷ (decimal n ++ later) =
          ap (λ (l : List ℕ). (9 ∷ l) ++ fields (violation profile (fatal order winning profile)) order) (unmarked profile (fatal order winning profile) c (no_mark order winning profile c absent))
          ∙ ap (λ (l : List ℕ). (9 ∷ decimal n) ++ l) (marked-once order winning profile (once-tail c order all))
          in
          let told : 9 ∷ (decimal n ++ later) ≡ marked (map (slice_index profile) (c ∷ order)) (map (slice_index winning) (c ∷ order)) =
          sym (ap (λ (b : Bool). 9 ∷ (decimal n ++ (if b then later else codes "!" ++ behind 9 (map (slice_index profile) order)))) (eq-eqb n (slice_index winning c) same))
          in
          front ∙ shown ∙ told
      | inr differs ↦
          let rest : List ℕ = behind 9 (map (slice_index profile) order) in
          let front : fields (violation profile (fatal (c ∷ order) winning profile)) (c ∷ order) ≡ fields (violation profile (Some c)) (c ∷ order) =
          ap (λ (f : Option ℕ). fields (violation profile f) (c ∷ order)) (fatal-here c order winning profile differs)
          in
          let shown : fields (violation profile (Some c)) (c ∷ order) ≡ (9 ∷ (decimal n ++ codes "!")) ++ rest =
          ap (λ (l : List ℕ). (9 ∷ l) ++ fields (violation profile (Some c)) order) (violation-here profile c)
          ∙ ap (λ (l : List ℕ). (9 ∷ (decimal n ++ codes "!")) ++ l) (plain profile c order absent)
          in
          let told : 9 ∷ (decimal n ++ (codes "!" ++ rest)) ≡ marked (map (slice_index profile) (c ∷ order)) (map (slice_index winning) (c ∷ order)) =
          sym (ap (λ (b : Bool). 9 ∷ (decimal n ++ (if b then marked (map (slice_index profile) order) (map (slice_index winning) order) else codes "!" ++ rest))) (ne_eqb n (slice_index winning c) differs))
          in
          front ∙ shown ∙ ap (λ (l : List ℕ). 9 ∷ l) (append_assoc (decimal n) (codes "!") rest) ∙ told
    ]

-- the row of a class, where each constraint stands in the order once
pub marked-fields : (n : ℕ) (order winning profile : List ℕ) → IsRanking n order
    → fields (violation profile (fatal order winning profile)) order ≡ marked (map (slice_index profile) order) (map (slice_index winning) order)
marked-fields n order winning profile ranking = marked-once order winning profile (once n order ranking)

-- up to the first k places, which do not differ
pub marked_same : (violations winning : List ℕ) (k : ℕ) → k < length violations → k < length winning → get_or violations k 0 ≡ get_or winning k 0
    → marked (drop k violations) (drop k winning) ≡ 9 ∷ (decimal (get_or violations k 0) ++ marked (drop (k + 1) violations) (drop (k + 1) winning))
marked_same [] winning k below within same = absurd (omega (arith, below))
marked_same (n ∷ violations) [] k below within same = absurd (omega (arith, within))
marked_same (n ∷ violations) (m ∷ winning) zero below within same = rw (eq-eqb n m same) refl
marked_same (n ∷ violations) (m ∷ winning) (suc k) below within same =
    let next : suc (k + 1) ≡ suc k + 1 = omega arith in
    subst (λ (p : ℕ). marked (drop k violations) (drop k winning) ≡ 9 ∷ (decimal (get_or violations k 0) ++ marked (drop p (n ∷ violations)) (drop p (m ∷ winning)))) next
    (marked_same violations winning k (omega (arith, below)) (omega (arith, within)) same)

-- and at the place after them, which differs
pub marked_differs : (violations winning : List ℕ) (k : ℕ) → k < length violations → k < length winning → get_or violations k 0 ≢ get_or winning k 0
    → marked (drop k violations) (drop k winning) ≡ 9 ∷ (decimal (get_or violations k 0) ++ codes "!" ++ behind 9 (drop (k + 1) violations))
marked_differs [] winning k below within differs = absurd (omega (arith, below))
marked_differs (n ∷ violations) [] k below within differs = absurd (omega (arith, within))
marked_differs (n ∷ violations) (m ∷ winning) zero below within differs =
    ap (λ (same : Bool). 9 ∷ (decimal n ++ (if same then marked violations winning else codes "!" ++ behind 9 violations))) (ne_eqb n m differs)
    ∙ ap (λ (l : List ℕ). 9 ∷ l) (sym (append_assoc (decimal n) (codes "!") (behind 9 violations)))
marked_differs (n ∷ violations) (m ∷ winning) (suc k) below within differs =
    let next : suc (k + 1) ≡ suc k + 1 = omega arith in
    subst (λ (p : ℕ). marked (drop k violations) (drop k winning) ≡ 9 ∷ (decimal (get_or violations k 0) ++ codes "!" ++ behind 9 (drop p (n ∷ violations)))) next
    (marked_differs violations winning k (omega (arith, below)) (omega (arith, within)) differs)

pub marked_past : (violations winning : List ℕ) (k : ℕ) → length violations ≤ k → marked (drop k violations) (drop k winning) ≡ []
marked_past violations winning k past = rw (drop_all k violations past) refl

-- the row of a class, by the violations in the order of the ranking
pub row_marked : (order winner profile winning violations : List ℕ) → IsRanking (length order) order → winning ≡ map (slice_index winner) order → violations ≡ map (slice_index profile) order
    → marked violations winning ≡ fields (violation profile (fatal order winner profile)) order
row_marked order winner profile winning violations ranking won here = rw (won, here) (sym (marked-fields (length order) order winner profile ranking))

-- what stands up to the fatal violation, its mark, and the rest
pub put_marked : (text violations winning upto rest : List ℕ) (k : ℕ) → marked violations winning ≡ behind 9 (take (k + 1) violations) ++ codes "!" ++ behind 9 (drop (k + 1) violations)
    → upto ≡ take (k + 1) violations → rest ≡ drop (k + 1) violations → ((text ++ led 9 9 upto) ++ codes "!") ++ led 9 9 rest ≡ text ++ marked violations winning
put_marked text violations winning upto rest k e front back =
    rw (e, front, back, led_same 9 (take (k + 1) violations), led_same 9 (drop (k + 1) violations)) (apart text (behind 9 (take (k + 1) violations)) (codes "!") (behind 9 (drop (k + 1) violations)))
  where
    apart : (a b c d : List ℕ) → ((a ++ b) ++ c) ++ d ≡ a ++ (b ++ c ++ d)
    apart a b c d = simp append_assoc

pub put_unmarked : (text violations winning : List ℕ) → marked violations winning ≡ behind 9 violations → text ++ led 9 9 violations ≡ text ++ marked violations winning
put_unmarked text violations winning e = rw (e, led_same 9 violations) refl
