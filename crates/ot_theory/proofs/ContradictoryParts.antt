-- Of conditions that no ranking keeps a part fuses to an L and no W.
use Rattle.std.proofs.Common.{◌≡◌, ◌⊎◌, ℕ, zero, suc, ◌+◌, ◌<◌, ◌≤◌, List, [], ◌∷◌, ◌++◌, Bool, true, false, not, ◌&&◌, arith, refl, sym, ◌∙◌, ap, cond, inl, inr, length, length-append, map}
use Rattle.std.specs.Prelude.{filter}
use Rattle.std.specs.List.{list_all, list_any, range_with_len}
use Rattle.std.proofs.lemmas.Bool.{and_parts, and_from, or_parts, cases_Bool, cases_lt, not-false, not-true, false_from_ne_true}
use Rattle.std.proofs.lemmas.List.{append-nil}
use Rattle.std.proofs.lemmas.Bool.Decides.{eqb_tells, leb_tells}
use Rattle.ot_theory.specs.declared.Mark.{Mark}
use Rattle.ot_theory.specs.declared.Mark.TheVariants.{W, L, E}
use Rattle.ot_theory.specs.Rankings.{count_of, IsRanking, rankings, numbers_below}
use Rattle.ot_theory.specs.Conditions.{keeps, mark_at, is_win, is_loss, is_even, fused, fusion, is_contradictory}
use Rattle.ot_theory.specs.Refutations.{no_ranking_keeps}
use Rattle.ot_theory.proofs.Enumeration.{any-map, any-ranking, count_here, count_past, count_step, count-append, split_at}
use Rattle.ot_theory.proofs.Strata.{mark_tells, range-any, any-range, InRange}
use Rattle.ot_theory.proofs.Hopeless.{fused_at, hopeless-fused}
use Rattle.ot_theory.proofs.Sets.{IsPart, IsPart-filter, no_ranking_keeps-more}
use Rattle.ot_theory.proofs.Orders.{IsRanking-numbers}

-- a condition whose marks at these constraints are all e
abbrev pub is_undecided : List ℕ → List Mark → Bool
is_undecided order marks = list_all (λ c. is_even (mark_at marks c)) order

-- A front of a ranking keeps a condition with one constraint more, unless that has the first mark, an L.
keeps-push : (order : List ℕ) (c : ℕ) (marks : List Mark) → keeps order marks ≡ true → (is_undecided order marks && is_loss (mark_at marks c)) ≡ false → keeps (order ++ c ∷ []) marks ≡ true
keeps-push [] c marks h none = elim (mark_tells (mark_at marks c)) [
  | inl win ↦ rw win (ap is_win win)
  | inr other ↦ elim other [
    | inl loss ↦ absurd (let no : is_loss (mark_at marks c) ≡ true = ap is_loss loss in cc)
    | inr even ↦ rw even refl
  ]
]
keeps-push (x ∷ order) c marks h none = elim (mark_tells (mark_at marks x)) [
  | inl win ↦ rw win (ap is_win win)
  | inr other ↦ elim other [
    | inl loss ↦ absurd (let kept : is_win (mark_at marks x) ≡ true = rw loss at h in let no : is_win L ≡ true = sym (ap is_win loss) ∙ kept in cc)
    | inr even ↦ rw even (keeps-push order c marks (rw even at h) (rw even at none))
  ]
]

-- an L of an undecided condition
abbrev is_held : List ℕ → List (List Mark) → ℕ → Bool
is_held order set c = list_any (λ marks. is_undecided order marks && is_loss (mark_at marks c)) set

all-push : (order : List ℕ) (c : ℕ) (set : List (List Mark)) → list_all (keeps order) set ≡ true → is_held order set c ≡ false → list_all (keeps (order ++ c ∷ [])) set ≡ true
all-push order c [] h none = refl
all-push order c (marks ∷ set) h none =
    let kept = and_parts (keeps order marks) (list_all (keeps order) set) h in
    let free = or_parts (is_undecided order marks && is_loss (mark_at marks c)) (is_held order set c) none in
    and_from _ _ (keeps-push order c marks kept.0 free.0) (all-push order c set kept.1 free.1)

-- the undecided ones of a set, with an L at a constraint where one of the set has it
any-undecided : (order : List ℕ) (c : ℕ) (set : List (List Mark)) → is_held order set c ≡ list_any is_loss (map (λ marks. mark_at marks c) (filter (is_undecided order) set))
any-undecided order c [] = refl
any-undecided order c (marks ∷ set) = elim (cases_Bool (is_undecided order marks)) [
  | inl e ↦ rw (e, any-undecided order c set) refl
  | inr e ↦ rw (e, any-undecided order c set) refl
]

-- they have e at each constraint of the front
none-undecided : (order : List ℕ) (c : ℕ) (set : List (List Mark)) → 0 < count_of c order → list_any is_win (map (λ marks. mark_at marks c) (filter (is_undecided order) set)) ≡ false
none-undecided order c [] h = refl
none-undecided order c (marks ∷ set) h = elim (cases_Bool (is_undecided order marks)) [
  | inl e ↦ rw e (rw (even order h e) (none-undecided order c set h))
  | inr e ↦ rw e (none-undecided order c set h)
]
  where
    even : (order : List ℕ) → 0 < count_of c order → is_undecided order marks ≡ true → mark_at marks c ≡ E
    even [] h e = absurd (omega arith)
    even (x ∷ order) h e = elim (eqb_tells x c) [
      | inl same ↦ rw (← same.1) (is_even-true _ (and_parts _ _ e).0)
      | inr other ↦ even order (omega (arith, count_past c x order other.1)) (and_parts _ _ e).1
    ]
      where
        is_even-true : (m : Mark) → is_even m ≡ true → m ≡ E
        is_even-true W e = absurd (cc)
        is_even-true L e = absurd (cc)
        is_even-true E e = refl

-- a constraint of a list that passes a test
record Member (p : ℕ → Bool) (list : List ℕ) : Type 0 where
  it : ℕ
  stands : 0 < count_of it list
  passes : p it ≡ true

member_of : (p : ℕ → Bool) (list : List ℕ) → list_any p list ≡ true → Member p list
member_of p [] h = absurd (cc)
member_of p (x ∷ list) h = elim (cases_Bool (p x)) [
  | inl here ↦ record { it = x; stands = omega (arith, count_here x x list refl); passes = here }
  | inr other ↦
      let m = member_of p list (rw other at h) in
      record { it = m.it; stands = omega (arith, m.stands, count_step m.it x list); passes = m.passes }
]

none_of : (p : ℕ → Bool) (list : List ℕ) (c : ℕ) → list_any p list ≡ false → 0 < count_of c list → p c ≡ false
none_of p [] c h k = absurd (omega arith)
none_of p (x ∷ list) c h k =
    let parts = or_parts (p x) (list_any p list) h in
    elim (eqb_tells x c) [
      | inl same ↦ rw (← same.1) parts.0
      | inr other ↦ none_of p list c parts.1 (omega (arith, count_past c x list other.1))
    ]

-- a part of a set, those that pass a test, which fuses to an L and no W
pub record ContradictoryPart (n : ℕ) (set : List (List Mark)) : Type 0 where
  pub test : List Mark → Bool
  pub contradictory : is_contradictory (fusion n (filter test set)) ≡ true

-- Where each constraint behind a front of a ranking has an L in an undecided condition, these fuse to an L and no W.
part_of_front : (n : ℕ) (set : List (List Mark)) (front : List ℕ) (x : ℕ) (rest : List ℕ) → IsRanking n (front ++ x ∷ rest) → list_any (λ c. not (is_held front set c)) (x ∷ rest) ≡ false → ContradictoryPart n set
part_of_front n set front x rest ranking held = record { test = is_undecided front; contradictory = both (filter (is_undecided front) set) (λ c k. loss c k) (λ c k. none-undecided front c set k) }
  where
    loss : (c : ℕ) → 0 < count_of c (x ∷ rest) → list_any is_loss (map (λ marks. mark_at marks c) (filter (is_undecided front) set)) ≡ true
    loss c k = sym (any-undecided front c set) ∙ not-false _ (none_of (λ d. not (is_held front set d)) (x ∷ rest) c held k)

    both : (part : List (List Mark)) → ((c : ℕ) → 0 < count_of c (x ∷ rest) → list_any is_loss (map (λ marks. mark_at marks c) part) ≡ true)
        → ((c : ℕ) → 0 < count_of c front → list_any is_win (map (λ marks. mark_at marks c) part) ≡ false) → is_contradictory (fusion n part) ≡ true
    both part behind before =
        and_from _ _ (any-map is_loss (fused_at part) (numbers_below n) ∙ range-any (λ c. is_loss (fused_at part c)) 0 n x (omega arith) (omega (arith, first)) (rw (behind x (omega (arith, count_here x x rest refl))) refl))
        (ap not (false_from_ne_true _ (λ h. no_win (any-range (λ c. is_win (fused_at part c)) 0 n (sym (any-map is_win (fused_at part) (numbers_below n)) ∙ h)))))
      where
        first : x < n
        first = elim (leb_tells n x) [
          | inl past ↦ absurd (omega (arith, ranking.none_else x past.1, count-append x front (x ∷ rest), count_here x x rest refl))
          | inr below ↦ below.1
        ]

        win_only : (a b : Bool) → (a ≡ true) ⊎ (b ≡ false) → is_win (cond a L (cond b W E)) ≡ false
        win_only true b h = refl
        win_only false false h = refl
        win_only false true (inl h) = absurd (cc)
        win_only false true (inr h) = absurd (cc)

        no_win : InRange (λ c. is_win (fused_at part c)) 0 n → ⊥
        no_win r = elim (cases_lt 0 (count_of r.it front)) [
          | inl placed ↦ let no : true ≡ false = sym r.passes ∙ win_only _ _ (inr (before r.it placed)) in cc
          | inr later ↦ let no : true ≡ false = sym r.passes ∙ win_only _ _ (inl (behind r.it (omega (arith, ranking.each r.it (omega (arith, r.below)), count-append r.it front (x ∷ rest))))) in cc
        ]

count-moved : (c it : ℕ) (front before behind list : List ℕ) → list ≡ before ++ it ∷ behind → count_of c ((front ++ it ∷ []) ++ (before ++ behind)) ≡ count_of c (front ++ list)
count-moved c it front before behind list e =
    omega (arith, count-append c (front ++ it ∷ []) (before ++ behind), count-append c front (it ∷ []), count-append c before behind, count-append c front list, ap (count_of c) e, count-append c before (it ∷ behind), count_step c it [], count_step c it behind, none)
  where
    none : count_of c [] ≡ 0
    none = refl

-- A front of a ranking that keeps all conditions grows by a constraint at which no undecided one has L, if there is any.
part_from : (n : ℕ) (set : List (List Mark)) (k : ℕ) (front rest : List ℕ) → length rest ≤ k → IsRanking n (front ++ rest) → list_all (keeps front) set ≡ true → no_ranking_keeps n set ≡ true → ContradictoryPart n set
unfolding no_ranking_keeps
part_from n set k front [] b ranking kept h =
    let whole : IsRanking n front = rw append-nil at ranking in
    let some : list_any (λ order. list_all (keeps order) set) (rankings n) ≡ true = any-ranking n front (λ order. list_all (keeps order) set) whole kept in
    let no : true ≡ false = sym some ∙ not-true _ h in
    absurd (cc)
part_from n set zero front (x ∷ rest) b ranking kept h = absurd (omega arith)
part_from n set (suc k) front (x ∷ rest) b ranking kept h = elim (cases_Bool (list_any (λ c. not (is_held front set c)) (x ∷ rest))) [
  | inl found ↦
      let m = member_of (λ c. not (is_held front set c)) (x ∷ rest) found in
      let s = split_at m.it (x ∷ rest) m.stands in
      let moved : (c : ℕ) → count_of c ((front ++ m.it ∷ []) ++ (s.before ++ s.behind)) ≡ count_of c (front ++ x ∷ rest) = λ c. count-moved c m.it front s.before s.behind (x ∷ rest) s.whole in
      part_from n set k (front ++ m.it ∷ []) (s.before ++ s.behind)
      (omega (arith, ap length s.whole, length-append s.before (m.it ∷ s.behind), length-append s.before s.behind))
      (record { each = λ c below. moved c ∙ ranking.each c below; none_else = λ c above. moved c ∙ ranking.none_else c above })
      (all-push front m.it set kept (not-true _ m.passes)) h
  | inr none ↦ part_of_front n set front x rest ranking none
]

-- Of a set that no ranking keeps a part fuses to an L and no W.
pub contradictory-part : (n : ℕ) (set : List (List Mark)) → no_ranking_keeps n set ≡ true → ContradictoryPart n set
contradictory-part n set h = part_from n set (length (numbers_below n)) [] (numbers_below n) (omega arith) (IsRanking-numbers n) (all-none set) h
  where
    all-none : (set : List (List Mark)) → list_all (keeps []) set ≡ true
    all-none [] = refl
    all-none (marks ∷ set) = all-none set

-- No condition at all fuses to e everywhere, so a part that fuses to an L is not empty.
none-even : (a n : ℕ) → list_any is_loss (map (λ c. fused []) (range_with_len a n)) ≡ false
none-even a zero = refl
none-even a (suc n) = none-even (a + 1) n

pub contradictory-some : (n : ℕ) (set : List (List Mark)) → is_contradictory (fusion n set) ≡ true → 0 < length set
contradictory-some n [] h = absurd (let loss : list_any is_loss (fusion n []) ≡ true = (and_parts _ _ h).0 in let no : true ≡ false = sym loss ∙ none-even 0 n in cc)
contradictory-some n (marks ∷ set) h = omega arith

-- without any one of its members some ranking keeps the set
abbrev pub EachNeeded : ℕ → List (List Mark) → Type 0
EachNeeded n set = (before : List (List Mark)) (marks : List Mark) (behind : List (List Mark)) → set ≡ before ++ marks ∷ behind → no_ranking_keeps n (before ++ behind) ≡ false

-- a member that fails a test, and the set without it
record Failing (p : List Mark → Bool) (set : List (List Mark)) : Type 0 where
  before : List (List Mark)
  it : List Mark
  behind : List (List Mark)
  whole : set ≡ before ++ it ∷ behind
  without : IsPart (filter p set) (before ++ behind)

failing : (p : List Mark → Bool) (set : List (List Mark)) → list_all p set ≡ false → Failing p set
failing p [] h = absurd (cc)
failing p (marks ∷ set) h = elim (cases_Bool (p marks)) [
  | inl passes ↦
      let f = failing p set (rw passes at h) in
      record {
        before = marks ∷ f.before;
        it = f.it;
        behind = f.behind;
        whole = ap (λ (l : List (List Mark)). marks ∷ l) f.whole;
        without = λ q a. let parts = and_parts (q marks) (list_all q (f.before ++ f.behind)) a in rw passes (and_from _ _ parts.0 (f.without q parts.1));
      }
  | inr fails ↦ record { before = []; it = marks; behind = set; whole = refl; without = λ q a. rw fails (IsPart-filter p set q a) }
]

filter-all : (p : List Mark → Bool) (set : List (List Mark)) → list_all p set ≡ true → filter p set ≡ set
filter-all p [] h = refl
filter-all p (marks ∷ set) h =
    let parts = and_parts (p marks) (list_all p set) h in
    rw parts.0 (ap (λ (l : List (List Mark)). marks ∷ l) (filter-all p set parts.1))

-- Conditions that no ranking keeps, each of which is needed for that, fuse to an L and no W.
pub contradictory-needed : (n : ℕ) (set : List (List Mark)) → no_ranking_keeps n set ≡ true → EachNeeded n set → is_contradictory (fusion n set) ≡ true
contradictory-needed n set h needed =
    let part = contradictory-part n set h in
    elim (cases_Bool (list_all part.test set)) [
      | inl all ↦ rw (filter-all part.test set all) at part.contradictory
      | inr not_all ↦
          let f = failing part.test set not_all in
          let without = no_ranking_keeps-more n (filter part.test set) (f.before ++ f.behind) f.without (hopeless-fused n (filter part.test set) part.contradictory) in
          let no : true ≡ false = sym without ∙ needed f.before f.it f.behind f.whole in
          absurd (cc)
    ]
