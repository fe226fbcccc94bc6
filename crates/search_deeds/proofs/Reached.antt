-- Of honest and balanced deeds, those of a prefix: there is one where no proper prefix of it is refuted, and none elsewhere.
use Rattle.std.proofs.Common.{◌≡◌, ◌⊎◌, ℕ, zero, suc, ◌+◌, ◌<◌, ◌≤◌, List, [], ◌∷◌, ◌++◌, Bool, true, false, not, ◌&&◌, ◌||◌, ◌==◌, arith, refl, sym, ◌∙◌, ap, inl, inr, cond, length, map, flat_map, zero-add, take, subst, length-append}
use Rattle.std.specs.Prelude.{nat_lt, nat_eq}
use Rattle.std.specs.List.{range_with_len, list_any}
use Rattle.std.proofs.lemmas.Bool.{and_parts, and_from, ltb-true, ltb-false, lt-ltb, le-ltb, cases_Bool, false_from_ne_true, or_cases, or_left, or_right, and_left}
use Rattle.std.proofs.lemmas.Bool.Decides.{eqb_tells}
use Rattle.std.proofs.lemmas.List.Elements.{All-head, All-tail}
use Rattle.std.proofs.lemmas.List.Folds.{list_any-append}
use Rattle.ot_theory.specs.Rankings.{numbers_below, rankings}
use Rattle.ot_theory.specs.Problems.{Input, Problem}
use Rattle.ot_theory.specs.Languages.{choices, languages, classes_at, each_optimal, holds, keeps_givens, refuted}
use Rattle.ot_theory.specs.Refutations.{prefixes, cuts, refutes}
use Rattle.ot_theory.proofs.Optimal.{IsFitting}
use Rattle.ot_theory.proofs.Certificates.{contradiction-refutes}
use Rattle.ot_theory.proofs.Terms.{numbers_below-more}
use Rattle.ot_theory.proofs.Strata.{any-range}
use Rattle.search_deeds.specs.Deeds.{Deed, Fate, IsTrueOf, AreHonest, AreBalanced, children, times, opened_by, language_by, cut_by, opened_in, languages_in, cuts_in}
use Rattle.search_deeds.specs.Deeds.Fate.{Opened, Language, Cut}
use Rattle.search_deeds.proofs.Counts.{nothing, same, times-cons, times-append, times-filter, times-outside, times-within, same-push}
use Rattle.search_deeds.proofs.Fitting.{fits, is_full, fits-push, fits-short, classes-within, AllFit-fits, times-prefixes, times-choices, IsSound}
use Rattle.ot_theory.proofs.Candidates.{same-true}

-- some proper prefix is refuted
abbrev pub is_behind_cut : Problem → List ℕ → Bool
is_behind_cut problem prefix = list_any (λ k. refuted problem (take k prefix)) (numbers_below (length prefix))

-- a prefix of a choice none of whose proper prefixes is refuted
abbrev pub is_reached : Problem → List ℕ → Bool
is_reached problem prefix = fits problem.inputs prefix && not (is_behind_cut problem prefix)

-- What holds of a prefix holds of its own prefixes.
any-weaker : {X : Type 0} (p q : X → Bool) (xs : List X) → ((x : X) → p x ≡ true → q x ≡ true) → list_any p xs ≡ true → list_any q xs ≡ true
any-weaker p q [] w h = h
any-weaker p q (x ∷ xs) w h = elim (or_cases (p x) (list_any p xs) h) [
  | inl here ↦ or_left (q x) (list_any q xs) (w x here)
  | inr later ↦ or_right (q x) (list_any q xs) (any-weaker p q xs w later)
]

optimal-take : (order : List ℕ) (inputs : List Input) (k : ℕ) (prefix : List ℕ) → each_optimal order inputs prefix ≡ true → each_optimal order inputs (take k prefix) ≡ true
optimal-take order inputs zero prefix h = refl
optimal-take order inputs (suc k) [] h = h
optimal-take order [] (suc k) (a ∷ prefix) h = absurd (cc)
optimal-take order (input ∷ inputs) (suc k) (a ∷ prefix) h =
    let parts = and_parts _ (each_optimal order inputs prefix) h in
    and_from _ _ parts.0 (optimal-take order inputs k prefix parts.1)

pub refuted-take : (problem : Problem) (prefix : List ℕ) (k : ℕ) → refuted problem prefix ≡ false → refuted problem (take k prefix) ≡ false
unfolding refuted
refuted-take problem prefix k h =
    by (list_any (λ order. holds problem order prefix) (rankings problem.constraints)) (list_any (λ order. holds problem order (take k prefix)) (rankings problem.constraints)) h
    (any-weaker (λ order. holds problem order prefix) (λ order. holds problem order (take k prefix)) (rankings problem.constraints) (λ order held. let parts = and_parts (keeps_givens problem order) (each_optimal order problem.inputs prefix) held in and_from _ _ parts.0 (optimal-take order problem.inputs k prefix parts.1)))
  where
    by : (a b : Bool) → not a ≡ false → (a ≡ true → b ≡ true) → not b ≡ false
    by true b h f = ap not (f refl)
    by false b h f = absurd (cc)

pub kept-reached : (problem : Problem) (prefix : List ℕ) → refuted problem prefix ≡ false → is_behind_cut problem prefix ≡ false
kept-reached problem prefix h = false_from_ne_true (is_behind_cut problem prefix) (λ some.
    let r = any-range (λ k. refuted problem (take k prefix)) 0 (length prefix) some in
    let no = refuted-take problem prefix r.it h in
    let e : true ≡ false = sym r.passes ∙ no in cc)

-- a prefix with one class more
pub take-append-one : (prefix : List ℕ) (a k : ℕ) → k ≤ length prefix → take k (prefix ++ a ∷ []) ≡ take k prefix
take-append-one prefix a zero h = refl
take-append-one [] a (suc k) h = absurd (omega arith)
take-append-one (x ∷ prefix) a (suc k) h = ap (λ (l : List ℕ). x ∷ l) (take-append-one prefix a k (omega arith))

pub take-whole : (prefix : List ℕ) → take (length prefix) prefix ≡ prefix
take-whole [] = refl
take-whole (x ∷ prefix) = ap (λ (l : List ℕ). x ∷ l) (take-whole prefix)

range-same : (f g : ℕ → Bool) (s n : ℕ) → ((k : ℕ) → k < s + n → f k ≡ g k) → list_any f (range_with_len s n) ≡ list_any g (range_with_len s n)
range-same f g s zero h = refl
range-same f g s (suc n) h =
    let here : f s ≡ g s = h s (omega arith) in
    let later = range-same f g (s + 1) n (λ k u. h k (omega arith)) in cc

or_false : (b : Bool) → (b || false) ≡ b
or_false true = refl
or_false false = refl

pub behind-push : (problem : Problem) (prefix : List ℕ) (a : ℕ) → is_behind_cut problem (prefix ++ a ∷ []) ≡ (is_behind_cut problem prefix || refuted problem prefix)
behind-push problem prefix a =
    let long : length (prefix ++ a ∷ []) ≡ length prefix + 1 = length-append prefix (a ∷ []) in
    ap (λ n. list_any (λ k. refuted problem (take k (prefix ++ a ∷ []))) (numbers_below n)) long
    ∙ range-same (λ k. refuted problem (take k (prefix ++ a ∷ []))) (λ k. refuted problem (take k prefix)) 0 (length prefix + 1) (λ k u. ap (refuted problem) (take-append-one prefix a k (omega arith)))
    ∙ ap (list_any (λ k. refuted problem (take k prefix))) (numbers_below-more (length prefix))
    ∙ list_any-append (λ k. refuted problem (take k prefix)) (numbers_below (length prefix)) (length prefix ∷ [])
    ∙ ap (λ b. is_behind_cut problem prefix || b) (or_false (refuted problem (take (length prefix) prefix)) ∙ ap (refuted problem) (take-whole prefix))

-- the parts of a list before its last number, and that number
record Front (list : List ℕ) (n : ℕ) : Type 0 where
  front : List ℕ
  last : ℕ
  whole : list ≡ front ++ last ∷ []
  long : length front ≡ n

front_of : (list : List ℕ) (n : ℕ) → length list ≡ suc n → Front list n
front_of [] n h = absurd (omega arith)
front_of (x ∷ []) n h = record { front = []; last = x; whole = refl; long = omega arith }
front_of (x ∷ y ∷ list) zero h = absurd (omega arith)
front_of (x ∷ y ∷ list) (suc n) h =
    let f = front_of (y ∷ list) n (omega arith) in
    record { front = x ∷ f.front; last = f.last; whole = ap (λ (l : List ℕ). x ∷ l) f.whole; long = ap suc f.long }

-- how often a prefix stands among the children of another one
children-one : (problem : Problem) (p q : List ℕ) (a : ℕ) → times (p ++ a ∷ []) (children problem q) ≡ cond (same p q) (cond (nat_lt a (length (classes_at problem (length p)))) 1 0) 0
children-one problem p q a = elim (cases_Bool (same p q)) [
  | inl here ↦
      let e : q ≡ p = sym (same-true p q here) in
      by here (length (classes_at problem (length q))) (length (classes_at problem (length p))) (ap (λ (l : List ℕ). length (classes_at problem (length l))) e)
  | inr other ↦
      times-outside (λ k. q ++ k ∷ []) (p ++ a ∷ []) 0 (length (classes_at problem (length q))) (λ k l u. same-push p q a k ∙ and_left (same p q) (nat_eq a k) other)
      ∙ ap (λ c. cond c (cond (nat_lt a (length (classes_at problem (length p)))) 1 0) 0) (sym other)
]
  where
    by : same p q ≡ true → (m n : ℕ) → m ≡ n → times (p ++ a ∷ []) (map (λ k. q ++ k ∷ []) (numbers_below m)) ≡ cond (same p q) (cond (nat_lt a n) 1 0) 0
    by here m n e = elim (cases_Bool (nat_lt a n)) [
      | inl below ↦
          times-within (λ k. q ++ k ∷ []) (p ++ a ∷ []) a 0 m (omega arith) (omega (arith, ltb-true a n below)) (λ k. same-push p q a k ∙ ap (λ c. c && nat_eq a k) here)
          ∙ ap (λ c. cond c 1 0) (sym below)
          ∙ ap (λ c. cond c (cond (nat_lt a n) 1 0) 0) (sym here)
      | inr above ↦
          times-outside (λ k. q ++ k ∷ []) (p ++ a ∷ []) 0 m (λ k l u. same-push p q a k ∙ ap (λ c. c && nat_eq a k) here ∙ past k (omega (arith, ltb-false a n above)))
          ∙ ap (λ c. cond c 1 0) (sym above)
          ∙ ap (λ c. cond c (cond (nat_lt a n) 1 0) 0) (sym here)
    ]
      where
        past : (k : ℕ) → k < a → nat_eq a k ≡ false
        past k less = elim (eqb_tells a k) [
          | inl same ↦ absurd (omega (arith, same.1))
          | inr other ↦ other.0
        ]

pub children-all : (problem : Problem) (p : List ℕ) (a : ℕ) (opened : List (List ℕ))
    → times (p ++ a ∷ []) (flat_map (children problem) opened) ≡ cond (nat_lt a (length (classes_at problem (length p)))) (times p opened) 0
children-all problem p a [] = nothing (nat_lt a (length (classes_at problem (length p))))
children-all problem p a (q ∷ opened) =
    times-append (p ++ a ∷ []) (children problem q) (flat_map (children problem) opened)
    ∙ ap (λ n. n + times (p ++ a ∷ []) (flat_map (children problem) opened)) (children-one problem p q a)
    ∙ ap (λ n. cond (same p q) (cond (nat_lt a (length (classes_at problem (length p)))) 1 0) 0 + n) (children-all problem p a opened)
    ∙ by (same p q) (nat_lt a (length (classes_at problem (length p)))) (times p opened)
    ∙ ap (λ n. cond (nat_lt a (length (classes_at problem (length p)))) n 0) (sym (times-cons p q opened))
  where
    by : (s c : Bool) (n : ℕ) → ◌≡◌ {A = ℕ} (cond s (cond c 1 0) 0 + cond c n 0) (cond c (cond s 1 0 + n) 0)
    by true true n = refl
    by true false n = refl
    by false true n = refl
    by false false n = refl

-- the empty prefix is no child
children-none : (problem : Problem) (opened : List (List ℕ)) → times [] (flat_map (children problem) opened) ≡ 0
children-none problem [] = refl
children-none problem (q ∷ opened) =
    omega (arith, times-append [] (children problem q) (flat_map (children problem) opened), children-none problem opened, times-outside (λ k. q ++ k ∷ []) [] 0 (length (classes_at problem (length q))) (λ k l u. longer q k))
  where
    longer : (l : List ℕ) (k : ℕ) → same [] (l ++ k ∷ []) ≡ false
    longer [] k = refl
    longer (x ∷ l) k = refl

-- the deeds of a prefix are those of the three fates
abbrev choices_collected : List Deed → List (List ℕ)
choices_collected deeds = map (λ language. language.0) (languages_in deeds)

by_fate : (p : List ℕ) (deeds : List Deed) → times p (map (λ deed. deed.prefix) deeds) ≡ times p (opened_in deeds) + (times p (choices_collected deeds) + times p (cuts_in deeds))
by_fate p [] = refl
by_fate p (deed ∷ deeds) =
    times-cons p deed.prefix (map (λ d. d.prefix) deeds)
    ∙ ap (λ n. cond (same p deed.prefix) 1 0 + n) (by_fate p deeds)
    ∙ by deed.fate
  where
    by : (fate : Fate) → cond (same p deed.prefix) 1 0 + (times p (opened_in deeds) + (times p (choices_collected deeds) + times p (cuts_in deeds)))
        ≡ times p (opened_by deed.prefix fate ++ opened_in deeds) + (times p (map (λ (l : List ℕ × List ℕ). l.0) (language_by deed.prefix fate ++ languages_in deeds)) + times p (cut_by deed.prefix fate ++ cuts_in deeds))
    by Opened = omega (arith, times-cons p deed.prefix (opened_in deeds))
    by (Language levels) = omega (arith, times-cons p deed.prefix (choices_collected deeds))
    by (Cut terms) = omega (arith, times-cons p deed.prefix (cuts_in deeds))

-- what is told of a prefix is true of it
times-here : (p x : List ℕ) (xs : List (List ℕ)) → 0 < times p (x ∷ xs) → (p ≡ x) ⊎ (0 < times p xs)
times-here p x xs h = elim (cases_Bool (same p x)) [
  | inl here ↦ inl (same-true p x here)
  | inr other ↦ let e : times p (x ∷ xs) ≡ 0 + times p xs = times-cons p x xs ∙ ap (λ c. cond c 1 0 + times p xs) other in inr (omega (arith, e))
]

abbrev IsTrueDeed : Problem → Deed → Type 0
IsTrueDeed problem deed = IsTrueOf problem deed.prefix deed.fate

opened-holds : (problem : Problem) (p : List ℕ) (deeds : List Deed) → AreHonest problem deeds → 0 < times p (opened_in deeds) → (refuted problem p ≡ false) × (length p < length problem.inputs)
opened-holds problem p [] h some = absurd (omega arith)
opened-holds problem p (deed ∷ deeds) h some = by deed.fate (All-head (IsTrueDeed problem) deed deeds h) (λ more. opened-holds problem p deeds (All-tail (IsTrueDeed problem) deed deeds h) more) some
  where
    by : (fate : Fate) → IsTrueOf problem deed.prefix fate → (0 < times p (opened_in deeds) → (refuted problem p ≡ false) × (length p < length problem.inputs)) → 0 < times p (opened_by deed.prefix fate ++ opened_in deeds) → (refuted problem p ≡ false) × (length p < length problem.inputs)
    by Opened t others some = elim (times-here p deed.prefix (opened_in deeds) some) [
      | inl here ↦ (ap (refuted problem) here ∙ t.0, omega (arith, ap (λ (l : List ℕ). length l) here, t.1))
      | inr later ↦ others later
    ]
    by (Language levels) t others some = others some
    by (Cut terms) t others some = others some

language-holds : (problem : Problem) (p : List ℕ) (deeds : List Deed) → AreHonest problem deeds → 0 < times p (choices_collected deeds) → (refuted problem p ≡ false) × (length p ≡ length problem.inputs)
language-holds problem p [] h some = absurd (omega arith)
language-holds problem p (deed ∷ deeds) h some = by deed.fate (All-head (IsTrueDeed problem) deed deeds h) (λ more. language-holds problem p deeds (All-tail (IsTrueDeed problem) deed deeds h) more) some
  where
    by : (fate : Fate) → IsTrueOf problem deed.prefix fate → (0 < times p (choices_collected deeds) → (refuted problem p ≡ false) × (length p ≡ length problem.inputs)) → 0 < times p (map (λ (l : List ℕ × List ℕ). l.0) (language_by deed.prefix fate ++ languages_in deeds)) → (refuted problem p ≡ false) × (length p ≡ length problem.inputs)
    by Opened t others some = others some
    by (Language levels) t others some = elim (times-here p deed.prefix (choices_collected deeds) some) [
      | inl here ↦ (ap (refuted problem) here ∙ t.0, ap (λ (l : List ℕ). length l) here ∙ t.1)
      | inr later ↦ others later
    ]
    by (Cut terms) t others some = others some

cut-refuted : (problem : Problem) (p : List ℕ) (deeds : List Deed) → AreHonest problem deeds → IsFitting problem p → 0 < times p (cuts_in deeds) → refuted problem p ≡ true
cut-refuted problem p [] h f some = absurd (omega arith)
cut-refuted problem p (deed ∷ deeds) h f some = by deed.fate (All-head (IsTrueDeed problem) deed deeds h) (λ more. cut-refuted problem p deeds (All-tail (IsTrueDeed problem) deed deeds h) f more) some
  where
    by : (fate : Fate) → IsTrueOf problem deed.prefix fate → (0 < times p (cuts_in deeds) → refuted problem p ≡ true) → 0 < times p (cut_by deed.prefix fate ++ cuts_in deeds) → refuted problem p ≡ true
    by Opened t others some = others some
    by (Language levels) t others some = others some
    by (Cut terms) t others some = elim (times-here p deed.prefix (cuts_in deeds) some) [
      | inl here ↦ contradiction-refutes problem terms p f t.0 (ap (refutes terms) here ∙ t.1)
      | inr later ↦ others later
    ]

-- how often a prefix stands among the deeds of each fate, by what it is
pub record Told (problem : Problem) (deeds : List Deed) (p : List ℕ) : Type 0 where
  pub opened : times p (opened_in deeds) ≡ cond (is_reached problem p && (not (refuted problem p) && nat_lt (length p) (length problem.inputs))) 1 0
  pub language : times p (map (λ language. language.0) (languages_in deeds)) ≡ cond (is_reached problem p && (not (refuted problem p) && is_full problem.inputs p)) 1 0
  pub cut : times p (cuts_in deeds) ≡ cond (is_reached problem p && refuted problem p) 1 0

-- the numbers of deeds of a prefix, from what their sum is
record Shares (o l c : ℕ) (reached ref short full : Bool) : Type 0 where
  opened : o ≡ cond (reached && (not ref && short)) 1 0
  language : l ≡ cond (reached && (not ref && full)) 1 0
  cut : c ≡ cond (reached && ref) 1 0

none_of : (n : ℕ) → (0 < n → ⊥) → n ≡ 0
none_of zero h = refl
none_of (suc n) h = absurd (h (omega arith))

shares : (o l c : ℕ) (reached ref short full : Bool) → o + (l + c) ≡ cond reached 1 0 → (0 < o → (ref ≡ false) × (short ≡ true)) → (0 < l → (ref ≡ false) × (full ≡ true)) → (reached ≡ true → 0 < c → ref ≡ true)
    → (reached ≡ true → full ≡ not short) → Shares o l c reached ref short full
shares o l c false ref short full sum a b d e = record { opened = omega arith; language = omega arith; cut = omega arith }
shares o l c true true short full sum a b d e =
    let no_o : o ≡ 0 = none_of o (λ some. let f : true ≡ false = (a some).0 in cc) in
    let no_l : l ≡ 0 = none_of l (λ some. let f : true ≡ false = (b some).0 in cc) in
    record { opened = no_o; language = no_l; cut = omega arith }
shares o l c true false true true sum a b d e = absurd (let f : true ≡ false = e refl in cc)
shares o l c true false true false sum a b d e =
    let no_l : l ≡ 0 = none_of l (λ some. let f : false ≡ true = (b some).1 in cc) in
    let no_c : c ≡ 0 = none_of c (λ some. let f : false ≡ true = d refl some in cc) in
    record { opened = omega arith; language = no_l; cut = no_c }
shares o l c true false false true sum a b d e =
    let no_o : o ≡ 0 = none_of o (λ some. let f : false ≡ true = (a some).1 in cc) in
    let no_c : c ≡ 0 = none_of c (λ some. let f : false ≡ true = d refl some in cc) in
    record { opened = no_o; language = omega arith; cut = no_c }
shares o l c true false false false sum a b d e = absurd (let f : false ≡ true = e refl in cc)

full-not-short : (m n : ℕ) → m ≤ n → (m == n) ≡ not (nat_lt m n)
full-not-short m n h = elim (eqb_tells m n) [
  | inl same ↦ same.0 ∙ ap not (sym (le-ltb m n (omega (arith, same.1))))
  | inr other ↦ other.0 ∙ ap not (sym (lt-ltb m n (omega (arith, other.1))))
]

Told-shares : (problem : Problem) (deeds : List Deed) (p : List ℕ) → IsSound problem → AreHonest problem deeds → times p (map (λ deed. deed.prefix) deeds) ≡ cond (is_reached problem p) 1 0 → Told problem deeds p
Told-shares problem deeds p classes honest once =
    let s = shares (times p (opened_in deeds)) (times p (choices_collected deeds)) (times p (cuts_in deeds)) (is_reached problem p) (refuted problem p) (nat_lt (length p) (length problem.inputs)) (is_full problem.inputs p)
    (sym (by_fate p deeds) ∙ once)
    (λ some. let t = opened-holds problem p deeds honest some in (t.0, lt-ltb _ _ t.1))
    (λ some. let t = language-holds problem p deeds honest some in (t.0, full (t.1)))
    (λ reached some. cut-refuted problem p deeds honest (record { classes = AllFit-fits problem.constraints problem.inputs p classes.classes (and_parts _ _ reached).0; pairs = classes.pairs }) some)
    (λ reached. full-not-short (length p) (length problem.inputs) (fits-short problem.inputs p (and_parts _ _ reached).0)) in
    record { opened = s.opened; language = s.language; cut = s.cut }
  where
    full : length p ≡ length problem.inputs → is_full problem.inputs p ≡ true
    full e = elim (eqb_tells (length p) (length problem.inputs)) [
      | inl same ↦ same.0
      | inr other ↦ absurd (other.1 e)
    ]

-- There is one deed of each prefix that is reached, and none of any other.
once : (problem : Problem) (deeds : List Deed) → IsSound problem → AreHonest problem deeds → AreBalanced problem deeds
    → (n : ℕ) (p : List ℕ) → length p ≡ n → times p (map (λ deed. deed.prefix) deeds) ≡ cond (is_reached problem p) 1 0
once problem deeds classes honest balanced zero [] e =
    balanced [] ∙ times-cons [] [] (flat_map (children problem) (opened_in deeds)) ∙ ap (λ n. 1 + n) (children-none problem (opened_in deeds))
once problem deeds classes honest balanced zero (x ∷ p) e = absurd (omega arith)
once problem deeds classes honest balanced (suc n) p e =
    let f = front_of p n e in
    subst (λ (l : List ℕ). times l (map (λ deed. deed.prefix) deeds) ≡ cond (is_reached problem l) 1 0) (sym f.whole)
    (longer f.front f.last (Told-shares problem deeds f.front classes honest (once problem deeds classes honest balanced n f.front f.long)))
  where
    none : (q : List ℕ) (a : ℕ) → same (q ++ a ∷ []) [] ≡ false
    none [] a = refl
    none (x ∷ q) a = refl

    by : (fit behind ref short below : Bool) → (below ≡ true → short ≡ true) → ◌≡◌ {A = ℕ} (cond below (cond ((fit && not behind) && (not ref && short)) 1 0) 0) (cond ((fit && below) && not (behind || ref)) 1 0)
    by true true ref short true h = refl
    by true true ref short false h = refl
    by true false true short true h = refl
    by true false true short false h = refl
    by true false false true true h = refl
    by true false false true false h = refl
    by true false false false true h = absurd (let f : false ≡ true = h refl in cc)
    by true false false false false h = refl
    by false behind ref short true h = refl
    by false behind ref short false h = refl

    longer : (q : List ℕ) (a : ℕ) → Told problem deeds q → times (q ++ a ∷ []) (map (λ deed. deed.prefix) deeds) ≡ cond (is_reached problem (q ++ a ∷ [])) 1 0
    longer q a told =
        let below : Bool = nat_lt a (length (classes_at problem (length q))) in
        balanced (q ++ a ∷ [])
        ∙ times-cons (q ++ a ∷ []) [] (flat_map (children problem) (opened_in deeds))
        ∙ ap (λ c. cond c 1 0 + times (q ++ a ∷ []) (flat_map (children problem) (opened_in deeds))) (none q a)
        ∙ zero-add (times (q ++ a ∷ []) (flat_map (children problem) (opened_in deeds)))
        ∙ children-all problem q a (opened_in deeds)
        ∙ ap (λ m. cond (nat_lt a (length (classes_at problem (length q)))) m 0) told.opened
        ∙ by (fits problem.inputs q) (is_behind_cut problem q) (refuted problem q) (nat_lt (length q) (length problem.inputs)) (nat_lt a (length (classes_at problem (length q))))
        (λ h. lt-ltb _ _ (classes-within problem.inputs (length q) a (ltb-true _ _ h)))
        ∙ ap (λ c. cond (c && not (is_behind_cut problem q || refuted problem q)) 1 0) (sym (fits-push problem.inputs q a))
        ∙ ap (λ c. cond (fits problem.inputs (q ++ a ∷ []) && not c) 1 0) (sym (behind-push problem q a))

pub Told-balanced : (problem : Problem) (deeds : List Deed) → IsSound problem → AreHonest problem deeds → AreBalanced problem deeds → (p : List ℕ) → Told problem deeds p
Told-balanced problem deeds classes honest balanced p = Told-shares problem deeds p classes honest (once problem deeds classes honest balanced (length p) p refl)

-- Of honest and balanced deeds the languages are those of the problem, each once.
pub languages-collected : (problem : Problem) (deeds : List Deed) → IsSound problem → AreHonest problem deeds → AreBalanced problem deeds
    → (p : List ℕ) → times p (map (λ language. language.0) (languages_in deeds)) ≡ times p (languages problem)
unfolding languages
languages-collected problem deeds classes honest balanced p =
    (Told-balanced problem deeds classes honest balanced p).language
    ∙ by (fits problem.inputs p) (is_behind_cut problem p) (refuted problem p) (is_full problem.inputs p) (kept-reached problem p)
    ∙ ap (λ n. cond (not (refuted problem p)) n 0) (sym (times-choices problem.inputs p))
    ∙ sym (times-filter p (λ choice. not (refuted problem choice)) (choices problem.inputs))
  where
    by : (fit behind ref full : Bool) → (ref ≡ false → behind ≡ false) → ◌≡◌ {A = ℕ} (cond ((fit && not behind) && (not ref && full)) 1 0) (cond (not ref) (cond (fit && full) 1 0) 0)
    by true true true full h = refl
    by true true false full h = absurd (let f : true ≡ false = h refl in cc)
    by true false true full h = refl
    by true false false full h = refl
    by false behind true full h = refl
    by false behind false full h = refl

-- Of honest and balanced deeds the prefixes cut off are the cuts of the problem, each once.
pub cuts-collected : (problem : Problem) (deeds : List Deed) → IsSound problem → AreHonest problem deeds → AreBalanced problem deeds
    → (p : List ℕ) → times p (cuts_in deeds) ≡ times p (cuts problem)
unfolding cuts
cuts-collected problem deeds classes honest balanced p =
    (Told-balanced problem deeds classes honest balanced p).cut
    ∙ by (fits problem.inputs p) (is_behind_cut problem p) (refuted problem p)
    ∙ ap (λ n. cond (refuted problem p && not (is_behind_cut problem p)) n 0) (sym (times-prefixes problem.inputs p))
    ∙ sym (times-filter p (λ prefix. refuted problem prefix && not (is_behind_cut problem prefix)) (prefixes problem.inputs))
  where
    by : (fit behind ref : Bool) → ◌≡◌ {A = ℕ} (cond ((fit && not behind) && ref) 1 0) (cond (ref && not behind) (cond fit 1 0) 0)
    by true true true = refl
    by true true false = refl
    by true false true = refl
    by true false false = refl
    by false true true = refl
    by false false true = refl
    by false behind false = refl
