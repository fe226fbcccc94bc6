-- The cuts of a problem: a certificate refutes those of its own length alone, and each names the first that refutes it.
use Rattle.std.proofs.Common.{◌≡◌, ℕ, zero, suc, ◌+◌, ◌<◌, List, [], ◌∷◌, ◌++◌, Bool, true, false, not, ◌&&◌, ◌||◌, ◌==◌, arith, refl, sym, ◌∙◌, ap, cond, inl, inr, length, take, get_or, slice_index, fold}
use Rattle.std.specs.Prelude.{All, nat_lt}
use Rattle.std.specs.List.{list_all, list_any, position_or_len}
use Rattle.std.proofs.lemmas.Bool.{and_parts, cases_Bool, eq-eqb, eqb-true, leb-true}
use Rattle.std.proofs.lemmas.List.{map-append}
use Rattle.std.proofs.lemmas.List.Elements.{All-append, All-cons, All-head, All-nil, All-tail}
use Rattle.ot_theory.specs.Problems.{Problem}
use Rattle.ot_theory.specs.Languages.{Term, refuted, terms_of}
use Rattle.ot_theory.specs.Refutations.{certificate_named, certificates, cuts, is_contradiction, prefixes, refutes, with_certificate}
use Rattle.ot_theory.proofs.Certificates.{certificate-contradiction}
use Rattle.ot_theory.proofs.Optimal.{refuted-conditions}
use Rattle.ot_theory.proofs.Strata.{range-any}
use Rattle.violation_profiles.specs.WellFormed.{IsWellFormed}
use Rattle.violation_profiles.proofs.Inputs.{AllFit-prefix}
use Rattle.refutation.proofs.TermsOfPrefixes.{certificate-refutes, made-one, terms_of-genuine, terms_of-made}
use Rattle.search_deeds.specs.Indexed.{is_last, is_up_to}
use Rattle.search_deeds.proofs.Ascending.{times-first}
use Rattle.search_deeds.proofs.Choices.{giving, gives, last-refuting}
use Rattle.search_deeds.specs.Deeds.{times}
use Rattle.search_deeds.proofs.Counts.{times-cons, times-filter}
use Rattle.search_deeds.proofs.Fitting.{fits, times-prefixes}
use Rattle.search_deeds.proofs.FromDeeds.{IsPrefix-fits, IsRefutedPrefix}
use Rattle.search_deeds.proofs.Reached.{is_behind_cut}
use Rattle.search_machine.specs.Machine.{own_certificate}
use Rattle.typology_core.proofs.LoneLevels.{certified_by, hit-kept, hits}
use Rattle.typology_core.proofs.Names.{place}
use Rattle.typology_core.proofs.Tallies.{bump, leaders, missed, stored, tally}

-- ---- the cuts are refuted prefixes
times-member : (xs : List (List ℕ)) (k : ℕ) (d : List ℕ) → k < length xs → 0 < times (get_or xs k d) xs
times-member [] k d h = absurd (omega arith)
times-member (x ∷ xs) zero d h = omega (arith, times-first x xs)
times-member (x ∷ xs) (suc k) d h = omega (arith, times-cons (get_or xs k d) x xs, times-member xs k d (omega arith))

none-before : (problem : Problem) (p : List ℕ) → is_behind_cut problem p ≡ false → (k : ℕ) → k < length p → refuted problem (take k p) ≡ false
none-before problem p b k below = elim (cases_Bool (refuted problem (take k p))) [
  | inl gone ↦ absurd (let no : true ≡ false = sym (range-any (λ j. refuted problem (take j p)) 0 (length p) k (omega arith) (omega (arith, below)) gone) ∙ b in cc)
  | inr held ↦ held
]

pub cuts-refuted : (problem : Problem) → All (IsRefutedPrefix problem) (cuts problem)
unfolding cuts
cuts-refuted problem k d below =
    let p : List ℕ = get_or (cuts problem) k d in
    by p (fits problem.inputs p) (refuted problem p) (is_behind_cut problem p) refl refl refl
    (omega (
      arith,
      times-member (cuts problem) k d below,
      times-filter p (λ prefix. refuted problem prefix && not (is_behind_cut problem prefix)) (prefixes problem.inputs)
          ∙ ap (λ n. cond (refuted problem p && not (is_behind_cut problem p)) n 0) (times-prefixes problem.inputs p),
    ))
  where
    by : (p : List ℕ) (fit ref behind : Bool) → fits problem.inputs p ≡ fit → refuted problem p ≡ ref → is_behind_cut problem p ≡ behind → 0 < cond (ref && not behind) (cond fit 1 0) 0 → IsRefutedPrefix problem p
    by p true true true f r b some = absurd (omega arith)
    by p true true false f r b some = record { prefix = IsPrefix-fits problem p f; hopeless = r; shortest = none-before problem p b }
    by p false true true f r b some = absurd (omega arith)
    by p false true false f r b some = absurd (omega arith)
    by p fit false behind f r b some = absurd (omega arith)

-- ---- a certificate refutes cuts of its own length alone
abbrev pub meets : Problem → List ℕ → List ℕ → Bool
meets problem leader prefix = hits problem leader prefix && (length leader == length prefix)

pub meets-own : (problem : Problem) (x : List ℕ) → meets problem x x ≡ true
meets-own problem x = rw (certificate-refutes problem x (own_certificate problem x) refl) (eq-eqb (length x) (length x) refl)

pub meets-length : (problem : Problem) (y x : List ℕ) → meets problem y x ≡ true → length y ≡ length x
meets-length problem y x h = eqb-true (length y) (length x) (and_parts (hits problem y x) (length y == length x) h).1

genuine : (problem : Problem) (y : List ℕ) → IsWellFormed problem → IsRefutedPrefix problem y → is_contradiction problem (own_certificate problem y) ≡ true
genuine problem y well h =
    certificate-contradiction problem (terms_of problem y) (terms_of-genuine problem y h.prefix) (made-one y (terms_of problem y) (terms_of-made problem y)) (sym (refuted-conditions problem y (AllFit-prefix problem y well h.prefix)) ∙ h.hopeless)

last-unique : (terms : List Term) (k a j b : ℕ) → is_last terms k a ≡ true → is_last terms j b ≡ true → k ≡ j
last-unique terms k a j b h g =
    let one = and_parts (list_any (gives k a) terms) (list_all (is_up_to k) terms) h in
    let two = and_parts (list_any (gives j b) terms) (list_all (is_up_to j) terms) g in
    let first = giving terms k a one.0 in
    let second = giving terms j b two.0 in
    omega (arith, leb-true k j (first.stands (is_up_to j) two.1), leb-true j k (second.stands (is_up_to k) one.1))

last-of : (problem : Problem) (y x : List ℕ) (k : ℕ) → IsWellFormed problem → IsRefutedPrefix problem y → IsRefutedPrefix problem x → length x ≡ suc k → hits problem y x ≡ true → is_last (own_certificate problem y) k (slice_index x k) ≡ true
last-of problem y x k well hy hx long h = last-refuting problem x k (own_certificate problem y) well hx.prefix long (hx.shortest k (omega (arith, long))) (genuine problem y well hy) h

same-length : (problem : Problem) (y x : List ℕ) → IsWellFormed problem → IsRefutedPrefix problem y → IsRefutedPrefix problem x → hits problem y x ≡ true → length y ≡ length x
same-length problem [] [] well hy hx h = refl
same-length problem (b ∷ y) [] well hy hx h = absurd (let no : true ≡ false = sym hx.hopeless ∙ hy.shortest 0 (omega arith) in cc)
same-length problem [] (a ∷ x) well hy hx h = absurd (let no : true ≡ false = sym hy.hopeless ∙ hx.shortest 0 (omega arith) in cc)
same-length problem (b ∷ y) (a ∷ x) well hy hx h =
    let own = last-of problem (b ∷ y) (b ∷ y) (length y) well hy hy refl (certificate-refutes problem (b ∷ y) (own_certificate problem (b ∷ y)) refl) in
    let other = last-of problem (b ∷ y) (a ∷ x) (length x) well hy hx refl h in
    ap suc (last-unique (own_certificate problem (b ∷ y)) (length y) (slice_index (b ∷ y) (length y)) (length x) (slice_index (a ∷ x) (length x)) own other)

pub hits-meets : (problem : Problem) (y x : List ℕ) → IsWellFormed problem → IsRefutedPrefix problem y → IsRefutedPrefix problem x → hits problem y x ≡ meets problem y x
hits-meets problem y x well hy hx = by (hits problem y x) refl
  where
    by : (b : Bool) → hits problem y x ≡ b → b ≡ (b && (length y == length x))
    by true h = sym (eq-eqb (length y) (length x) (same-length problem y x well hy hx h))
    by false h = refl

any-meets : (problem : Problem) (s : List (List ℕ)) (x : List ℕ) → IsWellFormed problem → All (IsRefutedPrefix problem) s → IsRefutedPrefix problem x → list_any (λ y. hits problem y x) s ≡ list_any (λ y. meets problem y x) s
any-meets problem [] x well all hx = refl
any-meets problem (y ∷ s) x well all hx =
    let here = hits-meets problem y x well (All-head (IsRefutedPrefix problem) y s all) hx in
    let later = any-meets problem s x well (All-tail (IsRefutedPrefix problem) y s all) hx in
    both here later
  where
    both : {a b c d : Bool} → a ≡ b → c ≡ d → (a || c) ≡ (b || d)
    both e f = rw (e, f) refl

All-stored : {X : Type 0} (P : X → Type 0) (h : X → X → Bool) (places : ℕ) (s : List X) (x : X) → All P s → P x → All P (stored h places s x)
All-stored P h places s x all hx = by (list_any (λ y. h y x) s) (nat_lt (length s) places)
  where
    by : (any room : Bool) → All P (cond any s (cond room (s ++ x ∷ []) s))
    by true room = all
    by false true = All-append P s (x ∷ []) all (All-cons P x [] hx (All-nil P))
    by false false = all

-- so the cuts are missed alike
pub missed-meets : (problem : Problem) (places : ℕ) (s xs : List (List ℕ)) → IsWellFormed problem → All (IsRefutedPrefix problem) s → All (IsRefutedPrefix problem) xs → missed (hits problem) places s xs ≡ missed (meets problem) places s xs
missed-meets problem places s [] well all each = refl
missed-meets problem places s (x ∷ xs) well all each =
    let hx = All-head (IsRefutedPrefix problem) x xs each in
    let any = any-meets problem s x well all hx in
    let same : stored (hits problem) places s x ≡ stored (meets problem) places s x = ap (λ (b : Bool). cond b s (cond (nat_lt (length s) places) (s ++ x ∷ []) s)) any in
    let rest = missed-meets problem places (stored (hits problem) places s x) xs well (All-stored (IsRefutedPrefix problem) (hits problem) places s x all hx) (All-tail (IsRefutedPrefix problem) x xs each) in
    let here : cond (list_any (λ y. hits problem y x) s) 0 1 ≡ cond (list_any (λ y. meets problem y x) s) 0 1 = ap (λ (b : Bool). (let n : ℕ = cond b 0 1 in n)) any in
    let later : missed (hits problem) places (stored (hits problem) places s x) xs ≡ missed (meets problem) places (stored (meets problem) places s x) xs = rest ∙ ap (λ (l : List (List ℕ)). missed (meets problem) places l xs) same in
    plus here later
  where
    plus : {a b c d : ℕ} → a ≡ b → c ≡ d → a + c ≡ b + d
    plus e f = omega (arith, e, f)

-- ---- the certificates are those of the leaders
pub leaders-bump : {X : Type 0} (h : X → X → Bool) (x : X) (g : List (X × ℕ)) → leaders (bump h x g) ≡ cond (list_any (λ y. h y x) (leaders g)) (leaders g) (leaders g ++ x ∷ [])
leaders-bump h x [] = refl
leaders-bump {X = X} h x (c ∷ g) = elim (cases_Bool (h c.0 x)) [
  | inl hit ↦ rw hit refl
  | inr miss ↦ rw miss (ap (λ (l : List X). c.0 ∷ l) (leaders-bump h x g) ∙ by (list_any (λ y. h y x) (leaders g)))
]
  where
    by : (b : Bool) → c.0 ∷ cond b (leaders g) (leaders g ++ x ∷ []) ≡ cond b (c.0 ∷ leaders g) (c.0 ∷ (leaders g ++ x ∷ []))
    by true = refl
    by false = refl

All-bump : {X : Type 0} (P : X → Type 0) (h : X → X → Bool) (x : X) (g : List (X × ℕ)) → All P (leaders g) → P x → All P (leaders (bump h x g))
All-bump P h x g all hx = rw (leaders-bump h x g) (by (list_any (λ y. h y x) (leaders g)))
  where
    by : (b : Bool) → All P (cond b (leaders g) (leaders g ++ x ∷ []))
    by true = all
    by false = All-append P (leaders g) (x ∷ []) all (All-cons P x [] hx (All-nil P))

pub All-tally : {X : Type 0} (P : X → Type 0) (h : X → X → Bool) (g : List (X × ℕ)) (xs : List X) → All P (leaders g) → All P xs → All P (leaders (tally h g xs))
All-tally P h g [] all each = all
All-tally P h g (x ∷ xs) all each = All-tally P h (bump h x g) xs (All-bump P h x g all (All-head P x xs each)) (All-tail P x xs each)

with-one : (problem : Problem) (g : List (List ℕ × ℕ)) (x : List ℕ) → IsWellFormed problem → All (IsRefutedPrefix problem) (leaders g) → IsRefutedPrefix problem x
    → with_certificate problem (certified_by problem (leaders g)) x ≡ certified_by problem (leaders (bump (meets problem) x g))
with-one problem g x well all hx =
    let any = hit-kept problem (leaders g) x ∙ any-meets problem (leaders g) x well all hx in
    ap (λ (b : Bool). cond b (certified_by problem (leaders g)) (certified_by problem (leaders g) ++ own_certificate problem x ∷ [])) any
    ∙ by (list_any (λ y. meets problem y x) (leaders g))
    ∙ sym (ap (certified_by problem) (leaders-bump (meets problem) x g))
  where
    by : (b : Bool) → cond b (certified_by problem (leaders g)) (certified_by problem (leaders g) ++ own_certificate problem x ∷ []) ≡ certified_by problem (cond b (leaders g) (leaders g ++ x ∷ []))
    by true = refl
    by false = sym (map-append (own_certificate problem) (leaders g) (x ∷ []))

with-all : (problem : Problem) (g : List (List ℕ × ℕ)) (xs : List (List ℕ)) → IsWellFormed problem → All (IsRefutedPrefix problem) (leaders g) → All (IsRefutedPrefix problem) xs
    → fold (with_certificate problem) (certified_by problem (leaders g)) xs ≡ certified_by problem (leaders (tally (meets problem) g xs))
with-all problem g [] well all each = refl
with-all problem g (x ∷ xs) well all each =
    let hx = All-head (IsRefutedPrefix problem) x xs each in
    ap (λ (l : List (List Term)). fold (with_certificate problem) l xs) (with-one problem g x well all hx)
    ∙ with-all problem (bump (meets problem) x g) xs well (All-bump (IsRefutedPrefix problem) (meets problem) x g all hx) (All-tail (IsRefutedPrefix problem) x xs each)

-- the tally of the cuts
abbrev pub tallied : Problem → List (List ℕ × ℕ)
tallied problem = tally (meets problem) [] (cuts problem)

pub certificates-tallied : (problem : Problem) → IsWellFormed problem → certificates problem ≡ certified_by problem (leaders (tallied problem))
unfolding certificates
certificates-tallied problem well = with-all problem [] (cuts problem) well (All-nil (IsRefutedPrefix problem)) (cuts-refuted problem)

first-place : {X : Type 0} (p : X → Bool) (x : X) (xs : List X) → position_or_len p (x ∷ xs) ≡ cond (p x) 0 (1 + position_or_len p xs)
first-place p x xs = elim (cases_Bool (p x)) [
  | inl e ↦ rw e refl
  | inr e ↦ rw e refl
]

-- A cut names the place of the first leader that hits it.
place-of : (problem : Problem) (g : List (List ℕ × ℕ)) (x : List ℕ) → IsWellFormed problem → All (IsRefutedPrefix problem) (leaders g) → IsRefutedPrefix problem x
    → position_or_len (λ terms. refutes terms x) (certified_by problem (leaders g)) ≡ place (meets problem) x g
place-of problem [] x well all hx = refl
place-of problem (c ∷ g) x well all hx =
    first-place (λ terms. refutes terms x) (own_certificate problem c.0) (certified_by problem (leaders g))
    ∙ both (hits-meets problem c.0 x well (All-head (IsRefutedPrefix problem) c.0 (leaders g) all) hx) (place-of problem g x well (All-tail (IsRefutedPrefix problem) c.0 (leaders g) all) hx)
    ∙ sym (first-place (λ (k : List ℕ × ℕ). meets problem k.0 x) c g)
  where
    both : {a b : Bool} {m n : ℕ} → a ≡ b → m ≡ n → cond a 0 (1 + m) ≡ cond b 0 (1 + n)
    both e f = rw (e, f) refl

pub certificate-place : (problem : Problem) (x : List ℕ) → IsWellFormed problem → IsRefutedPrefix problem x → certificate_named problem x ≡ place (meets problem) x (tallied problem)
certificate-place problem x well hx =
    ap (position_or_len (λ terms. refutes terms x)) (certificates-tallied problem well)
    ∙ place-of problem (tallied problem) x well (All-tally (IsRefutedPrefix problem) (meets problem) [] (cuts problem) (All-nil (IsRefutedPrefix problem)) (cuts-refuted problem)) hx
