-- What the fusion of conditions has at a constraint, and what holds of a part of them.
use Rattle.std.proofs.Common.{◌≡◌, ℕ, ◌<◌, ◌≤◌, List, [], ◌∷◌, Bool, true, false, not, ◌&&◌, ◌||◌, arith, refl, sym, ◌∙◌, ap, cond, inl, inr}
use Rattle.std.specs.Prelude.{filter}
use Rattle.std.specs.List.{list_all, list_any}
use Rattle.std.proofs.lemmas.Bool.{and_parts, and_from, or_cases, or_left, or_parts, or_from, cases_Bool, cases_lt, not-true}
use Rattle.std.proofs.lemmas.List.{get_or_past}
use Rattle.std.proofs.lemmas.List.FromFn.{get_or-map-range_with_len, length-map-range_with_len}
use Rattle.ot_theory.specs.declared.Mark.{Mark}
use Rattle.ot_theory.specs.declared.Mark.TheVariants.{W, L, E}
use Rattle.ot_theory.specs.Conditions.{mark_at, is_win, is_loss, is_even, fusion}
use Rattle.ot_theory.proofs.Enumeration.{any-map}
use Rattle.ot_theory.proofs.Hopeless.{fused_at}
use Rattle.ot_theory.proofs.Sets.{IsPart}
use Rattle.fusional_reduction.specs.Nodes.{is_even_at}

abbrev pub win_at : ℕ → List Mark → Bool
win_at c marks = is_win (mark_at marks c)

abbrev pub loss_at : ℕ → List Mark → Bool
loss_at c marks = is_loss (mark_at marks c)

pub fusion-at : (n : ℕ) (set : List (List Mark)) (c : ℕ) → c < n → mark_at (fusion n set) c ≡ cond (list_any (loss_at c) set) L (cond (list_any (win_at c) set) W E)
fusion-at n set c below =
    let here : mark_at (fusion n set) c ≡ fused_at set c = get_or-map-range_with_len (fused_at set) 0 n c c E (omega arith) (omega arith) in
    here ∙ rw (any-map is_loss (λ marks. mark_at marks c) set, any-map is_win (λ marks. mark_at marks c) set) refl

pub fusion-past : (n : ℕ) (set : List (List Mark)) (c : ℕ) → n ≤ c → mark_at (fusion n set) c ≡ E
fusion-past n set c past = get_or_past (fusion n set) c E (omega (arith, length-map-range_with_len (fused_at set) 0 n))

-- what a W of the fusion says
pub record WinAt (n : ℕ) (set : List (List Mark)) (c : ℕ) : Type 0 where
  pub below : c < n
  pub no_loss : list_any (loss_at c) set ≡ false
  pub win : list_any (win_at c) set ≡ true

pub fusion-win : (n : ℕ) (set : List (List Mark)) (c : ℕ) → is_win (mark_at (fusion n set) c) ≡ true → WinAt n set c
fusion-win n set c h = elim (cases_lt c n) [
  | inl below ↦
      let parts = by (list_any (loss_at c) set) (list_any (win_at c) set) (sym (ap is_win (fusion-at n set c below)) ∙ h) in
      record { below = below; no_loss = parts.0; win = parts.1 }
  | inr past ↦ let no : is_win E ≡ true = sym (ap is_win (fusion-past n set c past)) ∙ h in absurd (cc)
]
  where
    by : (a b : Bool) → is_win (cond a L (cond b W E)) ≡ true → (a ≡ false) × (b ≡ true)
    by true b h = absurd (cc)
    by false true h = (refl, refl)
    by false false h = absurd (cc)

pub win-fusion : (n : ℕ) (set : List (List Mark)) (c : ℕ) → c < n → list_any (loss_at c) set ≡ false → list_any (win_at c) set ≡ true → is_win (mark_at (fusion n set) c) ≡ true
win-fusion n set c below none win = ap is_win (fusion-at n set c below) ∙ rw (none, win) refl

-- what an L of the fusion says
pub record LossAt (n : ℕ) (set : List (List Mark)) (c : ℕ) : Type 0 where
  pub below : c < n
  pub loss : list_any (loss_at c) set ≡ true

pub fusion-loss : (n : ℕ) (set : List (List Mark)) (c : ℕ) → is_loss (mark_at (fusion n set) c) ≡ true → LossAt n set c
fusion-loss n set c h = elim (cases_lt c n) [
  | inl below ↦ record { below = below; loss = by (list_any (loss_at c) set) (list_any (win_at c) set) (sym (ap is_loss (fusion-at n set c below)) ∙ h) }
  | inr past ↦ let no : is_loss E ≡ true = sym (ap is_loss (fusion-past n set c past)) ∙ h in absurd (cc)
]
  where
    by : (a b : Bool) → is_loss (cond a L (cond b W E)) ≡ true → a ≡ true
    by true b h = refl
    by false true h = absurd (cc)
    by false false h = absurd (cc)

pub loss-fusion : (n : ℕ) (set : List (List Mark)) (c : ℕ) → c < n → list_any (loss_at c) set ≡ true → is_loss (mark_at (fusion n set) c) ≡ true
loss-fusion n set c below loss = ap is_loss (fusion-at n set c below) ∙ rw loss refl

-- Where the fusion has e, no condition has W or L.
pub record EvenAt (set : List (List Mark)) (c : ℕ) : Type 0 where
  pub no_loss : list_any (loss_at c) set ≡ false
  pub no_win : list_any (win_at c) set ≡ false

pub fusion-even : (n : ℕ) (set : List (List Mark)) (c : ℕ) → c < n → is_even (mark_at (fusion n set) c) ≡ true → EvenAt set c
fusion-even n set c below h =
    let parts = by (list_any (loss_at c) set) (list_any (win_at c) set) (sym (ap is_even (fusion-at n set c below)) ∙ h) in
    record { no_loss = parts.0; no_win = parts.1 }
  where
    by : (a b : Bool) → is_even (cond a L (cond b W E)) ≡ true → (a ≡ false) × (b ≡ false)
    by true b h = absurd (cc)
    by false true h = absurd (cc)
    by false false h = (refl, refl)

pub even-fusion : (n : ℕ) (set : List (List Mark)) (c : ℕ) → EvenAt set c → is_even (mark_at (fusion n set) c) ≡ true
even-fusion n set c h = elim (cases_lt c n) [
  | inl below ↦ ap is_even (fusion-at n set c below) ∙ rw (h.no_loss, h.no_win) refl
  | inr past ↦ ap is_even (fusion-past n set c past)
]

-- a mark that is neither W nor L, and one that is neither e nor L
pub neither : (m : Mark) → is_loss m ≡ false → is_win m ≡ false → is_even m ≡ true
neither W l w = absurd (cc)
neither L l w = absurd (cc)
neither E l w = refl

pub win-left : (m : Mark) → is_loss m ≡ false → is_even m ≡ false → is_win m ≡ true
win-left W l e = refl
win-left L l e = absurd (cc)
win-left E l e = absurd (cc)

pub even-not-win : (m : Mark) → is_even m ≡ true → is_win m ≡ false
even-not-win W e = absurd (cc)
even-not-win L e = absurd (cc)
even-not-win E e = refl

pub even-not-loss : (m : Mark) → is_even m ≡ true → is_loss m ≡ false
even-not-loss W e = absurd (cc)
even-not-loss L e = absurd (cc)
even-not-loss E e = refl

pub win-not-loss : (m : Mark) → is_win m ≡ true → is_loss m ≡ false
win-not-loss W e = refl
win-not-loss L e = absurd (cc)
win-not-loss E e = absurd (cc)

pub loss-not-win : (m : Mark) → is_loss m ≡ true → is_win m ≡ false
loss-not-win W e = absurd (cc)
loss-not-win L e = refl
loss-not-win E e = absurd (cc)

pub not_both : {b : Bool} → b ≡ true → b ≡ false → ⊥
not_both h k = let no : true ≡ false = sym h ∙ k in cc

-- ---- tests over a list, and over a part of it
pub all-none : {X : Type 0} (p : X → Bool) (xs : List X) → list_any p xs ≡ false → list_all (λ x. not (p x)) xs ≡ true
all-none p [] h = refl
all-none p (x ∷ xs) h = let parts = or_parts (p x) (list_any p xs) h in and_from _ _ (ap not parts.0) (all-none p xs parts.1)

pub none-all : {X : Type 0} (p : X → Bool) (xs : List X) → list_all (λ x. not (p x)) xs ≡ true → list_any p xs ≡ false
none-all p [] h = refl
none-all p (x ∷ xs) h = let parts = and_parts (not (p x)) (list_all (λ x. not (p x)) xs) h in or_from _ _ (not-true _ parts.0) (none-all p xs parts.1)

pub part-trans : (a b c : List (List Mark)) → IsPart a b → IsPart b c → IsPart a c
part-trans a b c h k p all = h p (k p all)

pub none-part : (p : List Mark → Bool) (part set : List (List Mark)) → IsPart part set → list_any p set ≡ false → list_any p part ≡ false
none-part p part set within h = none-all p part (within (λ x. not (p x)) (all-none p set h))

pub any-part : (p : List Mark → Bool) (part set : List (List Mark)) → IsPart part set → list_any p part ≡ true → list_any p set ≡ true
any-part p part set within h = elim (cases_Bool (list_any p set)) [
  | inl e ↦ e
  | inr none ↦ absurd (not_both h (none-part p part set within none))
]

-- a condition that passes a test, and stands in the list
pub record Standing (p : List Mark → Bool) (set : List (List Mark)) : Type 0 where
  pub it : List Mark
  pub passes : p it ≡ true
  pub stands : IsPart (it ∷ []) set

pub standing : (p : List Mark → Bool) (set : List (List Mark)) → list_any p set ≡ true → Standing p set
standing p [] h = absurd (cc)
standing p (marks ∷ set) h = elim (or_cases (p marks) (list_any p set) h) [
  | inl here ↦ record { it = marks; passes = here; stands = λ q all. and_from _ _ (and_parts _ _ all).0 refl }
  | inr later ↦ let s = standing p set later in record { it = s.it; passes = s.passes; stands = λ q all. s.stands q (and_parts _ _ all).1 }
]

-- What holds of each condition of a list holds of all.
pub all-each : (p : List Mark → Bool) (set : List (List Mark)) → ((it : List Mark) → IsPart (it ∷ []) set → p it ≡ true) → list_all p set ≡ true
all-each p [] h = refl
all-each p (marks ∷ set) h = and_from _ _ (h marks (λ q all. and_from _ _ (and_parts _ _ all).0 refl)) (all-each p set (λ it stands. h it (λ q all. stands q (and_parts _ _ all).1)))

pub it-passes : (p : List Mark → Bool) (it : List Mark) (set : List (List Mark)) → IsPart (it ∷ []) set → list_all p set ≡ true → p it ≡ true
it-passes p it set stands all = (and_parts _ _ (stands p all)).0

pub it-any : (p : List Mark → Bool) (it : List Mark) (set : List (List Mark)) → IsPart (it ∷ []) set → p it ≡ true → list_any p set ≡ true
it-any p it set stands h = any-part p (it ∷ []) set stands (or_left _ _ h)

-- ---- the conditions that pass a test
pub all-filter : (e : List Mark → Bool) (set : List (List Mark)) → list_all e (filter e set) ≡ true
all-filter e [] = refl
all-filter e (marks ∷ set) = elim (cases_Bool (e marks)) [
  | inl here ↦ rw here (and_from _ _ here (all-filter e set))
  | inr out ↦ rw out (all-filter e set)
]

-- whether a condition passes the second test if the first
abbrev pub if_then : (List Mark → Bool) → (List Mark → Bool) → List Mark → Bool
if_then e p marks = not (e marks) || p marks

pub all-if_then : (e p : List Mark → Bool) (set : List (List Mark)) → list_all p (filter e set) ≡ true → list_all (if_then e p) set ≡ true
all-if_then e p [] h = refl
all-if_then e p (marks ∷ set) h = elim (cases_Bool (e marks)) [
  | inl here ↦
      let k : (p marks && list_all p (filter e set)) ≡ true = rw here at h in
      rw here (let parts = and_parts _ _ k in and_from _ _ parts.0 (all-if_then e p set parts.1))
  | inr out ↦ let k : list_all p (filter e set) ≡ true = rw out at h in rw out (all-if_then e p set k)
]

pub if_then-all : (e p : List Mark → Bool) (set : List (List Mark)) → list_all e set ≡ true → list_all (if_then e p) set ≡ true → list_all p set ≡ true
if_then-all e p [] h k = refl
if_then-all e p (marks ∷ set) h k =
    let e_parts = and_parts (e marks) (list_all e set) h in
    let p_parts = and_parts (if_then e p marks) (list_all (if_then e p) set) k in
    let here : p marks ≡ true = rw e_parts.0 at p_parts.0 in
    and_from _ _ here (if_then-all e p set e_parts.1 p_parts.1)

-- A part all of which passes a test is a part of what passes it.
pub part-filter : (e : List Mark → Bool) (part set : List (List Mark)) → IsPart part set → list_all e part ≡ true → IsPart part (filter e set)
part-filter e part set within all p h = if_then-all e p part all (within (if_then e p) (all-if_then e p set h))

pub even-all : (c : ℕ) (set : List (List Mark)) → EvenAt set c → list_all (is_even_at c) set ≡ true
even-all c set h = all-each (is_even_at c) set (λ it stands. neither (mark_at it c)
    (not-true _ (it-passes (λ m. not (loss_at c m)) it set stands (all-none (loss_at c) set h.no_loss)))
    (not-true _ (it-passes (λ m. not (win_at c m)) it set stands (all-none (win_at c) set h.no_win))))

pub all-even : (c : ℕ) (set : List (List Mark)) → list_all (is_even_at c) set ≡ true → EvenAt set c
all-even c set h = record {
  no_loss = none-all (loss_at c) set (all-each (λ m. not (loss_at c m)) set (λ it stands. ap not (even-not-loss _ (it-passes (is_even_at c) it set stands h))));
  no_win = none-all (win_at c) set (all-each (λ m. not (win_at c m)) set (λ it stands. ap not (even-not-win _ (it-passes (is_even_at c) it set stands h))));
}
