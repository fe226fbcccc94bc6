-- Conditions that others imply, by their masks; and terms with one term more.
use Rattle.std.proofs.Common.{◌≡◌, ℕ, ◌+◌, ◌≤◌, List, [], ◌∷◌, ◌++◌, Bool, true, false, ◌==◌, ◌<◌, arith, refl, sym, ◌∙◌, ap, cond, max, min, map, length, take, get_or, append_assoc, inl, inr}
use Rattle.std.specs.Prelude.{bit_or}
use Rattle.std.specs.Int.{bit_at}
use Rattle.std.proofs.lemmas.Bool.Decides.{eqb_tells}
use Rattle.std.proofs.lemmas.List.{get_or-map, length-map, map-append, map_more, take_all}
use Rattle.std.proofs.lemmas.List.Elements.{All-append, All-nil, All-push}
use Rattle.std.proofs.lemmas.Nat.Bits.{bit_at_or, bit_at-zero}
use Rattle.ot_theory.specs.declared.Mark.{Mark}
use Rattle.ot_theory.specs.Conditions.{is_win, is_loss, mark_at}
use Rattle.ot_theory.specs.Problems.{Problem}
use Rattle.ot_theory.specs.Languages as theory
use Rattle.ot_theory.specs.Languages.{condition_of}
use Rattle.ot_theory.specs.Reductions.{IsStronger, IsImplied}
use Rattle.ot_theory.specs.Rankings.{numbers_below}
use Rattle.ot_theory.proofs.Terms.{numbers_below-more, term}
use Rattle.ot_theory.proofs.WinnerTerms.{terms_below, terms_below-other, terms_below-same}
use Rattle.ot_theory.proofs.Redundant.{IsImplied-lossless, IsReduced-append, IsReduced-push, IsReduced-same, IsReduced-trans, IsReduced-without}
use Rattle.erc_vectors.specs.Masks.{IsMask}
use Rattle.erc_vectors.proofs.Bits.{bit_false}
use Rattle.refutation.specs.declared.term.Term.{Term}
use Rattle.refutation.specs.declared.term.Term.TheVariants.{Loser}
use Rattle.refutation.specs.Terms.{term_of, terms_in}
use Rattle.refutation.specs.Asked.{AreAsked, Begins}

eqb-same : (m n : ℕ) → (m == n) ≡ true → m ≡ n
eqb-same m n h = elim (eqb_tells m n) [ inl same ↦ same.1 | inr other ↦ absurd (let no : true ≡ false = sym h ∙ other.0 in cc) ]

-- Where the one mask adds nothing to the other, the other has each bit of it.
within : (test : Mark → Bool) (xs ys : List Mark) (m n : ℕ) → IsMask test xs m → IsMask test ys n → bit_or m n ≡ n → (c : ℕ) → test (mark_at xs c) ≡ true → test (mark_at ys c) ≡ true
within test xs ys m n p q e c h =
    let set : bit_at m c ≡ 1 = p c ∙ ap (λ (t : Bool). cond t 1 0) h in
    let both : bit_at n c ≡ max (bit_at m c) (bit_at n c) = ap (λ (k : ℕ). bit_at k c) (sym e) ∙ bit_at_or m n c in
    by (test (mark_at ys c)) (q c) (omega (arith, set, both))
  where
    by : (t : Bool) → bit_at n c ≡ cond t 1 0 → 1 ≤ bit_at n c → t ≡ true
    by true e l = refl
    by false e l = absurd (omega arith)

pub stronger-masks : (marks weaker : List Mark) (w losses wins l : ℕ) → IsMask is_win marks w → IsMask is_loss marks losses → IsMask is_win weaker wins → IsMask is_loss weaker l → bit_or w wins ≡ wins → (bit_or l losses == losses) ≡ true → IsStronger marks weaker
stronger-masks marks weaker w losses wins l a b c d more h = record { wins = within is_win marks weaker w wins a c more; losses = within is_loss weaker marks l losses d b (eqb-same _ _ h) }

pub lossless-mask : (set : List (List Mark)) (marks : List Mark) (l : ℕ) → IsMask is_loss marks l → l ≡ 0 → IsImplied set marks
lossless-mask set marks l m none = IsImplied-lossless set marks (λ c. bit_false (bit_at l c) (is_loss (mark_at marks c)) (ap (λ (n : ℕ). bit_at n c) none ∙ bit_at-zero c) (m c))

pub Begins-push : {X : Type 0} (front list more : List X) (x : X) → Begins front list → more ≡ list ++ x ∷ [] → Begins front more
Begins-push front list more x b e = record { rest = b.rest ++ x ∷ []; whole = e ∙ ap (λ (l : List _). l ++ x ∷ []) b.whole ∙ append_assoc front b.rest (x ∷ []) }

pub Begins-trans : {X : Type 0} (front list more : List X) → Begins front list → Begins list more → Begins front more
Begins-trans front list more b c = record { rest = b.rest ++ c.rest; whole = c.whole ∙ ap (λ (l : List _). l ++ c.rest) b.whole ∙ append_assoc front b.rest c.rest }

-- one term more, which is kept
pub asked-pushed : (problem : Problem) (whole : List theory.Term) (terms more : List Term) (conditions next : List (List Mark)) (term : Term) (marks : List Mark) → marks ≡ condition_of problem (term_of term) → length marks ≡ problem.constraints → more ≡ terms ++ term ∷ [] → next ≡ conditions ++ marks ∷ []
    → AreAsked problem whole terms conditions → AreAsked problem (whole ++ term_of term ∷ []) more next
asked-pushed problem whole terms more conditions next term marks here wide e f asked =
    let those : terms_in more ≡ terms_in terms ++ term_of term ∷ [] = ap terms_in e ∙ map-append term_of terms (term ∷ []) in
    record {
      reduced = rw those (IsReduced-push problem whole (terms_in terms) (term_of term) asked.reduced);
      widths = rw f (All-push (λ (m : List Mark). length m ≡ problem.constraints) conditions marks asked.widths wide);
      each = f ∙ rw (asked.each, here) (sym (ap (map (condition_of problem)) those ∙ map-append (condition_of problem) (terms_in terms) (term_of term ∷ [])));
    }

-- one that the others imply
pub asked-implied : (problem : Problem) (whole : List theory.Term) (terms : List Term) (conditions : List (List Mark)) (term : Term) (marks : List Mark) → marks ≡ condition_of problem (term_of term) → IsImplied conditions marks
    → AreAsked problem whole terms conditions → AreAsked problem (whole ++ term_of term ∷ []) terms conditions
asked-implied problem whole terms conditions term marks here implied asked = record {
  reduced = IsReduced-without problem whole (terms_in terms) (term_of term) asked.reduced (rw (asked.each, here) at implied);
  widths = asked.widths;
  each = asked.each;
}

-- the terms over one class more
pub asked-other : (problem : Problem) (whole : List theory.Term) (i a b : ℕ) (t : theory.Term) (terms : List Term) (conditions : List (List Mark)) → (b == a) ≡ false → t ≡ term i a b → AreAsked problem ((whole ++ terms_below i a b) ++ t ∷ []) terms conditions → AreAsked problem (whole ++ terms_below i a (b + 1)) terms conditions
asked-other problem whole i a b t terms conditions other same h =
    rw (terms_below-other i a b other, ← same, ← append_assoc whole (terms_below i a b) (t ∷ [])) h

pub asked-same : (problem : Problem) (whole : List theory.Term) (i a b : ℕ) (terms : List Term) (conditions : List (List Mark)) → (b == a) ≡ true → AreAsked problem (whole ++ terms_below i a b) terms conditions → AreAsked problem (whole ++ terms_below i a (b + 1)) terms conditions
asked-same problem whole i a b terms conditions same h = rw (terms_below-same i a b same) h

pub asked-nothing : (problem : Problem) → AreAsked problem [] [] []
asked-nothing problem = record { reduced = IsReduced-same problem []; widths = All-nil (λ (marks : List Mark). length marks ≡ problem.constraints); each = refl }

-- one list of terms behind another one
pub asked-append : (problem : Problem) (whole others : List theory.Term) (terms these more : List Term) (conditions those next : List (List Mark)) → more ≡ terms ++ these → next ≡ conditions ++ those
    → AreAsked problem whole terms conditions → AreAsked problem others these those → AreAsked problem (whole ++ others) more next
asked-append problem whole others terms these more conditions those next e f asked other =
    let all : terms_in more ≡ terms_in terms ++ terms_in these = ap terms_in e ∙ map-append term_of terms these in
    record {
      reduced = rw all (IsReduced-append problem whole (terms_in terms) others (terms_in these) asked.reduced other.reduced);
      widths = rw f (All-append (λ (m : List Mark). length m ≡ problem.constraints) conditions those asked.widths other.widths);
      each = f ∙ rw (asked.each, other.each) (sym (ap (map (condition_of problem)) all ∙ map-append (condition_of problem) (terms_in terms) (terms_in these)));
    }

-- the terms of another list so far, and all of them
pub asked-whole : (problem : Problem) (whole others : List theory.Term) (these terms : List Term) (those conditions : List (List Mark)) → AreAsked problem others these those → AreAsked problem (whole ++ terms_in these) terms conditions
    → AreAsked problem (whole ++ others) terms conditions
asked-whole problem whole others these terms those conditions other h = record {
  reduced = IsReduced-trans problem (whole ++ others) (whole ++ terms_in these) (terms_in terms) (IsReduced-append problem whole whole others (terms_in these) (IsReduced-same problem whole) other.reduced) h.reduced;
  widths = h.widths;
  each = h.each;
}

-- the condition of a term of another list
condition-at : (problem : Problem) (others : List theory.Term) (these : List Term) (those : List (List Mark)) (k : ℕ) (d : Term) (e : List Mark) → AreAsked problem others these those → k < length those
    → (k < length these) × (get_or those k e ≡ condition_of problem (term_of (get_or these k d)))
condition-at problem others these those k d e other below =
    let long : length those ≡ length these = ap (λ (l : List (List Mark)). length l) other.each ∙ length-map (terms_in these) (condition_of problem) ∙ length-map these term_of in
    let within : k < length these = omega (arith, long) in (
      within,
      ap (λ (l : List (List Mark)). get_or l k e) other.each
          ∙ get_or-map (condition_of problem) (terms_in these) k (term_of d) e (omega (arith, length-map these term_of))
          ∙ ap (condition_of problem) (get_or-map term_of these k d (term_of d) within),
    )

fronts : (whole : List theory.Term) (these : List Term) (k : ℕ) (d : Term) → k < length these → (whole ++ terms_in (take k these)) ++ term_of (get_or these k d) ∷ [] ≡ whole ++ terms_in (take (k + 1) these)
fronts whole these k d below = append_assoc whole (terms_in (take k these)) (term_of (get_or these k d) ∷ []) ∙ ap (λ (l : List theory.Term). whole ++ l) (sym (map_more term_of these k d below))

-- one term more of another list, which is needed
pub asked-needed : (problem : Problem) (whole others : List theory.Term) (these terms more : List Term) (those conditions next : List (List Mark)) (k : ℕ) (term : Term) (marks : List Mark) → AreAsked problem others these those → k < length those
    → term ≡ get_or these k term → marks ≡ get_or those k marks → more ≡ terms ++ term ∷ [] → next ≡ conditions ++ marks ∷ []
    → AreAsked problem (whole ++ terms_in (take k these)) terms conditions → AreAsked problem (whole ++ terms_in (take (k + 1) these)) more next
asked-needed problem whole others these terms more those conditions next k term marks other below t m e f asked =
    let at = condition-at problem others these those k term marks other below in
    let here : marks ≡ condition_of problem (term_of term) = m ∙ at.1 ∙ ap (λ (u : Term). condition_of problem (term_of u)) (sym t) in
    let wide : length marks ≡ problem.constraints = ap (λ (l : List Mark). length l) m ∙ other.widths k marks below in
    rw (← fronts whole these k term at.0, ← t) (asked-pushed problem (whole ++ terms_in (take k these)) terms more conditions next term marks here wide e f asked)

-- and one that is not
pub asked-spared : (problem : Problem) (whole others : List theory.Term) (these terms : List Term) (those conditions : List (List Mark)) (k : ℕ) (d : Term) (marks : List Mark) → AreAsked problem others these those → k < length those
    → marks ≡ get_or those k marks → IsImplied conditions marks → AreAsked problem (whole ++ terms_in (take k these)) terms conditions → AreAsked problem (whole ++ terms_in (take (k + 1) these)) terms conditions
asked-spared problem whole others these terms those conditions k d marks other below m implied asked =
    let at = condition-at problem others these those k d marks other below in
    rw (← fronts whole these k d at.0) (asked-implied problem (whole ++ terms_in (take k these)) terms conditions (get_or these k d) marks (m ∙ at.1) implied asked)

pub asked-all : (problem : Problem) (whole others : List theory.Term) (these terms : List Term) (those conditions : List (List Mark)) (k : ℕ) → AreAsked problem others these those → min (length these) (length those) ≤ k
    → AreAsked problem (whole ++ terms_in (take k these)) terms conditions → AreAsked problem (whole ++ others) terms conditions
asked-all problem whole others these terms those conditions k other past h =
    let long : length those ≡ length these = ap (λ (l : List (List Mark)). length l) other.each ∙ length-map (terms_in these) (condition_of problem) ∙ length-map these term_of in
    asked-whole problem whole others these terms those conditions other (rw (take_all k these (omega (arith, long))) at h)

abbrev pub no_term : Term
no_term = Loser (record { 0 = 0 }) (record { 0 = 0 }) (record { 0 = 0 })

-- the given pairs, with one more
pub givens-more : (k : ℕ) → map theory.Given (numbers_below (k + 1)) ≡ map theory.Given (numbers_below k) ++ theory.Given k ∷ []
givens-more k = ap (map theory.Given) (numbers_below-more k) ∙ map-append theory.Given (numbers_below k) (k ∷ [])

pub asked-given : (problem : Problem) (whole : List theory.Term) (k : ℕ) (terms : List Term) (conditions : List (List Mark)) → AreAsked problem ((whole ++ map theory.Given (numbers_below k)) ++ theory.Given k ∷ []) terms conditions
    → AreAsked problem (whole ++ map theory.Given (numbers_below (k + 1))) terms conditions
asked-given problem whole k terms conditions h = rw (givens-more k, ← append_assoc whole (map theory.Given (numbers_below k)) (theory.Given k ∷ [])) h
