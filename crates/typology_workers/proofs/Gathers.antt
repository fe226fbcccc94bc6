-- What the gatherer settles, one prefix after another, and that it ends.
use Rattle.std.proofs.Common.{◌≡◌, ℕ, zero, suc, ◌+◌, ◌-◌, ◌<◌, List, [], ◌∷◌, ◌++◌, arith, refl, sym, ◌∙◌, ap, subst, inl, inr, map, flat_map, length, get_or, append_assoc, length-append}
use Rattle.std.specs.Prelude.{All, Some}
use Rattle.std.specs.List.{sum_by}
use Rattle.std.proofs.lemmas.Bool.Decides.{eqb_tells}
use Rattle.std.proofs.lemmas.List.{map-append, append-nil, get_or_default}
use Rattle.std.proofs.lemmas.List.Elements.{All-append, All-cons, All-head, All-map, All-nil, All-pop, All-push, All-tail}
use Rattle.std.proofs.lemmas.List.Sums.{sum_by-append, sum_by-cons, sum_by_push}
use Rattle.ot_theory.specs.Languages.{classes_at}
use Rattle.ot_theory.specs.Problems.{Problem}
use Rattle.ot_theory.specs.Rankings.{numbers_below}
use Rattle.search_deeds.specs.Deeds as theory
use Rattle.search_deeds.specs.Deeds.{AreHonest, IsTrueOf, children, opened_by, times}
use Rattle.search_deeds.specs.Deeds.Fate.{Opened, Language, Cut}
use Rattle.search_deeds.specs.Gathered.{deed_of, deeds_in, fate_of}
use Rattle.search_deeds.specs.declared.deed.Deed.{Deed}
use Rattle.search_deeds.specs.declared.deed.Fate as program
use Rattle.search_deeds.proofs.Counts.{times-append, times-cons}
use Rattle.search_deeds.proofs.Children.{IsPrefix-children}
use Rattle.search_machine.specs.Findings.{IsJudged, fate_for}
use Rattle.refutation.specs.declared.judging.Finding.{Finding}
use Rattle.refutation.specs.declared.judging.Finding.TheVariants.{Holds, Refuted}
use Rattle.typology_workers.specs.FoundSearch.{ExtendsOne}
use Rattle.typology_workers.specs.Gatherings.{SettlesAll, SettlesOne, SettlesSome}
use Rattle.typology_workers.specs.Settled.{prefixes_of}
use Rattle.typology_workers.specs.declared.gatherer.Gatherer.{Gatherer}
use Rattle.typology_workers.proofs.Tallies.{born, born-one, times-born, times-prefixes}
use Rattle.violation_profiles.specs.WellFormed.{IsPrefix}

abbrev deed_with : List ℕ → program.Fate → Deed
deed_with prefix fate = record { prefix = prefix; fate = fate }

-- What extends one of some prefixes.

pub extends-itself : (before : List (List ℕ)) → All (ExtendsOne before) before
extends-itself before k d lt = (k, get_or before k d, lt, get_or_default before k (get_or before k d) d lt, record { rest = []; whole = sym (append-nil (get_or before k d)) })

pub extends-more : (before : List (List ℕ)) (prefix more : List ℕ) → ExtendsOne before prefix → ExtendsOne before (prefix ++ more)
extends-more before prefix more h = (h.0, h.1, h.2, h.3, record { rest = h.4.rest ++ more; whole = ap (λ (l : List ℕ). l ++ more) h.4.whole ∙ append_assoc h.1 h.4.rest more })

extends-children : (problem : Problem) (before : List (List ℕ)) (prefix : List ℕ) (classes : List ℕ) → ExtendsOne before prefix → All (ExtendsOne before) (map (λ a. prefix ++ a ∷ []) classes)
extends-children problem before prefix classes h = All-map (ExtendsOne before) (λ a. prefix ++ a ∷ []) classes (λ k d lt. extends-more before prefix (get_or classes k d ∷ []) h)

extends-opened : (problem : Problem) (before : List (List ℕ)) (prefix : List ℕ) (fate : theory.Fate) → ExtendsOne before prefix → All (ExtendsOne before) (flat_map (children problem) (opened_by prefix fate))
extends-opened problem before prefix Opened h = rw (append-nil (children problem prefix)) (extends-children problem before prefix (numbers_below (length (classes_at problem (length prefix)))) h)
extends-opened problem before prefix (Language levels) h = All-nil (ExtendsOne before)
extends-opened problem before prefix (Cut terms) h = All-nil (ExtendsOne before)

pub opened-prefixes : (problem : Problem) (prefix : List ℕ) (fate : theory.Fate) → IsPrefix problem prefix → IsTrueOf problem prefix fate → All (IsPrefix problem) (flat_map (children problem) (opened_by prefix fate))
opened-prefixes problem prefix Opened p t = rw (append-nil (children problem prefix)) (IsPrefix-children problem prefix p t.1)
opened-prefixes problem prefix (Language levels) p t = All-nil (IsPrefix problem)
opened-prefixes problem prefix (Cut terms) p t = All-nil (IsPrefix problem)

-- What demotion finds of a prefix is true of it.
pub true-for : (problem : Problem) (prefix : List ℕ) (finding : Finding) → IsPrefix problem prefix → IsJudged problem prefix finding → IsTrueOf problem prefix (fate_of (fate_for problem prefix finding))
true-for problem prefix (Holds levels) p h = elim (eqb_tells (length prefix) (length problem.inputs)) [
  | inl full ↦ rw full.0 (h.0, full.1, h.1)
  | inr shorter ↦ rw shorter.0 (h.0, omega (arith, shorter.1, p.short))
]
true-for problem prefix (Refuted found) p h = (h.2, h.3)

-- One prefix more is settled.

pub settles-more : (problem : Problem) (before : List (List ℕ)) (deeds : List Deed) (waiting : List (List ℕ)) (prefix : List ℕ) (old new : Gatherer) (s : SettlesOne problem prefix old new)
    → SettlesSome problem before deeds waiting
    → ((p : List ℕ) → times p waiting ≡ times p (prefix ∷ old.waiting.items)) → All (IsPrefix problem) (prefix ∷ old.waiting.items) → All (ExtendsOne before) (prefix ∷ old.waiting.items)
    → SettlesSome problem before (deeds ++ deed_with prefix s.fate ∷ []) new.waiting.items
settles-more problem before deeds waiting prefix old new s h same prefixes extend =
    let deed : Deed = deed_with prefix s.fate in
    let opens : List (List ℕ) = flat_map (children problem) (opened_by prefix (fate_of s.fate)) in
    let here = All-head (IsPrefix problem) prefix old.waiting.items prefixes in
    record {
      honest = rw (map-append deed_of deeds (deed ∷ [])) (All-push (λ (d : theory.Deed). IsTrueOf problem d.prefix d.fate) (deeds_in deeds) (deed_of deed) h.honest s.is_true);
      each = λ p.
          let after = ap (times p) s.waiting ∙ times-append p old.waiting.items opens in
          omega (
            arith,
            times-append p (prefixes_of (deeds ++ deed ∷ [])) new.waiting.items,
            times-prefixes p deeds (deed ∷ []),
            after,
            times-append p before (born problem (deeds ++ deed ∷ [])),
            times-born problem p deeds (deed ∷ []),
            ap (times p) (born-one problem deed),
            h.each p,
            times-append p (prefixes_of deeds) waiting,
            times-append p before (born problem deeds),
            same p,
            times-cons p prefix old.waiting.items,
            times-cons p prefix [],
          );
      prefixes = rw s.waiting (All-append (IsPrefix problem) old.waiting.items opens (All-tail (IsPrefix problem) prefix old.waiting.items prefixes) (opened-prefixes problem prefix (fate_of s.fate) here s.is_true));
      waiting = rw s.waiting (All-append (ExtendsOne before) old.waiting.items opens (All-tail (ExtendsOne before) prefix old.waiting.items extend) (extends-opened problem before prefix (fate_of s.fate) (All-head (ExtendsOne before) prefix old.waiting.items extend)));
      settled = All-push (λ (d : Deed). ExtendsOne before d.prefix) deeds deed h.settled (All-head (ExtendsOne before) prefix old.waiting.items extend);
    }

pub settles-none : (problem : Problem) (before : List (List ℕ)) → All (IsPrefix problem) before → SettlesSome problem before [] before
settles-none problem before prefixes = record {
  honest = All-nil (λ (d : theory.Deed). IsTrueOf problem d.prefix d.fate);
  each = λ p. ap (times p) (sym (append-nil before));
  prefixes = prefixes;
  waiting = extends-itself before;
  settled = All-nil (λ (d : Deed). ExtendsOne before d.prefix);
}

-- What waits weighs less after each deed: each prefix as much as there are prefixes that extend it.

unfoldable pub below : Problem → ℕ → List ℕ → ℕ
below problem zero prefix = 0
below problem (suc n) prefix = sum_by (λ child. below problem n child + 1) (children problem prefix)

abbrev pub weight_of : Problem → List ℕ → ℕ
weight_of problem prefix = below problem (length problem.inputs - length prefix) prefix + 1

abbrev pub weight : Problem → List (List ℕ) → ℕ
weight problem waiting = sum_by (weight_of problem) waiting

children-weigh : (problem : Problem) (n : ℕ) (prefix classes : List ℕ) → n + 1 + length prefix ≡ length problem.inputs
    → sum_by (λ child. below problem n child + 1) (map (λ a. prefix ++ a ∷ []) classes) ≡ weight problem (map (λ a. prefix ++ a ∷ []) classes)
children-weigh problem n prefix [] e = refl
children-weigh problem n prefix (a ∷ classes) e =
    let child : List ℕ = prefix ++ a ∷ [] in
    let left : n ≡ length problem.inputs - length child = omega (arith, length-append prefix (a ∷ [])) in
    omega (
      arith,
      sum_by-cons (λ (c : List ℕ). below problem n c + 1) child (map (λ a. prefix ++ a ∷ []) classes),
      sum_by-cons (weight_of problem) child (map (λ a. prefix ++ a ∷ []) classes),
      ap (λ k. below problem k child) left,
      children-weigh problem n prefix classes e,
    )

opened-weigh : (problem : Problem) (n : ℕ) (prefix : List ℕ) → n + 1 + length prefix ≡ length problem.inputs → weight problem (children problem prefix) < weight_of problem prefix
unfolding below
opened-weigh problem n prefix e =
    let left : length problem.inputs - length prefix ≡ suc n = omega arith in
    omega (arith, children-weigh problem n prefix (numbers_below (length (classes_at problem (length prefix)))) e, ap (λ k. below problem k prefix) left)

fate-lighter : (problem : Problem) (prefix : List ℕ) (fate : theory.Fate) → IsTrueOf problem prefix fate → weight problem (flat_map (children problem) (opened_by prefix fate)) < weight_of problem prefix
fate-lighter problem prefix Opened h =
    let e = opened-weigh problem (length problem.inputs - length prefix - 1) prefix (let short = h.1 in omega arith) in
    rw (append-nil (children problem prefix)) e
fate-lighter problem prefix (Language levels) h = omega arith
fate-lighter problem prefix (Cut terms) h = omega arith

pub settled-lighter : (problem : Problem) (prefix : List ℕ) (old new : Gatherer) → SettlesOne problem prefix old new → weight problem new.waiting.items < weight problem (prefix ∷ old.waiting.items)
settled-lighter problem prefix old new s =
    omega (
      arith,
      ap (weight problem) s.waiting ∙ sum_by-append (weight_of problem) old.waiting.items (flat_map (children problem) (opened_by prefix (fate_of s.fate))),
      sum_by-cons (weight_of problem) prefix old.waiting.items,
      fate-lighter problem prefix (fate_of s.fate) s.is_true,
    )

-- The gatherer has settled some of what waited at first.
pub record HasSettledSome (problem : Problem) (first now : Gatherer) : Type 0 where
  pub more : List Deed
  pub whole : now.deeds ≡ first.deeds ++ more
  pub settled : SettlesSome problem first.waiting.items more now.waiting.items

pub some-settled-first : (problem : Problem) (first : Gatherer) → All (IsPrefix problem) first.waiting.items → HasSettledSome problem first first
some-settled-first problem first prefixes = record { more = []; whole = sym (append-nil first.deeds); settled = settles-none problem first.waiting.items prefixes }

pub some-settled-more : (problem : Problem) (first now taken new : Gatherer) (prefix : List ℕ) → HasSettledSome problem first now → taken.deeds ≡ now.deeds → now.waiting.items ≡ taken.waiting.items ++ prefix ∷ [] → SettlesOne problem prefix taken new
    → HasSettledSome problem first new
some-settled-more problem first now taken new prefix h kept w s =
    let deed : Deed = deed_with prefix s.fate in
    let fits = All-pop (IsPrefix problem) now.waiting.items taken.waiting.items (Some prefix) w h.settled.prefixes in
    let extend = All-pop (ExtendsOne first.waiting.items) now.waiting.items taken.waiting.items (Some prefix) w h.settled.waiting in
    record {
      more = h.more ++ deed ∷ [];
      whole = s.deeds ∙ ap (λ l. l ++ deed ∷ []) (kept ∙ h.whole) ∙ append_assoc first.deeds h.more (deed ∷ []);
      settled = settles-more problem first.waiting.items h.more now.waiting.items prefix taken new s h.settled
          (λ p. omega (arith, ap (times p) w, times-append p taken.waiting.items (prefix ∷ []), times-cons p prefix [], times-cons p prefix taken.waiting.items))
          (All-cons (IsPrefix problem) prefix taken.waiting.items fits.1 fits.0)
          (All-cons (ExtendsOne first.waiting.items) prefix taken.waiting.items extend.1 extend.0);
    }

pub settled-lighter-back : (problem : Problem) (prefix : List ℕ) (now taken new : Gatherer) → now.waiting.items ≡ taken.waiting.items ++ prefix ∷ [] → SettlesOne problem prefix taken new → weight problem new.waiting.items < weight problem now.waiting.items
settled-lighter-back problem prefix now taken new w s =
    omega (
      arith,
      settled-lighter problem prefix taken new s,
      ap (weight problem) w ∙ sum_by_push (weight_of problem) taken.waiting.items prefix,
      sum_by-cons (weight_of problem) prefix taken.waiting.items,
    )

pub all-settled : (problem : Problem) (first now : Gatherer) → HasSettledSome problem first now → now.waiting.items ≡ [] → SettlesAll problem first now.deeds
all-settled problem first now h none = record { more = h.more; whole = h.whole; settled = subst (SettlesSome problem first.waiting.items h.more) none h.settled }
