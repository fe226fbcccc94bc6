-- A step leads to one state alone, and so does a list of steps.
use Rattle.std.proofs.Common.{◌≡◌, ℕ, ◌≤◌, List, [], ◌∷◌, not, arith, refl, sym, ◌∙◌, ap, subst, get_or}
use Rattle.std.proofs.lemmas.Grind.{same_number_lists}
use Rattle.ot_theory.specs.Hierarchies.{IsLeastHierarchy}
use Rattle.ot_theory.specs.declared.Mark as marks
use Rattle.ot_theory.specs.Problems.{Problem}
use Rattle.search_deeds.specs.Deeds.{Fate}
use Rattle.search_deeds.specs.Deeds.Fate.{Opened, Language, Cut}
use Rattle.search_machine.specs.Machine.{IsFate, LeadAll, Leads, Mark, State, is_unknown, settled}
use Rattle.search_machine.specs.Machine.Mark.{Unknown, Open, Refuted}
use Rattle.search_machine.specs.declared.step.Step.{Step}
use Rattle.search_machine.specs.declared.step.Step.TheVariants.{Take, Steal, Consult, Learn, Settle, Put}
use Rattle.search_machine.proofs.Slots.{Holds-from}

-- A set has one least hierarchy.
one-least : (n : ℕ) (set : List (List marks.Mark)) (levels other : List ℕ) → IsLeastHierarchy n set levels → IsLeastHierarchy n set other → levels ≡ other
one-least n set levels other a b =
    same_number_lists levels other (a.satisfying.width ∙ sym b.satisfying.width)
    (λ k below. let up : get_or levels k 0 ≤ get_or other k 0 = a.least other b.satisfying k in let down : get_or other k 0 ≤ get_or levels k 0 = b.least levels a.satisfying k in omega arith)

one-fate : (problem : Problem) (prefix : List ℕ) (mark : Mark) (fate other : Fate) → IsFate problem prefix mark fate → IsFate problem prefix mark other → fate ≡ other
one-fate problem prefix Unknown fate other a b = absurd a
one-fate problem prefix (Refuted terms) fate other a b = a ∙ sym b
one-fate problem prefix Open Opened Opened a b = refl
one-fate problem prefix Open Opened (Language levels) a b = absurd (omega (arith, a, b.0))
one-fate problem prefix Open Opened (Cut terms) a b = absurd b
one-fate problem prefix Open (Language levels) Opened a b = absurd (omega (arith, a.0, b))
one-fate problem prefix Open (Language levels) (Language others) a b = ap Language (one-least _ _ levels others a.1 b.1)
one-fate problem prefix Open (Language levels) (Cut terms) a b = absurd b
one-fate problem prefix Open (Cut terms) other a b = absurd a

pub one-after : (problem : Problem) (places : ℕ) (before : State) (step : Step) (after other : State) → Leads problem places before step after → Leads problem places before step other → after ≡ other
one-after problem places before (Take w) after other a b = a.made ∙ sym b.made
one-after problem places before (Steal w v) after other a b = a.made ∙ sym b.made
one-after problem places before (Consult w) after other a b = a.made ∙ sym b.made
one-after problem places before (Learn w) after other a b = a.made ∙ sym b.made
one-after problem places before (Settle w) after other a b =
    let h = Holds-from (λ hand. not (is_unknown hand.mark)) before.hands w a.enabled in
    let same : a.made.0 ≡ b.made.0 = one-fate problem h.hand.prefix h.hand.mark a.made.0 b.made.0 (a.made.1 h.hand h.here) (b.made.1 h.hand h.here) in
    a.made.2 ∙ ap (settled problem before w) same ∙ sym b.made.2
one-after problem places before (Put w) after other a b = a.made ∙ sym b.made

pub one-run : (problem : Problem) (places : ℕ) (before : State) (steps : List Step) (after other : State) → LeadAll problem places before steps after → LeadAll problem places before steps other → after ≡ other
one-run problem places before [] after other a b = a ∙ sym b
one-run problem places before (step ∷ steps) after other a b =
    let same : a.0 ≡ b.0 = one-after problem places before step a.0 b.0 a.1 b.1 in
    one-run problem places b.0 steps after other (subst (λ (s : State). LeadAll problem places s steps after) same a.2) b.2
