-- A schedule is a run of the machine, and a number has one.
use Rattle.std.proofs.Common.{◌≡◌, ℕ, List, [], ◌∷◌, Some, refl, sym, ◌∙◌, ap, subst, length}
use Rattle.std.specs.Prelude.{slice_get}
use Rattle.number_draws.specs.Draws.{drawn_below, next_state}
use Rattle.ot_theory.specs.Problems.{Problem}
use Rattle.search_machine.specs.Machine.{LeadAll, Leads, State, start}
use Rattle.search_machine.specs.declared.step.Step.{Step}
use Rattle.search_machine.proofs.OneAfter.{one-after}
use Rattle.search_schedule.specs.Schedules.{AreDrawn, IsDrawn, IsRunOf, enabled_steps, learns_among}

drawn-lead : (problem : Problem) (places draws : ℕ) (before : State) (steps : List Step) (last : ℕ) (after : State) → AreDrawn problem places draws before steps last after → LeadAll problem places before steps after
drawn-lead problem places draws before [] last after a = a.1
drawn-lead problem places draws before (step ∷ steps) last after a = (a.0, a.2, drawn-lead problem places (next_state draws) a.0 steps last after a.3)

pub run-leads : (problem : Problem) (workers places number : ℕ) (state : State) (learns : ℕ) (run : IsRunOf problem workers places number state learns) → LeadAll problem places (start workers) run.steps state
run-leads problem workers places number state learns run = drawn-lead problem places number (start workers) run.steps run.last state run.drawn

none-drawn : (draws : ℕ) (state : State) (step : Step) → enabled_steps state ≡ [] → IsDrawn draws state step → ⊥
none-drawn draws state step none d =
    let e : slice_get (let no : List Step = [] in no) (drawn_below (length (let no : List Step = [] in no)) draws) ≡ Some step = subst (λ (l : List Step). slice_get l (drawn_below (length l) draws) ≡ Some step) none d in
    absurd (cc)

one-drawn : (draws : ℕ) (state : State) (step other : Step) → IsDrawn draws state step → IsDrawn draws state other → step ≡ other
one-drawn draws state step other a b = let e : Some step ≡ Some other = sym a ∙ b in cc

one-run : (problem : Problem) (places draws : ℕ) (before : State) (steps others : List Step) (last final : ℕ) (after finish : State) → AreDrawn problem places draws before steps last after → AreDrawn problem places draws before others final finish
    → enabled_steps after ≡ [] → enabled_steps finish ≡ [] → (steps ≡ others) × (after ≡ finish)
one-run problem places draws before [] [] last final after finish a b e f = (refl, a.1 ∙ sym b.1)
one-run problem places draws before [] (other ∷ others) last final after finish a b e f = absurd (none-drawn draws before other (ap enabled_steps (sym a.1) ∙ e) b.1)
one-run problem places draws before (step ∷ steps) [] last final after finish a b e f = absurd (none-drawn draws before step (ap enabled_steps (sym b.1) ∙ f) a.1)
one-run problem places draws before (step ∷ steps) (other ∷ others) last final after finish a b e f =
    let same : step ≡ other = one-drawn draws before step other a.1 b.1 in
    let between : a.0 ≡ b.0 = one-after problem places before other a.0 b.0 (subst (λ (s : Step). Leads problem places before s a.0) same a.2) b.2 in
    let rest = one-run problem places (next_state draws) b.0 steps others last final after finish (subst (λ (s : State). AreDrawn problem places (next_state draws) s steps last after) between a.3) b.3 e f in
    (ap (λ s. s ∷ steps) same ∙ ap (λ l. other ∷ l) rest.0, rest.1)

pub one-state : (problem : Problem) (workers places number : ℕ) (state other : State) (learns count : ℕ) → IsRunOf problem workers places number state learns → IsRunOf problem workers places number other count → state ≡ other
one-state problem workers places number state other learns count a b = (one-run problem places number (start workers) a.steps b.steps a.last b.last state other a.drawn b.drawn a.ended b.ended).1

pub one-count : (problem : Problem) (workers places number : ℕ) (state other : State) (learns count : ℕ) → IsRunOf problem workers places number state learns → IsRunOf problem workers places number other count → learns ≡ count
one-count problem workers places number state other learns count a b =
    let same = (one-run problem places number (start workers) a.steps b.steps a.last b.last state other a.drawn b.drawn a.ended b.ended).0 in
    a.counted ∙ ap learns_among same ∙ sym b.counted
