-- The run of one worker is a run of the machine, and there is one.
use Rattle.std.proofs.Common.{◌≡◌, ℕ, List, [], ◌∷◌, ◌++◌, true, false, refl, sym, ◌∙◌, ap, subst, flat_map}
use Rattle.ot_theory.specs.Problems.{Problem}
use Rattle.search_machine.specs.Machine.{LeadAll, Leads, State, start}
use Rattle.search_machine.specs.declared.step.Step.{Step}
use Rattle.search_machine.specs.declared.step.Step.TheVariants.{Take, Consult, Learn, Settle, Put}
use Rattle.search_machine.proofs.OneAfter.{one-after}
use Rattle.search_schedule.specs.Schedules.{learns_among}
use Rattle.typology_core.specs.Rounds.{AreRounds, IsLoneRun, IsMadeWhereEnabled, IsRepeated, IsRound}

no : {X : Type 0} → true ≡ false → X
no e = absurd (cc)

one-repeated : (problem : Problem) (places : ℕ) (step : Step) (before : State) (steps others : List Step) (after finish : State) → IsRepeated problem places step before steps after → IsRepeated problem places step before others finish
    → (steps ≡ others) × (after ≡ finish)
one-repeated problem places step before [] [] after finish a b = (refl, a.1 ∙ sym b.1)
one-repeated problem places step before [] (other ∷ others) after finish a b = no (sym b.2.enabled ∙ a.0)
one-repeated problem places step before (next ∷ steps) [] after finish a b = no (sym a.2.enabled ∙ b.0)
one-repeated problem places step before (next ∷ steps) (other ∷ others) after finish a b =
    let between : a.1 ≡ b.1 = one-after problem places before step a.1 b.1 a.2 b.2 in
    let rest = one-repeated problem places step b.1 steps others after finish (subst (λ (s : State). IsRepeated problem places step s steps after) between a.3) b.3 in
    (ap (λ s. s ∷ steps) (a.0 ∙ sym b.0) ∙ ap (λ l. other ∷ l) rest.0, rest.1)

one-made : (problem : Problem) (places : ℕ) (step : Step) (before : State) (steps others : List Step) (after finish : State) → IsMadeWhereEnabled problem places step before steps after → IsMadeWhereEnabled problem places step before others finish
    → (steps ≡ others) × (after ≡ finish)
one-made problem places step before [] [] after finish a b = (refl, a.1 ∙ sym b.1)
one-made problem places step before [] (other ∷ others) after finish a b = no (sym b.2.enabled ∙ a.0)
one-made problem places step before (next ∷ steps) [] after finish a b = no (sym a.2.enabled ∙ b.0)
one-made problem places step before (next ∷ steps) (other ∷ others) after finish a b =
    (ap (λ s. s ∷ steps) (a.0 ∙ sym b.0) ∙ ap (λ l. other ∷ l) (a.1 ∙ sym b.1), one-after problem places before step after finish a.2 b.2)

one-round : (problem : Problem) (places : ℕ) (before : State) (steps others : List Step) (after finish : State) → IsRound problem places before steps after → IsRound problem places before others finish
    → (steps ≡ others) × (after ≡ finish)
one-round problem places before steps others after finish a b =
    let taken : a.taken ≡ b.taken = one-after problem places before (Take 0) a.taken b.taken a.take b.take in
    let consulted = one-repeated problem places (Consult 0) b.taken a.consults b.consults a.consulted b.consulted (subst (λ (s : State). IsRepeated problem places (Consult 0) s a.consults a.consulted) taken a.consult) b.consult in
    let learnt = one-made problem places (Learn 0) b.consulted a.learns b.learns a.learnt b.learnt (subst (λ (s : State). IsMadeWhereEnabled problem places (Learn 0) s a.learns a.learnt) consulted.1 a.learn) b.learn in
    let settled : a.settled ≡ b.settled = one-after problem places b.learnt (Settle 0) a.settled b.settled (subst (λ (s : State). Leads problem places s (Settle 0) a.settled) learnt.1 a.settle) b.settle in
    let put = one-repeated problem places (Put 0) b.settled a.puts b.puts after finish (subst (λ (s : State). IsRepeated problem places (Put 0) s a.puts after) settled a.put) b.put in (
      a.whole
          ∙ ap (λ (l : List Step). Take 0 ∷ l ++ (a.learns ++ Settle 0 ∷ a.puts)) consulted.0
          ∙ ap (λ (l : List Step). Take 0 ∷ b.consults ++ (l ++ Settle 0 ∷ a.puts)) learnt.0
          ∙ ap (λ (l : List Step). Take 0 ∷ b.consults ++ (b.learns ++ Settle 0 ∷ l)) put.0
          ∙ sym b.whole,
      put.1,
    )

one-list : (problem : Problem) (places : ℕ) (before : State) (rounds others : List (List Step)) (after finish : State) → AreRounds problem places before rounds after → AreRounds problem places before others finish
    → (rounds ≡ others) × (after ≡ finish)
one-list problem places before [] [] after finish a b = (refl, a.1 ∙ sym b.1)
one-list problem places before [] (other ∷ others) after finish a b = no (sym b.1.take.enabled ∙ a.0 (Take 0))
one-list problem places before (round ∷ rounds) [] after finish a b = no (sym a.1.take.enabled ∙ b.0 (Take 0))
one-list problem places before (round ∷ rounds) (other ∷ others) after finish a b =
    let first = one-round problem places before round other a.0 b.0 a.1 b.1 in
    let rest = one-list problem places b.0 rounds others after finish (subst (λ (s : State). AreRounds problem places s rounds after) first.1 a.2) b.2 in
    (ap (λ s. s ∷ rounds) first.0 ∙ ap (λ l. other ∷ l) rest.0, rest.1)

pub one-lone-state : (problem : Problem) (places : ℕ) (state other : State) (learns count : ℕ) → IsLoneRun problem places state learns → IsLoneRun problem places other count → state ≡ other
one-lone-state problem places state other learns count a b = (one-list problem places (start 1) a.rounds b.rounds state other a.made b.made).1

pub one-lone-count : (problem : Problem) (places : ℕ) (state other : State) (learns count : ℕ) → IsLoneRun problem places state learns → IsLoneRun problem places other count → learns ≡ count
one-lone-count problem places state other learns count a b =
    let same = (one-list problem places (start 1) a.rounds b.rounds state other a.made b.made).0 in
    a.counted ∙ ap (λ (l : List (List Step)). learns_among (flat_map (λ round. round) l)) same ∙ sym b.counted

lead-append : (problem : Problem) (places : ℕ) (before : State) (steps more : List Step) (between after : State) → LeadAll problem places before steps between → LeadAll problem places between more after → LeadAll problem places before (steps ++ more) after
lead-append problem places before [] more between after a b = subst (λ (s : State). LeadAll problem places s more after) a b
lead-append problem places before (step ∷ steps) more between after a b = (a.0, a.1, lead-append problem places a.0 steps more between after a.2 b)

repeated-lead : (problem : Problem) (places : ℕ) (step : Step) (before : State) (steps : List Step) (after : State) → IsRepeated problem places step before steps after → LeadAll problem places before steps after
repeated-lead problem places step before [] after a = a.1
repeated-lead problem places step before (next ∷ steps) after a = (a.1, subst (λ (s : Step). Leads problem places before s a.1) (sym a.0) a.2, repeated-lead problem places step a.1 steps after a.3)

made-lead : (problem : Problem) (places : ℕ) (step : Step) (before : State) (steps : List Step) (after : State) → IsMadeWhereEnabled problem places step before steps after → LeadAll problem places before steps after
made-lead problem places step before [] after a = a.1
made-lead problem places step before (next ∷ steps) after a = (after, subst (λ (s : Step). Leads problem places before s after) (sym a.0) a.2, subst (λ (l : List Step). LeadAll problem places after l after) (sym a.1) refl)

round-leads : (problem : Problem) (places : ℕ) (before : State) (steps : List Step) (after : State) → IsRound problem places before steps after → LeadAll problem places before steps after
round-leads problem places before steps after a =
    subst (λ (l : List Step). LeadAll problem places before l after) (sym a.whole) (
      a.taken,
      a.take,
      lead-append problem places a.taken a.consults _ a.consulted after (repeated-lead problem places (Consult 0) a.taken a.consults a.consulted a.consult)
          (lead-append problem places a.consulted a.learns _ a.learnt after (made-lead problem places (Learn 0) a.consulted a.learns a.learnt a.learn)
          (a.settled, a.settle, repeated-lead problem places (Put 0) a.settled a.puts after a.put)),
    )

rounds-lead : (problem : Problem) (places : ℕ) (before : State) (rounds : List (List Step)) (after : State) → AreRounds problem places before rounds after → LeadAll problem places before (flat_map (λ round. round) rounds) after
rounds-lead problem places before [] after a = a.1
rounds-lead problem places before (round ∷ rounds) after a =
    lead-append problem places before round (flat_map (λ r. r) rounds) a.0 after (round-leads problem places before round a.0 a.1) (rounds-lead problem places a.0 rounds after a.2)

pub lone-leads : (problem : Problem) (places : ℕ) (state : State) (learns : ℕ) (run : IsLoneRun problem places state learns) → LeadAll problem places (start 1) (flat_map (λ round. round) run.rounds) state
lone-leads problem places state learns run = rounds-lead problem places (start 1) run.rounds state run.made
