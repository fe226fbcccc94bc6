use Rattle.std.proofs.Common.{◌+◌, ◌≤◌, length, inl, inr, arith}
use Rattle.std.proofs.lemmas.Bool.Decides.{eqb_tells}
use Rattle.std.proofs.lemmas.List.Sums.{count_by-le-length}
use Rattle.ot_theory.specs.Rankings.{count_of}
use Rattle.ot_theory.proofs.Orders.{kept-satisfied}
use Rattle.ot_theory.proofs.Demotion.{counted-none}
use Rattle.biased_demotion.proofs.Rounds.{IsBiasedRound, AreBiasedRounds-none, AreBiasedRounds-more, IsBiased-rounds, Satisfies-rounds, hopeless-idle, some_placed}
use Rattle.biased_demotion.proofs.strata.place_in_rounds.Goals as goal

pub loop-round-init : goal.loop-round-init
loop-round-init c =
    let few : count_of 0 c.args.levels.now ≤ length c.args.levels.now = count_by-le-length _ _ in
    record { rounds = AreBiasedRounds-none _ _ _ c.requires.same c.requires.unplaced; few = omega (arith, c.requires.same, few) }

pub loop-round-preserved : goal.loop-round-preserved
loop-round-preserved c =
    let round : IsBiasedRound c.args.faith.now c.args.set.now (c.loop-round.round + 1) c.next_stratum-stratum.result c.loop-round.levels c.place.new.levels = record {
      long = c.loop-round.invariant.rounds.width;
      same = c.place.auto.levels;
      free = c.next_stratum-stratum.ensures.free;
      each = c.place.ensures.each;
    } in
    record {
      rounds = AreBiasedRounds-more _ _ _ _ _ _ round c.loop-round.invariant.rounds (c.next_stratum-stratum.ensures.next (omega (arith, c.if-stratum-eq0.false)));
      few = elim (eqb_tells c.place.result 0) [
        | inl none ↦ absurd (some_placed _ _ _ _ _ _ (omega arith) (omega arith) c.if-stratum-eq0.false round (c.place.ensures.idle none.1))
        | inr some ↦ omega (arith, some.1, c.place.ensures.counted, c.loop-round.invariant.few)
      ];
    }

pub returns-then-stratum-eq0-clause-strata : goal.returns-then-stratum-eq0-clause-strata
returns-then-stratum-eq0-clause-strata c = IsBiased-rounds _ _ _ _ c.loop-round.invariant.rounds

pub returns-then-stratum-eq0-clause-satisfied : goal.returns-then-stratum-eq0-clause-satisfied
returns-then-stratum-eq0-clause-satisfied c = Satisfies-rounds _ _ _ _ c.requires.widths c.loop-round.invariant.rounds

pub returns-then-stratum-eq0-clause-kept : goal.returns-then-stratum-eq0-clause-kept
returns-then-stratum-eq0-clause-kept c = λ all. kept-satisfied _ _ _ c.requires.widths (Satisfies-rounds _ _ _ _ c.requires.widths c.loop-round.invariant.rounds all)

pub returns-then-stratum-eq0-clause-stuck : goal.returns-then-stratum-eq0-clause-stuck
returns-then-stratum-eq0-clause-stuck c = hopeless-idle _ _ _ c.loop-round.invariant.rounds.width (c.next_stratum-stratum.ensures.none c.if-stratum-eq0.true)

pub returns-clause-strata : goal.returns-clause-strata
returns-clause-strata c = IsBiased-rounds _ _ _ _ c.loop-round.invariant.rounds

pub returns-clause-satisfied : goal.returns-clause-satisfied
returns-clause-satisfied c = Satisfies-rounds _ _ _ _ c.requires.widths c.loop-round.invariant.rounds

pub returns-clause-kept : goal.returns-clause-kept
returns-clause-kept c = λ all. kept-satisfied _ _ _ c.requires.widths (Satisfies-rounds _ _ _ _ c.requires.widths c.loop-round.invariant.rounds all)

pub returns-clause-stuck : goal.returns-clause-stuck
returns-clause-stuck c = λ h. absurd (counted-none _ (omega (arith, c.loop-round.invariant.few, c.loop-round.invariant.rounds.width, c.loop-round.auto.levels, c.requires.same)) h)
