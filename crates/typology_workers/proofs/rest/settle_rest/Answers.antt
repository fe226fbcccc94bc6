-- Each prefix that is settled was the last of those that waited, and what waits weighs less after it.
use Rattle.std.proofs.Common.{arith, refl}
use Rattle.std.specs.Prelude.{Some}
use Rattle.std.proofs.lemmas.List.{nil_from_length}
use Rattle.std.proofs.lemmas.List.Elements.{All-pop}
use Rattle.typology_workers.proofs.Gathers.{all-settled, settled-lighter-back, some-settled-first, some-settled-more}
use Rattle.typology_workers.proofs.rest.settle_rest.Goals as goal
use Rattle.violation_profiles.specs.WellFormed.{IsPrefix}

pub loop-prefix-init : goal.loop-prefix-init
loop-prefix-init c = (some-settled-first c.args.p.now c.args.gatherer c.requires, c.in_ok-ready.ensures)

pub settle-requires-clause-prefix : goal.settle-requires-clause-prefix
settle-requires-clause-prefix c = (All-pop (IsPrefix c.args.p.now) c.loop-prefix.gatherer.waiting.items c.pop_back.new.self.items (Some c.in-Some.prefix) c.in-Some.ensures.items c.loop-prefix.invariant.0.settled.prefixes).1

pub loop-prefix-preserved : goal.loop-prefix-preserved
loop-prefix-preserved c = (
  some-settled-more c.args.p.now c.args.gatherer c.loop-prefix.gatherer (record { deeds = c.loop-prefix.gatherer.deeds; waiting = c.pop_back.new.self }) c.settle.new.gatherer c.in-Some.prefix c.loop-prefix.invariant.0 refl
      c.in-Some.ensures.items c.in_ok-settle.ensures.settles,
  c.settle.ensures.made,
)

pub loop-prefix-smaller : goal.loop-prefix-smaller
loop-prefix-smaller c =
    settled-lighter-back c.args.p.now c.in-Some.prefix c.loop-prefix.gatherer (record { deeds = c.loop-prefix.gatherer.deeds; waiting = c.pop_back.new.self }) c.settle.new.gatherer c.in-Some.ensures.items c.in_ok-settle.ensures.settles

pub returns : goal.returns
returns c = all-settled c.args.p.now c.args.gatherer c.loop-prefix.gatherer c.loop-prefix.invariant.0 (nil_from_length c.loop-prefix.gatherer.waiting.items (omega (arith, c.in_default.ensures.cases.0, c.loop-prefix.gatherer.waiting.ok)))
