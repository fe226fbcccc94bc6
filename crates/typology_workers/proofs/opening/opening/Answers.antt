-- Each prefix that is settled was the first of those that waited, fewer than enough; and what waits weighs less after it.
use Rattle.std.proofs.Common.{◌∙◌, ◌++◌, ◌∷◌, [], List, ℕ, ap, arith, refl, subst}
use Rattle.std.specs.Prelude.{All}
use Rattle.std.proofs.lemmas.List.Elements.{All-head}
use Rattle.typology_workers.proofs.Gathers.{settled-lighter, weight}
use Rattle.typology_workers.proofs.Openings.{under-way-ends, under-way-first, under-way-more}
use Rattle.typology_workers.proofs.opening.opening.Goals as goal
use Rattle.violation_profiles.specs.WellFormed.{IsPrefix}

pub loop-prefix-init : goal.loop-prefix-init
loop-prefix-init c = (
  under-way-first c.args.p.now c.args.enough (record { deeds = c.new.result; waiting = c.push_back.new.self }) c.new.ensures
      (c.in_ok-push_back.ensures.items ∙ ap (λ (l : List (List ℕ)). l ++ c.empty.result ∷ []) c.new-2.ensures.items ∙ ap (λ (x : List ℕ). x ∷ []) c.empty.ensures),
  c.in_ok-ready.ensures,
)

pub settle-requires-clause-prefix : goal.settle-requires-clause-prefix
settle-requires-clause-prefix c =
    All-head (IsPrefix c.args.p.now) c.in-Some.prefix c.next.new.waiting.items (subst (All (IsPrefix c.args.p.now)) c.in-Some.ensures.some.0 c.loop-prefix.invariant.0.settled.prefixes)

pub loop-prefix-preserved : goal.loop-prefix-preserved
loop-prefix-preserved c = (
  under-way-more c.args.p.now c.args.enough c.loop-prefix.gatherer (record { deeds = c.loop-prefix.gatherer.deeds; waiting = c.next.new.waiting }) c.settle.new.gatherer c.in-Some.prefix c.loop-prefix.invariant.0 refl
      c.in-Some.ensures.some.0 c.in-Some.ensures.some.1 c.in_ok-settle.ensures.settles,
  c.settle.ensures.made,
)

pub loop-prefix-smaller : goal.loop-prefix-smaller
loop-prefix-smaller c =
    let less = settled-lighter c.args.p.now c.in-Some.prefix (record { deeds = c.loop-prefix.gatherer.deeds; waiting = c.next.new.waiting }) c.settle.new.gatherer c.in_ok-settle.ensures.settles in
    omega (arith, less, ap (weight c.args.p.now) c.in-Some.ensures.some.0)

pub returns : goal.returns
returns c =
    under-way-ends c.args.p.now c.args.enough c.loop-prefix.gatherer (record { deeds = c.loop-prefix.gatherer.deeds; waiting = c.next.new.waiting }) c.loop-prefix.invariant.0 refl c.in_default.ensures.none.0 c.in_default.ensures.none.1
