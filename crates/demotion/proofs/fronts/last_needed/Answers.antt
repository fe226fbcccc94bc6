-- Each round narrows the front, until some ranking keeps it.
use Rattle.std.proofs.Common.{arith, refl, take}
use Rattle.std.specs.Int.{bit_not, w64}
use Rattle.std.proofs.lemmas.Nat.{le_or_l, or_lt}
use Rattle.demotion.proofs.Narrowing.{IsNarrowed-kept, IsNarrowed-more, IsNarrowed-short, IsNarrowed-start, hopeless-others, places-more}
use Rattle.demotion.proofs.fronts.last_needed.Goals as goal

pub loop-placed-init : goal.loop-placed-init
loop-placed-init c = IsNarrowed-start c.args.n c.args.others.now c.args.conditions.now _ refl

pub returns-then-placed-blocked-clause-alone : goal.returns-then-placed-blocked-clause-alone
returns-then-placed-blocked-clause-alone c = hopeless-others c.args.n c.args.others.now c.loop-placed.placed c.blocked_by-blocked.result c.requires.within (omega arith) c.requires.others c.loop-placed-test.true c.blocked_by-blocked.ensures c.if-placed-blocked.true

pub loop-placed-smaller : goal.loop-placed-smaller
loop-placed-smaller c =
    let placed = c.loop-placed.placed in
    let blocked = c.free_front-front.result.1 in
    let more = places-more placed blocked (omega arith) (omega arith) (or_lt 64 placed blocked (omega arith) (omega arith)) c.free_front-front.ensures.free in
    omega (arith, more, le_or_l placed (bit_not w64 blocked), or_lt 64 placed (bit_not w64 blocked) (omega arith) (omega arith))

pub loop-placed-preserved : goal.loop-placed-preserved
loop-placed-preserved c =
    let last = c.loop-placed.last in
    let conditions = c.args.conditions.now in
    IsNarrowed-more c.args.n c.args.others.now conditions (take last conditions) c.loop-placed.placed c.blocked_by-blocked.result c.free_front-front.result.1 last c.free_front-front.result.0
    c.requires.within c.requires.others c.requires.widths (omega arith) (omega arith) c.loop-placed-test.true refl c.blocked_by-blocked.ensures c.free_front-front.ensures.short c.free_front-front.ensures.blocked c.free_front-front.ensures.full c.loop-placed.invariant

pub returns-clause-some : goal.returns-clause-some
returns-clause-some c = IsNarrowed-kept c.args.n c.args.others.now c.args.conditions.now c.loop-placed.placed c.loop-placed.last c.requires.within c.requires.others c.requires.widths c.loop-placed-test.false c.loop-placed.invariant

pub returns-clause-short : goal.returns-clause-short
returns-clause-short c = IsNarrowed-short c.args.n c.args.others.now c.args.conditions.now c.loop-placed.placed c.loop-placed.last c.requires.hopeless (returns-clause-some c) c.loop-placed.invariant
