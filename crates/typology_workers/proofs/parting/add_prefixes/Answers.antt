-- The last prefix of the list waits behind the others.
use Rattle.std.proofs.Common.{[], ◌∷◌, ap, arith}
use Rattle.search_deeds.specs.Deeds.{times}
use Rattle.search_deeds.proofs.Counts.{times-append}
use Rattle.typology_workers.proofs.parting.add_prefixes.Goals as goal

pub loop-prefix-init : goal.loop-prefix-init
loop-prefix-init c p = omega (arith, times-append p c.args.waiting.now.items c.args.prefixes)

pub loop-prefix-preserved : goal.loop-prefix-preserved
loop-prefix-preserved c p =
    let prefix = c.in-Some.prefix in
    omega (
      arith,
      c.loop-prefix.invariant p,
      ap (times p) c.in_ok-push_back.ensures.items,
      times-append p c.loop-prefix.waiting.items (prefix ∷ []),
      ap (times p) c.in-Some.ensures,
      times-append p c.pop.new.self (prefix ∷ []),
    )

pub returns : goal.returns
returns c p = omega (arith, c.loop-prefix.invariant p, ap (times p) c.in_default.ensures.0)
