use Rattle.search_deeds.specs.Deeds.{Deed, cut_by}
use Rattle.search_deeds.specs.Gathered.{deed_of}
use Rattle.search_deeds.proofs.Collected.{deed-collected}
use Rattle.search_deeds.proofs.collecting.add_cut_prefixes.Goals as goal

pub loop-deed-preserved : goal.loop-deed-preserved
loop-deed-preserved c = deed-collected (λ (deed : Deed). cut_by deed.prefix deed.fate) deed_of c.args.deeds.now c.loop-deed.deed-index c.deed-item.result _ _ _ c.loop-deed-test.true c.deed-item.is c.loop-deed.invariant c.in_ok-add_cut_prefix.ensures
