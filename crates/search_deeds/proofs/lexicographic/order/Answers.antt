use Rattle.std.proofs.Common.{◌≡◌, refl, rules}
use Rattle.std.specs.Ordering.{nat_cmp}
use Rattle.std.proofs.lemmas.Iterator.Search.{cmp_from_yields_List}
use Rattle.std.proofs.lemmas.Iterator.{YieldsList-from_map, YieldsList-from_slice}
use Rattle.search_deeds.proofs.lexicographic.order.Goals as goal

pub returns : goal.returns
returns c =
    cmp_from_yields_List (λ x y. y ≡ x) _ nat_cmp _ c.cmp.ensures.ran
    (YieldsList-from_map _ (λ class. class.0) (YieldsList-from_slice c.args.a.now cc) c.map.ensures.closure (λ x r q k. search rules))
    (λ it e. YieldsList-from_map _ (λ class. class.0) (YieldsList-from_slice c.args.b.now (cc)) (cc) (λ x r q k. search rules))
    (λ x y. refl)
