use Rattle.std.proofs.Common.{rules}
use Rattle.std.proofs.lemmas.List.Sorted.{answers_always}
use Rattle.std.specs.Ordering.{is_lt}
use Rattle.search_deeds.proofs.Ascending.{order, order-weak}
use Rattle.search_deeds.proofs.collecting.cut_prefixes.Goals as goal

pub returns-clause-sorted : goal.returns-clause-sorted
returns-clause-sorted c = c.sort_unstable_by.ensures.sorted (λ x y. is_lt (order x y)) order-weak (answers_always _ _ _ (λ f a r g k. search rules))
