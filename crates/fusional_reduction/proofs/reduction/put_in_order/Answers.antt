use Rattle.std.proofs.Common.{rules}
use Rattle.std.proofs.lemmas.List.Sorted.{answers_always, ranks_by}
use Rattle.std.proofs.lemmas.Cmp.{nat_list_cmp_total}
use Rattle.std.proofs.lemmas.Fn.{dedup_same}
use Rattle.std.specs.Ordering.{is_lt, eq_by_cmp}
use Rattle.fusional_reduction.proofs.Listed.{listed, key, by_key}
use Rattle.fusional_reduction.proofs.reduction.put_in_order.Goals as goal

pub returns : goal.returns
returns c = λ n set found. listed c.args.members.now.items c.sort_unstable_by.new.self.items _ c.sort_unstable_by.ensures.permutation
    (c.sort_unstable_by.ensures.sorted (λ x y. is_lt (by_key x y)) (ranks_by nat_list_cmp_total key) (answers_always _ _ _ (λ f a r g k. search rules)))
    (dedup_same _ (eq_by_cmp by_key) _ (λ x y b f' x' y' k. search rules) _ _ c.dedup_by.ensures.filtered) n set found
