use Rattle.std.proofs.Common.{rules}
use Rattle.std.proofs.lemmas.List.Sorted.{answers_always, ranks_by}
use Rattle.std.proofs.lemmas.Cmp.{nat_list_cmp_total}
use Rattle.std.proofs.lemmas.Result.{IfOk-weaker}
use Rattle.std.specs.Ordering.{is_lt}
use Rattle.refutation.specs.declared.typology.Language.{Language}
use Rattle.search_deeds.proofs.Ascending.{order}
use Rattle.search_deeds.proofs.Collected.{languages-members, languages-sorted}
use Rattle.search_deeds.proofs.collecting.languages.Goals as goal

pub returns-clause-members : goal.returns-clause-members
returns-clause-members c =
    IfOk-weaker c.list_of.result _ _
    (λ list e. languages-members c.args.all.now c.loop-deeds.deeds-index c.loop-deeds.languages.items c.sort_unstable_by.new.self.items list c.loop-deeds-test.false c.loop-deeds.invariant c.sort_unstable_by.ensures.permutation e) c.list_of.ensures

pub returns-clause-sorted : goal.returns-clause-sorted
returns-clause-sorted c =
    IfOk-weaker c.list_of.result _ _
    (λ list e. languages-sorted c.sort_unstable_by.new.self.items list e
    (c.sort_unstable_by.ensures.sorted (λ x y. is_lt (order x.choice y.choice)) (ranks_by nat_list_cmp_total (λ (l : Language). l.choice)) (answers_always _ _ _ (λ f a r g k. search rules)))) c.list_of.ensures
