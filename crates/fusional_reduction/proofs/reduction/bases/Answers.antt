use Rattle.std.proofs.Common.{List, subst, sym}
use Rattle.fusional_reduction.specs.declared.member.Member.{Member}
use Rattle.fusional_reduction.specs.Visits.{AreListed}
use Rattle.ot_theory.specs.Conditions.{width_of}
use Rattle.fusional_reduction.proofs.Listed.{given-from, promised-listed, both-ok}
use Rattle.fusional_reduction.proofs.reduction.bases.Goals as goal

pub found-requires : goal.found-requires
found-requires c = given-from (width_of c.args.set.now) c.args.set.now c.requires.widths c.requires.some c.requires.both

pub returns-clause-bases : goal.returns-clause-bases
returns-clause-bases c = both-ok c.bases_of.result _ _ _ (λ bases p q.
    (promised-listed (width_of c.args.set.now) c.args.set.now c.deref.result.now bases.informative bases.skeletal (given-from (width_of c.args.set.now) c.args.set.now c.requires.widths c.requires.some c.requires.both) (subst (λ (l : List Member). AreListed (width_of c.args.set.now) c.args.set.now l) (sym c.deref.ensures.value) (c.put_in_order.ensures (width_of c.args.set.now) c.args.set.now c.in_ok-members.ensures)) (p) (q)).bases) c.bases_of.ensures.informative c.bases_of.ensures.skeletal

pub returns-clause-informative_rankings : goal.returns-clause-informative_rankings
returns-clause-informative_rankings c = both-ok c.bases_of.result _ _ _ (λ bases p q.
    (promised-listed (width_of c.args.set.now) c.args.set.now c.deref.result.now bases.informative bases.skeletal (given-from (width_of c.args.set.now) c.args.set.now c.requires.widths c.requires.some c.requires.both) (subst (λ (l : List Member). AreListed (width_of c.args.set.now) c.args.set.now l) (sym c.deref.ensures.value) (c.put_in_order.ensures (width_of c.args.set.now) c.args.set.now c.in_ok-members.ensures)) (p) (q)).informative_rankings) c.bases_of.ensures.informative c.bases_of.ensures.skeletal

pub returns-clause-skeletal_rankings : goal.returns-clause-skeletal_rankings
returns-clause-skeletal_rankings c = both-ok c.bases_of.result _ _ _ (λ bases p q.
    (promised-listed (width_of c.args.set.now) c.args.set.now c.deref.result.now bases.informative bases.skeletal (given-from (width_of c.args.set.now) c.args.set.now c.requires.widths c.requires.some c.requires.both) (subst (λ (l : List Member). AreListed (width_of c.args.set.now) c.args.set.now l) (sym c.deref.ensures.value) (c.put_in_order.ensures (width_of c.args.set.now) c.args.set.now c.in_ok-members.ensures)) (p) (q)).skeletal_rankings) c.bases_of.ensures.informative c.bases_of.ensures.skeletal

pub returns-clause-informative_independent : goal.returns-clause-informative_independent
returns-clause-informative_independent c = both-ok c.bases_of.result _ _ _ (λ bases p q.
    (promised-listed (width_of c.args.set.now) c.args.set.now c.deref.result.now bases.informative bases.skeletal (given-from (width_of c.args.set.now) c.args.set.now c.requires.widths c.requires.some c.requires.both) (subst (λ (l : List Member). AreListed (width_of c.args.set.now) c.args.set.now l) (sym c.deref.ensures.value) (c.put_in_order.ensures (width_of c.args.set.now) c.args.set.now c.in_ok-members.ensures)) (p) (q)).informative_independent) c.bases_of.ensures.informative c.bases_of.ensures.skeletal

pub returns-clause-skeletal_independent : goal.returns-clause-skeletal_independent
returns-clause-skeletal_independent c = both-ok c.bases_of.result _ _ _ (λ bases p q.
    (promised-listed (width_of c.args.set.now) c.args.set.now c.deref.result.now bases.informative bases.skeletal (given-from (width_of c.args.set.now) c.args.set.now c.requires.widths c.requires.some c.requires.both) (subst (λ (l : List Member). AreListed (width_of c.args.set.now) c.args.set.now l) (sym c.deref.ensures.value) (c.put_in_order.ensures (width_of c.args.set.now) c.args.set.now c.in_ok-members.ensures)) (p) (q)).skeletal_independent) c.bases_of.ensures.informative c.bases_of.ensures.skeletal

pub returns-clause-informative_distinct : goal.returns-clause-informative_distinct
returns-clause-informative_distinct c = both-ok c.bases_of.result _ _ _ (λ bases p q.
    (promised-listed (width_of c.args.set.now) c.args.set.now c.deref.result.now bases.informative bases.skeletal (given-from (width_of c.args.set.now) c.args.set.now c.requires.widths c.requires.some c.requires.both) (subst (λ (l : List Member). AreListed (width_of c.args.set.now) c.args.set.now l) (sym c.deref.ensures.value) (c.put_in_order.ensures (width_of c.args.set.now) c.args.set.now c.in_ok-members.ensures)) (p) (q)).informative_distinct) c.bases_of.ensures.informative c.bases_of.ensures.skeletal

pub returns-clause-skeletal_distinct : goal.returns-clause-skeletal_distinct
returns-clause-skeletal_distinct c = both-ok c.bases_of.result _ _ _ (λ bases p q.
    (promised-listed (width_of c.args.set.now) c.args.set.now c.deref.result.now bases.informative bases.skeletal (given-from (width_of c.args.set.now) c.args.set.now c.requires.widths c.requires.some c.requires.both) (subst (λ (l : List Member). AreListed (width_of c.args.set.now) c.args.set.now l) (sym c.deref.ensures.value) (c.put_in_order.ensures (width_of c.args.set.now) c.args.set.now c.in_ok-members.ensures)) (p) (q)).skeletal_distinct) c.bases_of.ensures.informative c.bases_of.ensures.skeletal

pub returns-clause-informative_widths : goal.returns-clause-informative_widths
returns-clause-informative_widths c = both-ok c.bases_of.result _ _ _ (λ bases p q.
    (promised-listed (width_of c.args.set.now) c.args.set.now c.deref.result.now bases.informative bases.skeletal (given-from (width_of c.args.set.now) c.args.set.now c.requires.widths c.requires.some c.requires.both) (subst (λ (l : List Member). AreListed (width_of c.args.set.now) c.args.set.now l) (sym c.deref.ensures.value) (c.put_in_order.ensures (width_of c.args.set.now) c.args.set.now c.in_ok-members.ensures)) (p) (q)).informative_widths) c.bases_of.ensures.informative c.bases_of.ensures.skeletal

pub returns-clause-skeletal_widths : goal.returns-clause-skeletal_widths
returns-clause-skeletal_widths c = both-ok c.bases_of.result _ _ _ (λ bases p q.
    (promised-listed (width_of c.args.set.now) c.args.set.now c.deref.result.now bases.informative bases.skeletal (given-from (width_of c.args.set.now) c.args.set.now c.requires.widths c.requires.some c.requires.both) (subst (λ (l : List Member). AreListed (width_of c.args.set.now) c.args.set.now l) (sym c.deref.ensures.value) (c.put_in_order.ensures (width_of c.args.set.now) c.args.set.now c.in_ok-members.ensures)) (p) (q)).skeletal_widths) c.bases_of.ensures.informative c.bases_of.ensures.skeletal
