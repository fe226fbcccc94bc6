-- The flags are those that the list names, as many as there are constraints.
use Rattle.otsoft_run.proofs.bias.biased_ranking.Goals as goal

pub ranking_by-requires-clause-within : goal.ranking_by-requires-clause-within
ranking_by-requires-clause-within c = rw (c.as_slice.ensures, c.in_ok-flags.ensures.width) c.requires.within

pub ranking_by-requires-clause-widths : goal.ranking_by-requires-clause-widths
ranking_by-requires-clause-widths c = rw (c.as_slice.ensures, c.in_ok-flags.ensures.width) c.requires.widths

pub returns-clause-kept : goal.returns-clause-kept
returns-clause-kept c = rw (c.as_slice.ensures, c.in_ok-flags.ensures.width) at c.ranking_by.ensures.kept

pub returns-clause-strata : goal.returns-clause-strata
returns-clause-strata c = rw (c.as_slice.ensures, c.in_ok-flags.ensures.named) at c.ranking_by.ensures.strata

pub returns-clause-width : goal.returns-clause-width
returns-clause-width c = rw (c.as_slice.ensures, c.in_ok-flags.ensures.width) at c.ranking_by.ensures.width

pub returns-clause-measure : goal.returns-clause-measure
returns-clause-measure c = rw (c.as_slice.ensures, c.in_ok-flags.ensures.named) at c.ranking_by.ensures.measure

pub returns-clause-stuck : goal.returns-clause-stuck
returns-clause-stuck c = rw (c.as_slice.ensures, c.in_ok-flags.ensures.width) at c.ranking_by.ensures.stuck
