-- The later choice stands; where there is none so far, the new one does.
use Rattle.std.proofs.Common.{◌≡◌, true}
use Rattle.std.proofs.lemmas.Bool.{and_parts}
use Rattle.std.specs.List.{list_all, list_any}
use Rattle.search_deeds.specs.Indexed.{gives, is_last, is_up_to}
use Rattle.search_deeds.proofs.Choices.{last-taken, up-given, up-later}
use Rattle.search_deeds.proofs.index.later.Goals as goal

pub returns-in_default : goal.returns-in_default
returns-in_default c terms loser h =
    let i = c.in-Some.choice.0 in
    let a = c.in-Some.choice.1 in
    let so_far : is_last terms i a ≡ true = rw c.in-Some.is at h in
    last-taken terms c.args.input c.args.winner loser (up-later terms i c.args.input c.if-input-choice.false (and_parts (list_any (gives i a) terms) (list_all (is_up_to i) terms) so_far).1)

pub returns-in_default-2 : goal.returns-in_default-2
returns-in_default-2 c terms loser h = last-taken terms c.args.input c.args.winner loser (up-given terms c.args.input (rw c.in_default.is at h))
