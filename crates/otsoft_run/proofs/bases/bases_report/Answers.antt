use Rattle.std.proofs.Common.{◌≡◌, rules, false}
use Rattle.ot_theory.specs.Refutations.{no_ranking_keeps}
use Rattle.otsoft_run.proofs.Nontrivial.{both-widths, both-kept, both-both}
use Rattle.otsoft_run.proofs.bases.bases_report.Goals as goal

pub bases-requires-clause-widths : goal.bases-requires-clause-widths
bases-requires-clause-widths c =
    rw (c.as_slice-4.ensures, c.in_ok-both.ensures)
    (both-widths c.args.posed.now.problem.constraints c.as_slice-3.result.now (rw c.as_slice-3.ensures.value c.in_ok-set.ensures.widths))

pub bases-requires-clause-some : goal.bases-requires-clause-some
bases-requires-clause-some c =
    let kept : no_ranking_keeps c.args.posed.now.problem.constraints c.as_slice-3.result.now ≡ false = first_of (search rules, cc (c.if-is_hopeless.false, c.is_hopeless.ensures, c.constraints.ensures.value, c.as_slice-2.ensures.value, c.as_slice-3.ensures.value)) in
    rw (c.as_slice-4.ensures, c.in_ok-both.ensures)
    (both-kept c.args.posed.now.problem.constraints c.as_slice-3.result.now (rw c.as_slice-3.ensures.value c.in_ok-set.ensures.widths) kept)

pub bases-requires-clause-both : goal.bases-requires-clause-both
bases-requires-clause-both c = rw (c.as_slice-4.ensures, c.in_ok-both.ensures) (both-both c.as_slice-3.result.now)
