use Rattle.std.proofs.Common.{◌≡◌, true, false, arith, rules}
use Rattle.ot_theory.specs.Languages.{refuted}
use Rattle.typology_core.specs.Walked.{prefix_of}
use Rattle.typology_core.proofs.Walking.{below-full, below-refuted}
use Rattle.typology_core.proofs.walk.holds.Goals as goal

pub returns-in_ok-add_certificate-in-None-clause-settled : goal.returns-in_ok-add_certificate-in-None-clause-settled
returns-in_ok-add_certificate-in-None-clause-settled c =
    let gone : refuted c.args.p.now (prefix_of c.args.path.now) ≡ true = search rules in
    record {
      sound = c.in_ok-add_certificate-in-None.ensures.found;
      below = λ n count. below-refuted c.args.p.now n (prefix_of c.args.path.now) c.args.found.now c.add_certificate.new.self gone c.in_ok-add_certificate-in-None.ensures.more;
    }

pub returns-in_ok-add_language-in-Some-clause-settled : goal.returns-in_ok-add_language-in-Some-clause-settled
returns-in_ok-add_language-in-Some-clause-settled c =
    let held : refuted c.args.p.now (prefix_of c.args.path.now) ≡ false = search rules in
    record {
      sound = c.in_ok-add_language-in-Some.ensures.found;
      below = λ n count. below-full c.args.p.now n (prefix_of c.args.path.now) c.args.found.now c.add_language.new.self (omega (arith, count, c.is_full.ensures.full c.if-is_full.true))
          held c.in_ok-add_language-in-Some.ensures.more;
    }
