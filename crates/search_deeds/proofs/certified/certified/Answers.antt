use Rattle.search_deeds.proofs.Named.{certified-more, cuts-named}
use Rattle.search_deeds.proofs.certified.certified.Goals as goal

pub loop-prefix-preserved : goal.loop-prefix-preserved
loop-prefix-preserved c = record {
  certified = certified-more c.args.p.now c.loop-prefix.yielded c.loop-prefix.cuts c.push.new.self c.loop-prefix.certificates c.name_certificate.new.certificates c.in-Some.prefix c.in_ok-certificate.certificate
      c.loop-prefix.invariant.certified c.in_ok-certificate.ensures.listed c.in_ok-certificate.ensures.first c.in_ok-certificate.ensures.within c.in_ok-push.ensures.ok;
  genuine = c.in_ok-certificate.ensures.genuine;
  indexed = c.in_ok-certificate.ensures.indexed;
  made = c.name_certificate.ensures.made;
}

pub returns-clause-named : goal.returns-clause-named
returns-clause-named c = cuts-named c.args.p.now c.loop-prefix.yielded c.loop-prefix.cuts c.loop-prefix.certificates c.loop-prefix.invariant.certified
