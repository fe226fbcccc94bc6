use Rattle.otsoft_run.proofs.Certified.{certificates-some, certificates-terms}
use Rattle.otsoft_run.proofs.searches.lone_report.Goals as goal

pub compact_typology_text-requires-clause-some_term : goal.compact_typology_text-requires-clause-some_term
compact_typology_text-requires-clause-some_term c = certificates-some c.args.posed.now.problem c.in_ok-typology.typology.certificates c.in_ok-typology.ensures.genuine

pub compact_typology_text-requires-clause-terms : goal.compact_typology_text-requires-clause-terms
compact_typology_text-requires-clause-terms c = certificates-terms c.args.posed.now.problem c.in_ok-typology.typology.certificates c.in_ok-typology.ensures.genuine
