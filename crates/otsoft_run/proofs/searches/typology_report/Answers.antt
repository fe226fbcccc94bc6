use Rattle.otsoft_run.proofs.Certified.{certificates-some, certificates-terms}
use Rattle.otsoft_run.proofs.searches.typology_report.Goals as goal

pub typology_text-requires-clause-some_term : goal.typology_text-requires-clause-some_term
typology_text-requires-clause-some_term c = certificates-some c.args.posed.now.problem c.args.typology.now.certificates c.requires.found.genuine

pub typology_text-requires-clause-terms : goal.typology_text-requires-clause-terms
typology_text-requires-clause-terms c = certificates-terms c.args.posed.now.problem c.args.typology.now.certificates c.requires.found.genuine
