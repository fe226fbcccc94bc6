use Rattle.report_text.proofs.Genuine.{genuine-some, genuine-terms}
use Rattle.report_text.proofs.contradiction.put_contradiction.Goals as goal

pub put_fused_terms-requires-clause-some : goal.put_fused_terms-requires-clause-some
put_fused_terms-requires-clause-some c = genuine-some c.args.p.now c.args.terms.now c.requires

pub put_fused_terms-requires-clause-terms : goal.put_fused_terms-requires-clause-terms
put_fused_terms-requires-clause-terms c = genuine-terms c.args.p.now c.args.terms.now c.requires
