use Rattle.ot_theory.proofs.Certificates.{contradiction-refutes}
use Rattle.violation_profiles.proofs.Inputs.{AllFit-prefix}
use Rattle.refutation.proofs.laws.genuine_refutes.Goals as goal

pub returns : goal.returns
returns c = λ problem terms prefix well p. contradiction-refutes problem terms prefix (AllFit-prefix problem prefix well p)
