-- the marks of the members so far
use Rattle.std.proofs.Common.{◌≡◌, take, map}
use Rattle.fusional_reduction.specs.declared.member.Member.{Member}
use Rattle.fusional_reduction.proofs.reduction.bases_of.Given as goal

abbrev pub invariant-loop-member : goal.invariant-loop-member
invariant-loop-member l = record {
  informative : l.informative ≡ map (λ (m : Member). m.informative) (take l.member-index l.members);
  skeletal : l.skeletal ≡ map (λ (m : Member). m.skeletal) (take l.member-index l.members);
}
