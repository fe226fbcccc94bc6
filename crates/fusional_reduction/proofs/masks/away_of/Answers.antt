use Rattle.std.proofs.Common.{arith, refl}
use Rattle.fusional_reduction.proofs.ByMasks.{and-within, lacking-some, lacked-none, first-within, first-some}
use Rattle.fusional_reduction.proofs.masks.away_of.Goals as goal

pub returns-then-lacking-ne0-clause-within : goal.returns-then-lacking-ne0-clause-within
returns-then-lacking-ne0-clause-within c = λ k bit. and-within c.args.wins _ k bit

pub returns-then-lacking-ne0-clause-some : goal.returns-then-lacking-ne0-clause-some
returns-then-lacking-ne0-clause-some c = λ positive. lacking-some c.args.wins c.joined_wins.result c.args.group.now (omega arith) (omega arith) c.joined_wins.ensures c.requires

pub returns-then-lacked-eq0-clause-none : goal.returns-then-lacked-eq0-clause-none
returns-then-lacked-eq0-clause-none c = λ none. lacked-none c.args.wins c.shared_wins.result c.args.group.now (omega arith) (omega arith) c.shared_wins.ensures c.if-lacked-eq0.true

pub returns-clause-within : goal.returns-clause-within
returns-clause-within c = λ k bit. first-within c.args.wins c.shared_wins.result _ k (omega arith) c.if-lacked-eq0.false refl bit

pub returns-clause-some : goal.returns-clause-some
returns-clause-some c = λ positive. first-some c.args.wins c.shared_wins.result _ c.args.group.now (omega arith) (omega arith) c.shared_wins.ensures c.if-lacked-eq0.false refl
