use Rattle.std.proofs.Common.{refl}
use Rattle.typology_core.proofs.Counted.{count-free, count-full}
use Rattle.typology_core.proofs.learning.Count.with.Goals as goal

pub returns-then-self-eq0 : goal.returns-then-self-eq0
returns-then-self-eq0 c held places before h = count-full held places before c.args.cuts c.args.self _ c.if-self-eq0.true refl c.saturating_add.ensures h

pub returns-else-self-eq0 : goal.returns-else-self-eq0
returns-else-self-eq0 c held places before h = count-free held places before c.args.cuts c.args.self _ c.if-self-eq0.false refl c.saturating_add-else-self-eq0.ensures h
