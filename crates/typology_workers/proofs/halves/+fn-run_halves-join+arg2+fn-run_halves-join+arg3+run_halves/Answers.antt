use Rattle.std.proofs.Common.{◌≡◌, ◌++◌, Global, Vec}
use Rattle.std.proofs.lemmas.Result.{IfOk-weaker}
use Rattle.typology_workers.specs.Packets.{AllRan}
use Rattle.typology_workers.specs.declared.halves.Ended.{Ended}
use Rattle.typology_workers.proofs.Halved.{both-ran}
use Rattle.typology_workers.proofs.halves.+fn-run_halves-join+arg2+fn-run_halves-join+arg3+run_halves.Goals as goal

pub returns : goal.returns
returns g t c =
    let first = rw c.in_ok-first.was at c.join-first.ensures.first in
    let second = rw c.in_ok-second.was at c.join-first.ensures.second in
    IfOk-weaker c.both.result (λ (v : Vec Ended Global). v.items ≡ c.in_ok-first.field-0.items ++ c.in_ok-second.field-0.items) (λ (v : Vec Ended Global). AllRan c.args.p.now c.args.store.now c.args.packets.items v.items)
    (λ v e. both-ran c.args.p.now c.args.store.now c.in_ok-front.front.items c.in_ok-front.back.items c.args.packets.items c.in_ok-first.field-0.items c.in_ok-second.field-0.items v.items first second c.in_ok-front.ensures.0 e) c.both.ensures
