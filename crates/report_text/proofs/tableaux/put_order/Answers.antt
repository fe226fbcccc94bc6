use Rattle.std.proofs.Common.{◌≡◌, ◌+◌, ◌++◌, rules, arith, append_assoc, decimal, codes, map, take_all}
use Rattle.std.proofs.lemmas.Result.{IfOk-equal}
use Rattle.report_text.proofs.Grown.{fields}
use Rattle.report_text.proofs.Spaced.{join-cons}
use Rattle.report_text.proofs.tableaux.put_order.Goals as goal

pub returns : goal.returns
returns c =
    let all = take_all c.loop-k.k c.args.order.now (omega arith) in
    let written : c.loop-k.text ≡ c.put.new.self ++ fields (λ c. decimal (c + 1)) c.args.order.now = rw all at c.loop-k.invariant in
    rw (join-cons 9 (codes "order") (map (λ c. decimal (c + 1)) c.args.order.now)) (search (rules, IfOk-equal, append_assoc, written))
