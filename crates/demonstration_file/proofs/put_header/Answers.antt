use Rattle.std.proofs.Common.{arith}
use Rattle.std.proofs.lemmas.Result.{on_ok_weaker}
use Rattle.demonstration_file.proofs.Growing.{header-written, names-more}
use Rattle.demonstration_file.proofs.put_header.Goals as goal

pub loop-c-preserved : goal.loop-c-preserved
loop-c-preserved c = names-more c.loop-c.c _ _ _ _ c.loop-c.invariant c.in_ok-put-2.ensures c.in_ok-number.ensures

pub returns : goal.returns
returns c = on_ok_weaker c.put-2.result (λ ended. header-written _ _ _ _ c.loop-c.c (omega (arith, c.loop-c-test.false, c.loop-c.auto.c-end)) c.in_ok-put.ensures c.loop-c.invariant ended) c.put-2.ensures
