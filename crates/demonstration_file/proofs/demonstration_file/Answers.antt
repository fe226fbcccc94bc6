use Rattle.std.proofs.Common.{◌≡◌, ◌∙◌, ap, arith, length}
use Rattle.tableau_file.specs.Reading.{reading}
use Rattle.demonstration_file.specs.Demonstration.{demonstration_file}
use Rattle.demonstration_file.proofs.Accepted.{accepted}
use Rattle.demonstration_file.proofs.Growing.{file-written, inputs-more, states-more}
use Rattle.demonstration_file.proofs.Lengths.{length-file}
use Rattle.demonstration_file.proofs.demonstration_file.Goals as goal

pub loop-k-preserved : goal.loop-k-preserved
loop-k-preserved c = (
  inputs-more c.args.number c.loop-k.k c.loop-k.generator _ _ _ c.loop-k.invariant.1 c.loop-k.invariant.0 c.in_ok-put_input.ensures.rows,
  states-more c.args.number c.loop-k.k 15 c.loop-k.generator _ c.loop-k.invariant.1 c.in_ok-put_input.ensures.state,
)

-- the text that is made is the file
made : (c : goal.After-into_label) → c.into_label.result ≡ demonstration_file c.args.number
made c =
    c.into_label.ensures
    ∙ file-written c.args.number c.loop-k.k _ _ _ _ c.new-text.ensures c.in_ok-put_header.ensures c.in_ok-put_header-2.ensures (omega (arith, c.loop-k-test.false, c.loop-k.auto.k-end)) c.loop-k.invariant.0

pub returns-clause-file : goal.returns-clause-file
returns-clause-file c = made c

pub returns-clause-length : goal.returns-clause-length
returns-clause-length c = ap length (made c) ∙ length-file c.args.number

pub returns-clause-accepted : goal.returns-clause-accepted
returns-clause-accepted c = ap reading (made c) ∙ accepted c.args.number
