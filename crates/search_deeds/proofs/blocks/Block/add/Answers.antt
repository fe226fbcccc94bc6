use Rattle.std.proofs.Common.{◌≡◌, ◌∙◌, All}
use Rattle.std.specs.Vec.{with_items}
use Rattle.std.proofs.lemmas.List.{with_items_is}
use Rattle.search_deeds.specs.Admitted.{IsAdmittedBy}
use Rattle.search_deeds.proofs.Admitting.{Widens-same, Widens-twice}
use Rattle.search_deeds.proofs.blocks.Block.add.Goals as goal
use Rattle.search_deeds.proofs.blocks.Block.add.Goals.{in-Loser+in_ok-add_row, in_default}

pub loop-term-init : goal.loop-term-init
loop-term-init c = Widens-same c.args.self.now

pub loop-term-preserved : goal.loop-term-preserved
loop-term-preserved c = elim c.match-term.branch [
  | in-Loser+in_ok-add_row w ↦ rw w.self-is (Widens-twice c.args.self.now c.loop-term.self w.add_row.new.self c.loop-term.invariant w.in_ok-add_row.ensures)
  | in_default w ↦ rw w.self-is c.loop-term.invariant
]

pub returns-clause-others : goal.returns-clause-others
returns-clause-others c = λ prefix b h.
    let wider = c.loop-term.invariant.each prefix b h in
    let rows = c.loop-term.self.rows in
    let items : (with_items rows c.admit.new.rows).items ≡ c.admit.new.rows = with_items_is rows c.admit.new.rows (c.admit.auto.rows ∙ c.as_mut_slice.ensures.len) in
    let all : All (λ row. IsAdmittedBy row prefix b) c.as_mut_slice.result.now = rw c.as_mut_slice.ensures.value wider.rows in
    record {
      present = c.with_bit-self.ensures.kept b wider.present;
      rows = rw items (c.admit.ensures.others prefix b all);
    }
