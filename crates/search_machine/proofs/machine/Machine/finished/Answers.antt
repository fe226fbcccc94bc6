-- No step is enabled exactly where all are empty.
use Rattle.std.proofs.Common.{◌≡◌, ◌↔◌, subst}
use Rattle.std.specs.Prelude.{IsTrue}
use Rattle.search_machine.specs.Machine.{IsFinished, is_empty}
use Rattle.search_machine.specs.MachineView.{state_in}
use Rattle.search_machine.specs.Seen.{Progress}
use Rattle.search_machine.proofs.Finished.{spent, told-finished}
use Rattle.search_machine.proofs.machine.Machine.finished.Goals as goal

pub returns-clause-empty : goal.returns-clause-empty
returns-clause-empty c =
    let i = c.self.inside in
    subst (λ (m : Progress). c.are_spent.result ≡ is_empty m.state) c.self.view_is
    (spent (state_in i) i.queues.items i.hands.items i.outboxes.items _ _ _ c.are_spent.result c.deref.ensures.value c.deref-2.ensures.value c.deref-3.ensures.value c.are_spent.ensures)

pub returns-clause-finished : goal.returns-clause-finished
returns-clause-finished c =
    let i = c.self.inside in
    subst (λ (m : Progress). IsTrue c.are_spent.result ↔ IsFinished m.state) c.self.view_is
    (told-finished (state_in i) c.are_spent.result c.self.invariant.kept.as_many_queues
    (spent (state_in i) i.queues.items i.hands.items i.outboxes.items _ _ _ c.are_spent.result c.deref.ensures.value c.deref-2.ensures.value c.deref-3.ensures.value c.are_spent.ensures))
