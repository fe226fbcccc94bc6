-- The deeds are honest, and balanced where nothing waits.
use Rattle.std.proofs.Common.{◌≡◌, true, refl, subst}
use Rattle.search_deeds.specs.Deeds.{AreBalanced}
use Rattle.search_deeds.specs.Gathered.{deeds_of}
use Rattle.search_machine.specs.Machine.{is_empty}
use Rattle.search_machine.specs.Seen.{Progress}
use Rattle.search_machine.specs.MachineView.{state_in}
use Rattle.search_machine.proofs.Finished.{told-balanced, told-honest}
use Rattle.search_machine.proofs.machine.Machine.deeds.Goals as goal

pub returns-clause-honest : goal.returns-clause-honest
returns-clause-honest c =
    let i = c.self.inside in
    rw (← c.self.view_is) (told-honest i.p.now (state_in i) i.deeds.items c.as_slice.result.now c.self.invariant.kept refl c.as_slice.ensures.value)

pub returns-clause-balanced : goal.returns-clause-balanced
returns-clause-balanced c =
    let i = c.self.inside in
    subst (λ (m : Progress). is_empty m.state ≡ true → AreBalanced m.problem (deeds_of c.as_slice.result.now)) c.self.view_is
    (told-balanced i.p.now (state_in i) i.deeds.items c.as_slice.result.now c.self.invariant.kept refl c.as_slice.ensures.value)
