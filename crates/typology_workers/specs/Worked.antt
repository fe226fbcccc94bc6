-- What the call of one worker gives.
use Rattle.std.specs.Prelude.{ℕ, ◌≤◌, ◌⊎◌, length}
use Rattle.ot_theory.specs.Problems.{Problem}
use Rattle.search_deeds.specs.Deeds.{AreHonest}
use Rattle.search_deeds.specs.Gathered.{deeds_in}
use Rattle.prefix_deques.specs.Lanes.{SeatView}
use Rattle.refutation_store.specs.Fronts.{FrontView}
use Rattle.typology_workers.specs.declared.outcome.Work.{Work}
use Rattle.typology_workers.specs.Settled.{AreSettled, AreHandedOn, HasSearched}
use Rattle.typology_workers.specs.Consulted.{AreConsulted, HoldsAll}

-- The front's misses are at least as many as the deeds, or it holds all places.
abbrev pub HasLooked : ℕ → FrontView → ℕ → Type 0
HasLooked places front deeds = (deeds ≤ front.misses) ⊎ HoldsAll places front.values

-- The deeds are honest, what the seat got is settled, the children are put or handed back, the deques were tried to the end, and the
-- store was looked into, consulted and added to.
pub record IsWorked (problem : Problem) (places : ℕ) (old new : SeatView) (front : FrontView) (work : Work) : Type 0 where
  pub honest : AreHonest problem (deeds_in work.deeds)
  pub settled : AreSettled problem old new work.deeds work.strange
  pub handed_on : AreHandedOn problem old new work.deeds work.outbox
  pub searched : HasSearched old new
  pub consulted : AreConsulted problem places front.values work.deeds
  pub looked : HasLooked places front (length work.deeds)
