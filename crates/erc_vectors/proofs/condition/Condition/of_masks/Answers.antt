use Rattle.erc_vectors.specs.declared.condition.TheConstants.{LIMIT}
use Rattle.erc_vectors.specs.Masks.{length-marks_of, IsMask-wins, IsMask-losses}
use Rattle.erc_vectors.proofs.condition.Condition.of_masks.Goals as goal

pub returns-clause-width : goal.returns-clause-width
returns-clause-width c = length-marks_of _ _ _

pub returns-clause-wins : goal.returns-clause-wins
returns-clause-wins c = IsMask-wins LIMIT _ _ _ (record { fits = c.requires.small; wins_below = c.requires.wins; losses_below = c.requires.losses; apart = c.requires.apart })

pub returns-clause-losses : goal.returns-clause-losses
returns-clause-losses c = IsMask-losses LIMIT _ _ _ (record { fits = c.requires.small; wins_below = c.requires.wins; losses_below = c.requires.losses; apart = c.requires.apart })
