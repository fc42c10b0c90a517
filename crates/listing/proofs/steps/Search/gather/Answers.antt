use Rattle.listing.proofs.Searching.{later_turn}
use Rattle.listing.proofs.steps.Search.gather.Goals as goal

pub loop-self-preserved : goal.loop-self-preserved
loop-self-preserved c = later_turn c.loop-self.invariant c.turn.ensures
