use Rattle.cuts.proofs.Values.{one_side, turning, flipping, bounded}
use Rattle.cuts.proofs.value_laws.Goals as goal

pub returns : goal.returns
returns c = record { together = one_side; turning = turning; flipping = flipping; bounded = bounded }
