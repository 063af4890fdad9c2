use Rattle.cuts.proofs.Reductions.{reduces_best, best_shifted, reduces_then, reduces_not, shift_bounded}
use Rattle.cuts.proofs.reduction_laws.Goals as goal

pub returns : goal.returns
returns c = record { best = reduces_best; shifted = best_shifted; then = reduces_then; nothing = reduces_not; bounded = shift_bounded }
