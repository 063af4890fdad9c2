use Rattle.cuts.proofs.BestCuts.{best_exists, best_unique, best_natural, best_of_none}
use Rattle.cuts.proofs.best_cut_laws.Goals as goal

pub returns : goal.returns
returns c = record { exists = best_exists; unique = best_unique; natural = best_natural; none = best_of_none }
