use Rattle.std.proofs.Common.{◌≡◌, ℕ, ◌<◌, length, get_or, pos}
use Rattle.cuts.specs.Merging.{grown}
use Rattle.kernel.specs.Views.{view}
use Rattle.kernel.proofs.board.Kernel.grown_row.Given as goal

abbrev pub invariant-loop-index : goal.invariant-loop-index
invariant-loop-index l = record {
  long : length l.weight-items ≡ 120;
  grown : (j : ℕ) → j < l.index → get_or l.weight-items j (pos 0) ≡ grown l.tie l.v.index l.u.index (view l.self).weight j;
}
