use Rattle.std.proofs.Common.{◌≡◌, ℕ, ◌*◌, ℤ, pos, ◌≤ℤ◌}
use Rattle.cuts.specs.Boards.{size}
use Rattle.cuts.specs.Sums.{∑}
use Rattle.grid.specs.declared.nets.Net.{Net}
use Rattle.grid.proofs.sums.sum_of.Given as goal

abbrev pub invariant-loop-index : goal.invariant-loop-index
invariant-loop-index g l = record {
  sum : (f : ℕ → ℤ) → ((v : Net) (z : ℤ) → goal.F-post g l.term v z → z ≡ f v.index) → l.total ≡ ∑ l.index f;
  bound : (m : ℕ) → ((v : Net) (z : ℤ) → goal.F-post g l.term v z → size z ≤ℤ pos m) → size l.total ≤ℤ pos (m * l.index);
}
