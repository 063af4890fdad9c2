use Rattle.std.proofs.Common.{◌≡◌, ℕ, ◌<◌, false, length, get_or}
use Rattle.kernel.proofs.board.Kernel.sides.Given as goal

abbrev pub invariant-loop-index : goal.invariant-loop-index
invariant-loop-index g l = record {
  long : length l.side-items ≡ l.self.nets;
  sides : (i : ℕ) → i < l.index → get_or l.side-items i false ≡ g.S.Split.sides l.split i;
}
