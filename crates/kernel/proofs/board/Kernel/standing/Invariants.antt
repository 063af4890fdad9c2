use Rattle.std.proofs.Common.{◌≡◌, ◌≤◌, length, take}
use Rattle.cuts.specs.Boards.{listed}
use Rattle.kernel.specs.Views.{view, indices}
use Rattle.kernel.proofs.board.Kernel.standing.Given as goal

abbrev pub invariant-loop-index : goal.invariant-loop-index
invariant-loop-index l = record {
  long : length l.row ≡ 120;
  behind : l.count ≤ l.index;
  listed : indices (take l.count l.row) ≡ listed l.index (view l.self).stands;
}
