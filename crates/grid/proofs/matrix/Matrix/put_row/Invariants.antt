use Rattle.std.proofs.Common.{◌≡◌, get_or, pos}
use Rattle.grid.specs.Matrices.{weight_in}
use Rattle.grid.proofs.Rows.{upto}
use Rattle.grid.proofs.matrix.Matrix.put_row.Given as goal

abbrev pub invariant-loop-index : goal.invariant-loop-index
invariant-loop-index l = weight_in l.self ≡ upto l.index l.v.index (λ u. get_or l.row u (pos 0)) (weight_in l.initial.self)
