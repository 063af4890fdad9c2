-- The weights in a matrix. Assumes nothing.
use Rattle.cuts.specs.Boards.{Weights}
use Rattle.grid.specs.Rows.{weight_at}
use Rattle.grid.specs.declared.matrix.Matrix.{Matrix}

abbrev pub weight_in : Matrix → Weights
weight_in m = weight_at m.rows
