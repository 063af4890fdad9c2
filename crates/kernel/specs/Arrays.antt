-- A board in arrays: which nets stand, and the weights of their pairs. Assumes nothing.
use Rattle.std.specs.Prelude.{◌≡◌, ℕ, Bool, false, List, ℤ, slice_index_or}
use Rattle.cuts.specs.Boards.{Board, sizes}
use Rattle.grid.specs.Matrices.{weight_in}
use Rattle.grid.specs.declared.matrix.Matrix.{Matrix}

abbrev pub stands_in : List Bool → ℕ → Bool
stands_in standing v = slice_index_or standing v false

abbrev pub board_in : ℕ → List Bool → Matrix → Board
board_in nets standing weights = record { nets = nets; stands = stands_in standing; weight = weight_in weights }

abbrev pub Counted : ℕ → List Bool → Matrix → ℤ → Type 0
Counted nets standing weights total = total ≡ sizes (board_in nets standing weights)
