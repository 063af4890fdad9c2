-- Splits in a number's bits and in bytes. Assumes nothing.
use Rattle.std.specs.Prelude.{ℕ, ◌/◌, ◌%◌, ◌^◌, List, ◌==◌, slice_index}
use Rattle.cuts.specs.Boards.{Split}

-- the net of index v is on B if bit v is set
abbrev pub mask_sides : ℕ → Split
mask_sides bits v = bits / 2 ^ v % 2 == 1

-- the net of index v is on B if byte v is 1
abbrev pub byte_sides : List ℕ → Split
byte_sides bytes v = slice_index bytes v == 1
