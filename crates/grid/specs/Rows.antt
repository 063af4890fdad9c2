-- Weights in rows, one row for each net. Assumes nothing.
use Rattle.std.specs.Prelude.{◌≡◌, ℕ, ◌<◌, List, [], length, ℤ, pos, slice_index_or}
use Rattle.cuts.specs.Boards.{Weights}

-- there is no weight outside the rows
abbrev pub weight_at : List (List ℤ) → Weights
weight_at rows v u = slice_index_or (slice_index_or rows v []) u (pos 0)

-- each row has 120 weights
abbrev pub Wide : List (List ℤ) → Type 0
Wide rows = (v : ℕ) → v < 120 → length (slice_index_or rows v []) ≡ 120
