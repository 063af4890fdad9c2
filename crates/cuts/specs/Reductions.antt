-- What a reduction keeps, and what follows from it. Assumes nothing.
use Rattle.std.specs.Prelude.{◌≡◌, ℕ, true, ℤ, pos, ◌+ℤ◌, ◌≤ℤ◌}
use Rattle.cuts.specs.Boards.{Board, Sound, Split, Best, value, size, sizes}

-- from one board to a smaller one of the same nets: how a split afterwards is lifted to one before, and by how much its value then grows
pub record Reduces (before after : Board) (lift : Split → Split) (shift : ℤ) : Type 0 where
  pub nets : after.nets ≡ before.nets
  pub fewer : (v : ℕ) → after.stands v ≡ true → before.stands v ≡ true
  pub sound : Sound after
  pub lighter : sizes after ≤ℤ sizes before
  -- a net that stands afterwards keeps its side
  pub keeps : (s : Split) (v : ℕ) → after.stands v ≡ true → lift s v ≡ s v
  pub exact : (s : Split) → value before (lift s) ≡ value after s +ℤ shift
  -- no split before is better than all splits afterwards
  pub covers : (s : Split) → (t : Split) × (value before s ≤ℤ (value after t +ℤ shift))

abbrev pub ReducesBest : Type 0
ReducesBest = (before after : Board) (lift : Split → Split) (shift m : ℤ) → Reduces before after lift shift → Best after m → Best before (m +ℤ shift)

abbrev pub BestShifted : Type 0
BestShifted = (before after : Board) (lift : Split → Split) (shift l m : ℤ) → Reduces before after lift shift → Best before l → Best after m → l ≡ m +ℤ shift

-- one after another: lifting goes back through the second first
abbrev pub ReducesThen : Type 0
ReducesThen = (first second third : Board) (lift lift' : Split → Split) (shift shift' : ℤ) → Reduces first second lift shift → Reduces second third lift' shift' → Reduces first third (λ s. lift (lift' s)) (shift +ℤ shift')

abbrev pub ReducesNot : Type 0
ReducesNot = (b : Board) → Sound b → Reduces b b (λ s. s) (pos 0)

-- no shift, and so no sum of the shifts of a row of reductions, is larger than the sum of sizes at the start
abbrev pub ShiftBounded : Type 0
ShiftBounded = (before after : Board) (lift : Split → Split) (shift : ℤ) → Reduces before after lift shift → size shift ≤ℤ sizes before
