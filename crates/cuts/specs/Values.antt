-- What holds of the values of splits, and of best cuts. Assumes nothing.
use Rattle.std.specs.Prelude.{◌≡◌, ℕ, ◌<◌, Bool, true, false, not, ℤ, pos, ◌+ℤ◌, neg_ℤ, ◌≤ℤ◌}
use Rattle.cuts.specs.Sums.{∑, put}
use Rattle.cuts.specs.Boards.{Board, Sound, Split, Best, value, size, sizes}

-- all nets on the other side
abbrev pub turned : Split → Split
turned s v = not (s v)

-- v on the other side
abbrev pub flipped : ℕ → Split → Split
flipped v s = put v (not (s v)) s

-- what a pair of this weight adds to the value as its first net leaves the first of these sides
abbrev pub gain : Bool → Bool → ℤ → ℤ
gain false false z = z
gain false true z = neg_ℤ z
gain true false z = neg_ℤ z
gain true true z = z

abbrev pub OneSide : Type 0
OneSide = (b : Board) (side : Bool) → value b (λ v. side) ≡ pos 0

abbrev pub Turning : Type 0
Turning = (b : Board) (s : Split) → value b (turned s) ≡ value b s

abbrev pub Flipping : Type 0
Flipping = (b : Board) (s : Split) (v : ℕ) → Sound b → v < b.nets → value b (flipped v s) ≡ value b s +ℤ ∑ b.nets (λ u. gain (s v) (s u) (b.weight v u))

abbrev pub Bounded : Type 0
Bounded = (b : Board) (s : Split) → size (value b s) ≤ℤ sizes b

abbrev pub BestExists : Type 0
BestExists = (b : Board) → (m : ℤ) × Best b m

abbrev pub BestUnique : Type 0
BestUnique = (b : Board) (l m : ℤ) → Best b l → Best b m → l ≡ m

abbrev pub BestNatural : Type 0
BestNatural = (b : Board) (m : ℤ) → Best b m → pos 0 ≤ℤ m

abbrev pub BestOfNone : Type 0
BestOfNone = (b : Board) → b.nets ≡ 0 → Best b (pos 0)
