-- Sums as numbers of 64 bits.
use Rattle.std.proofs.Common.{◌≡◌, ℕ, ◌+◌, ◌*◌, ◌≤◌, ℤ, pos, ◌+ℤ◌, ◌≤ℤ◌, arith, w64, FitsSigned, to_z, of_z}
use Rattle.std.proofs.lemmas.Int.{ints}
use Rattle.cuts.specs.Boards.{size}

abbrev pub word : ℤ → ℤ
word z = to_z w64 (of_z w64 z)

-- a term more fits
pub added : (total term : ℤ) (n : ℕ) → n ≤ 120 → size total ≤ℤ pos (1125899906842624 * n) → size term ≤ℤ pos 1125899906842624 → FitsSigned w64 (total +ℤ word term)
added total term n few p q = omega (arith, ints)

pub sum_word : (total term : ℤ) (n : ℕ) → n ≤ 120 → size total ≤ℤ pos (1125899906842624 * n) → size term ≤ℤ pos 1125899906842624 → word (total +ℤ word term) ≡ total +ℤ term
sum_word total term n few p q = omega (arith, ints)

-- a sum's bound grows by that of the term
pub grown : (total term : ℤ) (m n : ℕ) → size total ≤ℤ pos (m * n) → size term ≤ℤ pos m → size (total +ℤ term) ≤ℤ pos (m * (n + 1))
grown total term m n p q = omega (arith, ints)
