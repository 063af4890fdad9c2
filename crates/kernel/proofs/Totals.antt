-- The sum of sizes as a number of 64 bits.
use Rattle.std.proofs.Common.{◌≡◌, ℤ, pos, ◌+ℤ◌, ◌-ℤ◌, ◌≤ℤ◌, arith, w64, to_z, of_z}
use Rattle.std.proofs.lemmas.Int.{ints}
use Rattle.cuts.specs.Boards.{size}

abbrev word : ℤ → ℤ
word z = to_z w64 (of_z w64 z)

-- something is taken away and something is added
pub replaced : (total old new sum : ℤ) → size total ≤ℤ pos 100000000 → size old ≤ℤ pos 1000000000000 → size new ≤ℤ pos 1000000000000 → sum +ℤ old ≡ total +ℤ new → word (word (word total -ℤ word old) +ℤ word new) ≡ sum
replaced total old new sum p q r e =
    let a : word total ≡ total = omega (arith, ints) in
    let b : word old ≡ old = omega (arith, ints) in
    let c : word new ≡ new = omega (arith, ints) in
    let d : word (word total -ℤ word old) ≡ total -ℤ old = omega (arith, ints) in
    omega (arith, ints)

-- two are added and one is taken away
pub summed : (first second third : ℤ) → size first ≤ℤ pos 257698037760 → size second ≤ℤ pos 257698037760 → size third ≤ℤ pos 2147483648 → word (word (word first +ℤ word second) -ℤ word third) ≡ (first +ℤ second) -ℤ third
summed first second third p q r =
    let a : word first ≡ first = omega (arith, ints) in
    let b : word second ≡ second = omega (arith, ints) in
    let c : word third ≡ third = omega (arith, ints) in
    let d : word (word first +ℤ word second) ≡ first +ℤ second = omega (arith, ints) in
    omega (arith, ints)
