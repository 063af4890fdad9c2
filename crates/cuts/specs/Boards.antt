-- Boards, their splits and their best cuts. The nets of a board are numbered from 1; net number v has the index v - 1 here. Assumes nothing.
use Rattle.std.specs.Prelude.{◌≡◌, ℕ, zero, suc, ◌<◌, Bool, true, false, cond, List, [], ◌∷◌, ◌++◌, ℤ, pos, ◌≤ℤ◌, nat_lt, unsigned_abs}
use Rattle.cuts.specs.Sums.{∑, pairs, count}

-- the weight of each pair of nets
abbrev pub Weights : Type 0
Weights = ℕ → ℕ → ℤ

-- how many nets there are, which of them stand, and the weights of their pairs
pub record Board : Type 0 where
  pub nets : ℕ
  pub stands : ℕ → Bool
  pub weight : Weights

-- a pair has one weight, a net none with itself, and a net that does not stand none at all
pub record Sound (b : Board) : Type 0 where
  pub inside : (v : ℕ) → b.stands v ≡ true → v < b.nets
  pub symmetric : (v u : ℕ) → b.weight v u ≡ b.weight u v
  pub hollow : (v : ℕ) → b.weight v v ≡ pos 0
  pub bare : (v u : ℕ) → b.stands v ≡ false → b.weight v u ≡ pos 0

-- the side of each net: false is A, byte 0, and true is B, byte 1
abbrev pub Split : Type 0
Split = ℕ → Bool

-- what a pair of this weight counts, with its nets on these sides
abbrev pub cut : Bool → Bool → ℤ → ℤ
cut false false z = pos 0
cut false true z = z
cut true false z = z
cut true true z = pos 0

-- the sum of the weights of the pairs on different sides
abbrev pub across : Weights → ℕ → Split → ℤ
across w n s = pairs n (λ i j. cut (s i) (s j) (w i j))

abbrev pub value : Board → Split → ℤ
value b s = across b.weight b.nets s

-- the largest value of any split
pub record Best (b : Board) (m : ℤ) : Type 0 where
  pub attained : (s : Split) × (value b s ≡ m)
  pub largest : (s : Split) → value b s ≤ℤ m

-- |z|
abbrev pub size : ℤ → ℤ
size z = pos (unsigned_abs z)

-- the sum of the sizes of all weights
abbrev pub bulk : Weights → ℕ → ℤ
bulk w n = pairs n (λ i j. size (w i j))

abbrev pub sizes : Board → ℤ
sizes b = bulk b.weight b.nets

-- two nets of this weight are connected
abbrev pub connected : ℤ → Bool
connected z = nat_lt 0 (unsigned_abs z)

-- how many nets v is connected to
abbrev pub connections : Board → ℕ → ℕ
connections b v = count b.nets (λ u. connected (b.weight v u))

-- the sum of the weights at v
abbrev pub sum_at : Board → ℕ → ℤ
sum_at b v = ∑ b.nets (b.weight v)

-- the sum of the sizes of the weights at v
abbrev pub sizes_at : Board → ℕ → ℤ
sizes_at b v = ∑ b.nets (λ u. size (b.weight v u))

-- the nets below n that pass the test, in number order
unfoldable pub listed : ℕ → (ℕ → Bool) → List ℕ
listed zero p = []
listed (suc n) p = listed n p ++ cond (p n) (n ∷ []) []

-- the standing nets, in number order
abbrev pub standing : Board → List ℕ
standing b = listed b.nets b.stands
