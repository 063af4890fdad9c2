-- How a join is written on a line. Assumes nothing.
use Rattle.std.specs.Prelude.{◌≡◌, ℕ, suc, ◌^◌, ◌<◌, Bool, true, not, ◌&&◌, List, [], ◌∷◌, ◌++◌, ℤ, pos, negsuc, codes, ◌==◌, ◌≢◌}
use Rattle.std.specs.Fmt.{signed_decimal}
use Rattle.keys.specs.Words.{Word}

-- the byte c does not stand in s, as a test
abbrev pub lacks : ℕ → List ℕ → Bool
lacks c [] = true
lacks c (x ∷ xs) = not (x == c) && lacks c xs

-- a weight of at most seven digits
abbrev pub Short : ℤ → Type 0
Short (pos n) = n < 10 ^ 7
Short (negsuc n) = suc n < 10 ^ 7

-- no weight is written so
abbrev pub NoWeight : List ℕ → Type 0
NoWeight w = (z : ℤ) → Short z → signed_decimal z ≢ w

-- the line of a join with these three words, without its end
abbrev pub spaced : List ℕ → List ℕ → List ℕ → List ℕ
spaced a b w = codes "join" ++ 32 ∷ (a ++ 32 ∷ (b ++ 32 ∷ w))

-- the line L has the form of a join, with the words a, b and w
pub record Words (L a b w : List ℕ) : Type 0 where
  pub formed : L ≡ spaced a b w
  pub first : Word a
  pub second : Word b
  pub third : Word w

-- the line L has not the form of a join
abbrev pub NoWords : List ℕ → Type 0
NoWords L = (a b w : List ℕ) → Words L a b w → ⊥
