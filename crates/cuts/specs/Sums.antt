-- Sums and counts over the nets of a board. Assumes nothing.
use Rattle.std.specs.Prelude.{ℕ, zero, suc, ◌+◌, Bool, cond, ℤ, pos, ◌+ℤ◌, ◌==◌}

-- f 0 + f 1 + .. + f (n - 1)
unfoldable pub ∑ : ℕ → (ℕ → ℤ) → ℤ
∑ zero f = pos 0
∑ (suc n) f = ∑ n f +ℤ f n

-- the sum of g i j over the pairs i < j < n
unfoldable pub pairs : ℕ → (ℕ → ℕ → ℤ) → ℤ
pairs n g = ∑ n (λ j. ∑ j (λ i. g i j))

-- how many of the first n pass the test
unfoldable pub count : ℕ → (ℕ → Bool) → ℕ
count zero p = 0
count (suc n) p = count n p + cond (p n) 1 0

-- f with the value at v replaced
abbrev pub put : {A : Type 0} → ℕ → A → (ℕ → A) → ℕ → A
put v z f i = cond (i == v) z (f i)

-- f without what it has at v
abbrev pub omit : ℕ → (ℕ → ℤ) → ℕ → ℤ
omit v f = put v (pos 0) f
