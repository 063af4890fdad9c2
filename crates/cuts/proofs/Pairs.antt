-- Sums over pairs: what they are at one net, and what a loop over the pairs has summed.
use Rattle.std.proofs.Common.{◌≡◌, ℕ, zero, suc, ◌+◌, ◌<◌, ◌≤◌, ℤ, pos, ◌+ℤ◌, ◌≤ℤ◌, ◌∙◌, inl, inr, arith}
use Rattle.std.proofs.lemmas.Int.{ints}
use Rattle.std.proofs.lemmas.Bool.{cases_eq}
use Rattle.std.proofs.lemmas.Bool.Decides.{nat_tests}
use Rattle.cuts.specs.Sums.{∑, pairs, omit}
use Rattle.cuts.specs.Boards.{Weights, size}
use Rattle.cuts.specs.Merging.{placed, without}
use Rattle.cuts.proofs.Sums.{∑_more, ∑_cong, ∑_add, ∑_mono, ∑_abs, ∑_zero, ∑_natural, ∑_single}

pub pairs_cong : (n : ℕ) (g h : Weights) → ((i j : ℕ) → i < j → j < n → g i j ≡ h i j) → pairs n g ≡ pairs n h
unfolding pairs
pairs_cong n g h e = ∑_cong n _ _ (λ j p. ∑_cong j _ _ (λ i q. e i j q p))

pub pairs_mono : (n : ℕ) (g h : Weights) → ((i j : ℕ) → i < j → j < n → g i j ≤ℤ h i j) → pairs n g ≤ℤ pairs n h
unfolding pairs
pairs_mono n g h e = ∑_mono n _ _ (λ j p. ∑_mono j _ _ (λ i q. e i j q p))

pub pairs_add : (n : ℕ) (g h : Weights) → pairs n (λ i j. g i j +ℤ h i j) ≡ pairs n g +ℤ pairs n h
unfolding pairs
pairs_add n g h = ∑_cong n _ _ (λ j p. ∑_add j (λ i. g i j) (λ i. h i j)) ∙ ∑_add n (λ j. ∑ j (λ i. g i j)) (λ j. ∑ j (λ i. h i j))

pub pairs_zero : (n : ℕ) (g : Weights) → ((i j : ℕ) → i < j → j < n → g i j ≡ pos 0) → pairs n g ≡ pos 0
unfolding pairs
pairs_zero n g h = ∑_zero n _ (λ j p. ∑_zero j _ (λ i q. h i j q p))

pub pairs_natural : (n : ℕ) (g : Weights) → ((i j : ℕ) → pos 0 ≤ℤ g i j) → pos 0 ≤ℤ pairs n g
unfolding pairs
pairs_natural n g h = ∑_natural n _ (λ j p. ∑_natural j _ (λ i q. h i j))

pub pairs_size : (n : ℕ) (g : Weights) → size (pairs n g) ≤ℤ pairs n (λ i j. size (g i j))
unfolding pairs
pairs_size n g = omega (arith, ints, ∑_abs n (λ j. ∑ j (λ i. g i j)), ∑_mono n (λ j. size (∑ j (λ i. g i j))) (λ j. ∑ j (λ i. size (g i j))) (λ j p. ∑_abs j (λ i. g i j)))

-- ---- at one net
-- the weights f of the pairs of v, and no others
abbrev pub star : ℕ → (ℕ → ℤ) → Weights
star v f = placed v f (λ i j. pos 0)

star_outside : (n v : ℕ) (f : ℕ → ℤ) → n ≤ v → pairs n (star v f) ≡ pos 0
star_outside n v f h = pairs_zero n _ (λ i j p q. grind (arith, nat_tests))

pub star_pairs : (n v : ℕ) (f : ℕ → ℤ) → v < n → pairs n (star v f) ≡ ∑ n (omit v f)
unfolding pairs ∑
star_pairs zero v f h = absurd (omega arith)
star_pairs (suc n) v f h = elim (cases_eq v n) [
  | inl e ↦
      let a = star_outside n v f (omega arith) in
      let b : ∑ n (λ i. star v f i n) ≡ ∑ n (omit v f) = ∑_cong n _ _ (λ i q. grind (arith, nat_tests)) in
      let c : omit v f n ≡ pos 0 = grind (arith, nat_tests) in
      omega (arith, ints)
  | inr d ↦
      let a = star_pairs n v f (omega arith) in
      let b : ∑ n (λ i. star v f i n) ≡ star v f v n = ∑_single n v (λ i. star v f i n) (omega arith) (λ i p k. grind (arith, nat_tests)) in
      let c : star v f v n ≡ omit v f n = grind (arith, nat_tests) in
      omega (arith, ints)
]

-- a sum over pairs is that over the pairs without v, and that over the pairs of v
pub pairs_at : (n v : ℕ) (g : Weights) → v < n → ((i j : ℕ) → g i j ≡ g j i) → pairs n g ≡ pairs n (without v g) +ℤ ∑ n (omit v (g v))
pairs_at n v g h same =
    let a = pairs_add n (without v g) (star v (g v)) in
    let b = star_pairs n v (g v) h in
    let c : pairs n g ≡ pairs n (λ i j. without v g i j +ℤ star v (g v) i j) = pairs_cong n _ _ (λ i j p q. at i j p) in
    omega (arith, ints)
  where
    at : (i j : ℕ) → i < j → g i j ≡ without v g i j +ℤ star v (g v) i j
    at i j p = grind (arith, nat_tests, ints, same)

-- ---- as a loop comes to it
pub pairs_none : (g : Weights) → pairs 0 g ≡ pos 0
pairs_none g = pairs_zero 0 g (λ i j p q. absurd (omega arith))

pub pairs_more : (n : ℕ) (g : Weights) → pairs (n + 1) g ≡ pairs n g +ℤ ∑ n (λ i. g i n)
unfolding pairs
pairs_more n g = ∑_more n (λ j. ∑ j (λ i. g i j))
