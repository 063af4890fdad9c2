-- Sums and counts over the numbers below n.
use Rattle.std.proofs.Common.{◌≡◌, ℕ, zero, suc, ◌+◌, ◌<◌, ◌≤◌, Bool, true, false, cond, ℤ, pos, ◌+ℤ◌, neg_ℤ, nat_abs, ◌≤ℤ◌, sym, refl, ap, ◌∙◌, ap₂, inl, inr, add-one, arith}
use Rattle.std.proofs.lemmas.Int.{ints}
use Rattle.std.proofs.lemmas.Bool.{cases_eq}
use Rattle.std.proofs.lemmas.Bool.Decides.{nat_tests}
use Rattle.cuts.specs.Sums.{∑, count, omit}

pub ∑_none : (f : ℕ → ℤ) → ∑ 0 f ≡ pos 0
unfolding ∑
∑_none f = refl

pub ∑_more : (n : ℕ) (f : ℕ → ℤ) → ∑ (n + 1) f ≡ ∑ n f +ℤ f n
unfolding ∑
∑_more n f = rw add-one refl

pub ∑_cong : (n : ℕ) (f g : ℕ → ℤ) → ((i : ℕ) → i < n → f i ≡ g i) → ∑ n f ≡ ∑ n g
unfolding ∑
∑_cong zero f g h = refl
∑_cong (suc n) f g h = ap₂ ◌+ℤ◌ (∑_cong n f g (λ i p. h i (omega arith))) (h n (omega arith))

pub ∑_add : (n : ℕ) (f g : ℕ → ℤ) → ∑ n (λ i. f i +ℤ g i) ≡ ∑ n f +ℤ ∑ n g
unfolding ∑
∑_add zero f g = refl
∑_add (suc n) f g = omega (arith, ints, ∑_add n f g)

pub ∑_neg : (n : ℕ) (f : ℕ → ℤ) → ∑ n (λ i. neg_ℤ (f i)) ≡ neg_ℤ (∑ n f)
unfolding ∑
∑_neg zero f = refl
∑_neg (suc n) f = omega (arith, ints, ∑_neg n f)

pub ∑_mono : (n : ℕ) (f g : ℕ → ℤ) → ((i : ℕ) → i < n → f i ≤ℤ g i) → ∑ n f ≤ℤ ∑ n g
unfolding ∑
∑_mono zero f g h = omega (arith, ints)
∑_mono (suc n) f g h = omega (arith, ints, ∑_mono n f g (λ i p. h i (omega arith)), h n (omega arith))

pub ∑_abs : (n : ℕ) (f : ℕ → ℤ) → pos (nat_abs (∑ n f)) ≤ℤ ∑ n (λ i. pos (nat_abs (f i)))
unfolding ∑
∑_abs zero f = omega (arith, ints)
∑_abs (suc n) f = omega (arith, ints, ∑_abs n f)

pub ∑_zero : (n : ℕ) (f : ℕ → ℤ) → ((i : ℕ) → i < n → f i ≡ pos 0) → ∑ n f ≡ pos 0
unfolding ∑
∑_zero zero f h = refl
∑_zero (suc n) f h = omega (arith, ints, ∑_zero n f (λ i p. h i (omega arith)), h n (omega arith))

pub ∑_natural : (n : ℕ) (f : ℕ → ℤ) → ((i : ℕ) → i < n → pos 0 ≤ℤ f i) → pos 0 ≤ℤ ∑ n f
∑_natural n f h = omega (arith, ints, ∑_mono n (λ i. pos 0) f h, ∑_zero n (λ i. pos 0) (λ i p. refl))

-- nothing past the first n of m numbers
pub ∑_past : (m n : ℕ) (f : ℕ → ℤ) → n ≤ m → ((i : ℕ) → n ≤ i → f i ≡ pos 0) → ∑ m f ≡ ∑ n f
unfolding ∑
∑_past zero n f h z = let e : n ≡ 0 = omega arith in rw e refl
∑_past (suc m) n f h z = elim (cases_eq n (suc m)) [
  | inl e ↦ rw e refl
  | inr d ↦ omega (arith, ints, ∑_past m n f (omega arith) z, z m (omega arith))
]

-- one number apart
pub ∑_split : (n v : ℕ) (f : ℕ → ℤ) → v < n → ∑ n f ≡ f v +ℤ ∑ n (omit v f)
unfolding ∑
∑_split zero v f h = absurd (omega arith)
∑_split (suc n) v f h = elim (cases_eq v n) [
  | inl e ↦
      let a : ∑ n f ≡ ∑ n (omit v f) = ∑_cong n f (omit v f) (λ i p. grind (arith, nat_tests)) in
      let b : omit v f n ≡ pos 0 = grind (arith, nat_tests) in
      let c : f n ≡ f v = ap f (sym e) in
      omega (arith, ints)
  | inr d ↦
      let a = ∑_split n v f (omega arith) in
      let b : omit v f n ≡ f n = grind (arith, nat_tests) in
      omega (arith, ints)
]

pub ∑_single : (n v : ℕ) (f : ℕ → ℤ) → v < n → ((i : ℕ) → i < n → (i ≡ v → ⊥) → f i ≡ pos 0) → ∑ n f ≡ f v
∑_single n v f h z =
    let a = ∑_split n v f h in
    let b : ∑ n (omit v f) ≡ pos 0 = ∑_zero n (omit v f) (λ i p. grind (arith, nat_tests, z)) in
    omega (arith, ints)

-- a number is at most a sum of numbers that are not negative
pub ∑_each : (n v : ℕ) (f : ℕ → ℤ) → v < n → ((i : ℕ) → i < n → pos 0 ≤ℤ f i) → f v ≤ℤ ∑ n f
∑_each n v f h p =
    let a = ∑_split n v f h in
    let b = ∑_natural n (omit v f) (λ i q. grind (arith, nat_tests, ints, p)) in
    omega (arith, ints)

pub count_none : (p : ℕ → Bool) → count 0 p ≡ 0
unfolding count
count_none p = refl

pub count_more : (n : ℕ) (p : ℕ → Bool) → count (n + 1) p ≡ count n p + cond (p n) 1 0
unfolding count
count_more n p = rw add-one refl

pub count_zero : (n : ℕ) (p : ℕ → Bool) → count n p ≡ 0 → (i : ℕ) → i < n → p i ≡ false
unfolding count
count_zero zero p e i h = absurd (omega arith)
count_zero (suc n) p e i h = elim (cases_eq i n) [
  | inl same ↦ ap p same ∙ last (p n) e
  | inr other ↦ count_zero n p (omega arith) i (omega arith)
]
  where
    last : (b : Bool) → count n p + cond b 1 0 ≡ 0 → b ≡ false
    last true h = absurd (omega arith)
    last false h = refl

pub count_le : (n : ℕ) (p : ℕ → Bool) → count n p ≤ n
unfolding count
count_le zero p = omega arith
count_le (suc n) p =
    let h = count_le n p in
    elim (p n) as (λ b. count n p + cond b 1 0 ≤ suc n) [ true ↦ omega arith | false ↦ omega arith ]
