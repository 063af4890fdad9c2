-- The value of a split: how it changes with the side of one net, and how large it can be.
use Rattle.std.proofs.Common.{◌≡◌, ℕ, ◌<◌, Bool, true, false, not, ℤ, pos, ◌+ℤ◌, neg_ℤ, ◌≤ℤ◌, refl, ap, ◌∙◌, ap₂, arith}
use Rattle.std.proofs.lemmas.Int.{ints}
use Rattle.std.proofs.lemmas.Bool.Decides.{nat_tests}
use Rattle.cuts.specs.Sums.{∑, pairs, put, omit}
use Rattle.cuts.specs.Boards.{Board, Sound, Weights, Split, cut, across, size}
use Rattle.cuts.specs.Merging.{without}
use Rattle.cuts.specs.Values.{gain, OneSide, Turning, Flipping, Bounded}
use Rattle.cuts.proofs.Sums.{∑_cong, ∑_add}
use Rattle.cuts.proofs.Pairs.{pairs_cong, pairs_mono, pairs_add, pairs_zero, pairs_size, star, star_pairs}

-- ---- one pair
pub cut_same : (a : Bool) (z : ℤ) → cut a a z ≡ pos 0
cut_same true z = refl
cut_same false z = refl

pub cut_zero : (a b : Bool) → cut a b (pos 0) ≡ pos 0
cut_zero true true = refl
cut_zero true false = refl
cut_zero false true = refl
cut_zero false false = refl

cut_swap : (a b : Bool) (z : ℤ) → cut a b z ≡ cut b a z
cut_swap true true z = refl
cut_swap true false z = refl
cut_swap false true z = refl
cut_swap false false z = refl

cut_add : (a b : Bool) (y z : ℤ) → cut a b (y +ℤ z) ≡ cut a b y +ℤ cut a b z
cut_add true true y z = refl
cut_add true false y z = refl
cut_add false true y z = refl
cut_add false false y z = refl

pub cut_neg : (a b : Bool) (z : ℤ) → cut a b (neg_ℤ z) ≡ neg_ℤ (cut a b z)
cut_neg true true z = refl
cut_neg true false z = refl
cut_neg false true z = refl
cut_neg false false z = refl

-- a pair counts with its first net on the one side or on the other
pub cut_not : (a b : Bool) (z : ℤ) → cut (not a) b z +ℤ cut a b z ≡ z
cut_not true true z = omega (arith, ints)
cut_not true false z = omega (arith, ints)
cut_not false true z = omega (arith, ints)
cut_not false false z = omega (arith, ints)

cut_turned : (a b : Bool) (z : ℤ) → cut (not a) (not b) z ≡ cut a b z
cut_turned true true z = refl
cut_turned true false z = refl
cut_turned false true z = refl
cut_turned false false z = refl

cut_size : (a b : Bool) (z : ℤ) → size (cut a b z) ≤ℤ size z
cut_size true true z = omega (arith, ints)
cut_size true false z = omega (arith, ints)
cut_size false true z = omega (arith, ints)
cut_size false false z = omega (arith, ints)

gain_is : (a b : Bool) (z : ℤ) → cut (not a) b z ≡ cut a b z +ℤ gain a b z
gain_is true true z = omega (arith, ints)
gain_is true false z = omega (arith, ints)
gain_is false true z = omega (arith, ints)
gain_is false false z = omega (arith, ints)

-- ---- all pairs
pub across_cong : (w x : Weights) (n : ℕ) (s t : Split) → ((i j : ℕ) → i < j → j < n → cut (s i) (s j) (w i j) ≡ cut (t i) (t j) (x i j)) → across w n s ≡ across x n t
across_cong w x n s t h = pairs_cong n _ _ h

-- splits that agree on the nets have one value
pub across_like : (w : Weights) (n : ℕ) (s t : Split) → ((i : ℕ) → i < n → s i ≡ t i) → across w n s ≡ across w n t
across_like w n s t h = across_cong w w n s t (λ i j p q. ap₂ (λ x y. cut x y (w i j)) (h i (omega arith)) (h j q))

pub across_add : (w x : Weights) (n : ℕ) (s : Split) → across (λ i j. w i j +ℤ x i j) n s ≡ across w n s +ℤ across x n s
across_add w x n s = pairs_cong n _ _ (λ i j p q. cut_add (s i) (s j) (w i j) (x i j)) ∙ pairs_add n (λ i j. cut (s i) (s j) (w i j)) (λ i j. cut (s i) (s j) (x i j))

pub star_across : (n v : ℕ) (f : ℕ → ℤ) (s : Split) → v < n → across (star v f) n s ≡ ∑ n (λ j. cut (s v) (s j) (f j))
star_across n v f s h =
    let g : ℕ → ℤ = λ j. cut (s v) (s j) (f j) in
    let a : across (star v f) n s ≡ pairs n (star v g) = pairs_cong n _ _ (λ i j p q. at i j) in
    let b = star_pairs n v g h in
    let c : ∑ n (omit v g) ≡ ∑ n g = ∑_cong n _ _ (λ i p. middle i) in
    omega (arith, ints)
  where
    at : (i j : ℕ) → cut (s i) (s j) (star v f i j) ≡ star v (λ k. cut (s v) (s k) (f k)) i j
    at i j = grind (arith, nat_tests, cut_zero, cut_swap)

    middle : (i : ℕ) → omit v (λ k. cut (s v) (s k) (f k)) i ≡ cut (s v) (s i) (f i)
    middle i = grind (arith, nat_tests, cut_same)

-- the value is that of the pairs without v, and that of the pairs of v
across_at : (b : Board) (v : ℕ) (s : Split) → Sound b → v < b.nets → across b.weight b.nets s ≡ across (without v b.weight) b.nets s +ℤ ∑ b.nets (λ j. cut (s v) (s j) (b.weight v j))
across_at b v s sound h =
    let w : Weights = b.weight in
    let a = across_add (without v w) (star v (w v)) b.nets s in
    let e = star_across b.nets v (w v) s h in
    let c : across w b.nets s ≡ across (λ i j. without v w i j +ℤ star v (w v) i j) b.nets s = across_cong w _ b.nets s s (λ i j p q. ap (cut (s i) (s j)) (at i j p)) in
    omega (arith, ints)
  where
    at : (i j : ℕ) → i < j → b.weight i j ≡ without v b.weight i j +ℤ star v (b.weight v) i j
    at i j p = grind (arith, nat_tests, ints, sound.symmetric)

-- the value with v on this side
pub across_put : (b : Board) (v : ℕ) (side : Bool) (s : Split) → Sound b → v < b.nets → across b.weight b.nets (put v side s) ≡ across (without v b.weight) b.nets s +ℤ ∑ b.nets (λ j. cut side (s j) (b.weight v j))
across_put b v side s sound h =
    let n : ℕ = b.nets in
    let w : Weights = b.weight in
    let a = across_at b v (put v side s) sound h in
    let c : across (without v w) n (put v side s) ≡ across (without v w) n s = across_cong _ _ n (put v side s) s (λ i j p q. grind (arith, nat_tests, cut_zero)) in
    let e : ∑ n (λ j. cut (put v side s v) (put v side s j) (w v j)) ≡ ∑ n (λ j. cut side (s j) (w v j)) = ∑_cong n _ _ (λ j p. at j) in
    omega (arith, ints)
  where
    at : (j : ℕ) → cut (put v side s v) (put v side s j) (b.weight v j) ≡ cut side (s j) (b.weight v j)
    at j = grind (arith, nat_tests, cut_zero, cut_same, sound.hollow)

pub flipping : Flipping
flipping b s v sound h =
    let n : ℕ = b.nets in
    let w : Weights = b.weight in
    let a = across_at b v s sound h in
    let c = across_put b v (not (s v)) s sound h in
    let d : ∑ n (λ j. cut (not (s v)) (s j) (w v j)) ≡ ∑ n (λ j. cut (s v) (s j) (w v j) +ℤ gain (s v) (s j) (w v j)) = ∑_cong n _ _ (λ j p. gain_is (s v) (s j) (w v j)) in
    let e = ∑_add n (λ j. cut (s v) (s j) (w v j)) (λ j. gain (s v) (s j) (w v j)) in
    omega (arith, ints)

pub one_side : OneSide
one_side b side = pairs_zero b.nets _ (λ i j p q. cut_same side (b.weight i j))

pub turning : Turning
turning b s = pairs_cong b.nets _ _ (λ i j p q. cut_turned (s i) (s j) (b.weight i j))

pub bounded : Bounded
bounded b s =
    let w : Weights = b.weight in
    omega (arith, ints, pairs_size b.nets (λ i j. cut (s i) (s j) (w i j)), pairs_mono b.nets (λ i j. size (cut (s i) (s j) (w i j))) (λ i j. size (w i j)) (λ i j p q. cut_size (s i) (s j) (w i j)))
