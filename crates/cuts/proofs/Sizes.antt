-- Sums of sizes: what one net has of them, and that joining and opposing make them no larger.
use Rattle.std.proofs.Common.{◌≡◌, ℕ, ◌<◌, ◌≤◌, true, ℤ, pos, ◌+ℤ◌, ◌≤ℤ◌, refl, ap, ◌∙◌, inl, inr, arith}
use Rattle.std.proofs.lemmas.Int.{ints}
use Rattle.std.proofs.lemmas.Bool.{cases_lt}
use Rattle.std.proofs.lemmas.Bool.Decides.{nat_tests}
use Rattle.cuts.specs.Sums.{∑, pairs, omit}
use Rattle.cuts.specs.Boards.{Board, Sound, Weights, size, bulk, sizes, sizes_at, sum_at}
use Rattle.cuts.specs.Building.{added, paired, weighed}
use Rattle.cuts.specs.declared.Tie.{Tie}
use Rattle.cuts.specs.declared.Tie.TheVariants.{Joined, Opposed}
use Rattle.cuts.specs.Merging.{without, two, passed, merged, MergedLighter}
use Rattle.cuts.proofs.Sums.{∑_cong, ∑_zero, ∑_past, ∑_split, ∑_each}
use Rattle.cuts.proofs.Pairs.{pairs_cong, pairs_mono, pairs_at, pairs_natural, pairs_add, pairs_more, star, star_pairs}
use Rattle.cuts.proofs.Building.{outside, two_tells, weighed_sound}
use Rattle.cuts.proofs.Merging.{merged_is, merged_sound}

-- the sizes of all weights are those without v and those at v
bulk_at : (w : Weights) (n v : ℕ) → ((i j : ℕ) → w i j ≡ w j i) → w v v ≡ pos 0 → v < n → bulk w n ≡ bulk (without v w) n +ℤ ∑ n (λ j. size (w v j))
bulk_at w n v symmetric hollow h =
    let a = pairs_at n v (λ i j. size (w i j)) h (λ i j. ap size (symmetric i j)) in
    let e : ∑ n (omit v (λ j. size (w v j))) ≡ ∑ n (λ j. size (w v j)) = ∑_cong n _ _ (λ j p. at j) in
    let c : pairs n (without v (λ i j. size (w i j))) ≡ bulk (without v w) n = pairs_cong n _ _ (λ i j p q. grind (arith, nat_tests)) in
    omega (arith, ints)
  where
    at : (j : ℕ) → omit v (λ k. size (w v k)) j ≡ size (w v j)
    at j = grind (arith, nat_tests, ints, hollow)

pub sizes_natural : (b : Board) → pos 0 ≤ℤ sizes b
sizes_natural b = pairs_natural b.nets (λ i j. size (b.weight i j)) (λ i j. omega (arith, ints))

pub row_bounded : (b : Board) (v : ℕ) → Sound b → v < b.nets → ∑ b.nets (λ j. size (b.weight v j)) ≤ℤ sizes b
row_bounded b v sound h =
    let a = bulk_at b.weight b.nets v sound.symmetric (sound.hollow v) h in
    let c = pairs_natural b.nets (λ i j. size (without v b.weight i j)) (λ i j. omega (arith, ints)) in
    omega (arith, ints)

pub weight_bounded : (b : Board) (v u : ℕ) → Sound b → size (b.weight v u) ≤ℤ sizes b
weight_bounded b v u sound = elim (cases_lt v b.nets) [
  | inr p ↦ omega (arith, ints, sizes_natural b, ap size (sound.symmetric v u ∙ outside b u v sound p))
  | inl p ↦ elim (cases_lt u b.nets) [
    | inr q ↦ omega (arith, ints, sizes_natural b, ap size (outside b v u sound q))
    | inl q ↦
        let a = row_bounded b v sound p in
        let c = ∑_each b.nets u (λ k. size (b.weight v k)) q (λ k r. omega (arith, ints)) in
        omega (arith, ints)
  ]
]

-- rows that are longer than the board
pub sizes_row : (b : Board) (v m : ℕ) → Sound b → b.nets ≤ m → ∑ m (λ u. size (b.weight v u)) ≡ sizes_at b v
sizes_row b v m sound h = ∑_past m b.nets _ h (λ u p. ap size (outside b v u sound p))

pub sum_row : (b : Board) (v m : ℕ) → Sound b → b.nets ≤ m → ∑ m (b.weight v) ≡ sum_at b v
sum_row b v m sound h = ∑_past m b.nets _ h (λ u p. outside b v u sound p)

sized : (tie : Tie) (z : ℤ) → size (passed tie z) ≡ size z
sized Opposed z = omega (arith, ints)
sized Joined z = refl

pub merged_lighter : MergedLighter
merged_lighter tie b v u sound h =
    let t = two_tells b v u h in
    let n : ℕ = b.nets in
    let w : Weights = b.weight in
    let f : ℕ → ℤ = λ j. size (w v j) in
    let a = bulk_at w n v sound.symmetric (sound.hollow v) (sound.inside v t.first) in
    let c = pairs_add n (λ i j. size (without v w i j)) (star u f) in
    let e = star_pairs n u f (sound.inside u t.second) in
    let k = ∑_split n u f (sound.inside u t.second) in
    let m : sizes (merged tie v u b) ≤ℤ pairs n (λ i j. size (without v w i j) +ℤ star u f i j) = pairs_mono n _ _ (λ i j p q. at i j p t.apart) in
    omega (arith, ints)
  where
    starred : (i j : ℕ) → size (star u (λ k. passed tie (b.weight v k)) i j) ≡ star u (λ k. size (b.weight v k)) i j
    starred i j = grind (arith, nat_tests, sized)

    at : (i j : ℕ) → i < j → (v ≡ u → ⊥) → size ((merged tie v u b).weight i j) ≤ℤ (size (without v b.weight i j) +ℤ star u (λ k. size (b.weight v k)) i j)
    at i j p d =
        let e = merged_is tie b v u sound d i j p in
        let y = starred i j in
        omega (arith, ints, ap size e)

-- ---- the sum of sizes as the board changes
pub added_sizes : (b : Board) → Sound b → sizes (added b) ≡ sizes b
added_sizes b sound =
    let a = pairs_more b.nets (λ i j. size (b.weight i j)) in
    let c : ∑ b.nets (λ i. size (b.weight i b.nets)) ≡ pos 0 = ∑_zero b.nets _ (λ i p. ap size (outside b i b.nets sound (omega arith))) in
    omega (arith, ints)

pub weighed_sizes : (b : Board) (v u : ℕ) (z : ℤ) → Sound b → two b v u ≡ true → sizes (weighed v u z b) +ℤ size (b.weight v u) ≡ sizes b +ℤ size z
weighed_sizes b v u z sound h =
    let t = two_tells b v u h in
    let n : ℕ = b.nets in
    let w : Weights = b.weight in
    let x : Weights = paired v u z w in
    let hv = sound.inside v t.first in
    let hu = sound.inside u t.second in
    let s = weighed_sound b v u z sound h in
    let a = bulk_at w n v sound.symmetric (sound.hollow v) hv in
    let c = bulk_at x n v s.symmetric (s.hollow v) hv in
    let d : bulk (without v x) n ≡ bulk (without v w) n = pairs_cong n _ _ (λ i j p q. grind (arith, nat_tests)) in
    let e = ∑_split n u (λ j. size (w v j)) hu in
    let f = ∑_split n u (λ j. size (x v j)) hu in
    let g : x v u ≡ z = grind (arith, nat_tests) in
    let k : ∑ n (omit u (λ j. size (x v j))) ≡ ∑ n (omit u (λ j. size (w v j))) = ∑_cong n _ _ (λ j p. at j t.apart) in
    omega (arith, ints, ap size g)
  where
    at : (j : ℕ) → (v ≡ u → ⊥) → omit u (λ k. size (paired v u z b.weight v k)) j ≡ omit u (λ k. size (b.weight v k)) j
    at j d = grind (arith, nat_tests)

-- by the rows of the two nets, before and after
pub merged_sizes : (tie : Tie) (b : Board) (v u : ℕ) → Sound b → two b v u ≡ true → sizes (merged tie v u b) +ℤ (sizes_at b v +ℤ sizes_at b u) ≡ (sizes b +ℤ size (b.weight v u)) +ℤ sizes_at (merged tie v u b) u
merged_sizes tie b v u sound h =
    let t = two_tells b v u h in
    let n : ℕ = b.nets in
    let w : Weights = b.weight in
    let x : Weights = (merged tie v u b).weight in
    let hv = sound.inside v t.first in
    let hu = sound.inside u t.second in
    let s = merged_sound tie b v u sound h in
    let a = bulk_at w n v sound.symmetric (sound.hollow v) hv in
    let c = bulk_at (without v w) n u (λ i j. bare i j) (grind (arith, nat_tests, sound.hollow)) hu in
    let d = bulk_at x n u s.symmetric (s.hollow u) hu in
    let e : bulk (without u x) n ≡ bulk (without u (without v w)) n = pairs_cong n _ _ (λ i j p q. grind (arith, nat_tests)) in
    let f : ∑ n (λ j. size (without v w u j)) ≡ ∑ n (omit v (λ j. size (w u j))) = ∑_cong n _ _ (λ j p. at j t.apart) in
    let g = ∑_split n v (λ j. size (w u j)) hv in
    omega (arith, ints, ap size (sound.symmetric v u))
  where
    bare : (i j : ℕ) → without v b.weight i j ≡ without v b.weight j i
    bare i j = grind (arith, nat_tests, sound.symmetric)

    at : (j : ℕ) → (v ≡ u → ⊥) → size (without v b.weight u j) ≡ omit v (λ k. size (b.weight u k)) j
    at j d = grind (arith, nat_tests)
