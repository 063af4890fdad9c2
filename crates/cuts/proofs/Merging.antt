-- Joining and opposing are exact.
use Rattle.std.proofs.Common.{◌≡◌, ℕ, ◌<◌, true, false, not, ℤ, pos, ◌+ℤ◌, neg_ℤ, sym, refl, ap, ◌∙◌, inl, inr, arith}
use Rattle.std.proofs.lemmas.Int.{ints}
use Rattle.std.proofs.lemmas.Bool.{cases_eq, both_ways}
use Rattle.std.proofs.lemmas.Bool.Decides.{nat_tests}
use Rattle.cuts.specs.Sums.{∑, put}
use Rattle.cuts.specs.Boards.{Board, Sound, Weights, Split, cut, across, value}
use Rattle.cuts.specs.declared.Tie.{Tie}
use Rattle.cuts.specs.declared.Tie.TheVariants.{Joined, Opposed}
use Rattle.cuts.specs.Merging.{without, passed, merged, MergedWeights, MergedSound, MergedExact}
use Rattle.cuts.proofs.Building.{two_tells}
use Rattle.cuts.proofs.Sums.{∑_cong, ∑_add, ∑_neg}
use Rattle.cuts.proofs.Pairs.{star}
use Rattle.cuts.proofs.Values.{cut_neg, cut_not, across_cong, across_add, star_across, across_put}

pub passed_zero : (tie : Tie) → passed tie (pos 0) ≡ pos 0
passed_zero Opposed = refl
passed_zero Joined = refl

pub merged_weights : MergedWeights
merged_weights tie b v u h =
    let apart = (two_tells b v u h).apart in
    record {
      with_u = λ x p q. grind (arith, nat_tests);
      with_v = λ x. grind (arith, nat_tests);
      others = λ x y p q r s. grind (arith, nat_tests);
    }

pub merged_sound : MergedSound
merged_sound tie b v u sound h =
    let t = two_tells b v u h in
    record {
      inside = λ x p. grind (arith, nat_tests, sound.inside);
      symmetric = λ x y. grind (arith, nat_tests, sound.symmetric);
      hollow = λ x. grind (arith, nat_tests, sound.hollow);
      bare = λ x y p. bare x y p (two_tells b v u h).second;
    }
  where
    at : (x y : ℕ) → (x ≡ u → ⊥) → ((z : ℕ) → b.weight x z ≡ pos 0) → ((z : ℕ) → b.weight z x ≡ pos 0) → (merged tie v u b).weight x y ≡ pos 0
    at x y d row column = grind (arith, nat_tests, row, column, passed_zero)

    bare : (x y : ℕ) → put v false b.stands x ≡ false → b.stands u ≡ true → (merged tie v u b).weight x y ≡ pos 0
    bare x y p q = elim (cases_eq x v) [
      | inl e ↦ grind (arith, nat_tests)
      | inr d ↦
          let gone : b.stands x ≡ false = grind (arith, nat_tests) in
          at x y (λ e. both_ways (b.stands u) (ap b.stands (sym e) ∙ gone) q) (λ z. sound.bare x z gone) (λ z. sound.symmetric z x ∙ sound.bare x z gone)
    ]

-- the pairs of other nets, and those of u with what it gets
pub merged_is : (tie : Tie) (b : Board) (v u : ℕ) → Sound b → (v ≡ u → ⊥) → (i j : ℕ) → i < j → (merged tie v u b).weight i j ≡ without v b.weight i j +ℤ star u (λ k. passed tie (b.weight v k)) i j
merged_is tie b v u sound d i j p = grind (arith, nat_tests, ints, sound.symmetric, sound.hollow, passed_zero)

merged_value : (tie : Tie) (b : Board) (v u : ℕ) (s : Split) → Sound b → (v ≡ u → ⊥) → u < b.nets → value (merged tie v u b) s ≡ across (without v b.weight) b.nets s +ℤ ∑ b.nets (λ j. cut (s u) (s j) (passed tie (b.weight v j)))
merged_value tie b v u s sound d h =
    let w : Weights = b.weight in
    let given : ℕ → ℤ = λ k. passed tie (w v k) in
    let a = across_add (without v w) (star u given) b.nets s in
    let e = star_across b.nets u given s h in
    let c : value (merged tie v u b) s ≡ across (λ i j. without v w i j +ℤ star u given i j) b.nets s = across_cong _ _ b.nets s s (λ i j p q. ap (cut (s i) (s j)) (merged_is tie b v u sound d i j p)) in
    omega (arith, ints)

pub merged_exact : MergedExact
merged_exact Opposed b v u s sound h =
    let t = two_tells b v u h in
    let n : ℕ = b.nets in
    let w : Weights = b.weight in
    let a = across_put b v (not (s u)) s sound (sound.inside v t.first) in
    let m = merged_value Opposed b v u s sound t.apart (sound.inside u t.second) in
    let c : ∑ n (λ j. cut (s u) (s j) (neg_ℤ (w v j))) ≡ neg_ℤ (∑ n (λ j. cut (s u) (s j) (w v j))) = ∑_cong n _ _ (λ j p. cut_neg (s u) (s j) (w v j)) ∙ ∑_neg n (λ j. cut (s u) (s j) (w v j)) in
    let e : ∑ n (λ j. cut (not (s u)) (s j) (w v j) +ℤ cut (s u) (s j) (w v j)) ≡ ∑ n (w v) = ∑_cong n _ _ (λ j p. cut_not (s u) (s j) (w v j)) in
    let f = ∑_add n (λ j. cut (not (s u)) (s j) (w v j)) (λ j. cut (s u) (s j) (w v j)) in
    omega (arith, ints)
merged_exact Joined b v u s sound h =
    let t = two_tells b v u h in
    let a = across_put b v (s u) s sound (sound.inside v t.first) in
    let m = merged_value Joined b v u s sound t.apart (sound.inside u t.second) in
    omega (arith, ints)
