-- Every board has one best cut.
use Rattle.std.proofs.Common.{◌≡◌, ℕ, zero, suc, ◌<◌, ◌≤◌, true, false, cond, ◌⊎◌, ℤ, ◌≤ℤ◌, sym, refl, ◌∙◌, inl, inr, arith}
use lib.Signed.{le_z}
use Rattle.std.proofs.lemmas.Int.{ints}
use Rattle.std.proofs.lemmas.Bool.{cases_Bool}
use Rattle.std.proofs.lemmas.Bool.Decides.{nat_tests}
use Rattle.cuts.specs.Sums.{put}
use Rattle.cuts.specs.Boards.{Split, value, cut}
use Rattle.cuts.specs.Values.{BestExists, BestUnique, BestNatural, BestOfNone}
use Rattle.cuts.proofs.Pairs.{pairs_zero}
use Rattle.cuts.proofs.Values.{across_like, one_side}

pub best_unique : BestUnique
best_unique b l m p q = omega (arith, ints, p.largest q.attained.0, q.largest p.attained.0, p.attained.1, q.attained.1)

pub best_natural : BestNatural
best_natural b m best = omega (arith, ints, one_side b false, best.largest (λ v. false))

pub best_of_none : BestOfNone
best_of_none b e = record {
  attained = (λ v. false, one_side b false);
  largest = λ s. omega (arith, ints, pairs_zero b.nets (λ i j. cut (s i) (s j) (b.weight i j)) (λ i j p q. absurd (omega arith)));
}

larger : ℤ → ℤ → ℤ
larger x y = cond (le_z x y) y x

larger_one : (x y : ℤ) → (larger x y ≡ x) ⊎ (larger x y ≡ y)
unfolding larger
larger_one x y = elim (le_z x y) as (λ b. (cond b y x ≡ x) ⊎ (cond b y x ≡ y)) [ true ↦ inr refl | false ↦ inl refl ]

larger_bound : (x y : ℤ) → (x ≤ℤ larger x y) × (y ≤ℤ larger x y)
unfolding larger
larger_bound x y = grind (arith, ints)

-- the largest that F has over the splits that are s from k on, by trying both sides of each net below k
top : ℕ → (Split → ℤ) → Split → ℤ
top zero F s = F s
top (suc k) F s = larger (top k F (put k true s)) (top k F (put k false s))

top_attained : (k : ℕ) (F : Split → ℤ) (s : Split) → (t : Split) × (F t ≡ top k F s)
unfolding top
top_attained zero F s = (s, refl)
top_attained (suc k) F s =
    let a = top_attained k F (put k true s) in
    let b = top_attained k F (put k false s) in
    elim (larger_one (top k F (put k true s)) (top k F (put k false s))) [
      | inl e ↦ (a.0, a.1 ∙ sym e)
      | inr e ↦ (b.0, b.1 ∙ sym e)
    ]

top_largest : (n k : ℕ) (F : Split → ℤ) (s t : Split) → ((a b : Split) → ((i : ℕ) → i < n → a i ≡ b i) → F a ≡ F b) → ((i : ℕ) → k ≤ i → i < n → t i ≡ s i) → F t ≤ℤ top k F s
unfolding top
top_largest n zero F s t like agree = omega (arith, ints, like t s (λ i p. agree i (omega arith) p))
top_largest n (suc k) F s t like agree = elim (cases_Bool (t k)) [
  | inl e ↦
      let h = top_largest n k F (put k true s) t like (λ i p q. grind (arith, nat_tests, agree)) in
      omega (arith, ints, larger_bound (top k F (put k true s)) (top k F (put k false s)))
  | inr e ↦
      let h = top_largest n k F (put k false s) t like (λ i p q. grind (arith, nat_tests, agree)) in
      omega (arith, ints, larger_bound (top k F (put k true s)) (top k F (put k false s)))
]

pub best_exists : BestExists
best_exists b =
    let F : Split → ℤ = value b in (
      top b.nets F (λ v. false),
      record {
        attained = top_attained b.nets F (λ v. false);
        largest = λ s. top_largest b.nets b.nets F (λ v. false) s (across_like b.weight b.nets) (λ i p q. absurd (omega arith));
      },
    )
