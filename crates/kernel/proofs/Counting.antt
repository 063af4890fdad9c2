-- Sums that count, and nets that are spared.
use Rattle.std.proofs.Common.{◌≡◌, ℕ, zero, suc, Bool, ◌||◌, cond, eqb, ◌==◌, List, [], ◌∷◌, pos, refl, ap₂, arith}
use Rattle.std.specs.List.{list_any}
use Rattle.std.proofs.lemmas.Bool.Decides.{nat_tests}
use Rattle.std.proofs.lemmas.Int.{ints}
use Rattle.cuts.specs.Sums.{∑, count}
use Rattle.kernel.specs.Views.{named}
use Rattle.grid.specs.declared.nets.Net.{Net}

turned : (a b : ℕ) → eqb a b ≡ (b == a)
turned a b = grind (arith, nat_tests)

pub spares : (nets : List Net) (v : Net) → list_any (λ (y : Net). eqb y.index v.index) nets ≡ named nets v.index
spares [] v = refl
spares (x ∷ nets) v = ap₂ ◌||◌ (turned x.index v.index) (spares nets v)

-- ones are summed to their count
pub counted : (n : ℕ) (p : ℕ → Bool) → ∑ n (λ u. pos (cond (p u) 1 0)) ≡ pos (count n p)
unfolding ∑ count
counted zero p = refl
counted (suc n) p = omega (arith, ints, counted n p)
