-- What a change answers and leaves, in each case.
use Rattle.std.proofs.Common.{◌≡◌, ℕ, true, Some, sym, refl, subst, arith}
use Rattle.std.proofs.lemmas.Int.{ints}
use Rattle.cuts.specs.Boards.{Board, Sound}
use Rattle.cuts.specs.declared.Tie.{Tie}
use Rattle.cuts.specs.Merging.{two, merged, shift}
use Rattle.cuts.proofs.Merging.{merged_exact}
use Rattle.cuts.proofs.Sizes.{merged_lighter}
use Rattle.kernel.specs.Changes.{merge_answer, after_merging, MergesExactly}

pub merge_done : (tie : Tie) (v u : ℕ) (b : Board) → two b v u ≡ true → (Some (shift tie v b) ≡ merge_answer tie v u b) × (merged tie v u b ≡ after_merging tie v u b)
merge_done tie v u b p = rw p (refl, refl)

pub merge_exact : (tie : Tie) (v u : ℕ) (b after : Board) → Sound b → two b v u ≡ true → after ≡ merged tie v u b → MergesExactly tie v u b after
merge_exact tie v u b after sound two e = subst (MergesExactly tie v u b) (sym e) (record { exact = λ h s. merged_exact tie b v u s sound h; lighter = omega (arith, ints, merged_lighter tie b v u sound two) })
