-- What is written to the arrays of a kernel is written to the board that it holds.
use Rattle.std.proofs.Common.{◌≡◌, ℕ, ◌<◌, ◌≤◌, Bool, false, List, length, get_or, set, replicate, ℤ, pos, ◌≤ℤ◌, ap, ◌∙◌, ap₂, inl, inr, arith}
use mathlib.Core.Path.{fun_ext}
use Rattle.std.proofs.lemmas.List.{get_or-set_same, get_or-set_other, get_or_past, get_or-replicate, length-replicate}
use Rattle.std.proofs.lemmas.Int.{ints}
use Rattle.std.proofs.lemmas.Bool.{cases_eq, cases_lt}
use Rattle.std.proofs.lemmas.Bool.Decides.{nat_tests}
use Rattle.cuts.specs.Boards.{Weights, size}
use Rattle.cuts.specs.Building.{empty, paired, weighed}
use Rattle.cuts.specs.Merging.{placed, grown, merged}
use Rattle.cuts.specs.Sums.{put}
use Rattle.cuts.specs.declared.Tie.{Tie}
use Rattle.cuts.proofs.Merging.{passed_zero}
use Rattle.cuts.proofs.Building.{outside}
use Rattle.cuts.proofs.Sizes.{weight_bounded}
use Rattle.grid.specs.Matrices.{weight_in}
use Rattle.grid.specs.declared.matrix.Matrix.{Matrix}
use Rattle.kernel.specs.Arrays.{stands_in, board_in}
use Rattle.kernel.specs.Views.{view}
use Rattle.kernel.specs.declared.board.Kernel.{Kernel}

pub stands_set : (standing : List Bool) (v : ℕ) (side : Bool) → v < length standing → stands_in (set standing v side) ≡ put v side (stands_in standing)
stands_set standing v side h = fun_ext (λ x. elim (cases_eq x v) [
  | inl e ↦
      let a = ap (λ k. get_or (set standing v side) k false) e ∙ get_or-set_same standing v side false h in
      grind (arith, nat_tests)
  | inr d ↦
      let a = get_or-set_other standing v x side false d in
      grind (arith, nat_tests)
])

pub repeated : {A : Type 0} (n : ℕ) (a : A) (i : ℕ) → get_or (replicate n a) i a ≡ a
repeated n a i = elim (cases_lt i n) [
  | inl h ↦ get_or-replicate n i a a h
  | inr h ↦ get_or_past (replicate n a) i a (omega (arith, length-replicate n a))
]

pub board_empty : (m : ℕ) (weights : Matrix) → weight_in weights ≡ (λ v u. pos 0) → board_in 0 (replicate m false) weights ≡ empty
board_empty m weights e = ap₂ (λ (s : ℕ → Bool) (w : Weights). record { nets = 0; stands = s; weight = w }) (fun_ext (λ v. repeated m false v)) e

-- the board after a change of which nets stand
pub restood : (k : Kernel) (nets v : ℕ) (side : Bool) → v < length k.standing → board_in nets (set k.standing v side) k.weights ≡ record { nets = nets; stands = put v side (stands_in k.standing); weight = weight_in k.weights }
restood k nets v side h = ap (λ (s : ℕ → Bool). record { nets = nets; stands = s; weight = weight_in k.weights }) (stands_set k.standing v side h)

-- the board after the weight of a pair has been written
pub repaired : (k : Kernel) (weights : Matrix) (v u : ℕ) (z weight : ℤ) → z ≡ weight → weight_in weights ≡ paired v u z (weight_in k.weights) → board_in k.nets k.standing weights ≡ weighed v u weight (view k)
repaired k weights v u z weight e h = ap (λ (w : Weights). record { nets = k.nets; stands = stands_in k.standing; weight = w }) (h ∙ ap (λ x. paired v u x (weight_in k.weights)) e)

pub light_weights : (k : Kernel) (v u : ℕ) → size (weight_in k.weights v u) ≤ℤ pos 100000000
light_weights k v u = omega (arith, ints, k.light, k.counted, weight_bounded (view k) v u k.sound)

-- the weights after a row has been replaced and another one has been cleared
pub put_merged : (k : Kernel) (tie : Tie) (v u : ℕ) (first last : Matrix) (row : List ℤ) → ((j : ℕ) → get_or row j (pos 0) ≡ grown tie v u (weight_in k.weights) j) → weight_in first ≡ placed u (λ j. get_or row j (pos 0)) (weight_in k.weights) → weight_in last ≡ placed v (λ j. get_or (replicate 120 (pos 0)) j (pos 0)) (weight_in first) → weight_in last ≡ (merged tie v u (view k)).weight
put_merged k tie v u first last row given replaced cleared = cleared ∙ ap₂ (placed v) (fun_ext (λ j. repeated 120 (pos 0) j)) (replaced ∙ ap (λ f. placed u f (weight_in k.weights)) (fun_ext given))

-- the board after two nets have been merged
pub remerged : (k : Kernel) (tie : Tie) (weights : Matrix) (v u : ℕ) → v < length k.standing → weight_in weights ≡ (merged tie v u (view k)).weight → board_in k.nets (set k.standing v false) weights ≡ merged tie v u (view k)
remerged k tie weights v u h e = ap₂ (λ (s : ℕ → Bool) (w : Weights). record { nets = k.nets; stands = s; weight = w }) (stands_set k.standing v false h) e

-- a net past the rows gets nothing
pub grown_outside : (tie : Tie) (v u : ℕ) (k : Kernel) (j : ℕ) → 120 ≤ j → grown tie v u (weight_in k.weights) j ≡ pos 0
grown_outside tie v u k j h =
    let a = out v in
    let b = out u in
    grind (arith, nat_tests, ints, passed_zero)
  where
    out : (x : ℕ) → weight_in k.weights x j ≡ pos 0
    out x = outside (view k) x j k.sound (omega (arith, k.few))
