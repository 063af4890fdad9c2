-- Kernels of one view are the same in memory.
use Rattle.std.proofs.Common.{◌≡◌, ◌≤◌, Bool, false, ◌&&◌, eqb, int_eq, List, length, ℤ, pos, Decides, refl, ◌≤ℤ◌, sym, ap, ◌∙◌}
use mathlib.Core.HLevel.{is_prop→PathP}
use denote.Struct.Props.{props}
use mathlib.Core.Bool.{beq}
use Rattle.std.specs.Cmp.{booleans_Decides}
use Rattle.std.specs.Cmp.Lexicographic.{pointwise}
use Rattle.std.proofs.lemmas.Bool.Decides.{Decides-eqb, Decides-int_eq, Decides-at, Decides-like, Decides-and}
use Rattle.std.proofs.lemmas.List.{ext_get_or}
use Rattle.std.proofs.lemmas.Slice.Eq.{slice_eq-Decides}
use Rattle.cuts.specs.Boards.{Board, Sound, sizes}
use Rattle.grid.proofs.Rows.{same_matrix, same_weights}
use Rattle.kernel.specs.Arrays.{board_in, Counted}
use Rattle.kernel.specs.Views.{view, Faithful}
use Rattle.kernel.specs.declared.board.Kernel.{Kernel}

pub faithful : Faithful
faithful k l e =
    let n : k.nets ≡ l.nets = ap (λ (b : Board). b.nets) e in
    let s : k.standing ≡ l.standing = ext_get_or false k.standing l.standing (k.room ∙ sym l.room) (λ i h. ap (λ (b : Board). b.stands i) e) in
    let w : k.weights ≡ l.weights = same_weights k.weights l.weights (ap (λ (b : Board). b.weight) e) in
    let z : k.sizes ≡ l.sizes = k.counted ∙ ap sizes e ∙ sym l.counted in
    λ i. record {
      nets = n i;
      standing = s i;
      weights = w i;
      sizes = z i;
      room = is_prop→PathP (λ j. length (s j) ≡ 120) (λ j. hlevel props) k.room l.room i;
      few = is_prop→PathP (λ j. n j ≤ 120) (λ j. hlevel props) k.few l.few i;
      sound = is_prop→PathP (λ j. Sound (board_in (n j) (s j) (w j))) (λ j. hlevel props) k.sound l.sound i;
      counted = is_prop→PathP (λ j. Counted (n j) (s j) (w j) (z j)) (λ j. hlevel props) k.counted l.counted i;
      light = is_prop→PathP (λ j. z j ≤ℤ pos 100000000) (λ j. hlevel props) k.light l.light i;
    }

pub alike : (k l : Kernel) (r : Bool) → r ≡ (eqb k.nets l.nets && (pointwise beq k.standing l.standing && (pointwise (pointwise int_eq) k.weights.rows l.weights.rows && int_eq k.sizes l.sizes))) → Decides r (view k ≡ view l)
alike k l r e = Decides-at r _ e (Decides-like _ (λ p. λ i. board_in (p.0 i) (p.1.0 i) (same_matrix k.weights l.weights p.1.1.0 i)) (λ v. fields (faithful k l v))
    (Decides-and _ _ (Decides-eqb k.nets l.nets) (Decides-and _ _ (slice_eq-Decides booleans_Decides k.standing l.standing _ refl) (Decides-and _ _ (slice_eq-Decides rows_Decides k.weights.rows l.weights.rows _ refl) (Decides-int_eq k.sizes l.sizes)))))
  where
    rows_Decides : (a b : List ℤ) → Decides (pointwise int_eq a b) (a ≡ b)
    rows_Decides a b = slice_eq-Decides Decides-int_eq a b _ refl

    fields : k ≡ l → (k.nets ≡ l.nets) × ((k.standing ≡ l.standing) × ((k.weights.rows ≡ l.weights.rows) × (k.sizes ≡ l.sizes)))
    fields v = (ap (λ (x : Kernel). x.nets) v, (ap (λ (x : Kernel). x.standing) v, (ap (λ (x : Kernel). x.weights.rows) v, ap (λ (x : Kernel). x.sizes) v)))
