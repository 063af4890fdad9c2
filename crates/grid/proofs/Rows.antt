-- Writes to the rows of weights.
use Rattle.std.proofs.Common.{◌≡◌, ℕ, ◌+◌, ◌<◌, ◌≤◌, cond, ◌&&◌, eqb, ltb, ◌⊎◌, List, [], length, get_or, set, replicate, ℤ, pos, ap, ◌∙◌, sym, inl, inr, arith, length-set}
use mathlib.Core.HLevel.{is_prop→PathP}
use mathlib.Core.Path.{fun_ext}
use denote.Struct.Props.{props}
use Rattle.std.proofs.lemmas.List.{get_or-set_same, get_or-set_other, get_or_past, ext_get_or, get_or-replicate, length-replicate}
use Rattle.std.proofs.lemmas.Bool.{cases_eq, cases_lt, cases_order}
use Rattle.std.proofs.lemmas.Bool.Decides.{nat_tests}
use Rattle.cuts.specs.Boards.{Weights}
use Rattle.cuts.specs.Building.{paired}
use Rattle.cuts.specs.Merging.{placed}
use Rattle.grid.specs.Matrices.{weight_in}
use Rattle.grid.specs.Rows.{weight_at, Wide}
use Rattle.grid.specs.declared.matrix.Matrix.{Matrix}

-- no weights anywhere
pub weightless : (n m : ℕ) (v u : ℕ) → weight_at (replicate n (replicate m (pos 0))) v u ≡ pos 0
weightless n m v u = elim (cases_lt v n) [
  | inl h ↦ ap (λ (row : List ℤ). get_or row u (pos 0)) (get_or-replicate n v (replicate m (pos 0)) [] h) ∙ inside
  | inr h ↦ ap (λ (row : List ℤ). get_or row u (pos 0)) (get_or_past (replicate n (replicate m (pos 0))) v [] (omega (arith, length-replicate n (replicate m (pos 0)))))
]
  where
    inside : get_or (replicate m (pos 0)) u (pos 0) ≡ pos 0
    inside = elim (cases_lt u m) [
      | inl h ↦ get_or-replicate m u (pos 0) (pos 0) h
      | inr h ↦ get_or_past (replicate m (pos 0)) u (pos 0) (omega (arith, length-replicate m (pos 0)))
    ]

-- matrices of the same rows are the same, and so are those of the same weights
pub same_matrix : (m n : Matrix) → m.rows ≡ n.rows → m ≡ n
same_matrix m n same = λ i. record {
  rows = same i;
  long = is_prop→PathP (λ j. length (same j) ≡ 120) (λ j. hlevel props) m.long n.long i;
  wide = is_prop→PathP (λ j. Wide (same j)) (λ j. hlevel props) m.wide n.wide i;
}

pub same_weights : (m n : Matrix) → weight_in m ≡ weight_in n → m ≡ n
same_weights m n e = same_matrix m n (ext_get_or [] m.rows n.rows (m.long ∙ sym n.long) row)
  where
    row : (v : ℕ) → v < length m.rows → get_or m.rows v [] ≡ get_or n.rows v []
    row v h = ext_get_or (pos 0) _ _ (m.wide v (omega (arith, m.long)) ∙ sym (n.wide v (omega (arith, m.long)))) (λ u p. ap (λ (w : Weights). w v u) e)

-- w with the weight at v, u replaced, and not that at u, v
abbrev one : ℕ → ℕ → ℤ → Weights → Weights
one v u z w x y = cond (eqb x v && eqb y u) z (w x y)

set_one : (rows : List (List ℤ)) (v u : ℕ) (z : ℤ) → v < length rows → u < length (get_or rows v []) → (x y : ℕ) → weight_at (set rows v (set (get_or rows v []) u z)) x y ≡ one v u z (weight_at rows) x y
set_one rows v u z p q x y = elim (cases_eq x v) [
  | inl e ↦
      let row : get_or (set rows v (set (get_or rows v []) u z)) x [] ≡ set (get_or rows v []) u z = ap (λ k. get_or (set rows v (set (get_or rows v []) u z)) k []) e ∙ get_or-set_same rows v (set (get_or rows v []) u z) [] p in
      let here = ap (λ (r : List ℤ). get_or r y (pos 0)) row in
      let old : weight_at rows x y ≡ get_or (get_or rows v []) y (pos 0) = ap (λ k. get_or (get_or rows k []) y (pos 0)) e in
      elim (cases_eq y u) [
        | inl e' ↦
            let a = ap (λ k. get_or (set (get_or rows v []) u z) k (pos 0)) e' ∙ get_or-set_same (get_or rows v []) u z (pos 0) q in
            grind (arith, nat_tests)
        | inr d ↦
            let a = get_or-set_other (get_or rows v []) u y z (pos 0) d in
            grind (arith, nat_tests)
      ]
  | inr d ↦
      let a = ap (λ (r : List ℤ). get_or r y (pos 0)) (get_or-set_other rows v x (set (get_or rows v []) u z) [] d) in
      grind (arith, nat_tests)
]

-- the rows keep their lengths as one weight is written
wide_set : (rows : List (List ℤ)) (v u : ℕ) (z : ℤ) → length rows ≡ 120 → Wide rows → v < 120 → Wide (set rows v (set (get_or rows v []) u z))
wide_set rows v u z long wide p x h = elim (cases_eq x v) [
  | inl e ↦ ap (λ k. length (get_or (set rows v (set (get_or rows v []) u z)) k [])) e ∙ ap length (get_or-set_same rows v (set (get_or rows v []) u z) [] (omega arith)) ∙ length-set (get_or rows v []) u z ∙ wide v p
  | inr d ↦ ap length (get_or-set_other rows v x (set (get_or rows v []) u z) [] d) ∙ wide x h
]

pub set_pair : (rows : List (List ℤ)) (v u : ℕ) (z : ℤ) → length rows ≡ 120 → Wide rows → v < 120 → u < 120 → weight_at (set (set rows u (set (get_or rows u []) v z)) v (set (get_or (set rows u (set (get_or rows u []) v z)) v []) u z)) ≡ paired v u z (weight_at rows)
set_pair rows v u z long wide p q = fun_ext (λ x. fun_ext (λ y.
    set_one first v u z (omega (arith, length-set rows u (set (get_or rows u []) v z))) (omega (arith, wide_set rows u v z long wide q v p)) x y
    ∙ ap (λ t. cond (eqb x v && eqb y u) z t) (set_one rows u v z (omega arith) (omega (arith, wide u q)) x y)))
  where
    first : List (List ℤ)
    first = set rows u (set (get_or rows u []) v z)

-- ---- a row and a column, written as far as k
abbrev pub upto : ℕ → ℕ → (ℕ → ℤ) → Weights → Weights
upto k v f w x y = cond (eqb x v && ltb y k) (f y) (cond (eqb y v && ltb x k) (f x) (w x y))

pub upto_more : (k v : ℕ) (f : ℕ → ℤ) (w : Weights) → paired v k (f k) (upto k v f w) ≡ upto (k + 1) v f w
upto_more k v f w = fun_ext (λ x. fun_ext (λ y. at x y (cases_order x k) (cases_order y k)))
  where
    at : (x y : ℕ) → (x ≡ k) ⊎ ((x < k) ⊎ (k < x)) → (y ≡ k) ⊎ ((y < k) ⊎ (k < y)) → paired v k (f k) (upto k v f w) x y ≡ upto (k + 1) v f w x y
    at x y p q = grind (arith, nat_tests)

-- past the rows there is nothing, before and after
pub upto_all : (v : ℕ) (row : List ℤ) (rows : List (List ℤ)) → length row ≡ 120 → length rows ≡ 120 → Wide rows → upto 120 v (λ u. get_or row u (pos 0)) (weight_at rows) ≡ placed v (λ u. get_or row u (pos 0)) (weight_at rows)
upto_all v row rows len long wide = fun_ext (λ x. fun_ext (λ y. at x y))
  where
    past : (u : ℕ) → 120 ≤ u → get_or row u (pos 0) ≡ pos 0
    past u h = get_or_past row u (pos 0) (omega arith)

    below : (x : ℕ) → 120 ≤ x → (y : ℕ) → weight_at rows x y ≡ pos 0
    below x h y = ap (λ (r : List ℤ). get_or r y (pos 0)) (get_or_past rows x [] (omega arith))

    beside : (x y : ℕ) → 120 ≤ y → weight_at rows x y ≡ pos 0
    beside x y h = elim (cases_lt x 120) [
      | inl p ↦ get_or_past (get_or rows x []) y (pos 0) (omega (arith, wide x p))
      | inr p ↦ below x p y
    ]

    at : (x y : ℕ) → upto 120 v (λ u. get_or row u (pos 0)) (weight_at rows) x y ≡ placed v (λ u. get_or row u (pos 0)) (weight_at rows) x y
    at x y = elim (cases_lt x 120) [
      | inl p ↦ elim (cases_lt y 120) [
        | inl q ↦ grind (arith, nat_tests)
        | inr q ↦
            let a = past y q in
            let b = beside x y q in
            grind (arith, nat_tests)
      ]
      | inr p ↦
          let a = past x p in
          let b = below x p y in
          elim (cases_lt y 120) [
            | inl q ↦ grind (arith, nat_tests)
            | inr q ↦
                let e = past y q in
                grind (arith, nat_tests)
          ]
    ]
