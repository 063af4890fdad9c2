-- Joining one net to another and opposing it, and removing a net without connections. Assumes nothing.
use Rattle.std.specs.Prelude.{◌≡◌, ℕ, ◌<◌, Bool, true, false, cond, not, ◌&&◌, ℤ, pos, ◌+ℤ◌, neg_ℤ, ◌≤ℤ◌, ◌==◌, ◌≢◌}
use Rattle.cuts.specs.Sums.{put, omit}
use Rattle.cuts.specs.Boards.{Board, Weights, Sound, Split, value, size, sizes, sum_at}
use Rattle.cuts.specs.Reductions.{Reduces}
use Rattle.cuts.specs.declared.Tie.{Tie}
use Rattle.cuts.specs.declared.Tie.TheVariants.{Joined, Opposed}

-- w with the weights at v replaced by f
abbrev pub placed : ℕ → (ℕ → ℤ) → Weights → Weights
placed v f w i j = cond (i == v) (f j) (cond (j == v) (f i) (w i j))

-- w without the connections of v
abbrev pub without : ℕ → Weights → Weights
without v w = placed v (λ j. pos 0) w

-- v and u are two nets that stand
abbrev pub two : Board → ℕ → ℕ → Bool
two b v u = not (v == u) && (b.stands v && b.stands u)

-- what u gets of a weight of v: the weight as v joins it, its negative as v is opposed to it
abbrev pub passed : Tie → ℤ → ℤ
passed Joined z = z
passed Opposed z = neg_ℤ z

-- the weights at u as v is joined to it, or opposed to it
abbrev pub grown : Tie → ℕ → ℕ → Weights → ℕ → ℤ
grown tie v u w = omit u (λ j. w u j +ℤ passed tie (w v j))

-- b as v has gone and these weights are left
abbrev pub leaving : ℕ → Weights → Board → Board
leaving v w b = record { nets = b.nets; stands = put v false b.stands; weight = w }

-- b as v has been joined to u, or opposed to it, and is gone
abbrev pub merged : Tie → ℕ → ℕ → Board → Board
merged tie v u b = leaving v (without v (placed u (grown tie v u b.weight) b.weight)) b

-- the side of v by that of u
abbrev pub beside : Tie → Bool → Bool
beside Joined side = side
beside Opposed side = not side

abbrev pub lifted : Tie → ℕ → ℕ → Split → Split
lifted tie v u s = put v (beside tie (s u)) s

-- nothing in joining, the sum of the weights at v in opposing
abbrev pub shift : Tie → ℕ → Board → ℤ
shift Joined v b = pos 0
shift Opposed v b = sum_at b v

-- pair by pair
pub record Merges (tie : Tie) (v u : ℕ) (before after : Weights) : Type 0 where
  pub with_u : (x : ℕ) → (x ≢ v) → (x ≢ u) → after u x ≡ before u x +ℤ passed tie (before v x)
  pub with_v : (x : ℕ) → after v x ≡ pos 0
  pub others : (x y : ℕ) → (x ≢ v) → (x ≢ u) → (y ≢ v) → (y ≢ u) → after x y ≡ before x y

abbrev pub MergedWeights : Type 0
MergedWeights = (tie : Tie) (b : Board) (v u : ℕ) → two b v u ≡ true → Merges tie v u b.weight (merged tie v u b).weight

abbrev pub MergedSound : Type 0
MergedSound = (tie : Tie) (b : Board) (v u : ℕ) → Sound b → two b v u ≡ true → Sound (merged tie v u b)

abbrev pub MergedExact : Type 0
MergedExact = (tie : Tie) (b : Board) (v u : ℕ) (s : Split) → Sound b → two b v u ≡ true → value b (lifted tie v u s) ≡ value (merged tie v u b) s +ℤ shift tie v b

abbrev pub MergedLighter : Type 0
MergedLighter = (tie : Tie) (b : Board) (v u : ℕ) → Sound b → two b v u ≡ true → (sizes (merged tie v u b) +ℤ size (b.weight v u)) ≤ℤ sizes b

-- v may as well be where lifting puts it
abbrev pub Settled : Tie → ℕ → ℕ → Board → Type 0
Settled tie v u b = (s : Split) → (t : Split) × (t v ≡ beside tie (t u)) × (value b s ≤ℤ value b t)

abbrev pub MergedReduces : Type 0
MergedReduces = (tie : Tie) (b : Board) (v u : ℕ) → Sound b → two b v u ≡ true → Settled tie v u b → Reduces b (merged tie v u b) (lifted tie v u) (shift tie v b)

-- v has no connection
abbrev pub Lone : ℕ → Board → Type 0
Lone v b = (u : ℕ) → u < b.nets → b.weight v u ≡ pos 0

-- b without v
abbrev pub removed : ℕ → Board → Board
removed v b = leaving v b.weight b

abbrev pub RemovedReduces : Type 0
RemovedReduces = (b : Board) (v : ℕ) → Sound b → Lone v b → Reduces b (removed v b) (put v false) (pos 0)
