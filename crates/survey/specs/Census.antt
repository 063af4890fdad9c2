-- The number of joins and the sum of sizes, and the refusal that no call answers. Assumes nothing.
use Rattle.std.specs.Prelude.{◌≡◌, ℕ, ◌+◌, ◌-◌, ◌^◌, min, List, [], ◌∷◌, length, unsigned_abs}
use Rattle.text.specs.declared.takers.Join.{Join}
use Rattle.survey.specs.declared.census.Never.{Never}
use Rattle.survey.specs.declared.census.Never.TheVariants.{Full}

-- a count that stops at the greatest number of 64 bits
abbrev pub capped : ℕ → ℕ
capped n = min n (2 ^ 64 - 1)

-- the sum of the weights' absolute values
abbrev pub sizes_of : {K : Type 0} → List (Join K) → ℕ
sizes_of [] = 0
sizes_of (j ∷ js) = unsigned_abs j.weight + sizes_of js

-- the joins js were counted
abbrev pub Counted : {K : Type 0} → ℕ → ℕ → List (Join K) → Type 0
Counted joins sizes js = (joins ≡ capped (length js)) × (sizes ≡ capped (sizes_of js))

-- the number of a refusal
abbrev pub never_number : Never → ℕ
never_number Full = 24
