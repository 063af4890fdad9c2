-- Nets by their numbers. Assumes nothing.
use Rattle.std.specs.Prelude.{◌≡◌, ℕ, ◌+◌, ◌<◌, ◌⊎◌, Result, MatchResult}
use Rattle.grid.specs.declared.nets.Net.{Net}
use Rattle.grid.specs.declared.nets.NoNet.{NoNet}

-- what a number gives: the net of this number, or the number again if it is none of a net
abbrev pub Numbers : ℕ → Result Net NoNet → Type 0
Numbers number r = MatchResult r (λ v. v.index + 1 ≡ number) (λ e. (e.0 ≡ number) × ((number ≡ 0) ⊎ (120 < number)))
