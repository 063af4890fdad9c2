-- Words of a text. Assumes nothing.
use Rattle.std.specs.Prelude.{ℕ, ◌<◌, List, length, ◌≢◌, slice_index}

-- the byte c does not stand in s
abbrev pub Lacks : ℕ → List ℕ → Type 0
Lacks c s = (i : ℕ) → i < length s → slice_index s i ≢ c

-- a word: one or more bytes other than the space and the line's end
pub record Word (s : List ℕ) : Type 0 where
  pub some : 0 < length s
  pub spaceless : Lacks 32 s
  pub endless : Lacks 10 s
