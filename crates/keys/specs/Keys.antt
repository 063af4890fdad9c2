-- Keys and the words that spell them. Assumes nothing.
use Rattle.std.specs.Prelude.{◌≡◌, ℕ, List, Ok, Err, Result, ◌≢◌}
use Rattle.keys.specs.declared.kinds.KeyRefusal.{KeyRefusal}
use Rattle.keys.specs.declared.kinds.KeyRefusal.TheVariants.{Malformed}

-- the number of a refusal
abbrev pub key_number : KeyRefusal → ℕ
key_number Malformed = 12

-- no key is spelled so
abbrev pub NoKey : {K : Type 0} → (K → List ℕ) → List ℕ → Type 0
NoKey {K} spelled w = (k : K) → spelled k ≢ w

-- the key that the word spells, or a refusal if it spells none
abbrev pub ReadAs : {K : Type 0} → (K → List ℕ) → List ℕ → Result K KeyRefusal → Type 0
ReadAs spelled w (Ok k) = spelled k ≡ w
ReadAs spelled w (Err e) = (e ≡ Malformed) × NoKey spelled w
