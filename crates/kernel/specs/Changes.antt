-- What each change of a kernel answers, and the board that it leaves. Assumes nothing.
use Rattle.std.specs.Prelude.{◌≡◌, ℕ, Bool, true, cond, ◌&&◌, ℤ, pos, ◌+ℤ◌, ◌≤ℤ◌, Some, None, Ok, Err, Option, Result, ◌==◌, int_le, nat_lt}
use Rattle.cuts.specs.Boards.{Board, Split, value, sizes, connections}
use Rattle.cuts.specs.Building.{added, weighed}
use Rattle.cuts.specs.Merging.{two, merged, lifted, removed, shift}
use Rattle.cuts.specs.declared.Tie.{Tie}
use Rattle.kernel.specs.declared.changes.SetRefusal.{SetRefusal}
use Rattle.kernel.specs.declared.changes.SetRefusal.TheVariants.{NotTwo, TooHeavy}

-- there is room for one net more
abbrev pub roomy : Board → Bool
roomy b = nat_lt b.nets 120

abbrev pub after_adding : Board → Board
after_adding b = cond (roomy b) (added b) b

-- the sum of sizes is not over the limit
abbrev pub light : Board → Bool
light b = int_le (sizes b) (pos 100000000)

abbrev pub set_answer : ℕ → ℕ → ℤ → Board → Result Unit SetRefusal
set_answer v u z b = cond (two b v u) (cond (light (weighed v u z b)) (Ok tt) (Err TooHeavy)) (Err NotTwo)

abbrev pub after_setting : ℕ → ℕ → ℤ → Board → Board
after_setting v u z b = cond (two b v u && light (weighed v u z b)) (weighed v u z b) b

abbrev pub merge_answer : Tie → ℕ → ℕ → Board → Option ℤ
merge_answer tie v u b = cond (two b v u) (Some (shift tie v b)) None

abbrev pub after_merging : Tie → ℕ → ℕ → Board → Board
after_merging tie v u b = cond (two b v u) (merged tie v u b) b

-- every split afterwards, lifted, is worth exactly the shift more before; and the sum of sizes has not grown
pub record MergesExactly (tie : Tie) (v u : ℕ) (before after : Board) : Type 0 where
  pub exact : two before v u ≡ true → (s : Split) → value before (lifted tie v u s) ≡ value after s +ℤ shift tie v before
  pub lighter : sizes after ≤ℤ sizes before

-- v stands and has no connection
abbrev pub removable : ℕ → Board → Bool
removable v b = b.stands v && connections b v == 0

abbrev pub after_removing : ℕ → Board → Board
after_removing v b = cond (removable v b) (removed v b) b
