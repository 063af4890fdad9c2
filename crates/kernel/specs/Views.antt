-- The board that a kernel holds. Assumes nothing.
use Rattle.std.specs.Prelude.{◌≡◌, ℕ, Bool, false, cond, ◌||◌, List, [], ◌∷◌, map, take, ℤ, pos, ◌==◌}
use Rattle.cuts.specs.Boards.{Board}
use Rattle.kernel.specs.Arrays.{board_in}
use Rattle.kernel.specs.declared.board.Kernel.{Kernel}
use Rattle.grid.specs.declared.nets.Net.{Net}
use Rattle.kernel.specs.declared.order.Standing.{Standing}

abbrev pub view : Kernel → Board
view k = board_in k.nets k.standing k.weights

-- the view tells all that is in memory
abbrev pub Faithful : Type 0
Faithful = (k l : Kernel) → view k ≡ view l → k ≡ l

-- the net of index i is one of these
abbrev pub named : List Net → ℕ → Bool
named [] i = false
named (v ∷ vs) i = i == v.index || named vs i

-- f without what it has at these nets
abbrev pub besides : List Net → (ℕ → ℤ) → ℕ → ℤ
besides vs f i = cond (named vs i) (pos 0) (f i)

abbrev pub indices : List Net → List ℕ
indices vs = map (λ v. v.index) vs

abbrev pub nets_of : Standing → List Net
nets_of s = take s.count s.row
