-- Building a board: one net after another, and the weights of their pairs. Assumes nothing.
use Rattle.std.specs.Prelude.{ℕ, ◌+◌, true, false, cond, ◌&&◌, ℤ, pos, ◌==◌}
use Rattle.cuts.specs.Boards.{Board, Weights}
use Rattle.cuts.specs.Sums.{put}

-- the board without nets
abbrev pub empty : Board
empty = record { nets = 0; stands = λ v. false; weight = λ v u. pos 0 }

-- b with one net more
abbrev pub added : Board → Board
added b = record { nets = b.nets + 1; stands = put b.nets true b.stands; weight = b.weight }

-- w with the weight of the pair of v and u replaced
abbrev pub paired : ℕ → ℕ → ℤ → Weights → Weights
paired v u z w i j = cond (i == v && j == u) z (cond (i == u && j == v) z (w i j))

abbrev pub weighed : ℕ → ℕ → ℤ → Board → Board
weighed v u z b = record { nets = b.nets; stands = b.stands; weight = paired v u z b.weight }
