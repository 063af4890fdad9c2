-- The standing nets, one after another.
use Rattle.std.proofs.Common.{◌≡◌, ℕ, ◌+◌, ◌<◌, Bool, true, false, cond, List, [], ◌∷◌, ◌++◌, length, take, set, sym, ap, ◌∙◌}
use Rattle.std.proofs.lemmas.List.{take_more_set, map-append, append-nil}
use Rattle.cuts.specs.Boards.{listed}
use Rattle.cuts.proofs.Building.{listed_more}
use Rattle.kernel.specs.Views.{indices}
use Rattle.grid.specs.declared.nets.Net.{Net}

pub stands_next : (row : List Net) (count : ℕ) (v : Net) (p : ℕ → Bool) → count < length row → p v.index ≡ true → indices (take count row) ≡ listed v.index p → indices (take (count + 1) (set row count v)) ≡ listed (v.index + 1) p
stands_next row count v p h there e = ap indices (take_more_set row count v h) ∙ map-append (λ (x : Net). x.index) (take count row) (v ∷ []) ∙ ap (λ l. l ++ v.index ∷ []) e ∙ sym (listed_more v.index p ∙ ap (λ b. listed v.index p ++ cond b (v.index ∷ []) []) there)

pub goes_next : (row : List Net) (count index : ℕ) (p : ℕ → Bool) → p index ≡ false → indices (take count row) ≡ listed index p → indices (take count row) ≡ listed (index + 1) p
goes_next row count index p none e = e ∙ sym (listed_more index p ∙ ap (λ b. listed index p ++ cond b (index ∷ []) []) none ∙ append-nil (listed index p))
