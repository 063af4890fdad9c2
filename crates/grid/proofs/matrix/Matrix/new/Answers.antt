use Rattle.std.proofs.Common.{[], pos, ap, length, refl, replicate, ◌∙◌}
use mathlib.Core.Path.{fun_ext}
use Rattle.std.proofs.lemmas.List.{get_or-replicate, length-replicate}
use Rattle.grid.proofs.Rows.{weightless}
use Rattle.grid.proofs.matrix.Matrix.new.Goals as goal

pub invariant_of-result : goal.invariant_of-result
invariant_of-result c = record { long = refl; wide = λ v h. ap length (get_or-replicate 120 v (replicate 120 (pos 0)) [] h) ∙ length-replicate 120 (pos 0) }

pub returns : goal.returns
returns c = fun_ext (λ v. fun_ext (λ u. weightless 120 120 v u))
