use Rattle.std.proofs.lemmas.Result.{err_from_is_err_and}
use Rattle.text.proofs.Wrongs.{first_wrong, second_wrong, weight_wrong}
use Rattle.text.proofs.tokens.read_join.Goals as goal

pub returns-in_err-first : goal.returns-in_err-first
returns-in_err-first g c =
    let p = err_from_is_err_and c.from_residual-in_err-first.result c.from_residual-in_err-first.ensures.1 in
    let e = c.in_err-first.ensures in
    rw p.1 (λ F begins. first_wrong c.in_ok-parts.ensures p.2 F begins e.0 e.1)

pub returns-in_err-second : goal.returns-in_err-second
returns-in_err-second g c =
    let p = err_from_is_err_and c.from_residual-in_err-second.result c.from_residual-in_err-second.ensures.1 in
    let e = c.in_err-second.ensures in
    rw p.1 (λ F begins. second_wrong c.in_ok-parts.ensures p.2 F begins c.in_ok-first.first c.in_ok-first.ensures e.0 e.1)

pub returns-in_err-weight : goal.returns-in_err-weight
returns-in_err-weight g c =
    let p = err_from_is_err_and c.from_residual-in_err-weight.result c.from_residual-in_err-weight.ensures.1 in
    let e = c.in_err-weight.ensures in
    rw p.1 (λ F begins. weight_wrong c.in_ok-parts.ensures p.2 F begins c.in_ok-first.first c.in_ok-second.second c.in_ok-first.ensures c.in_ok-second.ensures e.0 e.1)
