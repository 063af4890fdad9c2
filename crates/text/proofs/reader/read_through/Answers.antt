use Rattle.std.proofs.Common.{[], ◌∷◌, ◌++◌, ◌-◌, Ok, Err, sym, refl, ap, ◌∙◌, subst}
use Rattle.std.proofs.lemmas.List.{append-nil, append_assoc}
use Rattle.std.proofs.lemmas.Result.{err_from_is_err_and}
use Rattle.faults.specs.Faults.{of_line, of_join}
use Rattle.faults.specs.declared.refusals.LineFault.TheVariants.{Misformed}
use Rattle.text.specs.Boards.{headless, reading, ended, unended, wrong, refused}
use Rattle.text.proofs.Reading.{begun, more, located, line_located, wrong_here, lines_read, handed_ok, handed_err, accepts_more}
use Rattle.text.proofs.reader.read_through.Goals as goal

pub returns-in_err-lines : goal.returns-in_err-lines
returns-in_err-lines g c =
    let p = err_from_is_err_and c.from_residual-in_err-lines.result c.from_residual-in_err-lines.ensures.1 in
    let e = c.in_err-lines.ensures in
    λ before h. (before, headless e.0 c.in_ok-measure.ensures e.1 refl (p.1 ∙ ap Err (p.2 ∙ ap of_line e.2)), h)

pub loop-line-init : goal.loop-line-init
loop-line-init g c = ([], begun c.in_ok-lines.ensures, λ before h. (tt, subst (g.T.Taker.taken c.args.taker.now) (sym (append-nil before)) h))

pub returns-in_err-line : goal.returns-in_err-line
returns-in_err-line g c =
    let p = err_from_is_err_and c.from_residual-in_err-line.result c.from_residual-in_err-line.ensures.1 in
    let e = c.in_err-line.ensures in
    let i = c.loop-line.invariant in
    let d = i.1 in
    λ before h.
    (before ++ i.0, reading i.0 _ c.in_ok-measure.ensures d.whole d.fine (i.2 before h).0 refl (unended e.0 e.1.lacks (p.1 ∙ ap Err (p.2 ∙ ap of_line (e.1.fault ∙ ap Misformed (located d _))))), (i.2 before h).1)

pub returns-in_err-join : goal.returns-in_err-join
returns-in_err-join g c =
    let p = err_from_is_err_and c.from_residual-in_err-join.result c.from_residual-in_err-join.ensures.1 in
    let s = rw c.in-Some.is at c.in_ok-line.ensures in
    let i = c.loop-line.invariant in
    let d = i.1 in
    λ before h.
    (before ++ i.0, reading i.0 _ c.in_ok-measure.ensures d.whole d.fine (i.2 before h).0 refl (wrong _ _ _ s.cut c.in-Some.line.endless (wrong_here d s c.in_err-join.ensures) (p.1 ∙ ap Err p.2)), (i.2 before h).1)

pub returns-in_err-hand_on : goal.returns-in_err-hand_on
returns-in_err-hand_on g c =
    let p = err_from_is_err_and c.from_residual-in_err-hand_on.result c.from_residual-in_err-hand_on.ensures.1 in
    let s = rw c.in-Some.is at c.in_ok-line.ensures in
    let a = c.in_err-hand_on.ensures in
    let numbered = g.T.Refusal.JobRefusal.numbered in
    let i = c.loop-line.invariant in
    let d = i.1 in
    λ before h.
    let t = i.2 before h in
    let x = handed_err numbered _ _ _ (a.answers (before ++ i.0) t.1) in
    (before ++ i.0, reading i.0 _ c.in_ok-measure.ensures d.whole d.fine t.0 refl (refused _ _ c.in_ok-join.join x.0 s.cut c.in-Some.line.endless c.in_ok-join.ensures x.1 (p.1 ∙ ap Err (p.2 ∙ ap of_join x.2 ∙ ap (λ q. of_join (record { number = numbered x.0; place = q })) (c.place.ensures ∙ line_located d s)))), a.grows (before ++ i.0) t.1)

pub loop-line-preserved : goal.loop-line-preserved
loop-line-preserved g c =
    let s = rw c.in-Some.is at c.in_ok-line.ensures in
    let a = c.in_ok-hand_on.ensures in
    let i = c.loop-line.invariant in
    let j = c.in_ok-join.join in (
      i.0 ++ j ∷ [],
      more j i.1 s c.in_ok-join.ensures,
      λ before h.
          let t = i.2 before h in
          (accepts_more g.T.Taker.rule before i.0 j t.0 (handed_ok g.T.Refusal.JobRefusal.numbered _ _ (a.answers (before ++ i.0) t.1)), subst (g.T.Taker.taken c.hand_on.new.taker) (append_assoc before i.0 (j ∷ [])) (a.grows (before ++ i.0) t.1)),
    )

pub returns : goal.returns
returns g c =
    let e = rw c.in_default.is at c.in_ok-line.ensures in
    let i = c.loop-line.invariant in
    let d = i.1 in
    λ before h.
    (before ++ i.0, reading i.0 _ c.in_ok-measure.ensures d.whole d.fine (i.2 before h).0 refl (ended e.0 (ap (λ l. Ok (l.passed - 1)) e.1 ∙ ap Ok (lines_read d))), (i.2 before h).1)
