use Rattle.std.proofs.Common.{◌≡◌, ◌+◌, ◌-◌, length, rules, arith, subst}
use borrow.Rule.Slice.PartMut.{put_mid}
use Rattle.sides.proofs.Filling.{Filled, more_filled, first_bytes}
use Rattle.sides.proofs.fill.Goals as goal
use Rattle.sides.proofs.fill.Goals.{else-loop-test, then-loop-test+in_ok-n+then-n-eq0}

pub loop-preserved : goal.loop-preserved
loop-preserved g c =
    let before = c.loop.invariant in
    let full : length c.read.new.buf ≡ 60001 - c.loop.len = search rules in
    (more_filled c.read.new.buf c.in_ok-n.n before.0 full c.in_ok-n.ensures.bound.0 c.in_ok-n.ensures.bytes.0, omega (arith, before.1, c.if-n-eq0.false))

pub returns : goal.returns
returns g c =
    let before = c.loop.invariant in
    elim c.loop-test.branch [
      | else-loop-test w ↦ rw w.room-is (first_bytes before.0 (λ h. absurd (omega (arith, h, before.1, w.loop-test.false))))
      | then-loop-test+in_ok-n+then-n-eq0 w ↦
          let part = w.read.new.buf in
          let len = c.loop.len in
          let full : length part ≡ 60001 - len = search rules in
          let none : len + w.in_ok-n.n ≡ len = omega (arith, w.if-n-eq0.true) in
          let filled = more_filled part w.in_ok-n.n before.0 full w.in_ok-n.ensures.bound.0 w.in_ok-n.ensures.bytes.0 in
          rw w.room-is (first_bytes (subst (Filled _ _ (put_mid len (60001 - len) c.loop.room part)) none filled) (λ h. w.in_ok-n.ensures.bytes.1 w.if-n-eq0.true (omega (arith, h, full))))
    ]
