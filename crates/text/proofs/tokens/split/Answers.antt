use Rattle.std.proofs.Common.{◌≡◌, ◌∷◌, ◌++◌, length, Some, codes, sym, ap, subst, arith, false-eqb}
use Rattle.std.proofs.lemmas.Slice.Eq.{strip_prefix_is}
use Rattle.std.proofs.lemmas.Bool.{eqb-true, eqb-false}
use Rattle.std.proofs.lemmas.Bool.Decides.{Decides-eqb}
use Rattle.keys.specs.Words.{Lacks}
use Rattle.text.proofs.Cuts.{uncut}
use Rattle.text.proofs.Split.{after_join, found, found_all, words_from}
use Rattle.text.proofs.tokens.split.Goals as goal
use Rattle.text.proofs.tokens.split.Goals.{In_ok-rest, then-is_empty-via-then-is_empty, then-is_empty-via-else-is_empty+then-is_empty-2, then-is_empty-via-else-is_empty+else-is_empty-2+then-is_empty-3, then-is_empty-via-else-is_empty+else-is_empty-2+else-is_empty-3+then-contains}

joined : (c : In_ok-rest) → c.args.line.now.bytes.now ≡ codes "join " ++ c.in_ok-rest.rest.now
joined c = strip_prefix_is Decides-eqb _ (codes "join ") (Some c.in_ok-rest.rest) c.in_ok-rest.ensures.cases

pub returns-in_err-first : goal.returns-in_err-first
returns-in_err-first c =
    rw c.from_residual-in_err-first.ensures
    (λ a b w h. uncut 32 a (b ++ 32 ∷ w) (subst (Lacks 32) (after_join h _ (joined (goal.at.returns-in_err-first c).In_ok-rest)) c.in_err-first.ensures))

pub returns-in_err-second : goal.returns-in_err-second
returns-in_err-second c =
    let cut = c.in_ok-first.ensures in
    rw c.from_residual-in_err-second.ensures
    (λ a b w h. uncut 32 b w (subst (Lacks 32) (found h _ _ _ (joined (goal.at.returns-in_err-second c).In_ok-rest) cut.0 cut.1).1 c.in_err-second.ensures))

pub returns-then-is_empty : goal.returns-then-is_empty
returns-then-is_empty c a b w h =
    let cut = c.in_ok-first.ensures in
    let cut2 = c.in_ok-second.ensures in
    let p = found_all h _ _ _ _ _ (joined (goal.at.returns-then-is_empty c).In_ok-rest) cut.0 cut.1 cut2.0 cut2.1 in
    let first = h.first.some in
    let second = h.second.some in
    let third = h.third.some in
    let x = ap length p.0 in
    let y = ap length p.1 in
    let z = ap length p.2 in
    elim c.then-is_empty.branch [
      | then-is_empty-via-then-is_empty v ↦ omega (arith, eqb-true _ 0 (sym v.if-is_empty.ensures))
      | then-is_empty-via-else-is_empty+then-is_empty-2 v ↦ omega (arith, eqb-true _ 0 (sym v.if-is_empty-2.ensures))
      | then-is_empty-via-else-is_empty+else-is_empty-2+then-is_empty-3 v ↦ omega (arith, eqb-true _ 0 (sym v.if-is_empty-3.ensures))
      | then-is_empty-via-else-is_empty+else-is_empty-2+else-is_empty-3+then-contains v ↦
          let k = v.if-contains.ensures.cases in
          subst (Lacks 32) (sym p.2) h.third.spaceless k.0 k.1 (eqb-true _ 32 (k.2 0))
    ]

pub returns : goal.returns
returns c =
    let cut = c.in_ok-first.ensures in
    let cut2 = c.in_ok-second.ensures in
    words_from _ _ _ _ _ _ c.args.line.now.endless (joined (goal.at.returns c).In_ok-rest) cut.0 cut2.0 cut.1 cut2.1 (λ i l. eqb-false _ 32 (c.if-contains.ensures.cases i 0 (omega arith) l)) (omega (arith, false-eqb _ 0 c.if-is_empty.ensures)) (omega (arith, false-eqb _ 0 c.if-is_empty-2.ensures)) (omega (arith, false-eqb _ 0 c.if-is_empty-3.ensures))
