-- Joining, opposing and removing as reductions.
use Rattle.std.proofs.Common.{◌≡◌, ℕ, ◌<◌, true, false, pos, ◌+ℤ◌, refl, ap, ◌∙◌, inl, inr, arith}
use Rattle.std.proofs.lemmas.Int.{ints}
use Rattle.std.proofs.lemmas.Bool.{cases_eq, cases_lt}
use Rattle.std.proofs.lemmas.Bool.Decides.{nat_tests}
use Rattle.cuts.specs.Sums.{put}
use Rattle.cuts.specs.Boards.{Board, Sound, Split, cut, value}
use Rattle.cuts.specs.declared.Tie.{Tie}
use Rattle.cuts.specs.Merging.{two, merged, beside, lifted, shift, MergedReduces, RemovedReduces}
use Rattle.cuts.proofs.Building.{outside}
use Rattle.cuts.proofs.Merging.{merged_sound, merged_exact}
use Rattle.cuts.proofs.Sizes.{merged_lighter}
use Rattle.cuts.proofs.Values.{cut_zero, across_cong, across_like}

-- a split that has v where lifting puts it
merged_covers : (tie : Tie) (b : Board) (v u : ℕ) (t : Split) → Sound b → two b v u ≡ true → t v ≡ beside tie (t u) → value b t ≡ value (merged tie v u b) t +ℤ shift tie v b
merged_covers tie b v u t sound h e = across_like b.weight b.nets t (lifted tie v u t) (λ i p. grind (arith, nat_tests)) ∙ merged_exact tie b v u t sound h

pub merged_reduces : MergedReduces
merged_reduces tie b v u sound h settled = record {
  nets = refl;
  fewer = λ x p. grind (arith, nat_tests);
  sound = merged_sound tie b v u sound h;
  lighter = omega (arith, ints, merged_lighter tie b v u sound h);
  keeps = λ s x p. grind (arith, nat_tests);
  exact = λ s. merged_exact tie b v u s sound h;
  covers = λ s. ((settled s).0, omega (arith, ints, (settled s).2, merged_covers tie b v u (settled s).0 sound h (settled s).1));
}

pub removed_reduces : RemovedReduces
removed_reduces b v sound lone = record {
  nets = refl;
  fewer = λ x p. grind (arith, nat_tests);
  sound = record {
    inside = λ x p. grind (arith, nat_tests, sound.inside);
    symmetric = sound.symmetric;
    hollow = sound.hollow;
    bare = λ x y p. elim (cases_eq x v) [ inl e ↦ ap (λ z. b.weight z y) e ∙ alone y | inr d ↦ sound.bare x y (grind (arith, nat_tests)) ];
  };
  lighter = omega (arith, ints);
  keeps = λ s x p. grind (arith, nat_tests);
  exact = λ s. omega (arith, ints, same s);
  covers = λ s. (s, omega (arith, ints));
}
  where
    alone : (y : ℕ) → b.weight v y ≡ pos 0
    alone y = elim (cases_lt y b.nets) [ inl h ↦ lone y h | inr h ↦ outside b v y sound h ]

    same : (s : Split) → value b (put v false s) ≡ value b s
    same s = across_cong b.weight b.weight b.nets (put v false s) s (λ i j p q. at i j p q)
      where
        at : (i j : ℕ) → i < j → j < b.nets → cut (put v false s i) (put v false s j) (b.weight i j) ≡ cut (s i) (s j) (b.weight i j)
        at i j p q = grind (arith, nat_tests, alone, sound.symmetric, cut_zero)
