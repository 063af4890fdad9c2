-- A board stays sound as it is built.
use Rattle.std.proofs.Common.{◌≡◌, ℕ, ◌+◌, ◌≤◌, Bool, true, false, cond, not, ◌&&◌, eqb, [], ◌∷◌, ◌++◌, ℤ, pos, refl, ap, ◌∙◌, inl, inr, add-one, arith}
use Rattle.std.proofs.lemmas.Int.{ints}
use Rattle.std.proofs.lemmas.Bool.{and_parts, not-true, eqb-false, cases_Bool, both_ways}
use Rattle.std.proofs.lemmas.Bool.Decides.{nat_tests}
use Rattle.cuts.specs.Boards.{Board, Sound, connected, connections, listed}
use Rattle.cuts.specs.Building.{empty, added, paired, weighed}
use Rattle.cuts.specs.Merging.{two, Lone}
use Rattle.cuts.proofs.Sums.{count_zero}

-- what the test tells
pub record Two (b : Board) (v u : ℕ) : Type 0 where
  pub apart : v ≡ u → ⊥
  pub first : b.stands v ≡ true
  pub second : b.stands u ≡ true

pub two_tells : (b : Board) (v u : ℕ) → two b v u ≡ true → Two b v u
two_tells b v u h =
    let p = and_parts (not (eqb v u)) (b.stands v && b.stands u) h in
    let q = and_parts (b.stands v) (b.stands u) p.1 in
    record { apart = eqb-false v u (not-true (eqb v u) p.0); first = q.0; second = q.1 }

-- a net that is none of the board's has no connection
pub outside : (b : Board) (v u : ℕ) → Sound b → b.nets ≤ u → b.weight v u ≡ pos 0
outside b v u sound h = elim (cases_Bool (b.stands u)) [
  | inl e ↦ absurd (omega (arith, sound.inside u e))
  | inr e ↦ sound.symmetric v u ∙ sound.bare u v e
]

pub empty_sound : Sound empty
empty_sound = record { inside = λ v p. grind arith; symmetric = λ v u. refl; hollow = λ v. refl; bare = λ v u p. refl }

pub added_sound : (b : Board) → Sound b → Sound (added b)
added_sound b sound = record {
  inside = λ v p. grind (arith, nat_tests, sound.inside);
  symmetric = sound.symmetric;
  hollow = sound.hollow;
  bare = λ v u p. sound.bare v u (grind (arith, nat_tests));
}

pub weighed_sound : (b : Board) (v u : ℕ) (z : ℤ) → Sound b → two b v u ≡ true → Sound (weighed v u z b)
weighed_sound b v u z sound h =
    let t = two_tells b v u h in
    let apart = t.apart in
    record {
      inside = sound.inside;
      symmetric = λ x y. grind (arith, nat_tests, sound.symmetric);
      hollow = λ x. grind (arith, nat_tests, sound.hollow);
      bare = λ x y p. bare x y p t.first t.second;
    }
  where
    at : (x y : ℕ) → (x ≡ v → ⊥) → (x ≡ u → ⊥) → paired v u z b.weight x y ≡ b.weight x y
    at x y p q = grind (arith, nat_tests)

    bare : (x y : ℕ) → b.stands x ≡ false → b.stands v ≡ true → b.stands u ≡ true → paired v u z b.weight x y ≡ pos 0
    bare x y gone p q = at x y (λ e. both_ways (b.stands x) gone (ap b.stands e ∙ p)) (λ e. both_ways (b.stands x) gone (ap b.stands e ∙ q)) ∙ sound.bare x y gone

pub lone_tells : (b : Board) (v : ℕ) → connections b v ≡ 0 → Lone v b
lone_tells b v e u h = unconnected (b.weight v u) (count_zero b.nets (λ u. connected (b.weight v u)) e u h)
  where
    unconnected : (z : ℤ) → connected z ≡ false → z ≡ pos 0
    unconnected z h = grind (arith, nat_tests, ints)

-- ---- the standing nets, as a loop comes to them
pub listed_none : (p : ℕ → Bool) → listed 0 p ≡ []
unfolding listed
listed_none p = refl

pub listed_more : (n : ℕ) (p : ℕ → Bool) → listed (n + 1) p ≡ listed n p ++ cond (p n) (n ∷ []) []
unfolding listed
listed_more n p = rw add-one refl
