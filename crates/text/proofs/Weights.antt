-- Which words write a weight. Assumes nothing.
use Rattle.std.proofs.Common.{◌≡◌, ℕ, suc, ◌^◌, ◌<◌, List, ◌∷◌, ℤ, pos, negsuc, decimal, ◌∙◌, arith, lit<}
use lib.Signed.{mag}
use Rattle.std.specs.Fmt.{signed_decimal}
use Rattle.std.proofs.lemmas.Fmt.{decimal_injective}
use Rattle.keys.specs.Words.{Word}
use Rattle.keys.specs.Laws.{decimal_word}
use Rattle.keys.proofs.Numbers.{all_digits}
use Rattle.text.specs.Lines.{Short, NoWeight}
use Rattle.text.proofs.Cuts.{lacks_cons}

module _ (w : List ℕ) where
  no_minus : (n : ℕ) (rest : List ℕ) → n < 10 ^ 7 → decimal n ≡ 45 ∷ rest → ⊥
  no_minus n rest l e = let small : n < 10000000 = l in omega (arith, (all_digits n (45 ∷ rest) (omega arith) e 0 (omega arith)).0)

  pub minus_none : (rest : List ℕ) → w ≡ 45 ∷ rest → ((n : ℕ) → n < 10 ^ 7 → decimal n ≡ rest → ⊥) → NoWeight w
  minus_none rest e none (pos n) l h = no_minus n rest l (h ∙ e)
  minus_none rest e none (negsuc n) l h = let t : 45 ∷ decimal (suc n) ≡ 45 ∷ rest = h ∙ e in none (suc n) l (cc)

  pub minus_zero : (rest : List ℕ) → w ≡ 45 ∷ rest → decimal 0 ≡ rest → NoWeight w
  minus_zero rest e zeros (pos n) l h = no_minus n rest l (h ∙ e)
  minus_zero rest e zeros (negsuc n) l h =
      let t : 45 ∷ decimal (suc n) ≡ 45 ∷ rest = h ∙ e in
      let same : decimal (suc n) ≡ decimal 0 = cc in
      let small : suc n < 10000000 = l in
      omega (arith, decimal_injective (suc n) 0 (omega arith) (lit< tt) same)

pub short_mag : (z : ℤ) → Short z → mag z < 2 ^ 63
short_mag (pos n) h = let l : n < 10000000 = h in omega arith
short_mag (negsuc n) h = let l : suc n < 10000000 = h in omega arith

-- a weight is written as a word
pub weight_word : (z : ℤ) → Short z → Word (signed_decimal z)
weight_word (pos n) h = let l : n < 10000000 = h in decimal_word n (omega arith)
weight_word (negsuc n) h =
    let l : suc n < 10000000 = h in
    let p = decimal_word (suc n) (omega arith) in
    record {
      some = omega arith;
      spaceless = lacks_cons 32 45 _ (λ e. omega arith) p.spaceless;
      endless = lacks_cons 10 45 _ (λ e. omega arith) p.endless;
    }
