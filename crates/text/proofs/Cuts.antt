-- Texts that are cut at a byte. Assumes nothing.
use Rattle.std.proofs.Common.{◌≡◌, ℕ, zero, suc, ◌+◌, true, not, eqb, List, [], ◌∷◌, ◌++◌, length, refl, ◌∙◌, arith}
use Rattle.std.proofs.lemmas.Bool.{and_parts, eqb-false, not-true}
use Rattle.std.proofs.lemmas.List.{length-append, get_or_append_left, get_or-append-add}
use Rattle.keys.specs.Words.{Lacks}
use Rattle.text.specs.Lines.{lacks}

-- a text that lacks the byte is not cut at it
pub uncut : (c : ℕ) (x y : List ℕ) → Lacks c (x ++ c ∷ y) → ⊥
uncut c [] y h = h 0 (omega arith) refl
uncut c (a ∷ x) y h = uncut c x y (λ i l e. h (suc i) (omega arith) e)

-- a text is cut at its first byte c in one way
pub same_cut : (c : ℕ) (x x' y y' : List ℕ) → Lacks c x → Lacks c x' → x ++ c ∷ y ≡ x' ++ c ∷ y' → (x ≡ x') × (y ≡ y')
same_cut c [] [] y y' h h' e = (refl, cc)
same_cut c [] (b ∷ x') y y' h h' e = let z : b ≡ c = cc in absurd (h' 0 (omega arith) z)
same_cut c (a ∷ x) [] y y' h h' e = let z : a ≡ c = cc in absurd (h 0 (omega arith) z)
same_cut c (a ∷ x) (b ∷ x') y y' h h' e =
    let t : x ++ c ∷ y ≡ x' ++ c ∷ y' = cc in
    let z : a ≡ b = cc in
    let r = same_cut c x x' y y' (λ i l q. h (suc i) (omega arith) q) (λ i l q. h' (suc i) (omega arith) q) t in
    let p : x ≡ x' = r.0 in
    (cc, r.1)

lacks_none : (c : ℕ) → Lacks c []
lacks_none c i l e = absurd (omega arith)

pub lacks_cons : (c x : ℕ) (xs : List ℕ) → (x ≡ c → ⊥) → Lacks c xs → Lacks c (x ∷ xs)
lacks_cons c x xs n h zero l e = n e
lacks_cons c x xs n h (suc i) l e = h i (omega arith) e

pub lacks_left : (c : ℕ) (x y : List ℕ) → Lacks c (x ++ y) → Lacks c x
lacks_left c x y h i l e = h i (omega (arith, length-append x y)) (get_or_append_left x y 0 i l ∙ e)

pub lacks_right : (c : ℕ) (x y : List ℕ) → Lacks c (x ++ y) → Lacks c y
lacks_right c x y h i l e = h (length x + i) (omega (arith, length-append x y)) (get_or-append-add x y i 0 ∙ e)

pub lacks_tail : (c x : ℕ) (xs : List ℕ) → Lacks c (x ∷ xs) → Lacks c xs
lacks_tail c x xs h i l e = h (suc i) (omega arith) e

pub lacks_append : (c : ℕ) (x y : List ℕ) → Lacks c x → Lacks c y → Lacks c (x ++ y)
lacks_append c [] y h k = k
lacks_append c (a ∷ x) y h k = lacks_cons c a (x ++ y) (h 0 (omega arith)) (lacks_append c x y (lacks_tail c a x h) k)

pub lacks_by : (c : ℕ) (xs : List ℕ) → lacks c xs ≡ true → Lacks c xs
lacks_by c [] h = lacks_none c
lacks_by c (x ∷ xs) h =
    let p = and_parts (not (eqb x c)) (lacks c xs) h in
    lacks_cons c x xs (eqb-false x c (not-true (eqb x c) p.0)) (lacks_by c xs p.1)
