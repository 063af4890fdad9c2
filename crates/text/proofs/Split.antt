-- The words of a line, found and unique. Assumes nothing.
use Rattle.std.proofs.Common.{◌≡◌, ℕ, ◌<◌, List, ◌∷◌, ◌++◌, length, codes, sym, ap, ◌∙◌, subst}
use Rattle.std.proofs.lemmas.List.{append_cancel_left}
use Rattle.keys.specs.Words.{Lacks}
use Rattle.text.proofs.Cuts.{same_cut, lacks_left, lacks_right, lacks_tail}
use Rattle.text.specs.Lines.{spaced, Words}

module _ {L a b w : List ℕ} (h : Words L a b w) where
  pub after_join : (rest : List ℕ) → L ≡ codes "join " ++ rest → rest ≡ a ++ 32 ∷ (b ++ 32 ∷ w)
  after_join rest e = append_cancel_left (codes "join ") rest _ (sym e ∙ h.formed)

  pub found : (rest x rest2 : List ℕ) → L ≡ codes "join " ++ rest → rest ≡ x ++ 32 ∷ rest2 → Lacks 32 x → (x ≡ a) × (rest2 ≡ b ++ 32 ∷ w)
  found rest x rest2 e e2 l = same_cut 32 x a rest2 _ l h.first.spaceless (sym e2 ∙ after_join rest e)

  pub found_all : (rest x rest2 y v : List ℕ) → L ≡ codes "join " ++ rest → rest ≡ x ++ 32 ∷ rest2 → Lacks 32 x → rest2 ≡ y ++ 32 ∷ v → Lacks 32 y → (x ≡ a) × (y ≡ b) × (v ≡ w)
  found_all rest x rest2 y v e e2 l2 e3 l3 =
      let p = found rest x rest2 e e2 l2 in
      let q = same_cut 32 y b v w l3 h.second.spaceless (sym e3 ∙ p.1) in
      (p.0, q.0, q.1)

-- what the cuts found are the words
pub words_from : (L rest a rest2 b w : List ℕ) → Lacks 10 L → L ≡ codes "join " ++ rest → rest ≡ a ++ 32 ∷ rest2 → rest2 ≡ b ++ 32 ∷ w → Lacks 32 a → Lacks 32 b → Lacks 32 w → 0 < length a → 0 < length b → 0 < length w → Words L a b w
words_from L rest a rest2 b w ends e1 e2 e3 la lb lw na nb nw =
    let f : L ≡ spaced a b w = e1 ∙ ap (λ s. codes "join " ++ s) (e2 ∙ ap (λ s. a ++ 32 ∷ s) e3) in
    let l1 = lacks_right 10 (codes "join ") (a ++ 32 ∷ (b ++ 32 ∷ w)) (subst (Lacks 10) f ends) in
    let l2 = lacks_tail 10 32 _ (lacks_right 10 a (32 ∷ (b ++ 32 ∷ w)) l1) in
    let l3 = lacks_tail 10 32 _ (lacks_right 10 b (32 ∷ w) l2) in
    record {
      formed = f;
      first = record { some = na; spaceless = la; endless = lacks_left 10 a _ l1 };
      second = record { some = nb; spaceless = lb; endless = lacks_left 10 b _ l2 };
      third = record { some = nw; spaceless = lw; endless = l3 };
    }
