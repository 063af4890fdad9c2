-- The fault of a line, from what the readers of its words refused. Assumes nothing.
use Rattle.std.proofs.Common.{◌≡◌, ℕ, ◌+◌, List, [], ◌∷◌, ◌++◌, length, codes, sym, ap, ◌∙◌, subst, arith}
use Rattle.std.proofs.lemmas.List.{length-append}
use Rattle.keys.specs.Keys.{NoKey}
use Rattle.keys.specs.declared.kinds.KeyRefusal.TheVariants.{Malformed}
use Rattle.faults.specs.Faults.{spot, of_word}
use Rattle.faults.specs.declared.places.Fault.{Fault}
use Rattle.faults.specs.declared.refusals.WordFault.{WordFault}
use Rattle.faults.specs.declared.refusals.WordFault.TheVariants.{Key, Weight}
use Rattle.text.specs.Lines.{Words, NoWeight}
use Rattle.text.specs.Tokens.{Tokens, Wrong, first_malformed, second_malformed, weight_malformed, word_of, place_of, before_first_key, before_second_key, before_weight}
use Rattle.text.specs.declared.lines.Line.{Line}
use Rattle.text.specs.declared.tokens.Parts.{Parts}

module _ (F : List ℕ) (at : ℕ) (begins : at ≡ length F) where
  first_offset : at + 5 ≡ length (before_first_key F)
  first_offset = omega (arith, length-append F (codes "join "))

  second_offset : (a : List ℕ) → at + 5 + length a + 1 ≡ length (before_second_key F a)
  second_offset a = omega (arith, first_offset, length-append (before_first_key F) (a ++ 32 ∷ []), length-append a (32 ∷ []))

  weight_offset : (a b : List ℕ) → at + 5 + length a + 1 + length b + 1 ≡ length (before_weight F a b)
  weight_offset a b = omega (arith, second_offset a, length-append (before_second_key F a) (b ++ 32 ∷ []), length-append b (32 ∷ []))

module _ {K : Type 0} {spelled : K → List ℕ} {line : Line} {t : Parts} (h : Tokens line t) {f : Fault} {e : WordFault} (is : f ≡ of_word e) (F : List ℕ) (begins : line.offset ≡ length F) where
  pub first_wrong : NoKey spelled (word_of t.first) → e ≡ Key Malformed (place_of t.first) → Wrong spelled F line.bytes.now line.number f
  first_wrong none at-is =
      first_malformed _ _ _ h.worded none (is ∙ ap of_word at-is ∙ ap (λ p. of_word (Key Malformed p)) (h.first_at ∙ ap (λ o. spot line.number o (word_of t.first)) (first_offset F line.offset begins)))

  pub second_wrong : (a : K) → spelled a ≡ word_of t.first → NoKey spelled (word_of t.second) → e ≡ Key Malformed (place_of t.second) → Wrong spelled F line.bytes.now line.number f
  second_wrong a ea none at-is =
      second_malformed a (word_of t.second) (word_of t.weight)
      (subst (λ w. Words line.bytes.now w (word_of t.second) (word_of t.weight)) (sym ea) h.worded)
      none
      (is ∙ ap of_word at-is ∙ ap (λ p. of_word (Key Malformed p)) (h.second_at ∙ ap (λ o. spot line.number o (word_of t.second)) (second_offset F line.offset begins (word_of t.first) ∙ ap (λ w. length (before_second_key F w)) (sym ea))))

  pub weight_wrong : (a b : K) → spelled a ≡ word_of t.first → spelled b ≡ word_of t.second → NoWeight (word_of t.weight) → e ≡ Weight (place_of t.weight) → Wrong spelled F line.bytes.now line.number f
  weight_wrong a b ea eb none at-is =
      weight_malformed a b (word_of t.weight)
      (subst (λ w. Words line.bytes.now (spelled a) w (word_of t.weight)) (sym eb) (subst (λ w. Words line.bytes.now w (word_of t.second) (word_of t.weight)) (sym ea) h.worded))
      none
      (is ∙ ap of_word at-is ∙ ap (λ p. of_word (Weight p)) (h.third_at ∙ ap (λ o. spot line.number o (word_of t.weight)) (weight_offset F line.offset begins (word_of t.first) (word_of t.second) ∙ ap (λ w. length (before_weight F w (word_of t.second))) (sym ea) ∙ ap (λ w. length (before_weight F (spelled a) w)) (sym eb))))
