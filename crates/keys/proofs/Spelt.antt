-- The words of numbers that are keys, and the keys that they are read as. Assumes nothing.
use Rattle.std.proofs.Common.{rules, ◌≡◌, ℕ, ◌^◌, ◌<◌, ◌≤◌, true, List, length, get_or, is_ok, Ok, Err, decimal, Result, sym, ap, ◌∙◌, subst, arith, MatchResult}
use Rattle.std.specs.Str.Parse.{digits_value}
use Rattle.std.specs.Str.{all_ascii_digits}
use Rattle.std.proofs.lemmas.Fmt.{decimal_nonempty, decimal_digit, decimal-digits_value, digits_decimal, first_decimal, length-decimal-le, decimal_injective}
use Rattle.std.proofs.lemmas.Str.Parse.{IsNumeralModel, numerals_by_value, tells_all_ascii_digits, digits_value_short}
use Rattle.std.proofs.lemmas.Bool.{false_from_ne_true}
use Rattle.keys.proofs.Numbers.{small}
use Rattle.keys.specs.Keys.{ReadAs}
use Rattle.keys.specs.Forms.{is_number}
use Rattle.keys.specs.declared.kinds.KeyRefusal.{KeyRefusal}
use Rattle.keys.specs.declared.kinds.KeyRefusal.TheVariants.{Malformed}
use Rattle.keys.specs.declared.number.NumberKey.{NumberKey}

-- the word of a number is read as its key, and no other is
pub number_read : (n : ℕ) (w : List ℕ) → n < 10 ^ 19 → decimal n ≡ w → (r : Result NumberKey KeyRefusal) → MatchResult r (λ k. k.value ≡ n) (λ x. (x ≡ Malformed) × (1 ≤ n → n ≤ 999999999 → ⊥)) → ReadAs (λ k. decimal k.value) w r
number_read n w l e (Ok k) h = ap decimal h ∙ e
number_read n w l e (Err x) h = (
  h.0,
  λ k d.
      let high = k.high in
      let v : k.value ≡ n = decimal_injective k.value n (omega arith) (small n l) (d ∙ sym e) in
      h.1 (subst (λ m. 1 ≤ m) v k.low) (subst (λ m. m ≤ 999999999) v k.high),
)

-- numbers in the form of a key are those of the keys
own : IsNumeralModel (λ ds. all_ascii_digits ds ≡ true) (digits_value 10)
own = numerals_by_value (λ ds. all_ascii_digits ds ≡ true) tells_all_ascii_digits

number_form : (k : NumberKey) (w : List ℕ) → decimal k.value ≡ w → is_number w ≡ true
number_form k w e =
    let n = k.value in
    let high = k.high in
    let low = k.low in
    let fits : n < 2 ^ 64 = omega arith in
    let short : n < 10 ^ 9 = omega arith in
    grind (arith, e, first_decimal n, decimal_nonempty n, length-decimal-le 9 n, digits_decimal own n)

form_number : (w : List ℕ) → is_number w ≡ true → (k : NumberKey) × (decimal k.value ≡ w)
form_number w h =
    let n = digits_value 10 w in
    let digits : all_ascii_digits w ≡ true = search (rules, h) in
    let some : 1 ≤ length w = grind (arith, h) in
    let few : length w ≤ 9 = grind (arith, h) in
    let nonzero : get_or w 0 0 ≡ 48 → ⊥ = λ z. grind (arith, h, z) in
    let short : n < 1000000000 = digits_value_short own w 9 digits few in
    let is : decimal n ≡ w = decimal-digits_value own w digits some (λ z. absurd (nonzero z)) (omega arith) in
    let low : n ≡ 0 → ⊥ = λ z. grind (arith, z, is, nonzero, decimal_digit 0) in
    (record { value = n; low = omega (arith, low); high = omega arith }, is)

pub number_told : (w : List ℕ) (r : Result NumberKey KeyRefusal) → ReadAs (λ k. decimal k.value) w r → is_ok r ≡ is_number w
number_told w (Ok k) h = sym (number_form k w h)
number_told w (Err x) h = sym (false_from_ne_true (is_number w) (λ e. let k = form_number w e in h.1 k.0 k.1))
