-- Which words `natural` reads. Assumes nothing.
use Rattle.std.proofs.Common.{◌≡◌, ℕ, ◌^◌, ◌<◌, ◌≤◌, List, length, get_or, take, decimal, sym, ap, ◌∙◌, subst, lt_trans, lt_of_lt_of_le, zero-lt-suc, arith, lit<}
use native.Mathlib.Nat.{pow-le-pow_right}
use Rattle.std.specs.Str.Parse.{AllDigits, digits_value}
use Rattle.std.specs.Int.{IsInRange}
use Rattle.std.proofs.lemmas.Fmt.{decimal_is_IsNumeral, decimal_digit, length-decimal-le, decimal_nonempty, first_decimal, decimal-digits_value}
use Rattle.std.proofs.lemmas.Int.Digits.{digits_value-lt, digits_value_more, digits_more}
use Rattle.std.proofs.lemmas.Str.{digit_value_digit}
use Rattle.std.proofs.lemmas.Str.Parse.{numerals_by_value, tells_digits, digit_at}
use Rattle.std.proofs.lemmas.List.{length-take, take_all}

tens : (i j : ℕ) → i ≤ j → 10 ^ i ≤ 10 ^ j
tens i j h = pow-le-pow_right (zero-lt-suc 9) h

pub small : (n : ℕ) → n < 10 ^ 19 → n < 2 ^ 64
small n l = lt_trans l (lit< tt)

module _ (n : ℕ) (w : List ℕ) (l : n < 10 ^ 19) (e : decimal n ≡ w) where
  pub not_empty : length w ≡ 0 → ⊥
  not_empty h = grind (arith, e, decimal_nonempty n (small n l))

  pub not_long : 19 < length w → ⊥
  not_long h = grind (arith, e, length-decimal-le 19 n (lit< tt) l (small n l))

  pub no_zero : get_or w 0 0 ≡ 48 → 1 < length w → ⊥
  no_zero h k = grind (arith, e, small n l, first_decimal n, decimal_digit n)

  pub all_digits : (i : ℕ) → i < length w → IsInRange 48 57 (get_or w i 0)
  all_digits i h = rw (← e) (digit_at (decimal n) i (decimal_is_IsNumeral n (small n l)).0.1 (omega (arith, ap length e)))

-- what is read so far leaves room for a digit
pub below : (w : List ℕ) (i : ℕ) → AllDigits 10 (take i w) → i < length w → length w ≤ 19 → digits_value 10 (take i w) < 10 ^ 18
below w i d h k =
    let t : length (take i w) ≤ 18 = omega (arith, length-take i w) in
    lt_of_lt_of_le (digits_value-lt 10 (take i w) d) (tens _ 18 t)

-- digits without a leading 0 write their value
pub value_small : (w : List ℕ) → AllDigits 10 w → length w ≤ 19 → digits_value 10 w < 10 ^ 19
value_small w digits h = lt_of_lt_of_le (digits_value-lt 10 w digits) (tens _ 19 h)

pub value_written : (w : List ℕ) → AllDigits 10 w → length w ≤ 19 → 0 < length w → (get_or w 0 0 ≡ 48 → length w ≤ 1) → decimal (digits_value 10 w) ≡ w
value_written w digits h some lead =
    decimal-digits_value (numerals_by_value (AllDigits 10) tells_digits) w digits some (λ z. omega (arith, lead z)) (small (digits_value 10 w) (value_small w digits h))

-- what reading a word, digit by digit, rests on
pub ruleset reading = (not_empty, not_long, no_zero, all_digits, below, digit_value_digit, digits_value_more, digits_more, value_small, value_written, take_all)
