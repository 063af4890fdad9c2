-- What every kind of key keeps to, of numbers and of names: each key is spelled by a word, and no two by the same. Assumes nothing.
use Rattle.std.proofs.Common.{rules, ◌≡◌, ℕ, ◌^◌, ◌<◌, ◌≤◌, true, false, List, length, get_or, decimal, refl, ap, ◌∙◌, arith}
use mathlib.Core.Bool.{Bool-set}
use mathlib.Core.HLevel.{is_prop→PathP}
use native.Mathlib.Bridge.{le_prop}
use Rattle.std.specs.Int.{IsInRange}
use Rattle.std.specs.List.{list_all}
use Rattle.std.proofs.lemmas.Fmt.{decimal_is_IsNumeral, decimal_nonempty, decimal_injective}
use Rattle.std.proofs.lemmas.List.Folds.{list_all_at}
use Rattle.std.proofs.lemmas.Str.Parse.{digit_at}
use Rattle.std.proofs.lemmas.Bool.{both_ways}
use Rattle.keys.specs.Forms.{name_byte, is_name}
use Rattle.keys.specs.Words.{Lacks, Word}
use Rattle.keys.specs.declared.name.NameKey.{NameKey}
use Rattle.keys.specs.declared.number.NumberKey.{NumberKey}

-- a number is spelled by its digits
pub decimal_word : (n : ℕ) → n < 2 ^ 64 → Word (decimal n)
decimal_word n l =
    let digit : (i : ℕ) → i < length (decimal n) → IsInRange 48 57 (get_or (decimal n) i 0) = λ i h. digit_at (decimal n) i (decimal_is_IsNumeral n l).0.1 h in
    record {
      some = decimal_nonempty n l;
      spaceless = λ i h e. omega (arith, (digit i h).0);
      endless = λ i h e. omega (arith, (digit i h).0);
    }

pub number_word : (k : NumberKey) → Word (decimal k.value)
number_word k = let h = k.high in decimal_word k.value (omega arith)

pub same_number : (a b : NumberKey) → decimal a.value ≡ decimal b.value → a ≡ b
same_number a b e =
    let x = a.high in
    let y = b.high in
    let v : a.value ≡ b.value = decimal_injective a.value b.value (omega arith) (omega arith) e in
    λ i. record {
      value = v i;
      low = is_prop→PathP (λ k. 1 ≤ v k) (λ k. le_prop) a.low b.low i;
      high = is_prop→PathP (λ k. v k ≤ 999999999) (λ k. le_prop) a.high b.high i;
    }

-- a name has no byte that is none of a name's
name_lacks : (c : ℕ) → name_byte c ≡ false → (s : List ℕ) → list_all name_byte s ≡ true → Lacks c s
name_lacks c none s each i l e = both_ways (list_all name_byte s) (list_all_at name_byte s i 0 l (ap name_byte e ∙ none)) each

pub name_word : (k : NameKey) → Word k.text
name_word k =
    let named = k.named in
    let each : list_all name_byte k.text ≡ true = search (rules, named) in
    record {
      some = grind (arith, named);
      spaceless = name_lacks 32 refl k.text each;
      endless = name_lacks 10 refl k.text each;
    }

pub same_name : (a b : NameKey) → a.text ≡ b.text → a ≡ b
same_name a b e =
    λ i. record {
      text = e i;
      named = is_prop→PathP (λ k. is_name (e k) ≡ true) (λ k. Bool-set _ _) a.named b.named i;
    }
