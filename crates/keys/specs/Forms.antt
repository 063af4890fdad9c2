-- The words that are keys. Assumes nothing.
use Rattle.std.specs.Prelude.{ℕ, ◌+◌, ◌*◌, ◌%◌, ◌^◌, Bool, not, ◌&&◌, ◌||◌, List, length, map, ◌==◌, nat_le, slice_index}
use Rattle.std.specs.Char.{is_ascii_alphanumeric, to_ascii_lowercase}
use Rattle.std.specs.List.{fold, list_all}
use Rattle.std.specs.Str.{all_ascii_digits}

-- a letter, a digit or an underscore
abbrev pub name_byte : ℕ → Bool
name_byte b = is_ascii_alphanumeric b || b == 95

-- 1 to 12 of them
abbrev pub is_name : List ℕ → Bool
is_name s = nat_le 1 (length s) && (nat_le (length s) 12 && list_all name_byte s)

-- 1 to 9 digits without a leading 0
abbrev pub is_number : List ℕ → Bool
is_number s = nat_le 1 (length s) && (nat_le (length s) 9 && (not (slice_index s 0 == 48) && all_ascii_digits s))

-- the home of a name, from its bytes in small letters
abbrev pub name_home : List ℕ → ℕ
name_home s = fold (λ home b. (home * 31 % 2 ^ 64 + b) % 2 ^ 64) 0 (map to_ascii_lowercase s)
