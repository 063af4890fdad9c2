-- What is read lies in the room, one part behind the other. Assumes nothing.
use Rattle.std.proofs.Common.{◌≡◌, ℕ, ◌+◌, ◌-◌, ◌<◌, ◌≤◌, List, ◌++◌, length, take, drop, Option, Some, None, IfSome, inl, inr, sym, ap, ◌∙◌, subst, le_refl, drop_at, length-take-le, take_all, arith}
use Rattle.std.specs.Io.KnownBytes.{Consumes, IsAtEnd}
use Rattle.std.proofs.KnownBytes.{Consumes-trans}
use Rattle.std.proofs.lemmas.Bool.{cases_lt}
use Rattle.std.proofs.lemmas.List.{append-nil, length-append, length-drop, take_at}
use Rattle.std.proofs.lemmas.Slice.{take-put_mid_below}
use borrow.Rule.Slice.PartMut.{put_mid, post_of}
use lib.Seq.{take-add, take-append-le}

-- the first len bytes of the room are what was read
pub record Filled (old new : Option (List ℕ)) (room : List ℕ) (len : ℕ) : Type 0 where
  pub long : length room ≡ 60001
  pub within : len ≤ length room
  pub read : Consumes old new (take len room)

-- a read of n bytes into what is left of the room
pub more_filled : {a b c : Option (List ℕ)} {room : List ℕ} {len : ℕ} (part : List ℕ) (n : ℕ) → Filled a b room len → length part ≡ 60001 - len → n ≤ length part → Consumes b c (take n part) → Filled a c (put_mid len (60001 - len) room part) (len + n)
more_filled {a} {b} {c} {room} {len} part n f full fits read =
    let new = put_mid len (60001 - len) room part in
    let after = post_of len (60001 - len) room in
    let size = length-take-le len room f.within in
    let all : length new ≡ length (take len room) + length (part ++ after) = length-append (take len room) (part ++ after) in
    let long : length new ≡ 60001 = omega (arith, all, full, f.long, f.within, length-append part after, size, length-drop (60001 - len) (drop len room), length-drop len room) in
    let front : take len new ≡ take len room = take-put_mid_below _ _ _ _ _ (le_refl _) f.within in
    let behind : take n (drop len new) ≡ take n part = ap (take n) (drop_at (take len room) (part ++ after) len size) ∙ take-append-le n part after fits in
    let joined : take len room ++ take n part ≡ take (len + n) new = ap (λ l. l ++ take n part) (sym front) ∙ ap (λ l. take len new ++ l) (sym behind) ∙ sym (take-add len n new) in
    record {
      long = long;
      within = omega (arith, long, full, fits, f.long, f.within);
      read = subst (Consumes a c) joined (Consumes-trans a b c (take len room) (take n part) f.read read);
    }

-- what was read is all that there was, or all that there is room for
pub first_bytes : {old new : Option (List ℕ)} {room : List ℕ} {len : ℕ} → Filled old new room len → (len < 60001 → IsAtEnd new) → IfSome old (λ xs. take len room ≡ take 60001 xs)
first_bytes {old = None} f end = tt
first_bytes {old = Some xs} {new = None} f end = absurd f.read
first_bytes {old = Some xs} {new = Some ys} {room} {len} f end =
    let size = length-take-le len room f.within in
    let long = f.long in
    let within = f.within in
    elim (cases_lt len 60001) [
      | inl h ↦ sym (ap (take 60001) (f.read ∙ ap (λ l. take len room ++ l) (end h) ∙ append-nil (take len room)) ∙ take_all 60001 (take len room) (omega (arith, size)))
      | inr h ↦ sym (ap (take 60001) f.read ∙ take_at (take len room) ys 60001 (omega (arith, size)))
    ]
