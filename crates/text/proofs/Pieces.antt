-- The piece that a fault names is what was refused. Assumes nothing.
use Rattle.std.proofs.Common.{◌≡◌, ℕ, ◌+◌, ◌≤◌, List, [], ◌∷◌, ◌++◌, length, take, drop, Result, sym, refl, ap, ◌∙◌, subst, inl, inr, arith, lit≤}
use Rattle.std.specs.List.{flat_map}
use Rattle.std.specs.Fmt.{signed_decimal}
use Rattle.std.proofs.lemmas.List.{append_assoc, append-nil, take_at, drop_at}
use Rattle.keys.specs.Keys.{NoKey}
use Rattle.faults.specs.Faults.{fault, placed}
use Rattle.faults.specs.declared.places.Fault.{Fault}
use Rattle.faults.specs.declared.places.Layer.TheVariants.{Text, Job}
use Rattle.faults.specs.declared.places.Place.{Place}
use Rattle.text.specs.Boards.{Setting, line_of, written, NoHeader, endless, other, Stop, ended, unended, wrong, refused, Outcome, oversize, headless, reading}
use Rattle.text.specs.Lines.{NoWeight, spaced, Words}
use Rattle.text.specs.Pieces.{LineOf, Named, NamedBy}
use Rattle.text.specs.Tokens.{Wrong, misformed, first_malformed, second_malformed, weight_malformed, before_first_key, before_second_key, before_weight}
use Rattle.text.specs.declared.takers.Join.{Join}

-- what stands between two parts of a text
between : (front piece back text : List ℕ) → text ≡ front ++ (piece ++ back) → take (length piece) (drop (length front) text) ≡ piece
between front piece back text e =
    ap (λ t. take (length piece) (drop (length front) t)) e ∙ ap (take (length piece)) (drop_at front (piece ++ back) (length front) refl) ∙ take_at piece back (length piece) refl

-- the lines written so far end with an end of line
lines_end : {K : Type 0} (spelled : K → List ℕ) (front : List ℕ) (js : List (Join K)) → (f : List ℕ) × ((front ++ 10 ∷ []) ++ flat_map (line_of spelled) js ≡ f ++ 10 ∷ [])
lines_end spelled front [] = (front, append-nil (front ++ 10 ∷ []))
lines_end spelled front (j ∷ js) =
    let bare = spaced (spelled j.first) (spelled j.second) (signed_decimal j.weight) in
    let r = lines_end spelled ((front ++ 10 ∷ []) ++ bare) js in
    (r.0, sym (append_assoc (front ++ 10 ∷ []) (line_of spelled j) (flat_map (line_of spelled) js)) ∙ ap (λ s. s ++ flat_map (line_of spelled) js) (sym (append_assoc (front ++ 10 ∷ []) bare (10 ∷ []))) ∙ r.1)

module _ {K : Type 0} (spelled : K → List ℕ) (text steps : List ℕ) where
  named_line : (line : ℕ) (front piece back : List ℕ) → text ≡ front ++ (piece ++ back) → LineOf text piece → Named spelled text steps (fault Text 11 (placed line front piece))
  named_line line front piece back e h =
      record {
        line = λ t n. subst (LineOf text) (sym (between front piece back text e)) h;
        key = λ t n. absurd (omega arith);
        weight = λ t n. absurd (omega arith);
        size = λ t n. absurd (omega arith);
        join = λ t. cc;
        layered = (lit≤ tt, lit≤ tt);
      }

  named_join : (number line : ℕ) (front piece back : List ℕ) → (21 ≤ number) × (number ≤ 26) → text ≡ front ++ (piece ++ back) → LineOf text piece → Named spelled text steps (fault Job number (placed line front piece))
  named_join number line front piece back within e h =
      record {
        line = λ t n. cc;
        key = λ t n. cc;
        weight = λ t n. cc;
        size = λ t n. cc;
        join = λ t. subst (LineOf text) (sym (between front piece back text e)) h;
        layered = within;
      }

  named_key : (line : ℕ) (front piece back : List ℕ) → text ≡ front ++ (piece ++ back) → NoKey spelled piece → Named spelled text steps (fault Text 12 (placed line front piece))
  named_key line front piece back e h =
      record {
        line = λ t n. absurd (omega arith);
        key = λ t n. subst (NoKey spelled) (sym (between front piece back text e)) h;
        weight = λ t n. absurd (omega arith);
        size = λ t n. absurd (omega arith);
        join = λ t. cc;
        layered = (lit≤ tt, lit≤ tt);
      }

  named_weight : (line : ℕ) (front piece back : List ℕ) → text ≡ front ++ (piece ++ back) → NoWeight piece → Named spelled text steps (fault Text 13 (placed line front piece))
  named_weight line front piece back e h =
      record {
        line = λ t n. absurd (omega arith);
        key = λ t n. absurd (omega arith);
        weight = λ t n. subst NoWeight (sym (between front piece back text e)) h;
        size = λ t n. absurd (omega arith);
        join = λ t. cc;
        layered = (lit≤ tt, lit≤ tt);
      }

  named_size : Named spelled text steps (fault Text 14 (record { line = 0; offset = 0; length = 0 }))
  named_size =
      record {
        line = λ t n. absurd (omega arith);
        key = λ t n. absurd (omega arith);
        weight = λ t n. absurd (omega arith);
        size = λ t n. refl;
        join = λ t. cc;
        layered = (lit≤ tt, lit≤ tt);
      }

  -- the faults of a line that F stands before
  module _ (F L more : List ℕ) (line : ℕ) (is : text ≡ F ++ (L ++ 10 ∷ more)) where
    formed : {a b w : List ℕ} → Words L a b w → text ≡ F ++ (spaced a b w ++ 10 ∷ more)
    formed s = is ∙ ap (λ l. F ++ (l ++ 10 ∷ more)) s.formed

    first_there : {a b w : List ℕ} → Words L a b w → text ≡ before_first_key F ++ (a ++ (32 ∷ (b ++ 32 ∷ w) ++ 10 ∷ more))
    first_there s = formed s ∙ simp append_assoc

    second_there : {a b w : List ℕ} → Words L a b w → text ≡ before_second_key F a ++ (b ++ (32 ∷ w ++ 10 ∷ more))
    second_there s = formed s ∙ simp append_assoc

    weight_there : {a b w : List ℕ} → Words L a b w → text ≡ before_weight F a b ++ (w ++ (10 ∷ more))
    weight_there s = formed s ∙ simp append_assoc

    named_wrong : LineOf text L → (f : Fault) → Wrong spelled F L line f → Named spelled text steps f
    named_wrong l f (misformed none e) = subst (Named spelled text steps) (sym e) (named_line line F L (10 ∷ more) is l)
    named_wrong l f (first_malformed a b w s none e) = subst (Named spelled text steps) (sym e) (named_key line (before_first_key F) a _ (first_there s) none)
    named_wrong l f (second_malformed a b w s none e) = subst (Named spelled text steps) (sym e) (named_key line (before_second_key F (spelled a)) b _ (second_there s) none)
    named_wrong l f (weight_malformed a b w s none e) = subst (Named spelled text steps) (sym e) (named_weight line (before_weight F (spelled a) (spelled b)) w _ (weight_there s) none)

module _ {K R : Type 0} (s : Setting K R) (within : (e : R) → (21 ≤ s.numbered e) × (s.numbered e ≤ 26)) (text : List ℕ) where
  abbrev named : Result ℕ Fault → Type 0
  named r = NamedBy s.spelled text r

  named_stop : (js : List (Join K)) (rest : List ℕ) (taken : List (Join K)) (r : Result ℕ Fault) → text ≡ written s.spelled s.header js ++ rest → Stop s (written s.spelled s.header js) rest (length js) taken r → NamedBy s.spelled text r
  named_stop js rest taken r w (ended is e) = subst named (sym e) tt
  named_stop js rest taken r w (unended some lacks e) =
      subst named (sym e) (λ steps.
      let F = written s.spelled s.header js in
      let at : text ≡ F ++ (rest ++ []) = w ∙ ap (λ t. F ++ t) (sym (append-nil rest)) in
      named_line s.spelled text steps (length js + 2) F rest [] at (record { front = F; back = []; whole = at; starts = inr (lines_end s.spelled s.header js); ends = inl refl; one = lacks }))
  named_stop js rest taken r w (wrong L more f is lacks bad e) =
      subst named (sym e) (λ steps.
      let F = written s.spelled s.header js in
      let at : text ≡ F ++ (L ++ 10 ∷ more) = w ∙ ap (λ t. F ++ t) is in
      named_wrong s.spelled text steps F L more (length js + 2) at (record { front = F; back = 10 ∷ more; whole = at; starts = inr (lines_end s.spelled s.header js); ends = inr (more, refl); one = lacks }) f bad)
  named_stop js rest taken r w (refused L more j x is lacks joins told e) =
      subst named (sym e) (λ steps.
      let F = written s.spelled s.header js in
      let at : text ≡ F ++ (L ++ 10 ∷ more) = w ∙ ap (λ t. F ++ t) is in
      named_join s.spelled text steps (s.numbered x) (length js + 2) F L (10 ∷ more) (within x) at (record { front = F; back = 10 ∷ more; whole = at; starts = inr (lines_end s.spelled s.header js); ends = inr (more, refl); one = lacks }))

  named_headless : (p : Place) → NoHeader s.header text p → (steps : List ℕ) → Named s.spelled text steps (fault Text 11 p)
  named_headless p (endless lacks e) steps =
      let at : text ≡ [] ++ (text ++ []) = sym (append-nil text) in
      subst (λ q. Named s.spelled text steps (fault Text 11 q)) (sym e) (named_line s.spelled text steps 1 [] text [] at (record { front = []; back = []; whole = at; starts = inl refl; ends = inl refl; one = lacks }))
  named_headless p (other L more at lacks ne e) steps =
      subst (λ q. Named s.spelled text steps (fault Text 11 q)) (sym e) (named_line s.spelled text steps 1 [] L (10 ∷ more) at (record { front = []; back = 10 ∷ more; whole = at; starts = inl refl; ends = inr (more, refl); one = lacks }))

  pub named_outcome : (before after : List (Join K)) (r : Result ℕ Fault) → Outcome s text before after r → NamedBy s.spelled text r
  named_outcome before after r (oversize l a e) = subst named (sym e) (λ steps. named_size s.spelled text steps)
  named_outcome before after r (headless p l n a e) = subst named (sym e) (named_headless p n)
  named_outcome before after r (reading js rest l w h ok a stop) = named_stop js rest after r w stop
