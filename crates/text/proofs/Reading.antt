-- What one line adds to what is read. Assumes nothing.
use Rattle.std.proofs.Common.{◌≡◌, ℕ, ◌+◌, ◌-◌, ◌≤◌, List, [], ◌∷◌, ◌++◌, length, Some, None, Ok, Err, Option, Result, is_ok, Decides, MatchResult, sym, refl, ap, ◌∙◌, subst, arith}
use Rattle.std.specs.List.{flat_map, AllByRecursion}
use Rattle.std.specs.Fmt.{signed_decimal}
use Rattle.std.proofs.slice.Lists.{all_by_recursion_push}
use Rattle.std.proofs.lemmas.List.{append-nil, append_assoc, flat_map_more, length-append, length_push}
use Rattle.std.proofs.lemmas.Bool.{false≢true}
use Rattle.keys.specs.Words.{Lacks}
use Rattle.faults.specs.Faults.{spot, placed}
use Rattle.faults.specs.declared.places.Fault.{Fault}
use Rattle.faults.specs.declared.refusals.JoinFault.{JoinFault}
use Rattle.faults.specs.declared.refusals.LineFault.{LineFault}
use Rattle.faults.specs.declared.places.Place.{Place}
use Rattle.text.specs.Boards.{line_of, written, Fine, Begins, NoHeader, endless, other}
use Rattle.text.specs.Joins.{Accepts, Joins, handed}
use Rattle.text.specs.Lines.{spaced}
use Rattle.text.specs.Passing.{Passes, AfterHeader, Headless, spot_of}
use Rattle.text.specs.Tokens.{Wrong, WrongLine}
use Rattle.text.specs.declared.lines.Line.{Line}
use Rattle.text.specs.declared.lines.Lines.{Lines}
use Rattle.text.specs.declared.takers.Join.{Join}
use Rattle.text.proofs.Cuts.{uncut, same_cut}

-- the joins js stand in the lines that were passed
pub record Begun {K : Type 0} (spelled : K → List ℕ) (header text : List ℕ) (lines : Lines) (js : List (Join K)) : Type 0 where
  pub whole : text ≡ written spelled header js ++ lines.rest.now
  pub fine : AllByRecursion Fine js
  pub counted : lines.passed ≡ length js + 1
  pub begins : lines.offset ≡ length (written spelled header js)

few : {K : Type 0} (spelled : K → List ℕ) (js : List (Join K)) → length js ≤ length (flat_map (line_of spelled) js)
few spelled [] = omega arith
few spelled (j ∷ js) = omega (arith, few spelled js, length-append (line_of spelled j) (flat_map (line_of spelled) js), length_push (spaced (spelled j.first) (spelled j.second) (signed_decimal j.weight)) 10)

-- a text has no more joins than bytes
pub few_joins : {K : Type 0} (spelled : K → List ℕ) (header : List ℕ) (js : List (Join K)) → length js ≤ length (written spelled header js)
few_joins spelled header js = omega (arith, few spelled js, length-append (header ++ 10 ∷ []) (flat_map (line_of spelled) js))

-- less is to come after a line
pub shorter : {old new : Lines} {line : Line} → Passes old new line → length new.rest.now + 1 ≤ length old.rest.now
shorter {old} {new} {line} p = omega (arith, ap length p.cut, length-append line.bytes.now (10 ∷ new.rest.now))

module _ {K : Type 0} {spelled : K → List ℕ} {header : List ℕ} where
  pub begun : {text : List ℕ} {lines : Lines} → AfterHeader header text lines → Begun spelled header text lines []
  begun {text} {lines} h =
      record {
        whole = h.whole ∙ sym (append_assoc header (10 ∷ []) lines.rest.now) ∙ ap (λ s. s ++ lines.rest.now) (sym (append-nil (header ++ 10 ∷ [])));
        fine = tt;
        counted = h.passed;
        begins = h.offset ∙ sym (ap length (append-nil (header ++ 10 ∷ [])) ∙ length_push header 10);
      }

  pub more : {text : List ℕ} {old new : Lines} {line : Line} {js : List (Join K)} (j : Join K) → Begun spelled header text old js → Passes old new line → Joins spelled line.bytes.now j → Begun spelled header text new (js ++ j ∷ [])
  more {text} {old} {new} {line} {js} j d p joins =
      let L = line.bytes.now in
      let one : L ++ 10 ∷ [] ≡ line_of spelled j = ap (λ l. l ++ 10 ∷ []) joins.worded.formed in
      let longer : written spelled header js ++ line_of spelled j ≡ written spelled header (js ++ j ∷ []) = flat_map_more (line_of spelled) (header ++ 10 ∷ []) js j in
      record {
        whole = d.whole ∙ ap (λ t. written spelled header js ++ t) (p.cut ∙ sym (append_assoc L (10 ∷ []) new.rest.now) ∙ ap (λ l. l ++ new.rest.now) one) ∙ sym (append_assoc (written spelled header js) (line_of spelled j) new.rest.now) ∙ ap (λ l. l ++ new.rest.now) longer;
        fine = all_by_recursion_push Fine js j d.fine joins.short;
        counted = omega (arith, length_push js j, d.counted, p.passed);
        begins = omega (arith, d.begins, p.moved, length-append (written spelled header js) (line_of spelled j), ap length longer, ap length one, length_push L 10);
      }

  -- the place of what comes next
  pub located : {text : List ℕ} {lines : Lines} {js : List (Join K)} → Begun spelled header text lines js → (piece : List ℕ) → spot (lines.passed + 1) lines.offset piece ≡ placed (length js + 2) (written spelled header js) piece
  located {text} {lines} {js} d piece =
      let n : lines.passed + 1 ≡ length js + 2 = omega (arith, d.counted) in
      λ i. spot (n i) (d.begins i) piece

  pub line_located : {text : List ℕ} {old new : Lines} {line : Line} {js : List (Join K)} → Begun spelled header text old js → Passes old new line → spot_of line ≡ placed (length js + 2) (written spelled header js) line.bytes.now
  line_located {text} {old} {new} {line} {js} d p = (λ i. spot (p.number i) (p.offset i) line.bytes.now) ∙ located d line.bytes.now

  pub wrong_here : {text : List ℕ} {old new : Lines} {line : Line} {js : List (Join K)} {f : Fault} → Begun spelled header text old js → Passes old new line → WrongLine spelled line f → Wrong spelled (written spelled header js) line.bytes.now (length js + 2) f
  wrong_here {text} {old} {new} {line} {js} {f} d p w =
      let n : line.number ≡ length js + 2 = omega (arith, d.counted, p.number) in
      subst (λ n. Wrong spelled (written spelled header js) line.bytes.now n f) n (w (written spelled header js) (p.offset ∙ d.begins))

  pub lines_read : {text : List ℕ} {lines : Lines} {js : List (Join K)} → Begun spelled header text lines js → lines.passed - 1 ≡ length js
  lines_read d = omega (arith, d.counted)

-- a text that begins with a line does not begin with another
headless_begins : {header text : List ℕ} {p : Place} → Lacks 10 header → NoHeader header text p → Begins header text → ⊥
headless_begins single (endless lacks is) b = uncut 10 _ b.0 (subst (Lacks 10) b.1 lacks)
headless_begins single (other L rest at lacks ne is) b = ne (same_cut 10 L _ rest b.0 lacks single (sym at ∙ b.1)).0

-- the header is passed just where the text begins with it
pub header_decided : (header text : List ℕ) → Lacks 10 header → (r : Result Lines LineFault) → MatchResult r (AfterHeader header text) (Headless header text) → Decides (is_ok r) (Begins header text)
header_decided header text single (Ok lines) h = (λ is. (lines.rest.now, h.whole), λ b. refl)
header_decided header text single (Err e) h = (λ is. absurd (false≢true is), λ b. absurd (headless_begins single h.1 b))

-- what an answer says of the reason for it
module _ {R : Type 0} where
  pub handed_ok : (numbered : R → ℕ) (p : Place) (o : Option R) → Ok tt ≡ handed numbered p o → o ≡ None
  handed_ok numbered p None e = refl
  handed_ok numbered p (Some x) e = cc

  pub handed_err : (numbered : R → ℕ) (p : Place) (o : Option R) (f : JoinFault) → Err f ≡ handed numbered p o → (x : R) × (o ≡ Some x) × (f ≡ record { number = numbered x; place = p })
  handed_err numbered p None f e = absurd (cc)
  handed_err numbered p (Some x) f e = (x, refl, cc)

module _ {J R : Type 0} (rule : List J → J → Option R) where
  pub accepts_more : (before js : List J) (j : J) → Accepts rule before js → rule (before ++ js) j ≡ None → Accepts rule before (js ++ j ∷ [])
  accepts_more before [] j h e = (ap (λ l. rule l j) (sym (append-nil before)) ∙ e, tt)
  accepts_more before (k ∷ js) j h e = (h.0, accepts_more (before ++ k ∷ []) js j h.1 (ap (λ l. rule l j) (append_assoc before (k ∷ []) js) ∙ e))
