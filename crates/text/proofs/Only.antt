-- A line writes one join or has one fault, and a text has one outcome. Assumes nothing.
use Rattle.std.proofs.Common.{◌≡◌, ℕ, ◌+◌, List, [], ◌∷◌, ◌++◌, length, Some, None, Err, codes, Option, Result, sym, refl, ap, ◌∙◌, subst, arith}
use Rattle.std.specs.List.{flat_map, AllByRecursion}
use Rattle.std.specs.Fmt.{signed_decimal}
use Rattle.std.proofs.lemmas.Fmt.{signed_decimal_injective}
use Rattle.std.proofs.lemmas.List.{append_assoc, append-nil, append_cancel_left, length-append}
use Rattle.keys.specs.Words.{Lacks, Word}
use Rattle.keys.specs.declared.kinds.KeyRefusal.TheVariants.{Malformed}
use Rattle.faults.specs.Faults.{placed, of_line, of_word, of_join}
use Rattle.faults.specs.declared.places.Fault.{Fault}
use Rattle.faults.specs.declared.refusals.LineFault.TheVariants.{Misformed}
use Rattle.faults.specs.declared.places.Place.{Place}
use Rattle.faults.specs.declared.refusals.WordFault.TheVariants.{Key, Weight}
use Rattle.text.specs.Boards.{Setting, line_of, written, Fine, OneList, NoHeader, endless, other, Stop, ended, unended, wrong, refused, oversize, headless, reading, OneOutcome}
use Rattle.text.specs.Joins.{Accepts, Joins}
use Rattle.text.specs.Lines.{spaced, Words}
use Rattle.text.specs.Tokens.{Wrong, misformed, first_malformed, second_malformed, weight_malformed, before_first_key, before_second_key, before_weight}
use Rattle.text.specs.declared.takers.Join.{Join}
use Rattle.text.proofs.Cuts.{uncut, same_cut, lacks_cons, lacks_append, lacks_by}
use Rattle.text.proofs.Split.{found_all}
use Rattle.text.proofs.Weights.{short_mag, weight_word}

-- a line has its words in one way
words_only : {L a b w a' b' w' : List ℕ} → Words L a b w → Words L a' b' w' → (a ≡ a') × (b ≡ b') × (w ≡ w')
words_only {L} {a} {b} {w} h k =
    found_all k (a ++ 32 ∷ (b ++ 32 ∷ w)) a (b ++ 32 ∷ w) b w h.formed refl h.first.spaceless refl h.second.spaceless

after_space : (s : List ℕ) → Lacks 10 s → Lacks 10 (32 ∷ s)
after_space s h = lacks_cons 10 32 s (λ e. omega arith) h

not_nil : (L rest : List ℕ) → L ++ 10 ∷ rest ≡ [] → ⊥
not_nil L rest e = omega (arith, ap length e, length-append L (10 ∷ rest))

-- keys are spelled by words, each by its own
module _ {K : Type 0} (spelled : K → List ℕ) (word : (k : K) → Word (spelled k)) (apart : (a b : K) → spelled a ≡ spelled b → a ≡ b) where
  abbrev bare : Join K → List ℕ
  bare j = spaced (spelled j.first) (spelled j.second) (signed_decimal j.weight)

  worded : (j : Join K) → Fine j → Words (bare j) (spelled j.first) (spelled j.second) (signed_decimal j.weight)
  worded j h = record { formed = refl; first = word j.first; second = word j.second; third = weight_word j.weight h }

  one_line : (j : Join K) → Fine j → Lacks 10 (bare j)
  one_line j h =
      let a = spelled j.first in
      let b = spelled j.second in
      let w = signed_decimal j.weight in
      let third = after_space w (weight_word j.weight h).endless in
      let second = after_space (b ++ 32 ∷ w) (lacks_append 10 b (32 ∷ w) (word j.second).endless third) in
      let first = after_space (a ++ 32 ∷ (b ++ 32 ∷ w)) (lacks_append 10 a (32 ∷ (b ++ 32 ∷ w)) (word j.first).endless second) in
      lacks_append 10 (codes "join") (32 ∷ (a ++ 32 ∷ (b ++ 32 ∷ w))) (lacks_by 10 (codes "join") refl) first

  -- a line writes one join
  joins_only : (L : List ℕ) (j k : Join K) → Joins spelled L j → Joins spelled L k → j ≡ k
  joins_only L j k h h' =
      let p = words_only h.worded h'.worded in
      let x : j.first ≡ k.first = apart j.first k.first p.0 in
      let y : j.second ≡ k.second = apart j.second k.second p.1 in
      let v : j.weight ≡ k.weight = signed_decimal_injective j.weight k.weight (short_mag j.weight h.short) (short_mag k.weight h'.short) p.2 in
      λ i. record { first = x i; second = y i; weight = v i }

  bare_joins : (j : Join K) → Fine j → Joins spelled (bare j) j
  bare_joins j h = record { worded = worded j h; short = h }

  -- a line that writes a join has no fault
  no_fault : (F L : List ℕ) (n : ℕ) (f : Fault) (j : Join K) → Joins spelled L j → Wrong spelled F L n f → ⊥
  no_fault F L n f j h (misformed none e) = none _ _ _ h.worded
  no_fault F L n f j h (first_malformed a b w s none e) = none j.first (words_only h.worded s).0
  no_fault F L n f j h (second_malformed a b w s none e) = none j.second (words_only h.worded s).1
  no_fault F L n f j h (weight_malformed a b w s none e) = none j.weight h.short (words_only h.worded s).2

  -- a line has one fault
  fault_only : (F L : List ℕ) (n : ℕ) (f f' : Fault) → Wrong spelled F L n f → Wrong spelled F L n f' → f ≡ f'
  fault_only F L n f f' (misformed none e) (misformed none' e') = e ∙ sym e'
  fault_only F L n f f' (misformed none e) (first_malformed a b w s none' e') = absurd (none a b w s)
  fault_only F L n f f' (misformed none e) (second_malformed a b w s none' e') = absurd (none (spelled a) b w s)
  fault_only F L n f f' (misformed none e) (weight_malformed a b w s none' e') = absurd (none (spelled a) (spelled b) w s)
  fault_only F L n f f' (first_malformed a b w s none e) (misformed none' e') = absurd (none' a b w s)
  fault_only F L n f f' (first_malformed a b w s none e) (first_malformed a' b' w' s' none' e') =
      e ∙ ap (λ x. of_word (Key Malformed (placed n (before_first_key F) x))) (words_only s s').0 ∙ sym e'
  fault_only F L n f f' (first_malformed a b w s none e) (second_malformed a' b' w' s' none' e') = absurd (none a' (sym (words_only s s').0))
  fault_only F L n f f' (first_malformed a b w s none e) (weight_malformed a' b' w' s' none' e') = absurd (none a' (sym (words_only s s').0))
  fault_only F L n f f' (second_malformed a b w s none e) (misformed none' e') = absurd (none' (spelled a) b w s)
  fault_only F L n f f' (second_malformed a b w s none e) (first_malformed a' b' w' s' none' e') = absurd (none' a (words_only s s').0)
  fault_only F L n f f' (second_malformed a b w s none e) (second_malformed a' b' w' s' none' e') =
      let p = words_only s s' in
      e ∙ ap (λ x. of_word (Key Malformed (placed n (before_second_key F x) b))) p.0 ∙ ap (λ x. of_word (Key Malformed (placed n (before_second_key F (spelled a')) x))) p.1 ∙ sym e'
  fault_only F L n f f' (second_malformed a b w s none e) (weight_malformed a' b' w' s' none' e') = absurd (none b' (sym (words_only s s').1))
  fault_only F L n f f' (weight_malformed a b w s none e) (misformed none' e') = absurd (none' (spelled a) (spelled b) w s)
  fault_only F L n f f' (weight_malformed a b w s none e) (first_malformed a' b' w' s' none' e') = absurd (none' a (words_only s s').0)
  fault_only F L n f f' (weight_malformed a b w s none e) (second_malformed a' b' w' s' none' e') = absurd (none' b (words_only s s').1)
  fault_only F L n f f' (weight_malformed a b w s none e) (weight_malformed a' b' w' s' none' e') =
      let p = words_only s s' in
      e ∙ ap (λ x. of_word (Weight (placed n (before_weight F x (spelled b)) w))) p.0 ∙ ap (λ x. of_word (Weight (placed n (before_weight F (spelled a') x) w))) p.1 ∙ ap (λ x. of_word (Weight (placed n (before_weight F (spelled a') (spelled b')) x))) p.2 ∙ sym e'

  -- the first line of a text that goes on with a join
  first_line : (L more rest : List ℕ) (k : Join K) → Fine k → Lacks 10 L → L ++ 10 ∷ more ≡ line_of spelled k ++ rest → (L ≡ bare k) × (more ≡ rest)
  first_line L more rest k h l e = same_cut 10 L (bare k) more rest l (one_line k h) (e ∙ append_assoc (bare k) (10 ∷ []) rest)

  -- two readings of one text: they are the same, or one goes on where the other stops
  data Apart (js : List (Join K)) (rest : List ℕ) (ks : List (Join K)) (rest' : List ℕ) : Type 0 where
    same : js ≡ ks → rest ≡ rest' → Apart js rest ks rest'
    shorter : (k : Join K) (more : List (Join K)) (tail : List ℕ) → ks ≡ js ++ k ∷ more → Fine k → rest ≡ line_of spelled k ++ tail → Apart js rest ks rest'
    longer : (j : Join K) (more : List (Join K)) (tail : List ℕ) → js ≡ ks ++ j ∷ more → Fine j → rest' ≡ line_of spelled j ++ tail → Apart js rest ks rest'

  on : (j k : Join K) → j ≡ k → (js : List (Join K)) (rest : List ℕ) (ks : List (Join K)) (rest' : List ℕ) → Apart js rest ks rest' → Apart (j ∷ js) rest (k ∷ ks) rest'
  on j k e js rest ks rest' (same p q) = same (λ i. e i ∷ p i) q
  on j k e js rest ks rest' (shorter m more tail p h q) = shorter m more tail (λ i. sym e i ∷ p i) h q
  on j k e js rest ks rest' (longer m more tail p h q) = longer m more tail (λ i. e i ∷ p i) h q

  compared : (js : List (Join K)) (rest : List ℕ) (ks : List (Join K)) (rest' : List ℕ) → AllByRecursion Fine js → AllByRecursion Fine ks → flat_map (line_of spelled) js ++ rest ≡ flat_map (line_of spelled) ks ++ rest' → Apart js rest ks rest'
  compared [] rest [] rest' h h' e = same refl e
  compared [] rest (k ∷ ks) rest' h h' e = shorter k ks (flat_map (line_of spelled) ks ++ rest') refl h'.0 (e ∙ append_assoc (line_of spelled k) (flat_map (line_of spelled) ks) rest')
  compared (j ∷ js) rest [] rest' h h' e = longer j js (flat_map (line_of spelled) js ++ rest) refl h.0 (sym e ∙ append_assoc (line_of spelled j) (flat_map (line_of spelled) js) rest)
  compared (j ∷ js) rest (k ∷ ks) rest' h h' e =
      let x = flat_map (line_of spelled) js ++ rest in
      let y = flat_map (line_of spelled) ks ++ rest' in
      let t : bare j ++ 10 ∷ x ≡ line_of spelled k ++ y = sym (append_assoc (bare j) (10 ∷ []) x) ∙ sym (append_assoc (line_of spelled j) (flat_map (line_of spelled) js) rest) ∙ e ∙ append_assoc (line_of spelled k) (flat_map (line_of spelled) ks) rest' in
      let p = first_line (bare j) x y k h'.0 (one_line j h.0) t in
      let one : j ≡ k = joins_only (bare j) j k (bare_joins j h.0) (subst (λ L. Joins spelled L k) (sym p.0) (bare_joins k h'.0)) in
      on j k one js rest ks rest' (compared js rest ks rest' h.1 h'.1 p.1)

  same_list : (js ks : List (Join K)) → Apart js [] ks [] → js ≡ ks
  same_list js ks (same p q) = p
  same_list js ks (shorter k more tail p h q) = absurd (not_nil (bare k) tail (sym (append_assoc (bare k) (10 ∷ []) tail) ∙ sym q))
  same_list js ks (longer j more tail p h q) = absurd (not_nil (bare j) tail (sym (append_assoc (bare j) (10 ∷ []) tail) ∙ sym q))

  -- a text writes one list of joins
  pub one_list : (header text : List ℕ) → OneList spelled header text
  one_list header text js ks w w' =
      same_list js ks (compared js [] ks [] w.fine w'.fine (ap (λ l. l ++ []) (append_cancel_left (header ++ 10 ∷ []) _ _ (sym w.whole ∙ w'.whole))))

accepted_at : {J R : Type 0} (rule : List J → J → Option R) (before js more : List J) (k : J) → Accepts rule before (js ++ k ∷ more) → rule (before ++ js) k ≡ None
accepted_at rule before [] more k h = ap (λ l. rule l k) (append-nil before) ∙ h.0
accepted_at rule before (j ∷ js) more k h = ap (λ l. rule l k) (sym (append_assoc before (j ∷ []) js)) ∙ accepted_at rule (before ++ j ∷ []) js more k h.1

none_some : {R : Type 0} (o : Option R) (e : R) → o ≡ None → o ≡ Some e → ⊥
none_some o e p q = cc

module _ {K R : Type 0} (s : Setting K R) (word : (k : K) → Word (s.spelled k)) (apart : (a b : K) → s.spelled a ≡ s.spelled b → a ≡ b) where
  -- the reading does not stop before a join that is taken
  goes_on : (F rest tail : List ℕ) (n : ℕ) (taken : List (Join K)) (r : Result ℕ Fault) (k : Join K) → Fine k → rest ≡ line_of s.spelled k ++ tail → s.rule taken k ≡ None → Stop s F rest n taken r → ⊥
  goes_on F rest tail n taken r k h e free (ended is _) = not_nil (bare s.spelled word apart k) tail (sym (append_assoc (bare s.spelled word apart k) (10 ∷ []) tail) ∙ sym e ∙ is)
  goes_on F rest tail n taken r k h e free (unended some lacks _) = uncut 10 (bare s.spelled word apart k) tail (subst (Lacks 10) (e ∙ append_assoc (bare s.spelled word apart k) (10 ∷ []) tail) lacks)
  goes_on F rest tail n taken r k h e free (wrong L more f is lacks w _) =
      let p = first_line s.spelled word apart L more tail k h lacks (sym is ∙ e) in
      no_fault s.spelled word apart F L (n + 2) f k (subst (λ l. Joins s.spelled l k) (sym p.0) (bare_joins s.spelled word apart k h)) w
  goes_on F rest tail n taken r k h e free (refused L more j x is lacks joins told _) =
      let p = first_line s.spelled word apart L more tail k h lacks (sym is ∙ e) in
      let one = joins_only s.spelled word apart L j k joins (subst (λ l. Joins s.spelled l k) (sym p.0) (bare_joins s.spelled word apart k h)) in
      none_some (s.rule taken k) x free (ap (s.rule taken) (sym one) ∙ told)

  -- it stops in one way
  stop_only : (F rest : List ℕ) (n : ℕ) (taken : List (Join K)) (r r' : Result ℕ Fault) → Stop s F rest n taken r → Stop s F rest n taken r' → r ≡ r'
  stop_only F rest n taken r r' (ended is e) (ended is' e') = e ∙ sym e'
  stop_only F rest n taken r r' (ended is e) (unended some lacks e') = absurd (omega (arith, ap length is))
  stop_only F rest n taken r r' (ended is e) (wrong L more f at lacks w e') = absurd (not_nil L more (sym at ∙ is))
  stop_only F rest n taken r r' (ended is e) (refused L more j x at lacks joins told e') = absurd (not_nil L more (sym at ∙ is))
  stop_only F rest n taken r r' (unended some lacks e) (ended is' e') = absurd (omega (arith, ap length is'))
  stop_only F rest n taken r r' (unended some lacks e) (unended some' lacks' e') = e ∙ sym e'
  stop_only F rest n taken r r' (unended some none e) (wrong L more f at lacks w e') = absurd (uncut 10 L more (subst (Lacks 10) at none))
  stop_only F rest n taken r r' (unended some none e) (refused L more j x at lacks joins told e') = absurd (uncut 10 L more (subst (Lacks 10) at none))
  stop_only F rest n taken r r' (wrong L more f at lacks w e) (ended is' e') = absurd (not_nil L more (sym at ∙ is'))
  stop_only F rest n taken r r' (wrong L more f at lacks w e) (unended some none e') = absurd (uncut 10 L more (subst (Lacks 10) at none))
  stop_only F rest n taken r r' (wrong L more f at lacks w e) (wrong L' more' f' at' lacks' w' e') =
      let p = same_cut 10 L' L more' more lacks' lacks (sym at' ∙ at) in
      e ∙ ap Err (fault_only s.spelled word apart F L (n + 2) f f' w (subst (λ l. Wrong s.spelled F l (n + 2) f') p.0 w')) ∙ sym e'
  stop_only F rest n taken r r' (wrong L more f at lacks w e) (refused L' more' j x at' lacks' joins told e') =
      let p = same_cut 10 L' L more' more lacks' lacks (sym at' ∙ at) in
      absurd (no_fault s.spelled word apart F L (n + 2) f j (subst (λ l. Joins s.spelled l j) p.0 joins) w)
  stop_only F rest n taken r r' (refused L more j x at lacks joins told e) (ended is' e') = absurd (not_nil L more (sym at ∙ is'))
  stop_only F rest n taken r r' (refused L more j x at lacks joins told e) (unended some none e') = absurd (uncut 10 L more (subst (Lacks 10) at none))
  stop_only F rest n taken r r' (refused L more j x at lacks joins told e) (wrong L' more' f at' lacks' w e') =
      let p = same_cut 10 L L' more more' lacks lacks' (sym at ∙ at') in
      absurd (no_fault s.spelled word apart F L' (n + 2) f j (subst (λ l. Joins s.spelled l j) p.0 joins) w)
  stop_only F rest n taken r r' (refused L more j x at lacks joins told e) (refused L' more' j' x' at' lacks' joins' told' e') =
      let p = same_cut 10 L L' more more' lacks lacks' (sym at ∙ at') in
      let one : j ≡ j' = joins_only s.spelled word apart L' j j' (subst (λ l. Joins s.spelled l j) p.0 joins) joins' in
      let both : Some x ≡ Some x' = sym told ∙ ap (s.rule taken) one ∙ told' in
      let same_x : x ≡ x' = cc in
      e ∙ ap (λ y. Err (of_join (record { number = s.numbered y; place = placed (n + 2) F L }))) same_x ∙ ap (λ l. Err (of_join (record { number = s.numbered x'; place = placed (n + 2) F l }))) p.0 ∙ sym e'

  module _ (single : Lacks 10 s.header) (text : List ℕ) where
    headed : (js : List (Join K)) (rest : List ℕ) → text ≡ written s.spelled s.header js ++ rest → text ≡ s.header ++ 10 ∷ (flat_map (line_of s.spelled) js ++ rest)
    headed js rest e = e ∙ append_assoc (s.header ++ 10 ∷ []) (flat_map (line_of s.spelled) js) rest ∙ append_assoc s.header (10 ∷ []) (flat_map (line_of s.spelled) js ++ rest)

    no_headless : (p : Place) (js : List (Join K)) (rest : List ℕ) → text ≡ written s.spelled s.header js ++ rest → NoHeader s.header text p → ⊥
    no_headless p js rest e (endless lacks is) = uncut 10 s.header _ (subst (Lacks 10) (headed js rest e) lacks)
    no_headless p js rest e (other L more at lacks ne is) = ne (same_cut 10 L s.header more _ lacks single (sym at ∙ headed js rest e)).0

    headless_only : (p p' : Place) → NoHeader s.header text p → NoHeader s.header text p' → p ≡ p'
    headless_only p p' (endless lacks is) (endless lacks' is') = is ∙ sym is'
    headless_only p p' (endless none is) (other L more at lacks ne is') = absurd (uncut 10 L more (subst (Lacks 10) at none))
    headless_only p p' (other L more at lacks ne is) (endless none is') = absurd (uncut 10 L more (subst (Lacks 10) at none))
    headless_only p p' (other L more at lacks ne is) (other L' more' at' lacks' ne' is') =
        is ∙ ap (placed 1 []) (same_cut 10 L L' more more' lacks lacks' (sym at ∙ at')).0 ∙ sym is'

    module _ (before : List (Join K)) where
      reading_only : (after after' : List (Join K)) (r r' : Result ℕ Fault) (js : List (Join K)) (rest : List ℕ) (ks : List (Join K)) (rest' : List ℕ) → Accepts s.rule before js → Accepts s.rule before ks → after ≡ before ++ js → after' ≡ before ++ ks → Stop s (written s.spelled s.header js) rest (length js) after r → Stop s (written s.spelled s.header ks) rest' (length ks) after' r' → Apart s.spelled word apart js rest ks rest' → (r ≡ r') × (after ≡ after')
      reading_only after after' r r' js rest ks rest' ok ok' is is' stop stop' (same p q) =
          let one : after ≡ after' = is ∙ ap (λ l. before ++ l) p ∙ sym is' in
          (stop_only (written s.spelled s.header ks) rest' (length ks) after' r r' (subst (λ l. Stop s (written s.spelled s.header l) rest' (length l) after' r) p (subst (λ t. Stop s (written s.spelled s.header js) t (length js) after' r) q (subst (λ a. Stop s (written s.spelled s.header js) rest (length js) a r) one stop))) stop', one)
      reading_only after after' r r' js rest ks rest' ok ok' is is' stop stop' (shorter k more tail p h q) =
          absurd (goes_on _ rest tail (length js) after r k h q (ap (λ l. s.rule l k) is ∙ accepted_at s.rule before js more k (subst (Accepts s.rule before) p ok')) stop)
      reading_only after after' r r' js rest ks rest' ok ok' is is' stop stop' (longer j more tail p h q) =
          absurd (goes_on _ rest' tail (length ks) after' r' j h q (ap (λ l. s.rule l j) is' ∙ accepted_at s.rule before ks more j (subst (Accepts s.rule before) p ok)) stop')

    pub one_outcome : OneOutcome s text
    one_outcome before after after' r r' (oversize l a e) (oversize l' a' e') = (e ∙ sym e', a ∙ sym a')
    one_outcome before after after' r r' (oversize l a e) (headless p' l' n' a' e') = absurd (omega arith)
    one_outcome before after after' r r' (oversize l a e) (reading ks rest' l' w' h' ok' a' stop') = absurd (omega arith)
    one_outcome before after after' r r' (headless p l n a e) (oversize l' a' e') = absurd (omega arith)
    one_outcome before after after' r r' (headless p l n a e) (headless p' l' n' a' e') = (e ∙ ap (λ q. Err (of_line (Misformed q))) (headless_only p p' n n') ∙ sym e', a ∙ sym a')
    one_outcome before after after' r r' (headless p l n a e) (reading ks rest' l' w' h' ok' a' stop') = absurd (no_headless p ks rest' w' n)
    one_outcome before after after' r r' (reading js rest l w h ok a stop) (oversize l' a' e') = absurd (omega arith)
    one_outcome before after after' r r' (reading js rest l w h ok a stop) (headless p' l' n' a' e') = absurd (no_headless p' js rest w n')
    one_outcome before after after' r r' (reading js rest l w h ok a stop) (reading ks rest' l' w' h' ok' a' stop') =
        reading_only before after after' r r' js rest ks rest' ok ok' a a' stop stop'
        (compared s.spelled word apart js rest ks rest' h h'
        (append_cancel_left (s.header ++ 10 ∷ []) _ _ (sym (append_assoc (s.header ++ 10 ∷ []) (flat_map (line_of s.spelled) js) rest) ∙ sym w ∙ w' ∙ append_assoc (s.header ++ 10 ∷ []) (flat_map (line_of s.spelled) ks) rest')))
