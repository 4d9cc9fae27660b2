-- Steps of the loops.
use Rattle.std.proofs.Common.{◌≡◌, ◌≢◌, ℕ, suc, ◌+◌, ◌-◌, ◌<◌, ◌≤◌, List, [], ◌∷◌, ◌++◌, Option, Result, Ok, Err, IfOk, IfSome, IfNone, OnOk, ◌⊎◌, inl, inr, refl, sym, arith, append_assoc, append-nil, subst}
use Rattle.chart_text.specs.TextFaults.{HasTextFault}
use Rattle.chart_text.specs.declared.fault.TextFault.{TextFault}
use Rattle.chart_text.specs.declared.fault.TextFault.TheVariants.{TooLarge, NoFirstLine, NotALine, NoEnd, Memory}
use Rattle.fault_slips.specs.LineMarks.Emptied.{emptied}
use Rattle.fault_lists.specs.MisreadLines.Misread.{AreMisread, enough, none, next, misread_line}

-- the lines so far and those of what is left are those of the text
abbrev pub ListsSoFar : List ℕ → List ℕ → List ℕ → ℕ → Type 0
ListsSoFar text rest lines count = (others : List ℕ) → AreMisread (500 - count) rest others → AreMisread 500 text (lines ++ others)

-- one line more
pub ListsSoFar-more : (text rest lines : List ℕ) (count line : ℕ) → count < 500 → HasTextFault rest (NotALine line)
    → ListsSoFar text rest lines count → ListsSoFar text (emptied line rest) (lines ++ line ∷ []) (count + 1)
ListsSoFar-more text rest lines count line more fault so_far others are =
    let one : suc (500 - (count + 1)) ≡ 500 - count = omega (arith, more) in
    subst (AreMisread 500 text) (sym (append_assoc lines (line ∷ []) others))
    (so_far (line ∷ others) (subst (λ (n : ℕ). AreMisread n rest (line ∷ others)) one (next fault are)))

-- no line more
pub ListsSoFar-none : (text rest lines : List ℕ) (count : ℕ) → count < 500 → ((line : ℕ) → HasTextFault rest (NotALine line) → ⊥)
    → ListsSoFar text rest lines count → AreMisread 500 text lines
ListsSoFar-none text rest lines count more good so_far =
    let one : suc (500 - (count + 1)) ≡ 500 - count = omega (arith, more) in
    subst (AreMisread 500 text) (append-nil lines) (so_far [] (subst (λ (n : ℕ). AreMisread n rest []) one (none good)))

-- enough lines
pub ListsSoFar-all : (text rest lines : List ℕ) (count : ℕ) → 500 ≤ count → ListsSoFar text rest lines count → AreMisread 500 text lines
ListsSoFar-all text rest lines count all so_far =
    let zero_left : 0 ≡ 500 - count = omega (arith, all) in
    subst (AreMisread 500 text) (append-nil lines) (so_far [] (subst (λ (n : ℕ). AreMisread n rest []) zero_left enough))

-- a line that is told is one that no form derives
told_at : (text : List ℕ) (fault : TextFault) → HasTextFault text fault → IfSome (misread_line fault) (λ line. HasTextFault text (NotALine line))
told_at text TooLarge has = tt
told_at text NoFirstLine has = tt
told_at text (NotALine line) has = has
told_at text NoEnd has = tt
told_at text Memory has = tt

pub some_told : {E : Type 0} (text : List ℕ) (fault : TextFault) (answer : Result (Option ℕ) E) → IfOk answer (λ found. found ≡ misread_line fault)
    → OnOk answer (fault ≢ Memory) → (fault ≢ Memory → HasTextFault text fault)
    → IfOk answer (λ found. IfSome found (λ line. HasTextFault text (NotALine line)))
some_told text fault (Ok found) is known has =
    subst (λ (f : Option ℕ). IfSome f (λ line. HasTextFault text (NotALine line))) (sym is) (told_at text fault (has known))
some_told text fault (Err e) is known has = tt

-- a chart that was read has no such line
pub none_read : {V : Type 0} (text : List ℕ) (read : Result V TextFault) (chart : V) → read ≡ Ok chart
    → ((told : TextFault) → HasTextFault text told → (read ≡ Err told) ⊎ (read ≡ Err Memory)) → (line : ℕ) → HasTextFault text (NotALine line) → ⊥
none_read text read chart is only line has = by (only (NotALine line) has)
  where
    by : (read ≡ Err (NotALine line)) ⊎ (read ≡ Err Memory) → ⊥
    by (inl one) = cc
    by (inr other) = cc

-- nor has a text with another fault
none_other : {V : Type 0} (text : List ℕ) (read : Result V TextFault) (fault : TextFault) → read ≡ Err fault → fault ≢ Memory
    → ((line : ℕ) → fault ≢ NotALine line)
    → ((told : TextFault) → HasTextFault text told → (read ≡ Err told) ⊎ (read ≡ Err Memory)) → (line : ℕ) → HasTextFault text (NotALine line) → ⊥
none_other text read fault is known another only line has = by (only (NotALine line) has)
  where
    by : (read ≡ Err (NotALine line)) ⊎ (read ≡ Err Memory) → ⊥
    by (inl one) = another line cc
    by (inr other) = known cc

none_at : {V : Type 0} (text : List ℕ) (read : Result V TextFault) (fault : TextFault) → read ≡ Err fault → fault ≢ Memory
    → ((told : TextFault) → HasTextFault text told → (read ≡ Err told) ⊎ (read ≡ Err Memory))
    → IfNone (misread_line fault) ((line : ℕ) → HasTextFault text (NotALine line) → ⊥)
none_at text read TooLarge is known only = none_other text read TooLarge is known (λ line same. cc) only
none_at text read NoFirstLine is known only = none_other text read NoFirstLine is known (λ line same. cc) only
none_at text read (NotALine line) is known only = tt
none_at text read NoEnd is known only = none_other text read NoEnd is known (λ line same. cc) only
none_at text read Memory is known only = absurd (known refl)

pub none_told : {V E : Type 0} (text : List ℕ) (read : Result V TextFault) (fault : TextFault) (answer : Result (Option ℕ) E) → read ≡ Err fault
    → IfOk answer (λ found. found ≡ misread_line fault) → OnOk answer (fault ≢ Memory)
    → ((told : TextFault) → HasTextFault text told → (read ≡ Err told) ⊎ (read ≡ Err Memory))
    → IfOk answer (λ found. IfNone found ((line : ℕ) → HasTextFault text (NotALine line) → ⊥))
none_told text read fault (Ok found) from is known only =
    subst (λ (f : Option ℕ). IfNone f ((line : ℕ) → HasTextFault text (NotALine line) → ⊥)) (sym is) (none_at text read fault from known only)
none_told text read fault (Err e) from is known only = tt
