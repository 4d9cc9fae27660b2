-- The list of a chart's faults is in order.
use Rattle.std.proofs.Common.{◌≡◌, ℕ, suc, ◌+◌, ◌<◌, ◌≤◌, Bool, true, false, cond, List, [], ◌∷◌, ◌++◌, map, filter, refl, sym, arith, inl, inr, subst, All, AllPairs}
use Rattle.std.proofs.lemmas.List.Elements.{All-nil, All-cons, All-head, All-tail, All-append, All-weaker}
use Rattle.std.proofs.lemmas.List.Kept.{AllPairs-cons}
use Rattle.chart_lines.specs.ChartsWords.Chart.{Chart, NumbersRise}
use Rattle.chart_lines.specs.declared.charts.chart.Line.{Line}
use Rattle.chart_lines.proofs.ChartsWords.Rising.{NumbersRise-tail}
use Rattle.chart_rules.specs.declared.rule.Rule.{Rule}
use Rattle.chart_rules.specs.HelperOrder.{in_order}
use Rattle.chart_rules.specs.Rules.{lacks, rule_number}
use Rattle.chart_rules.proofs.InOrder.{AreNumbered, AreNumbered-in_order}
use Rattle.fault_chart_words.specs.declared.listing.BrokenRule.{BrokenRule}
use Rattle.fault_chart_words.specs.Listed.{is_at_fault, ComesBefore}
use Rattle.fault_chart_words.specs.HelperLists.{at_line, faults_at, faults_at_end, faults_from, faults_of}

-- the elements after the first are in order among themselves
AllPairs-tail : {X : Type 0} (R : X → X → Type 0) (x : X) (xs : List X) → AllPairs R (x ∷ xs) → AllPairs R xs
AllPairs-tail R x xs pairs i j d before within = pairs (suc i) (suc j) d (omega (arith, before)) (omega (arith, within))

-- the first element comes before all others
AllPairs-head : {X : Type 0} (R : X → X → Type 0) (x : X) (xs : List X) → AllPairs R (x ∷ xs) → All (R x) xs
AllPairs-head R x xs pairs k d within = pairs 0 (suc k) d (omega arith) (omega (arith, within))

-- two lists in order, each element of the one before each of the other
AllPairs-append : {X : Type 0} (R : X → X → Type 0) (xs ys : List X) → AllPairs R xs → AllPairs R ys → All (λ x. All (R x) ys) xs → AllPairs R (xs ++ ys)
AllPairs-append R [] ys one other apart = other
AllPairs-append R (x ∷ xs) ys one other apart =
    AllPairs-cons R x (xs ++ ys)
    (All-append (R x) xs ys (AllPairs-head R x xs one) (All-head (λ each. All (R each) ys) x xs apart))
    (AllPairs-append R xs ys (AllPairs-tail R x xs one) other (All-tail (λ each. All (R each) ys) x xs apart))

-- no pairs
AllPairs-nil : {X : Type 0} (R : X → X → Type 0) → AllPairs R []
AllPairs-nil R i j d before within = absurd (omega (arith, within))

-- a fault has a number, and no lower rule than one
abbrev pub IsOfLine : ℕ → ℕ → BrokenRule → Type 0
IsOfLine number least fault = (fault.line ≡ number) × (least ≤ rule_number fault.rule)

-- a fault has a number
abbrev pub IsOn : ℕ → BrokenRule → Type 0
IsOn number fault = fault.line ≡ number

-- a fault stands between two lines
abbrev pub IsBetween : ℕ → ℕ → BrokenRule → Type 0
IsBetween bound end fault = (bound ≤ fault.line) × (fault.line < end)

-- what a rule that passes adds to the faults of a line
abbrev pub one_more : Bool → ℕ → Rule → List BrokenRule → List BrokenRule
one_more passes number each others = cond passes (record { line = number; rule = each } ∷ others) others

-- the first rule of a list, and the others
at_line-cons : (number : ℕ) (test : Rule → Bool) (each : Rule) (rules : List Rule)
    → at_line number test (each ∷ rules) ≡ one_more (test each) number each (at_line number test rules)
at_line-cons number test each rules = by (test each)
  where
    by : (passes : Bool) → map (λ rule. record { line = number; rule = rule }) (cond passes (each ∷ filter test rules) (filter test rules))
        ≡ one_more passes number each (at_line number test rules)
    by true = refl
    by false = refl

-- the faults of a line have its number, and no lower rule than the first of the rules
at_number : (number least : ℕ) (test : Rule → Bool) (rules : List Rule) → AreNumbered least rules
    → All (IsOfLine number least) (at_line number test rules)
at_number number least test [] numbered = All-nil (IsOfLine number least)
at_number number least test (each ∷ rules) numbered =
    subst (All (IsOfLine number least)) (sym (at_line-cons number test each rules))
    (by (test each)
    (All-weaker (IsOfLine number (least + 1)) (IsOfLine number least) (λ f is. (is.0, omega (arith, is.1))) (at_line number test rules)
    (at_number number (least + 1) test rules numbered.1)))
  where
    by : (passes : Bool) → All (IsOfLine number least) (at_line number test rules)
        → All (IsOfLine number least) (one_more passes number each (at_line number test rules))
    by true later = All-cons (IsOfLine number least) (record { line = number; rule = each }) (at_line number test rules) (refl, omega (arith, numbered.0)) later
    by false later = later

-- the faults of a line are in order
line_ordered : (number least : ℕ) (test : Rule → Bool) (rules : List Rule) → AreNumbered least rules → AllPairs ComesBefore (at_line number test rules)
line_ordered number least test [] numbered = AllPairs-nil ComesBefore
line_ordered number least test (each ∷ rules) numbered =
    subst (AllPairs ComesBefore) (sym (at_line-cons number test each rules))
    (by (test each) (line_ordered number (least + 1) test rules numbered.1))
  where
    above : All (ComesBefore (record { line = number; rule = each })) (at_line number test rules)
    above =
        All-weaker (IsOfLine number (least + 1)) (ComesBefore (record { line = number; rule = each }))
        (λ f is. inr (sym is.0, omega (arith, is.1, numbered.0))) (at_line number test rules)
        (at_number number (least + 1) test rules numbered.1)

    by : (passes : Bool) → AllPairs ComesBefore (at_line number test rules)
        → AllPairs ComesBefore (one_more passes number each (at_line number test rules))
    by true later = AllPairs-cons ComesBefore (record { line = number; rule = each }) (at_line number test rules) above later
    by false later = later

-- the number of a line stands before END
below : (end : ℕ) (first : Line) (lines : List Line) → NumbersRise (first ∷ lines) end → first.number < end
below end first [] rise = rise
below end first (next ∷ lines) rise = omega (arith, rise.0, below end next lines rise.1)

module _ (chart : Chart) where
  -- the faults of a line have its number
  of_number : (earlier : List Line) (line : Line) → All (IsOn line.number) (faults_at chart earlier line)
  unfolding faults_at
  of_number earlier line =
      All-weaker (IsOfLine line.number 21) (IsOn line.number) (λ f is. is.0) (at_line line.number (λ each. is_at_fault each chart earlier line) in_order)
      (at_number line.number 21 (λ each. is_at_fault each chart earlier line) in_order AreNumbered-in_order)

  -- the lines have faults from a number on, before that of END
  between : (bound end : ℕ) (earlier : List Line) (first : Line) (lines : List Line) → bound ≤ first.number → NumbersRise (first ∷ lines) end
      → All (IsBetween bound end) (faults_from chart earlier (first ∷ lines))
  unfolding faults_from
  between bound end earlier first [] above rise =
      All-append (IsBetween bound end) (faults_at chart earlier first) []
      (All-weaker (IsOn first.number) (IsBetween bound end) (λ f is. (omega (arith, is, above), omega (arith, is, rise))) (faults_at chart earlier first) (of_number earlier first))
      (All-nil (IsBetween bound end))
  between bound end earlier first (next ∷ lines) above rise =
      let low = below end next lines rise.1 in
      All-append (IsBetween bound end) (faults_at chart earlier first) (faults_from chart (earlier ++ first ∷ []) (next ∷ lines))
      (All-weaker (IsOn first.number) (IsBetween bound end) (λ f is. (omega (arith, is, above), omega (arith, is, rise.0, low))) (faults_at chart earlier first) (of_number earlier first))
      (All-weaker (IsBetween (first.number + 1) end) (IsBetween bound end) (λ f is. (omega (arith, is.0, above), is.1)) (faults_from chart (earlier ++ first ∷ []) (next ∷ lines))
      (between (first.number + 1) end (earlier ++ first ∷ []) next lines (omega (arith, rise.0)) rise.1))

  -- a fault of a line comes before those of later lines
  before_later : (end : ℕ) (earlier : List Line) (first : Line) (lines : List Line) (f : BrokenRule) → f.line ≡ first.number → NumbersRise (first ∷ lines) end
      → All (ComesBefore f) (faults_from chart (earlier ++ first ∷ []) lines)
  unfolding faults_from
  before_later end earlier first [] f is rise = All-nil (ComesBefore f)
  before_later end earlier first (next ∷ lines) f is rise =
      All-weaker (IsBetween (first.number + 1) end) (ComesBefore f) (λ other its. inl (omega (arith, is, its.0))) (faults_from chart (earlier ++ first ∷ []) (next ∷ lines))
      (between (first.number + 1) end (earlier ++ first ∷ []) next lines (omega (arith, rise.0)) rise.1)

  -- those of one line are in order
  one_ordered : (earlier : List Line) (line : Line) → AllPairs ComesBefore (faults_at chart earlier line)
  unfolding faults_at
  one_ordered earlier line = line_ordered line.number 21 (λ each. is_at_fault each chart earlier line) in_order AreNumbered-in_order

  -- the faults of the lines are in order
  lines_ordered : (end : ℕ) (earlier lines : List Line) → NumbersRise lines end → AllPairs ComesBefore (faults_from chart earlier lines)
  unfolding faults_from
  lines_ordered end earlier [] rise = AllPairs-nil ComesBefore
  lines_ordered end earlier (first ∷ lines) rise =
      AllPairs-append ComesBefore (faults_at chart earlier first) (faults_from chart (earlier ++ first ∷ []) lines)
      (one_ordered earlier first)
      (lines_ordered end (earlier ++ first ∷ []) lines (NumbersRise-tail first lines end rise))
      (All-weaker (IsOn first.number) (λ (f : BrokenRule). All (ComesBefore f) (faults_from chart (earlier ++ first ∷ []) lines))
      (λ f is. before_later end earlier first lines f is rise) (faults_at chart earlier first) (of_number earlier first))

  -- each fault of a line stands before END
  before_end : (lines : List Line) → NumbersRise lines chart.end → All (IsBetween 0 chart.end) (faults_from chart [] lines)
  unfolding faults_from
  before_end [] rise = All-nil (IsBetween 0 chart.end)
  before_end (first ∷ lines) rise = between 0 chart.end [] first lines (omega arith) rise

  -- a fault before END comes before those of END
  before_last : (f : BrokenRule) → IsBetween 0 chart.end f → All (ComesBefore f) (faults_at_end chart)
  unfolding faults_at_end
  before_last f is =
      All-weaker (IsOfLine chart.end 21) (ComesBefore f) (λ other its. inl (omega (arith, is.1, its.0))) (at_line chart.end (λ each. lacks each chart.lines) in_order)
      (at_number chart.end 21 (λ each. lacks each chart.lines) in_order AreNumbered-in_order)

  -- those of END are in order
  end_ordered : AllPairs ComesBefore (faults_at_end chart)
  unfolding faults_at_end
  end_ordered = line_ordered chart.end 21 (λ each. lacks each chart.lines) in_order AreNumbered-in_order

  -- the list is in order
  pub in_order_all : NumbersRise chart.lines chart.end → AllPairs ComesBefore (faults_of chart)
  unfolding faults_of
  in_order_all rise =
      AllPairs-append ComesBefore (faults_from chart [] chart.lines) (faults_at_end chart)
      (lines_ordered chart.end [] chart.lines rise)
      end_ordered
      (All-weaker (IsBetween 0 chart.end) (λ (f : BrokenRule). All (ComesBefore f) (faults_at_end chart)) before_last
      (faults_from chart [] chart.lines) (before_end chart.lines rise))
