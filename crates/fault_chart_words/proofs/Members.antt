-- Which faults are in the list of a chart.
use Rattle.std.proofs.Common.{◌≡◌, ℕ, zero, suc, ◌-◌, Bool, true, false, cond, List, [], ◌∷◌, ◌++◌, map, filter, Some, slice_get, refl, sym, ap, ◌∙◌, arith, true≢false, ◌⊎◌, inl, inr, append-nil, append_assoc, Contains, subst}
use Rattle.std.proofs.lemmas.List.Elements.{Contains-append_left, Contains-append_right, Contains-append_cases}
use Rattle.std.proofs.lemmas.Option.{slice_get_within, get_or_from_slice_get}
use Rattle.chart_lines.specs.ChartsWords.Chart.{Chart}
use Rattle.chart_lines.specs.declared.charts.chart.Line.{Line}
use Rattle.chart_rules.specs.declared.rule.Rule.{Rule}
use Rattle.chart_rules.specs.HelperOrder.{in_order}
use Rattle.chart_rules.specs.Rules.{lacks, rule_number}
use Rattle.chart_rules.proofs.InOrder.{in_order-at}
use Rattle.fault_chart_words.specs.declared.listing.BrokenRule.{BrokenRule}
use Rattle.fault_chart_words.specs.Listed.{is_at_fault, Listed, by_line, by_end, HasAllListed}
use Rattle.fault_chart_words.specs.HelperLists.{at_line, faults_at, faults_at_end, faults_from, faults_of}

-- the first element of a list is an element
pub Contains-first : {X : Type 0} (x : X) (xs : List X) → Contains (x ∷ xs) x
Contains-first x xs = (0, omega arith, refl)

-- the one element of a list
one_element : {X : Type 0} (x y : X) → Contains (x ∷ []) y → x ≡ y
one_element x y (zero, within, is) = is
one_element x y (suc place, within, is) = absurd (omega (arith, within))

-- an element is the first or a later one
pub Contains-cons_cases : {X : Type 0} (x : X) (xs : List X) (y : X) → Contains (x ∷ xs) y → (x ≡ y) ⊎ Contains xs y
Contains-cons_cases x xs y has = by (Contains-append_cases (x ∷ []) xs y has)
  where
    by : Contains (x ∷ []) y ⊎ Contains xs y → (x ≡ y) ⊎ Contains xs y
    by (inl one) = inl (one_element x y one)
    by (inr later) = inr later

-- no element is in the empty list
no_element : {X : Type 0} (x : X) → Contains [] x → ⊥
no_element x has = omega (arith, has.1)

-- an element that stands at a place is an element
Contains-at : {X : Type 0} (xs : List X) (place : ℕ) (x : X) → slice_get xs place ≡ Some x → Contains xs x
Contains-at xs place x at = (place, slice_get_within xs place x at, get_or_from_slice_get xs place x x at)

-- each rule is one of those in order
pub Contains-in_order : (each : Rule) → Contains in_order each
Contains-in_order each = Contains-at in_order (rule_number each - 21) each (in_order-at each)

-- what is in the list of a line
pub of_line : (number : ℕ) (test : Rule → Bool) (rules : List Rule) (fault : BrokenRule) → Contains (at_line number test rules) fault
    → (number ≡ fault.line) × (test fault.rule ≡ true)
of_line number test [] fault has = absurd (no_element fault has)
of_line number test (each ∷ rules) fault has = by (of_line number test rules fault) (test each) refl has
  where
    here : (Contains (at_line number test rules) fault → (number ≡ fault.line) × (test fault.rule ≡ true)) → test each ≡ true
        → (record { line = number; rule = each } ≡ fault) ⊎ Contains (at_line number test rules) fault
        → (number ≡ fault.line) × (test fault.rule ≡ true)
    here among passes (inl is) = (ap (λ (f : BrokenRule). f.line) is, ap (λ (f : BrokenRule). test f.rule) (sym is) ∙ passes)
    here among passes (inr later) = among later

    by : (Contains (at_line number test rules) fault → (number ≡ fault.line) × (test fault.rule ≡ true))
        → (passes : Bool) → test each ≡ passes
        → Contains (map (λ rule. record { line = number; rule = rule }) (cond passes (each ∷ filter test rules) (filter test rules))) fault
        → (number ≡ fault.line) × (test fault.rule ≡ true)
    by among true passes there = here among passes (Contains-cons_cases (record { line = number; rule = each }) (at_line number test rules) fault there)
    by among false fails there = among there

-- what passes is in the list of a line
pub in_line : (test : Rule → Bool) (rules : List Rule) (fault : BrokenRule) → test fault.rule ≡ true → Contains rules fault.rule
    → Contains (at_line fault.line test rules) fault
in_line test [] fault passes has = absurd (no_element fault.rule has)
in_line test (each ∷ rules) fault passes has = by (in_line test rules fault passes) (test each) refl (Contains-cons_cases each rules fault.rule has)
  where
    by : (Contains rules fault.rule → Contains (at_line fault.line test rules) fault) → (first : Bool) → test each ≡ first → (each ≡ fault.rule) ⊎ Contains rules fault.rule
        → Contains (map (λ rule. record { line = fault.line; rule = rule }) (cond first (each ∷ filter test rules) (filter test rules))) fault
    by among true tells (inl is) =
        subst (λ (rule : Rule). Contains (record { line = fault.line; rule = rule } ∷ at_line fault.line test rules) fault) (sym is)
        (Contains-first fault (at_line fault.line test rules))
    by among false tells (inl is) = absurd (true≢false (sym passes ∙ ap test (sym is) ∙ tells))
    by among true tells (inr later) =
        Contains-append_right (record { line = fault.line; rule = each } ∷ []) (at_line fault.line test rules) fault
        (among later)
    by among false tells (inr later) = among later

module _ (chart : Chart) where
  -- a line of some at which a fault is, by the lines before
  pub record IsAt (earlier lines : List Line) (fault : BrokenRule) : Type 0 where
    pub front : List Line
    pub line : Line
    pub back : List Line
    pub split : lines ≡ front ++ line ∷ back
    pub broken : is_at_fault fault.rule chart (earlier ++ front) line ≡ true
    pub number : line.number ≡ fault.line

  at_first : (earlier : List Line) (first : Line) (lines : List Line) (fault : BrokenRule)
      → Contains (faults_at chart earlier first) fault → IsAt earlier (first ∷ lines) fault
  unfolding faults_at
  at_first earlier first lines fault here =
      let of = of_line first.number (λ each. is_at_fault each chart earlier first) in_order fault here in
      record {
        front = [];
        line = first;
        back = lines;
        split = refl;
        broken = ap (λ before. is_at_fault fault.rule chart before first) (append-nil earlier) ∙ of.1;
        number = of.0;
      }

  at_later : (earlier : List Line) (first : Line) (lines : List Line) (fault : BrokenRule)
      → IsAt (earlier ++ first ∷ []) lines fault → IsAt earlier (first ∷ lines) fault
  at_later earlier first lines fault at = record {
    front = first ∷ at.front;
    line = at.line;
    back = at.back;
    split = ap (λ rest. first ∷ rest) at.split;
    broken = ap (λ before. is_at_fault fault.rule chart before at.line) (sym (append_assoc earlier (first ∷ []) at.front)) ∙ at.broken;
    number = at.number;
  }

  -- what is in the list of the lines
  pub of_lines : (earlier lines : List Line) (fault : BrokenRule) → Contains (faults_from chart earlier lines) fault → IsAt earlier lines fault
  unfolding faults_from
  of_lines earlier [] fault has = absurd (no_element fault has)
  of_lines earlier (first ∷ lines) fault has =
      by (of_lines (earlier ++ first ∷ []) lines fault)
      (Contains-append_cases (faults_at chart earlier first) (faults_from chart (earlier ++ first ∷ []) lines) fault has)
    where
      by : (Contains (faults_from chart (earlier ++ first ∷ []) lines) fault → IsAt (earlier ++ first ∷ []) lines fault)
          → Contains (faults_at chart earlier first) fault ⊎ Contains (faults_from chart (earlier ++ first ∷ []) lines) fault
          → IsAt earlier (first ∷ lines) fault
      by among (inl here) = at_first earlier first lines fault here
      by among (inr later) = at_later earlier first lines fault (among later)

  -- what is at fault is in the list of the lines
  pub in_lines : (earlier front : List Line) (line : Line) (back : List Line) (fault : BrokenRule)
      → is_at_fault fault.rule chart (earlier ++ front) line ≡ true → line.number ≡ fault.line
      → Contains (faults_from chart earlier (front ++ line ∷ back)) fault
  unfolding faults_from faults_at
  in_lines earlier [] line back fault broken number =
      Contains-append_left (faults_at chart earlier line) (faults_from chart (earlier ++ line ∷ []) back) fault
      (subst (λ (n : ℕ). Contains (at_line n (λ each. is_at_fault each chart earlier line) in_order) fault) (sym number)
      (in_line (λ each. is_at_fault each chart earlier line) in_order fault
      (ap (λ before. is_at_fault fault.rule chart before line) (sym (append-nil earlier)) ∙ broken) (Contains-in_order fault.rule)))
  in_lines earlier (first ∷ front) line back fault broken number =
      Contains-append_right (faults_at chart earlier first) (faults_from chart (earlier ++ first ∷ []) (front ++ line ∷ back)) fault
      (in_lines (earlier ++ first ∷ []) front line back fault
      (ap (λ before. is_at_fault fault.rule chart before line) (append_assoc earlier (first ∷ []) front) ∙ broken) number)

  -- what is listed of a chart
  listed_of : (fault : BrokenRule) → Contains (faults_of chart) fault → Listed fault.rule chart fault.line
  unfolding faults_of faults_at_end
  listed_of fault has = by (Contains-append_cases (faults_from chart [] chart.lines) (faults_at_end chart) fault has)
    where
      by : Contains (faults_from chart [] chart.lines) fault ⊎ Contains (faults_at_end chart) fault → Listed fault.rule chart fault.line
      by (inl line) =
          let at = of_lines [] chart.lines fault line in
          subst (Listed fault.rule chart) at.number (by_line at.front at.line at.back at.split at.broken)
      by (inr end) =
          let of = of_line chart.end (λ each. lacks each chart.lines) in_order fault end in
          subst (Listed fault.rule chart) of.0 (by_end of.1)

  of_listed : (fault : BrokenRule) (line : ℕ) → line ≡ fault.line → Listed fault.rule chart line → Contains (faults_of chart) fault
  unfolding faults_of faults_at_end
  of_listed fault _ number (by_line earlier line later split broken) =
      Contains-append_left (faults_from chart [] chart.lines) (faults_at_end chart) fault
      (subst (λ (lines : List Line). Contains (faults_from chart [] lines) fault) (sym split)
      (in_lines [] earlier line later fault broken number))
  of_listed fault _ number (by_end lacking) =
      Contains-append_right (faults_from chart [] chart.lines) (faults_at_end chart) fault
      (subst (λ (n : ℕ). Contains (at_line n (λ each. lacks each chart.lines) in_order) fault) (sym number)
      (in_line (λ each. lacks each chart.lines) in_order fault lacking (Contains-in_order fault.rule)))

  -- the list has exactly what is listed
  pub all_listed : HasAllListed chart (faults_of chart)
  all_listed fault = (listed_of fault, of_listed fault fault.line refl)
