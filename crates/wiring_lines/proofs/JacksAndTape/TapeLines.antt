-- The TAPE lines of a lawful chart: each gives its channel its stops.
use Rattle.std.proofs.Common.{◌≡◌, ℕ, ◌≤◌, ◌==◌, ◌&&◌, ◌⊎◌, inl, inr, not, nat_le, Bool, true, false, List, [], ◌∷◌, if◌then◌else◌, refl, sym, ap, ◌∙◌, subst, arith}
use Rattle.std.specs.List.{Contains}
use Rattle.std.proofs.lemmas.Bool.{eq-eqb}
use Rattle.std.proofs.lemmas.Bool.Decides.{nat_tests}
use Rattle.chart_lines.specs.ChartsWords.Chart.{Chart}
use Rattle.chart_lines.specs.declared.charts.chart.Line.{Line}
use Rattle.chart_lines.specs.declared.charts.statement.Statement.{Statement}
use Rattle.chart_lines.specs.declared.charts.statement.Statement.TheVariants as says
use Rattle.chart_lines.proofs.ChartsWords.Listed.{listed-first, listed-after, listed-cases, listed-none}
use Rattle.chart_rules.specs.Rules.{IsLawful}
use Rattle.chart_rules.specs.declared.rule.Rule.TheVariants as rule
use Rattle.chart_rules.proofs.Laws.{kept-line, said-once}
use Rattle.chart_line_rules.specs.FieldRules.Repeats.{repeats}
use Rattle.chart_line_rules.specs.PrintRules.Tapes.{are_within, breaks_tape, form_lines, rise_above}
use Rattle.wiring_table.specs.Below.report_definition.ChartForm.{stops_from, stops_of}
use Rattle.wiring_table.proofs.Below.report_definition.Said.{SaysTape, tape-said}
use Rattle.wiring_lines.specs.JacksAndTape.OfLine.{HasLineStop, LineStop}

-- the channel of a TAPE line of a lawful chart is 2 to 11
pub channel-range : (chart : Chart) → IsLawful chart → (line : Line) (channel : ℕ) (stops : List ℕ) → Contains chart.lines line
    → line.statement ≡ says.Tape channel stops → (2 ≤ channel) × (channel ≤ 11)
channel-range chart lawful line channel stops listed is =
    let kept = sym (ap (breaks_tape chart.lines) is) ∙ (kept-line chart lawful line listed rule.Tape).1 in
    good channel (rise_above 0 stops) (are_within (form_lines chart.lines) stops) kept
  where
    good : (its : ℕ) (a b : Bool) → not (nat_le 2 its && nat_le its 11 && a && b) ≡ false → (2 ≤ its) × (its ≤ 11)
    good its a b is = (grind (arith, nat_tests, is), grind (arith, nat_tests, is))

-- where a TAPE line has a channel, some TAPE line gives the channel its stops
tape-found : (lines : List Line) (line : Line) (channel : ℕ) (stops : List ℕ) → Contains lines line
    → line.statement ≡ says.Tape channel stops → SaysTape lines channel (stops_of lines channel)
tape-found [] line channel stops listed is = absurd (listed-none line listed)
tape-found (first ∷ lines) line channel stops listed is =
    by first.statement refl (listed-cases line first lines listed) (λ after. later (tape-found lines line channel stops after is))
  where
    later : {some : List ℕ} → SaysTape lines channel some → SaysTape (first ∷ lines) channel some
    later s = record {
      line = s.line;
      listed = listed-after first lines s.listed;
      its_channel = s.its_channel;
      is_tape = s.is_tape;
      same_channel = s.same_channel;
    }

    same-channel : (one other : ℕ) (a b : List ℕ) → says.Tape one a ≡ says.Tape other b → one ≡ other
    same-channel one other a b e = cc

    either : (its : ℕ) (own below : List ℕ) → first.statement ≡ says.Tape its own → (b : Bool) → (its == channel) ≡ b
        → (first ≡ line) ⊎ Contains lines line → (Contains lines line → SaysTape (first ∷ lines) channel below)
        → SaysTape (first ∷ lines) channel (if b then own else below)
    either its own below says_it true same here rest = record {
      line = first;
      listed = listed-first first lines;
      its_channel = its;
      is_tape = says_it;
      same_channel = grind (arith, nat_tests, same);
    }
    either its own below says_it false same (inl here) rest =
        let e : its ≡ channel = same-channel its channel own stops (sym says_it ∙ ap (λ l. l.statement) here ∙ is) in
        let yes : (its == channel) ≡ true = eq-eqb its channel e in cc
    either its own below says_it false same (inr after) rest = rest after

    not-tape : (statement : Statement) → first.statement ≡ statement → (first ≡ line) ⊎ Contains lines line
        → (statement ≡ says.Tape channel stops → ⊥) → Contains lines line
    not-tape statement says_it (inl here) never = absurd (never (sym says_it ∙ ap (λ l. l.statement) here ∙ is))
    not-tape statement says_it (inr after) never = after

    by : (statement : Statement) → first.statement ≡ statement → (first ≡ line) ⊎ Contains lines line
        → (Contains lines line → SaysTape (first ∷ lines) channel (stops_of lines channel))
        → SaysTape (first ∷ lines) channel (stops_from channel statement (stops_of lines channel))
    by (says.Tape its own) says_it here rest = either its own (stops_of lines channel) says_it (its == channel) refl here rest
    by other says_it here rest = rest (not-tape other says_it here (λ e. cc))

-- the stops of a channel are those of its TAPE line
pub stops-of-line : (chart : Chart) → IsLawful chart → (line : Line) (channel : ℕ) (stops : List ℕ) → Contains chart.lines line
    → line.statement ≡ says.Tape channel stops → stops ≡ stops_of chart.lines channel
stops-of-line chart lawful line channel stops listed is =
    let s = tape-found chart.lines line channel stops listed is in
    let one : repeats s.line.statement line.statement ≡ true =
    again s.line.statement line.statement s.its_channel (stops_of chart.lines channel) stops s.is_tape is s.same_channel in
    let other : repeats line.statement s.line.statement ≡ true =
    again-back s.line.statement line.statement s.its_channel (stops_of chart.lines channel) stops s.is_tape is s.same_channel in
    let same : s.line ≡ line = said-once chart lawful s.line line s.listed listed one other in
    same-stops s.its_channel channel (stops_of chart.lines channel) stops (sym s.is_tape ∙ ap (λ l. l.statement) same ∙ is)
  where
    again : (one other : Statement) (its : ℕ) (a b : List ℕ) → one ≡ says.Tape its a → other ≡ says.Tape channel b → its ≡ channel
        → repeats one other ≡ true
    again one other its a b e f same =
        ap (λ s. repeats s other) e ∙ ap (repeats (says.Tape its a)) f ∙ eq-eqb its channel same

    again-back : (one other : Statement) (its : ℕ) (a b : List ℕ) → one ≡ says.Tape its a → other ≡ says.Tape channel b → its ≡ channel
        → repeats other one ≡ true
    again-back one other its a b e f same =
        ap (λ s. repeats s one) f ∙ ap (repeats (says.Tape channel b)) e ∙ eq-eqb channel its (sym same)

    same-stops : (one other : ℕ) (a b : List ℕ) → says.Tape one a ≡ says.Tape other b → b ≡ a
    same-stops one other a b e = cc

-- each stop of a channel is one of some line
pub stop-there : (lines : List Line) (channel stop : ℕ) → Contains (stops_of lines channel) stop → HasLineStop lines channel stop
stop-there lines channel stop there = by (tape-said lines channel)
  where
    by : (stops_of lines channel ≡ []) ⊎ SaysTape lines channel (stops_of lines channel) → HasLineStop lines channel stop
    by (inl none) = absurd (listed-none stop (subst (λ stops. Contains stops stop) none there))
    by (inr s) =
        let P : Statement → Type 0 = λ statement. LineStop statement channel stop in
        record { line = s.line; listed = s.listed; asks = subst P (sym s.is_tape) (sym s.same_channel, there) }

-- and each stop of a line is one of its channel
pub stop-back : (chart : Chart) (channel stop : ℕ) → IsLawful chart → HasLineStop chart.lines channel stop
    → Contains (stops_of chart.lines channel) stop
stop-back chart channel stop lawful has = by has.line.statement refl has.asks
  where
    by : (statement : Statement) → has.line.statement ≡ statement → LineStop statement channel stop
        → Contains (stops_of chart.lines channel) stop
    by (says.Tape its stops) is asks =
        let same = stops-of-line chart lawful has.line its stops has.listed is in
        let P : List ℕ → Type 0 = λ xs. Contains xs stop in
        subst P (same ∙ ap (stops_of chart.lines) (sym asks.0)) asks.1
    by other is asks = absurd asks
