-- An item prints its text at its wheels: a text wheel by wheel, an amount under its own jacks.
use Rattle.std.proofs.Common.{◌≡◌, ◌∙◌, refl, sym, ap, ap₂, ℕ, zero, suc, pred, ◌+◌, ◌-◌, ◌<◌, ◌≤◌, ◌&&◌, nat_le, nat_lt, max, if◌then◌else◌, Bool, true, false, List, ◌∷◌, ◌++◌, length, map, take, drop, slice_index_or, Contains, Option, Some, arith, append_assoc}
use Rattle.std.specs.List.{range_with_len}
use Rattle.std.proofs.lemmas.Bool.Decides.{nat_tests}
use Rattle.std.proofs.lemmas.List.{length-map, length-append, length-take, length-drop, map-append, take-append-drop}
use Rattle.wiring_table.specs.Below.chart_lines.ChartsWords.Chart.{Chart}
use Rattle.wiring_table.specs.Below.chart_lines.declared.charts.chart.Line.{Line}
use Rattle.wiring_table.specs.Below.chart_lines.declared.charts.statement.Mark.{Mark}
use Rattle.wiring_table.specs.Below.chart_lines.declared.charts.statement.Statement.{Statement}
use Rattle.wiring_table.specs.Below.chart_line_rules.declared.print_rules.items.Figure.{Figure}
use Rattle.wiring_table.specs.Below.chart_line_rules.declared.print_rules.items.PrintedLine.{PrintedLine}
use Rattle.wiring_table.specs.Below.chart_line_rules.PrintRules.Items.{figure_width, mark_width}
use Rattle.print_unit.specs.ZeroControl.{Wheel, character_of, shown, gives, printed_from}
use Rattle.print_unit.proofs.Ranges.{map-same}
use Rattle.report_definition.specs.Edits.{free_digits}
use Rattle.proof_reports.specs.PrintedLines.Shown.{Shown, Characters, Amount, sets_of, wheel_of_shown, wheel_with, digit_set, point_sets, mark_sets}
use Rattle.proof_reports.proofs.PrintedLines.AmountText.{amount_wheels, plain-shown}
use Rattle.proof_reports.proofs.PrintedLines.Characters.{received}
use Rattle.proof_reports.proofs.PrintedLines.ItemWheels.{by_places, wheels-places, by_places-alike, amount_sets, item_wheel, point-sets, mark-sets, places-amount}
use Rattle.proof_reports.proofs.PrintedLines.OwnJacks.{OwnAmount, OwnAmount-has, amount-good, own-link, own-suppress, own-symbol, on-wheels, text-jacks}
use Rattle.proof_reports.proofs.PrintedLines.Sending.{IsItems, item_for, sets_on, place-set}
use Rattle.proof_reports.proofs.PrintedLines.Significance.{given, printed_at, printed-wheels, IsBodyLine, first-alone}

-- the digits of an amount may be cut anywhere
cut-anywhere : (count : ℕ) (columns : List (Option ℕ)) (after : List ℕ)
    → map digit_set (take count columns) ++ (map digit_set (drop count columns) ++ after) ≡ map digit_set columns ++ after
cut-anywhere count columns after =
    sym (append_assoc (map digit_set (take count columns)) (map digit_set (drop count columns)) after)
    ∙ ap (λ sets. sets ++ after)
    (sym (map-append digit_set (take count columns) (drop count columns)) ∙ ap (map digit_set) (take-append-drop count columns))

-- the sets of an amount, cut after the digits that may be blank
sets-by-free : (wheel : ℕ) (figure : Figure) (columns : List (Option ℕ)) (negative : Bool)
    → sets_of (Amount wheel figure columns negative)
    ≡ amount_sets (free_digits figure.digits figure.decimals) figure.decimals figure.mark columns negative
sets-by-free wheel figure columns negative = by figure.digits figure.decimals figure.mark
  where
    by : (digits decimals : ℕ) (mark : Option Mark)
        → map digit_set (take (digits - decimals) columns)
        ++ (point_sets decimals ++ (map digit_set (drop (digits - decimals) columns) ++ mark_sets mark negative))
        ≡ amount_sets (free_digits digits decimals) decimals mark columns negative
    by digits zero mark =
        cut-anywhere (digits - 0) columns (mark_sets mark negative)
        ∙ sym (cut-anywhere (free_digits digits 0) columns (mark_sets mark negative))
    by digits (suc decimals) mark =
        let same : digits - suc decimals ≡ digits - max (suc decimals) 1 = omega arith in
        ap (λ n. amount_sets n (suc decimals) mark columns negative) same

-- an amount sends to all its wheels
pub amount-width : (wheel : ℕ) (figure : Figure) (columns : List (Option ℕ)) (negative : Bool) → length columns ≡ figure.digits
    → length (sets_of (Amount wheel figure columns negative)) ≡ figure_width figure
amount-width wheel figure columns negative long =
    ap length (sets-by-free wheel figure columns negative)
    ∙ by (free_digits figure.digits figure.decimals) (omega arith)
  where
    sums : (a b c d f n p m : ℕ) → f ≤ n → a ≡ f → b ≡ p → c ≡ n - f → d ≡ m → a + (b + (c + d)) ≡ n + p + m
    sums a b c d f n p m short is_a is_b is_c is_d = omega (arith, short, is_a, is_b, is_c, is_d)

    by : (free : ℕ) → free ≤ figure.digits
        → length (amount_sets free figure.decimals figure.mark columns negative) ≡ figure_width figure
    by free short =
        let high = map digit_set (take free columns) in
        let low = map digit_set (drop free columns) in
        let points = point_sets figure.decimals in
        let marks = mark_sets figure.mark negative in
        let taken = length-take free columns in
        let left = length-drop free columns in
        let highs : length high ≡ free = length-map (take free columns) digit_set ∙ taken ∙ omega (arith, short, long) in
        let lows : length low ≡ figure.digits - free = length-map (drop free columns) digit_set ∙ left ∙ omega (arith, long) in
        length-append high (points ++ (low ++ marks))
        ∙ ap (λ n. length high + n)
        (length-append points (low ++ marks) ∙ ap (λ n. length points + n) (length-append low marks))
        ∙ sums (length high) (length points) (length low) (length marks) free figure.digits
        (if nat_lt 0 figure.decimals then 1 else 0) (mark_width figure.mark) short highs (point-sets figure.decimals) lows
        (mark-sets figure.mark negative)

-- a wheel with LINK plugged
abbrev linked_wheel : (suppress symbol : ℕ → Bool) → (ℕ → ℕ) → ℕ → Wheel
linked_wheel suppress symbol set v =
    record { received = received (set v); link = true; suppress = suppress v; symbol = symbol v }

-- where the first wheel has no significance, and LINK is plugged on the others, it is as if it was plugged on all, and nothing given
link-first : (link suppress symbol : ℕ → Bool) (set : ℕ → ℕ) (v count : ℕ) → (link (suc v) && given link set v) ≡ false
    → ((u : ℕ) → suc v < u → u < suc v + suc count → link u ≡ true)
    → printed_from true (given link set v) (map (wheel_with link suppress symbol set) (range_with_len (suc v) (suc count)))
    ≡ printed_from true false (map (linked_wheel suppress symbol set) (range_with_len (suc v) (suc count)))
link-first link suppress symbol set v count first others =
    let wheel = wheel_with link suppress symbol set (suc v) in
    let rest = range_with_len (suc v + 1) count in
    ap (λ b. shown b wheel ∷ printed_from true (gives b wheel) (map (wheel_with link suppress symbol set) rest)) first
    ∙ ap (λ ws. shown false wheel ∷ printed_from true (gives false wheel) ws)
    (map-same (wheel_with link suppress symbol set) (linked_wheel suppress symbol set) (suc v + 1) count
    (λ u low high. plugged u (others u (omega (arith, low)) (omega (arith, high)))))
  where
    plugged : (u : ℕ) → link u ≡ true → wheel_with link suppress symbol set u ≡ linked_wheel suppress symbol set u
    plugged u is = λ i. record { received = received (set u); link = is i; suppress = suppress u; symbol = symbol u }

-- What an item sends spells a text: its wheels, from the first on and with no significance before it, print the text.
abbrev pub Spells : Shown → List ℕ → Type 0
Spells (Characters wheel sets) text = map (λ set. character_of (received set)) sets ≡ text
Spells (Amount wheel figure columns negative) text =
    printed_from true false
    (amount_wheels (free_digits figure.digits figure.decimals) figure.decimals figure.mark columns negative)
    ≡ text

-- a text prints itself
text-prints : (chart : Chart) (link suppress symbol : ℕ → Bool) (kind : PrintedLine → Bool) (sends : Statement → Option Shown)
    (wheel : ℕ) (sets text : List ℕ) → IsBodyLine chart link suppress symbol kind sends → (line : Line)
    → Contains chart.lines line → sends line.statement ≡ Some (Characters wheel sets)
    → map (λ set. character_of (received set)) sets ≡ text
    → map (printed_at link suppress symbol (sets_on chart sends)) (range_with_len wheel (length sets)) ≡ text
text-prints chart link suppress symbol kind sends wheel sets text is line there sent spelled =
    wheels-places (λ place set. character_of (received set)) (printed_at link suppress symbol (sets_on chart sends)) wheel 0 sets each
    ∙ by_places-alike (λ place set. character_of (received set)) (λ set. character_of (received set)) 0 sets (λ p set low high. refl)
    ∙ spelled
  where
    item : IsItems chart.lines kind line.statement (Characters wheel sets)
    item = is.sending.items line (Characters wheel sets) there sent

    each : (k : ℕ) → k < length sets
        → printed_at link suppress symbol (sets_on chart sends) (wheel + k) ≡ character_of (received (slice_index_or sets k 0))
    each k below =
        let v = wheel + k in
        let jacks = text-jacks chart is.lawful link suppress symbol is.jacks line (item_for item.line (Characters wheel sets)) v there
        item.is_item (is.body item.line item.is_on) refl (omega arith, omega (arith, below)) in
        plain-shown (link v && given link (sets_on chart sends) (pred v))
        (wheel_with link suppress symbol (sets_on chart sends) v) jacks.0 jacks.1
        ∙ ap (λ set. character_of (received set))
        (place-set chart is.lawful kind sends is.sending (Characters wheel sets) line there sent k below)

-- places after the same wheel
free-place : (wheel place free : ℕ) → nat_lt (wheel + place) (wheel + free) ≡ nat_lt (0 + place) free
free-place wheel place free = grind (arith, nat_tests)

mark-place : (wheel place digits point : ℕ) → nat_le (wheel + digits + point) (wheel + place) ≡ nat_le (digits + point) (0 + place)
mark-place wheel place digits point = grind (arith, nat_tests)

-- An amount that a line of the chart sends to a body line.
pub record SendsAmount (chart : Chart) (sends : Statement → Option Shown) (wheel : ℕ) (figure : Figure)
    (columns : List (Option ℕ)) (negative : Bool) : Type 0 where
  pub line : Line
  pub there : Contains chart.lines line
  pub sent : sends line.statement ≡ Some (Amount wheel figure columns negative)
  pub own : OwnAmount chart wheel figure
  pub long : length columns ≡ figure.digits

-- its wheels, as if LINK was plugged on all of them, are those of the amount
own-wheels : (chart : Chart) (link suppress symbol : ℕ → Bool) (kind : PrintedLine → Bool) (sends : Statement → Option Shown)
    (wheel : ℕ) (figure : Figure) (columns : List (Option ℕ)) (negative : Bool)
    → IsBodyLine chart link suppress symbol kind sends → SendsAmount chart sends wheel figure columns negative
    → map (linked_wheel suppress symbol (sets_on chart sends))
    (range_with_len wheel (length (sets_of (Amount wheel figure columns negative))))
    ≡ amount_wheels (free_digits figure.digits figure.decimals) figure.decimals figure.mark columns negative
own-wheels chart link suppress symbol kind sends wheel figure columns negative is sent =
    wheels-places (item_wheel free start) (linked_wheel suppress symbol (sets_on chart sends)) wheel 0
    (sets_of (Amount wheel figure columns negative)) each
    ∙ ap (by_places (item_wheel free start) 0) (sets-by-free wheel figure columns negative)
    ∙ places-amount free figure.decimals start figure.mark columns negative (let long = sent.long in omega (arith, long))
    (ap (λ n. n + point) (sym sent.long))
  where
    free : ℕ
    free = free_digits figure.digits figure.decimals

    point : ℕ
    point = if nat_lt 0 figure.decimals then 1 else 0

    start : ℕ
    start = figure.digits + point

    width : length (sets_of (Amount wheel figure columns negative)) ≡ figure_width figure
    width = amount-width wheel figure columns negative sent.long

    each : (k : ℕ) → k < length (sets_of (Amount wheel figure columns negative))
        → linked_wheel suppress symbol (sets_on chart sends) (wheel + k)
        ≡ item_wheel free start (0 + k) (slice_index_or (sets_of (Amount wheel figure columns negative)) k 0)
    each k below =
        let high : wheel + k < wheel + figure_width figure = omega (arith, below, width) in
        let set = place-set chart is.lawful kind sends is.sending (Amount wheel figure columns negative) sent.line sent.there
        sent.sent k below in
        let free_it = own-suppress chart is.lawful link suppress symbol is.jacks wheel figure (wheel + k) sent.own (omega arith) high
        ∙ free-place wheel k free in
        let marks_it = own-symbol chart is.lawful link suppress symbol is.jacks wheel figure (wheel + k) sent.own (omega arith) high
        ∙ mark-place wheel k figure.digits point in
        λ i. record { received = received (set i); link = true; suppress = free_it i; symbol = marks_it i }

-- an amount prints its text
amount-prints : (chart : Chart) (link suppress symbol : ℕ → Bool) (kind : PrintedLine → Bool) (sends : Statement → Option Shown)
    (wheel : ℕ) (figure : Figure) (columns : List (Option ℕ)) (negative : Bool) (text : List ℕ)
    → IsBodyLine chart link suppress symbol kind sends → SendsAmount chart sends wheel figure columns negative
    → Spells (Amount wheel figure columns negative) text
    → map (printed_at link suppress symbol (sets_on chart sends))
    (range_with_len wheel (length (sets_of (Amount wheel figure columns negative))))
    ≡ text
amount-prints chart link suppress symbol kind sends wheel figure columns negative text is sent spelled =
    by wheel (length (sets_of (Amount wheel figure columns negative))) refl refl
  where
    width : length (sets_of (Amount wheel figure columns negative)) ≡ figure_width figure
    width = amount-width wheel figure columns negative sent.long

    some : 1 ≤ figure_width figure
    some =
        let good = (amount-good chart is.lawful wheel figure sent.own.item).some in
        at_least figure.digits (if nat_lt 0 figure.decimals then 1 else 0) (mark_width figure.mark) good
      where
        at_least : (n p t : ℕ) → 1 ≤ n → 1 ≤ n + p + t
        at_least n p t some = omega (arith, some)

    by : (first count : ℕ) → wheel ≡ first → length (sets_of (Amount wheel figure columns negative)) ≡ count
        → map (printed_at link suppress symbol (sets_on chart sends)) (range_with_len first count) ≡ text
    by zero count is_first is_count =
        let on = (on-wheels chart is.lawful wheel figure sent.own.item).0 in absurd (omega (arith, on, is_first))
    by (suc v) zero is_first is_count = absurd (omega (arith, some, width, is_count))
    by (suc v) (suc count) is_first is_count =
        sym (printed-wheels link suppress symbol (sets_on chart sends) v (suc count))
        ∙ link-first link suppress symbol (sets_on chart sends) v count
        (first-alone chart link suppress symbol kind sends (Amount wheel figure columns negative) is
        (record { line = sent.line; there = sent.there; sent = sent.sent; some = omega (arith, some, width) }) v is_first)
        (λ u low high.
        own-link chart is.lawful link suppress symbol is.jacks wheel figure u sent.own (omega (arith, low, is_first))
        (omega (arith, high, is_first, is_count, width)))
        ∙ ap₂ (λ f n. printed_from true false (map (linked_wheel suppress symbol (sets_on chart sends)) (range_with_len f n)))
        (sym is_first) (sym is_count)
        ∙ ap (printed_from true false) (own-wheels chart link suppress symbol kind sends wheel figure columns negative is sent)
        ∙ spelled

-- an item of a body line prints its text at its wheels
pub item-prints : (chart : Chart) (link suppress symbol : ℕ → Bool) (kind : PrintedLine → Bool) (sends : Statement → Option Shown)
    (shown : Shown) (text : List ℕ) → IsBodyLine chart link suppress symbol kind sends → (line : Line)
    → Contains chart.lines line → sends line.statement ≡ Some shown → Spells shown text
    → map (printed_at link suppress symbol (sets_on chart sends))
    (range_with_len (wheel_of_shown shown) (length (sets_of shown)))
    ≡ text
item-prints chart link suppress symbol kind sends (Characters wheel sets) text is line there sent spelled =
    text-prints chart link suppress symbol kind sends wheel sets text is line there sent spelled
item-prints chart link suppress symbol kind sends (Amount wheel figure columns negative) text is line there sent spelled =
    let item = is.sending.items line (Amount wheel figure columns negative) there sent in
    amount-prints chart link suppress symbol kind sends wheel figure columns negative text is
    (record {
      line = line;
      there = there;
      sent = sent;
      own = OwnAmount-has chart wheel figure
          (record { line = line; listed = there; emitter = item.amount.0; is_figure = item.amount.1 });
      long = item.amount.2;
    })
    spelled
