-- What the lines of a text of orders say, and which fault such a text has.
use Rattle.std.specs.Prelude.{◌≡◌, ◌<◌, ℕ, List, [], length, slice_index_or}
use Rattle.cli_commands.specs.declared.commands.orders.fault.OrdersFault.{OrdersFault}
use Rattle.cli_commands.specs.declared.commands.orders.fault.OrdersFault.TheVariants as fault
use Rattle.machine_served.specs.ServedWords.Orders.{IsOrder, unit_count}
use Rattle.chart_lines.specs.TokensWords.Frame.{IsLineFrom, line_at}
use Rattle.chart_lines.specs.TokensWords.Number.{IsNumberTo}
use Rattle.chart_lines.specs.TokensWords.Tokens.{HasTokens}

-- each token is the number of the unit at its place, and there are no other units
pub record NameUnits (tokens : List (List ℕ)) (units : List ℕ) : Type 0 where
  pub long : length units ≡ length tokens
  pub each : (place : ℕ) → place < length tokens → IsNumberTo unit_count (slice_index_or tokens place []) (slice_index_or units place 0)

-- The line says an order: its tokens name the units, in that order, each of the 45 once.
pub record SaysOrder (line : List ℕ) (order : List ℕ) : Type 0 where
  pub tokens : List (List ℕ)
  pub divided : HasTokens line tokens
  pub named : NameUnits tokens order
  pub whole : IsOrder order

-- the lines say these orders, one each
pub record SayOrders (lines : List (List ℕ)) (orders : List (List ℕ)) : Type 0 where
  pub long : length orders ≡ length lines
  pub each : (place : ℕ) → place < length lines → SaysOrder (slice_index_or lines place []) (slice_index_or orders place [])

-- the line of a number says no order
abbrev pub SaysNone : List (List ℕ) → ℕ → Type 0
SaysNone lines number = (order : List ℕ) → ¬ SaysOrder (line_at lines number) order

-- The lowest line that says no order is that of the number.
pub record IsLowestWithout (lines : List (List ℕ)) (number : ℕ) : Type 0 where
  pub there : IsLineFrom 1 lines number
  pub without : SaysNone lines number
  pub before : (lower : ℕ) → IsLineFrom 1 lines lower → lower < number → (order : List ℕ) × SaysOrder (line_at lines lower) order

-- The text of these lines has the fault. Want of memory is none of a text.
abbrev pub HasOrdersFault : List (List ℕ) → OrdersFault → Type 0
HasOrdersFault lines (fault.NotAnOrder line) = IsLowestWithout lines line
HasOrdersFault lines fault.NoOrders = lines ≡ []
HasOrdersFault lines fault.Memory = ⊥
