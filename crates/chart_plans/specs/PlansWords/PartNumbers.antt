-- The numbers of the parts of the machine that serve: the parts of a kind are counted from 1, and each thing that wants one has one of
-- its own. Those that have no thing are idle.
use Rattle.std.specs.Prelude.{◌≡◌, ℕ, ◌≤◌, List, Option, Some, Bool, length, position, option_and_then, slice_get}
use Rattle.std.specs.List.{range_with_len}
use Rattle.capacity.specs.Capacities.{standard}
use Rattle.chart_lines.specs.declared.charts.level.ControlLevel.TheVariants as control
use Rattle.chart_plans.specs.declared.plans.part_numbers.PartKind.{PartKind}
use Rattle.chart_plans.specs.declared.plans.part_numbers.PartKind.TheVariants as kind
use Rattle.chart_plans.specs.WantedWords.Wanted.{Parts, indicate_at}

-- the numbers of the parts of each kind, each list in the order of what they serve
pub record PartNumbers : Type 0 where
  pub pilots : List ℕ
  pub comparing : List ℕ
  pub storage : List ℕ
  pub splits : List ℕ
  pub minor : List ℕ
  pub intermediate : List ℕ
  pub major : List ℕ

-- those of a kind
abbrev pub numbers_of : PartNumbers → PartKind → List ℕ
numbers_of numbers kind.Pilot = numbers.pilots
numbers_of numbers kind.Comparing = numbers.comparing
numbers_of numbers kind.Storage = numbers.storage
numbers_of numbers kind.Split = numbers.splits
numbers_of numbers (kind.Indicate control.Minor) = numbers.minor
numbers_of numbers (kind.Indicate control.Intermediate) = numbers.intermediate
numbers_of numbers (kind.Indicate control.Major) = numbers.major

-- how many things the parts of a kind serve
abbrev pub count_of : Parts → PartKind → ℕ
count_of parts kind.Pilot = length parts.pilots
count_of parts kind.Comparing = length parts.comparing
count_of parts kind.Storage = length parts.storage
count_of parts kind.Split = length parts.splits
count_of parts (kind.Indicate level) = length (indicate_at parts level)

-- how many parts of a kind the standard machine has
abbrev pub last_of : PartKind → ℕ
last_of kind.Pilot = standard.pilots
last_of kind.Comparing = standard.comparing
last_of kind.Storage = standard.storage
last_of kind.Split = standard.splits
last_of (kind.Indicate level) = standard.indicate

-- a machine that has so many parts of a kind has each of these
abbrev pub AreThere : (last : ℕ) → List ℕ → Type 0
AreThere last numbers = (place number : ℕ) → slice_get numbers place ≡ Some number → (1 ≤ number) × (number ≤ last)

-- no part is told twice
abbrev pub AreApart : List ℕ → Type 0
AreApart numbers =
    (one other number : ℕ) → slice_get numbers one ≡ Some number → slice_get numbers other ≡ Some number → one ≡ other

-- Each of so many things has a part of its own, of a machine that has so many parts of the kind: as many numbers as things, each that of
-- a part of the machine, and no part serves two.
pub record AreNumbers (last things : ℕ) (numbers : List ℕ) : Type 0 where
  pub many : length numbers ≡ things
  pub there : AreThere last numbers
  pub own : AreApart numbers

-- all that is served has parts of its own of the standard machine
abbrev pub AreNumbersOf : Parts → PartNumbers → Type 0
AreNumbersOf parts numbers = (each : PartKind) → AreNumbers (last_of each) (count_of parts each) (numbers_of numbers each)

-- the parts 1, 2 and so on of each kind serve, in the order of what they serve
abbrev pub AreInOrder : Parts → PartNumbers → Type 0
AreInOrder parts numbers = (each : PartKind) → numbers_of numbers each ≡ range_with_len 1 (count_of parts each)

-- the number of the part that serves the first thing that passes a test
abbrev pub number_for : {X : Type 0} → (X → Bool) → List X → List ℕ → Option ℕ
number_for test things numbers = option_and_then (slice_get numbers) (position test things)
