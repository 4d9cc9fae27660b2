-- A test of each kind of parts, one after the other.
use Rattle.std.proofs.Common.{◌≡◌, ◌∙◌, ◌↔◌, IsTrue, Bool, false, true, List, ℕ, length, sym}
use Rattle.std.proofs.lemmas.Bool.{false≢true}
use Rattle.std.specs.List.{range_with_len}
use Rattle.chart_lines.specs.declared.charts.level.ControlLevel.TheVariants as control
use Rattle.chart_plans.specs.PlansWords.PartNumbers.{AreNumbers, PartNumbers, count_of, last_of, numbers_of}
use Rattle.chart_plans.specs.declared.plans.part_numbers.PartKind.{PartKind}
use Rattle.chart_plans.specs.declared.plans.part_numbers.PartKind.TheVariants as kind
use Rattle.chart_plans.specs.WantedWords.Wanted.{Parts}

-- each thing of a kind has a part of its own
abbrev pub HasOwn : Parts → PartNumbers → PartKind → Type 0
HasOwn parts numbers each = AreNumbers (last_of each) (count_of parts each) (numbers_of numbers each)

-- the first parts of a kind serve
abbrev pub HasFirst : Parts → PartNumbers → PartKind → Type 0
HasFirst parts numbers each = numbers_of numbers each ≡ range_with_len 1 (count_of parts each)

-- a test of a kind, by the lists that it reads
pub own-told : {X : Type 0} {last : ℕ} {test : Bool} {list things : List X} {numbers own : List ℕ}
    → (IsTrue test ↔ AreNumbers last (length list) numbers) → list ≡ things → numbers ≡ own → IsTrue test ↔ AreNumbers last (length things) own
own-told told is same = rw (sym is, sym same) told

pub first-told : {X : Type 0} {test : Bool} {list things : List X} {numbers own : List ℕ}
    → (IsTrue test ↔ (numbers ≡ range_with_len 1 (length list))) → list ≡ things → numbers ≡ own
    → IsTrue test ↔ (own ≡ range_with_len 1 (length things))
first-told told is same = rw (sym is, sym same) told

-- one more test, if those before hold
pub and-next : {P Q : Type 0} {before value next : Bool} → (IsTrue before ↔ P) → before ≡ true → value ≡ next → (IsTrue next ↔ Q)
    → IsTrue value ↔ (P × Q)
and-next told holds is also = rw is (λ yes. (told.0 holds, also.0 yes), λ both. also.1 both.1)

-- and if one of those fails
pub and-none : {P Q : Type 0} {before value : Bool} → (IsTrue before ↔ P) → before ≡ false → value ≡ before → IsTrue value ↔ (P × Q)
and-none told fails is = (
  λ yes. absurd (false≢true (sym fails ∙ sym is ∙ yes)),
  λ both. absurd (false≢true (sym fails ∙ told.1 both.0)),
)

-- all of them
module _ (P : PartKind → Type 0) where
  -- what holds of the first six kinds
  abbrev pub Six : Type 0
  Six =
      ((((P kind.Pilot × P kind.Comparing) × P kind.Storage) × P kind.Split) × P (kind.Indicate control.Minor))
      × P (kind.Indicate control.Intermediate)

  pub all-told : {test : Bool} → (IsTrue test ↔ (Six × P (kind.Indicate control.Major))) → IsTrue test ↔ ((each : PartKind) → P each)
  all-told told = (
    λ yes. by (told.0 yes),
    λ all. told.1 (
      (
        ((((all kind.Pilot, all kind.Comparing), all kind.Storage), all kind.Split), all (kind.Indicate control.Minor)),
        all (kind.Indicate control.Intermediate),
      ),
      all (kind.Indicate control.Major),
    ),
  )
    where
      by : Six × P (kind.Indicate control.Major) → (each : PartKind) → P each
      by holds kind.Pilot = holds.0.0.0.0.0.0
      by holds kind.Comparing = holds.0.0.0.0.0.1
      by holds kind.Storage = holds.0.0.0.0.1
      by holds kind.Split = holds.0.0.0.1
      by holds (kind.Indicate control.Minor) = holds.0.0.1
      by holds (kind.Indicate control.Intermediate) = holds.0.1
      by holds (kind.Indicate control.Major) = holds.1
