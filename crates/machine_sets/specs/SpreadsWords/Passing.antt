-- Contacts as links: sets of rows, one for each place, are passed on along closed contacts. A contact passes on the rows of its near end
-- at which it is closed.
use Rattle.std.specs.Prelude.{◌≡◌, ◌⊎◌, ℕ, ◌+◌, ◌-◌, min, nat_le, ◌==◌, ◌&&◌, ◌||◌, nat_lt, Bool, true, List, if◌then◌else◌}
use Rattle.std.specs.List.{list_any}
use Rattle.machine_sets.specs.BitSets.Bits.{has_place}
use Rattle.machine_sets.specs.BitSets.Contacts.{is_any_contact}
use Rattle.machine_sets.specs.declared.bit_sets.contacts.Run.{Run}
use Rattle.machine_sets.specs.SpreadsWords.Links.{has_at, is_linked}
use Rattle.machine_sets.specs.declared.spreads.links.Link.{Link}

-- whether the contact to a place is closed at the row at this place among the points: at the rows 9 to 0 where the first set has it, at 11
-- and 12 where the second one has it
abbrev pub is_closed_at : List ℕ → List ℕ → ℕ → ℕ → Bool
is_closed_at digits zones row place = if nat_lt row 10 then has_place digits place else nat_lt row 12 && has_place zones place

-- whether the contact leads to a place, from one whose set has the row, and is closed at the row
abbrev pub is_passed_by : List ℕ → List ℕ → List ℕ → ℕ → ℕ → Link → Bool
is_passed_by digits zones sets place row contact =
    (contact.to == place) && (has_at sets contact.from row && is_closed_at digits zones row contact.to)

-- the far end of the contact has gained the rows that it passes on, and no other place has gained or lost any
abbrev pub IsPassed : List ℕ → List ℕ → Link → List ℕ → List ℕ → Type 0
IsPassed digits zones contact old new =
    (place row : ℕ) → has_at new place row ≡ (has_at old place row || is_passed_by digits zones old place row contact)

-- each place has the rows that it had, and those that the contacts pass on to it, and no other
abbrev pub Passes : List ℕ → List ℕ → List Link → List ℕ → List ℕ → Type 0
Passes digits zones contacts old new =
    (place row : ℕ) → has_at new place row ≡ (has_at old place row || list_any (is_passed_by digits zones old place row) contacts)

-- the contacts of a run from one of them on, eight at most
abbrev pub eight_of : Run → ℕ → Run
eight_of run from = record { common = run.common + from; exits = run.exits + from; count = min (run.count - from) 8 }

-- whether the contact of the run to a place leads from one whose set has the row, and is closed at the row
abbrev pub is_passed_in : List ℕ → List ℕ → List ℕ → ℕ → ℕ → Run → Bool
is_passed_in digits zones sets place row run =
    nat_le run.exits place
    && (nat_lt (place - run.exits) run.count
    && (has_at sets (run.common + (place - run.exits)) row && is_closed_at digits zones row place))

-- each place has the rows that it had, and those that the contacts of the run pass on to it, and no other
abbrev pub IsRunPassed : List ℕ → List ℕ → Run → List ℕ → List ℕ → Type 0
IsRunPassed digits zones run old new =
    (place row : ℕ) → has_at new place row ≡ (has_at old place row || is_passed_in digits zones old place row run)

-- so it is with the contacts of all runs
abbrev pub RunsPass : List ℕ → List ℕ → List Run → List ℕ → List ℕ → Type 0
RunsPass digits zones runs old new =
    (place row : ℕ) → has_at new place row ≡ (has_at old place row || list_any (is_passed_in digits zones old place row) runs)

-- each place has the rows that it had
abbrev pub SameSets : List ℕ → List ℕ → Type 0
SameSets old new = (place row : ℕ) → has_at new place row ≡ has_at old place row

-- new has what old has, and the contacts of the test that lead from these places
abbrev pub AddsContacts : (ℕ → ℕ → Bool) → List ℕ → List Link → List Link → Type 0
AddsContacts test places old new =
    (from to : ℕ) → is_linked new from to ≡ (is_linked old from to || (test from to && has_place places from))

-- New has the contacts that old has, of those of the test all that are listed, and no others but such of the test.
pub record AddsEights (test : ℕ → ℕ → Bool) (listed : List Link) (old new : List Run) : Type 0 where
  pub kept : (from to : ℕ) → is_any_contact old from to ≡ true → is_any_contact new from to ≡ true
  pub added : (from to : ℕ) → test from to ≡ true → is_linked listed from to ≡ true → is_any_contact new from to ≡ true
  pub only : (from to : ℕ) → is_any_contact new from to ≡ true → (is_any_contact old from to ≡ true) ⊎ (test from to ≡ true)
