-- Helper words: a counter group that is under no control emits nothing and changes nothing in a cycle, but that a carry may come in at
-- the closing point.
use Rattle.std.specs.Prelude.{◌≡◌, ℕ, suc, ◌-◌, ◌≤◌, Bool, true, false, List, [], ◌∷◌, length, replicate, slice_index_or}
use Rattle.counters.specs.Counters.{Counter, no_controls}
use Rattle.counters.specs.Laws.{IsCounter}
use Rattle.hubs.specs.declared.hub.Group.{Group}
use Rattle.hubs.specs.declared.hub.Hub.{Hub}
use Rattle.hubs.specs.declared.hub.Hub.TheVariants.{CI, PL, MI, RO, BT}
use Rattle.net.specs.HubSets.{is_bit}
use Rattle.net.specs.Panel.{unit_of}
use Rattle.selectors.specs.Contacts.{is_nines}
use Rattle.machine.specs.Steady.{balance_latches}
use Rattle.machine.specs.declared.groups.Busy.{Busy}

-- a group is under no control, and nothing is entered
pub record IsAtRest (group : Counter) : Type 0 where
  pub controls : group.controls ≡ no_controls
  pub entered : group.entered ≡ replicate group.name.width 0

-- A group of the panel has no more to do than what is held of it: where it isn't held to be under a control it is at rest, where it isn't
-- held to read out it doesn't, where it isn't held to be under balance test it isn't, and where no carry is held to have come in it has
-- none.
pub record HasNoMore (controlled reading_out tested carried : Bool) (group : Counter) : Type 0 where
  pub lawful : IsCounter group
  pub rest : controlled ≡ false → IsAtRest group
  pub silent : reading_out ≡ false → group.controls.read_out ≡ false
  pub untested : tested ≡ false → group.controls.test ≡ false
  pub empty : carried ≡ false → group.carry ≡ false

-- so it is with each group by its bits, where the first of these stands at place k
abbrev pub HaveNoMore : Busy → ℕ → List Counter → Type 0
HaveNoMore busy k [] = Unit {0}
HaveNoMore busy k (group ∷ groups) =
    HasNoMore (is_bit busy.controlled k) (is_bit busy.reading_out k) (is_bit busy.tested k) (is_bit busy.carried k) group
    × HaveNoMore busy (suc k) groups

-- The groups have no more to do than what is held of them.
abbrev pub AreBusy : Busy → List Counter → Type 0
AreBusy busy groups = HaveNoMore busy 0 groups

-- no control hub of a group is impulsed
pub record AreSilent (picture : Hub → Bool) (name : Group) : Type 0 where
  pub plus : picture (PL name) ≡ false
  pub minus : picture (MI name) ≡ false
  pub read_out : picture (RO name) ≡ false
  pub test : picture (BT name) ≡ false

-- no control hub is impulsed of a group whose bit is not set; the first group of the panel, unit 3, has bit 0
abbrev pub AreToldMarked : ℕ → (Hub → Bool) → Type 0
AreToldMarked marks picture = (name : Group) → 3 ≤ unit_of name → is_bit marks (unit_of name - 3) ≡ false → AreSilent picture name

-- no read-out entry is impulsed of a group whose bit is not set
abbrev pub AreReadOutsMarked : ℕ → (Hub → Bool) → Type 0
AreReadOutsMarked marks picture =
    (name : Group) → 3 ≤ unit_of name → is_bit marks (unit_of name - 3) ≡ false → picture (RO name) ≡ false

-- no balance test is impulsed of a group whose bit is not set
abbrev pub AreTestsMarked : ℕ → (Hub → Bool) → Type 0
AreTestsMarked marks picture =
    (name : Group) → 3 ≤ unit_of name → is_bit marks (unit_of name - 3) ≡ false → picture (BT name) ≡ false

-- no carry entry is impulsed of a group whose bit is not set
abbrev pub AreCarriesMarked : ℕ → (Hub → Bool) → Type 0
AreCarriesMarked marks picture =
    (name : Group) → 3 ≤ unit_of name → is_bit marks (unit_of name - 3) ≡ false → picture (CI name) ≡ false

-- no place of a list of tests has both its bit and its test
abbrev pub AreApart : ℕ → List Bool → Type 0
AreApart bits tests = (place : ℕ) → is_bit bits place ≡ true → slice_index_or tests place false ≡ false

-- no carry comes to a group that stands at nines
abbrev pub ComeToNoNines : (Hub → Bool) → List Bool → Type 0
ComeToNoNines picture nines = (name : Group) → 3 ≤ unit_of name → picture (CI name) ≡ true → is_nines nines name ≡ false

-- The latches that are kept are those of the groups, but for the groups whose bits are set.
pub record AreKeptBut (left : ℕ) (latches : List Bool) (groups : List Counter) : Type 0 where
  pub whole : length latches ≡ length groups
  pub others :
      (place : ℕ) → is_bit left place ≡ false
      → slice_index_or latches place false ≡ slice_index_or (balance_latches groups) place false
