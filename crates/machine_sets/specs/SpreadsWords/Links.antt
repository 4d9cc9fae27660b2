-- Links: wires one by one, from place to place. A set of rows for each place is a number: bit r tells of the row at place r among the
-- points. Sets are spread along links.
use Rattle.std.specs.Prelude.{◌≡◌, ℕ, ◌+◌, ◌<◌, ◌≤◌, ◌==◌, ◌&&◌, ◌||◌, All, Bool, true, List, slice_index_or}
use Rattle.std.specs.List.{list_any}
use Rattle.machine_sets.specs.BitSets.Bits.{is_bit}
use Rattle.machine_sets.specs.BitSets.Contacts.{is_any_contact}
use Rattle.machine_sets.specs.declared.bit_sets.contacts.Run.{Run}
use Rattle.machine_sets.specs.declared.spreads.links.Link.{Link}

-- a link leads from an exit to an entry of the panel
pub record IsInRange (link : Link) : Type 0 where
  pub from : link.from < 1040
  pub low : 1040 ≤ link.to
  pub high : link.to < 1936

-- whether the link leads from one place to another
abbrev pub is_link : ℕ → ℕ → Link → Bool
is_link from to link = (from == link.from) && (to == link.to)

-- whether one of the links leads from one place to another
abbrev pub is_linked : List Link → ℕ → ℕ → Bool
is_linked links from to = list_any (is_link from to) links

-- A contact as a link leads from an entry of the panel to an exit.
pub record IsPassing (contact : Link) : Type 0 where
  pub from : 1040 ≤ contact.from
  pub high : contact.from < 1936
  pub to : contact.to < 1040

-- A run of contacts leads from entries of the panel to exits, and behind its last entry there are eight more.
pub record HasRoom (run : Run) : Type 0 where
  pub from : 1040 ≤ run.common
  pub high : run.common + run.count + 8 ≤ 1936
  pub to : run.exits + run.count ≤ 1040

-- an eight is a run of at most eight contacts, that are looked at at once
pub record IsEight (run : Run) : Type 0 where
  pub room : HasRoom run
  pub few : run.count ≤ 8

-- eights of contacts of the runs, in which all those lie that are listed
pub record AreEights (runs : List Run) (listed : List Link) (eights : List Run) : Type 0 where
  pub each : All IsEight eights
  pub lie :
      (from to : ℕ) → is_any_contact runs from to ≡ true → is_linked listed from to ≡ true → is_any_contact eights from to ≡ true
  pub only : (from to : ℕ) → is_any_contact eights from to ≡ true → is_any_contact runs from to ≡ true

-- whether one of the links leads to a place
abbrev pub is_led_to : List Link → ℕ → Bool
is_led_to links place = list_any (λ link. link.to == place) links

-- whether the set of a place has a row
abbrev pub has_at : List ℕ → ℕ → ℕ → Bool
has_at sets place row = is_bit (slice_index_or sets place 0) row

-- whether one of the links leads to a place from one whose set has the row
abbrev pub is_fed_at : List Link → List ℕ → ℕ → ℕ → Bool
is_fed_at links sets place row = list_any (λ link. (link.to == place) && has_at sets link.from row) links

-- the far end of the link has gained the rows of its near end, and no other place has gained or lost any
abbrev pub IsFollowed : Link → List ℕ → List ℕ → Type 0
IsFollowed link old new =
    (place row : ℕ) → has_at new place row ≡ (has_at old place row || ((link.to == place) && has_at old link.from row))

-- each place has the rows that it had, and those of the places from which links lead to it, and no other
abbrev pub Spreads : List Link → List ℕ → List ℕ → Type 0
Spreads links old new = (place row : ℕ) → has_at new place row ≡ (has_at old place row || is_fed_at links old place row)
