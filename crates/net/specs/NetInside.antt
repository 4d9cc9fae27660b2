-- What a net holds beside its rows.
use Rattle.std.specs.Prelude.{◌≡◌, ℕ, All, false, List, Option, IfSome, Vec, drop}
use Rattle.std.specs.Global.{Global}
use Rattle.hubs.specs.SetupsWords.Wiring.{Wiring}
use Rattle.machine_sets.specs.BitSets.Bits.{has_place}
use Rattle.machine_sets.specs.BitSets.Contacts.{AreCommons}
use Rattle.machine_sets.specs.BitSets.Rows.{leads}
use Rattle.machine_sets.specs.declared.bit_sets.contacts.Run.{Run}
use Rattle.net.specs.Nets.{IsNetOf}
use Rattle.machine_sets.specs.declared.spreads.links.Link.{Link}
use Rattle.net.specs.CyclePaths.{AreCyclePaths, AreLinks}
use Rattle.net.specs.declared.kinds.CyclePaths.{CyclePaths}
use Rattle.net.specs.Straight.{AreRunsOf}
use Rattle.net.specs.Tellings.{AreTellings}
use Rattle.net.specs.declared.net.Wired.{Wired}
use Rattle.net.specs.declared.straight.Straight.{Straight}
use Rattle.net.specs.declared.tellings.Telling.{Telling}

-- the wires of a setup, as rows and one by one
pub record IsWiredFor (wiring : Wiring) (wired : Wired) : Type 0 where
  pub net : IsNetOf wiring (record { rows = wired.rows })
  pub lead : AreLinks wired.rows wired.links.items

-- Links lead on where the rows do. The common places of the contacts are known, and what the exits that tell of cycles tell; so are the
-- paths of rows unless the wires are too many, and the runs of straight wires if no others may carry rows and none leads to a contact.
pub record IsNetInside (contacts : List Run) (common_places other_places : List ℕ) (tellings : List Telling) (paths : Option CyclePaths)
    (runs : Option (Vec Straight Global)) (rows : List (List ℕ)) : Type 0 where
  pub links : List Link
  pub lead : AreLinks rows links
  pub commons : AreCommons contacts common_places
  pub others : AreCommons (drop 1 contacts) other_places
  pub told : AreTellings rows tellings
  pub pathed : IfSome paths (AreCyclePaths links tellings)
  pub straight : IfSome runs (λ all. AreRunsOf (leads rows) all.items)
  pub direct : IfSome runs (λ all. All (λ link. has_place common_places link.to ≡ false) links)
