-- The paths of rows in each kind of cycle.
use Rattle.std.specs.Prelude.{◌≡◌, ℕ, ◌+◌, ◌<◌, All, List, Some, length, slice_index_or}
use Rattle.machine_sets.specs.BitSets.Rows.{leads}
use Rattle.hubs.specs.SetupsWords.Wiring.{Wiring}
use Rattle.machine_sets.specs.SpreadsWords.Links.{IsInRange, is_linked}
use Rattle.machine_sets.specs.SpreadsWords.Paths.{AreParted, PathLinks}
use Rattle.machine_sets.specs.declared.spreads.links.Link.{Link}
use Rattle.net.specs.Kinds.{HasEmitting}
use Rattle.net.specs.Nets.{IsNetOf, NetRows}
use Rattle.net.specs.Tellings.{IsTelling}
use Rattle.net.specs.Tells.{kind_of}
use Rattle.net.specs.declared.contacts.TheConstants.{CONTACTS}
use Rattle.net.specs.declared.cycle.Cycle.{Cycle}
use Rattle.net.specs.declared.cycle.Cycle.TheVariants.{RunIn}
use Rattle.net.specs.declared.kinds.CyclePaths.{CyclePaths}
use Rattle.net.specs.declared.tellings.Telling.{Telling}

-- links lead on where rows do
pub record AreLinks (rows : List (List ℕ)) (links : List Link) : Type 0 where
  pub range : All IsInRange links
  pub agree : (from to : ℕ) → is_linked links from to ≡ leads rows from to

-- The paths are made of a net's wires from some exits. These hold all that may emit at the rows of a cycle.
pub record ArePathsIn (wiring : Wiring) (net : NetRows) (cycle : Cycle) (paths : PathLinks) : Type 0 where
  pub links : List Link
  pub lead : AreLinks net.rows links
  pub exits : List ℕ
  pub emitting : HasEmitting wiring cycle (record { words = exits })
  pub parted : AreParted CONTACTS links exits paths

-- the paths are right in all cycles of a kind
abbrev pub ArePathsOfKind : List Link → ℕ → Telling → PathLinks → Type 0
ArePathsOfKind links kind telling paths =
    (wiring : Wiring) (rows : List (List ℕ)) (cycle : Cycle) → IsNetOf wiring (record { rows = rows }) → AreLinks rows links
    → kind_of cycle ≡ Some kind → IsTelling rows (1024 + kind) telling → ArePathsIn wiring (record { rows = rows }) cycle paths

-- each of the sixteen kinds has its paths
pub record ArePathsOfKinds (links : List Link) (tellings : List Telling) (all : List PathLinks) : Type 0 where
  pub long : length all ≡ 16
  pub each :
      (kind : ℕ) (telling : Telling) (paths : PathLinks) → kind < 16
      → ArePathsOfKind links kind (slice_index_or tellings kind telling) (slice_index_or all kind paths)

-- So have all cycles, where links lead on where the rows of a net do: the run-in too.
pub record AreCyclePaths (links : List Link) (tellings : List Telling) (all : CyclePaths) : Type 0 where
  pub begun : (wiring : Wiring) (rows : List (List ℕ)) → AreLinks rows links → ArePathsIn wiring (record { rows = rows }) RunIn all.run_in
  pub kinds : ArePathsOfKinds links tellings all.kinds.items
