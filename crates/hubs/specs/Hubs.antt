-- The hubs of the panel: their letters, their numbers, and their hub numbers by the hub table.
use Rattle.std.specs.Prelude.{ℕ, ◌+◌, ◌&&◌, not, Bool, Option, Some, None, option_map, is_some}
pub use Rattle.hubs.specs.HubTable.Ranges.{is_within}
use Rattle.hubs.specs.HubTable.HubTable.{row_of}
use Rattle.hubs.specs.HubTable.Places.{place_of}
use Rattle.hubs.specs.declared.hub.Group.{Group}
use Rattle.hubs.specs.declared.hub.Hub.{Hub}
use Rattle.hubs.specs.declared.hub.Hub.TheVariants.{FR, SR, CX, GX, CO, BAN, BAT, PIN, PIT, SX, IX, CSD, CSZ, EM, CC, PX, HX, CA, CB, GE, PL, MI, RO, BT, CI, BAC, PIC, PIX, SE, SI, SO, IE, CSE, W, ST, SP, SK, RS}
use Rattle.hubs.specs.declared.hub_table.letters.Letters.{Letters}
use Rattle.hubs.specs.declared.hub_table.letters.Letters.TheVariants as kind
use Rattle.hubs.specs.declared.hub_table.shape.Numbers.{Numbers}
use Rattle.hubs.specs.declared.hub_table.shape.Numbers.TheVariants.{Bare, One, Two, Three}

-- the letters of a hub, and its numbers in the order in which they are written
abbrev pub name_of_hub : Hub → Letters × Numbers
name_of_hub (FR column) = (kind.FR, One column)
name_of_hub (SR column) = (kind.SR, One column)
name_of_hub (CX position) = (kind.CX, One position)
name_of_hub (GX group position) = (kind.GX, Three group.width group.number position)
name_of_hub (CO group) = (kind.CO, Two group.width group.number)
name_of_hub (BAN group position) = (kind.BAN, Three group.width group.number position)
name_of_hub (BAT group position) = (kind.BAT, Three group.width group.number position)
name_of_hub (PIN pilot position) = (kind.PIN, Two pilot position)
name_of_hub (PIT pilot position) = (kind.PIT, Two pilot position)
name_of_hub (SX unit column) = (kind.SX, Two unit column)
name_of_hub (IX level position) = (kind.IX, Two level position)
name_of_hub (CSD split) = (kind.CSD, One split)
name_of_hub (CSZ split) = (kind.CSZ, One split)
name_of_hub (EM emitter row) = (kind.EM, Two emitter row)
name_of_hub CC = (kind.CC, Bare)
name_of_hub (PX level cycle) = (kind.PX, Two level cycle)
name_of_hub (HX heading) = (kind.HX, One heading)
name_of_hub (CA position) = (kind.CA, One position)
name_of_hub (CB position) = (kind.CB, One position)
name_of_hub (GE group position) = (kind.GE, Three group.width group.number position)
name_of_hub (PL group) = (kind.PL, Two group.width group.number)
name_of_hub (MI group) = (kind.MI, Two group.width group.number)
name_of_hub (RO group) = (kind.RO, Two group.width group.number)
name_of_hub (BT group) = (kind.BT, Two group.width group.number)
name_of_hub (CI group) = (kind.CI, Two group.width group.number)
name_of_hub (BAC group position) = (kind.BAC, Three group.width group.number position)
name_of_hub (PIC pilot position) = (kind.PIC, Two pilot position)
name_of_hub (PIX pilot) = (kind.PIX, One pilot)
name_of_hub (SE unit column) = (kind.SE, Two unit column)
name_of_hub (SI unit) = (kind.SI, One unit)
name_of_hub (SO unit) = (kind.SO, One unit)
name_of_hub (IE level position) = (kind.IE, Two level position)
name_of_hub (CSE split) = (kind.CSE, One split)
name_of_hub (W wheel) = (kind.W, One wheel)
name_of_hub (ST level) = (kind.ST, One level)
name_of_hub (SP lines) = (kind.SP, One lines)
name_of_hub (SK channel) = (kind.SK, One channel)
name_of_hub RS = (kind.RS, Bare)

abbrev pub letters_of : Hub → Letters
letters_of hub = (name_of_hub hub).0

abbrev pub numbers_of : Hub → Numbers
numbers_of hub = (name_of_hub hub).1

-- a counter group
abbrev pub group_of : ℕ → ℕ → Group
group_of width number = record { width = width; number = number }

-- the hub with these letters and numbers; none where the hubs of these letters have not as many
abbrev pub hub_named : Letters → Numbers → Option Hub
hub_named kind.FR (One column) = Some (FR column)
hub_named kind.SR (One column) = Some (SR column)
hub_named kind.CX (One position) = Some (CX position)
hub_named kind.GX (Three width number position) = Some (GX (group_of width number) position)
hub_named kind.CO (Two width number) = Some (CO (group_of width number))
hub_named kind.BAN (Three width number position) = Some (BAN (group_of width number) position)
hub_named kind.BAT (Three width number position) = Some (BAT (group_of width number) position)
hub_named kind.PIN (Two pilot position) = Some (PIN pilot position)
hub_named kind.PIT (Two pilot position) = Some (PIT pilot position)
hub_named kind.SX (Two unit column) = Some (SX unit column)
hub_named kind.IX (Two level position) = Some (IX level position)
hub_named kind.CSD (One split) = Some (CSD split)
hub_named kind.CSZ (One split) = Some (CSZ split)
hub_named kind.EM (Two emitter row) = Some (EM emitter row)
hub_named kind.CC Bare = Some CC
hub_named kind.PX (Two level cycle) = Some (PX level cycle)
hub_named kind.HX (One heading) = Some (HX heading)
hub_named kind.CA (One position) = Some (CA position)
hub_named kind.CB (One position) = Some (CB position)
hub_named kind.GE (Three width number position) = Some (GE (group_of width number) position)
hub_named kind.PL (Two width number) = Some (PL (group_of width number))
hub_named kind.MI (Two width number) = Some (MI (group_of width number))
hub_named kind.RO (Two width number) = Some (RO (group_of width number))
hub_named kind.BT (Two width number) = Some (BT (group_of width number))
hub_named kind.CI (Two width number) = Some (CI (group_of width number))
hub_named kind.BAC (Three width number position) = Some (BAC (group_of width number) position)
hub_named kind.PIC (Two pilot position) = Some (PIC pilot position)
hub_named kind.PIX (One pilot) = Some (PIX pilot)
hub_named kind.SE (Two unit column) = Some (SE unit column)
hub_named kind.SI (One unit) = Some (SI unit)
hub_named kind.SO (One unit) = Some (SO unit)
hub_named kind.IE (Two level position) = Some (IE level position)
hub_named kind.CSE (One split) = Some (CSE split)
hub_named kind.W (One wheel) = Some (W wheel)
hub_named kind.ST (One level) = Some (ST level)
hub_named kind.SP (One lines) = Some (SP lines)
hub_named kind.SK (One channel) = Some (SK channel)
hub_named kind.RS Bare = Some RS
hub_named letters numbers = None

-- The number of a hub: after the hubs of the kinds before its own, by its place there. A hub out of range has none.
abbrev pub number_of : Hub → Option ℕ
number_of hub =
    option_map (λ place. (row_of (letters_of hub)).before + place) (place_of (row_of (letters_of hub)).shape (numbers_of hub))

-- whether the panel has the hub: its numbers are in range
abbrev pub is_hub_in_range : Hub → Bool
is_hub_in_range hub = is_some (number_of hub)

-- the hubs that impulses leave
abbrev pub is_exit_hub : Hub → Bool
is_exit_hub hub = (row_of (letters_of hub)).is_exit && is_hub_in_range hub

-- the hubs that impulses enter
abbrev pub is_entry_hub : Hub → Bool
is_entry_hub hub = not (row_of (letters_of hub)).is_exit && is_hub_in_range hub

-- the counter group whose carry leaves here
abbrev pub carry_out_of : Hub → Option Group
carry_out_of (CO group) = Some group
carry_out_of other = None

-- the counter group whose carry enters here
abbrev pub carry_into : Hub → Option Group
carry_into (CI group) = Some group
carry_into other = None
