-- The panel's tables: which contact leads to an exit, which unit emits at an exit, and which unit senses an entry.
use Rattle.std.specs.Prelude.{ℕ, ◌+◌, Option, Some, None}
use Rattle.hubs.specs.HubTable.Places.{group_place}
use Rattle.hubs.specs.declared.hub.Group.{Group}
use Rattle.hubs.specs.declared.hub.Hub.{Hub}
use Rattle.hubs.specs.declared.hub.Hub.TheVariants.{FR, SR, CX, GX, CO, BAN, BAT, PIN, PIT, SX, IX, CSD, CSZ, EM, CC, PX, HX, CA, CB, GE, PL, MI, RO, BT, CI, PIX, SE, SI, SO, W, ST, SP, SK, RS}
use Rattle.hubs.specs.declared.hub.Hub.TheVariants as hub

-- A contact is named by its exit, and leads there from a common hub, or from the carry entry of a counter group to its carry
-- exit. Other hubs are no contact's exit.
abbrev pub contact_of : Hub → Option Hub
contact_of (CO group) = Some (CI group)
contact_of (BAN group position) = Some (hub.BAC group position)
contact_of (BAT group position) = Some (hub.BAC group position)
contact_of (PIN pilot position) = Some (hub.PIC pilot position)
contact_of (PIT pilot position) = Some (hub.PIC pilot position)
contact_of (IX level position) = Some (hub.IE level position)
contact_of (CSD split) = Some (hub.CSE split)
contact_of (CSZ split) = Some (hub.CSE split)
contact_of other = None

-- the number after units that come before, or 0 where there is none
abbrev pub unit_after : ℕ → Option ℕ → ℕ
unit_after before (Some place) = before + place
unit_after before None = 0

-- the unit of a counter group: 3 to 34, by width and number; 0 where there is no such group
abbrev pub unit_of : Group → ℕ
unit_of group = unit_after 2 (group_place group.width group.number)

-- The unit that owns an exit: it emits there, or the contact that leads to it is its own; at a carry exit both. 0 for an entry.
abbrev pub owner_of : Hub → ℕ
owner_of (FR column) = 1
owner_of (SR column) = 1
owner_of (CX position) = 2
owner_of (GX group position) = unit_of group
owner_of (CO group) = unit_of group
owner_of (BAN group position) = unit_of group
owner_of (BAT group position) = unit_of group
owner_of (SX unit column) = 34 + unit
owner_of (PIN pilot position) = 39
owner_of (PIT pilot position) = 39
owner_of (IX level position) = 40
owner_of (CSD split) = 41
owner_of (CSZ split) = 41
owner_of (EM emitter row) = 42
owner_of CC = 45
owner_of (PX level cycle) = 45
owner_of (HX heading) = 45
owner_of entry = 0

-- The unit that senses an entry; 0 for an exit, and for the common hubs of contacts, which no unit senses.
abbrev pub reader_of : Hub → ℕ
reader_of (CA position) = 2
reader_of (CB position) = 2
reader_of (GE group position) = unit_of group
reader_of (PL group) = unit_of group
reader_of (MI group) = unit_of group
reader_of (RO group) = unit_of group
reader_of (BT group) = unit_of group
reader_of (CI group) = unit_of group
reader_of (SE unit column) = 34 + unit
reader_of (SI unit) = 34 + unit
reader_of (SO unit) = 34 + unit
reader_of (PIX pilot) = 39
reader_of (W wheel) = 43
reader_of (SP lines) = 44
reader_of (SK channel) = 44
reader_of RS = 44
reader_of (ST level) = 45
reader_of other = 0
