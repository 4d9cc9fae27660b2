-- Why the panel can't have the carry that a line wires.
use Rattle.std.specs.Prelude.{ℕ, List, Option, Some, None, codes, if◌then◌else◌}
use Rattle.std.specs.Str.{bytes_eq}
use Rattle.hubs.specs.Carries.{may_carry}
use Rattle.fault_slips.specs.LineMarks.FirstLines.{first_line}
use Rattle.fault_slips.specs.LineMarks.Spans.{word}
use Rattle.fault_wiring_slips.specs.HubWords.{letters_in}
use Rattle.fault_wiring_slips.specs.Meetings.{carry_of, meets}
use Rattle.fault_wiring_slips.specs.declared.carry.CarrySlip.{CarrySlip}
use Rattle.fault_wiring_slips.specs.declared.carry.CarrySlip.TheVariants as carry
use Rattle.fault_wiring_slips.specs.declared.meeting.CarryWire.{CarryWire}
use Rattle.fault_wiring_slips.specs.declared.meeting.Meeting.TheVariants as meeting

-- of two groups between which no carry goes, or of a carry that meets one that is there
abbrev pub groups_slip : CarryWire → Option ℕ → CarrySlip
groups_slip wire met = if may_carry (Some wire.from) (Some wire.to) then carry.Meets met else carry.Groups

-- of a line that wires no carry between groups: its exit is that of a carry, or its entry is
abbrev pub ends_slip : List ℕ → CarrySlip
ends_slip text = if bytes_eq (letters_in (word 1 text)) (codes "CO") then carry.Leads else carry.Comes

abbrev pub wire_of_slip : Option CarryWire → List ℕ → Option ℕ → CarrySlip
wire_of_slip (Some wire) text met = groups_slip wire met
wire_of_slip None text met = ends_slip text

-- why it can't, beside the lines of a text
unfoldable pub carry_slip : List ℕ → List ℕ → CarrySlip
carry_slip text good = wire_of_slip (carry_of text) text (first_line (meets meeting.Carry text) good)
