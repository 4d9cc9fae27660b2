-- What is told of a line that stood before, and of one that the panel can't have.
use Rattle.std.specs.Prelude.{ℕ, ◌&&◌, ◌||◌, Bool, false, List, [], ◌++◌, Option, Some, None, codes, decimal, nat_le, not, if◌then◌else◌}
use Rattle.hubs.specs.HubTable.HubTable.{row_of}
use Rattle.hubs.specs.HubTable.Ranges.{is_within}
use Rattle.fault_slips.specs.Counts.{count_text}
use Rattle.fault_slips.specs.LineMarks.Spans.{word}
use Rattle.hubs.specs.declared.setups.fault.SetupFault.{SetupFault}
use Rattle.hubs.specs.declared.setups.fault.SetupFault.TheVariants as panel
use Rattle.chart_lines.specs.TokensWords.NumberReading.{number_of}
use Rattle.fault_wiring_slips.specs.CarrySlips.{carry_slip}
use Rattle.fault_wiring_slips.specs.HubWords.{hub_word}
use Rattle.fault_wiring_slips.specs.LineSlips.{begins_with}
use Rattle.fault_wiring_slips.specs.declared.carry.CarrySlip.{CarrySlip}
use Rattle.fault_wiring_slips.specs.declared.carry.CarrySlip.TheVariants as carry
use Rattle.fault_wiring_slips.specs.declared.hub.HubWord.{HubWord}
use Rattle.fault_wiring_slips.specs.declared.hub.HubWord.TheVariants as hub
use Rattle.fault_wiring_words.specs.HubWords.{around, hub_cure, hub_wrong}
use Rattle.fault_wiring_words.specs.Lines.{meant_wire}
use Rattle.fault_wiring_words.specs.declared.wording.TheConstants as wording

-- a line that is met, by its number
unfoldable pub met_words : Option ℕ → List ℕ
met_words None = wording.ANOTHER_LINE.now
met_words (Some number) = codes "line " ++ decimal number

-- what is wrong with a line that stood before
unfoldable pub twice_wrong : Option ℕ → List ℕ
twice_wrong met = met_words met ++ wording.SAYS_THIS_ALREADY.now

-- whether a word is an exit of the panel
abbrev pub is_exit_word : HubWord → Bool
is_exit_word (hub.There letters) = (row_of letters).is_exit
is_exit_word other = false

-- a group that there isn't
unfoldable pub no_group : List ℕ → List ℕ
no_group group = around wording.THERE_IS_NO_COUNTER_GROUP.now group []

unfoldable pub no_couple : List ℕ → List ℕ
no_couple number = around wording.THERE_IS_NO_COUNTER_GROUP_OF_8.now number []

-- what helps there
abbrev pub group_cure : List ℕ
group_cure = wording.THE_COUNTER_GROUPS_ARE.now

-- what helps where a wire goes the wrong way
abbrev pub way_cure : List ℕ
way_cure = wording.A_WIRE_LEADS_FROM_EXIT_TO_ENTRY.now

-- what is wrong with the first hub of a wire
abbrev pub exit_wrong : HubWord → List ℕ → List ℕ
exit_wrong (hub.There letters) exit = around [] exit wording.IS_AN_ENTRY.now
exit_wrong other exit = hub_wrong other exit

-- what is wrong with the second
abbrev pub entry_wrong : HubWord → List ℕ → List ℕ
entry_wrong (hub.There letters) entry = around [] entry wording.IS_AN_EXIT.now
entry_wrong other entry = hub_wrong other entry

-- what helps: the two hubs may have to be exchanged
abbrev pub exit_cure : HubWord → List ℕ → List ℕ → List ℕ
exit_cure (hub.There letters) exit entry = if is_exit_word (hub_word entry) then meant_wire entry exit else way_cure
exit_cure other exit entry = hub_cure other exit

abbrev pub entry_cure : HubWord → List ℕ → List ℕ
entry_cure (hub.There letters) entry = way_cure
entry_cure other entry = hub_cure other entry

-- what is wrong with a line whose exit is none
unfoldable pub no_exit_wrong : List ℕ → List ℕ
no_exit_wrong text =
    if begins_with text (codes "RING") then no_group (word 1 text)
    else if begins_with text (codes "COUPLE") then no_couple (word 1 text)
    else exit_wrong (hub_word (word 1 text)) (word 1 text)

unfoldable pub no_exit_cure : List ℕ → List ℕ
no_exit_cure text =
    if begins_with text (codes "RING") || begins_with text (codes "COUPLE") then group_cure
    else exit_cure (hub_word (word 1 text)) (word 1 text) (word 2 text)

-- and with one whose entry is none
unfoldable pub no_entry_wrong : List ℕ → List ℕ
no_entry_wrong text =
    if begins_with text (codes "COUPLE") then no_couple (word 2 text) else entry_wrong (hub_word (word 2 text)) (word 2 text)

unfoldable pub no_entry_cure : List ℕ → List ℕ
no_entry_cure text = if begins_with text (codes "COUPLE") then group_cure else entry_cure (hub_word (word 2 text)) (word 2 text)

-- what is wrong with a carry
unfoldable pub carry_wrong : CarrySlip → List ℕ → List ℕ
carry_wrong carry.Leads text = around [] (word 1 text) wording.LEADS_TO_A_CI.now
carry_wrong carry.Comes text = around [] (word 2 text) wording.IS_FED_BY_A_CO.now
carry_wrong carry.Groups text = wording.A_CARRY_STAYS_IN_ITS_GROUP.now
carry_wrong (carry.Meets met) text = met_words met ++ wording.WIRES_THE_CARRY_IN_ANOTHER_WAY.now

-- what helps
abbrev pub carry_cure : List ℕ
carry_cure = wording.A_CO_LEADS_TO_ONE_CI.now

-- the place of the word that is marked
abbrev pub carry_place : CarrySlip → ℕ
carry_place carry.Leads = 2
carry_place carry.Comes = 1
carry_place carry.Groups = 2
carry_place (carry.Meets met) = 1

-- a number of a form, or 0
abbrev pub number_or_none : Option ℕ → ℕ
number_or_none (Some number) = number
number_or_none None = 0

unfoldable pub form_number : ℕ → List ℕ → ℕ
form_number index text = number_or_none (number_of (word index text))

-- the place of the number of a form that is wrong: its lines, its first line, or its overflow line
unfoldable pub form_place : List ℕ → ℕ
form_place text =
    if not (nat_le 3 (form_number 1 text) && nat_le (form_number 1 text) 144) then 1
    else if not (is_within (form_number 2 text) (form_number 1 text)) then 2
    else 3

-- how many lines a form has
unfoldable pub form_lines : List ℕ → List ℕ
form_lines form = count_text wording.THE_FORM_HAS.now (form_number 1 form) wording.ONE_LINE.now

-- its first line
unfoldable pub form_first : List ℕ → List ℕ
form_first form = wording.ITS_FIRST_LINE_IS.now ++ decimal (form_number 2 form)

-- its overflow line
unfoldable pub form_overflow : List ℕ → List ℕ
form_overflow form = wording.AND_ITS_OVERFLOW_LINE.now ++ decimal (form_number 3 form)

-- what is wrong with a form
unfoldable pub form_wrong : List ℕ → List ℕ
form_wrong form = form_lines form ++ form_first form ++ form_overflow form

-- what is wrong with what a line says, on a form that this line describes and beside the lines of a text
unfoldable pub unfit_wrong : SetupFault → List ℕ → List ℕ → List ℕ → List ℕ
unfit_wrong panel.NotExit form good text = no_exit_wrong text
unfit_wrong panel.NotEntry form good text = no_entry_wrong text
unfit_wrong panel.CarryRing form good text = carry_wrong (carry_slip text good) text
unfit_wrong panel.TapeFault form good text = form_lines form
unfit_wrong panel.Memory form good text = []

-- what helps
unfoldable pub unfit_cure : SetupFault → List ℕ → List ℕ
unfit_cure panel.NotExit text = no_exit_cure text
unfit_cure panel.NotEntry text = no_entry_cure text
unfit_cure panel.CarryRing text = carry_cure
unfit_cure panel.TapeFault text = wording.MOVE_THE_STOP.now
unfit_cure panel.Memory text = []

-- the place of the word that is marked
abbrev pub unfit_place : SetupFault → List ℕ → List ℕ → ℕ
unfit_place panel.NotExit good text = 1
unfit_place panel.NotEntry good text = 2
unfit_place panel.CarryRing good text = carry_place (carry_slip text good)
unfit_place panel.TapeFault good text = 2
unfit_place panel.Memory good text = 0

-- the name of the fault
abbrev pub unfit_name : SetupFault → List ℕ
unfit_name panel.NotExit = codes "NotExit"
unfit_name panel.NotEntry = codes "NotEntry"
unfit_name panel.CarryRing = codes "CarryRing"
unfit_name panel.TapeFault = codes "TapeFault"
unfit_name panel.Memory = []
