-- What is told of a word that stands where a hub is wanted.
use Rattle.std.specs.Prelude.{ℕ, List, [], ◌++◌, codes, if◌then◌else◌}
use Rattle.hubs.specs.HubTable.HubTable.{row_of}
use Rattle.hubs.specs.declared.hub_table.letters.Letters.{Letters}
use Rattle.hubs.specs.declared.hub_table.letters.Letters.TheVariants as kind
use Rattle.fault_wiring_slips.specs.HubWords.{is_there, is_unpointed, letters_in, numbers_in, tail_of}
use Rattle.fault_wiring_slips.specs.declared.hub.HubWord.{HubWord}
use Rattle.fault_wiring_slips.specs.declared.hub.HubWord.TheVariants as hub
use Rattle.fault_wiring_words.specs.declared.wording.TheConstants as wording

-- the numbers that hubs of these letters have
abbrev pub range_words : Letters → List ℕ
range_words kind.FR = wording.COLUMNS.now
range_words kind.SR = wording.COLUMNS.now
range_words kind.CX = wording.COMPARING_POSITIONS.now
range_words kind.GX = wording.A_COUNTER_POSITION.now
range_words kind.CO = wording.A_COUNTER_GROUP.now
range_words kind.BAN = wording.A_BALANCE_POSITION.now
range_words kind.BAT = wording.A_BALANCE_POSITION.now
range_words kind.PIN = wording.A_PILOT_POSITION.now
range_words kind.PIT = wording.A_PILOT_POSITION.now
range_words kind.SX = wording.A_STORAGE_COLUMN.now
range_words kind.IX = wording.AN_INDICATE_POSITION.now
range_words kind.CSD = wording.COLUMN_SPLITS.now
range_words kind.CSZ = wording.COLUMN_SPLITS.now
range_words kind.EM = wording.AN_EMITTER_ROW.now
range_words kind.CC = wording.NO_NUMBER.now
range_words kind.PX = wording.A_PROGRAM_CYCLE.now
range_words kind.HX = wording.HEADING_CYCLES.now
range_words kind.CA = wording.COMPARING_POSITIONS.now
range_words kind.CB = wording.COMPARING_POSITIONS.now
range_words kind.GE = wording.A_COUNTER_POSITION.now
range_words kind.PL = wording.A_COUNTER_GROUP.now
range_words kind.MI = wording.A_COUNTER_GROUP.now
range_words kind.RO = wording.A_COUNTER_GROUP.now
range_words kind.BT = wording.A_COUNTER_GROUP.now
range_words kind.CI = wording.A_COUNTER_GROUP.now
range_words kind.BAC = wording.A_BALANCE_POSITION.now
range_words kind.PIC = wording.A_PILOT_POSITION.now
range_words kind.PIX = wording.PILOTS.now
range_words kind.SE = wording.A_STORAGE_COLUMN.now
range_words kind.SI = wording.STORAGE_UNITS.now
range_words kind.SO = wording.STORAGE_UNITS.now
range_words kind.IE = wording.AN_INDICATE_POSITION.now
range_words kind.CSE = wording.COLUMN_SPLITS.now
range_words kind.W = wording.WHEELS.now
range_words kind.ST = wording.LEVELS.now
range_words kind.SP = wording.SPACING_HUBS.now
range_words kind.SK = wording.CHANNELS.now
range_words kind.RS = wording.NO_NUMBER.now

-- words with others before and behind them
abbrev pub around : List ℕ → List ℕ → List ℕ → List ℕ
around before middle behind = before ++ middle ++ behind

-- six pieces of text, one behind another
abbrev pub six : List ℕ → List ℕ → List ℕ → List ℕ → List ℕ → List ℕ → List ℕ
six a b c d e f = a ++ b ++ c ++ d ++ e ++ f

-- what hubs of these letters have
unfoldable pub has_words : Letters → List ℕ
has_words letters = around (row_of letters).spelled wording.HAS.now (range_words letters)

-- the point before numbers that stand without one
abbrev pub missing_point : List ℕ → List ℕ
missing_point tail = if is_unpointed tail then codes "." else []

-- the hub of letters that are spelled so and of the numbers that were written, with what is missing between them
unfoldable pub meant_hub : List ℕ → List ℕ → List ℕ → List ℕ
meant_hub spelled missing tail = six wording.DID_YOU_MEAN.now spelled missing tail (codes "? ") []

-- these letters alone
unfoldable pub meant_letters : List ℕ → List ℕ
meant_letters spelled = around wording.DID_YOU_MEAN.now spelled (codes "? ")

-- the hub that may be meant, if the panel has it, or else its letters
unfoldable pub meant_words : Letters → List ℕ → List ℕ
meant_words letters tail =
    if is_there letters (numbers_in tail) then meant_hub (row_of letters).spelled (missing_point tail) tail else meant_letters (row_of letters).spelled

-- the hub that may be meant, if the panel has it
unfoldable pub pointed_words : Letters → List ℕ → List ℕ
pointed_words letters tail = if is_there letters (numbers_in tail) then meant_hub (row_of letters).spelled (missing_point tail) tail else []

-- what is wrong with a word that is no hub of the panel
abbrev pub hub_wrong : HubWord → List ℕ → List ℕ
hub_wrong (hub.There letters) word = around [] word wording.IS_A_HUB_OF_THE_PANEL.now
hub_wrong (hub.OutOfRange letters) word = around wording.THE_PANEL_HAS_NO.now word []
hub_wrong (hub.Misnumbered letters) word =
    around [] word
    wording.IS_MISNUMBERED.now
hub_wrong (hub.Misspelt letters) word = around wording.NO_HUB_HAS_THE_LETTERS.now (letters_in word) []
hub_wrong hub.Unknown word = around [] word wording.IS_NO_HUB.now

-- what helps
abbrev pub hub_cure : HubWord → List ℕ → List ℕ
hub_cure (hub.There letters) word = has_words letters
hub_cure (hub.OutOfRange letters) word = has_words letters
hub_cure (hub.Misnumbered letters) word = pointed_words letters (tail_of word) ++ has_words letters
hub_cure (hub.Misspelt letters) word = meant_words letters (tail_of word) ++ has_words letters
hub_cure hub.Unknown word = wording.A_HUB_IS.now
