-- The hub table: for each kind of hub its letters, whether impulses leave or enter it, how many hubs stand before its
-- kind, and its numbers.
use Rattle.std.specs.Prelude.{ℕ, ◌+◌, ◌<◌, ◌≤◌, ◌==◌, ◌&&◌, Bool, true, false, List, [], ◌∷◌, codes}
use Rattle.hubs.specs.HubTable.Places.{count_of}
use Rattle.hubs.specs.declared.hub_table.letters.Letters.{Letters}
use Rattle.hubs.specs.declared.hub_table.letters.Letters.TheVariants.{FR, SR, CX, GX, CO, BAN, BAT, PIN, PIT, SX, IX, CSD, CSZ, EM, CC, PX, HX, CA, CB, GE, PL, MI, RO, BT, CI, BAC, PIC, PIX, SE, SI, SO, IE, CSE, W, ST, SP, SK, RS}
use Rattle.hubs.specs.declared.hub_table.shape.Shape.{Shape}
use Rattle.hubs.specs.declared.hub_table.shape.Shape.TheVariants.{Alone, To, TwoOrThree, Each, Rows, Groups, GroupsEach, Positions}

-- a row of the table
pub record TableRow : Type 0 where
  pub spelled : List ℕ
  pub is_exit : Bool
  pub before : ℕ
  pub shape : Shape

-- a row of a kind that impulses leave
abbrev pub exits : List ℕ → ℕ → Shape → TableRow
exits spelled before shape = record { spelled = spelled; is_exit = true; before = before; shape = shape }

-- a row of a kind that impulses enter
abbrev pub entries : List ℕ → ℕ → Shape → TableRow
entries spelled before shape = record { spelled = spelled; is_exit = false; before = before; shape = shape }

-- the table
abbrev pub row_of : Letters → TableRow
row_of FR = exits (codes "FR") 0 (To 80)
row_of SR = exits (codes "SR") 80 (To 80)
row_of CX = exits (codes "CX") 160 (To 30)
row_of GX = exits (codes "GX") 190 Positions
row_of CO = exits (codes "CO") 358 Groups
row_of BAN = exits (codes "BAN") 390 (GroupsEach 4)
row_of BAT = exits (codes "BAT") 518 (GroupsEach 4)
row_of PIN = exits (codes "PIN") 646 (Each 16 3)
row_of PIT = exits (codes "PIT") 694 (Each 16 3)
row_of SX = exits (codes "SX") 742 (Each 4 16)
row_of IX = exits (codes "IX") 806 (Each 3 30)
row_of CSD = exits (codes "CSD") 896 (To 16)
row_of CSZ = exits (codes "CSZ") 912 (To 16)
row_of EM = exits (codes "EM") 928 (Rows 8)
row_of CC = exits (codes "CC") 1024 Alone
row_of PX = exits (codes "PX") 1025 (Each 4 3)
row_of HX = exits (codes "HX") 1037 (To 3)
row_of CA = entries (codes "CA") 1040 (To 30)
row_of CB = entries (codes "CB") 1070 (To 30)
row_of GE = entries (codes "GE") 1100 Positions
row_of PL = entries (codes "PL") 1268 Groups
row_of MI = entries (codes "MI") 1300 Groups
row_of RO = entries (codes "RO") 1332 Groups
row_of BT = entries (codes "BT") 1364 Groups
row_of CI = entries (codes "CI") 1396 Groups
row_of BAC = entries (codes "BAC") 1428 (GroupsEach 4)
row_of PIC = entries (codes "PIC") 1556 (Each 16 3)
row_of PIX = entries (codes "PIX") 1604 (To 16)
row_of SE = entries (codes "SE") 1620 (Each 4 16)
row_of SI = entries (codes "SI") 1684 (To 4)
row_of SO = entries (codes "SO") 1688 (To 4)
row_of IE = entries (codes "IE") 1692 (Each 3 30)
row_of CSE = entries (codes "CSE") 1782 (To 16)
row_of W = entries (codes "W") 1798 (To 120)
row_of ST = entries (codes "ST") 1918 (To 3)
row_of SP = entries (codes "SP") 1921 TwoOrThree
row_of SK = entries (codes "SK") 1923 (To 12)
row_of RS = entries (codes "RS") 1935 Alone

-- a kind has the hub of a number: it is after those before the kind, and not after the kind's own
abbrev pub HasNumber : Letters → ℕ → Type 0
HasNumber letters number =
    ((row_of letters).before < number) × (number ≤ (row_of letters).before + count_of (row_of letters).shape)

-- the kinds of exits, in the order of the table
unfoldable pub exit_kinds : List Letters
exit_kinds = FR ∷ SR ∷ CX ∷ GX ∷ CO ∷ BAN ∷ BAT ∷ PIN ∷ PIT ∷ SX ∷ IX ∷ CSD ∷ CSZ ∷ EM ∷ CC ∷ PX ∷ HX ∷ []

-- the kinds of entries, in the order of the table
unfoldable pub entry_kinds : List Letters
entry_kinds =
    CA ∷ CB ∷ GE ∷ PL ∷ MI ∷ RO ∷ BT ∷ CI ∷ BAC ∷ PIC ∷ PIX ∷ SE ∷ SI ∷ SO ∷ IE ∷ CSE ∷ W ∷ ST ∷ SP ∷ SK ∷ RS ∷ []

-- whether kinds follow one another without a gap, from so many hubs to so many
abbrev pub is_unbroken : ℕ → ℕ → List Letters → Bool
is_unbroken from to [] = from == to
is_unbroken from to (letters ∷ others) =
    ((row_of letters).before == from) && is_unbroken (from + count_of (row_of letters).shape) to others
