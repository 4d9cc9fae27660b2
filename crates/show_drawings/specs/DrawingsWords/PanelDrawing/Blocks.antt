-- The blocks of the drawing, and the places of hubs in them. A place is a number of units to the right and down from the left upper
-- corner. The rows of a block stand 14 units apart, the hubs of a row as far as its block says.
use Rattle.std.specs.Prelude.{ℕ, ◌+◌, ◌-◌, ◌*◌, ◌/◌, ◌%◌, ◌==◌, ◌&&◌, ◌||◌, Bool, List, [], ◌∷◌, Option, Some, None, if◌then◌else◌, nat_le, nat_lt}
use Rattle.std.specs.List.{list_all}
use Rattle.hubs.specs.HubTable.HubTable.{row_of}
use Rattle.hubs.specs.HubTable.Places.{count_of}
use Rattle.hubs.specs.declared.hub_table.letters.Letters.{Letters}
use Rattle.hubs.specs.declared.hub_table.letters.Letters.TheVariants as kind
use Rattle.hubs.specs.Hubs.{number_of}
use Rattle.hubs.specs.declared.hub.Hub.{Hub}
use Rattle.show_drawings.specs.declared.drawings.panel_drawing.blocks.Block.{Block}
use Rattle.show_drawings.specs.declared.drawings.panel_drawing.blocks.Coordinates.{Coordinates}

-- a block
abbrev pub block : Letters → (width before count left top columns rows across run : ℕ) → Block
block letters width before count left top columns rows across run = record {
  kind = letters;
  width = width;
  before = before;
  count = count;
  left = left;
  top = top;
  columns = columns;
  rows = rows;
  across = across;
  run = run;
}

-- The blocks, in the order of the hub table: a kind, the width of its counter groups where each width has a block, how many hubs stand
-- before its own and how many it has, the place of its first hub, its columns and its rows, how far its hubs stand apart, and how long the
-- dotted line is that shows a row: a unit longer than from the first hub to the last.
unfoldable pub blocks : List Block
blocks =
    block kind.FR 0 0 80 32 90 80 1 15 1186 ∷
    block kind.SR 0 80 80 32 44 80 1 15 1186 ∷
    block kind.CX 0 160 30 30 138 30 1 13 378 ∷
    block kind.GX 3 190 24 44 294 3 8 13 27 ∷
    block kind.GX 4 214 32 270 294 4 8 13 40 ∷
    block kind.GX 6 246 48 509 294 6 8 13 66 ∷
    block kind.GX 8 294 64 774 294 8 8 13 92 ∷
    block kind.CO 3 358 8 93 294 1 8 13 1 ∷
    block kind.CO 4 366 8 332 294 1 8 13 1 ∷
    block kind.CO 6 374 8 597 294 1 8 13 1 ∷
    block kind.CO 8 382 8 888 294 1 8 13 1 ∷
    block kind.BAN 3 390 32 122 294 4 8 13 40 ∷
    block kind.BAN 4 422 32 361 294 4 8 13 40 ∷
    block kind.BAN 6 454 32 626 294 4 8 13 40 ∷
    block kind.BAN 8 486 32 917 294 4 8 13 40 ∷
    block kind.BAT 3 518 32 186 294 4 8 13 40 ∷
    block kind.BAT 4 550 32 425 294 4 8 13 40 ∷
    block kind.BAT 6 582 32 690 294 4 8 13 40 ∷
    block kind.BAT 8 614 32 981 294 4 8 13 40 ∷
    block kind.PIN 0 646 48 30 186 12 4 13 144 ∷
    block kind.PIT 0 694 48 220 186 12 4 13 144 ∷
    block kind.SX 0 742 64 410 186 16 4 13 196 ∷
    block kind.IX 0 806 90 660 186 30 3 13 378 ∷
    block kind.CSD 0 896 16 450 138 16 1 13 196 ∷
    block kind.CSZ 0 912 16 690 138 16 1 13 196 ∷
    block kind.EM 0 928 96 1066 294 12 8 13 144 ∷
    block kind.CC 0 1024 1 930 138 1 1 13 1 ∷
    block kind.PX 0 1025 12 990 138 12 1 13 144 ∷
    block kind.HX 0 1037 3 1160 138 3 1 13 27 ∷
    block kind.CA 0 1040 30 30 826 30 1 13 378 ∷
    block kind.CB 0 1070 30 450 826 30 1 13 378 ∷
    block kind.GE 3 1100 24 44 594 3 8 13 27 ∷
    block kind.GE 4 1124 32 270 594 4 8 13 40 ∷
    block kind.GE 6 1156 48 509 594 6 8 13 66 ∷
    block kind.GE 8 1204 64 774 594 8 8 13 92 ∷
    block kind.PL 3 1268 8 93 594 1 8 13 1 ∷
    block kind.PL 4 1276 8 332 594 1 8 13 1 ∷
    block kind.PL 6 1284 8 597 594 1 8 13 1 ∷
    block kind.PL 8 1292 8 888 594 1 8 13 1 ∷
    block kind.MI 3 1300 8 116 594 1 8 13 1 ∷
    block kind.MI 4 1308 8 355 594 1 8 13 1 ∷
    block kind.MI 6 1316 8 620 594 1 8 13 1 ∷
    block kind.MI 8 1324 8 911 594 1 8 13 1 ∷
    block kind.RO 3 1332 8 139 594 1 8 13 1 ∷
    block kind.RO 4 1340 8 378 594 1 8 13 1 ∷
    block kind.RO 6 1348 8 643 594 1 8 13 1 ∷
    block kind.RO 8 1356 8 934 594 1 8 13 1 ∷
    block kind.BT 3 1364 8 162 594 1 8 13 1 ∷
    block kind.BT 4 1372 8 401 594 1 8 13 1 ∷
    block kind.BT 6 1380 8 666 594 1 8 13 1 ∷
    block kind.BT 8 1388 8 957 594 1 8 13 1 ∷
    block kind.CI 3 1396 8 185 594 1 8 13 1 ∷
    block kind.CI 4 1404 8 424 594 1 8 13 1 ∷
    block kind.CI 6 1412 8 689 594 1 8 13 1 ∷
    block kind.CI 8 1420 8 980 594 1 8 13 1 ∷
    block kind.BAC 3 1428 32 214 594 4 8 13 40 ∷
    block kind.BAC 4 1460 32 453 594 4 8 13 40 ∷
    block kind.BAC 6 1492 32 718 594 4 8 13 40 ∷
    block kind.BAC 8 1524 32 1009 594 4 8 13 40 ∷
    block kind.PIC 0 1556 48 30 746 12 4 13 144 ∷
    block kind.PIX 0 1604 16 220 746 16 1 13 196 ∷
    block kind.SE 0 1620 64 860 746 16 4 13 196 ∷
    block kind.SI 0 1684 4 1100 746 1 4 13 1 ∷
    block kind.SO 0 1688 4 1140 746 1 4 13 1 ∷
    block kind.IE 0 1692 90 450 746 30 3 13 378 ∷
    block kind.CSE 0 1782 16 220 788 16 1 13 196 ∷
    block kind.W 0 1798 120 35 866 120 1 10 1191 ∷
    block kind.ST 0 1918 3 870 826 3 1 13 27 ∷
    block kind.SP 0 1921 2 960 826 2 1 13 14 ∷
    block kind.SK 0 1923 12 1070 826 12 1 13 144 ∷
    block kind.RS 0 1935 1 1020 826 1 1 13 1 ∷ []

-- the block of a hub's number: the first one that goes so far; an empty one, where the number is beyond all
abbrev pub no_block : Block
no_block = block kind.RS 0 0 0 0 0 1 0 0 0

abbrev pub block_in : List Block → ℕ → Block
block_in [] number = no_block
block_in (first ∷ others) number = if nat_le number (first.before + first.count) then first else block_in others number

-- the place of a hub's number in its block, row by row
abbrev pub place_in : Block → ℕ → Coordinates
place_in block number = record {
  x = block.left + block.across * ((number - block.before - 1) % block.columns);
  y = block.top + 14 * ((number - block.before - 1) / block.columns);
}

-- the place of a hub's number
abbrev pub place_at : ℕ → Coordinates
place_at number = place_in (block_in blocks number) number

-- the place of a hub; the left upper corner for one that the panel doesn't have
abbrev pub place_numbered : Option ℕ → Coordinates
place_numbered None = record { x = 0; y = 0 }
place_numbered (Some number) = place_at number

abbrev pub place_of : Hub → Coordinates
place_of hub = place_numbered (number_of hub)

-- how wide and how high the drawing is
abbrev pub width : ℕ
width = 1250

abbrev pub height : ℕ
height = 890

-- the line between the exits, above it, and the entries
abbrev pub middle : ℕ
middle = 470

-- What the blocks are: their hubs follow one another up to the last hub of the panel, each of its kind; each block has room for its
-- hubs, stands on the drawing with a margin of ten units, and on the side of its kind; its dotted lines show its hubs; and no two meet.
abbrev pub is_of_kind : Block → Bool
is_of_kind block =
    nat_le (row_of block.kind).before block.before
    && nat_le (block.before + block.count) ((row_of block.kind).before + count_of (row_of block.kind).shape)

abbrev pub has_room : Block → Bool
has_room block = nat_le 1 block.columns && block.count == block.columns * block.rows

abbrev pub is_dotted : Block → Bool
is_dotted block = nat_le 10 block.across && block.run == block.across * (block.columns - 1) + 1

-- the right and the lower edge of a block
abbrev pub right_edge : Block → ℕ
right_edge block = block.left + block.across * block.columns

abbrev pub lower_edge : Block → ℕ
lower_edge block = block.top + 14 * block.rows

abbrev pub is_drawn : Block → Bool
is_drawn block = nat_le 10 block.left && (nat_le (right_edge block) width && (nat_le 10 block.top && nat_le (lower_edge block) height))

abbrev pub is_on_its_side : Block → Bool
is_on_its_side block =
    if nat_le (block.before + block.count) 1040 then nat_le (lower_edge block) middle
    else nat_le 1040 block.before && nat_lt middle block.top

abbrev pub are_apart : Block → Block → Bool
are_apart one other =
    (nat_le (right_edge one) other.left || nat_le (right_edge other) one.left)
    || (nat_le (lower_edge one) other.top || nat_le (lower_edge other) one.top)

abbrev pub is_block : Block → Bool
is_block block = is_of_kind block && (has_room block && (is_dotted block && (is_drawn block && is_on_its_side block)))

abbrev pub are_blocks : ℕ → List Block → Bool
are_blocks before [] = before == 1936
are_blocks before (first ∷ others) =
    (first.before == before)
    && (is_block first && (list_all (are_apart first) others && are_blocks (before + first.count) others))
