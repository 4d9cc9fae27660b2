-- Decks in a row, read as one.
use Rattle.std.specs.Prelude.{ℕ, List, [], ◌∷◌, ◌++◌, Option, None, Some, option_map, if◌then◌else◌, ◌==◌}
use Rattle.report_streams.specs.declared.decks_in_row.stand.Stand.{Stand}
use Rattle.report_streams.specs.declared.decks_in_row.stand.Stand.TheVariants.{HeldCr, InLine, LineStart}

-- where the next byte stands behind one that was given
abbrev pub behind_byte : ℕ → Stand
behind_byte byte = if byte == 10 then LineStart else InLine

-- What comes of the bytes that are left of a deck, by where they stand: these, and a line feed behind them if the last line has no end. A CR
-- that begins a line comes with the byte behind it; if none is there, it is no line, and doesn't come.
abbrev pub ended : Stand → List ℕ → List ℕ
ended LineStart [] = []
ended HeldCr [] = []
ended InLine [] = 10 ∷ []
ended LineStart (byte ∷ bytes) = if byte == 13 then ended HeldCr bytes else byte ∷ ended (behind_byte byte) bytes
ended HeldCr (byte ∷ bytes) = 13 ∷ byte ∷ ended (behind_byte byte) bytes
ended InLine (byte ∷ bytes) = byte ∷ ended (behind_byte byte) bytes

-- The text of decks in a row: each begins on a line of its own.
abbrev pub in_row : List (List ℕ) → List ℕ
in_row [] = []
in_row (deck ∷ decks) = ended LineStart deck ++ in_row decks

-- bytes that are known, and those behind them
abbrev pub known_behind : Option (List ℕ) → Option (List ℕ) → Option (List ℕ)
known_behind None behind = None
known_behind (Some bytes) None = None
known_behind (Some bytes) (Some behind) = Some (bytes ++ behind)

-- what readers in a row have left, of which each has this left; of the first one a part may have been read
abbrev pub left_of : {R : Type 0} → (R → Option (List ℕ)) → Stand → List R → Option (List ℕ)
left_of left stand [] = Some []
left_of left stand (deck ∷ decks) = known_behind (option_map (ended stand) (left deck)) (left_of left LineStart decks)
