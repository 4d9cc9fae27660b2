-- Cycles and points: the numbers of levels and of the three cycles of a kind, the emitters of cycles, and the fourteen points in their order.
use Rattle.std.specs.Prelude.{ℕ, ◌+◌, Bool, true, false, Option, Some, None, List, [], ◌∷◌, slice_index_or}
use Rattle.card_code.specs.declared.row.Row.TheVariants as row
use Rattle.net.specs.declared.cycle.Cycle.{Cycle}
use Rattle.net.specs.declared.cycle.Cycle.TheVariants.{RunIn, Card, Prog, Head}
use Rattle.net.specs.declared.cycle.ProgramLevel.{ProgramLevel}
use Rattle.net.specs.declared.cycle.ProgramLevel.TheVariants.{Minor, Intermediate, Major, Final}
use Rattle.net.specs.declared.cycle.Ordinal.{Ordinal}
use Rattle.net.specs.declared.cycle.Ordinal.TheVariants.{First, Second, Third}
use Rattle.net.specs.declared.cycle.Point.{Point}
use Rattle.net.specs.declared.cycle.Point.TheVariants.{C, Row, K}

-- the number of a level
abbrev pub level_number : ProgramLevel → ℕ
level_number Minor = 1
level_number Intermediate = 2
level_number Major = 3
level_number Final = 4

-- the number of a program cycle of a level, or of a heading cycle
abbrev pub ordinal_number : Ordinal → ℕ
ordinal_number First = 1
ordinal_number Second = 2
ordinal_number Third = 3

-- the emitter of a cycle, if it has one
abbrev pub emitter_of : Cycle → Option ℕ
emitter_of RunIn = None
emitter_of Card = Some 4
emitter_of (Prog level First) = None
emitter_of (Prog level Second) = None
emitter_of (Prog level Third) = Some (4 + level_number level)
emitter_of (Head heading) = Some (ordinal_number heading)

-- whether a point is the closing point, at which carries pass
abbrev pub is_closing : Point → Bool
is_closing C = false
is_closing (Row row) = false
is_closing K = true

-- the fourteen points in their order
abbrev pub points : List Point
points =
    C ∷ Row row.Nine ∷ Row row.Eight ∷ Row row.Seven ∷ Row row.Six ∷ Row row.Five ∷ Row row.Four ∷ Row row.Three
    ∷ Row row.Two ∷ Row row.One ∷ Row row.Zero ∷ Row row.Eleven ∷ Row row.Twelve ∷ K ∷ []

-- the point with this place in a cycle, 0 to 13
abbrev pub point_at : ℕ → Point
point_at place = slice_index_or points place K
