use Rattle.std.proofs.Common.{◌≡◌, length}
use Rattle.print_unit.specs.RowSets.{HasCharacters}
use Rattle.print_unit.proofs.characters.fill.Given as goal

-- the sets so far have their characters
abbrev pub invariant-loop-set : goal.invariant-loop-set
invariant-loop-set l = record { characters : HasCharacters l.set l.characters; sets : length l.characters ≡ 4096 }
