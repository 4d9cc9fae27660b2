use Rattle.std.proofs.Common.{◌≡◌, length, map, take}
use Rattle.std.specs.List.{range_with_len}
use Rattle.explain_words.specs.TracesWords.TracedUnits.{column_character}
use Rattle.explain_words.proofs.traces.storage.characters_held.Given as goal

-- the columns so far are read
abbrev pub invariant-loop-place : goal.invariant-loop-place
invariant-loop-place l =
    (take l.place l.characters ≡ map (column_character l.storage) (range_with_len 1 l.place)) × (length l.characters ≡ 16)
