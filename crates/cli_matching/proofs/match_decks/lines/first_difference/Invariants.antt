use Rattle.std.proofs.Common.{take, ◌≡◌}
use Rattle.cli_matching.proofs.match_decks.lines.first_difference.Given as goal

abbrev pub invariant-loop-place : goal.invariant-loop-place
invariant-loop-place l = take l.place l.one ≡ take l.place l.other
