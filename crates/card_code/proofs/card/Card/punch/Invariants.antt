use Rattle.std.proofs.Common.{◌*◌, ◌<◌}
use Rattle.card_code.proofs.Punches.{AreCharacters, HasJoined, HasPunched}
use Rattle.card_code.proofs.card.Card.punch.Given as goal

-- the eights so far are punched, and their sets joined
abbrev pub invariant-loop-eight : goal.invariant-loop-eight
invariant-loop-eight l = HasPunched (8 * l.eight) l.line l.self-inside.columns × HasJoined l.eight l.joined l.line

-- the bytes so far are punched
abbrev pub invariant-loop-place : goal.invariant-loop-place
invariant-loop-place l =
    HasPunched l.place l.line l.self-inside.columns × (l.joined_rest < 4096 → AreCharacters (8 * l.eights) l.place l.line)
