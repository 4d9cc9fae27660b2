use Rattle.std.proofs.Common.{take}
use Rattle.cli_decks.specs.DeckNotes.KeyReturns.Keys.{AreSetsOf, key_on}
use Rattle.cli_decks.proofs.deck_notes.key_returns.keys.key_on.Given as goal

-- the key on the fields so far
abbrev pub invariant-loop-field : goal.invariant-loop-field
invariant-loop-field l = AreSetsOf (key_on (take l.field-index l.fields) l.card) l.key.items
