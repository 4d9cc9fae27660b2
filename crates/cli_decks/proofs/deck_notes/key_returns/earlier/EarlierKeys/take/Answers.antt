use Rattle.std.proofs.Common.{◌∙◌}
use Rattle.cli_decks.proofs.DeckNotes.KeyReturns.Levels.{at_its_level}
use Rattle.cli_decks.proofs.deck_notes.key_returns.earlier.EarlierKeys.take.Goals as goal

pub returns-clause-stood : goal.returns-clause-stood
returns-clause-stood c = λ earlier are.
    let after = c.cut.ensures c.args.chart.now.lines earlier are in
    c.at_level.ensures
    ∙ at_its_level c.args.chart.now.lines earlier c.args.broken c.args.card.now _ _ _ c.requires (c.in_ok-minor.ensures.stood _ after.minor)
    (c.in_ok-intermediate.ensures.stood _ after.intermediate) (c.in_ok-major.ensures.stood _ after.major)

pub returns-clause-kept : goal.returns-clause-kept
returns-clause-kept c = λ earlier are.
    let after = c.cut.ensures c.args.chart.now.lines earlier are in
    record {
      minor = c.in_ok-minor.ensures.kept _ after.minor;
      intermediate = c.in_ok-intermediate.ensures.kept _ after.intermediate;
      major = c.in_ok-major.ensures.kept _ after.major;
    }
