use Rattle.cli_decks.proofs.FoldingWords.KeptLines.{lines_are_kept}
use Rattle.cli_decks.proofs.folding.laws.folded_texts_keep_lines.Goals as goal

pub returns : goal.returns
returns c = lines_are_kept
