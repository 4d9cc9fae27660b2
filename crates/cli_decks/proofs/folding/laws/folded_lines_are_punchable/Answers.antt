use Rattle.cli_decks.proofs.FoldingWords.Punched.{folded_is_punchable}
use Rattle.cli_decks.proofs.folding.laws.folded_lines_are_punchable.Goals as goal

pub returns : goal.returns
returns c = λ fill line. folded_is_punchable fill 0 line
