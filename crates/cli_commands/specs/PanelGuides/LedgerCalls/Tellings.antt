-- What is told of a wheel of a line that the run of a text and a deck prints, from the bytes of both.
use Rattle.std.specs.Prelude.{ℕ, List}
use Rattle.cli_commands.specs.PanelGuides.LedgerCalls.Explained.{IsExplainedWithBasis}
use Rattle.cli_commands.specs.PanelGuides.LedgerCalls.Ledgers.{IsLedgerText, ends_told}
use Rattle.cli_commands.specs.declared.panel_guides.ledger_calls.telling.Question.{Question}
use Rattle.cli_commands.specs.declared.panel_guides.ledger_calls.telling.Question.TheVariants.{Ledger, Explanation}
use Rattle.cli_commands.specs.declared.panel_guides.place.Place.{Place}

-- the text is what is asked for: the ledger of the figure on the wheel, or its explanation with all that it is printed of
abbrev pub TellsWheel : Question → (text deck : List ℕ) → Place → List ℕ → Type 0
TellsWheel (Ledger all) text deck place answer = IsLedgerText text deck (ends_told all) place answer
TellsWheel (Explanation whole) text deck place answer = IsExplainedWithBasis text deck whole place answer
