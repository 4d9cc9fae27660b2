-- The trace of the run that a text and a deck ask for, from the bytes of both.
use Rattle.std.specs.Prelude.{ℕ, List}
use Rattle.cli_commands.specs.PanelGuides.Panels.{IsRunOf}
use Rattle.hubs.specs.SetupsWords.Wiring.{Wiring}
use Rattle.explain_words.specs.TracesWords.Traces.{IsTrace}

-- A line for each cycle of the run of the machine over the cards of the deck, on the panel of the text.
pub record IsTraceOf (text deck trace : List ℕ) : Type 0 where
  pub wiring : Wiring
  pub cards : List (List ℕ)
  pub run : IsRunOf text deck cards wiring
  pub is_trace : IsTrace wiring cards trace
