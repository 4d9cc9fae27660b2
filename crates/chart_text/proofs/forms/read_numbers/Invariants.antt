-- The numbers so far, before those that are left, are the numbers of the tokens.
use Rattle.std.proofs.Common.{◌≡◌, length, drop}
use Rattle.chart_lines.specs.TokensWords.Texts.{texts}
use Rattle.chart_lines.specs.TokensWords.NumberReading.{numbers_of}
use Rattle.chart_text.proofs.Numbers.{led_by}
use Rattle.chart_text.proofs.forms.read_numbers.Given as goal

abbrev pub invariant-loop-token : goal.invariant-loop-token
invariant-loop-token l =
    (led_by l.numbers.items (numbers_of (texts (drop l.token-index l.tokens))) ≡ numbers_of (texts l.tokens))
    × (length l.numbers.items ≡ l.token-index)
