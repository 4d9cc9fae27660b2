-- Which cards of a text were read so far.
use Rattle.std.specs.Prelude.{◌≡◌, ℕ, List, ◌++◌, Option, Some}
use Rattle.std.specs.List.{AllZip}
use Rattle.card_code.specs.Deck.{IsCardOf}
use Rattle.card_code.specs.Lines.{lines_of}
use Rattle.report_streams.specs.CardLines.Front.{IsPart}
use Rattle.report_streams.specs.declared.card_lines.fault.ReadFault.TheVariants as read
use Rattle.report_runs.specs.declared.fault.StreamCause.{StreamCause}
use Rattle.report_runs.specs.declared.fault.StreamCause.TheVariants as cause

-- These are the cards of the first lines of the text, and the rest of it is still to come.
pub record HasRead (text : List ℕ) (cards : List (List ℕ)) (rest : List ℕ) : Type 0 where
  pub front : List ℕ
  pub parts : text ≡ front ++ rest
  pub lines : List (List ℕ)
  pub cut : lines_of text ≡ lines ++ lines_of rest
  pub each : AllZip IsCardOf lines cards

-- Where a cause is met: the text is that of these cards, then the bytes that were read beyond them, then the bytes that the source has left.
-- Where a read failed, no whole line was read beyond them.
pub record HasReadUpTo (text : List ℕ) (cards : List (List ℕ)) (met : StreamCause) (left : Option (List ℕ)) : Type 0 where
  pub beyond : List ℕ
  pub rest : List ℕ
  pub is_left : left ≡ Some rest
  pub is_read : HasRead text cards (beyond ++ rest)
  pub part : (line : ℕ) → met ≡ cause.Card (read.Read line) → IsPart beyond
