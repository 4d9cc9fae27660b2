-- Reads until a whole line, one that is surely too long, or the end is held.
use Rattle.std.proofs.Common.{◌≡◌, ℕ, ◌+◌, ◌-◌, ◌≤◌, ◌⊎◌, inl, inr, true, false, Bool, List, Option, length, arith}
use Rattle.std.specs.Io.KnownBytes.{IsAtEnd, Keeps}
use Rattle.report_streams.specs.CardLines.Front.{IsPart}
use Rattle.report_streams.specs.CardLines.Reading.{Reading, still_to_come, IsSettled}

-- How a reading goes on while it is filled: the text stays, each read but the last brings a byte, and nothing is read where a line was held.
pub record IsFilling {S : Type 0} (left : S → Option (List ℕ)) (reads borrow : S → ℕ) (failed : S → Bool) (old now : Reading S) : Type 0 where
  pub text : Keeps (still_to_come left old) (still_to_come left now)
  pub given : now.given ≡ old.given
  pub has_failed : now.has_failed ≡ old.has_failed
  pub few : now.at_end ≡ false → reads now.source + (82 - length now.held) ≤ reads old.source + 82
  pub most : reads now.source ≤ reads old.source + 82
  pub bounded : now.given ≤ 999999
  pub end : now.at_end ≡ true → IsAtEnd (left now.source)
  pub same : borrow now.source ≡ borrow old.source
  pub well : failed now.source ≡ failed old.source
  pub begun : (now ≡ old) ⊎ ((IsSettled old.held → ⊥) × (old.at_end ≡ false))

-- a part of a line is no whole line and none that is too long
pub unsettled : (held : List ℕ) → IsPart held → IsSettled held → ⊥
unsettled held part (inl line) = part.unended (line.0) (line.1.within) (line.1.found)
unsettled held part (inr long) =
    let full : length held ≡ 81 = omega (arith, part.short, long.long) in
    long.no_cr full (part.cr full)
