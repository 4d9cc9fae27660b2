-- The entry of a fault was printed.
use Rattle.std.specs.Prelude.{◌≡◌, ℕ, List, Option, true}
use Rattle.std.specs.Io.KnownBytes.{Appends}
use Rattle.fault_lines.specs.FaultGuide.Numbered.{is_numbered}
use Rattle.fault_lines.specs.declared.fault_guide.table.FaultEntry.{FaultEntry}
use Rattle.fault_lines.specs.FaultGuide.GuideTexts.EntryText.{entry_text}

-- a fault has the number, and the text of an entry with that number is written after what was there
pub record PrintsEntry (number : ℕ) (old new : Option (List ℕ)) : Type 0 where
  pub numbered : is_numbered number ≡ true
  pub entry : FaultEntry
  pub its_own : entry.number ≡ number
  pub written : Appends old new (entry_text entry)
