-- Lines that name a fault which has an entry.
use Rattle.std.specs.Prelude.{◌≡◌, ℕ, List, ◌++◌, true, codes, decimal}
use Rattle.fault_lines.specs.FaultGuide.Numbered.{is_numbered}

-- the line of a fault: it begins with the word and the number of a fault that has an entry
pub record NamesAFault (line : List ℕ) : Type 0 where
  pub number : ℕ
  pub has_entry : is_numbered number ≡ true
  pub behind : List ℕ
  pub is_line : line ≡ codes "fault " ++ decimal number ++ behind
