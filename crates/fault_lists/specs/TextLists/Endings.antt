-- What is listed of a wiring chart or a planning chart, and what is told. What is written is known where the writer tells what it holds.
use Rattle.std.specs.Prelude.{◌≡◌, ℕ, List, ◌∷◌, Option, ◌⊎◌, true, false, codes}
use Rattle.std.specs.Io.KnownBytes.{Appends}
use Rattle.fault_lists.specs.Endings.{AnswersOk, EndsListing, IsBrokenOff}
use Rattle.fault_lines.specs.FaultsWords.ToldFaults.{wiring_told}
use Rattle.fault_lines.specs.declared.faults.fault.Fault.{Fault}
use Rattle.cli_commands.specs.PanelGuides.Panels.{is_wiring_text}
use Rattle.hubs.specs.SetupsWords.Wiring.{Wiring}
use Rattle.fault_wiring_words.specs.Entries.{wiring_list}
use Rattle.fault_wiring_slips.specs.Faulty.{AreFaults}
use Rattle.wiring_text.specs.WiringFaults.{HasWiringFault}
use Rattle.wiring_text.specs.WiringText.{ReadsAs}
use Rattle.wiring_text.specs.declared.fault.WiringFault.{WiringFault}

-- the text is a wiring chart, and `ok` was written after what was there
pub record AnswersWired (text : List ℕ) (old new : Option (List ℕ)) : Type 0 where
  pub wiring : Wiring
  pub reads : ReadsAs text wiring
  pub written : Appends old new (codes "ok\n")

-- The faults of the text are listed. The first of them is the one that the reader tells, and it is told.
pub record ListsWiring (text : List ℕ) (old new : Option (List ℕ)) (fault : Fault) : Type 0 where
  pub first : WiringFault
  pub others : List WiringFault
  pub good : List ℕ
  pub are : AreFaults 500 text (first ∷ others) good
  pub at_fault : HasWiringFault text first
  pub is_told : fault ≡ wiring_told first
  pub written : Appends old new (wiring_list text good (first ∷ others))

-- the answer is not `ok`: the text is at fault, memory was wanting or the output can't be written
abbrev pub EndsWiring : (text : List ℕ) (old new : Option (List ℕ)) → Fault → Type 0
EndsWiring text old new fault = ListsWiring text old new fault ⊎ IsBrokenOff fault

-- what is answered of a text without fault, by its first line
pub data AnswersText (text : List ℕ) (old new : Option (List ℕ)) : Type 0 where
  wired : is_wiring_text text ≡ true → AnswersWired text old new → AnswersText text old new
  planned : is_wiring_text text ≡ false → AnswersOk text old new → AnswersText text old new

-- what is listed of any other
pub data EndsText (text : List ℕ) (old new : Option (List ℕ)) (fault : Fault) : Type 0 where
  wired : is_wiring_text text ≡ true → EndsWiring text old new fault → EndsText text old new fault
  planned : is_wiring_text text ≡ false → EndsListing text old new fault → EndsText text old new fault

-- the faults of a text were listed and the first is told, or the list broke off
abbrev pub ListsFaults : List ℕ → List ℕ → List WiringFault → WiringFault → (old new : Option (List ℕ)) → Fault → Type 0
ListsFaults text good faults first old new fault =
    IsBrokenOff fault ⊎ ((fault ≡ wiring_told first) × Appends old new (wiring_list text good faults))
