-- Laws of wiring charts: a setup has one text in each version, that text reads as the setup, and a text reads as one setup at most.
use Rattle.std.specs.Prelude.{◌≡◌, ℕ, List}
use Rattle.hubs.specs.SetupsWords.Tapes.{IsCarriageTape}
use Rattle.hubs.specs.SetupsWords.Wiring.{IsSameSetup, Wiring, IsLawfulWiring}
use Rattle.wiring_text.specs.WiringText.{ReadsAs}
use Rattle.wiring_text.specs.WiringFaults.{HasWiringFault}
use Rattle.wire_chart.specs.WrittenText.{IsWritten, IsWrittenIn}
use Rattle.wiring_text.specs.declared.fault.WiringFault.{WiringFault}
use Rattle.wiring_text.specs.declared.statement.Version.{Version}

-- what every setup is: wires that the panel can have, and a form that a tape can have
pub record IsSetup (wiring : Wiring) : Type 0 where
  pub wires : IsLawfulWiring wiring
  pub form : IsCarriageTape wiring.tape

-- What is written of a setup, in either version, reads as that setup.
abbrev pub WrittenTextsReadBack : Type 0
WrittenTextsReadBack =
    (version : Version) (wiring : Wiring) (text : List ℕ) → IsSetup wiring → IsWrittenIn version wiring text → ReadsAs text wiring

-- A text reads as one setup at most.
abbrev pub TextsReadAsOneSetup : Type 0
TextsReadAsOneSetup = (text : List ℕ) (one other : Wiring) → ReadsAs text one → ReadsAs text other → IsSameSetup one other

-- The same setups have one text.
abbrev pub SetupsHaveOneText : Type 0
SetupsHaveOneText =
    (one other : Wiring) (text words : List ℕ) → IsSameSetup one other → IsWritten one text → IsWritten other words → text ≡ words

-- So they have in each version.
abbrev pub SetupsHaveOneTextIn : Type 0
SetupsHaveOneTextIn =
    (version : Version) (one other : Wiring) (text words : List ℕ) → IsSameSetup one other → IsWrittenIn version one text
    → IsWrittenIn version other words → text ≡ words

-- A text that reads as a setup has no fault, and a text has one fault at most.
abbrev pub ReadTextsHaveNoFault : Type 0
ReadTextsHaveNoFault = (text : List ℕ) (wiring : Wiring) (fault : WiringFault) → ReadsAs text wiring → ¬ HasWiringFault text fault

abbrev pub TextsHaveOneFault : Type 0
TextsHaveOneFault = (text : List ℕ) (one other : WiringFault) → HasWiringFault text one → HasWiringFault text other → one ≡ other
