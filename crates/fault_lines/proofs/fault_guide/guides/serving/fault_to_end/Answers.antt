use Rattle.std.proofs.Common.{◌≡◌, ◌⊎◌, inl, inr, arith, refl, ℕ, List, Option, true}
use Rattle.fault_lines.specs.FaultGuide.GuideTexts.EntryText.{entry_text}
use Rattle.fault_lines.specs.FaultGuide.GuideTexts.Printed.{PrintsEntry}
use Rattle.fault_lines.specs.FaultGuide.Numbered.{is_numbered}
use Rattle.fault_lines.specs.declared.fault_guide.table.FaultEntry.{FaultEntry}
use Rattle.fault_lines.proofs.ProgramIo.Fronting.{front_of_bytes}
use Rattle.fault_lines.specs.ProgramIo.Fronts.{AppendsFront, WritesFront}
use Rattle.fault_lines.proofs.fault_guide.guides.serving.fault_to_end.Goals as goal

pub returns-in_default-clause-done : goal.returns-in_default-clause-done
returns-in_default-clause-done g c = λ none. absurd (omega (arith, none, c.tell_unknown.ensures.status))

pub returns-in_default-clause-unknown : goal.returns-in_default-clause-unknown
returns-in_default-clause-unknown g c = λ no. (c.tell_unknown.ensures.status, refl, c.tell_unknown.ensures.line)

pub returns-in_default-clause-output : goal.returns-in_default-clause-output
returns-in_default-clause-output g c = λ four. absurd (omega (arith, four, c.tell_unknown.ensures.status))

pub returns-in_default-clause-memory : goal.returns-in_default-clause-memory
returns-in_default-clause-memory g c = λ five. absurd (omega (arith, five, c.tell_unknown.ensures.status))

pub returns-in-Ok-clause-mistaken : goal.returns-in-Ok-clause-mistaken
returns-in-Ok-clause-mistaken g c = λ two. absurd (omega (arith, two))

pub returns-in-Ok-clause-output : goal.returns-in-Ok-clause-output
returns-in-Ok-clause-output g c = λ four. absurd (omega (arith, four))

pub returns-in-Ok-clause-memory : goal.returns-in-Ok-clause-memory
returns-in-Ok-clause-memory g c = λ five. absurd (omega (arith, five))

-- what is written of an entry's text is written of the entry
front_of_entry : {Nothing : Type 0} {old new : Option (List ℕ)} (number : ℕ) (entry : FaultEntry) → is_numbered number ≡ true
    → entry.number ≡ number → Nothing ⊎ AppendsFront old new (entry_text entry) → Nothing ⊎ WritesFront (PrintsEntry number) old new
front_of_entry number entry numbered its_own (inl none) = inl none
front_of_entry number entry numbered its_own (inr front) =
    inr (front_of_bytes (entry_text entry)
    (λ after written. record { numbered = numbered; entry = entry; its_own = its_own; written = written }) front)

pub returns-in-Ok-clause-front : goal.returns-in-Ok-clause-front
returns-in-Ok-clause-front g c =
    front_of_entry c.args.number c.in-Some.entry (c.in-Some.ensures.there.0 refl) c.in-Some.ensures.its_own c.in-Ok.ensures.front

pub returns-in-Err-clause-front : goal.returns-in-Err-clause-front
returns-in-Err-clause-front g c =
    front_of_entry c.args.number c.in-Some.entry (c.in-Some.ensures.there.0 refl) c.in-Some.ensures.its_own c.in-Err.ensures.front
