-- The parts of a text make the whole.
use Rattle.std.proofs.Common.{◌≡◌, ℕ, List, ◌++◌, ap, ◌∙◌, append_assoc, codes}
use Rattle.hubs.specs.SetupsWords.Tapes.{CarriageTape, IsStopOf}
use Rattle.hubs.specs.SetupsWords.Wiring.{Wiring, HasJack, IsWireOf}
use Rattle.wire_chart.proofs.PartsWritten.{parts-written}
use Rattle.wire_chart.specs.Parts.{GainsParts}
use Rattle.wire_chart.specs.WrittenText.{IsWrittenIn, title_line, ended, form_line}
use Rattle.wire_chart.specs.Writing.{GainsStops, GainsJacks, GainsAllWires}
use Rattle.wiring_text.specs.declared.statement.Version.{Version}

joined : (a b c d one two three : List ℕ) → one ≡ a ++ b → two ≡ one ++ c → three ≡ two ++ d → three ≡ a ++ b ++ c ++ d
joined a b c d one two three p q r = r ∙ ap (λ (l : List ℕ). l ++ d) (q ∙ ap (λ (l : List ℕ). l ++ c) p) ∙ again a b c d
  where
    again : (a b c d : List ℕ) → ((a ++ b) ++ c) ++ d ≡ a ++ b ++ c ++ d
    again a b c d = simp append_assoc

pub written : (version : Version) (wiring : Wiring) (one other : CarriageTape) (begun formed stopped plugged wired text : List ℕ)
    → one ≡ wiring.tape → other ≡ wiring.tape
    → begun ≡ ended (title_line version)
    → formed ≡ begun ++ ended (form_line one)
    → GainsStops (IsStopOf other) formed stopped
    → GainsJacks (HasJack wiring) stopped plugged
    → GainsAllWires version (IsWireOf wiring) plugged wired
    → text ≡ wired ++ ended (codes "END")
    → IsWrittenIn version wiring text
written version wiring one other begun formed stopped plugged wired text same also first second stops jacks wires last =
    let gains : GainsParts version wiring formed wired =
    parts-written version wiring other formed stopped plugged wired also stops jacks wires in
    record {
      parts = gains.parts;
      are = gains.are;
      spelled = joined (ended (title_line version)) (ended (form_line wiring.tape)) gains.parts (ended (codes "END")) formed wired text
          (second ∙ ap (λ (l : List ℕ). l ++ ended (form_line one)) first
          ∙ ap (λ (f : CarriageTape). ended (title_line version) ++ ended (form_line f)) same)
          gains.gained last;
    }
