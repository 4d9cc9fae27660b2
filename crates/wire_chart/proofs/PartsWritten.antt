-- The lines of stops, jacks and wires, one kind after the other.
use Rattle.std.proofs.Common.{◌≡◌, ℕ, List, ◌++◌, refl, ap, ◌∙◌, subst, append_assoc}
use Rattle.std.specs.List.{flat_map}
use Rattle.hubs.specs.SetupsWords.Tapes.{CarriageTape, IsStopOf}
use Rattle.hubs.specs.SetupsWords.Wiring.{Wiring, HasJack, IsWireOf}
use Rattle.wire_chart.specs.Parts.{GainsParts}
use Rattle.wire_chart.specs.WrittenText.{ended, jack_line, parts_text, stop_line, wire_line}
use Rattle.wire_chart.specs.Writing.{GainsStops, GainsJacks, GainsAllWires}
use Rattle.wiring_text.specs.declared.statement.Version.{Version}

joined : (a b c d one two three : List ℕ) → one ≡ a ++ b → two ≡ one ++ c → three ≡ two ++ d → three ≡ a ++ (b ++ c ++ d)
joined a b c d one two three p q r = r ∙ ap (λ (l : List ℕ). l ++ d) (q ∙ ap (λ (l : List ℕ). l ++ c) p) ∙ again a b c d
  where
    again : (a b c d : List ℕ) → ((a ++ b) ++ c) ++ d ≡ a ++ (b ++ c ++ d)
    again a b c d = simp append_assoc

pub parts-written : (version : Version) (wiring : Wiring) (tape : CarriageTape) (old stopped plugged new : List ℕ)
    → tape ≡ wiring.tape → GainsStops (IsStopOf tape) old stopped → GainsJacks (HasJack wiring) stopped plugged
    → GainsAllWires version (IsWireOf wiring) plugged new → GainsParts version wiring old new
parts-written version wiring tape old stopped plugged new same its_stops jacks wires =
    let stops : GainsStops (IsStopOf wiring.tape) old stopped =
    subst (λ (f : CarriageTape). GainsStops (IsStopOf f) old stopped) same its_stops in
    record {
      parts = parts_text version stops.things jacks.things wires.things;
      are = record {
        stops = stops.things;
        jacks = jacks.things;
        wires = wires.things;
        all_stops = λ channel line. stops.all (channel, line);
        all_jacks = jacks.all;
        all_wires = λ exit entry. wires.all (exit, entry);
        stops_in_order = stops.in_order;
        jacks_in_order = jacks.in_order;
        wires_in_order = wires.in_order;
        spelled = refl;
      };
      gained = joined old (flat_map (λ stop. ended (stop_line stop)) stops.things)
          (flat_map (λ jack. ended (jack_line jack)) jacks.things)
          (flat_map (λ wire. ended (wire_line version wire)) wires.things) stopped plugged new stops.gained jacks.gained wires.gained;
    }
