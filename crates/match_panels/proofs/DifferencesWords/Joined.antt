-- A difference put together from its tape, its jacks and its wires.
use Rattle.std.proofs.Common.{◌≡◌, ◌↔◌, ◌∙◌, Result, Ok, Err, false, true≢false, IsTrue, sym, ap}
use Rattle.std.specs.Result.{OnOk}
use Rattle.hubs.specs.declared.hub.Hub.{Hub}
use Rattle.hubs.specs.declared.jack.Jack.{Jack}
use Rattle.wiring_lines.specs.JacksAndTape.HelperJacks.{Plugs}
use Rattle.wiring_lines.specs.LineWires.HelperAdds.{Adds}
use Rattle.hubs.specs.SetupsWords.Tapes.{CarriageTape, has_stop}
use Rattle.hubs.specs.SetupsWords.Wiring.{HasWire, Wiring, is_plugged}
use Rattle.wire_gen.proofs.Whole.{all-there}
use Rattle.match_panels.specs.DifferencesWords.Differences.{IsDifference, LacksJack, LacksWire}
use Rattle.match_panels.specs.DifferencesWords.Helper.{IsTapeDifference}

-- what follows where a call gave no error
pub on_ok : {T E : Type 0} (r : Result T E) (P Q : Type 0) → (P → Q) → OnOk r P → OnOk r Q
on_ok (Ok x) P Q f p = f p
on_ok (Err e) P Q f p = tt

-- a test that fails tells that it isn't so
pub not_there : {P : Type 0} → IsTrue false ↔ P → P → ⊥
not_there tells p = true≢false (sym (tells.1 p))

pub joined : (one other fresh mid left : Wiring) (tape : CarriageTape) → ((exit entry : Hub) → ¬ HasWire fresh exit entry)
    → ((jack : Jack) → is_plugged fresh jack ≡ false) → fresh.tape ≡ tape → IsTapeDifference one.tape other.tape tape
    → Plugs (LacksJack one other) fresh mid → Adds (LacksWire one other) mid left → IsDifference one other left
joined one other fresh mid left tape no_wires no_jacks taped is plugs adds =
    let same : left.tape ≡ tape = adds.tape ∙ plugs.tape ∙ taped in
    let there = all-there no_wires no_jacks plugs adds in
    record {
      wires = there.0;
      jacks = there.1;
      stops = λ c l. (
        λ has. let hole = (is.stops c l).0 (sym (ap (λ t. has_stop t c l) same) ∙ has) in
            record { there = hole.there; lacking = hole.lacking },
        λ lacks. ap (λ t. has_stop t c l) same ∙ (is.stops c l).1 (record { there = lacks.there; lacking = lacks.lacking }),
      );
      lines = ap (λ (t : CarriageTape). t.lines) same ∙ is.lines;
      first = ap (λ (t : CarriageTape). t.first) same ∙ is.first;
      overflow = ap (λ (t : CarriageTape). t.overflow) same ∙ is.overflow;
    }
