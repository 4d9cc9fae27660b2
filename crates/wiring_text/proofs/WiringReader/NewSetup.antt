-- A setup of which nothing is said, and forms that a tape can have.
use Rattle.std.proofs.Common.{◌≡◌, ◌↔◌, ℕ, ◌&&◌, Bool, true, false, leb, [], Contains, refl, ap, ◌∙◌, arith}
use Rattle.std.proofs.lemmas.Bool.{and_parts, and_from, leb-true, le-leb}
use Rattle.hubs.specs.HubTable.Ranges.{is_within}
use Rattle.hubs.specs.SetupsWords.Tapes.{CarriageTape, IsFormed, has_stop}
use Rattle.hubs.specs.SetupsWords.Wiring.{Wiring, HasWire, is_plugged}
use Rattle.hubs.specs.declared.hub.Hub.{Hub}
use Rattle.hubs.specs.declared.jack.Jack.{Jack}
use Rattle.wiring_text.specs.WiringReader.TextReading.{Holds, is_formed, numbers_of_tape}
use Rattle.wiring_text.specs.declared.statement.FormNumbers.{FormNumbers}
use Rattle.wiring_text.specs.declared.statement.Statement.{Statement}

-- the numbers of a form that a tape can have
pub formed_is : (form : FormNumbers) → is_formed form ≡ true → IsFormed form.lines form.first form.overflow
formed_is form test =
    let p = and_parts (leb 3 form.lines && leb form.lines 144 && is_within form.first form.lines)
    (is_within form.overflow form.lines) test in
    let q = and_parts (leb 3 form.lines && leb form.lines 144) (is_within form.first form.lines) p.0 in
    let r = and_parts (leb 3 form.lines) (leb form.lines 144) q.0 in
    let first = and_parts (leb 1 form.first) (leb form.first form.lines) q.1 in
    let overflow = and_parts (leb 1 form.overflow) (leb form.overflow form.lines) p.1 in
    record {
      lines_from = leb-true 3 form.lines r.0;
      lines_to = leb-true form.lines 144 r.1;
      first_from = leb-true 1 form.first first.0;
      first_to = leb-true form.first form.lines first.1;
      overflow_from = leb-true 1 form.overflow overflow.0;
      overflow_to = leb-true form.overflow form.lines overflow.1;
    }

pub formed_read : (form : FormNumbers) → IsFormed form.lines form.first form.overflow → is_formed form ≡ true
formed_read form is =
    and_from _ _ (and_from _ _ (and_from _ _ (le-leb 3 form.lines is.lines_from) (le-leb form.lines 144 is.lines_to))
    (and_from _ _ (le-leb 1 form.first is.first_from) (le-leb form.first form.lines is.first_to)))
    (and_from _ _ (le-leb 1 form.overflow is.overflow_from) (le-leb form.overflow form.lines is.overflow_to))

-- nothing is said
none_said : (t : Statement) → Contains [] t → ⊥
none_said t has = absurd (omega (arith, has.1))

untrue : (b : Bool) (t : Statement) → b ≡ false → (b ≡ true) ↔ Contains [] t
untrue b t is = (λ e. clash e, λ has. absurd (none_said t has))
  where
    clash : b ≡ true → Contains [] t
    clash e = cc

-- a new setup
pub holds_nothing : (form : FormNumbers) (tape : CarriageTape) (wiring : Wiring) → numbers_of_tape tape ≡ form → is_formed form ≡ true
    → ((channel line : ℕ) → has_stop tape channel line ≡ false) → wiring.tape ≡ tape
    → ((exit entry : Hub) → HasWire wiring exit entry → ⊥) → ((j : Jack) → is_plugged wiring j ≡ false)
    → Holds (numbers_of_tape wiring.tape) [] wiring
holds_nothing form tape wiring made formed stops same wires jacks = record {
  formed = formed_is (numbers_of_tape wiring.tape) (ap is_formed (ap numbers_of_tape same ∙ made) ∙ formed);
  setup = record {
    lines = refl;
    first = refl;
    overflow = refl;
    stops = λ c l. untrue (has_stop wiring.tape c l) _ (ap (λ t. has_stop t c l) same ∙ stops c l);
    jacks = λ j. untrue (is_plugged wiring j) _ (jacks j);
    wires = λ exit entry. (λ h. absurd (wires exit entry h), λ has. absurd (none_said _ has));
  };
  fit = λ k d within. absurd (omega (arith, within));
  together = λ i j d before within. absurd (omega (arith, within));
}
