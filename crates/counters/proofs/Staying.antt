-- Groups stay groups.
use Rattle.std.proofs.Common.{◌≡◌, ◌∙◌, refl, sym, ℕ, ◌+◌, ◌≤◌, ◌&&◌, ◌||◌, nat_le, Bool, true, false, List, [], ◌∷◌, All, length, arith, if◌then◌else◌}
use Rattle.std.proofs.lemmas.Bool.Decides.{nat_tests}
use Rattle.std.proofs.lemmas.List.{length-replicate}
use Rattle.std.proofs.lemmas.List.Elements.{All-cons, All-head, All-nil, All-tail, All-replicate}
use Rattle.card_code.specs.Rows.{row_number}
use Rattle.hubs.specs.HubTable.Places.{is_width}
use Rattle.hubs.specs.declared.hub.Hub.{Hub}
use Rattle.hubs.specs.declared.hub.Hub.TheVariants.{GE}
use Rattle.net.specs.declared.cycle.Cycle.{Cycle}
use Rattle.net.specs.declared.cycle.Point.{Point}
use Rattle.net.specs.declared.cycle.Point.TheVariants.{C, Row, K}
use Rattle.counters.specs.Counters.{Counter, counter_sensed, all_taken, takes, wheels_of, width_of}
use Rattle.counters.specs.Laws.{CountersStay, IsCounter, IsDigit}
use Rattle.counters.proofs.Carries.{length-turned}
use Rattle.counters.proofs.Cycles.{length-wheels_of}
use Rattle.counters.proofs.Steps.{taken-digit}
use Rattle.counters.proofs.Sums.{turned-digits}
use Rattle.counters.proofs.TakenRows.{length-all_taken}

-- what is taken are digits
all_taken-digits : (row : ℕ) (impulsed : ℕ → Bool) (entered : List ℕ) → row ≤ 9 → All IsDigit entered
    → All IsDigit (all_taken row impulsed entered)
all_taken-digits row impulsed [] small all = All-nil IsDigit
all_taken-digits row impulsed (e ∷ below) small all =
    All-cons IsDigit _ (all_taken row impulsed below)
    (taken-digit row (impulsed (length below + 1)) e small (All-head IsDigit e below all))
    (all_taken-digits row impulsed below small (All-tail IsDigit e below all))

-- rows that are taken are 9 to 1
row_of_takes : (on : Bool) (row : ℕ) → (on && (nat_le 1 row && nat_le row 9)) ≡ true → row ≤ 9
row_of_takes on row e = grind (arith, nat_tests, e)

entered-digits : (on : Bool) (row : ℕ) (impulsed : ℕ → Bool) (entered : List ℕ) → (on ≡ true → row ≤ 9) → All IsDigit entered
    → All IsDigit (if on then all_taken row impulsed entered else entered)
entered-digits true row impulsed entered small all = all_taken-digits row impulsed entered (small refl) all
entered-digits false row impulsed entered small all = all

entered-length : (on : Bool) (row : ℕ) (impulsed : ℕ → Bool) (entered : List ℕ)
    → length (if on then all_taken row impulsed entered else entered) ≡ length entered
entered-length true row impulsed entered = length-all_taken row impulsed entered
entered-length false row impulsed entered = refl

stays : (counter : Counter) (cycle : Cycle) (point : Point) (picture : Hub → Bool) → IsCounter counter
    → IsCounter (counter_sensed counter cycle point picture)
stays counter cycle C picture is = record {
  width = is.width;
  named = is.named;
  positions = is.positions;
  entries = is.entries;
  digits = is.digits;
  entered = is.entered;
}
stays counter cycle (Row row) picture is =
    let on = takes counter.controls (row_number row) in
    let impulsed = λ (position : ℕ). picture (GE counter.name position) in
    record {
      width = is.width;
      named = is.named;
      positions = is.positions;
      entries = entered-length on (row_number row) impulsed counter.entered ∙ is.entries;
      digits = is.digits;
      entered =
          entered-digits on (row_number row) impulsed counter.entered
          (row_of_takes (counter.controls.plus || counter.controls.minus) (row_number row)) is.entered;
    }
stays counter cycle K picture is = record {
  width = is.width;
  named = is.named;
  positions = is.positions;
  entries = is.entries;
  digits = is.digits;
  entered = is.entered;
}

begins : (unit : ℕ) → 3 ≤ unit → unit ≤ 34 → is_width (width_of unit) ≡ true
begins unit from to = grind (arith, nat_tests)

-- a group begins as one, and stays one
pub counters-stay : CountersStay
counters-stay = record {
  start = λ unit from to. record {
    width = begins unit from to;
    named = grind (arith, nat_tests);
    positions = length-replicate (width_of unit) 0;
    entries = length-replicate (width_of unit) 0;
    digits = All-replicate IsDigit (width_of unit) 0 (omega arith);
    entered = All-replicate IsDigit (width_of unit) 0 (omega arith);
  };
  sensed = stays;
  ended = λ counter cycle is.
      let controls = counter.controls in
      let wheels = wheels_of controls counter.digits counter.entered in
      record {
        width = is.width;
        named = is.named;
        positions =
            length-turned wheels counter.carry
            ∙ length-wheels_of controls counter.digits counter.entered (is.positions ∙ sym is.entries) ∙ is.positions;
        entries = length-replicate counter.name.width 0;
        digits = turned-digits wheels counter.carry;
        entered = All-replicate IsDigit counter.name.width 0 (omega arith);
      };
}
