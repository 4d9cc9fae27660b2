-- The emitters and the print wheels keep to their own hubs.
use Rattle.std.proofs.Common.{◌≡◌, ap, refl, sym, ℕ, ◌+◌, Bool, true, List, [], ◌∷◌, Option, Some, None}
use Rattle.card_code.specs.Rows.{row_number}
use Rattle.card_code.specs.declared.row.Row.{Row as CardRow}
use Rattle.hubs.specs.declared.hub.Hub.{Hub}
use Rattle.hubs.specs.declared.hub.Hub.TheVariants.{EM, W}
use Rattle.net.proofs.Rows.{is_hub-same}
use Rattle.net.specs.Cycles.{emitter_of}
use Rattle.net.specs.Panel.{owner_of, reader_of}
use Rattle.net.specs.declared.cycle.Cycle.{Cycle}
use Rattle.net.specs.declared.cycle.Point.{Point}
use Rattle.net.specs.declared.cycle.Point.TheVariants.{C, Row, K}
use Rattle.print_unit.specs.Emitters.{emits_row, emitters_emit}
use Rattle.print_unit.specs.Wheels.{WheelsState, collected, wheel_sensed, wheels_sensed}
use Rattle.print_unit.specs.ZeroControl.{Wheel}
use Rattle.print_unit.specs.declared.emitters.Emitters.{Emitters}
use Rattle.net.specs.Units.{KeepsToItsOwn}
use Rattle.print_unit.specs.Kinds.{emitters_kind, wheels_kind}

row-own : (emitter : Option ℕ) (row : CardRow) (hub : Hub) → emits_row emitter row hub ≡ true → owner_of hub ≡ 42
row-own None row hub on = cc
row-own (Some emitter) row hub on = ap owner_of (sym (is_hub-same (EM emitter (row_number row)) hub on))

emitters-emit : (emitters : Emitters) (cycle : Cycle) (point : Point) (hub : Hub)
    → emitters_emit emitters cycle point hub ≡ true → owner_of hub ≡ 42
emitters-emit emitters cycle C hub on = cc
emitters-emit emitters cycle (Row row) hub on = row-own (emitter_of cycle) row hub on
emitters-emit emitters cycle K hub on = cc

pub emitters_keep : KeepsToItsOwn emitters_kind
emitters_keep = record {
  emits_own = emitters-emit;
  closes_own = λ state cycle point hub on. cc;
  senses_own = λ state cycle point one other same. refl;
  keeps_number = λ state cycle point picture. refl;
  ends_with_number = λ state cycle. refl;
}

collected-same : (wheels : List Wheel) (v : ℕ) (row : CardRow) (one other : Hub → Bool)
    → ((hub : Hub) → reader_of hub ≡ 43 → one hub ≡ other hub)
    → collected v row one wheels ≡ collected v row other wheels
collected-same [] v row one other same = refl
collected-same (wheel ∷ wheels) v row one other same =
    let others = collected-same wheels (v + 1) row one other same in
    λ i. wheel_sensed row (same (W v) refl i) wheel ∷ others i

wheels-sense : (wheels : WheelsState) (cycle : Cycle) (point : Point) (one other : Hub → Bool)
    → ((hub : Hub) → reader_of hub ≡ 43 → one hub ≡ other hub)
    → wheels_sensed wheels cycle point one ≡ wheels_sensed wheels cycle point other
wheels-sense wheels cycle C one other same = refl
wheels-sense wheels cycle (Row row) one other same =
    ap (λ (collected : List Wheel). record wheels { wheels = collected }) (collected-same wheels.wheels 1 row one other same)
wheels-sense wheels cycle K one other same = refl

pub wheels_keep : KeepsToItsOwn wheels_kind
wheels_keep = record {
  emits_own = λ state cycle point hub on. cc;
  closes_own = λ state cycle point hub on. cc;
  senses_own = wheels-sense;
  keeps_number = λ state cycle point picture. refl;
  ends_with_number = λ state cycle. refl;
}
