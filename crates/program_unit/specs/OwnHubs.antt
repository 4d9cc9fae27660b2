-- The program unit keeps to its own hubs.
use Rattle.std.proofs.Common.{◌≡◌, ap, refl, sym, Bool, true, Some, None, if◌then◌else◌}
use Rattle.hubs.specs.declared.hub.Hub.{Hub}
use Rattle.hubs.specs.declared.hub.Hub.TheVariants.{CC, HX, PX, ST}
use Rattle.net.proofs.Rows.{is_hub-same}
use Rattle.net.specs.Cycles.{level_number, ordinal_number}
use Rattle.net.specs.Panel.{owner_of, reader_of}
use Rattle.net.specs.declared.cycle.Cycle.{Cycle}
use Rattle.net.specs.declared.cycle.Cycle.TheVariants.{RunIn, Card, Prog, Head}
use Rattle.net.specs.declared.cycle.ProgramLevel.TheVariants.{Minor, Intermediate, Major}
use Rattle.net.specs.declared.cycle.Point.{Point}
use Rattle.net.specs.declared.cycle.Point.TheVariants.{C, Row, K}
use Rattle.program_unit.specs.Program.{ProgramState, program_emits, program_number, program_sensed, tells}
use Rattle.net.specs.Units.{KeepsToItsOwn}
use Rattle.program_unit.specs.Kinds.{program_kind}

tells-own : (cycle : Cycle) (hub : Hub) → tells cycle hub ≡ true → owner_of hub ≡ 45
tells-own RunIn hub on = cc
tells-own Card hub on = ap owner_of (sym (is_hub-same CC hub on))
tells-own (Prog level ordinal) hub on =
    ap owner_of (sym (is_hub-same (PX (level_number level) (ordinal_number ordinal)) hub on))
tells-own (Head heading) hub on = ap owner_of (sym (is_hub-same (HX (ordinal_number heading)) hub on))

program-emits : (program : ProgramState) (cycle : Cycle) (point : Point) (hub : Hub)
    → program_emits program cycle point hub ≡ true → owner_of hub ≡ 45
program-emits program cycle C hub on = tells-own cycle hub on
program-emits program cycle (Row row) hub on = cc
program-emits program cycle K hub on = cc

program-senses : (program : ProgramState) (cycle : Cycle) (point : Point) (one other : Hub → Bool)
    → ((hub : Hub) → reader_of hub ≡ 45 → one hub ≡ other hub)
    → program_sensed program cycle point one ≡ program_sensed program cycle point other
program-senses program Card K one other same =
    λ i. record program {
      highest =
          if same (ST 3) refl i
          then Some Major
          else if same (ST 2) refl i then Some Intermediate else if same (ST 1) refl i then Some Minor else None;
    }
program-senses program cycle point one other same = refl

number-kept : (program : ProgramState) (cycle : Cycle) (point : Point) (picture : Hub → Bool)
    → program_number (program_sensed program cycle point picture) ≡ program_number program
number-kept program cycle point picture = refl

pub program_keeps : KeepsToItsOwn program_kind
program_keeps = record {
  emits_own = program-emits;
  closes_own = λ state cycle point hub on. cc;
  senses_own = program-senses;
  keeps_number = number-kept;
  ends_with_number = λ state cycle. refl;
}
