-- The carriage, unit 44: the place on the form and the restore latch. It emits nothing and has no contacts. At the control
-- point of every cycle it senses what is asked for. At the end of every cycle it moves as the cycle wants, a printing
-- cycle then places its line, and a skip and a restore that were asked for follow.
use Rattle.std.specs.Prelude.{ℕ, Bool, true, Option, Some, None, if◌then◌else◌}
use Rattle.hubs.specs.SetupsWords.Tapes.{CarriageTape}
use Rattle.hubs.specs.SetupsWords.Wiring.{Wiring}
use Rattle.hubs.specs.declared.hub.Hub.{Hub}
use Rattle.net.specs.Printing.{printing_of, prints}
use Rattle.net.specs.declared.cycle.Cycle.{Cycle}
use Rattle.net.specs.declared.cycle.Cycle.TheVariants.{RunIn, Card, Prog, Head}
use Rattle.net.specs.declared.cycle.Ordinal.TheVariants.{First, Second, Third}
use Rattle.net.specs.declared.cycle.Point.{Point}
use Rattle.net.specs.declared.cycle.Point.TheVariants.{C, Row, K}
use Rattle.net.specs.declared.printing.Printing.{Printing}
use Rattle.carriage.specs.Asked.{nothing_asked, asked_by}
use Rattle.carriage.specs.declared.asked.Asked.{Asked}
use Rattle.carriage.specs.declared.spot.Spot.{Spot}
use Rattle.carriage.specs.Moves.{at_first_line, down_by, skipped, restored}

-- The carriage's state: the tape, the jacks that say which cycles print, where it stands, what was asked for in this
-- cycle, and the page and line at which the cycle that ended last placed its line, if it printed.
pub record CarriageState : Type 0 where
  pub form : CarriageTape
  pub printing : Printing
  pub spot : Spot
  pub asked : Asked
  pub printed : Option (ℕ × ℕ)

-- at the start it stands before the first page, with the latch set
abbrev pub carriage_at_start : Wiring → CarriageState
carriage_at_start wiring = record {
  form = wiring.tape;
  printing = printing_of wiring;
  spot = record { page = 0; line = 0; latch = true };
  asked = nothing_asked;
  printed = None;
}

-- at the control point it senses what is asked for, at the others nothing
abbrev pub carriage_sensed : CarriageState → Cycle → Point → (Hub → Bool) → CarriageState
carriage_sensed carriage cycle C picture = record carriage { asked = asked_by picture }
carriage_sensed carriage cycle (Row row) picture = carriage
carriage_sensed carriage cycle K picture = carriage

-- the first move at the end of a cycle: a printing cycle goes down by the lines asked for, another stays
abbrev pub spaced : CarriageTape → Bool → ℕ → Spot → Spot
spaced form printing lines spot = if printing then down_by form lines spot else spot

-- the first heading cycle begins a page in place of that, whether it prints or not
abbrev pub moved : CarriageTape → Cycle → Bool → ℕ → Spot → Spot
moved form RunIn printing lines spot = spaced form printing lines spot
moved form Card printing lines spot = spaced form printing lines spot
moved form (Prog level cycle) printing lines spot = spaced form printing lines spot
moved form (Head First) printing lines spot = at_first_line form spot
moved form (Head Second) printing lines spot = spaced form printing lines spot
moved form (Head Third) printing lines spot = spaced form printing lines spot

-- where a line is placed: a printing cycle places it where the first move ended
abbrev pub placed : Bool → Spot → Option (ℕ × ℕ)
placed printing spot = if printing then Some (spot.page, spot.line) else None

-- the end of a cycle from where the first move ended: the line is placed, then come the skip and the restore
abbrev pub ended_at : CarriageState → Bool → Spot → CarriageState
ended_at carriage printing spot = record {
  form = carriage.form;
  printing = carriage.printing;
  spot = restored carriage.asked.restore (skipped carriage.form carriage.asked.channel spot);
  asked = nothing_asked;
  printed = placed printing spot;
}

-- the end of a cycle
abbrev pub carriage_ended : CarriageState → Cycle → CarriageState
carriage_ended carriage cycle =
    ended_at carriage (prints carriage.printing cycle)
    (moved carriage.form cycle (prints carriage.printing cycle) carriage.asked.lines carriage.spot)

-- its number among the units
abbrev pub carriage_number : CarriageState → ℕ
carriage_number carriage = 44
