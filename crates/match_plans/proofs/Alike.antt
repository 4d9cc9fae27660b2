-- What the wires that name parts tell of a setup, they tell of one that has the same of them.
use Rattle.std.proofs.Common.{ℕ, List, Option, Some, None, IfNone, IfSome}
use Rattle.chart_lines.specs.declared.charts.chart.Line.{Line}
use Rattle.chart_lines.specs.declared.charts.statement.SignRule.{SignRule}
use Rattle.capacity.specs.declared.group.CounterGroup.{CounterGroup}
use Rattle.match_plans.specs.ComparedColumns.{IsCompared}
use Rattle.match_plans.specs.NamingWires.{AreNamedAlike, ShowsPartsOf}
use Rattle.match_plans.specs.NamingWires.{NamesPart as names}
use Rattle.match_plans.specs.PilotWires.{LeadsToTotal}
use Rattle.match_plans.specs.Shown.{CarriesTo, IsShown, ShowsText, ShowsUnits, units_group}
use Rattle.match_plans.specs.WheelParts.{AreLed, LeadsTo, exit_of}
use Rattle.match_plans.specs.Wired.{IsWiredBy}
use Rattle.match_plans.specs.declared.wheel_parts.WheelPart.{WheelPart}
use Rattle.match_plans.specs.declared.wheel_parts.WheelPart.TheVariants as by
use Rattle.chart_lines.specs.ChartsWords.Levels.{control_number}
use Rattle.hubs.specs.declared.hub.Hub.TheVariants.{W}
use Rattle.chart_plans.specs.PlansWords.Plans.{Lists}
use Rattle.chart_plans.specs.declared.plans.counter.TotalCounter.{TotalCounter}
use Rattle.chart_plans.specs.declared.plans.counter.TotalCounter.TheVariants as of
use Rattle.hubs.specs.SetupsWords.Wiring.{HasWire, Wiring}
use Rattle.wiring_table.specs.Parts.{panel_group}

-- what follows from what is found, and from what is not found
pub if-some : {X : Type 0} (P Q : X → Type 0) → ((x : X) → P x → Q x) → (o : Option X) → IfSome o P → IfSome o Q
if-some P Q follows (Some x) is = follows x is
if-some P Q follows None is = tt

pub if-none : {X : Type 0} (P Q : Type 0) → (P → Q) → (o : Option X) → IfNone o P → IfNone o Q
if-none P Q follows (Some x) is = tt
if-none P Q follows None is = follows is

-- a setup that is wired for a chart shows its own parts
pub own-parts : (lines : List Line) (setup : Wiring) (its : Lists) → IsWiredBy lines setup its → ShowsPartsOf lines setup setup its
own-parts lines setup its wired = record { wired = wired; alike = λ exit entry is. ((λ there. there), (λ there. there)) }

-- what is alike from one setup to the other is so the other way
pub back : {setup other : Wiring} → AreNamedAlike setup other → AreNamedAlike other setup
back alike exit entry is = ((alike exit entry is).1, (alike exit entry is).0)

module _ {setup other : Wiring} (alike : AreNamedAlike setup other) where
  shows-units : (level wheel : ℕ) (group : CounterGroup) → ShowsUnits setup level wheel group → ShowsUnits other level wheel group
  shows-units level wheel group shows = record {
    read_out = (alike _ _ (names.group_read_out level (panel_group group))).0 shows.read_out;
    units = (alike _ _ (names.units (panel_group group) wheel)).0 shows.units;
  }

  carries-to : (lower upper : CounterGroup) → CarriesTo setup lower upper → CarriesTo other lower upper
  carries-to lower upper carries = record {
    apart = carries.apart;
    carry = (alike _ _ (names.carry (panel_group lower) (panel_group upper))).0 carries.carry;
  }

  -- a counter that shows a total
  pub is-shown : (level wheel need : ℕ) (counter : TotalCounter) → IsShown setup level wheel need counter → IsShown other level wheel need counter
  is-shown level wheel need (of.Single group) (narrow, there, shows) = (narrow, there, shows-units level wheel group shows)
  is-shown level wheel need (of.Coupled lower upper) (wide, low_there, high_there, shows, carries) = (
    wide,
    low_there,
    high_there,
    shows-units level wheel lower shows,
    carries-to lower upper carries,
  )

  -- a storage unit that shows a text
  pub shows-text : (level wheel unit : ℕ) → ShowsText setup level wheel unit → ShowsText other level wheel unit
  shows-text level wheel unit shows = record {
    given = (alike _ _ (names.unit_read_out level unit)).0 shows.given;
    first = (alike _ _ (names.first_column unit wheel)).0 shows.first;
  }

  -- a position that compares a column
  pub is-compared : (column level position : ℕ) → IsCompared setup column level position → IsCompared other column level position
  is-compared column level position is = record {
    leads = (alike _ _ (names.compared column position)).0 is.leads;
    calls = (alike _ _ (names.called position level)).0 is.calls;
  }

  -- a part that leads to a wheel
  pub leads-to : (part : WheelPart) (number wheel : ℕ) → HasWire setup (exit_of part number) (W wheel) → HasWire other (exit_of part number) (W wheel)
  leads-to by.Split number wheel leads = (alike _ _ (names.split_digit number wheel)).0 leads
  leads-to (by.Indicated level) number wheel leads = (alike _ _ (names.indicated (control_number level) number wheel)).0 leads

  -- a pilot that leads to the counter of a total
  pub leads-to-total : (lines : List Line) (plan : Lists) (rule : SignRule) (pilot number : ℕ) → LeadsToTotal lines plan setup rule pilot number
      → LeadsToTotal lines plan other rule pilot number
  leads-to-total lines plan rule pilot number leads = record {
    counter = leads.counter;
    served = leads.served;
    leads = (alike _ _ (names.subtracting rule pilot (panel_group (units_group leads.counter)))).0 leads.leads;
  }

-- parts that lead to wheels
pub are-led : {setup other : Wiring} → AreNamedAlike setup other → (part : WheelPart) (last : ℕ) (wheels numbers : List ℕ)
    → AreLed setup part last wheels numbers → AreLed other part last wheels numbers
are-led {setup} {other} alike part last wheels numbers led = record {
  many = led.many;
  each = λ place wheel number at given. one wheel number (led.each place wheel number at given);
}
  where
    one : (wheel number : ℕ) → LeadsTo setup part last wheel number → LeadsTo other part last wheel number
    one wheel number leads = record {
      from = leads.from;
      to = leads.to;
      leads = leads-to alike part number wheel leads.leads;
      only = λ its from to there. leads.only its from to (leads-to (back alike) part its wheel there);
    }
