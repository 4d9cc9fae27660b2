-- Which cycles print. A card cycle prints where the jack LIST is plugged, the third program cycle of a level where TOTAL
-- of the level is, and a heading cycle where HEAD of its number is. No other cycle prints.
use Rattle.std.specs.Prelude.{Bool, false}
use Rattle.hubs.specs.SetupsWords.Wiring.{Wiring, is_plugged}
use Rattle.hubs.specs.declared.jack.Jack.TheVariants as jack
use Rattle.net.specs.declared.cycle.Cycle.{Cycle}
use Rattle.net.specs.declared.cycle.Cycle.TheVariants.{RunIn, Card, Prog, Head}
use Rattle.net.specs.declared.cycle.ProgramLevel.{ProgramLevel}
use Rattle.net.specs.declared.cycle.ProgramLevel.TheVariants.{Minor, Intermediate, Major, Final}
use Rattle.net.specs.declared.cycle.Ordinal.{Ordinal}
use Rattle.net.specs.declared.cycle.Ordinal.TheVariants.{First, Second, Third}
use Rattle.net.specs.declared.printing.Printing.{Printing}

-- the jacks that say which cycles print, as a setup has them plugged
abbrev pub printing_of : Wiring → Printing
printing_of wiring = record {
  cards = is_plugged wiring jack.List;
  minor_totals = is_plugged wiring (jack.Total 1);
  intermediate_totals = is_plugged wiring (jack.Total 2);
  major_totals = is_plugged wiring (jack.Total 3);
  final_totals = is_plugged wiring (jack.Total 4);
  first_heading = is_plugged wiring (jack.Head 1);
  second_heading = is_plugged wiring (jack.Head 2);
  third_heading = is_plugged wiring (jack.Head 3);
}

-- whether the totals of a level are printed
abbrev pub prints_total : Printing → ProgramLevel → Bool
prints_total printing Minor = printing.minor_totals
prints_total printing Intermediate = printing.intermediate_totals
prints_total printing Major = printing.major_totals
prints_total printing Final = printing.final_totals

-- whether a heading line is printed
abbrev pub prints_heading : Printing → Ordinal → Bool
prints_heading printing First = printing.first_heading
prints_heading printing Second = printing.second_heading
prints_heading printing Third = printing.third_heading

-- whether a cycle prints
abbrev pub prints : Printing → Cycle → Bool
prints printing RunIn = false
prints printing Card = printing.cards
prints printing (Prog level First) = false
prints printing (Prog level Second) = false
prints printing (Prog level Third) = prints_total printing level
prints printing (Head heading) = prints_heading printing heading
