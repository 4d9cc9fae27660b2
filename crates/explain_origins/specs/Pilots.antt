-- The origin of a pilot that is transferred: the cycle that picked it up, and by which hole.
use Rattle.std.specs.Prelude.{ℕ, List, [], ◌++◌, Option, Some, None, codes, decimal}
use Rattle.card_code.specs.declared.row.Row.TheVariants.{Eleven}
use Rattle.hubs.specs.declared.hub.Hub.TheVariants.{PIX}
use Rattle.explain_ledgers.specs.LedgersWords.LedgerText.Names.{cycle_text}
use Rattle.hubs.specs.SetupsWords.Wiring.{Wiring}
use Rattle.explain_origins.specs.Holes.{hole_in_cycle}
use Rattle.explain_origins.specs.Storage.{led_text, row_label}
use Rattle.explain_origins.specs.declared.changes.PassedCycle.{PassedCycle}

-- the pickup of a pilot
abbrev pub pickup_text : ℕ → List ℕ
pickup_text pilot = codes "PIX." ++ decimal pilot

-- the line of row 11, at which pilots are picked up
abbrev pub pickup_line : Wiring → List (List ℕ) → PassedCycle → (pilot : ℕ) → List ℕ
pickup_line wiring cards since pilot =
    row_label Eleven ++ led_text (hole_in_cycle wiring cards since.cycle since.card Eleven (PIX pilot)) since.card (pickup_text pilot)
    ++ codes "\n"

-- by which cycle a pilot is transferred
abbrev pub since_line : ℕ → PassedCycle → List ℕ
since_line pilot since =
    codes "pilot " ++ decimal pilot ++ codes " transferred by " ++ cycle_text since.cycle since.card ++ codes "\n"

-- what is told of a pilot, by the last cycle that moved the pilots
abbrev pub pilot_text : Wiring → List (List ℕ) → (pilot : ℕ) → Option PassedCycle → List ℕ
pilot_text wiring cards pilot None = []
pilot_text wiring cards pilot (Some since) = since_line pilot since ++ pickup_line wiring cards since pilot
