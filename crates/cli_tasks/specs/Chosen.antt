-- Which task the options of a command choose.
use Rattle.std.specs.Prelude.{Bool, false, true, Option, None, Some}
use Rattle.cli_tasks.specs.declared.pages.Pages.{Pages}
use Rattle.cli_tasks.specs.declared.task.Task.{Task}
use Rattle.cli_tasks.specs.declared.task.Task.TheVariants as task

-- pages that are asked for are printed once the whole deck has run, and all of them if its cards are to be checked first
abbrev pub run_of : Option Pages → (checks_first : Bool) → Task
run_of (Some pages) checks_first = task.RunPages pages
run_of None true = task.RunWhole
run_of None false = task.Run

-- of a deck the keys that come back, or its bad cards, shown or only listed; without one every fault of the chart, or whether it compiles
abbrev pub check_of : (has_deck all groups : Bool) → Task
check_of true all true = task.GroupDeck
check_of true true false = task.ShowDeck
check_of true false false = task.CheckDeck
check_of false true groups = task.ListFaults
check_of false false groups = task.Check

-- a deck is run on both panels; else no wire is told where hints are asked for
abbrev pub match_of : (has_deck hints : Bool) → Task
match_of true hints = task.MatchDeck
match_of false true = task.MatchHints
match_of false false = task.Match

-- by orders, if there are any
abbrev pub replay_of : (has_orders : Bool) → Task
replay_of true = task.ReplayByOrders
replay_of false = task.Replay
