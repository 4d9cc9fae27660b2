-- By which name of a command a task is asked for.
use Rattle.std.specs.Prelude.{◌≡◌, ◌≢◌, ℕ, List, [], codes}
use Rattle.cli_tasks.specs.declared.task.Task.{Task}
use Rattle.cli_tasks.specs.declared.task.Task.TheVariants as task

-- the name; no command has a chart and its deck in one text
abbrev pub word_of : Task → List ℕ
word_of task.Run = codes "run"
word_of task.RunWhole = codes "run"
word_of (task.RunPages pages) = codes "run"
word_of task.RunTogether = []
word_of task.Check = codes "check"
word_of task.ListFaults = codes "check"
word_of task.CheckDeck = codes "check"
word_of task.ShowDeck = codes "check"
word_of task.GroupDeck = codes "check"
word_of task.Layout = codes "layout"
word_of (task.Fields card) = codes "fields"
word_of task.Wire = codes "wire"
word_of task.Replay = codes "replay"
word_of task.ReplayByOrders = codes "replay"
word_of task.Upgrade = codes "upgrade"
word_of task.Chart = codes "chart"
word_of task.Match = codes "match"
word_of task.MatchHints = codes "match"
word_of task.MatchDeck = codes "match"
word_of task.Legend = codes "legend"
word_of (task.Explain page line wheel whole) = codes "explain"
word_of (task.Ledger page line wheel all) = codes "ledger"
word_of task.Trace = codes "trace"
word_of (task.Show around) = codes "show"
word_of (task.Fold fill) = codes "fold"
word_of (task.Fault number) = codes "fault"

-- a command of this name does the task, if any command does
abbrev pub IsTaskOf : List ℕ → Task → Type 0
IsTaskOf name wanted = wanted ≢ task.RunTogether → name ≡ word_of wanted
