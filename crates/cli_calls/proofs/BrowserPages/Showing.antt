-- What is shown by the chart that is read off a panel is what is shown of the panel.
use Rattle.std.proofs.Common.{ℕ, List, Option, Result, Ok, Err, IfOk}
use Rattle.std.specs.Prelude.{String, string_bytes}
use Rattle.std.specs.declared.alloc.Global.{Global}
use Rattle.fault_lines.specs.declared.faults.fault.Fault.{Fault}
use Rattle.readback_charts.specs.KnownCharts.{IsReadOff, KnownChart}
use Rattle.hubs.specs.SetupsWords.Wiring.{Wiring}
use Rattle.cli_calls.specs.BrowserPages.Shown.{ShowsKnown, ShowsWired}

-- a page by what is known of a panel
pub shows_wired : (result : Result (String Global) Fault) (wiring : Wiring) (text : List ℕ) (cards : List (List ℕ)) (around : Option ℕ)
    (known : Option KnownChart) → IsReadOff wiring known
    → IfOk result (λ page. ShowsKnown wiring known text cards around (string_bytes page))
    → IfOk result (λ page. ShowsWired wiring text cards around (string_bytes page))
shows_wired (Ok page) wiring text cards around known read shows = record { known = known; read = read; shows = shows }
shows_wired (Err _) wiring text cards around known read shows = tt
