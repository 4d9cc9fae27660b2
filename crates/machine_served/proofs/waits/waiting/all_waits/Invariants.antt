use Rattle.std.proofs.Common.{◌≡◌, ◌↔◌, ◌+◌, ◌<◌, ℕ, true, slice_index_or}
use Rattle.net.specs.HubSets.{is_bit}
use Rattle.net.specs.Nets.{IsNetOf}
use Rattle.machine_served.specs.ServedWords.Waits.{WaitsFor}
use Rattle.hubs.specs.SetupsWords.Wiring.{Wiring}
use Rattle.machine_served.proofs.waits.waiting.all_waits.Given as goal

abbrev pub invariant-loop-place : goal.invariant-loop-place
invariant-loop-place l =
    (wiring : Wiring) → IsNetOf wiring l.net → (unit other : ℕ) → unit < 45
    → (is_bit (slice_index_or l.waits unit 0) other ≡ true)
    ↔ ((other < l.place) × WaitsFor wiring (unit + 1) (other + 1))
