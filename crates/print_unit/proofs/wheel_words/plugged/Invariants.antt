use Rattle.std.proofs.Common.{◌≡◌, ℕ, ◌+◌, ◌<◌, ◌&&◌, nat_lt}
use Rattle.hubs.specs.SetupsWords.Wiring.{is_plugged}
use Rattle.net.specs.HubSets.{is_bit}
use Rattle.print_unit.specs.WheelWords.{jack_of}
use Rattle.print_unit.proofs.wheel_words.plugged.Given as goal

-- the word has the wheels up to the loop's whose jack is plugged
abbrev pub invariant-loop-k : goal.invariant-loop-k
invariant-loop-k l =
    (j : ℕ) → j < 120 → is_bit l.word j ≡ (nat_lt j l.k && is_plugged l.setup (jack_of l.kind (j + 1)))
