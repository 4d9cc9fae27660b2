use Rattle.std.specs.Prelude.{ℕ, ◌+◌, ◌≤◌}
use Rattle.hubs.specs.declared.jack.Jack.TheVariants.{Link}
use Rattle.hubs.specs.SetupsWords.Wiring.{HasJack}
use Rattle.readback_panels.proofs.zones.run_end.Given as goal

abbrev pub invariant-loop-next : goal.invariant-loop-next
invariant-loop-next l = record {
  last : l.wheel ≤ l.last;
  near : l.next ≤ l.last + 1;
  linked : HasJack l.setup (Link l.wheel) → (at : ℕ) → l.wheel ≤ at → at ≤ l.last → HasJack l.setup (Link at);
}
