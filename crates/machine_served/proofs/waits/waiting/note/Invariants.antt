use Rattle.std.proofs.Common.{◌≡◌, ◌&&◌, ◌||◌, ℕ, ◌<◌, length, slice_index_or}
use Rattle.std.specs.Prelude.{◌==◌, nat_lt}
use Rattle.net.specs.HubSets.{is_bit}
use Rattle.machine_served.proofs.waits.waiting.note.Given as goal

abbrev pub invariant-loop-unit : goal.invariant-loop-unit
invariant-loop-unit l = record {
  long : length l.waits ≡ 45;
  noted : (unit other : ℕ) → unit < 45
      → is_bit (slice_index_or l.waits unit 0) other
      ≡ (is_bit (slice_index_or l.initial.waits unit 0) other || (nat_lt unit l.unit && (is_bit l.waiting unit && (other == l.place))));
}
