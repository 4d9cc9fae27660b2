use Rattle.std.proofs.Common.{◌≡◌, ℕ, ◌&&◌, get_or}
use Rattle.std.specs.Prelude.{◌==◌, nat_lt}
use Rattle.net.specs.HubSets.{is_bit}
use Rattle.counters.proofs.sensing.positions_of.Given as goal

-- the bits of the positions so far
abbrev pub invariant-loop-k : goal.invariant-loop-k
invariant-loop-k l =
    (bit : ℕ) → is_bit l.bits bit ≡ (nat_lt bit l.k && (get_or l.digits bit 0 == l.given))
