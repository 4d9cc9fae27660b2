use Rattle.std.proofs.Common.{◌≡◌, drop}
use Rattle.explain_wheel_ledgers.specs.Resting.{is_printed_of}
use Rattle.explain_wheel_ledgers.proofs.resting.is_printed_of.Given as goal

-- none of the ways so far begins there
abbrev pub invariant-loop-way : goal.invariant-loop-way
invariant-loop-way l = is_printed_of (drop l.way-index l.ways) l.fn.place ≡ is_printed_of l.ways l.fn.place
