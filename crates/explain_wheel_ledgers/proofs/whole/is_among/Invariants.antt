use Rattle.std.proofs.Common.{◌≡◌, drop}
use Rattle.explain_wheel_ledgers.specs.Whole.{is_among}
use Rattle.explain_wheel_ledgers.proofs.whole.is_among.Given as goal

-- none of those so far is this one
abbrev pub invariant-loop-other : goal.invariant-loop-other
invariant-loop-other l = is_among (drop l.other-index l.asked) l.fn.one ≡ is_among l.asked l.fn.one
