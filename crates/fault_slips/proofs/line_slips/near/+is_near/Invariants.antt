use Rattle.std.proofs.Common.{length}
use Rattle.fault_slips.proofs.line_slips.near.+is_near.Given as goal

abbrev pub decreases-is_near : goal.decreases-is_near
decreases-is_near l = length l.one.now
