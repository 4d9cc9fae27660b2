use Rattle.std.proofs.Common.{refl, arith}
use Rattle.allocate.specs.HelperTaking.{IsUsed}
use Rattle.allocate.proofs.Lowest.{taken-more}
use Rattle.allocate.proofs.groups.lowest_number.Goals as goal

pub loop-number-preserved : goal.loop-number-preserved
loop-number-preserved c =
    taken-more c.args.width c.loop-number.number (IsUsed c.args.taken.now c.args.aside) c.loop-number.invariant (c.if-not-is_used.ensures.0 refl)

pub returns-else-not-is_used : goal.returns-else-not-is_used
returns-else-not-is_used c number from to =
    taken-more c.args.width c.loop-number.number (IsUsed c.args.taken.now c.args.aside) c.loop-number.invariant
    (c.if-not-is_used.ensures.0 refl) number from (omega (arith, c.groups_of-number-end.ensures.value))
