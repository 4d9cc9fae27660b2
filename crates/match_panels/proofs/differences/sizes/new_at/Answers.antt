use Rattle.std.proofs.Common.{rules, true≢false, sym, refl}
use Rattle.match_panels.proofs.DifferencesWords.RowWires.{new-one}
use Rattle.match_panels.proofs.differences.sizes.new_at.Goals as goal

pub returns-else-is_repeated-clause-many : goal.returns-else-is_repeated-clause-many
returns-else-is_repeated-clause-many c =
    new-one c.args.numbers.now c.requires (λ has. true≢false (sym (c.if-is_repeated.ensures.1 has)))
