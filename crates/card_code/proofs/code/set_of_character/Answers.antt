use Rattle.std.proofs.Common.{refl, sym, arith}
use Rattle.card_code.specs.CardCode.{code, rows_of}
use Rattle.card_code.proofs.Tables.{outside}
use Rattle.card_code.proofs.code.set_of_character.Goals as goal

pub returns-then-number-ge256-clause-rows : goal.returns-then-number-ge256-clause-rows
unfolding code rows_of
returns-then-number-ge256-clause-rows c =
    let large = c.if-number-ge256.true in
    let same = c.from-number.ensures in
    sym (outside code c.args.character refl (omega (arith, large, same)))
