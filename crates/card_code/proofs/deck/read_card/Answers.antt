use Rattle.std.proofs.lemmas.Result.{err_from_is_err_and}
use Rattle.card_code.proofs.deck.read_card.Goals as goal

pub returns-in_err-punch_line-clause-fault : goal.returns-in_err-punch_line-clause-fault
returns-in_err-punch_line-clause-fault c =
    let p = err_from_is_err_and c.from_residual.result c.from_residual.ensures.1 in
    rw (p.1, p.2) c.in_err-punch_line.ensures.fault
