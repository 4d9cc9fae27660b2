use Rattle.std.proofs.lemmas.Result.{err_from_is_err_and}
use Rattle.explain_origins.proofs.Texts.{position-none, position-some}
use Rattle.explain_origins.proofs.levels.position_text.Goals as goal

pub returns-in_default : goal.returns-in_default
returns-in_default c =
    position-none c.args.setup.now c.args.cards.now c.args.card c.args.level c.args.position c.called_by_holes.result c.new-text.result.items
    c.in_default.is c.called_by_holes.ensures c.new-text.ensures.items

pub returns-in_err-write_called : goal.returns-in_err-write_called
returns-in_err-write_called c =
    let exit = err_from_is_err_and c.from_residual-in_err-write_called.result c.from_residual-in_err-write_called.ensures.1 in
    rw exit.1 tt

pub returns : goal.returns
returns c =
    position-some c.args.setup.now c.args.cards.now c.args.card c.args.level c.args.position c.called_by_holes.result c.write_called.new.text.items
    c.in-Some.called c.new-lines.result.items c.write_unlike_lines.new.text.items c.as_slice.result.now c.new-text.result.items c.in-Some.is
    c.called_by_holes.ensures c.new-lines.ensures.items c.in_ok-write_unlike_lines.ensures c.as_slice.ensures.value c.new-text.ensures.items
    c.in_ok-write_called.ensures
