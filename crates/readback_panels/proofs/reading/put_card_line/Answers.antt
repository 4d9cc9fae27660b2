use Rattle.readback_panels.proofs.ItemsRead.{read_amounts, read_texts}
use Rattle.readback_panels.proofs.reading.put_card_line.Goals as goal

pub returns-clause-read : goal.returns-clause-read
returns-clause-read c =
    read_texts c.args.setup.now c.put_texts.result c.put_amounts.new.draft c.put_texts.new.draft
    (read_amounts c.args.setup.now c.args.draft.now c.put_amounts.new.draft c.requires.read c.in_ok-put_amounts.ensures)
    c.put_texts.ensures.gained
