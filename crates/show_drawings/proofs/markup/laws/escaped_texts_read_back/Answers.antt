use Rattle.show_drawings.proofs.MarkupWords.Reading.{read_back, written_well}
use Rattle.show_drawings.proofs.markup.laws.escaped_texts_read_back.Goals as goal

pub returns-clause-back : goal.returns-clause-back
returns-clause-back c = read_back

pub returns-clause-writable : goal.returns-clause-writable
returns-clause-writable c = written_well
