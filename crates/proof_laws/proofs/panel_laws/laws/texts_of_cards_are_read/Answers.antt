use Rattle.proof_laws.proofs.PanelLaws.TextsRead.{texts_read}
use Rattle.proof_laws.proofs.panel_laws.laws.texts_of_cards_are_read.Goals as goal

pub returns : goal.returns
returns c = texts_read
