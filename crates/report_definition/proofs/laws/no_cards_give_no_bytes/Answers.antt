use Rattle.std.proofs.Common.{refl}
use Rattle.page_text.specs.Pages.{Pages}
use Rattle.report_definition.proofs.laws.no_cards_give_no_bytes.Goals as goal

pub returns : goal.returns
unfolding Pages
returns c chart = refl
