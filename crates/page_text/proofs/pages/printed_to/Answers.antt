use Rattle.std.proofs.Common.{refl}
use Rattle.page_text.proofs.CutTexts.{blanks-masked, few-masked}
use Rattle.page_text.proofs.pages.printed_to.Goals as goal

pub returns-clause-few : goal.returns-clause-few
returns-clause-few c = let most = few-masked c.args.text.now c.args.from _ c.requires refl in rw c.highest_of.ensures most

pub returns-clause-blank : goal.returns-clause-blank
returns-clause-blank c = blanks-masked c.args.text.now c.args.from _ _ c.requires refl c.highest_of.ensures
