use Rattle.std.proofs.Common.{refl}
use Rattle.report_streams.proofs.CardLines.LineFeeds.{run-masked}
use Rattle.report_streams.proofs.card_lines.front.run_before.Goals as goal

pub returns-clause-few : goal.returns-clause-few
returns-clause-few c = (run-masked c.args.front.now c.args.from _ _ c.requires refl c.lowest_of.ensures).few

pub returns-clause-before : goal.returns-clause-before
returns-clause-before c = (run-masked c.args.front.now c.args.from _ _ c.requires refl c.lowest_of.ensures).before

pub returns-clause-found : goal.returns-clause-found
returns-clause-found c = (run-masked c.args.front.now c.args.from _ _ c.requires refl c.lowest_of.ensures).found
