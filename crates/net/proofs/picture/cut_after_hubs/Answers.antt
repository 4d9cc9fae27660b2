use Rattle.net.proofs.Sets.{HoldsHubsAlone-cut, cut-kept}
use Rattle.net.proofs.picture.cut_after_hubs.Goals as goal

pub returns-clause-hubs : goal.returns-clause-hubs
returns-clause-hubs c = HoldsHubsAlone-cut c.args.words.now c.told-words

pub returns-clause-kept : goal.returns-clause-kept
returns-clause-kept c = cut-kept c.args.words.now c.told-words
