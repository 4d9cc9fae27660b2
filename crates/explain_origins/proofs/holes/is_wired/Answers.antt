use Rattle.explain_origins.proofs.Texts.{is-wired}
use Rattle.explain_origins.proofs.holes.is_wired.Goals as goal

pub returns : goal.returns
returns c = is-wired c.args.setup.now c.args.exit c.args.entry c.has.result c.has.ensures.value
