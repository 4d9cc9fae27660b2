use Rattle.explain_origins.proofs.Texts.{page-line}
use Rattle.explain_origins.proofs.asks.write_page.Goals as goal

pub returns-then-asks : goal.returns-then-asks
returns-then-asks c =
    page-line c.write_wire.result c.args.setup.now c.args.cycle c.asks.result c.args.text.now.items c.write_all.new.self.items
    c.write_wire.new.text.items c.asks.ensures c.if-asks.true c.in_ok-write_all.ensures.bytes c.write_wire.ensures
