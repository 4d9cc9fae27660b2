use Rattle.std.proofs.Common.{codes, decimal}
use Rattle.explain_origins.specs.Levels.{no_row}
use Rattle.explain_origins.proofs.Texts.{three-parts}
use Rattle.explain_origins.proofs.levels.write_missing.Goals as goal

pub returns : goal.returns
returns c =
    three-parts c.write.result c.args.text.now.items c.write_no_row.new.text.items c.write_all.new.self.items c.write.new.self.items
    (no_row c.args.row) c.args.entry.now (decimal c.args.position) (codes "\n") c.in_ok-write_no_row.ensures c.in_ok-write_all.ensures.bytes
    c.write.ensures.bytes
