use Rattle.std.proofs.Common.{◌∙◌}
use Rattle.explain_origins.proofs.Texts.{tested-line}
use Rattle.explain_origins.proofs.latches.write_test.Goals as goal

pub returns : goal.returns
returns c =
    tested-line c.write_all-4.result c.args.place c.args.number c.from.result c.from-2.result c.args.since c.args.text.now.items
    c.write_all.new.self.items c.write_account.new.text.items c.write_all-2.new.self.items c.write_cycle.new.text.items
    c.write_all-3.new.self.items c.write_digits.new.text.items c.write_all-4.new.self.items (c.from.ensures ∙ c.width_of.ensures)
    c.from-2.ensures c.in_ok-write_all.ensures.bytes c.in_ok-write_account.ensures c.in_ok-write_all-2.ensures.bytes
    c.in_ok-write_cycle.ensures c.in_ok-write_all-3.ensures.bytes c.in_ok-write_digits.ensures c.write_all-4.ensures.bytes
