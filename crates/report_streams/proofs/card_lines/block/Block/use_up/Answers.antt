use Rattle.std.proofs.Common.{◌≡◌, ◌∙◌, ◌-◌, length, ap, drop, sym, arith}
use Rattle.report_streams.proofs.CardLines.Blocks.{advance, long}
use Rattle.report_streams.proofs.card_lines.block.Block.use_up.Goals as goal

pub returns : goal.returns
returns c =
    let of = c.self.inside in
    let size : of.to - of.from ≡ length c.args.self.now =
    sym (long of.bytes of.from of.to c.self.invariant.0 (omega (arith, c.self.told, c.self.invariant.1))) ∙ ap length c.self.view_is in
    advance of.bytes of.from of.to c.args.count (omega (arith, c.requires, size, c.self.invariant.0)) ∙ ap (drop c.args.count) c.self.view_is
