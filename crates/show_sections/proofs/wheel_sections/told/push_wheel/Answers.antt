use Rattle.std.proofs.Common.{arith}
use Rattle.show_sections.proofs.WheelSections.Gains.{wheel_blank, wheel_printed}
use Rattle.show_sections.proofs.wheel_sections.told.push_wheel.Goals as goal

pub returns-then-character-eq32 : goal.returns-then-character-eq32
returns-then-character-eq32 c =
    wheel_blank c.args.setup.now c.args.asked.now c.args.cards.now c.args.placed.now c.args.wheel c.args.told.now.items (omega arith)

pub returns : goal.returns
returns c =
    wheel_printed c.args.setup.now c.args.asked.now c.args.cards.now c.args.placed.now c.args.wheel c.in_ok-one.one c.args.told.now.items
    c.push.new.self.items (λ blank. omega (arith, blank)) c.in_ok-one.ensures c.in_ok-push.ensures.items
