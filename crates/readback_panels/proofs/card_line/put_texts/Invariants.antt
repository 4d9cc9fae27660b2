use Rattle.std.specs.Prelude.{IfSome}
use Rattle.readback_panels.specs.Items.{Gains}
use Rattle.readback_panels.specs.Shown.{AreShownBelow, IsStraight}
use Rattle.readback_panels.specs.Zones.{IsRunOutside, IsTextOutside}
use Rattle.readback_panels.proofs.card_line.put_texts.Given as goal

abbrev pub invariant-loop-wheel : goal.invariant-loop-wheel
invariant-loop-wheel l = record {
  run : IfSome l.run (IsRunOutside l.setup);
  gained : Gains (IsTextOutside l.setup) l.fn.draft l.draft;
  straight : IfSome l.run IsStraight;
  shown : AreShownBelow l.setup l.zones l.draft l.run l.wheel;
}
