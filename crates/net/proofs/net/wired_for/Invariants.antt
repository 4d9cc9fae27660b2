use Rattle.std.proofs.Common.{◌≡◌, length}
use Rattle.net.specs.CyclePaths.{AreLinks}
use Rattle.net.proofs.NetWires.{IsNetBelow}
use Rattle.net.proofs.net.wired_for.Given as goal

abbrev pub invariant-loop-number : goal.invariant-loop-number
invariant-loop-number l = record {
  long : length l.rows ≡ 1040;
  below : IsNetBelow l.number l.setup l.rows;
  lead : AreLinks l.rows l.links.items;
}
