use Rattle.std.proofs.Common.{◌≡◌, length, take}
use Rattle.net.specs.AddedWires.{AddsRow}
use Rattle.net.proofs.net.add_row.Given as goal

abbrev pub invariant-loop-to : goal.invariant-loop-to
invariant-loop-to l = record {
  long : length l.rows ≡ length l.fn.rows;
  added : AddsRow l.fn.rows l.rows l.place (take l.to-index l.entries);
}
