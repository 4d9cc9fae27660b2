use Rattle.std.proofs.Common.{◌++◌, arith, refl}
use Rattle.show_sections.specs.CycleSections.Rows.{rows_of}
use Rattle.show_sections.proofs.CycleSections.Bytes.{byte_more}
use Rattle.show_sections.proofs.cycle_sections.rows.write_rows.Goals as goal

pub loop-byte-preserved : goal.loop-byte-preserved
loop-byte-preserved c = record {
  written = byte_more c.args.line.now c.loop-byte.byte-index _ c.loop-byte.inside c.take_byte.new.inside c.loop-byte.spaces
      c.take_byte.new.spaces c.loop-byte.rows.items c.take_byte.new.rows.items (c.args.rows.now.items ++ rows_of c.args.line.now)
      c.loop-byte-test.true refl c.in_ok-take_byte.ensures.rows c.loop-byte.invariant.written;
  few = omega (arith, c.in_ok-take_byte.ensures.few);
}
