use Rattle.std.proofs.Common.{◌∙◌, sym}
use Rattle.show_sections.proofs.CycleSections.Bytes.{byte_taken, space_taken}
use Rattle.show_sections.proofs.cycle_sections.rows.take_byte.Goals as goal

pub returns-then-divides-clause-rows : goal.returns-then-divides-clause-rows
returns-then-divides-clause-rows c =
    space_taken c.args.byte c.args.inside.now c.args.spaces.now c.args.rows.now.items (sym c.divides.ensures ∙ c.if-divides.true)

pub returns-clause-rows : goal.returns-clause-rows
returns-clause-rows c =
    byte_taken c.args.byte c.args.inside.now c.is_inside.result c.args.spaces.now c.args.rows.now.items c.write_behind.new.rows.items
    (sym c.divides.ensures ∙ c.if-divides.false) c.in_ok-write_behind.ensures c.is_inside.ensures
