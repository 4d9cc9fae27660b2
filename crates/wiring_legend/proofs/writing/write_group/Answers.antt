use Rattle.std.proofs.Common.{List, ap, ℕ, ◌++◌, ◌∙◌}
use Rattle.std.specs.String.{string_bytes}
use Rattle.wiring_legend.proofs.Groups.{group-gained}
use Rattle.wiring_legend.proofs.writing.write_group.Goals as goal

pub returns : goal.returns
returns c =
    group-gained c.args.version c.args.chart.now.lines c.args.plan.now c.args.source.now c.args.line.now c.in_ok-setup.setup
    c.args.legend.now.items c.write_heading.new.legend.items (string_bytes c.in_ok-text.text) c.extend_from_slice.new.self.items
    c.in_ok-setup.ensures c.in_ok-write_heading.ensures c.in_ok-text.ensures (c.in_ok-extend_from_slice.ensures.items
    ∙ ap (λ (l : List ℕ). c.write_heading.new.legend.items ++ l) c.as_bytes.ensures.value)
