use Rattle.std.proofs.Common.{◌∙◌, ◌++◌, ap, option_to_list, ℕ, List}
use Rattle.explain_words.proofs.TracesWords.Running.{line_made}
use Rattle.explain_words.specs.TracesWords.Lines.{units_told}
use Rattle.explain_words.proofs.traces.tracing.tell_cycle.Goals as goal

pub returns : goal.returns
returns c wiring deck from inside =
    line_made c.make_line.result wiring deck c.args.cycle from c.args.run.now.machine.machine c.leave.new.self
    c.write_units.new.text.items c.as_slice.result.now c.make_line.new.line.items (option_to_list c.line.result)
    (c.leave.ensures wiring deck from inside)
    (c.in_ok-write_units.ensures
    ∙ ap (λ (l : List ℕ). l ++ units_told c.args.cycle c.args.run.now.machine.machine) c.clear.ensures.items)
    (c.as_slice.ensures.value ∙ c.in_ok-write_placed.ensures) c.line.ensures c.make_line.ensures
