use Rattle.std.proofs.Common.{◌≡◌, sym, subst, ℕ, ◌++◌}
use Rattle.std.specs.Prelude.{OnOk}
use Rattle.std.specs.String.{string_bytes}
use Rattle.net.specs.Cycles.{ordinal_number}
use Rattle.net.specs.declared.cycle.Cycle.{Cycle}
use Rattle.explain_words.specs.ExplanationText.Text.{cycle_line, heading_line, program_line}
use Rattle.explain_words.proofs.explanation_text.lines.write_cycle_line.Goals as goal

pub returns-in-Prog : goal.returns-in-Prog
returns-in-Prog c =
    let old = string_bytes c.args.text.now in
    let new = string_bytes c.write_program_line.new.text in
    let cards = c.args.told.now.cards in
    subst (λ (cycle : Cycle). OnOk c.write_program_line.result (new ≡ old ++ cycle_line cycle c.args.told.now.waits cards)) (sym c.in-Prog.is)
    (subst (λ (n : ℕ). OnOk c.write_program_line.result (new ≡ old ++ program_line n (ordinal_number c.in-Prog.ordinal) cards))
    c.number.ensures.value
    (subst (λ (n : ℕ). OnOk c.write_program_line.result (new ≡ old ++ program_line c.number.result n cards)) c.number-in-Prog.ensures.value
    c.write_program_line.ensures))

pub returns-in-Head : goal.returns-in-Head
returns-in-Head c =
    let old = string_bytes c.args.text.now in
    let new = string_bytes c.write_heading_line.new.text in
    let cards = c.args.told.now.cards in
    subst (λ (cycle : Cycle). OnOk c.write_heading_line.result (new ≡ old ++ cycle_line cycle c.args.told.now.waits cards)) (sym c.in-Head.is)
    (subst (λ (n : ℕ). OnOk c.write_heading_line.result (new ≡ old ++ heading_line n c.args.told.now.waits cards)) c.number-in-Head.ensures.value
    c.write_heading_line.ensures)
