use Rattle.std.proofs.Common.{sym, subst, arith}
use Rattle.report_writer.proofs.Lengths.{added_long}
use Rattle.report_writer.proofs.Sending.{total_after}
use Rattle.report_writer.proofs.writer.PageWriter.add.Goals as goal
use Rattle.report_writer.specs.Added.{added}
use Rattle.report_writer.specs.Writing.{Writing}
use Rattle.page_text.specs.PlacedLines.InOrder.{IsAfter, IsOnForm}

pub add_line-requires-clause-fits : goal.add_line-requires-clause-fits
add_line-requires-clause-fits g c =
    let of = c.self.inside in
    let placed = c.args.placed.now in
    let after = subst (λ (w : Writing g.row.S.Denot). IsAfter w.page w.line placed.page placed.line) (sym c.self.view_is) c.requires.after in
    let on_form = subst (λ (w : Writing g.row.S.Denot). IsOnForm w.form_lines placed) (sym c.self.view_is) c.requires.on_form in
    omega (
      arith,
      added_long of.form_lines of.page of.line placed c.self.invariant.form c.self.invariant.line_to (omega arith) after on_form,
      on_form.line_to,
      on_form.page_to,
      c.self.invariant.form,
      c.self.invariant.few c.in_ok-check.ensures.well,
    )

pub invariant_of-self-2 : goal.invariant_of-self-2
invariant_of-self-2 g c =
    let of = c.self.inside in
    let placed = c.args.placed.now in
    let after = subst (λ (w : Writing g.row.S.Denot). IsAfter w.page w.line placed.page placed.line) (sym c.self.view_is) c.requires.after in
    let on_form = subst (λ (w : Writing g.row.S.Denot). IsOnForm w.form_lines placed) (sym c.self.view_is) c.requires.on_form in
    record {
      form = c.self.invariant.form;
      page_from = on_form.page_from;
      page_to = omega (arith, on_form.page_to);
      begun = λ _. on_form.page_to;
      line_to = on_form.line_to;
      few = λ _. omega (
        arith,
        added_long of.form_lines of.page of.line placed c.self.invariant.form c.self.invariant.line_to (omega arith) after on_form,
        total_after {bytes = added of.form_lines of.page of.line placed} c.in_ok-add_line.ensures.bytes,
        c.self.invariant.few c.in_ok-check.ensures.well,
      );
    }
