use Rattle.std.proofs.Common.{◌-◌, ◌++◌, ◌∷◌, [], length, ap, arith}
use Rattle.std.proofs.lemmas.Result.{err_from_is_err_and}
use Rattle.page_text.specs.Pages.{without_trailing_blanks}
use Rattle.report_writer.specs.Added.{feeds}
use Rattle.page_text.proofs.CutTexts.{no_longer}
use Rattle.report_writer.proofs.Lengths.{line_long}
use Rattle.report_writer.proofs.Sending.{breaks_after, breaks_before, breaks_in, takes_as, takes_then, total_after}
use Rattle.report_writer.proofs.feeding.add_line.Goals as goal

pub take-requires-clause-few : goal.take-requires-clause-few
take-requires-clause-few g c = omega (arith, ap length c.without_trailing_blanks.ensures, no_longer c.args.placed.now.text)

pub take-requires-clause-fits : goal.take-requires-clause-fits
take-requires-clause-fits g c =
    omega (
      arith,
      ap length c.without_trailing_blanks.ensures,
      total_after c.in_ok-feed.ensures.bytes,
      line_long c.args.form_lines c.args.from.page c.args.from.lines c.args.placed.now,
      c.requires.fits,
    )

pub returns-in_err-feed-clause-bytes : goal.returns-in_err-feed-clause-bytes
returns-in_err-feed-clause-bytes g c =
    let placed = c.args.placed.now in
    let fed = feeds c.args.form_lines c.args.from.page c.args.from.lines placed.page (placed.line - 1) in
    let p = err_from_is_err_and c.from_residual.result c.from_residual.ensures.1 in
    rw (p.1, p.2) (c.in_err-feed.ensures.bytes.0, breaks_before {one = fed} (without_trailing_blanks placed.text ++ 10 ∷ []) c.in_err-feed.ensures.bytes.1)

pub returns-in_err-take-clause-bytes : goal.returns-in_err-take-clause-bytes
returns-in_err-take-clause-bytes g c =
    let placed = c.args.placed.now in
    let fed = feeds c.args.form_lines c.args.from.page c.args.from.lines placed.page (placed.line - 1) in
    let p = err_from_is_err_and c.from_residual-in_err-take.result c.from_residual-in_err-take.ensures.1 in
    rw (p.1, p.2) (
      c.in_err-take.ensures.bytes.0,
      breaks_after {one = fed} c.in_ok-feed.ensures.bytes
          (breaks_in (10 ∷ []) (ap (λ t. t ++ 10 ∷ []) c.without_trailing_blanks.ensures) c.in_err-take.ensures.bytes.1),
    )

pub take-requires-2-clause-fits : goal.take-requires-2-clause-fits
take-requires-2-clause-fits g c =
    omega (
      arith,
      ap length c.without_trailing_blanks.ensures,
      total_after c.in_ok-feed.ensures.bytes,
      total_after c.in_ok-take.ensures.bytes,
      line_long c.args.form_lines c.args.from.page c.args.from.lines c.args.placed.now,
      c.requires.fits,
    )

pub returns-clause-bytes : goal.returns-clause-bytes
returns-clause-bytes g c =
    takes_then g.S.Sink.held g.S.Sink.has_failed
    (feeds c.args.form_lines c.args.from.page c.args.from.lines c.args.placed.now.page (c.args.placed.now.line - 1))
    (without_trailing_blanks c.args.placed.now.text ++ 10 ∷ []) _ c.feed.new.out _ c.in_ok-feed.ensures.bytes c.take-2.result
    (takes_then g.S.Sink.held g.S.Sink.has_failed (without_trailing_blanks c.args.placed.now.text) (10 ∷ []) _ c.take.new.self _
    (takes_as c.without_trailing_blanks.ensures c.in_ok-take.ensures.bytes) c.take-2.result c.take-2.ensures.bytes)
