use Rattle.std.proofs.Common.{◌-◌, ◌∷◌, [], ℕ, replicate, refl, arith}
use Rattle.std.proofs.lemmas.List.{length-replicate}
use Rattle.std.proofs.lemmas.Result.{err_from_is_err_and}
use Rattle.report_writer.proofs.BlankPages.{page_end-long}
use Rattle.report_writer.proofs.Sending.{breaks_in, takes_then, total_after}
use Rattle.report_writer.proofs.feeding.end_page.Goals as goal

pub take-requires-clause-fits : goal.take-requires-clause-fits
take-requires-clause-fits g c =
    omega (
      arith,
      total_after c.in_ok-repeat.ensures.bytes,
      length-replicate {A = ℕ} (c.args.form_lines - c.args.lines) 10,
      page_end-long c.args.form_lines c.args.lines,
      c.requires.fits,
    )

pub returns-in_err-repeat-clause-bytes : goal.returns-in_err-repeat-clause-bytes
returns-in_err-repeat-clause-bytes g c =
    let p = err_from_is_err_and c.from_residual.result c.from_residual.ensures.1 in
    rw (p.1, p.2) (c.in_err-repeat.ensures.bytes.0, breaks_in (12 ∷ []) refl c.in_err-repeat.ensures.bytes.1)

pub returns-clause-bytes : goal.returns-clause-bytes
returns-clause-bytes g c =
    takes_then g.S.Sink.held g.S.Sink.has_failed (replicate (c.args.form_lines - c.args.lines) 10) (12 ∷ []) _ c.repeat.new.self _
    c.in_ok-repeat.ensures.bytes c.take.result c.take.ensures.bytes
