use Rattle.std.proofs.Common.{◌∙◌}
use Rattle.std.proofs.lemmas.Result.{err_from_is_err_and}
use Rattle.report_writer.proofs.Lines.{adding_breaks, adding_more}
use Rattle.report_writer.proofs.writer.PageWriter.add_all.Goals as goal

pub returns-in_err-add-clause-bytes : goal.returns-in_err-add-clause-bytes
returns-in_err-add-clause-bytes g c =
    let p = err_from_is_err_and c.from_residual-in_err-add.result c.from_residual-in_err-add.ensures.1 in
    rw (p.1, p.2) (
      c.in_err-add.ensures.bytes.0,
      adding_breaks c.args.lines.now c.loop-placed.placed-index _ _ c.loop-placed.self c.loop-placed-test.true c.loop-placed.invariant.lines
          g.S.Sink.has_failed c.add.new.self.out c.in_err-add.ensures.bytes.1,
    )

pub loop-placed-preserved : goal.loop-placed-preserved
loop-placed-preserved g c = record {
  lines = adding_more c.args.lines.now c.loop-placed.placed-index _ _ c.loop-placed.self c.loop-placed-test.true c.loop-placed.invariant.lines
      c.add.new.self c.in_ok-add.ensures.bytes c.in_ok-add.ensures.form c.in_ok-add.ensures.page c.in_ok-add.ensures.line;
  same = c.in_ok-add.ensures.same ∙ c.loop-placed.invariant.same;
}
