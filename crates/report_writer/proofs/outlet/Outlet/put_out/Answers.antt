use Rattle.std.proofs.Common.{◌+◌, [], true, refl, subst}
use Rattle.report_writer.specs.Outgoing.{Breaks, Outgoing}
use Rattle.report_writer.proofs.Sending.{breaks_at}
use Rattle.report_writer.proofs.outlet.Outlet.put_out.Goals as goal

pub returns-in-Err-clause-bytes : goal.returns-in-Err-clause-bytes
returns-in-Err-clause-bytes g c =
    let of = c.self.inside in
    let old : Outgoing g.row.S.Denot =
    record { sink = of.sink; waiting = of.waiting.items; written = of.written; has_failed = of.has_failed } in
    let new : Outgoing g.row.S.Denot =
    record { sink = c.write_all.new.sink; waiting = of.waiting.items; written = of.written + c.in-Err.done; has_failed = true } in (
      c.fault.ensures,
      subst (λ (old : Outgoing g.row.S.Denot). Breaks g.S.Sink.held g.S.Sink.has_failed [] old new) c.self.view_is
          (breaks_at g.S.Sink.held g.S.Sink.has_failed old new c.as_slice.result.now c.in-Err.done c.as_slice.ensures.value
          c.in-Err.ensures.written.0 c.in-Err.ensures.written.1 refl refl c.in-Err.ensures.failed),
    )
