use Rattle.std.proofs.Common.{refl}
use Rattle.fault_lines.specs.FaultsWords.Lines.{IsTold}
use Rattle.fault_lines.proofs.ProgramIo.StoppingWith.{device_with, memory_with, refused_with, status_with}
use Rattle.cli_commands.proofs.panel_guides.trace_calls.serving.trace_to_end.Goals as goal

pub returns-in-Err-clause-refused : goal.returns-in-Err-clause-refused
returns-in-Err-clause-refused g c = λ three.
    let met =
    refused_with c.tell.result.status c.tell.result.is_told (g.V.Write.contents c.args.faults.now)
    (g.V.Write.contents c.tell.new.faults) c.in-Err.ensures.stopped c.tell.ensures.status
    (λ of. IsTold of c.tell.result.is_told (g.V.Write.contents c.args.faults.now) (g.V.Write.contents c.tell.new.faults))
    c.tell.ensures.line (λ _ line. line) (λ _. refl) refl three in
    (c.in-Err.fault, met.0, met.1, met.2)

pub returns-in-Err-clause-device : goal.returns-in-Err-clause-device
returns-in-Err-clause-device g c =
    device_with c.tell.result.status c.tell.result.is_told (g.V.Write.contents c.args.faults.now)
    (g.V.Write.contents c.tell.new.faults) c.in-Err.ensures.stopped c.tell.ensures.status
    (λ of. IsTold of c.tell.result.is_told (g.V.Write.contents c.args.faults.now) (g.V.Write.contents c.tell.new.faults))
    c.tell.ensures.line (λ _ line. line) (λ _. refl) refl

pub returns-in-Err-clause-memory : goal.returns-in-Err-clause-memory
returns-in-Err-clause-memory g c =
    memory_with c.tell.result.status c.tell.result.is_told (g.V.Write.contents c.args.faults.now)
    (g.V.Write.contents c.tell.new.faults) c.in-Err.ensures.stopped c.tell.ensures.status
    (λ of. IsTold of c.tell.result.is_told (g.V.Write.contents c.args.faults.now) (g.V.Write.contents c.tell.new.faults))
    c.tell.ensures.line (λ _ line. line) (λ _. refl) refl

pub returns-in-Err-clause-statuses : goal.returns-in-Err-clause-statuses
returns-in-Err-clause-statuses g c =
    status_with c.tell.result.status c.tell.result.is_told (g.V.Write.contents c.args.faults.now)
    (g.V.Write.contents c.tell.new.faults) c.in-Err.ensures.stopped c.tell.ensures.status
    (λ of. IsTold of c.tell.result.is_told (g.V.Write.contents c.args.faults.now) (g.V.Write.contents c.tell.new.faults))
    c.tell.ensures.line (λ _ line. line) (λ _. refl) refl
