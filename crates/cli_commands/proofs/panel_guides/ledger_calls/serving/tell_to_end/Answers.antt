use Rattle.std.proofs.Common.{refl}
use Rattle.cli_commands.specs.PanelGuides.Unexplained.{IsToldUnexplained}
use Rattle.fault_lines.proofs.ProgramIo.StoppingWith.{device_with, memory_with, refused_with, status_with}
use Rattle.cli_commands.proofs.panel_guides.ledger_calls.serving.tell_to_end.Goals as goal

pub returns-in-Err-clause-refused : goal.returns-in-Err-clause-refused
returns-in-Err-clause-refused g c = λ three.
    let met =
    refused_with c.tell_unexplained.result.status c.tell_unexplained.result.is_told (g.V.Write.contents c.args.faults.now)
    (g.V.Write.contents c.tell_unexplained.new.faults) c.in-Err.ensures.stopped c.tell_unexplained.ensures.status
    (λ of. IsToldUnexplained of c.tell_unexplained.result.is_told (g.V.Write.contents c.args.faults.now) (g.V.Write.contents c.tell_unexplained.new.faults))
    c.tell_unexplained.ensures.line (λ _ line. line) (λ _. refl) refl three in
    (c.in-Err.told, met.0, met.1, met.2)

pub returns-in-Err-clause-device : goal.returns-in-Err-clause-device
returns-in-Err-clause-device g c =
    device_with c.tell_unexplained.result.status c.tell_unexplained.result.is_told (g.V.Write.contents c.args.faults.now)
    (g.V.Write.contents c.tell_unexplained.new.faults) c.in-Err.ensures.stopped c.tell_unexplained.ensures.status
    (λ of. IsToldUnexplained of c.tell_unexplained.result.is_told (g.V.Write.contents c.args.faults.now) (g.V.Write.contents c.tell_unexplained.new.faults))
    c.tell_unexplained.ensures.line (λ _ line. line) (λ _. refl) refl

pub returns-in-Err-clause-memory : goal.returns-in-Err-clause-memory
returns-in-Err-clause-memory g c =
    memory_with c.tell_unexplained.result.status c.tell_unexplained.result.is_told (g.V.Write.contents c.args.faults.now)
    (g.V.Write.contents c.tell_unexplained.new.faults) c.in-Err.ensures.stopped c.tell_unexplained.ensures.status
    (λ of. IsToldUnexplained of c.tell_unexplained.result.is_told (g.V.Write.contents c.args.faults.now) (g.V.Write.contents c.tell_unexplained.new.faults))
    c.tell_unexplained.ensures.line (λ _ line. line) (λ _. refl) refl

pub returns-in-Err-clause-statuses : goal.returns-in-Err-clause-statuses
returns-in-Err-clause-statuses g c =
    status_with c.tell_unexplained.result.status c.tell_unexplained.result.is_told (g.V.Write.contents c.args.faults.now)
    (g.V.Write.contents c.tell_unexplained.new.faults) c.in-Err.ensures.stopped c.tell_unexplained.ensures.status
    (λ of. IsToldUnexplained of c.tell_unexplained.result.is_told (g.V.Write.contents c.args.faults.now) (g.V.Write.contents c.tell_unexplained.new.faults))
    c.tell_unexplained.ensures.line (λ _ line. line) (λ _. refl) refl
