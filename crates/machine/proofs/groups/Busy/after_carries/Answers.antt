use Rattle.std.proofs.Common.{◌-◌}
use Rattle.net.specs.Panel.{unit_of}
use Rattle.machine.proofs.Rest.{neither}
use Rattle.machine.proofs.groups.Busy.after_carries.Goals as goal

pub returns-clause-empty : goal.returns-clause-empty
returns-clause-empty c k off = (neither c.args.self.carried c.carries.result k off).0

pub returns-clause-carries : goal.returns-clause-carries
returns-clause-carries c name from off =
    c.carries.ensures name from (neither c.args.self.carried c.carries.result (unit_of name - 3) off).1
