use Rattle.std.proofs.Common.{◌∙◌, ◌-◌, refl, arith}
use Rattle.hubs.specs.declared.hub.Hub.TheVariants.{RO, BT}
use Rattle.net.proofs.Below.machine_sets.BitSets.BitLemmas.{is_bit-shr}
use Rattle.net.specs.Panel.{unit_of}
use Rattle.machine.proofs.Rest.{control-unmarked, four_parts, neither, told-marked}
use Rattle.machine.proofs.groups.Busy.told.Goals as goal

pub returns-clause-uncontrolled : goal.returns-clause-uncontrolled
returns-clause-uncontrolled c k off = (neither c.args.self.controlled c.low_bits.result k off).0

pub returns-clause-told : goal.returns-clause-told
returns-clause-told c picture row name from off =
    told-marked picture c.args.row c.low_bits.result (λ k low. c.low_bits.ensures k low ∙ four_parts c.args.row k) row name from
    (neither c.args.self.controlled c.low_bits.result (unit_of name - 3) off).1

pub returns-clause-unread : goal.returns-clause-unread
returns-clause-unread c k off = (neither c.args.self.reading_out c.low_bits-2.result k off).0

pub returns-clause-read_out : goal.returns-clause-read_out
returns-clause-read_out c picture row name from off =
    control-unmarked picture c.args.row c.low_bits-2.result 64 1332 (RO name) name refl refl (omega arith)
    (λ k low. c.low_bits-2.ensures k low ∙ is_bit-shr c.args.row 64 k) row from
    (neither c.args.self.reading_out c.low_bits-2.result (unit_of name - 3) off).1

pub returns-clause-untested : goal.returns-clause-untested
returns-clause-untested c k off = (neither c.args.self.tested c.low_bits-3.result k off).0

pub returns-clause-tests : goal.returns-clause-tests
returns-clause-tests c picture row name from off =
    control-unmarked picture c.args.row c.low_bits-3.result 96 1364 (BT name) name refl refl (omega arith)
    (λ k low. c.low_bits-3.ensures k low ∙ is_bit-shr c.args.row 96 k) row from
    (neither c.args.self.tested c.low_bits-3.result (unit_of name - 3) off).1
