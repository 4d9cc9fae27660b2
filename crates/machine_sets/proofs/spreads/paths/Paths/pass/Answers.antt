use Rattle.std.proofs.Common.{List, subst}
use Rattle.machine_sets.specs.declared.bit_sets.contacts.Run.{Run}
use Rattle.machine_sets.specs.SpreadsWords.Passing.{RunsPass}
use Rattle.machine_sets.proofs.SpreadsWords.FarBlocks.{touched-passed}
use Rattle.machine_sets.proofs.spreads.paths.Paths.pass.Goals as goal

pub invariant_of-sets-2 : goal.invariant_of-sets-2
invariant_of-sets-2 c =
    touched-passed c.args.digits.now c.args.zones.now c.sets.inside.touched c.self.inside.eights_far c.self.inside.eights.items
    c.sets.inside.sets c.pass_eights.new.sets c.self.invariant.eights c.sets.invariant c.pass_eights.array_long
    (subst (λ (runs : List Run). RunsPass c.args.digits.now c.args.zones.now runs c.sets.inside.sets c.pass_eights.new.sets)
    c.as_slice.ensures.value c.pass_eights.ensures.passed)
