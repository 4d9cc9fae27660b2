use Rattle.std.proofs.Common.{◌≡◌, ◌∙◌, ℕ, subst, arith}
use Rattle.std.proofs.lemmas.List.{length-set}
use Rattle.print_unit.specs.RowSets.{Receives}
use Rattle.print_unit.proofs.Sets.{receives-more, receives-none}
use Rattle.print_unit.proofs.line.receive.Goals as goal

pub loop-k-init : goal.loop-k-init
loop-k-init c = record { received = receives-none c.args.first c.args.received.now c.args.sets.now; bits = c.told-sets }

pub loop-k-preserved : goal.loop-k-preserved
loop-k-preserved c = record {
  received =
      receives-more c.args.first c.loop-k.k c.args.received.now c.args.sets.now c.loop-k.sets c.loop-k.invariant.bits (omega arith)
      c.loop-k.invariant.received;
  bits = length-set c.loop-k.sets _ _ ∙ c.loop-k.invariant.bits;
}

pub returns-clause-received : goal.returns-clause-received
returns-clause-received c =
    let end : c.loop-k.k ≡ c.args.count = omega arith in
    subst (λ (k : ℕ). Receives c.args.first k c.args.received.now c.args.sets.now c.loop-k.sets) end c.loop-k.invariant.received

pub returns-clause-bits : goal.returns-clause-bits
returns-clause-bits c = c.loop-k.invariant.bits
