use Rattle.std.proofs.Common.{ℕ, Contains, arith}
use Rattle.match_plans.specs.ComparedColumns.{IsCompared}
use Rattle.match_plans.proofs.Shown.{each-numbered}
use Rattle.match_plans.proofs.compared.free_position.Goals as goal

pub loop-place-init : goal.loop-place-init
loop-place-init c = λ p less is. absurd (omega (arith, less))

pub returns-clause-none : goal.returns-clause-none
returns-clause-none c =
    each-numbered (λ (n : ℕ). IsCompared c.args.setup.now c.args.column c.args.level n → Contains c.args.taken.now n) c.loop-place-test.false
    c.loop-place.invariant
