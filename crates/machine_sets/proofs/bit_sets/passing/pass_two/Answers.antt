use Rattle.std.proofs.Common.{ℕ, ◌≡◌, ◌+◌, ◌||◌, arith, subst}
use Rattle.machine_sets.specs.BitSets.Passing.{IsPassedOn}
use Rattle.machine_sets.proofs.BitSets.PassLemmas.{IsPassedOn-then}
use Rattle.machine_sets.proofs.bit_sets.passing.pass_two.Goals as goal

pub returns : goal.returns
returns c =
    let end : c.args.at + 1 + 1 ≡ c.args.at + 2 = omega arith in
    subst (λ (n : ℕ). IsPassedOn c.args.rows.now c.args.runs.now c.args.closed.now c.args.at n c.args.words.now
    c.pass_one-second.new.words (c.pass_one-first.result || c.pass_one-second.result)) end
    (IsPassedOn-then c.args.rows.now c.args.runs.now c.args.closed.now c.args.at (c.args.at + 1) (c.args.at + 1 + 1) c.args.words.now
    c.pass_one-first.new.words c.pass_one-second.new.words c.pass_one-first.result c.pass_one-second.result c.pass_one-first.ensures c.pass_one-second.ensures)
