use Rattle.std.proofs.Common.{ℕ, ◌≡◌, ◌+◌, ◌||◌, arith, subst}
use Rattle.machine_sets.specs.BitSets.Passing.{IsPassedOn}
use Rattle.machine_sets.proofs.BitSets.PassLemmas.{IsPassedOn-then}
use Rattle.machine_sets.proofs.bit_sets.passing.pass_eight.Goals as goal

pub returns : goal.returns
returns c =
    let end : c.args.at + 4 + 4 ≡ c.args.at + 8 = omega arith in
    subst (λ (n : ℕ). IsPassedOn c.args.rows.now c.args.runs.now c.args.closed.now c.args.at n c.args.words.now
    c.pass_four-second.new.words (c.pass_four-first.result || c.pass_four-second.result)) end
    (IsPassedOn-then c.args.rows.now c.args.runs.now c.args.closed.now c.args.at (c.args.at + 4) (c.args.at + 4 + 4) c.args.words.now
    c.pass_four-first.new.words c.pass_four-second.new.words c.pass_four-first.result c.pass_four-second.result c.pass_four-first.ensures c.pass_four-second.ensures)
