use Rattle.std.proofs.Common.{◌≤◌, ◌≡◌, ◌+◌, ◌-◌, ◌∙◌, ℕ, Some, List, ap, subst, sym, arith}
use Rattle.net.specs.HubSets.{has_hub}
use Rattle.net.specs.Tellings.{AddsBranch, AreBranches}
use Rattle.net.specs.declared.tellings.Branch.{Branch}
use Rattle.net.proofs.NetWires.{no_hub}
use Rattle.net.proofs.TellingLemmas.{AreBranches-first, AreBranches-more}
use Rattle.net.proofs.tellings.branches_of.Goals as goal
use Rattle.net.proofs.tellings.branches_of.Goals.{in-Some+in_ok-add_branch, in_default}

pub loop-number-init : goal.loop-number-init
loop-number-init c =
    subst (λ (branches : List Branch). AreBranches 1 c.args.rows.now (has_hub c.args.led.now) branches) (sym c.new-branches.ensures.items)
    (AreBranches-first c.args.rows.now (has_hub c.args.led.now))

pub add_branch-requires : goal.add_branch-requires
add_branch-requires c =
    let from : 1 ≤ c.loop-number.number = omega arith in
    let same : c.loop-number.number ≡ c.loop-number.number - 1 + 1 = omega (arith, from) in
    record {
      numbered = c.in-Some.ensures.numbered ∙ ap Some same;
      place = omega arith;
      onward = c.requires.onward;
      commons = c.requires.commons;
    }

pub loop-number-preserved : goal.loop-number-preserved
loop-number-preserved c =
    let from : 1 ≤ c.loop-number.number = omega arith in
    let same : c.loop-number.number - 1 + 1 ≡ c.loop-number.number = omega (arith, from) in
    elim c.match-of_number.branch [
      | in-Some+in_ok-add_branch w ↦ rw w.branches-is
          (AreBranches-more c.loop-number.number c.args.rows.now (has_hub c.args.led.now) w.in-Some.exit c.loop-number.branches.items _
          w.in-Some.ensures.numbered
          (subst (λ (n : ℕ). AddsBranch c.args.rows.now (has_hub c.args.led.now) w.in-Some.exit n c.loop-number.branches.items w.add_branch.new.branches.items)
          same w.in_ok-add_branch.ensures)
          c.loop-number.invariant)
      | in_default w ↦ absurd (no_hub c.loop-number.number from (omega arith) w.in_default.ensures.found)
    ]

pub returns : goal.returns
returns c =
    let end : c.loop-number.number ≡ 1041 = omega arith in
    subst (λ (n : ℕ). AreBranches n c.args.rows.now (has_hub c.args.led.now) c.loop-number.branches.items) end c.loop-number.invariant
