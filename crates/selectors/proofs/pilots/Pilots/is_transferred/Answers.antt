use Rattle.std.proofs.Common.{◌≤◌, ◌-◌, ◌∙◌, ap, arith, ℕ}
use Rattle.std.proofs.lemmas.Bool.Decides.{nat_tests}
use Rattle.net.specs.HubSets.{is_bit}
use Rattle.selectors.specs.Pilots.{is_transferred}
use Rattle.selectors.proofs.PositionLemmas.{pilot-told}
use Rattle.selectors.proofs.pilots.Pilots.is_transferred.Goals.{then-pilot-ge1, else-pilot-ge1}
use Rattle.selectors.proofs.pilots.Pilots.is_transferred.Goals as goal

pub returns-then-pilot : goal.returns-then-pilot
returns-then-pilot c =
    elim c.if-pilot-ge1.branch [
      | then-pilot-ge1 w ↦
          let low = w.if-pilot-ge1.true in
          let told = w.value-is in
          let is = c.if-pilot.true in
          let high : c.args.pilot ≤ 16 = grind (arith, nat_tests, told, is) in
          c.has_bit.ensures ∙ ap (λ (word : ℕ). is_bit word (c.args.pilot - 1)) c.from.ensures
          ∙ pilot-told c.self.inside.transferred c.args.pilot low high
          ∙ ap (λ pilots. is_transferred pilots c.args.pilot) c.self.view_is
      | else-pilot-ge1 w ↦
          let told = w.value-is in
          let is = c.if-pilot.true in
          absurd (grind (arith, nat_tests, told, is))
    ]
