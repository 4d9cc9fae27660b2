-- The laws of the other units, from what reaches them: an impulse passes one contact at most, and units emit at exits of theirs alone.
use Rattle.std.proofs.Common.{◌≡◌, ◌≢◌, refl, false}
use Rattle.proof_cycles.specs.Below.net.declared.cycle.Cycle.{Cycle}
use Rattle.proof_cycles.specs.Below.net.declared.cycle.Cycle.TheVariants.{RunIn, Card, Prog, Head}
use Rattle.proof_reports.specs.WiredPanels.PanelLaws.{BreaksCallLevels, PilotsTellTheNextCard, UnitsHoldTheCard}
use Rattle.proof_reports.proofs.WiredPanels.AfterCycles.{pilots-after, pilots-after-other, program-after, units-after, units-after-other}
use Rattle.proof_reports.proofs.WiredPanels.Contacts.{is_card_cycle}

-- a cycle other than a card cycle
no_card : (cycle : Cycle) → cycle ≢ Card → is_card_cycle cycle ≡ false
no_card RunIn other = refl
no_card Card other = absurd (other refl)
no_card (Prog level ordinal) other = refl
no_card (Head heading) other = refl

pub pilots-told : PilotsTellTheNextCard
pilots-told chart plan wiring cycle old new panel between whole = (
  pilots-after chart plan wiring cycle old new panel between whole,
  pilots-after-other chart plan wiring cycle old new panel between whole,
)

pub units-told : UnitsHoldTheCard
units-told chart plan wiring cycle old new card panel rising between whole = (
  units-after chart plan wiring cycle old new panel between whole card rising,
  λ other. units-after-other chart plan wiring cycle old new panel between whole card (no_card cycle other),
)

pub levels-called : BreaksCallLevels
levels-called chart plan wiring old new card next panel between whole stands waits valid valid' =
    program-after chart plan wiring old new card next panel between whole stands waits valid valid'
