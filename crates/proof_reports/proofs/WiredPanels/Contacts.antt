-- Which contacts are closed in a cycle, by the states before it.
use Rattle.std.proofs.Common.{◌≡◌, ◌∙◌, refl, ℕ, ◌&&◌, ◌||◌, not, Bool, true, false}
use Rattle.proof_cycles.specs.Below.card_code.declared.row.Row.{Row as CardRow}
use Rattle.proof_cycles.specs.Below.hubs.HubTable.Ranges.{is_within}
use Rattle.proof_cycles.specs.Below.hubs.declared.hub.Group.{Group}
use Rattle.proof_cycles.specs.Below.hubs.declared.hub.Hub.{Hub}
use Rattle.proof_cycles.specs.Below.hubs.declared.hub.Hub.TheVariants.{BAN, BAT, PIN, PIT, IX, CSD}
use Rattle.proof_cycles.proofs.Below.machine.ClosedContacts.{closes-joined}
use Rattle.proof_cycles.specs.Below.machine.Fields.{AreInUnitOrder}
use Rattle.proof_cycles.specs.Below.machine.Machine.{MachineState, closes}
use Rattle.proof_cycles.specs.Below.machine.Steady.{balance_latches}
use Rattle.proof_cycles.specs.Below.net.declared.cycle.Cycle.{Cycle}
use Rattle.proof_cycles.specs.Below.net.declared.cycle.Cycle.TheVariants.{RunIn, Card, Prog, Head}
use Rattle.proof_cycles.specs.Below.net.declared.cycle.Point.{Point}
use Rattle.proof_cycles.specs.Below.net.declared.cycle.Point.TheVariants.{C, Row, K}
use Rattle.proof_cycles.specs.Below.selectors.Contacts.{has_balance, is_balance_set}
use Rattle.proof_cycles.specs.Below.selectors.Indicate.{is_latch_set, indicate_closes}
use Rattle.proof_cycles.specs.Below.selectors.Pilots.{is_normal, is_transferred}
use Rattle.proof_cycles.specs.Below.selectors.Splits.{is_digit_row, split_closes}

-- whether the balance latch of a counter group is set
abbrev pub is_set : MachineState → Group → Bool
is_set machine group = is_balance_set (balance_latches machine.groups) group

-- what none of the other contacts is
alone : (a : Bool) → (a || (false || (false || false))) ≡ a
alone true = refl
alone false = refl

second : (a : Bool) → (false || (a || (false || false))) ≡ a
second true = refl
second false = refl

third : (a : Bool) → (false || (false || (a || false))) ≡ a
third true = refl
third false = refl

-- positions of group indication are no other contacts
no_indicate : (machine : MachineState) (cycle : Cycle) (point : Point) (hub : Hub)
    → indicate_closes machine.indicate Card point hub ≡ false → indicate_closes machine.indicate cycle point hub ≡ false
no_indicate machine RunIn point hub none = refl
no_indicate machine Card point hub none = none
no_indicate machine (Prog level ordinal) point hub none = refl
no_indicate machine (Head heading) point hub none = refl

-- splits are no other contacts
no_split : (point : Point) (hub : Hub) → ((row : CardRow) → split_closes (Row row) hub ≡ false) → split_closes point hub ≡ false
no_split C hub none = refl
no_split (Row row) hub none = none row
no_split K hub none = refl

pub closes-BAT : (machine : MachineState) (cycle : Cycle) (point : Point) (group : Group) (position : ℕ)
    → AreInUnitOrder machine.groups
    → closes machine cycle point (BAT group position) ≡ (has_balance group position && is_set machine group)
closes-BAT machine cycle point group position ordered =
    closes-joined machine cycle point (BAT group position) ordered
    ∙ rw (no_indicate machine cycle point (BAT group position) refl, no_split point (BAT group position) (λ row. refl))
    (alone (has_balance group position && is_set machine group))

pub closes-BAN : (machine : MachineState) (cycle : Cycle) (point : Point) (group : Group) (position : ℕ)
    → AreInUnitOrder machine.groups
    → closes machine cycle point (BAN group position) ≡ (has_balance group position && not (is_set machine group))
closes-BAN machine cycle point group position ordered =
    closes-joined machine cycle point (BAN group position) ordered
    ∙ rw (no_indicate machine cycle point (BAN group position) refl, no_split point (BAN group position) (λ row. refl))
    (alone (has_balance group position && not (is_set machine group)))

pub closes-PIT : (machine : MachineState) (cycle : Cycle) (point : Point) (pilot position : ℕ)
    → AreInUnitOrder machine.groups
    → closes machine cycle point (PIT pilot position) ≡ (is_transferred machine.pilots pilot && is_within position 3)
closes-PIT machine cycle point pilot position ordered =
    closes-joined machine cycle point (PIT pilot position) ordered
    ∙ rw (no_indicate machine cycle point (PIT pilot position) refl, no_split point (PIT pilot position) (λ row. refl))
    (second (is_transferred machine.pilots pilot && is_within position 3))

pub closes-PIN : (machine : MachineState) (cycle : Cycle) (point : Point) (pilot position : ℕ)
    → AreInUnitOrder machine.groups
    → closes machine cycle point (PIN pilot position) ≡ (is_normal machine.pilots pilot && is_within position 3)
closes-PIN machine cycle point pilot position ordered =
    closes-joined machine cycle point (PIN pilot position) ordered
    ∙ rw (no_indicate machine cycle point (PIN pilot position) refl, no_split point (PIN pilot position) (λ row. refl))
    (second (is_normal machine.pilots pilot && is_within position 3))

-- group indication leads on in card cycles alone
pub closes-IX : (machine : MachineState) (point : Point) (level position : ℕ)
    → AreInUnitOrder machine.groups
    → closes machine Card point (IX level position) ≡ (is_latch_set machine.indicate level && is_within position 30)
closes-IX machine point level position ordered =
    closes-joined machine Card point (IX level position) ordered
    ∙ rw (no_split point (IX level position) (λ row. refl))
    (third (is_latch_set machine.indicate level && is_within position 30))

-- whether a cycle is a card cycle
abbrev pub is_card_cycle : Cycle → Bool
is_card_cycle RunIn = false
is_card_cycle Card = true
is_card_cycle (Prog level ordinal) = false
is_card_cycle (Head heading) = false

-- splits lead to their digit exits at the rows 9 to 0
pub closes-CSD : (machine : MachineState) (cycle : Cycle) (row : CardRow) (split : ℕ)
    → AreInUnitOrder machine.groups
    → closes machine cycle (Row row) (CSD split) ≡ (is_digit_row row && is_within split 16)
closes-CSD machine cycle row split ordered =
    closes-joined machine cycle (Row row) (CSD split) ordered
    ∙ rw (no_indicate machine cycle (Row row) (CSD split) refl) refl
