-- Pictures of equal sets, and of more contacts.
use Rattle.std.proofs.Common.{◌≡◌, ◌∙◌, ap, refl, sym, subst, ℕ, ◌≤◌, ◌&&◌, ◌||◌, nat_le, Bool, true, false, List, Option, Some, inl, inr, arith}
use Rattle.std.proofs.lemmas.Bool.{and_parts, false≢true, or_cases, or_left}
use Rattle.std.proofs.lemmas.Bool.Decides.{nat_tests}
use Rattle.hubs.specs.SetupsWords.Wiring.{Wiring}
use Rattle.hubs.specs.declared.hub.Hub.{Hub}
use Rattle.hubs.specs.declared.hub.Hub.TheVariants.{CI, CO}
use Rattle.net.proofs.ImpulsedLaws.{picture_more}
use Rattle.net.specs.Cycles.{is_closing}
use Rattle.net.specs.HubSets.{has_hub}
use Rattle.net.specs.Impulsed.{IsPicture}
use Rattle.net.specs.Panel.{contact_of, unit_of}
use Rattle.net.specs.declared.cycle.Cycle.{Cycle}
use Rattle.net.specs.declared.cycle.Point.{Point}
use Rattle.selectors.specs.Contacts.{carry_closes, is_nines}
use Rattle.machine.specs.Fields.{AreInUnitOrder}
use Rattle.machine.specs.Machine.{MachineState, closes}
use Rattle.machine.specs.Rest.{ComeToNoNines}
use Rattle.machine.specs.Steady.{AreSteady, closed_at, nines_of}
use Rattle.machine.specs.declared.closed.Closed.{Closed}
use Rattle.selectors.specs.Indicate.{indicate_closes}
use Rattle.selectors.specs.Splits.{split_closes}
use Rattle.net.specs.declared.cycle.Cycle.TheVariants.{RunIn, Card, Prog, Head}
use Rattle.net.specs.declared.cycle.Point.TheVariants.{C, Row, K}
use Rattle.hubs.specs.declared.hub.Group.{Group}
use Rattle.net.specs.Passing.{PassesNoCarry}
use Rattle.machine.proofs.ClosedContacts.{closes-all, closes-joined}

-- a picture is one of any exits and contacts that have the same hubs
pub IsPicture-same : (wiring : Wiring) (exits others closed also_closed picture : Hub → Bool)
    → ((hub : Hub) → exits hub ≡ others hub) → ((hub : Hub) → closed hub ≡ also_closed hub)
    → IsPicture wiring exits closed picture → IsPicture wiring others also_closed picture
IsPicture-same wiring exits others closed also_closed picture same_exits same_closed is_picture =
    let exits_are : ◌≡◌ {A = Hub → Bool} exits others = λ i hub. same_exits hub i in
    let closed_are : ◌≡◌ {A = Hub → Bool} closed also_closed = λ i hub. same_closed hub i in
    subst (λ (c : Hub → Bool). IsPicture wiring others c picture) closed_are
    (subst (λ (e : Hub → Bool). IsPicture wiring e closed picture) exits_are is_picture)

-- a contact of a carry leads on from no impulsed hub where no carry comes to a group at nines
carry-idle : (point : Point) (nines : List Bool) (picture : Hub → Bool) (from to : Hub) → ComeToNoNines picture nines
    → contact_of to ≡ Some from → picture from ≡ true → carry_closes point nines to ≡ true → ⊥
carry-idle point nines picture from (CO group) idle contact on shut =
    let both = and_parts (nat_le 3 (unit_of group)) (is_nines nines group)
    (and_parts (is_closing point) (nat_le 3 (unit_of group) && is_nines nines group) shut).1 in
    false≢true (sym (idle group (third (unit_of group) both.0) (come from (CI group) contact on)) ∙ both.1)
  where
    third : (unit : ℕ) → nat_le 3 unit ≡ true → 3 ≤ unit
    third unit e = grind (arith, nat_tests, e)

    come : (from common : Hub) → ◌≡◌ {A = Option Hub} (Some common) (Some from) → picture from ≡ true → picture common ≡ true
    come from common same on = let is : common ≡ from = cc in rw is on
carry-idle point nines picture from other idle contact on shut = false≢true shut

-- there the picture with the contacts of the carries is the one without
pub picture-idle : (wiring : Wiring) (cycle : Cycle) (closed : Closed) (machine : MachineState) (point : Point)
    (exits picture : Hub → Bool)
    → AreInUnitOrder machine.groups → AreSteady cycle closed machine → ComeToNoNines picture (nines_of machine.groups)
    → IsPicture wiring exits (has_hub (closed_at closed point)) picture → IsPicture wiring exits (closes machine cycle point) picture
picture-idle wiring cycle closed machine point exits picture ordered steady idle is =
    picture_more wiring exits (has_hub (closed_at closed point)) (closes machine cycle point) picture
    (λ hub shut. sym (all hub) ∙ or_left (has_hub (closed_at closed point) hub) (carry_closes point (nines_of machine.groups) hub) shut)
    (λ from to contact on shut.
    elim (or_cases (has_hub (closed_at closed point) to) (carry_closes point (nines_of machine.groups) to) (all to ∙ shut)) [
      | inl others ↦ others
      | inr carry ↦ absurd (carry-idle point (nines_of machine.groups) picture from to idle contact on carry)
    ]) is
  where
    all : (hub : Hub)
        → (has_hub (closed_at closed point) hub || carry_closes point (nines_of machine.groups) hub) ≡ closes machine cycle point hub
    all hub = closes-all cycle closed machine point hub ordered steady

-- the carry contacts of a machine are closed at the closing point alone, and there where groups stand at nines
pub carry-closed : (machine : MachineState) (cycle : Cycle) (point : Point) (group : Group) → AreInUnitOrder machine.groups
    → closes machine cycle point (CO group) ≡ carry_closes point (nines_of machine.groups) (CO group)
carry-closed machine cycle point group ordered =
    closes-joined machine cycle point (CO group) ordered
    ∙ alone (carry_closes point (nines_of machine.groups) (CO group)) _ _ (no-indicate cycle) (no-split point)
  where
    no-indicate : (c : Cycle) → indicate_closes machine.indicate c point (CO group) ≡ false
    no-indicate RunIn = refl
    no-indicate Card = refl
    no-indicate (Prog level ordinal) = refl
    no-indicate (Head heading) = refl

    no-split : (p : Point) → split_closes p (CO group) ≡ false
    no-split C = refl
    no-split (Row row) = refl
    no-split K = refl

    alone : (a b c : Bool) → b ≡ false → c ≡ false → (a || (b || c)) ≡ a
    alone true b c e f = refl
    alone false b c e f = ap (λ x. x || c) e ∙ f

-- no carry passes where none comes to a group that stands at nines
pub no-carries : (machine : MachineState) (cycle : Cycle) (point : Point) (picture : Hub → Bool) → AreInUnitOrder machine.groups
    → ComeToNoNines picture (nines_of machine.groups) → PassesNoCarry (closes machine cycle point) picture
no-carries machine cycle point picture ordered idle group on = by (closes machine cycle point (CO group)) refl
  where
    by : (b : Bool) → closes machine cycle point (CO group) ≡ b → closes machine cycle point (CO group) ≡ false
    by false is = is
    by true is =
        absurd
        (carry-idle point (nines_of machine.groups) picture (CI group) (CO group) idle refl on
        (sym (carry-closed machine cycle point group ordered) ∙ is))
