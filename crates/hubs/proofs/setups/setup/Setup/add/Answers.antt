use Rattle.std.proofs.Common.{◌≡◌, ◌∙◌, refl, sym, true}
use Rattle.std.proofs.lemmas.Bool.{false≢true}
use Rattle.std.proofs.lemmas.Result.{err_from_is_err_and}
use Rattle.hubs.proofs.HubLemmas.{is_entry-number, number_of-range}
use Rattle.hubs.proofs.SetupsWords.WiringLemmas.{unnumbered_entry, IsLawfulSetup-same, IsLawfulSetup-adds, AddsWire-by_number, SameWires-by_number}
use Rattle.hubs.specs.Hubs.{is_entry_hub}
use Rattle.hubs.proofs.SetupsWords.CarryJoins.{there-joins}
use Rattle.hubs.proofs.setups.setup.Setup.add.Goals as goal

pub returns-then-has-clause-was_there : goal.returns-then-has-clause-was_there
returns-then-has-clause-was_there c = (λ answer. c.has.ensures.value.0 c.if-has.true, λ wire. refl)

pub returns-in_default-clause-was_there : goal.returns-in_default-clause-was_there
returns-in_default-clause-was_there c =
    (λ answer. cc, λ wire. absurd (false≢true (sym c.if-has.false ∙ c.has.ensures.value.1 wire)))

pub returns-then-not-is_exit-clause-was_there : goal.returns-then-not-is_exit-clause-was_there
returns-then-not-is_exit-clause-was_there c =
    (λ answer. cc, λ wire. absurd (false≢true (c.if-not-is_exit.ensures ∙ (c.has.ensures.lawful.leads _ _ wire).0)))

pub returns-in_default-number-clause-was_there : goal.returns-in_default-number-clause-was_there
returns-in_default-number-clause-was_there c =
    (λ answer. cc, λ wire. absurd (false≢true (sym c.if-has.false ∙ c.has.ensures.value.1 wire)))

pub returns-in_default-number-clause-memory : goal.returns-in_default-number-clause-memory
returns-in_default-number-clause-memory c =
    λ exit entry ring. absurd
    (false≢true (sym (unnumbered_entry c.args.entry (sym c.in_default-number.ensures.value)) ∙ entry))

pub returns-then-not-is_entry-clause-was_there : goal.returns-then-not-is_entry-clause-was_there
returns-then-not-is_entry-clause-was_there c =
    (λ answer. cc, λ wire. absurd (false≢true (c.if-not-is_entry.ensures ∙ (c.has.ensures.lawful.leads _ _ wire).1)))

pub returns-then-not-can_join-clause-was_there : goal.returns-then-not-can_join-clause-was_there
returns-then-not-can_join-clause-was_there c =
    (λ answer. cc, λ wire. absurd (c.can_join.ensures.refused c.if-not-can_join.true (there-joins _ _ _ c.has.ensures.lawful.carries wire)))

pub returns-then-has-clause-carry : goal.returns-then-has-clause-carry
returns-then-has-clause-carry c =
    let wire = c.has.ensures.value.0 c.if-has.true in
    (λ answer. cc, λ refused. absurd (refused.2 (there-joins _ _ _ c.has.ensures.lawful.carries wire)))

pub invariant_of-self : goal.invariant_of-self
invariant_of-self c = IsLawfulSetup-same _ _ c.in_err-push_entry.ensures.refused c.self.invariant

pub returns-in_err-push_entry-clause-same_wires : goal.returns-in_err-push_entry-clause-same_wires
returns-in_err-push_entry-clause-same_wires c =
    let refusal = err_from_is_err_and c.from_residual.result c.from_residual.ensures.1 in
    rw (refusal.1, ← c.self.view_is) (SameWires-by_number _ _ c.in_err-push_entry.ensures.refused)

pub invariant_of-self-2 : goal.invariant_of-self-2
invariant_of-self-2 c =
    let gained = c.in_ok-push_entry.ensures.gained in
    let to = sym c.in-Some-number.ensures.value in
    let is_entry : is_entry_hub c.args.entry ≡ true = sym c.if-not-is_entry.ensures in
    IsLawfulSetup-adds _ _ c.args.exit c.args.entry c.in-Some.number c.in-Some-number.to (sym c.in-Some.ensures.value) to
    gained.here gained.others c.self.invariant (sym c.if-not-is_exit.ensures) is_entry (rw c.self.view_is (c.can_join.ensures.joins c.if-not-can_join.false)) (
      (is_entry-number c.args.entry c.in-Some-number.to to).0 is_entry,
      (number_of-range c.args.entry c.in-Some-number.to to).1,
    )

pub returns-clause-wires : goal.returns-clause-wires
returns-clause-wires c =
    let gained = c.in_ok-push_entry.ensures.gained in
    rw (← c.self.view_is)
    (AddsWire-by_number _ _ c.args.exit c.args.entry c.in-Some.number c.in-Some-number.to (sym c.in-Some.ensures.value)
    (sym c.in-Some-number.ensures.value) gained.here gained.others)

pub returns-clause-was_there : goal.returns-clause-was_there
returns-clause-was_there c =
    (λ answer. cc, λ wire. absurd (false≢true (sym c.if-has.false ∙ c.has.ensures.value.1 wire)))
