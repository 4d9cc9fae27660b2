-- Wires that couple two counter groups, sought exit by exit and entry by entry.
use Rattle.std.proofs.Common.{◌≡◌, ◌≢◌, inl, inr, ℕ, ◌+◌, ◌<◌, ◌≤◌, Some, None, Option, sym, ap, ◌∙◌, subst, arith}
use Rattle.std.proofs.lemmas.Option.{none-some, same_Some}
use Rattle.hubs.specs.Hubs.{carry_into, carry_out_of, number_of}
use Rattle.hubs.specs.declared.hub.Group.{Group}
use Rattle.hubs.specs.declared.hub.Hub.{Hub}
use Rattle.hubs.proofs.HubLemmas.{number_of-range}
use Rattle.hubs.specs.SetupsWords.Wiring.{Wiring, HasWire}
use Rattle.wire_chart.specs.WrittenText.{carry_form, wire_form}
use Rattle.wire_chart.specs.declared.form.WireForm.TheVariants.{Couple}
use Rattle.wiring_text.specs.declared.statement.Version.TheVariants.{Second}
use Rattle.hubs.proofs.SetupsWords.WireLists.{below_or_at}

-- no wire from the exit to an entry of a lower number couples groups
abbrev pub NoneTo : Wiring → Hub → ℕ → Type 0
NoneTo wiring exit number =
    (entry : Hub) (n : ℕ) → number_of entry ≡ Some n → n < number → HasWire wiring exit entry → wire_form Second (exit, entry) ≢ Couple

-- nor from an exit of a lower number
abbrev pub NoneFrom : Wiring → ℕ → Type 0
NoneFrom wiring number =
    (exit entry : Hub) (n : ℕ) → number_of exit ≡ Some n → n < number → HasWire wiring exit entry
    → wire_form Second (exit, entry) ≢ Couple

pub none_to : (wiring : Wiring) (exit : Hub) → NoneTo wiring exit 1
none_to wiring exit entry n e below has = absurd (omega (arith, below, (number_of-range entry n e).0))

pub none_from : (wiring : Wiring) → NoneFrom wiring 1
none_from wiring exit entry n e below has = absurd (omega (arith, below, (number_of-range exit n e).0))

pub more_to : (wiring : Wiring) (exit : Hub) (number : ℕ) → NoneTo wiring exit number
    → ((entry : Hub) → number_of entry ≡ Some number → HasWire wiring exit entry → wire_form Second (exit, entry) ≢ Couple)
    → NoneTo wiring exit (number + 1)
more_to wiring exit number none here entry n e below has = elim (below_or_at n number below) [
  | inl lower ↦ none entry n e lower has
  | inr at ↦ here entry (e ∙ ap (λ (m : ℕ). Some m) at) has
]

pub more_from : (wiring : Wiring) (number : ℕ) → NoneFrom wiring number
    → ((exit entry : Hub) → number_of exit ≡ Some number → HasWire wiring exit entry → wire_form Second (exit, entry) ≢ Couple)
    → NoneFrom wiring (number + 1)
more_from wiring number none here exit entry n e below has = elim (below_or_at n number below) [
  | inl lower ↦ none exit entry n e lower has
  | inr at ↦ here exit entry (e ∙ ap (λ (m : ℕ). Some m) at) has
]

pub all_to : (wiring : Wiring) (exit : Hub) (number : ℕ) → 1937 ≤ number → NoneTo wiring exit number
    → (entry : Hub) → HasWire wiring exit entry → wire_form Second (exit, entry) ≢ Couple
all_to wiring exit number last none entry has =
    let range = number_of-range entry has.to has.entry_numbered in
    none entry has.to has.entry_numbered (omega (arith, range.1, last)) has

pub all_from : (wiring : Wiring) (number : ℕ) → 1937 ≤ number → NoneFrom wiring number
    → (exit entry : Hub) → HasWire wiring exit entry → wire_form Second (exit, entry) ≢ Couple
all_from wiring number last none exit entry has =
    let range = number_of-range exit has.number has.numbered in
    none exit entry has.number has.numbered (omega (arith, range.1, last)) has

-- a hub that is no carry exit couples nothing
plain_leaves : (from to : Option Group) → from ≡ None → carry_form from to ≢ Couple
plain_leaves None to e = λ f. cc
plain_leaves (Some group) to e = absurd (none-some group (sym e))

pub no_carry_from : (wiring : Wiring) (number : ℕ) (exit : Hub)
    → ((hub : Hub) → number_of hub ≡ Some number → Some exit ≡ Some hub) → carry_out_of exit ≡ None
    → (other entry : Hub) → number_of other ≡ Some number → HasWire wiring other entry → wire_form Second (other, entry) ≢ Couple
no_carry_from wiring number exit only none other entry e has =
    plain_leaves (carry_out_of other) (carry_into entry) (ap carry_out_of (sym (same_Some exit other (only other e))) ∙ none)

-- the exit of a number is one
pub this_exit : (wiring : Wiring) (number : ℕ) (exit : Hub)
    → ((hub : Hub) → number_of hub ≡ Some number → Some exit ≡ Some hub)
    → ((entry : Hub) → HasWire wiring exit entry → wire_form Second (exit, entry) ≢ Couple)
    → (other entry : Hub) → number_of other ≡ Some number → HasWire wiring other entry → wire_form Second (other, entry) ≢ Couple
this_exit wiring number exit only none other entry e has =
    subst (λ (hub : Hub). HasWire wiring hub entry → wire_form Second (hub, entry) ≢ Couple) (same_Some exit other (only other e))
    (none entry) has
