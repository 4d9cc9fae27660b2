-- Hubs that are told apart by their letters: so a wire between two hubs is none of those between others.
use Rattle.std.proofs.Common.{◌≡◌, ◌∙◌, refl, sym, ap, ℕ, Bool, true, false, true≢false}
use Rattle.chart_lines.specs.declared.charts.statement.SignRule.{SignRule}
use Rattle.chart_lines.specs.declared.charts.statement.SignRule.TheVariants as sign
use Rattle.hubs.specs.declared.hub.Hub.{Hub}
use Rattle.hubs.specs.declared.hub.Hub.TheVariants.{CA, CI, CSD, GX, IX, MI, PIN, PIT, PX, RO, SO, ST, SX, W}
use Rattle.wiring_table.specs.Parts.{negative_side}

-- a hub that passes a test is none that doesn't
pub clash : {A : Type 0} (test : Hub → Bool) {one other : Hub} → one ≡ other → test one ≡ true → test other ≡ false → A
clash test same passes fails = absurd (true≢false (sym passes ∙ ap test same ∙ fails))

-- and so are two hubs
pub apart : {A : Type 0} (test : Hub → Hub → Bool) {exit entry from to : Hub} → exit ≡ from → entry ≡ to → test from to ≡ true
    → test exit entry ≡ false → A
apart test {entry = entry} {from = from} same_exit same_entry passes fails =
    absurd (true≢false (sym passes ∙ ap (λ hub. test from hub) (sym same_entry) ∙ ap (λ hub. test hub entry) (sym same_exit) ∙ fails))

-- the exits of the contacts of pilots
abbrev pub is_side : Hub → Bool
is_side (PIN pilot position) = true
is_side (PIT pilot position) = true
is_side other = false

-- those of counter groups
abbrev pub is_digit : Hub → Bool
is_digit (GX group place) = true
is_digit other = false

-- those of storage units
abbrev pub is_stored : Hub → Bool
is_stored (SX unit column) = true
is_stored other = false

-- those of splits
abbrev pub is_split : Hub → Bool
is_split (CSD split) = true
is_split other = false

-- those of indicate positions
abbrev pub is_indicate : Hub → Bool
is_indicate (IX level number) = true
is_indicate other = false

-- those of program cycles
abbrev pub is_program : Hub → Bool
is_program (PX level cycle) = true
is_program other = false

-- the entries of carries
abbrev pub is_carried : Hub → Bool
is_carried (CI group) = true
is_carried other = false

-- those that have a storage unit give what it holds
abbrev pub is_giving : Hub → Bool
is_giving (SO unit) = true
is_giving other = false

-- the first entries of comparing positions
abbrev pub is_compared : Hub → Bool
is_compared (CA position) = true
is_compared other = false

-- the entries that call for a level
abbrev pub is_calling : Hub → Bool
is_calling (ST level) = true
is_calling other = false

-- wires from certain exits to print wheels
abbrev pub to_wheel : (Hub → Bool) → Hub → Hub → Bool
to_wheel test exit (W wheel) = test exit
to_wheel test exit other = false

-- wires from certain exits to the entries that have a counter group subtract
abbrev pub to_minus : (Hub → Bool) → Hub → Hub → Bool
to_minus test exit (MI group) = test exit
to_minus test exit other = false

-- wires from certain exits to the entries that read a counter group out
abbrev pub to_read_out : (Hub → Bool) → Hub → Hub → Bool
to_read_out test exit (RO group) = test exit
to_read_out test exit other = false

-- the contacts of a pilot that are closed while its amount is below 0
pub side-is : (rule : SignRule) (pilot position : ℕ) → is_side (negative_side rule pilot position) ≡ true
side-is (sign.X column) pilot position = refl
side-is (sign.NX column) pilot position = refl

pub same-side : (rule other : SignRule) (pilot its position place : ℕ) → negative_side rule pilot position ≡ negative_side other its place
    → (pilot ≡ its) × (position ≡ place)
same-side (sign.X column) (sign.X of) pilot its position place same = (cc, cc)
same-side (sign.NX column) (sign.NX of) pilot its position place same = (cc, cc)
same-side (sign.X column) (sign.NX of) pilot its position place same = cc
same-side (sign.NX column) (sign.X of) pilot its position place same = cc
