-- Which columns and wheels the panel has.
use Rattle.std.proofs.Common.{◌≡◌, ◌≤◌, ℕ, ◌+◌, Bool, true, false, Some, None, if◌then◌else◌, nat_le, option_map, refl}
use Rattle.std.proofs.lemmas.Bool.{and_parts, leb-true}
use Rattle.std.proofs.lemmas.Option.{none-some}
use Rattle.hubs.specs.HubTable.Ranges.{is_within}
use Rattle.hubs.specs.Hubs.{number_of}
use Rattle.hubs.specs.declared.hub.Hub.TheVariants as hub

-- a number that has a place is within the bounds
within : (before number last n : ℕ) → option_map (λ (place : ℕ). before + place) (if is_within number last then Some number else None) ≡ Some n
    → (1 ≤ number) × (number ≤ last)
within before number last n = by (is_within number last) refl
  where
    by : (b : Bool) → is_within number last ≡ b
        → option_map (λ (place : ℕ). before + place) (if b then Some number else None) ≡ Some n → (1 ≤ number) × (number ≤ last)
    by true is same =
        let parts : (nat_le 1 number ≡ true) × (nat_le number last ≡ true) = and_parts _ _ is in
        (leb-true 1 number parts.0, leb-true number last parts.1)
    by false is same = absurd (none-some n same)

pub column_range : (column n : ℕ) → number_of (hub.SR column) ≡ Some n → (1 ≤ column) × (column ≤ 80)
column_range column n numbered = within 80 column 80 n numbered

pub wheel_range : (wheel n : ℕ) → number_of (hub.W wheel) ≡ Some n → (1 ≤ wheel) × (wheel ≤ 120)
wheel_range wheel n numbered = within 1798 wheel 120 n numbered
