-- Sets of rows for hubs: none, sets that are joined from a place on, and sets that are read.
use Rattle.std.proofs.Common.{◌≡◌, ◌∙◌, ℕ, ◌+◌, ◌-◌, ◌<◌, ◌≤◌, ◌&&◌, ◌||◌, Bool, false, List, Option, Some, None, sym, ap, refl, arith, drop}
use Rattle.std.specs.Prelude.{nat_le}
use Rattle.std.proofs.Math.Bool.{or-false}
use Rattle.std.proofs.lemmas.Bool.Decides.{nat_tests}
use Rattle.std.proofs.lemmas.List.{get_or-drop}
use Rattle.machine_sets.specs.BitSets.Bits.{is_bit}
use Rattle.hubs.specs.Hubs.{number_of}
use Rattle.hubs.specs.declared.hub.Hub.{Hub}
use Rattle.net.specs.HubSets.{is_bit_from, is_in_row}
use Rattle.net.specs.HubRows.{has_at_number, has_row_at}
use Rattle.machine_sets.specs.SpreadsWords.Links.{has_at}
use Rattle.net.specs.RowSets.{GainsRows, is_in_sets, is_set_from}
use Rattle.card_code.specs.declared.row.Row.{Row as CardRow}

-- where no place has a row, no hub has
pub empty-sets : (sets : List ℕ) → ((place row : ℕ) → has_at sets place row ≡ false) → (row : ℕ) (given : Option ℕ)
    → has_at_number sets row given ≡ false
empty-sets sets none row (Some number) = none (number - 1) row
empty-sets sets none row None = refl

-- sets joined at the place of a hub are those of the hubs from it on
pub sets-joined : (first hub : Hub) (number row : ℕ) (sets old new : List ℕ) → number_of first ≡ Some number → 1 ≤ number
    → ((given : ℕ) → number_of hub ≡ Some given → (1 ≤ given) × (given ≤ 1936))
    → ((place r : ℕ) → place < 1936
    → has_at new place r ≡ (has_at old place r || (nat_le (number - 1) place && has_at sets (place - (number - 1)) r)))
    → has_row_at new row hub ≡ (has_row_at old row hub || is_in_sets first sets row hub)
sets-joined first hub number row sets old new is low range joined = by (number_of hub) refl where
  after : (n : ℕ) → 1 ≤ n → nat_le (number - 1) (n - 1) ≡ nat_le number n
  after n positive = grind (arith, nat_tests)

  by : (given : Option ℕ) → number_of hub ≡ given → has_row_at new row hub ≡ (has_row_at old row hub || is_in_sets first sets row hub)
  by (Some n) and_is =
      let at = range n and_is in
      let index : n - 1 - (number - 1) ≡ n - number = omega (arith, at.0, low) in
      ap (has_at_number new row) and_is ∙ joined (n - 1) row (omega (arith, at.0, at.1))
      ∙ ap (λ b. has_at old (n - 1) row || (b && has_at sets (n - 1 - (number - 1)) row)) (after n at.0)
      ∙ ap (λ (k : ℕ). has_at old (n - 1) row || (nat_le number n && has_at sets k row)) index
      ∙ ap (λ b. b || (nat_le number n && has_at sets (n - number) row)) (sym (ap (has_at_number old row) and_is))
      ∙ ap (λ b. has_row_at old row hub || b)
      (sym (ap (λ m. is_set_from m sets row (number_of hub)) is ∙ ap (is_set_from (Some number) sets row) and_is))
  by None and_is =
      ap (has_at_number new row) and_is
      ∙ sym (ap (λ m. is_set_from m sets row (number_of hub)) is ∙ ap (is_set_from (Some number) sets row) and_is)
      ∙ ap (λ b. b || is_in_sets first sets row hub) (sym (ap (has_at_number old row) and_is))

-- from a hub out of range no sets are joined
pub sets-nowhere : (first hub : Hub) (row : ℕ) (sets old : List ℕ) → number_of first ≡ None
    → has_row_at old row hub ≡ (has_row_at old row hub || is_in_sets first sets row hub)
sets-nowhere first hub row sets old none =
    sym (or-false (has_row_at old row hub))
    ∙ ap (λ b. has_row_at old row hub || b) (sym (ap (λ m. is_set_from m sets row (number_of hub)) none))

-- the set of the hub that comes k after the first one stands at place k of those that are read from that on
pub set-read : (sets : List ℕ) (hub : Hub) (number k row : ℕ) → 1 ≤ number → number_of hub ≡ Some (number + k)
    → has_at (drop (number - 1) sets) k row ≡ has_row_at sets row hub
set-read sets hub number k row low is =
    let index : number - 1 + k ≡ number + k - 1 = omega (arith, low) in
    ap (λ w. is_bit w row) (get_or-drop (number - 1) sets k 0)
    ∙ ap (λ (n : ℕ). has_at sets n row) index
    ∙ sym (ap (has_at_number sets row) is)

-- sets whose row at a place has the bits of a word are that word's hubs there
pub sets-row : (first hub : Hub) (sets : List ℕ) (place bits : ℕ) → ((k : ℕ) → has_at sets k place ≡ is_bit bits k)
    → is_in_sets first sets place hub ≡ is_in_row first bits hub
sets-row first hub sets place bits same = by (number_of first) (number_of hub) where
  by : (one other : Option ℕ) → is_set_from one sets place other ≡ is_bit_from one bits other
  by (Some f) (Some n) = ap (λ b. nat_le f n && b) (same (n - f))
  by (Some f) None = refl
  by None other = refl

-- one test at each row, and then another
pub GainsRows-both : (one other : CardRow → Hub → Bool) (old now new : List ℕ) → GainsRows one old now → GainsRows other now new
    → GainsRows (λ row hub. one row hub || other row hub) old new
GainsRows-both one other old now new first then row hub =
    let e = first row hub in
    let f = then row hub in
    by _ _ _ _ _ e f where
      by : (a b o m n : Bool) → m ≡ (o || a) → n ≡ (m || b) → n ≡ (o || (a || b))
      by a b o m n e f = grind (arith, nat_tests)
