-- What may emit at the rows in a kind of cycle: whole rows of exits, and what all contacts tell together.
use Rattle.std.proofs.Common.{⊎_elim, ◌≡◌, ◌∙◌, ℕ, ◌+◌, ◌-◌, ◌*◌, ◌/◌, ◌%◌, ◌^◌, ◌<◌, ◌≤◌, ◌&&◌, ◌⊎◌, inl, inr, Bool, true, false, List, Option, Some, None, refl, sym, ap, subst, arith, replicate}
use Rattle.std.specs.Prelude.{◌==◌, is_some, nat_le, if◌then◌else◌, option_map}
use Rattle.std.proofs.Math.Pow.{pow-sub-lt}
use Rattle.std.proofs.lemmas.Bool.{and_from, cases_lt, false≢true, or_cases, or_left, or_right}
use Rattle.std.proofs.lemmas.Bool.Decides.{nat_tests}
use Rattle.std.proofs.lemmas.List.{get_or-replicate}
use Rattle.std.proofs.lemmas.Nat.{one_shl}
use Rattle.std.proofs.lemmas.Nat.Bits.{bit_at_ones}
use Rattle.std.proofs.lemmas.Option.{same_Some}
use Rattle.hubs.specs.HubTable.Places.{is_width, part_place, positions_before, row_place, up_to}
use Rattle.hubs.specs.HubTable.Ranges.{is_within}
use Rattle.hubs.proofs.HubLemmas.{number_of-range}
use Rattle.hubs.specs.Hubs.{group_of, is_hub_in_range, number_of}
use Rattle.hubs.specs.declared.hub.Hub.{Hub}
use Rattle.hubs.specs.declared.hub.Hub.TheVariants.{FR, SR, GX, SX, EM, PL, RO, SI, SO}
use Rattle.hubs.specs.SetupsWords.Wiring.{LeadsToEntries, Wiring}
use Rattle.machine_sets.proofs.BitSets.PlaceLemmas.{has_place-word}
use Rattle.machine_sets.specs.BitSets.Bits.{has_place, is_bit}
use Rattle.net.specs.HubSets.{GainsHubs, HubSet, has_hub, is_bit_from, is_in_reach, is_in_row, is_near}
use Rattle.net.specs.Kinds.{HasEmitter, HasEmitting, HasGroups, HasOrders, HasUnits, HasUntold, KeepsHubs, MayBeTold}
use Rattle.net.specs.Nets.{IsNetOf}
use Rattle.net.specs.Orders.{AreOrdersOf, IsRowOf}
use Rattle.net.specs.Tellings.{AreBranches, AreLast, is_branch, is_led_at, is_told}
use Rattle.net.specs.Tells.{kind_of, tells}
use Rattle.net.specs.declared.cycle.Cycle.{Cycle}
use Rattle.net.specs.declared.cycle.Cycle.TheVariants.{RunIn, Card, Prog, Head}
use Rattle.net.specs.declared.orders.Orders.{Orders}
use Rattle.net.specs.declared.tellings.Branch.{Branch}
use Rattle.net.proofs.ImpulsedLaws.{empty_picture, impulsed_more}
use Rattle.net.proofs.KindRows.{FR_numbered, GX_numbered, SR_numbered, SX_numbered, by_two, numbered_at, row_own}
use Rattle.net.proofs.ToldPictures.{tells-kind, told-picture}

-- each bit below is set
ones : (last k : ℕ) → k < last → is_bit (2 ^ last - 1) k ≡ true
unfolding is_bit
ones last k low = ap (λ (bit : ℕ). bit == 1) (bit_at_ones last k low)

-- a word of ones has each hub in reach
pub row-ones : (first : Hub) → IsRowOf first (λ hub. true) (2 ^ 128 - 1)
row-ones first hub near = by (number_of first) (number_of hub) near where
  by : (f n : Option ℕ) → is_near f n ≡ true → is_bit_from f (2 ^ 128 - 1) n ≡ true
  by (Some f) (Some n) e =
      let range : (nat_le f n ≡ true) × (n - f < 128) = grind (arith, nat_tests, e) in and_from (nat_le f n) _ range.0 (ones 128 (n - f) range.1)
  by (Some f) None e = absurd (false≢true e)
  by None n e = absurd (false≢true e)

-- a whole row has each of its hubs
full-row : (at : ℕ → Hub) (start last n : ℕ) → ((k : ℕ) → number_of (at k) ≡ numbered_at start last k) → 1 ≤ last
    → is_hub_in_range (at n) ≡ true → is_in_row (at 1) (2 ^ last - 1) (at n) ≡ true
full-row at start last n numbered some there =
    row_own at start last numbered (2 ^ last - 1) n some (pow-sub-lt last (omega arith)) ∙ and_from (is_within n last) _ within (ones last (n - 1) low)
  where
    within : is_within n last ≡ true
    within = by (is_within n last) (ap is_some (sym (numbered n)) ∙ there) where
      by : (b : Bool) → is_some (if b then Some (start + n) else None) ≡ true → b ≡ true
      by true e = refl
      by false e = absurd (false≢true e)

    low : n - 1 < last
    low = grind (arith, nat_tests, within)

-- so has that of a station
pub FR-row : (column : ℕ) → is_hub_in_range (FR column) ≡ true → is_in_row (FR 1) (2 ^ 80 - 1) (FR column) ≡ true
FR-row column there = full-row FR 0 80 column FR_numbered (omega arith) there

pub SR-row : (column : ℕ) → is_hub_in_range (SR column) ≡ true → is_in_row (SR 1) (2 ^ 80 - 1) (SR column) ≡ true
SR-row column there = full-row SR 80 80 column SR_numbered (omega arith) there

-- of a storage unit
SX-unit : (unit column : ℕ) → is_hub_in_range (SX unit column) ≡ true → is_within unit 4 ≡ true
SX-unit unit column there = grind (arith, nat_tests, there)

pub SX-row : (unit column : ℕ) → is_hub_in_range (SX unit column) ≡ true → is_in_row (SX unit 1) (2 ^ 16 - 1) (SX unit column) ≡ true
SX-row unit column there =
    full-row (SX unit) (742 + (unit - 1) * 16) 16 column (SX_numbered unit (SX-unit unit column there)) (omega arith) there

-- of a counter group
record IsGroup (width number : ℕ) : Type 0 where
  is_one : is_width width ≡ true
  within : is_within number 8 ≡ true

GX-group : (width number position : ℕ) → is_hub_in_range (GX (group_of width number) position) ≡ true → IsGroup width number
GX-group width number position there = by (is_width width) (is_within number 8) (is_within position width) refl refl there where
  by : (a b c : Bool) → is_width width ≡ a → is_within number 8 ≡ b
      → is_some (option_map (λ (p : ℕ). 190 + p) (if a && (b && c) then Some (positions_before width + (number - 1) * width + position) else None)) ≡ true
      → IsGroup width number
  by true true c is and_is e = record { is_one = is; within = and_is }
  by true false c is and_is e = absurd (false≢true e)
  by false b c is and_is e = absurd (false≢true e)

pub GX-row : (width number position : ℕ) → is_hub_in_range (GX (group_of width number) position) ≡ true
    → is_in_row (GX (group_of width number) 1) (1 * 2 ^ width % 2 ^ 128 - 1) (GX (group_of width number) position) ≡ true
GX-row width number position there =
    let group = GX-group width number position there in
    let some : 1 ≤ width = wide width group.is_one in
    ap (λ (power : ℕ). is_in_row (GX (group_of width number) 1) (power - 1) (GX (group_of width number) position))
    (one_shl width 128 (narrow width group.is_one))
    ∙ full-row (GX (group_of width number)) (190 + positions_before width + (number - 1) * width) width position
    (GX_numbered (group_of width number) group.is_one group.within) some there
  where
    wide : (w : ℕ) → is_width w ≡ true → 1 ≤ w
    wide w e = grind (arith, nat_tests, e)

    narrow : (w : ℕ) → is_width w ≡ true → w < 128
    narrow w e = grind (arith, nat_tests, e)

-- and of an emitter, by the card row at a place; no card row is at place 0
abbrev row_at : ℕ → ℕ
row_at n = if n == 0 then 10 else if nat_le n 10 then n - 1 else n

row_at-place : (n : ℕ) → row_place (row_at n) ≡ up_to 12 n
row_at-place n = grind (arith, nat_tests)

EM-emitter : (emitter row : ℕ) → is_hub_in_range (EM emitter row) ≡ true → is_within emitter 8 ≡ true
EM-emitter emitter row there = grind (arith, nat_tests, there)

row_at-row : (emitter row : ℕ) → is_hub_in_range (EM emitter row) ≡ true → row_at (if nat_le row 9 then row + 1 else row) ≡ row
row_at-row emitter row there = by (up_to 8 emitter) row there where
  by : (found : Option ℕ) (r : ℕ) → is_some (option_map (λ (p : ℕ). 928 + p) (part_place 12 found (row_place r))) ≡ true
      → row_at (if nat_le r 9 then r + 1 else r) ≡ r
  by (Some e) r is = grind (arith, nat_tests, is)
  by None r is = absurd (false≢true is)

pub EM-row : (emitter row : ℕ) → is_hub_in_range (EM emitter row) ≡ true → is_in_row (EM emitter 0) (2 ^ 12 - 1) (EM emitter row) ≡ true
EM-row emitter row there =
    let same = row_at-row emitter row there in
    subst (λ (r : ℕ). is_in_row (EM emitter 0) (2 ^ 12 - 1) (EM emitter r) ≡ true) same
    (full-row (λ n. EM emitter (row_at n)) (928 + (emitter - 1) * 12) 12 (if nat_le row 9 then row + 1 else row)
    (λ k. ap (λ (place : Option ℕ). option_map (λ (p : ℕ). 928 + p) (part_place 12 (up_to 8 emitter) place)) (row_at-place k)
    ∙ by_two 928 8 12 emitter k (EM-emitter emitter row there))
    (omega arith) (ap (λ (r : ℕ). is_hub_in_range (EM emitter r)) same ∙ there))

-- the hubs by which they are told to read out are in reach of the rows of orders
RO-reach : (width number : ℕ) → IsGroup width number → is_in_reach (PL (group_of 3 1)) (RO (group_of width number)) ≡ true
RO-reach width number group = let is_one = group.is_one in let within = group.within in grind (arith, nat_tests, is_one, within)

SO-reach : (unit : ℕ) → is_within unit 4 ≡ true → is_in_reach (SI 1) (SO unit) ≡ true
SO-reach unit within = grind (arith, nat_tests, within)

-- what is gained
pub KeepsHubs-gains : (test : Hub → Bool) (old new : HubSet) → GainsHubs test old new → KeepsHubs old new
KeepsHubs-gains test old new gains hub on = gains hub ∙ or_left (has_hub old hub) _ on

pub gained : (test : Hub → Bool) (old new : HubSet) → GainsHubs test old new → (hub : Hub) → test hub ≡ true → has_hub new hub ≡ true
gained test old new gains hub on = gains hub ∙ or_right (has_hub old hub) _ on

-- outside card cycles no station emits
pub HasUntold-later : (cycle : Cycle) (kind : ℕ) (set : HubSet) → kind_of cycle ≡ Some kind → 0 < kind → HasEmitter cycle set
    → HasUntold cycle set
HasUntold-later RunIn kind set is later emitter = cc
HasUntold-later Card kind set is later emitter = let same = same_Some 0 kind is in absurd (omega (arith, later, same))
HasUntold-later (Prog level ordinal) kind set is later emitter =
    record { first = λ e. absurd (false≢true e); second = λ e. absurd (false≢true e); emitter = emitter }
HasUntold-later (Head heading) kind set is later emitter =
    record { first = λ e. absurd (false≢true e); second = λ e. absurd (false≢true e); emitter = emitter }

-- one group more
pub HasGroups-more : (width number : ℕ) (told old new : HubSet) → KeepsHubs old new
    → (has_hub told (RO (group_of width number)) ≡ true → (position : ℕ) → is_hub_in_range (GX (group_of width number) position) ≡ true
    → has_hub new (GX (group_of width number) position) ≡ true)
    → HasGroups width number told old → HasGroups width (number + 1) told new
HasGroups-more width number told old new keeps here before n position low there on = ⊎_elim
    (λ (below : n < number). keeps (GX (group_of width n) position) (before n position below there on))
    (λ above.
    let same : number ≡ n = omega (arith, low, above) in
    subst (λ (m : ℕ). has_hub told (RO (group_of width m)) ≡ true → (p : ℕ) → is_hub_in_range (GX (group_of width m) p) ≡ true
    → has_hub new (GX (group_of width m) p) ≡ true) same here on position there)
    (cases_lt n number)

-- one storage unit more
pub HasUnits-more : (number : ℕ) (told old new : HubSet) → KeepsHubs old new
    → (has_hub told (SO number) ≡ true → (column : ℕ) → is_hub_in_range (SX number column) ≡ true → has_hub new (SX number column) ≡ true)
    → HasUnits number told old → HasUnits (number + 1) told new
HasUnits-more number told old new keeps here before unit column low there on = ⊎_elim
    (λ (below : unit < number). keeps (SX unit column) (before unit column below there on))
    (λ above.
    let same : number ≡ unit = omega (arith, low, above) in
    subst (λ (m : ℕ). has_hub told (SO m) ≡ true → (c : ℕ) → is_hub_in_range (SX m c) ≡ true → has_hub new (SX m c) ≡ true) same here on
    column there)
    (cases_lt unit number)

-- Where groups of one width after another are added, and then the storage units, the set has what may emit.
module _ (wiring : Wiring) (cycle : Cycle) (told untold three four six eight exits : HubSet) (has : HasUntold cycle untold)
    (to_three : KeepsHubs untold three) (threes : HasGroups 3 9 told three) (to_four : KeepsHubs three four) (fours : HasGroups 4 9 told four)
    (to_six : KeepsHubs four six) (sixes : HasGroups 6 9 told six) (to_eight : KeepsHubs six eight) (eights : HasGroups 8 9 told eight)
    (to_exits : KeepsHubs eight exits) (units : HasUnits 5 told exits) (orders : HasOrders (MayBeTold wiring cycle) told) where
  after_six : KeepsHubs six exits
  after_six hub on = to_exits hub (to_eight hub on)

  after_three : KeepsHubs three exits
  after_three hub on = after_six hub (to_six hub (to_four hub on))

  few : (n last : ℕ) → is_within n last ≡ true → n < last + 1
  few n last e = grind (arith, nat_tests, e)

  by_width : (width number position : ℕ) → is_width width ≡ true → number < 9 → is_hub_in_range (GX (group_of width number) position) ≡ true
      → has_hub told (RO (group_of width number)) ≡ true → has_hub exits (GX (group_of width number) position) ≡ true
  by_width width number position is low there on = of_width (widths width is) where
    widths : (w : ℕ) → is_width w ≡ true → (3 ≡ w) ⊎ ((4 ≡ w) ⊎ ((6 ≡ w) ⊎ (8 ≡ w)))
    widths w e = grind (arith, nat_tests, e)

    of_one : (w : ℕ) (set : HubSet) → HasGroups w 9 told set → KeepsHubs set exits → w ≡ width
        → has_hub exits (GX (group_of width number) position) ≡ true
    of_one w set all keeps same =
        keeps (GX (group_of width number) position) (subst (λ (v : ℕ). HasGroups v 9 told set) same all number position low there on)

    of_width : (3 ≡ width) ⊎ ((4 ≡ width) ⊎ ((6 ≡ width) ⊎ (8 ≡ width))) → has_hub exits (GX (group_of width number) position) ≡ true
    of_width (inl same) = of_one 3 three threes after_three same
    of_width (inr (inl same)) = of_one 4 four fours (λ hub on. after_six hub (to_six hub on)) same
    of_width (inr (inr (inl same))) = of_one 6 six sixes after_six same
    of_width (inr (inr (inr same))) = of_one 8 eight eights to_exits same

  untold_kept : KeepsHubs untold exits
  untold_kept hub on = after_three hub (to_three hub on)

  pub HasEmitting-all : HasEmitting wiring cycle exits
  HasEmitting-all (FR column) there may = untold_kept (FR column) (has.first may column there)
  HasEmitting-all (SR column) there may = untold_kept (SR column) (has.second may column there)
  HasEmitting-all (EM emitter row) there may = untold_kept (EM emitter row) (has.emitter emitter row may there)
  HasEmitting-all (GX group position) there may =
      let is = GX-group group.width group.number position there in
      by_width group.width group.number position is.is_one (few group.number 8 is.within) there
      (orders (RO group) (or_left _ _ (RO-reach group.width group.number is)) may)
  HasEmitting-all (SX unit column) there may =
      let is = SX-unit unit column there in
      units unit column (few unit 4 is) there (orders (SO unit) (or_right (is_in_reach (PL (group_of 3 1)) (SO unit)) _ (SO-reach unit is)) may)
  HasEmitting-all hub there may = absurd may

-- in the run-in nothing is told, and the first station alone emits
pub HasEmitting-first : (wiring : Wiring) (set : HubSet)
    → ((column : ℕ) → is_hub_in_range (FR column) ≡ true → has_hub set (FR column) ≡ true) → HasEmitting wiring RunIn set
HasEmitting-first wiring set has = by where
  untold : (hub : Hub) → MayBeTold wiring RunIn hub → ⊥
  untold hub may = false≢true ((empty_picture wiring (tells RunIn) may.0 (λ other. refl) hub).1 may.1)

  by : HasEmitting wiring RunIn set
  by (FR column) there may = has column there
  by (SR column) there may = absurd (false≢true may)
  by (EM emitter row) there may = cc
  by (GX group position) there may = absurd (untold (RO group) may)
  by (SX unit column) there may = absurd (untold (SO unit) may)
  by hub there may = absurd may

-- what orders tell
pub HasOrders-rows : (orders : Orders) (none some told : HubSet) → GainsHubs (is_in_row (PL (group_of 3 1)) orders.controls) none some
    → GainsHubs (is_in_row (SI 1) orders.storage) some told → (picture : Hub → Bool) → AreOrdersOf picture orders
    → HasOrders (λ hub. picture hub ≡ true) told
HasOrders-rows orders none some told controls storage picture are hub near on = ⊎_elim
    (λ first. KeepsHubs-gains _ some told storage hub (gained _ none some controls hub (are.controls hub first ∙ on)))
    (λ second. gained _ some told storage hub (are.storage hub second ∙ on))
    (or_cases (is_in_reach (PL (group_of 3 1)) hub) _ near)

-- every place is one of the words of ones
pub every-place : (place : ℕ) → place < 1984 → has_place (replicate 31 (2 ^ 64 - 1)) place ≡ true
every-place place low =
    has_place-word (replicate 31 (2 ^ 64 - 1)) place
    ∙ ap (λ (word : ℕ). is_bit word (place % 64)) (get_or-replicate 31 (place / 64) (2 ^ 64 - 1) 0 (omega (arith, low))) ∙ ones 64 (place % 64) (omega arith)

-- what may be told is told where all contacts are closed
pub may-be-told : (wiring : Wiring) (rows : List (List ℕ)) (cycle : Cycle) (kind : ℕ) (shut : ℕ → Bool) (branches : List Branch)
    → IsNetOf wiring (record { rows = rows }) → LeadsToEntries wiring → kind_of cycle ≡ Some kind → kind < 16
    → AreBranches 1041 rows (is_led_at rows (1024 + kind)) branches → AreLast shut branches → ((place : ℕ) → place < 1984 → shut place ≡ true)
    → (hub : Hub) → MayBeTold wiring cycle hub → is_told (is_led_at rows (1024 + kind)) (is_led_at rows) shut branches hub ≡ true
may-be-told wiring rows cycle kind shut branches is_net to_entries is few are last all hub may =
    (told-picture wiring (record { rows = rows }) is_net to_entries (1024 + kind) (omega (arith, few)) (tells cycle) (λ other. true) shut branches
    (tells-kind cycle kind is) closes are last hub).1
    (impulsed_more wiring (tells cycle) (tells cycle) may.0 (λ other. true) (λ other emits. emits) (λ other on. refl) may.1)
  where
    closes : (other : Hub) (n : ℕ) → number_of other ≡ Some (n + 1) → is_branch branches (n + 1) ≡ true → true ≡ shut n
    closes other n numbered listed =
        let range = number_of-range other (n + 1) numbered in
        let last_one = range.1 in
        sym (all n (omega (arith, last_one)))
