-- Rows of hubs of one kind: the hubs of a station's columns, of a unit's columns or of a group's positions follow one another.
-- Stated once for hubs that are numbered one after another; then the kinds whose hubs are.
use Rattle.std.proofs.Common.{◌≡◌, ◌≢◌, ◌∙◌, ap, refl, ℕ, ◌+◌, ◌-◌, ◌*◌, ◌^◌, ◌<◌, ◌≤◌, ◌&&◌, Bool, true, false, Option, Some, None, arith}
use Rattle.std.specs.Prelude.{if◌then◌else◌, option_map}
use Rattle.std.proofs.lemmas.Bool.Decides.{nat_tests}
use Rattle.hubs.specs.Hubs.{number_of}
use Rattle.hubs.specs.HubTable.Places.{up_to, part_place, position_place, positions_before, group_place, is_width}
use Rattle.hubs.specs.HubTable.Ranges.{is_within}
use Rattle.hubs.specs.declared.hub.Group.{Group}
use Rattle.hubs.specs.declared.hub.Hub.{Hub}
use Rattle.hubs.specs.declared.hub.Hub.TheVariants.{FR, SR, CX, GX, BAN, BAT, PIN, PIT, SX, IX, CA, CB, GE, PIC, PIX, SE, IE, W}
use Rattle.net.specs.HubSets.{HubSet, has_hub, is_bit, is_bit_from, is_in_reach, is_in_row}
use Rattle.net.proofs.Rows.{row_here, row_elsewhere, row_read}

-- the number of the n-th of so many hubs after so many others; none out of range
abbrev pub numbered_at : ℕ → ℕ → ℕ → Option ℕ
numbered_at start last n = if is_within n last then Some (start + n) else None

-- in range there is the number
pub numbered_in : (start last n : ℕ) → 1 ≤ n → n ≤ last → numbered_at start last n ≡ Some (start + n)
numbered_in start last n from to =
    let within : is_within n last ≡ true = grind (arith, nat_tests) in
    ap (λ b. if b then Some (start + n) else None) within

-- Hubs that are numbered one after another, from 1 to the last.
module _ (at : ℕ → Hub) (start last : ℕ) (numbered : (n : ℕ) → number_of (at n) ≡ numbered_at start last n) where
  after : 1 ≤ last → (k : ℕ) → k < last → number_of (at (k + 1)) ≡ Some (start + 1 + k)
  after some k low =
      let index : start + (k + 1) ≡ start + 1 + k = omega arith in
      numbered (k + 1) ∙ numbered_in start last (k + 1) (omega arith) (omega arith) ∙ ap Some index

  first_is : 1 ≤ last → number_of (at 1) ≡ Some (start + 1)
  first_is some = numbered 1 ∙ numbered_in start last 1 (omega arith) some

  -- a hub that is none of them is not in their row
  pub row_other : (bits : ℕ) (hub : Hub) → 1 ≤ last → bits < 2 ^ last → ((n : ℕ) → at n ≢ hub)
      → is_in_row (at 1) bits hub ≡ false
  row_other bits hub some small none =
      row_elsewhere (at 1) hub (λ k. at (k + 1)) (start + 1) last bits (first_is some) small (after some)
      (λ k low. none (k + 1))

  -- one of them is in their row where its bit is set
  pub row_own : (bits n : ℕ) → 1 ≤ last → bits < 2 ^ last
      → is_in_row (at 1) bits (at n) ≡ (is_within n last && is_bit bits (n - 1))
  row_own bits n some small = by (is_within n last) refl where
    by : (b : Bool) → is_within n last ≡ b → is_in_row (at 1) bits (at n) ≡ (b && is_bit bits (n - 1))
    by true within =
        let from : 1 ≤ n = grind (arith, nat_tests, within) in
        let to : n ≤ last = grind (arith, nat_tests, within) in
        let index : start + n ≡ start + 1 + (n - 1) = omega arith in
        row_here (at 1) (at n) (start + 1) (n - 1) bits (first_is some)
        (numbered n ∙ numbered_in start last n from to ∙ ap Some index)
    by false within =
        ap (is_bit_from (number_of (at 1)) bits) (numbered n ∙ ap (λ b. if b then Some (start + n) else None) within)
        ∙ none (number_of (at 1)) where
          none : (m : Option ℕ) → is_bit_from m bits None ≡ false
          none (Some m) = refl
          none None = refl

  -- what a row that was read says of one of them
  pub row_bit : (bits n : ℕ) (set : HubSet) → is_within n last ≡ true → last ≤ 128
      → ((other : Hub) → is_in_reach (at 1) other ≡ true → is_in_row (at 1) bits other ≡ has_hub set other)
      → is_bit bits (n - 1) ≡ has_hub set (at n)
  row_bit bits n set within near read =
      let from : 1 ≤ n = grind (arith, nat_tests, within) in
      let to : n ≤ last = grind (arith, nat_tests, within) in
      let index : start + n ≡ start + 1 + (n - 1) = omega arith in
      row_read (at 1) (at n) (start + 1) (n - 1) bits (has_hub set) (first_is (omega arith))
      (numbered n ∙ numbered_in start last n from to ∙ ap Some index) (omega arith) read

-- the numbers of a kind that has one number
by_one : (before last n : ℕ) → option_map (λ (place : ℕ). before + place) (up_to last n) ≡ numbered_at before last n
by_one before last n = by (is_within n last) where
  by : (b : Bool) → option_map (λ (place : ℕ). before + place) (if b then Some n else None)
      ≡ (if b then Some (before + n) else None)
  by true = refl
  by false = refl

-- the numbers of the parts of a thing
by_part : (before parts thing n : ℕ)
    → option_map (λ (place : ℕ). before + place) (part_place parts (Some thing) (up_to parts n))
    ≡ numbered_at (before + (thing - 1) * parts) parts n
by_part before parts thing n = by (is_within n parts) where
  by : (b : Bool)
      → option_map (λ (place : ℕ). before + place) (part_place parts (Some thing) (if b then Some n else None))
      ≡ (if b then Some (before + (thing - 1) * parts + n) else None)
  by true = let e : before + ((thing - 1) * parts + n) ≡ before + (thing - 1) * parts + n = omega arith in ap Some e
  by false = refl

-- the numbers of the parts of a thing in range
pub by_two : (before things parts thing n : ℕ) → is_within thing things ≡ true
    → option_map (λ (place : ℕ). before + place) (part_place parts (up_to things thing) (up_to parts n))
    ≡ numbered_at (before + (thing - 1) * parts) parts n
by_two before things parts thing n within =
    ap (λ b. option_map (λ (place : ℕ). before + place)
    (part_place parts (if b then Some thing else None) (up_to parts n))) within
    ∙ by_part before parts thing n

-- the numbers of the parts of a counter group
by_group : (before parts place n : ℕ) (group : Group) → group_place group.width group.number ≡ Some place
    → option_map (λ (p : ℕ). before + p) (part_place parts (group_place group.width group.number) (up_to parts n))
    ≡ numbered_at (before + (place - 1) * parts) parts n
by_group before parts place n group is =
    ap (λ g. option_map (λ (p : ℕ). before + p) (part_place parts g (up_to parts n))) is ∙ by_part before parts place n

-- the numbers of the positions of a counter group
by_positions : (before n : ℕ) (group : Group) → is_width group.width ≡ true → is_within group.number 8 ≡ true
    → option_map (λ (p : ℕ). before + p) (position_place group.width group.number n)
    ≡ numbered_at (before + positions_before group.width + (group.number - 1) * group.width) group.width n
by_positions before n group is_one within =
    by (is_width group.width) (is_within group.number 8) (is_within n group.width) (positions_before group.width)
    ((group.number - 1) * group.width) is_one within where
      by : (a b c : Bool) (p q : ℕ) → a ≡ true → b ≡ true
          → option_map (λ (r : ℕ). before + r) (if a && (b && c) then Some (p + q + n) else None)
          ≡ (if c then Some (before + p + q + n) else None)
      by true true true p q e f =
          let index : before + (p + q + n) ≡ before + p + q + n = omega arith in ap Some index
      by true true false p q e f = refl
      by true false c p q e f = cc
      by false b c p q e f = cc

-- The kinds.

pub FR_numbered : (n : ℕ) → number_of (FR n) ≡ numbered_at 0 80 n
FR_numbered n = by_one 0 80 n

pub SR_numbered : (n : ℕ) → number_of (SR n) ≡ numbered_at 80 80 n
SR_numbered n = by_one 80 80 n

pub CX_numbered : (n : ℕ) → number_of (CX n) ≡ numbered_at 160 30 n
CX_numbered n = by_one 160 30 n

pub CA_numbered : (n : ℕ) → number_of (CA n) ≡ numbered_at 1040 30 n
CA_numbered n = by_one 1040 30 n

pub CB_numbered : (n : ℕ) → number_of (CB n) ≡ numbered_at 1070 30 n
CB_numbered n = by_one 1070 30 n

pub PIX_numbered : (n : ℕ) → number_of (PIX n) ≡ numbered_at 1604 16 n
PIX_numbered n = by_one 1604 16 n

pub W_numbered : (n : ℕ) → number_of (W n) ≡ numbered_at 1798 120 n
W_numbered n = by_one 1798 120 n

pub PIN_numbered : (pilot : ℕ) → is_within pilot 16 ≡ true → (n : ℕ)
    → number_of (PIN pilot n) ≡ numbered_at (646 + (pilot - 1) * 3) 3 n
PIN_numbered pilot within n = by_two 646 16 3 pilot n within

pub PIT_numbered : (pilot : ℕ) → is_within pilot 16 ≡ true → (n : ℕ)
    → number_of (PIT pilot n) ≡ numbered_at (694 + (pilot - 1) * 3) 3 n
PIT_numbered pilot within n = by_two 694 16 3 pilot n within

pub PIC_numbered : (pilot : ℕ) → is_within pilot 16 ≡ true → (n : ℕ)
    → number_of (PIC pilot n) ≡ numbered_at (1556 + (pilot - 1) * 3) 3 n
PIC_numbered pilot within n = by_two 1556 16 3 pilot n within

pub SX_numbered : (unit : ℕ) → is_within unit 4 ≡ true → (n : ℕ)
    → number_of (SX unit n) ≡ numbered_at (742 + (unit - 1) * 16) 16 n
SX_numbered unit within n = by_two 742 4 16 unit n within

pub SE_numbered : (unit : ℕ) → is_within unit 4 ≡ true → (n : ℕ)
    → number_of (SE unit n) ≡ numbered_at (1620 + (unit - 1) * 16) 16 n
SE_numbered unit within n = by_two 1620 4 16 unit n within

pub IX_numbered : (level : ℕ) → is_within level 3 ≡ true → (n : ℕ)
    → number_of (IX level n) ≡ numbered_at (806 + (level - 1) * 30) 30 n
IX_numbered level within n = by_two 806 3 30 level n within

pub IE_numbered : (level : ℕ) → is_within level 3 ≡ true → (n : ℕ)
    → number_of (IE level n) ≡ numbered_at (1692 + (level - 1) * 30) 30 n
IE_numbered level within n = by_two 1692 3 30 level n within

pub BAN_numbered : (group : Group) (place : ℕ) → group_place group.width group.number ≡ Some place → (n : ℕ)
    → number_of (BAN group n) ≡ numbered_at (390 + (place - 1) * 4) 4 n
BAN_numbered group place is n = by_group 390 4 place n group is

pub BAT_numbered : (group : Group) (place : ℕ) → group_place group.width group.number ≡ Some place → (n : ℕ)
    → number_of (BAT group n) ≡ numbered_at (518 + (place - 1) * 4) 4 n
BAT_numbered group place is n = by_group 518 4 place n group is

pub GX_numbered : (group : Group) → is_width group.width ≡ true → is_within group.number 8 ≡ true → (n : ℕ)
    → number_of (GX group n)
    ≡ numbered_at (190 + positions_before group.width + (group.number - 1) * group.width) group.width n
GX_numbered group is_one within n = by_positions 190 n group is_one within

pub GE_numbered : (group : Group) → is_width group.width ≡ true → is_within group.number 8 ≡ true → (n : ℕ)
    → number_of (GE group n)
    ≡ numbered_at (1100 + positions_before group.width + (group.number - 1) * group.width) group.width n
GE_numbered group is_one within n = by_positions 1100 n group is_one within
