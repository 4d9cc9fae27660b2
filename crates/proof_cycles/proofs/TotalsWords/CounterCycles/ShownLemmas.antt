-- What the exits of a group show.
use Rattle.std.proofs.Common.{◌≡◌, ◌≢◌, ◌∙◌, inl, inr, refl, sym, ap, ℕ, zero, suc, ◌+◌, ◌-◌, ◌*◌, ◌^◌, ◌<◌, ◌≤◌, ◌==◌, ◌&&◌, ◌||◌, nat_le, Bool, true, false, Some, List, [], ◌∷◌, length, All, arith, slice_index}
use Rattle.std.proofs.lemmas.Bool.{cases_lt}
use Rattle.std.proofs.lemmas.Bool.Decides.{eqb_tells, nat_tests}
use Rattle.std.proofs.lemmas.List.Elements.{All-head, All-tail}
use Rattle.hubs.specs.HubTable.Places.{is_width, positions_before}
use Rattle.hubs.specs.HubTable.Ranges.{is_within}
use Rattle.hubs.specs.declared.hub.Group.{Group}
use Rattle.hubs.specs.declared.hub.Hub.{Hub}
use Rattle.hubs.specs.declared.hub.Hub.TheVariants.{GX}
use Rattle.net.proofs.KindRows.{GX_numbered, numbered_in}
use Rattle.net.proofs.Rows.{is_hub-same}
use Rattle.net.specs.HubSets.{is_hub, is_same_number}
use Rattle.hubs.specs.Hubs.{number_of}
use Rattle.counters.specs.Counters.{shows}
use Rattle.counters.specs.Laws.{IsDigit}
use Rattle.counters.specs.Numbers.{number}
use Rattle.counters.specs.WholeCycles.{listed}
use Rattle.counters.proofs.NumberLemmas.{number-lt}
use Rattle.proof_cycles.specs.TotalsWords.CounterCycles.Acts.{digit_of}
use Rattle.proof_cycles.specs.TotalsWords.CounterCycles.Laws.{DigitsAndNumbers, GroupsShowTheirDigits}
use Rattle.proof_cycles.proofs.TotalsWords.CounterCycles.DigitLemmas.{digit_of-above, digit_of-below, digit_of-top, listed-number, number-within, spelt-digit, spelt-number, spelt-small}

-- whether two exits of a group are one, by their positions
is_hub-GX : (name : Group) (one other : ℕ) → is_width name.width ≡ true → is_within name.number 8 ≡ true
    → 1 ≤ one → one ≤ name.width → 1 ≤ other → other ≤ name.width → is_hub (GX name one) (GX name other) ≡ (one == other)
is_hub-GX name one other wide named from to least most =
    ap (λ m. is_same_number m (number_of (GX name other))) (GX_numbered name wide named one ∙ numbered_in start name.width one from to)
    ∙ ap (is_same_number (Some (start + one))) (GX_numbered name wide named other ∙ numbered_in start name.width other least most)
    ∙ shifted start one other
  where
    start : ℕ
    start = 190 + positions_before name.width + (name.number - 1) * name.width

    shifted : (n a b : ℕ) → (n + a == n + b) ≡ (a == b)
    shifted n a b = grind (arith, nat_tests)

-- the digit at a position among those with one before them
digit_more : (d m count position given : ℕ) → d ≤ 9 → m < 10 ^ count → 1 ≤ position
    → (((d == given) && (count + 1 == position)) || (nat_le position count && (digit_of m position == given)))
    ≡ (nat_le position (count + 1) && (digit_of (d * 10 ^ count + m) position == given))
digit_more d m count position given small below from = elim (eqb_tells (count + 1) position) [
  | inl same ↦
      let top : digit_of (d * 10 ^ count + m) position ≡ d = ap (digit_of (d * 10 ^ count + m)) (sym same.1) ∙ digit_of-top d m count small below in
      grind (arith, nat_tests, top, same.1)
  | inr other ↦ elim (cases_lt count position) [
    | inl above ↦ grind (arith, nat_tests, above, other.1)
    | inr within ↦
        let rest = digit_of-below d m count position from (omega (arith, within)) in
        grind (arith, nat_tests, rest, within, other.1)
  ]
]

-- the exit of a position among those of some lowest positions
shows-position : (name : Group) (given : ℕ) (ds : List ℕ) (position : ℕ) → is_width name.width ≡ true → is_within name.number 8 ≡ true
    → length ds ≤ name.width → All IsDigit ds → 1 ≤ position → position ≤ name.width
    → shows name given ds (GX name position) ≡ (nat_le position (length ds) && (digit_of (number ds) position == given))
shows-position name given [] position wide named long all from to = grind (arith, nat_tests, from)
shows-position name given (d ∷ ds) position wide named long all from to =
    let rest = All-tail IsDigit d ds all in
    ap (λ b. ((d == given) && b) || shows name given ds (GX name position))
    (is_hub-GX name (length ds + 1) position wide named (omega arith) (omega (arith, long)) from to)
    ∙ ap (λ b. ((d == given) && (length ds + 1 == position)) || b)
    (shows-position name given ds position wide named (omega (arith, long)) rest from to)
    ∙ digit_more d (number ds) (length ds) position given (All-head IsDigit d ds all) (number-lt ds rest) from
    ∙ ap (λ n. nat_le position n && (digit_of (number (d ∷ ds)) position == given)) one_more
  where
    one_more : length ds + 1 ≡ length (d ∷ ds)
    one_more = omega arith

-- no hub but the exits of a group shows its digits
shows-other : (name : Group) (given : ℕ) (ds : List ℕ) (hub : Hub)
    → ((position : ℕ) → 1 ≤ position → position ≤ length ds → GX name position ≢ hub) → shows name given ds hub ≡ false
shows-other name given [] hub none = refl
shows-other name given (d ∷ ds) hub none =
    by (is_hub (GX name (length ds + 1)) hub) refl
    (shows-other name given ds hub (λ position from to. none position from (omega (arith, to))))
  where
    by : (b : Bool) → is_hub (GX name (length ds + 1)) hub ≡ b → shows name given ds hub ≡ false
        → (((d == given) && b) || shows name given ds hub) ≡ false
    by true is rest = absurd (none (length ds + 1) (omega arith) (omega arith) (is_hub-same (GX name (length ds + 1)) hub is))
    by false is rest = grind (arith, nat_tests, rest)

-- the digit of a list of digits at a place
listed-at : (digit : ℕ → ℕ) (count position : ℕ) → 1 ≤ position → position ≤ count
    → slice_index (listed digit count) (count - position) ≡ digit position
listed-at digit zero position from to = absurd (omega (arith, from, to))
listed-at digit (suc count) position from to = elim (cases_lt count position) [
  | inl high ↦
      let place : suc count - position ≡ 0 = omega (arith, high) in
      let is : count + 1 ≡ position = omega (arith, high, to) in
      ap (slice_index (listed digit (suc count))) place ∙ ap digit is
  | inr low ↦
      let place : suc count - position ≡ suc (count - position) = omega (arith, low) in
      ap (slice_index (listed digit (suc count))) place ∙ listed-at digit count position from (omega (arith, low))
]

-- the digits of a list are those of its number
list-digit : (ds : List ℕ) (position : ℕ) → All IsDigit ds → 1 ≤ position → position ≤ length ds
    → slice_index ds (length ds - position) ≡ digit_of (number ds) position
list-digit ds position all from to =
    ap (λ ks. slice_index ks (length ds - position)) (listed-number ds all)
    ∙ listed-at (digit_of (number ds)) (length ds) position from to

pub groups-show : GroupsShowTheirDigits
groups-show counter is =
    let name = counter.name in
    let n = number counter.digits in
    record {
      small = number-within counter is;
      digits = λ position from to.
          ap (λ k. slice_index counter.digits (k - position)) (sym is.positions)
          ∙ list-digit counter.digits position is.digits from (omega (arith, to, is.positions));
      shown = λ given position from to.
          let within : nat_le position (length counter.digits) ≡ true = grind (arith, nat_tests, to, is.positions) in
          shows-position name given counter.digits position is.width is.named (omega (arith, is.positions)) is.digits from to
          ∙ ap (λ b. b && (digit_of n position == given)) within;
      others = λ given hub none.
          shows-other name given counter.digits hub (λ position from to. none position from (omega (arith, to, is.positions)));
    }

-- groups of one width that hold one number have the same digits
same-digits : (one other : List ℕ) → All IsDigit one → All IsDigit other → length one ≡ length other → number one ≡ number other → one ≡ other
same-digits one other all every long same =
    listed-number one all ∙ ap (λ n. listed (digit_of n) (length one)) same ∙ ap (listed (digit_of (number other))) long
    ∙ sym (listed-number other every)

pub digits-tell : DigitsAndNumbers
digits-tell = record {
  same = λ one other is are wide same.
      same-digits one.digits other.digits is.digits are.digits (is.positions ∙ wide ∙ sym are.positions) same;
  of_list = list-digit;
  above = digit_of-above;
  of_spelt = spelt-digit;
  of_number = spelt-number;
  small = spelt-small;
}
