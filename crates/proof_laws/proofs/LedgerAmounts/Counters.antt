-- What is asked of a counter of one group or of two, as the movement of its number.
use Rattle.std.proofs.Common.{◌≡◌, ◌∙◌, refl, sym, ap, subst, ℕ, ◌+◌, ◌*◌, ◌^◌, ◌<◌, ◌==◌, ◌&&◌, ◌||◌, not, Bool, true, false, List, [], ◌∷◌, ◌++◌, All, length, arith, if◌then◌else◌}
use Rattle.std.proofs.lemmas.Bool.Decides.{nat_tests}
use Rattle.std.proofs.lemmas.List.{length-append}
use Rattle.std.proofs.lemmas.List.Elements.{All-append}
use Rattle.counters.proofs.Carries.{carries_out-append, carries_out-split}
use Rattle.counters.proofs.EarliestRows.{earliest-entered, points-stay}
use Rattle.counters.proofs.Idle.{idle-carries_out}
use Rattle.counters.proofs.NumberLemmas.{number-lt}
use Rattle.counters.proofs.Pairs.{number-append}
use Rattle.counters.specs.Counters.{Counter, controls_of, wheel_of, wheels_in, wheels_of}
use Rattle.counters.specs.Laws.{IsCounter, IsDigit, number_of_both}
use Rattle.counters.specs.Numbers.{number}
use Rattle.counters.specs.Rings.{CarryThrough}
use Rattle.counters.specs.Wheels.{Wheel, all_nines, carries_out, passes, stands}
use Rattle.counters.specs.WholeCycles.{ComesRound, after_its_points, digits_given}
use Rattle.counters.specs.declared.controls.Controls.{Controls}
use Rattle.hubs.specs.HubTable.Places.{is_width}
use Rattle.hubs.specs.declared.hub.Group.{Group}
use Rattle.hubs.specs.declared.hub.Hub.{Hub}
use Rattle.hubs.specs.declared.hub.Hub.TheVariants.{CI}
use Rattle.explain_ledgers.specs.LedgersWords.Entries.{are_one, carry_leaves, joined, movement_of_both, movement_of_one, power_of, same}
use Rattle.net.specs.Cycles.{points}
use Rattle.net.specs.declared.cycle.Cycle.{Cycle}
use Rattle.net.specs.declared.cycle.Point.{Point}
use Rattle.net.specs.declared.cycle.Point.TheVariants.{C, K}
use Rattle.proof_cycles.proofs.TotalsWords.CounterCycles.ActLemmas.{controls_of-act}
use Rattle.proof_cycles.proofs.TotalsWords.CounterCycles.DigitLemmas.{number-within}
use Rattle.proof_cycles.proofs.TotalsWords.CounterCycles.EntryLemmas.{given-number}
use Rattle.proof_cycles.proofs.TotalsWords.CounterCycles.PairLemmas.{both-given}
use Rattle.proof_cycles.specs.TotalsWords.CounterCycles.Acts.{Act, Asks, Entered, IsWithinGroup, act_controls}
use Rattle.proof_cycles.specs.TotalsWords.CounterCycles.Acts.Act.{Still, Test, Turn, Show, Plus, Minus}
use Rattle.proof_cycles.specs.TotalsWords.CounterCycles.Pairs.{AsksBoth, EnteredInBoth}
use Rattle.proof_cycles.specs.WholeCycles.Between.{IsIdle}
use Rattle.proof_laws.proofs.LedgerAmounts.Groups.{same-numbers}
use Rattle.proof_laws.proofs.LedgerAmounts.Moves.{IsEntered, Moves, enters}

no-step : (out nine below : Bool) → out ≡ false → below ≡ false → (out || (nine && below)) ≡ false
no-step out nine below o b = grind (arith, nat_tests, o, b)

-- from wheels that nothing is entered into no carry leaves, read out or not
read-carries_out : (controls : Controls) (ds es : List ℕ) → controls.read_out ≡ true → controls.minus ≡ false → controls.plus ≡ false
    → carries_out (wheels_of controls ds es) false ≡ false
read-carries_out controls [] es read minus plus = refl
read-carries_out controls (d ∷ ds) [] read minus plus = refl
read-carries_out controls (d ∷ ds) (e ∷ es) read minus plus =
    no-step (passes (wheel_of controls d e)) (stands (wheel_of controls d e) == 9) (carries_out (wheels_of controls ds es) false)
    (grind (arith, nat_tests, read, minus, plus)) (read-carries_out controls ds es read minus plus)

quiet-wheels : (controls : Controls) (ds es : List ℕ) → controls.plus ≡ false → controls.minus ≡ false → All IsDigit ds
    → carries_out (wheels_of controls ds es) false ≡ false
quiet-wheels controls ds es plus minus digits = by controls.read_out refl
  where
    by : (b : Bool) → controls.read_out ≡ b → carries_out (wheels_of controls ds es) false ≡ false
    by true read = read-carries_out controls ds es read minus plus
    by false read = idle-carries_out controls ds es read minus plus digits

ring-quiet : (is_ring out : Bool) → out ≡ false → (is_ring && out) ≡ false
ring-quiet true out none = none
ring-quiet false out none = refl

either-none : (a b : Bool) → (a || b) ≡ false → (a ≡ false) × (b ≡ false)
either-none a b none = (grind (arith, nat_tests, none), grind (arith, nat_tests, none))

-- what is entered for what is asked of one group
entered-one : (act : Act) (name : Group) (held : ℕ) (pictures : Point → Hub → Bool) (entered : List ℕ) → held < 10 ^ name.width
    → IsWithinGroup name.width act → Entered act held name pictures → (enters act ≡ true → entered ≡ digits_given name pictures)
    → IsEntered act held (number entered)
entered-one Still name held pictures entered small fits spells given = tt
entered-one Test name held pictures entered small fits spells given = tt
entered-one Turn name held pictures entered small fits spells given = ap number (given refl) ∙ given-number name held pictures small spells
entered-one Show name held pictures entered small fits spells given = tt
entered-one (Plus n) name held pictures entered small fits spells given = ap number (given refl) ∙ given-number name n pictures fits spells
entered-one (Minus n) name held pictures entered small fits spells given = ap number (given refl) ∙ given-number name n pictures fits spells

-- a group under the controls of what is asked, behind the points of a cycle
module _ (act : Act) (counter : Counter) (cycle : Cycle) (pictures : Point → Hub → Bool) (idle : IsIdle counter)
    (told : controls_of counter.name (pictures C) ≡ record (act_controls act) { test = (controls_of counter.name (pictures C)).test }) where
  abbrev behind : Counter
  behind = after_its_points cycle pictures counter

  abbrev its : Controls
  its = record (act_controls act) { test = (controls_of counter.name (pictures C)).test }

  controlled : behind.controls ≡ its
  controlled = (earliest-entered counter cycle pictures idle.lawful idle.entered).controlled ∙ told

  given : enters act ≡ true → behind.entered ≡ digits_given counter.name pictures
  given on =
      (earliest-entered counter cycle pictures idle.lawful idle.entered).entered
      ∙ ap (λ (k : Controls). if k.plus || k.minus then digits_given counter.name pictures else counter.entered) told
      ∙ ap (λ (b : Bool). if b then digits_given counter.name pictures else counter.entered) on

  carried : behind.carry ≡ pictures K (CI counter.name)
  carried = (earliest-entered counter cycle pictures idle.lawful idle.entered).carry

  quiet : enters act ≡ false → carries_out (wheels_in behind) false ≡ false
  quiet none =
      let parts = either-none (act_controls act).plus (act_controls act).minus none in
      quiet-wheels behind.controls behind.digits behind.entered (ap (λ (k : Controls). k.plus) controlled ∙ parts.0)
      (ap (λ (k : Controls). k.minus) controlled ∙ parts.1) idle.lawful.digits

-- One group moves as is asked of it.
pub one-moves : (is_ring : Bool) (act : Act) (counter : Counter) (cycle : Cycle) (pictures : Point → Hub → Bool) → IsIdle counter
    → IsWithinGroup counter.name.width act → Asks act (number counter.digits) counter.name pictures
    → ComesRound is_ring counter cycle pictures
    → Moves act (number counter.digits) (movement_of_one (after_its_points cycle pictures counter) cycle)
one-moves is_ring act counter cycle pictures idle fits asks round =
    let told = controls_of-act counter.name (act_controls act) pictures asks.controls in
    let test : (act_controls act).test ≡ (controls_of counter.name (pictures C)).test = ap (λ (k : Controls). k.test) (sym told) in
    let same_told : controls_of counter.name (pictures C) ≡ record (act_controls act) { test = (controls_of counter.name (pictures C)).test }
    = told ∙ (λ i. record (act_controls act) { test = test i }) in
    let is = controlled act counter cycle pictures idle same_told in
    record {
      apart = refl;
      read_out = ap (λ (k : Controls). k.read_out) is;
      plus = ap (λ (k : Controls). k.plus) is;
      minus = ap (λ (k : Controls). k.minus) is;
      carry = λ none. carried act counter cycle pictures idle same_told ∙ round
          ∙ ring-quiet is_ring _ (quiet act counter cycle pictures idle same_told none);
      held = refl;
      entered = entered-one act counter.name (number counter.digits) pictures (after_its_points cycle pictures counter).entered
          (number-within counter idle.lawful) fits asks.entered (given act counter cycle pictures idle same_told);
    }

-- what is entered for what is asked of two groups
entered-both : (act : Act) (upper lower : Group) (held : ℕ) (pictures : Point → Hub → Bool) (above below : List ℕ)
    → held < 10 ^ (upper.width + lower.width) → IsWithinGroup (upper.width + lower.width) act
    → EnteredInBoth act held upper lower pictures → (enters act ≡ true → above ≡ digits_given upper pictures)
    → (enters act ≡ true → below ≡ digits_given lower pictures) → IsEntered act held (number_of_both above below)
entered-both Still upper lower held pictures above below small fits spell over under = tt
entered-both Test upper lower held pictures above below small fits spell over under = tt
entered-both Turn upper lower held pictures above below small fits spell over under =
    (λ i. number_of_both (over refl i) (under refl i)) ∙ both-given upper lower held pictures small spell
entered-both Show upper lower held pictures above below small fits spell over under = tt
entered-both (Plus n) upper lower held pictures above below small fits spell over under =
    (λ i. number_of_both (over refl i) (under refl i)) ∙ both-given upper lower n pictures fits spell
entered-both (Minus n) upper lower held pictures above below small fits spell over under =
    (λ i. number_of_both (over refl i) (under refl i)) ∙ both-given upper lower n pictures fits spell

-- the number of two groups, as a ledger has it
pub power-is : (width : ℕ) → is_width width ≡ true → power_of width ≡ 10 ^ width
power-is width is = by (width == 3) (width == 4) (width == 6) (width == 8) refl refl refl refl is
  where
    at : (n : ℕ) → width ≡ n → power_of n ≡ 10 ^ n → power_of width ≡ 10 ^ width
    at n e p = subst (λ (w : ℕ). power_of w ≡ 10 ^ w) (sym e) p

    by : (a b c d : Bool) → (width == 3) ≡ a → (width == 4) ≡ b → (width == 6) ≡ c → (width == 8) ≡ d → (a || b || c || d) ≡ true
        → power_of width ≡ 10 ^ width
    by true b c d one two six eight some = at 3 (same-numbers width 3 one) refl
    by false true c d one two six eight some = at 4 (same-numbers width 4 two) refl
    by false false true d one two six eight some = at 6 (same-numbers width 6 six) refl
    by false false false true one two six eight some = at 8 (same-numbers width 8 eight) refl
    by false false false false one two six eight some = cc

joined-is : (upper lower width : ℕ) (digits : List ℕ) → is_width width ≡ true → length digits ≡ width
    → joined upper lower width ≡ upper * 10 ^ length digits + lower
joined-is upper lower width digits is long =
    ap (λ (p : ℕ). upper * p + lower) (power-is width is ∙ ap (λ (n : ℕ). 10 ^ n) (sym long))

-- two groups hold less than the power of their widths
both-within : (upper lower : Counter) → IsCounter upper → IsCounter lower
    → number_of_both upper.digits lower.digits < 10 ^ (upper.name.width + lower.name.width)
both-within upper lower is and_is =
    subst (λ (n : ℕ). number_of_both upper.digits lower.digits < 10 ^ n)
    (length-append upper.digits lower.digits ∙ (λ i. is.positions i + and_is.positions i))
    (subst (λ (m : ℕ). m < 10 ^ length (upper.digits ++ lower.digits)) (number-append upper.digits lower.digits)
    (number-lt (upper.digits ++ lower.digits) (All-append IsDigit upper.digits lower.digits is.digits and_is.digits)))

same-so : (one other : Bool) → one ≡ other → same one other ≡ true
same-so true true is = refl
same-so true false is = sym is
same-so false true is = is
same-so false false is = refl

all-true : (a b c d : Bool) → a ≡ true → b ≡ true → c ≡ true → d ≡ true → ((a && b && c) && d) ≡ true
all-true a b c d p q r s = grind (arith, nat_tests, p, q, r, s)

split-around : (out nines carry : Bool) → (out || (nines && carry)) ≡ (out || (carry && nines))
split-around true nines carry = refl
split-around false true true = refl
split-around false true false = refl
split-around false false true = refl
split-around false false false = refl

-- what carries on from a group is what leaves its wheels with the carry that came in
pub carries-on : (wheels : List Wheel) (carry : Bool) → carries_out wheels carry ≡ (carries_out wheels false || (carry && all_nines wheels))
carries-on wheels carry = carries_out-split wheels carry ∙ split-around (carries_out wheels false) (all_nines wheels) carry

-- Two groups through which one carry goes move as is asked of both.
pub both-moves : (is_ring : Bool) (act : Act) (upper lower : Counter) (cycle : Cycle) (pictures : Point → Hub → Bool)
    → IsIdle upper → IsIdle lower → IsWithinGroup (upper.name.width + lower.name.width) act
    → AsksBoth act (number_of_both upper.digits lower.digits) upper.name lower.name pictures
    → CarryThrough is_ring (pictures K) upper.name lower.name (wheels_in (after_its_points cycle pictures upper))
    (wheels_in (after_its_points cycle pictures lower))
    → Moves act (number_of_both upper.digits lower.digits)
    (movement_of_both (after_its_points cycle pictures upper) (after_its_points cycle pictures lower) cycle)
both-moves is_ring act upper lower cycle pictures idle and_idle fits asks through =
    let told_upper = controls_of-act upper.name (act_controls act) pictures asks.controls in
    let test : (act_controls act).test ≡ (controls_of upper.name (pictures C)).test = ap (λ (k : Controls). k.test) (sym told_upper) in
    let told : controls_of upper.name (pictures C) ≡ record (act_controls act) { test = (controls_of upper.name (pictures C)).test }
    = told_upper ∙ (λ i. record (act_controls act) { test = test i }) in
    let and_told : controls_of lower.name (pictures C) ≡ record (act_controls act) { test = (controls_of lower.name (pictures C)).test }
    = (λ i. record {
      plus = asks.plus i;
      minus = asks.minus i;
      read_out = asks.read_out i;
      test = (controls_of lower.name (pictures C)).test;
    }) in
    let over : Counter = after_its_points cycle pictures upper in
    let under : Counter = after_its_points cycle pictures lower in
    let is = controlled act upper cycle pictures idle told in
    let and_is = controlled act lower cycle pictures and_idle and_told in
    let carry : over.carry ≡ carries_out (wheels_in under) under.carry =
    carried act upper cycle pictures idle told ∙ through.into_upper
    ∙ ap (carries_out (wheels_in under)) (sym (carried act lower cycle pictures and_idle and_told)) in
    let one : are_one over under ≡ true =
    all-true (same over.controls.plus under.controls.plus) (same over.controls.minus under.controls.minus)
    (same over.controls.read_out under.controls.read_out) (same over.carry (carry_leaves under))
    (same-so over.controls.plus under.controls.plus (ap (λ (k : Controls). k.plus) is ∙ sym (ap (λ (k : Controls). k.plus) and_is)))
    (same-so over.controls.minus under.controls.minus (ap (λ (k : Controls). k.minus) is ∙ sym (ap (λ (k : Controls). k.minus) and_is)))
    (same-so over.controls.read_out under.controls.read_out
    (ap (λ (k : Controls). k.read_out) is ∙ sym (ap (λ (k : Controls). k.read_out) and_is)))
    (same-so over.carry (carry_leaves under) (carry ∙ carries-on (wheels_in under) under.carry)) in
    let width = lower.name.width in
    let places : length lower.digits ≡ width = and_idle.lawful.positions in
    record {
      apart = ap not one;
      read_out = ap (λ (k : Controls). k.read_out) and_is;
      plus = ap (λ (k : Controls). k.plus) and_is;
      minus = ap (λ (k : Controls). k.minus) and_is;
      carry = λ none. carried act lower cycle pictures and_idle and_told ∙ through.into_lower
          ∙ ring-quiet is_ring _
          (carries_out-append (wheels_in over) (wheels_in under) false
          ∙ ap (carries_out (wheels_in over)) (quiet act lower cycle pictures and_idle and_told none)
          ∙ quiet act upper cycle pictures idle told none);
      held = joined-is (number upper.digits) (number lower.digits) width lower.digits and_idle.lawful.width places;
      entered = subst (IsEntered act (number_of_both upper.digits lower.digits))
          (sym (joined-is (number over.entered) (number under.entered) width under.entered and_idle.lawful.width
          (points-stay cycle pictures points lower and_idle.lawful).entries))
          (entered-both act upper.name lower.name (number_of_both upper.digits lower.digits) pictures over.entered under.entered
          (both-within upper lower idle.lawful and_idle.lawful) fits asks.entered (given act upper cycle pictures idle told)
          (given act lower cycle pictures and_idle and_told));
    }
