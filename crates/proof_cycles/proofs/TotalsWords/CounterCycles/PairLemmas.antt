-- A cycle of two groups through which one carry goes, by what is asked of both.
use Rattle.std.proofs.Common.{◌≡◌, ◌∙◌, refl, sym, ap, subst, ℕ, ◌+◌, ◌-◌, ◌*◌, ◌/◌, ◌%◌, ◌^◌, ◌<◌, ◌≤◌, ◌==◌, ◌||◌, nat_le, Bool, true, List, [], ◌∷◌, ◌++◌, length, All, arith, if◌then◌else◌}
use Rattle.std.proofs.lemmas.Bool.Decides.{nat_tests}
use Rattle.std.proofs.lemmas.List.{length-append}
use Rattle.std.proofs.lemmas.List.Elements.{All-append}
use Rattle.std.proofs.lemmas.Nat.{div-mul-add, pow-add}
use Rattle.std.proofs.Math.Nat.{div-div-eq-div-mul, div-lt_iff_lt-mul, mod-add-div', mod-lt}
use Rattle.card_code.specs.Rows.{row_number}
use Rattle.hubs.specs.HubTable.Places.{is_width}
use Rattle.hubs.specs.declared.hub.Group.{Group}
use Rattle.hubs.specs.declared.hub.Hub.{Hub}
use Rattle.net.specs.Cycles.{points}
use Rattle.net.specs.declared.cycle.Cycle.{Cycle}
use Rattle.net.specs.declared.cycle.Point.{Point}
use Rattle.net.specs.declared.cycle.Point.TheVariants.{C, K}
use Rattle.counters.specs.Counters.{Counter, controls_of, top_is_nine, wheels_in}
use Rattle.counters.specs.Laws.{AreCoupled, IsCounter, IsDigit, number_of_both}
use Rattle.counters.specs.Numbers.{added_number, left_number, number, start_number}
use Rattle.counters.specs.Rings.{CarryThrough}
use Rattle.counters.specs.WholeCycles.{after_cycle, after_its_points, digit_given, digits_given}
use Rattle.counters.proofs.ListedDigits.{length-listed}
use Rattle.counters.specs.declared.controls.Controls.{Controls}
use Rattle.counters.proofs.EarliestRows.{earliest-entered, points-stay}
use Rattle.counters.proofs.NumberLemmas.{number-lt}
use Rattle.counters.proofs.Pairs.{ended-pair, number-append}
use Rattle.counters.proofs.Staying.{counters-stay}
use Rattle.proof_cycles.specs.TotalsWords.CounterCycles.Acts.{Act, Spells, act_controls, digit_of, held_after, number_after}
use Rattle.proof_cycles.specs.TotalsWords.CounterCycles.Acts.Act.{Minus, Plus, Show, Still, Test, Turn}
use Rattle.proof_cycles.specs.TotalsWords.CounterCycles.Laws.{IsBetweenCycles}
use Rattle.proof_cycles.specs.TotalsWords.CounterCycles.Pairs.{AsksBoth, HaveDone, PairsDoWhatIsAsked, PairsShowTheirDigits, SpellInBoth, held_by_both}
use Rattle.proof_cycles.proofs.TotalsWords.CounterCycles.ActLemmas.{after-nothing, controls_of-act, held_with, latch-after, left-still}
use Rattle.proof_cycles.proofs.TotalsWords.CounterCycles.DigitLemmas.{digit_of-below, power-some}
use Rattle.proof_cycles.proofs.TotalsWords.CounterCycles.EntryLemmas.{given-number}
use Rattle.proof_cycles.proofs.TotalsWords.CounterCycles.ShownLemmas.{groups-show}
use Rattle.proof_cycles.proofs.TotalsWords.CounterCycles.TopLemmas.{top-nine}

-- the digits of a number above some lowest ones are those of what it has above them
pub digit_of-above_width : (n width position : ℕ) → 1 ≤ position → digit_of n (width + position) ≡ digit_of (n / 10 ^ width) position
digit_of-above_width n width position from =
    let place : width + position - 1 ≡ width + (position - 1) = omega (arith, from) in
    ap (λ k. n / 10 ^ k % 10) place
    ∙ ap (λ p. n / p % 10) (pow-add 10 width (position - 1))
    ∙ ap (λ k. k % 10) (sym (div-div-eq-div-mul n (10 ^ width) (10 ^ (position - 1))))

-- and those among the lowest ones are those of the rest
pub digit_of-within_width : (n width position : ℕ) → 1 ≤ position → position ≤ width → digit_of n position ≡ digit_of (n % 10 ^ width) position
digit_of-within_width n width position from to =
    let parts : n ≡ n / 10 ^ width * 10 ^ width + n % 10 ^ width = (let e = mod-add-div' n (10 ^ width) in omega (arith, e)) in
    ap (λ k. digit_of k position) parts ∙ digit_of-below (n / 10 ^ width) (n % 10 ^ width) width position from to

-- digits that are the same are spelled by the same entries
spells-same : (name : Group) (one other : ℕ → ℕ) (pictures : Point → Hub → Bool)
    → ((position : ℕ) → 1 ≤ position → position ≤ name.width → one position ≡ other position) → Spells name one pictures
    → Spells name other pictures
spells-same name one other pictures same spells = λ row low high position from to.
    spells row low high position from to ∙ ap (λ d. d == row_number row) (same position from to)

-- what the entries of both spell is given to both
pub both-given : (upper lower : Group) (n : ℕ) (pictures : Point → Hub → Bool) → n < 10 ^ (upper.width + lower.width)
    → SpellInBoth upper lower (digit_of n) pictures
    → number_of_both (digits_given upper pictures) (digits_given lower pictures) ≡ n
both-given upper lower n pictures small spell =
    let width = lower.width in
    let low : number (digits_given lower pictures) ≡ n % 10 ^ width =
    given-number lower (n % 10 ^ width) pictures (mod-lt n {m = 10 ^ width} (power-some width))
    (spells-same lower (digit_of n) (digit_of (n % 10 ^ width)) pictures
    (λ position from to. digit_of-within_width n width position from to) spell.below) in
    let few : n / 10 ^ width < 10 ^ upper.width =
    (div-lt_iff_lt-mul (power-some width)).1 (subst (λ (p : ℕ). n < p) (pow-add 10 upper.width width) small) in
    let high : number (digits_given upper pictures) ≡ n / 10 ^ width =
    given-number upper (n / 10 ^ width) pictures few
    (spells-same upper (λ position. digit_of n (width + position)) (digit_of (n / 10 ^ width)) pictures
    (λ position from to. digit_of-above_width n width position from) spell.above) in
    let long : length (digits_given lower pictures) ≡ width = length-listed (digit_given lower pictures) width in
    (λ i. high i * 10 ^ long i + low i)
    ∙ (let e = mod-add-div' n (10 ^ width) in omega (arith, e))

-- the top wheel of two groups is that of the upper one
top-both : (upper lower : List ℕ) → 1 ≤ length upper → top_is_nine (upper ++ lower) ≡ top_is_nine upper
top-both [] lower some = absurd (omega (arith, some))
top-both (d ∷ ds) lower some = refl

-- what two groups are after the points of a cycle, as they are coupled
coupled : (is_ring : Bool) (act : Act) (upper lower : Counter) (cycle : Cycle) (pictures : Point → Hub → Bool) → (held : ℕ)
    → IsBetweenCycles upper → IsBetweenCycles lower → AsksBoth act held upper.name lower.name pictures
    → CarryThrough is_ring (pictures K) upper.name lower.name (wheels_in (after_its_points cycle pictures upper))
    (wheels_in (after_its_points cycle pictures lower))
    → AreCoupled is_ring (after_its_points cycle pictures upper) (after_its_points cycle pictures lower)
coupled is_ring act upper lower cycle pictures held is and_is asks carry = record {
  controls = λ i. record {
    plus = (asks.controls.plus ∙ sym asks.plus) i;
    minus = (asks.controls.minus ∙ sym asks.minus) i;
    read_out = (asks.controls.read_out ∙ sym asks.read_out) i;
    test = (controls_of upper.name (pictures C)).test;
  };
  into_lower = carry.into_lower;
  into_upper = carry.into_upper;
}

-- Two groups go through a cycle under the controls of what is asked, by what their number becomes.
done-both : (is_ring : Bool) (act : Act) (upper lower : Counter) (cycle : Cycle) (pictures : Point → Hub → Bool)
    → IsBetweenCycles upper → IsBetweenCycles lower → AsksBoth act (number_of_both upper.digits lower.digits) upper.name lower.name pictures
    → CarryThrough is_ring (pictures K) upper.name lower.name (wheels_in (after_its_points cycle pictures upper))
    (wheels_in (after_its_points cycle pictures lower))
    → left_number is_ring (10 ^ (upper.name.width + lower.name.width))
    (start_number (act_controls act) (number_of_both upper.digits lower.digits)
    + added_number (act_controls act) (10 ^ (upper.name.width + lower.name.width))
    (number_of_both (after_its_points cycle pictures upper).entered (after_its_points cycle pictures lower).entered))
    ≡ number_after is_ring (10 ^ (upper.name.width + lower.name.width)) act (number_of_both upper.digits lower.digits)
    → HaveDone is_ring act upper lower (after_cycle cycle pictures upper) (after_cycle cycle pictures lower)
done-both is_ring act upper lower cycle pictures is and_is asks carry becomes =
    let power = 10 ^ (upper.name.width + lower.name.width) in
    let held = number_of_both upper.digits lower.digits in
    let over = after_its_points cycle pictures upper in
    let under = after_its_points cycle pictures lower in
    let entered = number_of_both over.entered under.entered in
    let above = after_cycle cycle pictures upper in
    let below = after_cycle cycle pictures lower in
    let over_is = points-stay cycle pictures points upper is.is_counter in
    let under_is = points-stay cycle pictures points lower and_is.is_counter in
    let stays = counters-stay.ended over cycle over_is in
    let stays_below = counters-stay.ended under cycle under_is in
    let both = coupled is_ring act upper lower cycle pictures held is and_is asks carry in
    let after = number_after is_ring power act held in
    let told : record under.controls { test = over.controls.test } ≡ act_controls act =
    sym both.controls ∙ controls_of-act upper.name (act_controls act) pictures asks.controls in
    let is_number : number_of_both above.digits below.digits ≡ after =
    ended-pair is_ring over under cycle over_is under_is both
    ∙ ap (λ (k : Controls). left_number is_ring power (start_number k held + added_number k power entered)) told
    ∙ becomes in
    let digits = above.digits ++ below.digits in
    let all : All IsDigit digits = All-append IsDigit above.digits below.digits stays.digits stays_below.digits in
    let long : length digits ≡ upper.name.width + lower.name.width =
    length-append above.digits below.digits ∙ (λ i. stays.positions i + stays_below.positions i) in
    let top : top_is_nine above.digits ≡ nat_le (9 * power) (10 * after) =
    sym (top-both above.digits below.digits (some_positions above.name.width (length above.digits) stays.width stays.positions))
    ∙ top-nine digits all
    ∙ ap (λ n. nat_le (9 * 10 ^ n) (10 * number digits)) long
    ∙ ap (λ n. nat_le (9 * power) (10 * n)) (number-append above.digits below.digits ∙ is_number) in
    let is_latch : above.latch ≡ (held_after is_ring (upper.name.width + lower.name.width) act (held_by_both upper lower)).latch =
    ap (λ b. if b then top_is_nine above.digits else upper.latch) asks.controls.test
    ∙ ap (λ b. if (act_controls act).test then b else upper.latch) top
    ∙ latch-after act is_ring power (held_by_both upper lower) in
    record {
      held = ap (λ n. held_with n above.latch) is_number ∙ ap (held_with after) is_latch;
      upper_ready = record { is_counter = stays; entered = refl };
      lower_ready = record { is_counter = stays_below; entered = refl };
      upper_name = refl;
      lower_name = refl;
    }
  where
    some_positions : (w n : ℕ) → is_width w ≡ true → n ≡ w → 1 ≤ n
    some_positions w n wide same = grind (arith, nat_tests, wide, same)

-- what is entered in both under plus or minus
entered-both : (act : Act) (upper lower : Counter) (cycle : Cycle) (pictures : Point → Hub → Bool) (held n : ℕ)
    → IsBetweenCycles upper → IsBetweenCycles lower → AsksBoth act held upper.name lower.name pictures
    → ((act_controls act).plus || (act_controls act).minus) ≡ true
    → n < 10 ^ (upper.name.width + lower.name.width) → SpellInBoth upper.name lower.name (digit_of n) pictures
    → number_of_both (after_its_points cycle pictures upper).entered (after_its_points cycle pictures lower).entered ≡ n
entered-both act upper lower cycle pictures held n is and_is asks adds small spell =
    let over : (after_its_points cycle pictures upper).entered ≡ digits_given upper.name pictures =
    (earliest-entered upper cycle pictures is.is_counter is.entered).entered
    ∙ (λ i. if asks.controls.plus i || asks.controls.minus i then digits_given upper.name pictures else upper.entered)
    ∙ ap (λ b. if b then digits_given upper.name pictures else upper.entered) adds in
    let under : (after_its_points cycle pictures lower).entered ≡ digits_given lower.name pictures =
    (earliest-entered lower cycle pictures and_is.is_counter and_is.entered).entered
    ∙ (λ i. if asks.plus i || asks.minus i then digits_given lower.name pictures else lower.entered)
    ∙ ap (λ b. if b then digits_given lower.name pictures else lower.entered) adds in
    (λ i. number_of_both (over i) (under i)) ∙ both-given upper.name lower.name n pictures small spell

-- two groups hold less than the power of their widths
both-within : (upper lower : Counter) → IsCounter upper → IsCounter lower
    → number_of_both upper.digits lower.digits < 10 ^ (upper.name.width + lower.name.width)
both-within upper lower is and_is =
    subst (λ (n : ℕ). number_of_both upper.digits lower.digits < 10 ^ n)
    (length-append upper.digits lower.digits ∙ (λ i. is.positions i + and_is.positions i))
    (subst (λ (m : ℕ). m < 10 ^ length (upper.digits ++ lower.digits)) (number-append upper.digits lower.digits)
    (number-lt (upper.digits ++ lower.digits) (All-append IsDigit upper.digits lower.digits is.digits and_is.digits)))

pub pairs-done : PairsDoWhatIsAsked
pairs-done is_ring Still upper lower cycle pictures is and_is fits asks carry =
    done-both is_ring Still upper lower cycle pictures is and_is asks carry
    (left-still is_ring (10 ^ (upper.name.width + lower.name.width)) (number_of_both upper.digits lower.digits)
    (both-within upper lower is.is_counter and_is.is_counter))
pairs-done is_ring Test upper lower cycle pictures is and_is fits asks carry =
    done-both is_ring Test upper lower cycle pictures is and_is asks carry
    (left-still is_ring (10 ^ (upper.name.width + lower.name.width)) (number_of_both upper.digits lower.digits)
    (both-within upper lower is.is_counter and_is.is_counter))
pairs-done is_ring Turn upper lower cycle pictures is and_is fits asks carry =
    let n = number_of_both upper.digits lower.digits in
    let power = 10 ^ (upper.name.width + lower.name.width) in
    done-both is_ring Turn upper lower cycle pictures is and_is asks carry
    (ap (λ m. left_number is_ring power (0 + (power - 1 - m)))
    (entered-both Turn upper lower cycle pictures n n is and_is asks refl (both-within upper lower is.is_counter and_is.is_counter) asks.entered)
    ∙ after-nothing is_ring power (power - 1 - n))
pairs-done is_ring Show upper lower cycle pictures is and_is fits asks carry =
    done-both is_ring Show upper lower cycle pictures is and_is asks carry
    (left-still is_ring (10 ^ (upper.name.width + lower.name.width)) 0 (power-some (upper.name.width + lower.name.width)))
pairs-done is_ring (Plus n) upper lower cycle pictures is and_is fits asks carry =
    let held = number_of_both upper.digits lower.digits in
    done-both is_ring (Plus n) upper lower cycle pictures is and_is asks carry
    (ap (λ m. left_number is_ring (10 ^ (upper.name.width + lower.name.width)) (held + m))
    (entered-both (Plus n) upper lower cycle pictures held n is and_is asks refl fits asks.entered))
pairs-done is_ring (Minus n) upper lower cycle pictures is and_is fits asks carry =
    let held = number_of_both upper.digits lower.digits in
    let power = 10 ^ (upper.name.width + lower.name.width) in
    done-both is_ring (Minus n) upper lower cycle pictures is and_is asks carry
    (ap (λ m. left_number is_ring power (held + (power - 1 - m)))
    (entered-both (Minus n) upper lower cycle pictures held n is and_is asks refl fits asks.entered))

-- the exits of both show the digits of their number
pub pairs-show : PairsShowTheirDigits
pairs-show upper lower is and_is =
    let over = groups-show upper is in
    let under = groups-show lower and_is in
    let n = number_of_both upper.digits lower.digits in
    let low = number lower.digits in
    let width : number upper.digits * 10 ^ length lower.digits + low ≡ number upper.digits * 10 ^ lower.name.width + low =
    ap (λ k. number upper.digits * 10 ^ k + low) and_is.positions in
    let high : n / 10 ^ lower.name.width ≡ number upper.digits =
    ap (λ m. m / 10 ^ lower.name.width) width ∙ div-mul-add (number upper.digits) (10 ^ lower.name.width) low under.small in
    record {
      below = λ given position from to.
          under.shown given position from to
          ∙ ap (λ d. d == given) (sym (ap (λ m. digit_of m position) width ∙ digit_of-below (number upper.digits) low lower.name.width position from to));
      above = λ given position from to.
          over.shown given position from to
          ∙ ap (λ d. d == given) (sym (digit_of-above_width n lower.name.width position from ∙ ap (λ m. digit_of m position) high));
    }
