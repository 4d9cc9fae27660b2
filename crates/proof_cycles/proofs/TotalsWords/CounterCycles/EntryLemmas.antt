-- Where the entries of a group spell a number in a cycle, their earliest rows do.
use Rattle.std.proofs.Common.{◌≡◌, ◌∙◌, ap, ℕ, ◌^◌, ◌<◌, ◌≤◌, ◌==◌, Bool, arith, if◌then◌else◌}
use Rattle.std.proofs.lemmas.Bool.Decides.{nat_tests}
use Rattle.card_code.specs.Rows.{row_number}
use Rattle.card_code.specs.declared.row.Row.{Row as CardRow}
use Rattle.card_code.specs.declared.row.Row.TheVariants.{Nine, Eight, Seven, Six, Five, Four, Three, Two, One}
use Rattle.hubs.specs.declared.hub.Group.{Group}
use Rattle.hubs.specs.declared.hub.Hub.{Hub}
use Rattle.hubs.specs.declared.hub.Hub.TheVariants.{GE}
use Rattle.net.specs.declared.cycle.Point.{Point}
use Rattle.net.specs.declared.cycle.Point.TheVariants.{Row}
use Rattle.counters.specs.Numbers.{number}
use Rattle.counters.specs.WholeCycles.{digit_given, digit_rows, digits_given, first_digit}
use Rattle.counters.proofs.ListedDigits.{listed-same}
use Rattle.proof_cycles.specs.TotalsWords.CounterCycles.Acts.{Spells, digit_of}
use Rattle.proof_cycles.proofs.TotalsWords.CounterCycles.DigitLemmas.{digit_of-small, number-listed, spelt-number}

-- the first of the rows 9 to 1 that has a digit's number
first_equal : (d : ℕ) → d ≤ 9
    → (if d == 9 then 9 else if d == 8 then 8 else if d == 7 then 7 else if d == 6 then 6 else if d == 5 then 5
    else if d == 4 then 4 else if d == 3 then 3 else if d == 2 then 2 else if d == 1 then 1 else 0)
    ≡ d
first_equal d small = grind (arith, nat_tests, small)

-- an entry that is impulsed at the row of a digit alone is given the digit
first_digit-spelt : (impulsed : CardRow → Bool) (d : ℕ) → d ≤ 9
    → ((row : CardRow) → 1 ≤ row_number row → row_number row ≤ 9 → impulsed row ≡ (d == row_number row))
    → first_digit impulsed digit_rows ≡ d
first_digit-spelt impulsed d small spells =
    let at = λ (row : CardRow). spells row in
    rw (
      at Nine (omega arith) (omega arith),
      at Eight (omega arith) (omega arith),
      at Seven (omega arith) (omega arith),
      at Six (omega arith) (omega arith),
      at Five (omega arith) (omega arith),
      at Four (omega arith) (omega arith),
      at Three (omega arith) (omega arith),
      at Two (omega arith) (omega arith),
      at One (omega arith) (omega arith),
    )
    (first_equal d small)

-- the digits that are given spell the number that the entries spell
pub given-number : (name : Group) (n : ℕ) (pictures : Point → Hub → Bool) → n < 10 ^ name.width → Spells name (digit_of n) pictures
    → number (digits_given name pictures) ≡ n
given-number name n pictures small spells =
    ap number
    (listed-same (digit_given name pictures) (digit_of n) name.width
    (λ position from to.
    first_digit-spelt (λ row. pictures (Row row) (GE name position)) (digit_of n position) (digit_of-small n position)
    (λ row least most. spells row least most position from to)))
    ∙ number-listed (digit_of n) name.width ∙ spelt-number n name.width small
