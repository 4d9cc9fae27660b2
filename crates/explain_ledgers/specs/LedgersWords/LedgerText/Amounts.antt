-- Numbers as a ledger has them: with all their positions, or as amounts with a decimal point.
use Rattle.std.specs.Prelude.{ℕ, zero, suc, ◌+◌, ◌-◌, ◌/◌, ◌%◌, nat_le, List, [], ◌∷◌, ◌++◌, codes, decimal, if◌then◌else◌}

-- the last so many digits of a number
abbrev pub digits_text : ℕ → ℕ → List ℕ
digits_text zero number = []
digits_text (suc width) number = digits_text width (number / 10) ++ (48 + number % 10) ∷ []

-- a number without its last so many digits
abbrev pub whole_part : ℕ → ℕ → ℕ
whole_part zero number = number
whole_part (suc decimals) number = whole_part decimals (number / 10)

-- an amount with so many decimals: 4795 with two is 47.95
abbrev pub amount_text : ℕ → ℕ → List ℕ
amount_text zero number = decimal number
amount_text (suc decimals) number =
    decimal (whole_part (suc decimals) number) ++ codes "." ++ digits_text (suc decimals) number

-- what was added, less what was subtracted, as an amount
abbrev pub balance_text : (decimals plus minus : ℕ) → List ℕ
balance_text decimals plus minus =
    if nat_le minus plus then amount_text decimals (plus - minus) else codes "-" ++ amount_text decimals (minus - plus)
