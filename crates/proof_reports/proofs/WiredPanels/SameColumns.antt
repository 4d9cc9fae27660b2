-- Two columns with the same rows are the same.
use Rattle.std.proofs.Common.{◌≡◌, ◌≢◌, ◌∙◌, refl, sym, ap, ℕ, zero, suc, ◌<◌, ◌^◌, ◌==◌, ◌&&◌, not, nat_lt, nat_eq, Bool, true, false, Contains, arith}
use Rattle.std.proofs.lemmas.Bool.Decides.{nat_tests}
use Rattle.std.proofs.lemmas.Nat.Bits.{same_from_bits_below, bit_at-lt}
use Rattle.std.specs.Int.{bit_at}
use Rattle.proof_cycles.specs.Below.card_code.CardCode.{has_row}
use Rattle.proof_cycles.specs.Below.card_code.Rows.{rows, row_number, is_row_set}
use Rattle.proof_cycles.specs.Below.card_code.declared.row.Row.{Row as CardRow}
use Rattle.proof_cycles.specs.Below.card_code.declared.row.Row.TheVariants.{Zero, One, Two, Three, Four, Five, Six, Seven, Eight, Nine, Eleven, Twelve}

-- each row is one of the twelve
pub row-listed : (row : CardRow) → Contains rows row
row-listed Nine = (0, omega arith, refl)
row-listed Eight = (1, omega arith, refl)
row-listed Seven = (2, omega arith, refl)
row-listed Six = (3, omega arith, refl)
row-listed Five = (4, omega arith, refl)
row-listed Four = (5, omega arith, refl)
row-listed Three = (6, omega arith, refl)
row-listed Two = (7, omega arith, refl)
row-listed One = (8, omega arith, refl)
row-listed Zero = (9, omega arith, refl)
row-listed Eleven = (10, omega arith, refl)
row-listed Twelve = (11, omega arith, refl)

-- a number of a row
record IsRowNumber (n : ℕ) : Type 0 where
  row : CardRow
  is : row_number row ≡ n

row-of : (n : ℕ) → n < 13 → n ≢ 10 → IsRowNumber n
row-of zero below other = record { row = Zero; is = refl }
row-of (suc zero) below other = record { row = One; is = refl }
row-of (suc (suc zero)) below other = record { row = Two; is = refl }
row-of (suc (suc (suc zero))) below other = record { row = Three; is = refl }
row-of (suc (suc (suc (suc zero)))) below other = record { row = Four; is = refl }
row-of (suc (suc (suc (suc (suc zero))))) below other = record { row = Five; is = refl }
row-of (suc (suc (suc (suc (suc (suc zero)))))) below other = record { row = Six; is = refl }
row-of (suc (suc (suc (suc (suc (suc (suc zero))))))) below other = record { row = Seven; is = refl }
row-of (suc (suc (suc (suc (suc (suc (suc (suc zero)))))))) below other = record { row = Eight; is = refl }
row-of (suc (suc (suc (suc (suc (suc (suc (suc (suc zero))))))))) below other = record { row = Nine; is = refl }
row-of (suc (suc (suc (suc (suc (suc (suc (suc (suc (suc zero)))))))))) below other = absurd (other refl)
row-of (suc (suc (suc (suc (suc (suc (suc (suc (suc (suc (suc zero))))))))))) below other = record { row = Eleven; is = refl }
row-of (suc (suc (suc (suc (suc (suc (suc (suc (suc (suc (suc (suc zero)))))))))))) below other = record { row = Twelve; is = refl }
row-of (suc (suc (suc (suc (suc (suc (suc (suc (suc (suc (suc (suc (suc more))))))))))))) below other = absurd (omega (arith, below))

-- a row that two sets both have or both lack
bits-same : (one other n : ℕ) → has_row one n ≡ has_row other n → bit_at one n ≡ bit_at other n
bits-same one other n same =
    let a = bit_at-lt one n in let b = bit_at-lt other n in by (bit_at one n) (bit_at other n) a b same
  where
    by : (a b : ℕ) → a < 2 → b < 2 → (a == 1) ≡ (b == 1) → a ≡ b
    by zero zero low low' same = refl
    by zero (suc zero) low low' same = absurd (let e : false ≡ true = same in cc)
    by (suc zero) zero low low' same = absurd (let e : true ≡ false = same in cc)
    by (suc zero) (suc zero) low low' same = refl
    by (suc (suc a)) b low low' same = absurd (omega (arith, low))
    by zero (suc (suc b)) low low' same = absurd (omega (arith, low'))
    by (suc zero) (suc (suc b)) low low' same = absurd (omega (arith, low'))

-- the parts of a set of rows
both-parts : (a b : Bool) → (a && not b) ≡ true → (a ≡ true) × (b ≡ false)
both-parts true false is = (refl, refl)
both-parts true true is = cc
both-parts false b is = cc

-- sets with the same of the twelve rows are the same
pub same-sets : (one other : ℕ) → is_row_set one ≡ true → is_row_set other ≡ true
    → ((row : CardRow) → has_row one (row_number row) ≡ has_row other (row_number row)) → one ≡ other
same-sets one other is is' each =
    let a = both-parts (nat_lt one (2 ^ 13)) (has_row one 10) is in
    let b = both-parts (nat_lt other (2 ^ 13)) (has_row other 10) is' in
    let low = a.0 in let low' = b.0 in
    same_from_bits_below 13 one other (grind (arith, nat_tests, low)) (grind (arith, nat_tests, low'))
    (λ n below. bits-same one other n (at n below (nat_eq n 10) refl (sym (b.1))))
  where
    at : (n : ℕ) → n < 13 → (b : Bool) → nat_eq n 10 ≡ b → false ≡ has_row other 10 → has_row one n ≡ has_row other n
    at n below true ten none =
        let is_ten : n ≡ 10 = grind (arith, nat_tests, ten) in
        ap (has_row one) is_ten ∙ (both-parts (nat_lt one (2 ^ 13)) (has_row one 10) is).1 ∙ none ∙ ap (has_row other) (sym is_ten)
    at n below false apart none =
        let not_ten : n ≢ 10 = grind (arith, nat_tests, apart) in
        let r = row-of n below not_ten in
        ap (has_row one) (sym r.is) ∙ each r.row ∙ ap (has_row other) r.is
