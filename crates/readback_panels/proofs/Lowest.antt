-- No number up to a bound passes a test: one step, and what is known of the first that does.
use Rattle.std.proofs.Common.{◌≡◌, ℕ, ◌+◌, ◌<◌, ◌≤◌, ◌⊎◌, inl, inr, arith, subst}
use Rattle.std.proofs.lemmas.Bool.{cases_lt}
use Rattle.readback_panels.specs.Lowest.{IsLowest, last_of}
use Rattle.readback_panels.specs.declared.hub_rows.HubRow.{HubRow}

-- where none up to a number passes, and the next doesn't, none up to the next does
pub none-next : {passes : ℕ → Type 0} {place : ℕ} → ((n : ℕ) → 1 ≤ n → n ≤ place → ¬ passes n) → ¬ passes (place + 1) →
    (n : ℕ) → 1 ≤ n → n ≤ place + 1 → ¬ passes n
none-next {passes} {place} before here n from to = by (cases_lt place n)
  where
    by : (place < n) ⊎ (n ≤ place) → ¬ passes n
    by (inl above) = let same : place + 1 ≡ n = omega (arith, above, to) in subst (λ m. ¬ passes m) same here
    by (inr below) = before n from below

-- where none up to a place of a row passes, and the next does, the next is the lowest
pub lowest-next : {row : HubRow} {passes : ℕ → Type 0} {place : ℕ} → place < last_of row →
    ((n : ℕ) → 1 ≤ n → n ≤ place → ¬ passes n) → passes (place + 1) → IsLowest row passes (place + 1)
lowest-next {row} {passes} {place} less before here = record {
  from = omega arith;
  to = omega (arith, less);
  here = here;
  below = λ other from under. before other from (omega (arith, under));
}
