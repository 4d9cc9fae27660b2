-- What the use of a device tells of it.
use Rattle.std.specs.Prelude.{◌≡◌, ◌==◌, ◌+◌, ◌-◌, ◌^◌, min, ℕ, Bool, true, false, Option, None, Some, Result, MatchResult}

-- After an answer a device has failed exactly as before, and after an error it has failed.
abbrev pub HasFailedBy : {A E : Type 0} → Result A E → (before after : Bool) → Type 0
HasFailedBy result before after = MatchResult result (λ _. after ≡ before) (λ _. after ≡ true)

-- whether the call after so many, counted up to the largest `u64`, has this number
abbrev pub is_next : Option ℕ → (calls : ℕ) → Bool
is_next None calls = false
is_next (Some call) calls = call == min (calls + 1) (2 ^ 64 - 1)
