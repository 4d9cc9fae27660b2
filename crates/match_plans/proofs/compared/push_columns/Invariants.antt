use Rattle.std.proofs.Common.{ℕ, ◌≡◌, ◌++◌, map}
use Rattle.std.specs.List.{range_with_len}
use Rattle.match_plans.proofs.compared.push_columns.Given as goal

abbrev pub invariant-loop-place : goal.invariant-loop-place
invariant-loop-place l =
    l.columns.items
    ≡ l.initial.columns.items ++ map (λ (n : ℕ). record { column = n; level = l.level }) (range_with_len l.fn.field.first l.place)
