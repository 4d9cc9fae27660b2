use Rattle.std.proofs.Common.{List, ℕ, length, ◌++◌, ap}
use Rattle.std.proofs.lemmas.List.{drop-replicate}
use Rattle.cli_sheets.proofs.bad_columns.column.filled.Goals as goal

pub returns : goal.returns
returns c =
    rw c.copy_from_slice.ensures.after
    (ap (λ (rest : List ℕ). c.args.front.now ++ rest) (drop-replicate (length c.args.front.now) 80 32))
