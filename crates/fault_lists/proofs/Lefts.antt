-- A text whose lines are emptied one by one.
use Rattle.std.proofs.Common.{◌≡◌, ◌∙◌, ap, ℕ, suc, ◌+◌, ◌<◌, ◌≤◌, List, length, drop, get_or, arith}
use Rattle.std.proofs.Math.ListN.{drop_of_length-le}
use Rattle.std.proofs.Math.Seq.{drop-cons}
use Rattle.fault_lists.specs.Behind.{emptied_lines}
use Rattle.fault_slips.specs.LineMarks.Emptied.{emptied}

-- the lines from a place on
pub emptied_at : (lines : List ℕ) (place other : ℕ) (text : List ℕ) → place < length lines
    → emptied_lines (drop place lines) text ≡ emptied_lines (drop (place + 1) lines) (emptied (get_or lines place other) text)
emptied_at lines place other text there =
    let next : suc place ≡ place + 1 = omega arith in
    ap (λ (rest : List ℕ). emptied_lines rest text) (drop-cons lines place other there)
    ∙ ap (λ (n : ℕ). emptied_lines (drop n lines) (emptied (get_or lines place other) text)) next

-- none is left
pub all_emptied : (lines : List ℕ) (place : ℕ) (text : List ℕ) → length lines ≤ place → emptied_lines (drop place lines) text ≡ text
all_emptied lines place text last = ap (λ (rest : List ℕ). emptied_lines rest text) (drop_of_length-le lines last)
