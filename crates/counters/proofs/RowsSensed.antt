-- A group after the points of all rows.
use Rattle.std.proofs.Common.{◌≡◌, ◌∙◌, refl, ap, Bool, false, ◌&&◌, ◌||◌, nat_le, List, [], ◌∷◌, map, if◌then◌else◌}
use Rattle.card_code.specs.Rows.{row_number}
use Rattle.card_code.specs.declared.row.Row.{Row as CardRow}
use Rattle.hubs.specs.declared.hub.Hub.{Hub}
use Rattle.net.specs.WholeCycles.{after_points}
use Rattle.net.specs.declared.cycle.Cycle.{Cycle}
use Rattle.net.specs.declared.cycle.Point.{Point}
use Rattle.net.specs.declared.cycle.Point.TheVariants.{Row}
use Rattle.counters.specs.Counters.{Counter, all_taken, counter_sensed}
use Rattle.counters.proofs.EarliestRows.{impulsed_at, rows_taken}

-- it has entered what they give, and no more
pub rows-sensed : (cycle : Cycle) (pictures : Point → Hub → Bool) (some : List CardRow) (counter : Counter)
    → after_points counter_sensed cycle pictures (map Row some) counter
    ≡ record counter { entered = rows_taken counter.controls counter.name pictures some counter.entered }
rows-sensed cycle pictures [] counter = refl
rows-sensed cycle pictures (first ∷ others) counter =
    rows-sensed cycle pictures others (counter_sensed counter cycle (Row first) (pictures (Row first)))

-- where no digits are entered it stays as it was
pub rows-resting : (cycle : Cycle) (pictures : Point → Hub → Bool) (some : List CardRow) (counter : Counter)
    → (counter.controls.plus || counter.controls.minus) ≡ false
    → after_points counter_sensed cycle pictures (map Row some) counter ≡ counter
rows-resting cycle pictures [] counter rests = refl
rows-resting cycle pictures (first ∷ others) counter rests =
    ap (after_points counter_sensed cycle pictures (map Row others)) here ∙ rows-resting cycle pictures others counter rests
  where
    here : counter_sensed counter cycle (Row first) (pictures (Row first)) ≡ counter
    here =
        ap (λ b. record counter {
          entered =
              if b && (nat_le 1 (row_number first) && nat_le (row_number first) 9)
              then all_taken (row_number first) (impulsed_at counter.name pictures first) counter.entered
              else counter.entered;
        })
        rests
