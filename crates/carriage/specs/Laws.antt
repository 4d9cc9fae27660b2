-- What the moves come to: the next stop, and where so many lines down lead.
use Rattle.std.specs.Prelude.{◌≡◌, ℕ, ◌+◌, ◌-◌, ◌<◌, ◌≤◌, ◌&&◌, ◌||◌, nat_le, nat_lt, true, false}
use Rattle.hubs.specs.SetupsWords.Tapes.{CarriageTape, IsCarriageTape}
use Rattle.carriage.specs.Moves.{is_stop_of, down_by, next_page}
use Rattle.carriage.specs.declared.spot.Spot.{Spot}

-- The next stop of a channel is below the line, on the form, and no stop lies between.
pub record IsNextStop (form : CarriageTape) (channel line stop : ℕ) : Type 0 where
  pub below : line < stop
  pub on_form : stop ≤ form.lines
  pub is_stop : is_stop_of form channel stop ≡ true
  pub first : (other : ℕ) → line < other → other < stop → is_stop_of form channel other ≡ false

-- the form has no stop of the channel below the line
abbrev pub HasNoStopBelow : CarriageTape → ℕ → ℕ → Type 0
HasNoStopBelow form channel line =
    (other : ℕ) → line < other → other ≤ form.lines → is_stop_of form channel other ≡ false

-- Down by lines that this form still has: the latch is set where the overflow line lies below the line and not below the new one.
abbrev pub GoesDownOnTheForm : Type 0
GoesDownOnTheForm =
    (form : CarriageTape) (spot : Spot) (lines : ℕ) → spot.line + lines ≤ form.lines
    → down_by form lines spot
    ≡ record {
      page = spot.page;
      line = spot.line + lines;
      latch = spot.latch || (nat_lt spot.line form.overflow && nat_le form.overflow (spot.line + lines));
    }

-- Down past the last line, but not through a whole form: the lines go on from line 1 of the next page. The latch is set where
-- the overflow line lies below the line, or on the next page not below the new one.
abbrev pub GoesToTheNextForm : Type 0
GoesToTheNextForm =
    (form : CarriageTape) (spot : Spot) (lines : ℕ)
    → IsCarriageTape form → spot.line ≤ form.lines → form.lines < spot.line + lines → lines ≤ form.lines
    → down_by form lines spot
    ≡ record {
      page = next_page spot.page;
      line = spot.line + lines - form.lines;
      latch = spot.latch || (nat_lt spot.line form.overflow || nat_le form.overflow (spot.line + lines - form.lines));
    }
