-- The search for the next stop of a channel, line by line.
use Rattle.std.proofs.Common.{◌≡◌, ◌≢◌, ℕ, zero, suc, ◌+◌, ◌-◌, ◌<◌, ◌≤◌, ◌==◌, ◌⊎◌, inl, inr, ◌↔◌, Bool, true, false, Some, None, if◌then◌else◌, refl, ap, arith}
use Rattle.std.proofs.lemmas.Bool.Decides.{eqb_tells}
use Rattle.hubs.specs.SetupsWords.Tapes.{CarriageTape}
use Rattle.carriage.specs.Laws.{IsNextStop, HasNoStopBelow}
use Rattle.carriage.specs.Moves.{is_stop_of, stop_from, next_stop}

-- a line without a stop is passed over
pub stop_from-others : (form : CarriageTape) (channel line next lines rest : ℕ)
    → lines ≡ suc rest → next ≡ suc line → is_stop_of form channel line ≡ false
    → stop_from form channel line lines ≡ stop_from form channel next rest
stop_from-others form channel line next lines rest more is_next none = rw (more, is_next, none) refl

-- The first stop among so many lines from the given one on.
record IsFirstStop (form : CarriageTape) (channel line lines stop : ℕ) : Type 0 where
  low : line ≤ stop
  high : stop < line + lines
  is_stop : is_stop_of form channel stop ≡ true
  first : (other : ℕ) → line ≤ other → other < stop → is_stop_of form channel other ≡ false

-- a stop at the line is the first one
stop_here : (form : CarriageTape) (channel line lines stop : ℕ) → is_stop_of form channel line ≡ true → stop ≡ line
    → IsFirstStop form channel line (suc lines) stop
stop_here form channel line lines stop here same = record {
  low = omega (arith, same);
  high = omega (arith, same);
  is_stop = rw same here;
  first = λ other low high. absurd (omega (arith, same, low, high));
}

-- without a stop at the line it is the first one of the others
stop_below : (form : CarriageTape) (channel line lines stop : ℕ) → is_stop_of form channel line ≡ false
    → IsFirstStop form channel (suc line) lines stop → IsFirstStop form channel line (suc lines) stop
stop_below form channel line lines stop none others = record {
  low = let l = others.low in omega (arith, l);
  high = let h = others.high in omega (arith, h);
  is_stop = others.is_stop;
  first = λ other low high. by other low high (eqb_tells other line);
}
  where
    by : (other : ℕ) → line ≤ other → other < stop
        → ((other == line) ≡ true) × (other ≡ line) ⊎ ((other == line) ≡ false) × (other ≢ line)
        → is_stop_of form channel other ≡ false
    by other low high (inl same) = rw (same.1) none
    by other low high (inr apart) = let a = apart.1 in others.first other (omega (arith, low, a)) high

-- what the search finds is the first stop
stop_from-found : (form : CarriageTape) (channel line lines stop : ℕ) → stop_from form channel line lines ≡ Some stop
    → IsFirstStop form channel line lines stop
stop_from-found form channel line zero stop found = absurd (grind (arith, found))
stop_from-found form channel line (suc lines) stop found =
    by (is_stop_of form channel line) refl (stop_from-found form channel (suc line) lines stop) found
  where
    by : (here : Bool) → is_stop_of form channel line ≡ here
        → (stop_from form channel (suc line) lines ≡ Some stop → IsFirstStop form channel (suc line) lines stop)
        → (if here then Some line else stop_from form channel (suc line) lines) ≡ Some stop
        → IsFirstStop form channel line (suc lines) stop
    by true here others found = stop_here form channel line lines stop here (grind (arith, found))
    by false none others found = stop_below form channel line lines stop none (others found)

-- the first stop is found
stop_from-finds : (form : CarriageTape) (channel line lines stop : ℕ) → IsFirstStop form channel line lines stop
    → stop_from form channel line lines ≡ Some stop
stop_from-finds form channel line zero stop first = absurd (let l = first.low in let h = first.high in omega (arith, l, h))
stop_from-finds form channel line (suc lines) stop first =
    by (is_stop_of form channel line) refl (stop_from-finds form channel (suc line) lines stop) (eqb_tells line stop)
  where
    by : (here : Bool) → is_stop_of form channel line ≡ here
        → (IsFirstStop form channel (suc line) lines stop → stop_from form channel (suc line) lines ≡ Some stop)
        → ((line == stop) ≡ true) × (line ≡ stop) ⊎ ((line == stop) ≡ false) × (line ≢ stop)
        → (if here then Some line else stop_from form channel (suc line) lines) ≡ Some stop
    by true here others (inl same) = ap Some (same.1)
    by true here others (inr apart) =
        let a = apart.1 in
        let l = first.low in
        let none = first.first line (omega (arith, l)) (omega (arith, l, a)) in
        absurd (grind (arith, here, none))
    by false none others (inl same) = let is_stop = first.is_stop in absurd (grind (arith, none, same.1, is_stop))
    by false none others (inr apart) =
        let a = apart.1 in
        let l = first.low in
        let h = first.high in
        others (record {
          low = omega (arith, l, a);
          high = omega (arith, h);
          is_stop = first.is_stop;
          first = λ other low high. first.first other (omega (arith, low)) high;
        })

-- where nothing is found there is no stop
stop_from-none : (form : CarriageTape) (channel line lines : ℕ) → stop_from form channel line lines ≡ None
    → (other : ℕ) → line ≤ other → other < line + lines → is_stop_of form channel other ≡ false
stop_from-none form channel line zero none other low high = absurd (omega (arith, low, high))
stop_from-none form channel line (suc lines) none other low high =
    by (is_stop_of form channel line) refl (λ e l h. stop_from-none form channel (suc line) lines e other l h) none (eqb_tells other line)
  where
    by : (here : Bool) → is_stop_of form channel line ≡ here
        → (stop_from form channel (suc line) lines ≡ None → suc line ≤ other → other < suc line + lines → is_stop_of form channel other ≡ false)
        → (if here then Some line else stop_from form channel (suc line) lines) ≡ None
        → ((other == line) ≡ true) × (other ≡ line) ⊎ ((other == line) ≡ false) × (other ≢ line)
        → is_stop_of form channel other ≡ false
    by true here others found same = absurd (grind (arith, found))
    by false none others found (inl same) = rw (same.1) none
    by false none others found (inr apart) = let a = apart.1 in others found (omega (arith, low, a)) (omega (arith, high))

-- where there is no stop nothing is found
stop_from-nowhere : (form : CarriageTape) (channel line lines : ℕ)
    → ((other : ℕ) → line ≤ other → other < line + lines → is_stop_of form channel other ≡ false)
    → stop_from form channel line lines ≡ None
stop_from-nowhere form channel line zero none = refl
stop_from-nowhere form channel line (suc lines) none =
    rw (none line (omega arith) (omega arith)) (stop_from-nowhere form channel (suc line) lines (λ other low high. none other (omega (arith, low)) (omega (arith, high))))

-- the next stop is the first one below the line that the form has
pub next_stop-tells : (form : CarriageTape) (channel line stop : ℕ)
    → (next_stop form channel line ≡ Some stop) ↔ IsNextStop form channel line stop
next_stop-tells form channel line stop = (there, back)
  where
    there : next_stop form channel line ≡ Some stop → IsNextStop form channel line stop
    there found =
        let first = stop_from-found form channel (suc line) (form.lines - line) stop found in
        let l = first.low in
        let h = first.high in
        record {
          below = omega (arith, l);
          on_form = omega (arith, l, h);
          is_stop = first.is_stop;
          first = λ other low high. first.first other (omega (arith, low)) high;
        }

    back : IsNextStop form channel line stop → next_stop form channel line ≡ Some stop
    back next =
        let b = next.below in
        let o = next.on_form in
        stop_from-finds form channel (suc line) (form.lines - line) stop (record {
          low = omega (arith, b);
          high = omega (arith, b, o);
          is_stop = next.is_stop;
          first = λ other low high. next.first other (omega (arith, low)) high;
        })

-- there is no next stop exactly where the form has none below the line
pub next_stop-none_tells : (form : CarriageTape) (channel line : ℕ)
    → (next_stop form channel line ≡ None) ↔ HasNoStopBelow form channel line
next_stop-none_tells form channel line = (there, back)
  where
    there : next_stop form channel line ≡ None → HasNoStopBelow form channel line
    there none other low high =
        stop_from-none form channel (suc line) (form.lines - line) none other (omega (arith, low)) (omega (arith, low, high))

    back : HasNoStopBelow form channel line → next_stop form channel line ≡ None
    back none =
        stop_from-nowhere form channel (suc line) (form.lines - line) (λ other low high. none other (omega (arith, low)) (omega (arith, low, high)))
