-- The stops of a form, line by line and channel by channel.
use Rattle.std.proofs.Common.{◌≡◌, inl, inr, ℕ, ◌+◌, ◌<◌, ◌≤◌, List, ◌++◌, true, refl, sym, ap, ◌∙◌, arith}
use Rattle.hubs.specs.SetupsWords.Tapes.{CarriageTape, IsCarriageTape, IsStop, IsStopOf, has_stop}
use Rattle.wire_chart.specs.WrittenText.{ended, stop_line, IsStopBefore}
use Rattle.wire_chart.specs.Writing.{GainsStops, IsStopAt, IsStopAbove, IsStopIn, IsStopBelow}
use Rattle.hubs.proofs.SetupsWords.WireLists.{below_or_at}
use Rattle.wire_chart.proofs.Gains.{gains_none, gains_one, gains_more, gains_same}

-- a stop by its channel and its line
stop_is : (stop : ℕ × ℕ) (channel line : ℕ) → stop.0 ≡ channel → stop.1 ≡ line → stop ≡ (channel, line)
stop_is stop channel line c l =
    ap (λ (a : ℕ). let s : ℕ × ℕ = (a, stop.1) in s) c ∙ ap (λ (b : ℕ). let s : ℕ × ℕ = (channel, b) in s) l

pub stop_gained : (form : CarriageTape) (channel line : ℕ) (old new : List ℕ) → has_stop form channel line ≡ true
    → new ≡ old ++ ended (stop_line (channel, line)) → GainsStops (IsStopAt form channel line) old new
stop_gained form channel line old new there gained =
    gains_one (IsStopAt form channel line) IsStopBefore stop_line old new (channel, line) gained
    (record { there = there; channel_is = refl; line_is = refl })
    (λ stop is. stop_is stop channel line is.channel_is is.line_is)

-- no line of a channel
pub no_lines : (form : CarriageTape) (channel : ℕ) (text : List ℕ) → IsCarriageTape form → GainsStops (IsStopAbove form channel 1) text text
no_lines form channel text is_form =
    gains_none (IsStopAbove form channel 1) IsStopBefore stop_line text text refl
    (λ stop is.
    let at : IsStop form.lines stop.0 stop.1 = is_form.stops stop.0 stop.1 is.there in
    omega (arith, at.line_from, is.line_below))

-- one line more
pub line_more : (form : CarriageTape) (channel line : ℕ) (old mid new : List ℕ)
    → GainsStops (IsStopAbove form channel line) old mid → GainsStops (IsStopAt form channel line) mid new
    → GainsStops (IsStopAbove form channel (line + 1)) old new
line_more form channel line old mid new first second =
    gains_more (IsStopAbove form channel line) (IsStopAt form channel line) (IsStopAbove form channel (line + 1))
    IsStopBefore stop_line old mid new first second
    (λ stop is. elim (below_or_at stop.1 line is.line_below) [
      | inl below ↦ inl (record { there = is.there; channel_is = is.channel_is; line_below = below })
      | inr at ↦ inr (record { there = is.there; channel_is = is.channel_is; line_is = at })
    ])
    (λ stop is. record { there = is.there; channel_is = is.channel_is; line_below = omega (arith, is.line_below) })
    (λ stop is. record { there = is.there; channel_is = is.channel_is; line_below = omega (arith, is.line_is) })
    (λ one other is also. inr (is.channel_is ∙ sym also.channel_is, omega (arith, is.line_below, also.line_is)))

-- all lines of a channel
pub all_lines : (form : CarriageTape) (channel line : ℕ) (old new : List ℕ) → IsCarriageTape form → form.lines < line
    → GainsStops (IsStopAbove form channel line) old new → GainsStops (IsStopIn form channel) old new
all_lines form channel line old new is_form last gains =
    gains_same (IsStopAbove form channel line) (IsStopIn form channel) IsStopBefore stop_line old new gains
    (λ stop is.
    let at : IsStop form.lines stop.0 stop.1 = is_form.stops stop.0 stop.1 is.there in
    record { there = is.there; channel_is = is.channel_is; line_below = omega (arith, at.line_to, last) })
    (λ stop is. record { there = is.there; channel_is = is.channel_is })

-- no channel
pub no_channels : (form : CarriageTape) (text : List ℕ) → IsCarriageTape form → GainsStops (IsStopBelow form 2) text text
no_channels form text is_form =
    gains_none (IsStopBelow form 2) IsStopBefore stop_line text text refl
    (λ stop is.
    let at : IsStop form.lines stop.0 stop.1 = is_form.stops stop.0 stop.1 is.there in
    omega (arith, at.channel_from, is.channel_below))

-- one channel more
pub channel_more : (form : CarriageTape) (channel : ℕ) (old mid new : List ℕ)
    → GainsStops (IsStopBelow form channel) old mid → GainsStops (IsStopIn form channel) mid new
    → GainsStops (IsStopBelow form (channel + 1)) old new
channel_more form channel old mid new first second =
    gains_more (IsStopBelow form channel) (IsStopIn form channel) (IsStopBelow form (channel + 1))
    IsStopBefore stop_line old mid new first second
    (λ stop is. elim (below_or_at stop.0 channel is.channel_below) [
      | inl below ↦ inl (record { there = is.there; channel_below = below })
      | inr at ↦ inr (record { there = is.there; channel_is = at })
    ])
    (λ stop is. record { there = is.there; channel_below = omega (arith, is.channel_below) })
    (λ stop is. record { there = is.there; channel_below = omega (arith, is.channel_is) })
    (λ one other is also. inl (omega (arith, is.channel_below, also.channel_is)))

-- all channels
pub all_channels : (form : CarriageTape) (channel : ℕ) (old new : List ℕ) → IsCarriageTape form → 12 ≤ channel
    → GainsStops (IsStopBelow form channel) old new → GainsStops (IsStopOf form) old new
all_channels form channel old new is_form last gains =
    gains_same (IsStopBelow form channel) (IsStopOf form) IsStopBefore stop_line old new gains
    (λ stop is.
    let at : IsStop form.lines stop.0 stop.1 = is_form.stops stop.0 stop.1 is in
    record { there = is; channel_below = omega (arith, at.channel_to, last) })
    (λ stop is. is.there)
