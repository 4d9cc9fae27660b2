-- The jacks and stops of a setup, counted place by place and line by line.
use Rattle.std.proofs.Common.{◌≡◌, ◌∙◌, ℕ, ◌+◌, ◌≤◌, inl, inr, Some, None, true, false, true≢false, refl, sym, ap, subst, arith}
use Rattle.std.proofs.lemmas.Option.{none-some, same_Some}
use Rattle.hubs.specs.Jacks.{is_jack_in_range, jack_place}
use Rattle.hubs.specs.declared.jack.Jack.{Jack}
use Rattle.hubs.specs.SetupsWords.Tapes.{CarriageTape, IsCarriageTape, IsStopOf, has_stop}
use Rattle.hubs.specs.SetupsWords.Wiring.{HasJack, Wiring}
use Rattle.match_panels.specs.DifferencesWords.Differences.{AreMany}
use Rattle.match_panels.specs.DifferencesWords.HelperSizes.{JackAt, JackBefore, StopAt, StopBefore, StopIn, StopInBefore}
use Rattle.match_panels.proofs.DifferencesWords.Counts.{many-as, many-both, many-none, many-one}
use Rattle.match_panels.proofs.DifferencesWords.Jacks.{place_within, plugged_in_range}
use Rattle.match_panels.proofs.DifferencesWords.Stops.{below_or_at}

-- a stop by its channel and its line
stop-is : (stop : ℕ × ℕ) (channel line : ℕ) → stop.0 ≡ channel → stop.1 ≡ line → stop ≡ (channel, line)
stop-is stop channel line e f =
    ap (λ (a : ℕ). let s : ℕ × ℕ = (a, stop.1) in s) e ∙ ap (λ (b : ℕ). let s : ℕ × ℕ = (channel, b) in s) f

module _ (setup : Wiring) where
  pub jack-one : {place : ℕ} (jack : Jack) → jack_place jack ≡ place
      → ((each : Jack) → is_jack_in_range each ≡ true → jack_place each ≡ place → Some jack ≡ Some each) → HasJack setup jack
      → AreMany (JackAt setup place) 1
  jack-one jack placed found has =
      many-one jack (record { placed = placed; there = has })
      (λ each is. sym (same_Some jack each (found each (plugged_in_range setup each is.there) is.placed)))

  pub jack-none : {place : ℕ} (jack : Jack)
      → ((each : Jack) → is_jack_in_range each ≡ true → jack_place each ≡ place → Some jack ≡ Some each) → (HasJack setup jack → ⊥)
      → AreMany (JackAt setup place) 0
  jack-none jack found none = many-none (λ each is.
      none (subst (HasJack setup) (sym (same_Some jack each (found each (plugged_in_range setup each is.there) is.placed))) is.there))

  pub jack-nowhere : {place : ℕ} → ((each : Jack) → is_jack_in_range each ≡ true → jack_place each ≡ place → None ≡ Some each)
      → AreMany (JackAt setup place) 0
  jack-nowhere none = many-none (λ each is. none-some each (none each (plugged_in_range setup each is.there) is.placed))

  pub jacks-none : AreMany (JackBefore setup 0) 0
  jacks-none = many-none (λ jack is. omega (arith, is.placed))

  pub jacks-more : {place m n : ℕ} → AreMany (JackBefore setup place) m → AreMany (JackAt setup place) n → AreMany (JackBefore setup (place + 1)) (m + n)
  jacks-more {place} so_far next =
      many-both (λ jack is. record { placed = omega (arith, is.placed); there = is.there })
      (λ jack is. record { placed = omega (arith, is.placed); there = is.there })
      (λ jack is. elim (below_or_at (jack_place jack) place is.placed) [
        | inl less ↦ inl (record { placed = less; there = is.there })
        | inr here ↦ inr (record { placed = here; there = is.there })
      ])
      (λ jack is also. omega (arith, is.placed, also.placed)) so_far next

  pub jacks-all : {place m : ℕ} → 368 ≤ place → AreMany (JackBefore setup place) m → AreMany (HasJack setup) m
  jacks-all last many =
      many-as (λ jack is. is.there)
      (λ jack is. record { placed = omega (arith, last, place_within jack (plugged_in_range setup jack is)); there = is }) many

module _ (tape : CarriageTape) where
  pub stop-one : {channel line : ℕ} → has_stop tape channel line ≡ true → AreMany (StopAt tape channel line) 1
  stop-one {channel} {line} has =
      many-one (channel, line) (record { in_channel = refl; at_line = refl; there = has })
      (λ stop is. stop-is stop channel line is.in_channel is.at_line)

  pub stop-none : {channel line : ℕ} → has_stop tape channel line ≡ false → AreMany (StopAt tape channel line) 0
  stop-none {channel} {line} none = many-none (λ stop is.
      true≢false (sym is.there ∙ ap (λ n. has_stop tape n stop.1) is.in_channel ∙ ap (has_stop tape channel) is.at_line ∙ none))

  pub lines-none : {channel : ℕ} → AreMany (StopInBefore tape channel 0) 0
  lines-none = many-none (λ stop is. omega (arith, is.before))

  pub lines-more : {channel line m n : ℕ} → AreMany (StopInBefore tape channel line) m → AreMany (StopAt tape channel line) n
      → AreMany (StopInBefore tape channel (line + 1)) (m + n)
  lines-more {channel} {line} so_far next =
      many-both (λ stop is. record { in_channel = is.in_channel; before = omega (arith, is.before); there = is.there })
      (λ stop is. record { in_channel = is.in_channel; before = omega (arith, is.at_line); there = is.there })
      (λ stop is. elim (below_or_at stop.1 line is.before) [
        | inl less ↦ inl (record { in_channel = is.in_channel; before = less; there = is.there })
        | inr here ↦ inr (record { in_channel = is.in_channel; at_line = here; there = is.there })
      ])
      (λ stop is also. omega (arith, is.before, also.at_line)) so_far next

  pub lines-all : {channel line m : ℕ} → IsCarriageTape tape → 145 ≤ line → AreMany (StopInBefore tape channel line) m
      → AreMany (StopIn tape channel) m
  lines-all form last many =
      many-as (λ stop is. record { in_channel = is.in_channel; there = is.there })
      (λ stop is. record {
        in_channel = is.in_channel;
        before = omega (arith, last, (form.stops stop.0 stop.1 is.there).line_to, form.formed.lines_to);
        there = is.there;
      }) many

  pub channels-none : AreMany (StopBefore tape 0) 0
  channels-none = many-none (λ stop is. omega (arith, is.lower))

  pub channels-more : {channel m n : ℕ} → AreMany (StopBefore tape channel) m → AreMany (StopIn tape channel) n
      → AreMany (StopBefore tape (channel + 1)) (m + n)
  channels-more {channel} so_far next =
      many-both (λ stop is. record { lower = omega (arith, is.lower); there = is.there })
      (λ stop is. record { lower = omega (arith, is.in_channel); there = is.there })
      (λ stop is. elim (below_or_at stop.0 channel is.lower) [
        | inl less ↦ inl (record { lower = less; there = is.there })
        | inr here ↦ inr (record { in_channel = here; there = is.there })
      ])
      (λ stop is also. omega (arith, is.lower, also.in_channel)) so_far next

  pub channels-all : {channel m : ℕ} → IsCarriageTape tape → 12 ≤ channel → AreMany (StopBefore tape channel) m → AreMany (IsStopOf tape) m
  channels-all form last many =
      many-as (λ stop is. is.there)
      (λ stop is. record { lower = omega (arith, last, (form.stops stop.0 stop.1 is).channel_to); there = is }) many
