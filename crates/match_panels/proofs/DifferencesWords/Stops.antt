-- The stops of a difference, line by line and channel by channel.
use Rattle.std.proofs.Common.{◌≡◌, ◌∙◌, ℕ, ◌+◌, ◌<◌, ◌≤◌, ◌⊎◌, inl, inr, true, sym, ap, arith, []}
use Rattle.std.proofs.lemmas.Bool.{cases_lt}
use Rattle.wiring_lines.specs.JacksAndTape.HelperJacks.{Punches}
use Rattle.hubs.specs.SetupsWords.Tapes.{AddsStop, CarriageTape, HasStops, IsCarriageTape, has_stop}
use Rattle.match_panels.specs.DifferencesWords.Helper.{IsTapeDifference, LacksHole, LacksIn, LacksInBefore, LacksInLower, LacksStopAt}
use Rattle.match_panels.proofs.DifferencesWords.Steps.{punches-as, punches-both, punches-none, punches-one}

-- a number before the next one
pub below_or_at : (n m : ℕ) → n < m + 1 → (n < m) ⊎ (n ≡ m)
below_or_at n m h = by (cases_lt n m)
  where
    by : (n < m) ⊎ (m ≤ n) → (n < m) ⊎ (n ≡ m)
    by (inl less) = inl less
    by (inr more) = inr (omega (arith, h, more))

module _ (one other : CarriageTape) where
  -- nothing is lacking at a channel and a line
  pub at-none : {channel line : ℕ} {tape : CarriageTape} → (LacksHole one other channel line → ⊥)
      → Punches (LacksStopAt one other channel line) tape tape
  at-none {channel} {line} none = punches-none by
    where
      by : (c l : ℕ) → LacksStopAt one other channel line c l → ⊥
      by c l at =
          none (record {
            there = ap (λ n. has_stop one n line) (sym at.in_channel) ∙ ap (has_stop one c) (sym at.at_line) ∙ at.hole.there;
            lacking = ap (λ n. has_stop other n line) (sym at.in_channel) ∙ ap (has_stop other c) (sym at.at_line) ∙ at.hole.lacking;
          })

  -- a stop is lacking there
  pub at-one : {channel line : ℕ} {old new : CarriageTape} → LacksHole one other channel line → AddsStop old new channel line
      → Punches (LacksStopAt one other channel line) old new
  at-one {channel} {line} hole added =
      punches-as (λ c l at. record {
        in_channel = at.0;
        at_line = at.1;
        hole = record {
          there = ap (λ n. has_stop one n l) at.0 ∙ ap (has_stop one channel) at.1 ∙ hole.there;
          lacking = ap (λ n. has_stop other n l) at.0 ∙ ap (has_stop other channel) at.1 ∙ hole.lacking;
        };
      })
      (λ c l at. (at.in_channel, at.at_line)) (punches-one added)

  -- no line yet, one line more, all lines
  pub lines-none : (channel : ℕ) {tape : CarriageTape} → Punches (LacksInBefore one other channel 0) tape tape
  lines-none channel = punches-none (λ c l at. omega (arith, at.before))

  pub lines-more : {channel line : ℕ} {old mid new : CarriageTape} → Punches (LacksInBefore one other channel line) old mid
      → Punches (LacksStopAt one other channel line) mid new → Punches (LacksInBefore one other channel (line + 1)) old new
  lines-more {channel} {line} so_far next =
      punches-both (λ c l at. record { in_channel = at.in_channel; before = omega (arith, at.before); hole = at.hole })
      (λ c l at. record { in_channel = at.in_channel; before = omega (arith, at.at_line); hole = at.hole })
      (λ c l at. elim (below_or_at l line at.before) [
        | inl less ↦ inl (record { in_channel = at.in_channel; before = less; hole = at.hole })
        | inr here ↦ inr (record { in_channel = at.in_channel; at_line = here; hole = at.hole })
      ]) so_far next

  pub lines-all : {channel line : ℕ} {old new : CarriageTape} → IsCarriageTape one → 145 ≤ line
      → Punches (LacksInBefore one other channel line) old new → Punches (LacksIn one other channel) old new
  lines-all {channel} {line} form last punched =
      punches-as (λ c l at. record { in_channel = at.in_channel; hole = at.hole })
      (λ c l at. record {
        in_channel = at.in_channel;
        before = omega (arith, last, (form.stops c l at.hole.there).line_to, form.formed.lines_to);
        hole = at.hole;
      }) punched

  -- no channel yet, one channel more, all channels
  pub channels-none : {tape : CarriageTape} → Punches (LacksInLower one other 0) tape tape
  channels-none = punches-none (λ c l at. omega (arith, at.lower))

  pub channels-more : {channel : ℕ} {old mid new : CarriageTape} → Punches (LacksInLower one other channel) old mid
      → Punches (LacksIn one other channel) mid new → Punches (LacksInLower one other (channel + 1)) old new
  channels-more {channel} so_far next =
      punches-both (λ c l at. record { lower = omega (arith, at.lower); hole = at.hole })
      (λ c l at. record { lower = omega (arith, at.in_channel); hole = at.hole })
      (λ c l at. elim (below_or_at c channel at.lower) [
        | inl less ↦ inl (record { lower = less; hole = at.hole })
        | inr here ↦ inr (record { in_channel = here; hole = at.hole })
      ]) so_far next

  -- all channels on a tape without a stop
  pub tape-whole : {channel : ℕ} (bare left : CarriageTape) → IsCarriageTape one → 12 ≤ channel → bare.lines ≡ one.lines
      → bare.first ≡ one.first → bare.overflow ≡ one.overflow → HasStops bare [] → Punches (LacksInLower one other channel) bare left
      → IsTapeDifference one other left
  tape-whole {channel} bare left form last long top full none punched = record {
    stops = λ c l. (
      λ has. elim ((punched.stops c l).0 has) [
        | inl had ↦ absurd (nothing c l had)
        | inr at ↦ at.hole
      ],
      λ hole. (punched.stops c l).1 (inr (record {
        lower = omega (arith, last, (form.stops c l hole.there).channel_to);
        hole = hole;
      })),
    );
    lines = punched.lines ∙ long;
    first = punched.first ∙ top;
    overflow = punched.overflow ∙ full;
  }
    where
      nothing : (c l : ℕ) → has_stop bare c l ≡ true → ⊥
      nothing c l had = let listed = (none c l).0 had in omega (arith, listed.1)
