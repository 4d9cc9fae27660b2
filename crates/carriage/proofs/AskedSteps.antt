-- What is asked for by a picture, and by the word of the carriage's hubs in it.
use Rattle.std.proofs.Common.{◌≡◌, ◌∙◌, ◌≤◌, ◌<◌, ℕ, zero, suc, ◌+◌, ◌&&◌, Bool, true, false, Some, refl, sym, ap, arith}
use Rattle.std.specs.Prelude.{nat_lt}
use Rattle.std.specs.Int.Bits.{bit_and}
use Rattle.std.proofs.Math.Bool.{and-true}
use Rattle.net.proofs.Below.machine_sets.BitSets.BitLemmas.{is_bit-and, is_bit-ones, is_bit-zero}
use Rattle.std.proofs.lemmas.Bool.Decides.{nat_tests}
use Rattle.hubs.specs.declared.hub.Hub.{Hub}
use Rattle.hubs.specs.declared.hub.Hub.TheVariants.{SP, SK, RS}
use Rattle.net.specs.HubSets.{is_bit, is_in_row, is_in_reach}
use Rattle.carriage.specs.Asked.{asked_by, lowest_from, nothing_asked}

-- the bit of a channel in the word from SP.2 on
pub is_in_row-SK : (hubs channel : ℕ) → 1 ≤ channel → channel ≤ 12 → is_in_row (SP 2) hubs (SK channel) ≡ is_bit hubs (channel + 1)
is_in_row-SK hubs channel from to = grind (arith, nat_tests)

-- the channels' hubs are in reach of SP.2
pub is_in_reach-SK : (channel : ℕ) → 1 ≤ channel → channel ≤ 12 → is_in_reach (SP 2) (SK channel) ≡ true
is_in_reach-SK channel from to = grind (arith, nat_tests)

-- a channel that is not impulsed is passed over
pub lowest_from-others : (picture : Hub → Bool) (channel next channels rest : ℕ)
    → channels ≡ suc rest → next ≡ suc channel → picture (SK channel) ≡ false
    → lowest_from channel channels picture ≡ lowest_from next rest picture
lowest_from-others picture channel next channels rest more is_next not_there = rw (more, is_next, not_there) refl

-- the first one that is impulsed is the lowest
pub lowest_from-found : (picture : Hub → Bool) (channel channels rest : ℕ)
    → channels ≡ suc rest → picture (SK channel) ≡ true → lowest_from channel channels picture ≡ Some channel
lowest_from-found picture channel channels rest more there = rw (more, there) refl

-- pictures that agree on the channels have the same lowest one
lowest_from-same : (one other : Hub → Bool) (channel channels : ℕ)
    → ((c : ℕ) → channel ≤ c → c < channel + channels → one (SK c) ≡ other (SK c))
    → lowest_from channel channels one ≡ lowest_from channel channels other
lowest_from-same one other channel zero same = refl
lowest_from-same one other channel (suc channels) same =
    rw (same channel (omega arith) (omega arith), lowest_from-same one other (suc channel) channels (λ c from to. same c (omega arith) (omega arith)))
    refl

-- pictures that agree on the carriage's hubs ask for the same
pub asked_by-same : (one other : Hub → Bool)
    → one (SP 2) ≡ other (SP 2) → one (SP 3) ≡ other (SP 3) → one RS ≡ other RS
    → ((c : ℕ) → 1 ≤ c → c ≤ 12 → one (SK c) ≡ other (SK c))
    → asked_by one ≡ asked_by other
asked_by-same one other two three restore channels =
    rw (two, three, restore, lowest_from-same one other 1 12 (λ c from to. channels c from (omega arith))) refl

-- a row without the first fifteen bits asks for nothing
pub asked_by-nothing : (hubs : ℕ) → bit_and hubs 32767 ≡ 0 → asked_by (is_in_row (SP 2) hubs) ≡ nothing_asked
asked_by-nothing hubs none =
    asked_by-same (is_in_row (SP 2) hubs) (λ hub. false) (off 0 (omega arith)) (off 1 (omega arith)) (off 14 (omega arith))
    (λ channel from to. is_in_row-SK hubs channel from to ∙ off (channel + 1) (omega (arith, to)))
  where
    off : (k : ℕ) → k < 15 → is_bit hubs k ≡ false
    off k low =
        let few : nat_lt k 15 ≡ true = grind (arith, nat_tests, low) in
        sym (ap (λ b. is_bit hubs k && b) (is_bit-ones 15 k ∙ few) ∙ and-true _)
        ∙ sym (is_bit-and hubs 32767 k) ∙ ap (λ (n : ℕ). is_bit n k) none ∙ is_bit-zero k
