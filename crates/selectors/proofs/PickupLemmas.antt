-- The pickups as bits of a word: in a row of hubs, and in lanes of sets.
use Rattle.std.proofs.Common.{◌≡◌, ◌<◌, ◌≤◌, ◌+◌, ◌-◌, ◌∙◌, ◌&&◌, ap, refl, arith, ℕ, Bool, true, false, List, bit_and, nat_lt, slice_index_or}
use Rattle.std.proofs.lemmas.Bool.Decides.{nat_tests}
use Rattle.std.proofs.lemmas.Nat.{and_mask}
use Rattle.hubs.specs.HubTable.Ranges.{is_within}
use Rattle.hubs.specs.declared.hub.Hub.{Hub}
use Rattle.hubs.specs.declared.hub.Hub.TheVariants.{PIX}
use Rattle.net.proofs.Below.machine_sets.BitSets.BitLemmas.{is_bit-low, is_bit-zero}
use Rattle.net.proofs.KindRows.{row_bit, PIX_numbered}
use Rattle.net.specs.HubRows.{has_at}
use Rattle.net.specs.HubSets.{HubSet, has_hub, is_bit, is_in_row, is_in_reach}
use Rattle.selectors.specs.Numbered.{tests_to}
use Rattle.selectors.specs.PilotWords.{pilots_in}
use Rattle.selectors.specs.Pilots.{no_pilots, pickups}
use Rattle.selectors.proofs.NumberedLemmas.{tests-same}

-- none of the numbers passes
none-passes : tests_to 16 (λ pilot. false) ≡ no_pilots
unfolding tests_to
none-passes = refl

-- an empty word has no pilots
pub no-bits : pilots_in 0 ≡ no_pilots
no-bits = tests-same 16 (λ pilot. is_bit 0 (pilot - 1)) (λ pilot. false) (λ n low high. is_bit-zero (n - 1)) ∙ none-passes

-- nor are there any whose pickups are impulsed where none is
pub no-pickups : (picture : Hub → Bool) → ((pilot : ℕ) → picture (PIX pilot) ≡ false) → pickups picture ≡ no_pilots
no-pickups picture none = tests-same 16 (λ pilot. picture (PIX pilot)) (λ pilot. false) (λ n low high. none n) ∙ none-passes

-- the first sixteen bits of a word
cut-bit : (word k : ℕ) → k < 16 → is_bit (bit_and word 65535) k ≡ is_bit word k
cut-bit word k low = ap (λ n. is_bit n k) (and_mask word 16) ∙ is_bit-low word 16 k low

-- the pickups in a row of hubs
pub pickups-row : (bits : ℕ) (set : HubSet)
    → ((hub : Hub) → is_in_reach (PIX 1) hub ≡ true → is_in_row (PIX 1) bits hub ≡ has_hub set hub)
    → pilots_in (bit_and bits 65535) ≡ pickups (has_hub set)
pickups-row bits set read =
    tests-same 16 (λ pilot. is_bit (bit_and bits 65535) (pilot - 1)) (λ pilot. has_hub set (PIX pilot)) each
  where
    each : (n : ℕ) → 1 ≤ n → n ≤ 16 → is_bit (bit_and bits 65535) (n - 1) ≡ has_hub set (PIX n)
    each n low high =
        let within : is_within n 16 ≡ true = grind (arith, nat_tests, low, high) in
        cut-bit bits (n - 1) (omega (arith, low, high)) ∙ row_bit PIX 1604 16 PIX_numbered bits n set within (omega arith) read

-- the pickups whose sets have row 11, of which a mask tells
pub pickups-masked : (word : ℕ) (sets : List ℕ)
    → ((k : ℕ) → is_bit word k ≡ (nat_lt k 16 && is_bit (slice_index_or sets (0 + k) 0) 10))
    → pilots_in (bit_and word 65535) ≡ tests_to 16 (λ pilot. has_at sets (pilot - 1) 10)
pickups-masked word sets bits =
    tests-same 16 (λ pilot. is_bit (bit_and word 65535) (pilot - 1)) (λ pilot. has_at sets (pilot - 1) 10) each
  where
    each : (n : ℕ) → 1 ≤ n → n ≤ 16 → is_bit (bit_and word 65535) (n - 1) ≡ has_at sets (n - 1) 10
    each n low high =
        let within : nat_lt (n - 1) 16 ≡ true = grind (arith, nat_tests, low, high) in
        let index : 0 + (n - 1) ≡ n - 1 = omega arith in
        cut-bit word (n - 1) (omega (arith, low, high)) ∙ bits (n - 1)
        ∙ (λ i. within i && is_bit (slice_index_or sets (index i) 0) 10)
