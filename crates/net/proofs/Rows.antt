-- Rows of hubs that follow one another, as tests by letters, and tests that are added one after another.
use Rattle.std.proofs.Common.{◌≡◌, ◌≢◌, ◌∙◌, ⊎_elim, sym, ap, refl, ℕ, ◌+◌, ◌-◌, ◌^◌, ◌<◌, ◌&&◌, ◌||◌, Bool, true, false, Option, Some, None, arith}
use Rattle.std.specs.Prelude.{nat_le, nat_lt}
use Rattle.std.proofs.lemmas.Bool.{cases_lt, eq-eqb}
use Rattle.std.proofs.lemmas.Bool.Decides.{nat_tests}
use Rattle.std.proofs.Math.Bool.{and-false}
use Rattle.hubs.proofs.HubLemmas.{number_of-injective}
use Rattle.hubs.specs.Hubs.{number_of}
use Rattle.hubs.specs.declared.hub.Hub.{Hub}
use Rattle.machine_sets.proofs.BitSets.BitLemmas.{is_bit-above}
use Rattle.net.specs.Orders.{IsRowOf}
use Rattle.net.specs.HubSets.{GainsHubs, HubSet, has_hub, is_bit, is_bit_from, is_hub, is_in_reach, is_in_row, is_near, is_same_number}

-- one test, and then another
pub GainsHubs-both : (one other : Hub → Bool) (old now new : HubSet) → GainsHubs one old now → GainsHubs other now new
    → GainsHubs (λ hub. one hub || other hub) old new
GainsHubs-both one other old now new first then hub =
    let e = first hub in
    let f = then hub in
    by _ _ _ _ _ e f where
      by : (a b o m n : Bool) → m ≡ (o || a) → n ≡ (m || b) → n ≡ (o || (a || b))
      by a b o m n e f = grind (arith, nat_tests)

-- a test that is the same
pub GainsHubs-same : (one other : Hub → Bool) (old new : HubSet) → ((hub : Hub) → one hub ≡ other hub)
    → GainsHubs one old new → GainsHubs other old new
GainsHubs-same one other old new same gains hub = gains hub ∙ ap (λ b. has_hub old hub || b) (same hub)

-- the same hub of the panel is one hub
pub is_hub-same : (one other : Hub) → is_hub one other ≡ true → one ≡ other
is_hub-same one other same = by (number_of one) (number_of other) refl refl same where
  by : (n m : Option ℕ) → number_of one ≡ n → number_of other ≡ m → is_same_number n m ≡ true → one ≡ other
  by (Some n) (Some m) is and_is same =
      let e : n ≡ m = grind (arith, nat_tests, same) in
      number_of-injective one other n is (and_is ∙ ap Some (sym e))
  by None m is and_is same = cc
  by (Some n) None is and_is same = cc

-- a hub of the panel is the same hub as itself
pub is_hub-own : (hub : Hub) (n : ℕ) → number_of hub ≡ Some n → is_hub hub hub ≡ true
is_hub-own hub n is = ap (λ m. is_same_number m m) is ∙ (eq-eqb n n refl)

-- the hub that is k after the first one of a row has bit k
pub row_here : (first hub : Hub) (n k bits : ℕ) → number_of first ≡ Some n → number_of hub ≡ Some (n + k)
    → is_in_row first bits hub ≡ is_bit bits k
row_here first hub n k bits is and_is =
    let after : nat_le n (n + k) ≡ true = grind (arith, nat_tests) in
    let index : n + k - n ≡ k = omega arith in
    ap (λ m. is_bit_from m bits (number_of hub)) is ∙ ap (is_bit_from (Some n) bits) and_is
    ∙ ap (λ b. b && is_bit bits (n + k - n)) after ∙ ap (is_bit bits) index

-- a hub that is none of a row's is not in it, where the row has no bit after its last hub
pub row_elsewhere : (first hub : Hub) (at : ℕ → Hub) (n count bits : ℕ) → number_of first ≡ Some n → bits < 2 ^ count
    → ((k : ℕ) → k < count → number_of (at k) ≡ Some (n + k)) → ((k : ℕ) → k < count → at k ≢ hub)
    → is_in_row first bits hub ≡ false
row_elsewhere first hub at n count bits is small numbered none = ap (λ m. is_bit_from m bits (number_of hub)) is ∙ by (number_of hub) refl where
  by : (m : Option ℕ) → number_of hub ≡ m → is_bit_from (Some n) bits m ≡ false
  by None and_is = refl
  by (Some m) and_is = ⊎_elim
      (λ (low : m < n). let no_place : nat_le n m ≡ false = grind (arith, nat_tests) in ap (λ b. b && is_bit bits (m - n)) no_place)
      (λ high. ⊎_elim
      (λ (near : m < n + count).
      let k : m - n < count = omega arith in
      let index : n + (m - n) ≡ m = omega arith in
      absurd (none (m - n) k
      (number_of-injective (at (m - n)) hub m (numbered (m - n) k ∙ ap Some index) and_is)))
      (λ far. ap (λ b. nat_le n m && b) (is_bit-above bits count (m - n) small (omega arith)) ∙ and-false _)
      (cases_lt m (n + count)))
      (cases_lt m n)

-- what a row that was read says of the hub that is k after the first one
pub row_read : (first hub : Hub) (n k bits : ℕ) (picture : Hub → Bool) → number_of first ≡ Some n → number_of hub ≡ Some (n + k) → k < 128
    → IsRowOf first picture bits → is_bit bits k ≡ picture hub
row_read first hub n k bits picture is and_is near read =
    let low : nat_le n (n + k) ≡ true = grind (arith, nat_tests) in
    let high : nat_lt (n + k) (n + 128) ≡ true = grind (arith, nat_tests) in
    let reach : is_in_reach first hub ≡ true =
    ap (λ m. is_near m (number_of hub)) is ∙ ap (is_near (Some n)) and_is ∙ ap (λ b. b && nat_lt (n + k) (n + 128)) low ∙ high in
    sym (row_here first hub n k bits is and_is) ∙ read hub reach
