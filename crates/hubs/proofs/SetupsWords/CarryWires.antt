-- Carry wires that agree.
use Rattle.std.proofs.Common.{◌≡◌, ◌∙◌, refl, sym, ap, ℕ, ◌==◌, ◌&&◌, Bool, true, false, Option, Some, None, arith}
use Rattle.std.proofs.lemmas.Bool.{and_parts}
use Rattle.std.proofs.lemmas.Bool.Decides.{nat_tests}
use Rattle.hubs.specs.Carries.{are_alike, do_carries_agree, do_groups_agree, do_wires_agree, is_one_group}
use Rattle.hubs.specs.Hubs.{carry_into, carry_out_of}
use Rattle.hubs.specs.declared.hub.Group.{Group}
use Rattle.hubs.specs.declared.hub.Hub.{Hub}

-- a group is itself, and the same as another one both ways
pub one-own : (group : Group) → is_one_group group group ≡ true
one-own group = grind (arith, nat_tests)

one-turned : (one other : Group) → is_one_group one other ≡ is_one_group other one
one-turned one other = by (one.width) (one.number) (other.width) (other.number)
  where
    by : (a b c d : ℕ) → ((a == c) && (b == d)) ≡ ((c == a) && (d == b))
    by a b c d = grind (arith, nat_tests)

pub one-same : (one other : Group) → is_one_group one other ≡ true → one ≡ other
one-same one other is = by (and_parts (one.width == other.width) (one.number == other.number) is)
  where
    same : (a b : ℕ) → (a == b) ≡ true → a ≡ b
    same a b e = grind (arith, nat_tests, e)

    by : ((one.width == other.width) ≡ true) × ((one.number == other.number) ≡ true) → one ≡ other
    by both = λ i. record { width = same one.width other.width both.0 i; number = same one.number other.number both.1 i }

alike-own : (a b : Bool) → (are_alike a a && are_alike b b) ≡ true
alike-own true true = refl
alike-own true false = refl
alike-own false true = refl
alike-own false false = refl

alike-turned : (a b c d : Bool) → (are_alike a b && are_alike c d) ≡ (are_alike a b && are_alike d c)
alike-turned true b true true = refl
alike-turned true b true false = refl
alike-turned true b false true = refl
alike-turned true b false false = refl
alike-turned false b true true = refl
alike-turned false b true false = refl
alike-turned false b false true = refl
alike-turned false b false false = refl

-- a wire agrees with itself
carries-own : (from to : Group) → do_carries_agree from to from to ≡ true
carries-own from to =
    ap (λ b. are_alike b (is_one_group to to) && are_alike (is_one_group to from) (is_one_group from to)) (one-own from)
    ∙ ap (λ b. b && are_alike (is_one_group to from) (is_one_group from to)) (one-own to)
    ∙ ap (λ b. are_alike b (is_one_group from to)) (one-turned to from)
    ∙ self (is_one_group from to)
  where
    self : (b : Bool) → are_alike b b ≡ true
    self true = refl
    self false = refl

-- and agreement goes both ways
carries-turned : (from to other next : Group) → do_carries_agree from to other next ≡ do_carries_agree other next from to
carries-turned from to other next =
    ap (λ b. are_alike b (is_one_group to next) && are_alike (is_one_group to other) (is_one_group from next)) (one-turned from other)
    ∙ ap (λ b. are_alike (is_one_group other from) b && are_alike (is_one_group to other) (is_one_group from next)) (one-turned to next)
    ∙ ap (λ b. are_alike (is_one_group other from) (is_one_group next to) && are_alike b (is_one_group from next)) (one-turned to other)
    ∙ ap (λ b. are_alike (is_one_group other from) (is_one_group next to) && are_alike (is_one_group other to) b) (one-turned from next)
    ∙ alike-turned (is_one_group other from) (is_one_group next to) (is_one_group other to) (is_one_group next from)

groups-own : (from to : Option Group) → do_groups_agree from to from to ≡ true
groups-own (Some from) (Some to) = carries-own from to
groups-own (Some from) None = refl
groups-own None to = refl

groups-turned : (from to other next : Option Group) → do_groups_agree from to other next ≡ true → do_groups_agree other next from to ≡ true
groups-turned (Some from) (Some to) (Some other) (Some next) is = sym (carries-turned from to other next) ∙ is
groups-turned from to (Some other) None is = refl
groups-turned from to None next is = refl
groups-turned (Some from) None (Some other) (Some next) is = refl
groups-turned None to (Some other) (Some next) is = refl

pub agree-own : (exit entry : Hub) → do_wires_agree exit entry exit entry ≡ true
agree-own exit entry = groups-own (carry_out_of exit) (carry_into entry)

pub agree-turned : (exit entry other next : Hub) → do_wires_agree exit entry other next ≡ true → do_wires_agree other next exit entry ≡ true
agree-turned exit entry other next = groups-turned (carry_out_of exit) (carry_into entry) (carry_out_of other) (carry_into next)
