-- Zones that have the wheels with LINK, and wheels beside them.
use Rattle.std.proofs.Common.{◌≡◌, ◌∙◌, ◌++◌, ◌∷◌, [], ℕ, ◌+◌, ◌-◌, ◌<◌, ◌≤◌, ◌⊎◌, inl, inr, Bool, true, false, List, ◌||◌, ◌&&◌, nat_le, nat_lt, Option, Some, None, IfSome, arith, subst, sym, true≢false}
use Rattle.std.proofs.lemmas.Bool.{and_from, and_parts, cases_lt, le-leb, leb-true, lt-ltb, ltb-true, or_cases, or_left, or_right}
use Rattle.std.proofs.lemmas.List.Folds.{list_any-append}
use Rattle.std.specs.List.{list_any}
use Rattle.readback_panels.specs.Zones.{CoverBelow, CoverLinks, IsInZone, has_both, has_wheel}
use Rattle.readback_panels.specs.declared.zones.Zone.{Zone}
use Rattle.hubs.specs.SetupsWords.Wiring.{Wiring, is_plugged}
use Rattle.hubs.specs.declared.jack.Jack.TheVariants.{Link}

-- what passes a test somewhere passes a wider one
any-wider : {X : Type 0} (narrow wide : X → Bool) → ((x : X) → narrow x ≡ true → wide x ≡ true) → (xs : List X)
    → list_any narrow xs ≡ true → list_any wide xs ≡ true
any-wider narrow wide wider [] is = is
any-wider narrow wide wider (x ∷ xs) is = by (or_cases (narrow x) (list_any narrow xs) is) (any-wider narrow wide wider xs)
  where
    by : (narrow x ≡ true) ⊎ (list_any narrow xs ≡ true) → (list_any narrow xs ≡ true → list_any wide xs ≡ true)
        → (wide x || list_any wide xs) ≡ true
    by (inl here) others = or_left (wide x) (list_any wide xs) (wider x here)
    by (inr there) others = or_right (wide x) (list_any wide xs) (others there)

-- a zone that has a wheel and the one to its left has each of them
wheel-itself : (wheel : ℕ) (zone : Zone) → has_both wheel zone ≡ true → has_wheel wheel zone ≡ true
wheel-itself wheel zone is =
    let both : (nat_lt zone.first wheel ≡ true) × (nat_le wheel zone.last ≡ true) = and_parts _ _ is in
    and_from _ _ (le-leb zone.first wheel (omega (arith, ltb-true zone.first wheel both.0))) both.1

wheel-left : (wheel : ℕ) (zone : Zone) → has_both (wheel + 1) zone ≡ true → has_wheel wheel zone ≡ true
wheel-left wheel zone is =
    let both : (nat_lt zone.first (wheel + 1) ≡ true) × (nat_le (wheel + 1) zone.last ≡ true) = and_parts _ _ is in
    and_from _ _ (le-leb zone.first wheel (omega (arith, ltb-true zone.first (wheel + 1) both.0)))
    (le-leb wheel zone.last (omega (arith, leb-true (wheel + 1) zone.last both.1)))

-- where the zones have all wheels with LINK, a wheel of none of them is in no zone
pub outside : (setup : Wiring) (zones : List Zone) (wheel : ℕ) → CoverLinks setup zones → list_any (has_wheel wheel) zones ≡ false
    → ¬ IsInZone setup wheel
outside setup zones wheel covers none (inl linked) =
    true≢false (sym (any-wider (has_both wheel) (has_wheel wheel) (wheel-itself wheel) zones (covers wheel linked)) ∙ none)
outside setup zones wheel covers none (inr linked) =
    true≢false (sym (any-wider (has_both (wheel + 1)) (has_wheel wheel) (wheel-left wheel) zones (covers (wheel + 1) linked)) ∙ none)

-- more zones have them too
any-more : {X : Type 0} (test : X → Bool) (xs ys : List X) → list_any test xs ≡ true → list_any test (xs ++ ys) ≡ true
any-more test xs ys is = list_any-append test xs ys ∙ or_left _ _ is

pub cover-more : (setup : Wiring) (old new more : List Zone) → new ≡ old ++ more → CoverLinks setup old → CoverLinks setup new
cover-more setup old new more same covers wheel linked =
    subst (λ (zones : List Zone). list_any (has_both wheel) zones ≡ true) (sym same)
    (any-more (has_both wheel) old more (covers wheel linked))

-- fewer wheels
pub cover-fewer : (setup : Wiring) (zones : List Zone) (many few : ℕ) → few ≤ many → CoverBelow setup zones many → CoverBelow setup zones few
cover-fewer setup zones many few less covers wheel linked below = covers wheel linked (omega (arith, less, below))

-- a zone whose second wheel has LINK
pub cover-pushed : (setup : Wiring) (old new : List Zone) (zone : Zone) (second : ℕ) → new ≡ old ++ zone ∷ [] → zone.first ≡ second - 1
    → 2 ≤ second → CoverBelow setup old second → CoverBelow setup new (zone.last + 1)
cover-pushed setup old new zone second same first from covers wheel linked below =
    subst (λ (zones : List Zone). list_any (has_both wheel) zones ≡ true) (sym same) (by (cases_lt wheel second))
  where
    by : (wheel < second) ⊎ (second ≤ wheel) → list_any (has_both wheel) (old ++ zone ∷ []) ≡ true
    by (inl before) = any-more (has_both wheel) old (zone ∷ []) (covers wheel linked before)
    by (inr behind) =
        list_any-append (has_both wheel) old (zone ∷ []) ∙ or_right _ _
        (or_left _ false (and_from _ _ (lt-ltb zone.first wheel (omega (arith, first, from, behind)))
        (le-leb wheel zone.last (omega (arith, below)))))

-- a wheel that is of a zone already
pub cover-next : (setup : Wiring) (zones : List Zone) (last wheel : ℕ) → CoverBelow setup zones (last + 1) → wheel ≤ last
    → CoverBelow setup zones (wheel + 1)
cover-next setup zones last wheel covers within = cover-fewer setup zones (last + 1) (wheel + 1) (omega (arith, within)) covers

-- a wheel without LINK
pub cover-unlinked : (setup : Wiring) (zones : List Zone) (wheel : ℕ) → CoverBelow setup zones wheel → is_plugged setup (Link wheel) ≡ false
    → CoverBelow setup zones (wheel + 1)
cover-unlinked setup zones wheel covers unplugged other linked below = by (cases_lt other wheel)
  where
    by : (other < wheel) ⊎ (wheel ≤ other) → list_any (has_both other) zones ≡ true
    by (inl before) = covers other linked before
    by (inr behind) =
        let same : other ≡ wheel = omega (arith, behind, below) in
        absurd (true≢false (sym linked.plugged ∙ subst (λ (n : ℕ). is_plugged setup (Link n) ≡ false) (sym same) unplugged))

-- the panel has no wheel behind 120
pub cover-all : (setup : Wiring) (zones : List Zone) (bound : ℕ) → 121 ≤ bound → CoverBelow setup zones bound → CoverLinks setup zones
cover-all setup zones bound far covers wheel linked =
    let range : (nat_le 1 wheel ≡ true) × (nat_le wheel 120 ≡ true) = and_parts _ _ (and_parts _ _ linked.plugged).0 in
    covers wheel linked (omega (arith, far, leb-true wheel 120 range.1))

-- what holds anyway, of what there may be
pub if-any : {X : Type 0} (o : Option X) (P : Type 0) → P → IfSome o (λ x. P)
if-any None P holds = tt
if-any (Some x) P holds = holds
