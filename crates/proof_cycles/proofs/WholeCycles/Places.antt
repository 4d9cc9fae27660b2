-- Units by their places in the lists of a machine.
use Rattle.std.proofs.Common.{◌≡◌, ◌≢◌, ◌∙◌, sym, ap, refl, ℕ, zero, suc, ◌+◌, ◌-◌, ◌<◌, ◌≤◌, ◌||◌, Bool, true, false, List, [], ◌∷◌, length, map, Option, Some, None, is_some, option_map, get_or, arith}
use Rattle.std.specs.List.{list_any}
use Rattle.std.proofs.lemmas.Bool.Decides.{nat_tests}
use Rattle.std.proofs.lemmas.List.{get_or-map, length-map}
use Rattle.std.proofs.Math.Bool.{or-false}
use Rattle.hubs.proofs.HubLemmas.{number_of-injective}
use Rattle.hubs.specs.HubTable.Places.{group_place, is_width}
use Rattle.hubs.specs.HubTable.Ranges.{is_within}
use Rattle.hubs.specs.declared.hub.Group.{Group}
use Rattle.hubs.specs.declared.hub.Hub.TheVariants.{PL}
use Rattle.net.specs.Panel.{unit_after, unit_of}
use Rattle.proof_cycles.specs.WholeCycles.Units.{IsGroup}

-- where a test holds of no other place, it is told by one
pub any-one : {X : Type 0} (test : X → Bool) (xs : List X) (k : ℕ) (d : X) → k < length xs
    → ((j : ℕ) → j < length xs → j ≢ k → test (get_or xs j d) ≡ false) → list_any test xs ≡ test (get_or xs k d)
any-one test [] k d less none = absurd (omega (arith, less))
any-one test (x ∷ xs) zero d less none =
    let others = any-none test xs d (λ j inside. none (suc j) (omega (arith, inside)) (λ e. absurd (omega (arith, e)))) in
    (λ i. test x || others i) ∙ or-false (test x)
  where
    any-none : {X : Type 0} (test : X → Bool) (xs : List X) (d : X) → ((j : ℕ) → j < length xs → test (get_or xs j d) ≡ false)
        → list_any test xs ≡ false
    any-none test [] d none = refl
    any-none test (x ∷ xs) d none =
        let here = none 0 (omega arith) in
        let others = any-none test xs d (λ j inside. none (suc j) (omega (arith, inside))) in
        λ i. here i || others i
any-one test (x ∷ xs) (suc k) d less none =
    let here = none 0 (omega arith) (λ e. absurd (omega (arith, e))) in
    let others =
    any-one test xs k d (omega (arith, less)) (λ j inside other. none (suc j) (omega (arith, inside)) (λ e. other (omega (arith, e)))) in
    λ i. here i || others i

-- what stands at a place, by a list of what is told of all
pub told_at : {X : Type 0} (tell : X → ℕ) (xs : List X) (told : List ℕ) (k : ℕ) (d : X) → map tell xs ≡ told → k < length xs
    → tell (get_or xs k d) ≡ get_or told k 0
told_at tell xs told k d is less = sym (get_or-map tell xs k d 0 less) ∙ ap (λ (ns : List ℕ). get_or ns k 0) is

pub as_many : {X : Type 0} (tell : X → ℕ) (xs : List X) (told : List ℕ) → map tell xs ≡ told → length xs ≡ length told
as_many tell xs told is = sym (length-map xs tell) ∙ ap (λ (ns : List ℕ). length ns) is

-- a group of the panel has a place
pub has_place : (name : Group) → IsGroup name → is_some (group_place name.width name.number) ≡ true
has_place name is = by name.width name.number is.width is.number
  where
    by : (w n : ℕ) → is_width w ≡ true → is_within n 8 ≡ true → is_some (group_place w n) ≡ true
    by w n width number = grind (arith, nat_tests, width, number)

place_is : (place : Option ℕ) → is_some place ≡ true → place ≡ Some (unit_after 2 place - 2)
place_is None is = cc
place_is (Some p) is = let same : p ≡ 2 + p - 2 = omega arith in ap Some same

-- groups of the panel are told apart by their units
pub same_group : (one other : Group) → IsGroup one → IsGroup other → unit_of one ≡ unit_of other → one ≡ other
same_group one other is also same =
    let first = place_is (group_place one.width one.number) (has_place one is) in
    let second =
    place_is (group_place other.width other.number) (has_place other also) ∙ ap (λ (u : ℕ). Some (u - 2)) (sym same) in
    let hubs : PL one ≡ PL other =
    number_of-injective (PL one) (PL other) (1268 + (unit_of one - 2))
    (ap (option_map (λ place. 1268 + place)) first) (ap (option_map (λ place. 1268 + place)) second) in
    cc

-- the unit of a group of the panel is one of 3 to 34
pub in_units : (name : Group) → IsGroup name → (3 ≤ unit_of name) × (unit_of name ≤ 34)
in_units name is = by name.width name.number is.width is.number
  where
    by : (w n : ℕ) → is_width w ≡ true → is_within n 8 ≡ true
        → (3 ≤ unit_after 2 (group_place w n)) × (unit_after 2 (group_place w n) ≤ 34)
    by w n width number = (grind (arith, nat_tests, width, number), grind (arith, nat_tests, width, number))
