-- Numbers of groups are small.
use Rattle.std.proofs.Common.{◌≡◌, ◌∙◌, sym, ap, subst, reverse, ℕ, ◌<◌, ◌≤◌, List, length, arith}
use Rattle.std.proofs.lemmas.Bool.Decides.{nat_tests}
use Rattle.std.specs.Prelude.{true}
use Rattle.hubs.specs.HubTable.Places.{is_width}
use Rattle.counters.specs.Counters.{Counter}
use Rattle.counters.specs.Laws.{IsCounter, IsDigit}
use Rattle.counters.proofs.PackedViews.{All-digits_reverse}
use Rattle.std.proofs.lemmas.List.{length-reverse, reverse-reverse}
use Rattle.std.specs.List.{All}
use Rattle.counters.specs.Numbers.{number}
use Rattle.counters.proofs.NumberLemmas.{number-small}

narrow : (width : ℕ) → is_width width ≡ true → width ≤ 8
narrow width is = grind (arith, nat_tests, is)

pub held-small : (group : Counter) (value : ℕ) → IsCounter group → value ≡ number group.digits → value < 100000000
held-small group value lawful is =
    subst (λ (n : ℕ). n < 100000000) (sym is)
    (number-small group.digits (subst (λ (n : ℕ). n ≤ 8) (sym lawful.positions) (narrow group.name.width lawful.width)) lawful.digits)

pub entered-small : (group : Counter) (value : ℕ) → IsCounter group → value ≡ number group.entered → value < 100000000
entered-small group value lawful is =
    subst (λ (n : ℕ). n < 100000000) (sym is)
    (number-small group.entered (subst (λ (n : ℕ). n ≤ 8) (sym lawful.entries) (narrow group.name.width lawful.width)) lawful.entered)

-- what a group took in, as its digits are read
pub entered-places : (group : Counter) (digits slice : List ℕ) → IsCounter group → digits ≡ reverse group.entered → slice ≡ digits
    → length slice ≤ 8
entered-places group digits slice lawful is same =
    let long = length-reverse group.entered in
    let low = narrow group.name.width lawful.width in
    let entries = lawful.entries in
    let here = ap length (same ∙ is) in
    omega (arith, long, low, entries, here)

pub entered-digits : (group : Counter) (digits slice : List ℕ) → IsCounter group → digits ≡ reverse group.entered → slice ≡ digits
    → All IsDigit slice
entered-digits group digits slice lawful is same =
    subst (λ (l : List ℕ). All IsDigit l) (sym (same ∙ is)) (All-digits_reverse group.entered lawful.entered)

pub entered-number : (group : Counter) (digits slice : List ℕ) (value : ℕ) → digits ≡ reverse group.entered → slice ≡ digits
    → value ≡ number (reverse slice) → value ≡ number group.entered
entered-number group digits slice value is same of_slice =
    of_slice ∙ ap (λ (l : List ℕ). number (reverse l)) (same ∙ is) ∙ ap number (reverse-reverse group.entered)
