-- Sets of rows spread along links: one link after another, and what comes of all of them by the wires of a setup.
use Rattle.std.proofs.Common.{◌≡◌, ℕ, ◌+◌, ◌<◌, ◌≤◌, ◌&&◌, ◌||◌, Bool, true, List, [], ◌∷◌, ◌++◌, All, sym, ap, ◌∙◌, refl, subst, arith, length, take, slice_index_or, slice_set}
use Rattle.std.specs.Prelude.{◌==◌}
use Rattle.std.specs.Int.Bits.{bit_or}
use Rattle.std.specs.List.{list_any}
use Rattle.std.proofs.Math.Bool.{or-false}
use Rattle.std.proofs.lemmas.Bool.{and_from, and_parts}
use Rattle.std.proofs.lemmas.Bool.Decides.{nat_tests}
use Rattle.std.proofs.lemmas.List.{take_all}
use Rattle.std.proofs.lemmas.List.Folds.{Any-from_list_any, list_any-append, list_any_at, list_any_more}
use Rattle.machine_sets.specs.SpreadsWords.Links.{IsFollowed, IsInRange, Spreads, has_at, is_fed_at, is_link, is_linked}
use Rattle.machine_sets.specs.declared.spreads.links.Link.{Link}
use Rattle.machine_sets.proofs.SpreadsWords.JoinedSets.{set-joined}

-- each exit of the panel has the rows that it had
abbrev pub HasExitsOf : List ℕ → List ℕ → Type 0
HasExitsOf old new = (place row : ℕ) → place < 1040 → has_at new place row ≡ has_at old place row

pub equal : (m n : ℕ) → (m == n) ≡ true → m ≡ n
equal m n e = grind (arith, nat_tests, e)

pub itself : (n : ℕ) → (n == n) ≡ true
itself n = grind (arith, nat_tests)

pub turned : (m n : ℕ) → (m == n) ≡ true → (n == m) ≡ true
turned m n e = grind (arith, nat_tests, e)

-- where a test finds an item there is one that passes it: what holds of all holds of this one, and each other test that it passes finds
-- one too
pub picked : {A : Type 0} → (holds : A → Type 0) (test : A → Bool) (items : List A) → All holds items → list_any test items ≡ true
    → (item : A) × holds item × (test item ≡ true) × ((other : A → Bool) → other item ≡ true → list_any other items ≡ true)
picked {A} holds test items all found =
    let at = Any-from_list_any test items found in (
      at.1,
      subst holds at.3 (all at.0 at.1 at.2),
      at.4,
      λ other passes. list_any_at other items at.0 at.1 at.2 (ap other at.3 ∙ passes),
    )

-- a set joined with another one
pub joined-at : (sets : List ℕ) (to from place row : ℕ) → to < length sets
    → has_at (slice_set sets to (bit_or (slice_index_or sets to 0) (slice_index_or sets from 0))) place row
    ≡ (has_at sets place row || ((to == place) && has_at sets from row))
joined-at sets to from place row inside =
    set-joined sets to (slice_index_or sets from 0) place row inside
    ∙ ap (λ b. has_at sets place row || (b && has_at sets from row)) (alike place to)
  where
    alike : (m n : ℕ) → (m == n) ≡ (n == m)
    alike m n = grind (arith, nat_tests)

pub Spreads-all : (links : List Link) (i : ℕ) (first new : List ℕ) → length links ≤ i → Spreads (take i links) first new
    → Spreads links first new
Spreads-all links i first new end spreads = subst (λ (ls : List Link). Spreads ls first new) (take_all i links end) spreads

-- one entry more has its link
pub linked-more : (links : List Link) (link : Link) (f t : ℕ)
    → is_linked (links ++ link ∷ []) f t ≡ (is_linked links f t || ((f == link.from) && (t == link.to)))
linked-more links link f t =
    list_any-append (is_link f t) links (link ∷ []) ∙ ap (λ b. is_linked links f t || b) (or-false (is_link f t link))

-- a link that feeds a place leads there, from an exit that has the row
pub fed-found : (links : List Link) (sets : List ℕ) (place row : ℕ) → All IsInRange links → is_fed_at links sets place row ≡ true
    → (from : ℕ) × (from < 1040) × (is_linked links from place ≡ true) × (has_at sets from row ≡ true)
fed-found links sets place row range fed =
    let one = picked IsInRange (λ (link : Link). (link.to == place) && has_at sets link.from row) links range fed in
    let both = and_parts (one.0.to == place) (has_at sets one.0.from row) one.2 in
    let is = and_from _ _ (itself one.0.from) (turned one.0.to place both.0) in
    (one.0.from, one.1.from, one.3 (is_link one.0.from place) is, both.1)

-- a link that leads from one place to another
pub linked-found : (holds : Link → Type 0) (links : List Link) (from to : ℕ) → All holds links → is_linked links from to ≡ true
    → (link : Link) × holds link × (from ≡ link.from) × (to ≡ link.to)
    × ((other : Link → Bool) → other link ≡ true → list_any other links ≡ true)
linked-found holds links from to all linked =
    let one = picked holds (is_link from to) links all linked in
    let both = and_parts (from == one.0.from) (to == one.0.to) one.2 in
    (one.0, one.1, equal from one.0.from both.0, equal to one.0.to both.1, one.3)

-- and each such link feeds its place
pub fed-from : (links : List Link) (sets : List ℕ) (from place row : ℕ) → is_linked links from place ≡ true → has_at sets from row ≡ true
    → is_fed_at links sets place row ≡ true
fed-from links sets from place row linked at =
    let one = linked-found (λ link. link ≡ link) links from place (λ k d inside. refl) linked in
    one.4 (λ (link : Link). (link.to == place) && has_at sets link.from row)
    (and_from _ _ (ap (λ (p : ℕ). one.0.to == p) one.3 ∙ itself one.0.to) (ap (λ (p : ℕ). has_at sets p row) (sym one.2) ∙ at))

-- what holds of all links holds of where one leads
pub held : (holds : ℕ → ℕ → Type 0) (links : List Link) (from to : ℕ) → All (λ (link : Link). holds link.from link.to) links
    → is_linked links from to ≡ true → holds from to
held holds links from to all linked =
    let one = linked-found (λ (link : Link). holds link.from link.to) links from to all linked in
    subst (λ (f : ℕ). holds f to) (sym one.2) (subst (λ (t : ℕ). holds one.0.from t) (sym one.3) one.1)

pub regrouped : (a b c : Bool) → ((a || b) || c) ≡ (a || (b || c))
regrouped a b c = grind (arith, nat_tests)

-- one link more is followed, and exits keep their sets
pub Spreads-more : (links : List Link) (i : ℕ) (d : Link) (first old new : List ℕ) → i < length links → IsInRange (slice_index_or links i d)
    → HasExitsOf first old → Spreads (take i links) first old → IsFollowed (slice_index_or links i d) old new
    → (Spreads (take (i + 1) links) first new) × (HasExitsOf first new)
Spreads-more links i d first old new inside range exits before followed = (
  λ place row.
      followed place row
      ∙ ap (λ b. b || ((link.to == place) && has_at old link.from row)) (before place row)
      ∙ ap (λ b. (has_at first place row || is_fed_at (take i links) first place row) || ((link.to == place) && b))
      (exits link.from row range.from)
      ∙ regrouped (has_at first place row) (is_fed_at (take i links) first place row) ((link.to == place) && has_at first link.from row)
      ∙ ap (λ b. has_at first place row || b) (sym (list_any_more (λ (l : Link). (l.to == place) && has_at first l.from row) links i d inside)),
  λ place row low. followed place row ∙ apart (has_at old place row) link.to place (has_at old link.from row) range.low low ∙ exits place row low,
) where
  link : Link
  link = slice_index_or links i d

  apart : (a : Bool) (to place : ℕ) (b : Bool) → 1040 ≤ to → place < 1040 → (a || ((to == place) && b)) ≡ a
  apart a to place b high low = grind (arith, nat_tests, high, low)
