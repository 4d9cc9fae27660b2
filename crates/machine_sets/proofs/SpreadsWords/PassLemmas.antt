-- Contacts as links: the rows at which they are closed, and what they pass on, one contact after another.
use Rattle.std.proofs.Common.{◌≡◌, ℕ, ◌+◌, ◌-◌, ◌<◌, ◌≤◌, ◌&&◌, ◌||◌, not, Bool, true, false, List, [], ◌∷◌, ◌++◌, All, ◌⊎◌, inl, inr, sym, ap, ◌∙◌, refl, subst, arith, length, take, slice_index_or, slice_set, if◌then◌else◌, bit_and}
use Rattle.std.specs.Prelude.{◌==◌, nat_le, nat_lt}
use Rattle.std.specs.List.{list_any}
use Rattle.std.specs.Int.Bits.{bit_or}
use Rattle.std.proofs.Math.Bool.{or-false}
use Rattle.std.proofs.lemmas.Bool.{and_from, cases_lt}
use Rattle.std.proofs.lemmas.Bool.Decides.{nat_tests}
use Rattle.std.proofs.lemmas.List.{set-get_or, take_all}
use Rattle.std.proofs.lemmas.List.Folds.{list_any-append, list_any_more}
use Rattle.machine_sets.proofs.BitSets.BitLemmas.{is_bit-and, is_bit-ones, is_bit-or, is_bit-shl, is_bit-zero}
use Rattle.machine_sets.specs.BitSets.Bits.{has_place, is_bit}
use Rattle.machine_sets.specs.BitSets.Contacts.{is_any_contact, is_contact}
use Rattle.machine_sets.specs.declared.bit_sets.contacts.Run.{Run}
use Rattle.machine_sets.specs.SpreadsWords.Links.{IsPassing, has_at, is_led_to, is_link, is_linked}
use Rattle.machine_sets.specs.SpreadsWords.Passing.{AddsContacts, IsPassed, Passes, is_closed_at, is_passed_by}
use Rattle.machine_sets.specs.declared.spreads.links.Link.{Link}
use Rattle.machine_sets.proofs.SpreadsWords.JoinedSets.{set-joined}
use Rattle.machine_sets.proofs.SpreadsWords.LinkLemmas.{equal, itself, linked-found, picked, regrouped, turned}

-- each entry has the rows that it had
abbrev pub HasEntriesOf : List ℕ → List ℕ → Type 0
HasEntriesOf old new = (place row : ℕ) → 1040 ≤ place → has_at new place row ≡ has_at old place row

-- the first ten rows, and the next two, as bits
ten_rows : (row : ℕ) → is_bit 1023 row ≡ nat_lt row 10
ten_rows row = is_bit-ones 10 row

two_rows : (row : ℕ) → is_bit 3072 row ≡ (nat_le 10 row && nat_lt row 12)
two_rows row = is_bit-shl 3 10 row ∙ ap (λ b. nat_le 10 row && b) (is_bit-ones 2 (row - 10)) ∙ by row
  where
    by : (n : ℕ) → (nat_le 10 n && nat_lt (n - 10) 2) ≡ (nat_le 10 n && nat_lt n 12)
    by n = grind (arith, nat_tests)

-- the rows at which a contact is closed, as bits
pub closed-by : (digits zones : List ℕ) (place row : ℕ)
    → ((has_place digits place && is_bit 1023 row) || (has_place zones place && is_bit 3072 row)) ≡ is_closed_at digits zones row place
closed-by digits zones place row =
    rw (ten_rows row, two_rows row) (by (has_place digits place) (has_place zones place) (cases_lt row 10)) where
      by : (d z : Bool) → (row < 10) ⊎ (10 ≤ row)
          → ((d && nat_lt row 10) || (z && (nat_le 10 row && nat_lt row 12))) ≡ (if nat_lt row 10 then d else nat_lt row 12 && z)
      by d z (inl low) = grind (arith, nat_tests)
      by d z (inr high) = grind (arith, nat_tests)

-- the rows at which a contact is closed
pub closed-at : (digits zones : List ℕ) (place row one other : ℕ) → is_bit one row ≡ (has_place digits place && is_bit 1023 row)
    → is_bit other row ≡ (has_place zones place && is_bit 3072 row) → is_bit (bit_or one other) row ≡ is_closed_at digits zones row place
closed-at digits zones place row one other is and_is =
    is_bit-or one other row ∙ (λ i. is i || and_is i) ∙ closed-by digits zones place row

-- a set joined with what one contact passes on
pub passed-at : (digits zones sets : List ℕ) (to from place row closed : ℕ) → to < length sets
    → is_bit closed row ≡ is_closed_at digits zones row to
    → has_at (slice_set sets to (bit_or (slice_index_or sets to 0) (bit_and (slice_index_or sets from 0) closed))) place row
    ≡ (has_at sets place row || ((to == place) && (has_at sets from row && is_closed_at digits zones row to)))
passed-at digits zones sets to from place row closed inside is =
    set-joined sets to (bit_and (slice_index_or sets from 0) closed) place row inside
    ∙ (λ i. has_at sets place row || (alike place to i && is_bit-and (slice_index_or sets from 0) closed row i))
    ∙ ap (λ b. has_at sets place row || ((to == place) && (has_at sets from row && b))) is
  where
    alike : (m n : ℕ) → (m == n) ≡ (n == m)
    alike m n = grind (arith, nat_tests)

-- a set that is written as it was
pub same-at : (sets : List ℕ) (to written place row : ℕ) → written ≡ slice_index_or sets to 0
    → has_at (slice_set sets to written) place row ≡ has_at sets place row
same-at sets to written place row is =
    ap (λ (s : List ℕ). has_at s place row) (ap (slice_set sets to) is ∙ set-get_or sets to 0)

-- entries keep their sets
pub entries-more : (digits zones : List ℕ) (contact : Link) (first old new : List ℕ) → IsPassing contact → IsPassed digits zones contact old new
    → HasEntriesOf first old → HasEntriesOf first new
entries-more digits zones contact first old new range passed before place row high =
    passed place row
    ∙ apart (has_at old place row) contact.to place (has_at old contact.from row && is_closed_at digits zones row contact.to) range.to high
    ∙ before place row high
  where
    apart : (a : Bool) (to place : ℕ) (b : Bool) → to < 1040 → 1040 ≤ place → (a || ((to == place) && b)) ≡ a
    apart a to place b low high = grind (arith, nat_tests, low, high)

-- one contact more has passed on its rows
pub Passes-more : (digits zones : List ℕ) (contacts : List Link) (i : ℕ) (d : Link) (first old new : List ℕ) → i < length contacts
    → IsPassing (slice_index_or contacts i d) → HasEntriesOf first old → Passes digits zones (take i contacts) first old
    → IsPassed digits zones (slice_index_or contacts i d) old new → Passes digits zones (take (i + 1) contacts) first new
Passes-more digits zones contacts i d first old new inside range entries before passed place row =
    passed place row
    ∙ ap (λ b. b || is_passed_by digits zones old place row contact) (before place row)
    ∙ ap (λ b. (has_at first place row || list_any (is_passed_by digits zones first place row) (take i contacts))
    || ((contact.to == place) && (b && is_closed_at digits zones row contact.to))) (entries contact.from row range.from)
    ∙ regrouped (has_at first place row) (list_any (is_passed_by digits zones first place row) (take i contacts))
    (is_passed_by digits zones first place row contact)
    ∙ ap (λ b. has_at first place row || b) (sym (list_any_more (is_passed_by digits zones first place row) contacts i d inside))
  where
    contact : Link
    contact = slice_index_or contacts i d

pub Passes-all : (digits zones : List ℕ) (contacts : List Link) (i : ℕ) (first new : List ℕ) → length contacts ≤ i
    → Passes digits zones (take i contacts) first new → Passes digits zones contacts first new
Passes-all digits zones contacts i first new end passes =
    subst (λ (ls : List Link). Passes digits zones ls first new) (take_all i contacts end) passes

-- before any contact nothing is passed on
pub Passes-none : (digits zones : List ℕ) (sets : List ℕ) → Passes digits zones [] sets sets
Passes-none digits zones sets place row = sym (or-false (has_at sets place row))

-- of two tests neither is true
pub neither : (a b : Bool) → (a || b) ≡ false → (a ≡ false) × (b ≡ false)
neither false b none = (refl, none)
neither true b none = cc

-- numbers of which it is not told that they differ
pub not-other : (one other : ℕ) → not (one == other) ≡ false → one ≡ other
not-other one other none = grind (arith, nat_tests, none)

-- the contacts of runs as a test of each
pub any-contact : (runs : List Run) (from to : ℕ) → is_any_contact runs from to ≡ list_any (λ run. is_contact run from to) runs
any-contact [] from to = refl
any-contact (run ∷ runs) from to = ap (λ b. is_contact run from to || b) (any-contact runs from to)

-- the contacts of one run more
pub any-appended : (runs : List Run) (run : Run) (from to : ℕ)
    → is_any_contact (runs ++ run ∷ []) from to ≡ (is_any_contact runs from to || is_contact run from to)
any-appended runs run from to =
    any-contact (runs ++ run ∷ []) from to ∙ list_any-append (λ (r : Run). is_contact r from to) runs (run ∷ [])
    ∙ (λ i. sym (any-contact runs from to) i || or-false (is_contact run from to) i)

pub any-more : (runs : List Run) (i : ℕ) (d run : Run) (from to : ℕ) → i < length runs → slice_index_or runs i d ≡ run
    → is_any_contact (take (i + 1) runs) from to ≡ (is_any_contact (take i runs) from to || is_contact run from to)
any-more runs i d run from to inside is =
    any-contact (take (i + 1) runs) from to ∙ list_any_more (λ (r : Run). is_contact r from to) runs i d inside
    ∙ (λ j. sym (any-contact (take i runs) from to) j || is_contact (is j) from to)

-- one run of contacts more is added
pub contacts-more : (runs : List Run) (i : ℕ) (d run : Run) (places : List ℕ) (first old new : List Link) → i < length runs
    → slice_index_or runs i d ≡ run → AddsContacts (is_any_contact (take i runs)) places first old
    → AddsContacts (is_contact run) places old new → AddsContacts (is_any_contact (take (i + 1) runs)) places first new
contacts-more runs i d run places first old new inside is before added from to =
    added from to
    ∙ ap (λ b. b || (is_contact run from to && has_place places from)) (before from to)
    ∙ shift (is_linked first from to) (is_any_contact (take i runs) from to) (is_contact run from to) (has_place places from)
    ∙ ap (λ b. is_linked first from to || (b && has_place places from)) (sym (any-more runs i d run from to inside is))
  where
    shift : (a b c d : Bool) → ((a || (b && d)) || (c && d)) ≡ (a || ((b || c) && d))
    shift a b c d = grind (arith, nat_tests)

-- a contact that is closed at a row passes it on from a place that has it
pub passed-from : (digits zones sets : List ℕ) (contacts : List Link) (from place row : ℕ) → is_linked contacts from place ≡ true
    → has_at sets from row ≡ true → is_closed_at digits zones row place ≡ true
    → list_any (is_passed_by digits zones sets place row) contacts ≡ true
passed-from digits zones sets contacts from place row linked at shut =
    let one = linked-found (λ link. link ≡ link) contacts from place (λ k d inside. refl) linked in
    one.4 (is_passed_by digits zones sets place row)
    (and_from _ _ (ap (λ (p : ℕ). one.0.to == p) one.3 ∙ itself one.0.to)
    (and_from _ _ (ap (λ (p : ℕ). has_at sets p row) (sym one.2) ∙ at) (ap (is_closed_at digits zones row) (sym one.3) ∙ shut)))

-- a place that something is linked to is led to
pub linked-led : (links : List Link) (from to : ℕ) → is_linked links from to ≡ true → is_led_to links to ≡ true
linked-led links from to linked =
    let one = linked-found (λ link. link ≡ link) links from to (λ k d inside. refl) linked in
    one.4 (λ (link : Link). link.to == to) (ap (λ (p : ℕ). one.0.to == p) one.3 ∙ itself one.0.to)

-- a place that a contact leads to is linked to one that it leads from
pub led-linked : (contacts : List Link) (to : ℕ) → All IsPassing contacts → is_led_to contacts to ≡ true
    → (from : ℕ) × (from < 1936) × (to < 1040) × (is_linked contacts from to ≡ true)
led-linked contacts to passing led =
    let one = picked IsPassing (λ (contact : Link). contact.to == to) contacts passing led in
    let is = and_from _ _ (itself one.0.from) (turned one.0.to to one.2) in
    (one.0.from, one.1.high, subst (λ (p : ℕ). p < 1040) (equal one.0.to to one.2) one.1.to, one.3 (is_link one.0.from to) is)

-- what is not true is false
pub not-true : (test : Bool) → not test ≡ true → test ≡ false
not-true true is = cc
not-true false is = refl

-- a contact that is closed at no row of its near end passes none on
unpassed : (digits zones sets : List ℕ) (contact : Link) (place row : ℕ)
    → (has_at sets contact.from row && is_closed_at digits zones row contact.to) ≡ false
    → has_at sets place row ≡ (has_at sets place row || is_passed_by digits zones sets place row contact)
unpassed digits zones sets contact place row none =
    sym
    (ap (λ b. has_at sets place row || ((contact.to == place) && b)) none
    ∙ nothing (has_at sets place row) (contact.to == place))
  where
    nothing : (a b : Bool) → (a || (b && false)) ≡ a
    nothing a b = grind (arith, nat_tests)

-- so it is where its near end has no row
pub nothing-passed : (digits zones sets : List ℕ) (contact : Link) (place row : ℕ) → slice_index_or sets contact.from 0 ≡ 0
    → has_at sets place row ≡ (has_at sets place row || is_passed_by digits zones sets place row contact)
nothing-passed digits zones sets contact place row none =
    unpassed digits zones sets contact place row
    (ap (λ (w : ℕ). is_bit w row && is_closed_at digits zones row contact.to) none
    ∙ ap (λ b. b && is_closed_at digits zones row contact.to) (is_bit-zero row))

-- and where it is closed at none of its rows
pub shut-passed : (digits zones sets : List ℕ) (contact : Link) (place row closed : ℕ)
    → is_bit closed row ≡ is_closed_at digits zones row contact.to → bit_and (slice_index_or sets contact.from 0) closed ≡ 0
    → has_at sets place row ≡ (has_at sets place row || is_passed_by digits zones sets place row contact)
shut-passed digits zones sets contact place row closed is none =
    unpassed digits zones sets contact place row
    (sym (is_bit-and (slice_index_or sets contact.from 0) closed row ∙ ap (λ b. has_at sets contact.from row && b) is)
    ∙ ap (λ (w : ℕ). is_bit w row) none ∙ is_bit-zero row)
