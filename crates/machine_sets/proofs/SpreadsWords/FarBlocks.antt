-- The blocks to which links and eights of contacts lead, and that these alone are touched by what they bring.
use Rattle.std.proofs.Common.{⊎_elim, ◌≡◌, ◌∙◌, ℕ, ◌+◌, ◌-◌, ◌/◌, ◌<◌, ◌≤◌, ◌&&◌, ◌||◌, Bool, true, List, All, sym, ap, subst, arith, length, slice_index_or, bit_or}
use Rattle.std.specs.Prelude.{◌==◌, nat_le, nat_lt}
use Rattle.std.specs.List.{list_any}
use Rattle.std.proofs.lemmas.Bool.{cases_lt, false≢true, or_left, or_right}
use Rattle.std.proofs.lemmas.Bool.Decides.{nat_tests}
use Rattle.std.proofs.lemmas.List.{get_or_default}
use Rattle.machine_sets.proofs.BitSets.BitLemmas.{is_bit-or}
use Rattle.machine_sets.specs.BitSets.Bits.{is_bit}
use Rattle.machine_sets.specs.BitSets.Contacts.{is_any_contact, is_contact}
use Rattle.machine_sets.specs.declared.bit_sets.contacts.Run.{Run}
use Rattle.machine_sets.specs.SpreadsWords.Blocks.{AreTouched, RunLeadsTo}
use Rattle.machine_sets.specs.SpreadsWords.Links.{IsEight, Spreads, is_fed_at}
use Rattle.machine_sets.specs.SpreadsWords.Passing.{RunsPass, is_passed_in}
use Rattle.machine_sets.specs.SpreadsWords.Paths.{AreEightsTo, AreWires}
use Rattle.machine_sets.specs.declared.spreads.links.Link.{Link}
use Rattle.machine_sets.proofs.SpreadsWords.ContactRuns.{run-found}
use Rattle.machine_sets.proofs.SpreadsWords.LinkLemmas.{fed-found, held, itself, picked}
use Rattle.machine_sets.proofs.SpreadsWords.PassLemmas.{any-contact}
use Rattle.machine_sets.proofs.SpreadsWords.Touched.{not-both, touched-more}

-- what holds of the items so far, and still of more blocks, and of one item more
items-more : {A : Type 0} → (holds : ℕ → A → Type 0) (items : List A) (i : ℕ) (d e : A) (old new : ℕ) → i < length items
    → ((item : A) → holds old item → holds new item) → ((k : ℕ) → k < i → holds old (slice_index_or items k d))
    → holds new (slice_index_or items i e) → (k : ℕ) → k < i + 1 → holds new (slice_index_or items k d)
items-more {A} holds items i d e old new inside goes_on before here k less = ⊎_elim
    (λ (low : k < i). goes_on (slice_index_or items k d) (before k low))
    (λ (high : i ≤ k).
    let same : i ≡ k = omega (arith, less, high) in
    subst (λ (p : ℕ). holds new (slice_index_or items p d)) same
    (subst (λ (item : A). holds new item) (get_or_default items i e d inside) here))
    (cases_lt k i)

block-kept : (blocks more block : ℕ) → is_bit blocks block ≡ true → is_bit (bit_or blocks more) block ≡ true
block-kept blocks more block on = is_bit-or blocks more block ∙ or_left _ _ on

block-added : (blocks more block : ℕ) → is_bit more block ≡ true → is_bit (bit_or blocks more) block ≡ true
block-added blocks more block on = is_bit-or blocks more block ∙ or_right (is_bit blocks block) _ on

-- one link more leads to its block
pub link-more : (links : List Link) (i : ℕ) (d e : Link) (blocks block : ℕ) → i < length links
    → ((k : ℕ) → k < i → is_bit blocks ((slice_index_or links k d).to / 32) ≡ true)
    → ((b : ℕ) → is_bit block b ≡ (b == (slice_index_or links i e).to / 32))
    → (k : ℕ) → k < i + 1 → is_bit (bit_or blocks block) ((slice_index_or links k d).to / 32) ≡ true
link-more links i d e blocks block inside before of =
    items-more (λ bits link. is_bit bits (link.to / 32) ≡ true) links i d e blocks (bit_or blocks block) inside
    (λ link on. block-kept blocks block (link.to / 32) on) before
    (block-added blocks block ((slice_index_or links i e).to / 32)
    (of ((slice_index_or links i e).to / 32) ∙ itself ((slice_index_or links i e).to / 32)))

-- the contacts of one eight more lead to its blocks
pub eight-more : (eights : List Run) (i : ℕ) (d e : Run) (blocks more : ℕ) → i < length eights
    → ((k : ℕ) → k < i → RunLeadsTo blocks (slice_index_or eights k d)) → IsEight (slice_index_or eights i e)
    → ((place : ℕ) → (slice_index_or eights i e).exits ≤ place
    → place < (slice_index_or eights i e).exits + (slice_index_or eights i e).count → place < 1936 → is_bit more (place / 32) ≡ true)
    → (k : ℕ) → k < i + 1 → RunLeadsTo (bit_or blocks more) (slice_index_or eights k d)
eight-more eights i d e blocks more inside before eight here =
    items-more RunLeadsTo eights i d e blocks (bit_or blocks more) inside
    (λ run on place from to. block-kept blocks more (place / 32) (on place from to)) before
    (λ place from to. block-added blocks more (place / 32) (here place from to (let low = eight.room.to in omega (arith, low, to))))

-- a contact of the runs leads to one of their blocks
any-to : (runs : List Run) (blocks from to : ℕ) → All (RunLeadsTo blocks) runs → is_any_contact runs from to ≡ true
    → is_bit blocks (to / 32) ≡ true
any-to runs blocks from to all contact =
    let one = picked (RunLeadsTo blocks) (λ (run : Run). is_contact run from to) runs all (sym (any-contact runs from to) ∙ contact) in
    let at = lies one.0.exits one.0.count (from == one.0.common + (to - one.0.exits)) one.2 in
    one.1 to at.0 at.1
  where
    lies : (exits count : ℕ) (a : Bool) → (nat_le exits to && (nat_lt (to - exits) count && a)) ≡ true → (exits ≤ to) × (to < exits + count)
    lies exits count a e = (grind (arith, nat_tests, e), grind (arith, nat_tests, e))

-- what is spread along wires touches the blocks to which they lead
pub touched-spread : (touched blocks : ℕ) (links : List Link) (old new : List ℕ) → AreWires blocks links → AreTouched touched old
    → length new ≡ 1936 → Spreads links old new → AreTouched (bit_or touched blocks) new
touched-spread touched blocks links old new wires are long spreads =
    touched-more touched blocks old new are long
    (λ place row low off none.
    spreads place row ∙ ap (λ b. b || is_fed_at links old place row) none
    ∙ not-both (is_fed_at links old place row)
    (λ fed.
    let found = fed-found links old place row wires.range fed in
    false≢true (sym off ∙ held (λ f t. is_bit blocks (t / 32) ≡ true) links found.0 place wires.far found.2)))

-- what contacts pass on touches the blocks to which they lead
pub touched-passed : (digits zones : List ℕ) (touched blocks : ℕ) (eights : List Run) (old new : List ℕ) → AreEightsTo blocks eights
    → AreTouched touched old → length new ≡ 1936 → RunsPass digits zones eights old new → AreTouched (bit_or touched blocks) new
touched-passed digits zones touched blocks eights old new lawful are long passes =
    touched-more touched blocks old new are long
    (λ place row low off none.
    passes place row ∙ ap (λ b. b || list_any (is_passed_in digits zones old place row) eights) none
    ∙ not-both (list_any (is_passed_in digits zones old place row) eights)
    (λ passed.
    let found = run-found digits zones old eights place row (λ k d inside. (lawful.each k d inside).room) passed in
    false≢true (sym off ∙ any-to eights blocks found.0 place lawful.far found.3)))
