-- Sets of rows that are spread along wires and passed on by closed contacts, in turns: at each row they become the picture.
use Rattle.std.proofs.Common.{◌≡◌, ◌∙◌, ◌↔◌, ◌⊎◌, inl, inr, sym, ap, refl, ℕ, ◌-◌, Bool, true, false, Option, Some, None, List}
use Rattle.std.proofs.lemmas.Bool.{false≢true}
use Rattle.card_code.specs.Rows.{passing_place}
use Rattle.card_code.specs.declared.row.Row.{Row as CardRow}
use Rattle.hubs.proofs.HubLemmas.{in_range}
use Rattle.hubs.specs.Hubs.{is_hub_in_range, number_of}
use Rattle.hubs.specs.declared.hub.Hub.{Hub}
use Rattle.hubs.specs.SetupsWords.Wiring.{HasWire, LeadsToEntries, Wiring}
use Rattle.net.proofs.ImpulsedLaws.{impulsed_within, no_exit_is_entry}
use Rattle.net.specs.HubSets.{HubSet}
use Rattle.net.specs.Impulsed.{IsImpulsed, IsPicture}
use Rattle.net.specs.Impulsed.IsImpulsed.{emitting, led_on}
use Rattle.net.specs.Laws.{EmitsOrIsFed, FollowsLeads}
use Rattle.net.specs.HubRows.{has_at_number, has_row_at}
use Rattle.machine_sets.specs.SpreadsWords.Links.{has_at}
use Rattle.net.specs.Panel.{contact_of}
use Rattle.net.specs.Passing.{AreContactsSilent, closes_at_row}
use Rattle.net.proofs.PassedSets.{IsPassedAt, PassesBehind, PassesOn, SpreadsOn, SpreadsRows}
use Rattle.machine_sets.specs.SpreadsWords.Passing.{SameSets}
use Rattle.net.specs.RowSets.{pictures_of}
use Rattle.net.specs.declared.cycle.Point.TheVariants.{Row}

-- the same sets are asked alike
same-row : (old new : List ℕ) → SameSets old new → (row : ℕ) (hub : Hub) → has_row_at new row hub ≡ has_row_at old row hub
same-row old new same row hub = by (number_of hub) where
  by : (number : Option ℕ) → has_at_number new row number ≡ has_at_number old row number
  by (Some n) = same (n - 1) row
  by None = refl

module _ (wiring : Wiring) (test : Hub → Bool) (digits zones : HubSet) (row : CardRow) (first : List ℕ) (leads : LeadsToEntries wiring)
    (all : (hub : Hub) → has_row_at first (passing_place row) hub ≡ true → test hub ≡ true) where
  abbrev exits : Hub → Bool
  exits hub = has_row_at first (passing_place row) hub

  abbrev closed : Hub → Bool
  closed hub = closes_at_row digits zones row hub

  -- the row is spread along the wires
  abbrev SpreadsRow : List ℕ → List ℕ → Type 0
  SpreadsRow old new =
      (hub : Hub) → (has_row_at new (passing_place row) hub ≡ true) ↔ EmitsOrIsFed wiring (has_row_at old (passing_place row)) hub

  -- all hubs of the sets are impulsed
  abbrev AreImpulsed : List ℕ → Type 0
  AreImpulsed sets = (hub : Hub) → has_row_at sets (passing_place row) hub ≡ true → IsImpulsed wiring exits closed hub

  -- so it is of the first sets once they are spread, of others that are spread, and of those that are passed on
  first-impulsed : (new : List ℕ) → SpreadsRows wiring first new → AreImpulsed new
  first-impulsed new spread hub on = by ((spread row hub).0 on) where
    by : EmitsOrIsFed wiring exits hub → IsImpulsed wiring exits closed hub
    by (inl emits) = emitting hub emits.0 emits.1
    by (inr fed) = led_on fed.exit hub (emitting fed.exit (exit-there fed.exit fed.emits) fed.emits) (inl fed.wire)
      where
        exit-there : (exit : Hub) → has_row_at first (passing_place row) exit ≡ true → is_hub_in_range exit ≡ true
        exit-there exit at = there (number_of exit) refl at
          where
            there : (number : Option ℕ) → number_of exit ≡ number → has_row_at first (passing_place row) exit ≡ true → is_hub_in_range exit ≡ true
            there (Some n) is at = in_range exit n is
            there None is at = absurd (false≢true (sym (ap (has_at_number first (passing_place row)) is) ∙ at))

  spread-impulsed : (old new : List ℕ) → SpreadsRow old new → AreImpulsed old → AreImpulsed new
  spread-impulsed old new spread before hub on = by ((spread hub).0 on) where
    by : EmitsOrIsFed wiring (has_row_at old (passing_place row)) hub → IsImpulsed wiring exits closed hub
    by (inl emits) = before hub emits.1
    by (inr fed) = led_on fed.exit hub (before fed.exit fed.emits) (inl fed.wire)

  passed-impulsed : (old new : List ℕ) → PassesOn wiring test digits zones old new → AreImpulsed old → AreImpulsed new
  passed-impulsed old new passes before hub on = by (passes.only row hub on) where
    by : (has_row_at old (passing_place row) hub ≡ true) ⊎ IsPassedAt digits zones old row hub → IsImpulsed wiring exits closed hub
    by (inl at) = before hub at
    by (inr passed) = led_on passed.common hub (before passed.common passed.on) (inr (passed.contact, passed.closed))

  -- what is spread has the hubs that wires lead to from its own
  spread-follows : (old new : List ℕ) → LeadsToEntries wiring → SpreadsRow old new → (from to : Hub)
      → has_row_at new (passing_place row) from ≡ true → HasWire wiring from to → has_row_at new (passing_place row) to ≡ true
  spread-follows old new leads spread from to on wire = by ((spread from).0 on) where
    by : EmitsOrIsFed wiring (has_row_at old (passing_place row)) from → has_row_at new (passing_place row) to ≡ true
    by (inl emits) = (spread to).1 (inr (record { exit = from; emits = emits.1; wire = wire }))
    by (inr fed) = absurd (no_exit_is_entry from (leads from to wire).0 (leads fed.exit from fed.wire).1)

  -- sets whose hubs are impulsed, that have the first ones, and what their hubs lead on to, are the picture
  picture-of : (sets : List ℕ) → AreImpulsed sets
      → ((hub : Hub) → is_hub_in_range hub ≡ true → exits hub ≡ true → has_row_at sets (passing_place row) hub ≡ true)
      → ((from to : Hub) → has_row_at sets (passing_place row) from ≡ true → HasWire wiring from to → has_row_at sets (passing_place row) to ≡ true)
      → ((common hub : Hub) → contact_of hub ≡ Some common → closed hub ≡ true → has_row_at sets (passing_place row) common ≡ true
      → has_row_at sets (passing_place row) hub ≡ true)
      → IsPicture wiring exits closed (has_row_at sets (passing_place row))
  picture-of sets impulsed holds wires contacts hub = (
    impulsed hub,
    λ at. impulsed_within wiring exits closed (has_row_at sets (passing_place row)) holds follows at,
  )
    where
      follows : FollowsLeads wiring closed (has_row_at sets (passing_place row))
      follows from to on (inl wire) = wires from to on wire
      follows from to on (inr contact) = contacts from to contact.0 contact.1 on

  -- where nothing is passed on
  once : (spread passed : List ℕ) → AreContactsSilent first → SpreadsRows wiring first spread
      → PassesOn wiring test digits zones spread passed → SameSets spread passed
      → IsPicture wiring exits closed (has_row_at spread (passing_place row))
  once spread passed silent spreads passes same =
      picture-of spread (first-impulsed spread spreads)
      (λ hub there emits. (spreads row hub).1 (inl (there, emits)))
      (spread-follows first spread leads (λ h. spreads row h))
      (λ common hub contact shut on.
      sym (same-row spread passed same (passing_place row) hub)
      ∙ by common hub contact shut on ((spreads row common).0 on))
    where
      by : (common hub : Hub) → contact_of hub ≡ Some common → closed hub ≡ true → has_row_at spread (passing_place row) common ≡ true
          → EmitsOrIsFed wiring exits common → has_row_at passed (passing_place row) hub ≡ true
      by common hub contact shut on (inl emits) =
          absurd (false≢true (sym (silent common hub contact row).0 ∙ emits.1))
      by common hub contact shut on (inr fed) =
          passes.passed row fed.exit hub (record { common = common; contact = contact; closed = shut; on = on }) (all fed.exit fed.emits) fed.wire

  -- what is passed on once is spread on by the wires from the exits of contacts alone
  spread-on : (spread passed spread_on : List ℕ) → AreContactsSilent first → SpreadsRows wiring first spread
      → PassesOn wiring test digits zones spread passed → SpreadsOn wiring test passed spread_on → SpreadsRow passed spread_on
  spread-on spread passed spread_on silent spreads passes on hub = (on.only (passing_place row) hub, by) where
    from-spread : (exit : Hub) → has_row_at spread (passing_place row) exit ≡ true → HasWire wiring exit hub
        → has_row_at spread_on (passing_place row) hub ≡ true
    from-spread exit at wire =
        on.kept (passing_place row) hub
        (passes.kept row hub (spread-follows first spread leads (λ h. spreads row h) exit hub at wire))

    by : EmitsOrIsFed wiring (has_row_at passed (passing_place row)) hub → has_row_at spread_on (passing_place row) hub ≡ true
    by (inl emits) = on.kept (passing_place row) hub emits.1
    by (inr fed) = elim (passes.only row fed.exit fed.emits) [
      | inl at ↦ from-spread fed.exit at fed.wire
      | inr contact ↦ wired contact ((spreads row contact.common).0 contact.on)
    ]
      where
        wired : (contact : IsPassedAt digits zones spread row fed.exit) → EmitsOrIsFed wiring exits contact.common
            → has_row_at spread_on (passing_place row) hub ≡ true
        wired contact (inl emits) = absurd (false≢true (sym (silent contact.common fed.exit contact.contact row).0 ∙ emits.1))
        wired contact (inr before) =
            on.fed (passing_place row) fed.exit contact.common hub before.exit contact.contact (all before.exit before.emits) before.wire fed.wire fed.emits

  -- where what is passed on once passes no further contact
  twice : (spread passed spread_on passed_on : List ℕ) → AreContactsSilent first → SpreadsRows wiring first spread
      → PassesOn wiring test digits zones spread passed → SpreadsRow passed spread_on
      → PassesBehind wiring test digits zones spread_on passed_on → SameSets spread_on passed_on
      → IsPicture wiring exits closed (has_row_at spread_on (passing_place row))
  twice spread passed spread_on passed_on silent spreads passes spreads_on passes_on same =
      picture-of spread_on
      (spread-impulsed passed spread_on spreads_on (passed-impulsed spread passed passes (first-impulsed spread spreads)))
      (λ hub there emits. stays hub (passes.kept row hub ((spreads row hub).1 (inl (there, emits)))))
      (spread-follows passed spread_on leads spreads_on)
      (λ common hub contact shut on. by common hub contact shut on ((spreads_on common).0 on))
    where
      stays : (hub : Hub) → has_row_at passed (passing_place row) hub ≡ true → has_row_at spread_on (passing_place row) hub ≡ true
      stays hub at = there (number_of hub) refl
        where
          there : (number : Option ℕ) → number_of hub ≡ number → has_row_at spread_on (passing_place row) hub ≡ true
          there (Some n) is = (spreads_on hub).1 (inl (in_range hub n is, at))
          there None is = absurd (false≢true (sym (ap (has_at_number passed (passing_place row)) is) ∙ at))

      -- a contact at which a row was before contacts passed any on
      before : (common hub : Hub) → contact_of hub ≡ Some common → closed hub ≡ true → has_row_at spread (passing_place row) common ≡ true
          → has_row_at spread_on (passing_place row) hub ≡ true
      before common hub contact shut at = arrived ((spreads row common).0 at)
        where
          arrived : EmitsOrIsFed wiring exits common → has_row_at spread_on (passing_place row) hub ≡ true
          arrived (inl emits) = absurd (false≢true (sym (silent common hub contact row).0 ∙ emits.1))
          arrived (inr fed) =
              stays hub
              (passes.passed row fed.exit hub (record { common = common; contact = contact; closed = shut; on = at }) (all fed.exit fed.emits) fed.wire)

      by : (common hub : Hub) → contact_of hub ≡ Some common → closed hub ≡ true
          → has_row_at spread_on (passing_place row) common ≡ true → EmitsOrIsFed wiring (has_row_at passed (passing_place row)) common
          → has_row_at spread_on (passing_place row) hub ≡ true
      by common hub contact shut on (inl emits) = before common hub contact shut (passes.commons row common hub contact emits.1)
      by common hub contact shut on (inr fed) = elim (passes.only row fed.exit fed.emits) [
        | inl at ↦
            before common hub contact shut
            (spread-follows first spread leads (λ h. spreads row h) fed.exit common at fed.wire)
        | inr other ↦ through other ((spreads row other.common).0 other.on)
      ]
        where
          through : (other : IsPassedAt digits zones spread row fed.exit) → EmitsOrIsFed wiring exits other.common
              → has_row_at spread_on (passing_place row) hub ≡ true
          through other (inl emits) = absurd (false≢true (sym (silent other.common fed.exit other.contact row).0 ∙ emits.1))
          through other (inr first_wire) =
              sym (same-row spread_on passed_on same (passing_place row) hub)
              ∙ passes_on.passed row first_wire.exit other.common fed.exit hub
              (record { common = common; contact = contact; closed = shut; on = on }) (all first_wire.exit first_wire.emits) first_wire.wire
              other.contact fed.wire

-- a picture by other sets that are the same
picture-same : (wiring : Wiring) (exits closed : Hub → Bool) (old new : List ℕ) (row : ℕ) → SameSets old new
    → IsPicture wiring exits closed (has_row_at old row) → IsPicture wiring exits closed (has_row_at new row)
picture-same wiring exits closed old new row same is hub = (
  λ on. (is hub).0 (sym (same-row old new same row hub) ∙ on),
  λ at. same-row old new same row hub ∙ (is hub).1 at,
)

pub passed_once : (wiring : Wiring) (test : Hub → Bool) (digits zones : HubSet) (row : CardRow) (first spread passed : List ℕ) → LeadsToEntries wiring
    → ((hub : Hub) → has_row_at first (passing_place row) hub ≡ true → test hub ≡ true) → AreContactsSilent first
    → SpreadsRows wiring first spread → PassesOn wiring test digits zones spread passed → SameSets spread passed
    → IsPicture wiring (pictures_of first (Row row)) (closes_at_row digits zones row) (pictures_of passed (Row row))
passed_once wiring test digits zones row first spread passed leads all silent spreads passes same =
    picture-same wiring _ _ spread passed (passing_place row) same (once wiring test digits zones row first leads all spread passed silent spreads passes same)

-- where no place has a row nothing is impulsed
pub passed_none : (wiring : Wiring) (digits zones : HubSet) (row : CardRow) (sets : List ℕ) → ((place r : ℕ) → has_at sets place r ≡ false)
    → IsPicture wiring (pictures_of sets (Row row)) (closes_at_row digits zones row) (pictures_of sets (Row row))
passed_none wiring digits zones row sets none hub = (
  λ on. absurd (nowhere hub on),
  λ at. impulsed_within wiring _ _ (has_row_at sets (passing_place row)) (λ h there emits. emits) (λ from to on way. absurd (nowhere from on)) at,
)
  where
    by : (number : Option ℕ) → has_at_number sets (passing_place row) number ≡ false
    by (Some number) = none (number - 1) (passing_place row)
    by None = refl

    nowhere : (h : Hub) → has_row_at sets (passing_place row) h ≡ true → ⊥
    nowhere h at = false≢true (sym (by (number_of h)) ∙ at)

pub passed_twice : (wiring : Wiring) (test : Hub → Bool) (digits zones : HubSet) (row : CardRow) (first spread passed spread_on passed_on : List ℕ)
    → LeadsToEntries wiring → ((hub : Hub) → has_row_at first (passing_place row) hub ≡ true → test hub ≡ true) → AreContactsSilent first → SpreadsRows wiring first spread → PassesOn wiring test digits zones spread passed
    → SpreadsOn wiring test passed spread_on → PassesBehind wiring test digits zones spread_on passed_on → SameSets spread_on passed_on
    → IsPicture wiring (pictures_of first (Row row)) (closes_at_row digits zones row) (pictures_of passed_on (Row row))
passed_twice wiring test digits zones row first spread passed spread_on passed_on leads all silent spreads passes spreads_on passes_on same =
    picture-same wiring _ _ spread_on passed_on (passing_place row) same
    (twice wiring test digits zones row first leads all spread passed spread_on passed_on silent spreads passes
    (spread-on wiring test digits zones row first leads all spread passed spread_on silent spreads passes spreads_on) passes_on same)
