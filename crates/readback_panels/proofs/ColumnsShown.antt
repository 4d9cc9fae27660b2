-- Columns that texts show: as a draft gains fields and items, and as a run goes on.
use Rattle.std.proofs.Common.{◌≡◌, ◌∙◌, ◌++◌, ◌∷◌, [], ℕ, ◌+◌, ◌<◌, ◌≤◌, ◌⊎◌, inl, inr, arith, ap, refl, subst, sym, All, Contains, Bool, true, false, ◌||◌, List, length, length-append, get_or, slice_get, Option, None, Some, IfSome, Result, Ok, Err, IfOk}
use Rattle.std.proofs.lemmas.Bool.{cases_lt}
use Rattle.std.proofs.lemmas.List.{get_or_append_left, get_or_push}
use Rattle.std.proofs.lemmas.List.Elements.{All-head, All-tail, Contains-append_left, Contains-push}
use Rattle.std.proofs.lemmas.Option.{get_or_from_slice_get, none-some, same_Some, slice_get-get_or, slice_get_within}
use Rattle.std.specs.Prelude.{OnOk}
use Rattle.std.specs.List.{list_any}
use Rattle.chart_lines.specs.declared.charts.level.ControlLevel.{ControlLevel}
use Rattle.chart_lines.specs.declared.charts.statement.BodyLine.TheVariants.{Detail}
use Rattle.hubs.specs.declared.hub.Hub.TheVariants as hub
use Rattle.readback_panels.specs.Lowest.{IsLowest, IsNone}
use Rattle.readback_panels.specs.Shown.{AreShownBelow, GoesOn, GoesOnWith, HasColumns, IsAmountWheel, IsAmountZone, IsColumnOn, IsPlainCell, IsShownBehind, IsStraight, IsTextCell, KeepsFields, KeepsShown, RunShows, ShowsColumn, ShowsColumns, ShowsOutside, running, shown}
use Rattle.readback_panels.specs.Zones.{has_wheel}
use Rattle.readback_panels.specs.declared.card_line.Cell.{Cell}
use Rattle.readback_panels.specs.declared.card_line.Run.{Run}
use Rattle.readback_panels.specs.declared.draft.Draft.{Draft}
use Rattle.readback_panels.specs.declared.draft.DraftField.{DraftField}
use Rattle.readback_panels.specs.declared.draft.Item.{Item}
use Rattle.readback_panels.specs.declared.draft.PrintedLine.TheVariants.{Body}
use Rattle.readback_panels.specs.declared.draft.Said.TheVariants.{Text}
use Rattle.readback_panels.specs.declared.hub_rows.HubRow.{HubRow}
use Rattle.readback_panels.specs.declared.hub_rows.HubRow.TheVariants as row
use Rattle.readback_panels.specs.declared.zones.Zone.{Zone}
use Rattle.hubs.specs.SetupsWords.Wiring.{HasWire, Wiring}

-- what stands at a place of a list, with more behind, and at the last place
slice-more : {X : Type 0} (xs ys : List X) (place : ℕ) (x : X) → slice_get xs place ≡ Some x → slice_get (xs ++ ys) place ≡ Some x
slice-more xs ys place x at =
    let within : place < length xs = slice_get_within xs place x at in
    slice_get-get_or (xs ++ ys) place x (omega (arith, length-append xs ys, within))
    ∙ ap Some (get_or_append_left xs ys x place within ∙ get_or_from_slice_get xs place x x at)

slice-last : {X : Type 0} (xs : List X) (x : X) → slice_get (xs ++ x ∷ []) (length xs) ≡ Some x
slice-last xs x =
    slice_get-get_or (xs ++ x ∷ []) (length xs) x (omega (arith, length-append xs (x ∷ []))) ∙ ap Some (get_or_push xs x x (length xs) refl)

-- a field more
pub field_pushed : (old new : Draft) (field : DraftField) (place : ℕ) → place ≡ length old.fields.items
    → new.fields.items ≡ old.fields.items ++ field ∷ [] → HasColumns new place field.first field.last
field_pushed old new field place last gained = record {
  its = field;
  at =
      ap (λ (n : ℕ). slice_get new.fields.items n) last ∙ ap (λ (items : List DraftField). slice_get items (length old.fields.items)) gained
      ∙ slice-last old.fields.items field;
  first_is = refl;
  last_is = refl;
}

pub fields_more : (old new : Draft) (more : List DraftField) → new.fields.items ≡ old.fields.items ++ more → KeepsFields old new
fields_more old new more gained place its at =
    ap (λ (items : List DraftField). slice_get items place) gained ∙ slice-more old.fields.items more place its at

-- a field of a draft
pub place_found : (draft : Draft) (place first last : ℕ) (d : DraftField) → place < length draft.fields.items
    → (get_or draft.fields.items place d).first ≡ first → (get_or draft.fields.items place d).last ≡ last
    → HasColumns draft place first last
place_found draft place first last d less first_is last_is = record {
  its = get_or draft.fields.items place d;
  at = slice_get-get_or draft.fields.items place d less;
  first_is = first_is;
  last_is = last_is;
}

-- the same fields
pub fields_same : (old new : Draft) → new.fields ≡ old.fields → KeepsFields old new
fields_same old new same place its at = ap (λ v. slice_get v.items place) same ∙ at

pub fields_then : (old between new : Draft) → KeepsFields old between → KeepsFields between new → KeepsFields old new
fields_then old between new first second place its at = second place its (first place its at)

pub fields_last : {E : Type 0} (result : Result (Unit {0}) E) (old between new : Draft) → KeepsFields old between
    → OnOk result (KeepsFields between new) → OnOk result (KeepsFields old new)
fields_last (Ok _) old between new first second = fields_then old between new first second
fields_last (Err _) old between new first second = tt

-- items more
pub kept_more : (old new : Draft) (more : List Item) → new.items.items ≡ old.items.items ++ more → KeepsFields old new → KeepsShown old new
kept_more old new more gained fields wheel column here = record {
  item = here.item;
  listed =
      subst (λ (items : List Item). Contains items here.item) (sym gained)
      (Contains-append_left old.items.items more here.item here.listed);
  on = here.on;
  from = here.from;
  to = here.to;
  field = here.field;
  says = here.says;
  its = here.its;
  at = fields here.field here.its here.at;
  wide = here.wide;
  column_is = here.column_is;
}

-- the text of a run, put on the line of a card
pub run_shown : (run : Run) (between new : Draft) (item : Item) (field : ℕ) → IsStraight run → item.line ≡ Body Detail
    → item.first ≡ run.wheel → item.last ≡ run.last_wheel → item.said ≡ Text field run.level
    → HasColumns between field run.first run.last → new.fields ≡ between.fields → new.items.items ≡ between.items.items ++ item ∷ []
    → (wheel column : ℕ) → RunShows run wheel column → ShowsColumn new wheel column
run_shown run between new item field straight on first last says has same gained wheel column shows = record {
  item = item;
  listed = subst (λ (items : List Item). Contains items item) (sym gained) (Contains-push between.items.items item);
  on = on;
  from = omega (arith, first, shows.from);
  to = omega (arith, last, shows.to);
  field = field;
  says = says ∙ ap (λ (level : Option ControlLevel). Text field level) shows.plain;
  its = has.its;
  at = fields_same between new same field has.its has.at;
  wide = omega (arith, has.first_is, has.last_is, first, last, straight.wide);
  column_is = omega (arith, has.first_is, first, shows.column_is);
}

pub put_shows : {E : Type 0} (result : Result (Unit {0}) E) (run : Run) (between new : Draft) (item : Item) (field : ℕ) → IsStraight run
    → item.line ≡ Body Detail → item.first ≡ run.wheel → item.last ≡ run.last_wheel → item.said ≡ Text field run.level
    → HasColumns between field run.first run.last → new.fields ≡ between.fields
    → OnOk result (new.items.items ≡ between.items.items ++ item ∷ [])
    → OnOk result ((wheel column : ℕ) → RunShows run wheel column → ShowsColumn new wheel column)
put_shows (Ok _) run between new item field straight on first last says has same gained =
    run_shown run between new item field straight on first last says has same gained
put_shows (Err _) run between new item field straight on first last says has same gained = tt

pub put_keeps : {E : Type 0} (result : Result (Unit {0}) E) (old between new : Draft) (item : Item) → between.items ≡ old.items
    → KeepsFields old between → new.fields ≡ between.fields → OnOk result (new.items.items ≡ between.items.items ++ item ∷ [])
    → OnOk result (KeepsShown old new)
put_keeps (Ok _) old between new item same kept fields gained =
    kept_more old new (item ∷ []) (gained ∙ ap (λ v. v.items ++ item ∷ []) same)
    (fields_then old between new kept (fields_same between new fields))
put_keeps (Err _) old between new item same kept fields gained = tt

-- the lowest of a row is one alone
pub lowest-same : {row : HubRow} {passes : ℕ → Type 0} {a b : ℕ} → IsLowest row passes a → IsLowest row passes b → a ≡ b
lowest-same {row} {passes} {a} {b} first second = by (cases_lt a b) (cases_lt b a)
  where
    by : (a < b) ⊎ (b ≤ a) → (b < a) ⊎ (a ≤ b) → a ≡ b
    by (inl less) other = absurd (second.below a first.from less first.here)
    by (inr _) (inl less) = absurd (first.below b second.from less second.here)
    by (inr one) (inr other) = omega (arith, one, other)

-- the cell of a wheel to which a column leads, and that of one to which none does
pub cell_found : (setup : Wiring) (wheel : ℕ) (cell : Cell) → cell.level ≡ None → IsColumnOn setup wheel cell.column → (column : ℕ)
    → IsColumnOn setup wheel column → IsPlainCell (Some cell) column
cell_found setup wheel cell plain first column second =
    record { cell = cell; is = refl; column_is = lowest-same first second; plain = plain }

pub none_found : (setup : Wiring) (wheel : ℕ) (found : Option Cell)
    → IsNone row.Second (λ number. HasWire setup (hub.SR number) (hub.W wheel)) → (column : ℕ) → IsColumnOn setup wheel column
    → IsPlainCell found column
none_found setup wheel found none column on = absurd (none column on.from on.to on.here)

-- a run goes on by a wheel
pub goes_same : (cell : Cell) (wheel : ℕ) (draft : Draft) (before after : Run) → IsStraight before → wheel ≡ before.last_wheel + 1
    → cell.column ≡ before.last + 1 → cell.level ≡ before.level → after.wheel ≡ before.wheel → after.first ≡ before.first
    → after.last_wheel ≡ wheel → after.last ≡ cell.column → after.level ≡ before.level
    → GoesOnWith cell wheel draft (Some before) draft (Some after)
goes_same cell wheel draft before after straight next column level first_wheel first last_wheel last same = record {
  straight = record {
    ordered = omega (arith, straight.ordered, next, first_wheel, last_wheel);
    wide = omega (arith, straight.wide, next, column, first_wheel, first, last_wheel, last);
  };
  here = λ plain. running after refl (record {
    from = omega (arith, straight.ordered, next, first_wheel);
    to = omega (arith, last_wheel);
    plain = same ∙ sym level ∙ plain;
    column_is = omega (arith, straight.wide, next, column, first_wheel, first);
  });
  kept = kept;
}
  where
    longer : (at its : ℕ) → RunShows before at its → RunShows after at its
    longer at its shows = record {
      from = omega (arith, shows.from, first_wheel);
      to = omega (arith, shows.to, next, last_wheel);
      plain = same ∙ shows.plain;
      column_is = omega (arith, shows.column_is, first_wheel, first);
    }

    kept : (at its : ℕ) → IsShownBehind draft (Some before) at its → IsShownBehind draft (Some after) at its
    kept at its (shown there) = shown there
    kept at its (running run is shows) =
        running after refl (longer at its (subst (λ (r : Run). RunShows r at its) (sym (same_Some before run is)) shows))

-- a run is put on the line, and a new one begins
pub goes_new : (cell : Cell) (wheel : ℕ) (old new : Draft) (before after : Run) → KeepsShown old new
    → ((at its : ℕ) → RunShows before at its → ShowsColumn new at its) → IsStraight after
    → (cell.level ≡ None → RunShows after wheel cell.column) → GoesOnWith cell wheel old (Some before) new (Some after)
goes_new cell wheel old new before after keeps puts straight here = record {
  straight = straight;
  here = λ plain. running after refl (here plain);
  kept = kept;
}
  where
    kept : (at its : ℕ) → IsShownBehind old (Some before) at its → IsShownBehind new (Some after) at its
    kept at its (shown there) = shown (keeps at its there)
    kept at its (running run is shows) =
        shown (puts at its (subst (λ (r : Run). RunShows r at its) (sym (same_Some before run is)) shows))

-- the first run begins
pub goes_first : (cell : Cell) (wheel : ℕ) (draft : Draft) (after : Run) → IsStraight after
    → (cell.level ≡ None → RunShows after wheel cell.column) → GoesOnWith cell wheel draft None draft (Some after)
goes_first cell wheel draft after straight here = record {
  straight = straight;
  here = λ plain. running after refl (here plain);
  kept = kept;
}
  where
    kept : (at its : ℕ) → IsShownBehind draft None at its → IsShownBehind draft (Some after) at its
    kept at its (shown there) = shown there
    kept at its (running run is shows) = absurd (none-some run is)

-- a wheel with a cell, and one without
pub goes_text : {E : Type 0} (result : Result (Option Run) E) (setup : Wiring) (zones : List Zone) (wheel : ℕ) (old new : Draft)
    (run : Option Run) (cell : Cell) (found : Option Cell) → found ≡ Some cell
    → ((column : ℕ) → IsTextCell setup zones wheel column → IsPlainCell found column)
    → IfOk result (GoesOnWith cell wheel old run new) → IfOk result (GoesOn setup zones wheel old run new)
goes_text (Ok next) setup zones wheel old new run cell found is all goes = record {
  straight = goes.straight;
  here = λ column its. by column (all column its);
  kept = goes.kept;
}
  where
    by : (column : ℕ) → IsPlainCell found column → IsShownBehind new next wheel column
    by column plain =
        let same : plain.cell ≡ cell = same_Some plain.cell cell (sym plain.is ∙ is) in
        subst (λ (n : ℕ). IsShownBehind new next wheel n) (ap (λ (c : Cell). c.column) (sym same) ∙ plain.column_is)
        (goes.here (ap (λ (c : Cell). c.level) (sym same) ∙ plain.plain))
goes_text (Err _) setup zones wheel old new run cell found is all goes = tt

pub goes_by : (setup : Wiring) (zones : List Zone) (wheel : ℕ) (draft : Draft) (run : Option Run) (found : Option Cell) → found ≡ None
    → ((column : ℕ) → IsTextCell setup zones wheel column → IsPlainCell found column) → IfSome run IsStraight
    → GoesOn setup zones wheel draft run draft run
goes_by setup zones wheel draft run found is all straight = record {
  straight = straight;
  here = λ column its. absurd (none-some (all column its).cell (sym is ∙ (all column its).is));
  kept = λ at its there. there;
}

-- the wheels up to the next one
pub below_next : (setup : Wiring) (zones : List Zone) (old new : Draft) (run next : Option Run) (bound : ℕ)
    → AreShownBelow setup zones old run bound → GoesOn setup zones bound old run new next → AreShownBelow setup zones new next (bound + 1)
below_next setup zones old new run next bound before goes wheel column from below cell = by (cases_lt wheel bound)
  where
    by : (wheel < bound) ⊎ (bound ≤ wheel) → IsShownBehind new next wheel column
    by (inl earlier) = goes.kept wheel column (before wheel column from earlier cell)
    by (inr behind) =
        let same : bound ≡ wheel = omega (arith, below, behind) in
        subst (λ (n : ℕ). IsShownBehind new next n column) same
        (goes.here column (subst (λ (n : ℕ). IsTextCell setup zones n column) (sym same) cell))

-- behind all wheels
pub all_without_run : (setup : Wiring) (zones : List Zone) (draft : Draft) (run : Option Run) (bound : ℕ) → 121 ≤ bound → run ≡ None
    → AreShownBelow setup zones draft run bound → ShowsOutside setup zones draft
all_without_run setup zones draft run bound far none all wheel column from to cell =
    by (all wheel column from (omega (arith, far, to)) cell)
  where
    by : IsShownBehind draft run wheel column → ShowsColumn draft wheel column
    by (shown there) = there
    by (running its is shows) = absurd (none-some its (sym none ∙ is))

with_run : (setup : Wiring) (zones : List Zone) (old new : Draft) (run : Option Run) (last : Run) (bound : ℕ) → 121 ≤ bound
    → run ≡ Some last → AreShownBelow setup zones old run bound → ((at its : ℕ) → RunShows last at its → ShowsColumn new at its)
    → KeepsShown old new → ShowsOutside setup zones new
with_run setup zones old new run last bound far is all puts keeps wheel column from to cell =
    by (all wheel column from (omega (arith, far, to)) cell)
  where
    by : IsShownBehind old run wheel column → ShowsColumn new wheel column
    by (shown there) = keeps wheel column there
    by (running its same shows) =
        puts wheel column (subst (λ (r : Run). RunShows r wheel column) (same_Some its last (sym same ∙ is)) shows)

pub all_with_run : {E : Type 0} (result : Result (Unit {0}) E) (setup : Wiring) (zones : List Zone) (old new : Draft) (run : Option Run)
    (last : Run) (bound : ℕ) → 121 ≤ bound → run ≡ Some last → AreShownBelow setup zones old run bound
    → OnOk result ((at its : ℕ) → RunShows last at its → ShowsColumn new at its) → OnOk result (KeepsShown old new)
    → OnOk result (ShowsOutside setup zones new)
all_with_run (Ok _) setup zones old new run last bound far is all puts keeps =
    with_run setup zones old new run last bound far is all puts keeps
all_with_run (Err _) setup zones old new run last bound far is all puts keeps = tt

-- a wheel on which the panel shows no amount is in none of the zones
pub outside_amounts : (setup : Wiring) (zones : List Zone) (wheel : ℕ) → All (IsAmountZone setup) zones → ¬ IsAmountWheel setup wheel
    → list_any (has_wheel wheel) zones ≡ false
outside_amounts setup [] wheel all absent = refl
outside_amounts setup (zone ∷ zones) wheel all absent =
    by (has_wheel wheel zone) refl
    (outside_amounts setup zones wheel (All-tail (IsAmountZone setup) zone zones all) absent)
  where
    by : (b : Bool) → has_wheel wheel zone ≡ b → list_any (has_wheel wheel) zones ≡ false
        → (has_wheel wheel zone || list_any (has_wheel wheel) zones) ≡ false
    by true is rest = absurd (absent (All-head (IsAmountZone setup) zone zones all wheel is))
    by false is rest = ap (λ (b : Bool). b || list_any (has_wheel wheel) zones) is ∙ rest

-- what is shown outside of zones of amounts alone, with more behind
pub columns_shown : (setup : Wiring) (zones : List Zone) (card whole : Draft) → All (IsAmountZone setup) zones
    → ShowsOutside setup zones card → KeepsShown card whole → ShowsColumns setup whole
columns_shown setup zones card whole amounts shows keeps wheel column from to absent on =
    keeps wheel column
    (shows wheel column from to (record { outside = outside_amounts setup zones wheel amounts absent; column_on = on }))
