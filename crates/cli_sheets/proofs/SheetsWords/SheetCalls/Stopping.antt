-- What is printed, and why it isn't.
use Rattle.std.proofs.Common.{◌≡◌, ◌≢◌, ◌∙◌, ◌⊎◌, inl, inr, sym, subst, ℕ, List, Option, Some, None, IfSome, Result, Ok, Err}
use Rattle.std.specs.Prelude.{IfErr, OnOk}
use Rattle.std.specs.Io.KnownBytes.{Appends}
use Rattle.chart_lines.specs.ChartsWords.Chart.{Chart}
use Rattle.fault_lines.specs.declared.faults.fault.Fault.{Fault}
use Rattle.fault_lines.specs.declared.faults.fault.Fault.TheVariants as fault
use Rattle.cli_sheets.specs.SheetsWords.Layout.{layout}
use Rattle.cli_sheets.specs.SheetsWords.SheetCalls.Charts.{ReadsLawful, RefusesLines}
use Rattle.cli_sheets.specs.SheetsWords.SheetCalls.Layouts as layouts
use Rattle.cli_sheets.specs.SheetsWords.SheetCalls.Layouts.{PrintsLayout, StopsLayout}
use Rattle.cli_sheets.specs.SheetsWords.SheetCalls.CardSheets as cards
use Rattle.cli_sheets.specs.SheetsWords.SheetCalls.CardSheets.{IsSheetIn, LacksCard, PrintsFields, StopsFields}

-- want of memory, or the output
abbrev pub IsOfDevice : Fault → Type 0
IsOfDevice told = (told ≡ fault.Memory) ⊎ (told ≡ fault.Write)

-- the bytes that were read are the deck
pub whole-deck : (deck : Option (List ℕ)) (read items : List ℕ) → read ≡ items → IfSome deck (λ all. items ≡ all)
    → IfSome deck (λ known. read ≡ known)
whole-deck None read items same is = tt
whole-deck (Some all) read items same is = same ∙ is

-- a layout
module _ (text : List ℕ) (Unprinted : Type 0) where
  pub chart-stops-layout : (met told : Fault) → told ≡ met → (met ≡ fault.Memory) ⊎ RefusesLines text met → Unprinted
      → StopsLayout text told Unprinted
  chart-stops-layout met told same (inl is) unprinted = layouts.memory_wanting (same ∙ is)
  chart-stops-layout met told same (inr refuses) unprinted = layouts.refused (subst (RefusesLines text) (sym same) refuses) unprinted

  pub device-stops-layout : (met told : Fault) → told ≡ met → IsOfDevice met → StopsLayout text told Unprinted
  device-stops-layout met told same (inl is) = layouts.memory_wanting (same ∙ is)
  device-stops-layout met told same (inr is) = layouts.unwritten (same ∙ is)

  pub output-stops-layout : {X : Type 0} (result : Result X Fault) → IfErr result IsOfDevice
      → IfErr result (λ told. StopsLayout text told Unprinted)
  output-stops-layout (Ok _) told = tt
  output-stops-layout (Err met) (inl is) = layouts.memory_wanting is
  output-stops-layout (Err met) (inr is) = layouts.unwritten is

-- the layout of a chart is written after what was there
pub layout-written : (text answer bytes : List ℕ) (chart : Chart) (old new : Option (List ℕ)) → ReadsLawful text chart
    → answer ≡ layout chart.lines → bytes ≡ answer → Appends old new bytes → PrintsLayout text old new
layout-written text answer bytes chart old new reads is put written = record {
  answer = answer;
  is_layout = record { chart = chart; reads = reads; drawn = is };
  written = subst (λ (of : List ℕ). Appends old new of) put written;
}

pub layout-printed : {X E : Type 0} (result : Result X E) (text answer bytes : List ℕ) (chart : Chart) (old new : Option (List ℕ))
    → ReadsLawful text chart → answer ≡ layout chart.lines → bytes ≡ answer
    → OnOk result (Appends old new bytes) → OnOk result (PrintsLayout text old new)
layout-printed (Ok _) text answer bytes chart old new reads is put written =
    layout-written text answer bytes chart old new reads is put written
layout-printed (Err _) text answer bytes chart old new reads is put written = tt

-- the fields of a card
module _ (text : List ℕ) (deck : Option (List ℕ)) (number : ℕ) (unreadable : Fault) (Unprinted : Type 0) where
  pub chart-stops-fields : (met told : Fault) → told ≡ met → (met ≡ fault.Memory) ⊎ RefusesLines text met → Unprinted
      → StopsFields text deck number told unreadable Unprinted
  chart-stops-fields met told same (inl is) unprinted = cards.memory_wanting (same ∙ is)
  chart-stops-fields met told same (inr refuses) unprinted = cards.refused (subst (RefusesLines text) (sym same) refuses) unprinted

  pub reading-stops-fields : (met told : Fault) → told ≡ met → (met ≡ fault.Memory) ⊎ (met ≡ unreadable) → (chart : Chart) → ReadsLawful text chart
      → Unprinted → StopsFields text deck number told unreadable Unprinted
  reading-stops-fields met told same (inl is) chart reads unprinted = cards.memory_wanting (same ∙ is)
  reading-stops-fields met told same (inr is) chart reads unprinted = cards.unread (chart, reads) (same ∙ is) unprinted

  pub card-stops-fields : (met told : Fault) → told ≡ met → (read : List ℕ) → IfSome deck (λ known. read ≡ known)
      → LacksCard read number met ⊎ ((met ≡ fault.Memory) ⊎ (met ≡ fault.Write)) → (chart : Chart) → ReadsLawful text chart
      → Unprinted → StopsFields text deck number told unreadable Unprinted
  card-stops-fields met told same read is_deck (inl lacks) chart reads unprinted =
      cards.lacking (chart, reads) read is_deck (subst (LacksCard read number) (sym same) lacks) unprinted
  card-stops-fields met told same read is_deck (inr (inl is)) chart reads unprinted = cards.memory_wanting (same ∙ is)
  card-stops-fields met told same read is_deck (inr (inr is)) chart reads unprinted = cards.unwritten (same ∙ is)

  pub output-stops-fields : {X : Type 0} (result : Result X Fault) → IfErr result IsOfDevice
      → IfErr result (λ told. StopsFields text deck number told unreadable Unprinted)
  output-stops-fields (Ok _) told = tt
  output-stops-fields (Err met) (inl is) = cards.memory_wanting is
  output-stops-fields (Err met) (inr is) = cards.unwritten is

-- the sheet of a card is written after what was there
pub fields-written : (text : List ℕ) (deck : Option (List ℕ)) (number : ℕ) (read answer bytes : List ℕ) (chart : Chart)
    (old new : Option (List ℕ)) → ReadsLawful text chart → IfSome deck (λ known. read ≡ known) → IsSheetIn chart read number answer
    → bytes ≡ answer → Appends old new bytes → PrintsFields text deck number old new
fields-written text deck number read answer bytes chart old new reads is_deck is put written = record {
  read = read;
  is_deck = is_deck;
  answer = answer;
  is_sheet = record { chart = chart; reads = reads; is_sheet = is };
  written = subst (λ (b : List ℕ). Appends old new b) put written;
}

pub fields-printed : {X E : Type 0} (result : Result X E) (text : List ℕ) (deck : Option (List ℕ)) (number : ℕ)
    (read answer bytes : List ℕ) (chart : Chart) (old new : Option (List ℕ)) → ReadsLawful text chart
    → IfSome deck (λ known. read ≡ known) → IsSheetIn chart read number answer → bytes ≡ answer
    → OnOk result (Appends old new bytes) → OnOk result (PrintsFields text deck number old new)
fields-printed (Ok _) text deck number read answer bytes chart old new reads is_deck is put written =
    fields-written text deck number read answer bytes chart old new reads is_deck is put written
fields-printed (Err _) text deck number read answer bytes chart old new reads is_deck is put written = tt
