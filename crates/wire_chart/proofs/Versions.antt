-- The version in which a setup is written, and the one in which a text is read.
use Rattle.std.proofs.Common.{◌≡◌, ◌≢◌, ◌↔◌, ℕ, List, [], ◌∷◌, Result, Ok, Err, IfOk, codes, get_or, ap, sym, ◌∙◌, subst, arith, refl}
use Rattle.card_code.specs.Lines.{lines_of}
use Rattle.hubs.specs.declared.hub.Hub.{Hub}
use Rattle.hubs.specs.SetupsWords.Wiring.{Wiring, HasWire}
use Rattle.chart_lines.proofs.TokensWords.TokenGrammar.{one_division}
use Rattle.wire_chart.specs.WrittenText.{IsWritten, IsWrittenIn, JoinsGroups, wire_form}
use Rattle.wire_chart.specs.declared.form.WireForm.TheVariants.{Couple}
use Rattle.wiring_text.specs.WiringText.{IsFirstLine, ReadsAs}
use Rattle.wiring_text.specs.declared.statement.Version.{Version}
use Rattle.wiring_text.specs.declared.statement.Version.TheVariants.{First, Second}

-- the version of a setup in which a wire couples two groups, and of any other
pub joined_version : (wiring : Wiring) → JoinsGroups wiring → (Second ≡ Second) ↔ JoinsGroups wiring
joined_version wiring joins = (λ same. joins, λ it. refl)

pub unjoined_version : (wiring : Wiring)
    → ((exit entry : Hub) → HasWire wiring exit entry → wire_form Second (exit, entry) ≢ Couple) → (First ≡ Second) ↔ JoinsGroups wiring
unjoined_version wiring none = (λ same. absurd (apart same), λ joins. absurd (none joins.exit joins.entry joins.there joins.couples))
  where
    apart : First ≡ Second → ⊥
    apart same = cc

-- a text in the version of its setup is the setup's text
pub written_in : {X E : Type 0} (result : Result X E) (bytes : X → List ℕ) (version : Version) (wiring : Wiring)
    → (version ≡ Second) ↔ JoinsGroups wiring → IfOk result (λ text. IsWrittenIn version wiring (bytes text))
    → IfOk result (λ text. IsWritten wiring (bytes text))
written_in (Ok text) bytes version wiring second written = record { version = version; second = second; written = written }
written_in (Err _) bytes version wiring second written = tt

-- the first line of a text that reads as a setup, and the version that it names
first_of : (bytes first : List ℕ) (rest : List (List ℕ)) (wiring : Wiring) → lines_of bytes ≡ first ∷ rest → (reads : ReadsAs bytes wiring)
    → IsFirstLine reads.chart.reads.version first
first_of bytes first rest wiring lines reads =
    subst (IsFirstLine reads.chart.reads.version) (same_head (sym reads.chart.reads.lines ∙ lines)) reads.chart.reads.begun
  where
    same_head : {one other : List ℕ} {ones others : List (List ℕ)} → one ∷ ones ≡ other ∷ others → one ≡ other
    same_head same = cc

not_both : (line : List ℕ) → IsFirstLine First line → IsFirstLine Second line → ⊥
not_both line one other = clash (one_division one other)
  where
    clash : codes "WIRING407" ∷ codes "1" ∷ [] ≡ codes "WIRING407" ∷ codes "2" ∷ [] → ⊥
    clash same = absurd (omega (arith, ap (λ (tokens : List (List ℕ)). get_or (get_or tokens 1 []) 0 0) same))

pub second_read : (bytes first : List ℕ) (rest : List (List ℕ)) → lines_of bytes ≡ first ∷ rest → IsFirstLine Second first
    → (wiring : Wiring) (reads : ReadsAs bytes wiring) → Second ≡ reads.chart.reads.version
second_read bytes first rest lines second wiring reads = by reads.chart.reads.version (first_of bytes first rest wiring lines reads)
  where
    by : (version : Version) → IsFirstLine version first → Second ≡ version
    by Second is = refl
    by First is = absurd (not_both first is second)

pub first_read : (bytes first : List ℕ) (rest : List (List ℕ)) → lines_of bytes ≡ first ∷ rest → (IsFirstLine Second first → ⊥)
    → (wiring : Wiring) (reads : ReadsAs bytes wiring) → First ≡ reads.chart.reads.version
first_read bytes first rest lines other wiring reads = by reads.chart.reads.version (first_of bytes first rest wiring lines reads)
  where
    by : (version : Version) → IsFirstLine version first → First ≡ version
    by First is = refl
    by Second is = absurd (other is)

-- a text without a line reads as no setup
pub nothing_read : (bytes : List ℕ) → lines_of bytes ≡ [] → (wiring : Wiring) (reads : ReadsAs bytes wiring)
    → First ≡ reads.chart.reads.version
nothing_read bytes none wiring reads = absurd (some (sym reads.chart.reads.lines ∙ none))
  where
    some : {line : List ℕ} {lines : List (List ℕ)} → line ∷ lines ≡ [] → ⊥
    some same = cc
