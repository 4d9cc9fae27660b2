-- The columns of texts, marked and looked at all at once.
use Rattle.std.proofs.Common.{◌≡◌, ◌≢◌, ◌∙◌, refl, sym, ap, subst, ℕ, ◌+◌, ◌-◌, ◌^◌, ◌%◌, ◌<◌, ◌≤◌, ◌==◌, ◌⊎◌, inl, inr, true, false, List, length, get_or, set, max, Some, slice_get, slice_index, bit_and, bit_or, arith}
use Rattle.std.proofs.lemmas.Bool.{cases_lt, true≢false}
use Rattle.std.proofs.lemmas.Bool.Decides.{eqb_tells}
use Rattle.std.proofs.lemmas.List.{get_or-set_same, get_or-set_other, length-set}
use Rattle.std.proofs.lemmas.Nat.{and_comm, and_mask, le_or_l, le_or_r}
use Rattle.std.proofs.lemmas.Option.{slice_get_read}
use Rattle.card_code.specs.CardCode.{deck_character}
use Rattle.chart_lines.specs.ChartsWords.Field.{is_amount}
use Rattle.chart_lines.specs.declared.charts.statement.Field.{Field}
use Rattle.chart_lines.specs.declared.charts.statement.FieldKind.{FieldKind}
use Rattle.chart_lines.specs.declared.charts.statement.FieldKind.TheVariants as holds
use Rattle.chart_rules.specs.HelperOnCard.{AreOnCard}
use Rattle.chart_rules.specs.HelperTexts.{IsMarked, AreMarked, ArePrinted, AreAmountsValid}
use Rattle.chart_rules.specs.ValidCard.{AreValid, IsText, IsValidField, IsValidKind, is_printed}

-- What a loop over the columns of a text keeps: those so far are marked, and what was marked before.
pub record IsMarkedTo (first place : ℕ) (old new : List ℕ) : Type 0 where
  pub marked : (k : ℕ) → first ≤ k + 1 → k < place → slice_index new k ≡ 65535
  pub kept : (k : ℕ) → slice_index old k ≡ 65535 → slice_index new k ≡ 65535
  pub long : length new ≡ 80

-- one column more
pub marked-more : (first place : ℕ) (old new : List ℕ) → place < 80 → IsMarkedTo first place old new
    → IsMarkedTo first (place + 1) old (set new place 65535)
marked-more first place old new inside so_far = record {
  marked = λ k from to. by k (eqb_tells k place) (λ other. so_far.marked k from (omega (arith, to, other)));
  kept = λ k was. by k (eqb_tells k place) (λ other. so_far.kept k was);
  long = length-set new place 65535 ∙ so_far.long;
}
  where
    by : (k : ℕ) → ((k == place) ≡ true) × (k ≡ place) ⊎ ((k == place) ≡ false) × (k ≢ place) → (k ≢ place → slice_index new k ≡ 65535)
        → slice_index (set new place 65535) k ≡ 65535
    by k (inl same) was =
        ap (λ (n : ℕ). slice_index (set new place 65535) n) same.1 ∙ get_or-set_same new place 65535 0 (let long = so_far.long in omega (arith, inside, long))
    by k (inr other) was = get_or-set_other new place k 65535 0 other.1 ∙ was other.1

-- a text more
pub texts-more : (fields : List Field) (i : ℕ) (field : Field) (old new : List ℕ) (last most : ℕ) → i < length fields
    → field ≡ get_or fields i field → AreMarked fields i old last → most ≡ max last field.last
    → ((k : ℕ) → field.first ≤ k + 1 → k < field.last → slice_index new k ≡ 65535)
    → ((k : ℕ) → slice_index old k ≡ 65535 → slice_index new k ≡ 65535)
    → 1 ≤ field.first
    → AreMarked fields (i + 1) new most
texts-more fields i field old new last most within at so_far is marked kept from place other before there text =
    by (cases_lt place i)
  where
    same : other ≡ field → IsMarked new most other
    same e = subst (λ f. IsMarked new most f) (sym e) (record {
      columns = λ column first to. marked (column - 1) (omega (arith, first, from)) (omega (arith, first, to, from));
      within = omega (arith, is);
    })

    by : (place < i) ⊎ (i ≤ place) → IsMarked new most other
    by (inl earlier) =
        let was = so_far place other earlier there text in
        record {
          columns = λ column first to. kept (column - 1) (was.columns column first to);
          within = let w = was.within in omega (arith, is, w);
        }
    by (inr not_earlier) =
        let here : place ≡ i = omega (arith, before, not_earlier) in
        let stands : slice_get fields i ≡ Some field = slice_get_read fields (length fields) i field refl within at in
        let e : Some other ≡ Some field = sym there ∙ ap (slice_get fields) here ∙ stands in
        same cc

-- an amount more
pub texts-past : (fields : List Field) (i : ℕ) (field : Field) (masks : List ℕ) (last : ℕ) → i < length fields
    → field ≡ get_or fields i field → AreMarked fields i masks last → is_amount field.kind ≡ true → AreMarked fields (i + 1) masks last
texts-past fields i field masks last within at so_far amount place other before there text = by (cases_lt place i)
  where
    by : (place < i) ⊎ (i ≤ place) → IsMarked masks last other
    by (inl earlier) = so_far place other earlier there text
    by (inr not_earlier) =
        let here : place ≡ i = omega (arith, before, not_earlier) in
        let stands : slice_get fields i ≡ Some field = slice_get_read fields (length fields) i field refl within at in
        let e : Some other ≡ Some field = sym there ∙ ap (slice_get fields) here ∙ stands in
        let same : other ≡ field = cc in
        absurd (true≢false (sym amount ∙ ap (λ f. is_amount f.kind) (sym same) ∙ text))

-- an end further on
pub texts-to : (fields : List Field) (count : ℕ) (masks : List ℕ) (last end : ℕ) → last ≤ end → AreMarked fields count masks last
    → AreMarked fields count masks end
texts-to fields count masks last end further are place field before there text =
    let is = are place field before there text in
    record { columns = is.columns; within = let w = is.within in omega (arith, w, further) }

-- where nothing is left of two numbers joined, nothing is left of each
pub nothing : (a b : ℕ) → bit_or a b ≡ 0 → (a ≡ 0) × (b ≡ 0)
nothing a b none = (let l = le_or_l a b in omega (arith, l, none), let r = le_or_r a b in omega (arith, r, none))

-- all bits of a number of 16
pub all_bits : (found : ℕ) → found < 2 ^ 16 → bit_and 65535 found ≡ 0 → found ≡ 0
all_bits found small none =
    let whole : bit_and found 65535 ≡ found % 2 ^ 16 = and_mask found 16 in
    let turned = and_comm 65535 found in
    let same : found % 2 ^ 16 ≡ found = omega (arith, small) in
    sym same ∙ sym whole ∙ sym turned ∙ none

-- one column more that is looked at
pub printed-more : (masks card : List ℕ) (place joined found next : ℕ) → found < 2 ^ 16
    → (joined ≡ 0 → ArePrinted masks place card) → next ≡ bit_or joined (bit_and (slice_index masks place) found)
    → (found ≡ 0 → is_printed (deck_character (slice_index card place)) ≡ true)
    → next ≡ 0 → ArePrinted masks (place + 1) card
printed-more masks card place joined found next small so_far is here none k before marked = by (eqb_tells k place)
  where
    parts : (joined ≡ 0) × (bit_and (slice_index masks place) found ≡ 0)
    parts = nothing joined (bit_and (slice_index masks place) found) (sym is ∙ none)

    by : ((k == place) ≡ true) × (k ≡ place) ⊎ ((k == place) ≡ false) × (k ≢ place) → is_printed (deck_character (slice_index card k)) ≡ true
    by (inl same) =
        let whole : slice_index masks place ≡ 65535 = ap (slice_index masks) (sym same.1) ∙ marked in
        let gone : found ≡ 0 = all_bits found small (sym (ap (λ m. bit_and m found) whole) ∙ parts.1) in
        ap (λ n. is_printed (deck_character (slice_index card n))) same.1 ∙ here gone
    by (inr other) = so_far parts.0 k (let o = other.1 in omega (arith, before, o)) marked

-- all valid
pub all-valid : (fields : List Field) (card masks : List ℕ) (end : ℕ) → AreOnCard fields → AreMarked fields (length fields) masks end
    → ArePrinted masks end card → AreAmountsValid fields (length fields) card → AreValid fields (length fields) card
all-valid fields card masks end on are printed amounts place before field there = by field.kind refl
  where
    text : is_amount field.kind ≡ false → IsText field.first field.last card
    text is column first to =
        let marked = are place field before there is in
        let within = marked.within in
        let from = (on place field there).from in
        printed (column - 1) (omega (arith, first, to, within, from)) (marked.columns column first to)

    by : (kind : FieldKind) → field.kind ≡ kind → IsValidField field card
    by holds.Text is = subst (λ kind. IsValidKind kind field card) (sym is) (text (ap is_amount is))
    by (holds.Amount decimals rule) is = amounts place field before there (ap is_amount is)
