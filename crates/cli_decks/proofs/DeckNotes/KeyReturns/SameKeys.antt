-- Keys are the same where cards are equal on their fields.
use Rattle.std.proofs.Common.{◌≡◌, ◌∙◌, refl, sym, ap, ℕ, ◌<◌, Bool, true, false, ◌&&◌, nat_eq, List, [], ◌∷◌, ◌++◌, map}
use Rattle.std.specs.Cmp.Lexicographic.{pointwise, bytes_decides}
use Rattle.std.specs.List.{list_all}
use Rattle.std.proofs.lemmas.Bool.Decides.{same_from_decides, Decides-like}
use Rattle.std.proofs.lemmas.List.{map-append}
use Rattle.card_code.specs.Columns.{set_of_column, set-again, column_of as column_of_set}
use Rattle.chart_lines.specs.declared.charts.chart.Line.{Line}
use Rattle.chart_lines.specs.declared.charts.statement.Field.{Field}
use Rattle.chart_rules.specs.Controls.{controls_of}
use Rattle.chart_rules.specs.ValidCard.{column_of}
use Rattle.cli_decks.specs.DeckNotes.KeyReturns.Keys.{AreSetsOf, key_on}
use Rattle.report_definition.specs.Amounts.{columns_in}
use Rattle.report_definition.specs.Groups.{is_same_at, is_same_on}

-- three tests, however they are bracketed
and-assoc : (a b c : Bool) → (a && (b && c)) ≡ ((a && b) && c)
and-assoc true b c = refl
and-assoc false b c = refl

-- two runs of numbers are compared one by one, and then what comes after them
parts_same : (f g : ℕ → ℕ) (columns one other : List ℕ)
    → pointwise nat_eq (map f columns ++ one) (map g columns ++ other)
    ≡ (list_all (λ column. nat_eq (f column) (g column)) columns && pointwise nat_eq one other)
parts_same f g [] one other = refl
parts_same f g (column ∷ columns) one other =
    ap (λ b. nat_eq (f column) (g column) && b) (parts_same f g columns one other)
    ∙ and-assoc (nat_eq (f column) (g column)) (list_all (λ c. nat_eq (f c) (g c)) columns) (pointwise nat_eq one other)

-- the keys on some fields are the same where the cards are equal on all of them
pub keys_same : (fields : List Field) (one other : List ℕ)
    → pointwise nat_eq (key_on fields one) (key_on fields other) ≡ list_all (λ field. is_same_on field one other) fields
keys_same [] one other = refl
keys_same (field ∷ fields) one other =
    parts_same (λ column. column_of one column) (λ column. column_of other column) (columns_in field) (key_on fields one) (key_on fields other)
    ∙ ap (λ b. is_same_on field one other && b) (keys_same fields one other)

-- one column more
pub sets-more : (columns sets : List ℕ) (column set : ℕ) → AreSetsOf columns sets → column_of_set set ≡ column → set < 4096
    → AreSetsOf (columns ++ column ∷ []) (sets ++ set ∷ [])
sets-more columns sets column set are is small = record {
  to_columns =
      map-append column_of_set sets (set ∷ [])
      ∙ ap (λ (l : List ℕ). l ++ column_of_set set ∷ []) are.to_columns ∙ ap (λ (n : ℕ). columns ++ n ∷ []) is;
  to_sets =
      map-append set_of_column columns (column ∷ [])
      ∙ ap (λ (l : List ℕ). l ++ set_of_column column ∷ []) are.to_sets
      ∙ ap (λ (n : ℕ). sets ++ n ∷ []) (sym (ap set_of_column is) ∙ set-again set small);
}

-- the sets of columns are the same where the columns are
sets_same : (columns sets others theirs : List ℕ) → AreSetsOf columns sets → AreSetsOf others theirs
    → pointwise nat_eq sets theirs ≡ pointwise nat_eq columns others
sets_same columns sets others theirs are so =
    same_from_decides (pointwise nat_eq sets theirs) (pointwise nat_eq columns others)
    (Decides-like (pointwise nat_eq sets theirs)
    (λ same. sym are.to_columns ∙ ap (map column_of_set) same ∙ so.to_columns)
    (λ same. sym are.to_sets ∙ ap (map set_of_column) same ∙ so.to_sets)
    (bytes_decides sets theirs))
    (bytes_decides columns others)

module _ (lines : List Line) (level : ℕ) (one other sets theirs : List ℕ) (are : AreSetsOf (key_on (controls_of lines level) one) sets)
    (so : AreSetsOf (key_on (controls_of lines level) other) theirs) where
  -- at a level
  pub same_at : pointwise nat_eq sets theirs ≡ is_same_at lines level one other
  same_at =
      sets_same (key_on (controls_of lines level) one) sets (key_on (controls_of lines level) other) theirs are so
      ∙ keys_same (controls_of lines level) one other

  -- cards that are equal at a level have one key there
  pub one_key : is_same_at lines level one other ≡ true → sets ≡ theirs
  one_key is = (bytes_decides sets theirs).0 (same_at ∙ is)
