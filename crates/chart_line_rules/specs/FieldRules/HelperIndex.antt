-- A helper of the code: the index of the fields of a chart.
use Rattle.std.specs.Prelude.{◌≡◌, ℕ, List}
use Rattle.std.specs.declared.hash.FoldHasher.{FoldHasher}
use Rattle.std.specs.declared.hash.BuildHasherDefault.{BuildHasherDefault}
use Rattle.indexmap.specs.IndexMap.{IndexMap, get}
use Rattle.chart_lines.specs.declared.charts.statement.Field.{Field}
use Rattle.chart_line_rules.specs.FieldRules.Fields.{first_place}
use Rattle.chart_lines.specs.ChartsWords.Name.{is_same_name}

-- a map from names to places
abbrev pub Places : Type 0
Places = IndexMap (List ℕ) ℕ (BuildHasherDefault FoldHasher)

-- The map gives, for each name, where the first field with that name stands.
abbrev pub IsIndexOf : List Field → Places → Type 0
IsIndexOf fields places = (name : List ℕ) → get is_same_name places name ≡ first_place fields name
