-- Where the first field with a name stands.
use Rattle.std.proofs.Common.{◌≡◌, ℕ, ◌+◌, ◌<◌, ◌≤◌, Bool, true, false, cond, List, [], ◌∷◌, ◌++◌, length, Option, Some, None, is_some, slice_get, find, position, get_or, take, drop, not, nat_lt, refl, sym, ap, ◌∙◌, arith, length-append, ◌⊎◌, inl, inr}
use Rattle.std.specs.List.{position_or_len, cons_option}
use Rattle.std.proofs.lemmas.List.{take_more, take-append-drop}
use Rattle.std.proofs.lemmas.List.Elements.{filter_map-append}
use Rattle.chart_lines.specs.declared.charts.chart.Line.{Line}
use Rattle.std.specs.Option.{option_and_then, option_or}
use Rattle.std.proofs.lemmas.Grind.{common_steps}
use Rattle.std.proofs.lemmas.Bool.Decides.{nat_tests}
use Rattle.std.proofs.lemmas.List.Folds.{find_at, position_or_len_push, prefix_len-append}
use Rattle.std.proofs.lemmas.Option.{slice_get_read, slice_get_cases}
use Rattle.std.proofs.lemmas.List.Sums.{prefix_len-le-length}
use Rattle.chart_lines.specs.declared.charts.statement.Field.{Field}
use Rattle.indexmap.specs.IndexMap.{get}
use Rattle.chart_line_rules.specs.FieldRules.Fields.{field_of, fields_of, first_named, first_place}
use Rattle.chart_lines.specs.ChartsWords.Name.{is_same_name}
use Rattle.chart_lines.proofs.ChartsWords.Listed.{find_at_position, position-within}
use Rattle.chart_line_rules.specs.FieldRules.HelperIndex.{Places, IsIndexOf}

-- where no field has a name, none is the first with it
pub first_named-missing : (fields : List Field) (name : List ℕ) → None ≡ first_place fields name → None ≡ first_named fields name
first_named-missing fields name h = ap (option_and_then (slice_get fields)) h ∙ sym (find_at_position (λ field. is_same_name field.name name) fields)

-- the field at the first place of a name is the first with that name
pub first_named-at : (fields : List Field) (name : List ℕ) (place : ℕ) (field : Field) → Some place ≡ first_place fields name
    → field ≡ get_or fields place field → Some field ≡ first_named fields name
first_named-at fields name place field h at =
    sym (slice_get_read fields (length fields) place field refl (position-within (λ each. is_same_name each.name name) fields place h) at)
    ∙ ap (option_and_then (slice_get fields)) h ∙ sym (find_at_position (λ each. is_same_name each.name name) fields)

-- the first place after one more element
pub position-push : {X : Type 0} (p : X → Bool) (xs : List X) (x : X) → position p (xs ++ x ∷ []) ≡ option_or (position p xs) (cond (p x) (Some (length xs)) None)
position-push p xs x = let l = prefix_len-le-length (λ y. not (p y)) xs in grind (arith, common_steps, position_or_len_push)

-- names that are the same are equal
pub is_same_name-equal : (one other : List ℕ) → is_same_name one other ≡ true → one ≡ other
is_same_name-equal [] [] h = refl
is_same_name-equal [] (b ∷ bs) h = cc
is_same_name-equal (a ∷ as_one) [] h = cc
is_same_name-equal (a ∷ as_one) (b ∷ bs) h = let r = is_same_name-equal as_one bs in grind (arith, nat_tests, r)

-- a name is the same as itself
pub is_same_name-own : (name : List ℕ) → is_same_name name name ≡ true
is_same_name-own [] = refl
is_same_name-own (character ∷ name) = let rest = is_same_name-own name in grind (arith, nat_tests, rest)

module _ (fields : List Field) (field : Field) where
  -- a field whose name is taken leaves an index as it was
  pub IsIndexOf-kept : (places : Places) → IsIndexOf fields places → is_some (get is_same_name places field.name) ≡ true → IsIndexOf (fields ++ field ∷ []) places
  IsIndexOf-kept places index taken name = by (is_same_name field.name name) refl
    where
      pushed : first_place (fields ++ field ∷ []) name ≡ option_or (first_place fields name) (cond (is_same_name field.name name) (Some (length fields)) None)
      pushed = position-push (λ each. is_same_name each.name name) fields field

      first : (place : Option ℕ) → is_some place ≡ true → option_or place (Some (length fields)) ≡ place
      first None h = cc
      first (Some place) h = refl

      none : (place : Option ℕ) → option_or place None ≡ place
      none None = refl
      none (Some place) = refl

      by : (b : Bool) → is_same_name field.name name ≡ b → get is_same_name places name ≡ first_place (fields ++ field ∷ []) name
      by false h = index name ∙ sym (pushed ∙ ap (λ b. option_or (first_place fields name) (cond b (Some (length fields)) None)) h ∙ none (first_place fields name))
      by true h =
          index name
          ∙ sym (pushed ∙ ap (λ b. option_or (first_place fields name) (cond b (Some (length fields)) None)) h
          ∙ first (first_place fields name) (ap is_some (sym (index name)) ∙ ap (λ n. is_some (get is_same_name places n)) (sym (is_same_name-equal field.name name h)) ∙ taken))

  -- a field with a new name goes into an index with its place
  pub IsIndexOf-added : (old new : Places) (place : ℕ) → IsIndexOf fields old → is_some (get is_same_name old field.name) ≡ false → place ≡ length fields
      → ((name : List ℕ) → get is_same_name new name ≡ cond (is_same_name field.name name) (Some place) (get is_same_name old name))
      → IsIndexOf (fields ++ field ∷ []) new
  IsIndexOf-added old new place index free at added name = added name ∙ by (is_same_name field.name name) refl ∙ sym pushed
    where
      pushed : first_place (fields ++ field ∷ []) name ≡ option_or (first_place fields name) (cond (is_same_name field.name name) (Some (length fields)) None)
      pushed = position-push (λ each. is_same_name each.name name) fields field

      second : (found : Option ℕ) → is_some found ≡ false → Some place ≡ option_or found (Some (length fields))
      second None h = ap Some at
      second (Some other) h = cc

      none : (found : Option ℕ) → found ≡ option_or found None
      none None = refl
      none (Some other) = refl

      by : (b : Bool) → is_same_name field.name name ≡ b
          → cond b (Some place) (get is_same_name old name) ≡ option_or (first_place fields name) (cond b (Some (length fields)) None)
      by false h = index name ∙ none (first_place fields name)
      by true h =
          second (first_place fields name) (ap is_some (sym (index name)) ∙ ap (λ n. is_some (get is_same_name old n)) (sym (is_same_name-equal field.name name h)) ∙ free)

-- the fields of the lines up to one more
pub fields_of-more : (lines : List Line) (i : ℕ) (line : Line) → i < length lines → line ≡ get_or lines i line
    → fields_of (take (i + 1) lines) ≡ fields_of (take i lines) ++ fields_of (line ∷ [])
fields_of-more lines i line within at =
    ap fields_of (take_more lines i line within ∙ ap (λ each. take i lines ++ each ∷ []) (sym at))
    ∙ filter_map-append (λ each. field_of each.statement) (take i lines) (line ∷ [])

-- a line that describes a field adds it, and another line none
pub fields_of-one : (line : Line) (field : Field) → field_of line.statement ≡ Some field → fields_of (line ∷ []) ≡ field ∷ []
fields_of-one line field h = ap (λ each. cons_option each []) h

pub fields_of-none : (line : Line) → field_of line.statement ≡ None → fields_of (line ∷ []) ≡ []
fields_of-none line h = ap (λ each. cons_option each []) h

-- a list has an element that passes where the first place that passes is one of the list
pub is_some-find : {X : Type 0} (p : X → Bool) (xs : List X) → is_some (find p xs) ≡ nat_lt (position_or_len p xs) (length xs)
is_some-find p xs = ap is_some (find_at p xs) ∙ by (slice_get_cases xs (position_or_len p xs)).1
  where
    by : ((x : _) × (position_or_len p xs < length xs) × (slice_get xs (position_or_len p xs) ≡ Some x) × (get_or xs (position_or_len p xs) x ≡ x)) ⊎ ((length xs ≤ position_or_len p xs) × (slice_get xs (position_or_len p xs) ≡ None))
        → is_some (slice_get xs (position_or_len p xs)) ≡ nat_lt (position_or_len p xs) (length xs)
    by (inl h) = grind (arith, nat_tests)
    by (inr h) = grind (arith, nat_tests)

-- the first element that passes is among the first ones where its place is
pub position-front : {X : Type 0} (p : X → Bool) (xs ys : List X) (place : ℕ) → Some place ≡ position p (xs ++ ys)
    → nat_lt place (length xs) ≡ is_some (find p xs)
position-front p xs ys place h = by ∙ sym (is_some-find p xs)
  where
    by : nat_lt place (length xs) ≡ nat_lt (position_or_len p xs) (length xs)
    by =
        let whole = prefix_len-append (λ y. not (p y)) xs ys in
        let most = prefix_len-le-length (λ y. not (p y)) xs in
        grind (arith, nat_tests, whole, most)

-- where none passes, none of the first ones does
pub position-none : {X : Type 0} (p : X → Bool) (xs ys : List X) → None ≡ position p (xs ++ ys) → false ≡ is_some (find p xs)
position-none p xs ys h = by ∙ sym (is_some-find p xs)
  where
    by : false ≡ nat_lt (position_or_len p xs) (length xs)
    by =
        let whole = prefix_len-append (λ y. not (p y)) xs ys in
        let most = prefix_len-le-length (λ y. not (p y)) xs in
        let long = length-append xs ys in
        grind (arith, nat_tests, whole, most, long)

-- the fields of a chart are those of its first lines and those after
pub fields_of-split : (lines : List Line) (i : ℕ) → fields_of lines ≡ fields_of (take i lines) ++ fields_of (drop i lines)
fields_of-split lines i = ap fields_of (sym (take-append-drop i lines)) ∙ filter_map-append (λ each. field_of each.statement) (take i lines) (drop i lines)
