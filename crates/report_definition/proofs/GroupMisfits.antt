-- A group fits exactly where it has no misfit.
use Rattle.std.proofs.Common.{◌≡◌, ◌∙◌, refl, sym, ap, ℕ, suc, ◌<◌, ◌^◌, ◌==◌, nat_lt, Bool, true, false, List, [], ◌∷◌, Option, Some, None, option_and_then, if◌then◌else◌, arith, unsigned_abs}
use Rattle.std.specs.List.{All, Contains, cons_option, filter_map}
use Rattle.std.proofs.lemmas.Bool.Decides.{nat_tests}
use Rattle.std.proofs.lemmas.List.Elements.{All-nil, All-cons, All-contains}
use Rattle.chart_lines.specs.ChartsWords.Levels.{level_number}
use Rattle.chart_lines.specs.declared.charts.chart.Line.{Line}
use Rattle.chart_lines.specs.declared.charts.statement.Field.{Field}
use Rattle.chart_lines.specs.declared.charts.statement.Statement.{Statement}
use Rattle.chart_lines.specs.declared.charts.statement.TotalLine.{TotalLine}
use Rattle.chart_lines.specs.declared.charts.statement.Statement.TheVariants as says
use Rattle.chart_rules.specs.Below.chart_line_rules.FieldRules.Fields.{field_named}
use Rattle.report_definition.specs.Misfits.{Misfit, fits_in, misfit_of, misfit_on, misfits_in}
use Rattle.report_definition.specs.Totals.{GroupFits, total_of}

-- nothing is kept of any element
none_kept : {X Y : Type 0} (keep : X → Option Y) (xs : List X) → filter_map keep xs ≡ [] → All (λ x. keep x ≡ None) xs
none_kept keep [] none = All-nil (λ x. keep x ≡ None)
none_kept keep (x ∷ xs) none =
    let both = by (keep x) none in All-cons (λ some. keep some ≡ None) x xs both.0 (none_kept keep xs both.1)
  where
    by : (kept : Option _) → cons_option kept (filter_map keep xs) ≡ [] → (kept ≡ None) × (filter_map keep xs ≡ [])
    by None others = (refl, others)
    by (Some y) others = absurd cc

-- where nothing is kept of any element of a list, nothing is kept
keeps_none : {X Y : Type 0} (keep : X → Option Y) (xs : List X) → ((x : X) → Contains xs x → keep x ≡ None) → filter_map keep xs ≡ []
keeps_none keep [] none = refl
keeps_none keep (x ∷ xs) none =
    ap (λ kept. cons_option kept (filter_map keep xs)) (none x (0, omega arith, refl))
    ∙ keeps_none keep xs (λ other stands. none other (suc stands.0, (let below = stands.1 in omega (arith, below)), stands.2))

-- what is given where a test fails
not_given : {X : Type 0} (b : Bool) (x : X) → (if b then None else Some x) ≡ None → b ≡ true
not_given true x none = refl
not_given false x none = absurd cc

-- a total that is no misfit has room
has_room : (total : TotalLine) (card : ℕ) (group : List (List ℕ)) (field : Field)
    → misfit_of total card group field ≡ None → unsigned_abs (total_of field group) < 10 ^ total.digits
has_room total card group field none =
    let misfit : Misfit = record { level = total.level; name = total.name; card = card } in
    less (unsigned_abs (total_of field group)) (10 ^ total.digits) (not_given (fits_in total.digits (total_of field group)) misfit none)
  where
    less : (a b : ℕ) → nat_lt a b ≡ true → a < b
    less a b is = grind (arith, nat_tests, is)

-- a group without misfits fits
pub group_fits : (lines : List Line) (level card : ℕ) (group : List (List ℕ)) → misfits_in lines level card group ≡ []
    → GroupFits lines level group
group_fits lines level card group none line total field stands says_so same_level named =
    let each = All-contains (λ (some : Line). misfit_on lines level card group some.statement ≡ None) lines line
    (none_kept (λ (some : Line). misfit_on lines level card group some.statement) lines none) stands in
    let here = sym (ap (misfit_on lines level card group) says_so) ∙ each in
    let same : (level_number total.level == level) ≡ true = grind (arith, nat_tests, same_level) in
    has_room total card group field
    (sym (λ i. if same i then option_and_then (misfit_of total card group) (named i) else None) ∙ here)

-- a group that fits has no misfit
pub no_misfit_in : (lines : List Line) (level card : ℕ) (group : List (List ℕ)) → GroupFits lines level group
    → misfits_in lines level card group ≡ []
no_misfit_in lines level card group fits =
    keeps_none (λ (line : Line). misfit_on lines level card group line.statement) lines (λ line stands. of line stands line.statement refl)
  where
    within : (a b : ℕ) → a < b → nat_lt a b ≡ true
    within a b less = grind (arith, nat_tests, less)

    of : (line : Line) → Contains lines line → (statement : Statement) → line.statement ≡ statement
        → misfit_on lines level card group statement ≡ None
    of line stands (says.TotalAmount total) says_so =
        by (level_number total.level == level) refl (field_named lines total.name) refl
      where
        by : (b : Bool) → (level_number total.level == level) ≡ b → (found : Option Field) → field_named lines total.name ≡ found
            → (if b then option_and_then (misfit_of total card group) found else None) ≡ None
        by false other found named = refl
        by true same None named = refl
        by true same (Some field) named =
            let misfit : Misfit = record { level = total.level; name = total.name; card = card } in
            let same_level : level_number total.level ≡ level = grind (arith, nat_tests, same) in
            let room = fits line total field stands says_so same_level named in
            ap (λ b. if b then None else Some misfit) (within (unsigned_abs (total_of field group)) (10 ^ total.digits) room)
    of line stands other says_so = refl

-- what is kept has a fact that all that is given has
all_kept : {X Y : Type 0} (P : Y → Type 0) (keep : X → Option Y) → ((x : X) (y : Y) → keep x ≡ Some y → P y) → (xs : List X)
    → All P (filter_map keep xs)
all_kept P keep each [] = All-nil P
all_kept P keep each (x ∷ xs) = by (keep x) (each x) (all_kept P keep each xs)
  where
    by : (kept : Option _) → ((y : _) → kept ≡ Some y → P y) → All P (filter_map keep xs) → All P (cons_option kept (filter_map keep xs))
    by None here more = more
    by (Some y) here more = All-cons P y (filter_map keep xs) (here y refl) more

-- the misfits of a group are told with the number of its last card
pub misfits_numbered : (lines : List Line) (level card : ℕ) (group : List (List ℕ))
    → All (λ (misfit : Misfit). misfit.card ≡ card) (misfits_in lines level card group)
misfits_numbered lines level card group =
    all_kept (λ (misfit : Misfit). misfit.card ≡ card) (λ (line : Line). misfit_on lines level card group line.statement)
    (λ line misfit. of line.statement misfit) lines
  where
    given : (b : Bool) (misfit told : Misfit) → misfit.card ≡ card → (if b then None else Some misfit) ≡ Some told → told.card ≡ card
    given true misfit told same is = absurd cc
    given false misfit told same is = same_card misfit told is ∙ same
      where
        same_card : (one other : Misfit) → Some one ≡ Some other → other.card ≡ one.card
        same_card one other is = let same : one ≡ other = cc in ap (λ (m : Misfit). m.card) (sym same)

    of : (statement : Statement) (misfit : Misfit) → misfit_on lines level card group statement ≡ Some misfit → misfit.card ≡ card
    of (says.TotalAmount total) misfit is = by (level_number total.level == level) (field_named lines total.name) is
      where
        by : (b : Bool) (found : Option Field)
            → (if b then option_and_then (misfit_of total card group) found else None) ≡ Some misfit → misfit.card ≡ card
        by false found none = absurd cc
        by true None none = absurd cc
        by true (Some field) is =
            given (fits_in total.digits (total_of field group)) (record { level = total.level; name = total.name; card = card }) misfit refl is
    of other misfit is = absurd cc
