-- Statements are told apart by a test, and found among those that are said.
use Rattle.std.proofs.Common.{◌≡◌, ◌⊎◌, ℕ, ◌<◌, ◌&&◌, Bool, true, false, List, [], ◌∷◌, ◌++◌, get_or, Contains, refl, ap, sym, ◌∙◌, inl, inr, arith, eqb, suc, zero}
use Rattle.std.proofs.lemmas.Bool.{and_parts, and_from, eqb-true, eq-eqb}
use Rattle.std.proofs.lemmas.List.Elements.{Contains-append_cases, Contains-append_left, Contains-push}
use Rattle.std.proofs.lemmas.List.Folds.{list_any_at}
use Rattle.std.proofs.lemmas.Map.Views.{Contains-from_any}
use Rattle.std.proofs.lemmas.Slice.Eq.{bytes_eq-Decides}
use Rattle.std.specs.Str.{bytes_eq}
use Rattle.hubs.specs.HubTable.HubTable.{row_of}
use Rattle.hubs.proofs.JackLemmas.{same_jack, own_jack}
use Rattle.hubs.specs.declared.hub_table.shape.Numbers.{Numbers}
use Rattle.hubs.specs.declared.hub_table.shape.Numbers.TheVariants.{Bare, One, Two, Three}
use Rattle.hubs.proofs.HubTable.KindLemmas.{spelled-injective}
use Rattle.wiring_text.specs.WiringReader.Reading.{is_same_numbers, is_same_name, is_same_statement, is_said}
use Rattle.wiring_text.specs.declared.statement.HubName.{HubName}
use Rattle.wiring_text.specs.declared.statement.Statement.{Statement}
use Rattle.wiring_text.specs.declared.statement.Statement.TheVariants.{Stop, Plug, Wire}

-- numbers
same_numbers : (one other : Numbers) → is_same_numbers one other ≡ true → one ≡ other
same_numbers Bare Bare e' = refl
same_numbers (One a) (One d) e' = ap One (eqb-true a d e')
same_numbers (Two a b) (Two d e) e' =
    let p = and_parts (eqb a d) (eqb b e) e' in
    ap (λ n. Two n b) (eqb-true a d p.0) ∙ ap (λ n. Two d n) (eqb-true b e p.1)
same_numbers (Three a b c) (Three d e f) e' =
    let p = and_parts (eqb a d && eqb b e) (eqb c f) e' in
    let q = and_parts (eqb a d) (eqb b e) p.0 in
    ap (λ n. Three n b c) (eqb-true a d q.0) ∙ ap (λ n. Three d n c) (eqb-true b e q.1)
    ∙ ap (λ n. Three d e n) (eqb-true c f p.1)
same_numbers one other e' = cc

own_numbers : (numbers : Numbers) → is_same_numbers numbers numbers ≡ true
own_numbers Bare = refl
own_numbers (One a) = eq-eqb a a refl
own_numbers (Two a b) = and_from _ _ (eq-eqb a a refl) (eq-eqb b b refl)
own_numbers (Three a b c) = and_from _ _ (and_from _ _ (eq-eqb a a refl) (eq-eqb b b refl)) (eq-eqb c c refl)

-- names
same_name : (one other : HubName) → is_same_name one other ≡ true → one ≡ other
same_name one other e =
    let p = and_parts (bytes_eq (row_of one.letters).spelled (row_of other.letters).spelled)
    (is_same_numbers one.numbers other.numbers) e in
    let letters = spelled-injective one.letters other.letters
    ((bytes_eq-Decides (row_of one.letters).spelled (row_of other.letters).spelled).0 p.0) in
    ap (λ l. let name : HubName = record { letters = l; numbers = one.numbers } in name) letters
    ∙ ap (λ n. let name : HubName = record { letters = other.letters; numbers = n } in name)
    (same_numbers one.numbers other.numbers p.1)

own_name : (name : HubName) → is_same_name name name ≡ true
own_name name =
    and_from _ _ ((bytes_eq-Decides (row_of name.letters).spelled (row_of name.letters).spelled).1 refl)
    (own_numbers name.numbers)

-- statements
same_statement : (one other : Statement) → is_same_statement one other ≡ true → one ≡ other
same_statement (Stop c n) (Stop d m) e =
    let p = and_parts (eqb c d) (eqb n m) e in
    ap (λ x. Stop x n) (eqb-true c d p.0) ∙ ap (λ x. Stop d x) (eqb-true n m p.1)
same_statement (Plug one) (Plug other) e = ap Plug (same_jack one other e)
same_statement (Wire a b) (Wire c d) e =
    let p = and_parts (is_same_name a c) (is_same_name b d) e in
    ap (λ x. Wire x b) (same_name a c p.0) ∙ ap (λ x. Wire c x) (same_name b d p.1)
same_statement one other e = cc

own_statement : (s : Statement) → is_same_statement s s ≡ true
own_statement (Stop c n) = and_from _ _ (eq-eqb c c refl) (eq-eqb n n refl)
own_statement (Plug j) = own_jack j
own_statement (Wire a b) = and_from _ _ (own_name a) (own_name b)

-- what is said is found
pub contains_said : (said : List Statement) (s : Statement) → is_said said s ≡ true → Contains said s
unfolding is_said
contains_said said s e = Contains-from_any same_statement s said e

pub said_contained : (said : List Statement) (s : Statement) → Contains said s → is_said said s ≡ true
unfolding is_said
said_contained said s has =
    list_any_at (is_same_statement s) said has.0 s has.1 (ap (is_same_statement s) has.2 ∙ own_statement s)

pub not_said : (said : List Statement) (s : Statement) → (Contains said s → ⊥) → is_said said s ≡ false
not_said said s none = by_test (is_said said s) refl
  where
    by_test : (b : Bool) → is_said said s ≡ b → is_said said s ≡ false
    by_test true e = absurd (none (contains_said said s e))
    by_test false e = e

pub none_contained : (said : List Statement) (s : Statement) → is_said said s ≡ false → Contains said s → ⊥
none_contained said s none has =
    let some = said_contained said s has in
    cc

-- a statement more
pub pushed_cases : (said : List Statement) (s t : Statement) → Contains (said ++ s ∷ []) t → Contains said t ⊎ (t ≡ s)
pushed_cases said s t has = by_cause (Contains-append_cases said (s ∷ []) t has)
  where
    only : (k : ℕ) → k < 1 → get_or (s ∷ []) k t ≡ t → t ≡ s
    only zero within e = sym e
    only (suc k) within e = absurd (omega (arith, within))

    by_cause : Contains said t ⊎ Contains (s ∷ []) t → Contains said t ⊎ (t ≡ s)
    by_cause (inl h) = inl h
    by_cause (inr h) = inr (only h.0 h.1 h.2)

pub pushed_said : (said : List Statement) (s t : Statement) → Contains said t ⊎ (t ≡ s) → Contains (said ++ s ∷ []) t
pushed_said said s t (inl h) = Contains-append_left said (s ∷ []) t h
pushed_said said s t (inr e) = rw e (Contains-push said s)
