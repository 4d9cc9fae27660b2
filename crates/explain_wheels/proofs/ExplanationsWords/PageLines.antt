-- What is known of the lines of a page.
use Rattle.std.proofs.Common.{◌≡◌, ◌∙◌, sym, ap, subst, refl, Bool, true, false, ℕ, ◌+◌, ◌≤◌, List, [], ◌∷◌, ◌++◌, length, map, take, if◌then◌else◌}
use Rattle.std.specs.Prelude.{All, Contains}
use Rattle.std.specs.List.{filter}
use Rattle.std.proofs.lemmas.Bool.{eq-eqb, eqb-true, false≢true}
use Rattle.std.proofs.lemmas.List.{map-append, take_all}
use Rattle.std.proofs.lemmas.List.Elements.{All-cons, All-contains, All-head, All-map, All-nil, All-push, All-same, All-tail, All-weaker}
use Rattle.page_text.specs.declared.placed_lines.placed_line.PlacedLine.{PlacedLine}
use Rattle.hubs.specs.SetupsWords.Wiring.{Wiring}
use Rattle.machine.specs.Kept.{IsElsewhere, is_on}
use Rattle.explain_wheels.specs.ExplanationsWords.Explanations.{IsExplanation}
use Rattle.explain_wheels.specs.ExplanationsWords.PlacedInRun.{IsFound, PrintsNoneAt}
use Rattle.explain_wheels.specs.ExplanationsWords.Pages.{HasPage, HasWays, IsPage, IsPageOfSome, found_of, line_found}
use Rattle.explain_wheels.specs.ExplanationsWords.Rows.{AreRowWays}
use Rattle.explain_wheels.specs.declared.explanations.explanation.Explanation.{Explanation}
use Rattle.explain_wheels.specs.declared.explanations.explanation.LineWays.{LineWays}
use Rattle.explain_wheels.specs.declared.explanations.found.FoundLine.{FoundLine}

passes-more : {X : Type 0} (p : X → Bool) (x : X) (some : List X) (b : Bool) → p x ≡ b → All (λ y. p y ≡ true) some
    → All (λ y. p y ≡ true) (if b then x ∷ some else some)
passes-more p x some true is all = All-cons (λ y. p y ≡ true) x some is all
passes-more p x some false is all = all

-- what a filter lets through passes its test
filter-passes : {X : Type 0} (p : X → Bool) (xs : List X) → All (λ x. p x ≡ true) (filter p xs)
filter-passes p [] = All-nil (λ x. p x ≡ true)
filter-passes p (x ∷ xs) = passes-more p x (filter p xs) (p x) refl (filter-passes p xs)

tells-more : {X : Type 0} (p : X → Bool) (P : X → Type 0) (x : X) (xs some : List X) (b : Bool) → p x ≡ b
    → (All P some → All (λ y. p y ≡ true → P y) xs) → All P (if b then x ∷ some else some)
    → All (λ y. p y ≡ true → P y) (x ∷ xs)
tells-more p P x xs some true is others all =
    All-cons (λ y. p y ≡ true → P y) x xs (λ passes. All-head P x some all) (others (All-tail P x some all))
tells-more p P x xs some false is others all =
    All-cons (λ y. p y ≡ true → P y) x xs (λ passes. absurd (false≢true (sym is ∙ passes))) (others all)

-- what holds of all that a filter lets through holds of all that pass its test
filter-tells : {X : Type 0} (p : X → Bool) (P : X → Type 0) (xs : List X) → All P (filter p xs) → All (λ x. p x ≡ true → P x) xs
filter-tells p P [] all = All-nil (λ x. p x ≡ true → P x)
filter-tells p P (x ∷ xs) all = tells-more p P x xs (filter p xs) (p x) refl (filter-tells p P xs) all

-- what holds of all images
images : {X Y : Type 0} (P : Y → Type 0) (f : X → Y) (xs : List X) → All P (map f xs) → All (λ x. P (f x)) xs
images P f [] all = All-nil (λ x. P (f x))
images P f (x ∷ xs) all =
    All-cons (λ x. P (f x)) x xs (All-head P (f x) (map f xs) all) (images P f xs (All-tail P (f x) (map f xs) all))

-- a line of a page is found, and stands there
pub line-found : (wiring : Wiring) (deck : List (List ℕ)) (page : ℕ) (lines : List LineWays) (line : LineWays)
    → IsPage wiring deck page lines → Contains lines line → IsFound wiring deck line.found × (line.found.kept.line.page ≡ page)
line-found wiring deck page lines line is has =
    let found =
    All-contains (λ (l : LineWays). IsFound wiring deck l.found) lines line
    (images (IsFound wiring deck) found_of lines is.found.each) has in
    let passes =
    All-same (λ (l : PlacedLine). is_on page l ≡ true) (map line_found (map found_of lines)) (filter (is_on page) is.found.lines)
    is.found.exactly (filter-passes (is_on page) is.found.lines) in
    let here =
    All-contains (λ (l : LineWays). is_on page l.found.kept.line ≡ true) lines line
    (images (λ (f : FoundLine). is_on page f.kept.line ≡ true) found_of lines
    (images (λ (l : PlacedLine). is_on page l ≡ true) line_found (map found_of lines) passes)) has in
    (found, eqb-true line.found.kept.line.page page here)

-- where no line of a page has a number, the run has no line there
pub none-there : (wiring : Wiring) (deck : List (List ℕ)) (page line : ℕ) (lines : List LineWays)
    → IsPage wiring deck page lines → All (λ (l : LineWays). l.found.kept.line.line ≡ line → ⊥) lines
    → PrintsNoneAt wiring deck page line
none-there wiring deck page line lines is none = record {
  lines = is.found.lines;
  run = is.found.run;
  elsewhere =
      let not_there : PlacedLine → Type 0 = λ l. l.line ≡ line → ⊥ in
      let tells =
      filter-tells (is_on page) not_there is.found.lines
      (All-same not_there (filter (is_on page) is.found.lines) (map line_found (map found_of lines)) (sym is.found.exactly)
      (All-map not_there line_found (map found_of lines) (All-map (λ (f : FoundLine). not_there f.kept.line) found_of lines none))) in
      All-weaker (λ (l : PlacedLine). is_on page l ≡ true → not_there l) (IsElsewhere page line)
      (λ l tells there. tells (eq-eqb l.page page there.0) there.1) is.found.lines tells;
}

-- these are the first of some found lines, with their ways
pub record AreLinesTo (wiring : Wiring) (all : List FoundLine) (place : ℕ) (lines : List LineWays) : Type 0 where
  pub found : map found_of lines ≡ take place all
  pub ways : All (HasWays wiring) lines

-- one line more, with its ways
pub lines-more : (wiring : Wiring) (lines : List LineWays) (one : LineWays) (found : List FoundLine) (place : ℕ) (line : FoundLine)
    → map found_of lines ≡ take place found → All (HasWays wiring) lines
    → take (place + 1) found ≡ take place found ++ line ∷ [] → one.found ≡ line → AreRowWays wiring line.kept.points 12 one.ways.items
    → AreLinesTo wiring found (place + 1) (lines ++ one ∷ [])
lines-more wiring lines one found place line are ways more same has = record {
  found = map-append found_of lines (one ∷ [])
      ∙ ap (λ (some : List FoundLine). some ++ one.found ∷ []) are
      ∙ ap (λ (f : FoundLine). take place found ++ f ∷ []) same
      ∙ sym more;
  ways = All-push (HasWays wiring) lines one ways
      (subst (λ (f : FoundLine). AreRowWays wiring f.kept.points 12 one.ways.items) (sym same) has);
}

-- all lines, with their ways
pub lines-all : (wiring : Wiring) (deck : List (List ℕ)) (page : ℕ) (lines : List LineWays) (all : List FoundLine) (place : ℕ)
    → map found_of lines ≡ take place all → All (HasWays wiring) lines → length all ≤ place → HasPage wiring deck page all
    → IsPage wiring deck page lines
lines-all wiring deck page lines all place are ways long has = record {
  found = subst (HasPage wiring deck page) (sym (are ∙ take_all place all long)) has;
  ways = ways;
}

-- a line of a page has its ways
pub line-has-ways : (wiring : Wiring) (lines : List LineWays) (line : LineWays) → IsPageOfSome wiring lines → Contains lines line
    → AreRowWays wiring line.found.kept.points 12 line.ways.items
line-has-ways wiring lines line some has = All-contains (HasWays wiring) lines line some.is.ways has

-- what is told of a line of a page has twelve rows
pub told-long : (wiring : Wiring) (lines : List LineWays) (line : LineWays) (wheel : ℕ) (told : Explanation)
    → IsPageOfSome wiring lines → Contains lines line
    → ((deck : List (List ℕ)) → IsFound wiring deck line.found
    → IsExplanation wiring deck line.found.kept.line.page line.found.kept.line.line wheel told)
    → length told.rows.items ≡ 12
told-long wiring lines line wheel told some has right =
    (right some.deck (line-found wiring some.deck some.page lines line some.is has).0).long
