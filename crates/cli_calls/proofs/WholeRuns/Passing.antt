-- How pages are passed, byte by byte.
use Rattle.std.proofs.Common.{◌≡◌, ◌≢◌, ◌∙◌, ℕ, ◌-◌, suc, zero, ap, refl, arith, Bool, cond, true, false, ◌==◌, List, [], ◌∷◌, ◌++◌, ◌+◌, ◌<◌, sym, append_assoc, drop, get_or, length, take}
use Rattle.std.proofs.lemmas.List.{drop_more, take_more}
use Rattle.std.specs.Prelude.{if◌then◌else◌}
use Rattle.cli_calls.specs.WholeRuns.Pages.{first_pages, pages_behind}

-- a byte of a page that is wanted
first_step : (left byte : ℕ) (bytes : List ℕ) → left ≢ 0
    → first_pages left (byte ∷ bytes) ≡ byte ∷ first_pages (cond (byte == 12) (left - 1) left) bytes
first_step zero byte bytes some = absurd (some refl)
first_step (suc left) byte bytes some = by (byte == 12)
  where
    by : (ends : Bool) → byte ∷ cond ends (first_pages left bytes) (first_pages (suc left) bytes)
        ≡ byte ∷ first_pages (cond ends (suc left - 1) (suc left)) bytes
    by true = ap (λ n. byte ∷ first_pages n bytes) (omega arith)
    by false = refl

-- a byte of a page that is passed
behind_step : (left byte : ℕ) (bytes : List ℕ) → left ≢ 0
    → pages_behind left (byte ∷ bytes) ≡ pages_behind (cond (byte == 12) (left - 1) left) bytes
behind_step zero byte bytes some = absurd (some refl)
behind_step (suc left) byte bytes some = by (byte == 12)
  where
    by : (ends : Bool) → cond ends (pages_behind left bytes) (pages_behind (suc left) bytes)
        ≡ pages_behind (cond ends (suc left - 1) (suc left)) bytes
    by true = ap (λ n. pages_behind n bytes) (omega arith)
    by false = refl

pub first_of_none : (left : ℕ) → first_pages left [] ≡ []
first_of_none zero = refl
first_of_none (suc left) = refl

pub behind_none : (left : ℕ) → pages_behind left [] ≡ []
behind_none zero = refl
behind_none (suc left) = refl

-- a byte on
pub first_goes_on : (text : List ℕ) (place left next : ℕ) → place < length text → left ≢ 0
    → next ≡ (if get_or text place 0 == 12 then left - 1 else left)
    → take place text ++ first_pages left (drop place text) ≡ take (place + 1) text ++ first_pages next (drop (place + 1) text)
first_goes_on text place left next within some is =
    let rest = drop (place + 1) text in
    ap (λ pages. take place text ++ first_pages left pages) (drop_more text place 0 within)
    ∙ ap (λ pages. take place text ++ pages) (first_step left (get_or text place 0) rest some)
    ∙ ap (λ n. take place text ++ get_or text place 0 ∷ first_pages n rest) (sym is)
    ∙ sym (append_assoc (take place text) (get_or text place 0 ∷ []) (first_pages next rest))
    ∙ ap (λ front. front ++ first_pages next rest) (sym (take_more text place 0 within))

pub behind_goes_on : (text : List ℕ) (place left next : ℕ) → place < length text → left ≢ 0
    → next ≡ (if get_or text place 0 == 12 then left - 1 else left)
    → pages_behind left (drop place text) ≡ pages_behind next (drop (place + 1) text)
behind_goes_on text place left next within some is =
    ap (pages_behind left) (drop_more text place 0 within)
    ∙ behind_step left (get_or text place 0) (drop (place + 1) text) some
    ∙ ap (λ n. pages_behind n (drop (place + 1) text)) (sym is)
