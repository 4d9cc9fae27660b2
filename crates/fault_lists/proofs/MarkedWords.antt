-- A word at which a line leaves the stages stands in no form behind those before it.
use Rattle.std.proofs.Common.{◌≡◌, ◌≢◌, ◌⊎◌, inl, inr, ℕ, suc, zero, ◌+◌, ◌-◌, ◌<◌, ◌≤◌, Bool, true, false, cond, List, [], ◌∷◌, ◌++◌, length, take, drop, get_or, Option, Some, None, refl, sym, ap, ◌∙◌, subst, arith}
use Rattle.std.proofs.lemmas.List.{drop_more}
use Rattle.std.proofs.lemmas.Option.{none-some, same_Some}
use Rattle.fault_lists.proofs.FormStages.{forms_go_on, walk}
use Rattle.fault_lists.specs.MarkedWords.{BeginNoForm, MarkedWordsStandInNoForm}
use Rattle.fault_slips.proofs.LineMarks.Spans.{word_at}
use Rattle.fault_slips.specs.LineMarks.Spans.{word}
use Rattle.fault_slips.specs.LineSlips.Slips.{slip_of}
use Rattle.chart_lines.proofs.TokensWords.TokenGrammar.{read_what_it_has}
use Rattle.fault_slips.specs.WordSlips.Halts.{halt_among, halt_behind, halt_of, halt_unless, is_other, places}
use Rattle.fault_slips.specs.WordSlips.Stages.{behind, first_stage}
use Rattle.fault_slips.specs.declared.word_slips.halt.Halt.{Halt}
use Rattle.fault_slips.specs.declared.word_slips.stage.Stage.{Stage}

-- words behind which no stage is left go on to none
stops_there : (words others : List (List ℕ)) (from : Option Stage) → walk words from ≡ None → walk (words ++ others) from ≡ None
stops_there [] [] from stopped = stopped
stops_there [] (next ∷ others) from stopped = ap (λ (at : Option Stage). walk (next ∷ others) at) stopped
stops_there (next ∷ words) others None stopped = refl
stops_there (next ∷ words) others (Some from) stopped = stops_there words others (behind from next) stopped

-- so no form begins with them
begin_no_form : (first : List ℕ) (words : List (List ℕ)) → walk words (first_stage first) ≡ None → BeginNoForm (first ∷ words)
begin_no_form first words stopped version others said says =
    let goes = forms_go_on says in
    none-some goes.0 (sym (stops_there words others (first_stage first) stopped) ∙ goes.1)

-- the places of words, one after another from a number on
abbrev AreFollowing : ℕ → List ℕ → Type 0
AreFollowing from [] = Unit {0}
AreFollowing from (place ∷ places) = (place ≡ from) × AreFollowing (from + 1) places

-- the places are those of words
abbrev AreWords : List ℕ → List (List ℕ) → Type 0
AreWords line tokens = (place : ℕ) → word place line ≡ get_or tokens place []

-- the place where the stages end, behind some that are passed
abbrev StopsAt : ℕ → Stage → List (List ℕ) → Halt → Type 0
StopsAt from at tokens halt = (from ≤ halt.place) × (walk (take (halt.place + 1 - from) (drop from tokens)) (Some at) ≡ None)

-- the words from a place on
module _ (from : ℕ) (at : Stage) (line : List ℕ) (tokens : List (List ℕ)) (are : AreWords line tokens) (there : from < length tokens) where
  first_left : (n : ℕ) → walk (take (suc n) (drop from tokens)) (Some at) ≡ walk (take n (drop (from + 1) tokens)) (behind at (word from line))
  first_left n =
      ap (λ (words : List (List ℕ)). walk (take (suc n) words) (Some at)) (drop_more tokens from [] there)
      ∙ ap (λ (first : List ℕ). walk (take n (drop (from + 1) tokens)) (behind at first)) (sym (are from))

  -- here no stage is left
  stops_here : (halt : Halt) → halt.place ≡ from → behind at (word from line) ≡ None → StopsAt from at tokens halt
  stops_here halt here stopped = (
    omega (arith, here),
    ap (λ n. walk (take n (drop from tokens)) (Some at)) one
        ∙ first_left 0
        ∙ ap (λ (to : Option Stage). walk (take 0 (drop (from + 1) tokens)) to) stopped,
  )
    where
      one : halt.place + 1 - from ≡ suc 0
      one = omega (arith, here)

  -- one is left, and the stages end behind it
  stops_behind : (to : Stage) (halt : Halt) → behind at (word from line) ≡ Some to → StopsAt (from + 1) to tokens halt
      → StopsAt from at tokens halt
  stops_behind to halt goes (later, stopped) = (
    omega (arith, later),
    ap (λ n. walk (take n (drop from tokens)) (Some at)) left
        ∙ first_left (halt.place + 1 - (from + 1))
        ∙ ap (λ (next : Option Stage). walk (take (halt.place + 1 - (from + 1)) (drop (from + 1) tokens)) next) goes
        ∙ stopped,
  )
    where
      left : halt.place + 1 - from ≡ suc (halt.place + 1 - (from + 1))
      left = omega (arith, later)

-- a halt, if no stage is left, or what comes behind
halted : (to : Option Stage) (halt other : Halt) (later : Stage → Option Halt) → halt_unless halt to later ≡ Some other
    → ((to ≡ None) × (halt ≡ other)) ⊎ ((next : Stage) × (to ≡ Some next) × (later next ≡ Some other))
halted None halt other later is = inl (refl, same_Some halt other is)
halted (Some next) halt other later is = inr (next, refl, is)

-- one place more
step : (place : ℕ) (others : List ℕ) (from : ℕ) (at : Stage) (line : List ℕ) (tokens : List (List ℕ)) (halt : Halt) → place ≡ from
    → AreWords line tokens → halt.place < length tokens
    → ((next : Stage) → halt_among others next line ≡ Some halt → StopsAt (from + 1) next tokens halt)
    → ((behind at (word place line) ≡ None) × (record { place = place; stage = at } ≡ halt))
    ⊎ ((next : Stage) × (behind at (word place line) ≡ Some next) × (halt_among others next line ≡ Some halt))
    → StopsAt from at tokens halt
step place others from at line tokens halt here are there later (inl (none, same)) =
    let stands : halt.place ≡ from = sym (ap (λ (h : Halt). h.place) same) ∙ here in
    stops_here from at line tokens are (omega (arith, stands, there)) halt stands
    (sym (ap (λ (n : ℕ). behind at (word n line)) here) ∙ none)
step place others from at line tokens halt here are there later (inr (next, goes, rest)) =
    let found = later next rest in
    stops_behind from at line tokens are (omega (arith, found.0, there)) next halt
    (sym (ap (λ (n : ℕ). behind at (word n line)) here) ∙ goes) found

-- the places at which the stages end are passed one after another
stops : (places : List ℕ) (from : ℕ) (at : Stage) (line : List ℕ) (tokens : List (List ℕ)) (halt : Halt) → AreFollowing from places
    → AreWords line tokens → halt.place < length tokens → halt_among places at line ≡ Some halt → StopsAt from at tokens halt
unfolding halt_among
stops [] from at line tokens halt follow are there is = absurd (none-some halt is)
stops (place ∷ others) from at line tokens halt follow are there is =
    step place others from at line tokens halt follow.0 are there
    (λ next rest. stops others (from + 1) next line tokens halt follow.1 are there rest)
    (halted (behind at (word place line)) (record { place = place; stage = at }) halt (λ next. halt_among others next line) is)

behind_first : AreFollowing 1 places
behind_first = (refl, (refl, (refl, (refl, (refl, (refl, (refl, (refl, (refl, (refl, (refl, (refl, tt))))))))))))

-- where a word stands, there is one
some_there : (place : ℕ) (tokens : List (List ℕ)) → get_or tokens place [] ≢ [] → place < length tokens
some_there place [] some = absurd (some refl)
some_there zero (token ∷ tokens) some = omega arith
some_there (suc place) (token ∷ tokens) some = omega (arith, some_there place tokens some)

-- from the first word on
marked : (line : List ℕ) (tokens : List (List ℕ)) (halt : Halt) → AreWords line tokens → halt.place < length tokens
    → halt_behind (first_stage (word 0 line)) line ≡ Some halt → BeginNoForm (take (halt.place + 1) tokens)
marked line [] halt are there found = absurd (omega (arith, there))
marked line (token ∷ tokens) halt are there found = by (first_stage (word 0 line)) refl found
  where
    by : (first : Option Stage) → first_stage (word 0 line) ≡ first → halt_behind first line ≡ Some halt
        → BeginNoForm (take (halt.place + 1) (token ∷ tokens))
    by None is from = absurd (none-some halt from)
    by (Some first) is from =
        let stop = stops places 1 first line (token ∷ tokens) halt behind_first are there from in
        subst (λ (n : ℕ). BeginNoForm (take n (token ∷ tokens))) whole
        (begin_no_form token (take (halt.place + 1 - 1) tokens)
        (ap (λ (one : List ℕ). walk (take (halt.place + 1 - 1) tokens) (first_stage one)) (sym (are 0))
        ∙ ap (λ (at : Option Stage). walk (take (halt.place + 1 - 1) tokens) at) is
        ∙ stop.1))
      where
        whole : suc (halt.place + 1 - 1) ≡ halt.place + 1
        whole = omega arith

pub marked_words : MarkedWordsStandInNoForm
unfolding halt_of
marked_words line tokens halt has found some = by (is_other (slip_of line)) found
  where
    are : AreWords line tokens
    are place = word_at place line tokens (read_what_it_has has)

    by : (other : Bool) → cond other (halt_behind (first_stage (word 0 line)) line) None ≡ Some halt → BeginNoForm (take (halt.place + 1) tokens)
    by true from = marked line tokens halt are (some_there halt.place tokens (λ none. some (are halt.place ∙ none))) from
    by false from = absurd (none-some halt from)
