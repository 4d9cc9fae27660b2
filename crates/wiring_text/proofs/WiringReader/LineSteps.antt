-- Reading the lines of a wiring chart one after another.
use Rattle.std.proofs.Common.{◌≡◌, ◌⊎◌, ℕ, ◌+◌, Bool, true, false, List, [], ◌∷◌, length, Ok, Err, ap, sym, ◌∙◌, inl, inr, suc, arith}
use Rattle.std.proofs.Math.Numerals.{add-one}
use Rattle.card_code.specs.Lines.{lines_of}
use Rattle.hubs.specs.SetupsWords.Wiring.{Wiring}
use Rattle.wiring_text.specs.WiringReader.TextReading.{Content, Answers, Holds, Refuses, SoFar, Takes, Told, content_of, go_on, lines_from, start, step, with_form}
use Rattle.wiring_text.specs.declared.statement.FormNumbers.{FormNumbers}
use Rattle.wiring_text.specs.declared.fault.WiringFault.{WiringFault}
use Rattle.wiring_text.specs.declared.fault.WiringFault.TheVariants.{NoEnd, Memory}
use Rattle.wiring_text.specs.declared.statement.Statement.{Statement}
use Rattle.wiring_text.specs.declared.statement.Version.{Version}

-- what the lines so far say, which the setup has, before what the rest says, is what the text says
pub record ReadsSoFar (version : Version) (form : FormNumbers) (setup : Wiring) (ended : Bool) (number : ℕ) (rest text : List ℕ) : Type 0 where
  pub said : List Statement
  pub holds : Holds form said setup
  pub same : lines_from version form.lines number (record { said = said; ended = ended }) (lines_of rest)
      ≡ lines_from version form.lines 3 start (lines_of text)
  pub numbered : number + length (lines_of rest) ≡ 3 + length (lines_of text)

-- the rest of a text, by its first line
rest_from : (version : Version) (lines number : ℕ) (so_far : SoFar) (content : Content) (line rest after : List ℕ)
    → lines_of rest ≡ line ∷ lines_of after → content ≡ content_of version line
    → lines_from version lines number so_far (lines_of rest)
    ≡ go_on (step lines number so_far content) (λ next. lines_from version lines (suc number) next (lines_of after))
unfolding lines_from
rest_from version lines number so_far content line rest after first is =
    ap (lines_from version lines number so_far) first
    ∙ ap (λ c. go_on (step lines number so_far c) (λ next. lines_from version lines (suc number) next (lines_of after))) (sym is)

-- one line is the fault
pub fault_more : (version : Version) (form : FormNumbers) (old : Wiring) (ended : Bool) (number : ℕ) (content : Content) (line rest after text : List ℕ)
    (fault : WiringFault) → lines_of rest ≡ line ∷ lines_of after → content ≡ content_of version line
    → Refuses content number old ended fault → ReadsSoFar version form old ended number rest text
    → Answers (Err fault) (with_form form (lines_from version form.lines 3 start (lines_of text)))
fault_more version form old ended number content line rest after text fault first is refuses reads =
    by_cause (refuses form reads.said reads.holds)
  where
    by_cause : (fault ≡ Memory) ⊎ (step form.lines number (record { said = reads.said; ended = ended }) content ≡ Err fault)
        → Answers (Err fault) (with_form form (lines_from version form.lines 3 start (lines_of text)))
    by_cause (inl e) = inl e
    by_cause (inr e) =
        inr (ap (with_form form) (sym reads.same
        ∙ rest_from version form.lines number (record { said = reads.said; ended = ended }) content line rest after first is
        ∙ ap (λ s. go_on s (λ next. lines_from version form.lines (suc number) next (lines_of after))) e))

-- one line more is read
pub reads_more : (version : Version) (form : FormNumbers) (old new : Wiring) (ended new_ended : Bool) (number : ℕ) (content : Content)
    (line rest after text : List ℕ) → lines_of rest ≡ line ∷ lines_of after → content ≡ content_of version line
    → Takes content number old ended new new_ended → ReadsSoFar version form old ended number rest text
    → ReadsSoFar version form new new_ended (number + 1) after text
reads_more version form old new ended new_ended number content line rest after text first is takes reads =
    let taken = takes form reads.said reads.holds in
    let next : SoFar = record { said = taken.next.said; ended = new_ended } in
    let next_is : taken.next ≡ next =
    ap (λ e. let s : SoFar = record { said = taken.next.said; ended = e } in s) taken.end in
    record {
      said = taken.next.said;
      holds = taken.holds;
      same = ap (λ n. lines_from version form.lines n next (lines_of after)) (add-one number)
          ∙ ap (λ s. lines_from version form.lines (suc number) s (lines_of after)) (sym next_is)
          ∙ sym (ap (λ s. go_on s (λ n. lines_from version form.lines (suc number) n (lines_of after))) taken.stepped)
          ∙ sym (rest_from version form.lines number (record { said = reads.said; ended = ended }) content line rest after first is)
          ∙ reads.same;
      numbered = omega (arith, ap length first, reads.numbered);
    }

-- no line is left
pub reads_all : (version : Version) (form : FormNumbers) (setup : Wiring) (ended : Bool) (number : ℕ) (rest text : List ℕ) → lines_of rest ≡ []
    → ended ≡ true → ReadsSoFar version form setup ended number rest text
    → Answers (Ok setup) (with_form form (lines_from version form.lines 3 start (lines_of text)))
unfolding lines_from
reads_all version form setup ended number rest text none is reads =
    let what : Told = record { form = form; statements = reads.said } in (
      what,
      ap (with_form form) (sym reads.same
          ∙ ap (λ e. lines_from version form.lines number (record { said = reads.said; ended = e }) (lines_of rest)) is
          ∙ ap (lines_from version form.lines number (record { said = reads.said; ended = true })) none),
      reads.holds.setup,
    )

pub reads_no_end : (version : Version) (form : FormNumbers) (setup : Wiring) (ended : Bool) (number : ℕ) (rest text : List ℕ) → lines_of rest ≡ []
    → ended ≡ false → ReadsSoFar version form setup ended number rest text
    → Answers (Err NoEnd) (with_form form (lines_from version form.lines 3 start (lines_of text)))
unfolding lines_from
reads_no_end version form setup ended number rest text none is reads =
    inr (ap (with_form form) (sym reads.same
    ∙ ap (λ e. lines_from version form.lines number (record { said = reads.said; ended = e }) (lines_of rest)) is
    ∙ ap (lines_from version form.lines number (record { said = reads.said; ended = false })) none))
