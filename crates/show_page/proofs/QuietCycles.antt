-- Of a cycle whose line is short nothing is told.
use Rattle.std.proofs.Common.{◌≡◌, ◌∙◌, ap, refl, arith, ℕ, ◌+◌, ◌-◌, ◌≤◌, true, List, [], ◌∷◌, ◌++◌, length}
use Rattle.std.specs.Prelude.{replicate}
use Rattle.std.proofs.lemmas.Bool.{leb-true}
use Rattle.std.proofs.lemmas.List.{length-append, length-replicate}
use Rattle.show_sections.specs.CycleSections.Sections.{is_quiet}
use Rattle.explain_words.specs.TracesWords.Lines.{put_behind}

-- what stands behind a name begins behind sixteen places
far : (name gap told : List ℕ) → length gap ≡ 16 - length name → 16 + length told ≤ length (name ++ gap ++ told)
far name gap told long =
    let whole : length (name ++ gap ++ told) ≡ length name + length gap + length told =
    length-append (name ++ gap) told ∙ ap (λ (n : ℕ). n + length told) (length-append name gap) in
    omega (arith, whole, long)

pub quiet_behind : (name told : List ℕ) → is_quiet (put_behind name told) ≡ true → told ≡ []
quiet_behind name [] quiet = refl
quiet_behind name (sign ∷ told) quiet =
    let short = leb-true (length (name ++ replicate (16 - length name) 32 ++ sign ∷ told)) 16 quiet in
    let long = far name (replicate (16 - length name) 32) (sign ∷ told) (length-replicate (16 - length name) 32) in
    absurd (omega (arith, short, long))
