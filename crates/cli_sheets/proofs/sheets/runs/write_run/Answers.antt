use Rattle.std.proofs.Common.{◌≡◌, ◌∙◌, ◌++◌, [], ◌∷◌, ap, sym, arith, append-nil, append_assoc, List, ℕ, replicate}
use Rattle.std.proofs.lemmas.List.{replicate_more}
use Rattle.cli_sheets.proofs.sheets.runs.write_run.Goals as goal

pub loop-init : goal.loop-init
loop-init c = sym (append-nil c.args.text.now.items)

pub loop-preserved : goal.loop-preserved
loop-preserved c =
    c.in_ok-push.ensures.items
    ∙ ap (λ (l : List ℕ). l ++ c.args.character ∷ []) c.loop.invariant
    ∙ append_assoc c.args.text.now.items (replicate c.loop.counter c.args.character) (c.args.character ∷ [])
    ∙ ap (λ (l : List ℕ). c.args.text.now.items ++ l) (replicate_more c.loop.counter c.args.character)

pub returns : goal.returns
returns c =
    let all : c.loop.counter ≡ c.args.count = omega (arith, c.loop-test.false, c.loop.auto.counter-end) in
    c.loop.invariant ∙ ap (λ (n : ℕ). c.args.text.now.items ++ replicate n c.args.character) all
