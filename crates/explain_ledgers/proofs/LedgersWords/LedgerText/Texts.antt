-- Texts that grow piece by piece.
use Rattle.std.proofs.Common.{◌≡◌, ◌∙◌, ap, ℕ, zero, suc, ◌+◌, ◌-◌, ◌/◌, ◌%◌, ◌<◌, List, [], ◌∷◌, ◌++◌, append_assoc, arith}
use Rattle.std.specs.Prelude.{OnOk, Option, Result, Ok, Err}
use Rattle.explain_ledgers.specs.LedgersWords.Summaries.{Summary}
use Rattle.explain_ledgers.specs.declared.ledgers.account.Account.{Account}
use Rattle.explain_ledgers.specs.declared.ledgers.entry.Entry.{Entry}
use Rattle.explain_ledgers.specs.declared.ledgers.ledger.LeftOut.{LeftOut}
use Rattle.explain_ledgers.specs.LedgersWords.LedgerText.Amounts.{digits_text}
use Rattle.explain_ledgers.specs.LedgersWords.LedgerText.Entries.{Words, count_text, decimals_in, entry_lines, gap_line, gap_lines, together_text}
use Rattle.explain_ledgers.specs.LedgersWords.LedgerText.Tellings.{summary_lines}

-- one digit more
pub digits-more : (old mid new : List ℕ) (width number place : ℕ) → 0 < width → place ≡ width - 1
    → mid ≡ old ++ digits_text place (number / 10) → new ≡ mid ++ (48 + number % 10) ∷ []
    → new ≡ old ++ digits_text width number
digits-more old mid new zero number place some below front last = absurd (omega (arith, some))
digits-more old mid new (suc width) number place some below front last =
    let here : place ≡ width = omega (arith, below) in
    last
    ∙ ap (λ (l : List ℕ). l ++ (48 + number % 10) ∷ []) (front ∙ ap (λ (k : ℕ). old ++ digits_text k (number / 10)) here)
    ∙ append_assoc old (digits_text width (number / 10)) ((48 + number % 10) ∷ [])

-- three pieces
pub three-pieces : {X E : Type 0} (result : Result X E) (old one two new a b c : List ℕ) → one ≡ old ++ a → two ≡ one ++ b
    → OnOk result (new ≡ two ++ c) → OnOk result (new ≡ old ++ ((a ++ b) ++ c))
three-pieces (Err e) old one two new a b c first second third = tt
three-pieces (Ok x) old one two new a b c first second third =
    third
    ∙ ap (λ (l : List ℕ). l ++ c) (second ∙ ap (λ (l : List ℕ). l ++ b) first ∙ append_assoc old a b)
    ∙ append_assoc old (a ++ b) c

-- the line in place of entries that are left out
pub gap-told : {X E : Type 0} (result : Result X E) (words : Option Words) (left_out : LeftOut) (decimals : ℕ) (old one new : List ℕ)
    → decimals ≡ decimals_in words → one ≡ old ++ count_text left_out.count → OnOk result (new ≡ one ++ together_text decimals left_out)
    → OnOk result (new ≡ old ++ gap_line words left_out)
gap-told (Err e) words left_out decimals old one new is begun ended = tt
gap-told (Ok x) words left_out decimals old one new is begun ended =
    ended
    ∙ ap (λ (n : ℕ). one ++ together_text n left_out) is
    ∙ ap (λ (l : List ℕ). l ++ together_text (decimals_in words) left_out) begun
    ∙ append_assoc old (count_text left_out.count) (together_text (decimals_in words) left_out)

-- the entries of a ledger at both ends, and the line between them
pub summary-told : {X E : Type 0} (result : Result X E) (words : Option Words) (told : Summary) (account : Account) (first last : List Entry)
    (left_out : LeftOut) (old one two new : List ℕ) → account ≡ told.account → first ≡ told.first → left_out ≡ told.left_out
    → last ≡ told.last → one ≡ old ++ entry_lines words account first → two ≡ one ++ gap_lines words left_out
    → OnOk result (new ≡ two ++ entry_lines words account last) → OnOk result (new ≡ old ++ summary_lines words told)
summary-told (Err e) words told account first last left_out old one two new of is_first is_left is_last begun more ended = tt
summary-told (Ok x) words told account first last left_out old one two new of is_first is_left is_last begun more ended =
    ended
    ∙ ap (λ (l : List ℕ). l ++ entry_lines words account last)
    (more ∙ ap (λ (l : List ℕ). l ++ gap_lines words left_out) begun
    ∙ append_assoc old (entry_lines words account first) (gap_lines words left_out))
    ∙ append_assoc old (entry_lines words account first ++ gap_lines words left_out) (entry_lines words account last)
    ∙ ap (λ (a : Account). old ++ ((entry_lines words a first ++ gap_lines words left_out) ++ entry_lines words a last)) of
    ∙ ap (λ (l : List Entry). old ++ ((entry_lines words told.account l ++ gap_lines words left_out) ++ entry_lines words told.account last))
    is_first
    ∙ ap (λ (l : LeftOut). old
    ++ ((entry_lines words told.account told.first ++ gap_lines words l) ++ entry_lines words told.account last)) is_left
    ∙ ap (λ (l : List Entry). old
    ++ ((entry_lines words told.account told.first ++ gap_lines words told.left_out) ++ entry_lines words told.account l)) is_last
