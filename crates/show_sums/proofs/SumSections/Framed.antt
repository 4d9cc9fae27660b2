-- Pieces one behind the other.
use Rattle.std.proofs.Common.{◌≡◌, ℕ, List, ◌++◌}
use Rattle.show_drawings.proofs.MarkupWords.Pieces.{and_more}

pub three : (old one two new a b c : List ℕ) → one ≡ old ++ a → two ≡ one ++ b → new ≡ two ++ c → new ≡ old ++ (a ++ b ++ c)
three old one two new a b c h1 h2 h3 = and_more old two new (a ++ b) c (and_more old one two a b h1 h2) h3

pub five : (old one two three four new a b c d e : List ℕ) → one ≡ old ++ a → two ≡ one ++ b → three ≡ two ++ c → four ≡ three ++ d
    → new ≡ four ++ e → new ≡ old ++ (a ++ b ++ c ++ d ++ e)
five old one two three four new a b c d e h1 h2 h3 h4 h5 =
    and_more old four new (a ++ b ++ c ++ d) e
    (and_more old three four (a ++ b ++ c) d
    (and_more old two three (a ++ b) c (and_more old one two a b h1 h2) h3) h4) h5
