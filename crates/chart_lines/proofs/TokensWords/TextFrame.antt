-- The tests of a text's frame tell exactly what the frame says.
use Rattle.std.proofs.Common.{◌≡◌, ◌↔◌, ℕ, ◌<◌, Bool, true, false, List, [], ◌∷◌, length, Option, Some, refl, ap, sym, ◌∙◌}
use Rattle.std.proofs.lemmas.Bool.{lt-ltb, ltb-true, and_parts, and_from, both_ways}
use Rattle.std.proofs.lemmas.Bool.Decides.{Decides-ltb, Decides-or}
use Rattle.std.proofs.lemmas.List.Folds.{Any-from_list_any, list_any-from_Any}
use Rattle.std.proofs.lemmas.Slice.Eq.{bytes_eq-Decides}
use Rattle.std.specs.Bool.{Decides}
use Rattle.std.specs.List.{list_any}
use Rattle.std.specs.Prelude.{Any, IsTrue}
use Rattle.std.specs.Str.{bytes_eq}
use Rattle.chart_lines.specs.TokensWords.Dividing.{tokens_of}
use Rattle.chart_lines.specs.TokensWords.Frame.{IsLarger, IsTitleLine}
use Rattle.chart_lines.specs.TokensWords.FrameReading.{is_longer, is_larger, are_title, is_title_line}
use Rattle.chart_lines.proofs.TokensWords.TokenGrammar.{has_what_is_read, read_what_it_has}
use Rattle.chart_lines.proofs.TokensWords.TokenWord.{is_word}

-- a line that is too long
any_longer : (most_bytes : ℕ) (lines : List (List ℕ))
    → Decides (list_any (is_longer most_bytes) lines) (Any (λ line. most_bytes < length line) lines)
any_longer most_bytes lines = (come, gone)
  where
    come : list_any (is_longer most_bytes) lines ≡ true → Any (λ line. most_bytes < length line) lines
    come e =
        let long = Any-from_list_any (is_longer most_bytes) lines e in
        (long.0, long.1, long.2, long.3, ltb-true most_bytes (length long.1) long.4)

    gone : Any (λ line. most_bytes < length line) lines → list_any (is_longer most_bytes) lines ≡ true
    gone long = list_any-from_Any (is_longer most_bytes) lines
        (long.0, long.1, long.2, long.3, lt-ltb most_bytes (length long.1) long.4)

-- the size of a text
pub larger_by : (most_lines most_bytes : ℕ) (lines : List (List ℕ))
    → Decides (is_larger most_lines most_bytes lines) (IsLarger most_lines most_bytes lines)
larger_by most_lines most_bytes lines = Decides-or _ _ (Decides-ltb most_lines (length lines)) (any_longer most_bytes lines)

-- a test that tells a property is false where the property is refused, and the other way
pub told_false : {P : Type 0} (test : Bool) → Decides test P → (P → ⊥) → test ≡ false
told_false true tells refused = absurd (refused (tells.0 refl))
told_false false tells refused = refl

pub refused_by : {P : Type 0} (test : Bool) → Decides test P → test ≡ false → P → ⊥
refused_by test tells fails is = both_ways test fails (tells.1 is)

-- a test that tells a property is any other that tells it
told_alike : {P : Type 0} (one other : Bool) → Decides one P → Decides other P → one ≡ other
told_alike true other tells also = sym (also.1 (tells.0 refl))
told_alike false other tells also = sym (told_false other also (λ is. both_ways false refl (tells.1 is)))

-- the first line
title_is : (name version : List ℕ) (tokens : Option (List (List ℕ))) → are_title name version tokens ≡ true
    → tokens ≡ Some (name ∷ version ∷ [])
title_is name version (Some (a ∷ b ∷ [])) test =
    let p = and_parts (bytes_eq a name) (bytes_eq b version) test in
    ap (λ w. Some (w ∷ b ∷ [])) (is_word a name p.0) ∙ ap (λ w. Some (name ∷ w ∷ [])) (is_word b version p.1)
title_is name version other test = cc

pub title_by : (name version line : List ℕ) → Decides (is_title_line name version line) (IsTitleLine name version line)
title_by name version line = (come, gone)
  where
    come : is_title_line name version line ≡ true → IsTitleLine name version line
    come test = has_what_is_read line (name ∷ version ∷ []) (title_is name version (tokens_of line) test)

    gone : IsTitleLine name version line → is_title_line name version line ≡ true
    gone has =
        let own_name = (bytes_eq-Decides name name).1 refl in
        let own_version = (bytes_eq-Decides version version).1 refl in
        ap (are_title name version) (read_what_it_has has)
        ∙ and_from (bytes_eq name name) (bytes_eq version version) own_name own_version

-- The test of a title has one answer: what is told by the relation is what is read.
pub title_answered : (name version line : List ℕ) (answer : Bool)
    → IsTrue answer ↔ IsTitleLine name version line → answer ≡ is_title_line name version line
title_answered name version line answer tells = told_alike answer _ tells (title_by name version line)
