-- Texts that grow piece by piece.
use Rattle.std.proofs.Common.{◌≡◌, ◌∙◌, sym, ap, arith, ℕ, ◌+◌, ◌-◌, ◌<◌, List, [], ◌∷◌, ◌++◌, append_assoc, length, flat_map, take, get_or}
use Rattle.std.specs.Prelude.{IfOk, OnOk, Result, Ok, Err, String, if◌then◌else◌}
use Rattle.std.specs.Result.{is_ok}
use Rattle.std.specs.List.{range_with_len}
use Rattle.std.specs.String.{string_bytes}
use Rattle.std.specs.declared.alloc.Global.{Global}
use Rattle.std.proofs.lemmas.List.{flat_map_more, map-id, take_more}
use Rattle.std.proofs.lemmas.List.FromFn.{map-range_with_len_more}
use Rattle.hubs.specs.declared.hub.Hub.{Hub}
use Rattle.hubs.specs.SetupsWords.Wiring.{Wiring}
use Rattle.explain_words.specs.ExplanationText.Asked.{asked_by, asked_line, asked_lines}
use Rattle.explain_words.specs.ExplanationText.Text.{led_text}

-- two pieces, one behind the other, and three
pub two_pieces : (old one new a b : List ℕ) → one ≡ old ++ a → new ≡ one ++ b → new ≡ old ++ (a ++ b)
two_pieces old one new a b first second = second ∙ ap (λ (l : List ℕ). l ++ b) first ∙ append_assoc old a b

pub three_pieces : (old one two new a b c : List ℕ) → one ≡ old ++ a → two ≡ one ++ b → new ≡ two ++ c → new ≡ old ++ (a ++ b ++ c)
three_pieces old one two new a b c first second third =
    third ∙ ap (λ (l : List ℕ). l ++ c) (second ∙ ap (λ (l : List ℕ). l ++ b) first)
    ∙ ap (λ (l : List ℕ). l ++ c) (append_assoc old a b) ∙ append_assoc old (a ++ b) c

pub asked_more : (old mid new : List ℕ) (asked : List (String Global × Wiring)) (way : List Hub) (place : ℕ) (one : String Global × Wiring)
    → place < length asked → get_or asked place one ≡ one → mid ≡ old ++ asked_lines (take place asked) way
    → new ≡ mid ++ asked_line (string_bytes one.0) one.1 way → new ≡ old ++ asked_lines (take (place + 1) asked) way
asked_more old mid new asked way place one less item before more =
    more ∙ ap (λ (l : List ℕ). l ++ asked_by way one) before ∙ flat_map_more (asked_by way) old (take place asked) one
    ∙ ap (λ (l : List (String Global × Wiring)). old ++ flat_map (asked_by way) l)
    (sym (take_more asked place one less ∙ ap (λ (o : String Global × Wiring). take place asked ++ o ∷ []) item))

pub led_more : (old mid new : List ℕ) (hubs : List Hub) (place : ℕ) (hub : Hub) → place < length hubs
    → get_or hubs place hub ≡ hub → mid ≡ old ++ flat_map led_text (take place hubs) → new ≡ mid ++ led_text hub
    → new ≡ old ++ flat_map led_text (take (place + 1) hubs)
led_more old mid new hubs place hub less item before one =
    one ∙ ap (λ (l : List ℕ). l ++ led_text hub) before ∙ flat_map_more led_text old (take place hubs) hub
    ∙ ap (λ (l : List Hub). old ++ flat_map led_text l)
    (sym (take_more hubs place hub less ∙ ap (λ (h : Hub). take place hubs ++ h ∷ []) item))

range_more : (n : ℕ) → range_with_len 0 (n + 1) ≡ range_with_len 0 n ++ n ∷ []
range_more n =
    sym (map-id (range_with_len 0 (n + 1))) ∙ map-range_with_len_more (λ (x : ℕ). x) 0 n n (omega arith)
    ∙ ap (λ (l : List ℕ). l ++ n ∷ []) (map-id (range_with_len 0 n))

-- the piece of the next number
pub number_more : {X : Type 0} (f : ℕ → List X) (old mid new : List X) (next : ℕ) → mid ≡ old ++ flat_map f (range_with_len 0 next)
    → new ≡ mid ++ f next → new ≡ old ++ flat_map f (range_with_len 0 (next + 1))
number_more {X} f old mid new next before one =
    one ∙ ap (λ (l : List X). l ++ f next) before ∙ flat_map_more f old (range_with_len 0 next) next
    ∙ ap (λ (l : List ℕ). old ++ flat_map f l) (sym (range_more next))

-- the next number stands in front of those that are left
pub range_front : (from count : ℕ) → 0 < count → range_with_len from count ≡ from ∷ range_with_len (from + 1) (count - 1)
range_front from count some = grind (arith)

-- a text that has gained some where it could
pub when_ok : {A E : Type 0} (result : Result A E) (new gained kept : List ℕ) → new ≡ (if is_ok result then gained else kept)
    → OnOk result (new ≡ gained)
when_ok (Ok x) new gained kept is = is
when_ok (Err e) new gained kept is = tt

pub where_ok : {A E : Type 0} (P Q : Type 0) (result : Result A E) → (P → Q) → OnOk result P → OnOk result Q
where_ok P Q (Ok x) so was = so was
where_ok P Q (Err e) so was = was

pub if_ok : {A E : Type 0} (P Q : A → Type 0) (result : Result A E) → ((x : A) → P x → Q x) → IfOk result P → IfOk result Q
if_ok P Q (Ok x) so was = so x was
if_ok P Q (Err e) so was = was
