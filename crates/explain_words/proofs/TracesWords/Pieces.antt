-- Texts that grow piece by piece.
use Rattle.std.proofs.Common.{◌≡◌, ◌∙◌, sym, ap, ℕ, ◌+◌, ◌-◌, ◌<◌, ◌≤◌, Bool, List, [], ◌∷◌, ◌++◌, append-nil, append_assoc, decimal, length, take, drop, get_or, map, reverse, set, arith, subst, true, false, codes, if◌then◌else◌}
use Rattle.std.specs.Prelude.{OnOk, Result, Ok, Err}
use Rattle.std.proofs.lemmas.Bool.Decides.{same_from_decides, Decides-like}
use Rattle.std.proofs.lemmas.Grind.{common_steps, reverse_onto}
use Rattle.std.proofs.lemmas.List.{drop_all, drop_more, flat_map_more, map-id, reverse-reverse, take_all, take_more, take_more_set}
use Rattle.std.proofs.lemmas.List.FromFn.{length-map-range_with_len, map-range_with_len_more}
use Rattle.std.proofs.lemmas.Slice.Eq.{bytes_eq-Decides}
use Rattle.std.specs.List.{flat_map, range_with_len}
use Rattle.std.specs.Str.{bytes_eq}
use Rattle.explain_words.specs.TracesWords.TracedUnits.{bracketed, digits_text}

-- the piece of one thing more
pub piece_more : {X : Type 0} (f : X → List ℕ) (old mid new : List ℕ) (things : List X) (place : ℕ) (thing : X) → place < length things
    → get_or things place thing ≡ thing → mid ≡ old ++ flat_map f (take place things) → new ≡ mid ++ f thing
    → new ≡ old ++ flat_map f (take (place + 1) things)
piece_more {X} f old mid new things place thing less item before one =
    one ∙ ap (λ (l : List ℕ). l ++ f thing) before ∙ flat_map_more f old (take place things) thing
    ∙ ap (λ (l : List X). old ++ flat_map f l)
    (sym (take_more things place thing less ∙ ap (λ (x : X). take place things ++ x ∷ []) item))

-- no digit yet, of digits the units first
pub digits_none : (old digits : List ℕ) (upper : ℕ) → length digits ≤ upper → old ≡ old ++ digits_text (reverse (drop upper digits))
digits_none old digits upper all = rw (drop_all upper digits all) (sym (append-nil old))

-- one digit more: the next lower one
pub digits_more : (old mid new digits : List ℕ) (upper digit : ℕ) → 0 < upper → upper ≤ length digits
    → get_or digits (upper - 1) 0 ≡ digit → mid ≡ old ++ digits_text (reverse (drop upper digits)) → new ≡ mid ++ decimal digit
    → new ≡ old ++ digits_text (reverse (drop (upper - 1) digits))
digits_more old mid new digits upper digit some within is before one =
    let below = drop_more digits (upper - 1) 0 (omega (arith, some, within)) in
    let next : upper - 1 + 1 ≡ upper = omega (arith, some) in
    one ∙ ap (λ (l : List ℕ). l ++ decimal digit) before ∙ flat_map_more decimal old (reverse (drop upper digits)) digit
    ∙ ap (λ (l : List ℕ). old ++ flat_map decimal l)
    (sym (ap reverse (below ∙ ap (λ (d : ℕ). d ∷ drop (upper - 1 + 1) digits) is ∙ ap (λ (n : ℕ). digit ∷ drop n digits) next)
    ∙ reverse_onto (drop upper digits) digit []))

-- texts are the same where they are read from the other end
pub same_reversed : (xs ys : List ℕ) → bytes_eq (reverse xs) (reverse ys) ≡ bytes_eq xs ys
same_reversed xs ys =
    same_from_decides (bytes_eq (reverse xs) (reverse ys)) (bytes_eq xs ys)
    (Decides-like (bytes_eq (reverse xs) (reverse ys))
    (λ same. sym (reverse-reverse xs) ∙ ap reverse same ∙ reverse-reverse ys) (λ same. ap reverse same)
    (bytes_eq-Decides (reverse xs) (reverse ys)))
    (bytes_eq-Decides xs ys)

-- one character more
pub character_more : (f : ℕ → ℕ) (old : List ℕ) (place character : ℕ) → place < length old
    → take place old ≡ map f (range_with_len 1 place) → character ≡ f (place + 1)
    → take (place + 1) (set old place character) ≡ map f (range_with_len 1 (place + 1))
character_more f old place character less before is =
    take_more_set old place character less
    ∙ ap (λ (l : List ℕ). l ++ character ∷ []) before
    ∙ ap (λ (x : ℕ). map f (range_with_len 1 place) ++ x ∷ []) is
    ∙ sym (map-range_with_len_more f 1 place (place + 1) (omega arith))

range_more : (n : ℕ) → range_with_len 1 (n + 1) ≡ range_with_len 1 n ++ (n + 1) ∷ []
range_more n =
    sym (map-id (range_with_len 1 (n + 1)))
    ∙ map-range_with_len_more (λ (x : ℕ). x) 1 n (n + 1) (omega arith)
    ∙ ap (λ (l : List ℕ). l ++ (n + 1) ∷ []) (map-id (range_with_len 1 n))

-- the piece of the next number
pub number_more : (f : ℕ → List ℕ) (old mid new : List ℕ) (next : ℕ) → 0 < next → mid ≡ old ++ flat_map f (range_with_len 1 (next - 1))
    → new ≡ mid ++ f next → new ≡ old ++ flat_map f (range_with_len 1 (next + 1 - 1))
number_more f old mid new next some before one =
    let here : next - 1 + 1 ≡ next = omega (arith, some) in
    let there : next + 1 - 1 ≡ next = omega arith in
    one ∙ ap (λ (l : List ℕ). l ++ f next) before ∙ flat_map_more f old (range_with_len 1 (next - 1)) next
    ∙ ap (λ (l : List ℕ). old ++ flat_map f l)
    (ap (λ (n : ℕ). range_with_len 1 (next - 1) ++ n ∷ []) (sym here) ∙ sym (range_more (next - 1))
    ∙ ap (λ (n : ℕ). range_with_len 1 n) (here ∙ sym there))

pub characters_long : (old : List ℕ) (place character : ℕ) → length old ≡ 16 → length (set old place character) ≡ 16
characters_long old place character long = grind (arith, common_steps)

-- all characters
pub characters_all : (f : ℕ → ℕ) (place : ℕ) (characters : List ℕ) → take place characters ≡ map f (range_with_len 1 place)
    → length characters ≡ 16 → 16 ≤ place → characters ≡ map f (range_with_len 1 16)
characters_all f place characters before long done =
    let whole : characters ≡ map f (range_with_len 1 place) =
    sym (take_all place characters (omega (arith, long, done))) ∙ before in
    let same : place ≡ 16 = sym (length-map-range_with_len f 1 place) ∙ sym (ap length whole) ∙ long in
    subst (λ (n : ℕ). characters ≡ map f (range_with_len 1 n)) same whole

-- nothing is told of characters that stay
pub kept_none : (text told now held before after : List ℕ) (same : Bool) → same ≡ bytes_eq now held → now ≡ before → held ≡ after
    → same ≡ true → text ≡ text ++ (if bytes_eq before after then [] else told)
kept_none text told now held before after same tested of_now of_held is =
    let equal : bytes_eq before after ≡ true =
    sym (ap (λ (l : List ℕ). bytes_eq l held) of_now ∙ ap (λ (l : List ℕ). bytes_eq before l) of_held) ∙ sym tested ∙ is in
    sym (append-nil text) ∙ ap (λ (b : Bool). text ++ (if b then [] else told)) (sym equal)

-- other characters are told
pub other_told : {X E : Type 0} (result : Result X E) (text new now held before after : List ℕ) (place number : ℕ) (same : Bool)
    → same ≡ bytes_eq now held → now ≡ before → held ≡ after → place ≡ number → same ≡ false
    → OnOk result (new ≡ text ++ (codes "   storage " ++ decimal place ++ codes " " ++ bracketed held))
    → OnOk result (new ≡ text ++ (if bytes_eq before after then [] else codes "   storage " ++ decimal number ++ codes " " ++ bracketed after))
other_told (Ok x) text new now held before after place number same tested of_now of_held of_place is written =
    let other : bytes_eq before after ≡ false =
    sym (ap (λ (l : List ℕ). bytes_eq l held) of_now ∙ ap (λ (l : List ℕ). bytes_eq before l) of_held) ∙ sym tested ∙ is in
    written
    ∙ ap (λ (n : ℕ). text ++ (codes "   storage " ++ decimal n ++ codes " " ++ bracketed held)) of_place
    ∙ ap (λ (l : List ℕ). text ++ (codes "   storage " ++ decimal number ++ codes " " ++ bracketed l)) of_held
    ∙ ap (λ (b : Bool). text ++ (if b then [] else codes "   storage " ++ decimal number ++ codes " " ++ bracketed after)) (sym other)
other_told (Err e) text new now held before after place number same tested of_now of_held of_place is written = tt

-- four pieces, one behind the other
pub four_pieces : {X E : Type 0} (result : Result X E) (old one two three new a b c d : List ℕ) → one ≡ old ++ a → two ≡ one ++ b
    → three ≡ two ++ c → OnOk result (new ≡ three ++ d) → OnOk result (new ≡ old ++ (a ++ b ++ c ++ d))
four_pieces (Ok x) old one two three new a b c d first second third last =
    last ∙ ap (λ (l : List ℕ). l ++ d) (third ∙ ap (λ (l : List ℕ). l ++ c) (second ∙ ap (λ (l : List ℕ). l ++ b) first))
    ∙ ap (λ (l : List ℕ). (l ++ c) ++ d) (append_assoc old a b)
    ∙ ap (λ (l : List ℕ). l ++ d) (append_assoc old (a ++ b) c)
    ∙ append_assoc old ((a ++ b) ++ c) d
four_pieces (Err e) old one two three new a b c d first second third last = tt
