-- What a text gains, piece by piece.
use Rattle.std.proofs.Common.{add-one, ◌≡◌, ◌∙◌, sym, ap, subst, refl, arith, ℕ, ◌+◌, ◌<◌, List, [], ◌∷◌, ◌++◌, append_assoc, append-nil, length, flat_map, take, get_or}
use Rattle.std.specs.Prelude.{OnOk, Result, Ok, Err, drop, if◌then◌else◌, map}
use Rattle.std.specs.Result.{is_ok}
use Rattle.std.specs.List.{range_with_len}
use Rattle.std.proofs.Math.Seq.{drop-cons}
use Rattle.std.proofs.lemmas.List.{take_more, flat_map_more}
use Rattle.std.proofs.lemmas.List.FromFn.{map-range_with_len_more}
use Rattle.show_drawings.specs.MarkupWords.Pieces.{GainsEach, GainsOne, numbered_words}
use Rattle.show_drawings.specs.MarkupWords.Pieces.EachText.{none as no-text, more as more-text}

-- one word more, of those of a list of things
pub one_more : {A : Type 0} (word : A → List ℕ) (old mid new : List ℕ) (things : List A) (place : ℕ) (thing : A)
    → place < length things → get_or things place thing ≡ thing → mid ≡ old ++ flat_map word (take place things)
    → new ≡ mid ++ word thing → new ≡ old ++ flat_map word (take (place + 1) things)
one_more {A} word old mid new things place thing less item before one =
    one ∙ ap (λ (l : List ℕ). l ++ word thing) before ∙ flat_map_more word old (take place things) thing
    ∙ ap (λ (l : List A). old ++ flat_map word l)
    (sym (take_more things place thing less ∙ ap (λ (a : A). take place things ++ a ∷ []) item))

-- one word more, of those of a list of things by their numbers
pub numbered_more : {A : Type 0} (word : ℕ → A → List ℕ) (mid new : List ℕ) (number : ℕ) (things : List A) (place : ℕ) (thing : A)
    (whole : List ℕ) → place < length things → get_or things place thing ≡ thing
    → mid ++ numbered_words word number (drop place things) ≡ whole → new ≡ mid ++ word number thing
    → new ++ numbered_words word (number + 1) (drop (place + 1) things) ≡ whole
numbered_more {A} word mid new number things place thing whole less item before one =
    let left : drop place things ≡ thing ∷ drop (place + 1) things =
    let parts : drop place things ≡ get_or things place thing ∷ drop (place + 1) things = rw (add-one, drop-cons things place thing) in
    parts ∙ ap (λ (a : A). a ∷ drop (place + 1) things) item in
    ap (λ (l : List ℕ). l ++ numbered_words word (number + 1) (drop (place + 1) things)) one
    ∙ append_assoc mid (word number thing) (numbered_words word (number + 1) (drop (place + 1) things))
    ∙ sym (ap (λ (l : List A). mid ++ numbered_words word number l) left) ∙ before

-- a last thing more
pub numbered_last : {A : Type 0} (word : ℕ → A → List ℕ) (number : ℕ) (things : List A) (thing : A)
    → numbered_words word number (things ++ thing ∷ []) ≡ numbered_words word number things ++ word (number + length things) thing
numbered_last word number [] thing = append-nil (word number thing) ∙ ap (λ (n : ℕ). word n thing) (omega arith)
numbered_last word number (first ∷ others) thing =
    ap (λ (l : List ℕ). word number first ++ l) (numbered_last word (number + 1) others thing)
    ∙ sym (append_assoc (word number first) (numbered_words word (number + 1) others) (word (number + 1 + length others) thing))
    ∙ ap (λ (n : ℕ). (word number first ++ numbered_words word (number + 1) others) ++ word n thing) (omega arith)

-- a piece more
pub and_more : (old mid new pieces piece : List ℕ) → mid ≡ old ++ pieces → new ≡ mid ++ piece → new ≡ old ++ (pieces ++ piece)
and_more old mid new pieces piece before one = one ∙ ap (λ (l : List ℕ). l ++ piece) before ∙ append_assoc old pieces piece

pub where_ok : {A E : Type 0} (P Q : Type 0) (result : Result A E) → (P → Q) → OnOk result P → OnOk result Q
where_ok P Q (Ok x) goes_on was = goes_on was
where_ok P Q (Err e) goes_on was = was

-- what was pushed, where that gave no error
pub pushed : {A E : Type 0} (result : Result A E) (new more less : List ℕ) → new ≡ (if is_ok result then more else less)
    → OnOk result (new ≡ more)
pushed (Ok x) new more less e = e
pushed (Err f) new more less e = tt

pub each_none : {A : Type 0} (Is : A → List ℕ → Type 0) (old : List ℕ) → GainsEach Is [] old old
each_none Is old = record { text = []; each = no-text; gained = sym (append-nil old) }

pub each_more : {A : Type 0} (Is : A → List ℕ → Type 0) (things : List A) (thing : A) (old mid new : List ℕ) → GainsEach Is things old mid
    → GainsOne (Is thing) mid new → GainsEach Is (things ++ thing ∷ []) old new
each_more Is things thing old mid new first one = record {
  text = first.text ++ one.text;
  each = more-text things thing first.text one.text first.each one.is;
  gained = one.gained ∙ ap (λ (l : List ℕ). l ++ one.text) first.gained ∙ append_assoc old first.text one.text;
}

-- one element of a list more
pub each_item : {A : Type 0} (Is : A → List ℕ → Type 0) (things : List A) (place : ℕ) (thing : A) (old mid new : List ℕ)
    → place < length things → get_or things place thing ≡ thing → GainsEach Is (take place things) old mid
    → GainsOne (Is thing) mid new → GainsEach Is (take (place + 1) things) old new
each_item {A} Is things place thing old mid new less item first one =
    subst (λ (l : List A). GainsEach Is l old new)
    (sym (take_more things place thing less ∙ ap (λ (a : A). take place things ++ a ∷ []) item))
    (each_more Is (take place things) thing old mid new first one)

map_same : (xs : List ℕ) → map (λ (n : ℕ). n) xs ≡ xs
map_same [] = refl
map_same (x ∷ xs) = ap (λ (l : List ℕ). x ∷ l) (map_same xs)

pub numbers_more : (from count : ℕ) → range_with_len from (count + 1) ≡ range_with_len from count ++ (from + count) ∷ []
numbers_more from count =
    sym (map_same (range_with_len from (count + 1)))
    ∙ map-range_with_len_more (λ (n : ℕ). n) from count (from + count) refl
    ∙ ap (λ (l : List ℕ). l ++ (from + count) ∷ []) (map_same (range_with_len from count))

-- a word for each number of a range
pub range_none : (word : ℕ → List ℕ) (old : List ℕ) → old ≡ old ++ flat_map word (range_with_len 1 0)
range_none word old = sym (append-nil old)

pub range_more : (word : ℕ → List ℕ) (old mid new : List ℕ) (count : ℕ) → mid ≡ old ++ flat_map word (range_with_len 1 count)
    → new ≡ mid ++ word (count + 1) → new ≡ old ++ flat_map word (range_with_len 1 (count + 1))
range_more word old mid new count before one =
    one ∙ ap (λ (l : List ℕ). l ++ word (count + 1)) before
    ∙ flat_map_more word old (range_with_len 1 count) (count + 1)
    ∙ ap (λ (l : List ℕ). old ++ flat_map word l)
    (ap (λ (n : ℕ). range_with_len 1 count ++ n ∷ []) (omega arith) ∙ sym (numbers_more 1 count))

-- one number more
pub each_number : (Is : ℕ → List ℕ → Type 0) (count : ℕ) (old mid new : List ℕ) → GainsEach Is (range_with_len 1 count) old mid
    → GainsOne (Is (count + 1)) mid new → GainsEach Is (range_with_len 1 (count + 1)) old new
each_number Is count old mid new first one =
    subst (λ (l : List ℕ). GainsEach Is l old new)
    (sym (numbers_more 1 count ∙ ap (λ (n : ℕ). range_with_len 1 count ++ n ∷ []) (omega arith)))
    (each_more Is (range_with_len 1 count) (count + 1) old mid new first one)
