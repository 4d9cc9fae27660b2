-- A token is the name of a hub exactly where it is read as one.
use Rattle.std.proofs.Common.{◌≡◌, ℕ, true, not, leb, List, [], ◌∷◌, ◌++◌, Some, refl, ap, sym, ◌∙◌, subst, arith, append-nil, append_assoc}
use Rattle.std.proofs.lemmas.Bool.{and_parts, and_from, leb-true, ne_eqb}
use Rattle.std.proofs.lemmas.Option.{none-some, same_Some}
use Rattle.std.specs.Char.{is_ascii_digit}
use Rattle.std.specs.List.{slice_split, list_all}
use Rattle.hubs.specs.HubTable.HubTable.{row_of}
use Rattle.hubs.specs.HubTable.Places.{has_as_many}
use Rattle.hubs.specs.declared.hub_table.shape.Numbers.{Numbers}
use Rattle.hubs.specs.declared.hub_table.shape.Numbers.TheVariants.{Bare, One, Two, Three}
use Rattle.chart_lines.specs.TokensWords.Number.{IsNumber}
use Rattle.chart_lines.specs.TokensWords.NumberReading.{number_of}
use Rattle.chart_lines.proofs.TokensWords.NumberGrammar.{number_is, number_read}
use Rattle.chart_lines.proofs.TokensWords.Steps.{bound, granted}
use Rattle.wiring_text.specs.HubNames.{IsGroup, IsPointed, IsDotted, bare, one, two, three, IsHubName}
use Rattle.wiring_text.specs.WiringReader.Reading.{is_point, letters_spelled, numbers_spelled, numbers_from_one, numbers_from_two, numbers_from_three, name_of_pieces, name_spelled}
use Rattle.wiring_text.specs.declared.statement.HubName.{HubName}
use Rattle.wiring_text.proofs.WiringReader.LetterReading.{no_point, letters_is, letters_read, letters_plain}
use Rattle.wiring_text.proofs.WiringReader.NamePieces.{dotted, joined, joined_pieces, split_alone, split_after}

-- no point stands in a number
plain_digit : (b : ℕ) → is_ascii_digit b ≡ true → no_point b ≡ true
plain_digit b digit =
    let p = and_parts (leb 48 b) (leb b 57) digit in
    ap not (ne_eqb b 46 (λ e. absurd (omega (arith, e, leb-true 48 b p.0))))

plain_digits : (digits : List ℕ) → list_all is_ascii_digit digits ≡ true → list_all no_point digits ≡ true
plain_digits [] all = refl
plain_digits (b ∷ bs) all =
    let p = and_parts (is_ascii_digit b) (list_all is_ascii_digit bs) all in
    and_from _ _ (plain_digit b p.0) (plain_digits bs p.1)

-- a number after a point
pointed_is : (digits : List ℕ) (n : ℕ) → number_of digits ≡ Some n → IsPointed (46 ∷ digits) n
pointed_is digits n read = record { digits = digits; spelled = refl; value = number_is digits n read }

-- what pieces spell is what stands after points
two_is : (l m : ℕ) (a b : List ℕ) (numbers : Numbers) (pieces : List (List ℕ)) → number_of a ≡ Some l → number_of b ≡ Some m
    → numbers_from_two l m pieces ≡ Some numbers → IsDotted (dotted (a ∷ b ∷ pieces)) numbers
two_is l m a b numbers [] la mb read =
    subst (IsDotted (dotted (a ∷ b ∷ []))) (same_Some (Two l m) numbers read)
    (subst (λ (s : List ℕ). IsDotted ((46 ∷ a) ++ 46 ∷ s) (Two l m)) (sym (append-nil b))
    (two (pointed_is a l la) (pointed_is b m mb)))
two_is l m a b numbers (c ∷ []) la mb read =
    let n = bound (number_of c) _ numbers read in
    subst (IsDotted (dotted (a ∷ b ∷ c ∷ []))) (same_Some (Three l m n.0) numbers n.2)
    (subst (λ (s : List ℕ). IsDotted s (Three l m n.0))
    (append_assoc (46 ∷ a) (46 ∷ b) (46 ∷ c) ∙ ap (λ s. 46 ∷ (a ++ 46 ∷ (b ++ 46 ∷ s))) (sym (append-nil c)))
    (three (pointed_is a l la) (pointed_is b m mb) (pointed_is c n.0 n.1)))
two_is l m a b numbers (c ∷ d ∷ pieces) la mb read =
    let n = bound (number_of c) _ numbers read in
    let none : numbers_from_three l m n.0 (d ∷ pieces) ≡ Some numbers = n.2 in
    cc

one_is : (l : ℕ) (a : List ℕ) (numbers : Numbers) (pieces : List (List ℕ)) → number_of a ≡ Some l
    → numbers_from_one l pieces ≡ Some numbers → IsDotted (dotted (a ∷ pieces)) numbers
one_is l a numbers [] la read =
    subst (IsDotted (dotted (a ∷ []))) (same_Some (One l) numbers read)
    (subst (λ (s : List ℕ). IsDotted (46 ∷ s) (One l)) (sym (append-nil a)) (one (pointed_is a l la)))
one_is l a numbers (b ∷ pieces) la read =
    let m = bound (number_of b) _ numbers read in
    two_is l m.0 a b numbers pieces la m.1 m.2

numbers_is : (pieces : List (List ℕ)) (numbers : Numbers) → numbers_spelled pieces ≡ Some numbers
    → IsDotted (dotted pieces) numbers
numbers_is [] numbers read = subst (IsDotted []) (same_Some Bare numbers read) bare
numbers_is (a ∷ pieces) numbers read =
    let l = bound (number_of a) _ numbers read in
    one_is l.0 a numbers pieces l.1 l.2

-- a token that is read as a name is one
pieces_is : (token : List ℕ) (name : HubName) (pieces : List (List ℕ)) → joined pieces ≡ token
    → name_of_pieces pieces ≡ Some name → IsHubName token name
pieces_is token name [] same read = cc
pieces_is token name (spelled ∷ pieces) same read =
    let l = bound (letters_spelled spelled) _ name read in
    let n = bound (numbers_spelled pieces) _ name l.2 in
    let fits = granted (has_as_many (row_of l.0).shape n.0) _ name n.2 in
    let is : HubName = record { letters = l.0; numbers = n.0 } in
    subst (IsHubName token) (same_Some is name fits.1)
    (record {
      dotted = dotted pieces;
      spelled = sym same ∙ ap (λ (s : List ℕ). s ++ dotted pieces) (sym (letters_is spelled l.0 l.1));
      numbers = numbers_is pieces n.0 n.1;
      as_many = fits.0;
    })

pub name_is : (token : List ℕ) (name : HubName) → name_spelled token ≡ Some name → IsHubName token name
unfolding name_spelled
name_is token name read = pieces_is token name (slice_split is_point token) (joined_pieces token) read

-- the pieces of plain bytes, and what is read of them, where numbers stand after points
record FallsInto (bytes : List ℕ) (numbers : Numbers) : Type 0 where
  pieces : List (List ℕ)
  falls : (plain : List ℕ) → list_all no_point plain ≡ true → slice_split is_point (plain ++ bytes) ≡ plain ∷ pieces
  read : numbers_spelled pieces ≡ Some numbers

plain_number : (digits : List ℕ) (n : ℕ) → IsNumber digits n → list_all no_point digits ≡ true
plain_number digits n is = plain_digits digits is.digits

falls_into : {bytes : List ℕ} {numbers : Numbers} → IsDotted bytes numbers → FallsInto bytes numbers
falls_into bare = record {
  pieces = [];
  falls = λ plain all. ap (slice_split is_point) (append-nil plain) ∙ split_alone plain all;
  read = refl;
}
falls_into (one {n} is) = record {
  pieces = is.digits ∷ [];
  falls = λ plain all. rw is.spelled
      (split_after plain is.digits all ∙ ap (λ ps. plain ∷ ps) (split_alone is.digits (plain_number is.digits n is.value)));
  read = rw (number_read is.digits n is.value) refl;
}
falls_into (two {m} {n} is also) = record {
  pieces = is.digits ∷ also.digits ∷ [];
  falls = λ plain all. rw (is.spelled, also.spelled)
      (split_after plain (is.digits ++ 46 ∷ also.digits) all
      ∙ ap (λ ps. plain ∷ ps) (split_after is.digits also.digits (plain_number is.digits m is.value)
      ∙ ap (λ ps. is.digits ∷ ps) (split_alone also.digits (plain_number also.digits n also.value))));
  read = rw (number_read is.digits m is.value, number_read also.digits n also.value) refl;
}
falls_into (three {l} {m} {n} is also last) = record {
  pieces = is.digits ∷ also.digits ∷ last.digits ∷ [];
  falls = λ plain all. rw (is.spelled, also.spelled, last.spelled)
      (split_after plain ((is.digits ++ 46 ∷ also.digits) ++ 46 ∷ last.digits) all
      ∙ ap (λ s. plain ∷ slice_split is_point s) (append_assoc is.digits (46 ∷ also.digits) (46 ∷ last.digits))
      ∙ ap (λ ps. plain ∷ ps) (split_after is.digits (also.digits ++ 46 ∷ last.digits) (plain_number is.digits l is.value)
      ∙ ap (λ ps. is.digits ∷ ps) (split_after also.digits last.digits (plain_number also.digits m also.value)
      ∙ ap (λ ps. also.digits ∷ ps) (split_alone last.digits (plain_number last.digits n last.value)))));
  read = rw (number_read is.digits l is.value, number_read also.digits m also.value, number_read last.digits n last.value)
      refl;
}

-- a name is read
pub name_read : (token : List ℕ) (name : HubName) → IsHubName token name → name_spelled token ≡ Some name
unfolding name_spelled
name_read token name is =
    let f = falls_into is.numbers in
    ap (λ t. name_of_pieces (slice_split is_point t)) is.spelled
    ∙ ap name_of_pieces (f.falls (row_of name.letters).spelled (letters_plain name.letters))
    ∙ (rw (letters_read name.letters, f.read, is.as_many) refl)

-- the numbers of a counter group
pair_from_two : (l m w n : ℕ) (pieces : List (List ℕ)) → numbers_from_two l m pieces ≡ Some (Two w n)
    → (pieces ≡ []) × (l ≡ w) × (m ≡ n)
pair_from_two l m w n [] read = (refl, ap first_of same, ap second_of same)
  where
    first_of : Numbers → ℕ
    first_of (Two a b) = a
    first_of other = 0

    second_of : Numbers → ℕ
    second_of (Two a b) = b
    second_of other = 0

    same : Two l m ≡ Two w n
    same = same_Some (Two l m) (Two w n) read
pair_from_two l m w n (c ∷ pieces) read = absurd (no_pair pieces (bound (number_of c) _ (Two w n) read))
  where
    no_pair : (pieces : List (List ℕ)) → (k : ℕ) × (number_of c ≡ Some k) × (numbers_from_three l m k pieces ≡ Some (Two w n)) → ⊥
    no_pair [] found = clash (same_Some (Three l m found.0) (Two w n) found.2)
      where
        clash : Three l m found.0 ≡ Two w n → ⊥
        clash e = cc
    no_pair (d ∷ ds) found = none-some (Two w n) found.2

pair_is : (group : List ℕ) (w n : ℕ) (pieces : List (List ℕ)) → joined pieces ≡ group → numbers_spelled pieces ≡ Some (Two w n)
    → IsGroup group w n
pair_is group w n [] same read = absurd (clash (same_Some Bare (Two w n) read))
  where
    clash : Bare ≡ Two w n → ⊥
    clash e = cc
pair_is group w n (a ∷ []) same read =
    let l = bound (number_of a) _ (Two w n) read in
    absurd (clash l.0 (same_Some (One l.0) (Two w n) l.2))
  where
    clash : (l : ℕ) → One l ≡ Two w n → ⊥
    clash l e = cc
pair_is group w n (a ∷ b ∷ pieces) same read =
    let l = bound (number_of a) _ (Two w n) read in
    let m = bound (number_of b) _ (Two w n) l.2 in
    let pair = pair_from_two l.0 m.0 w n pieces m.2 in
    record {
      digits = a;
      after = 46 ∷ b;
      spelled = sym same ∙ ap (λ (ps : List (List ℕ)). a ++ 46 ∷ (b ++ dotted ps)) pair.0 ∙ ap (λ (s : List ℕ). a ++ 46 ∷ s) (append-nil b);
      wide = subst (IsNumber a) pair.1 (number_is a l.0 l.1);
      numbered = record { digits = b; spelled = refl; value = subst (IsNumber b) pair.2 (number_is b m.0 m.1) };
    }

pub group_is : (group : List ℕ) (w n : ℕ) → numbers_spelled (slice_split is_point group) ≡ Some (Two w n) → IsGroup group w n
group_is group w n read = pair_is group w n (slice_split is_point group) (joined_pieces group) read

pub group_read : (group : List ℕ) (w n : ℕ) → IsGroup group w n → numbers_spelled (slice_split is_point group) ≡ Some (Two w n)
group_read group w n is =
    ap (λ s. numbers_spelled (slice_split is_point s)) (is.spelled ∙ ap (λ (s : List ℕ). is.digits ++ s) is.numbered.spelled)
    ∙ ap numbers_spelled (split_after is.digits is.numbered.digits (plain_number is.digits w is.wide)
    ∙ ap (λ ps. is.digits ∷ ps) (split_alone is.numbered.digits (plain_number is.numbered.digits n is.numbered.value)))
    ∙ (rw (number_read is.digits w is.wide, number_read is.numbered.digits n is.numbered.value) refl)
