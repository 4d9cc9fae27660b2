-- What has come to a total since its group began, as the cards of a deck come and its groups end.
use Rattle.std.proofs.Common.{◌≡◌, ◌∙◌, refl, sym, ap, ℕ, zero, suc, ◌+◌, ◌≤◌, ◌<◌, nat_le, Bool, true, false, List, [], ◌∷◌, ◌++◌, length, if◌then◌else◌, append-nil, append_assoc, arith}
use Rattle.std.proofs.lemmas.Bool.{both_ways}
use Rattle.std.proofs.lemmas.Bool.Decides.{nat_tests}
use Rattle.std.proofs.lemmas.Int.{ints}
use Rattle.std.proofs.lemmas.List.{length-append}
use Rattle.chart_lines.specs.declared.charts.chart.Line.{Line}
use Rattle.chart_lines.specs.declared.charts.statement.Field.{Field}
use Rattle.report_definition.proofs.GroupLaws.{cards_in, total-append}
use Rattle.report_definition.specs.Breaks.{cleared, highest, no_cards, taking}
use Rattle.report_definition.specs.Groups.{cards_of, groups_in}
use Rattle.report_definition.specs.Totals.{total_of}
use Rattle.proof_laws.proofs.LedgerAmounts.Inside.{Grows, begins, break-differs, break-same, goes_on, grows-inside, one-inside}
use Rattle.proof_laws.specs.LedgerAmounts.Postings.{Posting, card_posting, card_postings, group_posting, group_postings, postings_of, sum_of}

-- the groups of a level inside a group, and none if it has no card
abbrev pub inside : List Line → (level under : ℕ) → List (List ℕ) → List (List (List ℕ))
inside lines level under [] = []
inside lines level under (card ∷ cards) = groups_in lines level under (card ∷ cards)

-- a group that has begun
abbrev pub opened : List (List ℕ) → List (List (List ℕ))
opened [] = []
opened (card ∷ cards) = (card ∷ cards) ∷ []

-- The groups of a lower level that have ended inside a group, before one that goes on, and what came by them.
pub record Came (lines : List Line) (field : Field) (under level : ℕ) (group inner : List (List ℕ)) (before : ℕ) (told : List Posting) :
    Type 0 where
  pub parts : List (List (List ℕ))
  pub told_is : told ≡ group_postings field under before parts
  pub cut : inside lines level under group ≡ parts ++ opened inner

-- what has come to the total of a level behind so many cards, by the group of the level that goes on, and that of the next lower total
abbrev pub IsCome : List Line → Field → (under level : ℕ) → (group inner : List (List ℕ)) → (before : ℕ) → List Posting → Type 0
IsCome lines field zero level group inner before told = told ≡ card_postings field before group
IsCome lines field (suc under) level group inner before told = Came lines field (suc under) level group inner before told

-- What has come to the total of a level, where so many cards were seen.
pub record IsTold (lines : List Line) (field : Field) (under level : ℕ) (group inner : List (List ℕ)) (seen : List (List ℕ))
    (told : List Posting) : Type 0 where
  pub front : List (List ℕ)
  pub cards : seen ≡ front ++ group
  pub come : IsCome lines field under level group inner (length front) told

-- how groups that go on stand before a card: it is the first one, or the groups of the levels up to a break before it have ended
pub data Follows (lines : List Line) (card : List ℕ) : (ℕ → List (List ℕ)) → Type 0 where
  first : Follows lines card no_cards
  next : (prev : List ℕ) (groups : ℕ → List (List ℕ)) → Follows lines card (cleared (highest lines prev card) (taking prev groups))

inside-last : (lines : List Line) (level under : ℕ) (cards : List (List ℕ)) (card : List ℕ)
    → inside lines level under (cards ++ (card ∷ [])) ≡ groups_in lines level under (cards ++ (card ∷ []))
inside-last lines level under [] card = refl
inside-last lines level under (one ∷ cards) card = refl

opened-last : (cards : List (List ℕ)) (card : List ℕ) → opened (cards ++ (card ∷ [])) ≡ (cards ++ (card ∷ [])) ∷ []
opened-last [] card = refl
opened-last (one ∷ cards) card = refl

-- lists that end
snoc-empty : {X : Type 0} (x : X) (xs : List X) → xs ++ (x ∷ []) ≡ [] → ⊥
snoc-empty x [] same = cc
snoc-empty x (y ∷ ys) same = cc

snoc-same : {X : Type 0} (one other : List X) (x y : X) → one ++ (x ∷ []) ≡ other ++ (y ∷ []) → (one ≡ other) × (x ≡ y)
snoc-same [] [] x y same = (refl, cc)
snoc-same [] (b ∷ other) x y same = let rest : other ++ (y ∷ []) ≡ [] = cc in absurd (snoc-empty y other rest)
snoc-same (a ∷ one) [] x y same = let rest : one ++ (x ∷ []) ≡ [] = cc in absurd (snoc-empty x one rest)
snoc-same {X} (a ∷ one) (b ∷ other) x y same =
    let heads : a ≡ b = cc in
    let rest : one ++ (x ∷ []) ≡ other ++ (y ∷ []) = cc in
    let more = snoc-same one other x y rest in
    ((λ i. heads i ∷ more.0 i), more.1)

no-parts : (parts more : List (List (List ℕ))) → [] ≡ parts ++ more → parts ≡ []
no-parts [] more same = refl
no-parts (part ∷ parts) more same = cc

-- cards and groups that come last
card-last : (field : Field) (before : ℕ) (cards : List (List ℕ)) (card : List ℕ)
    → card_postings field before (cards ++ (card ∷ [])) ≡ card_postings field before cards ++ (card_posting field (before + length cards + 1) card ∷ [])
card-last field before [] card =
    let same : before + 1 ≡ before + 0 + 1 = omega arith in ap (λ n. card_posting field n card ∷ []) same
card-last field before (one ∷ cards) card =
    let same : before + 1 + length cards + 1 ≡ before + suc (length cards) + 1 = omega arith in
    ap (λ l. card_posting field (before + 1) one ∷ l)
    (card-last field (before + 1) cards card
    ∙ ap (λ n. card_postings field (before + 1) cards ++ (card_posting field n card ∷ [])) same)

group-last : (field : Field) (under before : ℕ) (groups : List (List (List ℕ))) (group : List (List ℕ))
    → group_postings field under before (groups ++ (group ∷ []))
    ≡ group_postings field under before groups ++ (group_posting field under (before + length (cards_of groups) + length group) group ∷ [])
group-last field under before [] group =
    let same : before + length group ≡ before + 0 + length group = omega arith in
    ap (λ n. group_posting field under n group ∷ []) same
group-last field under before (one ∷ groups) group =
    let long = length-append one (cards_of groups) in
    let same : before + length one + length (cards_of groups) + length group ≡ before + length (one ++ cards_of groups) + length group
    = omega (arith, long) in
    ap (λ l. group_posting field under (before + length one) one ∷ l)
    (group-last field under (before + length one) groups group
    ∙ ap (λ n. group_postings field under (before + length one) groups ++ (group_posting field under n group ∷ [])) same)

cards_of-last : (groups : List (List (List ℕ))) (group : List (List ℕ)) → cards_of (groups ++ (group ∷ [])) ≡ cards_of groups ++ group
cards_of-last [] group = append-nil group
cards_of-last (one ∷ groups) group =
    ap (λ l. one ++ l) (cards_of-last groups group) ∙ sym (append_assoc one (cards_of groups) group)

cards-inside : (lines : List Line) (level under : ℕ) (group : List (List ℕ)) → cards_of (inside lines level under group) ≡ group
cards-inside lines level under [] = refl
cards-inside lines level under (card ∷ cards) = cards_in lines level under (card ∷ cards)

-- before the first card
pub told-first : (lines : List Line) (field : Field) (under level : ℕ) → IsTold lines field under level [] [] [] []
told-first lines field zero level = record { front = []; cards = refl; come = refl }
told-first lines field (suc under) level =
    record { front = []; cards = refl; come = record { parts = []; told_is = refl; cut = refl } }

-- a card goes into the lowest total
pub told-lowest : (lines : List Line) (field : Field) (level : ℕ) (group inner more seen : List (List ℕ)) (card : List ℕ)
    (told : List Posting) → IsTold lines field 0 level group inner seen told
    → IsTold lines field 0 level (group ++ (card ∷ [])) more (seen ++ (card ∷ []))
    (told ++ (card_posting field (length seen + 1) card ∷ []))
told-lowest lines field level group inner more seen card told is =
    let long : length seen ≡ length is.front + length group = ap length is.cards ∙ length-append is.front group in
    let same : length is.front + length group + 1 ≡ length seen + 1 = omega (arith, long) in
    record {
      front = is.front;
      cards = ap (λ l. l ++ (card ∷ [])) is.cards ∙ append_assoc is.front group (card ∷ []);
      come = (λ i. is.come i ++ (card_posting field (sym same i) card ∷ []))
          ∙ sym (card-last field (length is.front) group card);
    }

-- a card that comes after a break
module _ (lines : List Line) (field : Field) (under level : ℕ) (card : List ℕ) (some : 1 ≤ under) (less : under < level)
    (most : level ≤ 4) where
  -- it begins a group in an empty one
  come-first : (before : ℕ) (told : List Posting) → Came lines field under level [] [] before told
      → Came lines field under level (card ∷ []) (card ∷ []) before told
  come-first before told came =
      let none = no-parts came.parts [] came.cut in
      record {
        parts = came.parts;
        told_is = came.told_is;
        cut = one-inside lines level under card (omega (arith, less)) ∙ ap (λ l. l ++ ((card ∷ []) ∷ [])) (sym none);
      }

  module _ (prev : List ℕ) (front : List (List ℕ)) (over : highest lines prev card < level) where
    abbrev old : List (List ℕ)
    old = front ++ (prev ∷ [])

    grows : Grows prev card (nat_le under (highest lines prev card)) (groups_in lines level under (front ++ (prev ∷ [])))
        (groups_in lines level under ((front ++ (prev ∷ [])) ++ (card ∷ [])))
    grows =
        grows-inside lines (highest lines prev card) prev card (λ at high low. break-same lines 3 prev card at high low)
        (λ at. break-differs lines 3 prev card at) level under front some (omega (arith, less)) most over

    -- it begins one in a group that goes on
    come-begins : (before : ℕ) (told : List Posting) → nat_le under (highest lines prev card) ≡ true
        → Came lines field under level (front ++ (prev ∷ [])) [] before told
        → Came lines field under level ((front ++ (prev ∷ [])) ++ (card ∷ [])) (card ∷ []) before told
    come-begins before told broken came = record { parts = came.parts; told_is = came.told_is; cut = by broken grows }
      where
        by : {b : Bool} → b ≡ true
            → Grows prev card b (groups_in lines level under (front ++ (prev ∷ []))) (groups_in lines level under ((front ++ (prev ∷ [])) ++ (card ∷ [])))
            → inside lines level under ((front ++ (prev ∷ [])) ++ (card ∷ [])) ≡ came.parts ++ ((card ∷ []) ∷ [])
        by on (begins is is_new) =
            inside-last lines level under (front ++ (prev ∷ [])) card ∙ is_new
            ∙ ap (λ l. l ++ ((card ∷ []) ∷ [])) (sym (inside-last lines level under front prev) ∙ came.cut ∙ append-nil came.parts)
        by on (goes_on init last is is_old is_new) = absurd (both_ways _ is on)

    -- it goes on with the last one
    come-goes : (inner : List (List ℕ)) (before : ℕ) (told : List Posting) → nat_le under (highest lines prev card) ≡ false
        → Came lines field under level (front ++ (prev ∷ [])) (inner ++ (prev ∷ [])) before told
        → Came lines field under level ((front ++ (prev ∷ [])) ++ (card ∷ [])) ((inner ++ (prev ∷ [])) ++ (card ∷ [])) before told
    come-goes inner before told unbroken came = record { parts = came.parts; told_is = came.told_is; cut = by unbroken grows }
      where
        by : {b : Bool} → b ≡ false
            → Grows prev card b (groups_in lines level under (front ++ (prev ∷ []))) (groups_in lines level under ((front ++ (prev ∷ [])) ++ (card ∷ [])))
            → inside lines level under ((front ++ (prev ∷ [])) ++ (card ∷ []))
            ≡ came.parts ++ opened ((inner ++ (prev ∷ [])) ++ (card ∷ []))
        by off (begins is is_new) = absurd (both_ways _ off is)
        by off (goes_on init last is is_old is_new) =
            let both = snoc-same came.parts init (inner ++ (prev ∷ [])) (last ++ (prev ∷ []))
            (sym (sym (inside-last lines level under front prev) ∙ came.cut ∙ ap (λ l. came.parts ++ l) (opened-last inner prev)) ∙ is_old) in
            inside-last lines level under (front ++ (prev ∷ [])) card ∙ is_new
            ∙ (λ i. sym both.0 i ++ ((sym both.1 i ++ (card ∷ [])) ∷ []))
            ∙ ap (λ l. came.parts ++ l) (sym (opened-last (inner ++ (prev ∷ [])) card))

  -- however groups stand before it
  come-card : {so_far : ℕ → List (List ℕ)} → Follows lines card so_far → (before : ℕ) (told : List Posting)
      → Came lines field under level (so_far level) (so_far under) before told
      → Came lines field under level (so_far level ++ (card ∷ [])) (so_far under ++ (card ∷ [])) before told
  come-card first before told came = come-first before told came
  come-card (next prev groups) before told came =
      by (nat_le level (highest lines prev card)) refl (nat_le under (highest lines prev card)) refl came
    where
      by : (a : Bool) → nat_le level (highest lines prev card) ≡ a → (b : Bool) → nat_le under (highest lines prev card) ≡ b
          → Came lines field under level (if a then [] else (groups level ++ (prev ∷ []))) (if b then [] else (groups under ++ (prev ∷ []))) before told
          → Came lines field under level ((if a then [] else (groups level ++ (prev ∷ []))) ++ (card ∷ []))
          ((if b then [] else (groups under ++ (prev ∷ []))) ++ (card ∷ [])) before told
      by true ended true broken here = come-first before told here
      by true ended false unbroken here = absurd (grind (arith, nat_tests, ended, unbroken, less))
      by false goes true broken here = come-begins prev (groups level) (grind (arith, nat_tests, goes)) before told broken here
      by false goes false unbroken here =
          come-goes prev (groups level) (grind (arith, nat_tests, goes)) (groups under) before told unbroken here

-- a card comes, and nothing by it, if there is a lower total
pub told-higher : (lines : List Line) (field : Field) (under level : ℕ) (so_far : ℕ → List (List ℕ)) (seen : List (List ℕ))
    (card : List ℕ) (told : List Posting) → suc under < level → level ≤ 4 → Follows lines card so_far
    → IsTold lines field (suc under) level (so_far level) (so_far (suc under)) seen told
    → IsTold lines field (suc under) level (so_far level ++ (card ∷ [])) (so_far (suc under) ++ (card ∷ [])) (seen ++ (card ∷ [])) told
told-higher lines field under level so_far seen card told less most follows is = record {
  front = is.front;
  cards = ap (λ l. l ++ (card ∷ [])) is.cards ∙ append_assoc is.front (so_far level) (card ∷ []);
  come = come-card lines field (suc under) level card (omega arith) less most follows (length is.front) told is.come;
}

-- the group of a level ends, and the next one begins with nothing
pub told-ended : (lines : List Line) (field : Field) (under level : ℕ) (seen : List (List ℕ))
    → IsTold lines field under level [] [] seen []
told-ended lines field zero level seen = record { front = seen; cards = sym (append-nil seen); come = refl }
told-ended lines field (suc under) level seen = record {
  front = seen;
  cards = sym (append-nil seen);
  come = record { parts = []; told_is = refl; cut = refl };
}

-- the group of the next lower total ends, and its total comes
pub told-group : (lines : List Line) (field : Field) (under level : ℕ) (group inner : List (List ℕ)) (card : List ℕ)
    (seen : List (List ℕ)) (told : List Posting) → IsTold lines field (suc under) level group (inner ++ (card ∷ [])) seen told
    → IsTold lines field (suc under) level group [] seen
    (told ++ (group_posting field (suc under) (length seen) (inner ++ (card ∷ [])) ∷ []))
told-group lines field under level group inner card seen told is =
    let parts : List (List (List ℕ)) = is.come.parts in
    let cut : inside lines level (suc under) group ≡ parts ++ ((inner ++ (card ∷ [])) ∷ [])
    = is.come.cut ∙ ap (λ l. parts ++ l) (opened-last inner card) in
    let whole : group ≡ cards_of parts ++ (inner ++ (card ∷ []))
    = sym (cards-inside lines level (suc under) group) ∙ ap cards_of cut ∙ cards_of-last parts (inner ++ (card ∷ [])) in
    let long : length seen ≡ length is.front + length group = ap length is.cards ∙ length-append is.front group in
    let inner_long : length group ≡ length (cards_of parts) + length (inner ++ (card ∷ []))
    = ap length whole ∙ length-append (cards_of parts) (inner ++ (card ∷ [])) in
    let same : length is.front + length (cards_of parts) + length (inner ++ (card ∷ [])) ≡ length seen = omega (arith, long, inner_long) in
    record {
      front = is.front;
      cards = is.cards;
      come = record {
        parts = parts ++ ((inner ++ (card ∷ [])) ∷ []);
        told_is = (λ i. is.come.told_is i ++ (group_posting field (suc under) (sym same i) (inner ++ (card ∷ [])) ∷ []))
            ∙ sym (group-last field (suc under) (length is.front) parts (inner ++ (card ∷ [])));
        cut = cut ∙ sym (append-nil (parts ++ ((inner ++ (card ∷ [])) ∷ [])));
      };
    }

-- what has come when the group of a level is over
pub told-all : (lines : List Line) (field : Field) (under level : ℕ) (group : List (List ℕ)) (card : List ℕ) (inner seen : List (List ℕ))
    (told : List Posting) → (1 ≤ under → inner ≡ [])
    → (is : IsTold lines field under level (group ++ (card ∷ [])) inner seen told)
    → told ≡ postings_of lines field under level (length is.front) (group ++ (card ∷ []))
told-all lines field zero level group card inner seen told over is = is.come
told-all lines field (suc under) level group card inner seen told over is =
    let none : inner ≡ [] = over (omega arith) in
    let all : inside lines level (suc under) (group ++ (card ∷ [])) ≡ is.come.parts
    = is.come.cut ∙ ap (λ l. is.come.parts ++ opened l) none ∙ append-nil is.come.parts in
    is.come.told_is
    ∙ ap (group_postings field (suc under) (length is.front))
    (sym (sym (inside-last lines level (suc under) group card) ∙ all))

-- it adds up
cards-sum : (field : Field) (before : ℕ) (cards : List (List ℕ)) → sum_of (card_postings field before cards) ≡ total_of field cards
cards-sum field before [] = refl
cards-sum field before (card ∷ cards) = let more = cards-sum field (before + 1) cards in omega (arith, ints, more)

groups-sum : (field : Field) (under before : ℕ) (groups : List (List (List ℕ)))
    → sum_of (group_postings field under before groups) ≡ total_of field (cards_of groups)
groups-sum field under before [] = refl
groups-sum field under before (group ∷ groups) =
    let more = groups-sum field under (before + length group) groups in
    let both = total-append field group (cards_of groups) in
    omega (arith, ints, more, both)

pub postings-sum : (lines : List Line) (field : Field) (under level before : ℕ) (group : List (List ℕ))
    → sum_of (postings_of lines field under level before group) ≡ total_of field group
postings-sum lines field zero level before group = cards-sum field before group
postings-sum lines field (suc under) level before group =
    groups-sum field (suc under) before (groups_in lines level (suc under) group)
    ∙ ap (total_of field) (cards_in lines level (suc under) group)
