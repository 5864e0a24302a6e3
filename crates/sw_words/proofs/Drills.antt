-- The number of a drill stands first or last, and what is left of its words are options.
use Rattle.std.specs.Prelude.{◌<◌, length, map, ◌≡◌, ◌==◌, ◌||◌, Bool, true, false, List, [], ◌∷◌, ◌++◌, Option, None, codes, option_and_then}
use Rattle.std.specs.List.{list_all, flat_map}
use Rattle.std.specs.Str.{bytes_eq}
use Rattle.std.proofs.Common.{arith, refl, sym, ap, ◌∙◌, subst}
use Rattle.std.proofs.lemmas.List.Folds.{list_all-map}
use Rattle.std.proofs.lemmas.Bool.{true≢false, and_parts, not-true}
use Rattle.std.proofs.lemmas.List.Concat.{flat_map-append}
use Rattle.std.proofs.lemmas.Slice.Eq.{bytes_eq-Decides}
use Rattle.sw_words.specs.Grammar.{Word, Given, Piece, named, value, pieces, is_fit, is_value, may_stand, is_known, options_from, value_of, drill_of, drill_by, drill_with, space_of, alone, command_of, command_with}
use Rattle.sw_words.specs.Lines.{drill_apart}
use Rattle.sw_words.specs.declared.commands.Command.{Command}
use Rattle.sw_words.proofs.Pieces.{WordKind, word_kind}
use Rattle.sw_words.proofs.Bridge.{unknown_none}

abbrev workers : Word
workers = codes "workers"

abbrev names : List Word
names = workers ∷ []

-- ---- pieces

workers_is : (n : Word) → is_known names n ≡ true → workers ≡ n
workers_is n known = (bytes_eq-Decides workers n).0 (go (bytes_eq workers n) known)
  where
    go : (x : Bool) → (x || false) ≡ true → x ≡ true
    go true e = refl
    go false e = e

-- a second option is a repeat, or not known
second_none : (v : Word) (rest : List Piece) (x : Piece) → options_from names ((workers, v) ∷ []) (x ∷ rest) ≡ None
second_none v rest (value u) = refl
second_none v rest (named m) = go (is_known names m) refl
  where
    twice : (ps : List Piece) → options_from names ((workers, v) ∷ []) (named workers ∷ ps) ≡ None
    twice [] = refl
    twice (named k ∷ ps) = refl
    twice (value u ∷ ps) = refl

    go : (x : Bool) → is_known names m ≡ x → options_from names ((workers, v) ∷ []) (named m ∷ rest) ≡ None
    go false unknown = unknown_none names ((workers, v) ∷ []) m rest unknown
    go true known = subst (λ k. options_from names ((workers, v) ∷ []) (named k ∷ rest) ≡ None) (workers_is m known) (twice rest)

more_none : (n v : Word) (x : Piece) (rest : List Piece) → options_from names [] (named n ∷ value v ∷ x ∷ rest) ≡ None
more_none n v x rest = go (is_known names n) refl
  where
    go : (y : Bool) → is_known names n ≡ y → options_from names [] (named n ∷ value v ∷ x ∷ rest) ≡ None
    go false unknown = unknown_none names [] n (value v ∷ x ∷ rest) unknown
    go true known = subst (λ k. options_from names [] (named k ∷ value v ∷ x ∷ rest) ≡ None) (workers_is n known) (second_none v rest x)

abbrev then_drill : Word → Option Given → Option Command
then_drill number o = option_and_then (λ given. drill_with number (value_of given workers)) o

one_option : (number n v : Word) → drill_by number n v ≡ then_drill number (options_from names [] (named n ∷ value v ∷ []))
one_option number n v = go (bytes_eq workers n) refl
  where
    go : (x : Bool) → bytes_eq workers n ≡ x → drill_by number n v ≡ then_drill number (options_from names [] (named n ∷ value v ∷ []))
    go true same = subst (λ k. drill_by number k v ≡ then_drill number (options_from names [] (named k ∷ value v ∷ []))) ((bytes_eq-Decides workers n).0 same) refl
    go false other = rw other refl

-- the number stands first
drill_first : (number : Word) (ps : List Piece) → drill_of (value number ∷ ps) ≡ drill_apart number ps
drill_first number [] = refl
drill_first number (value v ∷ ps) = refl
drill_first number (named n ∷ []) = refl
drill_first number (named n ∷ named m ∷ ps) = refl
drill_first number (named n ∷ value v ∷ []) = one_option number n v
drill_first number (named n ∷ value v ∷ x ∷ ps) = sym (ap (then_drill number) (more_none n v x ps))

-- the number stands last, behind an option
drill_last : (number n : Word) (ps : List Piece) → drill_of (named n ∷ (ps ++ value number ∷ [])) ≡ drill_apart number (named n ∷ ps)
drill_last number n [] = refl
drill_last number n (named m ∷ ps) = refl
drill_last number n (value v ∷ []) = one_option number n v
drill_last number n (value v ∷ named m ∷ ps) = sym (ap (then_drill number) (more_none n v (named m) ps))
drill_last number n (value v ∷ value u ∷ []) = sym (ap (then_drill number) (more_none n v (value u) []))
drill_last number n (value v ∷ value u ∷ x ∷ ps) = sym (ap (then_drill number) (more_none n v (value u) (x ∷ ps)))

-- ---- words

fit_word : (w : Word) → may_stand w ≡ true → list_all is_fit (pieces w) ≡ true
fit_word w stands = (and_parts _ (list_all is_fit (pieces w)) stands).1

pub value_pieces : (w : Word) → is_value w ≡ true → pieces w ≡ value w ∷ []
value_pieces [] is = refl
value_pieces (a ∷ []) is = refl
value_pieces (a ∷ b ∷ []) is = refl
value_pieces (a ∷ b ∷ c ∷ rest) is = let other : (a == 45) ≡ false = not-true (a == 45) is in rw other refl

-- a word that is no value gives an option's name first
pub named_pieces : (w : Word) → may_stand w ≡ true → is_value w ≡ false → (n : Word) × (more : List Piece) × (pieces w ≡ named n ∷ more)
named_pieces w stands is = go (word_kind w (fit_word w stands))
  where
    go : WordKind w → (n : Word) × (more : List Piece) × (pieces w ≡ named n ∷ more)
    go (WordKind.plain long short no_dashes single) =
        let fit : list_all is_fit (value w ∷ []) ≡ true = subst (λ ps. list_all is_fit ps ≡ true) single (fit_word w stands) in
        absurd (true≢false (sym (and_parts (is_value w) true fit).0 ∙ is))
    go (WordKind.bare n long no_dashes spelled) = (n, [], spelled)
    go (WordKind.full n v long no_dashes spelled) = (n, value v ∷ [], spelled)

-- each word gives a piece
some_piece : (w : Word) → may_stand w ≡ true → (p : Piece) × (more : List Piece) × (pieces w ≡ p ∷ more)
some_piece w stands = go (is_value w) refl
  where
    go : (x : Bool) → is_value w ≡ x → (p : Piece) × (more : List Piece) × (pieces w ≡ p ∷ more)
    go true is = (value w, [], value_pieces w is)
    go false is = let found = named_pieces w stands is in (named found.0, found.1, found.2)

abbrev spelled : List Word → List Piece
spelled = flat_map pieces

stand_first : (w : Word) (ws : List Word) → list_all may_stand (w ∷ ws) ≡ true → may_stand w ≡ true
stand_first w ws stand = (and_parts (may_stand w) (list_all may_stand ws) stand).0

stand_rest : (w : Word) (ws : List Word) → list_all may_stand (w ∷ ws) ≡ true → list_all may_stand ws ≡ true
stand_rest w ws stand = (and_parts (may_stand w) (list_all may_stand ws) stand).1

spelled_more : (w : Word) (ws : List Word) (ps : List Piece) → pieces w ≡ ps → spelled (w ∷ ws) ≡ ps ++ spelled ws
spelled_more w ws ps is = ap (λ (qs : List Piece). qs ++ spelled ws) is

pub apart_first : (w : Word) (ws : List Word) → is_value w ≡ true → drill_of (spelled (w ∷ ws)) ≡ drill_apart w (spelled ws)
apart_first w ws is = ap drill_of (spelled_more w ws (value w ∷ []) (value_pieces w is)) ∙ drill_first w (spelled ws)

spelled_last : (front : List Word) (w : Word) → is_value w ≡ true → spelled (front ++ w ∷ []) ≡ spelled front ++ value w ∷ []
spelled_last front w is =
    flat_map-append pieces front (w ∷ []) ∙ ap (λ (ps : List Piece). spelled front ++ (ps ++ [])) (value_pieces w is)

-- the last word is a value, and the first is none
pub apart_last : (words front : List Word) (w first : Word) (ws : List Word) → words ≡ front ++ w ∷ [] → words ≡ first ∷ ws → list_all may_stand words ≡ true
    → is_value first ≡ false → is_value w ≡ true → drill_of (spelled words) ≡ drill_apart w (spelled front)
apart_last words [] w first ws split begins stand other is = absurd (true≢false (sym is ∙ (ap is_value (let same : w ≡ first = cc in same) ∙ other)))
apart_last words (x ∷ front) w first ws split begins stand other is =
    let same : x ≡ first = cc in
    let found = named_pieces first (stand_first first ws (ap (list_all may_stand) (sym begins) ∙ stand)) other in
    let front_is : spelled (x ∷ front) ≡ named found.0 ∷ (found.1 ++ spelled front) = spelled_more x front (named found.0 ∷ found.1) (ap pieces same ∙ found.2) in
    ap (λ ws'. drill_of (spelled ws')) split
    ∙ (ap drill_of (spelled_last (x ∷ front) w is ∙ ap (λ (ps : List Piece). ps ++ value w ∷ []) front_is)
    ∙ (drill_last w found.0 (found.1 ++ spelled front) ∙ ap (drill_apart w) (sym front_is)))

-- the last of the words is a value
abbrev ends_by_value : List Word → Bool
ends_by_value [] = false
ends_by_value (w ∷ []) = is_value w
ends_by_value (w ∷ v ∷ ws) = ends_by_value (v ∷ ws)

ends_by_value-append : (front : List Word) (w : Word) → ends_by_value (front ++ w ∷ []) ≡ is_value w
ends_by_value-append [] w = refl
ends_by_value-append (x ∷ []) w = refl
ends_by_value-append (x ∷ y ∷ front) w = ends_by_value-append (y ∷ front) w

-- behind a name and a value, something other than one value that ends the words
after_two : (n v : Word) (ws : List Word) → list_all may_stand ws ≡ true → ends_by_value ws ≡ false → drill_of (named n ∷ value v ∷ spelled ws) ≡ None
after_two n v [] stand unlike = refl
after_two n v (w ∷ []) stand unlike =
    let found = named_pieces w (stand_first w [] stand) unlike in
    ap (λ (ps : List Piece). drill_of (named n ∷ value v ∷ ps)) (spelled_more w [] (named found.0 ∷ found.1) found.2)
after_two n v (w ∷ u ∷ ws) stand unlike = go (some_piece w (stand_first w (u ∷ ws) stand)) (some_piece u (stand_first u ws (stand_rest w (u ∷ ws) stand)))
  where
    three : (p : Piece) (more : List Piece) (q : Piece) (rest : List Piece) → drill_of (named n ∷ value v ∷ p ∷ (more ++ q ∷ rest)) ≡ None
    three (named m) more q rest = refl
    three (value u') [] q rest = refl
    three (value u') (y ∷ more) q rest = refl

    go : (p : Piece) × (more : List Piece) × (pieces w ≡ p ∷ more) → (q : Piece) × (rest : List Piece) × (pieces u ≡ q ∷ rest)
        → drill_of (named n ∷ value v ∷ spelled (w ∷ u ∷ ws)) ≡ None
    go f g =
        let is : spelled (w ∷ u ∷ ws) ≡ f.0 ∷ (f.1 ++ (g.0 ∷ (g.1 ++ spelled ws))) =
        spelled_more w (u ∷ ws) (f.0 ∷ f.1) f.2 ∙ ap (λ (ps : List Piece). f.0 ∷ (f.1 ++ ps)) (spelled_more u ws (g.0 ∷ g.1) g.2) in
        ap (λ (ps : List Piece). drill_of (named n ∷ value v ∷ ps)) is ∙ three f.0 f.1 g.0 (g.1 ++ spelled ws)

after_one : (n : Word) (ws : List Word) → list_all may_stand ws ≡ true → ends_by_value ws ≡ false → drill_of (named n ∷ spelled ws) ≡ None
after_one n [] stand unlike = refl
after_one n (w ∷ ws) stand unlike = go (is_value w) refl ws refl
  where
    go : (x : Bool) → is_value w ≡ x → (us : List Word) → us ≡ ws → drill_of (named n ∷ spelled (w ∷ ws)) ≡ None
    go false is us same =
        let found = named_pieces w (stand_first w ws stand) is in
        ap (λ (ps : List Piece). drill_of (named n ∷ ps)) (spelled_more w ws (named found.0 ∷ found.1) found.2)
    go true is [] same = absurd (true≢false (sym is ∙ (ap (λ us. ends_by_value (w ∷ us)) same ∙ unlike)))
    go true is (u ∷ us) same =
        ap (λ (ps : List Piece). drill_of (named n ∷ ps)) (spelled_more w ws (value w ∷ []) (value_pieces w is))
        ∙ after_two n w ws (stand_rest w ws stand) (sym (ap ends_by_value same) ∙ (ap (λ us'. ends_by_value (w ∷ us')) same ∙ unlike))

-- neither the first word is a value nor the last
pub apart_none : (words front : List Word) (w first : Word) (ws : List Word) → words ≡ front ++ w ∷ [] → words ≡ first ∷ ws → list_all may_stand words ≡ true
    → is_value first ≡ false → is_value w ≡ false → drill_of (spelled words) ≡ None
apart_none words front w first ws split begins stand other unlike =
    let ends : ends_by_value (first ∷ ws) ≡ false = sym (ap ends_by_value begins) ∙ (ap ends_by_value split ∙ (ends_by_value-append front w ∙ unlike)) in
    let stands : list_all may_stand (first ∷ ws) ≡ true = ap (list_all may_stand) (sym begins) ∙ stand in
    ap (λ us. drill_of (spelled us)) begins ∙ go ws ends stands (word_kind first (fit_word first (stand_first first ws stands)))
  where
    go : (us : List Word) → ends_by_value (first ∷ us) ≡ false → list_all may_stand (first ∷ us) ≡ true → WordKind first → drill_of (spelled (first ∷ us)) ≡ None
    go us ends stands (WordKind.plain long short no_dashes is) =
        let found = named_pieces first (stand_first first us stands) other in
        let bad : value first ∷ [] ≡ named found.0 ∷ found.1 = sym is ∙ found.2 in absurd cc
    go [] ends stands (WordKind.bare n long no_dashes is) = ap drill_of (spelled_more first [] (named n ∷ []) is)
    go (u ∷ us) ends stands (WordKind.bare n long no_dashes is) =
        ap drill_of (spelled_more first (u ∷ us) (named n ∷ []) is) ∙ after_one n (u ∷ us) (stand_rest first (u ∷ us) stands) ends
    go [] ends stands (WordKind.full n v long no_dashes is) = ap drill_of (spelled_more first [] (named n ∷ value v ∷ []) is)
    go (u ∷ us) ends stands (WordKind.full n v long no_dashes is) =
        ap drill_of (spelled_more first (u ∷ us) (named n ∷ value v ∷ []) is) ∙ after_two n v (u ∷ us) (stand_rest first (u ∷ us) stands) ends

-- ---- `space`, `print` and `check`

two_none : (p : Piece) (more : List Piece) (q : Piece) (rest : List Piece) → space_of (p ∷ (more ++ q ∷ rest)) ≡ None
two_none (named m) more q rest = refl
two_none (value v) [] q rest = refl
two_none (value v) (y ∷ more) q rest = refl

pub space_none : {X : Type 0} (f : X → Word) (words : List X) → list_all may_stand (map f words) ≡ true → (length words ≡ 1 → ⊥) → space_of (spelled (map f words)) ≡ None
space_none f [] stand other = refl
space_none f (w ∷ []) stand other = absurd (other refl)
space_none f (w ∷ u ∷ ws) stand other =
    let p = some_piece (f w) (stand_first (f w) (map f (u ∷ ws)) stand) in
    let q = some_piece (f u) (stand_first (f u) (map f ws) (stand_rest (f w) (map f (u ∷ ws)) stand)) in
    let is : spelled (map f (w ∷ u ∷ ws)) ≡ p.0 ∷ (p.1 ++ (q.0 ∷ (q.1 ++ spelled (map f ws)))) =
    spelled_more (f w) (map f (u ∷ ws)) (p.0 ∷ p.1) p.2 ∙ ap (λ (ps : List Piece). p.0 ∷ (p.1 ++ ps)) (spelled_more (f u) (map f ws) (q.0 ∷ q.1) q.2) in
    ap space_of is ∙ two_none p.0 p.1 q.0 (q.1 ++ spelled (map f ws))

pub alone_none : {X : Type 0} (f : X → Word) (command : Command) (words : List X) → list_all may_stand (map f words) ≡ true → 0 < length words
    → alone command (spelled (map f words)) ≡ None
alone_none f command [] stand some = absurd (omega arith)
alone_none f command (w ∷ ws) stand some =
    let found = some_piece (f w) (stand_first (f w) (map f ws) stand) in
    ap (alone command) (spelled_more (f w) (map f ws) (found.0 ∷ found.1) found.2)

-- ---- all words

pub command_is : {X : Type 0} (f : X → Word) (words rest : List X) (name : X) → words ≡ name ∷ rest → list_all (λ x. may_stand (f x)) rest ≡ true
    → command_of (map f words) ≡ command_with (f name) (spelled (map f rest))
command_is f words rest name is stand =
    let stands : list_all may_stand (map f rest) ≡ true = list_all-map may_stand f rest ∙ stand in
    ap (λ ws. command_of (map f ws)) is ∙ rw stands refl

pub command_none : {X : Type 0} (f : X → Word) (words rest : List X) (name : X) → words ≡ name ∷ rest → list_all (λ x. may_stand (f x)) rest ≡ false
    → command_of (map f words) ≡ None
command_none f words rest name is stand =
    let stands : list_all may_stand (map f rest) ≡ false = list_all-map may_stand f rest ∙ stand in
    ap (λ ws. command_of (map f ws)) is ∙ rw stands refl
