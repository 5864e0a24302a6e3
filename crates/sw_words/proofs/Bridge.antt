-- `clap` gives the options of the grammar, and an error exactly where the grammar gives none.
use Rattle.std.specs.Prelude.{◌≡◌, ℕ, Bool, true, false, List, [], ◌∷◌, ◌++◌, Option, Some, None, fold, nat_lt}
use Rattle.std.specs.List.{list_all, flat_map}
use Rattle.std.specs.Option.{option_map_or}
use Rattle.std.specs.Str.{bytes_eq}
use Rattle.std.proofs.Common.{cond, refl, ap, sym, ◌∙◌, subst}
use Rattle.std.proofs.lemmas.Bool.{and_parts}
use Rattle.clap.specs.Lexer.{long_of, short_of}
use Rattle.clap.specs.Walk.{Held, Row, Rule, Step, Walk, Waiting, idle, option, next, used, used_by_id, settled, reacted, walked, after_step, after_flag, long_met, option_word, word_met, value as goes_on}
use Rattle.clap.specs.Kinds.{Kinds, or_else}
use Rattle.clap.specs.Faults.{settle_fault, use_fault, long_fault, option_fault, turn_fault, step_fault, positional_fault, walk_fault, word_fault}
use Rattle.clap.proofs.FaultLemmas.{past}
use Rattle.clap.specs.declared.error.kind.ErrorKind.TheVariants as kind
use Rattle.sw_words.specs.Grammar.{Word, Given, Piece, named, value, pieces, is_fit, may_stand, is_known, has_option, options_from}
use Rattle.sw_words.proofs.Pieces.{WordKind, word_kind, dashes}
use Rattle.sw_words.proofs.Steps.{rule, rules, shape, rows_for, known_long, unknown_long, known_id, no_positional, used_once, fault_once, fault_again, at_word, long_met_is, long_fault_is, plain_met_is, plain_fault_is, name_itself}

-- ---- what the grammar gives

pub unknown_none : (names : List Word) (g : Given) (n : Word) (rest : List Piece) → is_known names n ≡ false → options_from names g (named n ∷ rest) ≡ None
unknown_none names g n [] unknown = refl
unknown_none names g n (named m ∷ rest) unknown = refl
unknown_none names g n (value v ∷ rest) unknown = rw unknown refl

again_none : (names : List Word) (g : Given) (n v : Word) (rest : List Piece) → is_known names n ≡ true → has_option g n ≡ true
    → options_from names g (named n ∷ value v ∷ rest) ≡ None
again_none names g n v rest known twice = rw (known, twice) refl

fresh_more : (names : List Word) (g : Given) (n v : Word) (rest : List Piece) → is_known names n ≡ true → has_option g n ≡ false
    → options_from names g (named n ∷ value v ∷ rest) ≡ options_from names (g ++ (n, v) ∷ []) rest
fresh_more names g n v rest known fresh = rw (known, fresh) refl

-- ---- agreement

-- no fault and these rows where there are options, and else a fault
abbrev pub Agrees : Option Given → Kinds → List Row → Type 0
Agrees None faults rows = faults ≡ [] → ⊥
Agrees (Some g) faults rows = (faults ≡ []) × (rows ≡ rows_for g)

first_stays : (a b : Kinds) → (a ≡ [] → ⊥) → or_else a b ≡ [] → ⊥
first_stays [] b some e = some refl
first_stays (k ∷ ks) b some e = cc

or_else-assoc : (a b c : Kinds) → or_else (or_else a b) c ≡ or_else a (or_else b c)
or_else-assoc [] b c = refl
or_else-assoc (k ∷ ks) b c = refl

module _ (names : List Word) where
  -- where the walk over the words ends
  abbrev pub end_of : Walk → List Word → Held
  end_of w words = (fold (walked (rules names) []) w words).held

  abbrev pub faults_of : Walk → List Word → Kinds
  faults_of w words = or_else (walk_fault (shape names) [] w words) (settle_fault (rules names) false (end_of w words))

  abbrev pub last_rows : Walk → List Word → List Row
  last_rows w words = (settled (rules names) (end_of w words)).rows

  faults-cons : (w : Walk) (word : Word) (words : List Word)
      → faults_of w (word ∷ words) ≡ or_else (turn_fault (shape names) [] w word) (faults_of (walked (rules names) [] w word) words)
  unfolding walk_fault
  faults-cons w word words = or_else-assoc (turn_fault (shape names) [] w word) _ _

  faults-nil : (w : Walk) → faults_of w [] ≡ settle_fault (rules names) false w.held
  unfolding walk_fault
  faults-nil w = refl

  -- a word that fails, and one that passes
  fails : (w : Walk) (word : Word) (words : List Word) (o : Option Given) → (turn_fault (shape names) [] w word ≡ [] → ⊥) → o ≡ None
      → Agrees o (faults_of w (word ∷ words)) (last_rows w (word ∷ words))
  fails w word words o fault none =
      subst (λ x. Agrees x (faults_of w (word ∷ words)) (last_rows w (word ∷ words))) (sym none)
      (λ e. first_stays (turn_fault (shape names) [] w word) (faults_of (walked (rules names) [] w word) words) fault (sym (faults-cons w word words) ∙ e))

  passes : (w w' : Walk) (word : Word) (words : List Word) (o : Option Given) → turn_fault (shape names) [] w word ≡ [] → walked (rules names) [] w word ≡ w'
      → Agrees o (faults_of w' words) (last_rows w' words) → Agrees o (faults_of w (word ∷ words)) (last_rows w (word ∷ words))
  passes w w' word words o clear to h =
      let after : Agrees o (faults_of (walked (rules names) [] w word) words) (last_rows (walked (rules names) [] w word) words) =
      subst (λ x. Agrees o (faults_of x words) (last_rows x words)) (sym to) h in
      subst (λ k. Agrees o k (last_rows (walked (rules names) [] w word) words)) (sym (faults-cons w word words ∙ past _ _ clear)) after

  -- ---- turns

  abbrev meets : Waiting → Word → Held → Held × Step
  meets waiting word h = word_met (rules names) [] false waiting 1 word h

  -- a word and what it comes to, as the fault of its turn and as the walk after it
  turn_of : (waiting : Waiting) (word : Word) (h : Held) (k : Kinds) (m : Held × Step) → word_fault (shape names) [] false waiting word h ≡ k → meets waiting word h ≡ m
      → turn_fault (shape names) [] (at_word waiting h) word ≡ or_else k (step_fault (shape names) 1 m.0 m.1)
  turn_of waiting word h k m fault met =
      ap (λ x. or_else x (step_fault (shape names) 1 (meets waiting word h).0 (meets waiting word h).1)) fault
      ∙ ap (λ (x : Held × Step). or_else k (step_fault (shape names) 1 x.0 x.1)) met

  walk_of : (waiting : Waiting) (word : Word) (h : Held) (m : Held × Step) → meets waiting word h ≡ m
      → walked (rules names) [] (at_word waiting h) word ≡ after_step (rules names) word (at_word waiting h) m.0 m.1
  unfolding walked
  walk_of waiting word h m met = ap (λ (x : Held × Step). after_step (rules names) word (at_word waiting h) x.0 x.1) met

  -- a value where none is awaited
  idle_plain : (word : Word) (h : Held) → bytes_eq word dashes ≡ false → long_of word ≡ None → short_of word ≡ None
      → turn_fault (shape names) [] (at_word idle h) word ≡ kind.UnknownArgument ∷ []
  idle_plain word h no_dashes long short =
      turn_of idle word h [] (h, goes_on) (plain_fault_is names idle word h no_dashes long short) (plain_met_is names idle word h no_dashes long short)
      ∙ ap (λ a. option_map_or (λ (r : Rule). positional_fault (rules names) false r h) a (kind.UnknownArgument ∷ [])) (no_positional names 1)

  module _ (waiting : Waiting) (word : Word) (h : Held) (n : Word) (no_dashes : bytes_eq word dashes ≡ false) where
    -- an option that is not known
    unknown_fails : (v : Option Word) → long_of word ≡ Some (n, v) → is_known names n ≡ false → turn_fault (shape names) [] (at_word waiting h) word ≡ [] → ⊥
    unknown_fails v is unknown e =
        let fault : word_fault (shape names) [] false waiting word h ≡ kind.UnknownArgument ∷ [] =
        long_fault_is names waiting word h no_dashes n v is ∙ ap (λ a. long_fault (rules names) false a v h) (unknown_long names n unknown) in
        let turn = turn_of waiting word h _ (meets waiting word h) fault refl in
        let bad : kind.UnknownArgument ∷ [] ≡ [] = sym turn ∙ e in cc

    known_fault : (v : Option Word) → long_of word ≡ Some (n, v) → is_known names n ≡ true
        → word_fault (shape names) [] false waiting word h ≡ option_fault (rules names) false (rule n) v h
    known_fault v is known = long_fault_is names waiting word h no_dashes n v is ∙ ap (λ a. long_fault (rules names) false a v h) (known_long names n known)

    option_dies : (v : Option Word) → (settle_fault (rules names) false h ≡ [] → ⊥) → option_fault (rules names) false (rule n) v h ≡ [] → ⊥
    option_dies (Some v) waits e = first_stays (settle_fault (rules names) false h) _ waits e
    option_dies None waits e = waits e

    -- an option after one that fails
    long_dies : (v : Option Word) → long_of word ≡ Some (n, v) → (settle_fault (rules names) false h ≡ [] → ⊥) → turn_fault (shape names) [] (at_word waiting h) word ≡ [] → ⊥
    long_dies v is waits e = go (is_known names n) refl
      where
        go : (x : Bool) → is_known names n ≡ x → ⊥
        go false unknown = unknown_fails v is unknown e
        go true known = first_stays (word_fault (shape names) [] false waiting word h) _ (λ f. option_dies v waits (sym (known_fault v is known) ∙ f)) e

    full_met : (v : Word) → long_of word ≡ Some (n, Some v) → is_known names n ≡ true → meets waiting word h ≡ (reacted (rules names) (rule n) (v ∷ []) h, next idle)
    full_met v is known = long_met_is names waiting word h no_dashes n (Some v) is
        ∙ ap (λ a. after_flag (rules names) waiting word (long_met (rules names) a (Some v) h).0 (long_met (rules names) a (Some v) h).1) (known_long names n known)

    bare_met : long_of word ≡ Some (n, None) → is_known names n ≡ true → meets waiting word h ≡ (record (settled (rules names) h) { pending = Some (n, []) }, next (option n))
    bare_met is known = long_met_is names waiting word h no_dashes n None is
        ∙ ap (λ a. after_flag (rules names) waiting word (long_met (rules names) a None h).0 (long_met (rules names) a None h).1) (known_long names n known)

  -- ---- an option that waits for its value, and one that has it

  abbrev pub opened : List Row → Word → ℕ → Held
  opened rows n k = record { rows = rows; pending = Some (n, []); skip = k }

  abbrev closed : List Row → Word → Word → ℕ → Held
  closed rows n v k = record { rows = rows; pending = Some (n, v ∷ []); skip = k }

  opened_fault : (rows : List Row) (n : Word) (k : ℕ) → is_known names n ≡ true → settle_fault (rules names) false (opened rows n k) ≡ kind.InvalidValue ∷ []
  opened_fault rows n k known = ap (λ a. option_map_or (λ (r : Rule). use_fault false r [] rows) a []) (known_id names n known)

  closed_fault : (rows : List Row) (n v : Word) (k : ℕ) → is_known names n ≡ true → settle_fault (rules names) false (closed rows n v k) ≡ use_fault false (rule n) (v ∷ []) rows
  closed_fault rows n v k known = ap (λ a. option_map_or (λ (r : Rule). use_fault false r (v ∷ []) rows) a []) (known_id names n known)

  closed_rows : (rows : List Row) (n v : Word) (k : ℕ) → is_known names n ≡ true → (settled (rules names) (closed rows n v k)).rows ≡ used (rule n) (v ∷ []) rows
  closed_rows rows n v k known = ap (λ a. used_by_id a (v ∷ []) rows) (known_id names n known)

  value_met : (rows : List Row) (n v : Word) (k : ℕ) → is_known names n ≡ true → bytes_eq v dashes ≡ false → long_of v ≡ None → short_of v ≡ None
      → meets (option n) v (opened rows n k) ≡ (closed rows n v k, next idle)
  value_met rows n v k known no_dashes long short =
      plain_met_is names (option n) v (opened rows n k) no_dashes long short
      ∙ (ap (λ (a : Option Rule). ((option_word a n v (opened rows n k)).0, next (option_word a n v (opened rows n k)).1)) (known_id names n known)
      ∙ ap (λ b. (closed rows n v k, next (cond (nat_lt (cond b 1 0) 1) (option n) idle))) (name_itself n))

  -- ---- the walk

  fit_of : (word : Word) → may_stand word ≡ true → list_all is_fit (pieces word) ≡ true
  fit_of word stands = (and_parts _ (list_all is_fit (pieces word)) stands).1

  -- after an option that fails each word fails, and so does the end
  doomed : (h : Held) (words : List Word) → (settle_fault (rules names) false h ≡ [] → ⊥) → list_all may_stand words ≡ true → faults_of (at_word idle h) words ≡ [] → ⊥
  doomed h [] waits stand e = waits (sym (faults-nil (at_word idle h)) ∙ e)
  doomed h (word ∷ words) waits stand e =
      first_stays (turn_fault (shape names) [] (at_word idle h) word) _ (turn (word_kind word (fit_of word (and_parts _ _ stand).0))) (sym (faults-cons (at_word idle h) word words) ∙ e)
    where
      turn : WordKind word → turn_fault (shape names) [] (at_word idle h) word ≡ [] → ⊥
      turn (WordKind.plain long short no_dashes is) f = let bad : kind.UnknownArgument ∷ [] ≡ [] = sym (idle_plain word h no_dashes long short) ∙ f in cc
      turn (WordKind.bare n long no_dashes is) f = long_dies idle word h n no_dashes None long waits f
      turn (WordKind.full n v long no_dashes is) f = long_dies idle word h n no_dashes (Some v) long waits f

  -- before a word, with these options given, and with one that waits for its value
  abbrev pub CleanAgrees : List Word → Type 0
  CleanAgrees words = (g : Given) (h : Held) → settle_fault (rules names) false h ≡ [] → (settled (rules names) h).rows ≡ rows_for g
      → Agrees (options_from names g (flat_map pieces words)) (faults_of (at_word idle h) words) (last_rows (at_word idle h) words)

  abbrev pub OpenAgrees : List Word → Type 0
  OpenAgrees words = (g : Given) (n : Word) (rows : List Row) (k : ℕ) → is_known names n ≡ true → rows ≡ rows_for g
      → Agrees (options_from names g (named n ∷ flat_map pieces words)) (faults_of (at_word (option n) (opened rows n k)) words) (last_rows (at_word (option n) (opened rows n k)) words)

  clean_full : (word : Word) (words : List Word) (n v : Word) → bytes_eq word dashes ≡ false → long_of word ≡ Some (n, Some v) → pieces word ≡ named n ∷ value v ∷ []
      → CleanAgrees words → CleanAgrees (word ∷ words)
  clean_full word words n v no_dashes long is later g h clear rows = go (is_known names n) (has_option g n) refl refl
    where
      rest : List Piece
      rest = flat_map pieces words

      spelled : options_from names g (flat_map pieces (word ∷ words)) ≡ options_from names g (named n ∷ value v ∷ flat_map pieces words)
      spelled = ap (λ ps. options_from names g (ps ++ flat_map pieces words)) is

      fault : is_known names n ≡ true → word_fault (shape names) [] false idle word h ≡ use_fault false (rule n) (v ∷ []) (rows_for g)
      fault known = known_fault idle word h n no_dashes (Some v) long known
          ∙ (past _ _ clear ∙ ap (λ rs. use_fault false (rule n) (v ∷ []) rs) rows)

      go : (x y : Bool) → is_known names n ≡ x → has_option g n ≡ y
          → Agrees (options_from names g (flat_map pieces (word ∷ words))) (faults_of (at_word idle h) (word ∷ words)) (last_rows (at_word idle h) (word ∷ words))
      go false y unknown e = fails (at_word idle h) word words _ (unknown_fails idle word h n no_dashes (Some v) long unknown)
          (spelled ∙ unknown_none names g n (value v ∷ flat_map pieces words) unknown)
      go true true known twice = fails (at_word idle h) word words _
          (λ e. let bad : kind.ArgumentConflict ∷ [] ≡ [] =
          sym (turn_of idle word h _ (meets idle word h) (fault known ∙ fault_again g n v twice) refl) ∙ e in cc)
          (spelled ∙ again_none names g n v (flat_map pieces words) known twice)
      go true false known fresh =
          let met = full_met idle word h n no_dashes v long known in
          let after = later (g ++ (n, v) ∷ []) (reacted (rules names) (rule n) (v ∷ []) h) refl
          (ap (λ rs. used (rule n) (v ∷ []) rs) rows ∙ used_once g n v fresh) in
          subst (λ o. Agrees o (faults_of (at_word idle h) (word ∷ words)) (last_rows (at_word idle h) (word ∷ words)))
          (sym (spelled ∙ fresh_more names g n v (flat_map pieces words) known fresh))
          (passes (at_word idle h) (at_word idle (reacted (rules names) (rule n) (v ∷ []) h)) word words _
          (turn_of idle word h [] _ (fault known ∙ fault_once g n v fresh) met)
          (walk_of idle word h _ met)
          after)

  clean_bare : (word : Word) (words : List Word) (n : Word) → bytes_eq word dashes ≡ false → long_of word ≡ Some (n, None) → pieces word ≡ named n ∷ []
      → OpenAgrees words → CleanAgrees (word ∷ words)
  clean_bare word words n no_dashes long is later g h clear rows = go (is_known names n) refl
    where
      spelled : options_from names g (flat_map pieces (word ∷ words)) ≡ options_from names g (named n ∷ flat_map pieces words)
      spelled = ap (λ ps. options_from names g (ps ++ flat_map pieces words)) is

      go : (x : Bool) → is_known names n ≡ x
          → Agrees (options_from names g (flat_map pieces (word ∷ words))) (faults_of (at_word idle h) (word ∷ words)) (last_rows (at_word idle h) (word ∷ words))
      go false unknown = fails (at_word idle h) word words _ (unknown_fails idle word h n no_dashes None long unknown)
          (spelled ∙ unknown_none names g n (flat_map pieces words) unknown)
      go true known =
          let met = bare_met idle word h n no_dashes long known in
          subst (λ o. Agrees o (faults_of (at_word idle h) (word ∷ words)) (last_rows (at_word idle h) (word ∷ words))) (sym spelled)
          (passes (at_word idle h) (at_word (option n) (opened (settled (rules names) h).rows n h.skip)) word words _
          (turn_of idle word h [] _ (known_fault idle word h n no_dashes None long known ∙ clear) met)
          (walk_of idle word h _ met)
          (later g n (settled (rules names) h).rows h.skip known rows))

  clean_plain : (word : Word) (words : List Word) → bytes_eq word dashes ≡ false → long_of word ≡ None → short_of word ≡ None → pieces word ≡ value word ∷ []
      → CleanAgrees (word ∷ words)
  clean_plain word words no_dashes long short is g h clear rows =
      fails (at_word idle h) word words _ (λ e. let bad : kind.UnknownArgument ∷ [] ≡ [] = sym (idle_plain word h no_dashes long short) ∙ e in cc)
      (ap (λ ps. options_from names g (ps ++ flat_map pieces words)) is)

  -- a value for the option that waits
  open_plain : (word : Word) (words : List Word) → bytes_eq word dashes ≡ false → long_of word ≡ None → short_of word ≡ None → pieces word ≡ value word ∷ []
      → list_all may_stand words ≡ true → CleanAgrees words → OpenAgrees (word ∷ words)
  open_plain word words no_dashes long short is stand later g n rows k known are =
      let met = value_met rows n word k known no_dashes long short in
      passes (at_word (option n) (opened rows n k)) (at_word idle (closed rows n word k)) word words _
      (turn_of (option n) word (opened rows n k) [] _ (plain_fault_is names (option n) word (opened rows n k) no_dashes long short) met)
      (walk_of (option n) word (opened rows n k) _ met)
      (go (has_option g n) refl)
    where
      spelled : options_from names g (named n ∷ flat_map pieces (word ∷ words)) ≡ options_from names g (named n ∷ value word ∷ flat_map pieces words)
      spelled = ap (λ ps. options_from names g (named n ∷ ps ++ flat_map pieces words)) is

      fault : settle_fault (rules names) false (closed rows n word k) ≡ use_fault false (rule n) (word ∷ []) (rows_for g)
      fault = closed_fault rows n word k known ∙ ap (λ rs. use_fault false (rule n) (word ∷ []) rs) are

      go : (y : Bool) → has_option g n ≡ y
          → Agrees (options_from names g (named n ∷ flat_map pieces (word ∷ words))) (faults_of (at_word idle (closed rows n word k)) words)
          (last_rows (at_word idle (closed rows n word k)) words)
      go true twice =
          subst (λ o. Agrees o (faults_of (at_word idle (closed rows n word k)) words) (last_rows (at_word idle (closed rows n word k)) words))
          (sym (spelled ∙ again_none names g n word (flat_map pieces words) known twice))
          (doomed (closed rows n word k) words (λ e. let bad : kind.ArgumentConflict ∷ [] ≡ [] = sym (fault ∙ fault_again g n word twice) ∙ e in cc) stand)
      go false fresh =
          subst (λ o. Agrees o (faults_of (at_word idle (closed rows n word k)) words) (last_rows (at_word idle (closed rows n word k)) words))
          (sym (spelled ∙ fresh_more names g n word (flat_map pieces words) known fresh))
          (later (g ++ (n, word) ∷ []) (closed rows n word k) (fault ∙ fault_once g n word fresh)
          (closed_rows rows n word k known ∙ (ap (λ rs. used (rule n) (word ∷ []) rs) are ∙ used_once g n word fresh)))

  -- another option, where one waits for its value
  open_long : (word : Word) (words : List Word) (m : Word) (v : Option Word) (more : List Piece) → bytes_eq word dashes ≡ false → long_of word ≡ Some (m, v)
      → pieces word ≡ named m ∷ more → OpenAgrees (word ∷ words)
  open_long word words m v more no_dashes long is g n rows k known are =
      fails (at_word (option n) (opened rows n k)) word words _
      (long_dies (option n) word (opened rows n k) m no_dashes v long
      (λ e. let bad : kind.InvalidValue ∷ [] ≡ [] = sym (opened_fault rows n k known) ∙ e in cc))
      (ap (λ ps. options_from names g (named n ∷ ps ++ flat_map pieces words)) is)

  pub agree : (words : List Word) → list_all may_stand words ≡ true → CleanAgrees words × OpenAgrees words
  agree [] stand = (
    λ g h clear rows. (faults-nil (at_word idle h) ∙ clear, rows),
    λ g n rows k known are e. (let bad : kind.InvalidValue ∷ [] ≡ [] = sym (faults-nil (at_word (option n) (opened rows n k)) ∙ opened_fault rows n k known) ∙ e in cc),
  )
  agree (word ∷ words) stand = go (agree words stands) (word_kind word (fit_of word (and_parts (may_stand word) _ stand).0))
    where
      stands : list_all may_stand words ≡ true
      stands = (and_parts (may_stand word) (list_all may_stand words) stand).1

      go : CleanAgrees words × OpenAgrees words → WordKind word → CleanAgrees (word ∷ words) × OpenAgrees (word ∷ words)
      go later (WordKind.plain long short no_dashes is) = (clean_plain word words no_dashes long short is, open_plain word words no_dashes long short is stands later.0)
      go later (WordKind.bare n long no_dashes is) = (clean_bare word words n no_dashes long is later.1, open_long word words n None [] no_dashes long is)
      go later (WordKind.full n v long no_dashes is) = (clean_full word words n v no_dashes long is later.0, open_long word words n (Some v) (value v ∷ []) no_dashes long is)
