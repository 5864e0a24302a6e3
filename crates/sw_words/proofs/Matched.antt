-- What `clap` answers to a whole line of options.
use Rattle.std.specs.Prelude.{◌≡◌, ◌&&◌, ◌||◌, ℕ, Bool, true, false, not, List, [], ◌∷◌, map, Option, Some, None, fold, find, option_and_then, slice_get}
use Rattle.std.specs.List.{list_all, list_any, flat_map}
use Rattle.std.specs.Str.{bytes_eq}
use Rattle.std.specs.Prelude.{option_map, Result, Ok, Err, IsErrAnd, IsErrOf}
use Rattle.std.proofs.Common.{cond, refl, ap, sym, ◌∙◌, subst, ⊎_elim}
use Rattle.clap.specs.Walk.{Row, Rule, nothing_held, walk_from, walked, settled, has_row, with_default, finished, first_of}
use Rattle.clap.specs.Simple.{built, filled_from, matches_of, is_simple, HasMatchesOf}
use Rattle.clap.specs.Takes.{is_given}
use Rattle.clap.specs.Kinds.{Kinds, HasKind, IsAmong, or_else}
use Rattle.clap.specs.Faults.{defaults_fault, default_fault, level_fault, check_fault, settle_fault, walk_fault, fault_of}
use Rattle.clap.specs.Matches.{found_of}
use Rattle.clap.specs.Values.{kind_of}
use Rattle.clap.specs.declared.parser.matches.ArgMatches.{ArgMatches}
use Rattle.clap.specs.declared.error.Error.{Error}
use Rattle.clap.specs.declared.error.kind.ErrorKind.{ErrorKind}
use Rattle.clap.specs.declared.error.kind.ErrorKind.TheVariants.{OutOfMemory}
use Rattle.clap.proofs.FaultLemmas.{leaf_fault}
use Rattle.clap.proofs.WalkLemmas.{first_value-rows}
use Rattle.sw_words.specs.Grammar.{Word, Given, pieces, may_stand, options_from, value_of}
use Rattle.sw_words.specs.Lines.{option_rule, line_of, MatchesOptions, error_of}
use Rattle.sw_words.specs.declared.commands.WordsError.{WordsError}
use Rattle.sw_words.specs.declared.commands.WordsError.TheVariants.{Usage, Memory}
use Rattle.sw_words.proofs.Steps.{rule, rules, shape, row, rows_for}
use Rattle.sw_words.proofs.Bridge.{Agrees, agree, end_of, faults_of, last_rows}

-- ---- what the end of a parse adds: nothing

-- no option has a default
default_none : (rows : List Row) (n : Word) → default_fault rows (rule n) ≡ []
default_none rows n = go (has_row n rows)
  where
    go : (x : Bool) → cond {A = Kinds} (x || true) [] [] ≡ []
    go true = refl
    go false = refl

with_default_none : (rows : List Row) (n : Word) → with_default rows (rule n) ≡ rows
with_default_none rows n = go (has_row n rows)
  where
    go : (x : Bool) → cond x rows rows ≡ rows
    go true = refl
    go false = refl

defaults_none : (rows : List Row) (names : List Word) → defaults_fault rows (rules names) ≡ []
unfolding defaults_fault
defaults_none rows [] = refl
defaults_none rows (n ∷ names) =
    ap (λ k. or_else k (defaults_fault (with_default rows (rule n)) (rules names))) (default_none rows n)
    ∙ (ap (λ rs. defaults_fault rs (rules names)) (with_default_none rows n) ∙ defaults_none rows names)

finished_none : (rows : List Row) (names : List Word) → fold with_default rows (rules names) ≡ rows
finished_none rows [] = refl
finished_none rows (n ∷ names) = ap (λ rs. fold with_default rs (rules names)) (with_default_none rows n) ∙ finished_none rows names

required_none : (rows : List Row) (names : List Word) → list_any (λ (a : Rule). a.required && not (is_given a.id rows)) (rules names) ≡ false
required_none rows [] = refl
required_none rows (n ∷ names) = required_none rows names

check_none : (rows : List Row) (names : List Word) → check_fault (shape names) rows false ≡ []
check_none rows names = rw (required_none rows names) refl

filled_rules : (names : List Word) (i : ℕ) → filled_from i (map option_rule names) ≡ rules names
filled_rules [] i = refl
filled_rules (n ∷ names) i = ap (λ rs. rule n ∷ rs) (filled_rules names i)

or_else-nil : (k : Kinds) → or_else k [] ≡ k
or_else-nil [] = refl
or_else-nil (x ∷ xs) = refl

-- the faults and the matches of a line are those of its walk
line_faults : (names words : List Word) → fault_of (line_of names) words ≡ faults_of names (walk_from nothing_held) words
line_faults names words =
    let end = end_of names (walk_from nothing_held) words in
    leaf_fault (built (line_of names)) nothing_held words refl
    ∙ (ap (λ rs. level_fault (record (shape names) { rules = rs }) [] nothing_held words false []) (filled_rules names 1)
    ∙ ap (λ k. or_else (walk_fault (shape names) [] (walk_from nothing_held) words) k)
    (ap (λ k. or_else (settle_fault (rules names) false end) (or_else k (check_fault (shape names) (finished (rules names) end) false)))
    (defaults_none (settled (rules names) end).rows names)
    ∙ (ap (λ k. or_else (settle_fault (rules names) false end) k) (check_none (finished (rules names) end) names)
    ∙ or_else-nil (settle_fault (rules names) false end))))

line_matches : (names words : List Word) → matches_of (line_of names) words ≡ last_rows names (walk_from nothing_held) words
line_matches names words =
    ap (λ rs. finished rs (fold (walked rs []) (walk_from nothing_held) words).held) (filled_rules names 1)
    ∙ finished_none (last_rows names (walk_from nothing_held) words) names

line_agrees : (names words : List Word) → list_all may_stand words ≡ true
    → Agrees (options_from names [] (flat_map pieces words)) (fault_of (line_of names) words) (matches_of (line_of names) words)
line_agrees names words stand =
    subst (λ k. Agrees (options_from names [] (flat_map pieces words)) k (matches_of (line_of names) words)) (sym (line_faults names words))
    (subst (λ rs. Agrees (options_from names [] (flat_map pieces words)) (faults_of names (walk_from nothing_held) words) rs) (sym (line_matches names words))
    ((agree names words stand).0 [] nothing_held refl refl))

-- ---- what the callers cite

first_of-rows : (given : Given) (name : Word) → first_of name (rows_for given) ≡ value_of given name
first_of-rows [] name = refl
first_of-rows (o ∷ given) name = go (bytes_eq o.0 name) (first_of-rows given name)
  where
    go : (x : Bool) → first_of name (rows_for given) ≡ value_of given name
        → option_and_then (λ (r : Row). slice_get r.values 0) (cond x (Some (row o)) (find (λ (r : Row). bytes_eq r.id name) (rows_for given)))
        ≡ option_map (λ (p : Word × Word). p.1) (cond x (Some o) (find (λ (p : Word × Word). bytes_eq p.0 name) given))
    go true later = refl
    go false later = later

-- matches without a fault are those of the options
pub matches_options : (names words : List Word) (m : ArgMatches) → list_all may_stand words ≡ true → is_simple (line_of names) ≡ true
    → HasMatchesOf (line_of names) words m → fault_of (line_of names) words ≡ [] → MatchesOptions names (flat_map pieces words) m
matches_options names words m stand simple has clear = go (options_from names [] (flat_map pieces words)) refl (line_agrees names words stand)
  where
    go : (o : Option Given) → options_from names [] (flat_map pieces words) ≡ o → Agrees o (fault_of (line_of names) words) (matches_of (line_of names) words)
        → MatchesOptions names (flat_map pieces words) m
    go None is agrees = absurd (agrees clear)
    go (Some given) is agrees = (given, is, λ name. first_value-rows (found_of m) name ∙ (ap (first_of name) ((has simple).0 ∙ agrees.1) ∙ first_of-rows given name))

memory_or_usage : (k : ErrorKind) → k ≡ OutOfMemory → error_of k ≡ Usage → ⊥
memory_or_usage k is usage = let bad : Memory ≡ Usage = sym (ap error_of is) ∙ usage in cc

-- an error other than want of memory comes where there are no options
pub usage_none : (names words : List Word) (e : Error) → list_all may_stand words ≡ true → HasKind (fault_of (line_of names) words) e → error_of (kind_of e) ≡ Usage
    → options_from names [] (flat_map pieces words) ≡ None
usage_none names words e stand has usage = go (options_from names [] (flat_map pieces words)) refl (line_agrees names words stand)
  where
    go : (o : Option Given) → options_from names [] (flat_map pieces words) ≡ o → Agrees o (fault_of (line_of names) words) (matches_of (line_of names) words)
        → options_from names [] (flat_map pieces words) ≡ None
    go None is agrees = is
    go (Some given) is agrees =
        absurd (⊎_elim (λ memory. memory_or_usage (kind_of e) memory usage) (λ among. subst (λ k. IsAmong (kind_of e) k) agrees.0 among) has)

-- an error that was made of another one
pub error_made : {T : Type 0} (r : Result T WordsError) (k : ErrorKind) → IsErrAnd r (λ e. e ≡ error_of k) → IsErrOf r Usage → error_of k ≡ Usage
error_made (Ok x) k made usage = absurd made
error_made (Err e) k made usage = let same : e ≡ Usage = cc in sym made ∙ same
