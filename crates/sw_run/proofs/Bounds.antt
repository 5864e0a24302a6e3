-- The bounds of the numbers among the words: a search has 1 to 64 workers, and a budget is at least 1.
use Rattle.std.specs.Prelude.{◌≡◌, ℕ, ◌≤◌, ◌&&◌, Bool, true, false, List, [], ◌∷◌, Option, Some, None, IfSome, nat_le, cond, option_map, option_and_then, codes}
use Rattle.std.specs.Str.{bytes_eq}
use Rattle.std.specs.List.{list_all, flat_map}
use Rattle.std.proofs.Common.{refl, arith, ap, ◌∙◌, subst}
use Rattle.std.proofs.lemmas.Bool.{leb-true}
use Rattle.sw_words.specs.declared.commands.Command.{Command}
use Rattle.sw_words.specs.declared.commands.Command.TheVariants.{Synth, Certify, Print, Check, Drill}
use Rattle.sw_words.specs.declared.commands.Options.{Options}
use Rattle.sw_words.specs.declared.limits.TheConstants.{MOST_WORKERS, MOST_CONFLICTS, LEAST_DRILL, MOST_DRILL}
use Rattle.sw_words.specs.Grammar.{Word, Piece, named, value, Given, number_of, within, number_within, workers_of, conflicts_of, value_of, search_names, options_from, options_with, options_of, drill_with, drill_by, drill_of, space_of, alone, command_with, command_of, may_stand, pieces}

-- how many workers there may be
abbrev pub AreWorkers : ℕ → Type 0
AreWorkers workers = (1 ≤ workers) × (workers ≤ 64)

-- the budget is at least 1, if there is one
abbrev pub HasSome : Option ℕ → Type 0
HasSome budget = IfSome budget (λ most. 1 ≤ most)

-- the numbers of a search are within their bounds
abbrev pub AreWithin : Options → Type 0
AreWithin o = AreWorkers o.workers × HasSome o.conflicts

-- those of a search; other commands have none
abbrev pub Asks : Option Command → Type 0
Asks (Some (Synth o)) = AreWithin o
Asks c = Unit {0}

either : {X : Type 0} (P : X → Type 0) (b : Bool) (x y : X) → P x → P y → P (cond b x y)
either P true x y p q = p
either P false x y p q = q

one_in : (least most n : ℕ) (a b : Bool) → nat_le least n ≡ a → nat_le n most ≡ b → IfSome (cond (a && b) (Some n) None) (λ k. (least ≤ k) × (k ≤ most))
one_in least most n true true e f = (leb-true least n e, leb-true n most f)
one_in least most n true false e f = tt
one_in least most n false b e f = tt

both_within : (least most : ℕ) (o : Option ℕ) → IfSome (option_and_then (within least most) o) (λ k. (least ≤ k) × (k ≤ most))
both_within least most None = tt
both_within least most (Some n) = one_in least most n (nat_le least n) (nat_le n most) refl refl

given_some : (most : ℕ) (n : Option ℕ) → IfSome n (λ k. (1 ≤ k) × (k ≤ most)) → IfSome (option_map (λ k. Some k) n) HasSome
given_some most None h = tt
given_some most (Some k) h = h.0

conflicts_some : (text : Option Word) → IfSome (conflicts_of text) HasSome
conflicts_some None = tt
conflicts_some (Some text) = given_some MOST_CONFLICTS (number_within 1 MOST_CONFLICTS text) (both_within 1 MOST_CONFLICTS (number_of text))

workers_within : (text : Option Word) → IfSome (workers_of text) AreWorkers
workers_within None = (search arith, search arith)
workers_within (Some text) = both_within 1 MOST_WORKERS (number_of text)

made_within : (breadth finish : Option Word) (workers : Option ℕ) (conflicts : Option (Option ℕ)) → IfSome workers AreWorkers → IfSome conflicts HasSome
    → IfSome (option_and_then (λ w. option_map (λ c. record { breadth = breadth; finish = finish; workers = w; conflicts = c }) conflicts) workers) AreWithin
made_within breadth finish None conflicts w h = tt
made_within breadth finish (Some n) None w h = tt
made_within breadth finish (Some n) (Some c) w h = (w, h)

with_within : (given : Given) → IfSome (options_with given) AreWithin
with_within given =
    made_within (value_of given (codes "breadth")) (value_of given (codes "finish")) (workers_of (value_of given (codes "workers"))) (conflicts_of (value_of given (codes "conflicts")))
    (workers_within (value_of given (codes "workers"))) (conflicts_some (value_of given (codes "conflicts")))

given_with : (given : Option Given) → IfSome (option_and_then options_with given) AreWithin
given_with None = tt
given_with (Some given) = with_within given

synth_asks : (o : Option Options) → IfSome o AreWithin → Asks (option_map Synth o)
synth_asks None h = tt
synth_asks (Some o) h = h

certify_asks : (o : Option Options) → Asks (option_map Certify o)
certify_asks None = tt
certify_asks (Some o) = tt

drill_asks : (n : ℕ) (workers : Option ℕ) → Asks (option_map (Drill n) workers)
drill_asks n None = tt
drill_asks n (Some w) = tt

number_asks : (n : Option ℕ) (workers : Option ℕ) → Asks (option_and_then (λ k. option_map (Drill k) workers) n)
number_asks None workers = tt
number_asks (Some n) workers = drill_asks n workers

drill_with_asks : (number : Word) (workers : Option Word) → Asks (drill_with number workers)
drill_with_asks number workers = number_asks (number_within LEAST_DRILL MOST_DRILL number) (workers_of workers)

drill_by_asks : (number name workers : Word) → Asks (drill_by number name workers)
drill_by_asks number name workers = either Asks (bytes_eq (codes "workers") name) (drill_with number (Some workers)) None (drill_with_asks number (Some workers)) tt

drill_of_asks : (words : List Piece) → Asks (drill_of words)
drill_of_asks (value number ∷ []) = drill_with_asks number None
drill_of_asks (value number ∷ named name ∷ value workers ∷ []) = drill_by_asks number name workers
drill_of_asks (named name ∷ value workers ∷ value number ∷ []) = drill_by_asks number name workers
drill_of_asks _ = tt

space_asks : (words : List Piece) → Asks (space_of words)
space_asks (value text ∷ []) = tt
space_asks _ = tt

print_asks : (words : List Piece) → Asks (alone Print words)
print_asks [] = tt
print_asks (word ∷ words) = tt

check_asks : (words : List Piece) → Asks (alone Check words)
check_asks [] = tt
check_asks (word ∷ words) = tt

with_asks : (name : Word) (words : List Piece) → Asks (command_with name words)
with_asks name words =
    either Asks (bytes_eq name (codes "synth")) _ _ (synth_asks (options_of words) (given_with (options_from search_names [] words)))
    (either Asks (bytes_eq name (codes "certify")) _ _ (certify_asks (options_of words))
    (either Asks (bytes_eq name (codes "space")) _ _ (space_asks words)
    (either Asks (bytes_eq name (codes "print")) _ _ (print_asks words)
    (either Asks (bytes_eq name (codes "check")) _ _ (check_asks words)
    (either Asks (bytes_eq name (codes "drill")) _ _ (drill_of_asks words) tt)))))

pub asks_within : (words : List Word) → Asks (command_of words)
asks_within [] = tt
asks_within (name ∷ words) = either Asks (list_all may_stand words) (command_with name (flat_map pieces words)) None (with_asks name (flat_map pieces words)) tt

pub synth_within : (words : List Word) (c : Command) (o : Options) → command_of words ≡ Some c → c ≡ Synth o → AreWithin o
synth_within words c o is search = subst Asks (is ∙ ap Some search) (asks_within words)
