-- Names of declarations that are looked up one after another, one step down.
use Rattle.std.proofs.Common.{◌≡◌, List, [], ◌∷◌, ◌++◌, length, map, take, drop, get_or, ℕ, ◌+◌, ◌<◌, refl, sym, ap, ◌∙◌}
use Rattle.std.specs.Prelude.{Result, Ok, Err, IfOk}
use Rattle.std.proofs.lemmas.List.{take_more, map-append, at_drop_more}
use Rattle.sw_trees.specs.declared.words.Word.{Word}
use Rattle.sw_text.specs.Names.{Around, bytes_at}
use Rattle.sw_text.specs.declared.names.Violation.{Violation}
use Rattle.sw_text.specs.declared.resolve.Resolved.{Resolved}
use Rattle.sw_text.specs.Resolving.{Finds}
use Rattle.sw_protocol.specs.declared.draft.Draft.{Draft}
use Rattle.sw_protocol.specs.Declaring.{sort_faults, sorts_faults, sort_of, sorts_of, one_modified_faults, modified_faults, symbol_of, symbols_of}
use Rattle.sw_protocol.specs.Drafts.{FindsKept}

module _ (a : Around) where
  pub sorts_faults_more : (ws : List Word) (i : ℕ) (d : Word) → i < length ws → sorts_faults a (drop i ws) ≡ sort_faults a (get_or ws i d) ++ sorts_faults a (drop (i + 1) ws)
  sorts_faults_more ws i d h = at_drop_more (sorts_faults a) ws i d h

  pub sorts_more : (ws : List Word) (i : ℕ) (d : Word) → i < length ws → sorts_of a (take (i + 1) ws) ≡ sorts_of a (take i ws) ++ sort_of a (get_or ws i d) ∷ []
  sorts_more ws i d h = ap (sorts_of a) (take_more ws i d h) ∙ map-append (sort_of a) (take i ws) (get_or ws i d ∷ [])

  pub modified_faults_more : (ws : List Word) (i : ℕ) (d : Word) → i < length ws →
      modified_faults a (take i ws) (drop i ws) ≡ one_modified_faults a (take i ws) (get_or ws i d) ++ modified_faults a (take (i + 1) ws) (drop (i + 1) ws)
  modified_faults_more ws i d h =
      at_drop_more (modified_faults a (take i ws)) ws i d h
      ∙ ap (λ (before : List Word). one_modified_faults a (take i ws) (get_or ws i d) ++ modified_faults a before (drop (i + 1) ws)) (sym (take_more ws i d h))

  pub symbols_more : (ws : List Word) (i : ℕ) (d : Word) → i < length ws → symbols_of a (take (i + 1) ws) ≡ symbols_of a (take i ws) ++ symbol_of a (get_or ws i d) ∷ []
  symbols_more ws i d h = ap (symbols_of a) (take_more ws i d h) ∙ map-append (symbol_of a) (take i ws) (get_or ws i d ∷ [])

pub names_more : (text : List ℕ) (ws : List Word) (i : ℕ) (d : Word) → i < length ws → map (bytes_at text) (take (i + 1) ws) ≡ map (bytes_at text) (take i ws) ++ bytes_at text (get_or ws i d) ∷ []
names_more text ws i d h = ap (map (bytes_at text)) (take_more ws i d h) ∙ map-append (bytes_at text) (take i ws) (get_or ws i d ∷ [])

-- what is found without a change of the draft
pub finds_kept : {X : Type 0} (all : List Violation) (x : X) (d : Draft) (r : Resolved X) → Finds all x r → FindsKept all x d d r
finds_kept all x d (Resolved.Found y) h = (h.0, h.1, refl)
finds_kept all x d (Resolved.Broken v) h = h

pub all_kept : {X E : Type 0} (all : List Violation) (x : X) (d : Draft) (r : Result (Resolved X) E) → IfOk r (Finds all x) → IfOk r (FindsKept all x d d)
all_kept all x d (Ok y) h = finds_kept all x d y h
all_kept all x d (Err e) h = tt
