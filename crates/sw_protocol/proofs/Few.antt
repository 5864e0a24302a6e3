-- A declaration that goes past no limit: its formula has few variables in scope, and a function has an argument.
use Rattle.std.specs.Prelude.{◌≡◌, ℕ, zero, ◌+◌, ◌<◌, ◌≤◌, Bool, List, [], ◌∷◌, ◌++◌, length}
use Rattle.std.specs.List.{AllByRecursion}
use Rattle.std.proofs.Common.{arith, subst}
use Rattle.std.proofs.lemmas.List.{length_push}
use Rattle.sw_logic.specs.declared.variables.TheConstants.{VARIABLES}
use Rattle.sw_trees.specs.declared.words.Word.{Word}
use Rattle.sw_trees.specs.declared.tree.Binder.{Binder}
use Rattle.sw_trees.specs.Grammar.{Loads, Mark}
use Rattle.sw_text.proofs.FewVariables.{tree_binds, Allowed, Leaves, after_formula}
use Rattle.sw_protocol.specs.declared.tree.Heading.{Heading}
use Rattle.sw_protocol.specs.declared.tree.Declaration.{Declaration}
use Rattle.sw_protocol.specs.Grammar.{AreNames, AreBracketed, AreSorts, IsParam, AreParams, MayTake, MayModify, IsHeading, IsDeclaration, AreDeclarations}

abbrev pub IsFew : Declaration → Type 0
IsFew (Declaration.Sort n) = Unit {0}
IsFew (Declaration.Relation mutable n ss) = Unit {0}
IsFew (Declaration.Constant mutable n s) = Unit {0}
IsFew (Declaration.Function n ss s) = 0 < length ss
IsFew (Declaration.Stated kind x) = tree_binds x ≤ VARIABLES
IsFew (Declaration.Transition h x) = length h.params + tree_binds x ≤ VARIABLES

none_allowed : 0 ≤ VARIABLES
none_allowed = omega arith

some_pushed : {X : Type 0} (xs : List X) (x : X) → 0 < length (xs ++ x ∷ [])
some_pushed xs x = let e = length_push xs x in omega (arith, e)

after_names : {ms rest : List Mark} {ns : List Word} → AreNames ms ns rest → Allowed ms → (0 < length ns) × Allowed rest
after_names (AreNames.one_name n i) h = (some_pushed [] n.word, h.1)
after_names (AreNames.more_names {ns = ns} m n are i j) h = (some_pushed ns n.word, (after_names are h).1.1.1)

after_bracketed : {ms rest : List Mark} {ns : List Word} → AreBracketed ms ns rest → Allowed ms → (0 < length ns) × Allowed rest
after_bracketed (AreBracketed.bracketed l r i are j) h = let inner = after_names are h.1 in (inner.0, inner.1.1)

after_sorts : {ms rest : List Mark} {ns : List Word} → AreSorts ms ns rest → Allowed ms → Allowed rest
after_sorts AreSorts.no_sorts h = h
after_sorts (AreSorts.some_sorts are) h = (after_bracketed are h).1

after_param : {text : List ℕ} {v : ℕ} {ms rest : List Mark} {b : Binder} → IsParam text v ms b rest → Allowed ms → Leaves (v + 1) rest
after_param (IsParam.param n c s i j k) h = (subst (λ (l : Loads). l.variables ≤ VARIABLES) i.name.loads_are h.0.variables, h.1.1.1)

after_params : {text : List ℕ} {ms rest : List Mark} {bs : List Binder} → AreParams text ms bs rest → Allowed ms → Leaves (length bs) rest
after_params (AreParams.one_param p) h = after_param p h
after_params (AreParams.more_params {bs = bs} {b = b} m are i p) h =
    let front = after_params are h in
    let last = after_param p front.1.1 in
    let count = length_push bs b in
    (omega (arith, count, last.0), last.1)

after_takes : {text : List ℕ} {ms rest : List Mark} {bs : List Binder} → MayTake text ms bs rest → Allowed ms → Leaves (length bs) rest
after_takes MayTake.no_params h = (none_allowed, h)
after_takes (MayTake.some_params l r i are j) h = let inner = after_params are h.1 in (inner.0, inner.1.1)

after_modifies : {ms rest : List Mark} {ns : List Word} → MayModify ms ns rest → Allowed ms → Allowed rest
after_modifies MayModify.modifies_none h = h
after_modifies (MayModify.modifies k i are) h = (after_names are h.1).1

after_heading : {text : List ℕ} {ms rest : List Mark} {x : Heading} → IsHeading text ms x rest → Allowed ms → Leaves (length x.params) rest
after_heading (IsHeading.heading n c i takes changes j) h =
    let params = after_takes takes h.1 in
    (params.0, (after_modifies changes params.1).1)

after_declaration : {text : List ℕ} {ms rest : List Mark} {d : Declaration} → IsDeclaration text ms d rest → Allowed ms → IsFew d × Allowed rest
after_declaration (IsDeclaration.sort k n e i j l) h = (tt, h.1.1.1)
after_declaration (IsDeclaration.relation mutable c k n e i j l sorts m) h = (tt, (after_sorts sorts h.1.1.1).1)
after_declaration (IsDeclaration.constant mutable c k n d s e i j l m o q) h = (tt, h.1.1.1.1.1.1)
after_declaration (IsDeclaration.function c k n d s e i j l sorts m o q) h = let inner = after_bracketed sorts h.1.1.1 in (inner.0, inner.1.1.1.1)
after_declaration (IsDeclaration.stated {x = x} kind k e i f ends) h =
    let part = after_formula f h.1 none_allowed in
    let few = part.0 in
    (omega (arith, few), part.1.1)
after_declaration (IsDeclaration.transition k e i head f ends) h =
    let params = after_heading head h.1 in
    let part = after_formula f params.1 params.0 in
    (part.0, part.1.1)

pub all_few : {text : List ℕ} {ms : List Mark} {ds : List Declaration} → AreDeclarations text ms ds → Allowed ms → AllByRecursion IsFew ds
all_few AreDeclarations.none h = tt
all_few (AreDeclarations.more d ds) h = let first = after_declaration d h in (first.0, all_few ds first.1)
