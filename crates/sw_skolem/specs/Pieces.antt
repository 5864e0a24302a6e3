-- The pieces of a formula without existential quantifiers.
use Rattle.std.specs.Prelude.{ℕ, ◌+◌, List, [], ◌∷◌, ◌++◌, map, length, if◌then◌else◌}
use Rattle.std.specs.List.{flat_map}
use Rattle.sw_logic.specs.declared.syntax.Binder.{Binder}
use Rattle.sw_logic.specs.declared.syntax.Term.{Term}
use Rattle.sw_logic.specs.declared.syntax.Formula.{Formula}
use Rattle.sw_logic.specs.declared.syntax.Formula.TheVariants.{True, False, Holds, Equal, Not, All, Any}
use Rattle.sw_logic.specs.declared.syntax.Formula.TheOpen.{Formula-F}
use Rattle.sw_logic.specs.declared.syntax.Formula.TheFolds.{fold-Formula}
use Rattle.sw_truth.specs.declared.sets.Piece.{Piece}
use Rattle.sw_logic.specs.Terms.{occurs, put, variables, with_terms}

-- the sorts of the variables of quantifiers that were pulled out, and what is left
pub record Pulled : Type 0 where
  pub vars : List ℕ
  pub formula : Formula

pub record PulledAll : Type 0 where
  pub vars : List ℕ
  pub formulas : List Formula

-- a part: itself with its quantifiers pulled out, where the variables in scope are these terms and the next variable has
-- this number; and its pieces, where so many variables are in scope
pub record Part : Type 0 where
  pub pulled : List Term → ℕ → Pulled
  pub pieces : ℕ → List Piece

abbrev pub before : Pulled → PulledAll → PulledAll
before p ps = record { vars = p.vars ++ ps.vars; formulas = p.formula ∷ ps.formulas }

-- the parts from left to right
abbrev pub pulled_all : List Part → List Term → ℕ → PulledAll
pulled_all [] terms next = record { vars = []; formulas = [] }
pulled_all (p ∷ ps) terms next = before (p.pulled terms next) (pulled_all ps terms (next + length (p.pulled terms next).vars))

abbrev pub bare : Formula → Pulled
bare f = record { vars = []; formula = f }

abbrev pub negated : Pulled → Pulled
negated p = record { vars = p.vars; formula = Not p.formula }

abbrev pub conjoined : PulledAll → Pulled
conjoined ps = record { vars = ps.vars; formula = All ps.formulas }

abbrev pub disjoined : PulledAll → Pulled
disjoined ps = record { vars = ps.vars; formula = Any ps.formulas }

abbrev pub behind : List Binder → Pulled → Pulled
behind binders p = record { vars = map (λ b. b.sort) binders ++ p.vars; formula = p.formula }

-- one piece
abbrev pub whole : (List Term → ℕ → Pulled) → ℕ → List Piece
whole pulled n = record { vars = (pulled (variables 0 n) n).vars; matrix = (pulled (variables 0 n) n).formula } ∷ []

abbrev pub alone : (List Term → ℕ → Pulled) → Part
alone pulled = record { pulled = pulled; pieces = whole pulled }

-- the variable of number n put before those of the piece, where it occurs
abbrev pub bound : ℕ → Binder → Piece → Piece
bound n b piece =
    if occurs n piece.matrix
    then record { vars = b.sort ∷ piece.vars; matrix = piece.matrix }
    else record { vars = piece.vars; matrix = with_terms (variables 0 (n + 1) ++ variables n (length piece.vars)) piece.matrix }

abbrev pub bound_all : ℕ → List Binder → List Piece → List Piece
bound_all n [] pieces = pieces
bound_all n (b ∷ bs) pieces = map (bound n b) (bound_all (n + 1) bs pieces)

-- implications and existential quantifiers do not stand here
abbrev pub part_step : Formula-F Part → Part
part_step Formula-F.True = record { pulled = λ terms next. bare True; pieces = λ n. [] }
part_step Formula-F.False = alone (λ terms next. bare False)
part_step (Formula-F.Holds symbol post args) = alone (λ terms next. bare (Holds symbol post (map (put terms) args)))
part_step (Formula-F.Equal a b) = alone (λ terms next. bare (Equal (put terms a) (put terms b)))
part_step (Formula-F.Not p) = alone (λ terms next. negated (p.pulled terms next))
part_step (Formula-F.All ps) = record {
  pulled = λ terms next. conjoined (pulled_all ps terms next);
  pieces = λ n. flat_map (λ p. p.pieces n) ps;
}
part_step (Formula-F.Any ps) = alone (λ terms next. disjoined (pulled_all ps terms next))
part_step (Formula-F.Implies p q) = alone (λ terms next. bare True)
part_step (Formula-F.Iff p q) = alone (λ terms next. bare True)
part_step (Formula-F.ForAll binders p) = record {
  pulled = λ terms next. behind binders (p.pulled (terms ++ variables next (length binders)) (next + length binders));
  pieces = λ n. bound_all n binders (p.pieces (n + length binders));
}
part_step (Formula-F.Exists binders p) = alone (λ terms next. bare True)

abbrev pub part_of : Formula → Part
part_of = fold-Formula Part part_step

-- the pieces of a formula where so many variables are in scope
abbrev pub pieces_of : ℕ → Formula → List Piece
pieces_of n f = (part_of f).pieces n
