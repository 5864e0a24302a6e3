-- Named clauses as clauses over numbered variables: by first occurrence, equal literals once.
use Rattle.std.specs.Prelude.{◌≡◌, ◌==◌, ℕ, not, List, [], ◌∷◌, ◌++◌, map, length, Some, slice_get, Contains}
use Rattle.std.specs.List.{flat_map, filter}
use Rattle.sw_logic.specs.Truth.{args_of}
use Rattle.sw_refute.specs.declared.clauses.Lit.{Lit}
use Rattle.sw_refute.specs.declared.clauses.Clause.{Clause}
use Rattle.sw_refute.specs.Satisfaction.{variable, is_positive}
use Rattle.sw_truth.specs.declared.sets.SkolemSet.{SkolemSet}
use Rattle.sw_universe.specs.declared.universe.Universe.{Universe}
use Rattle.sw_truth.specs.declared.instances.Instance.{Instance}
use Rattle.sw_truth.specs.declared.instances.Atom.{Atom}
use Rattle.sw_truth.specs.declared.instances.Atom.TheVariants.{Holds, Equal, Inner}
use Rattle.sw_truth.specs.declared.instances.Ground.{Ground}
use Rattle.sw_truth.specs.Models.{AreOfSorts}
use Rattle.sw_universe.specs.ByNumber.{counts, term_at, terms_at, IsTerm}
use Rattle.sw_instances.specs.Named.{Name, related, equated, inner, Literal}
use Rattle.sw_instances.specs.Instances.{clauses_from}

-- the relation holds of the elements at each place, and the lists are as long
abbrev pub Beside : {X Y : Type 0} → (X → Y → Type 0) → List X → List Y → Type 0
Beside R [] [] = Unit {0}
Beside R [] (y ∷ ys) = ⊥
Beside R (x ∷ xs) [] = ⊥
Beside R (x ∷ xs) (y ∷ ys) = R x y × Beside R xs ys

-- the names of clauses, from left to right
abbrev pub names_in : List (List Literal) → List Name
names_in clauses = flat_map (map (λ l. l.name)) clauses

-- these names, then each name that occurs, where it occurs first
pub data InOrder : List Name → List Name → List Name → Type 0 where
  done : {before : List Name} → InOrder before [] before
  known : {before after rest : List Name} {n : Name} → Contains before n → InOrder before rest after → InOrder before (n ∷ rest) after
  first : {before after rest : List Name} {n : Name} → (Contains before n → ⊥) → InOrder (before ++ n ∷ []) rest after → InOrder before (n ∷ rest) after

-- the literal over numbered variables, the number being the place of the name
pub record IsLiteral (names : List Name) (l : Literal) (m : Lit) : Type 0 where
  pub variable : slice_get names (variable m) ≡ Some l.name
  pub sign : is_positive m ≡ l.positive

-- each literal once, where it stands first
abbrev pub once : List Lit → List Lit
once [] = []
once (l ∷ ls) = l ∷ filter (λ (m : Lit). not (m.0 == l.0)) (once ls)

pub record IsClause (names : List Name) (named : List Literal) (c : Clause) : Type 0 where
  pub numbered : List Lit
  pub beside : Beside (IsLiteral names) named numbered
  pub once : c.lits ≡ once numbered

-- what the atom says that its variable stands for
pub data StandsFor (set : SkolemSet) (u : Universe) : Atom → Name → Type 0 where
  is_related : {symbol : ℕ} {ns : List ℕ} → AreOfSorts (counts u) (args_of set.signature symbol) ns
      → StandsFor set u (Holds symbol ns) (related symbol (terms_at u (args_of set.signature symbol) ns))
  is_equated : {sort t v : ℕ} → IsTerm u sort t → IsTerm u sort v → StandsFor set u (Equal sort t v) (equated (term_at u sort t) (term_at u sort v))
  is_inner : {path : List ℕ} → StandsFor set u Inner (inner path)

-- the numbered clauses of the instances, and what their variables stand for
pub record IsGround (set : SkolemSet) (u : Universe) (instances : List Instance) (g : Ground) : Type 0 where
  pub names : List Name
  pub order : InOrder [] (names_in (clauses_from set u 0 instances)) names
  pub variables : g.cnf.variables ≡ length names
  pub clauses : Beside (IsClause names) (clauses_from set u 0 instances) g.cnf.clauses
  pub atoms : Beside (StandsFor set u) g.atoms names
