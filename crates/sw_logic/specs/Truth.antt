-- The value of a term and the truth of a formula in finite structures, by recursion.
use Rattle.std.specs.Prelude.{ℕ, zero, suc, ◌+◌, ◌*◌, ◌<◌, ◌↔◌, Bool, true, false, ◌&&◌, ◌||◌, not, ◌==◌, List, [], ◌∷◌, ◌++◌, map, Option, Some, None, unwrap_or, slice_index, slice_get, length, max, IsTrue, if◌then◌else◌}
use Rattle.std.specs.List.{list_all, list_any, AllByRecursion}
use Rattle.sw_logic.specs.declared.syntax.Symbol.{Symbol}
use Rattle.sw_logic.specs.declared.syntax.Signature.{Signature}
use Rattle.sw_logic.specs.declared.syntax.Binder.{Binder}
use Rattle.sw_logic.specs.declared.syntax.Term.{Term}
use Rattle.sw_logic.specs.declared.syntax.Term.TheOpen.{Term-F}
use Rattle.sw_logic.specs.declared.syntax.Term.TheFolds.{fold-Term}
use Rattle.sw_logic.specs.declared.syntax.Formula.{Formula}
use Rattle.sw_logic.specs.declared.syntax.Formula.TheVariants.{ForAll, Exists}
use Rattle.sw_logic.specs.declared.syntax.Formula.TheOpen.{Formula-F}
use Rattle.sw_logic.specs.declared.syntax.Formula.TheFolds.{fold-Formula}
use Rattle.sw_logic.specs.declared.structure.Table.{Table}
use Rattle.sw_logic.specs.declared.structure.Table.TheVariants.{Bits, Value, Values}
use Rattle.sw_logic.specs.declared.structure.Structure.{Structure}
use Rattle.sw_logic.specs.declared.structure.Pair.{Pair}

-- a structure for the symbols without a prime, and one for those with it
pub record World : Type 0 where
  pub signature : Signature
  pub before : Structure
  pub after : Structure

abbrev pub world : Signature → Structure → Structure → World
world sig before after = record { signature = sig; before = before; after = after }

-- the table that a symbol reads
abbrev pub table_at : Structure → Structure → ℕ → Bool → Option Table
table_at before after symbol true = slice_get after.tables symbol
table_at before after symbol false = slice_get before.tables symbol

-- the size of a sort
abbrev pub size_of : List ℕ → ℕ → ℕ
size_of sizes sort = unwrap_or (slice_get sizes sort) 0

-- a symbol's argument sorts, none where there is no symbol
abbrev pub args_or_none : Option Symbol → List ℕ
args_or_none None = []
args_or_none (Some s) = s.args

-- the sorts of a symbol's arguments
abbrev pub args_of : Signature → ℕ → List ℕ
args_of sig symbol = args_or_none (slice_get sig.symbols symbol)

-- the place of a tuple among the tuples of these sorts, in lexicographic order, after the place of those before it
abbrev pub place_from : List ℕ → ℕ → List ℕ → List ℕ → ℕ
place_from sizes at [] values = at
place_from sizes at (sort ∷ sorts) [] = at
place_from sizes at (sort ∷ sorts) (value ∷ values) =
    place_from sizes (at * size_of sizes sort + value) sorts values

-- where a symbol's table has the entry of a tuple
abbrev pub place : World → ℕ → List ℕ → ℕ
place w symbol values = place_from w.before.sizes 0 (args_of w.signature symbol) values

-- the value that a table has at a place; here and for a bit, 0 or false where it has none
abbrev pub value_in : Option Table → ℕ → ℕ
value_in (Some (Value value)) at = value
value_in (Some (Values values)) at = unwrap_or (slice_get values at) 0
value_in (Some (Bits bits)) at = 0
value_in None at = 0

-- the bit that a table has at a place
abbrev pub bit_in : Option Table → ℕ → Bool
bit_in (Some (Bits bits)) at = unwrap_or (slice_get bits at) false
bit_in (Some (Value value)) at = false
bit_in (Some (Values values)) at = false
bit_in None at = false

-- the value of a term, with the values of its arguments in their place
abbrev pub value_step : World → List ℕ → Term-F ℕ → ℕ
value_step w env (Term-F.Variable v) = slice_index env v
value_step w env (Term-F.Apply symbol post args) = value_in (table_at w.before w.after symbol post) (place w symbol args)

abbrev pub value_of : World → List ℕ → Term → ℕ
value_of w env = fold-Term ℕ (value_step w env)

abbrev pub values_of : World → List ℕ → List Term → List ℕ
values_of w env terms = map (value_of w env) terms

-- whether each number below n passes, and whether some does
abbrev pub all_below : ℕ → (ℕ → Bool) → Bool
all_below zero p = true
all_below (suc n) p = all_below n p && p n

abbrev pub any_below : ℕ → (ℕ → Bool) → Bool
any_below zero p = false
any_below (suc n) p = any_below n p || p n

-- whether each choice of values for the binders passes, and whether some does
abbrev pub for_all : List ℕ → List Binder → (List ℕ → Bool) → List ℕ → Bool
for_all sizes [] p env = p env
for_all sizes (b ∷ bs) p env = all_below (size_of sizes b.sort) (λ v. for_all sizes bs p (env ++ v ∷ []))

abbrev pub exists : List ℕ → List Binder → (List ℕ → Bool) → List ℕ → Bool
exists sizes [] p env = p env
exists sizes (b ∷ bs) p env = any_below (size_of sizes b.sort) (λ v. exists sizes bs p (env ++ v ∷ []))

-- the truth of a formula at values of its variables, with that of each part in its place
abbrev pub truth_step : World → Formula-F (List ℕ → Bool) → List ℕ → Bool
truth_step w Formula-F.True env = true
truth_step w Formula-F.False env = false
truth_step w (Formula-F.Holds symbol post args) env =
    bit_in (table_at w.before w.after symbol post) (place w symbol (values_of w env args))
truth_step w (Formula-F.Equal a b) env = value_of w env a == value_of w env b
truth_step w (Formula-F.Not p) env = not (p env)
truth_step w (Formula-F.All ps) env = list_all (λ p. p env) ps
truth_step w (Formula-F.Any ps) env = list_any (λ p. p env) ps
truth_step w (Formula-F.Implies p q) env = not (p env) || q env
truth_step w (Formula-F.Iff p q) env = if p env then q env else not (q env)
truth_step w (Formula-F.ForAll binders p) env = for_all w.before.sizes binders p env
truth_step w (Formula-F.Exists binders p) env = exists w.before.sizes binders p env

abbrev pub truth : World → Formula → List ℕ → Bool
truth w = fold-Formula (List ℕ → Bool) (truth_step w)

-- the largest of the numbers
abbrev pub greatest : List ℕ → ℕ
greatest [] = 0
greatest (n ∷ ns) = max n (greatest ns)

-- how many variables binders of a formula have in scope at once, at most
abbrev pub binds_step : Formula-F ℕ → ℕ
binds_step Formula-F.True = 0
binds_step Formula-F.False = 0
binds_step (Formula-F.Holds symbol post args) = 0
binds_step (Formula-F.Equal a b) = 0
binds_step (Formula-F.Not n) = n
binds_step (Formula-F.All ns) = greatest ns
binds_step (Formula-F.Any ns) = greatest ns
binds_step (Formula-F.Implies m n) = max m n
binds_step (Formula-F.Iff m n) = max m n
binds_step (Formula-F.ForAll binders n) = length binders + n
binds_step (Formula-F.Exists binders n) = length binders + n

abbrev pub binds : Formula → ℕ
binds = fold-Formula ℕ binds_step

-- a closed formula is true in a structure, and on a pair of structures with these parameters
abbrev pub IsTrueIn : Signature → Structure → Formula → Type 0
IsTrueIn sig s f = IsTrue (truth (world sig s s) f [])

-- every one of the closed formulas is true in the structure
abbrev pub AreTrueIn : Signature → Structure → List Formula → Type 0
AreTrueIn sig s fs = AllByRecursion (IsTrueIn sig s) fs

abbrev pub IsTrueOn : Signature → Pair → List ℕ → Formula → Type 0
IsTrueOn sig p arguments f = IsTrue (truth (world sig p.before p.after) f arguments)

-- one value below the size of its sort for each binder
abbrev pub AreValues : List ℕ → List Binder → List ℕ → Type 0
AreValues sizes [] [] = Unit {0}
AreValues sizes [] (v ∷ vs) = ⊥
AreValues sizes (b ∷ bs) [] = ⊥
AreValues sizes (b ∷ bs) (v ∷ vs) = (v < size_of sizes b.sort) × AreValues sizes bs vs

-- a universal formula is true exactly where its part is at each choice of values, and an existential one where it is at some
pub record QuantifiersRange (w : World) (binders : List Binder) (part : Formula) (env : List ℕ) : Type 0 where
  pub all : IsTrue (truth w (ForAll binders part) env)
      ↔ ((vs : List ℕ) → AreValues w.before.sizes binders vs → IsTrue (truth w part (env ++ vs)))
  pub some : IsTrue (truth w (Exists binders part) env)
      ↔ ((vs : List ℕ) × AreValues w.before.sizes binders vs × IsTrue (truth w part (env ++ vs)))

abbrev pub QuantifiersAlwaysRange : Type 0
QuantifiersAlwaysRange = (w : World) (binders : List Binder) (part : Formula) (env : List ℕ) → QuantifiersRange w binders part env
