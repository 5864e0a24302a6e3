-- The literals of parts.
use Rattle.std.proofs.Common.{◌≡◌, ℕ, ◌+◌, ◌-◌, ◌/◌, ◌%◌, Bool, true, false, List, [], ◌∷◌, ◌++◌, map, Option, Some, None, rules, arith, refl, sym, ap, ◌∙◌, subst, append-nil, append_assoc}
use Rattle.std.specs.Prelude.{◌==◌, ◌||◌, not, cond, slice_get, Contains, Result, Ok, Err, IfOk}
use Rattle.std.proofs.lemmas.Bool.{and_parts, eqb-true, eq-eqb, ne_eqb, false≢true}
use Rattle.sw_logic.specs.declared.syntax.Signature.{Signature}
use Rattle.sw_logic.specs.declared.syntax.Binder.{Binder}
use Rattle.sw_logic.specs.declared.syntax.Symbol.{Symbol}
use Rattle.sw_logic.specs.declared.syntax.Term.{Term}
use Rattle.sw_logic.specs.declared.syntax.Formula as formulas
use Rattle.sw_logic.specs.declared.syntax.Formula.{Formula}
use Rattle.sw_logic.specs.declared.syntax.Formula.TheVariants as formula
use Rattle.sw_logic.specs.Truth.{args_of, args_or_none}
use Rattle.sw_logic.specs.Sorted.{well_sorted, sort_of, sorts_of, same_sort, is_atom, sorts_match, gives_value}
use Rattle.sw_refute.specs.declared.clauses.Lit.{Lit}
use Rattle.sw_refute.specs.Satisfaction.{variable, is_positive, negation}
use Rattle.sw_truth.specs.declared.sets.SkolemSet.{SkolemSet}
use Rattle.sw_universe.specs.declared.universe.Universe.{Universe}
use Rattle.sw_truth.specs.declared.instances.Atom.{Atom}
use Rattle.sw_truth.specs.Models.{AreOfSorts}
use Rattle.sw_logic.specs.Terms.{put}
use Rattle.sw_ground.specs.declared.table.Table.{Table}
use Rattle.sw_universe.specs.ByNumber.{counts, term_at, terms_at, IsTerm, AreDistinct, AreApart}
use Rattle.sw_numbers.specs.Numbers.{number_of, Stands}
use Rattle.sw_instances.specs.Named.{Name, related, equated, inner, Literal, plain, opposite}
use Rattle.sw_instances.specs.Matrix.{encoded, new}
use Rattle.sw_instances.specs.Numbered.{IsLiteral}
use Rattle.sw_ground.specs.Indexed.{IsNumbering, Numbers}
use Rattle.sw_ground.specs.Building.{IsAround, IsFree}
use Rattle.sw_numbers.proofs.NumbersOfTerms.{Numbered, arguments_numbered, is_numbered}

atom_match : (o : Option Symbol) (found : List (Option ℕ)) → is_atom o (false || not false) found ≡ true → sorts_match (args_or_none o) found ≡ true
atom_match None found e = absurd (false≢true e)
atom_match (Some s) found e = (and_parts (not (gives_value s.kind)) (sorts_match s.args found) e).1

pub related_arguments : (set : SkolemSet) (u : Universe) (sig : Signature) (sizes firsts vars ns : List ℕ) (symbol : ℕ) (args : List Term) → (a : IsAround set u sig sizes firsts vars ns)
    → well_sorted sig false (formula.Holds symbol false args) vars ≡ true → Numbered sig u firsts vars ns a.indexed a.values (args_of sig symbol) args
related_arguments set u sig sizes firsts vars ns symbol args a e =
    let s : well_sorted sig false (formula.Holds symbol false args) vars ≡ is_atom (slice_get sig.symbols symbol) (false || not false) (sorts_of sig false vars args) = search (rules, formulas.the_lemmas) in
    arguments_numbered sig u firsts vars ns a.indexed a.values (args_of sig symbol) args (atom_match (slice_get sig.symbols symbol) (sorts_of sig false vars args) (sym s ∙ e))

-- the literal of a relation, from that over the numbers of its arguments
pub related_part : (set : SkolemSet) (u : Universe) (sig : Signature) (sizes firsts vars ns : List ℕ) (symbol : ℕ) (args : List Term) (numbers : List ℕ)
    (table after : Table) (atoms more : List Atom) (names : List Name) (lit : Lit)
    → numbers ≡ map (number_of sig sizes firsts ns) args
    → ((set : SkolemSet) (u : Universe) (names : List Name) → set.signature ≡ sig → sizes ≡ counts u → AreDistinct u → IsNumbering set u table atoms names
    → AreOfSorts (counts u) (args_of sig symbol) numbers → Numbers set u after more names (plain (related symbol (terms_at u (args_of sig symbol) numbers))) lit)
    → IsAround set u sig sizes firsts vars ns → well_sorted sig false (formula.Holds symbol false args) vars ≡ true → IsNumbering set u table atoms names
    → Numbers set u after more names (plain (related symbol (map (put (terms_at u vars ns)) args))) lit
related_part set u sig sizes firsts vars ns symbol args numbers table after atoms more names lit is h a e n =
    let g = related_arguments set u sig sizes firsts vars ns symbol args a e in
    let same : map (number_of sig (counts u) firsts ns) args ≡ numbers = ap (λ x. map (number_of sig x firsts ns) args) (sym a.counted) ∙ sym is in
    subst (λ ts. Numbers set u after more names (plain (related symbol ts)) lit) (ap (terms_at u (args_of sig symbol)) (sym same) ∙ g.terms)
    (h set u names a.signature a.counted a.distinct n (subst (AreOfSorts (counts u) (args_of sig symbol)) same g.sorted))

-- both sides of an equality that is well sorted
record Sides (a b : Option ℕ) : Type 0 where
  sort : ℕ
  left : a ≡ Some sort
  right : b ≡ Some sort

sides : (a b : Option ℕ) → same_sort a b ≡ true → Sides a b
sides None b e = absurd (false≢true e)
sides (Some k) None e = absurd (false≢true e)
sides (Some k) (Some m) e = record { sort = k; left = refl; right = ap Some (sym (eqb-true k m e)) }

pub equated_part : (set : SkolemSet) (u : Universe) (sig : Signature) (sizes firsts vars ns : List ℕ) (x y : Term) (sort t v : ℕ)
    (table after : Table) (atoms more : List Atom) (names : List Name) (lit : Lit)
    → ((k : ℕ) → sort_of sig false vars x ≡ Some k → sort ≡ k) → t ≡ number_of sig sizes firsts ns x → v ≡ number_of sig sizes firsts ns y
    → ((set : SkolemSet) (u : Universe) (names : List Name) → set.signature ≡ sig → sizes ≡ counts u → AreDistinct u → AreApart u → IsNumbering set u table atoms names
    → IsTerm u sort t → IsTerm u sort v → Numbers set u after more names (plain (equated (term_at u sort t) (term_at u sort v))) lit)
    → IsAround set u sig sizes firsts vars ns → well_sorted sig false (formula.Equal x y) vars ≡ true → IsNumbering set u table atoms names
    → Numbers set u after more names (plain (equated (put (terms_at u vars ns) x) (put (terms_at u vars ns) y))) lit
equated_part set u sig sizes firsts vars ns x y sort t v table after atoms more names lit sorts is_t is_v h a e n =
    let s : well_sorted sig false (formula.Equal x y) vars ≡ same_sort (sort_of sig false vars x) (sort_of sig false vars y) = search (rules, formulas.the_lemmas) in
    let two = sides (sort_of sig false vars x) (sort_of sig false vars y) (sym s ∙ e) in
    let sort_is : two.sort ≡ sort = sym (sorts two.sort two.left) in
    let number = λ (z : Term) (m : ℕ) (is : m ≡ number_of sig sizes firsts ns z). ap (λ q. number_of sig q firsts ns z) (sym a.counted) ∙ sym is in
    let stands = λ (z : Term) (m : ℕ) (k : sort_of sig false vars z ≡ Some two.sort) (is : m ≡ number_of sig sizes firsts ns z).
    subst (λ q. Stands u q m (put (terms_at u vars ns) z)) sort_is
    (subst (λ q. Stands u two.sort q (put (terms_at u vars ns) z)) (number z m is) (is_numbered sig u firsts vars ns a.indexed a.values z two.sort k)) in
    let left = stands x t two.left is_t in
    let right = stands y v two.right is_v in
    subst (λ q. Numbers set u after more names (plain (equated q (put (terms_at u vars ns) y))) lit) left.is
    (subst (λ q. Numbers set u after more names (plain (equated (term_at u sort t) q)) lit) right.is
    (h set u names a.signature a.counted a.distinct a.apart n left.within right.within))

-- the literal of the other sign
record Turned (l : Lit) : Type 0 where
  half : variable (negation l) ≡ variable l
  sign : is_positive (negation l) ≡ not (is_positive l)

turned_by : (n : ℕ) (b : Bool) → (n % 2 == 0) ≡ b → Turned (record { 0 = n })
turned_by n true e =
    let even : n % 2 ≡ 0 = eqb-true (n % 2) 0 e in
    let is : negation (record { 0 = n }) ≡ record { 0 = n + 1 } = ap (λ c. let f : ℕ → Lit = λ m. record { 0 = m } in f (cond c (n + 1) (n - 1))) e in
    let odd : ((n + 1) % 2 == 0) ≡ false = ne_eqb ((n + 1) % 2) 0 (λ z. omega arith) in
    record {
      half = ap variable is ∙ (let h : (n + 1) / 2 ≡ n / 2 = omega arith in h);
      sign = ap is_positive is ∙ odd ∙ ap not (sym e);
    }
turned_by n false e =
    let odd : n % 2 ≡ 1 = omega (arith, λ (z : n % 2 ≡ 0). false≢true (sym e ∙ eq-eqb (n % 2) 0 z)) in
    let is : negation (record { 0 = n }) ≡ record { 0 = n - 1 } = ap (λ c. let f : ℕ → Lit = λ m. record { 0 = m } in f (cond c (n + 1) (n - 1))) e in
    let even : ((n - 1) % 2 == 0) ≡ true = eq-eqb ((n - 1) % 2) 0 (omega arith) in
    record {
      half = ap variable is ∙ (let h : (n - 1) / 2 ≡ n / 2 = omega arith in h);
      sign = ap is_positive is ∙ even ∙ ap not (sym e);
    }

pub opposite_literal : (names : List Name) (l : Literal) (m : Lit) → IsLiteral names l m → IsLiteral names (opposite l) (negation m)
opposite_literal names l m h =
    let t = turned_by m.0 _ refl in
    record { variable = ap (slice_get names) t.half ∙ h.variable; sign = t.sign ∙ ap not h.sign }

pub opposite_part : (set : SkolemSet) (u : Universe) (table : Table) (atoms : List Atom) (names : List Name) (l : Literal) (lit : Lit) → Numbers set u table atoms names l lit
    → Numbers set u table atoms names (opposite l) (negation lit)
opposite_part set u table atoms names l lit h = record { after = h.after; order = h.order; numbering = h.numbering; literal = opposite_literal h.after l lit h.literal }

-- further in it is free too
pub free_inward : (names : List Name) (path : List ℕ) (k : ℕ) → IsFree names path → IsFree names (path ++ k ∷ [])
free_inward names path k f q c = f (k ∷ q) (subst (λ (p : List ℕ). Contains names (inner p)) (append_assoc path (k ∷ []) q) c)

pub free_here : (names : List Name) (path : List ℕ) → IsFree names path → Contains names (inner path) → ⊥
free_here names path f c = f [] (subst (λ (p : List ℕ). Contains names (inner p)) (sym (append-nil path)) c)

module _ (terms : List Term) (path : List ℕ) where
  pub true_literal : (encoded terms formula.True path).literal ≡ new path
  true_literal = search (rules, formulas.the_lemmas)

  pub false_literal : (encoded terms formula.False path).literal ≡ new path
  false_literal = search (rules, formulas.the_lemmas)

  pub not_literal : (p : Formula) → (encoded terms (formula.Not p) path).literal ≡ opposite (encoded terms p (path ++ 0 ∷ [])).literal
  not_literal p = search (rules, formulas.the_lemmas)

  pub all_literal : (ps : List Formula) → (encoded terms (formula.All ps) path).literal ≡ new path
  all_literal ps = search (rules, formulas.the_lemmas)

  pub any_literal : (ps : List Formula) → (encoded terms (formula.Any ps) path).literal ≡ new path
  any_literal ps = search (rules, formulas.the_lemmas)

  pub implies_literal : (p q : Formula) → (encoded terms (formula.Implies p q) path).literal ≡ new path
  implies_literal p q = search (rules, formulas.the_lemmas)

  pub iff_literal : (p q : Formula) → (encoded terms (formula.Iff p q) path).literal ≡ new path
  iff_literal p q = search (rules, formulas.the_lemmas)

  pub for_all_literal : (bs : List Binder) (p : Formula) → (encoded terms (formula.ForAll bs p) path).literal ≡ new path
  for_all_literal bs p = search (rules, formulas.the_lemmas)

  pub exists_literal : (bs : List Binder) (p : Formula) → (encoded terms (formula.Exists bs p) path).literal ≡ new path
  exists_literal bs p = search (rules, formulas.the_lemmas)

-- the literal of a part that has a variable of its own
pub inner_part : {E : Type 0} (sig : Signature) (sizes firsts vars ns : List ℕ) (table after : Table) (atoms more : List Atom) (part f : Formula) (r : Result Lit E)
    → part ≡ f → ((terms : List Term) (path : List ℕ) → (encoded terms f path).literal ≡ new path)
    → IfOk r (λ lit. (set : SkolemSet) (u : Universe) (names : List Name) (path : List ℕ) → IsNumbering set u table atoms names → (Contains names (inner path) → ⊥) → Numbers set u after more names (plain (inner path)) lit)
    → IfOk r (λ lit. (set : SkolemSet) (u : Universe) (names : List Name) (path : List ℕ) → IsAround set u sig sizes firsts vars ns → well_sorted sig false part vars ≡ true
    → IsNumbering set u table atoms names → IsFree names path → Numbers set u after more names (encoded (terms_at u vars ns) part path).literal lit)
inner_part sig sizes firsts vars ns table after atoms more part f (Err x) is e h = tt
inner_part sig sizes firsts vars ns table after atoms more part f (Ok lit) is e h = λ set u names path a w n free.
    subst (λ l. Numbers set u after more names l lit) (sym (ap (λ g. (encoded (terms_at u vars ns) g path).literal) is ∙ e (terms_at u vars ns) path)) (h set u names path n (free_here names path free))

-- the literal of a negation
pub not_part : (sig : Signature) (sizes firsts vars ns : List ℕ) (table after : Table) (atoms more : List Atom) (part p : Formula) (lit result : Lit) → part ≡ formula.Not p → result ≡ negation lit
    → ((set : SkolemSet) (u : Universe) (names : List Name) (path : List ℕ) → IsAround set u sig sizes firsts vars ns → well_sorted sig false p vars ≡ true
    → IsNumbering set u table atoms names → IsFree names path → Numbers set u after more names (encoded (terms_at u vars ns) p path).literal lit)
    → (set : SkolemSet) (u : Universe) (names : List Name) (path : List ℕ) → IsAround set u sig sizes firsts vars ns → well_sorted sig false part vars ≡ true
    → IsNumbering set u table atoms names → IsFree names path → Numbers set u after more names (encoded (terms_at u vars ns) part path).literal result
not_part sig sizes firsts vars ns table after atoms more part p lit result is turned h set u names path a w n free =
    let s : well_sorted sig false (formula.Not p) vars ≡ well_sorted sig false p vars = search (rules, formulas.the_lemmas) in
    let inside = h set u names (path ++ 0 ∷ []) a (sym s ∙ ap (λ f. well_sorted sig false f vars) (sym is) ∙ w) n (free_inward names path 0 free) in
    let literal = ap (λ g. (encoded (terms_at u vars ns) g path).literal) is ∙ not_literal (terms_at u vars ns) path p in
    subst (Numbers set u after more names (encoded (terms_at u vars ns) part path).literal) (sym turned)
    (subst (λ l. Numbers set u after more names l (negation lit)) (sym literal) (opposite_part set u after more names (encoded (terms_at u vars ns) p (path ++ 0 ∷ [])).literal lit inside))
