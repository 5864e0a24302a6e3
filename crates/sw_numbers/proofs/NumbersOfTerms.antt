-- The number of a term by arithmetic is that of its ground term.
use Rattle.std.proofs.Common.{◌≡◌, ℕ, zero, suc, Bool, true, false, List, [], ◌∷◌, map, Option, Some, None, unwrap_or, rules, refl, sym, ap, ◌∙◌, subst}
use Rattle.std.specs.Prelude.{cond, ◌&&◌, not, ◌||◌, slice_get, slice_index}
use Rattle.std.specs.List.{AllByRecursion}
use Rattle.std.proofs.lemmas.Option.{none-some, same_Some}
use Rattle.std.proofs.lemmas.Bool.{and_parts, eqb-true, false≢true}
use Rattle.sw_lists.proofs.Each.{each-pairs}
use Rattle.sw_logic.specs.declared.syntax.Signature.{Signature}
use Rattle.sw_logic.specs.declared.syntax.Symbol.{Symbol}
use Rattle.sw_logic.specs.declared.syntax.Term as terms_of_logic
use Rattle.sw_logic.specs.declared.syntax.Term.{Term, roll-Term}
use Rattle.sw_logic.specs.declared.syntax.Term.TheOpen.{Term-F}
use Rattle.sw_logic.specs.declared.syntax.Term.TheFolds.{ind-Term}
use Rattle.sw_logic.specs.declared.syntax.Term.TheVariants as term
use Rattle.sw_logic.specs.declared.syntax.Term.TheVariants.{rolls-Variable, rolls-Apply}
use Rattle.sw_logic.specs.Sorted.{sort_of, sorts_match, same_sort, value_sort, gives_value}
use Rattle.sw_universe.specs.declared.universe.Universe.{Universe}
use Rattle.sw_truth.specs.Models.{AreOfSorts}
use Rattle.sw_logic.specs.Terms.{put}
use Rattle.sw_universe.specs.ByNumber.{counts, term_at, terms_at}
use Rattle.sw_numbers.specs.Numbers.{applied_number, number_of, Stands, IsIndexed, NumbersAreTerms}

module _ (sig : Signature) (u : Universe) (firsts vars ns : List ℕ) (indexed : IsIndexed sig u firsts) (values : AreOfSorts (counts u) vars ns) where
  abbrev number : Term → ℕ
  number = number_of sig (counts u) firsts ns

  abbrev sort_here : Term → Option ℕ
  sort_here = sort_of sig false vars

  abbrev IsNumbered : Term → Type 0
  IsNumbered t = (sort : ℕ) → sort_here t ≡ Some sort → Stands u sort (number t) (put (terms_at u vars ns) t)

  of_variable : (vs ms : List ℕ) (v sort : ℕ) (d : Term) → AreOfSorts (counts u) vs ms → slice_get vs v ≡ Some sort → Stands u sort (slice_index ms v) (unwrap_or (slice_get (terms_at u vs ms) v) d)
  of_variable [] [] v sort d h e = absurd (none-some sort e)
  of_variable [] (m ∷ ms) v sort d h e = absurd h
  of_variable (s ∷ vs) [] v sort d h e = absurd h
  of_variable (s ∷ vs) (m ∷ ms) zero sort d h e =
      let same = same_Some s sort e in
      subst (λ k. Stands u k m (term_at u s m)) same (record { within = h.0; is = refl })
  of_variable (s ∷ vs) (m ∷ ms) (suc v) sort d h e = of_variable vs ms v sort d h.1 e

  variable : (v : ℕ) → IsNumbered (term.Variable v)
  variable v sort e =
      let a : number (term.Variable v) ≡ slice_index ns v = search (rules, terms_of_logic.the_lemmas) in
      let b : put (terms_at u vars ns) (term.Variable v) ≡ unwrap_or (slice_get (terms_at u vars ns) v) (term.Variable v) = search (rules, terms_of_logic.the_lemmas) in
      let s : sort_here (term.Variable v) ≡ slice_get vars v = search (rules, terms_of_logic.the_lemmas) in
      subst (λ n. Stands u sort n (put (terms_at u vars ns) (term.Variable v))) (sym a)
      (subst (Stands u sort (slice_index ns v)) (sym b) (of_variable vars ns v sort (term.Variable v) values (sym s ∙ e)))

  -- the numbers of arguments that have their sorts
  pub record Numbered (sorts : List ℕ) (ts : List Term) : Type 0 where
    pub sorted : AreOfSorts (counts u) sorts (map number ts)
    pub terms : terms_at u sorts (map number ts) ≡ map (put (terms_at u vars ns)) ts

  same_is : (sort : ℕ) (o : Option ℕ) → same_sort (Some sort) o ≡ true → o ≡ Some sort
  same_is sort None e = absurd (false≢true e)
  same_is sort (Some k) e = ap Some (sym (eqb-true sort k e))

  arguments : (sorts : List ℕ) (ts : List Term) → AllByRecursion IsNumbered ts → sorts_match sorts (map sort_here ts) ≡ true → Numbered sorts ts
  arguments [] [] h e = record { sorted = tt; terms = refl }
  arguments [] (t ∷ ts) h e = absurd (false≢true e)
  arguments (s ∷ sorts) [] h e = absurd (false≢true e)
  arguments (s ∷ sorts) (t ∷ ts) h e =
      let both = and_parts (same_sort (Some s) (sort_here t)) (sorts_match sorts (map sort_here ts)) e in
      let one = h.0 s (same_is s (sort_here t) both.0) in
      let rest = arguments sorts ts h.1 both.1 in
      record {
        sorted = (one.within, rest.sorted);
        terms = ap (λ (x : Term). x ∷ terms_at u sorts (map number ts)) one.is ∙ ap (λ (xs : List Term). put (terms_at u vars ns) t ∷ xs) rest.terms;
      }

  -- what a symbol that gives a value of the sort is
  record Gives (o : Option Symbol) (readable : Bool) (found : List (Option ℕ)) (sort : ℕ) : Type 0 where
    symbol : Symbol
    is : o ≡ Some symbol
    read : readable ≡ true
    value : gives_value symbol.kind ≡ true
    match : sorts_match symbol.args found ≡ true
    gives : symbol.gives ≡ sort

  gives_by : (s : Symbol) (readable : Bool) (found : List (Option ℕ)) (sort : ℕ) (b : Bool) → (readable && (gives_value s.kind && sorts_match s.args found)) ≡ b
      → cond b (Some s.gives) None ≡ Some sort → Gives (Some s) readable found sort
  gives_by s readable found sort true e f =
      let one = and_parts readable (gives_value s.kind && sorts_match s.args found) e in
      let two = and_parts (gives_value s.kind) (sorts_match s.args found) one.1 in
      record { symbol = s; is = refl; read = one.0; value = two.0; match = two.1; gives = same_Some s.gives sort f }
  gives_by s readable found sort false e f = absurd (none-some sort f)

  gives_of : (o : Option Symbol) (readable : Bool) (found : List (Option ℕ)) (sort : ℕ) → value_sort o readable found ≡ Some sort → Gives o readable found sort
  gives_of None readable found sort e = absurd (none-some sort e)
  gives_of (Some s) readable found sort e = gives_by s readable found sort _ refl e

  plain_symbol : (post : Bool) → (false || not post) ≡ true → post ≡ false
  plain_symbol true e = absurd (false≢true e)
  plain_symbol false e = refl

  apply : (symbol : ℕ) (post : Bool) (args : List Term) → AllByRecursion IsNumbered args → IsNumbered (term.Apply symbol post args)
  apply symbol post args h sort e =
      let terms = terms_at u vars ns in
      let a : number (term.Apply symbol post args) ≡ applied_number sig (counts u) firsts symbol (map number args) = search (rules, terms_of_logic.the_lemmas) in
      let b : put terms (term.Apply symbol post args) ≡ term.Apply symbol post (map (put terms) args) = search (rules, terms_of_logic.the_lemmas) in
      let s : sort_here (term.Apply symbol post args) ≡ value_sort (slice_get sig.symbols symbol) (false || not post) (map sort_here args) = search (rules, terms_of_logic.the_lemmas) in
      let g = gives_of (slice_get sig.symbols symbol) (false || not post) (map sort_here args) sort (sym s ∙ e) in
      let n = arguments g.symbol.args args h g.match in
      let st = indexed symbol g.symbol (map number args) g.is g.value n.sorted in
      let same : term.Apply symbol false (terms_at u g.symbol.args (map number args)) ≡ put terms (term.Apply symbol post args) =
      ap (term.Apply symbol false) n.terms ∙ ap (λ p. term.Apply symbol p (map (put terms) args)) (sym (plain_symbol post g.read)) ∙ sym b in
      subst (λ k. Stands u k (number (term.Apply symbol post args)) (put terms (term.Apply symbol post args))) g.gives
      (subst (λ k. Stands u g.symbol.gives k (put terms (term.Apply symbol post args))) (sym a)
      (subst (Stands u g.symbol.gives (applied_number sig (counts u) firsts symbol (map number args))) same st))

  layer : (y : Term-F ((t : Term) × IsNumbered t)) → IsNumbered (roll-Term (terms_of_logic.map-Term ((t : Term) × IsNumbered t) Term (λ e. e.0) y))
  layer (Term-F.Variable v) = subst IsNumbered (sym (rolls-Variable v)) (variable v)
  layer (Term-F.Apply symbol post ts) = subst IsNumbered (sym (rolls-Apply symbol post (map (λ e. e.0) ts))) (apply symbol post (map (λ e. e.0) ts) (each-pairs IsNumbered ts))

  pub is_numbered : (t : Term) → IsNumbered t
  is_numbered = ind-Term IsNumbered (λ x y is. subst (λ z. IsNumbered (roll-Term z)) is (layer y))

  each_numbered : (ts : List Term) → AllByRecursion IsNumbered ts
  each_numbered [] = tt
  each_numbered (t ∷ ts) = (is_numbered t, each_numbered ts)

  pub arguments_numbered : (sorts : List ℕ) (ts : List Term) → sorts_match sorts (map sort_here ts) ≡ true → Numbered sorts ts
  arguments_numbered sorts ts e = arguments sorts ts (each_numbered ts) e

pub numbers_are : NumbersAreTerms
numbers_are sig u firsts vars ns indexed values = is_numbered sig u firsts vars ns indexed values

-- the sort of a variable
pub variable_sort : (sig : Signature) (vars : List ℕ) (t : Term) (v sort k : ℕ) → t ≡ term.Variable v → Some sort ≡ slice_get vars v → sort_of sig false vars t ≡ Some k → sort ≡ k
variable_sort sig vars t v sort k is at e =
    let s : sort_of sig false vars (term.Variable v) ≡ slice_get vars v = search (rules, terms_of_logic.the_lemmas) in
    same_Some sort k (at ∙ sym s ∙ ap (sort_of sig false vars) (sym is) ∙ e)
