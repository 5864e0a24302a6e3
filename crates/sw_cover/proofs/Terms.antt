-- The terms of a sort: each is well sorted and no deeper than the bound, each such term is one of them, and no two are equal.
use Rattle.std.specs.Prelude.{◌≡◌, ◌⊎◌, ℕ, zero, suc, ◌+◌, ◌<◌, ◌≤◌, ◌==◌, ◌&&◌, ◌||◌, not, max, Bool, true, false, cond, List, [], ◌∷◌, map, length, slice_get, Option, Some, None}
use Rattle.std.specs.List.{AllByRecursion, flat_map, filter, enumerate_from}
use Rattle.std.proofs.Common.{rules, refl, arith, subst, sym, ap, ◌∙◌, inl, inr, eq-eqb}
use Rattle.std.proofs.lemmas.Bool.{and_from, false≢true, eqb-true, cases_lt}
use Rattle.std.proofs.lemmas.Option.{none-some, same_Some}
use Rattle.sw_logic.specs.declared.syntax.SymbolKind.{SymbolKind}
use Rattle.sw_logic.specs.declared.syntax.SymbolKind.TheVariants.{Relation, Constant, Function}
use Rattle.sw_logic.specs.declared.syntax.Symbol.{Symbol}
use Rattle.sw_logic.specs.declared.syntax.Signature.{Signature}
use Rattle.sw_logic.specs.declared.syntax.Term.{Term, roll-Term, out-Term}
use Rattle.sw_logic.specs.declared.syntax.Term.TheFolds.{ind-Term}
use Rattle.sw_logic.specs.declared.syntax.Term.TheVariants.{Variable, Apply}
use Rattle.sw_logic.specs.declared.syntax.Term.TheOpen.{Term-F}
use Rattle.sw_logic.specs.declared.syntax.Term as term
use Rattle.sw_logic.specs.Truth.{greatest}
use Rattle.sw_logic.specs.Sorted.{sort_of, sorts_of, same_sort, sorts_match, value_sort, gives_value}
use Rattle.sw_meaning.specs.Space.{depth_of, depth_step}
use Rattle.sw_meaning.specs.Classes.{terms_of, tuples, symbols_of, giving, is_constant, is_function}
use Rattle.sw_lists.proofs.Each.{each-append, each-map, each-any, each-weaker, each-filter, each-flat_map, each-both}
use Rattle.sw_logic.specs.Signatures.{is_signature}
use Rattle.sw_cover.specs.Apart.{Apart}
use Rattle.sw_cover.proofs.Declared.{IsDeclared, declared_at}
use Rattle.sw_cover.proofs.Members.{Has, has-front, has-back, has-map, has-flat_map, has-filter, each-passes, has-enumerate, each-enumerate, HasEach, has-tuple, each-from_all, apart-map, apart-filter, apart-enumerate, apart-flat_map, apart-tuples}

pub depth-Variable : (v : ℕ) → depth_of (Variable v) ≡ 0
depth-Variable v = search (rules, term.the_lemmas)

pub sort-Variable : (sig : Signature) (post : Bool) (scope : List ℕ) (v : ℕ) → sort_of sig post scope (Variable v) ≡ slice_get scope v
sort-Variable sig post scope v = search (rules, term.the_lemmas)

pub sort-Apply : (sig : Signature) (post : Bool) (scope : List ℕ) (symbol : ℕ) (primed : Bool) (args : List Term)
    → sort_of sig post scope (Apply symbol primed args) ≡ value_sort (slice_get sig.symbols symbol) (post || not primed) (sorts_of sig post scope args)
sort-Apply sig post scope symbol primed args = search (rules, term.the_lemmas)

pub depth-Apply : (symbol : ℕ) (post : Bool) (args : List Term) → depth_of (Apply symbol post args) ≡ depth_step (Term-F.Apply symbol post (map depth_of args))
depth-Apply symbol post args = search (rules, term.the_lemmas)

rolls-Variable : (v : ℕ) → roll-Term (Term-F.Variable v) ≡ Variable v
rolls-Variable v = search (rules, term.the_lemmas)

rolls-Apply : (symbol : ℕ) (post : Bool) (args : List Term) → roll-Term (Term-F.Apply symbol post args) ≡ Apply symbol post args
rolls-Apply symbol post args = search (rules, term.the_lemmas)

out-Apply : (symbol : ℕ) (post : Bool) (args : List Term) → out-Term (Apply symbol post args) ≡ Term-F.Apply symbol post args
out-Apply symbol post args = search (rules, term.the_lemmas)

-- a term is a variable or an application
pub data Shape (t : Term) : Type 0 where
  variable : (v : ℕ) → t ≡ Variable v → Shape t
  application : (symbol : ℕ) (post : Bool) (args : List Term) → t ≡ Apply symbol post args → Shape t

shape_of_layer : (x : Term-F Term) → Shape (roll-Term x)
shape_of_layer (Term-F.Variable v) = Shape.variable v (rolls-Variable v)
shape_of_layer (Term-F.Apply symbol post args) = Shape.application symbol post args (rolls-Apply symbol post args)

pub shape_of : (t : Term) → Shape t
shape_of = ind-Term Shape (λ x y is. shape_of_layer x)

pub first_true : (a b : Bool) → (a && b) ≡ true → a ≡ true
first_true true b e = refl
first_true false b e = e

pub rest_true : (a b : Bool) → (a && b) ≡ true → b ≡ true
rest_true true b e = e
rest_true false b e = absurd (false≢true e)

-- the largest is at least each
each_at_most : (ns : List ℕ) → AllByRecursion (λ n. n ≤ greatest ns) ns
each_at_most [] = tt
each_at_most (n ∷ ns) = (le_max n (greatest ns), each-weaker (λ m. m ≤ greatest ns) (λ m. m ≤ max n (greatest ns)) (λ m h. le_right m n (greatest ns) h) ns (each_at_most ns))
  where
    le_max : (a b : ℕ) → a ≤ max a b
    le_max a b = omega arith

    le_right : (m a b : ℕ) → m ≤ b → m ≤ max a b
    le_right m a b h = omega arith

-- what a well sorted application is
pub record Applies (sig : Signature) (found : List (Option ℕ)) (o : Option Symbol) (post : Bool) (sort : ℕ) : Type 0 where
  pub symbol : Symbol
  pub is : o ≡ Some symbol
  pub plain : post ≡ false
  pub value : gives_value symbol.kind ≡ true
  pub args : sorts_match symbol.args found ≡ true
  pub gives : symbol.gives ≡ sort

chosen : (b : Bool) (n m : ℕ) → cond b (Some n) None ≡ Some m → (b ≡ true) × (n ≡ m)
chosen true n m e = (refl, same_Some n m e)
chosen false n m e = absurd (none-some m e)

plain_of : (post : Bool) → (false || not post) ≡ true → post ≡ false
plain_of true e = absurd (false≢true e)
plain_of false e = refl

pub applies : (sig : Signature) (found : List (Option ℕ)) (o : Option Symbol) (post : Bool) (sort : ℕ) → value_sort o (false || not post) found ≡ Some sort → Applies sig found o post sort
applies sig found None post sort e = absurd (none-some sort e)
applies sig found (Some s) post sort e =
    let both : (((false || not post) && (gives_value s.kind && sorts_match s.args found)) ≡ true) × (s.gives ≡ sort) = chosen ((false || not post) && (gives_value s.kind && sorts_match s.args found)) s.gives sort e in
    let inner : (gives_value s.kind && sorts_match s.args found) ≡ true = rest_true (false || not post) (gives_value s.kind && sorts_match s.args found) both.0 in
    record {
      symbol = s;
      is = refl;
      plain = plain_of post (first_true (false || not post) (gives_value s.kind && sorts_match s.args found) both.0);
      value = first_true (gives_value s.kind) (sorts_match s.args found) inner;
      args = rest_true (gives_value s.kind) (sorts_match s.args found) inner;
      gives = both.1;
    }

value_of_symbol : (s : Symbol) (found : List (Option ℕ)) → gives_value s.kind ≡ true → sorts_match s.args found ≡ true → value_sort (Some s) true found ≡ Some s.gives
value_of_symbol s found v m = ap (λ b. cond (true && b) (Some s.gives) None) (and_from (gives_value s.kind) (sorts_match s.args found) v m)

constant_kind : (k : SymbolKind) → is_constant k ≡ true → (k ≡ Constant) × (gives_value k ≡ true)
constant_kind Relation e = absurd (false≢true e)
constant_kind Constant e = (refl, refl)
constant_kind Function e = absurd (false≢true e)

function_kind : (k : SymbolKind) → is_function k ≡ true → (k ≡ Function) × (gives_value k ≡ true)
function_kind Relation e = absurd (false≢true e)
function_kind Constant e = absurd (false≢true e)
function_kind Function e = (refl, refl)

kind_with_value : (k : SymbolKind) → gives_value k ≡ true → (k ≡ Constant) ⊎ (k ≡ Function)
kind_with_value Relation e = absurd (false≢true e)
kind_with_value Constant e = inl refl
kind_with_value Function e = inr refl

found_sort : (sort : ℕ) (o : Option ℕ) → same_sort (Some sort) o ≡ true → o ≡ Some sort
found_sort sort None e = absurd (false≢true e)
found_sort sort (Some n) e = ap Some (sym (eqb-true sort n e))

module _ (sig : Signature) (scope : List ℕ) (declared : is_signature sig ≡ true) where
  -- a term of a sort that is no deeper than d
  pub record IsTermOf (d sort : ℕ) (t : Term) : Type 0 where
    pub depth : depth_of t ≤ d
    pub sorted : sort_of sig false scope t ≡ Some sort

  deeper : (d sort : ℕ) (t : Term) → IsTermOf d sort t → IsTermOf (suc d) sort t
  deeper d sort t i = record { depth = omega (arith, i.depth); sorted = i.sorted }

  -- arguments of these sorts that are no deeper than d
  pub record AreArguments (d : ℕ) (sorts : List ℕ) (args : List Term) : Type 0 where
    pub depths : AllByRecursion (λ n. n ≤ d) (map depth_of args)
    pub sorted : sorts_match sorts (sorts_of sig false scope args) ≡ true
    pub size : length args ≡ length sorts

  argument : (d sort : ℕ) (sorts : List ℕ) (t : Term) (args : List Term) → IsTermOf d sort t → AreArguments d sorts args → AreArguments d (sort ∷ sorts) (t ∷ args)
  argument d sort sorts t args i a = record {
    depths = (i.depth, a.depths);
    sorted = and_from (same_sort (Some sort) (sort_of sig false scope t)) (sorts_match sorts (sorts_of sig false scope args)) (ap (same_sort (Some sort)) i.sorted ∙ eq-eqb sort sort refl) a.sorted;
    size = ap suc a.size;
  }

  pub arguments_are : (d : ℕ) → ((sort : ℕ) → AllByRecursion (IsTermOf d sort) (terms_of sig scope d sort)) → (sorts : List ℕ) → AllByRecursion (AreArguments d sorts) (tuples (map (terms_of sig scope d) sorts))
  arguments_are d terms [] = (record { depths = tt; sorted = refl; size = refl }, tt)
  arguments_are d terms (sort ∷ sorts) =
      let rest : AllByRecursion (AreArguments d sorts) (tuples (map (terms_of sig scope d) sorts)) = arguments_are d terms sorts in
      each-flat_map (AreArguments d (sort ∷ sorts)) (λ x. map (λ tuple. x ∷ tuple) (tuples (map (terms_of sig scope d) sorts))) (terms_of sig scope d sort)
      (each-weaker (IsTermOf d sort) (λ x. AllByRecursion (AreArguments d (sort ∷ sorts)) (map (λ tuple. x ∷ tuple) (tuples (map (terms_of sig scope d) sorts))))
      (λ x i. each-map (AreArguments d (sort ∷ sorts)) (λ tuple. x ∷ tuple) (tuples (map (terms_of sig scope d) sorts))
      (each-weaker (AreArguments d sorts) (λ tuple. AreArguments d (sort ∷ sorts) (x ∷ tuple)) (λ tuple a. argument d sort sorts x tuple i a) (tuples (map (terms_of sig scope d) sorts)) rest))
      (terms_of sig scope d sort) (terms sort))

  -- a numbered symbol of a kind that gives a sort
  record Gives (kind : SymbolKind → Bool) (sort : ℕ) (s : ℕ × Symbol) : Type 0 where
    pub at : slice_get sig.symbols s.0 ≡ Some s.1
    pub kind_is : kind s.1.kind ≡ true
    pub gives : s.1.gives ≡ sort

  symbols_give : (kind : SymbolKind → Bool) (sort : ℕ) → AllByRecursion (Gives kind sort) (giving sort (symbols_of sig kind))
  symbols_give kind sort =
      let all : List (ℕ × Symbol) = enumerate_from 0 sig.symbols in
      let places : AllByRecursion (λ s. slice_get sig.symbols s.0 ≡ Some s.1) all = each-enumerate sig.symbols 0 sig.symbols (λ j. ap (slice_get sig.symbols) (omega arith)) in
      let some : List (ℕ × Symbol) = symbols_of sig kind in
      let both : AllByRecursion (λ s. (slice_get sig.symbols s.0 ≡ Some s.1) × (kind s.1.kind ≡ true)) some =
      each-both (λ s. slice_get sig.symbols s.0 ≡ Some s.1) (λ s. kind s.1.kind ≡ true) some
      (each-filter (λ s. slice_get sig.symbols s.0 ≡ Some s.1) (λ s. kind s.1.kind) all places) (each-passes (λ s. kind s.1.kind) all) in
      each-weaker (λ s. ((slice_get sig.symbols s.0 ≡ Some s.1) × (kind s.1.kind ≡ true)) × ((s.1.gives == sort) ≡ true)) (Gives kind sort)
      (λ s h. record { at = h.0.0; kind_is = h.0.1; gives = eqb-true s.1.gives sort h.1 }) (giving sort some)
      (each-both (λ s. (slice_get sig.symbols s.0 ≡ Some s.1) × (kind s.1.kind ≡ true)) (λ s. (s.1.gives == sort) ≡ true) (giving sort some)
      (each-filter (λ s. (slice_get sig.symbols s.0 ≡ Some s.1) × (kind s.1.kind ≡ true)) (λ s. s.1.gives == sort) some both)
      (each-passes (λ s. s.1.gives == sort) some))

  gives_it : (kind : SymbolKind → Bool) (sort i : ℕ) (s : Symbol) → slice_get sig.symbols i ≡ Some s → kind s.kind ≡ true → s.gives ≡ sort → Has {X = ℕ × Symbol} (i, s) (giving sort (symbols_of sig kind))
  gives_it kind sort i s e k g =
      let place : Has {X = ℕ × Symbol} (0 + i, s) (enumerate_from 0 sig.symbols) = has-enumerate 0 i s sig.symbols e in
      let zero_add : 0 + i ≡ i = omega arith in
      let there : Has {X = ℕ × Symbol} (i, s) (enumerate_from 0 sig.symbols) = subst (λ j. Has {X = ℕ × Symbol} (j, s) (enumerate_from 0 sig.symbols)) zero_add place in
      has-filter (λ e. e.1.gives == sort) (i, s) (symbols_of sig kind) (has-filter (λ e. kind e.1.kind) (i, s) (enumerate_from 0 sig.symbols) there k) (eq-eqb s.gives sort g)

  constant_is : (sort : ℕ) (s : ℕ × Symbol) → Gives is_constant sort s → IsTermOf 0 sort (Apply s.0 false [])
  constant_is sort s g =
      let kind : (s.1.kind ≡ Constant) × (gives_value s.1.kind ≡ true) = constant_kind s.1.kind g.kind_is in
      let none : s.1.args ≡ [] = (declared_at sig declared s.0 s.1 g.at).constant kind.0 in
      let match : sorts_match s.1.args [] ≡ true = ap (λ args. sorts_match args []) none in
      record {
        depth = omega (arith, depth-Apply s.0 false []);
        sorted = sort-Apply sig false scope s.0 false [] ∙ (ap (λ o. value_sort o true []) g.at ∙ (value_of_symbol s.1 [] kind.1 match ∙ ap Some g.gives));
      }

  variable_is : (sort : ℕ) (v : ℕ × ℕ) → (slice_get scope v.0 ≡ Some v.1) × ((v.1 == sort) ≡ true) → IsTermOf 0 sort (Variable v.0)
  variable_is sort v h = record {
    depth = omega (arith, depth-Variable v.0);
    sorted = sort-Variable sig false scope v.0 ∙ (h.0 ∙ ap Some (eqb-true v.1 sort h.1));
  }

  -- the applications of a function of the sort to arguments of which the deepest has depth d
  abbrev applications : ℕ → ℕ × Symbol → List Term
  applications d s = map (Apply s.0 false) (filter (λ args. greatest (map depth_of args) == d) (tuples (map (terms_of sig scope d) s.1.args)))

  -- an application of the symbol that is deeper than d by one
  record IsApplication (d sort : ℕ) (s : ℕ × Symbol) (t : Term) : Type 0 where
    pub args : List Term
    pub is : t ≡ Apply s.0 false args
    pub deep : depth_of t ≡ suc d
    pub sorted : sort_of sig false scope t ≡ Some sort

  deep_application : (d i : ℕ) (args : List Term) → 0 < length args → greatest (map depth_of args) ≡ d → depth_of (Apply i false args) ≡ suc d
  deep_application d i [] h e = absurd (omega (arith, h))
  deep_application d i (a ∷ args) h e = depth-Apply i false (a ∷ args) ∙ (ap (λ n. n + 1) e ∙ omega arith)

  application_is : (d sort : ℕ) (s : ℕ × Symbol) → Gives is_function sort s → (args : List Term) → AreArguments d s.1.args args × ((greatest (map depth_of args) == d) ≡ true) → IsApplication d sort s (Apply s.0 false args)
  application_is d sort s g args h =
      let kind : (s.1.kind ≡ Function) × (gives_value s.1.kind ≡ true) = function_kind s.1.kind g.kind_is in
      let some : 0 < length s.1.args = (declared_at sig declared s.0 s.1 g.at).function kind.0 in
      record {
        args = args;
        is = refl;
        deep = deep_application d s.0 args (omega (arith, some, h.0.size)) (eqb-true (greatest (map depth_of args)) d h.1);
        sorted = sort-Apply sig false scope s.0 false args ∙ (ap (λ o. value_sort o true (sorts_of sig false scope args)) g.at ∙ (value_of_symbol s.1 (sorts_of sig false scope args) kind.1 h.0.sorted ∙ ap Some g.gives));
      }

  applications_are : (d sort : ℕ) → ((sort : ℕ) → AllByRecursion (IsTermOf d sort) (terms_of sig scope d sort)) → (s : ℕ × Symbol) → Gives is_function sort s → AllByRecursion (IsApplication d sort s) (applications d s)
  applications_are d sort terms s g =
      let all : List (List Term) = tuples (map (terms_of sig scope d) s.1.args) in
      let test : List Term → Bool = λ args. greatest (map depth_of args) == d in
      each-map (IsApplication d sort s) (Apply s.0 false) (filter test all)
      (each-weaker (λ args. AreArguments d s.1.args args × (test args ≡ true)) (λ args. IsApplication d sort s (Apply s.0 false args)) (application_is d sort s g) (filter test all)
      (each-both (AreArguments d s.1.args) (λ args. test args ≡ true) (filter test all) (each-filter (AreArguments d s.1.args) test all (arguments_are d terms s.1.args)) (each-passes test all)))

  pub terms_are : (d sort : ℕ) → AllByRecursion (IsTermOf d sort) (terms_of sig scope d sort)
  terms_are zero sort =
      each-append (IsTermOf 0 sort) _ _
      (each-map (IsTermOf 0 sort) (λ v. Variable v.0) _
      (each-weaker (λ v. (slice_get scope v.0 ≡ Some v.1) × ((v.1 == sort) ≡ true)) (λ v. IsTermOf 0 sort (Variable v.0)) (variable_is sort) (filter (λ v. v.1 == sort) (enumerate_from 0 scope))
      (each-both (λ v. slice_get scope v.0 ≡ Some v.1) (λ v. (v.1 == sort) ≡ true) (filter (λ v. v.1 == sort) (enumerate_from 0 scope))
      (each-filter (λ v. slice_get scope v.0 ≡ Some v.1) (λ v. v.1 == sort) (enumerate_from 0 scope) (each-enumerate scope 0 scope (λ j. ap (slice_get scope) (omega arith))))
      (each-passes (λ v. v.1 == sort) (enumerate_from 0 scope)))))
      (each-map (IsTermOf 0 sort) (λ s. Apply s.0 false []) (giving sort (symbols_of sig is_constant))
      (each-weaker (Gives is_constant sort) (λ s. IsTermOf 0 sort (Apply s.0 false [])) (constant_is sort) (giving sort (symbols_of sig is_constant)) (symbols_give is_constant sort)))
  terms_are (suc d) sort =
      each-append (IsTermOf (suc d) sort) (terms_of sig scope d sort) _
      (each-weaker (IsTermOf d sort) (IsTermOf (suc d) sort) (deeper d sort) (terms_of sig scope d sort) (terms_are d sort))
      (each-flat_map (IsTermOf (suc d) sort) (applications d) (giving sort (symbols_of sig is_function))
      (each-weaker (Gives is_function sort) (λ s. AllByRecursion (IsTermOf (suc d) sort) (applications d s))
      (λ s g. each-weaker (IsApplication d sort s) (IsTermOf (suc d) sort) (λ t a. record { depth = omega (arith, a.deep); sorted = a.sorted }) (applications d s) (applications_are d sort (terms_are d) s g))
      (giving sort (symbols_of sig is_function)) (symbols_give is_function sort)))

  depths_of : (d : ℕ) (args : List Term) → greatest (map depth_of args) ≤ d → AllByRecursion (λ n. n ≤ d) (map depth_of args)
  depths_of d args h = each-weaker (λ n. n ≤ greatest (map depth_of args)) (λ n. n ≤ d) (λ n k. omega (arith, h, k)) (map depth_of args) (each_at_most (map depth_of args))

  -- each argument of the right sort and depth is one of the terms of its sort
  pub has_arguments : (d : ℕ) → ((t : Term) (sort : ℕ) → IsTermOf d sort t → Has t (terms_of sig scope d sort)) → (sorts : List ℕ) (args : List Term)
      → sorts_match sorts (sorts_of sig false scope args) ≡ true → AllByRecursion (λ n. n ≤ d) (map depth_of args) → HasEach args (map (terms_of sig scope d) sorts)
  has_arguments d has [] [] m a = tt
  has_arguments d has [] (t ∷ args) m a = absurd (false≢true m)
  has_arguments d has (sort ∷ sorts) [] m a = absurd (false≢true m)
  has_arguments d has (sort ∷ sorts) (t ∷ args) m a =
      let here : same_sort (Some sort) (sort_of sig false scope t) ≡ true = first_true (same_sort (Some sort) (sort_of sig false scope t)) (sorts_match sorts (sorts_of sig false scope args)) m in
      let rest : sorts_match sorts (sorts_of sig false scope args) ≡ true = rest_true (same_sort (Some sort) (sort_of sig false scope t)) (sorts_match sorts (sorts_of sig false scope args)) m in
      (has t sort (record { depth = a.0; sorted = found_sort sort (sort_of sig false scope t) here }), has_arguments d has sorts args rest a.1)

  has_variable : (v sort : ℕ) → slice_get scope v ≡ Some sort → Has (Variable v) (terms_of sig scope 0 sort)
  has_variable v sort e =
      let place : Has {X = ℕ × ℕ} (0 + v, sort) (enumerate_from 0 scope) = has-enumerate 0 v sort scope e in
      let zero_add : 0 + v ≡ v = omega arith in
      let there : Has {X = ℕ × ℕ} (v, sort) (enumerate_from 0 scope) = subst (λ j. Has {X = ℕ × ℕ} (j, sort) (enumerate_from 0 scope)) zero_add place in
      has-front (Variable v) _ _ (has-map (λ v. Variable v.0) (v, sort) (filter (λ v. v.1 == sort) (enumerate_from 0 scope)) (has-filter (λ v. v.1 == sort) (v, sort) (enumerate_from 0 scope) there (eq-eqb sort sort refl)))

  constant_of : (s : Symbol) → IsDeclared (length sig.sorts) s → gives_value s.kind ≡ true → length s.args ≡ 0 → is_constant s.kind ≡ true
  constant_of s w v none = elim (kind_with_value s.kind v) [
    | inl e ↦ ap is_constant e
    | inr e ↦ absurd (omega (arith, w.function e, none))
  ]

  function_of : (s : Symbol) → IsDeclared (length sig.sorts) s → gives_value s.kind ≡ true → 0 < length s.args → is_function s.kind ≡ true
  function_of s w v some = elim (kind_with_value s.kind v) [
    | inl e ↦ absurd (omega (arith, ap (length {A = ℕ}) (w.constant e), some))
    | inr e ↦ ap is_function e
  ]

  matched_length : (sorts : List ℕ) (args : List Term) → sorts_match sorts (sorts_of sig false scope args) ≡ true → length sorts ≡ length args
  matched_length [] [] m = refl
  matched_length [] (t ∷ args) m = absurd (false≢true m)
  matched_length (sort ∷ sorts) [] m = absurd (false≢true m)
  matched_length (sort ∷ sorts) (t ∷ args) m = ap suc (matched_length sorts args (rest_true (same_sort (Some sort) (sort_of sig false scope t)) (sorts_match sorts (sorts_of sig false scope args)) m))

  pub applied : (i : ℕ) (post : Bool) (args : List Term) (sort : ℕ) → sort_of sig false scope (Apply i post args) ≡ Some sort → Applies sig (sorts_of sig false scope args) (slice_get sig.symbols i) post sort
  applied i post args sort e = applies sig (sorts_of sig false scope args) (slice_get sig.symbols i) post sort (sym (sort-Apply sig false scope i post args) ∙ e)

  no_arguments : (i : ℕ) (post : Bool) (args : List Term) → depth_of (Apply i post args) ≤ 0 → args ≡ []
  no_arguments i post [] h = refl
  no_arguments i post (a ∷ args) h = absurd (omega (arith, h, depth-Apply i post (a ∷ args)))

  has_constant : (i : ℕ) (post : Bool) (args : List Term) (sort : ℕ) → IsTermOf 0 sort (Apply i post args) → Has (Apply i post args) (terms_of sig scope 0 sort)
  has_constant i post args sort t =
      let a : Applies sig (sorts_of sig false scope args) (slice_get sig.symbols i) post sort = applied i post args sort t.sorted in
      let none : args ≡ [] = no_arguments i post args t.depth in
      let empty : length a.symbol.args ≡ 0 = matched_length a.symbol.args args a.args ∙ ap (length {A = Term}) none in
      let kind : is_constant a.symbol.kind ≡ true = constant_of a.symbol (declared_at sig declared i a.symbol a.is) a.value empty in
      let there : Has (Apply i false []) (terms_of sig scope 0 sort) =
      has-back (Apply i false []) (map (λ v. Variable v.0) (filter (λ v. v.1 == sort) (enumerate_from 0 scope))) _ (has-map (λ s. Apply s.0 false []) (i, a.symbol) (giving sort (symbols_of sig is_constant)) (gives_it is_constant sort i a.symbol a.is kind a.gives)) in
      let same : Apply i false [] ≡ Apply i post args = ap (λ b. Apply i b []) (sym a.plain) ∙ ap (Apply i post) (sym none) in
      subst (λ u. Has u (terms_of sig scope 0 sort)) same there

  deepest : (d i : ℕ) (post : Bool) (args : List Term) → depth_of (Apply i post args) ≡ suc d → (0 < length args) × (greatest (map depth_of args) ≡ d)
  deepest d i post [] e = absurd (omega (arith, e, depth-Apply i post []))
  deepest d i post (a ∷ args) e = (omega arith, omega (arith, e, depth-Apply i post (a ∷ args)))

  has_application : (d i : ℕ) (post : Bool) (args : List Term) (sort : ℕ) → ((t : Term) (sort : ℕ) → IsTermOf d sort t → Has t (terms_of sig scope d sort))
      → depth_of (Apply i post args) ≡ suc d → sort_of sig false scope (Apply i post args) ≡ Some sort → Has (Apply i post args) (terms_of sig scope (suc d) sort)
  has_application d i post args sort has deep sorted =
      let a : Applies sig (sorts_of sig false scope args) (slice_get sig.symbols i) post sort = applied i post args sort sorted in
      let h : (0 < length args) × (greatest (map depth_of args) ≡ d) = deepest d i post args deep in
      let some : 0 < length a.symbol.args = omega (arith, h.0, matched_length a.symbol.args args a.args) in
      let kind : is_function a.symbol.kind ≡ true = function_of a.symbol (declared_at sig declared i a.symbol a.is) a.value some in
      let all : List (List Term) = tuples (map (terms_of sig scope d) a.symbol.args) in
      let each : HasEach args (map (terms_of sig scope d) a.symbol.args) = has_arguments d has a.symbol.args args a.args (depths_of d args (omega (arith, h.1))) in
      let tuple : Has args (filter (λ args. greatest (map depth_of args) == d) all) = has-filter (λ args. greatest (map depth_of args) == d) args all (has-tuple args (map (terms_of sig scope d) a.symbol.args) each) (eq-eqb (greatest (map depth_of args)) d h.1) in
      let there : Has (Apply i false args) (terms_of sig scope (suc d) sort) =
      has-back (Apply i false args) (terms_of sig scope d sort) _ (has-flat_map (applications d) (i, a.symbol) (Apply i false args) (giving sort (symbols_of sig is_function)) (gives_it is_function sort i a.symbol a.is kind a.gives) (has-map (Apply i false) args _ tuple)) in
      subst (λ b. Has (Apply i b args) (terms_of sig scope (suc d) sort)) (sym a.plain) there

  -- a well sorted term is one of the terms of its sort
  pub has_term : (d : ℕ) (t : Term) (sort : ℕ) → IsTermOf d sort t → Has t (terms_of sig scope d sort)
  has_term zero t sort i = by_shape (shape_of t)
    where
      by_shape : Shape t → Has t (terms_of sig scope 0 sort)
      by_shape (Shape.variable v e) = subst (λ u. Has u (terms_of sig scope 0 sort)) (sym e) (has_variable v sort (sym (sort-Variable sig false scope v) ∙ (ap (sort_of sig false scope) (sym e) ∙ i.sorted)))
      by_shape (Shape.application symbol post args e) = subst (λ u. Has u (terms_of sig scope 0 sort)) (sym e) (has_constant symbol post args sort (subst (IsTermOf 0 sort) e i))
  has_term (suc d) t sort i = elim (cases_lt (depth_of t) (suc d)) [
    | inl low ↦ has-front t (terms_of sig scope d sort) _ (has_term d t sort (record { depth = omega (arith, low); sorted = i.sorted }))
    | inr high ↦ by_shape (has_term d) high (shape_of t)
  ]
    where
      by_shape : ((t : Term) (sort : ℕ) → IsTermOf d sort t → Has t (terms_of sig scope d sort)) → suc d ≤ depth_of t → Shape t → Has t (terms_of sig scope (suc d) sort)
      by_shape has high (Shape.variable v e) = absurd (omega (arith, high, ap depth_of e, depth-Variable v))
      by_shape has high (Shape.application symbol post args e) =
          subst (λ u. Has u (terms_of sig scope (suc d) sort)) (sym e)
          (has_application d symbol post args sort has (omega (arith, high, ap depth_of e, i.depth)) (ap (sort_of sig false scope) (sym e) ∙ i.sorted))

  abbrev layer_of : ℕ → List Term → Term-F Term
  layer_of i args = Term-F.Apply i false args

  same_layers : (i j : ℕ) (args more : List Term) → Apply i false args ≡ Apply j false more → layer_of i args ≡ layer_of j more
  same_layers i j args more e = sym (out-Apply i false args) ∙ (ap out-Term e ∙ out-Apply j false more)

  same_number : (i j : ℕ) (args more : List Term) → Apply i false args ≡ Apply j false more → i ≡ j
  same_number i j args more e = let f : layer_of i args ≡ layer_of j more = same_layers i j args more e in cc

  same_arguments : (i : ℕ) (args more : List Term) → Apply i false args ≡ Apply i false more → args ≡ more
  same_arguments i args more e = let f : layer_of i args ≡ layer_of i more = same_layers i i args more e in cc

  same_variable : (v w : ℕ) → Variable v ≡ Variable w → v ≡ w
  same_variable v w e = cc

  numbers_apart : (kind : SymbolKind → Bool) (sort : ℕ) → Apart (map (λ s. s.0) (giving sort (symbols_of sig kind)))
  numbers_apart kind sort =
      apart-filter (λ s. s.0) (λ s. s.1.gives == sort) (symbols_of sig kind)
      (apart-filter (λ s. s.0) (λ s. kind s.1.kind) (enumerate_from 0 sig.symbols) (apart-enumerate 0 sig.symbols))

  map_all : {X Y : Type 0} (P : Y → Type 0) (f : X → Y) (xs : List X) → ((x : X) → P (f x)) → AllByRecursion P (map f xs)
  map_all P f [] h = tt
  map_all P f (x ∷ xs) h = (h x, map_all P f xs h)

  map_same : {X : Type 0} (xs : List X) → map (λ x. x) xs ≡ xs
  map_same [] = refl
  map_same (x ∷ xs) = ap (λ ys. x ∷ ys) (map_same xs)

  applications_apart : (d : ℕ) → ((sort : ℕ) → Apart (terms_of sig scope d sort)) → (s : ℕ × Symbol) → Apart (applications d s)
  applications_apart d apart s =
      let all : List (List Term) = tuples (map (terms_of sig scope d) s.1.args) in
      apart-map (λ args. args) (Apply s.0 false) (same_arguments s.0) _
      (apart-filter (λ args. args) (λ args. greatest (map depth_of args) == d) all (subst Apart (sym (map_same all)) (apart-tuples (map (terms_of sig scope d) s.1.args) (map_all Apart (terms_of sig scope d) s.1.args apart))))

  -- no two terms of a sort are equal
  pub terms_apart : (d sort : ℕ) → Apart (terms_of sig scope d sort)
  terms_apart zero sort =
      each-from_all (λ t. (v : ℕ) × (t ≡ Variable v)) (λ t. (i : ℕ) × (t ≡ Apply i false [])) _ _ (λ t u v i e. let f : Variable v.0 ≡ Apply i.0 false [] = sym v.1 ∙ (e ∙ i.1) in cc)
      (map_all (λ t. (v : ℕ) × (t ≡ Variable v)) (λ v. Variable v.0) (filter (λ v. v.1 == sort) (enumerate_from 0 scope)) (λ v. (v.0, refl)))
      (map_all (λ t. (i : ℕ) × (t ≡ Apply i false [])) (λ s. Apply s.0 false []) (giving sort (symbols_of sig is_constant)) (λ s. (s.0, refl)))
      (apart-map (λ v. v.0) (λ v. Variable v.0) (λ v w. same_variable v.0 w.0) (filter (λ v. v.1 == sort) (enumerate_from 0 scope)) (apart-filter (λ v. v.0) (λ v. v.1 == sort) (enumerate_from 0 scope) (apart-enumerate 0 scope)))
      (apart-map (λ s. s.0) (λ s. Apply s.0 false []) (λ s u. same_number s.0 u.0 [] []) (giving sort (symbols_of sig is_constant)) (numbers_apart is_constant sort))
  terms_apart (suc d) sort =
      let functions : List (ℕ × Symbol) = giving sort (symbols_of sig is_function) in
      let apps : AllByRecursion (λ s. AllByRecursion (IsApplication d sort s) (applications d s)) functions =
      each-weaker (Gives is_function sort) (λ s. AllByRecursion (IsApplication d sort s) (applications d s)) (applications_are d sort (terms_are d)) functions (symbols_give is_function sort) in
      each-from_all (IsTermOf d sort) (λ t. depth_of t ≡ suc d) (terms_of sig scope d sort) (flat_map (applications d) functions)
      (λ t u i e same. absurd (omega (arith, i.depth, e, ap depth_of same)))
      (terms_are d sort)
      (each-flat_map (λ t. depth_of t ≡ suc d) (applications d) functions (each-weaker (λ s. AllByRecursion (IsApplication d sort s) (applications d s)) (λ s. AllByRecursion (λ t. depth_of t ≡ suc d) (applications d s)) (λ s a. each-weaker (IsApplication d sort s) (λ t. depth_of t ≡ suc d) (λ t i. i.deep) (applications d s) a) functions apps))
      (terms_apart d sort)
      (apart-flat_map (λ s. s.0) (IsApplication d sort) (λ s s' t t' n i i' e. n (same_number s.0 s'.0 i.args i'.args (sym i.is ∙ (e ∙ i'.is)))) (applications d) functions (numbers_apart is_function sort) apps
      (each-any (λ s. Apart (applications d s)) (applications_apart d (terms_apart d)) functions))

  -- the terms that a further depth adds are all of that depth
  pub deep_terms : (d sort : ℕ) → AllByRecursion (λ t. depth_of t ≡ suc d) (flat_map (λ s. map (Apply s.0 false) (filter (λ args. greatest (map depth_of args) == d) (tuples (map (terms_of sig scope d) s.1.args)))) (giving sort (symbols_of sig is_function)))
  deep_terms d sort =
      each-flat_map (λ t. depth_of t ≡ suc d) (applications d) (giving sort (symbols_of sig is_function))
      (each-weaker (Gives is_function sort) (λ s. AllByRecursion (λ t. depth_of t ≡ suc d) (applications d s)) (λ s g. each-weaker (IsApplication d sort s) (λ t. depth_of t ≡ suc d) (λ t i. i.deep) (applications d s) (applications_are d sort (terms_are d) s g))
      (giving sort (symbols_of sig is_function)) (symbols_give is_function sort))
