-- The classes of a space can be searched.
use Rattle.std.specs.Prelude.{◌≡◌, ℕ, zero, suc, ◌+◌, ◌*◌, ◌<◌, ◌≤◌, ◌^◌, Bool, true, false, List, [], ◌∷◌, map, length, Option, IfSome, Contains, slice_get, unwrap_or}
use Rattle.std.specs.List.{AllByRecursion, range_with_len}
use Rattle.std.proofs.Common.{arith, sym, ap, subst, ◌∙◌, zero-add}
use Rattle.std.proofs.lemmas.List.{length-append}
use Rattle.std.proofs.Math.Nat.{mul-le-mul_right}
use Rattle.sw_lists.proofs.Each.{each-append, each-weaker, each-any, each-flat_map, of_contained, each-map}
use Rattle.sw_logic.specs.declared.syntax.Edge.{Edge}
use Rattle.sw_logic.specs.declared.syntax.Formula.{Formula}
use Rattle.sw_logic.specs.declared.syntax.Formula.TheVariants.{Holds, Equal}
use Rattle.sw_logic.specs.declared.syntax.Signature.{Signature}
use Rattle.sw_logic.specs.Truth.{binds}
use Rattle.sw_meaning.specs.declared.protocol.Protocol.{Protocol}
use Rattle.sw_meaning.specs.declared.template.Template.{Template}
use Rattle.sw_meaning.specs.Edges.{IsStratifiedWith}
use Rattle.sw_meaning.specs.Space.{InSpace}
use Rattle.sw_meaning.specs.Classes.{symbols_of, is_relation, tuples, pairs, terms_of, scope_of, atoms, cubes, classes, parts, classes_of, parts_of, bodies_from, formula_by, formula_of}
use Rattle.sw_meaning.specs.Laws.{ClassesCover}
use Rattle.sw_meaning.specs.WellFormed.{IsWellFormed}
use Rattle.sw_cover.proofs.Covering.{all_classes_cover}
use Rattle.sw_cover.proofs.Parted.{parts_are_classes}
use Rattle.sw_cover.proofs.Rising.{IsBody, each_body, weights_of}
use Rattle.sw_query_laws.specs.Edges.{AddsAmong}
use Rattle.sw_template.specs.Bodies.{Class, AreCubes}
use Rattle.sw_template.specs.Edges.{template_edges}
use Rattle.sw_template.specs.Prefix.{variable_count}
use Rattle.sw_template_laws.proofs.Blocks.{formulas_add_these_edges}
use Rattle.sw_template_laws.proofs.Binding.{formulas_bind_few, holds_flat, equal_flat}
use Rattle.sw_enumerate.specs.Spaces.{Made, parts_in, classes_in, formula_in}
use Rattle.sw_enumerate.proofs.Steps.{parts_count}
use Rattle.sw_examine.specs.Answers as examine
use Rattle.sw_walk.specs.Parts.{all_classes, part_at, class_of, IsClass}
use Rattle.sw_work.specs.Works as works
use Rattle.sw_seek.specs.Seeking.{CanFinish}
use Rattle.sw_search.specs.Spaces.{IsReadable, IsSearchable}
use Rattle.sw_search.proofs.Lists.{CanBeListed, among_more}

-- a class is of cubes that there are
classes_cubes : (most : ℕ) (cs : List (List ℕ)) → AllByRecursion (AreCubes cs) (classes_of most cs)
classes_cubes most cs =
    let w : ℕ → ℕ = λ c. length (unwrap_or (slice_get cs c) []) in
    each-flat_map (AreCubes cs) (bodies_from 0 cs) (range_with_len 1 most)
    (each-any (λ n. AllByRecursion (AreCubes cs) (bodies_from 0 cs n)) (λ n. each-weaker (IsBody w (0 + length cs) n) (AreCubes cs) (λ b i. subst (λ (n : ℕ). AllByRecursion (λ c. c < n) b) (zero-add (length cs)) i.below) (bodies_from 0 cs n) (each_body w 0 cs n (weights_of cs))) (range_with_len 1 most))

-- atoms have no quantifiers
flat_atoms : (sig : Signature) (t : Template) → AllByRecursion (λ f. binds f ≡ 0) (atoms sig t)
flat_atoms sig t =
    let P : Formula → Type 0 = λ f. binds f ≡ 0 in
    each-append P _ _
    (each-flat_map P (λ s. map (Holds s.0 false) (tuples (map (terms_of sig (scope_of t) t.terms) s.1.args))) (symbols_of sig is_relation)
    (each-any (λ s. AllByRecursion P (map (Holds s.0 false) (tuples (map (terms_of sig (scope_of t) t.terms) s.1.args))))
    (λ s. each-map P (Holds s.0 false) (tuples (map (terms_of sig (scope_of t) t.terms) s.1.args)) (each-any (λ args. P (Holds s.0 false args)) (λ args. holds_flat s.0 args) (tuples (map (terms_of sig (scope_of t) t.terms) s.1.args))))
    (symbols_of sig is_relation)))
    (each-flat_map P (λ sort. map (λ pair. Equal pair.0 pair.1) (pairs (terms_of sig (scope_of t) t.terms sort))) (range_with_len 0 (length sig.sorts))
    (each-any (λ sort. AllByRecursion P (map (λ pair. Equal pair.0 pair.1) (pairs (terms_of sig (scope_of t) t.terms sort))))
    (λ sort. each-map P (λ pair. Equal pair.0 pair.1) (pairs (terms_of sig (scope_of t) t.terms sort)) (each-any (λ pair. P (Equal pair.0 pair.1)) (λ pair. equal_flat pair.0 pair.1) (pairs (terms_of sig (scope_of t) t.terms sort))))
    (range_with_len 0 (length sig.sorts))))

-- the classes of the parts of a template are its classes
pub flat : (sig : Signature) (t : Template) → all_classes (parts sig t) ≡ classes sig t
flat sig t = parts_are_classes t.literals (cubes sig t)

pub of_class : (p : Protocol) (t : Template) (b : Class) → IsClass (parts p.signature t) b → Contains (classes p.signature t) b.cubes
of_class p t b c = subst (λ (cs : List (List ℕ)). Contains cs b.cubes) (flat p.signature t) c.among

pub class_of_parts : (s : Made) (b : Class) → IsClass (parts_in s) b → (b.template ≡ 0) × Contains (classes_in s) b.cubes
class_of_parts s b c = (c.single, subst (λ (cs : List (List ℕ)). Contains cs b.cubes) (parts_are_classes s.template.literals s.cubes) c.among)

pub class_of_classes : (s : Made) (b : Class) → (b.template ≡ 0) × Contains (classes_in s) b.cubes → IsClass (parts_in s) b
class_of_classes s b c = record { single = c.0; among = subst (λ (cs : List (List ℕ)). Contains cs b.cubes) (sym (parts_are_classes s.template.literals s.cubes)) c.1 }

module _ (p : Protocol) (extra : List Edge) (s : Made) (ok : IsWellFormed p) (can : IsSearchable p extra s) where
  abbrev t : Template
  t = s.template

  abbrev sig : Signature
  sig = p.signature

  pub cover : ClassesCover p t
  cover = all_classes_cover p t ok.signature can.over

  -- the parts and the formulas are those of the template
  pub parts_are : parts_in s ≡ parts sig t
  parts_are = ap (parts_of t.literals) can.made.cubes_are

  pub formula_is : (c : List ℕ) → formula_in s c ≡ formula_of sig t c
  formula_is c = ap (λ (a : List Formula). formula_by t a s.cubes c) can.made.atoms_are ∙ ap (λ (cs : List (List ℕ)). formula_by t (atoms sig t) cs c) can.made.cubes_are

  -- a class of the parts is one of the template
  pub among : (c : List ℕ) → Contains (all_classes (parts_in s)) c → Contains (classes sig t) c
  among c h = subst (λ (cs : List (List ℕ)). Contains cs c) (ap all_classes parts_are ∙ flat sig t) h

  pub in_space : (c : List ℕ) → Contains (classes sig t) c → InSpace p t (formula_of sig t c)
  in_space c h = cover.sound c h

  pub are_cubes : (c : List ℕ) → Contains (classes sig t) c → AreCubes s.cubes c
  are_cubes c h = subst (λ (cs : List (List ℕ)). AreCubes cs c) (sym can.made.cubes_are) (of_contained (AreCubes (cubes sig t)) (classes sig t) c (classes_cubes t.literals (cubes sig t)) h)

  bound : (c : List ℕ) → Contains (classes sig t) c → binds (formula_in s c) ≤ 32
  bound c h =
      let e : binds (formula_in s c) ≡ variable_count t.prefix = ap binds (formula_is c) ∙ formulas_bind_few p t (formula_of sig t c) (in_space c h) in
      let few = can.variables in
      omega (arith, e, few)

  readable : (c : List ℕ) → Contains (classes sig t) c → IsReadable s (class_of c)
  readable c h = record {
    cubes = are_cubes c h;
    flat = subst (AllByRecursion (λ f. binds f ≡ 0)) (sym can.made.atoms_are) (flat_atoms sig t);
    variables = can.variables;
    few = bound c h;
  }

  -- what a class's formula, or its negation, adds lies among the edges
  adds : (positive : Bool) (c : List ℕ) → Contains (classes sig t) c → AddsAmong extra positive (formula_of sig t c)
  adds positive c h = among_more _ (template_edges t) extra (formulas_add_these_edges p t (formula_of sig t c) positive (in_space c h)) can.edges

  module _ (stratified : IsStratifiedWith p extra) (budget : Option ℕ) (some : IfSome budget (λ most. 1 ≤ most)) where
    pub can_search : works.CanSearch p t (parts_in s) (IsReadable s) (λ c. formula_in s c.cubes) budget
    can_search = record {
      well_formed = ok;
      are_parts = parts_are;
      has = λ c h. readable c (among c h);
      formulas = λ c h. formula_is c;
      sorted = λ c h. (in_space c (among c h)).closed;
      in_space = λ c h. in_space c (among c h);
      extra = extra;
      stratified = stratified;
      edges = λ c h. adds true c (among c h);
      denied_edges = λ c h. adds false c (among c h);
      some = some;
    }

    -- a class can be asked about under a list
    can_ask : (g : List Formula) → CanBeListed p extra g → (c : List ℕ) → Contains (classes sig t) c → examine.CanAsk p g (formula_of sig t c)
    can_ask g list c h = record {
      extra = extra;
      stratified = stratified;
      list_sorted = list.sentences;
      list_edges = list.adds;
      sorted = (in_space c h).closed;
      edges = adds true c h;
      denied_edges = adds false c h;
    }

    pub can_finish : (g : List Formula) → CanBeListed p extra g → CanFinish p t (parts_in s) (IsReadable s) (λ c. formula_in s c.cubes) g budget
    can_finish g list = record {
      well_formed = ok;
      are_parts = parts_are;
      has = λ c h. readable c (among c h);
      formulas = λ c h. formula_is c;
      few = list.narrow;
      ask = λ c h. can_ask g list c (among c h);
      some = some;
    }

-- a part has no more classes than there are
part_length : (ps : List (List (List ℕ))) (n : ℕ) → length (part_at ps n) ≤ length (all_classes ps)
part_length [] n = omega arith
part_length (part ∷ ps) zero = let e = length-append part (all_classes ps) in omega (arith, e)
part_length (part ∷ ps) (suc n) = let e = length-append part (all_classes ps) in let rest = part_length ps n in omega (arith, e, rest)

-- a space within the limits has few parts
pub parts_few : (s : Made) → s.template.literals ≤ 6 → length s.cubes ≤ 1048576 → length (parts_in s) ≤ 8589934592
parts_few s most few =
    let count = parts_count s.template.literals s.cubes in
    let less : s.template.literals * length s.cubes ≤ 6 * length s.cubes = mul-le-mul_right (length s.cubes) most in
    omega (arith, count, less, few)

pub part_few : (s : Made) (n : ℕ) → length (classes_in s) ≤ 2 ^ 32 → length (part_at (parts_in s) n) ≤ 2 ^ 32
part_few s n h =
    let same : length (all_classes (parts_in s)) ≡ length (classes_in s) = ap length (parts_are_classes s.template.literals s.cubes) in
    let few = part_length (parts_in s) n in
    omega (arith, same, few, h)
