-- The classes of a template cover its space.
use Rattle.std.specs.Prelude.{◌≡◌, ℕ, zero, suc, ◌+◌, ◌<◌, ◌≤◌, ◌==◌, ◌&&◌, ◌||◌, Bool, true, false, cond, List, [], ◌∷◌, map, length, slice_get, unwrap_or, Contains}
use Rattle.std.specs.List.{AllByRecursion, range_with_len, list_any, list_all, sum_by}
use Rattle.std.proofs.Common.{refl, arith, subst, sym, ap, ◌∙◌, eq-eqb}
use Rattle.std.proofs.lemmas.Bool.{and_from, eqb-true}
use Rattle.std.proofs.lemmas.List.Folds.{list_all-map}
use Rattle.std.proofs.lemmas.List.Sums.{sum_by-cons}
use Rattle.std.proofs.lemmas.Option.{slice_get_within, get_or_from_slice_get}
use Rattle.sw_logic.specs.declared.syntax.Formula.{Formula}
use Rattle.sw_logic.specs.declared.syntax.Formula.TheVariants.{False}
use Rattle.sw_logic.specs.declared.structure.Structure.{Structure}
use Rattle.sw_logic.specs.Truth.{World, truth, world}
use Rattle.sw_logic.specs.Sorted.{well_sorted}
use Rattle.sw_meaning.specs.declared.protocol.Protocol.{Protocol}
use Rattle.sw_meaning.specs.declared.template.Template.{Template}
use Rattle.sw_meaning.specs.Space.{InSpace, IsLiteral, all_of, any_of, blocks, template_formula}
use Rattle.sw_meaning.specs.Classes.{scope_of, atoms, literals, cubes, choices, bodies_from, classes, cube_formulas, formula_of}
use Rattle.sw_meaning.proofs.Bodies.{Rising, AllBelow}
use Rattle.sw_lists.proofs.Tests.{list_any-map, each_true, all_true}
use Rattle.sw_lists.proofs.Each.{each-map, each-weaker, each-flat_map, of_contained}
use Rattle.sw_logic.specs.Signatures.{is_signature}
use Rattle.sw_cover.specs.Laws.{IsOver, AllClassesCover}
use Rattle.sw_cover.proofs.Members.{Has, has-flat_map, number_of}
use Rattle.sw_cover.proofs.Terms.{rest_true}
use Rattle.sw_cover.proofs.Literals.{IsGood, literals_are, literal, Numbered, has_number, has_range}
use Rattle.sw_cover.proofs.Rising.{Weights, weight, Sorted, sorted, weight_of_ones, IsChoice, each_choice, has_choice, weights_of, IsBody, each_body, has_body}
use Rattle.sw_cover.proofs.Prefix.{truth-any_of, truth-all_of, sorted-any_of, sorted-all_of, quantified-same, scope_after, sorts_known, sorted-quantified, scope-blocks, sorts-blocks}

-- an element of a list, by its number
contains_of : {X : Type 0} (x : X) (xs : List X) → Has x xs → Contains xs x
contains_of x xs h = let place = number_of x xs h in (place.0, slice_get_within xs place.0 x place.1, get_or_from_slice_get xs place.0 x x place.1)

each_in_range : (P : ℕ → Type 0) (a n : ℕ) → ((c : ℕ) → a ≤ c → c < a + n → P c) → AllByRecursion P (range_with_len a n)
each_in_range P a zero f = tt
each_in_range P a (suc n) f = (f a (omega arith) (omega arith), each_in_range P (a + 1) n (λ c low high. f c (omega arith) (omega arith)))

at_place : {X : Type 0} (P : X → Type 0) (xs : List X) (i : ℕ) (d : X) → AllByRecursion P xs → i < length xs → P (unwrap_or (slice_get xs i) d)
at_place P [] i d a h = absurd (omega (arith, h))
at_place P (x ∷ xs) zero d a h = a.0
at_place P (x ∷ xs) (suc i) d a h = at_place P xs i d a.1 (omega arith)

-- how many literals a cube has at most
abbrev most : Template → ℕ
most t = cond (t.depth == 1) 1 t.literals

-- a cube: some numbers of literals, not too many
record IsCube (count k : ℕ) (cube : List ℕ) : Type 0 where
  pub some : 0 < length cube
  pub size : length cube ≤ k
  pub below : AllBelow count cube

length_map : {X Y : Type 0} (f : X → Y) (xs : List X) → length (map f xs) ≡ length xs
length_map f [] = refl
length_map f (x ∷ xs) = ap suc (length_map f xs)

-- one cube has no more literals than all together
each_within : {X : Type 0} (xss : List (List X)) → AllByRecursion (λ xs. length xs ≤ sum_by length xss) xss
each_within [] = tt
each_within {X} (xs ∷ xss) = (
  omega (arith, sum_by-cons (length {A = X}) xs xss),
  each-weaker (λ ys. length ys ≤ sum_by length xss) (λ ys. length ys ≤ sum_by length (xs ∷ xss)) (λ ys h. omega (arith, h, sum_by-cons (length {A = X}) xs xss)) xss (each_within xss),
)

-- the bound holds of each cube of the space
each_small : {X : Type 0} (depth k : ℕ) (body : List (List X)) → (depth ≡ 1 → AllByRecursion (λ cube. length cube ≡ 1) body) → sum_by length body ≤ k → AllByRecursion (λ cube. length cube ≤ cond (depth == 1) 1 k) body
each_small {X} depth k body single size = by_depth (depth == 1) refl
  where
    by_depth : (b : Bool) → (depth == 1) ≡ b → AllByRecursion (λ cube. length cube ≤ cond b 1 k) body
    by_depth true e = each-weaker (λ cube. length cube ≡ 1) (λ cube. length cube ≤ 1) (λ cube h. omega (arith, h)) body (single (eqb-true depth 1 e))
    by_depth false e = each-weaker (λ cube. length cube ≤ sum_by length body) (λ cube. length cube ≤ k) (λ cube h. omega (arith, h, size)) body (each_within body)

one_at_most : (depth k n : ℕ) → depth ≡ 1 → n ≤ cond (depth == 1) 1 k → n ≤ 1
one_at_most depth k n e h = subst (λ b. n ≤ cond b 1 k) (eq-eqb depth 1 e) h

module _ (p : Protocol) (t : Template) (declared : is_signature p.signature ≡ true) (over : IsOver p.signature t) where
  abbrev lits : List Formula
  lits = literals p.signature t

  abbrev cubes_here : List (List ℕ)
  cubes_here = cubes p.signature t

  abbrev literal_of : ℕ → Formula
  literal_of = literal p.signature t declared over

  -- the literals' numbers of a cube, and the cube's formulas
  abbrev cube : ℕ → List ℕ
  cube c = unwrap_or (slice_get cubes_here c) []

  abbrev formulas_at : ℕ → List Formula
  formulas_at c = cube_formulas (atoms p.signature t) cubes_here c

  abbrev size : ℕ → ℕ
  size c = length (cube c)

  cubes_are : AllByRecursion (IsCube (length lits) (most t)) cubes_here
  cubes_are =
      let numbers : List ℕ = range_with_len 0 (length lits) in
      each-flat_map (IsCube (length lits) (most t)) (λ n. choices n numbers) (range_with_len 1 (most t))
      (each_in_range (λ n. AllByRecursion (IsCube (length lits) (most t)) (choices n numbers)) 1 (most t)
      (λ n low high. each-weaker (IsChoice n (0 + length lits)) (IsCube (length lits) (most t))
      (λ cube c. record { some = omega (arith, c.size); size = omega (arith, c.size); below = subst (λ m. AllBelow m cube) (let e : 0 + length lits ≡ length lits = omega arith in e) c.below })
      (choices n numbers) (each_choice n 0 (length lits))))

  cube_at : (c : ℕ) → c < length cubes_here → IsCube (length lits) (most t) (cube c)
  cube_at c h = at_place (IsCube (length lits) (most t)) cubes_here c [] cubes_are h

  weights : Weights size 0 cubes_here
  weights = weights_of cubes_here

  has_cube : (cube : List ℕ) → Rising 0 cube → IsCube (length lits) (most t) cube → Has cube cubes_here
  has_cube cube r c =
      has-flat_map (λ n. choices n (range_with_len 0 (length lits))) (length cube) cube (range_with_len 1 (most t)) (has_range 1 (most t) (length cube) (omega (arith, c.some)) (omega (arith, c.size)))
      (has_choice (length cube) 0 (length lits) cube r (subst (λ m. AllBelow m cube) (let e : length lits ≡ 0 + length lits = omega arith in e) c.below) refl)

  -- what a class is: some numbers of cubes, with not too many literals
  record IsClass (class : List ℕ) : Type 0 where
    pub some : 0 < weight size class
    pub size : weight size class ≤ t.literals
    pub below : AllBelow (length cubes_here) class

  classes_are : AllByRecursion IsClass (classes p.signature t)
  classes_are =
      each-flat_map IsClass (bodies_from 0 cubes_here) (range_with_len 1 t.literals)
      (each_in_range (λ n. AllByRecursion IsClass (bodies_from 0 cubes_here n)) 1 t.literals
      (λ n low high. each-weaker (IsBody size (0 + length cubes_here) n) IsClass
      (λ class b. record { some = omega (arith, b.weighs); size = omega (arith, b.weighs); below = subst (λ m. AllBelow m class) (let e : 0 + length cubes_here ≡ length cubes_here = omega arith in e) b.below })
      (bodies_from 0 cubes_here n) (each_body size 0 cubes_here n weights)))

  has_class : (class : List ℕ) → Rising 0 class → IsClass class → Has class (classes p.signature t)
  has_class class r c =
      has-flat_map (bodies_from 0 cubes_here) (weight size class) class (range_with_len 1 t.literals) (has_range 1 t.literals (weight size class) (omega (arith, c.some)) (omega (arith, c.size)))
      (has_body size 0 cubes_here (weight size class) class weights (λ k low high. (cube_at k (omega arith)).some) r
      (subst (λ m. AllBelow m class) (let e : length cubes_here ≡ 0 + length cubes_here = omega arith in e) c.below) refl)

  -- the formula of a class, and its truth at values of the variables
  abbrev body_of : List ℕ → List (List Formula)
  body_of class = map formulas_at class

  class_formula : (class : List ℕ) → formula_of p.signature t class ≡ template_formula t (body_of class)
  class_formula class = refl

  good_at : (c : ℕ) → c < length lits → IsGood p.signature t declared over (literal_of c)
  good_at c h = at_place (IsGood p.signature t declared over) lits c False (literals_are p.signature t declared over) h

  -- sound: each class is of the space
  sizes_of : (class : List ℕ) → sum_by length (body_of class) ≡ weight size class
  sizes_of [] = refl
  sizes_of (c ∷ class) = sum_by-cons length (formulas_at c) (body_of class) ∙ (ap (λ n. n + sum_by length (body_of class)) (length_map literal_of (cube c)) ∙ ap (λ n. size c + n) (sizes_of class))

  some_of : (class : List ℕ) → 0 < weight size class → 0 < length (body_of class)
  some_of [] h = absurd (omega (arith, h))
  some_of (c ∷ class) h = omega arith

  each_cube : (P : List Formula → Type 0) → ((c : ℕ) → c < length cubes_here → P (formulas_at c)) → (class : List ℕ) → AllBelow (length cubes_here) class → AllByRecursion P (body_of class)
  each_cube P f class b = each-map P formulas_at class (each-weaker (λ c. c < length cubes_here) (λ c. P (formulas_at c)) f class b)

  each_literal : (P : Formula → Type 0) → ((c : ℕ) → c < length lits → P (literal_of c)) → (c : ℕ) → c < length cubes_here → AllByRecursion P (formulas_at c)
  each_literal P f c h = each-map P literal_of (cube c) (each-weaker (λ n. n < length lits) (λ n. P (literal_of n)) f (cube c) (cube_at c h).below)

  abbrev scope_here : List ℕ
  scope_here = scope_after [] (blocks 0 t.prefix)

  scope_is : scope_here ≡ scope_of t
  scope_is = scope-blocks [] 0 t.prefix

  body_sorted : (class : List ℕ) → AllBelow (length cubes_here) class → well_sorted p.signature false (any_of (map all_of (body_of class))) scope_here ≡ true
  body_sorted class b =
      sorted-any_of p.signature scope_here (map all_of (body_of class))
      ∙ all_true (λ f. well_sorted p.signature false f scope_here) (map all_of (body_of class))
      (each-map (λ f. well_sorted p.signature false f scope_here ≡ true) all_of (body_of class)
      (each_cube (λ fs. well_sorted p.signature false (all_of fs) scope_here ≡ true)
      (λ c h. sorted-all_of p.signature scope_here (formulas_at c)
      ∙ all_true (λ f. well_sorted p.signature false f scope_here) (formulas_at c)
      (each_literal (λ f. well_sorted p.signature false f scope_here ≡ true) (λ n k. ap (well_sorted p.signature false (literal_of n)) scope_is ∙ (good_at n k).sorted) c h))
      class b))

  in_space : (class : List ℕ) → IsClass class → InSpace p t (formula_of p.signature t class)
  in_space class c = record {
    body = body_of class;
    is = class_formula class;
    some = some_of class c.some;
    inner = each_cube (λ fs. 0 < length fs) (λ k h. omega (arith, length_map literal_of (cube k), (cube_at k h).some)) class c.below;
    single = λ e. each_cube (λ fs. length fs ≡ 1) (λ k h. omega (arith, length_map literal_of (cube k), (cube_at k h).some, one_at_most t.depth t.literals (size k) e (cube_at k h).size)) class c.below;
    literals = each_cube (λ fs. AllByRecursion (IsLiteral t.terms) fs) (each_literal (IsLiteral t.terms) (λ n k. (good_at n k).literal)) class c.below;
    size = omega (arith, sizes_of class, c.size);
    closed = sorted-quantified p.signature (blocks 0 t.prefix) (any_of (map all_of (body_of class))) []
        ∙ and_from (sorts_known p.signature (blocks 0 t.prefix)) (well_sorted p.signature false (any_of (map all_of (body_of class))) scope_here)
        (sorts-blocks p.signature 0 t.prefix over) (body_sorted class c.below);
  }

  -- complete: the numbers of a cube's literals
  record Numbers (fs : List Formula) : Type 0 where
    pub list : List ℕ
    pub below : AllBelow (length lits) list
    pub size : length list ≡ length fs
    pub same : (w : World) (env : List ℕ) → list_all (λ f. truth w f env) fs ≡ list_all (λ c. truth w (literal_of c) env) list

  numbers : (fs : List Formula) → AllByRecursion (IsLiteral t.terms) fs → AllByRecursion (λ f. well_sorted p.signature false f (scope_of t) ≡ true) fs → Numbers fs
  numbers [] ls sorts = record { list = []; below = tt; size = refl; same = λ w env. refl }
  numbers (f ∷ fs) ls sorts =
      let here : Numbered p.signature t declared over f = has_number p.signature t declared over f ls.0 sorts.0 in
      let rest : Numbers fs = numbers fs ls.1 sorts.1 in
      record {
        list = here.number ∷ rest.list;
        below = (here.below, rest.below);
        size = ap suc rest.size;
        same = λ w env. ap (λ b. b && list_all (λ f. truth w f env) fs) (here.same w env) ∙ ap (λ b. truth w (literal_of here.number) env && b) (rest.same w env);
      }

  -- the number of a cube that is true where the literals are together
  record NumberedCube (fs : List Formula) : Type 0 where
    pub number : ℕ
    pub below : number < length cubes_here
    pub weighs : size number ≤ length fs
    pub same : (w : World) (env : List ℕ) → truth w (all_of fs) env ≡ truth w (all_of (formulas_at number)) env

  numbered_cube : (fs : List Formula) → 0 < length fs → length fs ≤ most t → AllByRecursion (IsLiteral t.terms) fs → AllByRecursion (λ f. well_sorted p.signature false f (scope_of t) ≡ true) fs → NumberedCube fs
  numbered_cube fs some small ls sorts =
      let n : Numbers fs = numbers fs ls sorts in
      let s : Sorted (length lits) n.list = sorted (length lits) n.list n.below in
      let lighter : length s.list ≤ length n.list = omega (arith, s.weighs (λ c. 1), weight_of_ones s.list, weight_of_ones n.list) in
      let place = number_of s.list cubes_here (has_cube s.list s.rising (record { some = s.some (omega (arith, n.size, some)); size = omega (arith, lighter, n.size, small); below = s.below })) in
      let is : cube place.0 ≡ s.list = ap (λ o. unwrap_or o []) place.1 in
      let lengths : size place.0 ≡ length s.list = ap (length {A = ℕ}) is in
      record {
        number = place.0;
        below = slice_get_within cubes_here place.0 s.list place.1;
        weighs = omega (arith, lengths, lighter, n.size);
        same = λ w env. truth-all_of w env fs ∙ (n.same w env ∙ (sym (s.all (λ c. truth w (literal_of c) env)) ∙ (sym (list_all-map (λ f. truth w f env) literal_of s.list)
            ∙ (sym (truth-all_of w env (map literal_of s.list)) ∙ ap (λ cs. truth w (all_of (map literal_of cs)) env) (sym is)))));
      }

  -- the numbers of a body's cubes
  record CubeNumbers (body : List (List Formula)) : Type 0 where
    pub list : List ℕ
    pub below : AllBelow (length cubes_here) list
    pub some : 0 < length body → 0 < length list
    pub weighs : weight size list ≤ sum_by length body
    pub same : (w : World) (env : List ℕ) → list_any (λ fs. truth w (all_of fs) env) body ≡ list_any (λ c. truth w (all_of (formulas_at c)) env) list

  cube_numbers : (body : List (List Formula)) → AllByRecursion (λ fs. 0 < length fs) body → AllByRecursion (λ fs. length fs ≤ most t) body → AllByRecursion (λ fs. AllByRecursion (IsLiteral t.terms) fs) body
      → AllByRecursion (λ fs. AllByRecursion (λ f. well_sorted p.signature false f (scope_of t) ≡ true) fs) body → CubeNumbers body
  cube_numbers [] some small ls sorts = record { list = []; below = tt; some = λ h. h; weighs = omega arith; same = λ w env. refl }
  cube_numbers (fs ∷ body) some small ls sorts =
      let here : NumberedCube fs = numbered_cube fs some.0 small.0 ls.0 sorts.0 in
      let rest : CubeNumbers body = cube_numbers body some.1 small.1 ls.1 sorts.1 in
      record {
        list = here.number ∷ rest.list;
        below = (here.below, rest.below);
        some = λ h. omega arith;
        weighs = omega (arith, here.weighs, rest.weighs, sum_by-cons length fs body);
        same = λ w env. ap (λ b. b || list_any (λ fs. truth w (all_of fs) env) body) (here.same w env) ∙ ap (λ b. truth w (all_of (formulas_at here.number)) env || b) (rest.same w env);
      }

  positive : (class : List ℕ) → AllBelow (length cubes_here) class → 0 < length class → 0 < weight size class
  positive [] b h = absurd (omega (arith, h))
  positive (c ∷ class) b h = omega (arith, (cube_at c b.0).some)

  -- the literals of a body are well sorted where its formula is
  literals_sorted : (body : List (List Formula)) → well_sorted p.signature false (any_of (map all_of body)) scope_here ≡ true → AllByRecursion (λ fs. AllByRecursion (λ f. well_sorted p.signature false f (scope_of t) ≡ true) fs) body
  literals_sorted body e =
      each_body_sorted body (each_true (λ f. well_sorted p.signature false f scope_here) (map all_of body) (sym (sorted-any_of p.signature scope_here (map all_of body)) ∙ e))
    where
      each_body_sorted : (body : List (List Formula)) → AllByRecursion (λ f. well_sorted p.signature false f scope_here ≡ true) (map all_of body) → AllByRecursion (λ fs. AllByRecursion (λ f. well_sorted p.signature false f (scope_of t) ≡ true) fs) body
      each_body_sorted [] a = tt
      each_body_sorted (fs ∷ body) a = (
        each-weaker (λ f. well_sorted p.signature false f scope_here ≡ true) (λ f. well_sorted p.signature false f (scope_of t) ≡ true) (λ f e. ap (well_sorted p.signature false f) (sym scope_is) ∙ e) fs
            (each_true (λ f. well_sorted p.signature false f scope_here) fs (sym (sorted-all_of p.signature scope_here fs) ∙ a.0)),
        each_body_sorted body a.1,
      )

  class_truth : (w : World) (env : List ℕ) (class : List ℕ) → truth w (any_of (map all_of (body_of class))) env ≡ list_any (λ c. truth w (all_of (formulas_at c)) env) class
  class_truth w env class =
      truth-any_of w env (map all_of (body_of class)) ∙ (list_any-map (λ f. truth w f env) all_of (body_of class) ∙ list_any-map (λ fs. truth w (all_of fs) env) formulas_at class)

  covered : (f : Formula) → InSpace p t f → (class : List ℕ) × (Contains (classes p.signature t) class
      × ((s : Structure) → truth (world p.signature s s) f [] ≡ truth (world p.signature s s) (formula_of p.signature t class) []))
  covered f i =
      let closed : (sorts_known p.signature (blocks 0 t.prefix) && well_sorted p.signature false (any_of (map all_of i.body)) scope_here) ≡ true =
      sym (sorted-quantified p.signature (blocks 0 t.prefix) (any_of (map all_of i.body)) []) ∙ (ap (λ g. well_sorted p.signature false g []) (sym i.is) ∙ i.closed) in
      let sorts : well_sorted p.signature false (any_of (map all_of i.body)) scope_here ≡ true = rest_true (sorts_known p.signature (blocks 0 t.prefix)) (well_sorted p.signature false (any_of (map all_of i.body)) scope_here) closed in
      let n : CubeNumbers i.body = cube_numbers i.body i.inner (each_small t.depth t.literals i.body i.single i.size) i.literals (literals_sorted i.body sorts) in
      let s : Sorted (length cubes_here) n.list = sorted (length cubes_here) n.list n.below in
      let heavy : 0 < weight size s.list = positive s.list s.below (s.some (n.some i.some)) in
      let light : weight size s.list ≤ t.literals = omega (arith, s.weighs size, n.weighs, i.size) in (
        s.list,
        (
          contains_of s.list (classes p.signature t) (has_class s.list s.rising (record { some = heavy; size = light; below = s.below })),
          λ u. let w : World = world p.signature u u in
              ap (λ g. truth w g []) i.is
              ∙ quantified-same w (blocks 0 t.prefix) (any_of (map all_of i.body)) (any_of (map all_of (body_of s.list)))
              (λ env. truth-any_of w env (map all_of i.body) ∙ (list_any-map (λ f. truth w f env) all_of i.body ∙ (n.same w env
              ∙ (sym (s.any (λ c. truth w (all_of (formulas_at c)) env)) ∙ sym (class_truth w env s.list))))) [],
        ),
      )

pub all_classes_cover : AllClassesCover
all_classes_cover p t declared over = record {
  sound = λ class c. in_space p t declared over class (of_contained (IsClass p t declared over) (classes p.signature t) class (classes_are p t declared over) c);
  complete = covered p t declared over;
}
