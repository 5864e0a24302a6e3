-- The edges of a formula under a template's prefix are among those of the prefix.
use Rattle.std.specs.Prelude.{◌≡◌, ℕ, ◌+◌, ◌<◌, Bool, true, false, not, List, [], ◌∷◌, ◌++◌, map, Contains, cond, if◌then◌else◌}
use Rattle.std.specs.List.{AllByRecursion, flat_map, enumerate_from, filter, range_with_len}
use Rattle.std.specs.Fmt.{decimal}
use Rattle.std.proofs.Common.{rules, refl, sym, ap, subst, ◌∙◌}
use Rattle.std.proofs.lemmas.Bool.{false≢true}
use Rattle.sw_lists.proofs.Each.{each-append, each-front, each-back, each-map, each-weaker, each-any, each-flat_map, each-contained}
use Rattle.sw_logic.specs.declared.syntax.Binder.{Binder}
use Rattle.sw_logic.specs.declared.syntax.Edge.{Edge}
use Rattle.sw_logic.specs.declared.syntax.Formula as formulas
use Rattle.sw_logic.specs.declared.syntax.Formula.{Formula}
use Rattle.sw_logic.specs.declared.syntax.Formula.TheOpen.{Formula-F}
use Rattle.sw_logic.specs.declared.syntax.Formula.TheVariants.{ForAll, Exists}
use Rattle.sw_logic.specs.Strata.{Part, part_step, edge, edges_between, depended, sorts_of, formula_edges}
use Rattle.sw_meaning.specs.declared.protocol.Protocol.{Protocol}
use Rattle.sw_meaning.specs.declared.template.Run.{Run}
use Rattle.sw_meaning.specs.declared.template.Template.{Template}
use Rattle.sw_meaning.specs.Space.{InSpace, Block, same_quantifier, binders_of, before_blocks, blocks, quantified, any_of, all_of}
use Rattle.sw_template.specs.Edges.{edges_to, edges_along, template_edges}
use Rattle.sw_template_laws.specs.Laws.{FormulasAddTheseEdges}
use Rattle.sw_template_laws.proofs.Bodies.{part_of, HasNoEdges, body_none}

abbrev block : Bool → List Binder → Block
block universal binders = record { universal = universal; binders = binders }

-- the sorts on which variables depend are among those of their entries
depended_each : (P : ℕ → Type 0) (occurs : ℕ → Bool) (n : ℕ) (scope : List (List ℕ)) → AllByRecursion (AllByRecursion P) scope → AllByRecursion P (flat_map (λ v. if occurs v.0 then v.1 else []) (enumerate_from n scope))
depended_each P occurs n [] h = tt
depended_each P occurs n (entry ∷ scope) h =
    each-append P (if occurs n then entry else []) (flat_map (λ v. if occurs v.0 then v.1 else []) (enumerate_from (n + 1) scope)) (kept (occurs n)) (depended_each P occurs (n + 1) scope h.1)
  where
    kept : (b : Bool) → AllByRecursion P (if b then entry else [])
    kept true = h.0
    kept false = tt

module _ (all : List Edge) (positive : Bool) where
  -- from this sort to each variable of these that is existential, where the formula is asserted or denied
  abbrev To : ℕ → Bool → List Binder → Type 0
  To a universal binders = universal ≡ not positive → AllByRecursion (λ (x : Binder). Contains all (edge a x.sort)) binders

  abbrev Reaches : ℕ → List Block → Type 0
  Reaches a bs = AllByRecursion (λ (b : Block). To a b.universal b.binders) bs

  -- from each of these to those
  abbrev From : Bool → List Binder → List Block → Type 0
  From universal binders bs = universal ≡ positive → AllByRecursion (λ (x : Binder). Reaches x.sort bs) binders

  abbrev Orders : List Block → Type 0
  Orders [] = Unit {0}
  Orders (b ∷ bs) = From b.universal b.binders bs × Orders bs

  -- the entries of a scope reach these blocks
  abbrev Enters : List (List ℕ) → List Block → Type 0
  Enters scope bs = AllByRecursion (AllByRecursion (λ a. Reaches a bs)) scope

  below : (b : Block) (bs : List Block) (scope : List (List ℕ)) → Enters scope (b ∷ bs) → Enters scope bs
  below b bs scope h = each-weaker (AllByRecursion (λ a. Reaches a (b ∷ bs))) (AllByRecursion (λ a. Reaches a bs)) (each-weaker (λ a. Reaches a (b ∷ bs)) (λ a. Reaches a bs) (λ a r. r.1)) scope h

  -- a variable that is universal there has an entry of its own
  own_entries : (b : Block) (bs : List Block) (binders : List Binder) (scope : List (List ℕ)) → Enters scope (b ∷ bs) → AllByRecursion (λ (x : Binder). Reaches x.sort bs) binders
      → Enters (scope ++ map (λ (x : Binder). x.sort ∷ []) binders) bs
  own_entries b bs binders scope h k =
      let P : List ℕ → Type 0 = AllByRecursion (λ a. Reaches a bs) in
      each-append P scope (map (λ (x : Binder). x.sort ∷ []) binders) (below b bs scope h)
      (each-map P (λ (x : Binder). x.sort ∷ []) binders (each-weaker (λ (x : Binder). Reaches x.sort bs) (λ (x : Binder). P (x.sort ∷ [])) (λ x r. (r, tt)) binders k))

  -- one that is existential depends on what stands before it
  from_entries : (b : Block) (bs : List Block) (binders : List Binder) (scope : List (List ℕ)) (occurs : ℕ → Bool) → Enters scope (b ∷ bs) → Enters (scope ++ map (λ (x : Binder). depended occurs scope) binders) bs
  from_entries b bs binders scope occurs h =
      let P : List ℕ → Type 0 = AllByRecursion (λ a. Reaches a bs) in
      each-append P scope (map (λ (x : Binder). depended occurs scope) binders) (below b bs scope h)
      (each-map P (λ (x : Binder). depended occurs scope) binders (each-any (λ (x : Binder). P (depended occurs scope)) (λ x. depended_each (λ a. Reaches a bs) occurs 0 scope (below b bs scope h)) binders))

  -- the edges to it are among these
  edges_in : (binders : List Binder) (from : List ℕ) → AllByRecursion (λ a. AllByRecursion (λ (x : Binder). Contains all (edge a x.sort)) binders) from → AllByRecursion (Contains all) (edges_between from (sorts_of binders))
  edges_in binders from h =
      each-flat_map (Contains all) (λ a. map (edge a) (sorts_of binders)) from
      (each-weaker (λ a. AllByRecursion (λ (x : Binder). Contains all (edge a x.sort)) binders) (λ a. AllByRecursion (Contains all) (map (edge a) (sorts_of binders)))
      (λ a r. each-map (Contains all) (edge a) (sorts_of binders) (each-map (λ s. Contains all (edge a s)) (λ (x : Binder). x.sort) binders r)) from h)

  entering : (universal : Bool) (binders : List Binder) (bs : List Block) (scope : List (List ℕ)) (occurs : ℕ → Bool) → universal ≡ not positive → Enters scope (block universal binders ∷ bs)
      → AllByRecursion (Contains all) (edges_between (depended occurs scope) (sorts_of binders))
  entering universal binders bs scope occurs e h =
      edges_in binders (depended occurs scope)
      (each-weaker (λ a. Reaches a (block universal binders ∷ bs)) (λ a. AllByRecursion (λ (x : Binder). Contains all (edge a x.sort)) binders) (λ a r. r.0 e) (depended occurs scope)
      (depended_each (λ a. Reaches a (block universal binders ∷ bs)) occurs 0 scope h))

  -- ---- blocks of a prefix
  binders_reach : (a n : ℕ) (run : Run) → (run.universal ≡ not positive → Contains all (edge a run.sort)) → To a run.universal (binders_of n run)
  binders_reach a n run h e =
      each-map (λ (x : Binder). Contains all (edge a x.sort)) (λ k. record { name = 95 ∷ decimal k; sort = run.sort }) (range_with_len (n + 1) run.count) (each-any (λ k. Contains all (edge a run.sort)) (λ k. h e) (range_with_len (n + 1) run.count))

  reach_before : (a : ℕ) (u : Bool) (xs : List Binder) (bs : List Block) → To a u xs → Reaches a bs → Reaches a (before_blocks (block u xs) bs)
  reach_before a u xs [] h k = (h, tt)
  reach_before a u xs (c ∷ cs) h k = merged u c.universal h k.0
    where
      merged : (v w : Bool) → To a v xs → To a w c.binders → Reaches a (if same_quantifier v w then record { universal = w; binders = xs ++ c.binders } ∷ cs else block v xs ∷ block w c.binders ∷ cs)
      merged true true i j = (λ e. each-append (λ (x : Binder). Contains all (edge a x.sort)) xs c.binders (i e) (j e), k.1)
      merged false false i j = (λ e. each-append (λ (x : Binder). Contains all (edge a x.sort)) xs c.binders (i e) (j e), k.1)
      merged true false i j = (i, (j, k.1))
      merged false true i j = (i, (j, k.1))

  reach_blocks : (a n : ℕ) (runs : List Run) → AllByRecursion (λ (run : Run). run.universal ≡ not positive → Contains all (edge a run.sort)) runs → Reaches a (blocks n runs)
  reach_blocks a n [] h = tt
  reach_blocks a n (run ∷ runs) h = reach_before a run.universal (binders_of n run) (blocks (n + run.count) runs) (binders_reach a n run h.0) (reach_blocks a (n + run.count) runs h.1)

  order_before : (u : Bool) (xs : List Binder) (bs : List Block) → From u xs bs → Orders bs → Orders (before_blocks (block u xs) bs)
  order_before u xs [] h k = (h, tt)
  order_before u xs (c ∷ cs) h k = merged u c.universal h k.0
    where
      tails : AllByRecursion (λ (x : Binder). Reaches x.sort (c ∷ cs)) xs → AllByRecursion (λ (x : Binder). Reaches x.sort cs) xs
      tails r = each-weaker (λ (x : Binder). Reaches x.sort (c ∷ cs)) (λ (x : Binder). Reaches x.sort cs) (λ x i. i.1) xs r

      merged : (v w : Bool) → From v xs (c ∷ cs) → From w c.binders cs → Orders (if same_quantifier v w then record { universal = w; binders = xs ++ c.binders } ∷ cs else block v xs ∷ c ∷ cs)
      merged true true i j = (λ e. each-append (λ (x : Binder). Reaches x.sort cs) xs c.binders (tails (i e)) (j e), k.1)
      merged false false i j = (λ e. each-append (λ (x : Binder). Reaches x.sort cs) xs c.binders (tails (i e)) (j e), k.1)
      merged true false i j = (i, k)
      merged false true i j = (i, k)

  -- from a run that is universal there to the later ones that are existential
  reach_to : (run : Run) (later : List Run) → run.universal ≡ positive → AllByRecursion (Contains all) (edges_to run later) → AllByRecursion (λ (x : Run). x.universal ≡ not positive → Contains all (edge run.sort x.sort)) later
  reach_to run [] e h = tt
  reach_to run (other ∷ later) e h = let both = kept run.universal other.universal e h in (both.0, reach_to run later e both.1)
    where
      apart : (u b : Bool) → u ≡ b → u ≡ not b → ⊥
      apart u true i j = false≢true (sym j ∙ i)
      apart u false i j = false≢true (sym i ∙ j)

      kept : (u v : Bool) → u ≡ positive → AllByRecursion (Contains all) (map (λ (x : Run). edge run.sort x.sort) (cond (not (same_quantifier u v)) (other ∷ filter (λ x. not (same_quantifier run.universal x.universal)) later) (filter (λ x. not (same_quantifier run.universal x.universal)) later)))
          → (v ≡ not positive → Contains all (edge run.sort other.sort)) × AllByRecursion (Contains all) (edges_to run later)
      kept true false i h = (λ j. h.0, h.1)
      kept false true i h = (λ j. h.0, h.1)
      kept true true i h = (λ j. absurd (apart true positive i j), h)
      kept false false i h = (λ j. absurd (apart false positive i j), h)

  order_blocks : (n : ℕ) (runs : List Run) → AllByRecursion (Contains all) (edges_along runs) → Orders (blocks n runs)
  order_blocks n [] h = tt
  order_blocks n (run ∷ runs) h =
      let here = each-front (Contains all) (edges_to run runs) (edges_along runs) h in
      let there = each-back (Contains all) (edges_to run runs) (edges_along runs) h in
      let later : run.universal ≡ positive → Reaches run.sort (blocks (n + run.count) runs) = λ e. reach_blocks run.sort (n + run.count) runs (reach_to run runs e here) in
      order_before run.universal (binders_of n run) (blocks (n + run.count) runs)
      (λ e. each-map (λ (x : Binder). Reaches x.sort (blocks (n + run.count) runs)) (λ k. record { name = 95 ∷ decimal k; sort = run.sort }) (range_with_len (n + 1) run.count)
      (each-any (λ k. Reaches run.sort (blocks (n + run.count) runs)) (λ k. later e) (range_with_len (n + 1) run.count)))
      (order_blocks (n + run.count) runs there)

-- the edges of a quantifier, by those of what stands under it
module _ (all : List Edge) (binders : List Binder) (rest : Formula) (bs : List Block) where
  for_all : part_of (ForAll binders rest) ≡ part_step (Formula-F.ForAll binders (part_of rest))
  for_all = search (rules, formulas.the_lemmas)

  exists : part_of (Exists binders rest) ≡ part_step (Formula-F.Exists binders (part_of rest))
  exists = search (rules, formulas.the_lemmas)

  abbrev Within : Formula → Bool → List (List ℕ) → Type 0
  Within f c scope = AllByRecursion (Contains all) ((part_of f).edges c scope)

  abbrev Rest : Bool → Type 0
  Rest c = (scope : List (List ℕ)) → Enters all c scope bs → Within rest c scope

  quantifier : (u c : Bool) (scope : List (List ℕ)) → From all c u binders bs → Rest c → Enters all c scope (block u binders ∷ bs) → Within (if u then ForAll binders rest else Exists binders rest) c scope
  quantifier true true scope o more h =
      subst (λ (q : Part). AllByRecursion (Contains all) (q.edges true scope)) (sym for_all)
      (more (scope ++ map (λ (x : Binder). x.sort ∷ []) binders) (own_entries all true (block true binders) bs binders scope h (o refl)))
  quantifier true false scope o more h =
      let from = depended (part_of rest).occurs scope in
      subst (λ (q : Part). AllByRecursion (Contains all) (q.edges false scope)) (sym for_all)
      (each-append (Contains all) (edges_between from (sorts_of binders)) ((part_of rest).edges false (scope ++ map (λ (x : Binder). from) binders))
      (entering all false true binders bs scope (part_of rest).occurs refl h)
      (more (scope ++ map (λ (x : Binder). from) binders) (from_entries all false (block true binders) bs binders scope (part_of rest).occurs h)))
  quantifier false false scope o more h =
      subst (λ (q : Part). AllByRecursion (Contains all) (q.edges false scope)) (sym exists)
      (more (scope ++ map (λ (x : Binder). x.sort ∷ []) binders) (own_entries all false (block false binders) bs binders scope h (o refl)))
  quantifier false true scope o more h =
      let from = depended (part_of rest).occurs scope in
      subst (λ (q : Part). AllByRecursion (Contains all) (q.edges true scope)) (sym exists)
      (each-append (Contains all) (edges_between from (sorts_of binders)) ((part_of rest).edges true (scope ++ map (λ (x : Binder). from) binders))
      (entering all true false binders bs scope (part_of rest).occurs refl h)
      (more (scope ++ map (λ (x : Binder). from) binders) (from_entries all true (block false binders) bs binders scope (part_of rest).occurs h)))

-- the edges of what stands under blocks
under : (all : List Edge) (positive : Bool) (f : Formula) → HasNoEdges f → (bs : List Block) → Orders all positive bs → (scope : List (List ℕ)) → Enters all positive scope bs
    → AllByRecursion (Contains all) ((part_of (quantified bs f)).edges positive scope)
under all positive f none [] order scope enter = subst (AllByRecursion (Contains all)) (sym (none positive scope)) tt
under all positive f none (b ∷ bs) order scope enter = quantifier all b.binders (quantified bs f) bs b.universal positive scope order.0 (under all positive f none bs order.1) enter

pub formulas_add_these_edges : FormulasAddTheseEdges
formulas_add_these_edges p t f positive h =
    let all = template_edges t in
    subst (λ (g : Formula). AllByRecursion (Contains all) (formula_edges g positive)) (sym h.is)
    (under all positive (any_of (map all_of h.body)) (body_none t.terms h.body h.literals) (blocks 0 t.prefix) (order_blocks all positive 0 t.prefix (each-contained all)) [] tt)
