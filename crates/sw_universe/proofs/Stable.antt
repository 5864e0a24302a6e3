-- The ground terms of a sort are its constants and then the applications.
use Rattle.std.proofs.Common.{◌≡◌, ℕ, zero, suc, ◌+◌, ◌<◌, true, false, List, [], ◌∷◌, ◌++◌, length, map, arith, refl, sym, ap, ◌∙◌, subst, inl, inr}
use Rattle.std.specs.Prelude.{slice_index}
use Rattle.std.specs.List.{AllByRecursion, flat_map}
use Rattle.std.proofs.lemmas.Bool.{false≢true}
use Rattle.sw_lists.proofs.Each.{each-front, each-back}
use Rattle.sw_logic.specs.declared.syntax.SymbolKind.{SymbolKind}
use Rattle.sw_logic.specs.declared.syntax.SymbolKind.TheVariants.{Relation, Constant, Function}
use Rattle.sw_logic.specs.declared.syntax.Symbol.{Symbol}
use Rattle.sw_logic.specs.declared.syntax.Signature.{Signature}
use Rattle.sw_logic.specs.declared.syntax.Edge.{Edge}
use Rattle.sw_logic.specs.declared.syntax.Term.TheVariants.{Apply}
use Rattle.sw_logic.specs.Strata.{IsStratified, function_edges, symbol_edges, edges_between, edge}
use Rattle.sw_universe.specs.GroundTerms.{tuples, is_function, giving, constants, applications, terms_within, terms_of}
use Rattle.sw_universe.proofs.Distinct.{Among, among_at, given}

flat_same : {X Y : Type 0} (f g : X → List Y) (xs : List X) → ((x : X) → Among x xs → f x ≡ g x) → flat_map f xs ≡ flat_map g xs
flat_same f g [] h = refl
flat_same f g (x ∷ xs) h = ap (λ ys. ys ++ flat_map f xs) (h x (inl refl)) ∙ ap (λ ys. g x ++ ys) (flat_same f g xs (λ y a. h y (inr a)))

map_same : {X Y : Type 0} (f g : X → Y) (xs : List X) → ((x : X) → Among x xs → f x ≡ g x) → map f xs ≡ map g xs
map_same f g [] h = refl
map_same f g (x ∷ xs) h = ap (λ y. y ∷ map f xs) (h x (inl refl)) ∙ ap (λ ys. g x ∷ ys) (map_same f g xs (λ y a. h y (inr a)))

all_in_flat : {X Y : Type 0} (P : Y → Type 0) (f : X → List Y) (xs : List X) (x : X) → AllByRecursion P (flat_map f xs) → Among x xs → AllByRecursion P (f x)
all_in_flat P f [] x h a = absurd a
all_in_flat P f (y ∷ xs) x h (inl e) = subst (λ z. AllByRecursion P (f z)) (sym e) (each-front P (f y) (flat_map f xs) h)
all_in_flat P f (y ∷ xs) x h (inr a) = all_in_flat P f xs x (each-back P (f y) (flat_map f xs) h) a

module _ (sig : Signature) where
  -- ranks that rise along functions
  module _ (ranks : List ℕ) (rises : AllByRecursion (λ (e : Edge). slice_index ranks e.from < slice_index ranks e.to) (function_edges sig.symbols)) where
    edge_rises : (s : Symbol) (a : ℕ) → Among s sig.symbols → is_function s.kind ≡ true → Among a s.args → slice_index ranks a < slice_index ranks s.gives
    edge_rises s a m k i =
        let P : Edge → Type 0 = λ e. slice_index ranks e.from < slice_index ranks e.to in
        let own : AllByRecursion P (symbol_edges s.kind s.args s.gives) = all_in_flat P (λ (x : Symbol). symbol_edges x.kind x.args x.gives) sig.symbols s rises m in
        let between : AllByRecursion P (edges_between s.args (s.gives ∷ [])) = by s.kind k own in
        (all_in_flat P (λ (x : ℕ). map (edge x) (s.gives ∷ [])) s.args a between i).0
      where
        by : (kind : SymbolKind) → is_function kind ≡ true → AllByRecursion (λ (e : Edge). slice_index ranks e.from < slice_index ranks e.to) (symbol_edges kind s.args s.gives)
            → AllByRecursion (λ (e : Edge). slice_index ranks e.from < slice_index ranks e.to) (edges_between s.args (s.gives ∷ []))
        by Relation e h = absurd (false≢true e)
        by Constant e h = absurd (false≢true e)
        by Function e h = h

    stable : (depth sort : ℕ) → slice_index ranks sort < depth → terms_within sig depth sort ≡ terms_within sig (suc depth) sort
    stable zero sort h = absurd (omega arith)
    stable (suc depth) sort h =
        ap (λ ts. constants sig sort ++ ts)
        (flat_same (λ (s : ℕ × Symbol). map (Apply s.0 false) (tuples (map (terms_within sig depth) s.1.args))) (λ (s : ℕ × Symbol). map (Apply s.0 false) (tuples (map (terms_within sig (suc depth)) s.1.args))) (giving sig is_function sort)
        (λ s m.
        let g = given sig is_function sort s m in
        ap (λ ls. map (Apply s.0 false) (tuples ls))
        (map_same (terms_within sig depth) (terms_within sig (suc depth)) s.1.args
        (λ a i.
        let r = edge_rises s.1 a (among_at sig.symbols s.0 s.1 g.at) g.of_kind i in
        let same : slice_index ranks s.1.gives ≡ slice_index ranks sort = ap (slice_index ranks) g.gives in
        stable depth a (omega arith)))))

  at_rank : (ranks : List ℕ) (n sort : ℕ) → AllByRecursion (λ (r : ℕ). r < n) ranks → sort < length ranks → slice_index ranks sort < n
  at_rank [] n sort h l = absurd (omega arith)
  at_rank (r ∷ ranks) n zero h l = h.0
  at_rank (r ∷ ranks) n (suc sort) h l = at_rank ranks n sort h.1 (omega arith)

  -- the ground terms of a sort are its constants and then the applications to ground terms
  pub terms_are : IsStratified sig → (sort : ℕ) → sort < length sig.sorts → terms_of sig sort ≡ constants sig sort ++ applications sig (terms_of sig) sort
  terms_are strata sort h =
      let count = strata.are.count in
      stable strata.ranks strata.are.rises (length sig.sorts) sort (at_rank strata.ranks (length sig.sorts) sort strata.are.below (omega arith))
