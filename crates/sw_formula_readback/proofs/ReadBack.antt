-- The text of a formula of a template has this formula.
use Rattle.std.specs.Prelude.{◌≡◌, ◌+◌, ◌*◌, ◌<◌, ◌≤◌, ℕ, zero, suc, Bool, true, false, if◌then◌else◌, List, [], ◌∷◌, ◌++◌, length, map, take, drop, get_or, slice_get, Some, option_map, Result, Ok}
use Rattle.std.specs.List.{AllByRecursion, flat_map, range_with_len}
use Rattle.std.specs.Fmt.{decimal, digits}
use Rattle.std.proofs.Common.{refl, sym, ap, subst, ◌∙◌, arith, append_assoc, append-nil}
use Rattle.std.proofs.Math.Seq.{take-append_seam, drop-append_seam}
use Rattle.std.proofs.lemmas.Bool.{and_parts}
use Rattle.std.proofs.lemmas.Fmt.{decimal_injective}
use Rattle.std.proofs.lemmas.List.{length-append, length-map, map-append}
use Rattle.std.proofs.lemmas.List.FromFn.{length-map-range_with_len}
use Rattle.std.proofs.lemmas.Option.{slice_get-map}
use Rattle.sw_lists.proofs.Each.{each-at, each-unmap, each-front, each-back, each-map, each-any, each-append}
use Rattle.sw_lists.proofs.Places.{get_some}
use Rattle.sw_lists.proofs.Tests.{each_true}
use Rattle.sw_scan.specs.declared.Kind.{Kind}
use Rattle.sw_logic.specs.declared.syntax.Symbol.{Symbol}
use Rattle.sw_logic.specs.declared.syntax.Signature.{Signature}
use Rattle.sw_logic.specs.declared.syntax.Binder as logic
use Rattle.sw_logic.specs.declared.syntax.Formula.{Formula}
use Rattle.sw_logic.specs.Canonical.{text_of, names_of}
use Rattle.sw_logic.specs.Sorted.{well_sorted, extended}
use Rattle.sw_meaning.specs.declared.protocol.Protocol.{Protocol}
use Rattle.sw_meaning.specs.declared.template.Run.{Run}
use Rattle.sw_meaning.specs.declared.template.Template.{Template}
use Rattle.sw_meaning.specs.Space.{InSpace, IsLiteral, Block, same_quantifier, binders_of, before_blocks, blocks, all_of, any_of, template_formula}
use Rattle.sw_cover.proofs.Prefix.{sorted-any_of, sorted-all_of, sorted-quantified, sorts_known, scope_after}
use Rattle.sw_template.specs.Prefix.{variable_count}
use Rattle.sw_template_text.specs.Texts.{IsTemplate}
use Rattle.sw_trees.specs.declared.words.Sign.{Sign}
use Rattle.sw_trees.specs.Words.{name_sign}
use Rattle.sw_trees.specs.Measures.{Nestings, nestings_of}
use Rattle.sw_trees.specs.declared.limits.TheConstants.{NESTINGS}
use Rattle.sw_text.specs.Names.{Scope, formula_read}
use Rattle.sw_text.specs.Texts.{base_in, HasFormula}
use Rattle.sw_text.specs.declared.texts.TextError.{TextError}
use Rattle.sw_text.proofs.OneFormula.{one_formula}
use Rattle.sw_readback.proofs.Tidy.{IsNameText}
use Rattle.sw_readback.proofs.Measured.{tidy_nestings}
use Rattle.sw_readback.proofs.ShownAs.{extends_itself}
use Rattle.sw_readback.proofs.Formulas.{Stands, tidy_stands, stands_alone}
use Rattle.sw_formula_readback.specs.Laws.{IsShownName, AreDeclaredNames, TemplateFormulasReadBack, TextsTellFormulas, in_one_state}
use Rattle.sw_formula_readback.proofs.Prefixes.{names_after, names_are, variable, variable_at}
use Rattle.sw_formula_readback.proofs.Trees.{Written, AreWritten, ScopeWritten, around}
use Rattle.sw_formula_readback.proofs.Bodied.{FormulaOf, all_tree, any_tree, literal_formula}
use Rattle.sw_formula_readback.proofs.Bound.{SortsWritten, HaveSorts, bound_by, blocks_tree}

-- ---- a text that has all names

abbrev Spelled : List ℕ → List ℕ → Type 0
Spelled A x = (at : ℕ) × (take (length x) (drop at A) ≡ x)

all_spelled : (front : List ℕ) (xs : List (List ℕ)) → AllByRecursion (Spelled (front ++ flat_map (λ x. x) xs)) xs
all_spelled front [] = tt
all_spelled front (x ∷ xs) = (
  (length front, ap (take (length x)) (drop-append_seam front (x ++ flat_map (λ y. y) xs)) ∙ take-append_seam x (flat_map (λ y. y) xs)),
  subst (λ A. AllByRecursion (Spelled A) xs) (append_assoc front x (flat_map (λ y. y) xs)) (all_spelled (front ++ x) xs),
)

written : (A x : List ℕ) → Spelled A x → IsNameText x → Written A x
written A x s n = record { word = record { sign = Sign.Name; token = record { kind = Kind.Name; at = s.0; len = length x } }; is = s.1; name = n }

variable_name : (n : ℕ) → n ≤ 6 → IsNameText (variable n)
unfolding digits
variable_name zero h = record { name = refl; sign = refl }
variable_name (suc zero) h = record { name = refl; sign = refl }
variable_name (suc (suc zero)) h = record { name = refl; sign = refl }
variable_name (suc (suc (suc zero))) h = record { name = refl; sign = refl }
variable_name (suc (suc (suc (suc zero)))) h = record { name = refl; sign = refl }
variable_name (suc (suc (suc (suc (suc zero))))) h = record { name = refl; sign = refl }
variable_name (suc (suc (suc (suc (suc (suc zero)))))) h = record { name = refl; sign = refl }
variable_name (suc (suc (suc (suc (suc (suc (suc n))))))) h = absurd (omega (arith, h))

-- ---- the variables of blocks

after_bound : (names : List (List ℕ)) (bs : List Block) → names_after names bs ≡ names ++ names_of (bound_by bs)
after_bound names [] = sym (append-nil names)
after_bound names (b ∷ bs) =
    after_bound (names ++ names_of b.binders) bs
    ∙ (append_assoc names (names_of b.binders) (names_of (bound_by bs)) ∙ ap (λ xs. names ++ xs) (sym (map-append (λ (x : logic.Binder). x.name) b.binders (bound_by bs))))

sorts_bound : (sorts : List ℕ) (bs : List Block) → scope_after sorts bs ≡ sorts ++ map (λ (x : logic.Binder). x.sort) (bound_by bs)
sorts_bound sorts [] = sym (append-nil sorts)
sorts_bound sorts (b ∷ bs) =
    sorts_bound (extended sorts b.binders) bs
    ∙ (append_assoc sorts (map (λ (x : logic.Binder). x.sort) b.binders) (map (λ (x : logic.Binder). x.sort) (bound_by bs)) ∙ ap (λ xs. sorts ++ xs) (sym (map-append (λ (x : logic.Binder). x.sort) b.binders (bound_by bs))))

module _ (sig : Signature) where
  abbrev IsFit : Block → Type 0
  IsFit b = (0 < length b.binders) × HaveSorts sig b.binders

  fit_before : (b : Block) (bs : List Block) → IsFit b → AllByRecursion IsFit bs → AllByRecursion IsFit (before_blocks b bs)
  fit_before b [] h k = (h, tt)
  fit_before b (c ∷ cs) h k = by (same_quantifier b.universal c.universal)
    where
      by : (s : Bool) → AllByRecursion IsFit (if s then record { universal = c.universal; binders = b.binders ++ c.binders } ∷ cs else b ∷ c ∷ cs)
      by true = let one = h.0 in let all = length-append b.binders c.binders in ((omega (arith, one, all), each-append (λ (x : logic.Binder). (y : List ℕ) × (slice_get sig.sorts x.sort ≡ Some y)) b.binders c.binders h.1 k.0.1), k.1)
      by false = (h, k)

  fit_blocks : (before : ℕ) (runs : List Run) → AllByRecursion (λ run. (0 < run.count) × (run.sort < length sig.sorts)) runs → AllByRecursion IsFit (blocks before runs)
  fit_blocks before [] h = tt
  fit_blocks before (run ∷ runs) h =
      let some = h.0.0 in
      let count = length-map-range_with_len (λ n. let b : logic.Binder = record { name = 95 ∷ decimal n; sort = run.sort } in b) (before + 1) run.count in
      fit_before (record { universal = run.universal; binders = binders_of before run }) (blocks (before + run.count) runs) (
        omega (arith, some, count),
        each-map (λ (x : logic.Binder). (y : List ℕ) × (slice_get sig.sorts x.sort ≡ Some y)) (λ n. record { name = 95 ∷ decimal n; sort = run.sort }) (range_with_len (before + 1) run.count)
            (each-any (λ (n : ℕ). (y : List ℕ) × (slice_get sig.sorts run.sort ≡ Some y)) (λ n. get_some sig.sorts run.sort h.0.1) (range_with_len (before + 1) run.count)),
      )
      (fit_blocks (before + run.count) runs h.1)

  few_blocks : (bs : List Block) → AllByRecursion IsFit bs → length bs ≤ length (bound_by bs)
  few_blocks [] h = omega arith
  few_blocks (b ∷ bs) h = let one = h.0.0 in let more = few_blocks bs h.1 in let all = length-append b.binders (bound_by bs) in omega (arith, one, more, all)

-- ---- the law

module _ (p : Protocol) (t : Template) (declared : AreDeclaredNames p.signature) (is : IsTemplate p.signature t) where
  abbrev sig : Signature
  sig = p.signature

  abbrev full : Scope
  full = bound_by (blocks 0 t.prefix)

  abbrev variables : List (List ℕ)
  variables = map variable (range_with_len 1 (variable_count t.prefix))

  abbrev all_names : List (List ℕ)
  all_names = sig.sorts ++ (map (λ (s : Symbol). s.name) sig.symbols ++ variables)

  abbrev A : List ℕ
  A = flat_map (λ x. x) all_names

  full_names : names_of full ≡ variables
  full_names = sym (after_bound [] (blocks 0 t.prefix)) ∙ names_are [] 0 t.prefix

  full_length : length full ≡ variable_count t.prefix
  full_length =
      let one = length-map full (λ (b : logic.Binder). b.name) in
      let two = ap length full_names in
      let three = length-map-range_with_len variable 1 (variable_count t.prefix) in
      omega (arith, one, two, three)

  spelled_sorts : AllByRecursion (Spelled A) sig.sorts
  spelled_sorts = each-front (Spelled A) sig.sorts (map (λ (s : Symbol). s.name) sig.symbols ++ variables) (all_spelled [] all_names)

  spelled_more : AllByRecursion (Spelled A) (map (λ (s : Symbol). s.name) sig.symbols ++ variables)
  spelled_more = each-back (Spelled A) sig.sorts (map (λ (s : Symbol). s.name) sig.symbols ++ variables) (all_spelled [] all_names)

  spelled_symbols : AllByRecursion (λ (s : Symbol). Spelled A s.name) sig.symbols
  spelled_symbols = each-unmap (Spelled A) (λ (s : Symbol). s.name) sig.symbols (each-front (Spelled A) (map (λ (s : Symbol). s.name) sig.symbols) variables spelled_more)

  spelled_variables : AllByRecursion (Spelled A) variables
  spelled_variables = each-back (Spelled A) (map (λ (s : Symbol). s.name) sig.symbols) variables spelled_more

  symbols_written : AreWritten sig A
  symbols_written = record {
    symbol = λ k s e. written A s.name (each-at (λ (s : Symbol). Spelled A s.name) sig.symbols k s e spelled_symbols)
        (record { name = (each-at (λ (s : Symbol). IsShownName s.name) sig.symbols k s e declared.symbols.names).name; sign = each-at (λ (s : Symbol). name_sign s.name ≡ Sign.Name) sig.symbols k s e declared.no_keywords });
    apart = declared.symbols.apart;
  }

  sorts_written : SortsWritten sig A
  sorts_written = record {
    sort = λ k x e. written A x (each-at (Spelled A) sig.sorts k x e spelled_sorts)
        (record { name = (each-at IsShownName sig.sorts k x e declared.sorts).name; sign = each-at (λ x. name_sign x ≡ Sign.Name) sig.sorts k x e declared.sorts_no_keywords });
    apart = declared.sorts_apart;
  }

  name_at : (v : ℕ) (b : logic.Binder) → slice_get full v ≡ Some b → slice_get variables v ≡ Some b.name
  name_at v b e = ap (λ xs. slice_get xs v) (sym full_names) ∙ (slice_get-map (λ (b : logic.Binder). b.name) full v ∙ ap (option_map (λ (b : logic.Binder). b.name)) e)

  name_is : (v : ℕ) (b : logic.Binder) → slice_get full v ≡ Some b → (b.name ≡ variable (1 + v)) × (v < variable_count t.prefix)
  name_is v b e = variable_at 1 (variable_count t.prefix) v b.name (name_at v b e)

  scope_written : ScopeWritten sig A full
  scope_written = record {
    variable = λ v b e.
        let at = name_is v b e in
        let low = at.1 in
        let few = is.variables in
        written A b.name (each-at (Spelled A) variables v b.name (name_at v b e) spelled_variables) (subst IsNameText (sym at.0) (variable_name (1 + v) (omega (arith, low, few))));
    apart = λ v w b c e f n.
        let one = name_is v b e in
        let two = name_is w c f in
        let low = one.1 in
        let less = two.1 in
        let few = is.variables in
        let equal : 1 + v ≡ 1 + w = decimal_injective (1 + v) (1 + w) (omega (arith, low, few)) (omega (arith, less, few)) (ap (drop 1) (sym one.0 ∙ (n ∙ two.0))) in
        omega (arith, equal);
    other = λ v k b s e f n. (each-at (λ (s : Symbol). IsShownName s.name) sig.symbols k s f declared.symbols.names).shown (ap (λ y. get_or y 0 0) (n ∙ (name_is v b e).0));
  }

  no_sort : (v k : ℕ) (b : logic.Binder) (x : List ℕ) → slice_get full v ≡ Some b → slice_get sig.sorts k ≡ Some x → x ≡ b.name → ⊥
  no_sort v k b x e f n = (each-at IsShownName sig.sorts k x f declared.sorts).shown (ap (λ y. get_or y 0 0) (n ∙ (name_is v b e).0))

  abbrev sorts : List ℕ
  sorts = map (λ (b : logic.Binder). b.sort) full

  literals_of : (c : List Formula) → AllByRecursion (IsLiteral t.terms) c → AllByRecursion (λ f. well_sorted sig false f sorts ≡ true) c → AllByRecursion (FormulaOf sig A (t.terms + 3) full) c
  literals_of [] h w = tt
  literals_of (f ∷ fs) h w = (literal_formula sig A full symbols_written scope_written t.terms f h.0 w.0, literals_of fs h.1 w.1)

  cubes_of : (b : List (List Formula)) → AllByRecursion (λ c. 0 < length c) b → AllByRecursion (λ c. AllByRecursion (IsLiteral t.terms) c) b → AllByRecursion (λ c. well_sorted sig false (all_of c) sorts ≡ true) b
      → AllByRecursion (FormulaOf sig A ((t.terms + 3) + 2) full) (map all_of b)
  cubes_of [] some h w = tt
  cubes_of (c ∷ cs) some h w =
      (all_tree sig A full (t.terms + 3) c some.0 (literals_of c h.0 (each_true (λ f. well_sorted sig false f sorts) c (sym (sorted-all_of sig sorts c) ∙ w.0))), cubes_of cs some.1 h.1 w.1)

  formula_of : (f : Formula) → InSpace p t f → FormulaOf sig A ((((t.terms + 3) + 2) + 2) + 3 * length (blocks 0 t.prefix)) [] f
  formula_of f h =
      let bs = blocks 0 t.prefix in
      let closed : well_sorted sig false (template_formula t h.body) [] ≡ true = subst (λ g. well_sorted sig false g [] ≡ true) h.is h.closed in
      let body : Formula = any_of (map all_of h.body) in
      let parts = and_parts (sorts_known sig bs) (well_sorted sig false body (scope_after [] bs)) (sym (sorted-quantified sig bs body []) ∙ closed) in
      let sorted : well_sorted sig false body sorts ≡ true = ap (well_sorted sig false body) (sym (sorts_bound [] bs)) ∙ parts.1 in
      let each = each_true (λ g. well_sorted sig false g sorts) (map all_of h.body) (sym (sorted-any_of sig sorts (map all_of h.body)) ∙ sorted) in
      let cubes = cubes_of h.body h.inner h.literals (each-unmap (λ g. well_sorted sig false g sorts ≡ true) all_of h.body each) in
      let count = length-map h.body all_of in
      let some = h.some in
      let inner = any_tree sig A full ((t.terms + 3) + 2) (map all_of h.body) (omega (arith, count, some)) cubes in
      let few = is.variables in
      let long = full_length in
      subst (λ g. FormulaOf sig A ((((t.terms + 3) + 2) + 2) + 3 * length bs) [] g) (sym h.is)
      (blocks_tree sig A sorts_written full scope_written no_sort (((t.terms + 3) + 2) + 2) bs [] body (fit_blocks sig 0 t.prefix is.runs) refl (omega (arith, few, long)) inner)

pub read_back : TemplateFormulasReadBack
read_back p t f declared is h =
    let x = formula_of p t declared is f h in
    let a = around p.signature (A p t declared is) in
    let T : List ℕ = text_of p.signature [] f in
    let text : text_of p.signature [] (formula_read a x.tree []) ≡ T = ap (text_of p.signature []) x.is in
    let count : (nestings_of x.tree).alone ≡ x.count.alone = ap (λ (n : Nestings). n.alone) (tidy_nestings x.tidy) in
    let fit = fit_blocks p.signature 0 t.prefix is.runs in
    let blocks_few = few_blocks p.signature (blocks 0 t.prefix) fit in
    let long = full_length p t declared is in
    let few = is.variables in
    let shallow = is.terms in
    let alone = x.alone in
    let most : (nestings_of x.tree).alone ≤ NESTINGS = omega (arith, count, blocks_few, long, few, shallow, alone) in
    let s = tidy_stands a p.signature (extends_itself p.signature) [] 0 0 x.tree (x.shown, (x.count, x.tidy)) x.fine T 0 [] (base_in []) (record { iffs = refl; variables = refl }) (omega (arith, most))
    (record { fits = omega arith; is = sym (append-nil (text_of p.signature [] (formula_read a x.tree [])) ∙ text) }) refl in
    stands_alone a [] f (nestings_of x.tree) T (subst (λ (g : Formula). Stands a [] g (nestings_of x.tree) (base_in []) T 0 []) x.is s) most

same_formula : (f g : Formula) → ◌≡◌ {A = Result Formula TextError} (Ok f) (Ok g) → f ≡ g
same_formula f g e = cc

pub texts_tell : TextsTellFormulas
texts_tell p t u f g declared is fits h i e =
    same_formula f g (one_formula (in_one_state p.signature (text_of p.signature [] g)) [] (Ok f) (Ok g)
    (subst (λ T. HasFormula (in_one_state p.signature T) [] (Ok f)) e (read_back p t f declared is h)) (read_back p u g declared fits i))
