-- The tree of a formula under blocks of quantifiers, over a text that has the names.
use Rattle.std.specs.Prelude.{◌≡◌, ◌+◌, ◌*◌, ◌<◌, ◌≤◌, ◌||◌, ℕ, suc, Bool, true, false, if◌then◌else◌, List, [], ◌∷◌, ◌++◌, length, map, slice_get, Some, None, codes}
use Rattle.std.specs.List.{AllByRecursion, list_any}
use Rattle.std.specs.Str.{bytes_eq}
use Rattle.std.proofs.Common.{rules, refl, sym, ap, subst, ◌∙◌, arith, append_assoc, append-nil}
use Rattle.std.proofs.lemmas.List.{length-append}
use Rattle.std.proofs.lemmas.Option.{slice_get_within}
use Rattle.std.proofs.lemmas.Slice.Eq.{bytes_eq-Decides}
use Rattle.sw_lists.proofs.Places.{get_append_left, get_append_at}
use Rattle.sw_logic.specs.declared.syntax.Symbol.{Symbol}
use Rattle.sw_logic.specs.declared.syntax.Signature.{Signature}
use Rattle.sw_logic.specs.declared.syntax.Binder as logic
use Rattle.sw_logic.specs.declared.syntax.Formula.{Formula}
use Rattle.sw_logic.specs.declared.syntax.Formula.TheVariants.{ForAll, Exists}
use Rattle.sw_logic.specs.declared.variables.TheConstants.{VARIABLES}
use Rattle.sw_logic.specs.Canonical.{in_brackets}
use Rattle.sw_meaning.specs.Space.{Block, quantified}
use Rattle.sw_trees.specs.declared.tree.Binder.{Binder}
use Rattle.sw_trees.specs.declared.tree.Tree as trees
use Rattle.sw_trees.specs.declared.tree.Tree.{Tree}
use Rattle.sw_trees.specs.declared.tree.Tree.TheVariants as tree
use Rattle.sw_trees.specs.Measures.{bracketed}
use Rattle.sw_text.specs.declared.names.Rule.{Rule}
use Rattle.sw_text.specs.Names as names
use Rattle.sw_text.specs.Names.{Around, Scope, bytes_at, sort_number, symbol_number, variable_number, is_declared, is_none, is_some_number, number_or_0, broken, bound, binder_faults, binders_faults, faults, formula_read}
use Rattle.sw_readback.proofs.Tidy.{IsNameText, TidyBinder, TidyBinders, Tidy, binder_piece, quantifier_word}
use Rattle.sw_formula_readback.proofs.Trees.{Written, ScopeWritten, around, position_is, position_none, same_bytes, other_bytes}
use Rattle.sw_formula_readback.proofs.Bodied.{FormulaOf}

none_like : {X : Type 0} (name : X → List ℕ) (x : List ℕ) (xs : List X) → ((j : ℕ) (y : X) → slice_get xs j ≡ Some y → x ≡ name y → ⊥) → list_any (λ y. bytes_eq x (name y)) xs ≡ false
none_like name x [] h = refl
none_like name x (y ∷ ys) h = ap (λ b. b || list_any (λ z. bytes_eq x (name z)) ys) (other_bytes x (name y) (h 0 y refl)) ∙ none_like name x ys (λ j z e. h (suc j) z e)

-- the sorts are written in the text, no two have one name
pub record SortsWritten (sig : Signature) (A : List ℕ) : Type 0 where
  pub sort : (k : ℕ) (x : List ℕ) → slice_get sig.sorts k ≡ Some x → Written A x
  pub apart : (i j : ℕ) (x : List ℕ) → slice_get sig.sorts i ≡ Some x → slice_get sig.sorts j ≡ Some x → i ≡ j

abbrev pub HaveSorts : Signature → List logic.Binder → Type 0
HaveSorts sig = AllByRecursion (λ (b : logic.Binder). (x : List ℕ) × (slice_get sig.sorts b.sort ≡ Some x))

-- the variables of blocks, one after another
abbrev pub bound_by : List Block → List logic.Binder
bound_by [] = []
bound_by (b ∷ bs) = b.binders ++ bound_by bs

module _ (sig : Signature) (A : List ℕ) (sorts : SortsWritten sig A) (full : Scope) (variables : ScopeWritten sig A full) (no_sort : (v k : ℕ) (b : logic.Binder) (x : List ℕ) → slice_get full v ≡ Some b → slice_get sig.sorts k ≡ Some x → x ≡ b.name → ⊥) where
  abbrev a : Around
  a = around sig A

  record BinderOf (scope : Scope) (b : logic.Binder) : Type 0 where
    pub tree : Binder
    pub tidy : TidyBinder A tree
    pub fine : binder_faults a scope tree ≡ []
    pub is : bound a tree ≡ b

  binder_tree : (scope rest : Scope) (b : logic.Binder) (x : List ℕ) → full ≡ scope ++ b ∷ rest → slice_get sig.sorts b.sort ≡ Some x → BinderOf scope b
  binder_tree scope rest b x e s =
      let here : slice_get full (length scope) ≡ Some b = ap (λ xs. slice_get xs (length scope)) e ∙ get_append_at scope b rest in
      let n = variables.variable (length scope) b here in
      let w = sorts.sort b.sort x s in
      let number : sort_number a x ≡ Some b.sort = position_is (λ y. bytes_eq x y) sig.sorts b.sort x s (same_bytes x x refl) (λ j y f g. sorts.apart j b.sort x (f ∙ ap Some (sym ((bytes_eq-Decides x y).0 g))) s) in
      let known : sort_number a (bytes_at A w.word) ≡ Some b.sort = ap (sort_number a) w.is ∙ number in
      let none_sort : list_any (bytes_eq b.name) sig.sorts ≡ false = none_like (λ y. y) b.name sig.sorts (λ j y f g. no_sort (length scope) j b y here f (sym g)) in
      let none_symbol : list_any (λ (t : Symbol). bytes_eq b.name t.name) sig.symbols ≡ false = none_like (λ (t : Symbol). t.name) b.name sig.symbols (λ j t f g. variables.other (length scope) j b t here f (sym g)) in
      let free : is_declared a b.name ≡ false = ap (λ t. t || (list_any (λ (t : Symbol). bytes_eq b.name t.name) sig.symbols || false)) none_sort ∙ ap (λ t. t || false) none_symbol in
      let new : variable_number scope b.name ≡ None = position_none (λ (c : logic.Binder). bytes_eq b.name c.name) scope (λ j c f. other_bytes b.name c.name (λ g.
      let at : slice_get full j ≡ Some c = ap (λ xs. slice_get xs j) e ∙ get_append_left scope (b ∷ rest) j c f in
      let low = slice_get_within scope j c f in
      let equal : j ≡ length scope = variables.apart j (length scope) c b at here (sym g) in
      omega (arith, low, equal))) in
      record {
        tree = record { name = n.word; sort = w.word };
        tidy = record { name = subst IsNameText (sym n.is) n.name; sort = subst IsNameText (sym w.is) w.name };
        fine =
            ap (λ y. broken n.word.token.at ((is_declared a y || is_some_number (variable_number scope y), Rule.Twice) ∷ []) ++ broken w.word.token.at ((is_none (sort_number a (bytes_at A w.word)), Rule.Unknown) ∷ [])) n.is
            ∙ (ap (λ t. broken n.word.token.at ((t || is_some_number (variable_number scope b.name), Rule.Twice) ∷ []) ++ broken w.word.token.at ((is_none (sort_number a (bytes_at A w.word)), Rule.Unknown) ∷ [])) free
            ∙ (ap (λ o. broken n.word.token.at ((is_some_number o, Rule.Twice) ∷ []) ++ broken w.word.token.at ((is_none (sort_number a (bytes_at A w.word)), Rule.Unknown) ∷ [])) new
            ∙ ap (λ o. broken w.word.token.at ((is_none o, Rule.Unknown) ∷ [])) known));
        is = two n.is (ap number_or_0 known);
      }
    where
      two : {x y : List ℕ} {k j : ℕ} → x ≡ y → k ≡ j → ◌≡◌ {A = logic.Binder} (record { name = x; sort = k }) (record { name = y; sort = j })
      two {x} {y} {k} {j} e f = ap (λ z. let b : logic.Binder = record { name = z; sort = k } in b) e ∙ ap (λ m. let b : logic.Binder = record { name = y; sort = m } in b) f

  record BindersOf (scope : Scope) (bs : List logic.Binder) : Type 0 where
    pub trees : List Binder
    pub text : List ℕ
    pub tidy : TidyBinders A trees text
    pub fine : binders_faults a scope trees ≡ []
    pub are : map (bound a) trees ≡ bs
    pub number : length trees ≡ length bs

  binders_tree : (scope rest : Scope) (bs : List logic.Binder) → full ≡ (scope ++ bs) ++ rest → HaveSorts sig bs → BindersOf scope bs
  binders_tree scope rest [] e s = record { trees = []; text = []; tidy = TidyBinders.no_binders; fine = refl; are = refl; number = refl }
  binders_tree scope rest (b ∷ bs) e s =
      let first = binder_tree scope (bs ++ rest) b s.0.0 (e ∙ append_assoc scope (b ∷ bs) rest) s.0.1 in
      let others = binders_tree (scope ++ b ∷ []) rest bs (e ∙ ap (λ xs. xs ++ rest) (sym (append_assoc scope (b ∷ []) bs))) s.1 in
      record {
        trees = first.tree ∷ others.trees;
        text = codes ", " ++ (binder_piece A first.tree ++ others.text);
        tidy = TidyBinders.more_binders first.tidy others.tidy;
        fine = ap (λ vs. vs ++ binders_faults a (scope ++ bound a first.tree ∷ []) others.trees) first.fine ∙ (ap (λ c. binders_faults a (scope ++ c ∷ []) others.trees) first.is ∙ others.fine);
        are = ap (λ c. c ∷ map (bound a) others.trees) first.is ∙ ap (λ cs. b ∷ cs) others.are;
        number = ap suc others.number;
      }

  faults_Quantified : (u : Bool) (bs : List Binder) (p : Tree) (scope : Scope) → faults a (tree.Quantified u bs p) scope ≡ binders_faults a scope bs ++ faults a p (scope ++ map (bound a) bs)
  faults_Quantified u bs p scope = search (rules, trees.the_lemmas)

  read_Quantified : (u : Bool) (bs : List Binder) (p : Tree) (scope : Scope) → formula_read a (tree.Quantified u bs p) scope ≡ names.quantified u (map (bound a) bs) (formula_read a p (scope ++ map (bound a) bs))
  read_Quantified u bs p scope = search (rules, trees.the_lemmas)

  quantifier_tree : (n : ℕ) (u : Bool) (scope rest : Scope) (bs : List logic.Binder) (f : Formula) → 0 < length bs → full ≡ (scope ++ bs) ++ rest → HaveSorts sig bs → length full ≤ VARIABLES → FormulaOf sig A n (scope ++ bs) f → FormulaOf sig A (n + 3) scope (names.quantified u bs f)
  quantifier_tree n u scope rest [] f some e s few x = absurd (omega (arith, some))
  quantifier_tree n u scope rest (b ∷ bs) f some e s few x =
      let first = binder_tree scope (bs ++ rest) b s.0.0 (e ∙ append_assoc scope (b ∷ bs) rest) s.0.1 in
      let others = binders_tree (scope ++ b ∷ []) rest bs (e ∙ ap (λ xs. xs ++ rest) (sym (append_assoc scope (b ∷ []) bs))) s.1 in
      let ts : List Binder = first.tree ∷ others.trees in
      let are : map (bound a) ts ≡ b ∷ bs = ap (λ c. c ∷ map (bound a) others.trees) first.is ∙ ap (λ cs. b ∷ cs) others.are in
      let binders : binders_faults a scope ts ≡ [] = ap (λ vs. vs ++ binders_faults a (scope ++ bound a first.tree ∷ []) others.trees) first.fine ∙ (ap (λ c. binders_faults a (scope ++ c ∷ []) others.trees) first.is ∙ others.fine) in
      let number = others.number in
      let one = length-append scope (b ∷ bs) in
      let all = ap length e in
      let both = length-append (scope ++ b ∷ bs) rest in
      let inner : length (scope ++ b ∷ bs) ≡ length scope + length ts = omega (arith, one, number) in
      let alone = x.alone in
      record {
        tree = tree.Quantified u ts x.tree;
        shown = in_brackets (quantifier_word u ++ (codes " " ++ (binder_piece A first.tree ++ (others.text ++ (codes ". " ++ x.shown.text)))));
        count = bracketed (x.count.alone + 1);
        tidy = Tidy.quantified u first.tidy others.tidy (omega (arith, few, inner, all, both)) (subst (λ v. Tidy A 0 v x.tree x.shown x.count) inner x.tidy);
        fine = faults_Quantified u ts x.tree scope ∙ (ap (λ vs. vs ++ faults a x.tree (scope ++ map (bound a) ts)) binders ∙ (ap (λ cs. faults a x.tree (scope ++ cs)) are ∙ x.fine));
        is = read_Quantified u ts x.tree scope ∙ (ap (λ cs. names.quantified u cs (formula_read a x.tree (scope ++ cs))) are ∙ ap (names.quantified u (b ∷ bs)) x.is);
        alone = omega (arith, alone);
        operand = omega (arith, alone);
        negated = omega (arith, alone);
      }

  pub blocks_tree : (n : ℕ) (bs : List Block) (scope : Scope) (f : Formula) → AllByRecursion (λ (b : Block). (0 < length b.binders) × HaveSorts sig b.binders) bs → full ≡ scope ++ bound_by bs → length full ≤ VARIABLES → FormulaOf sig A n full f
      → FormulaOf sig A (n + 3 * length bs) scope (quantified bs f)
  blocks_tree n [] scope f h e few x =
      let none : n + 3 * 0 ≡ n = omega arith in
      let same : full ≡ scope = e ∙ append-nil scope in
      subst (λ m. FormulaOf sig A m scope f) (sym none) (subst (λ s. FormulaOf sig A n s f) same x)
  blocks_tree n (b ∷ bs) scope f h e few x =
      let more = blocks_tree n bs (scope ++ b.binders) f h.1 (e ∙ sym (append_assoc scope b.binders (bound_by bs))) few x in
      let here = λ (u : Bool). quantifier_tree (n + 3 * length bs) u scope (bound_by bs) b.binders (quantified bs f) h.0.0 (e ∙ sym (append_assoc scope b.binders (bound_by bs))) h.0.1 few more in
      let count : (n + 3 * length bs) + 3 ≡ n + 3 * suc (length bs) = omega arith in
      subst (λ m. FormulaOf sig A m scope (quantified (b ∷ bs) f)) count (by b.universal here)
    where
      by : (u : Bool) → ((u : Bool) → FormulaOf sig A ((n + 3 * length bs) + 3) scope (names.quantified u b.binders (quantified bs f))) → FormulaOf sig A ((n + 3 * length bs) + 3) scope (if u then ForAll b.binders (quantified bs f) else Exists b.binders (quantified bs f))
      by true g = g true
      by false g = g false
