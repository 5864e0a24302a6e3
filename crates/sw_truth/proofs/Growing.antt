-- Structures that grow by further symbols: the values of terms stay.
use Rattle.std.specs.Prelude.{◌≡◌, ℕ, zero, suc, true, false, List, [], ◌∷◌, ◌++◌, map, Option, Some, slice_get, slice_index, unwrap_or, option_map}
use Rattle.std.proofs.Common.{rules, refl, sym, ap, subst, ◌∙◌}
use Rattle.std.proofs.lemmas.List.{append_assoc}
use Rattle.std.proofs.lemmas.Bool.{and_parts}
use Rattle.std.proofs.lemmas.Option.{none-some, same_Some, slice_get-map, get_or_from_slice_get}
use Rattle.sw_logic.specs.declared.syntax.Symbol.{Symbol}
use Rattle.sw_logic.specs.declared.syntax.Signature.{Signature}
use Rattle.sw_logic.specs.declared.syntax.Term.{Term, the_lemmas}
use Rattle.sw_logic.specs.declared.syntax.Term.TheVariants.{Variable, Apply}
use Rattle.sw_logic.specs.declared.structure.Table.{Table}
use Rattle.sw_logic.specs.declared.structure.Structure.{Structure}
use Rattle.sw_logic.specs.Truth.{World, world, args_or_none, args_of, place_from, value_in, value_of, values_of}
use Rattle.sw_logic.specs.Fits.{fits, tables_fit}
use Rattle.sw_logic.specs.Terms.{put}
use Rattle.sw_truth.specs.Sorting.{HasSort, HaveSorts}
use Rattle.sw_truth.proofs.Tables.{has_table}
use Rattle.sw_lists.proofs.Places.{get_append_left}

-- a structure with its signature
pub record Stage : Type 0 where
  pub signature : Signature
  pub structure : Structure
  pub fits : fits signature structure ≡ true

abbrev pub at : Stage → World
at a = world a.signature a.structure a.structure

-- the second has further symbols with their tables
pub record Grows (a b : Stage) : Type 0 where
  pub symbols : List Symbol
  pub tables : List Table
  pub sorts_are : b.signature.sorts ≡ a.signature.sorts
  pub sizes_are : b.structure.sizes ≡ a.structure.sizes
  pub symbols_are : b.signature.symbols ≡ a.signature.symbols ++ symbols
  pub tables_are : b.structure.tables ≡ a.structure.tables ++ tables

pub grows_on : (a b c : Stage) → Grows a b → Grows b c → Grows a c
grows_on a b c g h = record {
  symbols = g.symbols ++ h.symbols;
  tables = g.tables ++ h.tables;
  sorts_are = h.sorts_are ∙ g.sorts_are;
  sizes_are = h.sizes_are ∙ g.sizes_are;
  symbols_are = h.symbols_are ∙ (ap (λ (xs : List Symbol). xs ++ h.symbols) g.symbols_are ∙ append_assoc a.signature.symbols g.symbols h.symbols);
  tables_are = h.tables_are ∙ (ap (λ (xs : List Table). xs ++ h.tables) g.tables_are ∙ append_assoc a.structure.tables g.tables h.tables);
}

-- the tables of a stage fit
pub stage_tables : (a : Stage) → tables_fit a.structure.sizes a.signature.symbols a.structure.tables ≡ true
stage_tables a = (and_parts _ _ (and_parts _ _ a.fits).1).1

pub value_of-Variable : (w : World) (env : List ℕ) (v : ℕ) → value_of w env (Variable v) ≡ slice_index env v
value_of-Variable w env v = search (rules, the_lemmas)

pub value_of-Apply : (w : World) (env : List ℕ) (k : ℕ) (args : List Term)
    → value_of w env (Apply k false args) ≡ value_in (slice_get w.before.tables k) (place_from w.before.sizes 0 (args_of w.signature k) (values_of w env args))
value_of-Apply w env k args = search (rules, the_lemmas)

pub put-Variable : (terms : List Term) (v : ℕ) → put terms (Variable v) ≡ unwrap_or (slice_get terms v) (Variable v)
put-Variable terms v = search (rules, the_lemmas)

pub put-Apply : (terms : List Term) (k : ℕ) (args : List Term) → put terms (Apply k false args) ≡ Apply k false (map (put terms) args)
put-Apply terms k args = search (rules, the_lemmas)

module _ (a b : Stage) (g : Grows a b) where
  pub symbol_stays : (k : ℕ) (s : Symbol) → slice_get a.signature.symbols k ≡ Some s → slice_get b.signature.symbols k ≡ Some s
  symbol_stays k s e = ap (λ (xs : List Symbol). slice_get xs k) g.symbols_are ∙ get_append_left a.signature.symbols g.symbols k s e

  pub table_stays : (k : ℕ) (s : Symbol) → slice_get a.signature.symbols k ≡ Some s → slice_get b.structure.tables k ≡ slice_get a.structure.tables k
  table_stays k s e =
      let has = has_table a.structure.sizes a.signature.symbols a.structure.tables k s (stage_tables a) e in
      ap (λ (xs : List Table). slice_get xs k) g.tables_are ∙ (get_append_left a.structure.tables g.tables k has.table has.is ∙ sym has.is)

  pub args_stay : (k : ℕ) (s : Symbol) → slice_get a.signature.symbols k ≡ Some s → args_of b.signature k ≡ args_of a.signature k
  args_stay k s e = ap args_or_none (symbol_stays k s e ∙ sym e)

  mutual
    pub value_stays : (sorts env : List ℕ) (t : Term) (sort : ℕ) → HasSort a.signature sorts t sort → value_of (at b) env t ≡ value_of (at a) env t
    value_stays sorts env t sort (HasSort.variable v s e) = value_of-Variable (at b) env v ∙ sym (value_of-Variable (at a) env v)
    value_stays sorts env t sort (HasSort.apply k s args e gives h) =
        let place_stays = λ (args : List ℕ). ap (λ n. place_from n 0 (args_of b.signature k) args) g.sizes_are ∙ ap (λ ss. place_from a.structure.sizes 0 ss args) (args_stay k s e) in
        value_of-Apply (at b) env k args
        ∙ (ap (λ (o : Option Table). value_in o (place_from b.structure.sizes 0 (args_of b.signature k) (values_of (at b) env args))) (table_stays k s e)
        ∙ (ap (value_in (slice_get a.structure.tables k)) (place_stays (values_of (at b) env args) ∙ ap (place_from a.structure.sizes 0 (args_of a.signature k)) (values_stay sorts env args s.args h))
        ∙ sym (value_of-Apply (at a) env k args)))

    pub values_stay : (sorts env : List ℕ) (ts : List Term) (ss : List ℕ) → HaveSorts a.signature sorts ts ss → values_of (at b) env ts ≡ values_of (at a) env ts
    values_stay sorts env ts ss HaveSorts.none = refl
    values_stay sorts env ts ss (HaveSorts.more t us sort rest h hs) = cc (value_stays sorts env t sort h, values_stay sorts env us rest hs)

  mutual
    pub sort_stays : (sorts : List ℕ) (t : Term) (sort : ℕ) → HasSort a.signature sorts t sort → HasSort b.signature sorts t sort
    sort_stays sorts t sort (HasSort.variable v s e) = HasSort.variable v s e
    sort_stays sorts t sort (HasSort.apply k s args e gives h) = HasSort.apply k s args (symbol_stays k s e) gives (sorts_stay sorts args s.args h)

    pub sorts_stay : (sorts : List ℕ) (ts : List Term) (ss : List ℕ) → HaveSorts a.signature sorts ts ss → HaveSorts b.signature sorts ts ss
    sorts_stay sorts ts ss HaveSorts.none = HaveSorts.none
    sorts_stay sorts ts ss (HaveSorts.more t us sort rest h hs) = HaveSorts.more t us sort rest (sort_stays sorts t sort h) (sorts_stay sorts us rest hs)

-- a variable of the scope has a term in its place
pub term_at : (sig : Signature) (sorts : List ℕ) (terms : List Term) (scope : List ℕ) (v sort : ℕ) → HaveSorts sig sorts terms scope → slice_get scope v ≡ Some sort
    → (t : Term) × (slice_get terms v ≡ Some t) × HasSort sig sorts t sort
term_at sig sorts terms scope v sort HaveSorts.none e = absurd (none-some sort e)
term_at sig sorts terms scope zero sort (HaveSorts.more t us s rest h hs) e = (t, refl, subst (HasSort sig sorts t) (same_Some s sort e) h)
term_at sig sorts terms scope (suc v) sort (HaveSorts.more t us s rest h hs) e = term_at sig sorts us rest v sort hs e

-- putting terms in the place of variables is reading their values
module _ (w : World) (env : List ℕ) (terms : List Term) (sig sig' : Signature) (sorts scope : List ℕ) (ok : HaveSorts sig sorts terms scope) where
  put_variable : (v sort : ℕ) → slice_get scope v ≡ Some sort → value_of w env (put terms (Variable v)) ≡ value_of w (values_of w env terms) (Variable v)
  put_variable v sort e =
      let there = term_at sig sorts terms scope v sort ok e in
      let got : slice_get (values_of w env terms) v ≡ Some (value_of w env there.0) = slice_get-map (value_of w env) terms v ∙ ap (option_map (value_of w env)) there.1 in
      ap (value_of w env) (put-Variable terms v ∙ ap (λ (o : Option Term). unwrap_or o (Variable v)) there.1)
      ∙ sym (value_of-Variable w (values_of w env terms) v ∙ get_or_from_slice_get (values_of w env terms) v (value_of w env there.0) 0 got)

  mutual
    pub value_of-put : (t : Term) (sort : ℕ) → HasSort sig' scope t sort → value_of w env (put terms t) ≡ value_of w (values_of w env terms) t
    value_of-put t sort (HasSort.variable v s e) = put_variable v s e
    value_of-put t sort (HasSort.apply k s args e gives h) =
        ap (value_of w env) (put-Apply terms k args)
        ∙ (value_of-Apply w env k (map (put terms) args)
        ∙ (ap (λ vs. value_in (slice_get w.before.tables k) (place_from w.before.sizes 0 (args_of w.signature k) vs)) (values_of-put args s.args h)
        ∙ sym (value_of-Apply w (values_of w env terms) k args)))

    pub values_of-put : (ts : List Term) (ss : List ℕ) → HaveSorts sig' scope ts ss → values_of w env (map (put terms) ts) ≡ values_of w (values_of w env terms) ts
    values_of-put ts ss HaveSorts.none = refl
    values_of-put ts ss (HaveSorts.more t us sort rest h hs) = cc (value_of-put t sort h, values_of-put us rest hs)
