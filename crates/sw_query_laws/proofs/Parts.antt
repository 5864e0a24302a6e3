-- The symbols of a step's query, and structures that hold a step.
use Rattle.std.specs.Prelude.{◌≡◌, ℕ, zero, suc, ◌+◌, ◌-◌, ◌<◌, ◌≤◌, ◌==◌, ◌&&◌, nat_lt, Bool, true, false, List, [], ◌∷◌, ◌++◌, length, map, Option, Some, None, slice_get, slice_index, option_map, if◌then◌else◌}
use Rattle.std.specs.List.{AllByRecursion, list_all}
use Rattle.std.proofs.Common.{rules, refl, arith, sym, ap, ◌∙◌, subst, inl, inr}
use Rattle.std.proofs.lemmas.Bool.{false≢true, and_parts, and_from, lt-ltb, le-ltb, cases_lt}
use Rattle.std.proofs.lemmas.List.{length-append, length-map}
use Rattle.std.proofs.lemmas.Option.{none-some, same_Some, slice_get_past, slice_get_within, slice_get-map}
use Rattle.sw_logic.specs.declared.syntax.Symbol.{Symbol}
use Rattle.sw_logic.specs.declared.syntax.Binder.{Binder}
use Rattle.sw_logic.specs.declared.syntax.Signature.{Signature}
use Rattle.sw_logic.specs.declared.syntax.Term as terms
use Rattle.sw_logic.specs.declared.syntax.Term.TheVariants.{Variable, Apply}
use Rattle.sw_logic.specs.declared.structure.Structure.{Structure}
use Rattle.sw_logic.specs.declared.structure.Pair.{Pair}
use Rattle.sw_logic.specs.Truth.{World, world, value_in, value_of, table_at, args_of, args_or_none, place, place_from}
use Rattle.sw_logic.specs.Fits.{fits, tables_fit}
use Rattle.sw_meaning.specs.declared.protocol.Protocol.{Protocol}
use Rattle.sw_meaning.specs.declared.protocol.Transition.{Transition}
use Rattle.sw_renaming.specs.declared.renaming.Moment.TheVariants.{Before, Across, After}
use Rattle.sw_meaning.specs.WellFormed.{may_change, is_mutable, IsTransition}
use Rattle.sw_lists.proofs.Each.{each-weaker}
use Rattle.sw_renaming.specs.Renamed.{added, itself, copy_of, constant_of, symbol_at, variable_at}
use Rattle.sw_renaming.specs.Symbols.{copies_of, with_symbol, constant_for}
use Rattle.sw_queries.specs.Queries.{step_signature}
use Rattle.sw_lists.proofs.Places.{get_append_front, get_append_right}
use Rattle.sw_query_laws.proofs.Places.{Copied, copy_cases}
use Rattle.sw_query_laws.proofs.KeepsTruth.{Reads}

-- ---- the parts of fitting
pub record FitsParts (sig : Signature) (s : Structure) : Type 0 where
  pub sorts : (length s.sizes == length sig.sorts) ≡ true
  pub positive : list_all (λ n. nat_lt 0 n) s.sizes ≡ true
  pub tables : tables_fit s.sizes sig.symbols s.tables ≡ true

pub fits_parts : (sig : Signature) (s : Structure) → fits sig s ≡ true → FitsParts sig s
fits_parts sig s e =
    let first = and_parts (length s.sizes == length sig.sorts) (list_all (λ n. nat_lt 0 n) s.sizes && tables_fit s.sizes sig.symbols s.tables) e in
    let second = and_parts (list_all (λ n. nat_lt 0 n) s.sizes) (tables_fit s.sizes sig.symbols s.tables) first.1 in
    record { sorts = first.0; positive = second.0; tables = second.1 }

pub parts_fit : (sig : Signature) (s : Structure) → FitsParts sig s → fits sig s ≡ true
parts_fit sig s f =
    and_from (length s.sizes == length sig.sorts) (list_all (λ n. nat_lt 0 n) s.sizes && tables_fit s.sizes sig.symbols s.tables) f.sorts
    (and_from (list_all (λ n. nat_lt 0 n) s.sizes) (tables_fit s.sizes sig.symbols s.tables) f.positive f.tables)

-- ---- the copies
-- a symbol that may change
abbrev pub MayChange : Signature → ℕ → Type 0
MayChange sig m = (s : Symbol) × (slice_get sig.symbols m ≡ Some s) × (s.mutable ≡ true)

changing : (sig : Signature) (m : ℕ) → is_mutable sig m ≡ true → MayChange sig m
changing sig m e = found (slice_get sig.symbols m) refl e
  where
    found : (o : Option Symbol) → slice_get sig.symbols m ≡ o → may_change o ≡ true → MayChange sig m
    found None d e = absurd (false≢true e)
    found (Some s) d e = (s, d, e)

pub changes : (sig : Signature) (t : Transition) → IsTransition sig t → AllByRecursion (MayChange sig) t.modifies
changes sig t ok = each-weaker (λ m. is_mutable sig m ≡ true) (MayChange sig) (changing sig) t.modifies ok.modifies

first_copy : (sig : Signature) (m : ℕ) (ms : List ℕ) (h : MayChange sig m) → copies_of sig.symbols (m ∷ ms) ≡ h.0 ∷ copies_of sig.symbols ms
first_copy sig m ms h = ap (λ o. with_symbol o (copies_of sig.symbols ms)) h.1

pub copies_count : (sig : Signature) (ms : List ℕ) → AllByRecursion (MayChange sig) ms → length (copies_of sig.symbols ms) ≡ length ms
copies_count sig [] h = refl
copies_count sig (m ∷ ms) h = let rest = copies_count sig ms h.1 in let one : length (h.0.0 ∷ copies_of sig.symbols ms) ≡ length (m ∷ ms) = omega arith in ap length (first_copy sig m ms h.0) ∙ one

pub copies_at : (sig : Signature) (ms : List ℕ) → AllByRecursion (MayChange sig) ms → (j x : ℕ) → slice_get ms j ≡ Some x → slice_get (copies_of sig.symbols ms) j ≡ slice_get sig.symbols x
copies_at sig [] h j x e = absurd (none-some x e)
copies_at sig (m ∷ ms) h zero x e = ap (λ xs. slice_get xs 0) (first_copy sig m ms h.0) ∙ (sym h.0.1 ∙ ap (slice_get sig.symbols) (same_Some m x e))
copies_at sig (m ∷ ms) h (suc j) x e = ap (λ xs. slice_get xs (suc j)) (first_copy sig m ms h.0) ∙ copies_at sig ms h.1 j x e

pub change_at : (sig : Signature) (ms : List ℕ) → AllByRecursion (MayChange sig) ms → (j x : ℕ) → slice_get ms j ≡ Some x → MayChange sig x
change_at sig [] h j x e = absurd (none-some x e)
change_at sig (m ∷ ms) h zero x e = subst (MayChange sig) (same_Some m x e) h.0
change_at sig (m ∷ ms) h (suc j) x e = change_at sig ms h.1 j x e

module _ (p : Protocol) (t : Transition) (ok : IsTransition p.signature t) where
  abbrev pub symbols : List Symbol
  symbols = p.signature.symbols

  abbrev pub copies : List Symbol
  copies = copies_of p.signature.symbols t.modifies

  abbrev pub constants : List Symbol
  constants = map constant_for t.params

  abbrev pub n : ℕ
  n = length p.signature.symbols

  abbrev pub all : List Symbol
  all = symbols ++ copies ++ constants

  pub front_count : length (symbols ++ copies) ≡ n + length t.modifies
  front_count = length-append symbols copies ∙ ap (λ k. n + k) (copies_count p.signature t.modifies (changes p.signature t ok))

  pub all_count : length all ≡ n + length t.modifies + length t.params
  all_count = length-append (symbols ++ copies) constants ∙ ap (λ k. k + length constants) front_count ∙ ap (λ k. n + length t.modifies + k) (length-map t.params constant_for)

  pub itself_below : (i : ℕ) → i < n → itself p t i ≡ i
  itself_below i h = ap (λ b. if b then i else i + added p t) (lt-ltb i n h)

  pub itself_past : (i : ℕ) → n ≤ i → itself p t i ≡ i + added p t
  itself_past i h = ap (λ b. if b then i else i + added p t) (le-ltb i n h)

  -- each symbol is what stands for it
  pub itself_symbol : (i : ℕ) → slice_get all (itself p t i) ≡ slice_get symbols i
  itself_symbol i = elim (cases_lt i n) [
    | inl below ↦ let h : i < length (symbols ++ copies) = let f = front_count in omega arith in
        ap (slice_get all) (itself_below i below) ∙ (get_append_front (symbols ++ copies) constants i h ∙ get_append_front symbols copies i below)
    | inr past ↦ let h : length all ≤ i + added p t = let c = all_count in omega arith in
        ap (slice_get all) (itself_past i past) ∙ (slice_get_past all (i + added p t) h ∙ sym (slice_get_past symbols i past))
  ]

  copied_symbol : (i : ℕ) → Copied t.modifies n i (itself p t i) → slice_get all (copy_of p t i) ≡ slice_get symbols i
  copied_symbol i (Copied.copied j g e) =
      let within = slice_get_within t.modifies j i g in
      let h : n + j < length (symbols ++ copies) = let f = front_count in omega arith in
      ap (slice_get all) e ∙ (get_append_front (symbols ++ copies) constants (n + j) h ∙ (get_append_right symbols copies j ∙ copies_at p.signature t.modifies (changes p.signature t ok) j i g))
  copied_symbol i (Copied.kept none e) = ap (slice_get all) e ∙ itself_symbol i

  pub copy_symbol : (i : ℕ) → slice_get all (copy_of p t i) ≡ slice_get symbols i
  copy_symbol i = copied_symbol i (copy_cases t.modifies n i (itself p t i))

  pub constant_symbol : (v : ℕ) (b : Binder) → slice_get t.params v ≡ Some b → slice_get all (constant_of p t v) ≡ Some (constant_for b)
  constant_symbol v b e =
      let at : constant_of p t v ≡ length (symbols ++ copies) + v = let f = front_count in omega arith in
      ap (slice_get all) at ∙ (get_append_right (symbols ++ copies) constants v ∙ (slice_get-map constant_for t.params v ∙ ap (option_map constant_for) e))

  -- a structure of the query holds a pair and values of the parameters
  pub record IsIn (s : Structure) (pair : Pair) (arguments : List ℕ) : Type 0 where
    pub sizes_before : s.sizes ≡ pair.before.sizes
    pub sizes_after : s.sizes ≡ pair.after.sizes
    pub before : (i : ℕ) → slice_get s.tables (itself p t i) ≡ slice_get pair.before.tables i
    pub after : (i : ℕ) → slice_get s.tables (copy_of p t i) ≡ slice_get pair.after.tables i
    pub values : (v : ℕ) → v < length t.params → value_in (slice_get s.tables (constant_of p t v)) 0 ≡ slice_index arguments v
    pub count : length arguments ≡ length t.params

  module _ (s : Structure) (pair : Pair) (arguments : List ℕ) (holds : IsIn s pair arguments) where
    abbrev sig : Signature
    sig = step_signature p t

    args_itself : (i : ℕ) → args_of sig (itself p t i) ≡ args_of p.signature i
    args_itself i = ap args_or_none (itself_symbol i)

    args_copy : (i : ℕ) → args_of sig (copy_of p t i) ≡ args_of p.signature i
    args_copy i = ap args_or_none (copy_symbol i)

    plain_variable : (w : World) (env : List ℕ) (v : ℕ) → value_of w env (Variable v) ≡ slice_index env v
    plain_variable w env v = search (rules, terms.the_lemmas)

    pub reads_before : Reads p t Before (world p.signature pair.before pair.before) (world sig s s) []
    reads_before = record {
      sizes = holds.sizes_before;
      tables = λ i post. holds.before i ∙ same_table i post;
      args = λ i post. args_itself i;
      variables = λ env v. plain_variable (world sig s s) env v;
    }
      where
        same_table : (i : ℕ) (post : Bool) → slice_get pair.before.tables i ≡ table_at pair.before pair.before i post
        same_table i true = refl
        same_table i false = refl

    pub reads_after : Reads p t After (world p.signature pair.after pair.after) (world sig s s) []
    reads_after = record {
      sizes = holds.sizes_after;
      tables = λ i post. holds.after i ∙ same_table i post;
      args = λ i post. args_copy i;
      variables = λ env v. plain_variable (world sig s s) env v;
    }
      where
        same_table : (i : ℕ) (post : Bool) → slice_get pair.after.tables i ≡ table_at pair.after pair.after i post
        same_table i true = refl
        same_table i false = refl

    no_place : (sorts : List ℕ) → place_from s.sizes 0 sorts [] ≡ 0
    no_place [] = refl
    no_place (sort ∷ sorts) = refl

    constant_value : (env : List ℕ) (v : ℕ) → value_of (world sig s s) env (Apply (constant_of p t v) false []) ≡ value_in (slice_get s.tables (constant_of p t v)) 0
    constant_value env v =
        let step : value_of (world sig s s) env (Apply (constant_of p t v) false []) ≡ value_in (slice_get s.tables (constant_of p t v)) (place (world sig s s) (constant_of p t v) []) = search (rules, terms.the_lemmas) in
        step ∙ ap (value_in (slice_get s.tables (constant_of p t v))) (no_place (args_of sig (constant_of p t v)))

    index_left : (xs ys : List ℕ) (v : ℕ) → v < length xs → slice_index (xs ++ ys) v ≡ slice_index xs v
    index_left [] ys v h = absurd (omega arith)
    index_left (x ∷ xs) ys zero h = refl
    index_left (x ∷ xs) ys (suc v) h = index_left xs ys v (omega arith)

    index_right : (xs ys : List ℕ) (v : ℕ) → length xs ≤ v → slice_index (xs ++ ys) v ≡ slice_index ys (v - length xs)
    index_right [] ys v h = let e : v ≡ v - length {A = ℕ} [] = omega arith in ap (slice_index ys) e
    index_right (x ∷ xs) ys zero h = absurd (omega arith)
    index_right (x ∷ xs) ys (suc v) h = let e : v - length xs ≡ suc v - length (x ∷ xs) = omega arith in index_right xs ys v (omega arith) ∙ ap (slice_index ys) e

    parameter : (env : List ℕ) (v : ℕ) → value_of (world sig s s) env (variable_at p t Across v) ≡ slice_index (arguments ++ env) v
    parameter env v = elim (cases_lt v (length t.params)) [
      | inl below ↦ let h : v < length arguments = let c = holds.count in omega arith in
          ap (λ b. value_of (world sig s s) env (if b then Apply (constant_of p t v) false [] else Variable (v - length t.params))) (lt-ltb v (length t.params) below)
          ∙ (constant_value env v ∙ (holds.values v below ∙ sym (index_left arguments env v h)))
      | inr past ↦ let h : length arguments ≤ v = let c = holds.count in omega arith in
          ap (λ b. value_of (world sig s s) env (if b then Apply (constant_of p t v) false [] else Variable (v - length t.params))) (le-ltb v (length t.params) past)
          ∙ (plain_variable (world sig s s) env (v - length t.params) ∙ (ap (λ k. slice_index env (v - k)) (sym holds.count) ∙ sym (index_right arguments env v h)))
    ]

    across_tables : (i : ℕ) (post : Bool) → slice_get s.tables (symbol_at p t Across i post) ≡ table_at pair.before pair.after i post
    across_tables i true = holds.after i
    across_tables i false = holds.before i

    across_args : (i : ℕ) (post : Bool) → args_of sig (symbol_at p t Across i post) ≡ args_of p.signature i
    across_args i true = args_copy i
    across_args i false = args_itself i

    pub reads_across : Reads p t Across (world p.signature pair.before pair.after) (world sig s s) arguments
    reads_across = record { sizes = holds.sizes_before; tables = across_tables; args = across_args; variables = parameter }
