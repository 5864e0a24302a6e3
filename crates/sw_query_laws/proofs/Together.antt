-- A step and its arguments are a structure of its query.
use Rattle.std.specs.Prelude.{◌≡◌, ℕ, ◌+◌, ◌<◌, ◌≤◌, true, List, [], ◌∷◌, ◌++◌, length, map, nat_lt, Some, slice_get, slice_index, unwrap_or, option_map}
use Rattle.std.specs.List.{AllByRecursion}
use Rattle.std.proofs.Common.{refl, arith, sym, ap, ◌∙◌, subst, inl, inr}
use Rattle.std.proofs.lemmas.Bool.{false≢true, and_parts, and_from, lt-ltb, cases_lt}
use Rattle.std.proofs.lemmas.List.{length-append, length-map}
use Rattle.std.proofs.lemmas.Option.{slice_get_past, slice_get_within, slice_get-map, get_or_from_slice_get}
use Rattle.sw_logic.specs.declared.syntax.Symbol.{Symbol}
use Rattle.sw_logic.specs.declared.syntax.Binder.{Binder}
use Rattle.sw_logic.specs.declared.syntax.Signature.{Signature}
use Rattle.sw_logic.specs.declared.structure.Table.{Table}
use Rattle.sw_logic.specs.declared.structure.Table.TheVariants.{Value}
use Rattle.sw_logic.specs.declared.structure.Structure.{Structure}
use Rattle.sw_logic.specs.declared.structure.Pair.{Pair}
use Rattle.sw_logic.specs.Truth.{value_in, size_of, AreValues}
use Rattle.sw_logic.specs.Fits.{fits, table_fits, tables_fit, FitsPair}
use Rattle.sw_meaning.specs.declared.protocol.Protocol.{Protocol}
use Rattle.sw_meaning.specs.declared.protocol.Transition.{Transition}
use Rattle.sw_meaning.specs.Runs.{Fires}
use Rattle.sw_meaning.specs.WellFormed.{IsTransition}
use Rattle.sw_renaming.specs.Renamed.{itself, copy_of, constant_of}
use Rattle.sw_renaming.specs.Symbols.{copies_of, with_symbol, constant_for}
use Rattle.sw_queries.specs.Queries.{step_signature}
use Rattle.sw_queries.specs.Counterexamples.{table_in, joined}
use Rattle.sw_lists.proofs.Places.{get_append_front, get_append_right, get_some}
use Rattle.sw_query_laws.proofs.Places.{Copied, copy_cases, FitsEach, fits_each}
use Rattle.sw_query_laws.proofs.Parts.{changes, MayChange, FitsParts, fits_parts, parts_fit, change_at, symbols, copies, constants, n, itself_below, itself_past, IsIn}

tables_append : (sizes : List ℕ) (ss us : List Symbol) (ts vs : List Table) → tables_fit sizes ss ts ≡ true → tables_fit sizes us vs ≡ true → tables_fit sizes (ss ++ us) (ts ++ vs) ≡ true
tables_append sizes [] us [] vs a b = b
tables_append sizes [] us (x ∷ ts) vs a b = absurd (false≢true a)
tables_append sizes (s ∷ ss) us [] vs a b = absurd (false≢true a)
tables_append sizes (s ∷ ss) us (x ∷ ts) vs a b =
    let both = and_parts (table_fits sizes s.args s.gives s.kind x) (tables_fit sizes ss ts) a in
    and_from (table_fits sizes s.args s.gives s.kind x) (tables_fit sizes (ss ++ us) (ts ++ vs)) both.0 (tables_append sizes ss us ts vs both.1 b)

copies_fit : (sizes : List ℕ) (sig : Signature) (after : Structure) → FitsEach sizes sig.symbols after.tables → (ms : List ℕ) → AllByRecursion (MayChange sig) ms
    → tables_fit sizes (copies_of sig.symbols ms) (map (table_in after) ms) ≡ true
copies_fit sizes sig after f [] h = refl
copies_fit sizes sig after f (m ∷ ms) h =
    let x = h.0.0 in
    let within = slice_get_within sig.symbols m x h.0.1 in
    let found = get_some after.tables m (let c = f.count in omega arith) in
    let is : table_in after m ≡ found.0 = ap (λ o. unwrap_or o (Value 0)) found.1 in
    let here : table_fits sizes x.args x.gives x.kind (table_in after m) ≡ true = subst (λ (y : Table). table_fits sizes x.args x.gives x.kind y ≡ true) (sym is) (f.each m x found.0 h.0.1 found.1) in
    ap (λ o. tables_fit sizes (with_symbol o (copies_of sig.symbols ms)) (table_in after m ∷ map (table_in after) ms)) h.0.1
    ∙ and_from (table_fits sizes x.args x.gives x.kind (table_in after m)) (tables_fit sizes (copies_of sig.symbols ms) (map (table_in after) ms)) here (copies_fit sizes sig after f ms h.1)

constants_fit : (sizes : List ℕ) (bs : List Binder) (vs : List ℕ) → AreValues sizes bs vs → tables_fit sizes (map constant_for bs) (map Value vs) ≡ true
constants_fit sizes [] [] a = refl
constants_fit sizes [] (v ∷ vs) a = absurd a
constants_fit sizes (b ∷ bs) [] a = absurd a
constants_fit sizes (b ∷ bs) (v ∷ vs) a =
    and_from (nat_lt v (size_of sizes b.sort)) (tables_fit sizes (map constant_for bs) (map Value vs)) (lt-ltb v (size_of sizes b.sort) a.0) (constants_fit sizes bs vs a.1)

values_count : (sizes : List ℕ) (bs : List Binder) (vs : List ℕ) → AreValues sizes bs vs → length vs ≡ length bs
values_count sizes [] [] a = refl
values_count sizes [] (v ∷ vs) a = absurd a
values_count sizes (b ∷ bs) [] a = absurd a
values_count sizes (b ∷ bs) (v ∷ vs) a = let h = values_count sizes bs vs a.1 in omega arith

module _ (p : Protocol) (t : Transition) (ok : IsTransition p.signature t) (pair : Pair) (arguments : List ℕ) (fit : FitsPair p.signature pair) (fires : Fires p t arguments pair) where
  abbrev whole : Structure
  whole = joined p t pair arguments

  before : FitsParts p.signature pair.before
  before = fits_parts p.signature pair.before fit.before

  after : FitsParts p.signature pair.after
  after = fits_parts p.signature pair.after fit.after

  after_each : FitsEach pair.before.sizes p.signature.symbols pair.after.tables
  after_each = fits_each pair.before.sizes p.signature.symbols pair.after.tables (subst (λ sizes. tables_fit sizes p.signature.symbols pair.after.tables ≡ true) (sym fit.sizes) after.tables)

  before_each : FitsEach pair.before.sizes p.signature.symbols pair.before.tables
  before_each = fits_each pair.before.sizes p.signature.symbols pair.before.tables before.tables

  pub whole_fits : fits (step_signature p t) whole ≡ true
  whole_fits = parts_fit (step_signature p t) whole (record {
    sorts = before.sorts;
    positive = before.positive;
    tables = tables_append pair.before.sizes (symbols p t ok ++ copies p t ok) (constants p t ok) (pair.before.tables ++ map (table_in pair.after) t.modifies) (map Value arguments)
        (tables_append pair.before.sizes (symbols p t ok) (copies p t ok) pair.before.tables (map (table_in pair.after) t.modifies) before.tables
        (copies_fit pair.before.sizes p.signature pair.after after_each t.modifies (changes p.signature t ok)))
        (constants_fit pair.before.sizes t.params arguments fires.in_range);
  })

  abbrev front : List Table
  front = pair.before.tables ++ map (table_in pair.after) t.modifies

  front_count : length front ≡ n p t ok + length t.modifies
  front_count = length-append pair.before.tables (map (table_in pair.after) t.modifies) ∙ (ap (λ k. k + length (map (table_in pair.after) t.modifies)) before_each.count ∙ ap (λ k. n p t ok + k) (length-map t.modifies (table_in pair.after)))

  count : length arguments ≡ length t.params
  count = values_count pair.before.sizes t.params arguments fires.in_range

  whole_count : length whole.tables ≡ n p t ok + length t.modifies + length t.params
  whole_count = length-append front (map Value arguments) ∙ (ap (λ k. k + length (map Value arguments)) front_count ∙ ap (λ k. n p t ok + length t.modifies + k) (length-map arguments Value ∙ count))

  before_at : (i : ℕ) → slice_get whole.tables (itself p t i) ≡ slice_get pair.before.tables i
  before_at i = elim (cases_lt i (n p t ok)) [
    | inl below ↦
        let h : i < length pair.before.tables = let c = before_each.count in omega arith in
        let g : i < length front = let c = front_count in omega arith in
        ap (slice_get whole.tables) (itself_below p t ok i below) ∙ (get_append_front front (map Value arguments) i g ∙ get_append_front pair.before.tables (map (table_in pair.after) t.modifies) i h)
    | inr past ↦
        let long : length whole.tables ≤ itself p t i = let a = itself_past p t ok i past in let c = whole_count in omega arith in
        let short : length pair.before.tables ≤ i = let c = before_each.count in omega arith in
        slice_get_past whole.tables (itself p t i) long ∙ sym (slice_get_past pair.before.tables i short)
  ]

  by_copy : (i : ℕ) → Copied t.modifies (n p t ok) i (itself p t i) → slice_get whole.tables (copy_of p t i) ≡ slice_get pair.after.tables i
  by_copy i (Copied.copied j g e) =
      let change = change_at p.signature t.modifies (changes p.signature t ok) j i g in
      let within = slice_get_within p.signature.symbols i change.0 change.1 in
      let listed = slice_get_within t.modifies j i g in
      let found = get_some pair.after.tables i (let c = after_each.count in omega arith) in
      let at : copy_of p t i ≡ length pair.before.tables + j = e ∙ ap (λ k. k + j) (sym before_each.count) in
      let h : length pair.before.tables + j < length front = let c = front_count in let d = before_each.count in omega arith in
      ap (slice_get whole.tables) at ∙ (get_append_front front (map Value arguments) (length pair.before.tables + j) h ∙ (get_append_right pair.before.tables (map (table_in pair.after) t.modifies) j
      ∙ (slice_get-map (table_in pair.after) t.modifies j ∙ (ap (option_map (table_in pair.after)) g ∙ (ap (λ o. Some (unwrap_or o (Value 0))) found.1 ∙ sym found.1)))))
  by_copy i (Copied.kept none e) = ap (slice_get whole.tables) e ∙ (before_at i ∙ fires.others i none)

  value_at : (v : ℕ) → v < length t.params → value_in (slice_get whole.tables (constant_of p t v)) 0 ≡ slice_index arguments v
  value_at v h =
      let found = get_some arguments v (let c = count in omega arith) in
      let at : constant_of p t v ≡ length front + v = ap (λ k. k + v) (sym front_count) in
      ap (λ k. value_in (slice_get whole.tables k) 0) at ∙ (ap (λ o. value_in o 0) (get_append_right front (map Value arguments) v ∙ (slice_get-map Value arguments v ∙ ap (option_map Value) found.1))
      ∙ sym (get_or_from_slice_get arguments v found.0 0 found.1))

  pub is_in : IsIn p t ok whole pair arguments
  is_in = record {
    sizes_before = refl;
    sizes_after = fit.sizes;
    before = before_at;
    after = λ i. by_copy i (copy_cases t.modifies (n p t ok) i (itself p t i));
    values = value_at;
    count = count;
  }
