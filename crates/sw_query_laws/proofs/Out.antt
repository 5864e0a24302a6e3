-- A structure of a step's query holds a step.
use Rattle.std.specs.Prelude.{◌≡◌, ℕ, suc, ◌+◌, ◌<◌, ◌≤◌, true, false, List, [], ◌∷◌, ◌++◌, length, take, Some, slice_get, unwrap_or, Contains}
use Rattle.std.proofs.Common.{refl, arith, sym, ap, ◌∙◌, subst, inl, inr}
use Rattle.std.proofs.lemmas.Bool.{false≢true, ltb-true, cases_lt}
use Rattle.std.proofs.lemmas.List.{length-take-le}
use Rattle.std.proofs.lemmas.List.FromFn.{length-map-range_with_len}
use Rattle.std.proofs.lemmas.Option.{same_Some, slice_get_past, slice_get_within, get_or_from_slice_get}
use Rattle.sw_logic.specs.declared.syntax.SymbolKind.TheVariants.{Constant}
use Rattle.sw_logic.specs.declared.syntax.Symbol.{Symbol}
use Rattle.sw_logic.specs.declared.syntax.Binder.{Binder}
use Rattle.sw_logic.specs.declared.structure.Table.{Table}
use Rattle.sw_logic.specs.declared.structure.Table.TheVariants.{Bits, Value, Values}
use Rattle.sw_logic.specs.declared.structure.Structure.{Structure}
use Rattle.sw_logic.specs.Truth.{value_in, size_of, AreValues}
use Rattle.sw_logic.specs.Fits.{fits, table_fits, AgreeOn, FitsPair}
use Rattle.sw_meaning.specs.declared.protocol.Protocol.{Protocol}
use Rattle.sw_meaning.specs.declared.protocol.Transition.{Transition}
use Rattle.sw_meaning.specs.WellFormed.{IsTransition}
use Rattle.sw_renaming.specs.Renamed.{itself, copy_of, constant_of}
use Rattle.sw_renaming.specs.Symbols.{constant_for}
use Rattle.sw_queries.specs.Queries.{step_signature}
use Rattle.sw_queries.specs.Counterexamples.{table_in, before_in, after_in, pair_in, arguments_in}
use Rattle.sw_lists.proofs.Places.{get_append_front, get_front, get_some}
use Rattle.sw_lists.proofs.Members.{get_contains}
use Rattle.sw_query_laws.proofs.Places.{get_range, Copied, copy_cases, FitsEach, fits_each, each_fits}
use Rattle.sw_query_laws.proofs.Parts.{changes, FitsParts, fits_parts, parts_fit, change_at, symbols, copies, constants, all, n, front_count, all_count, itself_below, itself_past, copy_symbol, constant_symbol, IsIn}

agree_from : (ss : List Symbol) (before after : List Table) → length before ≡ length ss → length after ≡ length ss
    → ((i : ℕ) (s : Symbol) (b a : Table) → slice_get ss i ≡ Some s → slice_get before i ≡ Some b → slice_get after i ≡ Some a → s.mutable ≡ false → b ≡ a) → AgreeOn ss before after
agree_from [] before after c d f = tt
agree_from (s ∷ ss) [] after c d f = absurd (omega arith)
agree_from (s ∷ ss) (b ∷ before) [] c d f = absurd (omega arith)
agree_from (s ∷ ss) (b ∷ before) (a ∷ after) c d f =
    (f 0 s b a refl refl refl, agree_from ss before after (omega arith) (omega arith) (λ i. f (suc i)))

values_from : (sizes : List ℕ) (bs : List Binder) (vs : List ℕ) → length vs ≡ length bs
    → ((v : ℕ) (b : Binder) (x : ℕ) → slice_get bs v ≡ Some b → slice_get vs v ≡ Some x → x < size_of sizes b.sort) → AreValues sizes bs vs
values_from sizes [] [] c f = tt
values_from sizes [] (v ∷ vs) c f = absurd (omega arith)
values_from sizes (b ∷ bs) [] c f = absurd (omega arith)
values_from sizes (b ∷ bs) (v ∷ vs) c f = (f 0 b v refl refl, values_from sizes bs vs (omega arith) (λ i. f (suc i)))

constant_below : (sizes : List ℕ) (sort : ℕ) (y : Table) → table_fits sizes [] sort Constant y ≡ true → value_in (Some y) 0 < size_of sizes sort
constant_below sizes sort (Bits bits) e = absurd (false≢true e)
constant_below sizes sort (Value v) e = ltb-true v (size_of sizes sort) e
constant_below sizes sort (Values vs) e = absurd (false≢true e)

module _ (p : Protocol) (t : Transition) (ok : IsTransition p.signature t) (s : Structure) (fit : fits (step_signature p t) s ≡ true) where
  parts : FitsParts (step_signature p t) s
  parts = fits_parts (step_signature p t) s fit

  each : FitsEach s.sizes (all p t ok) s.tables
  each = fits_each s.sizes (all p t ok) s.tables parts.tables

  table_count : length s.tables ≡ n p t ok + length t.modifies + length t.params
  table_count = each.count ∙ all_count p t ok

  -- the table of a symbol's stand-in is there, and it is of that symbol
  stand_in : (i c : ℕ) (x : Symbol) → slice_get (all p t ok) c ≡ Some x → (y : Table) × (slice_get s.tables c ≡ Some y) × (table_in s c ≡ y) × (table_fits s.sizes x.args x.gives x.kind y ≡ true)
  stand_in i c x e =
      let within = slice_get_within (all p t ok) c x e in
      let h : c < length s.tables = let k = each.count in omega arith in
      let found = get_some s.tables c h in
      (found.0, found.1, ap (λ o. unwrap_or o (Value 0)) found.1, each.each c x found.0 e found.1)

  before_at : (i : ℕ) → slice_get s.tables (itself p t i) ≡ slice_get (before_in p t s).tables i
  before_at i = elim (cases_lt i (n p t ok)) [
    | inl below ↦ ap (slice_get s.tables) (itself_below p t ok i below) ∙ sym (get_front (n p t ok) s.tables i below)
    | inr past ↦
        let long : length s.tables ≤ itself p t i = let a = itself_past p t ok i past in let c = table_count in omega arith in
        let short : length (take (n p t ok) s.tables) ≤ i = let c = table_count in let d = length-take-le (n p t ok) s.tables (omega arith) in omega arith in
        slice_get_past s.tables (itself p t i) long ∙ sym (slice_get_past (take (n p t ok) s.tables) i short)
  ]

  after_count : length (after_in p t s).tables ≡ n p t ok
  after_count = length-map-range_with_len (λ k. table_in s (copy_of p t k)) 0 (n p t ok)

  after_range : (i : ℕ) → i < n p t ok → slice_get (after_in p t s).tables i ≡ Some (table_in s (copy_of p t i))
  after_range i h = get_range (λ k. table_in s (copy_of p t k)) 0 (n p t ok) i h ∙ ap (λ k. Some (table_in s (copy_of p t k))) (omega arith)

  -- a number that is no symbol has no copy
  no_copy : (i : ℕ) → n p t ok ≤ i → Copied t.modifies (n p t ok) i (itself p t i) → copy_of p t i ≡ itself p t i
  no_copy i past (Copied.copied j g e) =
      let change = change_at p.signature t.modifies (changes p.signature t ok) j i g in
      let within = slice_get_within p.signature.symbols i change.0 change.1 in
      absurd (omega arith)
  no_copy i past (Copied.kept none e) = e

  after_at : (i : ℕ) → slice_get s.tables (copy_of p t i) ≡ slice_get (after_in p t s).tables i
  after_at i = elim (cases_lt i (n p t ok)) [
    | inl below ↦
        let x = get_some (symbols p t ok) i below in
        let y = stand_in i (copy_of p t i) x.0 (copy_symbol p t ok i ∙ x.1) in
        y.1 ∙ (ap Some (sym y.2) ∙ sym (after_range i below))
    | inr past ↦
        let none = no_copy i past (copy_cases t.modifies (n p t ok) i (itself p t i)) in
        let long : length s.tables ≤ copy_of p t i = let a = itself_past p t ok i past in let c = table_count in omega arith in
        let short : length (after_in p t s).tables ≤ i = let d = after_count in omega arith in
        slice_get_past s.tables (copy_of p t i) long ∙ sym (slice_get_past (after_in p t s).tables i short)
  ]

  arguments_count : length (arguments_in p t s) ≡ length t.params
  arguments_count = length-map-range_with_len (λ v. value_in (slice_get s.tables (constant_of p t v)) 0) 0 (length t.params)

  argument_at : (v : ℕ) → v < length t.params → slice_get (arguments_in p t s) v ≡ Some (value_in (slice_get s.tables (constant_of p t v)) 0)
  argument_at v h =
      get_range (λ k. value_in (slice_get s.tables (constant_of p t k)) 0) 0 (length t.params) v h
      ∙ ap (λ k. Some (value_in (slice_get s.tables (constant_of p t k)) 0)) (omega arith)

  pub is_in : IsIn p t ok s (pair_in p t s) (arguments_in p t s)
  is_in = record {
    sizes_before = refl;
    sizes_after = refl;
    before = before_at;
    after = after_at;
    values = λ v h. sym (get_or_from_slice_get (arguments_in p t s) v (value_in (slice_get s.tables (constant_of p t v)) 0) 0 (argument_at v h));
    count = arguments_count;
  }

  before_fits : fits p.signature (before_in p t s) ≡ true
  before_fits = parts_fit p.signature (before_in p t s) (record {
    sorts = parts.sorts;
    positive = parts.positive;
    tables = each_fits s.sizes (symbols p t ok) (take (n p t ok) s.tables) (record {
      count = length-take-le (n p t ok) s.tables (let c = table_count in omega arith);
      each = λ i x y a b.
          let below = slice_get_within (symbols p t ok) i x a in
          let f = front_count p t ok in
          each.each i x y (get_append_front (symbols p t ok ++ copies p t ok) (constants p t ok) i (omega arith) ∙ (get_append_front (symbols p t ok) (copies p t ok) i below ∙ a)) (sym (get_front (n p t ok) s.tables i below) ∙ b);
    });
  })

  after_fits : fits p.signature (after_in p t s) ≡ true
  after_fits = parts_fit p.signature (after_in p t s) (record {
    sorts = parts.sorts;
    positive = parts.positive;
    tables = each_fits s.sizes (symbols p t ok) (after_in p t s).tables (record {
      count = after_count;
      each = λ i x y a b.
          let below = slice_get_within (symbols p t ok) i x a in
          let z = stand_in i (copy_of p t i) x (copy_symbol p t ok i ∙ a) in
          let same : z.0 ≡ y = sym z.2 ∙ same_Some (table_in s (copy_of p t i)) y (sym (after_range i below) ∙ b) in
          subst (λ (w : Table). table_fits s.sizes x.args x.gives x.kind w ≡ true) same z.3;
    });
  })

  -- the copy of a symbol that may not change is itself
  not_copied : (i : ℕ) (x : Symbol) → slice_get (symbols p t ok) i ≡ Some x → x.mutable ≡ false → Copied t.modifies (n p t ok) i (itself p t i) → copy_of p t i ≡ itself p t i
  not_copied i x a m (Copied.copied j g e) =
      let change = change_at p.signature t.modifies (changes p.signature t ok) j i g in
      let same : change.0 ≡ x = same_Some change.0 x (sym change.1 ∙ a) in
      absurd (false≢true (sym m ∙ (ap (λ (u : Symbol). u.mutable) (sym same) ∙ change.2)))
  not_copied i x a m (Copied.kept none e) = e

  agree : AgreeOn (symbols p t ok) (before_in p t s).tables (after_in p t s).tables
  agree = agree_from (symbols p t ok) (before_in p t s).tables (after_in p t s).tables
      (length-take-le (n p t ok) s.tables (let c = table_count in omega arith)) after_count
      (λ i x b a e f g m.
      let kept = not_copied i x e m (copy_cases t.modifies (n p t ok) i (itself p t i)) in
      same_Some b a (sym f ∙ (sym (before_at i) ∙ (ap (slice_get s.tables) (sym kept) ∙ (after_at i ∙ g)))))

  pub pair_fits : FitsPair p.signature (pair_in p t s)
  pair_fits = record { before = before_fits; after = after_fits; sizes = refl; agree = agree }

  pub in_range : AreValues s.sizes t.params (arguments_in p t s)
  in_range = values_from s.sizes t.params (arguments_in p t s) arguments_count (λ v b x a e.
      let h = slice_get_within t.params v b a in
      let z = stand_in v (constant_of p t v) (constant_for b) (constant_symbol p t ok v b a) in
      let is : value_in (Some z.0) 0 ≡ x = ap (λ o. value_in o 0) (sym z.1) ∙ same_Some (value_in (slice_get s.tables (constant_of p t v)) 0) x (sym (argument_at v h) ∙ e) in
      subst (λ k. k < size_of s.sizes b.sort) is (constant_below s.sizes b.sort z.0 z.3))

  unlisted : (i : ℕ) → (Contains t.modifies i → ⊥) → Copied t.modifies (n p t ok) i (itself p t i) → copy_of p t i ≡ itself p t i
  unlisted i none (Copied.copied j g e) = absurd (none (get_contains t.modifies j i g))
  unlisted i none (Copied.kept more e) = e

  pub others : (i : ℕ) → (Contains t.modifies i → ⊥) → slice_get (before_in p t s).tables i ≡ slice_get (after_in p t s).tables i
  others i none =
      let kept = unlisted i none (copy_cases t.modifies (n p t ok) i (itself p t i)) in
      sym (before_at i) ∙ (ap (slice_get s.tables) (sym kept) ∙ after_at i)
