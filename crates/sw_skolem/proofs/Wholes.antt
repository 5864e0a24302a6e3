-- The laws of the Skolem form, for whole queries.
use Rattle.std.specs.Prelude.{◌≡◌, ℕ, true, List, [], ◌∷◌, ◌++◌, length, map, take, drop}
use Rattle.std.specs.List.{list_all, filter, flat_map, range_with_len, AllByRecursion}
use Rattle.std.proofs.Common.{arith, refl, sym, ap, subst, ◌∙◌}
use Rattle.std.proofs.lemmas.Bool.{and_parts, and_from, false≢true}
use Rattle.std.proofs.lemmas.List.{append-nil, append_assoc, take-append-drop}
use Rattle.sw_logic.specs.declared.syntax.Symbol.{Symbol}
use Rattle.sw_logic.specs.declared.syntax.Formula.{Formula}
use Rattle.sw_logic.specs.declared.structure.Table.{Table}
use Rattle.sw_logic.specs.declared.structure.Table.TheVariants.{Value}
use Rattle.sw_logic.specs.declared.structure.Structure.{Structure}
use Rattle.sw_logic.specs.Truth.{size_of, truth, IsTrueIn}
use Rattle.sw_logic.specs.Fits.{fits, tables_fit, table_fits}
use Rattle.sw_logic.specs.declared.query.Query.{Query}
use Rattle.sw_truth.specs.declared.sets.Piece.{Piece}
use Rattle.sw_skolem.specs.Normal.{nnf_of}
use Rattle.sw_skolem.specs.Pieces.{Part, part_of, pieces_of}
use Rattle.sw_skolem.specs.Skolem.{forms_of, normal_sentences, added_of, fresh_constant, skolem_of}
use Rattle.sw_truth.specs.Models.{is_bare}
use Rattle.sw_logic.specs.Queries.{Satisfies}
use Rattle.sw_truth.specs.Models.{IsModel, IsTruePiece, Expands, restricted}
use Rattle.sw_logic.specs.Queries.{IsSentence, IsQuery}
use Rattle.sw_skolem.specs.Laws.{SkolemExpands, SkolemRestricts}
use Rattle.sw_truth.specs.Sorting.{HaveSorts, AreNormal}
use Rattle.sw_truth.proofs.Tables.{tables_fit-append}
use Rattle.sw_truth.proofs.Growing.{Stage, at, Grows, grows_on}
use Rattle.sw_truth.proofs.Inhabited.{stage_size, AreBelow}
use Rattle.sw_skolem.proofs.Witnesses.{filter_below}
use Rattle.sw_skolem.proofs.NormalForms.{has_nnf}
use Rattle.sw_skolem.proofs.Expanding.{implied_all, IsReady, all_parts, same_stage}
use Rattle.sw_skolem.proofs.Restricting.{all_restricts}
use Rattle.sw_skolem.proofs.Universal.{all_become}
use Rattle.sw_skolem.proofs.Piecing.{split_all, AreSplit}
use Rattle.std.proofs.lemmas.Bool.{lt-ltb}

-- the sentences of a query in normal form
pub normals : (a : Stage) (fs : List Formula) → AllByRecursion (IsSentence a.signature) fs → AreNormal a.signature [] (map (λ f. nnf_of f true) fs)
normals a [] h = AreNormal.none []
normals a (f ∷ fs) h = AreNormal.more [] (nnf_of f true) (map (λ f. nnf_of f true) fs) (has_nnf a f [] h.0 true).normal (normals a fs h.1)

truths_down : (a : Stage) (fs : List Formula) → AllByRecursion (IsSentence a.signature) fs → AllByRecursion (IsTrueIn a.signature a.structure) fs
    → list_all (λ p. truth (at a) p []) (map (λ f. nnf_of f true) fs) ≡ true
truths_down a [] h t = refl
truths_down a (f ∷ fs) h t = and_from _ _ ((has_nnf a f [] h.0 true).same [] ∙ t.0) (truths_down a fs h.1 t.1)

truths_up : (a : Stage) (fs : List Formula) → AllByRecursion (IsSentence a.signature) fs → list_all (λ p. truth (at a) p []) (map (λ f. nnf_of f true) fs) ≡ true
    → AllByRecursion (IsTrueIn a.signature a.structure) fs
truths_up a [] h t = tt
truths_up a (f ∷ fs) h t =
    let parts = and_parts (truth (at a) (nnf_of f true) []) (list_all (λ p. truth (at a) p []) (map (λ f. nnf_of f true) fs)) t in
    (sym ((has_nnf a f [] h.0 true).same []) ∙ parts.0, truths_up a fs h.1 parts.1)

pub pieces_same : (fs : List Formula) → flat_map (λ (q : Part). q.pieces 0) (map part_of fs) ≡ flat_map (pieces_of 0) fs
pieces_same [] = refl
pieces_same (f ∷ fs) = ap (λ (xs : List Piece). (part_of f).pieces 0 ++ xs) (pieces_same fs)

-- tables of fresh constants
fresh_fit : (a : Stage) (sorts : List ℕ) → AreBelow (length a.signature.sorts) sorts → tables_fit a.structure.sizes (map fresh_constant sorts) (map (λ (s : ℕ). Value 0) sorts) ≡ true
fresh_fit a [] h = refl
fresh_fit a (s ∷ sorts) h = and_from _ _ (lt-ltb 0 (size_of a.structure.sizes s) (stage_size a s h.0)) (fresh_fit a sorts h.1)

fits_with : (a : Stage) (symbols : List Symbol) (tables : List Table) → tables_fit a.structure.sizes symbols tables ≡ true
    → fits (record { sorts = a.signature.sorts; symbols = a.signature.symbols ++ symbols }) (record { sizes = a.structure.sizes; tables = a.structure.tables ++ tables }) ≡ true
fits_with a symbols tables h =
    let parts = and_parts _ _ a.fits in
    let inner = and_parts _ _ parts.1 in
    and_from _ _ parts.0 (and_from _ _ inner.0 (tables_fit-append a.structure.sizes a.signature.symbols symbols a.structure.tables tables inner.1 h))

tables_fit-take : (sizes : List ℕ) (symbols more : List Symbol) (tables : List Table) → tables_fit sizes (symbols ++ more) tables ≡ true → tables_fit sizes symbols (take (length symbols) tables) ≡ true
tables_fit-take sizes [] more tables e = refl
tables_fit-take sizes (x ∷ symbols) more [] e = absurd (false≢true e)
tables_fit-take sizes (x ∷ symbols) more (t ∷ tables) e =
    let parts = and_parts (table_fits sizes x.args x.gives x.kind t) (tables_fit sizes (symbols ++ more) tables) e in
    and_from _ _ parts.0 (tables_fit-take sizes symbols more tables parts.1)

module _ (q : Query) (ok : IsQuery q) where
  abbrev made : List Symbol
  made = (forms_of q).made

  abbrev bare_sorts : List ℕ
  bare_sorts = filter (is_bare (q.signature.symbols ++ made)) (range_with_len 0 (length q.signature.sorts))

  bare_below : AreBelow (length q.signature.sorts) bare_sorts
  bare_below = filter_below (is_bare (q.signature.symbols ++ made)) 0 (length q.signature.sorts) (length q.signature.sorts) (omega arith)

  abbrev stage : (s : Structure) → fits q.signature s ≡ true → Stage
  stage s h = record { signature = q.signature; structure = s; fits = h }

  abbrev skolem_stage : (t : Structure) → fits (skolem_of q).signature t ≡ true → Stage
  skolem_stage t h = record { signature = (skolem_of q).signature; structure = t; fits = h }

  -- the form of the query is universal, and its pieces are true where it is
  pub split : (s t : Structure) (h : fits q.signature s ≡ true) (k : fits (skolem_of q).signature t ≡ true) → Grows (stage s h) (skolem_stage t k)
      → AreSplit (skolem_stage t k) (forms_of q).formulas [] (flat_map (λ (p : Part). p.pieces 0) (map part_of (forms_of q).formulas))
  split s t h k g =
      let a = stage s h in
      let d = skolem_stage t k in
      let universal = all_become a (length q.signature.symbols) refl d g [] (normal_sentences q) (normals a q.sentences ok.sentences) [] [] [] (map fresh_constant bare_sorts) refl HaveSorts.none in
      split_all d [] (forms_of q).formulas universal 0 refl

  -- the stage of a structure with tables for all symbols
  expanded : (s : Structure) (h : Satisfies q s) → (t : Structure) × Expands s t × IsModel (skolem_of q) t
  expanded s h =
      let a = stage s h.fits in
      let ready : IsReady a (length q.signature.symbols) refl a [] = record { grows = same_stage a (length q.signature.symbols) refl a; made_are = sym (append-nil q.signature.symbols) } in
      let x = all_parts a (length q.signature.symbols) refl [] (normal_sentences q) (normals a q.sentences ok.sentences) a [] [] [] ready HaveSorts.none in
      let b = x.stage in
      let zeros = map (λ (n : ℕ). Value 0) bare_sorts in
      let fresh = map fresh_constant bare_sorts in
      let sorts_are : b.signature.sorts ≡ q.signature.sorts = x.grows.sorts_are in
      let below = subst (λ (names : List (List ℕ)). AreBelow (length names) bare_sorts) (sym sorts_are) bare_below in
      let fit = fits_with b fresh zeros (fresh_fit b bare_sorts below) in
      let t : Structure = record { sizes = b.structure.sizes; tables = b.structure.tables ++ zeros } in
      let symbols_are : b.signature.symbols ++ fresh ≡ q.signature.symbols ++ added_of q =
      ap (λ (xs : List Symbol). xs ++ fresh) x.ready.made_are ∙ append_assoc q.signature.symbols made fresh in
      let fit_sorts : fits (record { sorts = q.signature.sorts; symbols = b.signature.symbols ++ fresh }) t ≡ true =
      subst (λ (names : List (List ℕ)). fits (record { sorts = names; symbols = b.signature.symbols ++ fresh }) t ≡ true) sorts_are fit in
      let k : fits (skolem_of q).signature t ≡ true =
      subst (λ (xs : List Symbol). fits (record { sorts = q.signature.sorts; symbols = xs }) t ≡ true) symbols_are fit_sorts in
      let d = skolem_stage t k in
      let last : Grows b d = record { symbols = fresh; tables = zeros; sorts_are = sym sorts_are; sizes_are = refl; symbols_are = sym symbols_are; tables_are = refl } in
      let all = grows_on a b d x.grows last in
      let truths = implied_all (at a) [] (at d) [] (normal_sentences q) (forms_of q).formulas (x.keeps d last [] tt) (truths_down a q.sentences ok.sentences h.sentences) in
      let pieces = (split s t h.fits k all).down [] tt truths in (
        t,
        record { more = all.tables; sizes = all.sizes_are; tables = all.tables_are },
        record { fits = k; pieces = subst (AllByRecursion (IsTruePiece (skolem_of q).signature t)) (pieces_same (forms_of q).formulas) pieces },
      )

  restricted_satisfies : (t : Structure) → IsModel (skolem_of q) t → Satisfies q (restricted q.signature t)
  restricted_satisfies t h =
      let parts = and_parts _ _ h.fits in
      let inner = and_parts _ _ parts.1 in
      let s = restricted q.signature t in
      let fit : fits q.signature s ≡ true = and_from _ _ parts.0 (and_from _ _ inner.0 (tables_fit-take t.sizes q.signature.symbols (added_of q) t.tables inner.1)) in
      let a = stage s fit in
      let d = skolem_stage t h.fits in
      let g : Grows a d = record {
        symbols = added_of q;
        tables = drop (length q.signature.symbols) t.tables;
        sorts_are = refl;
        sizes_are = refl;
        symbols_are = refl;
        tables_are = sym (take-append-drop (length q.signature.symbols) t.tables);
      } in
      let pieces = subst (AllByRecursion (IsTruePiece (skolem_of q).signature t)) (sym (pieces_same (forms_of q).formulas)) h.pieces in
      let truths = (split s t fit h.fits g).up [] tt pieces in
      let implied = all_restricts a (length q.signature.symbols) refl d g [] (normal_sentences q) (normals a q.sentences ok.sentences) [] [] [] (map fresh_constant bare_sorts) refl HaveSorts.none [] tt in
      let back = implied_all (at d) [] (at a) [] (forms_of q).formulas (normal_sentences q) implied truths in
      record { fits = fit; sentences = truths_up a q.sentences ok.sentences back }

pub skolem_expands : SkolemExpands
skolem_expands q s ok h = expanded q ok s h

pub skolem_restricts : SkolemRestricts
skolem_restricts q t ok h = restricted_satisfies q ok t h
