-- What looking an atom up does to the numbering.
use Rattle.std.proofs.Common.{◌≡◌, ℕ, zero, suc, ◌+◌, ◌*◌, ◌<◌, ◌%◌, List, [], ◌∷◌, ◌++◌, length, Some, None, refl, sym, ap, ◌∙◌, subst, arith, inl, inr}
use Rattle.std.specs.Prelude.{Result, Ok, Err, IfOk, slice_get, slice_index_or, Contains, ◌⊎◌, ◌≢◌}
use Rattle.std.proofs.lemmas.Option.{none-some, same_Some, slice_get_within}
use Rattle.std.proofs.lemmas.Bool.{cases_eq, eq-eqb}
use Rattle.sw_logic.specs.Truth.{args_of, args_or_none, place_from}
use Rattle.sw_logic.specs.declared.syntax.Symbol.{Symbol}
use Rattle.sw_logic.specs.declared.syntax.Signature.{Signature}
use Rattle.sw_refute.specs.declared.clauses.Lit.{Lit}
use Rattle.sw_refute.specs.Satisfaction.{variable}
use Rattle.sw_truth.specs.declared.sets.SkolemSet.{SkolemSet}
use Rattle.sw_universe.specs.declared.universe.Universe.{Universe}
use Rattle.sw_truth.specs.declared.instances.Atom.{Atom}
use Rattle.sw_truth.specs.declared.instances.Atom.TheVariants.{Holds, Equal, Inner}
use Rattle.sw_truth.specs.Models.{AreOfSorts}
use Rattle.sw_ground.specs.declared.table.Table.{Table}
use Rattle.sw_universe.specs.ByNumber.{counts, term_at, terms_at, IsTerm, AreDistinct, AreApart}
use Rattle.sw_instances.specs.Named.{Name, related, equated, inner, plain}
use Rattle.sw_instances.specs.Numbered.{Beside, done, known, first, IsLiteral, StandsFor, is_related, is_equated, is_inner}
use Rattle.sw_ground.specs.Table.{variable_at, Puts}
use Rattle.sw_ground.specs.Indexed.{Spot, related_spot, equated_spot, spot_of, IsNumbering, Looked, old, new, Numbers}
use Rattle.sw_lists.proofs.Members.{get_contains}
use Rattle.sw_lists.proofs.Places.{get_append_left, get_append_at, get_push_cases}
use Rattle.sw_numbers.proofs.Placing.{tuple_told}

pub at_contains : {X : Type 0} (xs : List X) (k : ℕ) (x : X) → k < length xs → slice_index_or xs k x ≡ x → slice_get xs k ≡ Some x
at_contains [] k x h e = absurd (omega arith)
at_contains (y ∷ xs) zero x h e = ap Some e
at_contains (y ∷ xs) (suc k) x h e = at_contains xs k x (omega arith) e

-- an element of the one list has one of the other beside it
record Partner {X Y : Type 0} (R : X → Y → Type 0) (xs : List X) (k : ℕ) (y : Y) : Type 0 where
  it : X
  at : slice_get xs k ≡ Some it
  beside : R it y

partner : {X Y : Type 0} (R : X → Y → Type 0) (xs : List X) (ys : List Y) → Beside R xs ys → (k : ℕ) (y : Y) → slice_get ys k ≡ Some y → Partner R xs k y
partner R [] [] b k y e = absurd (none-some y e)
partner R [] (z ∷ ys) b k y e = absurd b
partner R (x ∷ xs) [] b k y e = absurd b
partner R (x ∷ xs) (z ∷ ys) b zero y e = record { it = x; at = refl; beside = subst (R x) (same_Some z y e) b.0 }
partner R (x ∷ xs) (z ∷ ys) b (suc k) y e = let p = partner R xs ys b.1 k y e in record { it = p.it; at = p.at; beside = p.beside }

record Mate {X Y : Type 0} (R : X → Y → Type 0) (ys : List Y) (k : ℕ) (x : X) : Type 0 where
  it : Y
  at : slice_get ys k ≡ Some it
  beside : R x it

mate : {X Y : Type 0} (R : X → Y → Type 0) (xs : List X) (ys : List Y) → Beside R xs ys → (k : ℕ) (x : X) → slice_get xs k ≡ Some x → Mate R ys k x
mate R [] [] b k x e = absurd (none-some x e)
mate R [] (z ∷ ys) b k x e = absurd b
mate R (w ∷ xs) [] b k x e = absurd b
mate R (w ∷ xs) (z ∷ ys) b zero x e = record { it = z; at = refl; beside = subst (λ v. R v z) (same_Some w x e) b.0 }
mate R (w ∷ xs) (z ∷ ys) b (suc k) x e = let p = mate R xs ys b.1 k x e in record { it = p.it; at = p.at; beside = p.beside }

pub beside_more : {X Y : Type 0} (R : X → Y → Type 0) (xs : List X) (ys : List Y) (x : X) (y : Y) → Beside R xs ys → R x y → Beside R (xs ++ x ∷ []) (ys ++ y ∷ [])
beside_more R [] [] x y b r = (r, tt)
beside_more R [] (z ∷ ys) x y b r = absurd b
beside_more R (w ∷ xs) [] x y b r = absurd b
beside_more R (w ∷ xs) (z ∷ ys) x y b r = (b.0, beside_more R xs ys x y b.1 r)

beside_length : {X Y : Type 0} (R : X → Y → Type 0) (xs : List X) (ys : List Y) → Beside R xs ys → length xs ≡ length ys
beside_length R [] [] b = refl
beside_length R [] (z ∷ ys) b = absurd b
beside_length R (w ∷ xs) [] b = absurd b
beside_length R (w ∷ xs) (z ∷ ys) b = ap suc (beside_length R xs ys b.1)

terms_told : (u : Universe) → AreDistinct u → (sorts xs ys : List ℕ) → AreOfSorts (counts u) sorts xs → AreOfSorts (counts u) sorts ys → terms_at u sorts xs ≡ terms_at u sorts ys → xs ≡ ys
terms_told u d [] [] [] h g e = refl
terms_told u d [] [] (y ∷ ys) h g e = absurd g
terms_told u d [] (x ∷ xs) ys h g e = absurd h
terms_told u d (sort ∷ sorts) [] ys h g e = absurd h
terms_told u d (sort ∷ sorts) (x ∷ xs) [] h g e = absurd g
terms_told u d (sort ∷ sorts) (x ∷ xs) (y ∷ ys) h g e =
    let one : x ≡ y = d sort x y h.0 g.0 cc in
    let rest : xs ≡ ys = terms_told u d sorts xs ys h.1 g.1 cc in
    ap (λ (n : ℕ). n ∷ xs) one ∙ ap (λ (ns : List ℕ). y ∷ ns) rest

module _ (set : SkolemSet) (u : Universe) where
  abbrev sig : Signature
  sig = set.signature

  -- what stands for a name
  abbrev OfName : Atom → Name → Type 0
  OfName a (related symbol ts) = (ns : List ℕ) × (a ≡ Holds symbol ns) × AreOfSorts (counts u) (args_of sig symbol) ns × (ts ≡ terms_at u (args_of sig symbol) ns)
  OfName a (equated x y) = (sort : ℕ) × (t : ℕ) × (v : ℕ) × (a ≡ Equal sort t v) × IsTerm u sort t × IsTerm u sort v × (x ≡ term_at u sort t) × (y ≡ term_at u sort v)
  OfName a (inner path) = a ≡ Inner

  of_name : {a : Atom} {n : Name} → StandsFor set u a n → OfName a n
  of_name (is_related {symbol} {ns} h) = (ns, refl, h, refl)
  of_name (is_equated {sort} {t} {v} h g) = (sort, t, v, refl, h, g, refl, refl)
  of_name is_inner = refl

  -- what an atom stands for
  abbrev OfAtom : Atom → Name → Type 0
  OfAtom (Holds symbol ns) n = AreOfSorts (counts u) (args_of sig symbol) ns × (n ≡ related symbol (terms_at u (args_of sig symbol) ns))
  OfAtom (Equal sort t v) n = IsTerm u sort t × IsTerm u sort v × (n ≡ equated (term_at u sort t) (term_at u sort v))
  OfAtom Inner n = (path : List ℕ) × (n ≡ inner path)

  of_atom : {a : Atom} {n : Name} → StandsFor set u a n → OfAtom a n
  of_atom (is_related h) = (h, refl)
  of_atom (is_equated h g) = (h, g, refl)
  of_atom (is_inner {path}) = (path, refl)

  -- one more variable, at a spot that had none
  spot_cases : (s : Spot) (group place : ℕ) → ((s.group ≡ group) × (s.place ≡ place)) ⊎ ((s.group ≢ group) ⊎ (s.place ≢ place))
  spot_cases s group place = elim (cases_eq s.group group) [
    | inl e ↦ elim (cases_eq s.place place) [ inl f ↦ inl (e, f) | inr d ↦ inr (inr d) ]
    | inr d ↦ inr (inl d)
  ]

  grown : (table after : Table) (atoms : List Atom) (names : List Name) (spot : Spot) (a : Atom) (n : Name) → IsNumbering set u table atoms names → StandsFor set u a n
      → ((symbol : ℕ) (ns : List ℕ) → a ≡ Holds symbol ns → symbol < length sig.symbols)
      → spot_of sig (counts u) a ≡ Some spot → variable_at table spot.group spot.place ≡ None → Puts table spot.group spot.place (length atoms) after
      → IsNumbering set u after (atoms ++ a ∷ []) (names ++ n ∷ [])
  grown table after atoms names spot a n h st known_symbol is none puts = record {
    stand = beside_more (StandsFor set u) atoms names a n h.stand st;
    symbols = λ v symbol ns e. elim (get_push_cases atoms a v (Holds symbol ns) e) [ inl f ↦ h.symbols v symbol ns f | inr l ↦ known_symbol symbol ns (sym l.1) ];
    found = λ s v e. elim (spot_cases s spot.group spot.place) [
      | inl same ↦
          let there : variable_at after s.group s.place ≡ Some (length atoms) = ap (λ g. variable_at after g s.place) same.0 ∙ ap (variable_at after spot.group) same.1 ∙ puts.here in
          let at : length atoms ≡ v = same_Some (length atoms) v (sym there ∙ e) in
          let make : ℕ → ℕ → Spot = λ g p. record { group = g; place = p } in
          let spots : spot ≡ s = ap (λ g. make g spot.place) (sym same.0) ∙ ap (make s.group) (sym same.1) in
          (a, subst (λ k. slice_get (atoms ++ a ∷ []) k ≡ Some a) at (get_append_at atoms a []), is ∙ ap Some spots)
      | inr apart ↦ let f = h.found s v (sym (puts.others s.group s.place apart) ∙ e) in (f.0, get_append_left atoms (a ∷ []) v f.0 f.1, f.2)
    ];
    held = λ s v b e f. elim (get_push_cases atoms a v b e) [
      | inl g ↦
          let before = h.held s v b g f in
          elim (spot_cases s spot.group spot.place) [
            | inl same ↦ absurd (none-some v (sym none ∙ ap (λ p. variable_at table spot.group p) (sym same.1) ∙ ap (λ q. variable_at table q s.place) (sym same.0) ∙ before))
            | inr apart ↦ puts.others s.group s.place apart ∙ before
          ]
      | inr l ↦
          let g = l.0 in
          let k : a ≡ b = sym l.1 in
          let spots : spot ≡ s = same_Some spot s (sym is ∙ ap (spot_of sig (counts u)) k ∙ f) in
          ap (λ (x : Spot). variable_at after x.group x.place) (sym spots) ∙ puts.here ∙ ap Some (sym g)
    ];
  }

  grown_inner : (table : Table) (atoms : List Atom) (names : List Name) (path : List ℕ) → IsNumbering set u table atoms names
      → IsNumbering set u table (atoms ++ Inner ∷ []) (names ++ inner path ∷ [])
  grown_inner table atoms names path h = record {
    stand = beside_more (StandsFor set u) atoms names Inner (inner path) h.stand is_inner;
    symbols = λ v symbol ns e. elim (get_push_cases atoms Inner v (Holds symbol ns) e) [ inl f ↦ h.symbols v symbol ns f | inr l ↦ let g = l.1 in cc ];
    found = λ s v e. let f = h.found s v e in (f.0, get_append_left atoms (Inner ∷ []) v f.0 f.1, f.2);
    held = λ s v b e f. elim (get_push_cases atoms Inner v b e) [
      | inl g ↦ h.held s v b g f
      | inr l ↦ absurd (none-some s (ap (spot_of sig (counts u)) (sym l.1) ∙ f))
    ];
  }

  positive_literal : (names : List Name) (n : Name) (lit : Lit) (v : ℕ) → lit.0 ≡ 2 * v → slice_get names v ≡ Some n → IsLiteral names (plain n) lit
  positive_literal names n lit v e at =
      let half : variable lit ≡ v = omega arith in
      let even : lit.0 % 2 ≡ 0 = omega arith in
      record { variable = ap (slice_get names) half ∙ at; sign = eq-eqb (lit.0 % 2) 0 even }

  pub inner_numbers : (table after : Table) (atoms more : List Atom) (names : List Name) (path : List ℕ) (lit : Lit) → after ≡ table → more ≡ atoms ++ Inner ∷ [] → lit.0 ≡ 2 * length atoms
      → IsNumbering set u table atoms names → (Contains names (inner path) → ⊥) → Numbers set u after more names (plain (inner path)) lit
  inner_numbers table after atoms more names path lit e f l h apart =
      let name = inner path in
      let here : slice_get (names ++ name ∷ []) (length atoms) ≡ Some name =
      ap (slice_get (names ++ name ∷ [])) (beside_length (StandsFor set u) atoms names h.stand) ∙ get_append_at names name [] in
      record {
        after = names ++ name ∷ [];
        order = first apart done;
        numbering = subst (λ (xs : List Atom). IsNumbering set u after xs (names ++ name ∷ [])) (sym f)
            (subst (λ (x : Table). IsNumbering set u x (atoms ++ Inner ∷ []) (names ++ name ∷ [])) (sym e) (grown_inner table atoms names path h));
        literal = positive_literal (names ++ name ∷ []) name lit (length atoms) l here;
      }

  -- the variable that stands at the spot is that of the name
  same_related : (symbol : ℕ) (ns : List ℕ) → symbol < length sig.symbols → AreOfSorts (counts u) (args_of sig symbol) ns → (a : Atom) (n : Name) → OfAtom a n
      → spot_of sig (counts u) a ≡ Some (related_spot sig (counts u) symbol ns) → n ≡ related symbol (terms_at u (args_of sig symbol) ns)
  same_related symbol ns low sorted (Holds other ms) n h e =
      let spots = same_Some (related_spot sig (counts u) other ms) (related_spot sig (counts u) symbol ns) e in
      let P : ℕ → Type 0 = λ x. AreOfSorts (counts u) (args_of sig x) ms → place_from (counts u) 0 (args_of sig x) ms ≡ place_from (counts u) 0 (args_of sig symbol) ns
      → related x (terms_at u (args_of sig x) ms) ≡ related symbol (terms_at u (args_of sig symbol) ns) in
      let at_symbol : P symbol = λ g f. ap (λ (xs : List ℕ). related symbol (terms_at u (args_of sig symbol) xs)) (tuple_told (counts u) (args_of sig symbol) ms ns g sorted f) in
      h.1 ∙ subst P (sym (ap (λ (s : Spot). s.group) spots)) at_symbol h.0 (ap (λ (s : Spot). s.place) spots)
  same_related symbol ns low sorted (Equal sort t v) n h e =
      let spots = same_Some (equated_spot sig (counts u) sort t v) (related_spot sig (counts u) symbol ns) e in
      let groups : length sig.symbols + sort ≡ symbol = ap (λ (s : Spot). s.group) spots in
      absurd (omega arith)
  same_related symbol ns low sorted Inner n h e = absurd (none-some _ e)

  pub related_numbers : AreDistinct u → (table after : Table) (atoms more : List Atom) (names : List Name) (symbol : ℕ) (ns : List ℕ) (lit : Lit) → IsNumbering set u table atoms names
      → symbol < length sig.symbols → AreOfSorts (counts u) (args_of sig symbol) ns
      → Looked table atoms symbol (place_from (counts u) 0 (args_of sig symbol) ns) (Holds symbol ns) after more lit
      → Numbers set u after more names (plain (related symbol (terms_at u (args_of sig symbol) ns))) lit
  related_numbers d table after atoms more names symbol ns lit h low sorted (old v e same_table same_atoms l) =
      let name = related symbol (terms_at u (args_of sig symbol) ns) in
      let f = h.found (related_spot sig (counts u) symbol ns) v e in
      let m = mate (StandsFor set u) atoms names h.stand v f.0 f.1 in
      let is : m.it ≡ name = same_related symbol ns low sorted f.0 m.it (of_atom m.beside) f.2 in
      let at : slice_get names v ≡ Some name = m.at ∙ ap Some is in
      record {
        after = names;
        order = known (get_contains names v name at) done;
        numbering = subst (λ (t : Table). IsNumbering set u t more names) (sym same_table) (subst (λ (xs : List Atom). IsNumbering set u table xs names) (sym same_atoms) h);
        literal = positive_literal names name lit v l at;
      }
  related_numbers d table after atoms more names symbol ns lit h low sorted (new none puts same_atoms l) =
      let name = related symbol (terms_at u (args_of sig symbol) ns) in
      let spot = related_spot sig (counts u) symbol ns in
      let apart = λ (c : Contains names name).
      let p = partner (StandsFor set u) atoms names h.stand c.0 name (at_contains names c.0 name c.1 c.2) in
      let o = of_name p.beside in
      let same : ns ≡ o.0 = terms_told u d (args_of sig symbol) ns o.0 sorted o.2 o.3 in
      let at : slice_get atoms c.0 ≡ Some (Holds symbol ns) = p.at ∙ ap Some (o.1 ∙ ap (Holds symbol) (sym same)) in
      none-some c.0 (sym none ∙ h.held spot c.0 (Holds symbol ns) at refl) in
      let here : slice_get (names ++ name ∷ []) (length atoms) ≡ Some name =
      ap (slice_get (names ++ name ∷ [])) (beside_length (StandsFor set u) atoms names h.stand) ∙ get_append_at names name [] in
      let low_symbol = λ (s : ℕ) (ms : List ℕ) (e : Holds symbol ns ≡ Holds s ms). let same : symbol ≡ s = cc in subst (λ k. k < length sig.symbols) same low in
      record {
        after = names ++ name ∷ [];
        order = first apart done;
        numbering = subst (λ (xs : List Atom). IsNumbering set u after xs (names ++ name ∷ [])) (sym same_atoms)
            (grown table after atoms names spot (Holds symbol ns) name h (is_related sorted) low_symbol refl none puts);
        literal = positive_literal (names ++ name ∷ []) name lit (length atoms) l here;
      }

  same_equated : (atoms : List Atom) (k : ℕ) (sort t v : ℕ) → IsTerm u sort t → IsTerm u sort v → (a : Atom) (n : Name) → OfAtom a n
      → ((symbol : ℕ) (ns : List ℕ) → a ≡ Holds symbol ns → symbol < length sig.symbols)
      → spot_of sig (counts u) a ≡ Some (equated_spot sig (counts u) sort t v) → n ≡ equated (term_at u sort t) (term_at u sort v)
  same_equated atoms k sort t v ht hv (Holds other ms) n h low e =
      let spots = same_Some (related_spot sig (counts u) other ms) (equated_spot sig (counts u) sort t v) e in
      let groups : other ≡ length sig.symbols + sort = ap (λ (s : Spot). s.group) spots in
      let below : other < length sig.symbols = low other ms refl in
      absurd (omega arith)
  same_equated atoms k sort t v ht hv (Equal sort' t' v') n h low e =
      let spots = same_Some (equated_spot sig (counts u) sort' t' v') (equated_spot sig (counts u) sort t v) e in
      let groups : length sig.symbols + sort' ≡ length sig.symbols + sort = ap (λ (s : Spot). s.group) spots in
      let sorts : sort' ≡ sort = omega arith in
      let P : ℕ → Type 0 = λ x. IsTerm u x t' → IsTerm u x v' → place_from (counts u) 0 (x ∷ x ∷ []) (t' ∷ v' ∷ []) ≡ place_from (counts u) 0 (sort ∷ sort ∷ []) (t ∷ v ∷ [])
      → equated (term_at u x t') (term_at u x v') ≡ equated (term_at u sort t) (term_at u sort v) in
      let at_sort : P sort = λ f g p.
      let same : t' ∷ v' ∷ [] ≡ t ∷ v ∷ [] = tuple_told (counts u) (sort ∷ sort ∷ []) (t' ∷ v' ∷ []) (t ∷ v ∷ []) (f, (g, tt)) (ht, (hv, tt)) p in
      let one : t' ≡ t = cc in
      let two : v' ≡ v = cc in
      ap (λ x. equated (term_at u sort x) (term_at u sort v')) one ∙ ap (λ x. equated (term_at u sort t) (term_at u sort x)) two in
      h.2 ∙ subst P (sym sorts) at_sort h.0 h.1 (ap (λ (s : Spot). s.place) spots)
  same_equated atoms k sort t v ht hv Inner n h low e = absurd (none-some _ e)

  pub equated_numbers : AreDistinct u → AreApart u → (table after : Table) (atoms more : List Atom) (names : List Name) (sort t v : ℕ) (lit : Lit) → IsNumbering set u table atoms names
      → IsTerm u sort t → IsTerm u sort v
      → Looked table atoms (length sig.symbols + sort) (place_from (counts u) 0 (sort ∷ sort ∷ []) (t ∷ v ∷ [])) (Equal sort t v) after more lit
      → Numbers set u after more names (plain (equated (term_at u sort t) (term_at u sort v))) lit
  equated_numbers d apart_sorts table after atoms more names sort t v lit h ht hv (old k e same_table same_atoms l) =
      let name = equated (term_at u sort t) (term_at u sort v) in
      let f = h.found (equated_spot sig (counts u) sort t v) k e in
      let m = mate (StandsFor set u) atoms names h.stand k f.0 f.1 in
      let low = λ (symbol : ℕ) (ns : List ℕ) (is : f.0 ≡ Holds symbol ns). h.symbols k symbol ns (f.1 ∙ ap Some is) in
      let is : m.it ≡ name = same_equated atoms k sort t v ht hv f.0 m.it (of_atom m.beside) low f.2 in
      let at : slice_get names k ≡ Some name = m.at ∙ ap Some is in
      record {
        after = names;
        order = known (get_contains names k name at) done;
        numbering = subst (λ (x : Table). IsNumbering set u x more names) (sym same_table) (subst (λ (xs : List Atom). IsNumbering set u table xs names) (sym same_atoms) h);
        literal = positive_literal names name lit k l at;
      }
  equated_numbers d apart_sorts table after atoms more names sort t v lit h ht hv (new none puts same_atoms l) =
      let name = equated (term_at u sort t) (term_at u sort v) in
      let spot = equated_spot sig (counts u) sort t v in
      let apart = λ (c : Contains names name).
      let p = partner (StandsFor set u) atoms names h.stand c.0 name (at_contains names c.0 name c.1 c.2) in
      let o = of_name p.beside in
      let sorts : sort ≡ o.0 = apart_sorts sort o.0 t o.1 ht o.4 o.6 in
      let P : ℕ → Type 0 = λ x. IsTerm u x o.1 → IsTerm u x o.2 → term_at u sort t ≡ term_at u x o.1 → term_at u sort v ≡ term_at u x o.2 → Equal x o.1 o.2 ≡ Equal sort t v in
      let at_sort : P sort = λ f g e k.
      let one : t ≡ o.1 = d sort t o.1 ht f e in
      let two : v ≡ o.2 = d sort v o.2 hv g k in
      cc in
      let same : Equal o.0 o.1 o.2 ≡ Equal sort t v = subst P sorts at_sort o.4 o.5 o.6 o.7 in
      let at : slice_get atoms c.0 ≡ Some (Equal sort t v) = p.at ∙ ap Some (o.3 ∙ same) in
      none-some c.0 (sym none ∙ h.held spot c.0 (Equal sort t v) at refl) in
      let here : slice_get (names ++ name ∷ []) (length atoms) ≡ Some name =
      ap (slice_get (names ++ name ∷ [])) (beside_length (StandsFor set u) atoms names h.stand) ∙ get_append_at names name [] in
      let low_symbol : (s : ℕ) (ms : List ℕ) → Equal sort t v ≡ Holds s ms → s < length sig.symbols = λ s ms e. cc in
      record {
        after = names ++ name ∷ [];
        order = first apart done;
        numbering = subst (λ (xs : List Atom). IsNumbering set u after xs (names ++ name ∷ [])) (sym same_atoms)
            (grown table after atoms names spot (Equal sort t v) name h (is_equated ht hv) low_symbol refl none puts);
        literal = positive_literal (names ++ name ∷ []) name lit (length atoms) l here;
      }

pub if_ok_map : {X E : Type 0} (P Q : X → Type 0) (r : Result X E) → ((x : X) → P x → Q x) → IfOk r P → IfOk r Q
if_ok_map P Q (Ok x) f h = f x h
if_ok_map P Q (Err e) f h = tt

-- the same over a signature and sizes that equal those of the set and the universe
pub related_over : (signature : Signature) (sizes : List ℕ) (table after : Table) (atoms more : List Atom) (symbol spot : ℕ) (named : Symbol) (ns : List ℕ) (lit : Lit)
    → slice_get signature.symbols symbol ≡ Some named → spot ≡ place_from sizes 0 named.args ns → Looked table atoms symbol spot (Holds symbol ns) after more lit
    → (set : SkolemSet) (u : Universe) (names : List Name) → set.signature ≡ signature → sizes ≡ counts u → AreDistinct u
    → IsNumbering set u table atoms names → AreOfSorts (counts u) (args_of signature symbol) ns → Numbers set u after more names (plain (related symbol (terms_at u (args_of signature symbol) ns))) lit
related_over signature sizes table after atoms more symbol spot named ns lit got place looked set u names same same_sizes d h sorted =
    let Q : Signature → Type 0 = λ sig. slice_get sig.symbols symbol ≡ Some named → AreOfSorts (counts u) (args_of sig symbol) ns → Numbers set u after more names (plain (related symbol (terms_at u (args_of sig symbol) ns))) lit in
    let here : Q set.signature = λ g s.
    let args : named.args ≡ args_of set.signature symbol = ap args_or_none (sym g) in
    let spots : spot ≡ place_from (counts u) 0 (args_of set.signature symbol) ns = place ∙ ap (λ x. place_from x 0 named.args ns) same_sizes ∙ ap (λ x. place_from (counts u) 0 x ns) args in
    related_numbers set u d table after atoms more names symbol ns lit h (slice_get_within set.signature.symbols symbol named g) s
    (subst (λ p. Looked table atoms symbol p (Holds symbol ns) after more lit) spots looked) in
    subst Q same here got sorted

pub equated_over : (signature : Signature) (sizes : List ℕ) (table after : Table) (atoms more : List Atom) (group spot sort t v : ℕ) (lit : Lit)
    → group ≡ length signature.symbols + sort → spot ≡ place_from sizes 0 (sort ∷ sort ∷ []) (t ∷ v ∷ []) → Looked table atoms group spot (Equal sort t v) after more lit
    → (set : SkolemSet) (u : Universe) (names : List Name) → set.signature ≡ signature → sizes ≡ counts u → AreDistinct u → AreApart u
    → IsNumbering set u table atoms names → IsTerm u sort t → IsTerm u sort v → Numbers set u after more names (plain (equated (term_at u sort t) (term_at u sort v))) lit
equated_over signature sizes table after atoms more group spot sort t v lit groups place looked set u names same same_sizes d a h ht hv =
    let spots : spot ≡ place_from (counts u) 0 (sort ∷ sort ∷ []) (t ∷ v ∷ []) = place ∙ ap (λ x. place_from x 0 (sort ∷ sort ∷ []) (t ∷ v ∷ [])) same_sizes in
    let group_is : group ≡ length set.signature.symbols + sort = groups ∙ ap (λ (x : Signature). length x.symbols + sort) (sym same) in
    equated_numbers set u d a table after atoms more names sort t v lit h ht hv
    (subst (λ g. Looked table atoms g (place_from (counts u) 0 (sort ∷ sort ∷ []) (t ∷ v ∷ [])) (Equal sort t v) after more lit) group_is
    (subst (λ p. Looked table atoms group p (Equal sort t v) after more lit) spots looked))
