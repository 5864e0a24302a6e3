-- A symbol's applications stand in a row in their sort's list.
use Rattle.std.proofs.Common.{◌≡◌, ℕ, zero, suc, ◌+◌, ◌*◌, ◌<◌, ◌≤◌, Bool, true, false, cond, List, [], ◌∷◌, ◌++◌, length, map, take, replicate, Option, Some, unwrap_or, arith, refl, sym, ap, ◌∙◌, inl, inr}
use Rattle.std.specs.Prelude.{◌&&◌, ◌==◌, nat_lt, slice_get, slice_index}
use Rattle.std.specs.List.{flat_map, filter, range_with_len, enumerate_from, list_all}
use Rattle.std.proofs.lemmas.Option.{none-some, same_Some, slice_get_within}
use Rattle.std.proofs.lemmas.Bool.{ltb-true, and_parts, and_from, eqb-true, eq-eqb, false≢true}
use Rattle.std.proofs.lemmas.List.{length-append}
use Rattle.sw_logic.specs.declared.syntax.SymbolKind.{SymbolKind}
use Rattle.sw_logic.specs.declared.syntax.SymbolKind.TheVariants.{Relation, Constant, Function}
use Rattle.sw_logic.specs.declared.syntax.Symbol.{Symbol}
use Rattle.sw_logic.specs.declared.syntax.Signature.{Signature}
use Rattle.sw_logic.specs.declared.syntax.Term.{Term}
use Rattle.sw_logic.specs.declared.syntax.Term.TheVariants.{Apply}
use Rattle.sw_logic.specs.Truth.{size_of, args_of, args_or_none, place_from}
use Rattle.sw_logic.specs.Sorted.{gives_value}
use Rattle.sw_universe.specs.declared.universe.Universe.{Universe}
use Rattle.sw_truth.specs.Models.{AreOfSorts}
use Rattle.sw_logic.specs.Signatures.{is_signature, is_symbol, is_of_kind}
use Rattle.sw_logic.specs.Strata.{IsStratified}
use Rattle.sw_universe.specs.GroundTerms.{tuples, is_constant, is_function, giving, constants, applications, terms_of, universe_of}
use Rattle.sw_universe.specs.ByNumber.{counts, term_at, terms_at, IsTerm}
use Rattle.sw_numbers.specs.Numbers.{applied_number, Stands, IsIndexed}
use Rattle.sw_numbers.specs.Firsts.{many, of_kind, applied_of, AreFirsts}
use Rattle.sw_lists.proofs.Places.{get_append_front}
use Rattle.sw_universe.proofs.Uniform.{get_behind, uniform_length, uniform_at}
use Rattle.sw_universe.proofs.Distinct.{Among, among_at, stands_at}
use Rattle.sw_universe.proofs.Stable.{terms_are}

get_map : {X Y : Type 0} (f : X → Y) (xs : List X) (j : ℕ) (x : X) → slice_get xs j ≡ Some x → slice_get (map f xs) j ≡ Some (f x)
get_map f [] j x e = absurd (none-some x e)
get_map f (y ∷ xs) zero x e = ap (λ z. Some (f z)) (same_Some y x e)
get_map f (y ∷ xs) (suc j) x e = get_map f xs j x e

map_flat : {X Y : Type 0} (f : X → Y) (xs : List X) → map f xs ≡ flat_map (λ x. f x ∷ []) xs
map_flat f [] = refl
map_flat f (x ∷ xs) = ap (λ ys. f x ∷ ys) (map_flat f xs)

-- the rows of the symbols of a kind that give a sort, one behind the other
module _ (sizes : List ℕ) (kind : SymbolKind) (sort : ℕ) (g : ℕ × Symbol → List Term) where
  abbrev picked : Symbol → Bool
  picked s = of_kind kind s.kind && (s.gives == sort)

  abbrev rows : ℕ → List Symbol → List Term
  rows a ss = flat_map g (filter (λ (q : ℕ × Symbol). picked q.1) (enumerate_from a ss))

  abbrev Fit : List Symbol → Type 0
  Fit ss = (a : ℕ) (s : Symbol) → Among s ss → picked s ≡ true → length (g (a, s)) ≡ many sizes s.args

  rows_length : (a : ℕ) (ss : List Symbol) → Fit ss → length (rows a ss) ≡ applied_of sizes kind sort ss
  rows_length a [] f = refl
  rows_length a (s ∷ ss) f = by (picked s) refl (rows_length (a + 1) ss (λ b t m e. f b t (inr m) e))
    where
      by : (b : Bool) → picked s ≡ b → length (rows (a + 1) ss) ≡ applied_of sizes kind sort ss
          → length (flat_map g (cond b ((a, s) ∷ filter (λ (q : ℕ × Symbol). picked q.1) (enumerate_from (a + 1) ss)) (filter (λ (q : ℕ × Symbol). picked q.1) (enumerate_from (a + 1) ss))))
          ≡ cond b (many sizes s.args + applied_of sizes kind sort ss) (applied_of sizes kind sort ss)
      by true e ih = let own : length (g (a, s)) ≡ many sizes s.args = f a s (inl refl) e in omega (arith, length-append (g (a, s)) (rows (a + 1) ss), own, ih)
      by false e ih = ih

  rows_at : (a : ℕ) (ss : List Symbol) (k j : ℕ) (s : Symbol) → Fit ss → slice_get ss k ≡ Some s → picked s ≡ true → j < many sizes s.args
      → slice_get (rows a ss) (applied_of sizes kind sort (take k ss) + j) ≡ slice_get (g (a + k, s)) j
  rows_at a [] k j s f e p h = absurd (none-some s e)
  rows_at a (t ∷ ss) zero j s f e p h = by (picked t) refl (same_Some t s e)
    where
      by : (b : Bool) → picked t ≡ b → t ≡ s
          → slice_get (flat_map g (cond b ((a, t) ∷ filter (λ (q : ℕ × Symbol). picked q.1) (enumerate_from (a + 1) ss)) (filter (λ (q : ℕ × Symbol). picked q.1) (enumerate_from (a + 1) ss)))) (0 + j)
          ≡ slice_get (g (a + 0, s)) j
      by true q same =
          let own : length (g (a, t)) ≡ many sizes t.args = f a t (inl refl) q in
          let args : many sizes t.args ≡ many sizes s.args = ap (λ (x : Symbol). many sizes x.args) same in
          let low : j < length (g (a, t)) = omega arith in
          let z : 0 + j ≡ j = omega arith in
          let n : a ≡ a + 0 = omega arith in
          ap (slice_get (g (a, t) ++ rows (a + 1) ss)) z ∙ get_append_front (g (a, t)) (rows (a + 1) ss) j low ∙ ap (λ (x : Symbol). slice_get (g (a, x)) j) same ∙ ap (λ (m : ℕ). slice_get (g (m, s)) j) n
      by false q same = absurd (false≢true (sym q ∙ ap picked same ∙ p))
  rows_at a (t ∷ ss) (suc k) j s f e p h = by (picked t) refl (rows_at (a + 1) ss k j s (λ b x m d. f b x (inr m) d) e p h)
    where
      by : (b : Bool) → picked t ≡ b → slice_get (rows (a + 1) ss) (applied_of sizes kind sort (take k ss) + j) ≡ slice_get (g (a + 1 + k, s)) j
          → slice_get (flat_map g (cond b ((a, t) ∷ filter (λ (q : ℕ × Symbol). picked q.1) (enumerate_from (a + 1) ss)) (filter (λ (q : ℕ × Symbol). picked q.1) (enumerate_from (a + 1) ss))))
          (cond b (many sizes t.args + applied_of sizes kind sort (take k ss)) (applied_of sizes kind sort (take k ss)) + j)
          ≡ slice_get (g (a + suc k, s)) j
      by true q ih =
          let own : many sizes t.args ≡ length (g (a, t)) = sym (f a t (inl refl) q) in
          let n : a + 1 + k ≡ a + suc k = omega arith in
          let at : many sizes t.args + applied_of sizes kind sort (take k ss) + j ≡ many sizes t.args + (applied_of sizes kind sort (take k ss) + j) = omega arith in
          ap (slice_get (g (a, t) ++ rows (a + 1) ss)) at ∙ get_behind (g (a, t)) (rows (a + 1) ss) (many sizes t.args) (applied_of sizes kind sort (take k ss) + j) own ∙ ih ∙ ap (λ (m : ℕ). slice_get (g (m, s)) j) n
      by false q ih =
          let n : a + 1 + k ≡ a + suc k = omega arith in
          ih ∙ ap (λ (m : ℕ). slice_get (g (m, s)) j) n

place_split : (sizes : List ℕ) (a : ℕ) (sorts ns : List ℕ) → AreOfSorts sizes sorts ns → place_from sizes a sorts ns ≡ a * many sizes sorts + place_from sizes 0 sorts ns
place_split sizes a [] [] h = let e : a ≡ a * 1 + 0 = omega arith in e
place_split sizes a [] (n ∷ ns) h = absurd h
place_split sizes a (s ∷ sorts) [] h = absurd h
place_split sizes a (s ∷ sorts) (n ∷ ns) h =
    place_split sizes (a * size_of sizes s + n) sorts ns h.1
    ∙ spread a (size_of sizes s) n (many sizes sorts) (place_from sizes 0 sorts ns)
    ∙ ap (λ (z : ℕ). a * (size_of sizes s * many sizes sorts) + z) (sym (place_split sizes (0 * size_of sizes s + n) sorts ns h.1))
  where
    spread : (x y z w v : ℕ) → (x * y + z) * w + v ≡ x * (y * w) + ((0 * y + z) * w + v)
    spread x y z w v = grind arith

place_head : (sizes : List ℕ) (s n : ℕ) (sorts ns : List ℕ) → AreOfSorts sizes sorts ns → place_from sizes (0 * size_of sizes s + n) sorts ns ≡ n * many sizes sorts + place_from sizes 0 sorts ns
place_head sizes s n sorts ns h = ap (λ (z : ℕ). place_from sizes z sorts ns) (let e : 0 * size_of sizes s + n ≡ n = omega arith in e) ∙ place_split sizes n sorts ns h

place_below : (sizes sorts ns : List ℕ) → AreOfSorts sizes sorts ns → place_from sizes 0 sorts ns < many sizes sorts
place_below sizes [] [] h = omega arith
place_below sizes [] (n ∷ ns) h = absurd h
place_below sizes (s ∷ sorts) [] h = absurd h
place_below sizes (s ∷ sorts) (n ∷ ns) h =
    let is = place_head sizes s n sorts ns h.1 in
    let low = place_below sizes sorts ns h.1 in
    below n (size_of sizes s) (many sizes sorts) (place_from sizes 0 sorts ns) (place_from sizes (0 * size_of sizes s + n) sorts ns) is low h.0
  where
    below : (x y w v p : ℕ) → p ≡ x * w + v → v < w → x < y → p < y * w
    below x y w v p e l k =
        let le : suc x * w ≤ y * w = grind arith in
        let step : suc x * w ≡ x * w + w = grind arith in
        omega arith

module _ (sig : Signature) where
  module _ (u : Universe) (firsts : List ℕ) (good : is_signature sig ≡ true) (strata : IsStratified sig) (is : u.lists ≡ universe_of sig) (placed : AreFirsts sig (counts u) firsts) where
    abbrev sizes : List ℕ
    sizes = counts u

    ranged : (f : ℕ → List Term) (a n sort : ℕ) → sort < n → unwrap_or (slice_get (map length (map f (range_with_len a n))) sort) 0 ≡ length (f (a + sort))
    ranged f a zero sort h = absurd (omega arith)
    ranged f a (suc n) zero h = ap (λ (k : ℕ). length (f k)) (let e : a ≡ a + 0 = omega arith in e)
    ranged f a (suc n) (suc sort) h = ranged f (a + 1) n sort (omega arith) ∙ ap (λ (k : ℕ). length (f k)) (let e : a + 1 + sort ≡ a + suc sort = omega arith in e)

    size_is : (sort : ℕ) → sort < length sig.sorts → length (terms_of sig sort) ≡ size_of sizes sort
    size_is sort h =
        sym (ap (λ (ls : List (List Term)). size_of (map length ls) sort) is ∙ ranged (terms_of sig) 0 (length sig.sorts) sort h ∙ ap (λ (k : ℕ). length (terms_of sig k)) (let e : 0 + sort ≡ sort = omega arith in e))

    ranged_length : (f : ℕ → List Term) (a n : ℕ) → length (map length (map f (range_with_len a n))) ≡ n
    ranged_length f a zero = refl
    ranged_length f a (suc n) = ap suc (ranged_length f (a + 1) n)

    sizes_length : length sizes ≡ length sig.sorts
    sizes_length = ap (λ (ls : List (List Term)). length (map length ls)) is ∙ ranged_length (terms_of sig) 0 (length sig.sorts)

    -- a symbol of a good signature
    symbol_good : (ss : List Symbol) (s : Symbol) → list_all (is_symbol (length sig.sorts)) ss ≡ true → Among s ss → is_symbol (length sig.sorts) s ≡ true
    symbol_good [] s h a = absurd a
    symbol_good (t ∷ ss) s h (inl e) = ap (is_symbol (length sig.sorts)) e ∙ (and_parts (is_symbol (length sig.sorts) t) (list_all (is_symbol (length sig.sorts)) ss) h).0
    symbol_good (t ∷ ss) s h (inr a) = symbol_good ss s (and_parts (is_symbol (length sig.sorts) t) (list_all (is_symbol (length sig.sorts)) ss) h).1 a

    in_range : (sorts : List ℕ) (n : ℕ) → list_all (λ (sort : ℕ). nat_lt sort n) sorts ≡ true → (sort : ℕ) → Among sort sorts → sort < n
    in_range [] n h sort a = absurd a
    in_range (x ∷ sorts) n h sort (inl e) = let b = and_parts (nat_lt x n) (list_all (λ (k : ℕ). nat_lt k n) sorts) h in let l : x < n = ltb-true x n b.0 in omega arith
    in_range (x ∷ sorts) n h sort (inr a) = in_range sorts n (and_parts (nat_lt x n) (list_all (λ (k : ℕ). nat_lt k n) sorts) h).1 sort a

    abbrev InRange : List ℕ → Type 0
    InRange sorts = (sort : ℕ) → Among sort sorts → sort < length sig.sorts

    longer_length : {X : Type 0} (x : X) (ts : List (List X)) → length (map (λ tuple. x ∷ tuple) ts) ≡ length ts
    longer_length x [] = refl
    longer_length x (t ∷ ts) = ap suc (longer_length x ts)

    tuples_length : (sorts : List ℕ) → InRange sorts → length (tuples (map (terms_of sig) sorts)) ≡ many sizes sorts
    tuples_length [] r = refl
    tuples_length (s ∷ sorts) r =
        let rest = tuples (map (terms_of sig) sorts) in
        uniform_length (λ (x : Term). map (λ tuple. x ∷ tuple) rest) (length rest) (λ x. longer_length x rest) (terms_of sig s)
        ∙ ap (λ (n : ℕ). n * length rest) (size_is s (r s (inl refl))) ∙ ap (λ (n : ℕ). size_of sizes s * n) (tuples_length sorts (λ k a. r k (inr a)))

    tuple_at : (sorts ns : List ℕ) → InRange sorts → AreOfSorts sizes sorts ns → slice_get (tuples (map (terms_of sig) sorts)) (place_from sizes 0 sorts ns) ≡ Some (terms_at u sorts ns)
    tuple_at [] [] r h = refl
    tuple_at [] (n ∷ ns) r h = absurd h
    tuple_at (s ∷ sorts) [] r h = absurd h
    tuple_at (s ∷ sorts) (n ∷ ns) r h =
        let rest = tuples (map (terms_of sig) sorts) in
        let count : length rest ≡ many sizes sorts = tuples_length sorts (λ k a. r k (inr a)) in
        let p = place_from sizes 0 sorts ns in
        let low : p < length rest = let b = place_below sizes sorts ns h.1 in omega arith in
        let at : place_from sizes (0 * size_of sizes s + n) sorts ns ≡ n * length rest + p = place_head sizes s n sorts ns h.1 ∙ ap (λ (m : ℕ). n * m + p) (sym count) in
        ap (slice_get (tuples (map (terms_of sig) (s ∷ sorts)))) at
        ∙ uniform_at (λ (x : Term). map (λ tuple. x ∷ tuple) rest) (length rest) (λ x. longer_length x rest) (terms_of sig s) n p (term_at u s n) (stands_at sig u s n is h.0) low
        ∙ get_map (λ tuple. term_at u s n ∷ tuple) rest p (terms_at u sorts ns) (tuple_at sorts ns (λ k a. r k (inr a)) h.1)

    zeros : (n k : ℕ) → k < n → slice_get {X = ℕ} (replicate n 0) k ≡ Some 0
    zeros zero k h = absurd (omega arith)
    zeros (suc n) zero h = refl
    zeros (suc n) (suc k) h = zeros n k (omega arith)

    index_of : (xs : List ℕ) (k n : ℕ) → slice_get xs k ≡ Some n → slice_index xs k ≡ n
    index_of [] k n e = absurd (none-some n e)
    index_of (x ∷ xs) zero n e = same_Some x n e
    index_of (x ∷ xs) (suc k) n e = index_of xs k n e

    unwrapped : (ts : List Term) (k : ℕ) (d t : Term) → slice_get ts k ≡ Some t → unwrap_or (slice_get ts k) d ≡ t
    unwrapped ts k d t e = ap (λ (o : Option Term). unwrap_or o d) e

    -- what stands in the list of a sort is its ground term with that number
    stands : (sort n : ℕ) (t : Term) → sort < length sig.sorts → slice_get (terms_of sig sort) n ≡ Some t → Stands u sort n t
    stands sort n t l e =
        let low : n < length (terms_of sig sort) = slice_get_within (terms_of sig sort) n t e in
        let size = size_is sort l in
        let within : IsTerm u sort n = let z : n < size_of sizes sort = omega arith in z in
        record { within = within; is = same_Some (term_at u sort n) t (sym (stands_at sig u sort n is within) ∙ e) }

    abbrev constant_row : ℕ × Symbol → List Term
    constant_row s = Apply s.0 false [] ∷ []

    abbrev function_row : ℕ × Symbol → List Term
    function_row s = map (Apply s.0 false) (tuples (map (terms_of sig) s.1.args))

    -- what a good symbol that gives a value has
    record IsGood (s : Symbol) : Type 0 where
      args : InRange s.args
      gives : s.gives < length sig.sorts
      constant : is_constant s.kind ≡ true → s.args ≡ []

    none_long : (xs : List ℕ) → length xs ≡ 0 → xs ≡ []
    none_long [] e = refl
    none_long (x ∷ xs) e = absurd (omega arith)

    kind_good : (kind : SymbolKind) (args : List ℕ) (gives : ℕ) → gives_value kind ≡ true → is_of_kind (length sig.sorts) kind args gives ≡ true → (gives < length sig.sorts) × (is_constant kind ≡ true → args ≡ [])
    kind_good Relation args gives v h = absurd (false≢true v)
    kind_good Constant args gives v h =
        let b = and_parts (length args == 0) (nat_lt gives (length sig.sorts)) h in
        (ltb-true gives (length sig.sorts) b.1, λ e. none_long args (eqb-true (length args) 0 b.0))
    kind_good Function args gives v h =
        let b = and_parts (nat_lt 0 (length args)) (nat_lt gives (length sig.sorts)) h in
        (ltb-true gives (length sig.sorts) b.1, λ e. absurd (false≢true e))

    is_good : (s : Symbol) → Among s sig.symbols → gives_value s.kind ≡ true → IsGood s
    is_good s a v =
        let b = and_parts (list_all (λ (sort : ℕ). nat_lt sort (length sig.sorts)) s.args) (is_of_kind (length sig.sorts) s.kind s.args s.gives) (symbol_good sig.symbols s good a) in
        let k = kind_good s.kind s.args s.gives v b.1 in
        record { args = in_range s.args (length sig.sorts) b.0; gives = k.0; constant = k.1 }

    constant_gives : (k : SymbolKind) → is_constant k ≡ true → gives_value k ≡ true
    constant_gives Relation e = absurd (false≢true e)
    constant_gives Constant e = refl
    constant_gives Function e = refl

    function_gives : (k : SymbolKind) → is_function k ≡ true → gives_value k ≡ true
    function_gives Relation e = absurd (false≢true e)
    function_gives Constant e = refl
    function_gives Function e = refl

    no_function : (k : SymbolKind) → is_constant k ≡ true → is_function k ≡ false
    no_function Relation e = refl
    no_function Constant e = refl
    no_function Function e = absurd (false≢true e)

    constants_fit : (sort : ℕ) → Fit sizes Constant sort constant_row sig.symbols
    constants_fit sort a s m e =
        let k : is_constant s.kind ≡ true = (and_parts (is_constant s.kind) (s.gives == sort) e).0 in
        let none = (is_good s m (constant_gives s.kind k)).constant k in
        ap (many sizes) (sym none)

    map_length : {X Y : Type 0} (f : X → Y) (xs : List X) → length (map f xs) ≡ length xs
    map_length f [] = refl
    map_length f (x ∷ xs) = ap suc (map_length f xs)

    functions_fit : (sort : ℕ) → Fit sizes Function sort function_row sig.symbols
    functions_fit sort a s m e =
        let k : is_function s.kind ≡ true = (and_parts (is_function s.kind) (s.gives == sort) e).0 in
        map_length (Apply a false) (tuples (map (terms_of sig) s.args)) ∙ tuples_length s.args (is_good s m (function_gives s.kind k)).args

    constants_are : (sort : ℕ) → constants sig sort ≡ rows sizes Constant sort constant_row 0 sig.symbols
    constants_are sort = map_flat (λ (s : ℕ × Symbol). Apply s.0 false []) (giving sig is_constant sort)

    terms_by : (sort : ℕ) → sort < length sig.sorts → terms_of sig sort ≡ rows sizes Constant sort constant_row 0 sig.symbols ++ rows sizes Function sort function_row 0 sig.symbols
    terms_by sort h = terms_are sig strata sort h ∙ ap (λ ts. ts ++ applications sig (terms_of sig) sort) (constants_are sort)

    picks : (kind : SymbolKind) (s : Symbol) → of_kind kind s.kind ≡ true → (of_kind kind s.kind && (s.gives == s.gives)) ≡ true
    picks kind s k = and_from (of_kind kind s.kind) (s.gives == s.gives) k (eq-eqb s.gives s.gives refl)

    module _ (symbol : ℕ) (s : Symbol) (ns : List ℕ) (e : slice_get sig.symbols symbol ≡ Some s) (h : AreOfSorts sizes s.args ns) where
      abbrev Here : Type 0
      Here = Stands u s.gives (applied_number sig sizes firsts symbol ns) (Apply symbol false (terms_at u s.args ns))

      abbrev C : ℕ
      C = applied_of sizes Constant s.gives sig.symbols

      abbrev before : SymbolKind → ℕ
      before kind = applied_of sizes kind s.gives (take symbol sig.symbols)

      abbrev P : ℕ
      P = place_from sizes 0 s.args ns

      abbrev constant_rows : List Term
      constant_rows = rows sizes Constant s.gives constant_row 0 sig.symbols

      abbrev function_rows : List Term
      function_rows = rows sizes Function s.gives function_row 0 sig.symbols

      among : Among s sig.symbols
      among = among_at sig.symbols symbol s e

      number_is : (first : ℕ) → slice_get firsts symbol ≡ Some first → applied_number sig sizes firsts symbol ns ≡ first + P
      number_is first f =
          let i : slice_index firsts symbol ≡ first = index_of firsts symbol first f in
          let p : place_from sizes 0 (args_of sig symbol) ns ≡ P = ap (λ (o : Option Symbol). place_from sizes 0 (args_or_none o) ns) e in
          omega (arith, i, p)

      z : s.gives < length sig.sorts → slice_get {X = ℕ} (replicate (length sizes) 0) s.gives ≡ Some 0
      z l = zeros (length sizes) s.gives (omega (arith, sizes_length, l))

      zero_on : 0 + symbol ≡ symbol
      zero_on = omega arith

      of_constant : is_constant s.kind ≡ true → Here
      of_constant k =
          let g = is_good s among (constant_gives s.kind k) in
          let more : slice_get placed.more symbol ≡ Some (0 + before Constant) = placed.constants.placed symbol s 0 e k (z g.gives) in
          let first : slice_get firsts symbol ≡ Some (0 + before Constant) = placed.functions.kept symbol s e (no_function s.kind k) ∙ more in
          let none = g.constant k in
          let p : P ≡ 0 = ap (λ (x : List ℕ). place_from sizes 0 x ns) none in
          let number : applied_number sig sizes firsts symbol ns ≡ before Constant + 0 = number_is (0 + before Constant) first ∙ (let q : 0 + before Constant + P ≡ before Constant + 0 = omega (arith, p) in q) in
          let m : many sizes s.args ≡ 1 = ap (many sizes) none in
          let row : slice_get constant_rows (before Constant + 0) ≡ Some (Apply (0 + symbol) false []) =
          rows_at sizes Constant s.gives constant_row 0 sig.symbols symbol 0 s (constants_fit s.gives) e (picks Constant s k) (omega (arith, m)) in
          let low = slice_get_within constant_rows (before Constant + 0) (Apply (0 + symbol) false []) row in
          let whole : slice_get (terms_of sig s.gives) (before Constant + 0) ≡ Some (Apply symbol false []) =
          ap (λ (ts : List Term). slice_get ts (before Constant + 0)) (terms_by s.gives g.gives) ∙ get_append_front constant_rows function_rows (before Constant + 0) low ∙ row ∙ ap (λ (n : ℕ). Some (Apply n false [])) zero_on in
          let none_at : [] ≡ terms_at u s.args ns = ap (λ (x : List ℕ). terms_at u x ns) (sym none) in
          stands s.gives (applied_number sig sizes firsts symbol ns) (Apply symbol false (terms_at u s.args ns)) g.gives
          (ap (slice_get (terms_of sig s.gives)) number ∙ whole ∙ ap (λ (ts : List Term). Some (Apply symbol false ts)) none_at)

      of_function : is_function s.kind ≡ true → Here
      of_function k =
          let g = is_good s among (function_gives s.kind k) in
          let next : slice_get placed.after s.gives ≡ Some (0 + C) = placed.constants.next s.gives 0 (z g.gives) in
          let first : slice_get firsts symbol ≡ Some (0 + C + before Function) = placed.functions.placed symbol s (0 + C) e k next in
          let number : applied_number sig sizes firsts symbol ns ≡ C + (before Function + P) = number_is (0 + C + before Function) first ∙ (let q : 0 + C + before Function + P ≡ C + (before Function + P) = omega arith in q) in
          let low : P < many sizes s.args = place_below sizes s.args ns h in
          let row : slice_get function_rows (before Function + P) ≡ slice_get (function_row (0 + symbol, s)) P =
          rows_at sizes Function s.gives function_row 0 sig.symbols symbol P s (functions_fit s.gives) e (picks Function s k) low in
          let here : slice_get (function_row (0 + symbol, s)) P ≡ Some (Apply (0 + symbol) false (terms_at u s.args ns)) =
          get_map (Apply (0 + symbol) false) (tuples (map (terms_of sig) s.args)) P (terms_at u s.args ns) (tuple_at s.args ns g.args h) in
          let count : C ≡ length constant_rows = sym (rows_length sizes Constant s.gives constant_row 0 sig.symbols (constants_fit s.gives)) in
          let whole : slice_get (terms_of sig s.gives) (C + (before Function + P)) ≡ Some (Apply symbol false (terms_at u s.args ns)) =
          ap (λ (ts : List Term). slice_get ts (C + (before Function + P))) (terms_by s.gives g.gives) ∙ get_behind constant_rows function_rows C (before Function + P) count ∙ row ∙ here
          ∙ ap (λ (n : ℕ). Some (Apply n false (terms_at u s.args ns))) zero_on in
          stands s.gives (applied_number sig sizes firsts symbol ns) (Apply symbol false (terms_at u s.args ns)) g.gives (ap (slice_get (terms_of sig s.gives)) number ∙ whole)

      by_kind : (kind : SymbolKind) → s.kind ≡ kind → gives_value kind ≡ true → Here
      by_kind Relation q v = absurd (false≢true v)
      by_kind Constant q v = of_constant (ap is_constant q)
      by_kind Function q v = of_function (ap is_function q)

    pub is_indexed : IsIndexed sig u firsts
    is_indexed symbol s ns e v h = by_kind symbol s ns e h s.kind refl v
