-- No ground term stands twice.
use Rattle.std.proofs.Common.{◌≡◌, ℕ, zero, suc, ◌+◌, ◌<◌, ◌≤◌, Bool, true, false, cond, List, [], ◌∷◌, ◌++◌, length, map, Some, unwrap_or, rules, arith, refl, sym, ap, ◌∙◌, subst, inl, inr}
use Rattle.std.specs.Prelude.{◌⊎◌, ◌&&◌, ◌==◌, slice_get}
use Rattle.std.specs.List.{flat_map, filter, range_with_len, enumerate_from}
use Rattle.std.proofs.lemmas.Option.{none-some, same_Some}
use Rattle.std.proofs.lemmas.Bool.{and_parts, eqb-true, false≢true}
use Rattle.sw_logic.specs.declared.syntax.SymbolKind.{SymbolKind}
use Rattle.sw_logic.specs.declared.syntax.SymbolKind.TheVariants.{Relation, Constant, Function}
use Rattle.sw_logic.specs.declared.syntax.Symbol.{Symbol}
use Rattle.sw_logic.specs.declared.syntax.Signature.{Signature}
use Rattle.sw_logic.specs.declared.syntax.Term as terms_of_logic
use Rattle.sw_logic.specs.declared.syntax.Term.{Term, out-Term}
use Rattle.sw_logic.specs.declared.syntax.Term.TheOpen.{Term-F}
use Rattle.sw_logic.specs.declared.syntax.Term.TheVariants.{Variable, Apply}
use Rattle.sw_logic.specs.Truth.{size_of}
use Rattle.sw_universe.specs.declared.universe.Universe.{Universe}
use Rattle.sw_universe.specs.GroundTerms.{tuples, is_constant, is_function, giving, constants, applications, terms_within, terms_of, universe_of}
use Rattle.sw_universe.specs.ByNumber.{term_at, IsTerm, AreDistinct, AreApart}

-- the element is one of the list's
abbrev pub Among : {X : Type 0} → X → List X → Type 0
Among x [] = ⊥
Among x (y ∷ ys) = (x ≡ y) ⊎ Among x ys

-- no two places have elements with the same key
abbrev pub OnceBy : {X K : Type 0} → (X → K) → List X → Type 0
OnceBy f [] = Unit {0}
OnceBy {X} f (x ∷ xs) = ((y : X) → Among y xs → f x ≡ f y → ⊥) × OnceBy f xs

pub among_at : {X : Type 0} (xs : List X) (n : ℕ) (x : X) → slice_get xs n ≡ Some x → Among x xs
among_at [] n x e = absurd (none-some x e)
among_at (y ∷ xs) zero x e = inl (sym (same_Some y x e))
among_at (y ∷ xs) (suc n) x e = inr (among_at xs n x e)

pub one_place : {X K : Type 0} (f : X → K) (xs : List X) (n m : ℕ) (x y : X) → OnceBy f xs → slice_get xs n ≡ Some x → slice_get xs m ≡ Some y → f x ≡ f y → n ≡ m
one_place f [] n m x y h e g s = absurd (none-some x e)
one_place f (z ∷ xs) zero zero x y h e g s = refl
one_place f (z ∷ xs) zero (suc m) x y h e g s = absurd (h.0 y (among_at xs m y g) (ap f (same_Some z x e) ∙ s))
one_place f (z ∷ xs) (suc n) zero x y h e g s = absurd (h.0 x (among_at xs n x e) (ap f (same_Some z y g) ∙ sym s))
one_place f (z ∷ xs) (suc n) (suc m) x y h e g s = ap suc (one_place f xs n m x y h.1 e g s)

pub among_append : {X : Type 0} (x : X) (xs ys : List X) → Among x (xs ++ ys) → Among x xs ⊎ Among x ys
among_append x [] ys h = inr h
among_append x (z ∷ xs) ys (inl e) = inl (inl e)
among_append x (z ∷ xs) ys (inr h) = elim (among_append x xs ys h) [ inl a ↦ inl (inr a) | inr b ↦ inr b ]

pub among_map : {X Y : Type 0} (f : X → Y) (y : Y) (xs : List X) → Among y (map f xs) → (x : X) × Among x xs × (y ≡ f x)
among_map f y [] h = absurd h
among_map f y (x ∷ xs) (inl e) = (x, inl refl, e)
among_map f y (x ∷ xs) (inr h) = let r = among_map f y xs h in (r.0, inr r.1, r.2)

pub among_flat : {X Y : Type 0} (f : X → List Y) (y : Y) (xs : List X) → Among y (flat_map f xs) → (x : X) × Among x xs × Among y (f x)
among_flat f y [] h = absurd h
among_flat f y (x ∷ xs) h = elim (among_append y (f x) (flat_map f xs) h) [ inl a ↦ (x, inl refl, a) | inr b ↦ let r = among_flat f y xs b in (r.0, inr r.1, r.2) ]

pub among_filter : {X : Type 0} (p : X → Bool) (y : X) (xs : List X) → Among y (filter p xs) → Among y xs × (p y ≡ true)
among_filter p y [] h = absurd h
among_filter {X} p y (x ∷ xs) h = by (p x) refl h (among_filter p y xs)
  where
    by : (b : Bool) → p x ≡ b → Among y (cond b (x ∷ filter p xs) (filter p xs)) → (Among y (filter p xs) → Among y xs × (p y ≡ true)) → Among y (x ∷ xs) × (p y ≡ true)
    by true e (inl s) f = (inl s, ap p s ∙ e)
    by true e (inr k) f = let r = f k in (inr r.0, r.1)
    by false e k f = let r = f k in (inr r.0, r.1)

pub once_append : {X K : Type 0} (f : X → K) (xs ys : List X) → OnceBy f xs → OnceBy f ys → ((x y : X) → Among x xs → Among y ys → f x ≡ f y → ⊥) → OnceBy f (xs ++ ys)
once_append f [] ys h g d = g
once_append f (x ∷ xs) ys h g d =
    (λ y a e. elim (among_append y xs ys a) [ inl l ↦ h.0 y l e | inr r ↦ d x y (inl refl) r e ], once_append f xs ys h.1 g (λ z y a b. d z y (inr a) b))

pub once_filter : {X K : Type 0} (f : X → K) (p : X → Bool) (xs : List X) → OnceBy f xs → OnceBy f (filter p xs)
once_filter f p [] h = tt
once_filter f p (x ∷ xs) h =
    let rest = once_filter f p xs h.1 in
    elim (p x) as (λ b. OnceBy f (cond b (x ∷ filter p xs) (filter p xs))) [ true ↦ (λ y a e. h.0 y (among_filter p y xs a).0 e, rest) | false ↦ rest ]

pub once_map : {X Y K J : Type 0} (f : X → K) (g : X → Y) (k : Y → J) (xs : List X) → ((x y : X) → k (g x) ≡ k (g y) → f x ≡ f y) → OnceBy f xs → OnceBy k (map g xs)
once_map f g k [] t h = tt
once_map f g k (x ∷ xs) t h = (λ y a e. let r = among_map g y xs a in h.0 r.0 r.1 (t x r.0 (e ∙ ap k r.2)), once_map f g k xs t h.1)

pub once_flat : {X Y K J : Type 0} (f : X → K) (g : X → List Y) (k : Y → J) (xs : List X)
    → ((x y : X) (v w : Y) → Among v (g x) → Among w (g y) → k v ≡ k w → f x ≡ f y) → ((x : X) → OnceBy k (g x)) → OnceBy f xs → OnceBy k (flat_map g xs)
once_flat f g k [] t one h = tt
once_flat f g k (x ∷ xs) t one h =
    once_append k (g x) (flat_map g xs) (one x) (once_flat f g k xs t one h.1)
    (λ v w a b e. let r = among_flat g w xs b in h.0 r.0 r.1 (t x r.0 v w a r.2 e))

abbrev same : {X : Type 0} → X → X
same x = x

abbrev pub AllOnce : {X : Type 0} → List (List X) → Type 0
AllOnce [] = Unit {0}
AllOnce (xs ∷ lists) = OnceBy same xs × AllOnce lists

once_tuples : {X : Type 0} (lists : List (List X)) → AllOnce lists → OnceBy same (tuples lists)
once_tuples [] h = (λ y a e. a, tt)
once_tuples (xs ∷ rest) h =
    once_flat same (λ x. map (λ tuple. x ∷ tuple) (tuples rest)) same xs
    (λ x y v w a b e.
    let r = among_map (λ tuple. x ∷ tuple) v (tuples rest) a in
    let s = among_map (λ tuple. y ∷ tuple) w (tuples rest) b in
    let f : x ∷ r.0 ≡ y ∷ s.0 = sym r.2 ∙ e ∙ s.2 in
    let g : x ≡ y = cc in
    g)
    (λ x. once_map same (λ tuple. x ∷ tuple) same (tuples rest) (λ v w e. let f : x ∷ v ≡ x ∷ w = e in let g : v ≡ w = cc in g) (once_tuples rest h.1))
    h.0

-- a symbol with its number
keys_above : {X : Type 0} (k : ℕ) (xs : List X) (p : ℕ × X) → Among p (enumerate_from k xs) → k ≤ p.0
keys_above k [] p h = absurd h
keys_above {X} k (x ∷ xs) p (inl e) = let f : p.0 ≡ k = ap (λ (q : ℕ × X). q.0) e in omega arith
keys_above k (x ∷ xs) p (inr h) = let l = keys_above (k + 1) xs p h in omega arith

once_numbered : {X : Type 0} (k : ℕ) (xs : List X) → OnceBy (λ (p : ℕ × X). p.0) (enumerate_from k xs)
once_numbered k [] = tt
once_numbered k (x ∷ xs) = (λ p a e. let l = keys_above (k + 1) xs p a in let f : k ≡ p.0 = e in absurd (omega arith), once_numbered (k + 1) xs)

numbered_at : {X : Type 0} (k : ℕ) (xs : List X) (p : ℕ × X) → Among p (enumerate_from k xs) → (n : ℕ) × (p.0 ≡ k + n) × (slice_get xs n ≡ Some p.1)
numbered_at k [] p h = absurd h
numbered_at {X} k (x ∷ xs) p (inl e) =
    let f : p.0 ≡ k = ap (λ (q : ℕ × X). q.0) e in
    let g : p.1 ≡ x = ap (λ (q : ℕ × X). q.1) e in
    (0, omega arith, ap Some (sym g))
numbered_at k (x ∷ xs) p (inr h) = let r = numbered_at (k + 1) xs p h in let f : p.0 ≡ k + 1 + r.0 = r.1 in (suc r.0, omega arith, r.2)

abbrev key_layer : Term-F Term → ℕ
key_layer (Term-F.Variable v) = v
key_layer (Term-F.Apply symbol post args) = symbol

abbrev args_layer : Term-F Term → List Term
args_layer (Term-F.Variable v) = []
args_layer (Term-F.Apply symbol post args) = args

-- the symbol of an application, and what it is applied to
abbrev key : Term → ℕ
key t = key_layer (out-Term t)

abbrev inward : Term → List Term
inward t = args_layer (out-Term t)

key_is : (symbol : ℕ) (post : Bool) (args : List Term) → key (Apply symbol post args) ≡ symbol
key_is symbol post args = search (rules, terms_of_logic.the_lemmas)

inward_is : (symbol : ℕ) (post : Bool) (args : List Term) → inward (Apply symbol post args) ≡ args
inward_is symbol post args = search (rules, terms_of_logic.the_lemmas)

abbrev number : ℕ × Symbol → ℕ
number s = s.0

module _ (sig : Signature) where
  once_giving : (kind : SymbolKind → Bool) (sort : ℕ) → OnceBy number (giving sig kind sort)
  once_giving kind sort = once_filter number (λ s. kind s.1.kind && (s.1.gives == sort)) (enumerate_from 0 sig.symbols) (once_numbered 0 sig.symbols)

  -- a symbol that gives the sort
  pub record Given (kind : SymbolKind → Bool) (sort : ℕ) (s : ℕ × Symbol) : Type 0 where
    pub at : slice_get sig.symbols s.0 ≡ Some s.1
    pub of_kind : kind s.1.kind ≡ true
    pub gives : s.1.gives ≡ sort

  pub given : (kind : SymbolKind → Bool) (sort : ℕ) (s : ℕ × Symbol) → Among s (giving sig kind sort) → Given kind sort s
  given kind sort s h =
      let f = among_filter (λ (x : ℕ × Symbol). kind x.1.kind && (x.1.gives == sort)) s (enumerate_from 0 sig.symbols) h in
      let n = numbered_at 0 sig.symbols s f.0 in
      let both = and_parts (kind s.1.kind) (s.1.gives == sort) f.1 in
      let same_number : s.0 ≡ n.0 = n.1 ∙ (let z : 0 + n.0 ≡ n.0 = omega arith in z) in
      record {
        at = ap (slice_get sig.symbols) same_number ∙ n.2;
        of_kind = both.0;
        gives = eqb-true s.1.gives sort both.1;
      }

  once_constants : (sort : ℕ) → OnceBy same (constants sig sort)
  once_constants sort =
      once_map number (λ s. Apply s.0 false []) same (giving sig is_constant sort)
      (λ x y e. sym (key_is x.0 false []) ∙ ap key e ∙ key_is y.0 false []) (once_giving is_constant sort)

  all_once : (listed : ℕ → List Term) → ((sort : ℕ) → OnceBy same (listed sort)) → (sorts : List ℕ) → AllOnce (map listed sorts)
  all_once listed h [] = tt
  all_once listed h (s ∷ sorts) = (h s, all_once listed h sorts)

  once_applications : (listed : ℕ → List Term) → ((sort : ℕ) → OnceBy same (listed sort)) → (sort : ℕ) → OnceBy same (applications sig listed sort)
  once_applications listed h sort =
      once_flat number (λ s. map (Apply s.0 false) (tuples (map listed s.1.args))) same (giving sig is_function sort)
      (λ x y v w a b e.
      let r = among_map (Apply x.0 false) v (tuples (map listed x.1.args)) a in
      let s = among_map (Apply y.0 false) w (tuples (map listed y.1.args)) b in
      sym (key_is x.0 false r.0) ∙ ap key (sym r.2 ∙ e ∙ s.2) ∙ key_is y.0 false s.0)
      (λ x. once_map same (Apply x.0 false) same (tuples (map listed x.1.args))
      (λ v w e. sym (inward_is x.0 false v) ∙ ap inward e ∙ inward_is x.0 false w) (once_tuples (map listed x.1.args) (all_once listed h x.1.args)))
      (once_giving is_function sort)

  -- a listed term is a symbol's that gives the sort
  record Made (kind : SymbolKind → Bool) (sort : ℕ) (t : Term) : Type 0 where
    symbol : Symbol
    at : slice_get sig.symbols (key t) ≡ Some symbol
    of_kind : kind symbol.kind ≡ true
    gives : symbol.gives ≡ sort

  made : (kind : SymbolKind → Bool) (sort : ℕ) (s : ℕ × Symbol) (args : List Term) (t : Term) → Among s (giving sig kind sort) → t ≡ Apply s.0 false args → Made kind sort t
  made kind sort s args t a e =
      let g = given kind sort s a in
      record { symbol = s.1; at = ap (slice_get sig.symbols) (ap key e ∙ key_is s.0 false args) ∙ g.at; of_kind = g.of_kind; gives = g.gives }

  constant_made : (sort : ℕ) (t : Term) → Among t (constants sig sort) → Made is_constant sort t
  constant_made sort t a =
      let r = among_map (λ (s : ℕ × Symbol). Apply s.0 false []) t (giving sig is_constant sort) a in
      made is_constant sort r.0 [] t r.1 r.2

  application_made : (listed : ℕ → List Term) (sort : ℕ) (t : Term) → Among t (applications sig listed sort) → Made is_function sort t
  application_made listed sort t a =
      let r = among_flat (λ (s : ℕ × Symbol). map (Apply s.0 false) (tuples (map listed s.1.args))) t (giving sig is_function sort) a in
      let s = among_map (Apply r.0.0 false) t (tuples (map listed r.0.1.args)) r.2 in
      made is_function sort r.0 s.0 t r.1 s.2

  not_both : (k : SymbolKind) → is_constant k ≡ true → is_function k ≡ true → ⊥
  not_both Relation e f = false≢true e
  not_both Constant e f = false≢true f
  not_both Function e f = false≢true e

  apart_kinds : (listed : ℕ → List Term) (sort : ℕ) (x y : Term) → Among x (constants sig sort) → Among y (applications sig listed sort) → x ≡ y → ⊥
  apart_kinds listed sort x y a b e =
      let m = constant_made sort x a in
      let n = application_made listed sort y b in
      let one : m.symbol ≡ n.symbol = same_Some m.symbol n.symbol (sym m.at ∙ ap (λ (t : Term). slice_get sig.symbols (key t)) e ∙ n.at) in
      not_both n.symbol.kind (subst (λ (s : Symbol). is_constant s.kind ≡ true) one m.of_kind) n.of_kind

  pub once_within : (depth sort : ℕ) → OnceBy same (terms_within sig depth sort)
  once_within zero sort = once_constants sort
  once_within (suc depth) sort =
      once_append same (constants sig sort) (applications sig (terms_within sig depth) sort) (once_constants sort)
      (once_applications (terms_within sig depth) (once_within depth) sort) (apart_kinds (terms_within sig depth) sort)

  record Gives (sort : ℕ) (t : Term) : Type 0 where
    symbol : Symbol
    at : slice_get sig.symbols (key t) ≡ Some symbol
    gives : symbol.gives ≡ sort

  gives_by : (kind : SymbolKind → Bool) (sort : ℕ) (t : Term) → Made kind sort t → Gives sort t
  gives_by kind sort t m = record { symbol = m.symbol; at = m.at; gives = m.gives }

  within_gives : (depth sort : ℕ) (t : Term) → Among t (terms_within sig depth sort) → Gives sort t
  within_gives zero sort t a = gives_by is_constant sort t (constant_made sort t a)
  within_gives (suc depth) sort t a = elim (among_append t (constants sig sort) (applications sig (terms_within sig depth) sort) a) [
    | inl c ↦ gives_by is_constant sort t (constant_made sort t c)
    | inr f ↦ gives_by is_function sort t (application_made (terms_within sig depth) sort t f)
  ]

  -- the list of a sort
  pub listed_at : {X : Type 0} (f : ℕ → X) (a n sort : ℕ) (x : X) → slice_get (map f (range_with_len a n)) sort ≡ Some x → x ≡ f (a + sort)
  listed_at f a zero sort x e = absurd (none-some x e)
  listed_at f a (suc n) zero x e = sym (same_Some (f a) x e) ∙ ap f (omega arith)
  listed_at f a (suc n) (suc sort) x e = listed_at f (a + 1) n sort x e ∙ ap f (omega arith)

  got_within : (ts : List Term) (n : ℕ) (d : Term) → n < length ts → slice_get ts n ≡ Some (unwrap_or (slice_get ts n) d)
  got_within [] n d h = absurd (omega arith)
  got_within (t ∷ ts) zero d h = refl
  got_within (t ∷ ts) (suc n) d h = got_within ts n d (omega arith)

  in_lists : (lists : List (List Term)) (sort n : ℕ) (P : List Term → Type 0) → n < size_of (map length lists) sort → ((l : List Term) → slice_get lists sort ≡ Some l → P l)
      → (l : List Term) × P l × (slice_get l n ≡ Some (unwrap_or (slice_get (unwrap_or (slice_get lists sort) []) n) (Variable 0)))
  in_lists [] sort n P h f = absurd (omega arith)
  in_lists (l ∷ lists) zero n P h f = (l, f l refl, got_within l n (Variable 0) h)
  in_lists (l ∷ lists) (suc sort) n P h f = in_lists lists sort n P h f

  -- the ground term with a number stands there in its sort's list
  pub stands_at : (u : Universe) (sort n : ℕ) → u.lists ≡ universe_of sig → IsTerm u sort n → slice_get (terms_of sig sort) n ≡ Some (term_at u sort n)
  stands_at u sort n e h =
      let r = in_lists u.lists sort n (λ l. l ≡ terms_of sig sort) h (λ l g. listed_at (terms_of sig) 0 (length sig.sorts) sort l (ap (λ (ls : List (List Term)). slice_get ls sort) (sym e) ∙ g) ∙ ap (terms_of sig) (let z : 0 + sort ≡ sort = omega arith in z)) in
      ap (λ (l : List Term). slice_get l n) (sym r.1) ∙ r.2

pub are_distinct : (sig : Signature) (u : Universe) → u.lists ≡ universe_of sig → AreDistinct u
are_distinct sig u e sort n m hn hm s =
    one_place same (terms_of sig sort) n m (term_at u sort n) (term_at u sort m) (once_within sig (length sig.sorts) sort) (stands_at sig u sort n e hn) (stands_at sig u sort m e hm) s

pub are_apart : (sig : Signature) (u : Universe) → u.lists ≡ universe_of sig → AreApart u
are_apart sig u e sort other n m hn hm s =
    let a = within_gives sig (length sig.sorts) sort (term_at u sort n) (among_at (terms_of sig sort) n (term_at u sort n) (stands_at sig u sort n e hn)) in
    let b = within_gives sig (length sig.sorts) other (term_at u other m) (among_at (terms_of sig other) m (term_at u other m) (stands_at sig u other m e hm)) in
    let one : a.symbol ≡ b.symbol = same_Some a.symbol b.symbol (sym a.at ∙ ap (λ (t : Term). slice_get sig.symbols (key t)) s ∙ b.at) in
    sym a.gives ∙ ap (λ (x : Symbol). x.gives) one ∙ b.gives
