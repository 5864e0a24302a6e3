-- Each symbol is placed behind those before it.
use Rattle.std.proofs.Common.{◌≡◌, ℕ, zero, suc, ◌+◌, ◌<◌, ◌≤◌, Bool, true, false, cond, List, [], ◌∷◌, ◌++◌, length, take, get_or, Some, arith, refl, sym, ap, ◌∙◌, subst, inl, inr}
use Rattle.std.specs.Prelude.{◌&&◌, ◌==◌, slice_get, slice_set}
use Rattle.std.proofs.lemmas.Option.{none-some, same_Some, slice_get_within}
use Rattle.std.proofs.lemmas.Bool.{cases_eq, eq-eqb, ne_eqb, false≢true}
use Rattle.std.proofs.lemmas.List.{take_all, take_more, take-append-le, length-append, length-take-le}
use Rattle.sw_logic.specs.declared.syntax.SymbolKind.{SymbolKind}
use Rattle.sw_logic.specs.declared.syntax.Symbol.{Symbol}
use Rattle.sw_numbers.specs.Firsts.{many, of_kind, applied_of, ArePlaced, IsPlaced}
use Rattle.sw_lists.proofs.Places.{get_push_cases}

pub got_set : (xs : List ℕ) (i v : ℕ) → i < length xs → slice_get (slice_set xs i v) i ≡ Some v
got_set [] i v h = absurd (omega arith)
got_set (x ∷ xs) zero v h = refl
got_set (x ∷ xs) (suc i) v h = got_set xs i v (omega arith)

pub other_set : (xs : List ℕ) (i j v : ℕ) → (i ≡ j → ⊥) → slice_get (slice_set xs i v) j ≡ slice_get xs j
other_set [] i j v d = refl
other_set (x ∷ xs) zero zero v d = absurd (d refl)
other_set (x ∷ xs) zero (suc j) v d = refl
other_set (x ∷ xs) (suc i) zero v d = refl
other_set (x ∷ xs) (suc i) (suc j) v d = other_set xs i j v (λ e. d (ap suc e))

lifted : (c : Bool) (w a b d : ℕ) → b ≡ a + d → cond c (w + b) b ≡ cond c (w + a) a + d
lifted true w a b d e = omega arith
lifted false w a b d e = e

last_one : (c : Bool) (m : ℕ) → cond c (m + 0) 0 ≡ 0 + cond c m 0
last_one true m = omega arith
last_one false m = refl

both_true : (a b : Bool) (m : ℕ) → a ≡ true → b ≡ true → cond (a && b) m 0 ≡ m
both_true true true m e f = refl
both_true true false m e f = absurd (false≢true f)
both_true false b m e f = absurd (false≢true e)

first_false : (a b : Bool) (m : ℕ) → a ≡ false → cond (a && b) m 0 ≡ 0
first_false true b m e = absurd (false≢true (sym e))
first_false false b m e = refl

second_false : (a b : Bool) (m : ℕ) → b ≡ false → cond (a && b) m 0 ≡ 0
second_false true true m e = absurd (false≢true (sym e))
second_false true false m e = refl
second_false false b m e = refl

module _ (sizes : List ℕ) (kind : SymbolKind) where
  abbrev more_by : ℕ → Symbol → ℕ
  more_by sort s = cond (of_kind kind s.kind && (s.gives == sort)) (many sizes s.args) 0

  applied_more : (sort : ℕ) (ss : List Symbol) (s : Symbol) → applied_of sizes kind sort (ss ++ s ∷ []) ≡ applied_of sizes kind sort ss + more_by sort s
  applied_more sort [] s = last_one (of_kind kind s.kind && (s.gives == sort)) (many sizes s.args)
  applied_more sort (x ∷ ss) s =
      lifted (of_kind kind x.kind && (x.gives == sort)) (many sizes x.args) (applied_of sizes kind sort ss) (applied_of sizes kind sort (ss ++ s ∷ [])) (more_by sort s) (applied_more sort ss s)

  pub none_placed : (start firsts : List ℕ) → ArePlaced sizes kind [] start firsts start firsts
  none_placed start firsts = record {
    next = λ sort n e. e ∙ ap Some (let z : n ≡ n + 0 = omega arith in z);
    placed = λ i s n e k g. absurd (none-some s e);
    kept = λ i s e k. refl;
    beyond = λ i h. refl;
  }

  module _ (start firsts after more : List ℕ) (ss : List Symbol) (s : Symbol) (h : ArePlaced sizes kind ss start firsts after more) where
    passed_placed : (i : ℕ) (t : Symbol) (n : ℕ) → of_kind kind s.kind ≡ false → slice_get (ss ++ s ∷ []) i ≡ Some t → of_kind kind t.kind ≡ true → slice_get start t.gives ≡ Some n
        → slice_get more i ≡ Some (n + applied_of sizes kind t.gives (take i (ss ++ s ∷ [])))
    passed_placed i t n f e k g = elim (get_push_cases ss s i t e) [
      | inl a ↦
          let low = slice_get_within ss i t a in
          h.placed i t n a k g ∙ ap (λ xs. Some (n + applied_of sizes kind t.gives xs)) (sym (take-append-le i ss (s ∷ []) (omega arith)))
      | inr l ↦ absurd (false≢true (sym f ∙ ap (λ (x : Symbol). of_kind kind x.kind) (sym l.1) ∙ k))
    ]

    passed_kept : (i : ℕ) (t : Symbol) → slice_get (ss ++ s ∷ []) i ≡ Some t → of_kind kind t.kind ≡ false → slice_get more i ≡ slice_get firsts i
    passed_kept i t e k = elim (get_push_cases ss s i t e) [
      | inl a ↦ h.kept i t a k
      | inr l ↦ let a = l.0 in h.beyond i (omega arith)
    ]

    -- a symbol of another kind
    pub one_passed : of_kind kind s.kind ≡ false → ArePlaced sizes kind (ss ++ s ∷ []) start firsts after more
    one_passed f = record {
      next = λ sort n e.
          let none : more_by sort s ≡ 0 = first_false (of_kind kind s.kind) (s.gives == sort) (many sizes s.args) f in
          h.next sort n e ∙ ap Some (let z : n + applied_of sizes kind sort ss ≡ n + applied_of sizes kind sort (ss ++ s ∷ []) = omega (arith, applied_more sort ss s, none) in z);
      placed = λ i t n e k g. passed_placed i t n f e k g;
      kept = λ i t e k. passed_kept i t e k;
      beyond = λ i l. h.beyond i (omega (arith, length-append ss (s ∷ [])));
    }

    module _ (after2 more2 : List ℕ) (is_kind : of_kind kind s.kind ≡ true) (p : IsPlaced sizes s (length ss) after more after2 more2) where
      abbrev Moved : ℕ → Type 0
      Moved sort = (n : ℕ) → slice_get start sort ≡ Some n → slice_get after2 sort ≡ Some (n + applied_of sizes kind sort (ss ++ s ∷ []))

      own_moved : Moved s.gives
      own_moved n e =
          let low = slice_get_within after s.gives p.first p.at in
          let at : slice_get after2 s.gives ≡ Some (p.first + many sizes s.args) = ap (λ xs. slice_get xs s.gives) p.next ∙ got_set after s.gives (p.first + many sizes s.args) low in
          let is : p.first ≡ n + applied_of sizes kind s.gives ss = same_Some p.first (n + applied_of sizes kind s.gives ss) (sym p.at ∙ h.next s.gives n e) in
          let by : more_by s.gives s ≡ many sizes s.args = both_true (of_kind kind s.kind) (s.gives == s.gives) (many sizes s.args) is_kind (eq-eqb s.gives s.gives refl) in
          at ∙ ap Some (let z : p.first + many sizes s.args ≡ n + applied_of sizes kind s.gives (ss ++ s ∷ []) = omega (arith, applied_more s.gives ss s, by, is) in z)

      other_moved : (sort : ℕ) → (s.gives ≡ sort → ⊥) → Moved sort
      other_moved sort d n e =
          let at : slice_get after2 sort ≡ slice_get after sort = ap (λ xs. slice_get xs sort) p.next ∙ other_set after s.gives sort (p.first + many sizes s.args) d in
          let none : more_by sort s ≡ 0 = second_false (of_kind kind s.kind) (s.gives == sort) (many sizes s.args) (ne_eqb s.gives sort d) in
          at ∙ h.next sort n e ∙ ap Some (let z : n + applied_of sizes kind sort ss ≡ n + applied_of sizes kind sort (ss ++ s ∷ []) = omega (arith, applied_more sort ss s, none) in z)

      moved : (sort : ℕ) → Moved sort
      moved sort = elim (cases_eq s.gives sort) [ inl e ↦ subst Moved e own_moved | inr d ↦ other_moved sort d ]

      still_there : (i : ℕ) → (length ss ≡ i → ⊥) → slice_get more2 i ≡ slice_get more i
      still_there i d = ap (λ xs. slice_get xs i) p.placed ∙ other_set more (length ss) i p.first d

      there : (i : ℕ) (t : Symbol) (n : ℕ) → slice_get (ss ++ s ∷ []) i ≡ Some t → of_kind kind t.kind ≡ true → slice_get start t.gives ≡ Some n
          → slice_get more2 i ≡ Some (n + applied_of sizes kind t.gives (take i (ss ++ s ∷ [])))
      there i t n e k g = elim (get_push_cases ss s i t e) [
        | inl a ↦
            let low = slice_get_within ss i t a in
            still_there i (λ x. absurd (omega (arith, x))) ∙ h.placed i t n a k g ∙ ap (λ xs. Some (n + applied_of sizes kind t.gives xs)) (sym (take-append-le i ss (s ∷ []) (omega arith)))
        | inr l ↦
            let a = l.0 in
            let is : s ≡ t = sym l.1 in
            let at : slice_get more2 (length ss) ≡ Some p.first = ap (λ xs. slice_get xs (length ss)) p.placed ∙ got_set more (length ss) p.first p.within in
            let g2 : slice_get start s.gives ≡ Some n = ap (λ (x : Symbol). slice_get start x.gives) is ∙ g in
            let first_is : p.first ≡ n + applied_of sizes kind s.gives ss = same_Some p.first (n + applied_of sizes kind s.gives ss) (sym p.at ∙ h.next s.gives n g2) in
            let front : take (length ss) (ss ++ s ∷ []) ≡ ss = take-append-le (length ss) ss (s ∷ []) (omega arith) ∙ take_all (length ss) ss (omega arith) in
            ap (slice_get more2) a ∙ at ∙ ap Some first_is ∙ ap (λ xs. Some (n + applied_of sizes kind s.gives xs)) (sym front)
            ∙ ap (λ (j : ℕ). Some (n + applied_of sizes kind s.gives (take j (ss ++ s ∷ [])))) (sym a) ∙ ap (λ (x : Symbol). Some (n + applied_of sizes kind x.gives (take i (ss ++ s ∷ [])))) is
      ]

      there_kept : (i : ℕ) (t : Symbol) → slice_get (ss ++ s ∷ []) i ≡ Some t → of_kind kind t.kind ≡ false → slice_get more2 i ≡ slice_get firsts i
      there_kept i t e k = elim (get_push_cases ss s i t e) [
        | inl a ↦
            let low = slice_get_within ss i t a in
            still_there i (λ x. absurd (omega (arith, x))) ∙ h.kept i t a k
        | inr l ↦ absurd (false≢true (sym k ∙ ap (λ (x : Symbol). of_kind kind x.kind) l.1 ∙ is_kind))
      ]

      -- a symbol of the kind
      pub one_placed : ArePlaced sizes kind (ss ++ s ∷ []) start firsts after2 more2
      one_placed = record {
        next = moved;
        placed = there;
        kept = there_kept;
        beyond = λ i l. let far : suc (length ss) ≤ i = omega (arith, length-append ss (s ∷ [])) in still_there i (λ x. absurd (omega (arith, x))) ∙ h.beyond i (omega arith);
      }

  -- the next symbol of a list
  pub next_passed : (start firsts after more : List ℕ) (symbols : List Symbol) (k : ℕ) (s : Symbol) → k < length symbols → s ≡ get_or symbols k s → of_kind kind s.kind ≡ false
      → ArePlaced sizes kind (take k symbols) start firsts after more → ArePlaced sizes kind (take (k + 1) symbols) start firsts after more
  next_passed start firsts after more symbols k s low at f h =
      let one : take (k + 1) symbols ≡ take k symbols ++ s ∷ [] = take_more symbols k s low ∙ ap (λ (x : Symbol). take k symbols ++ x ∷ []) (sym at) in
      subst (λ xs. ArePlaced sizes kind xs start firsts after more) (sym one) (one_passed start firsts after more (take k symbols) s h f)

  pub next_placed : (start firsts after more after2 more2 : List ℕ) (symbols : List Symbol) (k : ℕ) (s : Symbol) → k < length symbols → s ≡ get_or symbols k s → of_kind kind s.kind ≡ true
      → IsPlaced sizes s k after more after2 more2 → ArePlaced sizes kind (take k symbols) start firsts after more → ArePlaced sizes kind (take (k + 1) symbols) start firsts after2 more2
  next_placed start firsts after more after2 more2 symbols k s low at is_kind p h =
      let one : take (k + 1) symbols ≡ take k symbols ++ s ∷ [] = take_more symbols k s low ∙ ap (λ (x : Symbol). take k symbols ++ x ∷ []) (sym at) in
      let count : k ≡ length (take k symbols) = sym (length-take-le k symbols (omega arith)) in
      subst (λ xs. ArePlaced sizes kind xs start firsts after2 more2) (sym one)
      (one_placed start firsts after more (take k symbols) s h after2 more2 is_kind (subst (λ n. IsPlaced sizes s n after more after2 more2) count p))
