-- A list of words has one answer: each answer says how the machine ends.
use Rattle.std.proofs.Common.{◌≡◌, ◌⊎◌, inl, inr, ℕ, suc, zero, ◌+◌, ◌<◌, ◌≤◌, List, [], ◌∷◌, ◌++◌, length, take, get_or, Option, Some, None, refl, sym, ap, subst, arith, ◌∙◌}
use Rattle.std.specs.Prelude.{option_and_then}
use Rattle.std.specs.List.{AllByRecursion}
use Rattle.std.proofs.lemmas.List.{take_more, append-nil, append_cancel_left, get_or-take, length-take, length-map, map-append}
use Rattle.sw_trees.specs.declared.words.Sign.{Sign}
use Rattle.sw_trees.specs.declared.words.Word.{Word}
use Rattle.sw_trees.specs.declared.tree.Tree.{Tree}
use Rattle.sw_trees.specs.declared.machine.State.{State}
use Rattle.sw_trees.specs.declared.limits.TheConstants.{NESTINGS}
use Rattle.sw_trees.specs.declared.reader.Read.{Read}
use Rattle.sw_trees.specs.Measures.{nestings_of}
use Rattle.sw_trees.specs.Grammar.{Mark, Context}
use Rattle.sw_trees.specs.Machine.{start, step, finish, loads_in}
use Rattle.sw_trees.specs.Limits.{IsWithin}
use Rattle.sw_trees.specs.Answers.{words_in, Spelled, CanBegin, Begins, StopsAt, IsLongest, IsSyntax, GoesPast, IsAnswer}
use Rattle.sw_trees.specs.Laws.{OneAnswer}
use Rattle.sw_trees.proofs.Reading.{Reads}
use Rattle.sw_trees.proofs.Complete.{formula_complete}
use Rattle.sw_trees.proofs.Sound.{formula_sound}
use Rattle.sw_trees.proofs.Viable.{made}
use Rattle.sw_trees.proofs.Answering.{run, HasRead, read_runs, reads_more, goes_on, words_more, spelled_ends}

-- the machine has read the front, and goes on with the rest
pub record Splits (base : Context) (s : State) (front : List Mark) (t : State) (more : List Mark) : Type 0 where
  pub through : State
  pub front_reads : Reads base s front through []
  pub more_reads : Reads base through more t []

splits : (base : Context) (s t : State) (front more : List Mark) → Reads base s (front ++ more) t [] → Splits base s front t more
splits base s t [] more r = record { through = s; front_reads = Reads.here; more_reads = r }
splits base s t (m ∷ front) more (Reads.more {t = u} m' e l r) =
    let p = splits base u t front more r in
    record { through = p.through; front_reads = Reads.more m' e l p.front_reads; more_reads = p.more_reads }

-- the machine at one of the words that it reads
pub record Taken (base : Context) (s : State) (ws : List Word) (n : ℕ) (d : Word) : Type 0 where
  pub here : State
  pub next : State
  pub runs : run s (take n ws) ≡ Some here
  pub steps : step here (get_or ws n d) ≡ Some next
  pub allowed : IsWithin (loads_in base next (get_or ws n d))

taken_at : (base : Context) (s v : State) (ms : List Mark) (n : ℕ) (d : Word) → n < length ms → Reads base s ms v [] → AllByRecursion (λ m. IsWithin m.loads) ms → Taken base s (words_in ms) n d
taken_at base s v [] n d h r a = absurd (omega arith)
taken_at base s v (m ∷ ms) zero d h (Reads.more {t = t} m' e l r) a =
    record { here = s; next = t; runs = refl; steps = e; allowed = subst IsWithin (sym l) a.0 }
taken_at base s v (m ∷ ms) (suc n) d h (Reads.more {t = t} m' e l r) a =
    let p = taken_at base t v ms n d (omega arith) r a.1 in
    record { here = p.here; next = p.next; runs = ap (option_and_then (λ (u : State). run u (take n (words_in ms)))) e ∙ p.runs; steps = p.steps; allowed = p.allowed }

take_less : {X : Type 0} (n m : ℕ) (xs : List X) → n ≤ m → take n (take m xs) ≡ take n xs
take_less zero m xs h = refl
take_less (suc n) zero xs h = absurd (omega arith)
take_less (suc n) (suc m) [] h = refl
take_less (suc n) (suc m) (x ∷ xs) h = ap (λ ys. x ∷ ys) (take_less n m xs (omega arith))

module _ (base : Context) (ws : List Word) where
  state_of : (n : ℕ) (ms : List Mark) → Begins ws n ms → CanBegin base ms → (u : State) × HasRead base ws n u
  state_of n ms b c =
      let f = formula_complete base c.1.1.0 c.1.1.1.0 (ms ++ c.0) c.1.0 [] c.1.1.1.1 in
      let p = splits base start f.to ms c.0 f.reads in
      (p.through, record { marks = ms; begins = b; reads = p.front_reads })

  spelled_begins : (ms : List Mark) (x : Tree) → Spelled base ms x → CanBegin base ms
  spelled_begins ms x h = ([], (x, subst (λ (ns : List Mark). Spelled base ns x) (sym (append-nil ms)) h))

  same_state : (n : ℕ) (u v : State) → HasRead base ws n u → HasRead base ws n v → u ≡ v
  same_state n u v h k = let e : Some u ≡ Some v = sym (read_runs base ws n u h) ∙ read_runs base ws n v k in cc

  -- where no formula goes on, the machine does not
  stops_there : (n : ℕ) (u : State) → HasRead base ws n u → StopsAt base ws n → n < length ws → (d : Word) (o : Option State) → step u (get_or ws n d) ≡ o → o ≡ None
  stops_there n u h stops inside d None e = refl
  stops_there n u h stops inside d (Some t) e =
      let m : Mark = record { word = get_or ws n d; loads = loads_in base t (get_or ws n d) } in
      absurd
      (stops inside (h.marks ++ m ∷ []) (words_more base ws n d (get_or ws n d) h.marks m inside refl refl h.begins.are)
      (goes_on base ws (h.marks ++ m ∷ []) t (reads_more base ws n (get_or ws n d) u t h e)))

  -- further on the machine has taken the word, and it goes past no limit
  taken_before : (n m : ℕ) (u v : State) (d : Word) → n < m → HasRead base ws n u → HasRead base ws m v → (t : State) × (step u (get_or ws n d) ≡ Some t) × IsWithin (loads_in base t (get_or ws n d))
  taken_before n m u v d h k l =
      let long : length l.marks ≡ length (take m ws) = sym (length-map l.marks (λ (o : Mark). o.word)) ∙ ap length l.begins.are in
      let p = taken_at base start v l.marks n d (omega (arith, long, length-take m ws, l.begins.within)) l.reads l.begins.allowed in
      let word_is : get_or (words_in l.marks) n d ≡ get_or ws n d = ap (λ (vs : List Word). get_or vs n d) l.begins.are ∙ get_or-take m ws n d h in
      let front : take n (words_in l.marks) ≡ take n ws = ap (take n) l.begins.are ∙ take_less n m ws (omega arith) in
      let same : Some u ≡ Some p.here = sym (read_runs base ws n u k) ∙ ap (run start) (sym front) ∙ p.runs in
      let state_is : u ≡ p.here = cc in (
        p.next,
        ap (λ (w : Word). step u w) (sym word_is) ∙ ap (λ (s : State). step s (get_or (words_in l.marks) n d)) state_is ∙ p.steps,
        subst (λ (w : Word). IsWithin (loads_in base p.next w)) word_is p.allowed,
      )

-- how the machine ends where it has read n words
pub data Ending (base : Context) (ws : List Word) (n : ℕ) (u : State) : Read → Type 0 where
  in_formula : (x : Tree) → StopsAt base ws n → finish u ≡ Some x → base.nestings + (nestings_of x).alone ≤ NESTINGS → Ending base ws n u (Read.Formula x n)
  in_syntax : StopsAt base ws n → finish u ≡ None → Ending base ws n u (Read.Syntax n)
  past : (d : Word) (t : State) → n < length ws → step u (get_or ws n d) ≡ Some t → (IsWithin (loads_in base t (get_or ws n d)) → ⊥) → Ending base ws n u (Read.TooDeep n)
  too_nested : (x : Tree) → StopsAt base ws n → finish u ≡ Some x → NESTINGS < base.nestings + (nestings_of x).alone → Ending base ws n u (Read.TooDeep n)

pub record Ended (base : Context) (ws : List Word) (r : Read) : Type 0 where
  pub count : ℕ
  pub state : State
  pub has_read : HasRead base ws count state
  pub ending : Ending base ws count state r

goes_not : (base : Context) (ws : List Word) (n m : ℕ) (u v : State) → HasRead base ws n u → HasRead base ws m v → StopsAt base ws n → n < m → ⊥
goes_not base ws n m u v k l stops h =
    let d : Word = made Sign.Number in
    let p = taken_before base ws n m u v d h k l in
    let none : Some p.0 ≡ None = stops_there base ws n u k stops (omega (arith, h, l.begins.within)) d (Some p.0) p.1 in
    cc

-- where one answer stops, the other does not go on
starts_not : (base : Context) (ws : List Word) (n m : ℕ) (u v : State) (d : Word) (t : State) → n ≡ m → u ≡ v → HasRead base ws n u → StopsAt base ws m → n < length ws → step u (get_or ws n d) ≡ Some t → ⊥
starts_not base ws n m u v d t a b k stops inside e =
    let none : Some t ≡ None = stops_there base ws n u k (subst (StopsAt base ws) (sym a) stops) inside d (Some t) e in cc

ends_not : (base : Context) (ws : List Word) (n m : ℕ) (u v : State) (d : Word) (t : State) → n ≡ m → u ≡ v → HasRead base ws n u → StopsAt base ws n → m < length ws → step v (get_or ws m d) ≡ Some t → ⊥
ends_not base ws n m u v d t a b k stops inside e =
    let f : step u (get_or ws n d) ≡ Some t = ap (λ (j : ℕ). step u (get_or ws j d)) a ∙ ap (λ (s : State). step s (get_or ws m d)) b ∙ e in
    let none : Some t ≡ None = stops_there base ws n u k stops (omega (arith, a, inside)) d (Some t) f in
    cc

longest_ending : (base : Context) (ws : List Word) (n : ℕ) (x : Tree) (h : IsLongest base ws n x) → (u : State) × HasRead base ws n u × (finish u ≡ Some x)
longest_ending base ws n x h =
    let s = state_of base ws n h.marks h.begins (spelled_begins base ws h.marks x h.spelled) in
    (s.0, s.1, spelled_ends base ws n s.0 s.1 h.marks x h.begins.are h.spelled)

last_same : (xs ys : List Word) (x y : Word) → xs ≡ ys → xs ++ x ∷ [] ≡ ys ++ y ∷ [] → x ≡ y
last_same xs ys x y a e =
    let f : x ∷ [] ≡ y ∷ [] = append_cancel_left ys (x ∷ []) (y ∷ []) (ap (λ (zs : List Word). zs ++ x ∷ []) (sym a) ∙ e) in
    cc

last_word : (base : Context) (ws : List Word) (n : ℕ) (h : GoesPast base ws n) → h.last.word ≡ get_or ws n h.last.word
last_word base ws n h =
    last_same (words_in h.marks) (take n ws) h.last.word (get_or ws n h.last.word) h.begins.are
    (sym (map-append (λ (o : Mark). o.word) h.marks (h.last ∷ [])) ∙ h.are ∙ take_more ws n h.last.word h.inside)

past_step : (base : Context) (ws : List Word) (n : ℕ) (h : GoesPast base ws n) (u v : State) → HasRead base ws n u → Reads base u (h.last ∷ []) v [] → Ended base ws (Read.TooDeep n)
past_step base ws n h u v k (Reads.more {t = t} m e l r) =
    record {
      count = n;
      state = u;
      has_read = k;
      ending = Ending.past h.last.word t h.inside (ap (step u) (sym (last_word base ws n h)) ∙ e)
          (λ w. h.past (subst IsWithin (ap (loads_in base t) (sym (last_word base ws n h)) ∙ l) w));
    }

past_ending : (base : Context) (ws : List Word) (n : ℕ) → GoesPast base ws n → Ended base ws (Read.TooDeep n)
past_ending base ws n h =
    let f = formula_complete base h.goes_on.1.1.0 h.goes_on.1.1.1.0 ((h.marks ++ h.last ∷ []) ++ h.goes_on.0) h.goes_on.1.0 [] h.goes_on.1.1.1.1 in
    let p = splits base start f.to (h.marks ++ h.last ∷ []) h.goes_on.0 f.reads in
    let q = splits base start p.through h.marks (h.last ∷ []) p.front_reads in
    past_step base ws n h q.through p.through (record { marks = h.marks; begins = h.begins; reads = q.front_reads }) q.more_reads

-- words that spell nothing are ended in nothing
no_end : (base : Context) (ws : List Word) (n : ℕ) (u : State) (h : IsSyntax base ws n) → HasRead base ws n u → (o : Option Tree) → finish u ≡ o → o ≡ None
no_end base ws n u h k None e = refl
no_end base ws n u h k (Some x) e = absurd (h.none k.marks x k.begins.are (formula_sound base k.marks u x k.reads e))

ended : (base : Context) (ws : List Word) (r : Read) → IsAnswer base ws r → Ended base ws r
ended base ws (Read.Formula x n) h =
    let s = longest_ending base ws n x h.0 in
    record { count = n; state = s.0; has_read = s.1; ending = Ending.in_formula x h.0.stops s.2 h.1 }
ended base ws (Read.Syntax n) h =
    let s = state_of base ws n h.marks h.begins h.goes_on in
    record { count = n; state = s.0; has_read = s.1; ending = Ending.in_syntax h.stops (no_end base ws n s.0 h s.1 (finish s.0) refl) }
ended base ws (Read.TooDeep n) (inl h) = past_ending base ws n h
ended base ws (Read.TooDeep n) (inr h) =
    let s = longest_ending base ws n h.tree_is h.longest in
    record { count = n; state = s.0; has_read = s.1; ending = Ending.too_nested h.tree_is h.longest.stops s.2 h.past }

-- the machine does not end and go on
not_before : (base : Context) (ws : List Word) (n m : ℕ) (u v : State) (r : Read) → HasRead base ws n u → HasRead base ws m v → Ending base ws n u r → n < m → ⊥
not_before base ws n m u v _ k l (Ending.in_formula x stops e g) h = goes_not base ws n m u v k l stops h
not_before base ws n m u v _ k l (Ending.in_syntax stops e) h = goes_not base ws n m u v k l stops h
not_before base ws n m u v _ k l (Ending.too_nested x stops e g) h = goes_not base ws n m u v k l stops h
not_before base ws n m u v _ k l (Ending.past d t inside e g) h =
    let p = taken_before base ws n m u v d h k l in
    let same : t ≡ p.0 = let both : Some t ≡ Some p.0 = sym e ∙ p.1 in cc in
    g (subst (λ (s : State). IsWithin (loads_in base s (get_or ws n d))) (sym same) p.2)

same_kind : (base : Context) (ws : List Word) (n m : ℕ) (u v : State) (r s : Read) → n ≡ m → u ≡ v → HasRead base ws n u → Ending base ws n u r → Ending base ws m v s → r ≡ s
same_kind base ws n m u v _ _ a b k (Ending.in_formula x stops e g) (Ending.in_formula y stops' e' g') =
    let same : Some x ≡ Some y = sym e ∙ ap finish b ∙ e' in cc
same_kind base ws n m u v _ _ a b k (Ending.in_formula x stops e g) (Ending.in_syntax stops' e') =
    let same : Some x ≡ None = sym e ∙ ap finish b ∙ e' in cc
same_kind base ws n m u v _ _ a b k (Ending.in_formula x stops e g) (Ending.too_nested y stops' e' g') =
    let same : Some x ≡ Some y = sym e ∙ ap finish b ∙ e' in
    let tree_same : x ≡ y = cc in
    let nest = ap (λ (z : Tree). (nestings_of z).alone) tree_same in
    absurd (omega (arith, nest, g, g'))
same_kind base ws n m u v _ _ a b k (Ending.in_formula x stops e g) (Ending.past d t inside e' g') = absurd (ends_not base ws n m u v d t a b k stops inside e')
same_kind base ws n m u v _ _ a b k (Ending.in_syntax stops e) (Ending.in_formula y stops' e' g') =
    let same : None ≡ Some y = sym e ∙ ap finish b ∙ e' in cc
same_kind base ws n m u v _ _ a b k (Ending.in_syntax stops e) (Ending.in_syntax stops' e') = ap Read.Syntax a
same_kind base ws n m u v _ _ a b k (Ending.in_syntax stops e) (Ending.too_nested y stops' e' g') =
    let same : None ≡ Some y = sym e ∙ ap finish b ∙ e' in cc
same_kind base ws n m u v _ _ a b k (Ending.in_syntax stops e) (Ending.past d t inside e' g') = absurd (ends_not base ws n m u v d t a b k stops inside e')
same_kind base ws n m u v _ _ a b k (Ending.too_nested x stops e g) (Ending.in_formula y stops' e' g') =
    let same : Some x ≡ Some y = sym e ∙ ap finish b ∙ e' in
    let tree_same : x ≡ y = cc in
    let nest = ap (λ (z : Tree). (nestings_of z).alone) tree_same in
    absurd (omega (arith, nest, g, g'))
same_kind base ws n m u v _ _ a b k (Ending.too_nested x stops e g) (Ending.in_syntax stops' e') =
    let same : Some x ≡ None = sym e ∙ ap finish b ∙ e' in cc
same_kind base ws n m u v _ _ a b k (Ending.too_nested x stops e g) (Ending.too_nested y stops' e' g') = ap Read.TooDeep a
same_kind base ws n m u v _ _ a b k (Ending.too_nested x stops e g) (Ending.past d t inside e' g') = ap Read.TooDeep a
same_kind base ws n m u v _ _ a b k (Ending.past d t inside e g) (Ending.too_nested y stops' e' g') = ap Read.TooDeep a
same_kind base ws n m u v _ _ a b k (Ending.past d t inside e g) (Ending.past d' t' inside' e' g') = ap Read.TooDeep a
same_kind base ws n m u v _ _ a b k (Ending.past d t inside e g) (Ending.in_formula y stops' e' g') = absurd (starts_not base ws n m u v d t a b k stops' inside e)
same_kind base ws n m u v _ _ a b k (Ending.past d t inside e g) (Ending.in_syntax stops' e') = absurd (starts_not base ws n m u v d t a b k stops' inside e)

finally : (base : Context) (ws : List Word) (r s : Read) (p : Ended base ws r) (q : Ended base ws s) → (p.count < q.count) ⊎ ((q.count < p.count) ⊎ (p.count ≡ q.count)) → r ≡ s
finally base ws r s p q (inl h) = absurd (not_before base ws p.count q.count p.state q.state r p.has_read q.has_read p.ending h)
finally base ws r s p q (inr (inl h)) = absurd (not_before base ws q.count p.count q.state p.state s q.has_read p.has_read q.ending h)
finally base ws r s p q (inr (inr e)) =
    let moved : HasRead base ws p.count q.state = subst (λ (n : ℕ). HasRead base ws n q.state) (sym e) q.has_read in
    same_kind base ws p.count q.count p.state q.state r s e (same_state base ws p.count p.state q.state p.has_read moved) p.has_read p.ending q.ending

in_order : (n m : ℕ) → (n < m) ⊎ ((m < n) ⊎ (n ≡ m))
in_order zero zero = inr (inr refl)
in_order zero (suc m) = inl (omega arith)
in_order (suc n) zero = inr (inl (omega arith))
in_order (suc n) (suc m) = next (in_order n m)
  where
    next : (n < m) ⊎ ((m < n) ⊎ (n ≡ m)) → (suc n < suc m) ⊎ ((suc m < suc n) ⊎ (suc n ≡ suc m))
    next (inl h) = inl (omega (arith, h))
    next (inr (inl h)) = inr (inl (omega (arith, h)))
    next (inr (inr e)) = inr (inr (omega (arith, e)))

pub one_answer : OneAnswer
one_answer base ws r s h k = let p = ended base ws r h in let q = ended base ws s k in finally base ws r s p q (in_order p.count q.count)
