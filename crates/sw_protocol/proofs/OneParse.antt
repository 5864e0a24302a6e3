-- A list of words has one answer: each answer is what the machine comes to.
use Rattle.std.proofs.Common.{◌≡◌, ◌⊎◌, inl, inr, ℕ, ◌+◌, ◌<◌, ◌≤◌, Bool, true, false, List, [], ◌∷◌, ◌++◌, length, take, drop, get_or, Option, Some, None, refl, sym, ap, subst, arith, ◌∙◌}
use Rattle.std.specs.Prelude.{nat_lt, if◌then◌else◌, ◌||◌}
use Rattle.std.specs.List.{AllByRecursion}
use Rattle.std.proofs.lemmas.Bool.Decides.{nat_tests}
use Rattle.std.proofs.lemmas.List.{at_drop_more, map-append, append_assoc, append-nil, take-append-drop, length-map, length-take-le}
use Rattle.std.proofs.Math.Seq.{take-length, drop-length}
use Rattle.sw_trees.specs.declared.words.Sign.{Sign}
use Rattle.sw_trees.specs.declared.words.Word.{Word}
use Rattle.sw_trees.specs.declared.limits.TheConstants.{NESTINGS, PATH}
use Rattle.sw_logic.specs.declared.variables.TheConstants.{VARIABLES}
use Rattle.sw_trees.specs.Grammar.{Loads, Mark}
use Rattle.sw_trees.specs.Limits.{IsWithin}
use Rattle.sw_trees.specs.Answers.{words_in, Begins}
use Rattle.sw_protocol.specs.declared.tree.Declaration.{Declaration}
use Rattle.sw_protocol.specs.declared.phases.Phase.{Phase}
use Rattle.sw_protocol.specs.declared.parsing.Parsed.{Parsed}
use Rattle.sw_protocol.specs.Grammar.{AreDeclarations}
use Rattle.sw_protocol.specs.Machine.{nests, Next, next, State, after, start, finish, finish_by}
use Rattle.sw_protocol.specs.Answers.{IsWhole, StopsAt, IsSyntax, GoesPast, IsTooNested, IsAnswer, OneParse}
use Rattle.sw_protocol.proofs.Reading.{at, Reads}
use Rattle.sw_protocol.proofs.Complete.{declarations_read}
use Rattle.sw_protocol.proofs.Sound.{declarations_sound}
use Rattle.sw_trees.proofs.Viable.{made}
use Rattle.sw_protocol.proofs.Answering.{splits, HasRead, words_more, reads_more, goes_on, begins_runs, shallow, deep_ends, ends_past}

-- a limit is gone past
abbrev pub is_past : Loads → Bool
is_past l = nat_lt NESTINGS l.nestings || (nat_lt PATH l.path || nat_lt VARIABLES l.variables)

within_not_past : (l : Loads) → IsWithin l → is_past l ≡ false
within_not_past l h =
    let a = h.nestings in
    let b = h.path in
    let c = h.variables in
    grind (arith, nat_tests)

none_of : (a b c : Bool) → (a || (b || c)) ≡ false → (a ≡ false) × (b ≡ false) × (c ≡ false)
none_of false false false e = (refl, refl, refl)
none_of false false true e = cc
none_of false true c e = cc
none_of true b c e = cc

not_past : (n m : ℕ) → nat_lt m n ≡ false → n ≤ m
not_past n m e = grind (arith, nat_tests, e)

past_not_within : (l : Loads) → (IsWithin l → ⊥) → is_past l ≡ true
past_not_within l h = from (is_past l) refl
  where
    from : (b : Bool) → is_past l ≡ b → b ≡ true
    from true e = refl
    from false e =
        let a = none_of (nat_lt NESTINGS l.nestings) (nat_lt PATH l.path) (nat_lt VARIABLES l.variables) e in
        absurd (h (record { nestings = not_past l.nestings NESTINGS a.0; path = not_past l.path PATH a.1; variables = not_past l.variables VARIABLES a.2 }))

deep_true : (n : ℕ) → NESTINGS < n → nat_lt NESTINGS n ≡ true
deep_true n h = grind (arith, nat_tests)

deep_false : (n : ℕ) → (NESTINGS < n → ⊥) → nat_lt NESTINGS n ≡ false
deep_false n h = from (nat_lt NESTINGS n) refl
  where
    from : (b : Bool) → nat_lt NESTINGS n ≡ b → b ≡ false
    from false e = refl
    from true e = let k : NESTINGS < n = grind (arith, nat_tests, e) in absurd (h k)

is_deep : (n : ℕ) → (n ≤ NESTINGS → ⊥) → NESTINGS < n
is_deep n h = from (nat_lt NESTINGS n) refl
  where
    from : (b : Bool) → nat_lt NESTINGS n ≡ b → NESTINGS < n
    from true e = grind (arith, nat_tests, e)
    from false e = let k : n ≤ NESTINGS = grind (arith, nat_tests, e) in absurd (h k)

ends_or_not : (n m : ℕ) → n ≤ m → (n < m) ⊎ (n ≡ m)
ends_or_not n m h = from (nat_lt n m) refl
  where
    from : (b : Bool) → nat_lt n m ≡ b → (n < m) ⊎ (n ≡ m)
    from true e = let k : n < m = grind (arith, nat_tests, e) in inl k
    from false e = let k : m ≤ n = grind (arith, nat_tests, e) in inr (omega (arith, h, k))

-- where a formula is too deep no declaration has ended
deep_unended : (s : State) → NESTINGS < nests s.phase → finish s ≡ None
deep_unended s h = from s.phase s.done h
  where
    from : (p : Phase) (ds : List Declaration) → NESTINGS < nests p → finish_by p ds ≡ None
    from Phase.Begin ds h = absurd (omega (arith, h))
    from _ ds h = refl

-- what the machine answers from a state that has read n words, over the words after them
abbrev pub refusal : ℕ → Phase → Parsed
refusal n p = if nat_lt NESTINGS (nests p) then Parsed.TooDeep n else Parsed.Syntax n

abbrev pub chosen : ℕ → Phase → (Next → Parsed) → Option Next → Parsed
chosen n p go None = refusal n p
chosen n p go (Some x) = if is_past x.loads then Parsed.TooDeep n else go x

abbrev pub at_end : ℕ → Phase → Option (List Declaration) → Parsed
at_end n p None = refusal n p
at_end n p (Some ds) = Parsed.Whole ds

abbrev pub answer : List ℕ → ℕ → State → List Word → Parsed
answer text n s [] = at_end n s.phase (finish s)
answer text n s (w ∷ ws) = chosen n s.phase (λ x. answer text (n + 1) (after s x) ws) (next text s.phase w)

module _ (text : List ℕ) where
  -- over words that go past no limit the machine goes on
  answer_on : (n : ℕ) (s t : State) (ms : List Mark) (vs : List Word) → Reads text s ms t [] → AllByRecursion (λ m. IsWithin m.loads) ms → answer text n s (words_in ms ++ vs) ≡ answer text (n + length ms) t vs
  answer_on n s t [] vs r a = none_on n s t vs r
    where
      none_on : (n : ℕ) (s t : State) (vs : List Word) → Reads text s [] t [] → answer text n s vs ≡ answer text (n + 0) t vs
      none_on n s t vs Reads.here = ap (λ (k : ℕ). answer text k s vs) (omega arith)
  answer_on n s t (m ∷ ms) vs (Reads.more m' x e l r) a =
      ap (chosen n s.phase (λ y. answer text (n + 1) (after s y) (words_in ms ++ vs))) e
      ∙ ap (λ (b : Bool). if b then Parsed.TooDeep n else answer text (n + 1) (after s x) (words_in ms ++ vs)) (within_not_past x.loads (subst IsWithin (sym l) a.0))
      ∙ answer_on (n + 1) (after s x) t ms vs r a.1
      ∙ ap (λ (k : ℕ). answer text k t vs) (omega arith)

  module _ (ws : List Word) where
    answer_from : (n : ℕ) (s : State) (ms : List Mark) (vs : List Word) → ws ≡ words_in ms ++ vs → length ms ≡ n → Reads text start ms s [] → AllByRecursion (λ m. IsWithin m.loads) ms → answer text 0 start ws ≡ answer text n s vs
    answer_from n s ms vs e long r a = ap (answer text 0 start) e ∙ answer_on 0 start s ms vs r a ∙ ap (λ (k : ℕ). answer text k s vs) (omega (arith, long))

    marks_count : (n : ℕ) (ms : List Mark) → Begins ws n ms → length ms ≡ n
    marks_count n ms b = sym (length-map ms (λ (o : Mark). o.word)) ∙ ap length b.are ∙ length-take-le n ws b.within

    answer_after : (n : ℕ) (s : State) → HasRead text ws n s → answer text 0 start ws ≡ answer text n s (drop n ws)
    answer_after n s h =
        answer_from n s h.marks (drop n ws) (sym (ap (λ (vs : List Word). vs ++ drop n ws) h.begins.are ∙ take-append-drop n ws)) (marks_count n h.marks h.begins) h.reads h.begins.allowed

    -- no word is taken where no protocol goes on
    not_taken : (n : ℕ) (s : State) (h : HasRead text ws n s) → StopsAt text ws n → n < length ws → (d : Word) (o : Option Next) → next text s.phase (get_or ws n d) ≡ o → o ≡ None
    not_taken n s h stops inside d None e = refl
    not_taken n s h stops inside d (Some x) e =
        let m : Mark = record { word = get_or ws n d; loads = x.loads } in
        absurd
        (stops inside (h.marks ++ m ∷ []) (words_more text ws n d (get_or ws n d) h.marks m inside refl refl h.begins.are)
        (goes_on text ws (h.marks ++ m ∷ []) (after s x) (reads_more text ws (get_or ws n d) s x h.marks h.reads e)))

    refusal_at : (n : ℕ) (s : State) → HasRead text ws n s → StopsAt text ws n → (n ≡ length ws → finish s ≡ None) → (n < length ws) ⊎ (n ≡ length ws) → answer text n s (drop n ws) ≡ refusal n s.phase
    refusal_at n s h stops none (inl inside) =
        let d : Word = made Sign.Number in
        at_drop_more (answer text n s) ws n d inside
        ∙ ap (chosen n s.phase (λ x. answer text (n + 1) (after s x) (drop (n + 1) ws))) (not_taken n s h stops inside d (next text s.phase (get_or ws n d)) refl)
    refusal_at n s h stops none (inr e) =
        ap (answer text n s) (ap (λ (k : ℕ). drop k ws) e ∙ drop-length ws) ∙ ap (at_end n s.phase) (none e)

    refuses : (n : ℕ) (s : State) → HasRead text ws n s → StopsAt text ws n → (n ≡ length ws → finish s ≡ None) → answer text 0 start ws ≡ refusal n s.phase
    refuses n s h stops none = answer_after n s h ∙ refusal_at n s h stops none (ends_or_not n (length ws) h.begins.within)

    -- words that spell nothing are ended in nothing
    no_end : (n : ℕ) (s : State) (h : HasRead text ws n s) → ((ms : List Mark) (ds : List Declaration) → words_in ms ≡ ws → AreDeclarations text ms ds → ⊥) → n ≡ length ws → (o : Option (List Declaration)) → finish s ≡ o → o ≡ None
    no_end n s h none at_last None e = refl
    no_end n s h none at_last (Some ds) e = absurd (none h.marks ds (h.begins.are ∙ ap (λ (k : ℕ). take k ws) at_last ∙ take-length ws) (declarations_sound text h.marks s ds h.reads e))

    syntax_answer : (n : ℕ) → IsSyntax text ws n → answer text 0 start ws ≡ Parsed.Syntax n
    syntax_answer n k =
        let r = begins_runs text ws k.marks k.goes_on in
        let h : HasRead text ws n r.0 = record { marks = k.marks; begins = k.begins; reads = r.1 } in
        refuses n r.0 h k.stops (λ e. no_end n r.0 h k.none e (finish r.0) refl)
        ∙ ap (λ (b : Bool). if b then Parsed.TooDeep n else Parsed.Syntax n)
        (deep_false (nests r.0.phase) (λ deep. let d = deep_ends r.0.phase deep in k.shallow (ends_past text ws r.0 d.0 k.marks r.1 d.1 deep)))

    nested_answer : (n : ℕ) → IsTooNested text ws n → answer text 0 start ws ≡ Parsed.TooDeep n
    nested_answer n k =
        let p = begins_runs text ws (k.marks ++ k.ends.last ∷ []) k.ends.goes_on in
        let q = splits text start p.0 k.marks (k.ends.last ∷ []) p.1 in
        let h : HasRead text ws n q.through = record { marks = k.marks; begins = k.begins; reads = q.front_reads } in
        let deep : NESTINGS < nests q.through.phase = is_deep (nests q.through.phase) (λ least. shallow text ws n q.through h least k.ends) in
        refuses n q.through h k.stops (λ e. deep_unended q.through deep) ∙ ap (λ (b : Bool). if b then Parsed.TooDeep n else Parsed.Syntax n) (deep_true (nests q.through.phase) deep)

    past_word : (n : ℕ) (u v : State) (m : Mark) (vs : List Word) → Reads text u (m ∷ []) v [] → (IsWithin m.loads → ⊥) → answer text n u (m.word ∷ vs) ≡ Parsed.TooDeep n
    past_word n u v m vs (Reads.more m' x e l r) past =
        ap (chosen n u.phase (λ y. answer text (n + 1) (after u y) vs)) e
        ∙ ap (λ (b : Bool). if b then Parsed.TooDeep n else answer text (n + 1) (after u x) vs) (past_not_within x.loads (λ w. past (subst IsWithin l w)))

    past_answer : (n : ℕ) → GoesPast text ws n → answer text 0 start ws ≡ Parsed.TooDeep n
    past_answer n k =
        let p = begins_runs text ws (k.marks ++ k.last ∷ []) k.goes_on in
        let q = splits text start p.0 k.marks (k.last ∷ []) p.1 in
        let vs : List Word = drop (n + 1) ws in
        let parts : ws ≡ words_in k.marks ++ k.last.word ∷ vs =
        sym (take-append-drop (n + 1) ws)
        ∙ ap (λ (us : List Word). us ++ vs) (sym k.are ∙ map-append (λ (o : Mark). o.word) k.marks (k.last ∷ []))
        ∙ append_assoc (words_in k.marks) (k.last.word ∷ []) vs
        in
        answer_from n q.through k.marks (k.last.word ∷ vs) parts (marks_count n k.marks k.begins) q.front_reads k.begins.allowed
        ∙ past_word n q.through p.0 k.last vs q.back_reads k.past

    whole_answer : (ds : List Declaration) → IsWhole text ws ds → answer text 0 start ws ≡ Parsed.Whole ds
    whole_answer ds k =
        answer_from (length ws) (at ds Phase.Begin) k.marks [] (sym (append-nil (words_in k.marks) ∙ k.begins.are ∙ take-length ws)) (marks_count (length ws) k.marks k.begins) (declarations_read text [] k.spelled) k.begins.allowed

    is_answer : (r : Parsed) → IsAnswer text ws r → answer text 0 start ws ≡ r
    is_answer (Parsed.Whole ds) h = whole_answer ds h
    is_answer (Parsed.Syntax n) h = syntax_answer n h
    is_answer (Parsed.TooDeep n) (inl h) = past_answer n h
    is_answer (Parsed.TooDeep n) (inr h) = nested_answer n h

pub one_parse : OneParse
one_parse text ws r s h k = sym (is_answer text ws r h) ∙ is_answer text ws s k
