-- What the machine's state says of the words that it has read.
use Rattle.std.proofs.Common.{◌≡◌, ◌⊎◌, inl, inr, ℕ, ◌+◌, ◌<◌, ◌≤◌, List, [], ◌∷◌, ◌++◌, length, take, drop, get_or, Option, Some, None, refl, sym, ap, subst, arith, ◌∙◌}
use Rattle.std.specs.Prelude.{option_and_then, option_map}
use Rattle.std.specs.List.{AllByRecursion}
use Rattle.std.proofs.lemmas.List.{take_more, map-append, take-map, take-append-drop}
use Rattle.std.proofs.Math.Seq.{take-length}
use Rattle.sw_trees.specs.declared.words.Sign.{Sign}
use Rattle.sw_trees.specs.declared.words.Word.{Word}
use Rattle.sw_trees.specs.declared.tree.Tree.{Tree}
use Rattle.sw_trees.specs.declared.limits.TheConstants.{NESTINGS}
use Rattle.sw_trees.specs.Grammar.{Mark, opening}
use Rattle.sw_trees.specs.Limits.{IsWithin}
use Rattle.sw_trees.specs.Machine as machine
use Rattle.sw_trees.specs.Answers.{words_in, Begins}
use Rattle.sw_trees.proofs.Viable.{made}
use Rattle.sw_protocol.specs.declared.tree.Declaration.{Declaration}
use Rattle.sw_protocol.specs.declared.phases.Phase.{Phase}
use Rattle.sw_protocol.specs.declared.parsing.Parsed.{Parsed}
use Rattle.sw_protocol.specs.Grammar.{AreDeclarations}
use Rattle.sw_protocol.specs.Machine.{owned, ended, nests, alone_of, closed, Next, next, next_by, State, after, start, finish}
use Rattle.sw_protocol.specs.Steps.{Finishes}
use Rattle.sw_protocol.specs.Answers.{CanBegin, StopsAt, EndsPast, IsSyntax, GoesPast, IsTooNested, IsAnswer}
use Rattle.sw_protocol.proofs.Reading.{at, Reads, reads_on}
use Rattle.sw_protocol.proofs.Complete.{declarations_read}
use Rattle.sw_protocol.proofs.Sound.{declarations_sound, all_held}
use Rattle.sw_protocol.proofs.Viable.{reads_extend, phase_completes}

abbrev pub run : List ℕ → State → List Word → Option State
run text s [] = Some s
run text s (w ∷ ws) = option_and_then (λ n. run text (after s n) ws) (next text s.phase w)

-- the machine has read the front, and goes on with the rest
pub record Splits (text : List ℕ) (s : State) (front : List Mark) (t : State) (back : List Mark) : Type 0 where
  pub through : State
  pub front_reads : Reads text s front through []
  pub back_reads : Reads text through back t []

pub splits : (text : List ℕ) (s t : State) (front back : List Mark) → Reads text s (front ++ back) t [] → Splits text s front t back
splits text s t [] back r = record { through = s; front_reads = Reads.here; back_reads = r }
splits text s t (m ∷ front) back (Reads.more m' n e l r) =
    let p = splits text (after s n) t front back r in
    record { through = p.through; front_reads = Reads.more m' n e l p.front_reads; back_reads = p.back_reads }

-- the words alone say where the machine goes
pub reads_run : (text : List ℕ) (s t : State) (ms : List Mark) → Reads text s ms t [] → run text s (words_in ms) ≡ Some t
reads_run text s t [] r = none_run text s t r
  where
    none_run : (text : List ℕ) (s t : State) → Reads text s [] t [] → Some s ≡ Some t
    none_run text s t Reads.here = refl
reads_run text s t (m ∷ ms) (Reads.more m' n e l r) = ap (option_and_then (λ (x : Next). run text (after s x) (words_in ms))) e ∙ reads_run text (after s n) t ms r

and_then_run : (text : List ℕ) (s : State) (ws vs : List Word) → ((n : Next) → run text (after s n) (ws ++ vs) ≡ option_and_then (λ u. run text u vs) (run text (after s n) ws)) → (o : Option Next) →
    option_and_then (λ n. run text (after s n) (ws ++ vs)) o ≡ option_and_then (λ t. run text t vs) (option_and_then (λ n. run text (after s n) ws) o)
and_then_run text s ws vs h None = refl
and_then_run text s ws vs h (Some n) = h n

pub run_append : (text : List ℕ) (s : State) (ws vs : List Word) → run text s (ws ++ vs) ≡ option_and_then (λ t. run text t vs) (run text s ws)
run_append text s [] vs = refl
run_append text s (w ∷ ws) vs = and_then_run text s ws vs (λ n. run_append text (after s n) ws vs) (next text s.phase w)

-- the first n words were read, and go past no limit
pub record HasRead (text : List ℕ) (ws : List Word) (n : ℕ) (s : State) : Type 0 where
  pub marks : List Mark
  pub begins : Begins ws n marks
  pub reads : Reads text start marks s []

all_snoc : {X : Type 0} (P : X → Type 0) (xs : List X) (x : X) → AllByRecursion P xs → P x → AllByRecursion P (xs ++ x ∷ [])
all_snoc P [] x h k = (k, tt)
all_snoc P (y ∷ ys) x h k = (h.0, all_snoc P ys x h.1 k)

-- what a semicolon loads
pub semicolon_loads : (text : List ℕ) (p : Phase) (w : Word) (n : Next) → w.sign ≡ Sign.Semicolon → next text p w ≡ Some n → n.loads ≡ opening (nests p)
semicolon_loads text p w n s e = from (ended p) (sym (ap (next_by text p w) s) ∙ e)
  where
    from : (o : Option Declaration) → option_map (closed (nests p)) o ≡ Some n → n.loads ≡ opening (nests p)
    from None f = cc
    from (Some d) f = let same : closed (nests p) d ≡ n = cc in sym (ap (λ (x : Next). x.loads) same)

-- a formula that may end is what counts nestings
pub deep_ends : (p : Phase) → NESTINGS < nests p → (d : Declaration) × (ended p ≡ Some d)
deep_ends (Phase.Formula o s) h = from (machine.finish s) h
  where
    from : (f : Option Tree) → NESTINGS < alone_of f → (d : Declaration) × (option_map (owned o) f ≡ Some d)
    from None k = absurd (omega (arith, k))
    from (Some x) k = (owned o x, refl)
deep_ends _ h = absurd (omega (arith, h))

module _ (text : List ℕ) (ws : List Word) where
  pub none_read : HasRead text ws 0 start
  none_read = record { marks = []; begins = record { within = omega arith; are = refl; allowed = tt }; reads = Reads.here }

  pub words_more : (n : ℕ) (d w : Word) (ms : List Mark) (m : Mark) → n < length ws → w ≡ get_or ws n d → m.word ≡ w → words_in ms ≡ take n ws → words_in (ms ++ m ∷ []) ≡ take (n + 1) ws
  words_more n d w ms m h e k are =
      map-append (λ (o : Mark). o.word) ms (m ∷ [])
      ∙ ap (λ (vs : List Word). vs ++ m.word ∷ []) are
      ∙ ap (λ (v : Word). take n ws ++ v ∷ []) (k ∙ e)
      ∙ sym (take_more ws n d h)

  pub reads_more : (w : Word) (s : State) (x : Next) (ms : List Mark) → Reads text start ms s [] → next text s.phase w ≡ Some x → Reads text start (ms ++ record { word = w; loads = x.loads } ∷ []) (after s x) []
  reads_more w s x ms r e = reads_on text (reads_extend (record { word = w; loads = x.loads } ∷ []) r) (Reads.more (record { word = w; loads = x.loads }) x e refl Reads.here)

  pub one_read : (n : ℕ) (d w : Word) (s : State) (x : Next) → n < length ws → w ≡ get_or ws n d → HasRead text ws n s → next text s.phase w ≡ Some x → IsWithin x.loads → HasRead text ws (n + 1) (after s x)
  one_read n d w s x h e r k l = record {
    marks = r.marks ++ record { word = w; loads = x.loads } ∷ [];
    begins = record {
      within = omega arith;
      are = words_more n d w r.marks (record { word = w; loads = x.loads }) h e refl r.begins.are;
      allowed = all_snoc (λ (m : Mark). IsWithin m.loads) r.marks _ r.begins.allowed l;
    };
    reads = reads_more w s x r.marks r.reads k;
  }

  pub goes_on : (ms : List Mark) (s : State) → Reads text start ms s [] → CanBegin text ms
  goes_on ms s r =
      let h = all_held text ms s r in
      let c = phase_completes text s.done s.phase h.from [] h.so_far in
      (c.marks, (c.whole, declarations_sound text (ms ++ c.marks) (at c.whole Phase.Begin) c.whole (reads_on text (reads_extend c.marks r) c.reads) refl))

  pub past_limit : (n : ℕ) (d w : Word) (s : State) (x : Next) → n < length ws → w ≡ get_or ws n d → HasRead text ws n s → next text s.phase w ≡ Some x → (IsWithin x.loads → ⊥) → GoesPast text ws n
  past_limit n d w s x h e r k l =
      let m : Mark = record { word = w; loads = x.loads } in
      record {
        marks = r.marks;
        last = m;
        begins = r.begins;
        inside = h;
        are = words_more n d w r.marks m h e refl r.begins.are;
        goes_on = goes_on (r.marks ++ m ∷ []) (after s x) (reads_more w s x r.marks r.reads k);
        past = l;
      }

  pub read_runs : (n : ℕ) (s : State) (h : HasRead text ws n s) → run text start (take n ws) ≡ Some s
  read_runs n s h = ap (run text start) (sym h.begins.are) ∙ reads_run text start s h.marks h.reads

  -- what a beginning of a protocol does to the machine
  pub begins_runs : (ms : List Mark) → CanBegin text ms → (u : State) × Reads text start ms u []
  begins_runs ms c =
      let p = splits text start (at c.1.0 Phase.Begin) ms c.0 (declarations_read text [] c.1.1) in
      (p.through, p.front_reads)

  -- no protocol goes on with a word that the machine does not take
  pub stopped : (n : ℕ) (s : State) → HasRead text ws n s → (n < length ws → (d : Word) × (next text s.phase (get_or ws n d) ≡ None)) → StopsAt text ws n
  stopped n s h none inside ms are begins =
      let at_word = none inside in
      let u = begins_runs ms begins in
      let e : run text start (take (n + 1) ws) ≡ None =
      ap (run text start) (take_more ws n at_word.0 inside)
      ∙ run_append text start (take n ws) (get_or ws n at_word.0 ∷ [])
      ∙ ap (option_and_then (λ (t : State). run text t (get_or ws n at_word.0 ∷ []))) (read_runs n s h)
      ∙ ap (option_and_then (λ (x : Next). Some (after s x))) at_word.1
      in
      let f : run text start (take (n + 1) ws) ≡ Some u.0 = ap (run text start) (sym are) ∙ reads_run text start u.0 ms u.1 in
      cc

  -- where no protocol goes on before the end, the words spell nothing
  pub none_inside : (n : ℕ) → n < length ws → StopsAt text ws n → (ms : List Mark) (ds : List Declaration) → words_in ms ≡ ws → AreDeclarations text ms ds → ⊥
  none_inside n inside stops ms ds are h =
      stops inside (take (n + 1) ms)
      (sym (take-map (λ (m : Mark). m.word) (n + 1) ms) ∙ ap (take (n + 1)) are)
      (drop (n + 1) ms, (ds, subst (λ (ns : List Mark). AreDeclarations text ns ds) (sym (take-append-drop (n + 1) ms)) h))

  -- what the machine ends in is what the words spell
  pub spelled_ends : (s : State) → HasRead text ws (length ws) s → (ms : List Mark) (ds : List Declaration) → words_in ms ≡ ws → AreDeclarations text ms ds → finish s ≡ Some ds
  spelled_ends s h ms ds are spelled =
      let same : Some s ≡ Some (at ds Phase.Begin) =
      sym (read_runs (length ws) s h) ∙ ap (run text start) (take-length ws ∙ sym are) ∙ reads_run text start (at ds Phase.Begin) ms (declarations_read text [] spelled)
      in
      let t : s ≡ at ds Phase.Begin = cc in
      ap finish t

  -- no formula that ends here is too deep
  pub shallow : (n : ℕ) (s : State) (h : HasRead text ws n s) → nests s.phase ≤ NESTINGS → EndsPast text h.marks → ⊥
  shallow n s h least k =
      let u = begins_runs (h.marks ++ k.last ∷ []) k.goes_on in
      let p = splits text start u.0 h.marks (k.last ∷ []) u.1 in
      let same : Some s ≡ Some p.through = sym (reads_run text start s h.marks h.reads) ∙ reads_run text start p.through h.marks p.front_reads in
      let t : s ≡ p.through = cc in
      past p.through (sym (ap (λ (v : State). nests v.phase) t)) p.back_reads
    where
      past : {v : State} (u : State) → nests u.phase ≡ nests s.phase → Reads text u (k.last ∷ []) v [] → ⊥
      past u same (Reads.more m x e l r) =
          let loads = semicolon_loads text u.phase k.last.word x k.ends e in
          k.past (subst IsWithin (sym loads ∙ l) (record { nestings = omega (arith, same, least); path = omega arith; variables = omega arith }))

  -- a semicolon would go past the nestings
  pub ends_past : (s : State) (d : Declaration) (ms : List Mark) → Reads text start ms s [] → ended s.phase ≡ Some d → NESTINGS < nests s.phase → EndsPast text ms
  ends_past s d ms r e deep =
      let x : Next = closed (nests s.phase) d in
      let m : Mark = record { word = made Sign.Semicolon; loads = x.loads } in
      record {
        last = m;
        ends = refl;
        goes_on = goes_on (ms ++ m ∷ []) (after s x) (reads_more (made Sign.Semicolon) s x ms r (ap (option_map (closed (nests s.phase))) e));
        past = λ w. let least = w.nestings in omega (arith, least, deep);
      }

  pub too_nested : (n : ℕ) (s : State) (d : Declaration) → HasRead text ws n s → StopsAt text ws n → ended s.phase ≡ Some d → NESTINGS < nests s.phase → IsTooNested text ws n
  too_nested n s d h stops e deep = record { marks = h.marks; begins = h.begins; stops = stops; ends = ends_past s d h.marks h.reads e deep }

  pub is_syntax : (n : ℕ) (s : State) → HasRead text ws n s → StopsAt text ws n → nests s.phase ≤ NESTINGS → ((ms : List Mark) (ds : List Declaration) → words_in ms ≡ ws → AreDeclarations text ms ds → ⊥) → IsSyntax text ws n
  is_syntax n s h stops least none = record { marks = h.marks; begins = h.begins; goes_on = goes_on h.marks s h.reads; stops = stops; none = none; shallow = shallow n s h least }

  -- the answers at a word that is not taken
  pub refused : (n : ℕ) (d : Word) (s : State) → n < length ws → HasRead text ws n s → next text s.phase (get_or ws n d) ≡ None → nests s.phase ≤ NESTINGS → IsAnswer text ws (Parsed.Syntax n)
  refused n d s inside h none least =
      let stops = stopped n s h (λ i. (d, none)) in
      is_syntax n s h stops least (none_inside n inside stops)

  pub refused_deep : (n : ℕ) (d : Word) (s : State) → HasRead text ws n s → next text s.phase (get_or ws n d) ≡ None → NESTINGS < nests s.phase → IsAnswer text ws (Parsed.TooDeep n)
  refused_deep n d s h none deep =
      let e = deep_ends s.phase deep in
      inr (too_nested n s e.0 h (stopped n s h (λ i. (d, none))) e.1 deep)

  pub answers_past : (n : ℕ) (d w : Word) (s : State) → n < length ws → w ≡ get_or ws n d → HasRead text ws n s → ((x : Next) × (next text s.phase w ≡ Some x) × (IsWithin x.loads → ⊥)) ⊎ ((next text s.phase w ≡ None) × (NESTINGS < nests s.phase)) → IsAnswer text ws (Parsed.TooDeep n)
  answers_past n d w s inside e h (inl k) = inl (past_limit n d w s k.0 inside e h k.1 k.2)
  answers_past n d w s inside e h (inr k) = refused_deep n d s h (ap (next text s.phase) (sym e) ∙ k.0) k.1

  -- the answer where the words end
  pub answered : (ds : List Declaration) (p : Phase) (n : ℕ) (r : Parsed) → n ≡ length ws → HasRead text ws n (at ds p) → Finishes ds p (length ws) r → IsAnswer text ws r
  answered ds p n (Parsed.Whole es) c h e =
      record {
        marks = h.marks;
        begins = subst (λ (k : ℕ). Begins ws k h.marks) c h.begins;
        spelled = declarations_sound text h.marks (at ds p) es h.reads e;
      }
  answered ds p n (Parsed.Syntax k) c h e =
      let stops = stopped n (at ds p) h (λ i. absurd (omega (arith, i, c))) in
      let all = subst (λ (j : ℕ). HasRead text ws j (at ds p)) c h in
      subst (λ (j : ℕ). IsSyntax text ws j) (c ∙ sym e.0)
      (is_syntax n (at ds p) h stops e.2 (λ ms es are spelled. let f = spelled_ends (at ds p) all ms es are spelled in let bad : None ≡ Some es = sym e.1 ∙ f in cc))
  answered ds p n (Parsed.TooDeep k) c h e =
      let stops = stopped n (at ds p) h (λ i. absurd (omega (arith, i, c))) in
      inr (subst (λ (j : ℕ). IsTooNested text ws j) (c ∙ sym e.0) (too_nested n (at ds p) e.1.0 h stops e.1.1 e.2))
