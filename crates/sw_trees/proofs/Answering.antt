-- What the machine's state says of the words that it has read.
use Rattle.std.proofs.Common.{◌≡◌, inr, ℕ, ◌+◌, ◌<◌, List, [], ◌∷◌, ◌++◌, length, take, get_or, Option, Some, None, refl, sym, ap, subst, arith, ◌∙◌}
use Rattle.std.specs.Prelude.{option_and_then, Result, Ok, Err, IfOk}
use Rattle.std.specs.List.{AllByRecursion}
use Rattle.std.proofs.lemmas.List.{take_more, map-append, append-nil}
use Rattle.sw_trees.specs.declared.words.Word.{Word}
use Rattle.sw_trees.specs.declared.tree.Tree.{Tree}
use Rattle.sw_trees.specs.declared.machine.State.{State}
use Rattle.sw_trees.specs.declared.reader.Around.{Around}
use Rattle.sw_trees.specs.declared.reader.Read.{Read}
use Rattle.sw_trees.specs.Grammar.{Mark, Context}
use Rattle.sw_trees.specs.Machine.{start, step, finish, loads_in}
use Rattle.sw_trees.specs.Limits.{IsWithin}
use Rattle.sw_trees.specs.Answers.{base_of, words_in, Spelled, CanBegin, Begins, StopsAt, IsLongest, IsSyntax, GoesPast, IsTooNested, IsAnswer, EndsAs}
use Rattle.sw_trees.proofs.Reading.{Reads, reads_on}
use Rattle.sw_trees.proofs.Complete.{formula_complete}
use Rattle.sw_trees.proofs.Sound.{formula_sound}
use Rattle.sw_trees.proofs.Viable.{IsProper, start_proper, step_proper, completes}

abbrev pub run : State → List Word → Option State
run s [] = Some s
run s (w ∷ ws) = option_and_then (λ t. run t ws) (step s w)

and_then_run : (ws vs : List Word) → ((t : State) → run t (ws ++ vs) ≡ option_and_then (λ u. run u vs) (run t ws)) → (o : Option State) →
    option_and_then (λ t. run t (ws ++ vs)) o ≡ option_and_then (λ t. run t vs) (option_and_then (λ t. run t ws) o)
and_then_run ws vs h None = refl
and_then_run ws vs h (Some t) = h t

pub run_append : (s : State) (ws vs : List Word) → run s (ws ++ vs) ≡ option_and_then (λ t. run t vs) (run s ws)
run_append s [] vs = refl
run_append s (w ∷ ws) vs = and_then_run ws vs (λ t. run_append t ws vs) (step s w)

-- a state on the way
pub record Passes (base : Context) (s : State) (front : List Mark) (t : State) (more : List Mark) : Type 0 where
  pub through : State
  pub runs : run s (words_in front) ≡ Some through
  pub reads : Reads base through more t []

passes : (base : Context) (s t : State) (front more : List Mark) → Reads base s (front ++ more) t [] → Passes base s front t more
passes base s t [] more r = record { through = s; runs = refl; reads = r }
passes base s t (m ∷ front) more (Reads.more {t = u} m' e l r) =
    let p = passes base u t front more r in
    record { through = p.through; runs = ap (option_and_then (λ (v : State). run v (words_in front))) e ∙ p.runs; reads = p.reads }

-- more marks may follow
reads_extend : {base : Context} {s t : State} {ms rest : List Mark} (more : List Mark) → Reads base s ms t rest → Reads base s (ms ++ more) t (rest ++ more)
reads_extend more Reads.here = Reads.here
reads_extend more (Reads.more m e l r) = Reads.more m e l (reads_extend more r)

reads_proper : {base : Context} {s t : State} {ms rest : List Mark} → Reads base s ms t rest → IsProper s → IsProper t
reads_proper Reads.here h = h
reads_proper {s = s} (Reads.more {t = t} m e l r) h = reads_proper r (step_proper s t m.word e h)

-- what a spelled list of marks does to the machine
spelled_runs : (base : Context) (front more : List Mark) (x : Tree) → Spelled base (front ++ more) x → (u : State) × (run start (words_in front) ≡ Some u)
spelled_runs base front more x h =
    let c = formula_complete base h.0 h.1.0 (front ++ more) x [] h.1.1 in
    let p = passes base start c.to front more c.reads in
    (p.through, p.runs)

reads_none : {base : Context} {u v : State} → Reads base u [] v [] → u ≡ v
reads_none Reads.here = refl

-- the first n words were read, and go past no limit
pub record HasRead (base : Context) (ws : List Word) (n : ℕ) (s : State) : Type 0 where
  pub marks : List Mark
  pub begins : Begins ws n marks
  pub reads : Reads base start marks s []

all_snoc : {X : Type 0} (P : X → Type 0) (xs : List X) (x : X) → AllByRecursion P xs → P x → AllByRecursion P (xs ++ x ∷ [])
all_snoc P [] x h k = (k, tt)
all_snoc P (y ∷ ys) x h k = (h.0, all_snoc P ys x h.1 k)

module _ (base : Context) (ws : List Word) where
  pub none_read : HasRead base ws 0 start
  none_read = record { marks = []; begins = record { within = omega arith; are = refl; allowed = tt }; reads = Reads.here }

  pub words_more : (n : ℕ) (d w : Word) (ms : List Mark) (m : Mark) → n < length ws → w ≡ get_or ws n d → m.word ≡ w → words_in ms ≡ take n ws → words_in (ms ++ m ∷ []) ≡ take (n + 1) ws
  words_more n d w ms m h e k are =
      map-append (λ (o : Mark). o.word) ms (m ∷ [])
      ∙ ap (λ (vs : List Word). vs ++ m.word ∷ []) are
      ∙ ap (λ (v : Word). take n ws ++ v ∷ []) (k ∙ e)
      ∙ sym (take_more ws n d h)

  pub reads_more : (n : ℕ) (w : Word) (s t : State) (h : HasRead base ws n s) → step s w ≡ Some t → Reads base start (h.marks ++ record { word = w; loads = loads_in base t w } ∷ []) t []
  reads_more n w s t h e = reads_on base (reads_extend (record { word = w; loads = loads_in base t w } ∷ []) h.reads) (Reads.more (record { word = w; loads = loads_in base t w }) e refl Reads.here)

  pub one_read : (n : ℕ) (d w : Word) (s t : State) → n < length ws → w ≡ get_or ws n d → HasRead base ws n s → step s w ≡ Some t → IsWithin (loads_in base t w) → HasRead base ws (n + 1) t
  one_read n d w s t h e r k l = record {
    marks = r.marks ++ record { word = w; loads = loads_in base t w } ∷ [];
    begins = record {
      within = omega arith;
      are = words_more n d w r.marks (record { word = w; loads = loads_in base t w }) h e refl r.begins.are;
      allowed = all_snoc (λ (m : Mark). IsWithin m.loads) r.marks _ r.begins.allowed l;
    };
    reads = reads_more n w s t r k;
  }

  pub goes_on : (ms : List Mark) (s : State) → Reads base start ms s [] → CanBegin base ms
  goes_on ms s r =
      let c = completes base s (reads_proper r start_proper) in
      (c.marks, (c.tree_is, formula_sound base (ms ++ c.marks) c.to c.tree_is (reads_on base (reads_extend c.marks r) c.reads) c.ends))

  pub past_limit : (n : ℕ) (d w : Word) (s t : State) → n < length ws → w ≡ get_or ws n d → HasRead base ws n s → step s w ≡ Some t → (IsWithin (loads_in base t w) → ⊥) → GoesPast base ws n
  past_limit n d w s t h e r k l =
      let m : Mark = record { word = w; loads = loads_in base t w } in
      record {
        marks = r.marks;
        last = m;
        begins = r.begins;
        inside = h;
        are = words_more n d w r.marks m h e refl r.begins.are;
        goes_on = goes_on (r.marks ++ m ∷ []) t (reads_more n w s t r k);
        past = l;
      }

  pub read_runs : (n : ℕ) (s : State) (h : HasRead base ws n s) → run start (take n ws) ≡ Some s
  read_runs n s h =
      let p = passes base start s h.marks [] (subst (λ (ms : List Mark). Reads base start ms s []) (sym (append-nil h.marks)) h.reads) in
      ap (run start) (sym h.begins.are) ∙ p.runs ∙ ap Some (reads_none p.reads)

  -- no formula goes on with a word that the machine does not take
  pub stopped : (n : ℕ) (s : State) → HasRead base ws n s → (n < length ws → (d : Word) × (step s (get_or ws n d) ≡ None)) → StopsAt base ws n
  stopped n s h none inside ms are begins =
      let at = none inside in
      let u = spelled_runs base ms begins.0 begins.1.0 begins.1.1 in
      let e : run start (take (n + 1) ws) ≡ None =
      ap (run start) (take_more ws n at.0 inside)
      ∙ run_append start (take n ws) (get_or ws n at.0 ∷ [])
      ∙ ap (option_and_then (λ (t : State). run t (get_or ws n at.0 ∷ []))) (read_runs n s h)
      ∙ ap (option_and_then (λ (t : State). Some t)) at.1
      in
      let f : run start (take (n + 1) ws) ≡ Some u.0 = ap (run start) (sym are) ∙ u.1 in
      cc

  -- what the machine ends in is what the words spell
  pub spelled_ends : (n : ℕ) (s : State) → HasRead base ws n s → (ms : List Mark) (x : Tree) → words_in ms ≡ take n ws → Spelled base ms x → finish s ≡ Some x
  spelled_ends n s h ms x are spelled =
      let c = formula_complete base spelled.0 spelled.1.0 ms x [] spelled.1.1 in
      let p = passes base start c.to ms [] (subst (λ (ns : List Mark). Reads base start ns c.to []) (sym (append-nil ms)) c.reads) in
      let same : Some s ≡ Some c.to = sym (read_runs n s h) ∙ ap (run start) (sym are) ∙ p.runs ∙ ap Some (reads_none p.reads) in
      let t : s ≡ c.to = cc in
      ap finish t ∙ c.ends

  pub longest : (n : ℕ) (s : State) (x : Tree) → HasRead base ws n s → StopsAt base ws n → finish s ≡ Some x → IsLongest base ws n x
  longest n s x h stops e = record { marks = h.marks; begins = h.begins; spelled = formula_sound base h.marks s x h.reads e; stops = stops }

  pub is_syntax : (n : ℕ) (s : State) → HasRead base ws n s → StopsAt base ws n → finish s ≡ None → IsSyntax base ws n
  is_syntax n s h stops e = record {
    marks = h.marks;
    begins = h.begins;
    goes_on = goes_on h.marks s h.reads;
    stops = stops;
    none = λ ms x are spelled. let f = spelled_ends n s h ms x are spelled in let bad : None ≡ Some x = sym e ∙ f in cc;
  }

-- the answer where no formula goes on
pub answered : (a : Around) (ws : List Word) (n count : ℕ) (s : State) (r : Read) → count ≡ n → HasRead (base_of a) ws n s → StopsAt (base_of a) ws n → (whole : Option Tree) → whole ≡ finish s → EndsAs a count whole r → IsAnswer (base_of a) ws r
answered a ws n count s (Read.Formula x k) c h stops whole e k_is =
    let at : n ≡ k = sym c ∙ sym k_is.0 in
    (subst (λ (j : ℕ). IsLongest (base_of a) ws j x) at (longest (base_of a) ws n s x h stops (sym e ∙ k_is.1)), k_is.2)
answered a ws n count s (Read.Syntax k) c h stops whole e k_is =
    let at : n ≡ k = sym c ∙ sym k_is.0 in
    subst (λ (j : ℕ). IsSyntax (base_of a) ws j) at (is_syntax (base_of a) ws n s h stops (sym e ∙ k_is.1))
answered a ws n count s (Read.TooDeep k) c h stops whole e k_is =
    let at : n ≡ k = sym c ∙ sym k_is.0 in
    inr (subst (λ (j : ℕ). IsTooNested (base_of a) ws j) at (record { tree_is = k_is.1.0; longest = longest (base_of a) ws n s k_is.1.0 h stops (sym e ∙ k_is.1.1); past = k_is.1.2 }))

pub if_ok : {X E : Type 0} (P Q : X → Type 0) (r : Result X E) → IfOk r P → ((x : X) → P x → Q x) → IfOk r Q
if_ok P Q (Ok x) h f = f x h
if_ok P Q (Err e) h f = tt
