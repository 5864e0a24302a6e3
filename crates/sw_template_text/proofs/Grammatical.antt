-- The reader of templates keeps to the grammar.
use Rattle.std.specs.Prelude.{◌≡◌, ℕ, zero, suc, ◌+◌, ◌<◌, ◌≤◌, nat_lt, nat_le, ◌==◌, ◌||◌, Bool, true, false, cond, Option, Some, None, List, [], ◌∷◌, ◌++◌, length, take}
use Rattle.std.specs.List.{AllByRecursion, flat_map}
use Rattle.std.proofs.Common.{refl, arith, subst, sym, ap, ◌∙◌, append_assoc, append-nil, get_or}
use Rattle.std.proofs.lemmas.Bool.{false≢true}
use Rattle.std.proofs.lemmas.Option.{none-some}
use Rattle.std.proofs.lemmas.List.{take_more}
use Rattle.std.proofs.Math.Seq.{take-length}
use Rattle.sw_lists.proofs.Each.{each-append}
use Rattle.sw_template_text.specs.declared.words.Word.{Word}
use Rattle.sw_template_text.specs.declared.words.Word.TheVariants as w
use Rattle.sw_template_text.specs.declared.words.NamedRun.{NamedRun}
use Rattle.sw_template_text.specs.declared.words.Numbers.{Numbers}
use Rattle.sw_template_text.specs.declared.parse.State.{State}
use Rattle.sw_template_text.specs.declared.parse.Next.{Next}
use Rattle.sw_template_text.specs.Grammar.{run_words, DepthWords, TermsWords, Spells, CanBegin, IsFault}
use Rattle.sw_template_text.specs.Machine.{step, ended}

abbrev quantifier : Bool → Word
quantifier u = cond u w.ForAll w.Exists

-- the words of the part that is being read
abbrev pub Holds : List Word → State → Type 0
Holds p State.Run = p ≡ []
Holds p (State.Count u) = p ≡ quantifier u ∷ []
Holds p (State.Sort u n) = (p ≡ quantifier u ∷ w.Number n ∷ []) × (0 < n)
Holds p State.Literals = p ≡ w.Literals ∷ []
Holds p (State.AfterLiterals n) = (p ≡ w.Literals ∷ w.Number n ∷ []) × (0 < n)
Holds p (State.Depth n) = (p ≡ w.Literals ∷ w.Number n ∷ w.Depth ∷ []) × (0 < n)
Holds p (State.AfterDepth n d) = (p ≡ w.Literals ∷ w.Number n ∷ w.Depth ∷ w.Number d ∷ []) × ((0 < n) × ((1 ≤ d) × (d ≤ 2)))
Holds p (State.Terms n d) = (ws : List Word) × (DepthWords d ws × ((0 < n) × (p ≡ w.Literals ∷ w.Number n ∷ (ws ++ w.Terms ∷ []))))
Holds p (State.Done n d t) = (ws : List Word) × (DepthWords d ws × ((0 < n) × ((t ≤ 3) × (p ≡ w.Literals ∷ w.Number n ∷ (ws ++ w.Terms ∷ w.Number t ∷ [])))))

-- the words are those of these runs and then of a part
pub record Reads (front : List Word) (runs : List NamedRun) (s : State) : Type 0 where
  pub part : List Word
  pub holds : Holds part s
  pub counts : AllByRecursion (λ run. 0 < run.count) runs
  pub are : front ≡ flat_map run_words runs ++ part

lt_true : (a b : ℕ) → nat_lt a b ≡ true → a < b
lt_true a b e = grind arith

true_lt : (a b : ℕ) → a < b → nat_lt a b ≡ true
true_lt a b h = grind arith

le_true : (a b : ℕ) → nat_le a b ≡ true → a ≤ b
le_true a b e = grind arith

true_le : (a b : ℕ) → a ≤ b → nat_le a b ≡ true
true_le a b h = grind arith

one_or_two : (d : ℕ) → (d == 1 || d == 2) ≡ true → (1 ≤ d) × (d ≤ 2)
one_or_two zero e = absurd (false≢true e)
one_or_two (suc zero) e = (omega arith, omega arith)
one_or_two (suc (suc zero)) e = (omega arith, omega arith)
one_or_two (suc (suc (suc n))) e = absurd (three n e)
  where
    three : (n : ℕ) → (suc (suc (suc n)) == 1 || suc (suc (suc n)) == 2) ≡ true → ⊥
    three n e = grind arith

two_or_one : (d : ℕ) → 1 ≤ d → d ≤ 2 → (d == 1 || d == 2) ≡ true
two_or_one zero h k = absurd (omega (arith, h))
two_or_one (suc zero) h k = refl
two_or_one (suc (suc zero)) h k = refl
two_or_one (suc (suc (suc n))) h k = absurd (omega (arith, k))

flat_append : {X Y : Type 0} (f : X → List Y) (xs ys : List X) → flat_map f (xs ++ ys) ≡ flat_map f xs ++ flat_map f ys
flat_append f [] ys = refl
flat_append f (x ∷ xs) ys = ap (λ zs. f x ++ zs) (flat_append f xs ys) ∙ sym (append_assoc (f x) (flat_map f xs) (flat_map f ys))

-- one more word of a part
grown : (F front part q : List Word) (x : Word) → front ≡ F ++ part → part ≡ q → front ++ x ∷ [] ≡ F ++ (q ++ x ∷ [])
grown F front part q x e p = ap (λ f. f ++ x ∷ []) (e ∙ ap (λ q. F ++ q) p) ∙ append_assoc F q (x ∷ [])

-- what stands after a word
abbrev pub Kept : List Word → List NamedRun → Next → Type 0
Kept front runs (Next.State s) = Reads front runs s
Kept front runs (Next.Run run) = Reads front (runs ++ run ∷ []) State.Run
Kept front runs Next.Stop = Unit {0}

tested : (front : List Word) (runs : List NamedRun) (s : State) (b : Bool) → (b ≡ true → Reads front runs s) → Kept front runs (cond b (Next.State s) Next.Stop)
tested front runs s true f = f refl
tested front runs s false f = tt

pub keeps : (front : List Word) (runs : List NamedRun) (s : State) (x : Word) → Reads front runs s → Kept (front ++ x ∷ []) runs (step s x)
keeps front runs State.Run w.ForAll r = record { part = w.ForAll ∷ []; holds = refl; counts = r.counts; are = grown (flat_map run_words runs) front r.part [] w.ForAll r.are r.holds }
keeps front runs State.Run w.Exists r = record { part = w.Exists ∷ []; holds = refl; counts = r.counts; are = grown (flat_map run_words runs) front r.part [] w.Exists r.are r.holds }
keeps front runs State.Run w.Literals r = record { part = w.Literals ∷ []; holds = refl; counts = r.counts; are = grown (flat_map run_words runs) front r.part [] w.Literals r.are r.holds }
keeps front runs (State.Count u) (w.Number n) r =
    tested (front ++ w.Number n ∷ []) runs (State.Sort u n) (nat_lt 0 n)
    (λ e. record { part = quantifier u ∷ w.Number n ∷ []; holds = (refl, lt_true 0 n e); counts = r.counts; are = grown (flat_map run_words runs) front r.part (quantifier u ∷ []) (w.Number n) r.are r.holds })
keeps front runs (State.Sort u n) (w.Name at len) r =
    let run : NamedRun = record { universal = u; count = n; at = at; len = len } in
    let words : List Word = quantifier u ∷ w.Number n ∷ w.Name at len ∷ [] in
    record {
      part = [];
      holds = refl;
      counts = each-append (λ run. 0 < run.count) runs (run ∷ []) r.counts (r.holds.1, tt);
      are = grown (flat_map run_words runs) front r.part (quantifier u ∷ w.Number n ∷ []) (w.Name at len) r.are r.holds.0
          ∙ (sym (flat_append run_words runs (run ∷ [])) ∙ sym (append-nil (flat_map run_words (runs ++ run ∷ []))));
    }
keeps front runs State.Literals (w.Number n) r =
    tested (front ++ w.Number n ∷ []) runs (State.AfterLiterals n) (nat_lt 0 n)
    (λ e. record { part = w.Literals ∷ w.Number n ∷ []; holds = (refl, lt_true 0 n e); counts = r.counts; are = grown (flat_map run_words runs) front r.part (w.Literals ∷ []) (w.Number n) r.are r.holds })
keeps front runs (State.AfterLiterals n) w.Depth r =
    record { part = w.Literals ∷ w.Number n ∷ w.Depth ∷ []; holds = (refl, r.holds.1); counts = r.counts; are = grown (flat_map run_words runs) front r.part (w.Literals ∷ w.Number n ∷ []) w.Depth r.are r.holds.0 }
keeps front runs (State.AfterLiterals n) w.Terms r =
    record { part = w.Literals ∷ w.Number n ∷ w.Terms ∷ []; holds = ([], (DepthWords.left_out, (r.holds.1, refl))); counts = r.counts; are = grown (flat_map run_words runs) front r.part (w.Literals ∷ w.Number n ∷ []) w.Terms r.are r.holds.0 }
keeps front runs (State.Depth n) (w.Number d) r =
    tested (front ++ w.Number d ∷ []) runs (State.AfterDepth n d) (d == 1 || d == 2)
    (λ e. let both = one_or_two d e in record { part = w.Literals ∷ w.Number n ∷ w.Depth ∷ w.Number d ∷ []; holds = (refl, (r.holds.1, (both.0, both.1))); counts = r.counts; are = grown (flat_map run_words runs) front r.part (w.Literals ∷ w.Number n ∷ w.Depth ∷ []) (w.Number d) r.are r.holds.0 })
keeps front runs (State.AfterDepth n d) w.Terms r =
    record {
      part = w.Literals ∷ w.Number n ∷ w.Depth ∷ w.Number d ∷ w.Terms ∷ [];
      holds = (w.Depth ∷ w.Number d ∷ [], (DepthWords.given d r.holds.1.1.0 r.holds.1.1.1, (r.holds.1.0, refl)));
      counts = r.counts;
      are = grown (flat_map run_words runs) front r.part (w.Literals ∷ w.Number n ∷ w.Depth ∷ w.Number d ∷ []) w.Terms r.are r.holds.0;
    }
keeps front runs (State.Terms n d) (w.Number t) r =
    tested (front ++ w.Number t ∷ []) runs (State.Done n d t) (nat_le t 3)
    (λ e. record {
      part = w.Literals ∷ w.Number n ∷ (r.holds.0 ++ w.Terms ∷ w.Number t ∷ []);
      holds = (r.holds.0, (r.holds.1.0, (r.holds.1.1.0, (le_true t 3 e, refl))));
      counts = r.counts;
      are = grown (flat_map run_words runs) front r.part (w.Literals ∷ w.Number n ∷ (r.holds.0 ++ w.Terms ∷ [])) (w.Number t) r.are r.holds.1.1.1
          ∙ ap (λ q. flat_map run_words runs ++ (w.Literals ∷ w.Number n ∷ q)) (append_assoc r.holds.0 (w.Terms ∷ []) (w.Number t ∷ []));
    })
keeps front runs s x r = tt

-- the template that the words spell, where they may end
abbrev pub Ended : List Word → List NamedRun → Option Numbers → Type 0
Ended front runs (Some n) = Spells front runs n
Ended front runs None = Unit {0}

pub ends : (front : List Word) (runs : List NamedRun) (s : State) → Reads front runs s → Ended front runs (ended s)
ends front runs (State.AfterLiterals n) r = record { depth_words = []; terms_words = []; counts = r.counts; some = r.holds.1; depth = DepthWords.left_out; terms = TermsWords.left_out; are = r.are ∙ ap (λ p. flat_map run_words runs ++ p) r.holds.0 }
ends front runs (State.AfterDepth n d) r = record {
  depth_words = w.Depth ∷ w.Number d ∷ [];
  terms_words = [];
  counts = r.counts;
  some = r.holds.1.0;
  depth = DepthWords.given d r.holds.1.1.0 r.holds.1.1.1;
  terms = TermsWords.left_out;
  are = r.are ∙ ap (λ p. flat_map run_words runs ++ p) r.holds.0;
}
ends front runs (State.Done n d t) r = record {
  depth_words = r.holds.0;
  terms_words = w.Terms ∷ w.Number t ∷ [];
  counts = r.counts;
  some = r.holds.1.1.0;
  depth = r.holds.1.0;
  terms = TermsWords.given t r.holds.1.1.1.0;
  are = r.are ∙ ap (λ p. flat_map run_words runs ++ p) r.holds.1.1.1.1;
}
ends front runs s r = tt

begins_now : (front : List Word) (runs : List NamedRun) (n : Numbers) → Spells front runs n → CanBegin front
begins_now front runs n s = ([], (runs, (n, subst (λ f. Spells f runs n) (sym (append-nil front)) s)))

shorter : (front : List Word) (x : Word) → CanBegin (front ++ x ∷ []) → CanBegin front
shorter front x b = (x ∷ b.0, (b.1.0, (b.1.1.0, subst (λ f. Spells f b.1.0 b.1.1.0) (append_assoc front (x ∷ []) b.0) b.1.1.1)))

-- every part can be gone on with
viable_run : (front : List Word) (runs : List NamedRun) → Reads front runs State.Run → CanBegin front
viable_run front runs r =
    let one = keeps front runs State.Run w.Literals r in
    let two = keeps (front ++ w.Literals ∷ []) runs State.Literals (w.Number 1) one in
    shorter front w.Literals (shorter (front ++ w.Literals ∷ []) (w.Number 1) (begins_now ((front ++ w.Literals ∷ []) ++ w.Number 1 ∷ []) runs (record { literals = 1; depth = 1; terms = 0 }) (ends ((front ++ w.Literals ∷ []) ++ w.Number 1 ∷ []) runs (State.AfterLiterals 1) two)))

viable_sort : (front : List Word) (runs : List NamedRun) (u : Bool) (n : ℕ) → Reads front runs (State.Sort u n) → CanBegin front
viable_sort front runs u n r = shorter front (w.Name 0 0) (viable_run (front ++ w.Name 0 0 ∷ []) (runs ++ record { universal = u; count = n; at = 0; len = 0 } ∷ []) (keeps front runs (State.Sort u n) (w.Name 0 0) r))

pub viable : (front : List Word) (runs : List NamedRun) (s : State) → Reads front runs s → CanBegin front
viable front runs State.Run r = viable_run front runs r
viable front runs (State.Count u) r = shorter front (w.Number 1) (viable_sort (front ++ w.Number 1 ∷ []) runs u 1 (keeps front runs (State.Count u) (w.Number 1) r))
viable front runs (State.Sort u n) r = viable_sort front runs u n r
viable front runs State.Literals r = shorter front (w.Number 1) (begins_now (front ++ w.Number 1 ∷ []) runs (record { literals = 1; depth = 1; terms = 0 }) (ends (front ++ w.Number 1 ∷ []) runs (State.AfterLiterals 1) (keeps front runs State.Literals (w.Number 1) r)))
viable front runs (State.AfterLiterals n) r = begins_now front runs (record { literals = n; depth = 1; terms = 0 }) (ends front runs (State.AfterLiterals n) r)
viable front runs (State.Depth n) r = shorter front (w.Number 1) (begins_now (front ++ w.Number 1 ∷ []) runs (record { literals = n; depth = 1; terms = 0 }) (ends (front ++ w.Number 1 ∷ []) runs (State.AfterDepth n 1) (keeps front runs (State.Depth n) (w.Number 1) r)))
viable front runs (State.AfterDepth n d) r = begins_now front runs (record { literals = n; depth = d; terms = 0 }) (ends front runs (State.AfterDepth n d) r)
viable front runs (State.Terms n d) r = shorter front (w.Number 0) (begins_now (front ++ w.Number 0 ∷ []) runs (record { literals = n; depth = d; terms = 0 }) (ends (front ++ w.Number 0 ∷ []) runs (State.Done n d 0) (keeps front runs (State.Terms n d) (w.Number 0) r)))
viable front runs (State.Done n d t) r = begins_now front runs (record { literals = n; depth = d; terms = t }) (ends front runs (State.Done n d t) r)

-- what the reader makes of words: the runs and the numbers, or nothing
abbrev with_numbers : List NamedRun → Option Numbers → Option (List NamedRun × Numbers)
with_numbers runs None = None
with_numbers runs (Some n) = Some (runs, n)

abbrev by_next : (List NamedRun → State → Option (List NamedRun × Numbers)) → List NamedRun → Next → Option (List NamedRun × Numbers)
by_next f runs (Next.State s) = f runs s
by_next f runs (Next.Run run) = f (runs ++ run ∷ []) State.Run
by_next f runs Next.Stop = None

abbrev pub outcome : List Word → List NamedRun → State → Option (List NamedRun × Numbers)
outcome [] runs s = with_numbers runs (ended s)
outcome (x ∷ xs) runs s = by_next (outcome xs) runs (step s x)

outcome_run : (u : Bool) (n at len : ℕ) (before : List NamedRun) (rest : List Word) → 0 < n
    → outcome (quantifier u ∷ w.Number n ∷ w.Name at len ∷ rest) before State.Run ≡ outcome rest (before ++ record { universal = u; count = n; at = at; len = len } ∷ []) State.Run
outcome_run true n at len before rest h = ap (λ b. by_next (outcome (w.Name at len ∷ rest)) before (cond b (Next.State (State.Sort true n)) Next.Stop)) (true_lt 0 n h)
outcome_run false n at len before rest h = ap (λ b. by_next (outcome (w.Name at len ∷ rest)) before (cond b (Next.State (State.Sort false n)) Next.Stop)) (true_lt 0 n h)

outcome_runs : (runs before : List NamedRun) (rest : List Word) → AllByRecursion (λ run. 0 < run.count) runs → outcome (flat_map run_words runs ++ rest) before State.Run ≡ outcome rest (before ++ runs) State.Run
outcome_runs [] before rest a = ap (λ rs. outcome rest rs State.Run) (sym (append-nil before))
outcome_runs (run ∷ runs) before rest a =
    outcome_run run.universal run.count run.at run.len before (flat_map run_words runs ++ rest) a.0
    ∙ (outcome_runs runs (before ++ run ∷ []) rest a.1 ∙ ap (λ rs. outcome rest rs State.Run) (append_assoc before (run ∷ []) runs))

outcome_terms : (runs : List NamedRun) (n d t : ℕ) (tw : List Word) → TermsWords t tw → outcome tw runs (State.AfterDepth n d) ≡ Some (runs, record { literals = n; depth = d; terms = t })
outcome_terms runs n d t tw TermsWords.left_out = refl
outcome_terms runs n d t tw (TermsWords.given t' h) = ap (λ b. by_next (outcome []) runs (cond b (Next.State (State.Done n d t')) Next.Stop)) (true_le t' 3 h)

outcome_tail : (runs : List NamedRun) (n d t : ℕ) (dw tw : List Word) → DepthWords d dw → TermsWords t tw → outcome (dw ++ tw) runs (State.AfterLiterals n) ≡ Some (runs, record { literals = n; depth = d; terms = t })
outcome_tail runs n d t dw tw DepthWords.left_out TermsWords.left_out = refl
outcome_tail runs n d t dw tw DepthWords.left_out (TermsWords.given t' h) = ap (λ b. by_next (outcome []) runs (cond b (Next.State (State.Done n 1 t')) Next.Stop)) (true_le t' 3 h)
outcome_tail runs n d t dw tw (DepthWords.given d' low high) terms =
    ap (λ b. by_next (outcome tw) runs (cond b (Next.State (State.AfterDepth n d')) Next.Stop)) (two_or_one d' low high) ∙ outcome_terms runs n d' t tw terms

-- the reader takes every template, as what it is
pub complete : (words : List Word) (runs : List NamedRun) (n : Numbers) → Spells words runs n → outcome words [] State.Run ≡ Some (runs, n)
complete words runs n s =
    ap (λ ws. outcome ws [] State.Run) s.are ∙ (outcome_runs runs [] (w.Literals ∷ w.Number n.literals ∷ (s.depth_words ++ s.terms_words)) s.counts
    ∙ (ap (λ b. by_next (outcome (s.depth_words ++ s.terms_words)) runs (cond b (Next.State (State.AfterLiterals n.literals)) Next.Stop)) (true_lt 0 n.literals s.some)
    ∙ outcome_tail runs n.literals n.depth n.terms s.depth_words s.terms_words s.depth s.terms))

-- the reader after the first words
pub record At (words : List Word) (k : ℕ) (runs : List NamedRun) (s : State) : Type 0 where
  pub reads : Reads (take k words) runs s
  pub follows : (more : List Word) → outcome (take k words ++ more) [] State.Run ≡ outcome more runs s

take_one : (words : List Word) (k : ℕ) (x : Word) → k < length words → get_or words k x ≡ x → take (k + 1) words ≡ take k words ++ x ∷ []
take_one words k x h e = take_more words k x h ∙ ap (λ y. take k words ++ y ∷ []) e

pub at_start : (words : List Word) → At words 0 [] State.Run
at_start words = record { reads = record { part = []; holds = refl; counts = tt; are = refl }; follows = λ more. refl }

pub at_state : (words : List Word) (k : ℕ) (runs : List NamedRun) (s s' : State) (x : Word) → k < length words → get_or words k x ≡ x → At words k runs s → step s x ≡ Next.State s' → At words (k + 1) runs s'
at_state words k runs s s' x h e a next =
    let one : take (k + 1) words ≡ take k words ++ x ∷ [] = take_one words k x h e in
    record {
      reads = subst (λ f. Reads f runs s') (sym one) (subst (Kept (take k words ++ x ∷ []) runs) next (keeps (take k words) runs s x a.reads));
      follows = λ more. ap (λ f. outcome (f ++ more) [] State.Run) one ∙ (ap (λ f. outcome f [] State.Run) (append_assoc (take k words) (x ∷ []) more) ∙ (a.follows (x ∷ more) ∙ ap (by_next (outcome more) runs) next));
    }

pub at_run : (words : List Word) (k : ℕ) (runs : List NamedRun) (s : State) (run : NamedRun) (x : Word) → k < length words → get_or words k x ≡ x → At words k runs s → step s x ≡ Next.Run run → At words (k + 1) (runs ++ run ∷ []) State.Run
at_run words k runs s run x h e a next =
    let one : take (k + 1) words ≡ take k words ++ x ∷ [] = take_one words k x h e in
    record {
      reads = subst (λ f. Reads f (runs ++ run ∷ []) State.Run) (sym one) (subst (Kept (take k words ++ x ∷ []) runs) next (keeps (take k words) runs s x a.reads));
      follows = λ more. ap (λ f. outcome (f ++ more) [] State.Run) one ∙ (ap (λ f. outcome f [] State.Run) (append_assoc (take k words) (x ∷ []) more) ∙ (a.follows (x ∷ more) ∙ ap (by_next (outcome more) runs) next));
    }

pub at_stop : (words : List Word) (k : ℕ) (runs : List NamedRun) (s : State) (x : Word) → k < length words → get_or words k x ≡ x → At words k runs s → step s x ≡ Next.Stop → IsFault words k
at_stop words k runs s x h e a next =
    let one : take (k + 1) words ≡ take k words ++ x ∷ [] = take_one words k x h e in
    record {
      within = omega (arith, h);
      goes_on = viable (take k words) runs s a.reads;
      stops = λ low b.
          let yes : outcome ((take k words ++ x ∷ []) ++ b.0) [] State.Run ≡ Some (b.1.0, b.1.1.0) = ap (λ f. outcome (f ++ b.0) [] State.Run) (sym one) ∙ complete (take (k + 1) words ++ b.0) b.1.0 b.1.1.0 b.1.1.1 in
          let is_off : outcome ((take k words ++ x ∷ []) ++ b.0) [] State.Run ≡ None = ap (λ f. outcome f [] State.Run) (append_assoc (take k words) (x ∷ []) b.0) ∙ (a.follows (x ∷ b.0) ∙ ap (by_next (outcome b.0) runs) next) in
          none-some (b.1.0, b.1.1.0) (sym is_off ∙ yes);
      none = λ past runs n s. absurd (omega (arith, h, past));
    }

pub at_end : (words : List Word) (k : ℕ) (runs : List NamedRun) (s : State) → k ≡ length words → At words k runs s → ended s ≡ None → IsFault words k
at_end words k runs s e a over =
    let whole : take k words ≡ words = ap (λ n. take n words) e ∙ take-length words in
    record {
      within = omega (arith, e);
      goes_on = viable (take k words) runs s a.reads;
      stops = λ low b. absurd (omega (arith, e, low));
      none = λ past more n spelled.
          let yes : outcome words [] State.Run ≡ Some (more, n) = complete words more n spelled in
          let is_off : outcome words [] State.Run ≡ None = ap (λ f. outcome f [] State.Run) (sym whole ∙ sym (append-nil (take k words))) ∙ (a.follows [] ∙ ap (with_numbers runs) over) in
          none-some (more, n) (sym is_off ∙ yes);
    }

pub at_template : (words : List Word) (k : ℕ) (runs : List NamedRun) (s : State) (n : Numbers) → k ≡ length words → At words k runs s → ended s ≡ Some n → Spells words runs n
at_template words k runs s n e a over =
    let whole : take k words ≡ words = ap (λ n. take n words) e ∙ take-length words in
    subst (λ f. Spells f runs n) whole (subst (Ended (take k words) runs) over (ends (take k words) runs s a.reads))
