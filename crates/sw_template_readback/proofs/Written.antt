-- The canonical text of a template, word by word.
use Rattle.std.specs.Prelude.{◌≡◌, ℕ, zero, suc, ◌<◌, ◌≤◌, Bool, true, false, List, [], ◌∷◌, ◌++◌, length, take, drop, slice_get, unwrap_or, Some, Result, Ok, Err, codes}
use Rattle.std.specs.List.{AllByRecursion, flat_map}
use Rattle.std.specs.Fmt.{decimal}
use Rattle.std.proofs.Common.{refl, sym, ap, subst, ◌∙◌, arith, append_assoc, append-nil, length-drop}
use Rattle.sw_lists.proofs.Each.{each-at}
use Rattle.sw_scan.specs.declared.Kind.{Kind}
use Rattle.sw_scan.specs.declared.Token.{Token}
use Rattle.sw_scan.specs.Spelling.{is_name}
use Rattle.sw_scan.specs.Scans.{Scans, before}
use Rattle.sw_scan.proofs.Cut.{at_end}
use Rattle.sw_logic.specs.declared.syntax.Signature.{Signature}
use Rattle.sw_meaning.specs.declared.template.Run.{Run}
use Rattle.sw_meaning.specs.declared.template.Template.{Template}
use Rattle.sw_meaning.specs.ProtocolText.{sort_text}
use Rattle.sw_template.specs.Prefix.{variable_count}
use Rattle.sw_template_text.specs.declared.words.Word.{Word}
use Rattle.sw_template_text.specs.declared.words.Word.TheVariants as w
use Rattle.sw_template_text.specs.declared.words.NamedRun.{NamedRun}
use Rattle.sw_template_text.specs.declared.words.Numbers.{Numbers}
use Rattle.sw_template_text.specs.Grammar.{run_words, DepthWords, TermsWords, Spells}
use Rattle.sw_template_text.specs.Texts.{name_word, bytes_at, words_of, Names, AreRuns, Bounds, Resolves, HasTemplate}
use Rattle.sw_template_text.specs.Canonical.{quantifier_text, run_text, bounds_text, template_text}
use Rattle.sw_template_text.specs.declared.errors.TemplateError.{TemplateError}
use Rattle.sw_template_text.proofs.OneTemplate.{one_template}
use Rattle.sw_template_readback.specs.Laws.{IsSortName, AreSortNames, TemplatesReadBack, TextsTellTemplates}
use Rattle.sw_template_readback.proofs.Steps.{Read, blank, word, name_first, sort_word, digit, digit_first}

-- ---- the text

abbrev quantifier_name : Bool → List ℕ
quantifier_name true = codes "forall"
quantifier_name false = codes "exists"

abbrev quantifier : Bool → Word
quantifier true = w.ForAll
quantifier false = w.Exists

named_first : (u : Bool) (xs : List ℕ) → quantifier_text u ++ xs ≡ quantifier_name u ++ 32 ∷ xs
named_first true xs = refl
named_first false xs = refl

run_is : (u : Bool) (d s rest : List ℕ) → (quantifier_text u ++ d ++ codes " " ++ s ++ codes " ") ++ rest ≡ quantifier_name u ++ 32 ∷ (d ++ 32 ∷ (s ++ 32 ∷ rest))
run_is u d s rest =
    append_assoc (((quantifier_text u ++ d) ++ codes " ") ++ s) (codes " ") rest
    ∙ (append_assoc ((quantifier_text u ++ d) ++ codes " ") s (32 ∷ rest)
    ∙ (append_assoc (quantifier_text u ++ d) (codes " ") (s ++ 32 ∷ rest)
    ∙ (append_assoc (quantifier_text u) d (32 ∷ (s ++ 32 ∷ rest)) ∙ named_first u (d ++ 32 ∷ (s ++ 32 ∷ rest)))))

bounds_are : (l d t : List ℕ) → codes "literals " ++ l ++ codes " depth " ++ d ++ codes " terms " ++ t ≡ codes "literals" ++ 32 ∷ (l ++ 32 ∷ (codes "depth" ++ 32 ∷ (d ++ 32 ∷ (codes "terms" ++ 32 ∷ (t ++ [])))))
bounds_are l d t =
    append_assoc (((codes "literals " ++ l) ++ codes " depth ") ++ d) (codes " terms ") t
    ∙ (append_assoc ((codes "literals " ++ l) ++ codes " depth ") d (codes " terms " ++ t)
    ∙ (append_assoc (codes "literals " ++ l) (codes " depth ") (d ++ (codes " terms " ++ t))
    ∙ (append_assoc (codes "literals ") l (codes " depth " ++ (d ++ (codes " terms " ++ t)))
    ∙ ap (λ xs. codes "literals" ++ 32 ∷ (l ++ 32 ∷ (codes "depth" ++ 32 ∷ (d ++ 32 ∷ (codes "terms" ++ 32 ∷ xs))))) (sym (append-nil t)))))

three : (xs : List Word) (a b c : Word) → ((xs ++ a ∷ []) ++ b ∷ []) ++ c ∷ [] ≡ xs ++ a ∷ b ∷ c ∷ []
three [] a b c = refl
three (x ∷ xs) a b c = ap (λ ys. x ∷ ys) (three xs a b c)

six : (xs : List Word) (a b c d e f : Word) → (((((xs ++ a ∷ []) ++ b ∷ []) ++ c ∷ []) ++ d ∷ []) ++ e ∷ []) ++ f ∷ [] ≡ xs ++ a ∷ b ∷ c ∷ d ∷ e ∷ f ∷ []
six [] a b c d e f = refl
six (x ∷ xs) a b c d e f = ap (λ ys. x ∷ ys) (six xs a b c d e f)

found : (xs : List (List ℕ)) (i : ℕ) → i < length xs → slice_get xs i ≡ Some (unwrap_or (slice_get xs i) [])
found [] i h = absurd (omega (arith, h))
found (x ∷ xs) zero h = refl
found (x ∷ xs) (suc i) h = found xs i (omega (arith, h))

-- ---- the words

module _ (T : List ℕ) where
  -- some place as far as which the text has these words
  pub record Later (words : List Word) (rest : List ℕ) : Type 0 where
    pub at : ℕ
    pub tokens : List Token
    pub read : Read T at tokens words rest

  same_rest : (words : List Word) (a b : List ℕ) → a ≡ b → Later words a → Later words b
  same_rest words a b e l = subst (Later words) e l

  keyword : (x rest : List ℕ) (words : List Word) (y : Word) → is_name x ≡ true → ((t : Token) → name_word x t ≡ y) → Later words (x ++ 32 ∷ rest) → Later (words ++ y ∷ []) rest
  keyword x rest words y name is l = record { at = _; tokens = _; read = blank T _ _ _ rest (word T l.at l.tokens words x (32 ∷ rest) Kind.Name y l.read (name_first x rest name) (is (record { kind = Kind.Name; at = l.at; len = length x }))) }

  number : (n : ℕ) (rest : List ℕ) (words : List Word) → n ≤ 6 → Later words (decimal n ++ 32 ∷ rest) → Later (words ++ w.Number n ∷ []) rest
  number n rest words h l =
      let d = digit n h in
      record { at = _; tokens = _; read = blank T _ _ _ rest (word T l.at l.tokens words (d.byte ∷ []) (32 ∷ rest) Kind.Number (w.Number n) (subst (λ xs. Read T l.at l.tokens words (xs ++ 32 ∷ rest)) d.text l.read) (digit_first d.byte (32 ∷ rest) d.kind refl) d.value) }

  last_number : (n : ℕ) (words : List Word) → n ≤ 6 → Later words (decimal n ++ []) → Later (words ++ w.Number n ∷ []) []
  last_number n words h l =
      let d = digit n h in
      record { at = _; tokens = _; read = word T l.at l.tokens words (d.byte ∷ []) [] Kind.Number (w.Number n) (subst (λ xs. Read T l.at l.tokens words (xs ++ [])) d.text l.read) (digit_first d.byte [] d.kind refl) d.value }

  sort : (x rest : List ℕ) (words : List Word) → IsSortName x → (l : Later words (x ++ 32 ∷ rest)) → Later (words ++ w.Name l.at (length x) ∷ []) rest
  sort x rest words s l = record { at = _; tokens = _; read = blank T _ _ _ rest (word T l.at l.tokens words x (32 ∷ rest) Kind.Name (w.Name l.at (length x)) l.read (name_first x rest s.name) (sort_word x (record { kind = Kind.Name; at = l.at; len = length x }) s)) }

  spelled_at : (x rest : List ℕ) (words : List Word) (l : Later words (x ++ rest)) → bytes_at T l.at (length x) ≡ x
  spelled_at x rest words l = ap (take (length x)) l.read.left ∙ taken x rest
    where
      taken : (x rest : List ℕ) → take (length x) (x ++ rest) ≡ x
      taken [] rest = refl
      taken (b ∷ x) rest = ap (λ xs. b ∷ xs) (taken x rest)

  quantified : (u : Bool) (rest : List ℕ) (words : List Word) → Later words (quantifier_name u ++ 32 ∷ rest) → Later (words ++ quantifier u ∷ []) rest
  quantified true rest words l = keyword (codes "forall") rest words w.ForAll refl (λ t. refl) l
  quantified false rest words l = keyword (codes "exists") rest words w.Exists refl (λ t. refl) l

  module _ (sig : Signature) (names : AreSortNames sig) where
    pub record RunsRead (words : List Word) (runs : List Run) (rest : List ℕ) : Type 0 where
      pub named : List NamedRun
      pub counts : AllByRecursion (λ r. 0 < r.count) named
      pub are : AreRuns sig T named runs
      pub later : Later (words ++ flat_map run_words named) rest

    names_sort : (run : NamedRun) (n : ℕ) → n < length sig.sorts → bytes_at T run.at run.len ≡ sort_text sig n → Names sig T run n
    names_sort run n h e =
        let has : slice_get sig.sorts n ≡ Some (bytes_at T run.at run.len) = found sig.sorts n h ∙ ap Some (sym e) in
        (has, λ k low other. let same : k ≡ n = names.apart k n (bytes_at T run.at run.len) other has in omega (arith, same, low))

    quantifier_is : (u : Bool) (n at len : ℕ) → run_words (record { universal = u; count = n; at = at; len = len }) ≡ quantifier u ∷ w.Number n ∷ w.Name at len ∷ []
    quantifier_is true n at len = refl
    quantifier_is false n at len = refl

    runs_read : (runs : List Run) (words : List Word) (rest : List ℕ) → AllByRecursion (λ run. (0 < run.count) × (run.sort < length sig.sorts)) runs → variable_count runs ≤ 6
        → Later words (flat_map (run_text sig) runs ++ rest) → RunsRead words runs rest
    runs_read [] words rest each few l = record { named = []; counts = tt; are = tt; later = subst (λ ws. Later ws rest) (sym (append-nil words)) l }
    runs_read (run ∷ runs) words rest each few l =
        let x : List ℕ = sort_text sig run.sort in
        let after : List ℕ = flat_map (run_text sig) runs ++ rest in
        let start : Later words (quantifier_name run.universal ++ 32 ∷ (decimal run.count ++ 32 ∷ (x ++ 32 ∷ after))) =
        same_rest words _ _ (append_assoc (run_text sig run) (flat_map (run_text sig) runs) rest ∙ run_is run.universal (decimal run.count) x after) l in
        let one = quantified run.universal (decimal run.count ++ 32 ∷ (x ++ 32 ∷ after)) words start in
        let two = number run.count (x ++ 32 ∷ after) (words ++ quantifier run.universal ∷ []) (omega (arith, few)) one in
        let named : NamedRun = record { universal = run.universal; count = run.count; at = two.at; len = length x } in
        let good : IsSortName x = each-at IsSortName sig.sorts run.sort x (found sig.sorts run.sort each.0.1) names.names in
        let done = sort x after ((words ++ quantifier run.universal ∷ []) ++ w.Number run.count ∷ []) good two in
        let whole : ((words ++ quantifier run.universal ∷ []) ++ w.Number run.count ∷ []) ++ w.Name two.at (length x) ∷ [] ≡ words ++ run_words named =
        three words (quantifier run.universal) (w.Number run.count) (w.Name two.at (length x)) ∙ ap (λ ws. words ++ ws) (sym (quantifier_is run.universal run.count two.at (length x))) in
        let more = runs_read runs (words ++ run_words named) rest each.1 (omega (arith, few)) (subst (λ ws. Later ws after) whole done) in
        record {
          named = named ∷ more.named;
          counts = (each.0.0, more.counts);
          are = (refl, (refl, (names_sort named run.sort each.0.1 (spelled_at x (32 ∷ after) _ two), more.are)));
          later = subst (λ ws. Later ws rest) (append_assoc words (run_words named) (flat_map run_words more.named)) more.later;
        }

    bounds_read : (l d t : ℕ) (words : List Word) → l ≤ 6 → d ≤ 2 → t ≤ 3 → Later words (bounds_text l d t) → Later (words ++ w.Literals ∷ w.Number l ∷ w.Depth ∷ w.Number d ∷ w.Terms ∷ w.Number t ∷ []) []
    bounds_read l d t words few low most start =
        let one = keyword (codes "literals") _ words w.Literals refl (λ t. refl) (same_rest words _ _ (bounds_are (decimal l) (decimal d) (decimal t)) start) in
        let two = number l _ _ few one in
        let three = keyword (codes "depth") _ _ w.Depth refl (λ t. refl) two in
        let four = number d _ _ (omega (arith, low)) three in
        let five = keyword (codes "terms") _ _ w.Terms refl (λ t. refl) four in
        let last = last_number t _ (omega (arith, most)) five in
        subst (λ ws. Later ws []) (six words w.Literals (w.Number l) w.Depth (w.Number d) w.Terms (w.Number t)) last

    ended : (words : List Word) (l : Later words []) → Scans T 0 (Ok l.tokens)
    ended words l =
        let none : length (drop l.at T) ≡ 0 = ap length l.read.left in
        at_end T l.at l.tokens l.read.cut (omega (arith, none, length-drop l.at T))

before_nil : (r : Result (List Token) ℕ) → before [] r ≡ r
before_nil (Ok ts) = refl
before_nil (Err at) = refl

pub read_back : TemplatesReadBack
read_back sig t names is =
    let T : List ℕ = template_text sig t in
    let start : Later T [] (flat_map (run_text sig) t.prefix ++ bounds_text t.literals t.depth t.terms) =
    record { at = 0; tokens = []; read = record { cut = record { in_range = omega arith; goes_on = λ r s. subst (Scans T 0) (sym (before_nil r)) s; all_within = λ k d h. absurd (omega (arith, h)) }; words_are = refl; left = refl } } in
    let runs = runs_read T sig names t.prefix [] (bounds_text t.literals t.depth t.terms) is.runs is.variables start in
    let all = bounds_read T sig names t.literals t.depth t.terms (flat_map run_words runs.named) is.few is.depth.1 is.terms runs.later in
    let n : Numbers = record { literals = t.literals; depth = t.depth; terms = t.terms } in
    let spells : Spells (words_of T all.tokens) runs.named n =
    record {
      depth_words = w.Depth ∷ w.Number t.depth ∷ [];
      terms_words = w.Terms ∷ w.Number t.terms ∷ [];
      counts = runs.counts;
      some = is.some;
      depth = DepthWords.given t.depth is.depth.0 is.depth.1;
      terms = TermsWords.given t.terms is.terms;
      are = all.read.words_are;
    } in
    HasTemplate.spelled all.tokens runs.named n (ended T sig names _ all) spells (Resolves.known t.prefix runs.are (Bounds.within is.variables is.few refl))

same_template : (t u : Template) → ◌≡◌ {A = Result Template TemplateError} (Ok t) (Ok u) → t ≡ u
same_template t u h = cc

pub texts_tell : TextsTellTemplates
texts_tell sig t u names a b same =
    same_template t u (one_template sig (template_text sig u) (Ok t) (Ok u) (subst (λ T. HasTemplate sig T (Ok t)) same (read_back sig t names a)) (read_back sig u names b))
