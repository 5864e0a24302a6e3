-- A text has one answer, and a template that it has is within the bounds.
use Rattle.std.specs.Prelude.{◌≡◌, ℕ, zero, suc, ◌+◌, ◌-◌, ◌<◌, ◌≤◌, List, [], ◌∷◌, ◌++◌, length, take, drop, slice_get, Some, Result, Ok, Err}
use Rattle.std.specs.List.{AllByRecursion}
use Rattle.std.proofs.Common.{refl, arith, sym, ap, subst, ◌∙◌, append_assoc, append-nil, inl, inr, take-append-drop}
use Rattle.std.proofs.lemmas.Bool.{cases_order, cases_lt}
use Rattle.std.proofs.lemmas.Option.{same_Some, none-some}
use Rattle.sw_scan.specs.declared.Token.{Token}
use Rattle.sw_scan.proofs.Unique.{one_scan}
use Rattle.sw_logic.specs.declared.syntax.Signature.{Signature}
use Rattle.sw_meaning.specs.declared.template.Run.{Run}
use Rattle.sw_meaning.specs.declared.template.Template.{Template}
use Rattle.sw_template_text.specs.declared.errors.TemplateError.{TemplateError}
use Rattle.sw_template_text.specs.declared.words.Word.{Word}
use Rattle.sw_template_text.specs.declared.words.NamedRun.{NamedRun}
use Rattle.sw_template_text.specs.declared.words.Numbers.{Numbers}
use Rattle.sw_template_text.specs.Grammar.{DepthWords, TermsWords, Spells, CanBegin, IsFault}
use Rattle.sw_template_text.specs.Texts.{Names, IsUnknown, AreRuns, Bounds, Resolves, HasTemplate, IsTemplate, OneTemplate, TextsAreTemplates, words_of, place}
use Rattle.sw_template_text.proofs.Grammatical.{complete}

-- ---- the words

one_spelling : (words : List Word) (runs more : List NamedRun) (n m : Numbers) → Spells words runs n → Spells words more m → (runs ≡ more) × (n ≡ m)
one_spelling words runs more n m s t =
    let same : (runs, n) ≡ (more, m) = same_Some (runs, n) (more, m) (sym (complete words runs n s) ∙ complete words more m t) in
    (ap (λ p. p.0) same, ap (λ p. p.1) same)

begins : (front more : List Word) → CanBegin (front ++ more) → CanBegin front
begins front more b = (more ++ b.0, (b.1.0, (b.1.1.0, subst (λ ws. Spells ws b.1.0 b.1.1.0) (append_assoc front more b.0) b.1.1.1)))

taken_none : (n : ℕ) → take {A = Word} n [] ≡ []
taken_none zero = refl
taken_none (suc n) = refl

parted : (k j : ℕ) (ws : List Word) → take (k + j) ws ≡ take k ws ++ take j (drop k ws)
parted zero j ws = let same : 0 + j ≡ j = omega arith in ap (λ n. take n ws) same
parted (suc k) j [] = taken_none (suc k + j) ∙ sym (taken_none j)
parted (suc k) j (x ∷ ws) = let same : suc k + j ≡ suc (k + j) = omega arith in ap (λ n. take n (x ∷ ws)) same ∙ ap (λ xs. x ∷ xs) (parted k j ws)

earlier : (words : List Word) (k m : ℕ) → k ≤ m → CanBegin (take m words) → CanBegin (take k words)
earlier words k m h b =
    let same : m ≡ k + (m - k) = omega (arith, h) in
    begins (take k words) (take (m - k) (drop k words)) (subst CanBegin (ap (λ n. take n words) same ∙ parted k (m - k) words) b)

fault_before : (words : List Word) (k m : ℕ) → k < m → IsFault words k → IsFault words m → ⊥
fault_before words k m h a b = a.stops (omega (arith, h, b.within)) (earlier words (k + 1) m (omega (arith, h)) b.goes_on)

one_fault : (words : List Word) (k m : ℕ) → IsFault words k → IsFault words m → k ≡ m
one_fault words k m a b =
    elim (cases_order k m) [
      | inl same ↦ same
      | inr (inl less) ↦ absurd (fault_before words k m less a b)
      | inr (inr more) ↦ absurd (fault_before words m k more b a)
    ]

no_template : (words : List Word) (k : ℕ) (runs : List NamedRun) (n : Numbers) → IsFault words k → Spells words runs n → ⊥
no_template words k runs n a s =
    elim (cases_lt k (length words)) [
      | inl less ↦
          a.stops less (begins (take (k + 1) words) (drop (k + 1) words)
          (subst CanBegin (sym (take-append-drop (k + 1) words)) ([], (runs, (n, subst (λ ws. Spells ws runs n) (sym (append-nil words)) s)))))
      | inr past ↦ a.none (omega (arith, past, a.within)) runs n s
    ]

-- ---- the sorts

module _ (sig : Signature) (text : List ℕ) where
  one_name : (run : NamedRun) (a b : ℕ) → Names sig text run a → Names sig text run b → a ≡ b
  one_name run a b first second =
      elim (cases_order a b) [
        | inl same ↦ same
        | inr (inl less) ↦ absurd (second.1 a less first.0)
        | inr (inr more) ↦ absurd (first.1 b more second.0)
      ]

  same_run : (x y : Run) → x.universal ≡ y.universal → x.count ≡ y.count → x.sort ≡ y.sort → x ≡ y
  same_run x y e f g = λ i. record { universal = e i; count = f i; sort = g i }

  one_prefix : (named : List NamedRun) (xs ys : List Run) → AreRuns sig text named xs → AreRuns sig text named ys → xs ≡ ys
  one_prefix [] [] [] a b = refl
  one_prefix [] [] (y ∷ ys) a b = absurd b
  one_prefix [] (x ∷ xs) ys a b = absurd a
  one_prefix (r ∷ named) [] ys a b = absurd a
  one_prefix (r ∷ named) (x ∷ xs) [] a b = absurd b
  one_prefix (r ∷ named) (x ∷ xs) (y ∷ ys) a b =
      ap (λ z. z ∷ xs) (same_run x y (a.0 ∙ sym b.0) (a.1.0 ∙ sym b.1.0) (one_name r x.sort y.sort a.1.1.0 b.1.1.0)) ∙ ap (λ zs. y ∷ zs) (one_prefix named xs ys a.1.1.1 b.1.1.1)

  abbrev IsKnown : NamedRun → Type 0
  IsKnown run = (sort : ℕ) × Names sig text run sort

  taken_known : (named : List NamedRun) (k i : ℕ) (run : NamedRun) → AllByRecursion IsKnown (take k named) → i < k → slice_get named i ≡ Some run → IsKnown run
  taken_known [] k i run all h e = absurd (none-some run e)
  taken_known (r ∷ named) zero i run all h e = absurd (omega (arith, h))
  taken_known (r ∷ named) (suc k) zero run all h e = subst IsKnown (same_Some r run e) all.0
  taken_known (r ∷ named) (suc k) (suc i) run all h e = taken_known named k i run all.1 (omega (arith, h)) e

  run_known : (named : List NamedRun) (prefix : List Run) (i : ℕ) (run : NamedRun) → AreRuns sig text named prefix → slice_get named i ≡ Some run → IsKnown run
  run_known [] prefix i run a e = absurd (none-some run e)
  run_known (r ∷ named) [] i run a e = absurd a
  run_known (r ∷ named) (x ∷ prefix) zero run a e = subst IsKnown (same_Some r run e) (x.sort, a.1.1.0)
  run_known (r ∷ named) (x ∷ prefix) (suc i) run a e = run_known named prefix i run a.1.1.1 e

  not_unknown : (run : NamedRun) → IsUnknown sig text run → IsKnown run → ⊥
  not_unknown run none known = none known.0 known.1.0

  one_bound : (prefix : List Run) (n : Numbers) (r s : Result Template TemplateError) → Bounds prefix n r → Bounds prefix n s → r ≡ s
  one_bound prefix n r s (Bounds.variables_over h e) (Bounds.variables_over k f) = e ∙ sym f
  one_bound prefix n r s (Bounds.variables_over h e) (Bounds.literals_over k l f) = absurd (omega (arith, h, k))
  one_bound prefix n r s (Bounds.variables_over h e) (Bounds.within k l f) = absurd (omega (arith, h, k))
  one_bound prefix n r s (Bounds.literals_over h k e) (Bounds.variables_over l f) = absurd (omega (arith, h, l))
  one_bound prefix n r s (Bounds.literals_over h k e) (Bounds.literals_over l m f) = e ∙ sym f
  one_bound prefix n r s (Bounds.literals_over h k e) (Bounds.within l m f) = absurd (omega (arith, k, m))
  one_bound prefix n r s (Bounds.within h k e) (Bounds.variables_over l f) = absurd (omega (arith, h, l))
  one_bound prefix n r s (Bounds.within h k e) (Bounds.literals_over l m f) = absurd (omega (arith, k, m))
  one_bound prefix n r s (Bounds.within h k e) (Bounds.within l m f) = e ∙ sym f

  one_resolved : (runs : List NamedRun) (n : Numbers) (r s : Result Template TemplateError) → Resolves sig text runs n r → Resolves sig text runs n s → r ≡ s
  one_resolved runs n r s (Resolves.unknown k x is none before e) (Resolves.unknown l y at other earlier f) =
      elim (cases_order k l) [
        | inl same ↦ e ∙ (ap (λ run. Err (TemplateError.UnknownSort run.at)) (same_Some x y (sym is ∙ (ap (slice_get runs) same ∙ at))) ∙ sym f)
        | inr (inl less) ↦ absurd (not_unknown x none (taken_known runs l k x earlier less is))
        | inr (inr more) ↦ absurd (not_unknown y other (taken_known runs k l y before more at))
      ]
  one_resolved runs n r s (Resolves.unknown k x is none before e) (Resolves.known prefix are b) = absurd (not_unknown x none (run_known runs prefix k x are is))
  one_resolved runs n r s (Resolves.known prefix are b) (Resolves.unknown k x is none before e) = absurd (not_unknown x none (run_known runs prefix k x are is))
  one_resolved runs n r s (Resolves.known prefix are b) (Resolves.known other also c) = one_bound prefix n r s b (subst (λ p. Bounds p n s) (one_prefix runs other prefix also are) c)

  -- ---- the text

  one_answer : (r s : Result Template TemplateError) → HasTemplate sig text r → HasTemplate sig text s → r ≡ s
  one_answer r s (HasTemplate.bad_byte at cut e) (HasTemplate.bad_byte at' cut' f) =
      let same : ◌≡◌ {A = Result (List Token) ℕ} (Err at) (Err at') = one_scan text 0 (Err at) (Err at') cut cut' in
      let place_is : at ≡ at' = cc in e ∙ (ap (λ n. Err (TemplateError.BadByte n)) place_is ∙ sym f)
  one_answer r s (HasTemplate.bad_byte at cut e) (HasTemplate.misspelled tokens k cut' fault f) = let bad : ◌≡◌ {A = Result (List Token) ℕ} (Err at) (Ok tokens) = one_scan text 0 (Err at) (Ok tokens) cut cut' in absurd cc
  one_answer r s (HasTemplate.bad_byte at cut e) (HasTemplate.spelled tokens runs n cut' spells f) = let bad : ◌≡◌ {A = Result (List Token) ℕ} (Err at) (Ok tokens) = one_scan text 0 (Err at) (Ok tokens) cut cut' in absurd cc
  one_answer r s (HasTemplate.misspelled tokens k cut fault e) (HasTemplate.bad_byte at cut' f) = let bad : ◌≡◌ {A = Result (List Token) ℕ} (Err at) (Ok tokens) = one_scan text 0 (Err at) (Ok tokens) cut' cut in absurd cc
  one_answer r s (HasTemplate.misspelled tokens k cut fault e) (HasTemplate.misspelled others m cut' fault' f) =
      let same : others ≡ tokens = same_tokens others tokens (one_scan text 0 (Ok others) (Ok tokens) cut' cut) in
      let number : k ≡ m = one_fault (words_of text tokens) k m fault (subst (λ ts. IsFault (words_of text ts) m) same fault') in
      e ∙ (ap (λ n. Err (TemplateError.Syntax (place text (slice_get tokens n)))) number ∙ (ap (λ ts. Err (TemplateError.Syntax (place text (slice_get ts m)))) (sym same) ∙ sym f))
    where
      same_tokens : (ts us : List Token) → ◌≡◌ {A = Result (List Token) ℕ} (Ok ts) (Ok us) → ts ≡ us
      same_tokens ts us e = cc
  one_answer r s (HasTemplate.misspelled tokens k cut fault e) (HasTemplate.spelled others runs n cut' spells f) =
      let same : others ≡ tokens = same_tokens others tokens (one_scan text 0 (Ok others) (Ok tokens) cut' cut) in
      absurd (no_template (words_of text tokens) k runs n fault (subst (λ ts. Spells (words_of text ts) runs n) same spells))
    where
      same_tokens : (ts us : List Token) → ◌≡◌ {A = Result (List Token) ℕ} (Ok ts) (Ok us) → ts ≡ us
      same_tokens ts us e = cc
  one_answer r s (HasTemplate.spelled tokens runs n cut spells e) (HasTemplate.bad_byte at cut' f) = let bad : ◌≡◌ {A = Result (List Token) ℕ} (Err at) (Ok tokens) = one_scan text 0 (Err at) (Ok tokens) cut' cut in absurd cc
  one_answer r s (HasTemplate.spelled tokens runs n cut spells e) (HasTemplate.misspelled others k cut' fault f) =
      let same : others ≡ tokens = same_tokens others tokens (one_scan text 0 (Ok others) (Ok tokens) cut' cut) in
      absurd (no_template (words_of text tokens) k runs n (subst (λ ts. IsFault (words_of text ts) k) same fault) spells)
    where
      same_tokens : (ts us : List Token) → ◌≡◌ {A = Result (List Token) ℕ} (Ok ts) (Ok us) → ts ≡ us
      same_tokens ts us e = cc
  one_answer r s (HasTemplate.spelled tokens runs n cut spells e) (HasTemplate.spelled others more m cut' spells' f) =
      let same : others ≡ tokens = same_tokens others tokens (one_scan text 0 (Ok others) (Ok tokens) cut' cut) in
      let both = one_spelling (words_of text tokens) more runs m n (subst (λ ts. Spells (words_of text ts) more m) same spells') spells in
      one_resolved runs n r s e (subst (λ k. Resolves sig text runs k s) both.1 (subst (λ rs. Resolves sig text rs m s) both.0 f))
    where
      same_tokens : (ts us : List Token) → ◌≡◌ {A = Result (List Token) ℕ} (Ok ts) (Ok us) → ts ≡ us
      same_tokens ts us e = cc

pub one_template : OneTemplate
one_template sig text r s a b = one_answer sig text r s a b

-- ---- the bounds

depth_bounds : (d : ℕ) (ws : List Word) → DepthWords d ws → (1 ≤ d) × (d ≤ 2)
depth_bounds d ws DepthWords.left_out = (omega arith, omega arith)
depth_bounds d ws (DepthWords.given e low high) = (low, high)

terms_bound : (n : ℕ) (ws : List Word) → TermsWords n ws → n ≤ 3
terms_bound n ws TermsWords.left_out = omega arith
terms_bound n ws (TermsWords.given t h) = h

below : (sorts : List (List ℕ)) (sort : ℕ) (name : List ℕ) → slice_get sorts sort ≡ Some name → sort < length sorts
below [] sort name e = absurd (none-some name e)
below (s ∷ sorts) zero name e = omega arith
below (s ∷ sorts) (suc sort) name e = let rest : sort < length sorts = below sorts sort name e in omega (arith, rest)

module _ (sig : Signature) (text : List ℕ) where
  runs_bound : (named : List NamedRun) (prefix : List Run) → AllByRecursion (λ run. 0 < run.count) named → AreRuns sig text named prefix → AllByRecursion (λ run. (0 < run.count) × (run.sort < length sig.sorts)) prefix
  runs_bound [] [] some a = tt
  runs_bound [] (x ∷ prefix) some a = absurd a
  runs_bound (r ∷ named) [] some a = absurd a
  runs_bound (r ∷ named) (x ∷ prefix) some a =
      ((omega (arith, some.0, a.1.0), below sig.sorts x.sort _ a.1.1.0.0), runs_bound named prefix some.1 a.1.1.1)

  bounded : (words : List Word) (runs : List NamedRun) (n : Numbers) (prefix : List Run) (t : Template) → Spells words runs n → AreRuns sig text runs prefix → Bounds prefix n (Ok t) → IsTemplate sig t
  bounded words runs n prefix t s are (Bounds.variables_over h e) = absurd cc
  bounded words runs n prefix t s are (Bounds.literals_over h k e) = absurd cc
  bounded words runs n prefix t s are (Bounds.within h k e) =
      let same : t ≡ record { prefix = prefix; literals = n.literals; depth = n.depth; terms = n.terms } = cc in
      subst (IsTemplate sig) (sym same) (record { runs = runs_bound runs prefix s.counts are; variables = h; some = s.some; few = k; depth = depth_bounds n.depth s.depth_words s.depth; terms = terms_bound n.terms s.terms_words s.terms })

  resolved : (words : List Word) (runs : List NamedRun) (n : Numbers) (t : Template) → Spells words runs n → Resolves sig text runs n (Ok t) → IsTemplate sig t
  resolved words runs n t s (Resolves.unknown k x is none before e) = absurd cc
  resolved words runs n t s (Resolves.known prefix are b) = bounded words runs n prefix t s are b

  template_of : (t : Template) → HasTemplate sig text (Ok t) → IsTemplate sig t
  template_of t (HasTemplate.bad_byte at cut e) = absurd cc
  template_of t (HasTemplate.misspelled tokens k cut fault e) = absurd cc
  template_of t (HasTemplate.spelled tokens runs n cut spells e) = resolved (words_of text tokens) runs n t spells e

pub texts_are_templates : TextsAreTemplates
texts_are_templates sig text t is = template_of sig text t is
