-- A protocol and the templates that there are have one report.
use Rattle.std.specs.Prelude.{◌≡◌, ℕ, List, [], ◌∷◌, ◌++◌, drop, slice_get, Option, Some, None, Contains}
use Rattle.std.proofs.Common.{refl, sym, ap, subst, ◌∙◌}
use Rattle.std.proofs.lemmas.Option.{same_Some}
use Rattle.sw_lists.proofs.Members.{contains_head, contains_tail}
use Rattle.sw_logic.specs.declared.syntax.Formula.{Formula}
use Rattle.sw_meaning.specs.declared.protocol.Protocol.{Protocol}
use Rattle.sw_meaning.specs.declared.template.Template.{Template}
use Rattle.sw_meaning.specs.Classes.{classes, formula_of}
use Rattle.sw_meaning.specs.Plain.{formulas_of}
use Rattle.sw_meaning.specs.Verdict.{Word, Joins}
use Rattle.sw_meaning.specs.Report.{report_text}
use Rattle.sw_meaning.specs.Laws.{SameWord, OneMeaning}
use Rattle.sw_meaning.proofs.OneMeaning.{lists_have_one_meaning}
use Rattle.sw_meaning.proofs.OnePlain.{plain_is_one}
use Rattle.sw_report.specs.Words.{word_status}
use Rattle.sw_seek.specs.Seeking.{IsFirstJoined}
use Rattle.sw_search.specs.Searches.{IsPlain, IsFirst, IsReport}
use Rattle.sw_search.specs.Laws.{OneReport, ReportsSayTheSame}

one_list : (p : Protocol) (t : Option Template) (g h : List Formula) → IsPlain p t g → IsPlain p t h → g ≡ h
one_list p None g h a b = a ∙ sym b
one_list p (Some t) g h a b = a.2 ∙ (ap (formulas_of p t) (plain_is_one p t a.0 b.0 a.1 b.1) ∙ sym b.2)

-- no element of the list has the property
abbrev None_of : {X : Type 0} → (X → Type 0) → List X → Type 0
None_of {X} P xs = (x : X) → Contains xs x → P x → ⊥

-- two equal lists have one first element with a property
one_first : {X : Type 0} (P : X → Type 0) (before front : List X) (x y : X) (after rest : List X) → before ++ x ∷ after ≡ front ++ y ∷ rest → None_of P before → None_of P front → P x → P y → x ≡ y
one_first P [] [] x y after rest e n m a b = same_Some x y (ap (λ l. slice_get l 0) e)
one_first P [] (z ∷ front) x y after rest e n m a b = absurd (m z (contains_head z front) (subst P (same_Some x z (ap (λ l. slice_get l 0) e)) a))
one_first P (z ∷ before) [] x y after rest e n m a b = absurd (n z (contains_head z before) (subst P (sym (same_Some z y (ap (λ l. slice_get l 0) e))) b))
one_first P (z ∷ before) (w ∷ front) x y after rest e n m a b =
    one_first P before front x y after rest (ap (drop 1) e) (λ v c. n v (contains_tail z before v c)) (λ v c. m v (contains_tail w front v c)) a b

one_joined : (p : Protocol) (u : Template) (g : List Formula) (cs : List (List ℕ)) (c d : List ℕ) → IsFirstJoined p u g cs c → IsFirstJoined p u g cs d → c ≡ d
one_joined p u g cs c d a b = one_first (λ c. Joins p g (formula_of p.signature u c)) a.before b.before c d a.after b.after (sym a.at ∙ b.at) a.none b.none a.joins b.joins

one_word : (p : Protocol) (u : Option Template) (g : List Formula) (w v : Word) → IsFirst p u g w → IsFirst p u g v → SameWord w v → w ≡ v
one_word p u g Word.violated Word.violated a b s = refl
one_word p u g Word.safe Word.safe a b s = refl
one_word p None g (Word.safe_with f) (Word.safe_with h) a b s = absurd a
one_word p (Some u) g (Word.safe_with f) (Word.safe_with h) a b s =
    ap Word.safe_with (a.2 ∙ (ap (formula_of p.signature u) (one_joined p u g (classes p.signature u) a.0 b.0 a.1 b.1) ∙ sym b.2))
one_word p u g Word.exhausted Word.exhausted a b s = refl
one_word p u g Word.unsettled Word.unsettled a b s = refl
one_word p u g w v a b s = absurd s

one_status : (w v : Word) → SameWord w v → word_status w ≡ word_status v
one_status Word.violated Word.violated s = refl
one_status Word.safe Word.safe s = refl
one_status (Word.safe_with f) (Word.safe_with h) s = refl
one_status Word.exhausted Word.exhausted s = refl
one_status Word.unsettled Word.unsettled s = refl
one_status w v s = absurd s

meaning_of : (p : Protocol) (t u : Option Template) (v w m n : ℕ) (xs ys : List ℕ) (a : IsReport p t u v m xs) (b : IsReport p t u w n ys) → OneMeaning p a.list b.list
meaning_of p t u v w m n xs ys a b = lists_have_one_meaning p t a.list b.list a.found.earned a.found.closed b.found.earned b.found.closed

pub reports_say_the_same : ReportsSayTheSame
reports_say_the_same p t u v w m n xs ys a b =
    let meaning = meaning_of p t u v w m n xs ys a b in
    record { status = a.ends ∙ (one_status a.word b.word (meaning.word u a.word b.word a.says.verdict b.says.verdict) ∙ sym b.ends); meaning = meaning }

pub one_report : OneReport
one_report p t u m n xs ys a b =
    let lists : a.list ≡ b.list = one_list p t a.list b.list (a.found.plain refl) (b.found.plain refl) in
    let meaning : OneMeaning p a.list b.list = meaning_of p t u 1 1 m n xs ys a b in
    let same : SameWord a.word b.word = meaning.word u a.word b.word a.says.verdict b.says.verdict in
    let words : a.word ≡ b.word = one_word p u b.list a.word b.word (subst (λ g. IsFirst p u g a.word) lists (a.says.first refl)) (b.says.first refl) same in (
      a.ends ∙ (ap word_status words ∙ sym b.ends),
      a.text ∙ (ap (λ g. report_text p t g a.word) lists ∙ (ap (report_text p t b.list) words ∙ sym b.text)),
    )
