-- With one worker the options and the protocol fix a report, each byte of it; with more they fix what it says.
use Rattle.std.specs.Prelude.{◌≡◌, ℕ, List, Option}
use Rattle.std.proofs.Common.{refl, sym, ap, ◌∙◌, subst}
use Rattle.sw_meaning.specs.declared.protocol.Protocol.{Protocol}
use Rattle.sw_meaning.specs.declared.template.Template.{Template}
use Rattle.sw_search.specs.Searches.{IsReport}
use Rattle.sw_search.specs.Laws.{IsSameReport}
use Rattle.sw_search.proofs.OneReport as search
use Rattle.sw_run.specs.Laws.{OneReport, SayTheSame, ReportsSayTheSame}
use Rattle.sw_run.proofs.Naming.{one_naming, named_by}

-- what is said of two templates is said of two others that are the same
over_both : (P : Option Template → Option Template → Type 0) (t u x y : Option Template) → (t ≡ x) × (u ≡ y) → P t u → P x y
over_both P t u x y same h = subst (λ z. P z y) same.0 (subst (P t) same.1 h)

module _ (p : Protocol) (t u x y : Option Template) (same : (t ≡ x) × (u ≡ y)) where
  -- two reports of one worker have the same status and the same bytes
  pub one_text : (workers m n : ℕ) (a b : List ℕ) → workers ≡ 1 → IsReport p t u workers m a → IsReport p x y workers n b → (m ≡ n) × (a ≡ b)
  one_text workers m n a b one r s =
      let here : IsReport p x y 1 m a = subst (λ k. IsReport p x y k m a) one (over_both (λ z w. IsReport p z w workers m a) t u x y same r) in
      search.one_report p x y m n a b here (subst (λ k. IsReport p x y k n b) one s)

  -- two reports say the same
  pub say_same : (k l m n : ℕ) (a b : List ℕ) (r : IsReport p t u k m a) (s : IsReport p x y l n b) → SayTheSame p t x m n r.word s.word r.list s.list
  say_same k l m n a b r = over_both (λ z w. (s : IsReport p z w l n b) → SayTheSame p t z m n r.word s.word r.list s.list) t u x y same beside
    where
      beside : (s : IsReport p t u l n b) → SayTheSame p t t m n r.word s.word r.list s.list
      beside s =
          let is : IsSameReport p t u k l m n a b r s = search.reports_say_the_same p t u k l m n a b r s in
          record { template = refl; status = is.status; word = is.meaning.word u r.word s.word r.says.verdict s.says.verdict; lists = is.meaning }

pub one_report : OneReport
one_report options p a b one r s =
    let same : (a.status ≡ b.status) × (a.text ≡ b.text) =
    one_text p r.breadth r.finish s.breadth s.finish (one_naming options p r.breadth r.finish s.breadth s.finish r.named s.named) options.workers a.status b.status a.text b.text one r.report s.report in
    let lines : a.line ≡ b.line = r.line ∙ sym s.line in
    ap (λ n. record { status = n; text = a.text; line = a.line }) same.0
    ∙ (ap (λ z. record { status = b.status; text = z; line = a.line }) same.1
    ∙ ap (λ z. record { status = b.status; text = b.text; line = z }) lines)

pub reports_say_the_same : ReportsSayTheSame
reports_say_the_same o v p a b same r s =
    let names : (r.breadth ≡ s.breadth) × (r.finish ≡ s.finish) =
    one_naming o p r.breadth r.finish s.breadth s.finish r.named (named_by o v same p s.breadth s.finish s.named) in
    say_same p r.breadth r.finish s.breadth s.finish names o.workers v.workers a.status b.status a.text b.text r.report s.report
