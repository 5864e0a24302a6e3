-- What two answers to searches of a protocol with the same templates have in common, but for a query that ended one of them.
use Rattle.std.specs.Prelude.{◌≡◌, ◌⊎◌, ℕ, List, [], length, Option, None}
use Rattle.std.proofs.Common.{refl, arith, sym, ap, ◌∙◌, inl, inr}
use Rattle.sw_meaning.specs.declared.protocol.Protocol.{Protocol}
use Rattle.sw_meaning.specs.declared.template.Template.{Template}
use Rattle.sw_words.specs.declared.commands.Options.{Options}
use Rattle.sw_report.specs.Words.{text_over_line}
use Rattle.sw_space.specs.declared.faults.SpaceFault.{SpaceFault}
use Rattle.sw_search.specs.Searches.{IsStopped}
use Rattle.sw_run.specs.Ending.{Answer, Searches, Reports, Names, NamesFault, NamesBy, refused, stop}
use Rattle.sw_run.specs.Laws.{IsEnded, HaveSameTemplates, TellsReport, Finds, FindTheSame}
use Rattle.sw_run.specs.declared.told.Refusal.TheVariants.{BreadthFaulty, FinishFaulty}
use Rattle.sw_run.proofs.Naming.{one_naming, named_not_faulty, one_named_fault, named_not_unfinished, one_finish_fault, breadth_by, finish_by, named_by}
use Rattle.sw_run.proofs.OneReport.{one_text, say_same}

-- what a search with the templates of `o` answers: a query ended it, it found a list, or a template has a fault
data Outcome (o v : Options) (p : Protocol) (a : Answer) : Type 0 where
  ended : IsEnded a → Outcome o v p a
  found : (f : Finds v p a) → NamesBy o p f.breadth f.finish → Outcome o v p a
  breadth_faulty : (f : SpaceFault) → NamesFault o.breadth p None f → a ≡ refused (BreadthFaulty f) → Outcome o v p a
  finish_faulty : (t : Option Template) (f : SpaceFault) → Names o.breadth p None t → NamesFault o.finish p t f → a ≡ refused (FinishFaulty f) → Outcome o v p a

module _ (o v : Options) (same : HaveSameTemplates o v) (p : Protocol) (a : Answer) where
  reported : Reports v p a → Outcome o v p a
  reported r = Outcome.found (record {
    breadth = r.breadth;
    finish = r.finish;
    named = r.named;
    status = a.status;
    text = a.text;
    report = r.report;
    tells = TellsReport.told r.within (ap (λ z. record { status = a.status; text = a.text; line = z }) r.line);
  }) (named_by o v same p r.breadth r.finish r.named)

  stopped : (t u : Option Template) → NamesBy v p t u → IsStopped p t u v.workers v.conflicts a.line → a ≡ stop a.line → Outcome o v p a
  stopped t u by (IsStopped.asked query how stops is) told = Outcome.ended (record { sig = p.signature; query = query; ended = how; is = told ∙ ap stop is })
  stopped t u by (IsStopped.over n over is) told = Outcome.found (record {
    breadth = t;
    finish = u;
    named = by;
    status = over.status;
    text = over.bytes;
    report = over.report;
    tells = TellsReport.over over.over (told ∙ ap stop (is ∙ ap text_over_line over.is));
  }) (named_by o v same p t u by)

  outcome : Searches v p a → Outcome o v p a
  outcome (Searches.report r) = reported r
  outcome (Searches.stopped s) = stopped s.breadth s.finish s.named s.ended s.is
  outcome (Searches.breadth_faulty f has is) = Outcome.breadth_faulty f (breadth_by o v same p (λ given. NamesFault given p None f) has) is
  outcome (Searches.finish_faulty t f by has is) =
      Outcome.finish_faulty t f (breadth_by o v same p (λ given. Names given p None t) by) (finish_by o v same p (λ given. NamesFault given p t f) has) is

-- a query ended one of them, they are one, or both found a list
abbrev pub Common : Options → Options → Answer → Answer → Type 0
Common v w a b = (IsEnded a ⊎ IsEnded b) ⊎ ((a ≡ b) ⊎ FindTheSame v w a b)

module _ (o v w : Options) (p : Protocol) (a b : Answer) where
  both_found : (f : Finds v p a) (g : Finds w p b) → NamesBy o p f.breadth f.finish → NamesBy o p g.breadth g.finish → Common v w a b
  both_found f g by also = inr (inr (record {
    protocol = p;
    one = f;
    other = g;
    same = say_same p f.breadth f.finish g.breadth g.finish (one_naming o p f.breadth f.finish g.breadth g.finish by also) v.workers w.workers f.status g.status f.text g.text f.report g.report;
  }))

  common : Outcome o v p a → Outcome o w p b → Common v w a b
  common (Outcome.ended x) y = inl (inl x)
  common x (Outcome.ended y) = inl (inr y)
  common (Outcome.found f by) (Outcome.found g also) = both_found f g by also
  common (Outcome.found r by) (Outcome.breadth_faulty f has is) = absurd (named_not_faulty o.breadth p None r.breadth f by.breadth has)
  common (Outcome.found r by) (Outcome.finish_faulty t f names has is) = absurd (named_not_unfinished o p r.breadth r.finish t f by names has)
  common (Outcome.breadth_faulty f has is) (Outcome.found r by) = absurd (named_not_faulty o.breadth p None r.breadth f by.breadth has)
  common (Outcome.breadth_faulty f has is) (Outcome.breadth_faulty g also is') = inr (inl (is ∙ (ap (λ x. refused (BreadthFaulty x)) (one_named_fault o.breadth p None f g has also) ∙ sym is')))
  common (Outcome.breadth_faulty f has is) (Outcome.finish_faulty t g names also is') = absurd (named_not_faulty o.breadth p None t f names has)
  common (Outcome.finish_faulty t f names has is) (Outcome.found r by) = absurd (named_not_unfinished o p r.breadth r.finish t f by names has)
  common (Outcome.finish_faulty t f names has is) (Outcome.breadth_faulty g also is') = absurd (named_not_faulty o.breadth p None t g names also)
  common (Outcome.finish_faulty t f names has is) (Outcome.finish_faulty x g others also is') =
      inr (inl (is ∙ (ap (λ z. refused (FinishFaulty z)) (one_finish_fault o p t x f g names others has also) ∙ sym is')))

same_templates : (o : Options) → HaveSameTemplates o o
same_templates o = record { breadth = refl; finish = refl }

pub common_searches : (o v : Options) (p : Protocol) (a b : Answer) → HaveSameTemplates o v → Searches o p a → Searches v p b → Common o v a b
common_searches o v p a b same x y = common o o v p a b (outcome o o (same_templates o) p a x) (outcome o v same p b y)

-- the same status and text are told alike
one_telling : (m n : ℕ) (x y : List ℕ) (a b : Answer) → (m ≡ n) × (x ≡ y) → TellsReport m x a → TellsReport n y b → a ≡ b
one_telling m n x y a b same (TellsReport.told few is) (TellsReport.told few' is') =
    is ∙ (ap (λ k. record { status = k; text = x; line = [] }) same.0 ∙ (ap (λ z. record { status = n; text = z; line = [] }) same.1 ∙ sym is'))
one_telling m n x y a b same (TellsReport.told few is) (TellsReport.over many is') = absurd (omega (arith, ap length same.1, few, many))
one_telling m n x y a b same (TellsReport.over many is) (TellsReport.told few is') = absurd (omega (arith, ap length same.1, few, many))
one_telling m n x y a b same (TellsReport.over many is) (TellsReport.over many' is') = is ∙ (ap (λ z. stop (text_over_line (length z))) same.1 ∙ sym is')

-- what one worker finds is told in one way
one_finding : (o : Options) (a b : Answer) → o.workers ≡ 1 → FindTheSame o o a b → a ≡ b
one_finding o a b one f =
    let names : (f.one.breadth ≡ f.other.breadth) × (f.one.finish ≡ f.other.finish) =
    one_naming o f.protocol f.one.breadth f.one.finish f.other.breadth f.other.finish f.one.named f.other.named in
    one_telling f.one.status f.other.status f.one.text f.other.text a b
    (one_text f.protocol f.one.breadth f.one.finish f.other.breadth f.other.finish names o.workers f.one.status f.other.status f.one.text f.other.text one f.one.report f.other.report)
    f.one.tells f.other.tells

-- with one worker a protocol has one answer to a search, but for a query that ended it
pub one_search : (o : Options) (p : Protocol) (a b : Answer) → o.workers ≡ 1 → Searches o p a → Searches o p b → (IsEnded a ⊎ IsEnded b) ⊎ (a ≡ b)
one_search o p a b one x y = told (common_searches o o p a b (same_templates o) x y)
  where
    told : Common o o a b → (IsEnded a ⊎ IsEnded b) ⊎ (a ≡ b)
    told (inl lost) = inl lost
    told (inr (inl same)) = inr same
    told (inr (inr both)) = inr (one_finding o a b one both)
