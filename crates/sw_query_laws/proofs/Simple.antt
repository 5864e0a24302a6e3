-- The queries whose structures are states: what they mean.
use Rattle.std.specs.Prelude.{List, [], ◌∷◌, ◌++◌}
use Rattle.sw_logic.specs.declared.syntax.Formula.{Formula}
use Rattle.sw_logic.specs.declared.syntax.Formula.TheVariants.{Not, All}
use Rattle.sw_logic.specs.declared.structure.Structure.{Structure}
use Rattle.sw_logic.specs.Truth.{AreTrueIn, IsTrueIn}
use Rattle.sw_meaning.specs.declared.protocol.Protocol.{Protocol}
use Rattle.sw_meaning.proofs.Lists.{AreTrueIn-append}
use Rattle.sw_lists.proofs.Each.{each-front, each-back}
use Rattle.sw_query_laws.specs.Laws.{StartQueryMeans, FollowQueryMeans, SafetyStartQueryMeans}
use Rattle.sw_query_laws.proofs.Sentences.{negation_false, negation_true, conjunction_true, conjunction_parts}

-- two lists of sentences and the negation of one more
record Parts (p : Protocol) (s : Structure) (g h : List Formula) (f : Formula) : Type 0 where
  first : AreTrueIn p.signature s g
  second : AreTrueIn p.signature s h
  last : AreTrueIn p.signature s (Not f ∷ [])

parts : (p : Protocol) (s : Structure) (g h : List Formula) (f : Formula) → AreTrueIn p.signature s (g ++ h ++ Not f ∷ []) → Parts p s g h f
parts p s g h f a =
    let sig = p.signature in
    let front = each-front (IsTrueIn sig s) (g ++ h) (Not f ∷ []) a in
    record {
      first = each-front (IsTrueIn sig s) g h front;
      second = each-back (IsTrueIn sig s) g h front;
      last = each-back (IsTrueIn sig s) (g ++ h) (Not f ∷ []) a;
    }

together : (p : Protocol) (s : Structure) (g h : List Formula) (f : Formula) → Parts p s g h f → AreTrueIn p.signature s (g ++ h ++ Not f ∷ [])
together p s g h f a = AreTrueIn-append p.signature s (g ++ h) (Not f ∷ []) (AreTrueIn-append p.signature s g h a.first a.second) a.last

pub start_query_means : StartQueryMeans
start_query_means p f s = (
  λ q. let a = parts p s p.axioms p.inits f q.sentences in
      record { start = record { fits = q.fits; axioms = a.first; inits = a.second }; false_in = negation_false p.signature s f a.last.0 },
  λ x. record {
    fits = x.start.fits;
    sentences = together p s p.axioms p.inits f (record { first = x.start.axioms; second = x.start.inits; last = (negation_true p.signature s f x.false_in, tt) });
  },
)

pub follow_query_means : FollowQueryMeans
follow_query_means p g f s = (
  λ q. let a = parts p s p.axioms g f q.sentences in
      record { fits = q.fits; axioms = a.first; list = a.second; false_in = negation_false p.signature s f a.last.0 },
  λ x. record {
    fits = x.fits;
    sentences = together p s p.axioms g f (record { first = x.axioms; second = x.list; last = (negation_true p.signature s f x.false_in, tt) });
  },
)

pub safety_start_query_means : SafetyStartQueryMeans
safety_start_query_means p s =
    let sig = p.signature in
    let f = All p.safeties in (
      λ q. let a = parts p s p.axioms p.inits f q.sentences in
          (record { fits = q.fits; axioms = a.first; inits = a.second }, λ safe. negation_false sig s f a.last.0 (conjunction_true sig s p.safeties safe)),
      λ x. record {
        fits = x.0.fits;
        sentences = together p s p.axioms p.inits f (record { first = x.0.axioms; second = x.0.inits; last = (negation_true sig s f (λ h. x.1 (conjunction_parts sig s p.safeties h)), tt) });
      },
    )
