-- Where no query under all classes is too large, none under some of them is.
use Rattle.std.specs.Prelude.{◌≡◌, List, [], ◌∷◌, ◌++◌, Option, Some, None, Contains}
use Rattle.std.proofs.Common.{arith, refl, sym, subst}
use Rattle.std.proofs.lemmas.List.Sorted.{length_permutation}
use Rattle.sw_lists.proofs.Each.{of_contained}
use Rattle.sw_logic.specs.declared.syntax.Formula.{Formula}
use Rattle.sw_logic.specs.declared.query.Query.{Query}
use Rattle.sw_decide.specs.Known.{IsWithin}
use Rattle.sw_meaning.specs.declared.protocol.Protocol.{Protocol}
use Rattle.sw_meaning.specs.declared.template.Template.{Template}
use Rattle.sw_queries.specs.Queries.{follow_query_of, step_query_of, join_query_of}
use Rattle.sw_size_laws.specs.Asked.{CanAskAbout}
use Rattle.sw_size_laws.specs.Laws.{ListsGrow}
use Rattle.sw_size_laws.specs.Part.{IsPartOf}
use Rattle.sw_size_laws.specs.Sizes.{IsNoLarger}
use Rattle.sw_completeness.specs.Worst.{all_formulas, IsAskedUnder, MayAsk, WorstIsWithin}
use Rattle.sw_completeness.proofs.Sides.{CanAskAll}

-- what is no larger than what is within is within
no_larger : (q r s : Query) → q ≡ r → IsNoLarger r s → IsWithin s → IsWithin q
no_larger q r s is small within = subst IsWithin (sym is) (λ past. within (small.past past))

module _ (grow : ListsGrow) (p : Protocol) (t u : Option Template) (can : CanAskAll p t u) (worst : WorstIsWithin p t u) where
  abbrev all : List Formula
  all = all_formulas p t

  first : (f : Formula) → Contains all f → CanAskAbout p can.extra f
  first f among = of_contained (CanAskAbout p can.extra) all f can.first among

  last : (f : Formula) → Contains (all_formulas p u) f → CanAskAbout p can.extra f
  last f among = of_contained (CanAskAbout p can.extra) (all_formulas p u) f can.last among

  asked_within : (q : Query) (may : MayAsk p t u q) → IsAskedUnder p t u may.list q → IsWithin q
  asked_within q may (IsAskedUnder.start f among is) = worst q (IsAskedUnder.start f among is)
  asked_within q may (IsAskedUnder.follow f among is) =
      no_larger q (follow_query_of p may.list f) (follow_query_of p all f) is (grow.follow p can.extra may.list all f may.part can.under (first f among))
      (worst (follow_query_of p all f) (IsAskedUnder.follow f among refl))
  asked_within q may (IsAskedUnder.step f m among of is) =
      no_larger q (step_query_of p m may.list f) (step_query_of p m all f) is (grow.step p can.extra may.list all f m may.part can.under (first f among) of)
      (worst (step_query_of p m all f) (IsAskedUnder.step f m among of refl))
  asked_within q may (IsAskedUnder.safety_start is) = worst q (IsAskedUnder.safety_start is)
  asked_within q may (IsAskedUnder.safety_step m of is) =
      no_larger q (join_query_of p m may.list None) (join_query_of p m all None) is (grow.join p can.extra may.list all None m may.part can.under tt of)
      (worst (join_query_of p m all None) (IsAskedUnder.safety_step m of refl))
  asked_within q may (IsAskedUnder.finish_start f among is) = worst q (IsAskedUnder.finish_start f among is)
  asked_within q may (IsAskedUnder.join f m among of is) =
      no_larger q (join_query_of p m may.list (Some f)) (join_query_of p m all (Some f)) is
      (grow.join p can.extra may.list all (Some f) m may.part can.under (last f among) of)
      (worst (join_query_of p m all (Some f)) (IsAskedUnder.join f m among of refl))

  pub may_within : (q : Query) → MayAsk p t u q → IsWithin q
  may_within q may = asked_within q may may.asked

-- without a template to search the one list is empty
part_of_none : {X : Type 0} (xs : List X) → IsPartOf xs [] → xs ≡ []
part_of_none [] h = refl
part_of_none (x ∷ xs) h = let count = length_permutation (x ∷ xs ++ h.rest) [] h.is in absurd (omega arith)

pub may_within_none : (p : Protocol) (u : Option Template) → WorstIsWithin p None u → (q : Query) → MayAsk p None u q → IsWithin q
may_within_none p u worst q may = worst q (subst (λ g. IsAskedUnder p None u g q) (part_of_none may.list may.part) may.asked)
