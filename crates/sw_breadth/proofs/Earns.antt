-- Lists that were gained are earned, and what an error says of them.
use Rattle.std.specs.Prelude.{◌≡◌, ℕ, zero, suc, ◌+◌, ◌++◌, List, [], ◌∷◌, map, length, take, Option, Some, Result, Ok, Err, IsErrAnd, IfErr}
use Rattle.std.specs.List.{AllByRecursion}
use Rattle.std.proofs.Common.{refl, sym, ap, ◌∙◌, subst, append_assoc}
use Rattle.std.proofs.lemmas.List.{append-nil}
use Rattle.sw_lists.proofs.Each.{each-append, each-map}
use Rattle.sw_logic.specs.declared.syntax.Formula.{Formula}
use Rattle.sw_logic.specs.declared.query.Query.{Query}
use Rattle.sw_meaning.specs.Inductive.{Earned, EarnedAfter}
use Rattle.sw_meaning.specs.Plain.{formulas_of as plain_formulas}
use Rattle.sw_template.specs.Bodies.{Class}
use Rattle.sw_examine.specs.Answers.{IsSpentBy, IsTooLargeBy}
use Rattle.sw_examine.specs.Examinations.{IsAsked}
use Rattle.sw_examine.specs.declared.examining.QueryName.{QueryName}
use Rattle.sw_log.specs.declared.entry.Entry.{Entry}
use Rattle.sw_core.specs.Machine.{Search, formula_in, parts_in}
use Rattle.sw_core.specs.Gathered.{AreGained, formulas_of}
use Rattle.sw_walk.specs.Parts.{classes_of, IsClass}
use Rattle.sw_work.specs.declared.errors.BreadthError.{BreadthError}
use Rattle.sw_work.specs.declared.errors.BreadthError.TheVariants.{Memory, Spent, TooLarge}
use Rattle.sw_work.specs.Works.{bodies_of, seen_formulas}
use Rattle.sw_work.specs.Works.{AskedUnder as AskedAt}
use Rattle.sw_work.specs.Works.{IsCause as IsCauseAt}
use Rattle.sw_breadth.specs.Joins.{IsCauseOfRound}
use Rattle.sw_breadth.specs.Rounds.{AskedUnder, IsCause}
use Rattle.sw_breadth.proofs.Ends.{Listed, seen_listed}

each_take : {X : Type 0} (P : X → Type 0) (n : ℕ) (xs : List X) → AllByRecursion P xs → AllByRecursion P (take n xs)
each_take P zero xs a = tt
each_take P (suc n) [] a = tt
each_take P (suc n) (x ∷ xs) a = (a.0, each_take P n xs a.1)

-- an error that is passed on
pub passed : {A E : Type 0} (P : E → Type 0) (e : E) (r : Result A E) → IsErrAnd r (λ x. x ≡ e) → P e → IfErr r P
passed P e (Ok x) is h = absurd is
passed P e (Err x) is h = subst P (sym is) h

module _ (m : Search) where
  pub gained_on : (log : List Formula) (es fs : List Entry) → AreGained m log es → AreGained m (log ++ formulas_of m es) fs → AreGained m log (es ++ fs)
  gained_on log [] fs a b = subst (λ l. AreGained m l fs) (append-nil log) b
  gained_on log (e ∷ es) fs a b =
      (a.0, a.1, gained_on (log ++ formula_in m e.body.cubes ∷ []) es fs a.2 (subst (λ l. AreGained m l fs) (sym (append_assoc log (formula_in m e.body.cubes ∷ []) (formulas_of m es))) b))

  gained_take : (log : List Formula) (n : ℕ) (es : List Entry) → AreGained m log es → AreGained m log (take n es)
  gained_take log zero es a = tt
  gained_take log (suc n) [] a = tt
  gained_take log (suc n) (e ∷ es) a = (a.0, a.1, gained_take (log ++ formula_in m e.body.cubes ∷ []) n es a.2)

  earned_of : (before : List Formula) (es : List Entry) → AreGained m before es → EarnedAfter m.protocol (Some m.template) before (formulas_of m es)
  earned_of before [] a = tt
  earned_of before (e ∷ es) a = (a.1.in_space, a.1.inductive, a.1.novel, earned_of (before ++ formula_in m e.body.cubes ∷ []) es a.2)

  -- the formulas of the classes that the entries name
  pub listed_formulas : (es : List Entry) → plain_formulas m.protocol m.template (classes_of (bodies_of es)) ≡ formulas_of m es
  listed_formulas [] = refl
  listed_formulas (e ∷ es) = ap (λ fs. formula_in m e.body.cubes ∷ fs) (listed_formulas es)

  module _ (log : List Entry) (gained : AreGained m [] log) (listed : AllByRecursion (Listed m) log) where
    asked : (list : List Class) (name : QueryName) (Met : Query → Type 0) → AskedAt m log list name Met → AskedUnder m list name Met
    asked list name Met a =
        let front : List Entry = take a.n log in
        let classes : AllByRecursion (Listed m) front = each_take (Listed m) a.n log listed in
        let bodies : AllByRecursion (IsClass (parts_in m)) (bodies_of front) = each-map (IsClass (parts_in m)) (λ (e : Entry). e.body) front classes in
        let earned : Earned m.protocol (Some m.template) (plain_formulas m.protocol m.template (classes_of (bodies_of front))) =
        subst (Earned m.protocol (Some m.template)) (sym (listed_formulas front)) (earned_of [] front (gained_take [] a.n log gained)) in
        let under : seen_formulas m front ≡ plain_formulas m.protocol m.template (classes_of (bodies_of front)) = seen_listed m front classes ∙ sym (listed_formulas front) in
        record {
          classes = subst (AllByRecursion (IsClass (parts_in m))) (sym a.is) bodies;
          earned = subst (λ l. Earned m.protocol (Some m.template) (plain_formulas m.protocol m.template (classes_of l))) (sym a.is) earned;
          body = a.body;
          class = a.class;
          query = a.query;
          asked = subst (λ l. IsAsked m.protocol (plain_formulas m.protocol m.template (classes_of l)) (formula_in m a.body.cubes) a.body a.query name) (sym a.is)
              (subst (λ l. IsAsked m.protocol l (formula_in m a.body.cubes) a.body a.query name) under a.asked);
          met = a.met;
        }

    cause_under : (budget : Option ℕ) (e : BreadthError) → IsCauseAt m budget log e → IsCause m budget e
    cause_under budget Memory c = tt
    cause_under budget (Spent name list steps) c = asked list name (λ q. IsSpentBy q budget steps) c
    cause_under budget (TooLarge name list size) c = asked list name (λ q. IsTooLargeBy q size) c

  -- the cause of an error of a round, after rounds that gained these entries
  pub cause_after : (budget : Option ℕ) (entries : List Entry) (e : BreadthError) → AreGained m [] entries → AllByRecursion (Listed m) entries → IsCauseOfRound m budget entries e → IsCause m budget e
  cause_after budget entries e gained listed c =
      cause_under (entries ++ c.new) (gained_on [] entries c.new gained c.gained) (each-append (Listed m) entries c.new listed c.classes) budget e c.cause
