-- What a worker's search says of what is searched.
use Rattle.std.specs.Prelude.{◌≡◌, ℕ, List, length, IfOk, IfErr, Result, Ok, Err}
use Rattle.std.proofs.Common.{sym, ap, ◌∙◌, subst}
use Rattle.sw_meaning.specs.declared.template.Template.{Template}
use Rattle.sw_logic.specs.declared.syntax.Formula.{Formula}
use Rattle.sw_template.specs.Bodies.{Class}
use Rattle.sw_filter.specs.declared.filter.Mode.TheVariants.{Finish}
use Rattle.sw_claims.specs.declared.rule.ClaimView.{ClaimView}
use Rattle.sw_claims.specs.ClaimsRule.{opened}
use Rattle.sw_core.specs.Machine.{Search, parts_in}
use Rattle.sw_hand.specs.Hands.{search_of}
use Rattle.sw_seek.specs.declared.errors.FinishError.{FinishError}
use Rattle.sw_seek.specs.declared.seeking.Sought.{Sought}
use Rattle.sw_seek.specs.Seeking.{IsCause, IsSought}
use Rattle.sw_finish.specs.declared.finding.Finder.{Finder}
use Rattle.sw_finish.specs.Joins.{CanFind, searched}

-- an answer that is known
pub ok_is : {A E : Type 0} (P : A → Type 0) (r : Result A E) (x : A) → IfOk r (λ y. y ≡ x) → P x → IfOk r P
ok_is P (Ok y) x is h = subst P (sym is) h
ok_is P (Err e) x is h = tt

pub ok_weaker : {A E : Type 0} (P Q : A → Type 0) (r : Result A E) → ((x : A) → P x → Q x) → IfOk r P → IfOk r Q
ok_weaker P Q (Ok x) weaker h = weaker x h
ok_weaker P Q (Err e) weaker h = tt

module _ {G S : Type 0} (template : S → Template) (lists : S → List (List (List ℕ))) (Has : S → Class → Type 0) (formula : S → Class → Formula)
    (f : Finder G S) (can : CanFind template lists Has formula f) where
  abbrev Named : Search
  Named = search_of f.task.now.protocol.now (template f.task.now.space.now) Finish f.task.now.workers

  same : Named ≡ searched template f
  same = ap (λ mode. search_of f.task.now.protocol.now (template f.task.now.space.now) mode f.task.now.workers) (sym can.finish)

  pub opened_is : (c : ClaimView) (splits : ℕ) → c ≡ opened (length (lists f.task.now.space.now)) splits
      → c ≡ opened (length (parts_in (searched template f))) splits
  opened_is c splits e = e ∙ ap (λ ps. opened (length ps) splits) can.can.are_parts

  pub sought_alone : (a : Result Sought FinishError) (c d : ClaimView) → c ≡ opened (length (lists f.task.now.space.now)) 0
      → IfOk a (IsSought Named f.task.now.pool.now f.task.now.worker f.entries.now f.budget c d)
      → IfOk a (IsSought (searched template f) f.task.now.pool.now 0 f.entries.now f.budget (opened (length (parts_in (searched template f))) 0) d)
  sought_alone a c d e h =
      subst (λ n. IfOk a (IsSought (searched template f) f.task.now.pool.now n f.entries.now f.budget (opened (length (parts_in (searched template f))) 0) d))
      can.zero
      (subst (λ v. IfOk a (IsSought (searched template f) f.task.now.pool.now f.task.now.worker f.entries.now f.budget v d)) (opened_is c 0 e)
      (subst (λ m. IfOk a (IsSought m f.task.now.pool.now f.task.now.worker f.entries.now f.budget c d)) same h))

  pub cause_of : (a : Result Sought FinishError) → IfErr a (IsCause Named f.entries.now f.budget) → IfErr a (IsCause (searched template f) f.entries.now f.budget)
  cause_of a h = subst (λ m. IfErr a (IsCause m f.entries.now f.budget)) same h
