-- Steps that are taken one after the other.
use Rattle.std.specs.Prelude.{◌≡◌, ◌↔◌, IsTrue, IfOk, Result, Bool, true, false, List, [], ◌∷◌, ◌++◌, if◌then◌else◌}
use Rattle.std.proofs.Common.{refl, sym, ap, subst, ◌∙◌}
use Rattle.std.specs.declared.alloc.AllocError.{AllocError}
use Rattle.sw_core.specs.declared.steps.Step.{Step}
use Rattle.sw_core.specs.Machine.{Search, Board, Accepts, AreAccepted, after, run}

pub run-append : (m : Search) (s : Board) (xs ys : List Step) → run m s (xs ++ ys) ≡ run m (run m s xs) ys
run-append m s [] ys = refl
run-append m s (x ∷ xs) ys = run-append m (after m s x) xs ys

pub accepted-append : (m : Search) (s : Board) (xs ys : List Step) → AreAccepted m s xs → AreAccepted m (run m s xs) ys → AreAccepted m s (xs ++ ys)
accepted-append m s [] ys a b = b
accepted-append m s (x ∷ xs) ys a b = (a.0, accepted-append m (after m s x) xs ys a.1 b)

pub accepted-back : (m : Search) (s : Board) (xs ys : List Step) → AreAccepted m s (xs ++ ys) → AreAccepted m (run m s xs) ys
accepted-back m s [] ys a = a
accepted-back m s (x ∷ xs) ys a = accepted-back m (after m s x) xs ys a.1

-- the steps may all be taken from s exactly where those that are left may from t
pub record Goes (m : Search) (s : Board) (xs : List Step) (t : Board) (rest : List Step) : Type 0 where
  pub to : AreAccepted m s xs → AreAccepted m t rest
  pub from : AreAccepted m t rest → AreAccepted m s xs

no_false : {P : Type 0} → false ≡ true → P
no_false k = cc

pub goes_stop : (m n : Search) (s t u : Board) (xs rest more : List Step) (x : Step) (b : Bool) → Goes m s xs t rest → rest ≡ x ∷ more → n ≡ m → u ≡ t → IsTrue b ↔ Accepts n u x → b ≡ false → IsTrue false ↔ AreAccepted m s xs
goes_stop m n s t u xs rest more x b h e d c iff fails = (
  λ k. no_false k,
  λ a.
      let left : AreAccepted m t (x ∷ more) = subst (AreAccepted m t) e (h.to a) in
      let same : AreAccepted m u (x ∷ more) = subst (λ z. AreAccepted m z (x ∷ more)) (sym c) left in
      let there : AreAccepted n u (x ∷ more) = subst (λ z. AreAccepted z u (x ∷ more)) (sym d) same in
      no_false (sym fails ∙ iff.1 there.0),
)

pub goes_on : (m n : Search) (s t u w : Board) (xs rest more : List Step) (x : Step) (b : Bool) → Goes m s xs t rest → rest ≡ x ∷ more → n ≡ m → u ≡ t → IsTrue b ↔ Accepts n u x → b ≡ true
    → w ≡ (if b then after n u x else u) → Goes m s xs w more
goes_on m n s t u w xs rest more x b h e d c iff holds set =
    let next : w ≡ after m t x = set ∙ (ap (λ k. if k then after n u x else u) holds ∙ (ap (λ z. after z u x) d ∙ ap (λ z. after m z x) c)) in
    let taken : Accepts m t x = subst (λ z. Accepts z t x) d (subst (λ z. Accepts n z x) c (iff.0 holds)) in
    record {
      to = λ a. let left : AreAccepted m t (x ∷ more) = subst (AreAccepted m t) e (h.to a) in subst (λ z. AreAccepted m z more) (sym next) left.1;
      from = λ a. let later : AreAccepted m (after m t x) more = subst (λ z. AreAccepted m z more) next a in h.from (subst (AreAccepted m t) (sym e) (taken, later));
    }

-- whether all may be taken, told of the search, the state and the steps that these are
pub goes_as : (r : Result Bool AllocError) (n m : Search) (s t : Board) (xs ys : List Step) → IfOk r (λ all. IsTrue all ↔ AreAccepted n s xs) → n ≡ m → s ≡ t → xs ≡ ys → IfOk r (λ all. IsTrue all ↔ AreAccepted m t ys)
goes_as r n m s t xs ys h d c e =
    subst (λ l. IfOk r (λ all. IsTrue all ↔ AreAccepted m t l)) e (subst (λ b. IfOk r (λ all. IsTrue all ↔ AreAccepted m b xs)) c (subst (λ z. IfOk r (λ all. IsTrue all ↔ AreAccepted z s xs)) d h))
