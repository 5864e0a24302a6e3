-- What the draws of a round tell.
use Rattle.std.specs.Prelude.{◌≡◌, ℕ, zero, suc, ◌≤◌, List, [], ◌∷◌, ◌++◌, length}
use Rattle.std.proofs.Common.{refl, arith, sym, ap, ◌∙◌, subst, append_assoc, inl, inr}
use Rattle.sw_claims.specs.declared.rule.ClaimView.{ClaimView}
use Rattle.sw_claims.specs.ClaimsAnswers.{DrawsNumber, MeetsEnd, SeesReason, Stops}
use Rattle.sw_claims.specs.ClaimsRule.{opened}
use Rattle.sw_claims.specs.ClaimsSteps.{IsAlone, looked}
use Rattle.sw_hand.specs.Seats.{HasDrawn, HasStopped}
use Rattle.sw_work.specs.Steps.{IsFirst}

-- a seat that draws a number
pub first_number : (c d : ClaimView) (n : ℕ) → DrawsNumber (looked c) n d → IsFirst c → IsFirst d
first_number c d n w f = record {
  alone = subst IsAlone (sym w.gained) f.alone;
  silent = ap (λ (x : ClaimView). x.wrote) w.gained ∙ f.silent;
  going = ap (λ (x : ClaimView). x.ends) w.gained ∙ f.going;
}

pub drawn_number : (c d : ClaimView) (n : ℕ) (before drawn : List ℕ) → DrawsNumber (looked c) n d → c.drawn ≡ before ++ drawn → d.drawn ≡ before ++ (drawn ++ n ∷ [])
drawn_number c d n before drawn w e = ap (λ (x : ClaimView). x.drawn) w.gained ∙ (ap (λ l. l ++ n ∷ []) e ∙ append_assoc before drawn (n ∷ []))

-- alone, a seat that drew nothing before draws 0, 1, 2 and on
pub number_is : (o c d : ClaimView) (parts n : ℕ) (drawn : List ℕ) → o ≡ opened parts 0 → DrawsNumber (looked c) n d → c.drawn ≡ o.drawn ++ drawn → IsFirst c → n ≡ length drawn
number_is o c d parts n drawn only w e f =
    let none : o.drawn ≡ [] = ap (λ (x : ClaimView). x.drawn) only in
    w.alone f.alone ∙ ap length (e ∙ ap (λ l. l ++ drawn) none)

pub first_opened : (o : ClaimView) (parts : ℕ) → o ≡ opened parts 0 → IsFirst o
first_opened o parts e = record {
  alone = subst IsAlone (sym e) (refl, refl);
  silent = ap (λ (x : ClaimView). x.wrote) e;
  going = ap (λ (x : ClaimView). x.ends) e;
}

-- the end was met
end_met : (c d : ClaimView) (n : ℕ) → c.ends ≡ n → MeetsEnd (looked c) d → 1 ≤ d.ends
end_met c d zero e w = let one : d.ends ≡ 1 = ap (λ (x : ClaimView). x.ends) (w.now e) in omega (arith, one)
end_met c d (suc n) e w =
    let some : 1 ≤ c.ends = omega (arith, e) in
    let same : d.ends ≡ c.ends = ap (λ (x : ClaimView). x.ends) (w.earlier some) in
    omega (arith, some, same)

-- a field that meeting the end leaves
end_keeps : {X : Type 0} (f : ClaimView → X) (c d : ClaimView) (n : ℕ) → c.ends ≡ n → ((k l : ℕ) → f (record (looked c) { ends = k; looks_at_draw = l }) ≡ f c) → f (looked c) ≡ f c → MeetsEnd (looked c) d → f d ≡ f c
end_keeps f c d zero e same plain w = ap f (w.now e) ∙ same 1 (looked c).looks
end_keeps f c d (suc n) e same plain w = ap f (w.earlier (omega (arith, e))) ∙ plain

pub has_drawn : (o c d : ClaimView) (drawn : List ℕ) → MeetsEnd (looked c) d → c.drawn ≡ o.drawn ++ drawn → c.wrote ≡ o.wrote → c.parts ≡ o.parts → c.first ≡ o.first → c.out ≡ o.out → HasDrawn o d drawn
has_drawn o c d drawn w e wrote parts first out = record {
  gained = end_keeps (λ (x : ClaimView). x.drawn) c d c.ends refl (λ k l. refl) refl w ∙ e;
  ended = end_met c d c.ends refl w;
  wrote = end_keeps (λ (x : ClaimView). x.wrote) c d c.ends refl (λ k l. refl) refl w ∙ wrote;
  parts = end_keeps (λ (x : ClaimView). x.parts) c d c.ends refl (λ k l. refl) refl w ∙ parts;
  first = end_keeps (λ (x : ClaimView). x.first) c d c.ends refl (λ k l. refl) refl w ∙ first;
  out = end_keeps (λ (x : ClaimView). x.out) c d c.ends refl (λ k l. refl) refl w ∙ out;
}

-- alone, all parts were drawn then
pub all_drawn : (o c d : ClaimView) (parts : ℕ) (drawn : List ℕ) → o ≡ opened parts 0 → MeetsEnd (looked c) d → c.drawn ≡ o.drawn ++ drawn → c.parts ≡ o.parts → IsFirst c → parts ≤ length drawn
all_drawn o c d parts drawn only w e same f =
    let none : o.drawn ≡ [] = ap (λ (x : ClaimView). x.drawn) only in
    let size : length c.drawn ≡ length drawn = ap length (e ∙ ap (λ l. l ++ drawn) none) in
    let count : c.parts ≡ parts = same ∙ ap (λ (x : ClaimView). x.parts) only in
    let le : c.parts ≤ length c.drawn = w.alone f.alone f.going in
    omega (arith, le, size, count)

pub has_stopped : (o c d : ClaimView) (r : ℕ) → SeesReason (looked c) r d → c.wrote ≡ o.wrote → HasStopped o d r
has_stopped o c d r w wrote = record {
  some = w.reason;
  seen = ap (λ (x : ClaimView). x.seen) w.seen;
  wrote = ap (λ (x : ClaimView). x.wrote) w.seen ∙ wrote;
}

-- alone, no reason stands
pub never_stopped : (c d : ClaimView) (r : ℕ) → SeesReason (looked c) r d → IsFirst c → ⊥
never_stopped c d r w f = let same : r ≡ c.wrote = w.found.alone f.alone in let some = w.reason in let silent = f.silent in absurd (omega (arith, same, some, silent))

-- after a stop some reason was seen
pub seen_stop : (c d : ClaimView) (reason r : ℕ) → 1 ≤ reason → Stops c reason r d → 1 ≤ d.seen
seen_stop c d reason r some w = elim w [
  | inl x ↦ let same : d.seen ≡ reason = ap (λ (y : ClaimView). y.seen) x.written in omega (arith, same, some)
  | inr x ↦ let same : d.seen ≡ r = ap (λ (y : ClaimView). y.seen) x.seen in let one = x.reason in omega (arith, same, one)
]
