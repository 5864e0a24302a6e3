-- What the draws of a claim seat come to.
use Rattle.std.specs.Prelude.{◌≡◌, ℕ, ◌+◌, ◌<◌, List, [], ◌∷◌, ◌++◌, length, take, Option, Contains}
use Rattle.std.specs.List.{flat_map}
use Rattle.std.proofs.Common.{arith, sym, ap, ◌∙◌, subst, append_assoc, length-append}
use Rattle.sw_logic.specs.declared.syntax.Formula.{Formula}
use Rattle.sw_claims.specs.declared.rule.ClaimView.{ClaimView}
use Rattle.sw_claims.specs.ClaimsAnswers.{DrawsNumber}
use Rattle.sw_claims.specs.ClaimsRule.{opened}
use Rattle.sw_claims.specs.ClaimsSteps.{IsAlone, looked}
use Rattle.sw_core.specs.Machine.{Search, parts_in}
use Rattle.sw_walk.specs.Parts.{part_at, all_classes}
use Rattle.sw_seek.specs.declared.considering.Found.{Found}
use Rattle.sw_seek.specs.Seeking.{NoneJoins, IsFirstJoined}
use Rattle.sw_seek.specs.Steps.{IsFound, Meets}
use Rattle.sw_seek.proofs.Firsts.{all_more, drawn_more, none_drawn, first_drawn, first_of_all, first_among, in_all}

-- the seat has drawn these, and no reason was written
pub record Runs (c d : ClaimView) (drawn : List ℕ) : Type 0 where
  pub drawn_is : d.drawn ≡ c.drawn ++ drawn
  pub wrote_is : d.wrote ≡ c.wrote
  pub parts_is : d.parts ≡ c.parts
  pub first_is : d.first ≡ c.first
  pub out_is : d.out ≡ c.out

pub runs_more : (c v w : ClaimView) (drawn : List ℕ) (n : ℕ) → Runs c v drawn → DrawsNumber (looked v) n w → Runs c w (drawn ++ n ∷ [])
runs_more c v w drawn n r h = record {
  drawn_is = ap (λ (x : ClaimView). x.drawn) h.gained ∙ (ap (λ xs. xs ++ n ∷ []) r.drawn_is ∙ append_assoc c.drawn drawn (n ∷ []));
  wrote_is = ap (λ (x : ClaimView). x.wrote) h.gained ∙ r.wrote_is;
  parts_is = ap (λ (x : ClaimView). x.parts) h.gained ∙ r.parts_is;
  first_is = ap (λ (x : ClaimView). x.first) h.gained ∙ r.first_is;
  out_is = ap (λ (x : ClaimView). x.out) h.gained ∙ r.out_is;
}

-- alone it has drawn the first ones, in order
alone_still : (c v : ClaimView) (drawn : List ℕ) (parts : ℕ) → Runs c v drawn → c ≡ opened parts 0 → IsAlone (looked v)
alone_still c v drawn parts r e = (r.first_is ∙ ap (λ (x : ClaimView). x.first) e, r.out_is ∙ ap (λ (x : ClaimView). x.out) e)

pub record Passed (m : Search) (g : List Formula) (c : ClaimView) (drawn : List ℕ) : Type 0 where
  pub none : NoneJoins m.protocol m.template g (flat_map (part_at (parts_in m)) drawn)
  pub alone : c ≡ opened (length (parts_in m)) 0 → flat_map (part_at (parts_in m)) drawn ≡ all_classes (take (length drawn) (parts_in m))

module _ (m : Search) (g : List Formula) (c v w : ClaimView) (drawn : List ℕ) (n : ℕ) (r : Runs c v drawn) (h : DrawsNumber (looked v) n w) where
  pub below_parts : c.parts ≡ length (parts_in m) → n < length (parts_in m)
  below_parts e = omega (arith, h.below, r.parts_is, e)

  alone_more : c.parts ≡ length (parts_in m) → Passed m g c drawn → c ≡ opened (length (parts_in m)) 0
      → flat_map (part_at (parts_in m)) (drawn ++ n ∷ []) ≡ all_classes (take (length (drawn ++ n ∷ [])) (parts_in m))
  alone_more count p e =
      let ps = parts_in m in
      let all : v.drawn ≡ drawn = r.drawn_is ∙ ap (λ (x : ClaimView). x.drawn ++ drawn) e in
      let next : n ≡ length drawn = h.alone (alone_still c v drawn (length ps) r e) ∙ ap length all in
      let size : length (drawn ++ n ∷ []) ≡ n + 1 = omega (arith, length-append drawn (n ∷ []), next) in
      drawn_more ps drawn n ∙ (ap (λ cs. cs ++ part_at ps n) (p.alone e ∙ ap (λ k. all_classes (take k ps)) (sym next))
      ∙ (sym (all_more ps n (below_parts count)) ∙ ap (λ k. all_classes (take k ps)) (sym size)))

  pub passed_more : c.parts ≡ length (parts_in m) → Passed m g c drawn → NoneJoins m.protocol m.template g (part_at (parts_in m) n)
      → Passed m g c (drawn ++ n ∷ [])
  passed_more count p none = record {
    none = none_drawn m.protocol m.template g (parts_in m) drawn n p.none none;
    alone = alone_more count p;
  }

  -- a class that joins in the part that was drawn
  pub meets : (budget : Option ℕ) (f : Found) → c.parts ≡ length (parts_in m) → Passed m g c drawn → IsFound m g budget (part_at (parts_in m) n) f
      → Meets m g budget c w f
  meets budget f count p found =
      let ps = parts_in m in
      let among : Contains (part_at ps n) f.body.cubes = first_among m.protocol m.template g (part_at ps n) f.body.cubes found.first in
      let first : IsFirstJoined m.protocol m.template g (flat_map (part_at ps) (drawn ++ n ∷ [])) f.body.cubes = first_drawn m.protocol m.template g ps
      drawn n f.body.cubes p.none found.first in
      record {
        drawn = drawn;
        last = n;
        gained = (runs_more c v w drawn n r h).drawn_is;
        class = record { single = found.single; among = in_all ps n f.body.cubes (below_parts count) among };
        first = first;
        among = among;
        joined = found.joined;
        alone = λ e. first_of_all m.protocol m.template g ps (length (drawn ++ n ∷ [])) f.body.cubes
            (subst (λ cs. IsFirstJoined m.protocol m.template g cs f.body.cubes) (alone_more count p e) first);
      }
