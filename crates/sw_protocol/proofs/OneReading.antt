-- A text has one answer: ranks leave no cycle, and there is one first sort on a cycle.
use Rattle.std.specs.Prelude.{◌≡◌, ◌<◌, ◌++◌, ℕ, zero, suc, List, [], length, slice_index, Result, Ok, Err, IfSome}
use Rattle.std.specs.List.{AllByRecursion}
use Rattle.std.proofs.Common.{arith, refl, sym, subst, ap, ◌∙◌, append-nil}
use Rattle.sw_lists.proofs.Each.{of_contained}
use Rattle.sw_logic.specs.declared.syntax.Edge.{Edge}
use Rattle.sw_logic.specs.Strata.{AreRanks, FirstOnCycle, Leads}
use Rattle.sw_strata.specs.declared.ranks.StrataError.{StrataError}
use Rattle.sw_strata.specs.declared.ranks.StrataError.TheVariants.{Cycle}
use Rattle.sw_strata.specs.Answers.{IsStrataFault}
use Rattle.sw_meaning.specs.declared.protocol.Protocol.{Protocol}
use Rattle.sw_meaning.specs.Edges.{protocol_edges}
use Rattle.sw_protocol.specs.declared.texts.ProtocolError.{ProtocolError}
use Rattle.sw_protocol.specs.Texts.{HasDeclared, answer_of}
use Rattle.sw_protocol.specs.Stratified.{Judges, HasProtocol, OneProtocol}
use Rattle.sw_protocol.proofs.OneDeclared.{one_declared, each_outcome}

-- ranks rise along a path
rises : (sorts : ℕ) (edges : List Edge) (ranks : List ℕ) → AreRanks sorts edges ranks → (a b : ℕ) → Leads edges a b → slice_index ranks a < slice_index ranks b
rises sorts edges ranks h a b (Leads.step e i) = of_contained (λ (e : Edge). slice_index ranks e.from < slice_index ranks e.to) edges e h.rises i
rises sorts edges ranks h a b (Leads.onward x y z first second) =
    let one = rises sorts edges ranks h x y first in
    let two = rises sorts edges ranks h y z second in
    omega (arith, one, two)

no_cycle : (sorts : ℕ) (edges : List Edge) (ranks : List ℕ) → AreRanks sorts edges ranks → (sort : ℕ) → FirstOnCycle edges sort → ⊥
no_cycle sorts edges ranks h sort c = below (slice_index ranks sort) (rises sorts edges ranks h sort sort c.cycle)
  where
    below : (n : ℕ) → n < n → ⊥
    below n h = omega (arith, h)

data Order (a b : ℕ) : Type 0 where
  less : a < b → Order a b
  same : a ≡ b → Order a b
  more : b < a → Order a b

order_suc : (a b : ℕ) → Order a b → Order (suc a) (suc b)
order_suc a b (Order.less h) = Order.less (omega (arith, h))
order_suc a b (Order.same e) = Order.same (ap suc e)
order_suc a b (Order.more h) = Order.more (omega (arith, h))

order : (a b : ℕ) → Order a b
order zero zero = Order.same refl
order zero (suc b) = Order.less (omega arith)
order (suc a) zero = Order.more (omega arith)
order (suc a) (suc b) = order_suc a b (order a b)

-- there is one first sort on a cycle
pub same_first : (edges : List Edge) (a b : ℕ) → FirstOnCycle edges a → FirstOnCycle edges b → a ≡ b
same_first edges a b f g = by (order a b)
  where
    by : Order a b → a ≡ b
    by (Order.less h) = absurd (g.first a h f.cycle)
    by (Order.same e) = e
    by (Order.more h) = absurd (f.first b h g.cycle)

same_judgement : (p : Protocol) (r s : Result Protocol ProtocolError) → Judges p r → Judges p s → r ≡ s
same_judgement p r s (Judges.ranked ranks h e) (Judges.ranked others k g) = e ∙ sym g
same_judgement p r s (Judges.ranked ranks h e) (Judges.cycle sort k g) = absurd (no_cycle _ (protocol_edges p) ranks h sort k)
same_judgement p r s (Judges.cycle sort h e) (Judges.ranked others k g) = absurd (no_cycle _ (protocol_edges p) others k sort h)
same_judgement p r s (Judges.cycle sort h e) (Judges.cycle other k g) = e ∙ ap (λ n. Err (ProtocolError.NotStratified n)) (same_first (protocol_edges p) sort other h k) ∙ sym g

same_error : (e f : ProtocolError) → ◌≡◌ {A = Result Protocol ProtocolError} (Err e) (Err f) → e ≡ f
same_error e f h = cc

same_protocol : (p q : Protocol) → ◌≡◌ {A = Result Protocol ProtocolError} (Ok p) (Ok q) → p ≡ q
same_protocol p q h = cc

apart : (p : Protocol) (e : ProtocolError) → ◌≡◌ {A = Result Protocol ProtocolError} (Ok p) (Err e) → ⊥
apart p e h = cc

pub one_protocol : OneProtocol
one_protocol text r s (HasProtocol.refused e h i) (HasProtocol.refused f k j) = i ∙ one_declared text (Err e) (Err f) h k ∙ sym j
one_protocol text r s (HasProtocol.refused e h i) (HasProtocol.declared q k j) = absurd (apart q e (one_declared text (Ok q) (Err e) k h))
one_protocol text r s (HasProtocol.declared p h i) (HasProtocol.refused f k j) = absurd (apart p f (one_declared text (Ok p) (Err f) h k))
one_protocol text r s (HasProtocol.declared p h i) (HasProtocol.declared q k j) = same_judgement p r s i (subst (λ x. Judges x s) (sym (same_protocol p q (one_declared text (Ok p) (Ok q) h k))) j)

pub no_other : (text : List ℕ) (r : Result Protocol ProtocolError) → IfSome (answer_of r) (HasProtocol text) → (s : Result Protocol ProtocolError) → HasProtocol text s → IfSome (answer_of r) (λ t. t ≡ s)
no_other text r h s k = each_outcome text (HasProtocol text) (λ t. t ≡ s) (λ t i. one_protocol text t s i k) r h

-- what is answered of what a text declares
pub refused_has : (text : List ℕ) (e : ProtocolError) → IfSome (answer_of (Err e)) (HasDeclared text) → IfSome (answer_of (Err e)) (HasProtocol text)
refused_has text (ProtocolError.BadByte at) h = HasProtocol.refused (ProtocolError.BadByte at) h refl
refused_has text (ProtocolError.Syntax at) h = HasProtocol.refused (ProtocolError.Syntax at) h refl
refused_has text (ProtocolError.TooDeep at) h = HasProtocol.refused (ProtocolError.TooDeep at) h refl
refused_has text (ProtocolError.Broken v) h = HasProtocol.refused (ProtocolError.Broken v) h refl
refused_has text (ProtocolError.NotStratified sort) h = HasProtocol.refused (ProtocolError.NotStratified sort) h refl
refused_has text ProtocolError.Memory h = h

no_extra : (edges extra : List Edge) → extra ≡ [] → edges ++ extra ≡ edges
no_extra edges extra e = ap (λ xs. edges ++ xs) e ∙ append-nil edges

pub ranked_has : (text : List ℕ) (p : Protocol) (extra : List Edge) (ranks : List ℕ) → HasDeclared text (Ok p) → extra ≡ [] → AreRanks (length p.signature.sorts) (protocol_edges p ++ extra) ranks → HasProtocol text (Ok p)
ranked_has text p extra ranks h e r = HasProtocol.declared p h (Judges.ranked ranks (subst (λ edges. AreRanks (length p.signature.sorts) edges ranks) (no_extra (protocol_edges p) extra e) r) refl)

pub cycle_has : (text : List ℕ) (p : Protocol) (extra : List Edge) (f : StrataError) (m n : ℕ) → HasDeclared text (Ok p) → extra ≡ [] → IsStrataFault (protocol_edges p ++ extra) f → f ≡ Cycle m → n ≡ m
    → HasProtocol text (Err (ProtocolError.NotStratified n))
cycle_has text p extra f m n h e fault is number =
    let first : FirstOnCycle (protocol_edges p) m = subst (λ edges. FirstOnCycle edges m) (no_extra (protocol_edges p) extra e) (subst (IsStrataFault (protocol_edges p ++ extra)) is fault) in
    HasProtocol.declared p h (Judges.cycle m first (ap (λ k. Err (ProtocolError.NotStratified k)) number))
