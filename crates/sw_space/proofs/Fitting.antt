-- The answers of the calls on the way to a space.
use Rattle.std.specs.Prelude.{◌≡◌, ◌⊎◌, ℕ, ◌<◌, ◌++◌, List, length, Option, Some, None, Result, Ok, Err, IfSome, IsErrAnd}
use Rattle.std.proofs.Common.{refl, sym, subst, inl, inr}
use Rattle.sw_lists.proofs.Each.{each-append, each-weaker}
use Rattle.sw_logic.specs.declared.syntax.Edge.{Edge}
use Rattle.sw_logic.specs.Strata.{AreRanks, AreWithin, FirstOnCycle}
use Rattle.sw_strata.specs.declared.ranks.StrataError.{StrataError}
use Rattle.sw_strata.specs.declared.ranks.StrataError.TheVariants.{Cycle}
use Rattle.sw_strata.specs.Answers.{IsStrataFault}
use Rattle.sw_meaning.specs.declared.protocol.Protocol.{Protocol}
use Rattle.sw_meaning.specs.declared.template.Template.{Template}
use Rattle.sw_meaning.specs.Edges.{protocol_edges, IsStratifiedWith}
use Rattle.sw_meaning.specs.ProtocolText.{sort_text}
use Rattle.sw_cover.specs.Laws.{IsOver}
use Rattle.sw_template.specs.Edges.{template_edges}
use Rattle.sw_template.proofs.Edging.{edges_within}
use Rattle.sw_template_text.specs.declared.errors.TemplateError.{TemplateError}
use Rattle.sw_template_text.specs.Texts.{HasTemplate, IsTemplate, answer_of as text_answer}
use Rattle.sw_enumerate.specs.declared.errors.SpaceError.{SpaceError}
use Rattle.sw_enumerate.specs.Refusals.{RefusesSpace}
use Rattle.sw_enumerate.specs.Spaces.{Made}
use Rattle.sw_space.specs.declared.faults.SpaceFault.{SpaceFault}
use Rattle.sw_space.specs.declared.faults.SpaceFault.TheVariants as fault
use Rattle.sw_space.specs.declared.faults.NoSpace.{NoSpace}
use Rattle.sw_space.specs.declared.faults.NoSpace.TheVariants.{Faulty, Memory}
use Rattle.sw_space.specs.Named.{read_fault, size_fault, edges_with, Fits, HasSpace, answer_of}

-- an error that was passed on
passed : (P : Option (Result Template SpaceFault) → Type 0) (e : NoSpace) (r : Result Made NoSpace) → IsErrAnd r (λ x. x ≡ e) → P (answer_of (Err e)) → P (answer_of r)
passed P e (Ok s) is has = absurd is
passed P e (Err x) is has = subst (λ y. P (answer_of (Err y))) (sym is) has

-- the edges of templates are between sorts of the protocol
module _ (p : Protocol) where
  with_within : (o : Option Template) (t : Template) → IfSome o (IsOver p.signature) → AreWithin (length p.signature.sorts) (template_edges t) → AreWithin (length p.signature.sorts) (edges_with o t)
  with_within None t over within = within
  with_within (Some u) t over within =
      each-append (λ (e : Edge). (e.from < length p.signature.sorts) × (e.to < length p.signature.sorts)) (template_edges u) (template_edges t) (edges_within (length p.signature.sorts) u.prefix over) within

  pub edges_are_within : (o : Option Template) (t : Template) (edges : List Edge) → IfSome o (IsOver p.signature) → IsTemplate p.signature t → edges ≡ edges_with o t → AreWithin (length p.signature.sorts) edges
  edges_are_within o t edges over is same =
      subst (AreWithin (length p.signature.sorts)) (sym same)
      (with_within o t over (edges_within (length p.signature.sorts) t.prefix
      (each-weaker (λ run. (0 < run.count) × (run.sort < length p.signature.sorts)) (λ run. run.sort < length p.signature.sorts) (λ run both. both.1) t.prefix is.runs)))

module _ (p : Protocol) (o : Option Template) where
  pub stratified : (t : Template) (edges : List Edge) (ranks : List ℕ) → edges ≡ edges_with o t → AreRanks (length p.signature.sorts) (protocol_edges p ++ edges) ranks → IsStratifiedWith p (edges_with o t)
  stratified t edges ranks same are = record { ranks = ranks; are = subst (λ x. AreRanks (length p.signature.sorts) (protocol_edges p ++ x) ranks) same are }

  pub on_cycle : (t : Template) (edges : List Edge) (e : StrataError) (m sort : ℕ) (r : NoSpace) → edges ≡ edges_with o t → IsStrataFault (protocol_edges p ++ edges) e → e ≡ Cycle m → sort ≡ m
      → (r ≡ Faulty (fault.NotStratified (sort_text p.signature sort))) ⊎ (r ≡ Memory) → IfSome (answer_of (Err r)) (Fits p o t)
  on_cycle t edges e m sort r same fault is number (inr lacks) = subst (λ x. IfSome (answer_of (Err x)) (Fits p o t)) (sym lacks) tt
  on_cycle t edges e m sort r same fault is number (inl told) =
      let first : FirstOnCycle (protocol_edges p ++ edges) m = subst (IsStrataFault (protocol_edges p ++ edges)) is fault in
      let here : FirstOnCycle (protocol_edges p ++ edges_with o t) sort = subst (FirstOnCycle (protocol_edges p ++ edges_with o t)) (sym number) (subst (λ x. FirstOnCycle (protocol_edges p ++ x) m) same first) in
      subst (λ x. IfSome (answer_of (Err x)) (Fits p o t)) (sym told) (Fits.cycle sort here refl)

  over : (t : Template) (e : SpaceError) → IsStratifiedWith p (edges_with o t) → RefusesSpace p.signature t e → IfSome (answer_of (Err (size_fault e))) (Fits p o t)
  over t (SpaceError.AtomsOver n) strata refuses = Fits.over (SpaceError.AtomsOver n) (fault.AtomsOver n) strata refuses refl refl
  over t (SpaceError.CubesOver n) strata refuses = Fits.over (SpaceError.CubesOver n) (fault.CubesOver n) strata refuses refl refl
  over t (SpaceError.SpaceTooLarge n) strata refuses = Fits.over (SpaceError.SpaceTooLarge n) (fault.SpaceTooLarge n) strata refuses refl refl
  over t SpaceError.Memory strata refuses = tt

  pub size_passed : (t : Template) (e : SpaceError) (r : Result Made NoSpace) → IsErrAnd r (λ x. x ≡ size_fault e) → IsStratifiedWith p (edges_with o t) → RefusesSpace p.signature t e → IfSome (answer_of r) (Fits p o t)
  size_passed t e r is strata refuses = passed (λ a. IfSome a (Fits p o t)) (size_fault e) r is (over t e strata refuses)

  module _ (text : List ℕ) where
    unread : (e : TemplateError) → IfSome (text_answer (Err e)) (HasTemplate p.signature text) → IfSome (answer_of (Err (read_fault e))) (HasSpace p o text)
    unread (TemplateError.BadByte at) has = HasSpace.unread (TemplateError.BadByte at) (fault.BadByte at) has refl refl
    unread (TemplateError.Syntax at) has = HasSpace.unread (TemplateError.Syntax at) (fault.Syntax at) has refl refl
    unread (TemplateError.UnknownSort at) has = HasSpace.unread (TemplateError.UnknownSort at) (fault.UnknownSort at) has refl refl
    unread (TemplateError.VariablesOver n) has = HasSpace.unread (TemplateError.VariablesOver n) (fault.VariablesOver n) has refl refl
    unread (TemplateError.LiteralsOver n) has = HasSpace.unread (TemplateError.LiteralsOver n) (fault.LiteralsOver n) has refl refl
    unread TemplateError.Memory has = tt

    pub template_passed : (e : TemplateError) (r : Result Made NoSpace) → IsErrAnd r (λ x. x ≡ read_fault e) → IfSome (text_answer (Err e)) (HasTemplate p.signature text) → IfSome (answer_of r) (HasSpace p o text)
    template_passed e r is has = passed (λ a. IfSome a (HasSpace p o text)) (read_fault e) r is (unread e has)

    pub was_read : (t : Template) (a : Option (Result Template SpaceFault)) → HasTemplate p.signature text (Ok t) → IfSome a (Fits p o t) → IfSome a (HasSpace p o text)
    was_read t None has fits = tt
    was_read t (Some r) has fits = HasSpace.read t has fits

    pub space_passed : (t : Template) (e : NoSpace) (r : Result Made NoSpace) → IsErrAnd r (λ x. x ≡ e) → HasTemplate p.signature text (Ok t) → IfSome (answer_of (Err e)) (Fits p o t) → IfSome (answer_of r) (HasSpace p o text)
    space_passed t e r is has fits = passed (λ a. IfSome a (HasSpace p o text)) e r is (was_read t (answer_of (Err e)) has fits)
