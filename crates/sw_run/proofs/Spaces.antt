-- The spaces that the options give can be searched.
use Rattle.std.specs.Prelude.{◌≡◌, ℕ, ◌<◌, ◌≤◌, ◌^◌, List, [], ◌++◌, length, Option, Some, None, IfSome, Result, Ok, Contains}
use Rattle.std.proofs.Common.{refl, sym, subst}
use Rattle.sw_lists.proofs.Each.{each-weaker, each-front, each-back, each-contained}
use Rattle.sw_logic.specs.declared.syntax.Edge.{Edge}
use Rattle.sw_meaning.specs.declared.protocol.Protocol.{Protocol}
use Rattle.sw_meaning.specs.declared.template.Run.{Run}
use Rattle.sw_meaning.specs.declared.template.Template.{Template}
use Rattle.sw_meaning.specs.Classes.{classes_of}
use Rattle.sw_meaning.specs.Edges.{IsStratifiedWith}
use Rattle.sw_cover.specs.Laws.{IsOver}
use Rattle.sw_query_laws.specs.Edges.{AreAmong}
use Rattle.sw_template.specs.Edges.{template_edges}
use Rattle.sw_template.specs.Prefix.{variable_count}
use Rattle.sw_template_text.specs.Texts.{IsTemplate}
use Rattle.sw_template_text.proofs.OneTemplate.{texts_are_templates}
use Rattle.sw_enumerate.specs.Spaces.{Made, IsSpaceOf}
use Rattle.sw_space.specs.declared.faults.SpaceFault.{SpaceFault}
use Rattle.sw_space.specs.Named.{IsWithinLimits, Fits, HasSpace, edges_with}
use Rattle.sw_search.specs.Spaces.{IsSearchable, CanSearch, template_of}
use Rattle.sw_search.proofs.Searchable.{parts_few}
use Rattle.sw_words.specs.declared.commands.Options.{Options}
use Rattle.sw_run.specs.Ending.{Names}
use Rattle.sw_run.specs.Giving.{Gives}

-- what a template is that a text names, beside another one
record Suits (p : Protocol) (beside : Option Template) (t : Template) : Type 0 where
  pub over : IsOver p.signature t
  pub variables : variable_count t.prefix ≤ 6
  pub literals : t.literals ≤ 6
  pub stratified : IsStratifiedWith p (edges_with beside t)
  pub limits : IsWithinLimits p.signature t

fits_suits : (p : Protocol) (beside : Option Template) (t u : Template) (r : Result Template SpaceFault) → IsTemplate p.signature t → Fits p beside t r → r ≡ Ok u → Suits p beside u
fits_suits p beside t u r is (Fits.cycle sort first bad) ok = absurd cc
fits_suits p beside t u r is (Fits.over e f stratified refuses which bad) ok = absurd cc
fits_suits p beside t u r is (Fits.within stratified limits same) ok =
    let one : t ≡ u = cc in
    subst (Suits p beside) one (record {
      over = each-weaker (λ (run : Run). (0 < run.count) × (run.sort < length p.signature.sorts)) (λ run. run.sort < length p.signature.sorts) (λ run h. h.1) t.prefix is.runs;
      variables = is.variables;
      literals = is.few;
      stratified = stratified;
      limits = limits;
    })

text_suits : (p : Protocol) (beside : Option Template) (text : List ℕ) (u : Template) (r : Result Template SpaceFault) → HasSpace p beside text r → r ≡ Ok u → Suits p beside u
text_suits p beside text u r (HasSpace.unread e f has which bad) ok = absurd cc
text_suits p beside text u r (HasSpace.read t has fits) ok = fits_suits p beside t u r (texts_are_templates p.signature text t has) fits ok

name_suits : (given : Option (List ℕ)) (p : Protocol) (beside t : Option Template) → Names given p beside t → IfSome t (Suits p beside)
name_suits given p beside t (Names.without is none) = subst (λ x. IfSome x (Suits p beside)) (sym none) tt
name_suits given p beside t (Names.named text u e has some) = subst (λ x. IfSome x (Suits p beside)) (sym some) (text_suits p beside text u (Ok u) has refl)

some_over : (p : Protocol) (beside t : Option Template) → IfSome t (Suits p beside) → IfSome t (IsOver p.signature)
some_over p beside None suits = tt
some_over p beside (Some t) suits = suits.over

-- a template that an option names is over sorts that there are
pub name_over : (given : Option (List ℕ)) (p : Protocol) (beside t : Option Template) → Names given p beside t → IfSome t (IsOver p.signature)
name_over given p beside t by = some_over p beside t (name_suits given p beside t by)

searchable : (p : Protocol) (beside : Option Template) (s : Made) (extra : List Edge) → Suits p beside s.template → IsSpaceOf p.signature s.template s → AreAmong (template_edges s.template) extra
    → IsSearchable p extra s
searchable p beside s extra suits made among = record {
  made = made;
  over = suits.over;
  variables = suits.variables;
  few = subst (λ cubes. length (classes_of s.template.literals cubes) ≤ 2 ^ 32) (sym made.cubes_are) suits.limits.classes;
  parts = parts_few s suits.literals (subst (λ cubes. length cubes ≤ 1048576) (sym made.cubes_are) suits.limits.cubes);
  edges = among;
}

among_all : (edges : List Edge) → AreAmong edges edges
among_all edges = each-contained edges

among_front : (edges more : List Edge) → AreAmong edges (edges ++ more)
among_front edges more = each-front (Contains (edges ++ more)) edges more (each-contained (edges ++ more))

among_back : (edges more : List Edge) → AreAmong more (edges ++ more)
among_back edges more = each-back (Contains (edges ++ more)) edges more (each-contained (edges ++ more))

module _ (p : Protocol) where
  both_can : (first last : Option Made) → IsStratifiedWith p [] → IfSome (template_of first) (Suits p None) → IfSome first (λ s. IsSpaceOf p.signature s.template s)
      → IfSome (template_of last) (Suits p (template_of first)) → IfSome last (λ s. IsSpaceOf p.signature s.template s) → CanSearch p first last
  both_can None None ranks a made b made' = record { extra = []; stratified = ranks; breadth = tt; finish = tt }
  both_can (Some s) None ranks a made b made' =
      record { extra = template_edges s.template; stratified = a.stratified; breadth = searchable p None s (template_edges s.template) a made (among_all (template_edges s.template)); finish = tt }
  both_can None (Some s) ranks a made b made' =
      record { extra = template_edges s.template; stratified = b.stratified; breadth = tt; finish = searchable p None s (template_edges s.template) b made' (among_all (template_edges s.template)) }
  both_can (Some s) (Some z) ranks a made b made' =
      let extra : List Edge = template_edges s.template ++ template_edges z.template in
      record {
        extra = extra;
        stratified = b.stratified;
        breadth = searchable p None s extra a made (among_front (template_edges s.template) (template_edges z.template));
        finish = searchable p (Some s.template) z extra b made' (among_back (template_edges s.template) (template_edges z.template));
      }

  pub can_search : (o : Options) (first last : Option Made) → Gives o.breadth p None first → Gives o.finish p (template_of first) last → IsStratifiedWith p [] → CanSearch p first last
  can_search o first last a b ranks =
      both_can first last ranks (name_suits o.breadth p None (template_of first) a.named) a.made (name_suits o.finish p (template_of first) (template_of last) b.named) b.made
