-- The formulas of the templates that options name can be asked about.
use Rattle.std.specs.Prelude.{◌≡◌, ℕ, Bool, true, false, List, [], Option, Some, None, IfSome, Contains}
use Rattle.std.specs.List.{AllByRecursion}
use Rattle.std.proofs.Common.{refl, subst}
use Rattle.sw_lists.proofs.Each.{each-weaker, each-contained, each-map, of_contained}
use Rattle.sw_logic.specs.declared.syntax.Edge.{Edge}
use Rattle.sw_logic.specs.declared.syntax.Formula.{Formula}
use Rattle.sw_logic.specs.Queries.{IsSentence}
use Rattle.sw_meaning.specs.declared.protocol.Protocol.{Protocol}
use Rattle.sw_meaning.specs.declared.template.Template.{Template}
use Rattle.sw_meaning.specs.Classes.{atoms, cubes, classes, formula_of}
use Rattle.sw_meaning.specs.Edges.{IsStratifiedWith}
use Rattle.sw_meaning.specs.Space.{InSpace}
use Rattle.sw_meaning.specs.WellFormed.{IsWellFormed}
use Rattle.sw_cover.proofs.Covering.{all_classes_cover}
use Rattle.sw_query_laws.specs.Edges.{AddsAmong}
use Rattle.sw_size_laws.specs.Asked.{CanAskUnder, CanAskAbout}
use Rattle.sw_template.specs.Edges.{template_edges}
use Rattle.sw_template_laws.proofs.Blocks.{formulas_add_these_edges}
use Rattle.sw_enumerate.specs.Spaces.{Made}
use Rattle.sw_search.specs.Spaces.{CanSearch, IsSearchable, template_of}
use Rattle.sw_words.specs.declared.commands.Options.{Options}
use Rattle.sw_run.specs.Ending.{Names, NamesBy}
use Rattle.sw_run.specs.Giving.{Gives}
use Rattle.sw_run.proofs.Spaces.{can_search}
use Rattle.sw_completeness.specs.Worst.{all_formulas}
use Rattle.sw_completeness.proofs.Strata.{named_is_ranked}

abbrev made : Protocol → Template → Made
made p t = record { template = t; atoms = atoms p.signature t; cubes = cubes p.signature t }

-- the space of a template, if there is one
abbrev space_of : Protocol → Option Template → Option Made
space_of p None = None
space_of p (Some t) = Some (made p t)

gives : (given : Option (List ℕ)) (p : Protocol) (beside t : Option Template) → Names given p beside t → Gives given p beside (space_of p t)
gives given p beside None by = record { named = by; made = tt }
gives given p beside (Some t) by = record { named = by; made = record { template_is = refl; atoms_are = refl; cubes_are = refl } }

same_template : (p : Protocol) (t : Option Template) → t ≡ template_of (space_of p t)
same_template p None = refl
same_template p (Some t) = refl

both_spaces : (options : Options) (p : Protocol) (t u : Option Template) → NamesBy options p t u → IsStratifiedWith p []
    → CanSearch p (space_of p t) (space_of p u)
both_spaces options p t u by ranks =
    let beside = subst (λ x. Names options.finish p x u) (same_template p t) by.finish in
    can_search p options (space_of p t) (space_of p u) (gives options.breadth p None t by.breadth)
    (gives options.finish p (template_of (space_of p t)) u beside) ranks

module _ (p : Protocol) (extra : List Edge) (ok : IsWellFormed p) where
  -- a formula of a template whose edges are among these
  about : (s : Made) (f : Formula) → IsSearchable p extra s → InSpace p s.template f → CanAskAbout p extra f
  about s f can i = record { sorted = i.closed; edges = adds true; denied_edges = adds false }
    where
      adds : (positive : Bool) → AddsAmong extra positive f
      adds positive =
          each-weaker (Contains (template_edges s.template)) (Contains extra) (λ e c. of_contained (Contains extra) (template_edges s.template) e can.edges c) _
          (formulas_add_these_edges p s.template f positive i)

  -- each formula of all classes of the one template or of the other
  pub each_about : (t : Option Template) → IfSome (space_of p t) (IsSearchable p extra) → AllByRecursion (CanAskAbout p extra) (all_formulas p t)
  each_about None can = tt
  each_about (Some t) can =
      let sound = (all_classes_cover p t ok.signature can.over).sound in
      each-map (CanAskAbout p extra) (formula_of p.signature t) (classes p.signature t)
      (each-weaker (Contains (classes p.signature t)) (λ c. CanAskAbout p extra (formula_of p.signature t c))
      (λ c among. about (made p t) (formula_of p.signature t c) can (sound c among)) (classes p.signature t) (each-contained (classes p.signature t)))

-- the formulas of all classes of both templates can be asked about, under those of the first
pub record CanAskAll (p : Protocol) (t u : Option Template) : Type 0 where
  pub extra : List Edge
  pub under : CanAskUnder p extra (all_formulas p t)
  pub first : AllByRecursion (CanAskAbout p extra) (all_formulas p t)
  pub last : AllByRecursion (CanAskAbout p extra) (all_formulas p u)

pub can_ask_all : (options : Options) (p : Protocol) (t : Template) (u : Option Template) → IsWellFormed p → NamesBy options p (Some t) u → CanAskAll p (Some t) u
can_ask_all options p t u ok by =
    let can = both_spaces options p (Some t) u by (named_is_ranked p None options.breadth (Some t) t by.breadth refl) in
    let all = all_formulas p (Some t) in
    let first = each_about p can.extra ok (Some t) can.breadth in
    record {
      extra = can.extra;
      under = record {
        well_formed = ok;
        stratified = can.stratified;
        sorted = each-weaker (CanAskAbout p can.extra) (IsSentence p.signature) (λ f c. c.sorted) all first;
        edges = each-weaker (CanAskAbout p can.extra) (AddsAmong can.extra true) (λ f c. c.edges) all first;
      };
      first = first;
      last = each_about p can.extra ok u can.finish;
    }
