-- What a table of true atoms says.
use Rattle.std.specs.Prelude.{◌&&◌, ◌==◌, ◌∷◌}
use Rattle.std.specs.List.{list_any}
use Rattle.sw_quotient.specs.Valuations.{Valuation, same_terms}
use Rattle.sw_quotient.specs.declared.reading.TrueAtoms.{TrueAtoms}
use Rattle.sw_quotient.specs.declared.reading.Equation.{Equation}

-- whether the atom is among them
abbrev pub told : TrueAtoms → Valuation
told truths = record {
  holds = λ symbol ts. list_any (λ key. same_terms key.items (symbol ∷ ts)) truths.relations.keys;
  equal = λ sort t u. list_any (λ (e : Equation). (e.sort == sort) && ((e.t == t) && (e.u == u))) truths.equations.keys;
}
