-- Whether formulas are true, and filters live, under lists of them.
use Rattle.std.specs.Prelude.{◌≡◌, ℕ, ◌-◌, ◌++◌, List, length, take, drop}
use Rattle.std.proofs.Common.{subst, sym, ap, ◌∙◌, arith}
use Rattle.std.proofs.lemmas.List.{take_all, length-drop, take-append-drop}
use Rattle.sw_lists.proofs.Each.{each-append, each-front, each-back}
use Rattle.sw_logic.specs.declared.syntax.Formula.{Formula}
use Rattle.sw_logic.specs.declared.structure.Structure.{Structure}
use Rattle.sw_logic.specs.Truth.{IsTrueIn}
use Rattle.sw_meaning.specs.declared.protocol.Protocol.{Protocol}
use Rattle.sw_filter.specs.declared.filter.Filter.{Filter}
use Rattle.sw_filter.specs.declared.filter.Filter.TheVariants as filter
use Rattle.sw_filter.specs.declared.filter.Mode.{Mode}
use Rattle.sw_filter.specs.declared.filter.Mode.TheVariants.{Breadth, Finish}
use Rattle.sw_filter.specs.Filters.{Obeys, IsLive}

module _ (p : Protocol) (g h : List Formula) where
  obeys_both : (mode : Mode) (s : Structure) → Obeys p mode g s → Obeys p mode h s → Obeys p mode (g ++ h) s
  obeys_both Breadth s a b = each-append (IsTrueIn p.signature s) g h a b
  obeys_both Finish s a b = (each-append (IsTrueIn p.signature s) g h a.0 b.0, a.1)

  obeys_front : (mode : Mode) (s : Structure) → Obeys p mode (g ++ h) s → Obeys p mode g s
  obeys_front Breadth s a = each-front (IsTrueIn p.signature s) g h a
  obeys_front Finish s a = (each-front (IsTrueIn p.signature s) g h a.0, a.1)

  obeys_back : (mode : Mode) (s : Structure) → Obeys p mode (g ++ h) s → Obeys p mode h s
  obeys_back Breadth s a = each-back (IsTrueIn p.signature s) g h a
  obeys_back Finish s a = (each-back (IsTrueIn p.signature s) g h a.0, a.1)

  -- live under two lists is live under both together
  pub live_both : (mode : Mode) (x : Filter) → IsLive p mode g x → IsLive p mode h x → IsLive p mode (g ++ h) x
  live_both mode (filter.Start s) a b = tt
  live_both mode (filter.Move pair n args u) a b = obeys_both mode pair.before a b
  live_both Breadth (filter.Bad pair n args u) a b = a
  live_both Finish (filter.Bad pair n args u) a b = obeys_both Finish pair.before a b

  pub live_front : (mode : Mode) (x : Filter) → IsLive p mode (g ++ h) x → IsLive p mode g x
  live_front mode (filter.Start s) a = tt
  live_front mode (filter.Move pair n args u) a = obeys_front mode pair.before a
  live_front Breadth (filter.Bad pair n args u) a = a
  live_front Finish (filter.Bad pair n args u) a = obeys_front Finish pair.before a

  pub live_back : (mode : Mode) (x : Filter) → IsLive p mode (g ++ h) x → IsLive p mode h x
  live_back mode (filter.Start s) a = tt
  live_back mode (filter.Move pair n args u) a = obeys_back mode pair.before a
  live_back Breadth (filter.Bad pair n args u) a = a
  live_back Finish (filter.Bad pair n args u) a = obeys_back Finish pair.before a

-- what is behind the first n
rest_is : (n : ℕ) (g : List Formula) → take (length g - n) (drop n g) ≡ drop n g
rest_is n g = take_all (length g - n) (drop n g) (omega (arith, length-drop n g))

split_is : (n : ℕ) (g : List Formula) → take n g ++ take (length g - n) (drop n g) ≡ g
split_is n g = ap (λ h. take n g ++ h) (rest_is n g) ∙ take-append-drop n g

module _ (p : Protocol) (mode : Mode) (g : List Formula) (n : ℕ) (x : Filter) where
  -- live under the first n formulas and under the others is live under all
  pub live_split : IsLive p mode (take n g) x → IsLive p mode (take (length g - n) (drop n g)) x → IsLive p mode g x
  live_split a b = subst (λ h. IsLive p mode h x) (split_is n g) (live_both p (take n g) (take (length g - n) (drop n g)) mode x a b)

  pub live_first : IsLive p mode g x → IsLive p mode (take n g) x
  live_first a = live_front p (take n g) (take (length g - n) (drop n g)) mode x (subst (λ h. IsLive p mode h x) (sym (split_is n g)) a)

  pub live_others : IsLive p mode g x → IsLive p mode (take (length g - n) (drop n g)) x
  live_others a = live_back p (take n g) (take (length g - n) (drop n g)) mode x (subst (λ h. IsLive p mode h x) (sym (split_is n g)) a)
