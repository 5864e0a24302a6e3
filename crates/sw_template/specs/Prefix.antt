-- A template's variables one by one, and what holds at all or some of their values.
use Rattle.std.specs.Prelude.{ℕ, ◌+◌, Bool, List, [], ◌∷◌, ◌++◌, replicate, if◌then◌else◌}
use Rattle.std.specs.List.{flat_map, list_any, list_all}
use Rattle.sw_logic.specs.declared.syntax.Formula.{Formula}
use Rattle.sw_logic.specs.Truth.{World, truth, all_below, any_below, size_of}
use Rattle.sw_meaning.specs.declared.template.Run.{Run}
use Rattle.sw_meaning.specs.Classes.{cube_formulas}

-- the number of variables
abbrev pub variable_count : List Run → ℕ
variable_count [] = 0
variable_count (run ∷ runs) = run.count + variable_count runs

-- each variable's run
abbrev pub variables : List Run → List Run
variables runs = flat_map (λ run. replicate run.count run) runs

-- whether a test passes at all or some values of each variable, as its quantifier says
abbrev pub over : List ℕ → List Run → (List ℕ → Bool) → List ℕ → Bool
over sizes [] p env = p env
over sizes (v ∷ vs) p env =
    if v.universal then all_below (size_of sizes v.sort) (λ n. over sizes vs p (env ++ n ∷ []))
    else any_below (size_of sizes v.sort) (λ n. over sizes vs p (env ++ n ∷ []))

-- whether some cube of a body has all its literals true at values of the variables
abbrev pub body_true : World → List Formula → List (List ℕ) → List ℕ → List ℕ → Bool
body_true w atoms cubes body env = list_any (λ c. list_all (λ f. truth w f env) (cube_formulas atoms cubes c)) body
