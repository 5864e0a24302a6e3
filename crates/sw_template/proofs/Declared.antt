-- In a signature that is declared rightly arguments are of sorts that there are.
use Rattle.std.specs.Prelude.{◌≡◌, ◌<◌, nat_lt, true, length}
use Rattle.std.specs.List.{AllByRecursion, list_all}
use Rattle.std.proofs.lemmas.Bool.{and_parts, ltb-true}
use Rattle.sw_lists.proofs.Each.{each-weaker}
use Rattle.sw_lists.proofs.Tests.{each_true}
use Rattle.sw_logic.specs.declared.syntax.Symbol.{Symbol}
use Rattle.sw_logic.specs.declared.syntax.Signature.{Signature}
use Rattle.sw_logic.specs.Signatures.{is_of_kind, is_symbol, is_signature}
use Rattle.sw_template.specs.Listing.{HaveArguments}

pub have_arguments : (sig : Signature) → is_signature sig ≡ true → HaveArguments sig
have_arguments sig e =
    each-weaker (λ s. is_symbol (length sig.sorts) s ≡ true) (λ s. AllByRecursion (λ sort. sort < length sig.sorts) s.args) of_symbol sig.symbols (each_true (is_symbol (length sig.sorts)) sig.symbols e)
  where
    of_symbol : (s : Symbol) → is_symbol (length sig.sorts) s ≡ true → AllByRecursion (λ sort. sort < length sig.sorts) s.args
    of_symbol s good =
        each-weaker (λ sort. nat_lt sort (length sig.sorts) ≡ true) (λ sort. sort < length sig.sorts) (λ sort h. ltb-true sort (length sig.sorts) h) s.args
        (each_true (λ sort. nat_lt sort (length sig.sorts)) s.args (and_parts (list_all (λ sort. nat_lt sort (length sig.sorts)) s.args) (is_of_kind (length sig.sorts) s.kind s.args s.gives) good).0)
