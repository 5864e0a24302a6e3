use Rattle.std.specs.Prelude.{◌≡◌, ◌∷◌, [], codes, map, string_bytes}
use Rattle.std.proofs.Common.{refl, ap, subst, rules}
use Rattle.clap.specs.Words.{HasMatchesOf, HasKind, app_of, fault_of, is_simple_and_free}
use Rattle.sw_words.specs.Lines.{line_of}
use Rattle.sw_words.proofs.Matched.{matches_options, usage_none, error_made}
use Rattle.sw_words.proofs.lines.workers_matches.Goals as goal

pub returns-clause-given : goal.returns-clause-given
returns-clause-given c =
    let is : app_of c.in_ok-line.line ≡ line_of (codes "workers" ∷ []) = search rules in
    matches_options (codes "workers" ∷ []) _ c.in_ok-matches.matches c.requires refl
    (subst (λ a. HasMatchesOf a (map string_bytes c.args.words.now) c.in_ok-matches.matches) is c.in_ok-matches.ensures.matches)
    (subst (λ a. fault_of a (map string_bytes c.args.words.now) ≡ []) is (c.in_ok-matches.ensures.kinds (ap is_simple_and_free is)))

pub returns-in_err-matches-clause-usage : goal.returns-in_err-matches-clause-usage
returns-in_err-matches-clause-usage c =
    let is : app_of c.in_ok-line.line ≡ line_of (codes "workers" ∷ []) = search rules in
    λ usage. usage_none (codes "workers" ∷ []) _ c.in_err-matches.field-0.0 c.requires
    (subst (λ a. HasKind (fault_of a (map string_bytes c.args.words.now)) c.in_err-matches.field-0.0) is (c.in_err-matches.ensures.kinds (ap is_simple_and_free is)))
    (error_made _ _ c.from_residual-in_err-matches.ensures.1 usage)
