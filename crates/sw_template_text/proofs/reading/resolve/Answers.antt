use Rattle.std.proofs.Common.{◌≡◌, ◌<◌, ◌≤◌, false, slice_index_or, take, refl, ap, ◌∙◌, arith}
use Rattle.std.specs.Prelude.{Err}
use Rattle.sw_template.specs.Prefix.{variable_count}
use Rattle.sw_template_text.specs.declared.errors.TemplateError.{TemplateError}
use Rattle.sw_template_text.specs.Texts.{Resolves, Bounds}
use Rattle.sw_template_text.proofs.NamedRuns.{run_more, known, got_or, whole}
use Rattle.sw_template_text.proofs.reading.resolve.Goals as goal

pub returns-in_default : goal.returns-in_default
returns-in_default c =
    Resolves.unknown c.loop-named.named-index (slice_index_or c.args.runs.now c.loop-named.named-index (record { universal = false; count = 0; at = 0; len = 0 }))
    (got_or c.loop-named.named-index c.args.runs.now (record { universal = false; count = 0; at = 0; len = 0 }) c.loop-named-test.true) c.in_default.ensures
    (known c.args.sig.now c.args.text.now (take c.loop-named.named-index c.args.runs.now) c.loop-named.prefix c.loop-named.invariant) refl

pub loop-named-preserved : goal.loop-named-preserved
loop-named-preserved c =
    run_more c.args.sig.now c.args.text.now c.args.runs.now c.loop-named.named-index (slice_index_or c.args.runs.now c.loop-named.named-index (record { universal = false; count = 0; at = 0; len = 0 })) c.loop-named.prefix c.push.new.self _
    (got_or c.loop-named.named-index c.args.runs.now (record { universal = false; count = 0; at = 0; len = 0 }) c.loop-named-test.true) c.loop-named.invariant refl refl c.in-Some.ensures c.in-Ok.ensures.ok

pub returns-then-n-gt-MOST : goal.returns-then-n-gt-MOST
returns-then-n-gt-MOST c =
    let count : c.count_variables-n.result ≡ variable_count c.loop-named.prefix = c.count_variables-n.ensures ∙ ap variable_count c.as_slice.ensures in
    let over : 6 < variable_count c.loop-named.prefix = omega (arith, count, c.if-n-gt-MOST.true) in
    Resolves.known c.loop-named.prefix (whole c.args.sig.now c.args.text.now c.args.runs.now c.loop-named.named-index c.loop-named.prefix (omega (arith, c.loop-named-test.false)) c.loop-named.auto.named-index-end c.loop-named.invariant)
    (Bounds.variables_over over (ap (λ n. Err (TemplateError.VariablesOver n)) count))

pub returns-then-literals-gt-MOST : goal.returns-then-literals-gt-MOST
returns-then-literals-gt-MOST c =
    let count : c.count_variables-n.result ≡ variable_count c.loop-named.prefix = c.count_variables-n.ensures ∙ ap variable_count c.as_slice.ensures in
    let few : variable_count c.loop-named.prefix ≤ 6 = omega (arith, count, c.if-n-gt-MOST.false) in
    let over : 6 < c.args.numbers.literals = omega (arith, c.from-literals.ensures, c.if-literals-gt-MOST.true) in
    Resolves.known c.loop-named.prefix (whole c.args.sig.now c.args.text.now c.args.runs.now c.loop-named.named-index c.loop-named.prefix (omega (arith, c.loop-named-test.false)) c.loop-named.auto.named-index-end c.loop-named.invariant)
    (Bounds.literals_over few over (ap (λ n. Err (TemplateError.LiteralsOver n)) c.from-literals.ensures))

pub returns : goal.returns
returns c =
    let count : c.count_variables-n.result ≡ variable_count c.loop-named.prefix = c.count_variables-n.ensures ∙ ap variable_count c.as_slice.ensures in
    let few : variable_count c.loop-named.prefix ≤ 6 = omega (arith, count, c.if-n-gt-MOST.false) in
    let within : c.args.numbers.literals ≤ 6 = omega (arith, c.from-literals.ensures, c.if-literals-gt-MOST.false) in
    Resolves.known c.loop-named.prefix (whole c.args.sig.now c.args.text.now c.args.runs.now c.loop-named.named-index c.loop-named.prefix (omega (arith, c.loop-named-test.false)) c.loop-named.auto.named-index-end c.loop-named.invariant)
    (Bounds.within few within refl)
