use Rattle.std.proofs.Common.{sym, ◌∙◌}
use Rattle.sw_words.proofs.Equals.{fits_behind, fits_without}
use Rattle.sw_words.proofs.forms.attaches_value.Goals as goal

pub returns-in-Some : goal.returns-in-Some
returns-in-Some c = fits_behind c.args.text.now c.in-Some.at c.is_value.result (sym c.place_of_equals.ensures ∙ c.in-Some.is) c.is_value.ensures

pub returns-in-None : goal.returns-in-None
returns-in-None c = fits_without c.args.text.now (sym c.place_of_equals.ensures ∙ c.in-None.is)
