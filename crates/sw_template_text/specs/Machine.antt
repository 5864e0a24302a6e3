-- What the reader of templates does with a word.
use Rattle.std.specs.Prelude.{nat_lt, nat_le, ◌==◌, ◌||◌, true, false, Option, Some, None, if◌then◌else◌}
use Rattle.sw_template_text.specs.declared.words.Word.{Word}
use Rattle.sw_template_text.specs.declared.words.Numbers.{Numbers}
use Rattle.sw_template_text.specs.declared.parse.State.{State}
use Rattle.sw_template_text.specs.declared.parse.Next.{Next}
use Rattle.sw_template_text.specs.declared.words.Word.TheVariants as w

abbrev pub step : State → Word → Next
step State.Run w.ForAll = Next.State (State.Count true)
step State.Run w.Exists = Next.State (State.Count false)
step State.Run w.Literals = Next.State State.Literals
step (State.Count universal) (w.Number count) = if nat_lt 0 count then Next.State (State.Sort universal count) else Next.Stop
step (State.Sort universal count) (w.Name at len) = Next.Run (record { universal = universal; count = count; at = at; len = len })
step State.Literals (w.Number literals) = if nat_lt 0 literals then Next.State (State.AfterLiterals literals) else Next.Stop
step (State.AfterLiterals literals) w.Depth = Next.State (State.Depth literals)
step (State.AfterLiterals literals) w.Terms = Next.State (State.Terms literals 1)
step (State.Depth literals) (w.Number depth) = if depth == 1 || depth == 2 then Next.State (State.AfterDepth literals depth) else Next.Stop
step (State.AfterDepth literals depth) w.Terms = Next.State (State.Terms literals depth)
step (State.Terms literals depth) (w.Number terms) = if nat_le terms 3 then Next.State (State.Done literals depth terms) else Next.Stop
step state word = Next.Stop

abbrev pub ended : State → Option Numbers
ended (State.AfterLiterals literals) = Some (record { literals = literals; depth = 1; terms = 0 })
ended (State.AfterDepth literals depth) = Some (record { literals = literals; depth = depth; terms = 0 })
ended (State.Done literals depth terms) = Some (record { literals = literals; depth = depth; terms = terms })
ended state = None
