-- Which commands are served, and which need no workers.
use Rattle.std.specs.Prelude.{Bool, true, false, Option}
use Rattle.std.specs.Option.{option_map_or}
use Rattle.sw_words.specs.declared.commands.Command.{Command}
use Rattle.sw_words.specs.declared.commands.Command.TheVariants.{Synth, Space, Print, Check}

-- a command that is served
abbrev pub is_served : Command → Bool
is_served (Synth options) = true
is_served (Space text) = true
is_served Print = true
is_served _ = false

-- the commands that need no workers
abbrev pub is_check : Command → Bool
is_check (Space text) = true
is_check Print = true
is_check Check = true
is_check _ = false

-- the words are one of those commands
abbrev pub asks_check : Option Command → Bool
asks_check command = option_map_or is_check command false
