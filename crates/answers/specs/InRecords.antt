-- An answer's numbers as a record has them. No public contract cites this file.
use Rattle.std.specs.Prelude.{get_or}
use Rattle.rules.specs.declared.Served.{Served}
use Rattle.answers.specs.declared.Numbers.{Numbers}

abbrev pub served_in : Numbers → Served
served_in numbers = record { code = numbers.code; block = get_or numbers.fields 0 0; granted = get_or numbers.fields 1 0 }
