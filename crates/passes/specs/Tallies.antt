-- The free chunks counted for the report.
use Rattle.std.specs.Prelude.{◌-◌, List}
use Rattle.layout.specs.Numbers.{header_words}
use Rattle.layout.specs.Chunks.{Chunk}
use Rattle.rules.specs.Rules.{free_words, widest, free_chunks}
use Rattle.passes.specs.declared.tally.FreeTally.{FreeTally}

abbrev pub free_tally : List Chunk → FreeTally
free_tally ks = record { words = free_words ks; largest = widest ks - header_words; chunks = free_chunks ks }
