-- When a chunk can keep the first words of its room.
use Rattle.std.specs.Prelude.{ℕ, ◌+◌, ◌≤◌, ◌<◌}
use Rattle.layout.specs.Numbers.{header_words, greatest_length}
use Rattle.stores.specs.declared.release.Room.{Room}

-- the chunk at `chunk` can keep the first `keep` words of its room, in an arena of `n` words, where `asked` are asked for
pub record RoomFor (n link chunk keep asked : ℕ) (room : Room) : Type 0 where
  pub link_fits : link < n
  pub room_fits : chunk + room.words ≤ n
  pub some_kept : header_words ≤ keep
  pub enough : keep ≤ room.words
  pub over_fits : keep < room.words → keep + header_words ≤ room.words
  pub small : (n ≤ greatest_length) × (room.next ≤ greatest_length) × (asked ≤ greatest_length)
