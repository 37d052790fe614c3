-- Which of the ways of the rules was followed. No public contract cites this file.
use Rattle.std.specs.Prelude.{ℕ, ◌+◌, ◌-◌, ◌≡◌, true, List, Option, None, Some}
use Rattle.layout.specs.Numbers.{header_words}
use Rattle.layout.specs.Chunks.{Chunk, live}
use Rattle.layout.specs.Walk.{sound, chunks_of}
use Rattle.rules.specs.Spots.{Spot, at}
use Rattle.rules.specs.Fits.{first_fit_policy}
use Rattle.rules.specs.Picks.{Picks}
use Rattle.rules.specs.Rooms.{Needed}
use Rattle.rules.specs.Rules.{Way, shut, grants, grant_from, allotted, Regrant}
use Rattle.passes.specs.Places.{place_of, Placed}
use Rattle.passes.specs.declared.places.Place.{Place}
use Rattle.stores.specs.declared.taking.Piece.{Piece}
use Rattle.answers.specs.declared.Grant.{Grant}

abbrev pub way_answer : Way → Option Grant
way_answer shut = None
way_answer (grants block granted words) = Some (record { block = block; granted = granted })

abbrev pub way_words : Way → List ℕ → List ℕ
way_words shut a = a
way_words (grants block granted words) a = words

-- a way of the rules was followed
pub record Follows (way : Way) (a : List ℕ) (answer : Option Grant) (after : List ℕ) : Type 0 where
  pub answers : answer ≡ way_answer way
  pub leaves : after ≡ way_words way a

-- a new block of the free chunk at a spot
abbrev pub allotting : ℕ → ℕ → Spot → List ℕ → Way
allotting need asked spot a = allotted (grant_from need asked spot) a

-- `place` is what was picked for the need, as a search answers it
abbrev pub PickedAt : List ℕ → ℕ → Option Place → Spot → Type 0
PickedAt a need place spot = Picks (chunks_of a) need spot × (place ≡ place_of spot)

-- a search of a sound arena answered `place` for the need of a request for `asked` words
abbrev pub Picked : List ℕ → ℕ → ℕ → Option Place → Type 0
Picked a need asked place = (sound a ≡ true) × Needed need asked × ((spot : Spot) × PickedAt a need place spot)

-- a new block was granted from what was picked
abbrev pub FollowsFrom : List ℕ → ℕ → ℕ → Option Place → Option Grant → List ℕ → Type 0
FollowsFrom a need asked place answer after = (spot : Spot) → PickedAt a need place spot → Follows (allotting need asked spot a) a answer after

-- the way that a rule gives the live chunk `k` between `pre` and `post`, for a request of `w` words
abbrev pub way_by : Regrant → ℕ → ℕ → ℕ → List ℕ → List Chunk → Chunk → List Chunk → Way
way_by rule b need w a pre k post = rule b need w (at pre k post) (grant_from need w (first_fit_policy need (chunks_of a))) a

-- for the live chunk that stands at `chunk`, the way that a rule gives it was followed
abbrev pub FollowsAt : Regrant → List ℕ → ℕ → ℕ → ℕ → ℕ → Option Grant → List ℕ → Type 0
FollowsAt rule a link chunk need w answer after =
    (pre : List Chunk) (s asked : ℕ) (post : List Chunk) → Placed a pre (live s asked) post link chunk
    → Follows (way_by rule (chunk + header_words) need w a pre (live s asked) post) a answer after

-- a live chunk as a grant
abbrev pub grant_of : Piece → Grant
grant_of piece = record { block = piece.chunk + header_words; granted = piece.words - header_words }
