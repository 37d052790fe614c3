-- `size` meets its contract: its block is not located, or its header is read.
use Rattle.std.proofs.Common.{◌-◌, ◌≡◌, refl, arith}
use Rattle.std.specs.Prelude.{Ok}
use Rattle.layout.specs.Numbers.{header_words}
use Rattle.layout.specs.Chunks.{live}
use Rattle.layout.specs.Reasons.{arena_gate}
use Rattle.rules.specs.Calls.{size_on}
use Rattle.answers.specs.Readings.{sizes_fields}
use Rattle.passes.proofs.Standing.{Reads, reads, reads_asked}
use Rattle.passes.proofs.Finding.{FoundBlock}
use Rattle.targets.proofs.Granting.{handed_on}
use Rattle.targets.proofs.Locating.{not_located, block_located}
use Rattle.arena.proofs.size.Goals as goal
use Rattle.arena.proofs.size.Goals.{In_ok-place}

-- the block was found
here : (c : In_ok-place) → (arena_gate c.args.a.now ≡ Ok tt) × FoundBlock c.args.a.now c.args.b c.in_ok-place.place.link c.in_ok-place.place.chunk
here c = block_located _ _ _ c.in_ok-place.ensures

-- its chunk, in numbers
stood : (c : In_ok-place) → let f = (here c).1 in Reads c.args.a.now f.0 (live f.1 f.2) f.3 c.in_ok-place.place.link c.in_ok-place.place.chunk
stood c = reads _ _ _ _ _ _ (here c).1.5

pub returns-in_err-place : goal.returns-in_err-place
unfolding size_on
returns-in_err-place c =
    handed_on sizes_fields 2 _ _ c.from_residual.ensures.1
    (rw (not_located _ _ _ c.in_err-place.ensures _) (record { answers = refl; leaves = refl }))

pub overflow_add-place : goal.overflow_add-place
overflow_add-place c = omega (arith, stood (goal.at.overflow_add-place c).In_ok-place)

pub offset_bounds-a-place : goal.offset_bounds-a-place
offset_bounds-a-place c = omega (arith, stood (goal.at.offset_bounds-a-place c).In_ok-place)

pub bounds-a-place : goal.bounds-a-place
bounds-a-place c = omega (arith, stood (goal.at.bounds-a-place c).In_ok-place)

pub asked_in-requires : goal.asked_in-requires
asked_in-requires c = (reads_asked (stood (goal.at.asked_in-requires c).In_ok-place)).0

pub offset_bounds-a-place-2 : goal.offset_bounds-a-place-2
offset_bounds-a-place-2 c = omega (arith, stood (goal.at.offset_bounds-a-place-2 c).In_ok-place)

pub bounds-a-place-2 : goal.bounds-a-place-2
bounds-a-place-2 c = omega (arith, stood (goal.at.bounds-a-place-2 c).In_ok-place)

pub returns : goal.returns
unfolding size_on
returns c =
    let at = (goal.at.returns c).In_ok-place in
    let (opened, found) = here at in
    let granted : c.block_words.result ≡ found.1 - header_words = omega (arith, c.block_words.ensures, (stood at).size_is) in
    rw (opened, found.4, c.asked_in.ensures, (reads_asked (stood at)).1, granted) (record { answers = refl; leaves = refl })
