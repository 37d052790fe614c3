-- `tally::count_free` meets its contract. The loop's invariant: a link names `chunk`, and from there on the links lead
-- through what is left of the free list.
-- The measure is how many free chunks are left.
use Rattle.std.proofs.Common.{ℕ, ◌-◌, max, ◌≡◌, refl, sym, ◌∙◌, arith}
use Rattle.std.specs.Ordering.{ord_max, nat_cmp}
use Rattle.std.proofs.lemmas.Bool.Decides.{nat_tests}
use lib.ListN.{get_or}
use Rattle.layout.specs.Numbers.{list_word, header_words}
use Rattle.layout.proofs.Round.{sound_chunks}
use Rattle.layout.proofs.Chain.{chain_ends}
use Rattle.passes.proofs.Tallying.{free_begins, free_named, free_goes_on, free_ends}
use Rattle.passes.proofs.tally.count_free.Goals as goal

-- the larger of two numbers
larger : (x y : ℕ) → ord_max nat_cmp x y ≡ max x y
larger x y = grind (arith, nat_tests)

pub bounds-a-1 : goal.bounds-a-1
bounds-a-1 c = let r = (sound_chunks _ c.requires).law in omega arith

pub loop-chunk-init : goal.loop-chunk-init
loop-chunk-init c = (list_word, _, refl, free_begins _ c.requires)

pub bounds-a-chunk : goal.bounds-a-chunk
bounds-a-chunk c = omega (arith, free_named _ c.loop-chunk.invariant c.loop-chunk-test.true)

pub bounds-a-chunk-in-loop-chunk : goal.bounds-a-chunk-in-loop-chunk
bounds-a-chunk-in-loop-chunk c = omega (arith, free_named _ c.loop-chunk.invariant c.loop-chunk-test.true)

pub loop-chunk-preserved : goal.loop-chunk-preserved
loop-chunk-preserved c =
    let (link, rest, g) = free_named _ c.loop-chunk.invariant c.loop-chunk-test.true in
    let l = c.loop-chunk in
    let size = get_or c.args.a.now l.chunk 0 in
    let most : c.max-largest.result ≡ max l.largest (size - header_words) = omega (arith, c.block_words.ensures, c.max-largest.ensures, larger l.largest c.block_words.result) in
    (_, rest, refl, free_goes_on _ _ _ _ link _ _ rest g _ _ refl most)

pub returns : goal.returns
returns c =
    let (link, list, n, g) = c.loop-chunk.invariant in
    let e = chain_ends _ link list g.leads (sym n ∙ c.loop-chunk-test.false) in
    free_ends _ _ _ _ link (rw e at g)
