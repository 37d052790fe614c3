-- The bytes that came are those of the words that they spell.
use Rattle.std.proofs.Common.{rules, ℕ, suc, List, [], ◌∷◌, ◌++◌, ◌≡◌, ◌*◌, ◌%◌, length, slice_index_or, Fits, w8, arith, length-take}
use Rattle.layout.specs.Bounds.{AllBelow}
use Rattle.spelling.proofs.Words.{bytes_of_words}
use Rattle.wire.proofs.read_words.Goals as goal

-- what stands at the front of a list of bytes are bytes
all_bytes : (bs rest : List ℕ) → ((i : ℕ) → Fits w8 (slice_index_or (bs ++ rest) i 0)) → AllBelow 256 bs
all_bytes [] rest fit = tt
all_bytes (b ∷ bs) rest fit = (omega (arith, fit 0), all_bytes bs rest (λ i. fit (suc i)))

pub returns : goal.returns
returns g c =
    let came = c.read_exact.new.buf in
    let whole : length came % 4 ≡ 0 = omega (arith, length-take (4 * length c.args.words.now) c.args.bytes.now) in
    let spelled = bytes_of_words came (all_bytes came _ c.type_inv.bytes) whole in
    rw (c.load.ensures, spelled) (search rules)
