use Rattle.std.proofs.Common.{ℕ, ◌≡◌, ◌≤◌, sym, arith, length-take, take}
use Rattle.std.proofs.lemmas.List.{take-take}
use Rattle.vte_core.proofs.Prefixes.{reads_prefix, reads_byte}
use Rattle.vte_core.proofs.Ground.{printed-no_esc}
use Rattle.vte_core.proofs.Runs.{all_printed-take}
use Rattle.vte_core.proofs.text.Unfinished.read_mixed.Goals as goal

pub slice_bounds-read_prefix-end : goal.slice_bounds-read_prefix-end
slice_bounds-read_prefix-end g c = omega (arith, length-take {A = ℕ}, c.text_len-len.ensures.within)

pub slice_bounds-read_printed-end : goal.slice_bounds-read_printed-end
slice_bounds-read_printed-end g c = omega (arith, length-take {A = ℕ}, c.text_len-len.ensures.within)

pub returns-then-len-eq0 : goal.returns-then-len-eq0
returns-then-len-eq0 g c = reads_byte c.args.bytes.now c.requires.some c.requires.text c.read_byte.ensures.reported
    c.read_byte.ensures.rest

pub returns-then-len-le-LINE_LEN : goal.returns-then-len-le-LINE_LEN
returns-then-len-le-LINE_LEN g c =
    let bs = c.args.bytes.now in
    let n = c.text_len-len.result in
    let k = c.read_prefix.result in
    let within : k ≤ n = omega (arith, length-take n bs, c.text_len-len.ensures.within, c.read_prefix.ensures.within) in
    let prefix : take k (take n bs) ≡ take k bs = take-take k n bs within in
    let no_esc = printed-no_esc (take k (take n bs))
    (all_printed-take k (take n bs) c.text_len-len.ensures.printed) in
    reads_prefix bs k c.read_prefix.ensures.some (omega (arith, within, c.text_len-len.ensures.within))
    (rw (sym prefix) no_esc)
    (rw (sym prefix) c.read_prefix.ensures.reported) (rw (sym prefix) c.read_prefix.ensures.rest)

pub returns : goal.returns
returns g c =
    let prefix = take c.text_len-len.result c.args.bytes.now in
    reads_prefix c.args.bytes.now c.text_len-len.result (omega arith) c.text_len-len.ensures.within
    (printed-no_esc prefix c.text_len-len.ensures.printed) c.read_printed.ensures.reported c.read_printed.ensures.rest
