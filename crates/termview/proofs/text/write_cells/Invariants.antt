use Rattle.std.proofs.Common.{Ok}
use Rattle.std.specs.Prelude.{encode_utf8_all}
use Rattle.vt100_cells.specs.Cells.{cell_at}
use Rattle.vt100_rows.specs.Text.{columns_text}
use Rattle.byte_streams.specs.Sent.{SendsText}
use Rattle.termview.proofs.text.write_cells.Given as goal

-- the columns so far are sent
abbrev pub invariant-loop-col : goal.invariant-loop-col
invariant-loop-col g l = SendsText g.T.ByteSink.takes l.fn.to (encode_utf8_all (columns_text (cell_at l.cells) 0 l.col))
    (Ok tt) l.to
