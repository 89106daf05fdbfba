use Rattle.std.proofs.Common.{◌≡◌, filter}
use Rattle.std.specs.Str.{is_utf8}
use Rattle.vte.proofs.osc.join_texts.Given as goal

-- the pieces so far are no texts
abbrev pub invariant-loop-piece : goal.invariant-loop-piece
invariant-loop-piece l = record {
  texts : filter is_utf8 l.pieces ≡ filter is_utf8 l.initial.pieces;
  text : l.text ≡ l.initial.text;
}
