use Rattle.std.proofs.Common.{◌≡◌, ◌<◌, ◌^◌, true, take}
use Rattle.vte_types.specs.Hex.{are_hex, hex_value}
use Rattle.vte_types.proofs.hex.number.Given as goal

abbrev pub invariant-loop-digit : goal.invariant-loop-digit
invariant-loop-digit l = record {
  number : l.number ≡ hex_value (take l.digit-index l.digits);
  digits : are_hex (take l.digit-index l.digits) ≡ true;
  small : l.number < 16 ^ l.digit-index;
}
