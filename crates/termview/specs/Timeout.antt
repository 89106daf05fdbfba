-- A timeout that is pending from setting to clearing.
use Rattle.std.specs.Prelude.{◌≡◌, Bool, true, false}
use Rattle.vte.specs.Timeout.{Ticking}
use Rattle.termview.specs.declared.until_cleared.UntilCleared.{UntilCleared}

abbrev pub pending_of : UntilCleared → Bool
pending_of t = t.pending

abbrev pub until_cleared : Ticking UntilCleared
until_cleared = record {
  sets = λ _ _ t. pending_of t ≡ true;
  clears = λ _ t. pending_of t ≡ false;
  answers = λ t b. b ≡ pending_of t;
}
