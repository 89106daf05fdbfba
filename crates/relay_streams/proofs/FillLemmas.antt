-- Reads one after another.
use Rattle.std.proofs.Common.{◌≡◌, ◌≢◌, ℕ, ◌+◌, ◌-◌, ◌<◌, ◌≤◌, List, [], ◌++◌, Ok, Err, Result, length, take, drop}
use Rattle.std.proofs.Common.{sym, ap, ◌∙◌, arith, append_assoc, append-nil, add_assoc, zero-add, length-drop}
use Rattle.std.proofs.lemmas.List.{length-take-le, take-append-le}
use Rattle.std.proofs.lemmas.Slice.{take-put_mid_below}
use Rattle.std.proofs.Math.Seq.{take-append-add, take-append_seam}
use borrow.Rule.Slice.PartMut.{put_mid, post_of}
use Rattle.std.specs.IoError.{error_kind}
use Rattle.std.specs.declared.io.Error.{Error}
use Rattle.std.specs.declared.io.ErrorKind.TheVariants.{Interrupted}
use Rattle.relay_streams.specs.declared.error.RelayError.{RelayError}
use Rattle.relay_streams.specs.Fill.{FillEnd, Fills, again, more, CountsTo, end_answer, max_reads, Filled}

-- A buffer whose part from len on was read into: its first bytes, those that the read gave, and how many there are.
pub take_put : (piece buf : List ℕ) (len k n : ℕ) → len ≤ length piece → n ≤ length buf
    → take (len + n) (put_mid len k piece buf) ≡ take len piece ++ take n buf
take_put piece buf len k n h fits =
    let whole = take len piece ++ (buf ++ post_of len k piece) in
    ap (λ m. take (m + n) whole) (sym (length-take-le len piece h))
    ∙ take-append-add (take len piece) (buf ++ post_of len k piece) n
    ∙ ap (λ zs. take len piece ++ zs) (take-append-le n buf (post_of len k piece) fits)

pub prefix_put : (piece buf : List ℕ) (len k : ℕ)
    → take (length (take len piece)) (put_mid len k piece buf) ≡ take len piece
prefix_put piece buf len k = take-append_seam (take len piece) (buf ++ post_of len k piece)

pub prefix_put-len : (piece buf : List ℕ) (len k : ℕ) → len ≤ length piece
    → take len (put_mid len k piece buf) ≡ take len piece
prefix_put-len piece buf len k h = take-put_mid_below len k piece buf len (omega arith) h

pub prefix_is : (piece : List ℕ) (len : ℕ) → len ≤ length piece
    → take (length (take len piece)) piece ≡ take len piece
prefix_is piece len h = ap (λ m. take m piece) (length-take-le len piece h)

-- the part of a buffer from a place on
pub window : (piece : List ℕ) (len : ℕ) → length (take (length piece - len) (drop len piece)) ≡ length piece - len
window piece len =
    length-take-le (length piece - len) (drop len piece) (omega (arith, length-drop len piece))

-- some reads were made: whatever the others do completes the whole
pub record GoesOn {S : Type 0} (step : S → ℕ → Result (List ℕ) Error → S → Type 0) (old : S) (room : ℕ) (now : S)
    (left made : ℕ) (got : List ℕ) : Type 0 where
  pub further : (n : ℕ) (bytes : List ℕ) (end : FillEnd) (t : S) → Fills step now left n bytes end t
      → Fills step old room (made + n) (got ++ bytes) end t

pub begun : {S : Type 0} {step : S → ℕ → Result (List ℕ) Error → S → Type 0} {old : S} {room : ℕ} (left : ℕ)
    → left ≡ room → GoesOn step old room old left 0 []
begun left is = record { further = λ n bytes end t f. rw zero-add (rw is at f) }

module _ {S : Type 0} {step : S → ℕ → Result (List ℕ) Error → S → Type 0} {old : S} {room : ℕ} {now : S} {left made : ℕ}
    {got : List ℕ} (g : GoesOn step old room now left made got) (new : S) where
  -- one more read, which was interrupted
  pub once_more : (e : Error) → 0 < left → step now left (Err e) new → error_kind e ≡ Interrupted
      → GoesOn step old room new left (made + 1) got
  once_more e some read is = record {
    further = λ n bytes end t f.
        rw (add_assoc made 1 n) (g.further (1 + n) bytes end t (again new e some read is f));
  }

  -- one that gave some bytes
  pub some_more : (left' : ℕ) (bytes : List ℕ) → bytes ≢ [] → length bytes ≤ left → left' ≡ left - length bytes
      → step now left (Ok bytes) new → GoesOn step old room new left' (made + 1) (got ++ bytes)
  some_more left' some none fits is read = record {
    further = λ n bytes end t f.
        rw (add_assoc made 1 n, append_assoc got some bytes)
        (g.further (1 + n) (some ++ bytes) end t (more new some none fits read (rw is at f)));
  }

  -- the reads have ended
  pub filled : {n : ℕ} {end : FillEnd} (before after : ℕ) (piece : List ℕ) (answer : Result ℕ RelayError)
      → Fills step now left n [] end new → take (length got) piece ≡ got → after ≡ before + (made + n)
      → (before ≤ max_reads → CountsTo end after) → (max_reads ≤ before → made + n ≡ 0)
      → answer ≡ end_answer end (length got)
      → Filled step old room before answer new piece after
  filled {n} {end} before after piece answer f prefix counted most spent is = record {
    made = made + n;
    bytes = got;
    end = end;
    fills = rw append-nil at (g.further n [] end new f);
    prefix = prefix;
    counted = counted;
    most = most;
    spent = spent;
    answered = is;
  }
