-- What a call of the code writes, if a writer gives the forms.
use Rattle.std.specs.Prelude.{ℕ, ◌≡◌, ◌+◌, ◌<◌, ◌≤◌, Bool, true, false, List, ◌++◌, length}
use Rattle.std.specs.Prelude.{String, string_bytes, string_len, string_capacity}
use Rattle.vt100_forms.specs.Form.{bytes_of}
use Rattle.row_drawing.specs.declared.pen.Pen.{Pen}
use Rattle.row_drawing.specs.Writer.{Writer}

-- `now` is `old` followed by a prefix of `text`
abbrev pub IsBegun : List ℕ → List ℕ → List ℕ → Type 0
IsBegun old text now = (prefix : List ℕ) × (rest : List ℕ) × (text ≡ prefix ++ rest) × (now ≡ old ++ prefix)

-- the call takes the pen p to q, and appends the bytes of the writer's forms to s, which gives t
pub record Wrote (f : Writer) (p : Pen) (s : List ℕ) (q : Pen) (t : List ℕ) : Type 0 where
  pub pen_is : (f p).pen ≡ q
  pub text_is : t ≡ s ++ bytes_of (f p).forms

module _ {Z : Type 0} where
  -- the same for a string, whose capacity doesn't shrink
  pub record Appended (f : Writer) (p : Pen) (s : String Z) (q : Pen) (t : String Z) : Type 0 where
    pub wrote : Wrote f p (string_bytes s) q (string_bytes t)
    pub capacity : string_capacity s ≤ string_capacity t

  -- The forms don't fit in the string's capacity, and an allocation fails. Some of their bytes may have been appended.
  pub record Refused (f : Writer) (p : Pen) (s t : String Z) : Type 0 where
    pub begun : IsBegun (string_bytes s) (bytes_of (f p).forms) (string_bytes t)
    pub full : string_capacity s < string_len s + length (bytes_of (f p).forms)

  -- the forms are appended, or an allocation fails
  abbrev pub Writes : Writer → Pen → String Z → Bool → Pen → String Z → Type 0
  Writes f p s true q t = Appended f p s q t
  Writes f p s false q t = Refused f p s t
