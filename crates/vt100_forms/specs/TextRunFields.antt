-- The fields of `TextRun`, and what a contract sees of them.
use Rattle.std.specs.Prelude.{ℕ, ◌≡◌, ◌≤◌, List, length, take, IsUtf8}
use Rattle.vt100_forms.specs.declared.text_run.TextRun.TheInside.{Inside}

abbrev pub bytes_of : Inside → List ℕ
bytes_of r = take r.len r.bytes

-- the bytes past the length are left over from earlier texts
pub record IsRun (r : Inside) : Type 0 where
  pub fits : r.len ≤ 192
  pub whole : length r.bytes ≡ 192
  pub utf8 : ∥ IsUtf8 (take r.len r.bytes) ∥₁
