-- Functions of a position that are changed at one place or over a range.
use Rattle.std.specs.Prelude.{ℕ, ◌==◌, ◌&&◌, nat_le, nat_lt, if◌then◌else◌}

-- v at i, and f elsewhere
unfoldable pub update : {A : Type 0} → (ℕ → A) → ℕ → A → ℕ → A
update f i v k = if k == i then v else f k

-- g from a up to b, and f elsewhere
unfoldable pub splice : {A : Type 0} → (ℕ → A) → ℕ → ℕ → (ℕ → A) → ℕ → A
splice f a b g k = if nat_le a k && nat_lt k b then g k else f k
